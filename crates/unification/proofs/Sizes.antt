-- Sizes of terms and of the sides of equations.
use Rattle.std.proofs.Common.{◌≡◌, ℕ, zero, suc, ◌+◌, ◌-◌, ◌<◌, ◌≤◌, nat_lt, Bool, true, false, cond, Some, List, [], ◌∷◌, ◌++◌, length, drop, slice_get, refl, ap, arith}
use Rattle.theory.specs.Terms.{Term}
use Rattle.theory.specs.Terms.Term.{Var, Sort, Pi, Lam, App, Let}
use Rattle.theory.specs.Telescopes.{Telescope}
use Rattle.theory.specs.Spines.{spine_of}
use Rattle.theory.specs.Signatures.{Signature}
use Rattle.tele_eq.specs.Items.{Item}
use Rattle.tele_eq.specs.Environments.{Environment, put_variable, put_under, put}
use Rattle.unification.specs.States.{Equation, equations_at}
use Rattle.unification.specs.Moving.{moved}
use Rattle.unification.specs.Runs.{size_of, size_of_sides}
use Rattle.unification.specs.Built.{Built, built_of}
use Rattle.unification.proofs.Constructors.{found}

-- the size of a list of terms
abbrev pub size_of_all : List Term → ℕ
size_of_all [] = 0
size_of_all (t ∷ terms) = size_of t + size_of_all terms

size-append : (us vs : List Term) → size_of_all (us ++ vs) ≡ size_of_all us + size_of_all vs
size-append [] vs = omega arith
size-append (u ∷ us) vs = let h = size-append us vs in omega arith

pub size-drop : (n : ℕ) (us : List Term) → size_of_all (drop n us) ≤ size_of_all us
size-drop zero us = omega arith
size-drop (suc n) [] = omega arith
size-drop (suc n) (u ∷ us) = let h = size-drop n us in omega arith

-- the arguments of a term are smaller together than the term
pub size-spine : (t : Term) → size_of_all (spine_of t) < size_of t
size-spine (App f a) = let h = size-spine f in let e = size-append (spine_of f) (a ∷ []) in omega arith
size-spine (Pi a b) = omega arith
size-spine (Lam a b) = omega arith
size-spine (Let a t b) = omega arith
size-spine _ = omega arith

pub size-positive : (t : Term) → 0 < size_of t
size-positive t = let h = size-spine t in omega arith

pub sides-append : (es fs : List Equation) → size_of_sides (es ++ fs) ≡ size_of_sides es + size_of_sides fs
sides-append [] fs = omega arith
sides-append (e ∷ es) fs = let h = sides-append es fs in omega arith

-- equations have no more than the terms that are given
pub sides-at : (X : List Item) (types : Telescope) (us vs : List Term) → size_of_sides (equations_at X types us vs) ≤ size_of_all us + size_of_all vs
sides-at (x ∷ X) (a ∷ types) (u ∷ us) (v ∷ vs) = let h = sides-at X types us vs in omega arith
sides-at _ _ _ _ = omega arith

-- equations that move without a change of their sides keep their size
pub sides-moved : (items types : Environment) (side : Term → Term) (size depth : ℕ) (es : List Equation) → ((t : Term) → size_of (side t) ≡ size_of t)
    → size_of_sides (moved items types side size depth es) ≡ size_of_sides es
sides-moved items types side size depth [] h = refl
sides-moved items types side size depth (e ∷ es) h =
    let l = h e.left in
    let r = h e.right in
    let k = sides-moved items types side (size + 1) (depth + 1) es h in
    omega arith

-- an equation has no part in those after it
pub sides-behind : (es : List Equation) (k : ℕ) (e : Equation) → slice_get es k ≡ Some e
    → size_of e.left + size_of e.right + size_of_sides (drop (suc k) es) ≤ size_of_sides es
sides-behind [] k e at = absurd (cc)
sides-behind (x ∷ es) zero e at = let h : x ≡ e = cc in rw h (omega arith)
sides-behind (x ∷ es) (suc k) e at = let h = sides-behind es k e at in omega arith

put-variable : (s : Environment) (under n : ℕ) → size_of (put_variable s 0 0 under n) ≡ 1
put-variable s under n = by_case (nat_lt n under) (nat_lt n (0 + under)) (ap (nat_lt n) (omega arith)) (s (0 + under) (0 + under - (n + 1))) (n - 0 + 0)
  where
    by_case : (b c : Bool) → c ≡ b → (x : Term) (m : ℕ) → size_of (cond b (Var n) (cond c x (Var m))) ≡ 1
    by_case true c e x m = refl
    by_case false true e x m = absurd cc
    by_case false false e x m = refl

-- nothing is put into a term over no variables
put-nothing : (s : Environment) (under : ℕ) (t : Term) → size_of (put_under s 0 0 under t) ≡ size_of t
put-nothing s under (Var n) = put-variable s under n
put-nothing s under (Sort i) = refl
put-nothing s under (Pi a b) = let h = put-nothing s under a in let k = put-nothing s (under + 1) b in omega arith
put-nothing s under (Lam a b) = let h = put-nothing s under a in let k = put-nothing s (under + 1) b in omega arith
put-nothing s under (App f a) = let h = put-nothing s under f in let k = put-nothing s under a in omega arith
put-nothing s under (Let a t b) =
    let h = put-nothing s under a in let k = put-nothing s under t in let l = put-nothing s (under + 1) b in omega arith
put-nothing s under _ = refl

pub size-put : (s : Environment) (t : Term) → size_of (put s 0 0 t) ≡ size_of t
size-put s t = put-nothing s 0 t

-- the arguments of a constructor are smaller together than the term
pub built-smaller : (S : Signature) (t : Term) (b : Built) → built_of S t ≡ Some b → size_of_all b.arguments < size_of t
built-smaller S t b e =
    let is = found S t b e in
    let same : size_of_all b.arguments ≡ size_of_all (drop (length b.family.parameters) (spine_of t)) = ap size_of_all is.arguments in
    let less = size-drop (length b.family.parameters) (spine_of t) in
    let whole = size-spine t in
    omega arith
