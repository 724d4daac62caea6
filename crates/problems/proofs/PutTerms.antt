-- Heights and free variables of terms that are put for others.
use Rattle.std.proofs.Common.{◌≡◌, ℕ, zero, suc, ◌+◌, ◌-◌, ◌≤◌, ◌<◌, ◌==◌, max, nat_lt, Bool, true, false, ◌||◌, not, cond, List, length, refl, ap₂, IsTrue, arith, rules}
use Rattle.std.proofs.lemmas.Bool.Decides.{nat_tests}
use Rattle.theory.specs.Terms.{Term, Var, Sort, Pi, Lam, App, Let, Const, Fam, Con, Elim, AxiomK, height, free_of}
use Rattle.theory.specs.Telescopes.{Telescope}
use Rattle.tele_eq.specs.Dependences.{has_variable}
use Rattle.tele_eq.specs.Environments.{put_under, put}
use Rattle.tele_eq.specs.Levels.{has_level}
use Rattle.unification.specs.Occurrences.{dependants, lacks, order_without}
use Rattle.unification.specs.Solving.{reordered}
use Rattle.unification.proofs.SolvedContexts.{length-order}

height-variable : (b c : Bool) (x y z : Term) → height x ≡ 1 → height y ≡ 1 → height z ≡ 1 → height (cond b x (cond c y z)) ≡ 1
height-variable true c x y z ex ey ez = ex
height-variable false true x y z ex ey ez = ey
height-variable false false x y z ex ey ez = ez

-- A term is as high as before where variables stand for its variables.
height-put_under : (order : List ℕ) (size depth under : ℕ) (t : Term) → height (put_under (reordered order) size depth under t) ≡ height t
height-put_under order size depth under (Var n) =
    height-variable (nat_lt n under) (nat_lt n (size + under)) (Var n) (reordered order (depth + under) (size + under - (n + 1))) (Var (n - size + depth)) refl refl refl
height-put_under order size depth under (Sort i) = refl
height-put_under order size depth under (Pi a b) =
    ap₂ (λ h k. 1 + max h k) (height-put_under order size depth under a) (height-put_under order size depth (under + 1) b)
height-put_under order size depth under (Lam a b) =
    ap₂ (λ h k. 1 + max h k) (height-put_under order size depth under a) (height-put_under order size depth (under + 1) b)
height-put_under order size depth under (App f a) =
    ap₂ (λ h k. 1 + max h k) (height-put_under order size depth under f) (height-put_under order size depth under a)
height-put_under order size depth under (Let a t b) =
    ap₂ (λ h k. 1 + max h k) (height-put_under order size depth under a)
    (ap₂ max (height-put_under order size depth under t) (height-put_under order size depth (under + 1) b))
height-put_under order size depth under (Const c) = refl
height-put_under order size depth under (Fam f) = refl
height-put_under order size depth under (Con f c) = refl
height-put_under order size depth under (Elim f m) = refl
height-put_under order size depth under (AxiomK i m) = refl

pub height-reordered : (order : List ℕ) (size depth : ℕ) (t : Term) → height (put (reordered order) size depth t) ≡ height t
height-reordered order size depth t = height-put_under order size depth 0 t

-- ---- free variables

free-tests : (size depth under n : ℕ) (x : Term) → n < size + under → free_of x ≤ depth + under
    → (b c : Bool) → nat_lt n under ≡ b → nat_lt n (size + under) ≡ c
    → free_of (cond b (Var n) (cond c x (Var (n - size + depth)))) ≤ depth + under
free-tests size depth under n x lt h true c e k = grind (arith, nat_tests)
free-tests size depth under n x lt h false true e k = h
free-tests size depth under n x lt h false false e k = absurd (grind (arith, nat_tests))

free-own : (size depth under n : ℕ) (x : Term) → n < under
    → (b c : Bool) → nat_lt n under ≡ b
    → free_of (cond b (Var n) (cond c x (Var (n - size + depth)))) ≤ depth + under
free-own size depth under n x lt true c e = omega arith
free-own size depth under n x lt false c e = absurd (grind (arith, nat_tests))

-- In a term over `free` of the variables no variable is free but those that the depth has, where there are some.
pub free-put_under : (order : List ℕ) (free size depth under : ℕ) (t : Term) → free ≤ size → (depth ≡ 0 → free ≡ 0) → free_of t ≤ free + under
    → free_of (put_under (reordered order) size depth under t) ≤ depth + under
free-put_under order free size zero under (Var n) le none h =
    let e = none refl in
    free-own size 0 under n (reordered order (0 + under) (size + under - (n + 1))) (omega arith) (nat_lt n under) (nat_lt n (size + under)) refl
free-put_under order free size (suc depth) under (Var n) le none h =
    free-tests size (suc depth) under n (reordered order (suc depth + under) (size + under - (n + 1))) (omega arith) (omega arith)
    (nat_lt n under) (nat_lt n (size + under)) refl refl
free-put_under order free size depth under (Sort i) le none h = omega arith
free-put_under order free size depth under (Pi a b) le none h =
    let l = free-put_under order free size depth under a le none (omega arith) in
    let r = free-put_under order free size depth (under + 1) b le none (omega arith) in
    omega arith
free-put_under order free size depth under (Lam a b) le none h =
    let l = free-put_under order free size depth under a le none (omega arith) in
    let r = free-put_under order free size depth (under + 1) b le none (omega arith) in
    omega arith
free-put_under order free size depth under (App f a) le none h =
    let l = free-put_under order free size depth under f le none (omega arith) in
    let r = free-put_under order free size depth under a le none (omega arith) in
    omega arith
free-put_under order free size depth under (Let a t b) le none h =
    let l = free-put_under order free size depth under a le none (omega arith) in
    let m = free-put_under order free size depth under t le none (omega arith) in
    let r = free-put_under order free size depth (under + 1) b le none (omega arith) in
    omega arith
free-put_under order free size depth under (Const c) le none h = omega arith
free-put_under order free size depth under (Fam f) le none h = omega arith
free-put_under order free size depth under (Con f c) le none h = omega arith
free-put_under order free size depth under (Elim f m) le none h = omega arith
free-put_under order free size depth under (AxiomK i m) le none h = omega arith

or-none : (b c : Bool) → (b || c) ≡ false → (b ≡ false) × (c ≡ false)
or-none false c e = (refl, e)
or-none true c e = absurd (cc)

free-not : (n v : ℕ) → (v == n) ≡ false → v + 1 ≤ n + 1 → v + 1 ≤ n
free-not n v e h = grind (arith, nat_tests)

-- a term over n + 1 variables without the outermost one
pub free-without : (n : ℕ) (t : Term) → has_variable n t ≡ false → free_of t ≤ n + 1 → free_of t ≤ n
free-without n (Var v) e h = free-not n v e h
free-without n (Sort i) e h = omega arith
free-without n (Pi a b) e h =
    let parts = or-none (has_variable n a) (has_variable (n + 1) b) e in
    let l = free-without n a parts.0 (omega arith) in
    let r = free-without (n + 1) b parts.1 (omega arith) in
    omega arith
free-without n (Lam a b) e h =
    let parts = or-none (has_variable n a) (has_variable (n + 1) b) e in
    let l = free-without n a parts.0 (omega arith) in
    let r = free-without (n + 1) b parts.1 (omega arith) in
    omega arith
free-without n (App f a) e h =
    let parts = or-none (has_variable n f) (has_variable n a) e in
    let l = free-without n f parts.0 (omega arith) in
    let r = free-without n a parts.1 (omega arith) in
    omega arith
free-without n (Let a t b) e h =
    let parts = or-none (has_variable n a || has_variable n t) (has_variable (n + 1) b) e in
    let more = or-none (has_variable n a) (has_variable n t) parts.0 in
    let l = free-without n a more.0 (omega arith) in
    let m = free-without n t more.1 (omega arith) in
    let r = free-without (n + 1) b parts.1 (omega arith) in
    omega arith
free-without n (Const c) e h = omega arith
free-without n (Fam f) e h = omega arith
free-without n (Con f c) e h = omega arith
free-without n (Elim f m) e h = omega arith
free-without n (AxiomK i m) e h = omega arith

lacks-none : (levels : List ℕ) (n p : ℕ) (t : Term) → n ≤ 1 → p < n → IsTrue (not (has_variable (n - (p + 1)) t || has_level n levels t)) → free_of t ≤ n → free_of t ≤ 0
lacks-none levels zero p t le lt h f = absurd (omega arith)
lacks-none levels (suc zero) zero t le lt h f = go (has_variable 0 t) refl h
  where
    go : (b : Bool) → has_variable 0 t ≡ b → IsTrue (not (b || has_level 1 levels t)) → free_of t ≤ 0
    go false e h = free-without 0 t e f
    go true e h = absurd (search rules)
lacks-none levels (suc (suc n)) p t le lt h f = absurd (omega arith)
lacks-none levels (suc zero) (suc p) t le lt h f = absurd (omega arith)

-- A term without the variable that is solved and its dependants is a term of the other variables.
pub free-reordered : (context : Telescope) (p : ℕ) (t : Term) → p < length context → IsTrue (lacks context p t) → free_of t ≤ length context
    → free_of (put (reordered (order_without context p)) (length context) (length (order_without context p)) t) ≤ length (order_without context p)
free-reordered context p t lt h f = go (length (order_without context p)) refl
  where
    go : (m : ℕ) → length (order_without context p) ≡ m → free_of (put (reordered (order_without context p)) (length context) m t) ≤ m
    go zero e =
        let closed = lacks-none (dependants context p) (length context) p t (omega (arith, length-order context p lt)) lt h f in
        let k = free-put_under (order_without context p) 0 (length context) 0 0 t (omega arith) (λ _. refl) (omega arith) in
        omega arith
    go (suc m) e =
        let k = free-put_under (order_without context p) (length context) (length context) (suc m) 0 t (omega arith) (λ z. absurd (omega arith)) (omega arith) in
        omega arith

-- a term without variable p is over the context's other variables once it is put into the order that the code has
pub free-in_order : (context : Telescope) (p n : ℕ) (order : List ℕ) (t : Term) → order ≡ order_without context p → n ≡ length context
    → p < length context → IsTrue (lacks context p t) → free_of t ≤ n → free_of (put (reordered order) n (length order) t) ≤ length order
free-in_order context p n order t eo en lt h f = rw (eo, en) (free-reordered context p t lt h (omega arith))
