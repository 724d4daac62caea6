-- Terms whose constants are all of one kind: what is made of such terms is such a term.
use Rattle.std.proofs.Common.{ℕ, zero, suc, ◌+◌, nat_le, Bool, true, false, cond, if◌then◌else◌, List, [], ◌∷◌, ◌++◌, map, take, drop, get_or, All}
use Rattle.std.proofs.lemmas.List.Elements.{All-head, All-tail}
use Rattle.theory.specs.Terms.{Term, Var, Sort, Pi, Lam, App, Let, Const, Fam, Con, Elim, AxiomK, lift, height}
use Rattle.theory.specs.Substitutions.{ren, up, inst, ups, extend, fill}
use Rattle.theory.specs.Telescopes.{Telescope, products, functions, applied, variables}
use Rattle.theory.specs.Spines.{spine_of}
use Rattle.theory.specs.Eliminators.{no_variable}
use Rattle.core_terms.specs.Levels.{place_under, place, bind, run}
use Rattle.core_terms.specs.declared.levels.Binder.{Binder}
use Rattle.core_terms.specs.declared.levels.Binder.TheVariants.{Product, Function}

-- ---- lists

-- P holds of each element
pub data Each {X : Type 0} (P : X → Type 0) : List X → Type 0 where
  none : Each P []
  more : {x : X} {xs : List X} → P x → Each P xs → Each P (x ∷ xs)

pub each-append : {X : Type 0} {P : X → Type 0} (xs ys : List X) → Each P xs → Each P ys → Each P (xs ++ ys)
each-append [] ys Each.none k = k
each-append (x ∷ xs) ys (Each.more p h) k = Each.more p (each-append xs ys h k)

pub each-left : {X : Type 0} {P : X → Type 0} (xs ys : List X) → Each P (xs ++ ys) → Each P xs
each-left [] ys h = Each.none
each-left (x ∷ xs) ys (Each.more p h) = Each.more p (each-left xs ys h)

pub each-right : {X : Type 0} {P : X → Type 0} (xs ys : List X) → Each P (xs ++ ys) → Each P ys
each-right [] ys h = h
each-right (x ∷ xs) ys (Each.more p h) = each-right xs ys h

pub each-map : {X Y : Type 0} {P : X → Type 0} {R : Y → Type 0} (f : X → Y) (xs : List X) → ((x : X) → P x → R (f x)) → Each P xs → Each R (map f xs)
each-map f [] each Each.none = Each.none
each-map f (x ∷ xs) each (Each.more p h) = Each.more (each x p) (each-map f xs each h)

pub each-weaker : {X : Type 0} {P R : X → Type 0} (xs : List X) → ((x : X) → P x → R x) → Each P xs → Each R xs
each-weaker [] each Each.none = Each.none
each-weaker (x ∷ xs) each (Each.more p h) = Each.more (each x p) (each-weaker xs each h)

pub each-take : {X : Type 0} {P : X → Type 0} (n : ℕ) (xs : List X) → Each P xs → Each P (take n xs)
each-take zero xs h = Each.none
each-take (suc n) [] h = Each.none
each-take (suc n) (x ∷ xs) (Each.more p h) = Each.more p (each-take n xs h)

pub each-drop : {X : Type 0} {P : X → Type 0} (n : ℕ) (xs : List X) → Each P xs → Each P (drop n xs)
each-drop zero xs h = h
each-drop (suc n) [] h = Each.none
each-drop (suc n) (x ∷ xs) (Each.more p h) = each-drop n xs h

pub each-get : {X : Type 0} {P : X → Type 0} (xs : List X) (n : ℕ) (d : X) → P d → Each P xs → P (get_or xs n d)
each-get [] n d p h = p
each-get (x ∷ xs) zero d p (Each.more q h) = q
each-get (x ∷ xs) (suc n) d p (Each.more q h) = each-get xs n d p h

pub each-all : {X : Type 0} (P : X → Type 0) (xs : List X) → All P xs → Each P xs
each-all P [] h = Each.none
each-all P (x ∷ xs) h = Each.more (All-head P x xs h) (each-all P xs (All-tail P x xs h))

-- ---- terms

-- each constant of the term has Q
pub data HasOnly (Q : ℕ → Type 0) : Term → Type 0 where
  of_var : {n : ℕ} → HasOnly Q (Var n)
  of_sort : {i : ℕ} → HasOnly Q (Sort i)
  of_pi : {a b : Term} → HasOnly Q a → HasOnly Q b → HasOnly Q (Pi a b)
  of_lam : {a b : Term} → HasOnly Q a → HasOnly Q b → HasOnly Q (Lam a b)
  of_app : {f a : Term} → HasOnly Q f → HasOnly Q a → HasOnly Q (App f a)
  of_let : {a t b : Term} → HasOnly Q a → HasOnly Q t → HasOnly Q b → HasOnly Q (Let a t b)
  of_const : {c : ℕ} → Q c → HasOnly Q (Const c)
  of_fam : {n : ℕ} → HasOnly Q (Fam n)
  of_con : {n c : ℕ} → HasOnly Q (Con n c)
  of_elim : {n m : ℕ} → HasOnly Q (Elim n m)
  of_axiom : {i m : ℕ} → HasOnly Q (AxiomK i m)

pub only-weaker : {Q R : ℕ → Type 0} (t : Term) → ((c : ℕ) → Q c → R c) → HasOnly Q t → HasOnly R t
only-weaker (Pi a b) each (HasOnly.of_pi h k) = HasOnly.of_pi (only-weaker a each h) (only-weaker b each k)
only-weaker (Lam a b) each (HasOnly.of_lam h k) = HasOnly.of_lam (only-weaker a each h) (only-weaker b each k)
only-weaker (App f a) each (HasOnly.of_app h k) = HasOnly.of_app (only-weaker f each h) (only-weaker a each k)
only-weaker (Let a t b) each (HasOnly.of_let h k l) = HasOnly.of_let (only-weaker a each h) (only-weaker t each k) (only-weaker b each l)
only-weaker (Const c) each (HasOnly.of_const q) = HasOnly.of_const (each c q)
only-weaker (Var n) each h = HasOnly.of_var
only-weaker (Sort i) each h = HasOnly.of_sort
only-weaker (Fam n) each h = HasOnly.of_fam
only-weaker (Con n c) each h = HasOnly.of_con
only-weaker (Elim n m) each h = HasOnly.of_elim
only-weaker (AxiomK i m) each h = HasOnly.of_axiom

pub only-chosen : {Q : ℕ → Type 0} (b : Bool) (t u : Term) → HasOnly Q t → HasOnly Q u → HasOnly Q (cond b t u)
only-chosen true t u h k = h
only-chosen false t u h k = k

pub only-if : {Q : ℕ → Type 0} (b : Bool) (t u : Term) → HasOnly Q t → HasOnly Q u → HasOnly Q (if b then t else u)
only-if true t u h k = h
only-if false t u h k = k

-- ---- renaming and instantiation

pub only-ren : {Q : ℕ → Type 0} (r : ℕ → ℕ) (t : Term) → HasOnly Q t → HasOnly Q (ren r t)
only-ren r (Pi a b) (HasOnly.of_pi h k) = HasOnly.of_pi (only-ren r a h) (only-ren (up r) b k)
only-ren r (Lam a b) (HasOnly.of_lam h k) = HasOnly.of_lam (only-ren r a h) (only-ren (up r) b k)
only-ren r (App f a) (HasOnly.of_app h k) = HasOnly.of_app (only-ren r f h) (only-ren r a k)
only-ren r (Let a t b) (HasOnly.of_let h k l) = HasOnly.of_let (only-ren r a h) (only-ren r t k) (only-ren (up r) b l)
only-ren r (Const c) (HasOnly.of_const q) = HasOnly.of_const q
only-ren r (Var n) h = HasOnly.of_var
only-ren r (Sort i) h = HasOnly.of_sort
only-ren r (Fam n) h = HasOnly.of_fam
only-ren r (Con n c) h = HasOnly.of_con
only-ren r (Elim n m) h = HasOnly.of_elim
only-ren r (AxiomK i m) h = HasOnly.of_axiom

pub only-lift : {Q : ℕ → Type 0} (t : Term) (by from : ℕ) → HasOnly Q t → HasOnly Q (lift t by from)
only-lift (Pi a b) by from (HasOnly.of_pi h k) = HasOnly.of_pi (only-lift a by from h) (only-lift b by (from + 1) k)
only-lift (Lam a b) by from (HasOnly.of_lam h k) = HasOnly.of_lam (only-lift a by from h) (only-lift b by (from + 1) k)
only-lift (App f a) by from (HasOnly.of_app h k) = HasOnly.of_app (only-lift f by from h) (only-lift a by from k)
only-lift (Let a t b) by from (HasOnly.of_let h k l) =
    HasOnly.of_let (only-lift a by from h) (only-lift t by from k) (only-lift b by (from + 1) l)
only-lift (Const c) by from (HasOnly.of_const q) = HasOnly.of_const q
only-lift (Var n) by from h = HasOnly.of_var
only-lift (Sort i) by from h = HasOnly.of_sort
only-lift (Fam n) by from h = HasOnly.of_fam
only-lift (Con n c) by from h = HasOnly.of_con
only-lift (Elim n m) by from h = HasOnly.of_elim
only-lift (AxiomK i m) by from h = HasOnly.of_axiom

-- the term that is put for each variable has constants of one kind
abbrev pub PutsOnly : (ℕ → Type 0) → (ℕ → Term) → Type 0
PutsOnly Q s = (v : ℕ) → HasOnly Q (s v)

pub only-under : {Q : ℕ → Type 0} (s : ℕ → Term) → PutsOnly Q s → PutsOnly Q (ups s)
only-under s each zero = HasOnly.of_var
only-under s each (suc v) = only-ren suc (s v) (each v)

pub only-inst : {Q : ℕ → Type 0} (s : ℕ → Term) (t : Term) → PutsOnly Q s → HasOnly Q t → HasOnly Q (inst s t)
only-inst s (Pi a b) each (HasOnly.of_pi h k) = HasOnly.of_pi (only-inst s a each h) (only-inst (ups s) b (only-under s each) k)
only-inst s (Lam a b) each (HasOnly.of_lam h k) = HasOnly.of_lam (only-inst s a each h) (only-inst (ups s) b (only-under s each) k)
only-inst s (App f a) each (HasOnly.of_app h k) = HasOnly.of_app (only-inst s f each h) (only-inst s a each k)
only-inst s (Let a t b) each (HasOnly.of_let h k l) =
    HasOnly.of_let (only-inst s a each h) (only-inst s t each k) (only-inst (ups s) b (only-under s each) l)
only-inst s (Const c) each (HasOnly.of_const q) = HasOnly.of_const q
only-inst s (Var n) each h = each n
only-inst s (Sort i) each h = HasOnly.of_sort
only-inst s (Fam n) each h = HasOnly.of_fam
only-inst s (Con n c) each h = HasOnly.of_con
only-inst s (Elim n m) each h = HasOnly.of_elim
only-inst s (AxiomK i m) each h = HasOnly.of_axiom

pub only-extend : {Q : ℕ → Type 0} (s : ℕ → Term) (u : Term) → PutsOnly Q s → HasOnly Q u → PutsOnly Q (extend s u)
only-extend s u each h zero = h
only-extend s u each h (suc v) = each v

pub only-fill : {Q : ℕ → Type 0} (s : ℕ → Term) (us : List Term) → PutsOnly Q s → Each (HasOnly Q) us → PutsOnly Q (fill s us)
only-fill s [] each Each.none v = each v
only-fill s (u ∷ us) each (Each.more h all) v = only-fill (extend s u) us (only-extend s u each h) all v

pub only-nothing : {Q : ℕ → Type 0} → PutsOnly Q no_variable
only-nothing v = HasOnly.of_sort

pub only-filled : {Q : ℕ → Type 0} (us : List Term) → Each (HasOnly Q) us → PutsOnly Q (fill no_variable us)
only-filled us all = only-fill no_variable us only-nothing all

-- ---- spines and binders

pub only-applied : {Q : ℕ → Type 0} (head : Term) (us : List Term) → HasOnly Q head → Each (HasOnly Q) us → HasOnly Q (applied head us)
only-applied head [] h Each.none = h
only-applied head (u ∷ us) h (Each.more k all) = only-applied (App head u) us (HasOnly.of_app h k) all

pub only-spine : {Q : ℕ → Type 0} (t : Term) → HasOnly Q t → Each (HasOnly Q) (spine_of t)
only-spine (App f a) (HasOnly.of_app h k) = each-append (spine_of f) (a ∷ []) (only-spine f h) (Each.more k Each.none)
only-spine (Var n) h = Each.none
only-spine (Sort i) h = Each.none
only-spine (Pi a b) h = Each.none
only-spine (Lam a b) h = Each.none
only-spine (Let a t b) h = Each.none
only-spine (Const c) h = Each.none
only-spine (Fam n) h = Each.none
only-spine (Con n c) h = Each.none
only-spine (Elim n m) h = Each.none
only-spine (AxiomK i m) h = Each.none

pub only-products : {Q : ℕ → Type 0} (tele : Telescope) (end : Term) → Each (HasOnly Q) tele → HasOnly Q end → HasOnly Q (products tele end)
only-products [] end Each.none k = k
only-products (a ∷ tele) end (Each.more h all) k = HasOnly.of_pi h (only-products tele end all k)

pub only-functions : {Q : ℕ → Type 0} (tele : Telescope) (end : Term) → Each (HasOnly Q) tele → HasOnly Q end → HasOnly Q (functions tele end)
only-functions [] end Each.none k = k
only-functions (a ∷ tele) end (Each.more h all) k = HasOnly.of_lam h (only-functions tele end all k)

pub only-bind : {Q : ℕ → Type 0} (binder : Binder) (a b : Term) → HasOnly Q a → HasOnly Q b → HasOnly Q (bind binder a b)
only-bind Product a b h k = HasOnly.of_pi h k
only-bind Function a b h k = HasOnly.of_lam h k

pub only-variables : {Q : ℕ → Type 0} (k : ℕ) → Each (HasOnly Q) (variables k)
only-variables zero = Each.none
only-variables (suc k) = Each.more HasOnly.of_var (only-variables k)

pub only-run : {Q : ℕ → Type 0} (depth start count : ℕ) → Each (HasOnly Q) (run depth start count)
only-run depth start zero = Each.none
only-run depth start (suc count) = Each.more HasOnly.of_var (only-run depth (start + 1) count)

-- ---- terms of records

pub only-place_under : {Q : ℕ → Type 0} (runs : List (ℕ × ℕ)) (size depth under : ℕ) (t : Term) → HasOnly Q t → HasOnly Q (place_under runs size depth under t)
only-place_under runs size depth under (Pi a b) (HasOnly.of_pi h k) =
    HasOnly.of_pi (only-place_under runs size depth under a h) (only-place_under runs size depth (under + 1) b k)
only-place_under runs size depth under (Lam a b) (HasOnly.of_lam h k) =
    HasOnly.of_lam (only-place_under runs size depth under a h) (only-place_under runs size depth (under + 1) b k)
only-place_under runs size depth under (App f a) (HasOnly.of_app h k) =
    HasOnly.of_app (only-place_under runs size depth under f h) (only-place_under runs size depth under a k)
only-place_under runs size depth under (Let a t b) (HasOnly.of_let h k l) =
    HasOnly.of_let (only-place_under runs size depth under a h) (only-place_under runs size depth under t k) (only-place_under runs size depth (under + 1) b l)
only-place_under runs size depth under (Const c) (HasOnly.of_const q) = HasOnly.of_const q
only-place_under runs size depth under (Var n) h = HasOnly.of_var
only-place_under runs size depth under (Sort i) h = HasOnly.of_sort
only-place_under runs size depth under (Fam n) h = HasOnly.of_fam
only-place_under runs size depth under (Con n c) h = HasOnly.of_con
only-place_under runs size depth under (Elim n m) h = HasOnly.of_elim
only-place_under runs size depth under (AxiomK i m) h = HasOnly.of_axiom

pub only-place : {Q : ℕ → Type 0} (runs : List (ℕ × ℕ)) (size depth : ℕ) (t : Term) → HasOnly Q t → HasOnly Q (place runs size depth t)
only-place runs size depth t h =
    only-if (nat_le (height t) 2000) (place_under runs size depth 0 t) t (only-place_under runs size depth 0 t h) h
