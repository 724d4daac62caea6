-- Bounds on terms that the formers of terms keep: spines, hypotheses and the right side of iota keep them too.
use Rattle.std.proofs.Common.{◌≡◌, ℕ, zero, suc, ◌+◌, List, [], ◌∷◌, ◌++◌, map, Some, slice_get, All}
use Rattle.std.proofs.lemmas.List.Elements.{All-nil, All-cons, All-head, All-tail, All-append, All-map, All-weaker}
use Rattle.theory.specs.Terms.{Term}
use Rattle.theory.specs.Terms.Term.{Var, Sort, Lam, App, Con, Elim}
use Rattle.theory.specs.Substitutions.{weaken, inst, ups, extend, fill}
use Rattle.theory.specs.Telescopes.{Telescope, applied}
use Rattle.theory.specs.Families.{Argument, Plain, Recursive}
use Rattle.theory.specs.Eliminators.{hypothesis, hypotheses, iota_right, no_variable}
use Rattle.theory.proofs.AllOf.{all_left, all_right, all_at}

-- a spine keeps what applications keep
pub applied-kept : (P : Term → Type 0) → ((f a : Term) → P f → P a → P (App f a)) → (head : Term) (spine : List Term)
    → P head → All P spine → P (applied head spine)
applied-kept P kept head [] h all = h
applied-kept P kept head (a ∷ spine) h all =
    applied-kept P kept (App head a) spine (kept head a h (All-head P a spine all)) (All-tail P a spine all)

-- a spine has what applications have in their parts
pub applied-parts : (P : Term → Type 0) → ((f a : Term) → P (App f a) → P f × P a) → (head : Term) (spine : List Term)
    → P (applied head spine) → P head × All P spine
applied-parts P parts head [] h = (h, All-nil P)
applied-parts P parts head (a ∷ spine) h =
    let rest = applied-parts P parts (App head a) spine h in
    let two = parts head a rest.0 in
    (two.0, All-cons P a spine two.1 rest.1)

-- one term more
pub extend-kept : (P : Term → Type 0) (s : ℕ → Term) (u : Term) → ((i : ℕ) → P (s i)) → P u → (i : ℕ) → P (extend s u i)
extend-kept P s u each h zero = h
extend-kept P s u each h (suc i) = each i

-- terms that are put for variables keep what all of them have
pub fill-kept : (P : Term → Type 0) (s : ℕ → Term) (us : List Term) → ((i : ℕ) → P (s i)) → All P us → (i : ℕ)
    → P (fill s us i)
fill-kept P s [] each all i = each i
fill-kept P s (u ∷ us) each all i =
    fill-kept P (extend s u) us (extend-kept P s u each (All-head P u us all)) (All-tail P u us all) i

-- the terms of an argument that an eliminator puts into hypotheses
abbrev pub HasTerms : (Term → Type 0) → Argument → Type 0
HasTerms Q (Plain type level) = Unit {0}
HasTerms Q (Recursive inner targets level) = All Q inner × All Q targets

-- A bound P on terms in n variables that formers keep, where terms of the sort Q may be in a record.
pub record IsBound (Q : Term → Type 0) (P : ℕ → Term → Type 0) : Type 0 where
  pub dummy : (n : ℕ) → P n (Sort 0)
  pub eliminator : (n family level : ℕ) → P n (Elim family level)
  pub nearest : (n : ℕ) → P (n + 1) (Var 0)
  pub function : (n : ℕ) (a b : Term) → P n a → P (n + 1) b → P n (Lam a b)
  pub application : (n : ℕ) (f a : Term) → P n f → P n a → P n (App f a)
  pub parts : (n : ℕ) (f a : Term) → P n (App f a) → P n f × P n a
  pub weakened : (n : ℕ) (t : Term) → P n t → P (n + 1) (weaken t)
  pub instance : (n : ℕ) (s : ℕ → Term) (t : Term) → Q t → ((i : ℕ) → P n (s i)) → P n (inst s t)

module _ (Q : Term → Type 0) (P : ℕ → Term → Type 0) (bound : IsBound Q P) where
  -- an instantiation under a binder
  pub ups-kept : (n : ℕ) (s : ℕ → Term) → ((i : ℕ) → P n (s i)) → (i : ℕ) → P (n + 1) (ups s i)
  ups-kept n s each zero = bound.nearest n
  ups-kept n s each (suc i) = bound.weakened n (s i) (each i)

  -- the terms of a record, instantiated
  pub map_inst-kept : (n : ℕ) (s : ℕ → Term) (ts : List Term) → ((i : ℕ) → P n (s i)) → All Q ts
      → All (P n) (map (inst s) ts)
  map_inst-kept n s ts each all =
      All-map (P n) (inst s) ts (All-weaker Q (λ t. P n (inst s t)) (λ t q. bound.instance n s t q each) ts all)

  hypothesis-kept : (n : ℕ) (s : ℕ → Term) (recursor r : Term) (inner : Telescope) (targets : List Term)
      → ((i : ℕ) → P n (s i)) → P n recursor → P n r → All Q inner → All Q targets
      → P n (hypothesis s recursor r inner targets)
  hypothesis-kept n s recursor r [] targets each pe pr qi qt =
      bound.application n _ r
      (applied-kept (P n) (bound.application n) recursor (map (inst s) targets) pe (map_inst-kept n s targets each qt)) pr
  hypothesis-kept n s recursor r (a ∷ inner) targets each pe pr qi qt =
      bound.function n _ _ (bound.instance n s a (All-head Q a inner qi) each)
      (hypothesis-kept (n + 1) (ups s) (weaken recursor) (App (weaken r) (Var 0)) inner targets (ups-kept n s each)
      (bound.weakened n recursor pe) (bound.application (n + 1) _ _ (bound.weakened n r pr) (bound.nearest n))
      (All-tail Q a inner qi) qt)

  hypotheses-kept : (n : ℕ) (s : ℕ → Term) (recursor : Term) (arguments : List Argument) (us : List Term)
      → All (HasTerms Q) arguments → ((i : ℕ) → P n (s i)) → P n recursor → All (P n) us
      → All (P n) (hypotheses s recursor arguments us)
  hypotheses-kept n s recursor [] us qa each pe pu = All-nil (P n)
  hypotheses-kept n s recursor (Plain type level ∷ arguments) [] qa each pe pu = All-nil (P n)
  hypotheses-kept n s recursor (Recursive inner targets level ∷ arguments) [] qa each pe pu = All-nil (P n)
  hypotheses-kept n s recursor (Plain type level ∷ arguments) (u ∷ us) qa each pe pu =
      hypotheses-kept n (extend s u) recursor arguments us (All-tail (HasTerms Q) (Plain type level) arguments qa)
      (extend-kept (P n) s u each (All-head (P n) u us pu)) pe (All-tail (P n) u us pu)
  hypotheses-kept n s recursor (Recursive inner targets level ∷ arguments) (u ∷ us) qa each pe pu =
      let terms = All-head (HasTerms Q) (Recursive inner targets level) arguments qa in
      All-cons (P n) _ _
      (hypothesis-kept n s recursor u inner targets each pe (All-head (P n) u us pu) terms.0 terms.1)
      (hypotheses-kept n (extend s u) recursor arguments us (All-tail (HasTerms Q) (Recursive inner targets level) arguments qa)
      (extend-kept (P n) s u each (All-head (P n) u us pu)) pe (All-tail (P n) u us pu))

  -- the right side of iota
  pub iota_right-kept : (n family level : ℕ) (ps : List Term) (motive : Term) (ms : List Term) (arguments : List Argument) (method : Term) (us : List Term)
      → All (HasTerms Q) arguments → All (P n) ps → P n motive → All (P n) ms → P n method → All (P n) us
      → P n (iota_right family level ps motive ms arguments method us)
  iota_right-kept n family level ps motive ms arguments method us qa pp pm pms pmethod pu =
      applied-kept (P n) (bound.application n) method _ pmethod
      (All-append (P n) us _ pu
      (hypotheses-kept n (fill no_variable ps) _ arguments us qa
      (fill-kept (P n) no_variable ps (λ i. bound.dummy n) pp)
      (applied-kept (P n) (bound.application n) (Elim family level) _ (bound.eliminator n family level)
      (All-append (P n) ps _ pp (All-cons (P n) motive ms pm pms)))
      pu))

  -- iota keeps a bound
  pub iota-kept : (n family level number : ℕ) (ps : List Term) (motive : Term) (ms is qs us : List Term) (chosen : ℕ) (method : Term) (arguments : List Argument)
      → All (HasTerms Q) arguments → slice_get ms chosen ≡ Some method
      → P n (App (applied (Elim family level) (ps ++ motive ∷ (ms ++ is))) (applied (Con family number) (qs ++ us)))
      → P n (iota_right family level ps motive ms arguments method us)
  iota-kept n family level number ps motive ms is qs us chosen method arguments qa at h =
      let two = bound.parts n _ _ h in
      let left = (applied-parts (P n) (bound.parts n) (Elim family level) _ two.0).1 in
      let right = (applied-parts (P n) (bound.parts n) (Con family number) _ two.1).1 in
      let rest = all_right (P n) ps _ left in
      let methods = all_left (P n) ms is (All-tail (P n) motive (ms ++ is) rest) in
      iota_right-kept n family level ps motive ms arguments method us qa (all_left (P n) ps _ left)
      (All-head (P n) motive (ms ++ is) rest) methods (all_at (P n) ms chosen method at methods)
      (all_right (P n) qs us right)
