-- A type that is found as a family at the places before it is that family, at parameters without these places.
use Rattle.std.proofs.Common.{◌≡◌, ℕ, zero, suc, ◌+◌, ◌-◌, ◌≤◌, ◌==◌, ◌||◌, not, true, false, Some, List, [], ◌∷◌, ◌++◌, length, map, take, drop, refl, ap, ap₂, sym, subst as transport, ◌∙◌, arith}
use Rattle.std.proofs.lemmas.Bool.{not-true, eq-eqb, eqb-true, or_left, or_parts, or_right}
use Rattle.std.proofs.lemmas.List.{take-append-drop}
use Rattle.std.proofs.lemmas.Option.{cond_some, option_and_then_some}
use Rattle.std.proofs.lemmas.List.Elements.{All-nil, All-cons, All-head, All-tail, All-take}
use Rattle.std.specs.List.{All}
use Rattle.theory.specs.Terms.{Term, lift}
use Rattle.theory.specs.Terms.Term.{Var, Pi, Lam, App, Let, Fam}
use Rattle.theory.specs.Substitutions.{ren, up}
use Rattle.theory.specs.Telescopes.{applied, variables}
use Rattle.theory.specs.Spines.{head_of, spine_of}
use Rattle.theory.specs.Families.{Family}
use Rattle.theory.specs.Signatures.{Signature, FamilyOf, IsEntryAt}
use Rattle.theory.specs.SignatureScopes.{IsScoped}
use Rattle.theory.proofs.Instances.{ap₃, ren-ren}
use Rattle.theory.proofs.Shifts.{weaken_by-is_lift}
use Rattle.theory.proofs.Spines.{applied-spine}
use Rattle.kernel_reduce.specs.Entries.{family_at}
use Rattle.kernel_reduce.proofs.LookUps.{both-true, family-found}
use Rattle.tele_eq.specs.Dependences.{has_variable}
use Rattle.unification.specs.Built.{greatest_level, is_fitting}
use Rattle.unification.specs.Groups.{are_nearest, has_nearest, have_nearest, lowered, Membership, with_places, membership_with, membership_of}
use Rattle.unification.specs.Injecting.{lifted}
use Rattle.unification.proofs.Constructors.{fitting-level}
use Rattle.unification.proofs.Occurring.{ren-where}

-- ---- variables that are not in a term

up-fixes : (r : ℕ → ℕ) (b : Term) → ((v : ℕ) → has_variable (v + 1) b ≡ true → r v ≡ v) → (v : ℕ) → has_variable v b ≡ true → up r v ≡ v
up-fixes r b fixes zero e = refl
up-fixes r b fixes (suc v) e =
    let next : suc v ≡ v + 1 = omega arith in
    ap suc (fixes v (transport (λ i. has_variable i b ≡ true) next e))

-- a renaming that keeps each variable of a term keeps the term
ren-fixes : (r : ℕ → ℕ) (t : Term) → ((v : ℕ) → has_variable v t ≡ true → r v ≡ v) → ren r t ≡ t
ren-fixes r (Var n) fixes = ap Var (fixes n (eq-eqb n n refl))
ren-fixes r (Pi a b) fixes =
    ap₂ Pi (ren-fixes r a (λ v e. fixes v (or_left (has_variable v a) _ e)))
    (ren-fixes (up r) b (up-fixes r b (λ v e. fixes v (or_right (has_variable v a) _ e))))
ren-fixes r (Lam a b) fixes =
    ap₂ Lam (ren-fixes r a (λ v e. fixes v (or_left (has_variable v a) _ e)))
    (ren-fixes (up r) b (up-fixes r b (λ v e. fixes v (or_right (has_variable v a) _ e))))
ren-fixes r (App f a) fixes =
    ap₂ App (ren-fixes r f (λ v e. fixes v (or_left (has_variable v f) _ e)))
    (ren-fixes r a (λ v e. fixes v (or_right (has_variable v f) _ e)))
ren-fixes r (Let a t b) fixes =
    ap₃ Let
    (ren-fixes r a (λ v e. fixes v (or_left (has_variable v a || has_variable v t) _ (or_left (has_variable v a) _ e))))
    (ren-fixes r t (λ v e. fixes v (or_left (has_variable v a || has_variable v t) _ (or_right (has_variable v a) _ e))))
    (ren-fixes (up r) b (up-fixes r b (λ v e. fixes v (or_right (has_variable v a || has_variable v t) _ e))))
ren-fixes r _ fixes = refl

-- the variables of a term without the nearest k are further out
further-out : (k : ℕ) (t : Term) → has_nearest k t ≡ false → (v : ℕ) → has_variable v t ≡ true → k ≤ v
further-out zero t e v h = omega arith
further-out (suc k) t e v h =
    let le : k ≤ v = further-out k t (or_parts (has_variable k t) (has_nearest k t) e).1 v h in
    let other : k ≡ v → ⊥ = λ is. clash (sym (or_parts (has_variable k t) (has_nearest k t) e).0 ∙ (ap (λ i. has_variable i t) is ∙ h)) in
    strict le other
  where
    clash : false ≡ true → ⊥
    clash q = grind arith

    strict : k ≤ v → (k ≡ v → ⊥) → suc k ≤ v
    strict le other = grind arith

-- such a term is lowered and lifted to itself
lowered-lifts : (k : ℕ) (t : Term) → has_nearest k t ≡ false → lift (lowered k t) k 0 ≡ t
lowered-lifts k t e =
    sym (weaken_by-is_lift k (lowered k t))
    ∙ (ren-ren (λ n. n + k) (λ n. n - k) t
    ∙ ren-fixes (λ n. n - k + k) t (λ v h. let le : k ≤ v = further-out k t e v h in omega arith))

lowered-lift : (k : ℕ) (ts : List Term) → have_nearest k ts ≡ false → lifted k (map (lowered k) ts) ≡ ts
lowered-lift k [] e = refl
lowered-lift k (t ∷ ts) e =
    ap₂ ◌∷◌ (lowered-lifts k t (or_parts (has_nearest k t) (have_nearest k ts) e).0)
    (lowered-lift k ts (or_parts (has_nearest k t) (have_nearest k ts) e).1)

lowered-scoped : (S : Signature) (n k : ℕ) (t : Term) → has_nearest k t ≡ false → IsScoped S (n + k) t → IsScoped S n (lowered k t)
lowered-scoped S n k t free h =
    ren-where S (λ v. v - k) (n + k) n t (λ v lt occurs. let le : k ≤ v = further-out k t free v occurs in omega arith) h

all-lowered : (S : Signature) (n k : ℕ) (ts : List Term) → have_nearest k ts ≡ false → All (IsScoped S (n + k)) ts
    → All (IsScoped S n) (map (lowered k) ts)
all-lowered S n k [] free all = All-nil (IsScoped S n)
all-lowered S n k (t ∷ ts) free all =
    let parts = or_parts (has_nearest k t) (have_nearest k ts) free in
    All-cons (IsScoped S n) (lowered k t) (map (lowered k) ts)
    (lowered-scoped S n k t parts.0 (All-head (IsScoped S (n + k)) t ts all)) (all-lowered S n k ts parts.1 (All-tail (IsScoped S (n + k)) t ts all))

-- terms that are the nearest variables
nearest-are : (k : ℕ) (ts : List Term) → are_nearest k ts ≡ true → ts ≡ variables k
nearest-are zero [] e = refl
nearest-are zero (t ∷ ts) e = absurd (grind arith)
nearest-are (suc k) [] e = absurd (grind arith)
nearest-are (suc k) (Var n ∷ ts) e =
    let parts = both-true (n == k) (are_nearest k ts) e in
    ap₂ (λ (i : ℕ) (us : List Term). Var i ∷ us) (eqb-true n k parts.0) (nearest-are k ts parts.1)
nearest-are (suc k) (_ ∷ ts) e = absurd (grind arith)

-- ---- memberships

-- type is family m.n at its parameters, and at exactly the k places before it; the parameters are scoped without the places
pub record IsMembership (S : Signature) (k : ℕ) (type : Term) (spine : List Term) (m : Membership) : Type 0 where
  pub family : IsEntryAt S m.n (FamilyOf m.family)
  pub level : m.family.level ≤ greatest_level
  pub indices : length m.family.indices ≡ k
  pub form : type ≡ applied (Fam m.n) (lifted k m.parameters ++ variables k)
  pub parameters : (n : ℕ) → All (IsScoped S (n + k)) spine → All (IsScoped S n) m.parameters

with_places-are : (S : Signature) (k n : ℕ) (spine : List Term) (f : Family) (m : Membership) → IsEntryAt S n (FamilyOf f)
    → with_places k n spine f ≡ Some m → IsMembership S k (applied (Fam n) spine) spine m
with_places-are S k n spine f m there e =
    let tested = cond_some _ found m e in
    let parts = both-true _ _ tested.0 in
    let form = both-true (length f.indices == k) _ parts.0 in
    let places = both-true (length spine == length f.parameters + k) (are_nearest k (drop (length f.parameters) spine)) form.1 in
    let free = both-true (not (have_nearest k (take (length f.parameters) spine))) (is_fitting f) parts.1 in
    transport (IsMembership S k (applied (Fam n) spine) spine) tested.1
    (record {
      family = there;
      level = fitting-level f free.1;
      indices = eqb-true (length f.indices) k form.0;
      form =
          ap (applied (Fam n))
          (sym (take-append-drop (length f.parameters) spine)
          ∙ ap₂ ◌++◌ (sym (lowered-lift k (take (length f.parameters) spine) (not-true _ free.0)))
          (nearest-are k (drop (length f.parameters) spine) places.1));
      parameters = λ n' all.
          all-lowered S n' k (take (length f.parameters) spine) (not-true _ free.0) (All-take (IsScoped S (n' + k)) (length f.parameters) spine all);
    })
  where
    found : Membership
    found = record { n = n; family = f; parameters = map (lowered k) (take (length f.parameters) spine) }

membership_with-is : (S : Signature) (k : ℕ) (h : Term) (spine : List Term) (m : Membership)
    → membership_with S k h spine ≡ Some m → IsMembership S k (applied h spine) spine m
membership_with-is S k (Fam n) spine m e =
    option_and_then_some _ (family_at S n) m e (λ f found placed. with_places-are S k n spine f m (family-found S n f found) placed)
membership_with-is S k _ spine m e = absurd (grind arith)

pub membership-is : (S : Signature) (k : ℕ) (type : Term) (m : Membership) → membership_of S k type ≡ Some m → IsMembership S k type (spine_of type) m
membership-is S k type m e =
    transport (λ x. IsMembership S k x (spine_of type) m) (applied-spine type) (membership_with-is S k (head_of type) (spine_of type) m e)
