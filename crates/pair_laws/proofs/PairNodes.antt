-- The telescopes of the entries of a function over a pair: they name entries of the signature and of their tables alone, and differ in the
-- names of these alone.
use Rattle.std.proofs.Common.{◌≡◌, ℕ, zero, suc, ◌+◌, ◌-◌, Some, option_map, List, [], ◌∷◌, ◌++◌, length, map, take, drop, refl, sym, ap, ap₂, ◌∙◌}
use Rattle.std.proofs.lemmas.List.{map-append}
use Rattle.theory.specs.Terms.{Term, Var, Sort, Pi, Lam, App, Let, Const, Fam, Con, Elim, AxiomK, lift}
use Rattle.theory.specs.Telescopes.{Telescope}
use Rattle.theory.specs.Signatures.{Signature, FamilyOf, IsEntryAt}
use Rattle.core_terms.specs.Telescopes.{lift_telescope}
use Rattle.kernel_reduce.specs.Entries.{family_at}
use Rattle.kernel_reduce.proofs.LookUps.{family-found}
use Rattle.kernel_reduce.proofs.StepLaws.{some-next, some-map}
use Rattle.tree_translation.specs.structural_rec.Positions.{Admission}
use Rattle.tree_translation.specs.Naming.{Naming, below_name}
use Rattle.tree_translation.specs.Splits.{Node}
use Rattle.tree_translation.specs.Plans.{Plan, own_part}
use Rattle.tree_translation.specs.Recursion.{NamedRecursion, Recursion, below_type, below_with, first_positions, motive_with, order_of, ordered_telescope, ordered_term, recursion_with, terms_at, with_values}
use Rattle.tree_translation.specs.Entries.{ordered_variables, with_below}
use Rattle.entry_laws.proofs.OnlyConstants.{Each, each-map, HasOnly, only-lift}
use Rattle.entry_laws.proofs.OnlyEntries.{IsBased, blank-below_type, blank-below_with, only-ordered_telescope, only-ordered_term, only-ordered_variables, only-with_below, own-goal, own-tele}
use Rattle.entry_laws.proofs.OnlyFamilies.{CoversConstants, FamiliesOnly, if-there}
use Rattle.entry_laws.proofs.OnlyLeaves.{NamedOnly, RecursionOnly, only-below_type, only-below_with, only-motive_with}
use Rattle.entry_laws.proofs.OnlyStates.{NodeOnly}
use Rattle.entry_laws.proofs.SameNames.{IsLikeNode, blank, blank-applied, blanks}
use Rattle.lex_recursion.specs.Pairs.{pair_at}
use Rattle.lex_recursion.specs.PairEntries.{PairRecursion, begun_terms, begun_value, behind_first, first_count, motive2_name, order_over, pair_goal, pair_recursion, pair_recursion_at, pair_recursion_of, pair_recursions, pair_telescope, recursion_by, recursions_joined, second_below, second_count, second_named, step2_node}

-- ---- the families of a pair

-- they are entries of the signature
pub record HasFamilies (S : Signature) (p : PairRecursion) : Type 0 where
  pub outer : IsEntryAt S p.outer.admission.number (FamilyOf p.outer.family)
  pub inner : IsEntryAt S p.inner.admission.number (FamilyOf p.inner.family)

at-position : (S : Signature) (j : ℕ) (a : Admission) (r : Recursion) → recursion_by S j a ≡ Some r → IsEntryAt S r.admission.number (FamilyOf r.family)
at-position S j a r e =
    if-there (λ r. IsEntryAt S r.admission.number (FamilyOf r.family)) (recursion_by S j a) r
    (some-map (λ r. IsEntryAt S r.admission.number (FamilyOf r.family)) (recursion_with j a) (family_at S a.number) (λ f found. family-found S a.number f found)) e

pub pair-families : (S : Signature) (plan : Plan) (second : ℕ) (p : PairRecursion) → pair_recursion S plan second ≡ Some p → HasFamilies S p
pair-families S plan second p e =
    if-there (HasFamilies S) (pair_recursion S plan second) p
    (some-next (HasFamilies S) (λ j. pair_recursion_at S (own_part plan).tele j second) plan.position (λ j _.
    some-next (HasFamilies S) (pair_recursion_of S) (pair_at S (own_part plan).tele j second) (λ q _.
    some-next (HasFamilies S) (λ outer. option_map (recursions_joined outer) (recursion_by S q.second q.inner)) (recursion_by S q.first q.outer) (λ outer found.
    some-map (HasFamilies S) (recursions_joined outer) (recursion_by S q.second q.inner) (λ inner there.
    record { outer = at-position S q.first q.outer outer found; inner = at-position S q.second q.inner inner there })))))
    e

-- ---- names

-- the names that both recursions bring have numbers, and so do the constants of their families
pub record PairOnly (Q : ℕ → Type 0) (number : Naming) (plan : Plan) (p : PairRecursion) : Type 0 where
  pub outer : RecursionOnly Q number plan p.outer
  pub inner : NamedOnly Q number plan (second_named (motive2_name plan.name) p)

pub only-both : {Q : ℕ → Type 0} (number : Naming) (plan : Plan) (p : PairRecursion) → PairOnly Q number plan p → Each (NamedOnly Q number plan) (pair_recursions plan p)
only-both number plan p h =
    Each.more (record { below = h.outer.below; motive = h.outer.motive; family = h.outer.family }) (Each.more h.inner Each.none)

pub only-behind_first : {Q : ℕ → Type 0} (p : PairRecursion) (depth : ℕ) (terms : List Term) → Each (HasOnly Q) terms → Each (HasOnly Q) (behind_first p depth terms)
only-behind_first p depth terms all = each-map (λ t. lift t 1 (depth - first_count p)) terms (λ t h. only-lift t 1 (depth - first_count p) h) all

module _ (S : Signature) (plan : Plan) (p : PairRecursion) (based : IsBased S plan) where
  pub only-pair_telescope : {Q : ℕ → Type 0} (number : Naming) → CoversConstants Q S → RecursionOnly Q number plan p.outer → Each (HasOnly Q) (pair_telescope plan p number)
  only-pair_telescope number covers h =
      let order = order_over plan p in
      let terms = ordered_variables order (first_count p) in
      only-with_below (first_count p) (below_type number plan p.outer terms) (ordered_telescope (own_part plan).tele order)
      (only-below_type number plan p.outer terms h (own-tele S plan based covers) (only-ordered_variables order (first_count p)))
      (only-ordered_telescope (own_part plan).tele order (own-tele S plan based covers))

  pub only-pair_goal : {Q : ℕ → Type 0} → CoversConstants Q S → HasOnly Q (pair_goal plan p)
  only-pair_goal covers =
      let count = length (own_part plan).tele in
      only-lift (ordered_term count (order_over plan p) (own_part plan).goal) 1 (count - first_count p)
      (only-ordered_term count (order_over plan p) (own_part plan).goal (own-goal S plan based covers))

  only-second_below : {Q : ℕ → Type 0} (number : Naming) → CoversConstants Q S → NamedOnly Q number plan (second_named (motive2_name plan.name) p)
      → HasOnly Q (second_below plan p number)
  only-second_below number covers h =
      let c = second_named (motive2_name plan.name) p in
      let depth = length (first_positions p.inner) in
      let terms = begun_terms plan p in
      let all = only-behind_first p depth (ordered_variables (order_over plan p) depth) (only-ordered_variables (order_over plan p) depth) in
      only-below_with number plan p.inner (motive_with number c terms (begun_value p ∷ [])) terms h.below
      (only-motive_with number c terms (begun_value p ∷ []) h.motive all (Each.more HasOnly.of_var Each.none)) (own-tele S plan based covers) all

  pub only-step2_node : {Q : ℕ → Type 0} (number : Naming) → CoversConstants Q S → PairOnly Q number plan p → NodeOnly Q (step2_node plan p number)
  only-step2_node number covers h = record {
    context =
        only-with_below (second_count p) (second_below plan p number) (pair_telescope plan p number) (only-second_below number covers h.inner)
        (only-pair_telescope number covers h.outer);
    goal = only-lift (pair_goal plan p) 1 (length (own_part plan).tele + 1 - second_count p) (only-pair_goal covers);
  }

-- ---- nodes that differ in names alone

blank-lift : (t : Term) (by from : ℕ) → blank (lift t by from) ≡ lift (blank t) by from
blank-lift (Pi a b) by from = ap₂ Pi (blank-lift a by from) (blank-lift b by (from + 1))
blank-lift (Lam a b) by from = ap₂ Lam (blank-lift a by from) (blank-lift b by (from + 1))
blank-lift (App f a) by from = ap₂ App (blank-lift f by from) (blank-lift a by from)
blank-lift (Let a t b) by from =
    ap₂ (λ u v. Let u v (blank (lift b by (from + 1)))) (blank-lift a by from) (blank-lift t by from)
    ∙ ap (Let (lift (blank a) by from) (lift (blank t) by from)) (blank-lift b by (from + 1))
blank-lift (Var n) by from = refl
blank-lift (Sort i) by from = refl
blank-lift (Const c) by from = refl
blank-lift (Fam f) by from = refl
blank-lift (Con f c) by from = refl
blank-lift (Elim f m) by from = refl
blank-lift (AxiomK i m) by from = refl

blanks-lift : (tele : Telescope) (by from : ℕ) → blanks (lift_telescope tele by from) ≡ lift_telescope (blanks tele) by from
blanks-lift [] by from = refl
blanks-lift (a ∷ tele) by from = ap₂ ◌∷◌ (blank-lift a by from) (blanks-lift tele by (from + 1))

take-blank : (n : ℕ) (ts : List Term) → blanks (take n ts) ≡ take n (blanks ts)
take-blank zero ts = refl
take-blank (suc n) [] = refl
take-blank (suc n) (t ∷ ts) = ap (λ us. blank t ∷ us) (take-blank n ts)

drop-blank : (n : ℕ) (ts : List Term) → blanks (drop n ts) ≡ drop n (blanks ts)
drop-blank zero ts = refl
drop-blank (suc n) [] = refl
drop-blank (suc n) (t ∷ ts) = drop-blank n ts

-- a telescope with a below value, from both without names
blanks-below : (at : ℕ) (below : Term) (tele : Telescope) → blanks (with_below at below tele) ≡ with_below at (blank below) (blanks tele)
blanks-below at below tele =
    map-append blank (take at tele) (below ∷ lift_telescope (drop at tele) 1 0)
    ∙ ap₂ (λ xs ys. xs ++ blank below ∷ ys) (take-blank at tele)
    (blanks-lift (drop at tele) 1 0 ∙ ap (λ xs. lift_telescope xs 1 0) (drop-blank at tele))

blank-motive : (number other : Naming) (c : NamedRecursion) (terms values : List Term) → blank (motive_with number c terms values) ≡ blank (motive_with other c terms values)
blank-motive number other c terms values =
    let arguments = with_values c.places values (terms_at c.recursion.admission.fixed terms) in
    blank-applied (Const (number c.motive)) arguments ∙ sym (blank-applied (Const (other c.motive)) arguments)

pair-telescope-like : (plan : Plan) (p : PairRecursion) (number other : Naming) → blanks (pair_telescope plan p number) ≡ blanks (pair_telescope plan p other)
pair-telescope-like plan p number other =
    let order = order_over plan p in
    let tele = ordered_telescope (own_part plan).tele order in
    let terms = ordered_variables order (first_count p) in
    blanks-below (first_count p) (below_type number plan p.outer terms) tele
    ∙ ap (λ b. with_below (first_count p) b (blanks tele)) (blank-below_type number other plan p.outer terms)
    ∙ sym (blanks-below (first_count p) (below_type other plan p.outer terms) tele)

second-below-like : (plan : Plan) (p : PairRecursion) (number other : Naming) → blank (second_below plan p number) ≡ blank (second_below plan p other)
second-below-like plan p number other =
    let c = second_named (motive2_name plan.name) p in
    let terms = begun_terms plan p in
    let values = begun_value p ∷ [] in
    blank-below_with number other plan p.inner (motive_with number c terms values) (motive_with other c terms values) terms (blank-motive number other c terms values)

pub step2-like : (plan : Plan) (p : PairRecursion) (number other : Naming) → IsLikeNode (step2_node plan p number) (step2_node plan p other)
step2-like plan p number other = record {
  context =
      blanks-below (second_count p) (second_below plan p number) (pair_telescope plan p number)
      ∙ ap₂ (with_below (second_count p)) (second-below-like plan p number other) (pair-telescope-like plan p number other)
      ∙ sym (blanks-below (second_count p) (second_below plan p other) (pair_telescope plan p other));
  hidden = refl;
}
