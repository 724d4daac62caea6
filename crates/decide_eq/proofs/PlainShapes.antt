-- What is known of a family whose equality can be decided, and of the family into which it is.
use Rattle.std.proofs.Common.{◌≡◌, ℕ, ◌+◌, ◌≤◌, ◌==◌, Bool, true, false, nat_le, cond, ◌&&◌, Option, Some, None, List, [], ◌∷◌, length, slice_get, Result, Ok, Err, refl, ap, sym, ◌∙◌, subst, arith}
use Rattle.std.specs.Option.{option_map_or}
use Rattle.std.specs.Prelude.{option_and_then}
use Rattle.std.proofs.lemmas.Bool.{and_parts}
use Rattle.std.proofs.lemmas.Bool.Decides.{nat_tests}
use Rattle.std.proofs.lemmas.List.{length-map}
use Rattle.theory.specs.Terms.{top}
use Rattle.theory.specs.Families.{Family}
use Rattle.theory.specs.Signatures.{Signature, Entry, FamilyOf, EliminatorAt, AxiomKAt, Definition, IsEntryAt}
use Rattle.core_sig.specs.FamilyShapes.{constructor_shape, family_shape}
use Rattle.core_sig.specs.Shapes.{ConstructorShape, Shape}
use Rattle.kernel_reduce.specs.Entries.{family_in, family_at}
use Rattle.decide_eq.specs.PlainFamilies.{Known, proves_or_refutes, has_one_universe, is_decision, all_universes, is_plain, is_decision_at, offence, unless_offended, decidable, plain_family}
use Rattle.decide_eq.specs.declared.stop.DecideStop.{DecideStop}
use Rattle.decide_eq.specs.declared.stop.DecideStop.TheVariants.{NotPlainFamily, NotDecision}

pub at-family : (S : Signature) (n : ℕ) (f : Family) → IsEntryAt S n (FamilyOf f) → family_at S n ≡ Some f
at-family S n f at = ap (option_and_then family_in) at

pub plain-shape : (S : Signature) (n into : ℕ) (known : Known) (f : Family) → family_at S n ≡ Some f → plain_family S n into known ≡ Ok tt → decidable S into known (family_shape n f) ≡ Ok tt
plain-shape S n into known f at plain =
    subst (λ o. option_map_or (λ f. decidable S into known (family_shape n f)) o (Err NotPlainFamily) ≡ Ok tt) at plain

-- the tests that were passed
pub record Passed (S : Signature) (into : ℕ) (known : Known) (g : Shape) : Type 0 where
  pub plain : is_plain g ≡ true
  pub decision : is_decision_at S g.level into ≡ true
  pub arguments : offence S known g.level (length g.parameters) 0 g.constructors ≡ None

pub passed : (S : Signature) (into : ℕ) (known : Known) (g : Shape) → decidable S into known g ≡ Ok tt → Passed S into known g
passed S into known g is = by (is_plain g) (is_decision_at S g.level into) (offence S known g.level (length g.parameters) 0 g.constructors) refl refl refl is
  where
    answer : Bool → Bool → Option (ℕ × ℕ) → Result (Unit {0}) DecideStop
    answer a b o = cond a (cond b (unless_offended o) (Err NotDecision)) (Err NotPlainFamily)

    by : (a b : Bool) (o : Option (ℕ × ℕ)) → is_plain g ≡ a → is_decision_at S g.level into ≡ b → offence S known g.level (length g.parameters) 0 g.constructors ≡ o → answer a b o ≡ Ok tt → Passed S into known g
    by true true None e d n h = record { plain = e; decision = d; arguments = n }
    by true true (Some o) e d n h = absurd cc
    by true false o e d n h = absurd cc
    by false b o e d n h = absurd cc

plain-low : (g : Shape) → is_plain g ≡ true → g.level + 2 ≤ top
plain-low g plain =
    let second = (and_parts (length g.indices == 0) (nat_le (g.level + 2) top && all_universes g.level g.parameters) plain).1 in
    let test : nat_le (g.level + 2) top ≡ true = (and_parts (nat_le (g.level + 2) top) (all_universes g.level g.parameters) second).0 in
    grind (arith, nat_tests)

pub plain-level : (S : Signature) (n into : ℕ) (known : Known) (f : Family) → family_at S n ≡ Some f → plain_family S n into known ≡ Ok tt → f.level + 2 ≤ top
plain-level S n into known f at plain =
    plain-low (family_shape n f) (passed S into known (family_shape n f) (plain-shape S n into known f at plain)).plain

pub plain-indices : (S : Signature) (n into : ℕ) (known : Known) (f : Family) → IsEntryAt S n (FamilyOf f) → plain_family S n into known ≡ Ok tt → length f.indices ≡ 0
plain-indices S n into known f at plain =
    let g = family_shape n f in
    let test : (length g.indices == 0) ≡ true = (and_parts (length g.indices == 0) (nat_le (g.level + 2) top && all_universes g.level g.parameters) (passed S into known g (plain-shape S n into known f (at-family S n f at) plain)).plain).0 in
    let none : length g.indices ≡ 0 = grind (arith, nat_tests) in
    sym (length-map f.indices _) ∙ none

-- a number that is no family has no decision
pub plain-none : (S : Signature) (n into : ℕ) (known : Known) → family_at S n ≡ None → ¬ (plain_family S n into known ≡ Ok tt)
plain-none S n into known none plain =
    let wrong : option_map_or (λ f. decidable S into known (family_shape n f)) None (Err NotPlainFamily) ≡ Ok tt = subst (λ o. option_map_or (λ f. decidable S into known (family_shape n f)) o (Err NotPlainFamily) ≡ Ok tt) none plain in
    absurd cc

-- ---- the family into which it is decided

two-constructors : (cs : List ConstructorShape) → proves_or_refutes cs ≡ true → length cs ≡ 2
two-constructors [] e = absurd cc
two-constructors (a ∷ []) e = absurd cc
two-constructors (a ∷ b ∷ []) e = refl
two-constructors (a ∷ b ∷ c ∷ cs) e = absurd cc

decision-constructors : (l : ℕ) (e : Shape) → is_decision l e ≡ true → length e.constructors ≡ 2
decision-constructors l e is =
    let universe = has_one_universe l e.parameters in
    let indices = length e.indices == 0 in
    let level = e.level == l in
    let constructors = proves_or_refutes e.constructors in
    let without_universe = (and_parts universe (indices && (level && constructors)) is).1 in
    let without_indices = (and_parts indices (level && constructors) without_universe).1 in
    two-constructors e.constructors (and_parts level constructors without_indices).1

-- the family is there, with two constructors
pub record HasDecision (S : Signature) (into : ℕ) : Type 0 where
  pub family : Family
  pub there : IsEntryAt S into (FamilyOf family)
  pub constructors : length family.constructors ≡ 2

decision-family : (S : Signature) (l into : ℕ) → is_decision_at S l into ≡ true → HasDecision S into
decision-family S l into is = by (slice_get S.entries into) refl is
  where
    by : (o : Option Entry) → slice_get S.entries into ≡ o → option_map_or (λ f. is_decision l (family_shape into f)) (option_and_then family_in o) false ≡ true → HasDecision S into
    by (Some (FamilyOf e)) at h =
        record { family = e; there = at; constructors = omega (arith, length-map e.constructors (constructor_shape into e), decision-constructors l (family_shape into e) h) }
    by (Some (EliminatorAt n m)) at h = absurd cc
    by (Some (AxiomKAt i m)) at h = absurd cc
    by (Some (Definition name type body)) at h = absurd cc
    by None at h = absurd cc

pub decision-there : (S : Signature) (n into : ℕ) (known : Known) (f : Family) → IsEntryAt S n (FamilyOf f) → plain_family S n into known ≡ Ok tt → HasDecision S into
decision-there S n into known f at plain =
    decision-family S f.level into (passed S into known (family_shape n f) (plain-shape S n into known f (at-family S n f at) plain)).decision
