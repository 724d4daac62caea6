-- Answers for equal parts are equal.
use Rattle.std.proofs.Common.{◌≡◌, ℕ, ◌==◌, Bool, true, false, List, Result, Ok, refl, subst, arith}
use Rattle.std.proofs.lemmas.Bool.Decides.{nat_tests}
use Rattle.theory.specs.Terms.{Term}
use Rattle.core_terms.specs.Answers.{Gives}
use Rattle.core_terms.specs.Meanings.{tree_of, tele_of}
use Rattle.core_terms.specs.declared.stop.Stop.{Stop}
use Rattle.core_terms.specs.declared.term.Term.{Term as TermOfCode}
use Rattle.tele_eq.specs.Items.{Item}
use Rattle.tele_eq.specs.TelescopicEquality.{elimination}
use Rattle.tele_eq.specs.Congruences.{congruences}

pub congruences-same : (r : Result (List TermOfCode) Stop) (X' X Y' Y : List Item) (f' f u' u v' v e' e : List Term) → X' ≡ X → Y' ≡ Y → f' ≡ f → u' ≡ u → v' ≡ v → e' ≡ e
    → Gives tele_of r (Ok (congruences X' Y' f' u' v' e')) → Gives tele_of r (Ok (congruences X Y f u v e))
congruences-same r X' X Y' Y f' f u' u v' v e' e x y t p q s given =
    subst (λ z. Gives tele_of r (Ok (congruences z Y f u v e))) x
    (subst (λ z. Gives tele_of r (Ok (congruences X' z f u v e))) y
    (subst (λ z. Gives tele_of r (Ok (congruences X' Y' z u v e))) t
    (subst (λ z. Gives tele_of r (Ok (congruences X' Y' f' z v e))) p
    (subst (λ z. Gives tele_of r (Ok (congruences X' Y' f' u' z e))) q (subst (λ z. Gives tele_of r (Ok (congruences X' Y' f' u' v' z))) s given)))))

pub elimination-same : (r : Result TermOfCode Stop) (m : ℕ) (X' X : List Item) (head' head base : Term) (u' u v' v e' e : List Term) → X' ≡ X → head' ≡ head → u' ≡ u → v' ≡ v → e' ≡ e
    → Gives tree_of r (Ok (elimination X' m head' base u' v' e')) → Gives tree_of r (Ok (elimination X m head base u v e))
elimination-same r m X' X head' head base u' u v' v e' e x h p q s given =
    subst (λ z. Gives tree_of r (Ok (elimination z m head base u v e))) x
    (subst (λ z. Gives tree_of r (Ok (elimination X' m z base u v e))) h
    (subst (λ z. Gives tree_of r (Ok (elimination X' m head' base z v e))) p
    (subst (λ z. Gives tree_of r (Ok (elimination X' m head' base u' z e))) q (subst (λ z. Gives tree_of r (Ok (elimination X' m head' base u' v' z))) s given))))

-- tests of numbers
pub test-true : (a b : ℕ) → a ≡ b → (a == b) ≡ true
test-true a b e = grind (arith, nat_tests)

pub test-false : (a b : ℕ) → ¬ (a ≡ b) → (a == b) ≡ false
test-false a b apart = go (a == b) refl
  where
    go : (t : Bool) → (a == b) ≡ t → t ≡ false
    go true e = absurd (apart (grind (arith, nat_tests)))
    go false e = refl
