-- What is tested of the code's family is tested of the signature's family.
use Rattle.std.proofs.Common.{◌≡◌, ℕ, false, Some, Result, Err, ap, sym, ◌∙◌, subst}
use Rattle.std.specs.Option.{option_map_or}
use Rattle.theory.specs.Signatures.{Signature}
use Rattle.core_terms.specs.Answers.{GivesUnless}
use Rattle.core_sig.specs.FamilyShapes.{family_shape}
use Rattle.core_sig.specs.Kinds.{HasKinds}
use Rattle.core_sig.specs.Meanings.{family_of}
use Rattle.core_sig.specs.Shapes.{shape_of}
use Rattle.core_sig.specs.declared.family.Family.{Family}
use Rattle.core_sig.proofs.ShapesOfCode.{shape-is}
use Rattle.kernel_reduce.specs.Entries.{family_at}
use Rattle.decide_eq.specs.PlainFamilies.{IsUnforeseen, Known, is_decision, is_decision_at, decidable, plain_family}
use Rattle.decide_eq.specs.declared.stop.DecideStop.{DecideStop}
use Rattle.decide_eq.specs.declared.stop.DecideStop.TheVariants.{NotPlainFamily}

pub decision-at : (S : Signature) (l n : ℕ) (code : Family) → HasKinds n code → Some (family_of code) ≡ family_at S n → is_decision l (shape_of code) ≡ is_decision_at S l n
decision-at S l n code kinds found =
    ap (is_decision l) (sym (shape-is n code kinds)) ∙ ap (λ o. option_map_or (λ f. is_decision l (family_shape n f)) o false) found

pub plain-family : (r : Result (Unit {0}) DecideStop) (S : Signature) (n into : ℕ) (known' known : Known) (code : Family) → HasKinds n code → Some (family_of code) ≡ family_at S n → known' ≡ known
    → GivesUnless IsUnforeseen (λ a. a) r (decidable S into known' (shape_of code)) → GivesUnless IsUnforeseen (λ a. a) r (plain_family S n into known)
plain-family r S n into known' known code kinds found known-is given =
    subst (λ k. GivesUnless IsUnforeseen (λ a. a) r (plain_family S n into k)) known-is
    (subst (λ o. GivesUnless IsUnforeseen (λ a. a) r (option_map_or (λ f. decidable S into known' (family_shape n f)) o (Err NotPlainFamily))) found
    (subst (λ s. GivesUnless IsUnforeseen (λ a. a) r (decidable S into known' s)) (sym (shape-is n code kinds)) given))
