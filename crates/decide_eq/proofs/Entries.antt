-- The entry that is made from the code's family is that of the signature's family.
use Rattle.std.proofs.Common.{◌≡◌, ℕ, List, length, map, Result, Some, sym, subst}
use Rattle.std.proofs.lemmas.Simd.{map-map}
use Rattle.theory.specs.Families as pure
use Rattle.core_terms.specs.Answers.{Gives}
use Rattle.core_terms.specs.declared.stop.Stop.{Stop}
use Rattle.core_sig.specs.Drafts.{draft_of}
use Rattle.core_sig.specs.FamilyShapes.{family_shape}
use Rattle.core_sig.specs.Kinds.{HasKinds}
use Rattle.core_sig.specs.Meanings.{family_of, constructor_of}
use Rattle.core_sig.specs.Shapes.{shape_of}
use Rattle.core_sig.specs.declared.entry.Draft.{Draft as DraftOfCode}
use Rattle.core_sig.specs.declared.family.Family.{Family}
use Rattle.core_sig.proofs.ShapesOfCode.{shape-is}
use Rattle.decide_eq.specs.DecisionEntries.{decision_of_shape, decision_entry}
use Rattle.decide_eq.specs.PlainFamilies.{Known}

pub same-family : (f : pure.Family) (code : Family) → Some (family_of code) ≡ Some f → family_of code ≡ f
same-family f code same = cc

pub entry-is : (result : Result DraftOfCode Stop) (base' base : ℕ) (name : List ℕ) (n into : ℕ) (known' known : Known) (f : pure.Family) (code : Family) → HasKinds n code → base' ≡ base → known' ≡ known → family_of code ≡ f
    → Gives draft_of result (decision_of_shape base' name code.name (map (λ c. c.name) code.cons) n (shape_of code) into known')
    → Gives draft_of result (decision_entry base name n f into known)
entry-is result base' base name n into known' known f code kinds base-is known-is is given =
    subst (λ b. Gives draft_of result (decision_entry b name n f into known)) base-is
    (subst (λ k. Gives draft_of result (decision_entry base' name n f into k)) known-is
    (subst (λ g. Gives draft_of result (decision_entry base' name n g into known')) is
    (subst (λ names. Gives draft_of result (decision_of_shape base' name code.name names n (family_shape n (family_of code)) into known'))
    (sym (map-map (λ (c : pure.Constructor). c.name) (constructor_of (length code.params)) code.cons))
    (subst (λ s. Gives draft_of result (decision_of_shape base' name code.name (map (λ c. c.name) code.cons) n s into known')) (sym (shape-is n code kinds)) given))))
