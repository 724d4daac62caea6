-- The test for strict parts with a family that is looked up; small terms under binders.
use Rattle.std.proofs.Common.{◌≡◌, ℕ, ◌≤◌, Bool, true, false, nat_le, IsTrue, Ok, Some, refl, sym, ap, ◌∙◌, arith}
use Rattle.std.specs.Prelude.{◌↔◌, Result}
use Rattle.theory.specs.Terms.{Term, lift, height}
use Rattle.theory.specs.Families.{Family}
use Rattle.theory.specs.Signatures.{Signature, FamilyOf, IsEntryAt}
use Rattle.theory.proofs.Heights.{height-lift}
use Rattle.core_terms.specs.Answers.{bounded}
use Rattle.core_terms.specs.declared.stop.Stop.{Stop}
use Rattle.core_sig.specs.FamilyShapes.{family_shape}
use Rattle.case_below_gen.specs.PartTests.{has_part}
use Rattle.case_below_gen.specs.StrictParts.{IsStrictPart}
use Rattle.case_below_gen.proofs.PartTests.{part-decides}
use Rattle.kernel_reduce.specs.Entries.{family_at}
use Rattle.kernel_reduce.proofs.LookUps.{family-found}
use Rattle.tree_translation.specs.structural_rec.Fitting.{part_in}

-- two tests that are true in the same cases
same-tests : (a b : Bool) → (IsTrue a → IsTrue b) → (IsTrue b → IsTrue a) → a ≡ b
same-tests true true f g = refl
same-tests true false f g = absurd (let h = f (grind arith) in grind arith)
same-tests false true f g = absurd (let h = g (grind arith) in grind arith)
same-tests false false f g = refl

pub part-is : (S : Signature) (n : ℕ) (part t : Term) (result : Bool) (f : Family) → family_at S n ≡ Some f
    → ((g : Family) → IsEntryAt S n (FamilyOf g) → IsTrue result ↔ IsStrictPart n g part t) → result ≡ part_in n part t (family_at S n)
part-is S n part t result f at h =
    let known = h f (family-found S n f at) in
    let decides = part-decides n f part t in
    same-tests result (has_part n (family_shape n f) part t) (λ r. decides.1 (known.0 r)) (λ r. known.1 (decides.0 r))
    ∙ ap (part_in n part t) (sym at)

-- a term that is not too high stays so under binders
pub lifted-low : (t : Term) (by : ℕ) → height t ≤ 2000 → ◌≡◌ {A = Result Term Stop} (bounded (lift t by 0)) (Ok (lift t by 0))
lifted-low t by low = go (nat_le (height (lift t by 0)) 2000) refl
  where
    go : (b : Bool) → nat_le (height (lift t by 0)) 2000 ≡ b → ◌≡◌ {A = Result Term Stop} (bounded (lift t by 0)) (Ok (lift t by 0))
    go true e = rw e refl
    go false e = absurd (let h = height-lift t by 0 in grind arith)
