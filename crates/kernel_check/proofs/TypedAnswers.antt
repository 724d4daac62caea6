-- A type that is made over a store is answered, unless it is too high.
use Rattle.std.proofs.Common.{◌≡◌, ◌<◌, ◌≤◌, Bool, true, false, cond, Ok, Err, refl, sym, ap, ◌∙◌, arith}
use Rattle.std.proofs.lemmas.Bool.Decides.{nat_tests}
use Rattle.theory.specs.Terms.{Term, height}
use Rattle.core_terms.specs.Answers.{bounded, is_low}
use Rattle.core_terms.specs.Verdicts.Verdict.{Yes}
use Rattle.core_terms.specs.declared.stop.Stop.TheVariants.{Deep}
use Rattle.core_terms.proofs.Placing.{bounded-high}
use Rattle.kernel_check.specs.Checking.{typed as of_type, yes_of}

pub bounded-low : (t : Term) → height t ≤ 2000 → bounded t ≡ Ok t
bounded-low t low = by_case (is_low t) refl
  where
    by_case : (b : Bool) → is_low t ≡ b → bounded t ≡ Ok t
    by_case true e = ap (λ b. cond b (Ok t) (Err Deep)) e
    by_case false e = absurd (grind (arith, nat_tests))

pub typed-low : (t : Term) → height t ≤ 2000 → of_type t ≡ Ok (Yes t)
typed-low t low = ap yes_of (bounded-low t low)

pub typed-high : (t : Term) → 2000 < height t → of_type t ≡ Err Deep
typed-high t high = ap yes_of (bounded-high t high)

-- the tree of an id that was made
pub made-typed : (u t : Term) → u ≡ t → height t ≤ 2000 → Ok (Yes u) ≡ of_type t
made-typed u t is low = ap (λ x. Ok (Yes x)) is ∙ sym (typed-low t low)
