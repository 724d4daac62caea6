-- Recursion as the code finds it: Deep where a type of the telescope at which it is looked for is higher than 2,000.
use Rattle.std.specs.Prelude.{◌≡◌, ℕ, cond, Option, Some, None, Result, Ok, Err}
use Rattle.theory.specs.Signatures.{Signature}
use Rattle.theory.specs.Telescopes.{Telescope}
use Rattle.core_terms.specs.Answers.{are_low}
use Rattle.core_terms.specs.declared.stop.Stop.{Stop}
use Rattle.core_terms.specs.declared.stop.Stop.TheVariants.{Deep}
use Rattle.tree_translation.specs.Plans.{Plan, own_part}
use Rattle.tree_translation.specs.Recursion.{Recursion, recursion_at, recursion_of}

abbrev pub recursion_at_made : Signature → Telescope → (j : ℕ) → Result (Option Recursion) Stop
recursion_at_made S tele j = cond (are_low tele) (Ok (recursion_at S tele j)) (Err Deep)

-- nothing is looked for without a position
abbrev pub made_at : Signature → Telescope → (position : Option ℕ) → Result (Option Recursion) Stop
made_at S tele None = Ok None
made_at S tele (Some j) = recursion_at_made S tele j

abbrev pub recursion_made : Signature → Plan → Result (Option Recursion) Stop
recursion_made S plan = made_at S (own_part plan).tele plan.position

-- the recursion that is found is that of the plan
abbrev pub RecursionIsFound : Type 0
RecursionIsFound = (S : Signature) (plan : Plan) (r : Option Recursion) → recursion_made S plan ≡ Ok r → r ≡ recursion_of S plan
