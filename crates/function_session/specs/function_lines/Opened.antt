-- A function by clauses, and a draft, over the signature of a session: as they are meant, if no name of a family or of a constructor holds
-- a `!`. No source file can write such a name. Where one does hold a `!` no draft may enter, and what has one to enter is Deep.
use Rattle.std.specs.Prelude.{ℕ, cond, List, length, Ok, Err}
use Rattle.theory.specs.Signatures.{Signature}
use Rattle.theory.specs.WellFormed.{provisional}
use Rattle.core_terms.specs.Answers.{and_next}
use Rattle.core_terms.specs.declared.stop.Stop.TheVariants.{Deep}
use Rattle.core_sig.specs.Drafts.{Draft}
use Rattle.resolve.specs.Functions.{Function}
use Rattle.tree_translation.specs.Plans.{Plan}
use Rattle.drafts.specs.draft_checks.Checks.{unmarked}
use Rattle.clause_reports.specs.DraftEntering.{enter_draft_of}
use Rattle.clause_reports.specs.elaboration.Functions.{Lines, enter_plan, function_of, planned_of, report_parts}
use Rattle.clause_reports.specs.elaboration.Refusals.{Elaborating, Halts, answers, owner_of, reporting}
use Rattle.clause_reports.specs.elaboration.Walking.{Session}

abbrev pub deep : {A : Type 0} → ℕ → Elaborating A
deep left = answers (Err (Halts Deep)) left

-- ---- functions

-- the function as a provisional constant after the entries of S
abbrev pub session_at : Signature → Function → Session
session_at S f = record { signature = provisional S f.name f.type; name = f.name; own = length S.entries }

-- a function is Deep once its plan is made
abbrev pub lines_closed : Signature → Function → (fuel : ℕ) → Elaborating Lines
lines_closed S f fuel = and_next (planned_of S f fuel) (λ plan left. deep left)

-- the lines of a function that is accepted, with the signature that has its entries
abbrev pub function_in : Signature → Function → (fuel : ℕ) → Elaborating Lines
function_in S f fuel = cond (unmarked S) (function_of S f fuel) (lines_closed S f fuel)

-- the lines of a plan once its entries have entered, with the signature that has them
abbrev pub opened_in : Plan → Signature → ℕ → Elaborating Lines
opened_in plan S left = and_next (enter_plan S plan left) (λ T rest. report_parts plan 0 plan.parts T rest)

abbrev pub plan_in : Plan → Signature → ℕ → Elaborating Lines
plan_in plan S left = cond (unmarked S) (opened_in plan S left) (deep left)

-- ---- drafts

-- a draft of the function with this name
abbrev pub checked_entered : Signature → (name : List ℕ) → Draft → ℕ → Elaborating Signature
checked_entered S name d left = and_next (reporting S (owner_of name 0) (enter_draft_of S d left)) (λ e rest. answers (Ok e.signature) rest)

abbrev pub draft_in : Signature → (name : List ℕ) → Draft → ℕ → Elaborating Signature
draft_in S name d left = cond (unmarked S) (checked_entered S name d left) (deep left)
