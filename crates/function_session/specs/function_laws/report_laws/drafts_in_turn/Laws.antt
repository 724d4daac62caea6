-- The drafts of a function enter in turn.
use Rattle.std.specs.Prelude.{◌≡◌, ℕ, true, IfOk, List, [], ◌∷◌}
use Rattle.theory.specs.Signatures.{Signature}
use Rattle.theory.specs.WellFormed.{IsWellFormed}
use Rattle.core_sig.specs.Drafts.{Draft}
use Rattle.clause_reports.specs.DraftEntering.{enter_draft_of}
use Rattle.drafts.specs.draft_checks.Checks.{names_enter, unmarked}
use Rattle.family_check.specs.Scopes.{HasPrelude}
use Rattle.function_session.specs.function_laws.report_laws.plan_drafts.Laws.{IsPlanFor}
use Rattle.function_session.specs.function_lines.Conditions.{EnterInTurn}
use Rattle.function_session.specs.plan_laws.Conditions.{HasLevel}
use Rattle.resolve.specs.Functions.{Function}
use Rattle.tree_translation.specs.Entries.{translate}
use Rattle.tree_translation.specs.Plans.{Plan}

-- Each name of each draft is that of a definition, or of something that can be generated, in the signature that has the drafts before it.
abbrev pub NamesInTurn : Signature → List Draft → Type 0
NamesInTurn S [] = Unit {0}
NamesInTurn S (d ∷ drafts) =
    (names_enter S d.names ≡ true) × ((left : ℕ) → IfOk (enter_draft_of S d left).0 (λ e. NamesInTurn e.signature drafts))

-- So are the names of a function's drafts, where its plan has the level of its type.
abbrev pub FunctionNamesEnter : Type 0
FunctionNamesEnter =
    (S : Signature) (f : Function) (plan : Plan) (h : IsPlanFor S f plan) → HasLevel S f h.level → IfOk (translate S plan) (NamesInTurn S)

-- So each draft of such a function may enter the signature that has those before it, where the signature is well formed, begins with the
-- prelude and has no mark in a family's or constructor's name.
abbrev pub FunctionEntersInTurn : Type 0
FunctionEntersInTurn =
    (S : Signature) (f : Function) (plan : Plan) (h : IsPlanFor S f plan) → HasLevel S f h.level → IsWellFormed S → HasPrelude S →
    unmarked S ≡ true → IfOk (translate S plan) (EnterInTurn S)
