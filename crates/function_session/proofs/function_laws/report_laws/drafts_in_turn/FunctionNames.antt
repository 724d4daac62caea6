-- The names of the drafts of a function enter in turn.
use Rattle.std.proofs.Common.{◌≡◌, List, [], Result, Ok, Err, IfOk, refl}
use Rattle.core_terms.specs.declared.stop.Stop.{Stop}
use Rattle.core_sig.specs.Drafts.{Draft}
use Rattle.drafts.specs.draft_entering.Conditions.{IsGeneratedName}
use Rattle.drafts.proofs.draft_entering.Longer.{extends-same}
use Rattle.tree_translation.specs.Entries.{translate}
use Rattle.entry_laws.proofs.OnlyConstants.{Each}
use Rattle.function_session.specs.plan_laws.Laws.{PlanIsOfFunction, PlanIsPlanned}
use Rattle.function_session.specs.function_laws.report_laws.drafts_in_turn.Laws.{FunctionNamesEnter, NamesInTurn}
use Rattle.function_session.proofs.function_laws.report_laws.drafts_in_turn.EnteringInTurn.{grown-in_turn}
use Rattle.entry_laws.proofs.GrowingDrafts.{drafts-grow}
use Rattle.function_session.proofs.function_laws.report_laws.drafts_in_turn.PlanNames.{function-names}

answer-has : (r : Result (List Draft) Stop) (P : List Draft → Type 0) → ((drafts : List Draft) → r ≡ Ok drafts → P drafts) → IfOk r P
answer-has (Ok drafts) P h = h drafts refl
answer-has (Err e) P h = tt

pub names-enter : PlanIsOfFunction → PlanIsPlanned → FunctionNamesEnter
names-enter of plans S f plan h level =
    let made = function-names of plans S f plan h level in
    answer-has (translate S plan) (NamesInTurn S) (λ drafts e.
    grown-in_turn S S [] drafts (extends-same S) Each.none (drafts-grow (IsGeneratedName S) S plan made.0 made.1 drafts e))
