-- The drafts of a resolved function enter in turn, since their names do.
use Rattle.std.proofs.Common.{◌≡◌, List, [], ◌∷◌, Result, Ok, Err, IfOk, refl, ◌∙◌}
use Rattle.std.proofs.lemmas.List.Elements.{All-head, All-tail}
use Rattle.std.specs.List.{All}
use Rattle.theory.specs.Signatures.{Signature, IsPrefix}
use Rattle.theory.specs.WellFormed.{IsWellFormed}
use Rattle.theory.proofs.Pushing.{prefix_reflexive, prefix_transitive}
use Rattle.core_terms.specs.declared.stop.Stop.{Stop}
use Rattle.core_sig.specs.Drafts.{Draft}
use Rattle.family_check.specs.Entering.{Entered}
use Rattle.clause_reports.specs.DraftEntering.{enter_draft_of}
use Rattle.clause_reports.proofs.Keeping.{weaker-of-two}
use Rattle.drafts.specs.draft_checks.Checks.{enterable, names_enter}
use Rattle.drafts.specs.draft_checks.Laws.{EnterableMayEnter, UnmarkedIsOpen}
use Rattle.drafts.specs.draft_entering.Conditions.{IsOpen}
use Rattle.drafts.specs.entering_laws.Laws.{EnteredIsOpen, StaysOpen}
use Rattle.drafts.proofs.draft_entering.Longer.{extends-prefix}
use Rattle.tree_translation.specs.Entries.{translate}
use Rattle.function_session.specs.function_laws.report_laws.plan_drafts.Laws.{FunctionDraftsTested}
use Rattle.function_session.specs.function_laws.report_laws.drafts_in_turn.Laws.{FunctionEntersInTurn, FunctionNamesEnter, NamesInTurn}
use Rattle.function_session.specs.function_lines.Conditions.{EnterInTurn}

-- the tests of drafts over longer signatures are those of their names
in-turn : EnteredIsOpen → EnterableMayEnter → (S T : Signature) → IsPrefix S T → IsWellFormed T → IsOpen T → (drafts : List Draft)
    → ((U : Signature) → IsPrefix S U → All (λ d. enterable U d ≡ names_enter U d.names) drafts) → NamesInTurn T drafts → EnterInTurn T drafts
in-turn opens may S T prefix formed ready [] tested names = tt
in-turn opens may S T prefix formed ready (d ∷ drafts) tested names = (
  may T d (All-head (λ d. enterable T d ≡ names_enter T d.names) d drafts (tested T prefix) ∙ names.0),
  λ left.
      weaker-of-two (λ (e : Entered). StaysOpen T e.signature) (λ (e : Entered). NamesInTurn e.signature drafts) (λ (e : Entered). EnterInTurn e.signature drafts) (enter_draft_of T d left).0
      (opens T d left formed ready) (names.1 left)
      (λ e stays more.
      in-turn opens may S e.signature (prefix_transitive S T e.signature prefix (extends-prefix T e.signature stays.longer)) stays.well_formed stays.ready drafts
      (λ U p. All-tail (λ d. enterable U d ≡ names_enter U d.names) d drafts (tested U p)) more),
)

drafts-ok : (r : Result (List Draft) Stop) (P Q : List Draft → Type 0) → IfOk r P → ((drafts : List Draft) → r ≡ Ok drafts → P drafts → Q drafts) → IfOk r Q
drafts-ok (Ok drafts) P Q h go = go drafts refl h
drafts-ok (Err e) P Q h go = tt

pub enters-in_turn : FunctionNamesEnter → FunctionDraftsTested → EnteredIsOpen → UnmarkedIsOpen → EnterableMayEnter → FunctionEntersInTurn
enters-in_turn enter tested opens unmarks may S f plan h level formed first marks =
    drafts-ok (translate S plan) (NamesInTurn S) (EnterInTurn S) (enter S f plan h level) (λ drafts e turn.
    in-turn opens may S S (prefix_reflexive S) formed (unmarks S formed first marks) drafts (λ U p. tested S f plan drafts U h first p e) turn)
