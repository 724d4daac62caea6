-- The decisions of a session stay there, whatever is declared; and an accepted decision is as written.
use Rattle.std.proofs.Common.{◌≡◌, ◌-◌, List, [], ◌∷◌, ◌++◌, All, length, Result, Ok, Err, IfOk, refl, sym, ap, ap₂, subst as transport, arith, length-append}
use Rattle.std.proofs.lemmas.List.Elements.{All-push, All-weaker}
use Rattle.theory.specs.Signatures.{Signature, Entry, Definition, FamilyOf, IsEntryAt, IsPrefix}
use Rattle.theory.specs.WellFormed.{pushed}
use Rattle.theory.proofs.Lists.{slice_get-last}
use Rattle.theory.proofs.Widening.{prefix_keeps}
use Rattle.elab_session.specs.Declaring.{Declared, accepted_as}
use Rattle.elab_session.specs.Sessions.{IsReady}
use Rattle.elab_session.specs.declared.refusal.Refusal.{Refusal}
use Rattle.surface_syntax.specs.Trees as surf
use Rattle.surface_syntax.specs.declared.tree.Word.{Word}
use Rattle.function_session.specs.Declaring.{declared_in, decisions_with, session_after}
use Rattle.function_session.specs.Elaborating.{Elaborated}
use Rattle.function_session.specs.Laws.{DeclareHoldsDecisions, DeclareKeepsReady, DeclaresAsWritten, IsAsDeclared, KeepsReady}
use Rattle.function_session.specs.Sessions.{Session}
use Rattle.function_session.specs.decisions.Declaring.{kept_if}
use Rattle.function_session.specs.decisions.Entering.{accepted_at}
use Rattle.function_session.specs.decisions.Laws.{HoldsDecisions, IsHeld, IsWrittenDecision, type_of_decision}
use Rattle.function_session.specs.function_lines.Opened.{draft_in}
use Rattle.function_session.specs.declared.decisions.decision.Decision.{Decision}
use Rattle.function_session.proofs.Keeping.{elaborate-ready}
use Rattle.function_session.proofs.Written.{elaborates-written}
use Rattle.function_session.proofs.DeclaredDecisions.{decided-entered, decision-has}
use Rattle.function_session.proofs.EnteredDrafts.{entered-grows, entered-typed}
use Rattle.function_session.proofs.function_lines.Results.{longer-ready}
use Rattle.function_session.proofs.mutual_families.EnteredInductions.{session-brings}
use Rattle.function_session.proofs.mutual_families.WrittenMutual.{mutual-ready, mutual-written}

-- ---- the signature

decision-ready : (s : Session) (x family into : Word) → IsReady s.signature → IfOk (declared_in s (surf.Decide x family into)) (KeepsReady s.signature)
decision-ready s x family into ready =
    decision-has (KeepsReady s.signature) s.signature s.decisions s.fuel x family into (λ given T d.
    let entered = decided-entered s.signature s.decisions s.fuel x family into given T d in
    let grows = entered-grows s.signature x.text (type_of_decision given.family d.decided given.into) d.draft T entered in
    record { longer = grows.prefix; ready = longer-ready s.signature T ready grows.prefix (grows.keeps ready.well_formed ready.prelude) })

pub declare-ready : DeclareKeepsReady
declare-ready s (surf.Def x ty body) ready = elaborate-ready s.signature s.fuel (surf.Def x ty body) ready
declare-ready s (surf.Data x params ty cons) ready = elaborate-ready s.signature s.fuel (surf.Data x params ty cons) ready
declare-ready s (surf.Decide x family into) ready = decision-ready s x family into ready
declare-ready s (surf.Mutual params members family tag tags) ready =
    mutual-ready draft_in session-brings s.signature s.fuel (surf.Mutual params members family tag tags) ready
declare-ready s (surf.Fun x ty clauses) ready = elaborate-ready s.signature s.fuel (surf.Fun x ty clauses) ready

-- ---- as written

decision-written : (s : Session) (x family into : Word) → IsReady s.signature
    → IfOk (declared_in s (surf.Decide x family into)) (IsWrittenDecision s x family into)
decision-written s x family into ready =
    decision-has (IsWrittenDecision s x family into) s.signature s.decisions s.fuel x family into (λ given T d.
    let type = type_of_decision given.family d.decided given.into in
    let entered = decided-entered s.signature s.decisions s.fuel x family into given T d in
    let grows = entered-grows s.signature x.text type d.draft T entered in
    record {
      given = given;
      resolved = d.resolved;
      decided = d.decided;
      there = d.there;
      plain = d.plain;
      draft = d.draft;
      drafted = d.drafted;
      before = entered.before;
      body = entered.body;
      longer = entered.longer.prefix;
      settled = entered.settled;
      typed = entered-typed s.signature x.text type d.draft T entered ready.well_formed ready.prelude;
      accepted = ap₂ accepted_as d.name entered.is;
      formed = grows.keeps ready.well_formed ready.prelude;
      lines = refl;
    })

pub declares-written : DeclaresAsWritten
declares-written s (surf.Def x ty body) ready = elaborates-written s.signature s.fuel (surf.Def x ty body) ready
declares-written s (surf.Data x params ty cons) ready = elaborates-written s.signature s.fuel (surf.Data x params ty cons) ready
declares-written s (surf.Decide x family into) ready = decision-written s x family into ready
declares-written s (surf.Mutual params members family tag tags) ready =
    mutual-written draft_in session-brings s.signature s.fuel (surf.Mutual params members family tag tags) tt ready
declares-written s (surf.Fun x ty clauses) ready = elaborates-written s.signature s.fuel (surf.Fun x ty clauses) ready

-- ---- decisions

held-on : (S T : Signature) → IsPrefix S T → (d : Decision) → IsHeld S d → IsHeld T d
held-on S T longer d h = record {
  decided = h.decided;
  there = (prefix_keeps longer).entry d.family (FamilyOf h.decided) h.there;
  name = h.name;
  body = h.body;
  entry = (prefix_keeps longer).entry d.entry (Definition h.name (type_of_decision d.family h.decided d.into) h.body) h.entry;
}

pub all-held-on : (S T : Signature) (decisions : List Decision) → IsPrefix S T → All (IsHeld S) decisions → All (IsHeld T) decisions
all-held-on S T decisions longer all = All-weaker (IsHeld S) (IsHeld T) (held-on S T longer) decisions all

-- the number of the last entry
last-at : (S T : Signature) (e : Entry) → T ≡ pushed S e → IsEntryAt T (length T.entries - 1) e
last-at S T e is =
    transport (λ (U : Signature). IsEntryAt U (length U.entries - 1) e) (sym is)
    (transport (λ n. IsEntryAt (pushed S e) n e) number (slice_get-last S.entries e))
  where
    number : length S.entries ≡ length (S.entries ++ e ∷ []) - 1
    number = omega (arith, length-append S.entries (e ∷ []))

written-held : (s : Session) (x family into : Word) (a : Elaborated) (w : IsWrittenDecision s x family into a) → IsPrefix s.signature a.signature
    → IsHeld a.signature (accepted_at w.given a.signature)
written-held s x family into a w longer =
    let type = type_of_decision w.given.family w.decided w.given.into in
    record {
      decided = w.decided;
      there = (prefix_keeps longer).entry w.given.family (FamilyOf w.decided) w.there;
      name = x.text;
      body = w.body;
      entry = last-at w.before a.signature (Definition x.text type w.body) (ap (λ (d : Declared). d.signature) w.accepted);
    }

-- the decisions that were accepted, and then this one
pub decision-held : (s : Session) (x family into : Word) (a : Elaborated) → IsWrittenDecision s x family into a → IsPrefix s.signature a.signature
    → HoldsDecisions s → All (IsHeld a.signature) (decisions_with s.signature s.decisions (surf.Decide x family into) a.signature)
decision-held s x family into a w longer held =
    transport (λ r. All (IsHeld a.signature) (kept_if s.decisions r a.signature)) (sym w.resolved)
    (All-push (IsHeld a.signature) s.decisions (accepted_at w.given a.signature) (all-held-on s.signature a.signature s.decisions longer held)
    (written-held s x family into a w longer))

-- the decisions after a declaration, where it is accepted
with-held : (s : Session) (d : surf.Decl) (a : Elaborated) → KeepsReady s.signature a → IsAsDeclared s d a → HoldsDecisions s
    → All (IsHeld a.signature) (decisions_with s.signature s.decisions d a.signature)
with-held s (surf.Def x ty body) a kept is held = all-held-on s.signature a.signature s.decisions kept.longer held
with-held s (surf.Data x params ty cons) a kept is held = all-held-on s.signature a.signature s.decisions kept.longer held
with-held s (surf.Decide x family into) a kept is held = decision-held s x family into a is kept.longer held
with-held s (surf.Mutual params members family tag tags) a kept is held = all-held-on s.signature a.signature s.decisions kept.longer held
with-held s (surf.Fun x ty clauses) a kept is held = all-held-on s.signature a.signature s.decisions kept.longer held

-- the decisions once a declaration is accepted
held-if : (s : Session) (d : surf.Decl) (r : Result Elaborated Refusal) → IfOk r (KeepsReady s.signature) → IfOk r (IsAsDeclared s d) → HoldsDecisions s
    → IfOk r (λ a. All (IsHeld a.signature) (decisions_with s.signature s.decisions d a.signature))
held-if s d (Ok a) kept is held = with-held s d a kept is held
held-if s d (Err e) kept is held = tt

pub declared-held : (s : Session) (d : surf.Decl) → IsReady s.signature → HoldsDecisions s
    → IfOk (declared_in s d) (λ a. All (IsHeld a.signature) (decisions_with s.signature s.decisions d a.signature))
declared-held s d ready held = held-if s d (declared_in s d) (declare-ready s d ready) (declares-written s d ready) held

after-held : (s : Session) (d : surf.Decl) (r : Result Elaborated Refusal) → IfOk r (KeepsReady s.signature) → IfOk r (IsAsDeclared s d)
    → HoldsDecisions s → HoldsDecisions (session_after s d r)
after-held s d (Ok a) kept is held = with-held s d a kept is held
after-held s d (Err e) kept is held = held

pub holds-decisions : DeclareHoldsDecisions
holds-decisions s d ready held = after-held s d (declared_in s d) (declare-ready s d ready) (declares-written s d ready) held
