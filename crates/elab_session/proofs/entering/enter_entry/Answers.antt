use Rattle.std.proofs.Common.{length, ap, ◌∙◌, subst as transport}
use Rattle.core_terms.proofs.Answers.{stands-has}
use Rattle.core_terms.proofs.Builders.{ok_is}
use Rattle.theory.specs.Signatures.{IsPrefix}
use Rattle.theory.proofs.Pushing.{prefix_reflexive}
use Rattle.core_sig.specs.Meanings.{entry_of}
use Rattle.core_text.specs.RawEntries.{RawEntry, entry_shown}
use Rattle.family_check.specs.Entering.{entered_at}
use Rattle.elab_session.specs.Adding.{IsAdded}
use Rattle.elab_session.specs.Entering.{Enters, enter_of, enter_with}
use Rattle.elab_session.specs.Meanings.{raw_entry_of}
use Rattle.elab_session.specs.Refusals.{IsUnforeseen}
use Rattle.elab_session.specs.Sessions.{IsReady}
use Rattle.elab_session.proofs.Adding.{enter-adds}
use Rattle.elab_session.proofs.Answering.{answer-of}
use Rattle.elab_session.proofs.Entered.{enter-extends, enter-ready, entry-stays}
use Rattle.elab_session.proofs.entering.enter_entry.Goals as goal

pub returns-clause-answer : goal.returns-clause-answer
returns-clause-answer c =
    transport (λ (raw : RawEntry). Enters c.enter.new.sig c.enter.result (enter_of c.args.sig.now c.args.fuel raw))
    (ok_is c.in-Ok.ensures ∙ ap (λ n. entry_shown n (entry_of c.args.entry)) c.len.ensures)
    (answer-of (entered_at c.enter.new.sig) c.enter.result c.enter.new.units.left
    (enter_with c.args.sig.now 0 c.args.fuel (raw_entry_of c.in-Ok.raw) c.args.fuel) c.enter.ensures.answer)

pub returns-clause-longer : goal.returns-clause-longer
returns-clause-longer c =
    entry-stays (IsPrefix c.args.sig.now) _ _ _ _ (returns-clause-answer c) c.enter.ensures.err
    (enter-extends c.args.sig.now c.args.fuel (entry_shown (length c.args.sig.now.entries) (entry_of c.args.entry))) (prefix_reflexive c.args.sig.now)

pub returns-clause-added : goal.returns-clause-added
returns-clause-added c =
    let raw = entry_shown (length c.args.sig.now.entries) (entry_of c.args.entry) in
    stands-has IsUnforeseen (λ e. e) (entered_at c.enter.new.sig) (λ x. IsAdded c.args.sig.now raw x.signature) c.enter.result _
    (returns-clause-answer c) (enter-adds c.args.sig.now c.args.fuel raw)

pub returns-clause-ready : goal.returns-clause-ready
returns-clause-ready c =
    entry-stays IsReady _ _ _ _ (returns-clause-answer c) c.enter.ensures.err
    (enter-ready c.args.sig.now c.args.fuel (entry_shown (length c.args.sig.now.entries) (entry_of c.args.entry)) c.requires.ready c.requires.entry)
    c.requires.ready
