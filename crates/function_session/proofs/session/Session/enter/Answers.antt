use Rattle.std.proofs.Common.{IfOk, length, subst as transport}
use Rattle.theory.specs.Signatures.{IsPrefix}
use Rattle.core_sig.specs.Meanings.{entry_of}
use Rattle.core_text.specs.RawEntries.{entry_shown}
use Rattle.elab_session.specs.Adding.{IsAdded}
use Rattle.elab_session.specs.Entering.{Enters, enter_of}
use Rattle.function_session.specs.Sessions.{Session}
use Rattle.function_session.proofs.HeldDecisions.{all-held-on}
use Rattle.function_session.proofs.session.Session.enter.Goals as goal

pub invariant_of-self : goal.invariant_of-self
invariant_of-self c = (
  c.enter_entry.ensures.ready,
  all-held-on c.self.inside.sig c.enter_entry.new.sig c.self.inside.decisions.items c.enter_entry.ensures.longer c.self.invariant.1,
)

pub returns-clause-answer : goal.returns-clause-answer
returns-clause-answer c =
    transport (λ (s : Session). Enters c.enter_entry.new.sig c.enter_entry.result (enter_of s.signature s.fuel (entry_shown (length s.signature.entries) (entry_of c.args.entry)))) c.self.view_is
    c.enter_entry.ensures.answer

pub returns-clause-longer : goal.returns-clause-longer
returns-clause-longer c = transport (λ (s : Session). IsPrefix s.signature c.enter_entry.new.sig) c.self.view_is c.enter_entry.ensures.longer

pub returns-clause-added : goal.returns-clause-added
returns-clause-added c =
    transport (λ (s : Session). IfOk c.enter_entry.result (λ n. IsAdded s.signature (entry_shown (length s.signature.entries) (entry_of c.args.entry)) c.enter_entry.new.sig)) c.self.view_is
    c.enter_entry.ensures.added
