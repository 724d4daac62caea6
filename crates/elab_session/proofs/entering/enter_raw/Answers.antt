use Rattle.theory.specs.Signatures.{IsPrefix}
use Rattle.theory.proofs.Pushing.{prefix_reflexive}
use Rattle.elab_session.specs.Meanings.{raw_entry_of}
use Rattle.elab_session.specs.Sessions.{IsReady}
use Rattle.elab_session.proofs.Entered.{entry-extends, entry-left, entry-ready}
use Rattle.elab_session.proofs.entering.enter_raw.Goals as goal

pub returns-clause-longer : goal.returns-clause-longer
returns-clause-longer c =
    entry-left (IsPrefix c.args.sig.now) c.args.sig.now c.enter.new.sig c.args.start c.args.fuel c.args.units.now.left c.enter.new.units.left (raw_entry_of c.args.raw)
    c.enter.result c.enter.ensures.answer c.enter.ensures.err
    (entry-extends c.args.sig.now (raw_entry_of c.args.raw) c.args.units.now.left) (prefix_reflexive c.args.sig.now)

pub returns-clause-ready : goal.returns-clause-ready
returns-clause-ready c =
    entry-left IsReady c.args.sig.now c.enter.new.sig c.args.start c.args.fuel c.args.units.now.left c.enter.new.units.left (raw_entry_of c.args.raw)
    c.enter.result c.enter.ensures.answer c.enter.ensures.err
    (entry-ready c.args.sig.now (raw_entry_of c.args.raw) c.args.units.now.left c.requires.ready c.requires.entry) c.requires.ready
