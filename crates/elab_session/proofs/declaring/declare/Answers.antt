use Rattle.theory.specs.Signatures.{IsPrefix}
use Rattle.theory.proofs.Pushing.{prefix_reflexive}
use Rattle.surface_syntax.specs.TreeMeanings.{decl_of}
use Rattle.elab_session.specs.Declaring.{accepted_as, declare_with}
use Rattle.elab_session.specs.Laws.{IsAsWritten}
use Rattle.elab_session.specs.Sessions.{IsReady}
use Rattle.elab_session.proofs.Answering.{answer-of, says, stays}
use Rattle.elab_session.proofs.Written.{declare-extends, declare-ready, declares-written}
use Rattle.elab_session.proofs.declaring.declare.Goals as goal

pub returns-clause-answer : goal.returns-clause-answer
returns-clause-answer c =
    answer-of (λ name. accepted_as name c.declare_with.new.sig) c.declare_with.result c.declare_with.new.units.left
    (declare_with c.args.sig.now c.args.fuel (decl_of c.args.d.now) c.args.fuel) c.declare_with.ensures.answer

pub returns-clause-longer : goal.returns-clause-longer
returns-clause-longer c =
    stays (IsPrefix c.args.sig.now) _ _ _ _ (returns-clause-answer c) c.declare_with.ensures.err
    (declare-extends c.args.sig.now c.args.fuel (decl_of c.args.d.now)) (prefix_reflexive c.args.sig.now)

pub returns-clause-ready : goal.returns-clause-ready
returns-clause-ready c =
    stays IsReady _ _ _ _ (returns-clause-answer c) c.declare_with.ensures.err
    (declare-ready c.args.sig.now c.args.fuel (decl_of c.args.d.now) c.requires.ready) c.requires.ready

pub returns-clause-written : goal.returns-clause-written
returns-clause-written c =
    says (IsAsWritten c.args.sig.now (decl_of c.args.d.now)) _ _ _ (returns-clause-answer c)
    (declares-written c.args.sig.now c.args.fuel (decl_of c.args.d.now) c.requires.ready.well_formed)
