use Rattle.std.proofs.Common.{◌≡◌, true, IfOk, OnErr, OnOk, length, subst as transport}
use Rattle.theory.specs.Signatures.{IsPrefix}
use Rattle.theory.proofs.Pushing.{prefix_reflexive}
use Rattle.surface_syntax.specs.TreeMeanings.{decl_of}
use Rattle.clause_reports.proofs.Keeping.{weaker}
use Rattle.drafts.specs.draft_checks.Checks.{unmarked}
use Rattle.elab_session.specs.Sessions.{IsReady}
use Rattle.function_session.specs.Declaring.{declared_in, with_declared}
use Rattle.function_session.specs.Laws.{KeepsReady, IsAsDeclared}
use Rattle.function_session.specs.Meanings.{Answers, elaborated_in}
use Rattle.function_session.specs.Meant.{declared_meant}
use Rattle.function_session.specs.Sessions.{Session}
use Rattle.function_session.specs.function_laws.declaration_laws.Laws.{DeclaresUnmarked}
use Rattle.function_session.proofs.Answering.{says, stays}
use Rattle.function_session.proofs.SessionAnswers.{session-held, session-next, session-same, session_of}
use Rattle.function_session.proofs.HeldDecisions.{declare-ready, declared-held, declares-written}
use Rattle.function_session.proofs.session.Session.declare.Goals as goal

pub invariant_of-self : goal.invariant_of-self
invariant_of-self c =
    let s = session_of c.self.inside.sig c.self.inside.decisions.items c.self.inside.fuel in
    let d = decl_of c.args.d.now in (
      stays IsReady _ _ _ _ c.declare.ensures.answer c.declare.ensures.err
          (weaker (KeepsReady s.signature) (λ a. IsReady a.signature) (declared_in s d) (λ a h. h.ready) (declare-ready s d c.self.invariant.0))
          c.self.invariant.0,
      session-held c.self.inside.sig c.declare.new.sig c.self.inside.decisions.items c.declare.new.decisions.items d c.declare.result (declared_in s d)
          c.declare.ensures.answer c.declare.ensures.err c.declare.ensures.forgotten c.declare.ensures.kept
          (declared-held s d c.self.invariant.0 c.self.invariant.1) c.self.invariant.1,
    )

pub returns-clause-answer : goal.returns-clause-answer
returns-clause-answer c =
    transport (λ (s : Session). Answers c.declare.new.sig c.declare.result (declared_in s (decl_of c.args.d.now))) c.self.view_is
    c.declare.ensures.answer

pub returns-clause-meant : goal.returns-clause-meant
returns-clause-meant c =
    let s = session_of c.self.inside.sig c.self.inside.decisions.items c.self.inside.fuel in
    let d = decl_of c.args.d.now in
    transport (λ (s : Session). DeclaresUnmarked d → unmarked s.signature ≡ true → Answers c.declare.new.sig c.declare.result (declared_meant s d)) c.self.view_is (λ names marks.
    transport (Answers c.declare.new.sig c.declare.result) (c.declared_is_meant.ensures s d names marks) c.declare.ensures.answer)

pub returns-clause-err : goal.returns-clause-err
returns-clause-err c =
    transport (λ (s : Session). OnErr c.declare.result (session_of c.declare.new.sig c.declare.new.decisions.items c.self.inside.fuel ≡ s)) c.self.view_is
    (session-same c.declare.new.sig c.self.inside.sig c.declare.new.decisions.items c.self.inside.decisions.items c.self.inside.fuel c.declare.result c.declare.ensures.err c.declare.ensures.forgotten)

pub returns-clause-next : goal.returns-clause-next
returns-clause-next c =
    transport (λ (s : Session). OnOk c.declare.result (session_of c.declare.new.sig c.declare.new.decisions.items c.self.inside.fuel ≡ with_declared s (decl_of c.args.d.now) c.declare.new.sig)) c.self.view_is
    (session-next c.self.inside.sig c.declare.new.sig c.self.inside.decisions.items c.declare.new.decisions.items c.self.inside.fuel (decl_of c.args.d.now) c.declare.result c.declare.ensures.kept)

pub returns-clause-ready : goal.returns-clause-ready
returns-clause-ready c =
    let s = session_of c.self.inside.sig c.self.inside.decisions.items c.self.inside.fuel in
    let d = decl_of c.args.d.now in
    stays IsReady _ _ _ _ c.declare.ensures.answer c.declare.ensures.err
    (weaker (KeepsReady s.signature) (λ a. IsReady a.signature) (declared_in s d) (λ a h. h.ready) (declare-ready s d c.self.invariant.0))
    c.self.invariant.0

pub returns-clause-longer : goal.returns-clause-longer
returns-clause-longer c =
    let s = session_of c.self.inside.sig c.self.inside.decisions.items c.self.inside.fuel in
    let d = decl_of c.args.d.now in
    transport (λ (s : Session). IsPrefix s.signature c.declare.new.sig) c.self.view_is
    (stays (IsPrefix s.signature) _ _ _ _ c.declare.ensures.answer c.declare.ensures.err
    (weaker (KeepsReady s.signature) (λ a. IsPrefix s.signature a.signature) (declared_in s d) (λ a h. h.longer) (declare-ready s d c.self.invariant.0))
    (prefix_reflexive s.signature))

pub returns-clause-held : goal.returns-clause-held
returns-clause-held c =
    let s = session_of c.self.inside.sig c.self.inside.decisions.items c.self.inside.fuel in
    let d = decl_of c.args.d.now in
    session-held c.self.inside.sig c.declare.new.sig c.self.inside.decisions.items c.declare.new.decisions.items d c.declare.result (declared_in s d)
    c.declare.ensures.answer c.declare.ensures.err c.declare.ensures.forgotten c.declare.ensures.kept
    (declared-held s d c.self.invariant.0 c.self.invariant.1) c.self.invariant.1

pub returns-clause-written : goal.returns-clause-written
returns-clause-written c =
    let s = session_of c.self.inside.sig c.self.inside.decisions.items c.self.inside.fuel in
    let d = decl_of c.args.d.now in
    transport (λ (s : Session). IfOk c.declare.result (λ a. IsAsDeclared s d (elaborated_in c.declare.new.sig a))) c.self.view_is
    (says (IsAsDeclared s d) _ _ _ c.declare.ensures.answer (declares-written s d c.self.invariant.0))

pub returns-clause-begins : goal.returns-clause-begins
returns-clause-begins c =
    transport (λ (s : Session). IfOk c.declare.result (λ a. a.from ≡ length s.signature.entries)) c.self.view_is c.declare.ensures.begins
