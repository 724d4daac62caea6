-- The lines of what is accepted are the reports of its clauses.
use Rattle.std.proofs.Common.{◌≡◌, ℕ, Ok, sym, ap, ◌∙◌, subst}
use Rattle.theory.specs.Signatures.{Signature}
use Rattle.surface_syntax.specs.Trees as surf
use Rattle.surface_syntax.specs.declared.tree.Word.{Word}
use Rattle.resolve.specs.Functions.{Function}
use Rattle.tree_translation.specs.Plans.{Plan}
use Rattle.clause_reports.specs.elaboration.Functions.{planned_of}
use Rattle.elab_session.specs.Sessions.{IsReady}
use Rattle.function_session.specs.Declaring.{declared_in}
use Rattle.function_session.specs.Elaborating.{Elaborated}
use Rattle.function_session.specs.Evidence.{references_from}
use Rattle.function_session.specs.Laws.{IsAsDeclared, IsWrittenFunction}
use Rattle.function_session.specs.Sessions.{Session}
use Rattle.function_session.proofs.equation_laws.LeftShowing.{ok-is}
use Rattle.elim.specs.headline.line_laws.Lines.{AreReported}
use Rattle.elim.specs.headline.line_laws.Laws.{HasReportedLines}
use Rattle.elim.proofs.headline.line_laws.Functions.{declaration-reports}
use Rattle.elim.proofs.elim_program.Lines.{if_ok}
use Rattle.elim.specs.headline.verified_laws.AcceptedLines.{IsReported, LinesAreReports}

-- the plan of the reports is that with which the function is accepted
reports-of : (S : Signature) (fuel : ℕ) (x : Word) (ty : surf.Surf) (clauses : surf.Clauses) (a : Elaborated) → HasReportedLines S fuel x ty clauses a
    → (w : IsWrittenFunction S fuel x ty clauses a) → AreReported S a.signature w.plan (references_from 0 w.plan.parts) a.lines
reports-of S fuel x ty clauses a h w =
    let given : h.given ≡ w.given = ok-is (sym h.resolved ∙ w.resolved) in
    let plan : h.plan ≡ w.plan = ok-is (sym h.planned ∙ ap (λ (f : Function). (planned_of S f fuel).0) given ∙ w.planned) in
    subst (λ (p : Plan). AreReported S a.signature p (references_from 0 p.parts) a.lines) plan h.lines

reported : (s : Session) (d : surf.Decl) (a : Elaborated) → IsReady s.signature → declared_in s d ≡ Ok a → (w : IsAsDeclared s d a) → IsReported s d a w
reported s (surf.Fun x ty clauses) a ready is written =
    let S = s.signature in
    reports-of S s.fuel x ty clauses a
    (if_ok (HasReportedLines S s.fuel x ty clauses) (declared_in s (surf.Fun x ty clauses)) a is (declaration-reports S s.fuel x ty clauses ready)) written
reported s (surf.Def x ty body) a ready is written = written.lines
reported s (surf.Data x params ty cons) a ready is written = written.lines
reported s (surf.Decide x family into) a ready is written = written.lines
reported s (surf.Mutual params members family tag tags) a ready is written = written.lines

pub lines_are_reports : LinesAreReports
lines_are_reports words bytes above name a = reported a.session a.declaration a.accepted a.ready a.elaborated a.written
