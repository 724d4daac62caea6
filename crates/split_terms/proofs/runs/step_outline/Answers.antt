use Rattle.std.proofs.Common.{sym, ◌∙◌, subst as transport}
use Rattle.std.proofs.lemmas.Result.{err_from_is_err_and}
use Rattle.core_terms.specs.Answers.{Gives}
use Rattle.core_terms.specs.Meanings.{tree_of}
use Rattle.core_terms.specs.TreeMeanings.{step_of}
use Rattle.run_terms.specs.outlines.OutlineMeanings.{outline_of}
use Rattle.run_terms.specs.CodeNaming.{naming_of}
use Rattle.run_terms.specs.StandingMeanings.{standing_of}
use Rattle.split_terms.proofs.OutlinedParts.{step-deep, step-later}
use Rattle.split_terms.proofs.runs.step_outline.Goals as goal

pub returns-in_err-around : goal.returns-in_err-around
returns-in_err-around c =
    let q = err_from_is_err_and c.from_residual.result c.from_residual.ensures.1 in
    rw (q.1, q.2)
    (λ other.
    step-deep c.args.sig.now (naming_of c.args.naming) c.args.level (standing_of c.args.s.now) (step_of c.args.step.now)
    (standing_of c.args.next.now) (outline_of c.args.inner) _ (c.in_err-around.ensures other))

pub returns : goal.returns
returns c =
    transport (Gives outline_of c.with_later.result)
    (step-later c.args.sig.now (naming_of c.args.naming) c.args.level (standing_of c.args.s.now) (step_of c.args.step.now)
    (standing_of c.args.next.now) (outline_of c.args.inner) (tree_of c.in_ok-around.around) c.in_ok-around.ensures
    (sym c.is_last.ensures ∙ c.if-is_last.false))
    c.with_later.ensures
