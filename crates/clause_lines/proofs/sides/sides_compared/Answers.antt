use Rattle.std.proofs.Common.{[], ◌∷◌, sym, ap, ◌∙◌, subst as transport}
use Rattle.std.proofs.lemmas.Result.{err_from_is_err_and}
use Rattle.core_terms.specs.Meanings.{tree_of}
use Rattle.kernel_reduce.specs.WellScoped.{CanReduce}
use Rattle.clause_reports.specs.Stops.{halting}
use Rattle.drafts.specs.declared.draft_entering.stop.ReportStop.TheVariants.{Stop}
use Rattle.clause_lines.proofs.ReducedPlaces.{compared-is, compared-reduce}
use Rattle.clause_lines.proofs.sides.sides_compared.Goals as goal

pub convertible-requires : goal.convertible-requires
convertible-requires c =
    transport (λ S. CanReduce S (tree_of c.args.u.now ∷ tree_of c.args.v.now ∷ [])) (sym c.requires.kernel)
    (compared-reduce c.args.sig.now c.args.n (tree_of c.args.u.now) (tree_of c.args.v.now) c.requires.signature c.requires.few
    (sym c.can_be_compared.ensures ∙ c.if-can_be_compared.true))

pub returns-in_err-convertible-clause-answer : goal.returns-in_err-convertible-clause-answer
returns-in_err-convertible-clause-answer c =
    let q = err_from_is_err_and c.from_residual.result c.from_residual.ensures.1 in
    rw (q.1, q.2)
    (λ other.
    ap halting (c.in_err-convertible.ensures.answer (λ e. other (ap Stop e)))
    ∙ compared-is c.args.kernel.now.signature c.args.sig.now c.requires.kernel c.args.n (tree_of c.args.u.now) (tree_of c.args.v.now) c.args.kernel.now.left
    (sym c.can_be_compared.ensures ∙ c.if-can_be_compared.true))

pub returns-in_ok-convertible-clause-answer : goal.returns-in_ok-convertible-clause-answer
returns-in_ok-convertible-clause-answer c =
    ap halting c.in_ok-convertible.ensures.answer
    ∙ compared-is c.args.kernel.now.signature c.args.sig.now c.requires.kernel c.args.n (tree_of c.args.u.now) (tree_of c.args.v.now) c.args.kernel.now.left
    (sym c.can_be_compared.ensures ∙ c.if-can_be_compared.true)
