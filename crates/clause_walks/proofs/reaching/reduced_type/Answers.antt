use Rattle.std.proofs.Common.{true, length, arith}
use Rattle.std.proofs.lemmas.List.{length-map}
use Rattle.core_terms.specs.Meanings.{tree_of, tele_of}
use Rattle.problems.proofs.RecordSizes.{scoped-over}
use Rattle.clause_walks.proofs.LookCodes.{head-given, scoped-reduces, type-made}
use Rattle.clause_walks.proofs.reaching.reduced_type.Goals as goal

pub type_of_variable-requires-clause-context : goal.type_of_variable-requires-clause-context
type_of_variable-requires-clause-context c = scoped-over c.args.kernel.now.signature 0 (tele_of c.args.ctx.now) c.requires.context.scoped

pub whnf-requires : goal.whnf-requires
whnf-requires c =
    scoped-reduces c.args.kernel.now.signature (length c.args.ctx.now) (tree_of c.in_ok-ty.ty) c.requires.ready
    (omega (arith, length-map c.args.ctx.now tree_of, c.requires.context.few))
    (type-made c.args.kernel.now.signature c.args.ctx.now c.args.x (tree_of c.in_ok-ty.ty) c.requires.context c.requires.variable c.in_ok-ty.ensures)

pub returns-clause-given : goal.returns-clause-given
returns-clause-given c =
    head-given c.args.kernel.now.signature (length c.args.ctx.now) true (tree_of c.in_ok-ty.ty) c.whnf.result
    (omega (arith, length-map c.args.ctx.now tree_of, c.requires.context.few)) c.whnf.ensures.form
    (c.whnf.ensures.scoped (length c.args.ctx.now)
    (type-made c.args.kernel.now.signature c.args.ctx.now c.args.x (tree_of c.in_ok-ty.ty) c.requires.context c.requires.variable c.in_ok-ty.ensures))
