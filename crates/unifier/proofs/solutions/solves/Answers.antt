use Rattle.std.proofs.Common.{true, false, Ok, Some, sym, ap, ◌∙◌}
use Rattle.std.proofs.lemmas.Result.{err_from_is_err_and}
use Rattle.core_terms.specs.Meanings.{tree_of}
use Rattle.core_terms.proofs.Builders.{ok_is}
use Rattle.kernel_reduce.specs.Reduction.{answered, nesting, normal_of}
use Rattle.unification.specs.Solutions.{if_free}
use Rattle.problems.specs.Meanings.{state_of}
use Rattle.unifier.proofs.SolutionTrials.{refused-none, refused-first, solves-none, solves-same, solves-normal, solves-form}
use Rattle.unifier.proofs.solutions.solves.Goals as goal

pub returns-then-not-is_free_of-clause-answer : goal.returns-then-not-is_free_of-clause-answer
returns-then-not-is_free_of-clause-answer c =
    solves-none c.args.kernel.now.signature (state_of c.args.s.now) c.args.x (tree_of c.args.ty.now) (tree_of c.args.u.now) c.args.kernel.now.left
    (sym c.is_free_of.ensures ∙ c.if-not-is_free_of.true)

pub returns-in_err-copy_whole-clause-answer : goal.returns-in_err-copy_whole-clause-answer
returns-in_err-copy_whole-clause-answer c =
    let q = err_from_is_err_and c.from_residual.result c.from_residual.ensures.1 in
    rw (q.1, q.2) (refused-none _ (tree_of c.args.u.now) _ _ c.in_err-copy_whole.ensures)

pub returns-then-is_free_of-clause-answer : goal.returns-then-is_free_of-clause-answer
returns-then-is_free_of-clause-answer c =
    ap (λ u. answered (Ok (Some u)) c.args.kernel.now.left) (ok_is c.in_ok-copy_whole.ensures)
    ∙ solves-same c.args.kernel.now.signature (state_of c.args.s.now) c.args.x (tree_of c.args.ty.now) (tree_of c.args.u.now) c.args.kernel.now.left
    (sym c.is_free_of.ensures ∙ c.if-not-is_free_of.false) (sym c.is_free_of-2.ensures ∙ c.if-is_free_of.true)

pub returns-in_err-u-clause-answer : goal.returns-in_err-u-clause-answer
returns-in_err-u-clause-answer c =
    let q = err_from_is_err_and c.from_residual-in_err-u.result c.from_residual-in_err-u.ensures.1 in
    let s = state_of c.args.s.now in
    rw (q.1, q.2)
    (λ other. refused-first _ c.normal.new.self.left (normal_of c.args.kernel.now.signature true nesting (tree_of c.args.u.now) c.args.kernel.now.left)
    (λ v rest. answered (Ok (if_free s c.args.x v)) rest) c.in_err-u.ensures.answer other
    ∙ solves-normal c.args.kernel.now.signature s c.args.x (tree_of c.args.ty.now) (tree_of c.args.u.now) c.args.kernel.now.left
    (sym c.is_free_of.ensures ∙ c.if-not-is_free_of.false) (sym c.is_free_of-2.ensures ∙ c.if-is_free_of.false))

pub returns-then-is_free_of-2-clause-answer : goal.returns-then-is_free_of-2-clause-answer
returns-then-is_free_of-2-clause-answer c =
    solves-form c.args.kernel.now.signature (state_of c.args.s.now) c.args.x (tree_of c.args.ty.now) (tree_of c.args.u.now) (tree_of c.in_ok-u.u) c.args.kernel.now.left
    c.normal.new.self.left true
    (sym c.is_free_of.ensures ∙ c.if-not-is_free_of.false) (sym c.is_free_of-2.ensures ∙ c.if-is_free_of.false)
    c.in_ok-u.ensures.answer (sym c.is_free_of-3.ensures ∙ c.if-is_free_of-2.true)

pub returns-else-is_free_of-2-clause-answer : goal.returns-else-is_free_of-2-clause-answer
returns-else-is_free_of-2-clause-answer c =
    solves-form c.args.kernel.now.signature (state_of c.args.s.now) c.args.x (tree_of c.args.ty.now) (tree_of c.args.u.now) (tree_of c.in_ok-u.u) c.args.kernel.now.left
    c.normal.new.self.left false
    (sym c.is_free_of.ensures ∙ c.if-not-is_free_of.false) (sym c.is_free_of-2.ensures ∙ c.if-is_free_of.false)
    c.in_ok-u.ensures.answer (sym c.is_free_of-3.ensures ∙ c.if-is_free_of-2.false)
