use Rattle.std.proofs.Common.{ℕ, ◌<◌, ◌≤◌, IfOk, length, subst as transport, arith}
use Rattle.std.proofs.lemmas.List.{length-map}
use Rattle.std.proofs.lemmas.Result.{err_from_is_err_and}
use Rattle.theory.specs.Terms.{height}
use Rattle.core_terms.specs.Meanings.{tree_of, tele_of}
use Rattle.with_abstraction.specs.Meanings.{forms_of, abstracted_of}
use Rattle.with_abstraction.specs.Laws.{IsScopedAbstraction}
use Rattle.kernel_reduce.proofs.Runs.{runs-has}
use Rattle.with_abstraction.proofs.ScopedAbstractions.{abstraction-scoped}
use Rattle.with_abstraction.proofs.NormalRuns.{abstraction-refused, abstraction-deep, abstraction-runs}
use Rattle.with_abstraction.proofs.abstracting.abstract_over_with.Goals as goal

pub returns-in_err-forms-clause-answer : goal.returns-in_err-forms-clause-answer
returns-in_err-forms-clause-answer c =
    let q = err_from_is_err_and c.from_residual.result c.from_residual.ensures.1 in
    rw (q.1, q.2)
    (λ other. abstraction-refused c.args.kernel.now.signature (tele_of c.args.ctx.now) (tree_of c.args.goal.now) (tree_of c.args.scrutinee.now)
    (tree_of c.args.ty.now) c.args.kernel.now.left _ _ (c.in_err-forms.ensures.answer other))

pub returns-then-height-gt-MAX_HEIGHT-clause-answer :
    goal.returns-then-height-gt-MAX_HEIGHT-clause-answer
returns-then-height-gt-MAX_HEIGHT-clause-answer c =
    let e = c.height.ensures in
    let above = c.if-height-gt-MAX_HEIGHT.true in
    let high : 2000 < height (tree_of c.args.ty.now) = omega arith in
    λ other. abstraction-deep c.args.kernel.now.signature (tele_of c.args.ctx.now) (tree_of c.args.goal.now) (tree_of c.args.scrutinee.now)
    (tree_of c.args.ty.now) (forms_of c.in_ok-forms.forms) c.args.kernel.now.left _ high c.in_ok-forms.ensures.answer

pub returns-clause-answer : goal.returns-clause-answer
returns-clause-answer c =
    let e = c.height.ensures in
    let below = c.if-height-gt-MAX_HEIGHT.false in
    let low : height (tree_of c.args.ty.now) ≤ 2000 = omega arith in
    abstraction-runs c.abstracted.result c.args.kernel.now.signature (tele_of c.args.ctx.now) (tree_of c.args.goal.now) (tree_of c.args.scrutinee.now)
    (tree_of c.args.ty.now) (forms_of c.in_ok-forms.forms) c.args.kernel.now.left _ low c.abstracted.ensures c.in_ok-forms.ensures.answer

pub returns-clause-scoped : goal.returns-clause-scoped
returns-clause-scoped c =
    let e = c.height.ensures in
    let below = c.if-height-gt-MAX_HEIGHT.false in
    let low : height (tree_of c.args.ty.now) ≤ 2000 = omega arith in
    let P : ℕ → Type 0 = λ n. IfOk c.abstracted.result (λ a. IsScopedAbstraction c.args.kernel.now.signature n (abstracted_of a)) in
    transport P (length-map c.args.ctx.now tree_of)
    (runs-has abstracted_of (IsScopedAbstraction c.args.kernel.now.signature (length (tele_of c.args.ctx.now))) _ _ _
    (abstraction-runs c.abstracted.result c.args.kernel.now.signature (tele_of c.args.ctx.now) (tree_of c.args.goal.now) (tree_of c.args.scrutinee.now)
    (tree_of c.args.ty.now) (forms_of c.in_ok-forms.forms) c.args.kernel.now.left c.normal_forms.new.kernel.left low c.abstracted.ensures c.in_ok-forms.ensures.answer)
    (abstraction-scoped c.args.kernel.now.signature (tele_of c.args.ctx.now) (tree_of c.args.goal.now) (tree_of c.args.scrutinee.now) (tree_of c.args.ty.now)
    c.args.kernel.now.left c.requires.given))
