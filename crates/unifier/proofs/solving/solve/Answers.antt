use Rattle.std.proofs.Common.{length, ap, sym, ◌∙◌, refl, subst as transport, arith}
use Rattle.std.proofs.lemmas.List.{length-map}
use Rattle.core_terms.specs.Answers.{Gives}
use Rattle.core_terms.specs.Meanings.{tree_of, tele_of}
use Rattle.core_terms.proofs.Builders.{ok_is}
use Rattle.unification.specs.Heights.{bounded_state}
use Rattle.unification.specs.Occurrences.{order_without}
use Rattle.unification.specs.States as pure
use Rattle.problems.specs.Meanings.{state_of}
use Rattle.problems.specs.declared.moving.Solution.{Solution}
use Rattle.problems.proofs.PutTerms.{free-in_order}
use Rattle.problems.proofs.Rooms.{code-few}
use Rattle.unifier.proofs.SolvedStates.{solved-is}
use Rattle.unifier.proofs.solving.solve.Goals as goal

pub new_order-requires-clause-few : goal.new_order-requires-clause-few
new_order-requires-clause-few c =
    let few = code-few c.args.s.now.ctx c.requires.state.context in
    let e = ap length c.as_slice-ctx.ensures in
    omega arith

pub solved-requires-clause-few : goal.solved-requires-clause-few
solved-requires-clause-few c =
    let few = code-few c.args.s.now.ctx c.requires.state.context in
    let e = ap length c.as_slice-ctx.ensures in
    let order = ap length c.as_slice.ensures.value in
    let fewer = c.in_ok-order.ensures.fewer in
    omega arith

pub solved-requires-clause-ty_put : goal.solved-requires-clause-ty_put
solved-requires-clause-ty_put c =
    let e = ap length c.as_slice-ctx.ensures in
    let many = length-map c.args.s.now.ctx tree_of in
    free-in_order (tele_of c.args.s.now.ctx) c.args.p (length c.as_slice-ctx.result.now) c.as_slice.result.now (tree_of c.args.ty.now)
    (c.as_slice.ensures.value ∙ (ok_is c.in_ok-order.ensures.order ∙ ap (λ ctx. order_without (tele_of ctx) c.args.p) c.as_slice-ctx.ensures))
    (e ∙ sym many) (omega arith) c.requires.ty_lacks (omega (arith, c.requires.ty.1))

pub solved-requires-clause-by_put : goal.solved-requires-clause-by_put
solved-requires-clause-by_put c =
    let e = ap length c.as_slice-ctx.ensures in
    let many = length-map c.args.s.now.ctx tree_of in
    free-in_order (tele_of c.args.s.now.ctx) c.args.p (length c.as_slice-ctx.result.now) c.as_slice.result.now (tree_of c.args.by.now)
    (c.as_slice.ensures.value ∙ (ok_is c.in_ok-order.ensures.order ∙ ap (λ ctx. order_without (tele_of ctx) c.args.p) c.as_slice-ctx.ensures))
    (e ∙ sym many) (omega arith) c.requires.by_lacks (omega (arith, c.requires.by.1))

pub returns-clause-answer : goal.returns-clause-answer
returns-clause-answer c =
    let P : pure.State → Type 0 = λ s. Gives (λ b. state_of b.value) c.solved.result (bounded_state s) in
    let solution : Solution =
    record { size = length c.as_slice-ctx.result.now; order = c.as_slice.result; level = c.args.p; by = c.args.by } in
    transport P
    (solved-is (state_of c.args.s.now) c.args.level c.args.p (tree_of c.args.ty.now) solution
    (ap length c.as_slice-ctx.ensures ∙ sym (length-map c.args.s.now.ctx tree_of)) refl
    (c.as_slice.ensures.value ∙ (ok_is c.in_ok-order.ensures.order ∙ ap (λ ctx. order_without (tele_of ctx) c.args.p) c.as_slice-ctx.ensures)))
    c.solved.ensures.answer
