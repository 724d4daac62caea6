use Rattle.std.proofs.Common.{refl, ◌+◌, List, Ok, length, length-drop, ap, ap₂, sym, ◌∙◌, subst as transport, arith}
use Rattle.std.proofs.lemmas.List.{length-map}
use Rattle.core_terms.specs.Answers.{Gives}
use Rattle.core_terms.specs.Meanings.{tree_of, tele_of}
use Rattle.core_terms.proofs.Builders.{ok_is}
use Rattle.tele_eq.specs.Items.{items_of}
use Rattle.unification.specs.States.{Equation, equations_at}
use Rattle.problems.specs.Meanings.{equation_of, equations_of, state_of}
use Rattle.problems.proofs.InjectionRooms.{group-behind, joined-made, state-few}
use Rattle.unifier.proofs.SolvedStates.{none-before}
use Rattle.unifier.proofs.injecting.joined.Goals as goal

pub overflow_cast-size : goal.overflow_cast-size
overflow_cast-size c =
    let few = state-few c.args.s.now c.requires.state in
    let size = ap length c.as_slice-5.ensures in
    omega arith

pub behind_places-requires-clause-size : goal.behind_places-requires-clause-size
behind_places-requires-clause-size c =
    let few = state-few c.args.s.now c.requires.state in
    let size = ap length c.as_slice-5.ensures in
    omega arith

pub behind_places-requires-clause-count : goal.behind_places-requires-clause-count
behind_places-requires-clause-count c =
    let few = state-few c.args.s.now c.requires.state in
    let size = ap length c.as_slice-5.ensures in
    omega arith

pub behind_places-requires-2-clause-size : goal.behind_places-requires-2-clause-size
behind_places-requires-2-clause-size c =
    let few = state-few c.args.s.now c.requires.state in
    let size = ap length c.as_slice-5.ensures in
    omega arith

pub behind_places-requires-2-clause-count : goal.behind_places-requires-2-clause-count
behind_places-requires-2-clause-count c =
    let few = state-few c.args.s.now c.requires.state in
    let size = ap length c.as_slice-5.ensures in
    omega arith

pub overflow_add-size : goal.overflow_add-size
overflow_add-size c =
    let few = state-few c.args.s.now c.requires.state in
    let size = ap length c.as_slice-5.ensures in
    omega arith

pub overflow_add-depth : goal.overflow_add-depth
overflow_add-depth c =
    let few = state-few c.args.s.now c.requires.state in
    let size = ap length c.as_slice-5.ensures in
    let types = ap length c.as_slice-6.ensures in
    omega arith

pub behind_places-requires-clause-depth : goal.behind_places-requires-clause-depth
behind_places-requires-clause-depth c =
    let few = state-few c.args.s.now c.requires.state in
    let size = ap length c.as_slice-5.ensures in
    let types = ap length c.as_slice-6.ensures in
    omega arith

pub behind_places-requires-2-clause-depth : goal.behind_places-requires-2-clause-depth
behind_places-requires-2-clause-depth c =
    let few = state-few c.args.s.now c.requires.state in
    let size = ap length c.as_slice-5.ensures in
    let types = ap length c.as_slice-6.ensures in
    omega arith

pub moved-requires-clause-depth : goal.moved-requires-clause-depth
moved-requires-clause-depth c =
    let few = state-few c.args.s.now c.requires.state in
    let size = ap length c.as_slice-5.ensures in
    let types = ap length c.as_slice-6.ensures in
    let rest = ap length c.behind_group.ensures in
    let left = length-drop c.args.group (equations_of c.args.s.now.equations) in
    omega (arith, length-map c.args.s.now.equations equation_of, length-map c.behind_group.result.now equation_of)

pub moved-requires-clause-equations : goal.moved-requires-clause-equations
moved-requires-clause-equations c =
    group-behind c.args.s.now (length c.as_slice-5.result.now) c.args.group (equations_of c.behind_group.result.now) c.requires.state c.requires.group
    (ap length c.as_slice-5.ensures) c.behind_group.ensures

pub returns : goal.returns
returns c =
    let P : List Equation → Type 0 = λ es. Gives equations_of c.moved.result (Ok es) in
    transport P
    (joined-made (state_of c.args.s.now) c.args.group (items_of c.args.tele.now) (tele_of c.args.types.now) (tele_of c.args.left.now)
    (tele_of c.args.right.now) (tele_of c.args.terms.now) (tele_of c.args.proofs.now) (length c.as_slice-5.result.now)
    (length c.as_slice-5.result.now + length c.as_slice-6.result.now) _ _ (equations_of c.in_ok-made.made) (equations_of c.behind_group.result.now) _ refl
    (none-before c.new.result _ (equations_of c.in_ok-made.made) c.new.ensures (ok_is c.in_ok-made.ensures)
    ∙ (ap₂ (λ X types. equations_at (items_of X) (tele_of types) (tele_of c.as_slice-3.result.now) (tele_of c.as_slice-4.result.now)) c.as_slice.ensures c.as_slice-2.ensures
    ∙ ap₂ (λ us vs. equations_at (items_of c.args.tele.now) (tele_of c.args.types.now) (tele_of us) (tele_of vs)) c.as_slice-3.ensures c.as_slice-4.ensures))
    c.behind_places.ensures.environment c.behind_places-2.ensures.environment c.behind_group.ensures
    (ap (λ k. length c.as_slice-5.result.now + k) (ap length c.as_slice-6.ensures ∙ sym (length-map c.args.types.now tree_of)))
    (ap length c.as_slice-5.ensures ∙ sym (length-map c.args.s.now.ctx tree_of)))
    c.moved.ensures
