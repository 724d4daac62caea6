use Rattle.std.proofs.Common.{◌∷◌, [], length, ap, ap₂, sym, ◌∙◌, subst as transport, arith}
use Rattle.std.proofs.lemmas.List.{length-map}
use Rattle.theory.specs.Signatures.{reflexivity}
use Rattle.core_terms.specs.Answers.{Gives}
use Rattle.core_terms.specs.Meanings.{tree_of}
use Rattle.core_terms.proofs.Builders.{ok_is}
use Rattle.problems.specs.Meanings.{equations_of, state_of}
use Rattle.problems.proofs.Rooms.{code-few, rest-room}
use Rattle.unifier.proofs.SolvedStates.{deleted-is, none-before}
use Rattle.unifier.proofs.solving.delete.Goals as goal

pub behind_first-requires-clause-size : goal.behind_first-requires-clause-size
behind_first-requires-clause-size c = let few = code-few c.args.s.now.ctx c.requires.state.context in let e = ap length c.as_slice.ensures in omega arith

pub behind_first-requires-2-clause-size : goal.behind_first-requires-2-clause-size
behind_first-requires-2-clause-size c = let few = code-few c.args.s.now.ctx c.requires.state.context in let e = ap length c.as_slice.ensures in omega arith

pub moved-requires-clause-depth : goal.moved-requires-clause-depth
moved-requires-clause-depth c =
    let e = ap length c.as_slice.ensures in
    rest-room c.args.s.now.ctx (equations_of c.args.s.now.equations) c.behind_the_first.result.now (length c.as_slice.result.now) c.requires.state.equations (omega arith)
    c.behind_the_first.ensures

pub returns-clause-answer : goal.returns-clause-answer
returns-clause-answer c =
    transport (Gives (λ b. state_of b.value) c.with_equations.result)
    (deleted-is (state_of c.args.s.now) c.args.level (tree_of c.args.ty.now) (tree_of c.args.left.now) (length c.as_slice.result.now) _ _
    (tree_of c.in_ok-copy_whole-3.field-0 ∷ []) (tree_of c.in_ok-refl.refl ∷ [])
    (equations_of c.behind_the_first.result.now) (equations_of c.in_ok-equations.equations)
    (none-before c.new.result _ (equations_of c.in_ok-equations.equations) c.new.ensures (ok_is c.in_ok-equations.ensures))
    c.behind_first.ensures.environment c.behind_first-2.ensures.environment
    (ap (λ t. t ∷ []) (ok_is c.in_ok-copy_whole-3.ensures))
    (ap (λ t. t ∷ []) (ok_is c.in_ok-refl.ensures
    ∙ ap₂ (λ A u. reflexivity c.args.level A u) (ok_is c.in_ok-copy_whole.ensures) (ok_is c.in_ok-copy_whole-2.ensures)))
    c.behind_the_first.ensures
    (ap length c.as_slice.ensures ∙ sym (length-map c.args.s.now.ctx tree_of)))
    c.with_equations.ensures.answer
