use Rattle.std.proofs.Common.{◌∙◌, arith}
use Rattle.core_terms.specs.Meanings.{tree_of}
use Rattle.core_terms.proofs.Builders.{ok_is}
use Rattle.problems.specs.Meanings.{equations_of}
use Rattle.problems.proofs.Rooms.{code-few, put-here, put-proof, rest-room}
use Rattle.unifier.proofs.solving.behind_solved.Goals as goal

pub behind_first-requires-clause-size : goal.behind_first-requires-clause-size
behind_first-requires-clause-size c = let few = code-few c.args.s.now.ctx c.requires.state.context in omega arith

pub behind_first-requires-2-clause-size : goal.behind_first-requires-2-clause-size
behind_first-requires-2-clause-size c = let few = code-few c.args.s.now.ctx c.requires.state.context in omega arith

pub behind_first-requires-clause-terms : goal.behind_first-requires-clause-terms
behind_first-requires-clause-terms c =
    let few = code-few c.args.s.now.ctx c.requires.state.context in
    put-here c.args.solution.order.now c.args.solution.size c.args.depth (tree_of c.args.solution.by.now) (tree_of c.in_ok-by.by)
    (ok_is c.in_ok-by.ensures) c.requires.solution.by.0 c.requires.by_put (omega arith)

pub behind_first-requires-2-clause-terms : goal.behind_first-requires-2-clause-terms
behind_first-requires-2-clause-terms c =
    let few = code-few c.args.s.now.ctx c.requires.state.context in
    put-proof c.args.solution.order.now c.args.solution.size c.args.depth c.args.level (tree_of c.args.ty.now) (tree_of c.in_ok-ty.ty)
    (tree_of c.args.solution.by.now) (tree_of c.in_ok-copy_whole.field-0) (tree_of c.in_ok-refl.refl) (ok_is c.in_ok-refl.ensures)
    (ok_is c.in_ok-ty.ensures) (ok_is c.in_ok-copy_whole.ensures ∙ ok_is c.in_ok-by.ensures) c.requires.ty.0 c.requires.solution.by.0
    c.requires.ty_put c.requires.by_put (omega arith)

pub moved-requires-clause-depth : goal.moved-requires-clause-depth
moved-requires-clause-depth c =
    rest-room c.args.s.now.ctx (equations_of c.args.s.now.equations) c.behind_the_first.result.now c.args.depth c.requires.state.equations (omega arith)
    c.behind_the_first.ensures
