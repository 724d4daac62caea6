use Rattle.std.proofs.Common.{◌+◌}
use Rattle.surface_syntax.specs.Machine as machine
use Rattle.surface_syntax.specs.TreeMeanings.{surf_of}
use Rattle.surface_syntax.specs.StateMeanings.{term_in_of}
use Rattle.surface_syntax.proofs.Elsewhere.{after_in}
use Rattle.surface_syntax.proofs.closing.let_value_end.Goals as goal

pub returns : goal.returns
returns c =
    rw c.and.ensures
    (rw c.inside.ensures
    (after_in c.term_inside.result (machine.term (c.args.depth + 1) (machine.LetBody c.args.name (surf_of c.args.ty) (surf_of c.args.t) (term_in_of c.args.outer.value))) c.args.lexeme c.term_inside.ensures))
