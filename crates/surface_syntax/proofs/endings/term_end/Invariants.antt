use Rattle.std.proofs.Common.{◌≡◌}
use Rattle.surface_syntax.specs.Machine as machine
use Rattle.surface_syntax.specs.Endings.{outside}
use Rattle.surface_syntax.specs.TreeMeanings.{surf_of}
use Rattle.surface_syntax.specs.StateMeanings.{term_in_of}
use Rattle.surface_syntax.proofs.endings.term_end.Given as goal

abbrev pub invariant-outward : goal.invariant-outward
invariant-outward l =
    machine.term_end (surf_of l.t) (term_in_of l.context) l.lexeme ≡ machine.term_end (surf_of l.fn.t) (term_in_of l.fn.context) l.fn.lexeme

abbrev pub decreases-outward : goal.decreases-outward
decreases-outward l = outside (term_in_of l.context)
