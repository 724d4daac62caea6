use Rattle.std.proofs.Common.{◌≡◌, ◌++◌, map, drop}
use Rattle.surface_syntax.specs.Trees as surf
use Rattle.surface_syntax.specs.TreeMeanings as written
use Rattle.resolve.specs.Patterns as spec
use Rattle.resolve.proofs.patterns.+variables.Given as goal

abbrev pub invariant-add_variables-loop-pat : goal.invariant-add_variables-loop-pat
invariant-add_variables-loop-pat l =
    l.initial.names ++ spec.bound_all l.sig (surf.pats (map written.pat_of l.pats))
    ≡ l.names ++ spec.bound_all l.sig (surf.pats (map written.pat_of (drop l.pat-index l.pats)))
