use Rattle.std.proofs.Common.{◌≡◌, ◌++◌, map, take, drop}
use Rattle.core_terms.specs.Meanings.{tele_of}
use Rattle.surface_syntax.specs.TreeMeanings.{param_of}
use Rattle.resolve.specs.Families as spec
use Rattle.resolve.specs.Scopes.{known_of}
use Rattle.resolve.proofs.Collecting.{onto}
use Rattle.resolve.proofs.families.parameters.Given as goal

abbrev pub invariant-loop-param : goal.invariant-loop-param
invariant-loop-param l =
    (spec.parameters (known_of l.known) l.initial.names (map param_of l.params)
    ≡ onto (tele_of l.types) (spec.parameters (known_of l.known) l.names (map param_of (drop l.param-index l.params))))
    × (l.names ≡ l.initial.names ++ spec.names_of (map param_of (take l.param-index l.params)))
