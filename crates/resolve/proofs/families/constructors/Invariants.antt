use Rattle.std.proofs.Common.{◌≡◌, ◌++◌, map, take, drop}
use Rattle.core_sig.specs.Raw.{raw_constructor_of}
use Rattle.surface_syntax.specs.TreeMeanings.{con_of}
use Rattle.resolve.specs.Families as spec
use Rattle.resolve.specs.Scopes.{names_of, known_of}
use Rattle.resolve.proofs.Collecting.{onto}
use Rattle.resolve.proofs.families.constructors.Given as goal

abbrev pub invariant-loop-con : goal.invariant-loop-con
invariant-loop-con l =
    (spec.constructors l.known.sig.now (known_of l.known) (names_of l.scope) l.initial.declared (map con_of l.cons)
    ≡ onto (map raw_constructor_of l.raw) (spec.constructors l.known.sig.now (known_of l.known) (names_of l.scope) l.declared (map con_of (drop l.con-index l.cons))))
    × (l.declared ≡ l.initial.declared ++ spec.names_of (map con_of (take l.con-index l.cons)))
