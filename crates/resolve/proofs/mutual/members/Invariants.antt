use Rattle.std.proofs.Common.{◌≡◌, ◌++◌, map, take, drop}
use Rattle.core_sig.specs.Raw as raw
use Rattle.surface_syntax.specs.TreeMeanings.{member_of}
use Rattle.resolve.specs.Mutual as spec
use Rattle.resolve.specs.Names.{scope_of, known_in, with_constants}
use Rattle.resolve.proofs.Collecting.{onto}
use Rattle.resolve.proofs.mutual.members.Given as goal

abbrev pub invariant-loop-m : goal.invariant-loop-m
invariant-loop-m l =
    (spec.members l.sig (with_constants l.names.first l.names.names (known_in l.sig)) (scope_of l.params) l.initial.declared (map member_of l.list)
    ≡ onto (map raw.member_of l.made) (spec.members l.sig (with_constants l.names.first l.names.names (known_in l.sig)) (scope_of l.params) l.declared (map member_of (drop l.m-index l.list))))
    × (l.declared ≡ l.initial.declared ++ spec.names_of_all (map member_of (take l.m-index l.list)))
