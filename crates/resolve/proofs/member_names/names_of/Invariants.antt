use Rattle.std.proofs.Common.{◌≡◌, map, take}
use Rattle.surface_syntax.specs.TreeMeanings.{member_of}
use Rattle.resolve.proofs.member_names.names_of.Given as goal

abbrev pub invariant-loop-member : goal.invariant-loop-member
invariant-loop-member l = l.names ≡ map (λ m. m.name.text) (map member_of (take l.member-index l.members))
