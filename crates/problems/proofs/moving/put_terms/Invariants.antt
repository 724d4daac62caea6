use Rattle.std.proofs.Common.{◌≡◌, map, take}
use Rattle.core_terms.specs.Meanings.{tree_of}
use Rattle.tele_eq.specs.Environments.{put}
use Rattle.problems.specs.CodeMoves.{environment_of}
use Rattle.problems.proofs.moving.put_terms.Given as goal

abbrev pub invariant-loop-t : goal.invariant-loop-t
invariant-loop-t l =
    map tree_of l.made ≡ map (put (environment_of l.places) l.size l.depth) (map tree_of (take l.t-index l.terms))
