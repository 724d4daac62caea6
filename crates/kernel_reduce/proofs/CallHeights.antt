-- A spine is as high as its head.
use Rattle.std.proofs.Common.{◌≤◌, List, [], ◌∷◌, arith}
use Rattle.theory.specs.Terms.{Term, height}
use Rattle.theory.specs.Terms.Term.{App}
use Rattle.theory.specs.Telescopes.{applied}

pub height_applied : (h : Term) (us : List Term) → height h ≤ height (applied h us)
height_applied h [] = omega arith
height_applied h (u ∷ us) = let k = height_applied (App h u) us in omega arith
