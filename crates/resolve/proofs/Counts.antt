-- How many patterns are written.
use Rattle.std.proofs.Common.{◌≡◌, List, [], ◌∷◌, map, length, refl, arith}
use Rattle.surface_syntax.specs.Trees as surf
use Rattle.surface_syntax.specs.TreeMeanings as written
use Rattle.surface_syntax.specs.declared.tree.SurfPat.{SurfPat}
use Rattle.resolve.specs.Patterns.{count}

pub count_written : (pats : List SurfPat) → count (surf.pats (map written.pat_of pats)) ≡ length pats
count_written [] = refl
count_written (p ∷ pats) = omega (arith, count_written pats)
