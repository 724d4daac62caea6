-- The meanings of the code's turns.
use Rattle.core_terms.specs.TreeMeanings.{walk_of}
use Rattle.clause_walks.specs.CodeWalks as pure
use Rattle.clause_walks.specs.Meanings.{pairs_of}
use Rattle.clause_walks.specs.PointMeanings.{point_of}
use Rattle.clause_walks.specs.declared.turns.Next.{Next}
use Rattle.clause_walks.specs.declared.turns.Next.TheVariants.{GoesOn, Ended}

abbrev pub next_meant : Next → pure.Next
next_meant (GoesOn p pairs) = pure.GoesOn (point_of p) (pairs_of pairs)
next_meant (Ended w) = pure.Ended (walk_of w)
