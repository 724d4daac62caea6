-- The meanings of the code's pairs.
use Rattle.std.specs.Prelude.{List, [], ◌∷◌, map}
use Rattle.core_terms.specs.Meanings.{tree_of, tele_of}
use Rattle.core_terms.specs.PatternMeanings.{pat_of}
use Rattle.case_trees.specs.Pairs as pure
use Rattle.clause_walks.specs.declared.pairs.Pair.{Pair}
use Rattle.clause_walks.specs.declared.pairs.Pair.TheOpen as opened
use Rattle.clause_walks.specs.declared.pairs.Pair.TheFolds.{fold-Pair}

-- the pairs of a list
abbrev pub in_order : List pure.Pair → pure.Pairs
in_order [] = pure.nil
in_order (pair ∷ pairs) = pure.cons pair (in_order pairs)

-- a pair, once those of its arguments are given
abbrev pub pair_step : opened.Pair-F pure.Pair → pure.Pair
pair_step (opened.Waits pat t) = pure.Waits (pat_of pat.now) (tree_of t)
pair_step (opened.Binds t) = pure.Binds (tree_of t)
pair_step (opened.Passes t) = pure.Passes (tree_of t)
pair_step (opened.Keeps written t) = pure.Keeps (tree_of written.now) (tree_of t)
pair_step (opened.Builds n number ps pairs) = pure.Builds n number (tele_of ps) (in_order pairs)
pair_step (opened.Clashes pat t) = pure.Clashes (pat_of pat.now) (tree_of t)

abbrev pub pair_of : Pair → pure.Pair
pair_of = fold-Pair pure.Pair pair_step

abbrev pub pairs_of : List Pair → pure.Pairs
pairs_of pairs = in_order (map pair_of pairs)

-- the pairs that are made, and others after them
abbrev pub put_before : List pure.Pair → pure.Pairs → pure.Pairs
put_before [] pairs = pairs
put_before (pair ∷ made) pairs = pure.cons pair (put_before made pairs)

abbrev pub behind : List Pair → pure.Pairs → pure.Pairs
behind made pairs = put_before (map pair_of made) pairs
