-- The meanings of the code's points.
use Rattle.core_terms.specs.Meanings.{tree_of, tele_of}
use Rattle.case_trees.specs.Points as pure
use Rattle.clause_walks.specs.declared.points.Point.{Point}

abbrev pub point_of : Point → pure.Point
point_of p = record {
  context = tele_of p.context;
  goal = tree_of p.goal;
  substitution = tele_of p.substitution;
  terms = tele_of p.terms;
}
