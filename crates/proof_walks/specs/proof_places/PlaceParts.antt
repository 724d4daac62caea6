-- The parts of a place after a solution that the code makes apart.
use Rattle.std.specs.Prelude.{Bool, ◌&&◌, List, map}
use Rattle.theory.specs.Terms.{Term}
use Rattle.theory.specs.Telescopes.{Telescope}
use Rattle.core_terms.specs.Answers.{is_low, are_low}
use Rattle.case_trees.specs.Points.{under_solution}
use Rattle.clause_reports.specs.ProofWalks.{Place}

abbrev pub place_is_low : Place → Bool
place_is_low p = are_low p.context && (is_low p.type && (is_low p.left && (is_low p.right && (are_low p.terms && are_low p.values))))

-- in a new context, where the variables of the old one have these terms
abbrev pub place_under : Place → Telescope → (own : List Term) → Place
place_under p context own = record {
  context = context;
  type = under_solution own p.type;
  left = under_solution own p.left;
  right = under_solution own p.right;
  terms = map (under_solution own) p.terms;
  values = map (under_solution own) p.values;
}
