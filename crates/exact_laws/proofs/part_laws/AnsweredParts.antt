-- The trees of the parts of a plan are made, unless they are too high.
use Rattle.std.proofs.Common.{ℕ, List}
use Rattle.std.proofs.lemmas.Result.{IfOk-at_ok}
use Rattle.theory.specs.Terms.{Term}
use Rattle.theory.specs.Telescopes.{Telescope}
use Rattle.theory.specs.Signatures.{Signature}
use Rattle.core_terms.specs.Clauses.{clauses}
use Rattle.tree_translation.specs.structural_rec.Uses.{Use}
use Rattle.case_trees.specs.Laws.{IsGiven}
use Rattle.case_trees.specs.Points.{Point, start_at}
use Rattle.case_trees.specs.Scoped.{IsScopedTree}
use Rattle.case_trees.specs.Standing.{StandsAt}
use Rattle.case_trees.proofs.TreeStanding.{tree_scoped, tree_stands}
use Rattle.tree_translation.specs.Conditions.{with_function}
use Rattle.tree_translation.specs.Splits.{Node}
use Rattle.tree_translation.specs.TreeTerms.{Translation}
use Rattle.exact_laws.specs.translation_laws.Laws.{IsTreeOver, with_function_at}
use Rattle.exact_laws.proofs.translation_laws.FunctionTrees.{function_tree-answers, function_tree_names-answer}
use Rattle.exact_laws.specs.part_laws.Laws.{IsRooted, PartAnswers, PartNamesAnswer}

-- the tree of a part is over the point at which the part begins
part-over : (w : Translation) (uses : List Use) (at : ℕ) (context : Telescope) (goal : Term) (terms : List Term) (node : Node)
    → IsRooted w uses at context goal terms node → IsTreeOver (with_function_at w) (start_at context goal terms) w.part.tree node
part-over w uses at context goal terms node is = record {
  ready = is.ready;
  stands = IfOk-at_ok (StandsAt S start) is.part.splits (tree_stands S context goal terms (clauses is.part.clauses) is.part.units given is.part.fitting);
  scoped = IfOk-at_ok (IsScopedTree S) is.part.splits (tree_scoped S context goal terms (clauses is.part.clauses) is.part.units given is.part.fitting);
  is_seen = is.root.is_seen;
  hidden = is.root.hidden;
}
  where
    S : Signature
    S = with_function w.signature w.plan

    start : Point
    start = start_at context goal terms

    given : IsGiven (with_function w.signature w.plan) context goal terms
    given = record { ready = is.ready; scoped = is.scoped }

pub part-answers : PartAnswers
part-answers w uses at context goal terms node is leaves low =
    function_tree-answers w (start_at context goal terms) w.part.tree node (part-over w uses at context goal terms node is) leaves low

pub part_names-answer : PartNamesAnswer
part_names-answer w uses at context goal terms node names is low =
    function_tree_names-answer w (start_at context goal terms) w.part.tree node names (part-over w uses at context goal terms node is) low
