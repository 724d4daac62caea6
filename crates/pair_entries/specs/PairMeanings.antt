-- The meanings of recursion on a pair of positions, and of plans over a pair.
use Rattle.theory.specs.Signatures.{Signature, FamilyOf, IsEntryAt}
use Rattle.leaf_terms.specs.RecursionMeanings.{recursion_of}
use Rattle.lex_recursion.specs.PairEntries as pure
use Rattle.core_terms.specs.Meanings.{tree_of, tele_of}
use Rattle.core_terms.specs.TreeMeanings.{case_tree_of}
use Rattle.lex_recursion.specs.PairPlans as plans
use Rattle.pair_entries.specs.declared.pair_plan.PairPlan.{PairPlan}
use Rattle.pair_entries.specs.declared.recursions.PairRecursion.{PairRecursion}

abbrev pub pair_of : PairRecursion → pure.PairRecursion
pair_of p = record { outer = recursion_of p.outer; inner = recursion_of p.inner }

-- the families of both positions are in the signature
abbrev pub HaveBothFamilies : Signature → pure.PairRecursion → Type 0
HaveBothFamilies S p =
    IsEntryAt S p.outer.admission.number (FamilyOf p.outer.family) × IsEntryAt S p.inner.admission.number (FamilyOf p.inner.family)

abbrev pub pair_plan_of : PairPlan → plans.PairPlan
pair_plan_of p = record {
  name = p.name;
  type = tree_of p.ty;
  arity = p.arity;
  level = p.level;
  first = p.first;
  second = p.second;
  goal = tree_of p.goal;
  tree = case_tree_of p.tree;
  sides = tele_of p.sides;
}
