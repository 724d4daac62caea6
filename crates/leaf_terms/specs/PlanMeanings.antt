-- The meanings of plans and of their parts in the code.
use Rattle.std.specs.Prelude.{List, map}
use Rattle.core_terms.specs.Meanings.{tree_of, tele_of}
use Rattle.core_terms.specs.PatternMeanings.{pats_of}
use Rattle.core_terms.specs.TreeMeanings.{case_tree_of, walk_of}
use Rattle.tree_translation.specs.Plans as pure
use Rattle.leaf_terms.specs.declared.plan.Part.{Part}
use Rattle.leaf_terms.specs.declared.plan.Plan.{Plan}

abbrev pub part_of : Part → pure.Part
part_of p = record {
  level = p.level;
  tele = tele_of p.tele;
  terms = tele_of p.terms;
  goal = tree_of p.goal;
  tree = case_tree_of p.tree;
  sides = tele_of p.sides;
  walks = map walk_of p.walks;
  pats = map pats_of p.pats;
}

abbrev pub parts_of : List Part → List pure.Part
parts_of parts = map part_of parts

abbrev pub plan_of : Plan → pure.Plan
plan_of plan = record {
  base = plan.base;
  name = plan.name;
  type = tree_of plan.ty;
  arity = plan.arity;
  level = plan.level;
  position = plan.position;
  parts = parts_of plan.parts;
}
