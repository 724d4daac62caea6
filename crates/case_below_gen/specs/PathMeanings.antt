-- The meanings of the values of a descent.
use Rattle.core_terms.specs.Meanings.{tree_of}
use Rattle.core_sig.specs.Shapes.{shape_of}
use Rattle.case_below_gen.specs.declared.paths.Descent.{Descent as DescentOfCode}
use Rattle.case_below_gen.specs.Paths.{Descent}

abbrev pub descent_of : DescentOfCode → Descent
descent_of d = record {
  family = d.fam;
  shape = shape_of d.family.now;
  m = d.m;
  below = d.below;
  motive = tree_of d.motive.now;
  part = tree_of d.part.now;
}
