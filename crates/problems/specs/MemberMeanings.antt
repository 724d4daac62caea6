-- The family of a variable's type that the code finds.
use Rattle.core_terms.specs.Meanings.{tele_of}
use Rattle.core_sig.specs.Meanings.{family_of}
use Rattle.case_trees.specs.Problems as problems
use Rattle.problems.specs.declared.members.Member.{Member}

abbrev pub member_meant : Member → problems.Member
member_meant m = record {
  n = m.number;
  family = family_of m.family.now;
  parameters = tele_of m.params;
  indices = tele_of m.indices;
}
