-- The meanings of the code's members and comparisons.
use Rattle.std.specs.Prelude.{length}
use Rattle.core_terms.specs.Meanings.{tele_of}
use Rattle.core_sig.specs.Kinds.{HaveKinds}
use Rattle.core_sig.specs.Meanings.{constructor_of, family_of}
use Rattle.unification.specs.Built.{Built}
use Rattle.tree_translation.specs.Comparisons as pure
use Rattle.run_terms.specs.declared.comparisons.Comparison.{Comparison}
use Rattle.run_terms.specs.declared.comparisons.Member.{Member}

abbrev pub member_of : Member → Built
member_of m = record {
  n = m.built.family;
  number = m.built.number;
  family = family_of m.built.record.now;
  constructor = constructor_of (length m.built.record.now.params) m.built.con.now;
  parameters = tele_of m.parameters;
  arguments = tele_of m.arguments;
}

abbrev pub comparison_of : Comparison → pure.Comparison
comparison_of c = record {
  n = c.left.built.family;
  family = family_of c.left.built.record.now;
  parameters = tele_of c.parameters;
  left = member_of c.left;
  right = member_of c.right;
  indices = tele_of c.indices;
}

-- the arguments of the constructor have the kinds of their types
abbrev pub HasMemberKinds : Member → Type 0
HasMemberKinds m = HaveKinds m.built.family (family_of m.built.record.now) 0 m.built.con.now.args
