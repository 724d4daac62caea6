-- The meaning of the variable that a node is split on.
use Rattle.std.specs.Prelude.{Option, option_map, IfSome}
use Rattle.case_trees.specs.Problems.{Member}
use Rattle.problems.specs.MemberMeanings.{member_meant}
use Rattle.split_terms.specs.NodeMeanings.{IsWhole}
use Rattle.function_entries.specs.declared.nodes.SplitVariable.{SplitVariable}

abbrev pub family_of_split : SplitVariable → Option Member
family_of_split v = option_map member_meant v.member

-- the family has all its parameters, and its arguments have the kinds of their types
abbrev pub IsWholeSplit : SplitVariable → Type 0
IsWholeSplit v = IfSome v.member IsWhole
