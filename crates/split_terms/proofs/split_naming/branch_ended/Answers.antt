use Rattle.std.proofs.Common.{length, map, subst as transport}
use Rattle.core_terms.specs.Answers.{Gives}
use Rattle.core_terms.specs.TreeMeanings.{steps_of}
use Rattle.core_sig.specs.Meanings.{constructor_of}
use Rattle.problems.specs.MemberMeanings.{member_meant}
use Rattle.split_terms.specs.NodeMeanings.{named_nodes_of, node_of}
use Rattle.split_terms.proofs.BareRuns.{branch-ended-bare}
use Rattle.split_terms.proofs.split_naming.branch_ended.Goals as goal

pub returns : goal.returns
returns c =
    transport (Gives named_nodes_of c.ended_from.result)
    (branch-ended-bare c.args.sig.now c.args.level (node_of c.args.node.now) (member_meant c.args.m.now) c.args.x c.args.number
    (constructor_of (length c.args.m.now.family.now.params) c.args.con.now) (steps_of c.args.steps.now) c.args.names (map node_of c.args.nodes))
    c.ended_from.ensures
