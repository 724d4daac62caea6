use Rattle.std.proofs.Common.{Ok, length, refl, subst as transport}
use Rattle.core_terms.specs.Answers.{Gives}
use Rattle.core_terms.specs.TreeMeanings.{steps_of}
use Rattle.core_sig.specs.Meanings.{constructor_of}
use Rattle.problems.specs.MemberMeanings.{member_meant}
use Rattle.tree_translation.specs.TreeTerms as trees
use Rattle.split_terms.specs.NodeMeanings.{node_of}
use Rattle.split_terms.proofs.BareRuns.{end-bare}
use Rattle.function_entries.proofs.nodes.node_with.Goals as goal

pub returns : goal.returns
returns c =
    transport (Gives node_of c.node_from.result)
    (end-bare c.args.sig.now (node_of c.args.node.now) (member_meant c.args.m.now) c.args.x c.args.number
    (constructor_of (length c.args.m.now.family.now.params) c.args.con.now) (steps_of c.args.steps.now) (λ end. Ok (trees.node_of end)) (λ s. refl))
    c.node_from.ensures
