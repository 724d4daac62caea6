use Rattle.std.proofs.Common.{length, subst as transport}
use Rattle.core_terms.specs.Answers.{Gives}
use Rattle.core_terms.specs.TreeMeanings.{steps_of}
use Rattle.core_sig.specs.Meanings.{constructor_of}
use Rattle.problems.specs.MemberMeanings.{member_meant}
use Rattle.run_terms.specs.outlines.OutlineMeanings.{outline_of}
use Rattle.run_terms.specs.CodeNaming.{naming_of}
use Rattle.split_terms.specs.NodeMeanings.{node_of}
use Rattle.split_terms.proofs.BareRuns.{method-bare}
use Rattle.split_terms.proofs.methods.split_method.Goals as goal

pub returns : goal.returns
returns c =
    transport (Gives outline_of c.method_from.result)
    (method-bare c.args.sig.now (naming_of c.args.naming) c.args.level (node_of c.args.node.now) (member_meant c.args.m.now) c.args.x c.args.number
    (constructor_of (length c.args.m.now.family.now.params) c.args.con.now) (steps_of c.args.steps.now) (outline_of c.args.end))
    c.method_from.ensures
