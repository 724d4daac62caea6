use Rattle.std.proofs.Common.{subst as transport}
use Rattle.core_terms.specs.Answers.{Gives}
use Rattle.core_terms.specs.Meanings.{tree_of}
use Rattle.problems.specs.MemberMeanings.{member_meant}
use Rattle.run_terms.specs.outlines.OutlineMeanings.{outline_of}
use Rattle.split_terms.proofs.OutlinedParts.{end-next}
use Rattle.split_terms.proofs.splitting.split_end.Goals as goal

pub returns : goal.returns
returns c =
    transport (Gives outline_of c.at_head.result)
    (end-next (member_meant c.args.m.now) c.args.x (outline_of c.args.head) (tree_of c.in_ok-around.around) c.in_ok-around.ensures)
    c.at_head.ensures
