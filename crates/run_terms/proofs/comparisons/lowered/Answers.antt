use Rattle.std.proofs.Common.{Ok, sym, subst as transport}
use Rattle.theory.specs.Terms.{Term}
use Rattle.core_terms.specs.Answers.{Gives}
use Rattle.core_terms.specs.Meanings.{tree_of}
use Rattle.problems.proofs.Lowering.{lowered-is}
use Rattle.run_terms.proofs.comparisons.lowered.Goals as goal

pub returns : goal.returns
returns c =
    let P : Term → Type 0 = λ t. Gives tree_of c.lowered_at.result (Ok t) in
    transport P (sym (lowered-is c.args.k (tree_of c.args.t.now))) c.lowered_at.ensures
