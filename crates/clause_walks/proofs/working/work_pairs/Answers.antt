use Rattle.std.proofs.Common.{subst}
use Rattle.core_terms.specs.Answers.{IsUnforeseen, Runs}
use Rattle.core_terms.proofs.Answers.{spends-has}
use Rattle.case_trees.specs.Working.{of_columns, work_pairs}
use Rattle.clause_walks.specs.Meanings.{pairs_of}
use Rattle.clause_walks.specs.PairConditions.{AreKeptPairs}
use Rattle.clause_walks.proofs.WorkedStates.{worked-kept}
use Rattle.clause_walks.proofs.WorkingCodes.{first-made}
use Rattle.clause_walks.proofs.working.work_pairs.Goals as goal

pub returns-clause-answer : goal.returns-clause-answer
returns-clause-answer c =
    subst (λ meant. Runs pairs_of c.work_onto.result c.work_onto.new.kernel.left meant) (first-made c.new-made.result _ c.new-made.ensures) c.work_onto.ensures.answer

pub returns-clause-kept : goal.returns-clause-kept
returns-clause-kept c = λ n kept.
    spends-has IsUnforeseen (λ e. e) pairs_of (AreKeptPairs c.args.sig.now n) c.work_onto.result c.work_onto.new.kernel.left (work_pairs c.args.sig.now of_columns (pairs_of c.args.pairs.now) c.args.kernel.now.left)
    (subst (λ meant. Runs pairs_of c.work_onto.result c.work_onto.new.kernel.left meant) (first-made c.new-made.result _ c.new-made.ensures) c.work_onto.ensures.answer)
    (worked-kept c.args.sig.now n (pairs_of c.args.pairs.now) c.args.kernel.now.left c.requires.ready.scoped kept)
