use Rattle.std.proofs.Common.{Ok, arith, rules}
use Rattle.core_terms.specs.Answers.{IsUnforeseen}
use Rattle.core_terms.specs.Levels.{run}
use Rattle.core_terms.specs.Meanings.{tele_of}
use Rattle.core_terms.proofs.Answers.{stands-has}
use Rattle.tele_eq.specs.Items.{AreSmallTerms}
use Rattle.tele_eq.proofs.SmallRuns.{small-run}
use Rattle.tele_eq.proofs.runs.variables_of_run.Goals as goal

pub returns-clause-small : goal.returns-clause-small
returns-clause-small c =
    stands-has IsUnforeseen (λ e. e) tele_of AreSmallTerms c.run_from.result (Ok (run c.args.depth c.args.start c.args.count)) (search rules)
    (small-run c.args.depth c.args.start c.args.count c.requires.depth)
