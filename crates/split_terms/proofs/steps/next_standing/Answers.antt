use Rattle.std.proofs.Common.{subst as transport}
use Rattle.core_terms.specs.Answers.{Gives}
use Rattle.run_terms.specs.CodeRuns.{after_rule}
use Rattle.run_terms.specs.StandingMeanings.{standing_of}
use Rattle.split_terms.proofs.steps.next_standing.Goals as goal

pub returns : goal.returns
returns c =
    transport (λ step. Gives standing_of c.after_rule.result (after_rule c.args.sig.now (standing_of c.args.s.now) step step.rule)) c.requires
    c.after_rule.ensures
