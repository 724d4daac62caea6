use Rattle.std.proofs.Common.{subst as transport}
use Rattle.core_terms.specs.Answers.{Gives}
use Rattle.run_terms.specs.StandingMeanings.{standing_of}
use Rattle.split_terms.specs.CodeRunTerms.{rule_names_made}
use Rattle.split_terms.proofs.names.with_step.Goals as goal

pub returns : goal.returns
returns c =
    transport
    (λ step. Gives (λ ns. ns) c.with_rule.result (rule_names_made c.args.sig.now c.args.level (standing_of c.args.s.now) step step.rule c.args.names))
    c.requires c.with_rule.ensures
