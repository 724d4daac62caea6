use Rattle.std.proofs.Common.{map, ap, subst as transport}
use Rattle.core_terms.specs.Answers.{Gives}
use Rattle.core_terms.specs.TreeMeanings.{step_of, steps_of}
use Rattle.problems.proofs.LowTerms.{first-item}
use Rattle.run_terms.specs.outlines.OutlineMeanings.{outline_of}
use Rattle.run_terms.specs.CodeNaming.{naming_of}
use Rattle.run_terms.specs.StandingMeanings.{standing_of}
use Rattle.split_terms.proofs.RunSteps.{run-next}
use Rattle.split_terms.proofs.runs.+run_term.Goals as goal

pub returns-in_ok-inner-in-len1-up : goal.returns-in_ok-inner-in-len1-up
returns-in_ok-inner-in-len1-up t c =
    transport (Gives outline_of c.step_outline.result)
    (run-next c.args.sig.now (naming_of c.args.naming) c.args.level (outline_of c.args.end) (steps_of c.args.steps.now) _
    (step_of c.step-item.result) (standing_of c.args.s.now) (standing_of c.in_ok-next-in-len1-up.next) (outline_of c.in_ok-inner-in-len1-up.inner)
    (ap (map step_of) (first-item c.args.steps.now c.step-item.result c.in-len1-up.len_at_least c.step-item.is))
    c.in_ok-next-in-len1-up.ensures c.in_ok-inner-in-len1-up.ensures)
    c.step_outline.ensures
