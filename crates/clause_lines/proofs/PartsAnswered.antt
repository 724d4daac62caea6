-- The parts of a report that the code makes are those of the definition, and so the report is.
use Rattle.leaf_terms.proofs.RecursionFound.{recursion-found}
use Rattle.entry_laws.proofs.replay_laws.ReplayedSteps.{after_step-is_step}
use Rattle.clause_equations.proofs.MadeEquations.{equation-made-is}
use Rattle.proof_walks.proofs.proof_terms.ProofsMade.{candidate-is}
use Rattle.proof_walks.proofs.WalkLaws.{walk-answers}
use Rattle.clause_lines.specs.Laws.{ReportAnswers, ReportMadeKeepsWellFormed}
use Rattle.clause_lines.proofs.ReportsAnswered.{ArePartsAnswered, answered, kept}

parts : ArePartsAnswered
parts = record {
  recursion = recursion-found;
  steps = after_step-is_step;
  equations = equation-made-is;
  candidates = candidate-is;
  walks = walk-answers;
}

pub report-answers : ReportAnswers
report-answers = answered parts

pub report-keeps-well-formed : ReportMadeKeepsWellFormed
report-keeps-well-formed = kept parts
