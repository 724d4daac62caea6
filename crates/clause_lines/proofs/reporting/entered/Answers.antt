use Rattle.core_sig.specs.Drafts.{draft_of}
use Rattle.proof_walks.specs.proof_terms.ProofMeanings.{proof_of}
use Rattle.clause_lines.specs.LineMeanings.{clause_of}
use Rattle.clause_lines.proofs.EnteredLines.{denied-answers, entered-proved}
use Rattle.clause_lines.proofs.reporting.entered.Goals as goal

pub returns-in-Ok-clause-answer : goal.returns-in-Ok-clause-answer
returns-in-Ok-clause-answer c =
    entered-proved c.args.sig.now c.enter_draft.new.sig (clause_of c.args.c) (proof_of c.args.proof.now) (draft_of c.args.draft.now) c.in-Ok.number
    c.args.units.now.left c.enter_draft.new.units.left c.in-Ok.ensures.answer

pub returns-in-Err-clause-answer : goal.returns-in-Err-clause-answer
returns-in-Err-clause-answer c =
    denied-answers c.args.sig.now c.enter_draft.new.sig c.in-Err.ensures.err (clause_of c.args.c) (proof_of c.args.proof.now) (draft_of c.args.draft.now)
    c.args.units.now.left c.enter_draft.new.units.left c.denied.new.units.left c.in-Err.stop c.in-Err.ensures.answer c.denied.result c.denied.ensures.answer
