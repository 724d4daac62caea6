use Rattle.drafts.proofs.draft_entering.rejecting.definition_denied.Goals as goal

pub returns-in-Denied-clause-answer : goal.returns-in-Denied-clause-answer
returns-in-Denied-clause-answer c =
    rw c.in-Denied.is (λ name type body is. c.or_memory.ensures _ (c.definition_rejection.ensures name type body is))
