use Rattle.drafts.proofs.entering_laws.OpenSignatures.{well_formed-open}
use Rattle.function_session.proofs.function_lines.entering.is_open.Goals as goal

pub returns-clause-ready : goal.returns-clause-ready
returns-clause-ready c = λ yes. well_formed-open c.args.sig.now c.requires.well_formed c.requires.prelude (c.is_unmarked.ensures.tells yes)
