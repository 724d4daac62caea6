use Rattle.std.proofs.Common.{length, ap}
use Rattle.core_sig.specs.Meanings.{entry_of}
use Rattle.core_text.specs.RawEntries.{entry_shown}
use Rattle.elim.proofs.elim_program.Entries.{can-enter}
use Rattle.elim.proofs.elim_program.RefusedBlocks.{made_refusal, after_refusal}
use Rattle.elim.proofs.elim_program.verifying.enter.Goals as goal

pub enter-requires-clause-entry : goal.enter-requires-clause-entry
enter-requires-clause-entry c = can-enter c.args.session.now.signature (entry_shown (length c.args.session.now.signature.entries) (entry_of c.args.entry)) c.requires.scoped

pub returns-in-Err-clause-made : goal.returns-in-Err-clause-made
returns-in-Err-clause-made c =
    made_refusal c.in-Err.refusal c.refusal_block.result _ c.args.name.now c.refusal_block.ensures.made c.refusal_block.ensures.memory c.in-Err.ensures.answer

pub returns-in-Err-clause-after : goal.returns-in-Err-clause-after
returns-in-Err-clause-after c =
    after_refusal c.args.session.now.signature c.enter.new.self.signature c.in-Err.refusal c.refusal_block.result _ (ap (λ s. s.signature) c.in-Err.ensures.err)
    c.refusal_block.ensures.memory c.in-Err.ensures.answer
