use Rattle.std.proofs.Common.{◌≡◌, length}
use Rattle.core_sig.specs.Meanings.{entry_of}
use Rattle.core_text.specs.RawEntries.{entry_shown}
use Rattle.elim.specs.elim_program.Verifies.{read_block}
use Rattle.elim.specs.declared.program_texts.status.Status.TheVariants.{NoMemory}
use Rattle.elim.proofs.elim_program.Following.{no_block}
use Rattle.elim.proofs.elim_program.verifying.write_entry_line.Goals as goal

pub returns-in-Err-clause-written : goal.returns-in-Err-clause-written
returns-in-Err-clause-written g c =
    let h = c.in-Err.ensures.memory in
    let lost : c.in-Err.status ≡ NoMemory = cc in
    no_block _ c.in-Err.status (read_block c.args.session.now.signature c.args.session.now.fuel (entry_shown (length c.args.session.now.signature.entries) (entry_of c.args.entry))) lost

pub returns-in-Err-enter-clause-written : goal.returns-in-Err-enter-clause-written
returns-in-Err-enter-clause-written g c =
    let lost : c.in-Err-enter.status ≡ NoMemory = c.in-Err-enter.ensures.made in
    no_block _ c.in-Err-enter.status (read_block c.args.session.now.signature c.args.session.now.fuel (entry_shown (length c.args.session.now.signature.entries) (entry_of c.args.entry))) lost
