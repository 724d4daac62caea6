use Rattle.std.specs.Str.Parse.{ParsesUnsigned, ExplainsUnsignedError, HasUnsignedDigitsIfOk}
use Rattle.elim.proofs.program_texts.FuelNumbers.{fuel_read}
use Rattle.elim.proofs.program_texts.command_line.fuel.Goals as goal

pub returns-clause-some : goal.returns-clause-some
returns-clause-some c = λ text n is reads.
    let read = fuel_read (λ bs r. ParsesUnsigned 64 10 bs r × ExplainsUnsignedError 10 bs r × HasUnsignedDigitsIfOk bs r) (λ u x g. g.0)
    text n c.get_one.result reads (c.get_one.ensures.value text is) in
    rw read at c.unwrap_or.ensures
