-- No reason for which a source file is refused is empty.
use Rattle.std.proofs.Common.{arith}
use Rattle.elim.specs.program_texts.Refusals.{StopsHaveReasons}
use Rattle.elim.specs.declared.program_texts.text_stop.TextStop.TheVariants as stop

pub stops-have-reasons : StopsHaveReasons
stops-have-reasons stop.Memory = omega arith
stops-have-reasons stop.TooLong = omega arith
stops-have-reasons (stop.NotUtf8 offset) = omega arith
stops-have-reasons (stop.BadToken offset) = omega arith
stops-have-reasons (stop.Nested offset) = omega arith
stops-have-reasons (stop.Syntax offset) = omega arith
stops-have-reasons (stop.NotCoreText offset) = omega arith
