use Rattle.std.proofs.Common.{subst}
use Rattle.std.specs.Prelude.{map, string_bytes}
use Rattle.elim.specs.program_texts.Words.{Asks}
use Rattle.elim.proofs.elim_program.running.answer.Goals as goal

pub returns-in-Ok-Compile-clause-wrote : goal.returns-in-Ok-Compile-clause-wrote
returns-in-Ok-Compile-clause-wrote g c = λ bytes is.
    c.compile.ensures.wrote (map string_bytes c.args.words.now) bytes (subst (Asks (map string_bytes c.args.words.now)) c.in-Ok-Compile.field-0-is c.in-Ok-Compile.ensures.ok) is

pub returns-in-Ok-Verify-clause-wrote : goal.returns-in-Ok-Verify-clause-wrote
returns-in-Ok-Verify-clause-wrote g c = λ bytes is.
    c.verify.ensures.wrote (map string_bytes c.args.words.now) bytes (subst (Asks (map string_bytes c.args.words.now)) c.in-Ok-Verify.field-0-is c.in-Ok-Verify.ensures.ok) is
