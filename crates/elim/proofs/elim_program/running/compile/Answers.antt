use Rattle.std.proofs.Common.{sym, ◌∙◌}
use Rattle.elim.specs.elim_program.DefinedOutputs.{compiles}
use Rattle.elim.specs.program_texts.Texts.{answer_of}
use Rattle.elim.proofs.program_texts.Asking.{Failure, Success, not_memory}
use Rattle.elim.proofs.elim_program.Whole.{follow}
use Rattle.elim.proofs.elim_program.running.compile.Goals as goal

pub returns-in-Ok-clause-wrote : goal.returns-in-Ok-clause-wrote
returns-in-Ok-clause-wrote g c = λ words bytes asks is.
    follow words bytes _ _ _ _ (compiles c.args.command (answer_of (Success c.in-Ok.decls)) asks (c.in-Ok.ensures bytes is)) c.write_output.ensures.follows

pub returns-else-is_memory-clause-wrote : goal.returns-else-is_memory-clause-wrote
returns-else-is_memory-clause-wrote g c = λ words bytes asks is.
    follow words bytes _ _ _ _ (compiles c.args.command (answer_of (Failure c.in-Err.stop)) asks (c.in-Err.ensures bytes is (not_memory c.in-Err.stop (sym c.is_memory.ensures ∙ c.if-is_memory.false)))) c.write_output-in-Err.ensures.follows
