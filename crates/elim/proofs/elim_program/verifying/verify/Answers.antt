use Rattle.std.proofs.Common.{subst}
use Rattle.elim.specs.elim_program.DefinedOutputs.{verifies}
use Rattle.elim.specs.elim_program.Outputs.{compiled}
use Rattle.elim.specs.elim_program.Runs.{Follows}
use Rattle.elim.specs.program_texts.Texts.{limited}
use Rattle.elim.specs.elim_program.Verifies.{file_block}
use Rattle.elim.proofs.elim_program.Whole.{follow}
use Rattle.elim.proofs.elim_program.verifying.verify.Goals as goal

pub returns-clause-wrote : goal.returns-clause-wrote
returns-clause-wrote g c = λ words bytes asks is.
    let before = g.K.Sink.written c.args.sink.now in
    let after = g.K.Sink.written c.write_output.new.sink in
    follow words bytes before after c.write_output.result (compiled c.args.command.k (file_block c.args.command (limited bytes))) (verifies c.args.command asks)
    (subst (λ text. Follows (compiled c.args.command.k (file_block c.args.command text)) before after c.write_output.result) is c.write_output.ensures.follows)
