use Rattle.std.proofs.Common.{true, false, Ok, subst}
use Rattle.elim.specs.elim_program.Runs.{Written}
use Rattle.elim.specs.elim_program.Verifies.{file_block}
use Rattle.elim.proofs.elim_program.Following.{head_part, body_part, body_whole}
use Rattle.elim.proofs.elim_program.verifying.write_output.Goals as goal

pub returns-in-Err-clause-follows : goal.returns-in-Err-clause-follows
returns-in-Err-clause-follows g c = head_part _ _ _ _ _ _ c.head.ensures c.in-Err.ensures.sent

pub returns-in-Err-write_whole_text-clause-follows : goal.returns-in-Err-write_whole_text-clause-follows
returns-in-Err-write_whole_text-clause-follows g c = body_part _ _ _ _ _ _ _ c.head.ensures c.in_default.ensures.sent c.in-Err-write_whole_text.ensures.written

pub returns-in-Ok-true-clause-follows : goal.returns-in-Ok-true-clause-follows
returns-in-Ok-true-clause-follows g c =
    let written = subst (λ r. Written (Ok r) (file_block c.args.command c.args.text.now) c.in-Ok-true.ensures.written.0) c.in-Ok-true.field-0-test c.in-Ok-true.ensures.written.2 in
    body_whole _ _ _ _ _ true _ c.head.ensures c.in_default.ensures.sent (c.in-Ok-true.ensures.written.0, c.in-Ok-true.ensures.written.1, written)

pub returns-in-Ok-false-clause-follows : goal.returns-in-Ok-false-clause-follows
returns-in-Ok-false-clause-follows g c =
    let written = subst (λ r. Written (Ok r) (file_block c.args.command c.args.text.now) c.in-Ok-false.ensures.written.0) c.in-Ok-false.field-0-test c.in-Ok-false.ensures.written.2 in
    body_whole _ _ _ _ _ false _ c.head.ensures c.in_default.ensures.sent (c.in-Ok-false.ensures.written.0, c.in-Ok-false.ensures.written.1, written)
