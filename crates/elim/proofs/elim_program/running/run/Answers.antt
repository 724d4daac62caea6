use Rattle.std.proofs.Common.{◌≡◌, false, ap, sym, ◌∙◌, Err, rules}
use Rattle.std.specs.Prelude.{map, string_bytes}
use Rattle.elim.specs.program_texts.Words.{asks_for_source}
use Rattle.elim.proofs.program_texts.Asking.{none_found}
use Rattle.elim.proofs.elim_program.Whole.{complete, unaccepted_runs, unread_runs, stopped_runs, stop_of, not_write_fault}
use Rattle.elim.proofs.elim_program.running.run.Goals as goal

pub returns-in-Some-clause-runs : goal.returns-in-Some-clause-runs
returns-in-Some-clause-runs g c =
    unread_runs _ _ _ _ _ (λ bytes. c.write_work.ensures.wrote (map string_bytes c.args.words.now) bytes (sym c.work_asked.ensures.asked ∙ c.in-Some.is))

pub returns-in-Some-clause-complete : goal.returns-in-Some-clause-complete
returns-in-Some-clause-complete g c = λ source sink memory.
    complete _ _ _ _ _ (returns-in-Some-clause-runs g c) c.write_work.ensures.read (λ e. sink (c.write_work.ensures.fault e)) memory

pub returns-then-not-asks_for_source-clause-runs : goal.returns-then-not-asks_for_source-clause-runs
returns-then-not-asks_for_source-clause-runs g c =
    let refused : asks_for_source (map string_bytes c.args.words.now) ≡ false = search rules in
    unaccepted_runs _ _ _ _ _ refused (none_found _ (λ w e. c.in_default.not-Some w (c.work_asked.ensures.asked ∙ e))) c.refuse_words.ensures.follows

pub returns-then-not-asks_for_source-clause-complete : goal.returns-then-not-asks_for_source-clause-complete
returns-then-not-asks_for_source-clause-complete g c = λ source sink memory.
    complete _ _ _ _ _ (returns-then-not-asks_for_source-clause-runs g c) c.refuse_words.ensures.read (λ e. sink (c.refuse_words.ensures.fault e)) memory

pub returns-in-Ok-clause-runs : goal.returns-in-Ok-clause-runs
returns-in-Ok-clause-runs g c = record {
  bytes = c.in-Ok.ensures.bytes.0;
  known = c.in-Ok.ensures.bytes.1;
  wrote = c.answer.ensures.wrote _ c.in-Ok.ensures.bytes.2;
}

pub returns-in-Ok-clause-complete : goal.returns-in-Ok-clause-complete
returns-in-Ok-clause-complete g c = λ source sink memory.
    complete _ _ _ _ _ (returns-in-Ok-clause-runs g c) c.answer.ensures.read (λ e. sink (c.answer.ensures.fault e)) memory

pub returns-in-Err-clause-runs : goal.returns-in-Err-clause-runs
returns-in-Err-clause-runs g c =
    stopped_runs _ _ _ _ c.in-Err.ensures.bytes.0 c.in-Err.ensures.bytes.1 (stop_of c.in-Err.status c.in-Err.ensures.errors)

pub returns-in-Err-clause-complete : goal.returns-in-Err-clause-complete
returns-in-Err-clause-complete g c = λ source sink memory.
    complete _ _ _ _ _ (returns-in-Err-clause-runs g c) (λ e. source (c.in-Err.ensures.fault (ap Err e)))
    (not_write_fault c.in-Err.status (stop_of c.in-Err.status c.in-Err.ensures.errors)) memory
