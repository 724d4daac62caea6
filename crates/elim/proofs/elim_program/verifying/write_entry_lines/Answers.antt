use Rattle.std.proofs.Common.{◌≤◌, ◌<◌, length, Ok, IfSome, ap, subst, ◌∙◌, arith}
use Rattle.theory.specs.Signatures.{Signature}
use Rattle.core_text.specs.EntryReading.{ReadsEntry, entry_from}
use Rattle.elim.proofs.elim_program.Entries.{going, at_end, at_stop, at_failed, at_refused, at_verified}
use Rattle.elim.proofs.elim_program.verifying.write_entry_lines.Goals as goal

pub entries-init : goal.entries-init
entries-init g c = record {
  going = going (g.K.Sink.written c.args.sink.now) c.args.text.now c.args.session.now.fuel c.args.session.now.signature c.args.start;
  within = c.requires;
  never_falls = omega arith;
}

pub returns-in-Ok-None-clause-written : goal.returns-in-Ok-None-clause-written
returns-in-Ok-None-clause-written g c =
    let read = subst (λ (S : Signature). ReadsEntry (length S.entries) c.read_entry.result (entry_from S c.args.text.now c.entries.from)) c.signature.ensures.signature c.read_entry.ensures.read in
    at_end _ _ _ _ _ _ _ c.entries.invariant.going c.read_entry.result read (c.in-Ok-None.is ∙ ap Ok c.in-Ok-None.field-0-is)

pub returns-in-Err-clause-written : goal.returns-in-Err-clause-written
returns-in-Err-clause-written g c =
    let read = subst (λ (S : Signature). ReadsEntry (length S.entries) c.read_entry.result (entry_from S c.args.text.now c.entries.from)) c.signature.ensures.signature c.read_entry.ensures.read in
    at_stop _ _ _ _ _ _ _ c.entries.invariant.going c.read_entry.result read (g.K.Sink.written c.write_unread.new.sink) c.in-Err.stop c.write_unread.result c.in-Err.is c.write_unread.ensures.written

pub returns-in-Err-write_entry_line-clause-written : goal.returns-in-Err-write_entry_line-clause-written
returns-in-Err-write_entry_line-clause-written g c =
    let read = subst (λ (S : Signature). ReadsEntry (length S.entries) c.read_entry.result (entry_from S c.args.text.now c.entries.from)) c.signature.ensures.signature c.read_entry.ensures.read in
    at_failed _ _ _ _ _ _ _ c.entries.invariant.going c.read_entry.result read c.in-Ok-Some.read.0 c.in-Ok-Some.read.1 (c.in-Ok-Some.is ∙ ap Ok c.in-Ok-Some.field-0-is)
    (g.K.Sink.written c.write_entry_line.new.sink) c.in-Err-write_entry_line.status c.in-Err-write_entry_line.ensures.written

pub returns-then-refused-clause-written : goal.returns-then-refused-clause-written
returns-then-refused-clause-written g c =
    let read = subst (λ (S : Signature). ReadsEntry (length S.entries) c.read_entry.result (entry_from S c.args.text.now c.entries.from)) c.signature.ensures.signature c.read_entry.ensures.read in
    at_refused _ _ _ _ _ _ _ c.entries.invariant.going c.read_entry.result read c.in-Ok-Some.read.0 c.in-Ok-Some.read.1 (c.in-Ok-Some.is ∙ ap Ok c.in-Ok-Some.field-0-is)
    (g.K.Sink.written c.write_entry_line.new.sink) c.in-Ok.refused c.if-refused.true c.in-Ok.ensures.written

pub entries-preserved : goal.entries-preserved
entries-preserved g c =
    let read = subst (λ (S : Signature). ReadsEntry (length S.entries) c.read_entry.result (entry_from S c.args.text.now c.entries.from)) c.signature.ensures.signature c.read_entry.ensures.read in
    let forward = subst (λ o. IfSome o (λ p. c.entries.from < p.1)) c.in-Ok-Some.field-0-is c.in-Ok-Some.ensures.forward in
    let within = subst (λ o. IfSome o (λ p. p.1 ≤ length c.args.text.now)) c.in-Ok-Some.field-0-is c.in-Ok-Some.ensures.within in
    record {
      going = at_verified _ _ _ _ _ _ _ c.entries.invariant.going c.read_entry.result read c.in-Ok-Some.read.0 c.in-Ok-Some.read.1 (c.in-Ok-Some.is ∙ ap Ok c.in-Ok-Some.field-0-is)
          (g.K.Sink.written c.write_entry_line.new.sink) c.in-Ok.refused c.if-refused.false c.in-Ok.ensures.written forward within
          c.write_entry_line.new.session.signature c.in-Ok.ensures.after c.write_entry_line.new.session.fuel c.in-Ok.ensures.fuel;
      within = within;
      never_falls = omega (arith, c.entries.invariant.never_falls, c.in-Ok.ensures.never_falls);
    }
