use Rattle.std.proofs.Common.{◌≤◌, ◌-◌, length, suc}
use Rattle.elim.specs.elim_program.Verifies.{entries}
use Rattle.elim.proofs.elim_program.Entries.{IsGoing}
use Rattle.elim.proofs.elim_program.verifying.write_entry_lines.Given as goal

abbrev pub invariant-entries : goal.invariant-entries
invariant-entries g l = record {
  going : IsGoing (g.K.Sink.written l.initial.sink) (g.K.Sink.written l.sink) (entries l.text l.initial.session.fuel (suc (length l.text)) l.initial.session.signature l.start) l.text l.session.fuel l.session.signature l.from;
  within : l.from ≤ length l.text;
  never_falls : g.K.Sink.faults l.initial.sink ≤ g.K.Sink.faults l.sink;
}

abbrev pub decreases-entries : goal.decreases-entries
decreases-entries g l = length l.text - l.from
