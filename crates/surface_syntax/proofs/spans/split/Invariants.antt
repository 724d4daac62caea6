use Rattle.std.proofs.Common.{◌≡◌, ◌≤◌, ◌+◌, ◌-◌, drop, length}
use Rattle.surface_syntax.specs.Spelling.{byte_len}
use Rattle.surface_syntax.proofs.Splits.{Goes}
use Rattle.surface_syntax.proofs.spans.split.Given as goal

abbrev pub invariant-pieces : goal.invariant-pieces
invariant-pieces l = record {
  goes : Goes l.text l.tokens.items l.at (drop l.from l.text);
  total : l.at + byte_len (drop l.from l.text) ≡ byte_len l.text;
  within : l.from ≤ length l.text;
}

abbrev pub decreases-pieces : goal.decreases-pieces
decreases-pieces l = length l.text - l.from
