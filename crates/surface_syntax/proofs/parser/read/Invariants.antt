use Rattle.std.proofs.Common.{◌≡◌, ◌+◌, length, drop}
use Rattle.surface_syntax.specs.Machine.{Start, limit}
use Rattle.surface_syntax.specs.Parsing.{run}
use Rattle.surface_syntax.specs.Lexemes.{lexemes_of}
use Rattle.surface_syntax.specs.Taking.{reading_of}
use Rattle.surface_syntax.proofs.Readings.{ahead}
use Rattle.surface_syntax.proofs.parser.read.Given as goal

abbrev pub invariant-lexemes : goal.invariant-lexemes
invariant-lexemes l = record {
  runs : ahead limit (reading_of l.reading) (lexemes_of l.bytes (drop l.token-index l.tokens)) ≡ run limit Start (lexemes_of l.bytes l.tokens);
  counts : l.left + l.token-index ≡ length l.tokens;
}
