use Rattle.std.proofs.Common.{arith}
use Rattle.surface_syntax.specs.Taking.{reading_of}
use Rattle.surface_syntax.specs.declared.token.TokenKind.TheVariants.{Plain}
use Rattle.surface_syntax.proofs.Answered.{within}
use Rattle.surface_syntax.proofs.Turns.{goes_on, halts, ends, ends_wrong}
use Rattle.surface_syntax.proofs.parser.read.Goals as goal

pub lexeme_of-requires-clause-order : goal.lexeme_of-requires-clause-order
lexeme_of-requires-clause-order c = (within 0 _ c.lexemes.token-index c.args.tokens.now _ c.requires.ordered (omega arith)).0

pub lexeme_of-requires-clause-within : goal.lexeme_of-requires-clause-within
lexeme_of-requires-clause-within c = (within 0 _ c.lexemes.token-index c.args.tokens.now _ c.requires.ordered (omega arith)).1

pub returns-in-Err : goal.returns-in-Err
returns-in-Err c =
    rw c.stop_at.ensures
    (halts c.args.bytes.now c.args.tokens.now c.lexemes.token-index c.lexemes.left (record { kind = Plain; start = 0; end = 0 }) c.in_ok-lexeme.lexeme (reading_of c.lexemes.reading) c.in-Err.halt
    (omega arith) c.lexemes.invariant.counts c.in_ok-lexeme.ensures c.in-Err.ensures c.lexemes.invariant.runs)

pub lexemes-preserved : goal.lexemes-preserved
lexemes-preserved c = record {
  runs = goes_on c.args.bytes.now c.args.tokens.now c.lexemes.token-index c.lexemes.left (record { kind = Plain; start = 0; end = 0 }) c.in_ok-lexeme.lexeme (reading_of c.lexemes.reading) (reading_of c.in-Ok.next) _
      (omega arith) c.lexemes.invariant.counts c.in_ok-lexeme.ensures c.in-Ok.ensures c.lexemes.invariant.runs;
  counts = omega (arith, c.lexemes.invariant.counts);
}

pub returns-in-Ok-finish : goal.returns-in-Ok-finish
returns-in-Ok-finish c =
    ends c.args.bytes.now c.args.tokens.now c.lexemes.token-index (reading_of c.lexemes.reading) _ (omega arith) c.lexemes.invariant.runs c.in-Ok-finish.ensures

pub returns-in-Err-finish : goal.returns-in-Err-finish
returns-in-Err-finish c =
    rw c.stop_at-in-Err-finish.ensures
    (ends_wrong c.args.bytes.now c.args.tokens.now c.lexemes.token-index (reading_of c.lexemes.reading) c.in-Err-finish.halt (omega arith) c.lexemes.invariant.runs c.in-Err-finish.ensures)
