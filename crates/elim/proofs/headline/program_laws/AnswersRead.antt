-- The declarations or the refusal that are read from a source file have their reason in the grammar.
use Rattle.std.proofs.Common.{◌≡◌, ℕ, List, refl}
use Rattle.surface_syntax.specs.Grammar as grammar
use Rattle.surface_syntax.specs.Lexemes.{lexemes_of}
use Rattle.surface_syntax.specs.Machine.{Start}
use Rattle.surface_syntax.specs.Parses.{by_offset, offset_of}
use Rattle.surface_syntax.specs.Parsing as parsing
use Rattle.surface_syntax.specs.Parsing.{run, Read, Wrong, Deep}
use Rattle.surface_syntax.specs.declared.token.Token.{Token}
use Rattle.surface_syntax.proofs.Runs.{run_file}
use Rattle.surface_syntax.proofs.Places.{run_wrong}
use Rattle.surface_syntax.proofs.Nested.{run_deep}
use Rattle.surface_syntax.proofs.Found.{wrong_not_nested}
use Rattle.elim.proofs.elim_program.Reading.{is-read}
use Rattle.elim.specs.headline.program_laws.Answers.{SaysOf}
use Rattle.elim.specs.headline.program_laws.Laws.{ReadsByTheGrammar, GivesByTheGrammar}

-- the machine's answer has its reason in the grammar
by-run : (bytes : List ℕ) (found : List Token) (a : parsing.Answer) → run grammar.limit Start (lexemes_of bytes found) ≡ a → SaysOf bytes found (by_offset (offset_of bytes found) a)
by-run bytes found (Read decls) e = run_file grammar.limit (lexemes_of bytes found) decls e
by-run bytes found (Wrong n) e = record {
  left = n;
  wrong = run_wrong (lexemes_of bytes found) n e;
  flat = λ k nested. wrong_not_nested (lexemes_of bytes found) n k e nested;
  place = refl;
}
by-run bytes found (Deep n) e = record { left = n; nested = run_deep (lexemes_of bytes found) n e; place = refl }

pub reads_by_the_grammar : ReadsByTheGrammar
reads_by_the_grammar bytes found = by-run bytes found (run grammar.limit Start (lexemes_of bytes found)) refl

pub gives_by_the_grammar : GivesByTheGrammar
gives_by_the_grammar bytes decls gives = is-read bytes decls gives
