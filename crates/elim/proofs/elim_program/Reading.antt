-- The declarations that are read from a source file are those that the grammar has for it.
use Rattle.std.proofs.Common.{◌≡◌, ℕ, List, Result, Ok, Err, refl, subst}
use Rattle.surface_syntax.specs.Grammar as grammar
use Rattle.surface_syntax.specs.Lexemes.{lexemes_of}
use Rattle.surface_syntax.specs.Machine.{Start}
use Rattle.surface_syntax.specs.Parses.{by_offset, offset_of, parsed}
use Rattle.surface_syntax.specs.Parsing as parsing
use Rattle.surface_syntax.specs.Parsing.{run, Read, Wrong, Deep}
use Rattle.surface_syntax.specs.Trees.{Decl}
use Rattle.surface_syntax.specs.declared.stop.SyntaxStop.{SyntaxStop}
use Rattle.surface_syntax.specs.declared.token.Token.{Token}
use Rattle.surface_syntax.proofs.Runs.{run_file}
use Rattle.elim.specs.elim_program.Reading.{IsRead}
use Rattle.elim.specs.program_texts.Texts.{Answer, Gives, tokens, read}

-- the grammar has the declarations that are answered
abbrev HasFile : List ℕ → List Token → Result (List Decl) SyntaxStop → Type 0
HasFile bytes found (Ok decls) = grammar.File grammar.limit (lexemes_of bytes found) decls
HasFile bytes found (Err e) = Unit {0}

by-run : (bytes : List ℕ) (found : List Token) (a : parsing.Answer) → run grammar.limit Start (lexemes_of bytes found) ≡ a → HasFile bytes found (by_offset (offset_of bytes found) a)
by-run bytes found (Read decls) e = run_file grammar.limit (lexemes_of bytes found) decls e
by-run bytes found (Wrong n) e = tt
by-run bytes found (Deep n) e = tt

parsed-file : (bytes : List ℕ) (found : List Token) → HasFile bytes found (parsed bytes found)
parsed-file bytes found = by-run bytes found (run grammar.limit Start (lexemes_of bytes found)) refl

-- what is read is what the grammar answers
answered : (r : Result (List Decl) SyntaxStop) (decls : List Decl) → read r ≡ Ok decls → r ≡ Ok decls
answered (Ok ds) decls e = cc
answered (Err s) decls e = cc

by-answer : (bytes : List ℕ) (decls : List Decl) (answer : Answer) → Gives bytes answer → answer ≡ Ok decls → IsRead bytes decls
by-answer bytes decls _ (tokens found within split) e =
    record { few = within; tokens = found; split = split; file = subst (λ r. HasFile bytes found r) (answered (parsed bytes found) decls e) (parsed-file bytes found) }
by-answer bytes decls _ gives e = cc

pub is-read : (bytes : List ℕ) (decls : List Decl) → Gives bytes (Ok decls) → IsRead bytes decls
is-read bytes decls gives = by-answer bytes decls (Ok decls) gives refl
