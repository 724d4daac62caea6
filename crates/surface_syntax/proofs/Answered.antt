-- The answers of the parser, by the laws of its machine.
use Rattle.std.proofs.Common.{◌≡◌, ℕ, zero, suc, ◌<◌, ◌≤◌, List, [], ◌∷◌, length, map, get_or, Result, Ok, Err, refl, subst, arith}
use Rattle.surface_syntax.specs.Trees as tree
use Rattle.surface_syntax.specs.Grammar.{limit}
use Rattle.surface_syntax.specs.Machine.{Start}
use Rattle.surface_syntax.specs.Parsing.{Answer, Read, Wrong, Deep, run}
use Rattle.surface_syntax.specs.Lexemes.{lexemes_of}
use Rattle.surface_syntax.specs.Splitting.{AreInOrder}
use Rattle.surface_syntax.specs.Parses.{GivesAnswer, ParseSays, ParseGives, by_offset, parsed, offset_of}
use Rattle.surface_syntax.specs.TreeMeanings.{decl_of}
use Rattle.surface_syntax.specs.declared.token.Token.{Token}
use Rattle.surface_syntax.specs.declared.tree.Decl.{Decl}
use Rattle.surface_syntax.specs.declared.stop.SyntaxStop.{SyntaxStop}
use Rattle.surface_syntax.specs.declared.stop.SyntaxStop.TheVariants.{Memory, NotUtf8, BadToken, Nested, Syntax}
use Rattle.surface_syntax.proofs.Runs.{run_file, file_run}
use Rattle.surface_syntax.proofs.Places.{run_wrong}
use Rattle.surface_syntax.proofs.Nested.{run_deep}
use Rattle.surface_syntax.proofs.Found.{nested_run, wrong_run, wrong_not_nested}

by_read : (at : ℕ → ℕ) (ds : List tree.Decl) (a : Answer) → Ok ds ≡ by_offset at a → a ≡ Read ds
by_read at ds (Read es) q = cc
by_read at ds (Wrong n) q = cc
by_read at ds (Deep n) q = cc

by_wrong : (at : ℕ → ℕ) (offset : ℕ) (a : Answer) → Err (Syntax offset) ≡ by_offset at a → (n : ℕ) × (a ≡ Wrong n) × (offset ≡ at n)
by_wrong at offset (Read es) q = cc
by_wrong at offset (Wrong n) q = (n, refl, cc)
by_wrong at offset (Deep n) q = cc

by_deep : (at : ℕ → ℕ) (offset : ℕ) (a : Answer) → Err (Nested offset) ≡ by_offset at a → (n : ℕ) × (a ≡ Deep n) × (offset ≡ at n)
by_deep at offset (Read es) q = cc
by_deep at offset (Wrong n) q = cc
by_deep at offset (Deep n) q = (n, refl, cc)

by_bad : (at : ℕ → ℕ) (offset : ℕ) (a : Answer) → Err (BadToken offset) ≡ by_offset at a → ⊥
by_bad at offset (Read es) q = cc
by_bad at offset (Wrong n) q = cc
by_bad at offset (Deep n) q = cc

by_not_utf8 : (at : ℕ → ℕ) (offset : ℕ) (a : Answer) → Err (NotUtf8 offset) ≡ by_offset at a → ⊥
by_not_utf8 at offset (Read es) q = cc
by_not_utf8 at offset (Wrong n) q = cc
by_not_utf8 at offset (Deep n) q = cc

pub says : (bytes : List ℕ) (tokens : List Token) (r : Result (List Decl) SyntaxStop) → GivesAnswer (map decl_of) r (parsed bytes tokens) → ParseSays bytes tokens r
says bytes tokens (Ok ds) h = run_file limit (lexemes_of bytes tokens) (map decl_of ds) (by_read (offset_of bytes tokens) _ _ h)
says bytes tokens (Err Memory) h = tt
says bytes tokens (Err (NotUtf8 n)) h = by_not_utf8 (offset_of bytes tokens) n (run limit Start (lexemes_of bytes tokens)) (h (λ p. cc))
says bytes tokens (Err (BadToken n)) h = by_bad (offset_of bytes tokens) n (run limit Start (lexemes_of bytes tokens)) (h (λ p. cc))
says bytes tokens (Err (Syntax n)) h =
    let w = by_wrong (offset_of bytes tokens) n (run limit Start (lexemes_of bytes tokens)) (h (λ p. cc)) in
    (w.0, run_wrong (lexemes_of bytes tokens) w.0 w.1, (λ k nested. wrong_not_nested (lexemes_of bytes tokens) w.0 k w.1 nested), w.2)
says bytes tokens (Err (Nested n)) h =
    let w = by_deep (offset_of bytes tokens) n (run limit Start (lexemes_of bytes tokens)) (h (λ p. cc)) in
    (w.0, run_deep (lexemes_of bytes tokens) w.0 w.1, w.2)

meant : (bytes : List ℕ) (tokens : List Token) (r : Result (List Decl) SyntaxStop) (a : Answer) → GivesAnswer (map decl_of) r (parsed bytes tokens) → run limit Start (lexemes_of bytes tokens) ≡ a →
    GivesAnswer (map decl_of) r (by_offset (offset_of bytes tokens) a)
meant bytes tokens r a h q = subst (λ (b : Answer). GivesAnswer (map decl_of) r (by_offset (offset_of bytes tokens) b)) q h

pub gives : (bytes : List ℕ) (tokens : List Token) (r : Result (List Decl) SyntaxStop) → GivesAnswer (map decl_of) r (parsed bytes tokens) → ParseGives bytes tokens r
gives bytes tokens r h = record {
  read = λ ds file. meant bytes tokens r (Read ds) h (file_run limit (lexemes_of bytes tokens) ds file);
  wrong = λ n goes free. meant bytes tokens r (Wrong n) h (wrong_run (lexemes_of bytes tokens) n goes free);
  nested = λ n is. meant bytes tokens r (Deep n) h (nested_run (lexemes_of bytes tokens) n is);
}

up_to : (from to : ℕ) (tokens : List Token) → AreInOrder from tokens to → from ≤ to
up_to from to [] o = o
up_to from to (t ∷ ts) o = omega (arith, o.0, o.1, up_to t.end to ts o.2)

-- each token is a part of the text
pub within : (from to k : ℕ) (tokens : List Token) (d : Token) → AreInOrder from tokens to → k < length tokens → ((get_or tokens k d).start ≤ (get_or tokens k d).end) × ((get_or tokens k d).end ≤ to)
within from to k [] d o h = absurd (omega arith)
within from to zero (t ∷ ts) d o h = (o.1, up_to t.end to ts o.2)
within from to (suc k) (t ∷ ts) d o h = within t.end to k ts d o.2 (omega arith)
