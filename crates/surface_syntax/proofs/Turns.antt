-- One turn of the parser's loop over the tokens.
use Rattle.std.proofs.Common.{◌≡◌, ◌≢◌, ℕ, ◌+◌, ◌<◌, ◌≤◌, List, [], ◌∷◌, length, drop, get_or, Ok, Err, sym, ap, ◌∙◌, arith, length-drop}
use Rattle.std.proofs.lemmas.List.{at_drop_more, drop_all, length-map}
use Rattle.surface_syntax.specs.Trees as tree
use Rattle.surface_syntax.specs.Machine.{Start, limit, step}
use Rattle.surface_syntax.specs.Parsing.{Answer, run}
use Rattle.surface_syntax.specs.Lexemes.{lexeme_of, lexemes_of}
use Rattle.surface_syntax.specs.Parses.{by_offset, parsed, offset_of}
use Rattle.surface_syntax.specs.Taking.{So_far, taken, finished, stop_at}
use Rattle.surface_syntax.specs.declared.lexeme.Lexeme.{Lexeme}
use Rattle.surface_syntax.specs.declared.lexeme.Lexeme.TheVariants.{End}
use Rattle.surface_syntax.specs.declared.token.Token.{Token}
use Rattle.surface_syntax.specs.declared.halt.Halt.{Halt}
use Rattle.surface_syntax.specs.declared.halt.Halt.TheVariants as halt
use Rattle.surface_syntax.specs.declared.stop.SyntaxStop.TheVariants.{Memory}
use Rattle.surface_syntax.proofs.Readings.{ahead, ahead_taken, halt_answer, end_answer, end_halt}

turn : (bytes : List ℕ) (tokens : List Token) (i : ℕ) (d : Token) (y : Lexeme) → i < length tokens → y ≡ lexeme_of bytes (get_or tokens i d) →
    lexemes_of bytes (drop i tokens) ≡ y ∷ lexemes_of bytes (drop (i + 1) tokens)
turn bytes tokens i d y h q =
    at_drop_more (lexemes_of bytes) tokens i d h ∙ ap (λ (z : Lexeme). z ∷ lexemes_of bytes (drop (i + 1) tokens)) (sym q)

left_of : (bytes : List ℕ) (tokens : List Token) (i left : ℕ) (y : Lexeme) → i < length tokens → left + i ≡ length tokens → left ≡ length (y ∷ lexemes_of bytes (drop (i + 1) tokens))
left_of bytes tokens i left y h e = omega (arith, length-map (drop (i + 1) tokens) (lexeme_of bytes), length-drop (i + 1) tokens)

-- the loop goes on
pub goes_on : (bytes : List ℕ) (tokens : List Token) (i left : ℕ) (d : Token) (y : Lexeme) (r r' : So_far) (a : Answer) → i < length tokens → left + i ≡ length tokens → y ≡ lexeme_of bytes (get_or tokens i d) →
    Ok r' ≡ taken r.decls (step limit left r.state y) → ahead limit r (lexemes_of bytes (drop i tokens)) ≡ a → ahead limit r' (lexemes_of bytes (drop (i + 1) tokens)) ≡ a
goes_on bytes tokens i left d y r r' a h len q k before =
    sym (ahead_taken limit left r r' y (lexemes_of bytes (drop (i + 1) tokens)) (left_of bytes tokens i left y h len) (sym k))
    ∙ ap (ahead limit r) (sym (turn bytes tokens i d y h q)) ∙ before

-- the loop ends at a halt
pub halts : (bytes : List ℕ) (tokens : List Token) (i left : ℕ) (d : Token) (y : Lexeme) (r : So_far) (e : Halt) → i < length tokens → left + i ≡ length tokens → y ≡ lexeme_of bytes (get_or tokens i d) →
    (e ≢ halt.Memory → Err e ≡ taken r.decls (step limit left r.state y)) → ahead limit r (lexemes_of bytes (drop i tokens)) ≡ run limit Start (lexemes_of bytes tokens) →
    stop_at (offset_of bytes tokens) left e ≢ Memory → Err (stop_at (offset_of bytes tokens) left e) ≡ parsed bytes tokens
halts bytes tokens i left d y r e h len q k before other =
    halt_answer limit (offset_of bytes tokens) left r y (lexemes_of bytes (drop (i + 1) tokens)) e (left_of bytes tokens i left y h len) k other
    ∙ ap (by_offset (offset_of bytes tokens)) (ap (ahead limit r) (sym (turn bytes tokens i d y h q)) ∙ before)

none_left : (bytes : List ℕ) (tokens : List Token) (i : ℕ) → length tokens ≤ i → lexemes_of bytes (drop i tokens) ≡ []
none_left bytes tokens i h = ap (lexemes_of bytes) (drop_all i tokens h)

-- the end of the file
pub ends : (bytes : List ℕ) (tokens : List Token) (i : ℕ) (r : So_far) (ds : List tree.Decl) → length tokens ≤ i → ahead limit r (lexemes_of bytes (drop i tokens)) ≡ run limit Start (lexemes_of bytes tokens) →
    Ok ds ≡ finished r.decls (step limit 0 r.state End) → Ok ds ≡ parsed bytes tokens
ends bytes tokens i r ds h before q =
    end_answer limit (offset_of bytes tokens) r ds q
    ∙ ap (by_offset (offset_of bytes tokens)) (ap (ahead limit r) (sym (none_left bytes tokens i h)) ∙ before)

pub ends_wrong : (bytes : List ℕ) (tokens : List Token) (i : ℕ) (r : So_far) (e : Halt) → length tokens ≤ i → ahead limit r (lexemes_of bytes (drop i tokens)) ≡ run limit Start (lexemes_of bytes tokens) →
    (e ≢ halt.Memory → Err e ≡ finished r.decls (step limit 0 r.state End)) → stop_at (offset_of bytes tokens) 0 e ≢ Memory → Err (stop_at (offset_of bytes tokens) 0 e) ≡ parsed bytes tokens
ends_wrong bytes tokens i r e h before q other =
    end_halt limit (offset_of bytes tokens) r e q other
    ∙ ap (by_offset (offset_of bytes tokens)) (ap (ahead limit r) (sym (none_left bytes tokens i h)) ∙ before)
