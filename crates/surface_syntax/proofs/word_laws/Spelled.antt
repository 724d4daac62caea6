-- Each token of a source file is spelled by its bytes, and there are no more tokens than bytes.
use Rattle.std.proofs.Common.{◌≡◌, ℕ, suc, ◌+◌, ◌-◌, ◌<◌, ◌≤◌, Bool, true, false, List, [], ◌∷◌, ◌++◌, length, map, take, drop, All, refl, sym, ap, ap₂, subst, ◌∙◌, length-append, arith}
use Rattle.std.specs.Prelude.{◌&&◌, nat_le, slice_range}
use Rattle.std.specs.Char.{len_utf8}
use Rattle.std.specs.Str.{IsUtf8, is_utf8, chars, all_scalars}
use Rattle.std.proofs.Math.Seq.{drop-append_seam, take-append_seam}
use Rattle.std.proofs.Math.Utf8.{encode, encodes}
use Rattle.std.proofs.lemmas.Bool.{and_parts}
use Rattle.std.proofs.lemmas.Bool.Decides.{nat_tests}
use Rattle.std.proofs.lemmas.List.Sums.{sum_by-cons, sum_by-append}
use Rattle.std.proofs.lemmas.Str.{IsUtf8-from_is_utf8, chars-encodes, encodes-append, encodes-chars, is_utf8-from_IsUtf8, length-encode, len_utf8_bounds, scalars-chars}
use lib.Utf8.{scalar}
use Rattle.surface_syntax.specs.Lexemes.{lexeme_of, lexemes_of, word_of}
use Rattle.surface_syntax.specs.Spelling.{byte_len, is_keyword}
use Rattle.surface_syntax.specs.Splitting.{AreTokens}
use Rattle.surface_syntax.specs.TokenLaws.{IsTokenOf, AreSpelled, end, gap, token}
use Rattle.surface_syntax.specs.Tokens.{IsName, letter, underscore, IsNumber, naught, digits, Spells, keyword, plain, dotted, number, mark, arrow, IsFirstToken}
use Rattle.surface_syntax.specs.declared.token.Token.{Token}
use Rattle.surface_syntax.specs.declared.token.TokenKind.{TokenKind}
use Rattle.surface_syntax.specs.declared.token.TokenKind.TheVariants.{Plain}
use Rattle.surface_syntax.proofs.TokenLaws.{slices, reads_spelled}
use Rattle.surface_syntax.specs.word_laws.Laws.{WordsAreSpelled, PlainNamesAreShort, PartsAreFew}
use Rattle.surface_syntax.specs.word_laws.Words.{IsSpelled}
use Rattle.surface_syntax.proofs.word_laws.Counted.{file-few}
use Rattle.surface_syntax.proofs.word_laws.Declared.{file-in}
use Rattle.surface_syntax.proofs.word_laws.Lexed.{lexemes-good}

length-encodes : (cs : List ℕ) → length (encodes cs) ≡ byte_len cs
length-encodes [] = refl
length-encodes (c ∷ cs) = length-append (encode c) (encodes cs) ∙ ap₂ ◌+◌ (length-encode c) (length-encodes cs) ∙ sym (sum_by-cons len_utf8 c cs)

byte_len-chars : (bytes : List ℕ) → IsUtf8 bytes → byte_len (chars bytes) ≡ length bytes
byte_len-chars bytes utf8 = sym (length-encodes (chars bytes)) ∙ ap length (encodes-chars bytes utf8)

-- ---- tokens

slice : (bytes a b c : List ℕ) (start to : ℕ) → bytes ≡ a ++ (b ++ c) → length a ≡ start → start + length b ≡ to → slice_range bytes start to ≡ b
slice bytes a b c start to e s t =
    let size : to - start ≡ length b = omega (arith, t) in
    ap (λ n. take (to - start) (drop n bytes)) (sym s) ∙ ap (λ x. take (to - start) (drop (length a) x)) e ∙ ap (take (to - start)) (drop-append_seam a (b ++ c))
    ∙ ap (λ n. take n (b ++ c)) size ∙ take-append_seam b c

scalars-left : (xs ys : List ℕ) → all_scalars (xs ++ ys) ≡ true → all_scalars xs ≡ true
scalars-left [] ys h = refl
scalars-left (x ∷ xs) ys h = let p = and_parts (scalar x) (all_scalars (xs ++ ys)) h in ap₂ ◌&&◌ p.0 (scalars-left xs ys p.1)

scalars-right : (xs ys : List ℕ) → all_scalars (xs ++ ys) ≡ true → all_scalars ys ≡ true
scalars-right [] ys h = h
scalars-right (x ∷ xs) ys h = scalars-right xs ys (and_parts (scalar x) (all_scalars (xs ++ ys)) h).1

first-spelled : (of : TokenKind) (text after : List ℕ) → IsFirstToken (text ++ after) of (length text) → Spells of text true
first-spelled of text after f =
    let same : text ≡ f.text = sym (take-append_seam text after) ∙ ap (take (length text)) f.parts ∙ ap (λ n. take n (f.text ++ f.rest)) (sym f.size) ∙ take-append_seam f.text f.rest in
    subst (λ t. Spells of t true) (sym same) f.spelled

token-spelled : (bytes : List ℕ) (t : Token) → IsUtf8 bytes → IsTokenOf (chars bytes) t → IsSpelled t.kind (word_of bytes t)
token-spelled bytes t utf8 is =
    let parts : bytes ≡ encodes is.before ++ (encodes is.text ++ encodes is.after) =
    sym (encodes-chars bytes utf8) ∙ ap encodes is.parts ∙ encodes-append is.before (is.text ++ is.after) ∙ ap (λ x. encodes is.before ++ x) (encodes-append is.text is.after) in
    let begins : length (encodes is.before) ≡ t.start = length-encodes is.before ∙ is.starts in
    let ends : t.start + length (encodes is.text) ≡ t.end = ap (λ n. t.start + n) (length-encodes is.text) ∙ is.ends in
    let same : slice_range bytes t.start t.end ≡ encodes is.text = slice bytes (encodes is.before) (encodes is.text) (encodes is.after) t.start t.end parts begins ends in
    let whole : all_scalars (is.before ++ (is.text ++ is.after)) ≡ true = subst (λ cs. all_scalars cs ≡ true) is.parts (scalars-chars bytes utf8) in
    let scalars : all_scalars is.text ≡ true = scalars-left is.text is.after (scalars-right is.before (is.text ++ is.after) whole) in
    let spelled = first-spelled t.kind is.text is.after is.begins in (
      ap is_utf8 same ∙ is_utf8-from_IsUtf8 (encodes is.text) (is.text, (scalars, refl)),
      subst (λ cs. Spells t.kind cs true) (sym (ap chars same ∙ chars-encodes is.text scalars)) spelled,
    )

tokens-spelled : (bytes : List ℕ) (tokens : List Token) → AreTokens bytes tokens → All (λ t. IsSpelled t.kind (word_of bytes t)) tokens
tokens-spelled bytes tokens are =
    let all = slices (chars bytes) [] refl refl are.whole in λ k d lt. token-spelled bytes _ are.utf8 (all k d lt)

pub words-spelled : WordsAreSpelled
words-spelled allows bytes tokens ds are file = file-in allows file (lexemes-good bytes tokens (tokens-spelled bytes tokens are))

-- ---- how many there are

some-number : {ds : List ℕ} → IsNumber ds → 0 < length ds
some-number naught = omega arith
some-number (digits zero all) = omega arith

some-name : {cs : List ℕ} → IsName cs → 0 < length cs
some-name (letter starts all) = omega arith
some-name (underscore all) = omega arith

some-spelled : {of : TokenKind} {text : List ℕ} {fits : Bool} → Spells of text fits → 0 < length text
some-spelled (keyword name is) = some-name name
some-spelled (plain name is) = some-name name
some-spelled (dotted {cs} {ds} name is several) = let more = length-append cs (46 ∷ ds) in omega (arith, more)
some-spelled (number several) = some-number several
some-spelled (mark is) = omega arith
some-spelled arrow = omega arith

some-bytes : (cs : List ℕ) → 0 < length cs → 0 < byte_len cs
some-bytes [] some = absurd (omega (arith, some))
some-bytes (c ∷ cs) some = let least = (len_utf8_bounds c).0 in let sum = sum_by-cons len_utf8 c cs in omega (arith, least, sum)

fewer-tokens : {at : ℕ} {cs : List ℕ} {tokens : List Token} → AreSpelled at cs tokens → length tokens ≤ byte_len cs
fewer-tokens end = omega arith
fewer-tokens (gap text rest is more) = let p = fewer-tokens more in let sum = sum_by-append len_utf8 text rest in omega (arith, p, sum)
fewer-tokens (token {of = of} text rest is more) =
    let p = fewer-tokens more in
    let sum = sum_by-append len_utf8 text rest in
    let some = some-bytes text (some-spelled (first-spelled of text rest is)) in
    omega (arith, p, sum, some)

map-size : {A B : Type 0} (f : A → B) (xs : List A) → length (map f xs) ≡ length xs
map-size f [] = refl
map-size f (x ∷ xs) = ap (λ n. suc n) (map-size f xs)

few-lexemes : (bytes : List ℕ) (tokens : List Token) → AreTokens bytes tokens → length (lexemes_of bytes tokens) ≤ length bytes
few-lexemes bytes tokens are =
    let p = fewer-tokens (reads_spelled are.whole refl) in
    let size = byte_len-chars bytes are.utf8 in
    let same = map-size (λ t. lexeme_of bytes t) tokens in
    omega (arith, p, size, same)

pub parts-few : PartsAreFew
parts-few allows bytes tokens ds are file = file-few allows file (few-lexemes bytes tokens are)

-- ---- plain names

record IsShort (text : List ℕ) : Type 0 where
  name : IsName text
  word : is_keyword text ≡ false
  short : nat_le (byte_len text) 255 ≡ true

plain-view : (of : TokenKind) (text : List ℕ) (fits : Bool) → Spells of text fits → of ≡ Plain → fits ≡ true → IsShort text
plain-view of text fits (keyword name word) is e = absurd (cc)
plain-view of text fits (plain name word) is e = record { name = name; word = word; short = e }
plain-view of text fits (dotted name word other) is e = absurd (cc)
plain-view of text fits (number several) is e = absurd (cc)
plain-view of text fits (mark one) is e = absurd (cc)
plain-view of text fits arrow is e = absurd (cc)

pub plain-short : PlainNamesAreShort
plain-short w h =
    let view = plain-view Plain (chars w.text) true h.1 refl refl in
    let size = byte_len-chars w.text (IsUtf8-from_is_utf8 w.text h.0) in
    let most = view.short in
    let some = some-bytes (chars w.text) (some-name view.name) in
    let le : byte_len (chars w.text) ≤ 255 = grind (arith, nat_tests) in
    (view.name, view.word, omega (arith, some, size), omega (arith, le, size))
