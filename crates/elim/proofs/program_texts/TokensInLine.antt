-- The spelling of a token holds no line feed.
use Rattle.std.proofs.Common.{◌≡◌, ℕ, ◌+◌, ◌-◌, ◌<◌, ◌/◌, ◌%◌, Bool, true, false, not, cond, List, [], ◌∷◌, ◌++◌, length, take, drop, All, refl, sym, ap, ap₂, subst, ◌∙◌, arith}
use Rattle.std.specs.Prelude.{◌==◌, ◌||◌, slice_range}
use Rattle.std.specs.List.{list_all}
use Rattle.std.specs.Str.{IsUtf8, chars}
use Rattle.std.specs.Char.{len_utf8}
use Rattle.std.proofs.Math.Dec.{ltb}
use Rattle.std.proofs.Math.Utf8.{encode, encodes}
use Rattle.std.proofs.Math.Seq.{drop-append_seam, take-append_seam}
use Rattle.std.proofs.lemmas.Bool.{and_from, and_parts, eqb-true, false≢true}
use Rattle.std.proofs.lemmas.Bool.Decides.{nat_tests}
use Rattle.std.proofs.lemmas.List.{length-append}
use Rattle.std.proofs.lemmas.List.Elements.{All-head, All-tail}
use Rattle.std.proofs.lemmas.List.Sums.{sum_by-cons}
use Rattle.std.proofs.lemmas.Str.{encodes-chars, encodes-append, length-encode}
use Rattle.unicode_ident.specs.Ident.{is_xid_start, is_xid_continue}
use Rattle.unicode_ident.proofs.IdentLemmas.{is_xid_start-ascii, is_xid_continue-ascii}
use Rattle.core_text.specs.Lines.{is_in_line}
use Rattle.core_text.proofs.Feeds.{both}
use Rattle.surface_syntax.specs.Spelling.{is_continuing, is_digit, is_mark, byte_len}
use Rattle.surface_syntax.specs.Splitting.{AreTokens}
use Rattle.surface_syntax.specs.TokenLaws.{IsTokenOf}
use Rattle.surface_syntax.specs.Tokens.{IsName, letter, underscore, IsNumber, naught, digits, Spells, keyword, plain, dotted, number, mark, arrow, IsFirstToken}
use Rattle.surface_syntax.specs.declared.token.Token.{Token}
use Rattle.surface_syntax.specs.declared.token.TokenKind.{TokenKind}
use Rattle.surface_syntax.specs.word_laws.Words.{Each}
use Rattle.surface_syntax.proofs.TokenLaws.{slices}

pub each : {A : Type 0} (P Q : A → Type 0) → ((x : A) → P x → Q x) → (xs : List A) → All P xs → Each Q xs
each P Q f [] h = tt
each P Q f (x ∷ xs) h = (f x (All-head P x xs h), each P Q f xs (All-tail P x xs h))

pub apart : (k d : ℕ) → 10 < k → not (k + d == 10) ≡ true
apart k d high = grind (arith, nat_tests)

pub cons-in : (c : ℕ) (cs : List ℕ) → not (c == 10) ≡ true → is_in_line cs ≡ true → is_in_line (c ∷ cs) ≡ true
cons-in c cs h k = and_from (not (c == 10)) (is_in_line cs) h k

encode-in : (c : ℕ) → not (c == 10) ≡ true → is_in_line (encode c) ≡ true
unfolding encode
encode-in c h = go (ltb c 128) (ltb c 2048) (ltb c 65536)
  where
    next : (d : ℕ) (cs : List ℕ) → is_in_line cs ≡ true → is_in_line ((128 + d % 64) ∷ cs) ≡ true
    next d cs k = cons-in (128 + d % 64) cs (apart 128 (d % 64) (omega arith)) k

    one : List ℕ
    one = (128 + c % 64) ∷ []

    two : List ℕ
    two = (128 + (c / 64) % 64) ∷ (128 + c % 64) ∷ []

    three : List ℕ
    three = (128 + (c / 4096) % 64) ∷ (128 + (c / 64) % 64) ∷ (128 + c % 64) ∷ []

    one-in : is_in_line one ≡ true
    one-in = next c [] refl

    two-in : is_in_line two ≡ true
    two-in = next (c / 64) one one-in

    three-in : is_in_line three ≡ true
    three-in = next (c / 4096) two two-in

    go : (x y z : Bool) → is_in_line (cond x (c ∷ []) (cond y ((192 + c / 64) ∷ (128 + c % 64) ∷ []) (cond z ((224 + c / 4096) ∷ (128 + (c / 64) % 64) ∷ (128 + c % 64) ∷ []) ((240 + c / 262144) ∷ (128 + (c / 4096) % 64) ∷ (128 + (c / 64) % 64) ∷ (128 + c % 64) ∷ [])))) ≡ true
    go true y z = cons-in c [] h refl
    go false true z = cons-in (192 + c / 64) one (apart 192 (c / 64) (omega arith)) one-in
    go false false true = cons-in (224 + c / 4096) two (apart 224 (c / 4096) (omega arith)) two-in
    go false false false = cons-in (240 + c / 262144) three (apart 240 (c / 262144) (omega arith)) three-in

pub encodes-in : (cs : List ℕ) → is_in_line cs ≡ true → is_in_line (encodes cs) ≡ true
encodes-in [] h = refl
encodes-in (c ∷ cs) h = let p = and_parts (not (c == 10)) (is_in_line cs) h in both (encode c) (encodes cs) (encode-in c p.0) (encodes-in cs p.1)

length-encodes : (cs : List ℕ) → length (encodes cs) ≡ byte_len cs
length-encodes [] = refl
length-encodes (c ∷ cs) = length-append (encode c) (encodes cs) ∙ ap₂ ◌+◌ (length-encode c) (length-encodes cs) ∙ sym (sum_by-cons len_utf8 c cs)

-- Spellings.

not-feed : (q : ℕ → Bool) → q 10 ≡ false → (c : ℕ) → q c ≡ true → not (c == 10) ≡ true
not-feed q h c k = go (c == 10) refl
  where
    go : (b : Bool) → (c == 10) ≡ b → not (c == 10) ≡ true
    go false e = ap not e
    go true e = absurd (false≢true (sym h ∙ ap q (sym (eqb-true c 10 e)) ∙ k))

pub all-in : (q : ℕ → Bool) → q 10 ≡ false → (cs : List ℕ) → list_all q cs ≡ true → is_in_line cs ≡ true
all-in q h [] k = refl
all-in q h (c ∷ cs) k = let p = and_parts (q c) (list_all q cs) k in cons-in c cs (not-feed q h c p.0) (all-in q h cs p.1)

pub feed-continues : is_continuing 10 ≡ false
feed-continues = let e : is_xid_continue 10 ≡ false = is_xid_continue-ascii 10 (omega arith) in ap (λ b. b || (10 == 39)) e

feed-starts : is_xid_start 10 ≡ false
feed-starts = is_xid_start-ascii 10 (omega arith)

name-in : {cs : List ℕ} → IsName cs → is_in_line cs ≡ true
name-in (letter {c} {cs} s a) = cons-in c cs (not-feed is_xid_start feed-starts c s) (all-in is_continuing feed-continues cs a)
name-in (underscore {c} {cs} a) = cons-in 95 (c ∷ cs) refl (all-in is_continuing feed-continues (c ∷ cs) a)

number-in : {cs : List ℕ} → IsNumber cs → is_in_line cs ≡ true
number-in naught = refl
number-in (digits {c} {cs} z a) = all-in is_digit refl (c ∷ cs) a

spelled-in : {of : TokenKind} {cs : List ℕ} {fits : Bool} → Spells of cs fits → is_in_line cs ≡ true
spelled-in (keyword n k) = name-in n
spelled-in (plain n k) = name-in n
spelled-in (dotted {cs} {ds} n k d) = both cs (46 ∷ ds) (name-in n) (cons-in 46 ds refl (number-in d))
spelled-in (number d) = number-in d
spelled-in (mark {c} m) = cons-in c [] (not-feed is_mark refl c m) refl
spelled-in arrow = refl

-- Tokens.

first-in : (cs : List ℕ) (of : TokenKind) (text after : List ℕ) → IsFirstToken (text ++ after) of (length text) → is_in_line text ≡ true
first-in cs of text after f =
    let same : text ≡ f.text = sym (take-append_seam text after) ∙ ap (take (length text)) f.parts ∙ ap (λ n. take n (f.text ++ f.rest)) (sym f.size) ∙ take-append_seam f.text f.rest in
    subst (λ t. is_in_line t ≡ true) (sym same) (spelled-in f.spelled)

slice : (bytes a b c : List ℕ) (start end : ℕ) → bytes ≡ a ++ (b ++ c) → length a ≡ start → start + length b ≡ end → slice_range bytes start end ≡ b
slice bytes a b c start end e s t =
    let size : end - start ≡ length b = omega (arith, t) in
    ap (λ n. take (end - start) (drop n bytes)) (sym s) ∙ ap (λ x. take (end - start) (drop (length a) x)) e ∙ ap (take (end - start)) (drop-append_seam a (b ++ c))
    ∙ ap (λ n. take n (b ++ c)) size ∙ take-append_seam b c

token-in : (bytes : List ℕ) (t : Token) → IsUtf8 bytes → IsTokenOf (chars bytes) t → is_in_line (slice_range bytes t.start t.end) ≡ true
token-in bytes t utf8 is =
    let parts : bytes ≡ encodes is.before ++ (encodes is.text ++ encodes is.after) =
    sym (encodes-chars bytes utf8) ∙ ap encodes is.parts ∙ encodes-append is.before (is.text ++ is.after) ∙ ap (λ x. encodes is.before ++ x) (encodes-append is.text is.after) in
    let begins : length (encodes is.before) ≡ t.start = length-encodes is.before ∙ is.starts in
    let ends : t.start + length (encodes is.text) ≡ t.end = ap (λ n. t.start + n) (length-encodes is.text) ∙ is.ends in
    let same = slice bytes (encodes is.before) (encodes is.text) (encodes is.after) t.start t.end parts begins ends in
    subst (λ x. is_in_line x ≡ true) (sym same) (encodes-in is.text (first-in (chars bytes) t.kind is.text is.after is.begins))

pub tokens-in : (bytes : List ℕ) (tokens : List Token) → AreTokens bytes tokens → Each (λ t. is_in_line (slice_range bytes t.start t.end) ≡ true) tokens
tokens-in bytes tokens are =
    each (IsTokenOf (chars bytes)) (λ t. is_in_line (slice_range bytes t.start t.end) ≡ true) (λ t is. token-in bytes t are.utf8 is) tokens
    (slices (chars bytes) [] refl refl are.whole)
