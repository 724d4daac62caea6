-- The name of a family or a function with `!` and more after it is one that a core file may declare, where what follows its
-- last `!` is neither that of an eliminator nor that of K.
use Rattle.std.proofs.Common.{◌≡◌, ◌⊎◌, inl, inr, ℕ, zero, suc, ◌+◌, ◌/◌, ◌%◌, ◌<◌, Bool, true, false, List, [], ◌∷◌, ◌++◌, length, drop, refl, sym, ap, ap₂, ◌∙◌, subst, append_assoc, arith}
use Rattle.std.specs.Prelude.{◌==◌, ◌||◌, nat_lt, if◌then◌else◌, Option, Some, None, option_and_then, bytes_eq, codes, decimal}
use Rattle.std.specs.Fmt.{digits, digits_onto, digit_glyph}
use Rattle.std.specs.List.{list_all, list_any}
use Rattle.std.specs.Option.{is_some}
use Rattle.std.specs.Str.{is_utf8, chars, encode_utf8_all, IsUtf8}
use Rattle.std.proofs.Math.Seq.{drop-append_seam}
use Rattle.std.proofs.lemmas.Bool.{and_parts, and_from, false≢true, eq-eqb}
use Rattle.std.proofs.lemmas.Bool.Decides.{nat_tests}
use Rattle.std.proofs.lemmas.List.Folds.{list_any-append}
use Rattle.std.proofs.lemmas.Str.{IsUtf8-from_is_utf8, encodes-chars, chars-append}
use Rattle.unicode_ident.specs.Ident.{is_xid_continue}
use Rattle.unicode_ident.proofs.Computing.{unicode_ident}
use Rattle.unicode_ident.proofs.IdentLemmas.{is_xid_start-is_xid_continue}
use lib.Utf8.{encode}
use Rattle.surface_syntax.specs.Spelling.{is_continuing, is_digit, is_mark, piece}
use Rattle.surface_syntax.specs.Tokens.{IsName, letter, underscore, IsNumber, naught, digits as number_digits, Spells, keyword, plain, dotted, number, mark, arrow, IsFirstToken}
use Rattle.surface_syntax.specs.declared.token.Piece.TheVariants.{Found, Bad}
use Rattle.surface_syntax.specs.declared.token.TokenKind.{TokenKind}
use Rattle.surface_syntax.specs.declared.token.TokenKind.TheVariants.{Plain, Dotted}
use Rattle.surface_syntax.proofs.TokenLaws.{first_found}
use Rattle.core_text.specs.DeclaredNames.{shape_by, shape_of, is_generated, is_eliminator_name, is_axiom_k_name}
use Rattle.core_text.specs.NameRuns.{is_name_char, are_name_chars}
use Rattle.core_text.specs.Reading.{first}
use Rattle.core_text.specs.SymbolLookup.{number_at_end, before_end}
use Rattle.core_text.specs.WrittenEntries.{IsDeclarableName}
use Rattle.core_text.proofs.SymbolsRead.{number-read, word-read, same-bytes}
use Rattle.core_text.proofs.WholeRuns.{chars-join}

-- the name holds `!`
abbrev pub holds_mark : List ℕ → Bool
holds_mark name = list_any (λ b. b == 33) name

or-right : (a b : Bool) → b ≡ true → (a || b) ≡ true
or-right true b e = refl
or-right false b e = e

or-left : (a b : Bool) → a ≡ true → (a || b) ≡ true
or-left a b e = ap (λ c. c || b) e

pub unmarked-join : (xs ys : List ℕ) → holds_mark xs ≡ false → holds_mark ys ≡ false → holds_mark (xs ++ ys) ≡ false
unmarked-join xs ys e f = list_any-append (λ b. b == 33) xs ys ∙ ap₂ (λ a b. a || b) e f

inner-mark : (xs rest : List ℕ) → holds_mark (xs ++ 33 ∷ rest) ≡ true
inner-mark xs rest = list_any-append (λ b. b == 33) xs (33 ∷ rest) ∙ or-right (holds_mark xs) (holds_mark (33 ∷ rest)) refl

-- the part after the last mark is determined
last-mark : (xs ys rest last : List ℕ) → xs ++ 33 ∷ rest ≡ ys ++ 33 ∷ last → holds_mark rest ≡ false → holds_mark last ≡ false → rest ≡ last
last-mark [] [] rest last e f g = ap (λ l. drop 1 l) e
last-mark [] (y ∷ ys) rest last e f g = absurd (false≢true (sym f ∙ (ap (λ l. holds_mark (drop 1 l)) e ∙ inner-mark ys last)))
last-mark (x ∷ xs) [] rest last e f g = absurd (false≢true (sym g ∙ (ap (λ l. holds_mark (drop 1 l)) (sym e) ∙ inner-mark xs rest)))
last-mark (x ∷ xs) (y ∷ ys) rest last e f g = last-mark xs ys rest last (ap (λ l. drop 1 l) e) f g

-- ---- spellings hold no mark

unmarked-by : (q : ℕ → Bool) → q 33 ≡ false → (cs : List ℕ) → list_all q cs ≡ true → holds_mark cs ≡ false
unmarked-by q never [] all = refl
unmarked-by q never (c ∷ cs) all =
    let parts = and_parts (q c) (list_all q cs) all in ap₂ (λ a b. a || b) (by (c == 33) refl parts.0) (unmarked-by q never cs parts.1)
  where
    by : (b : Bool) → (c == 33) ≡ b → q c ≡ true → (c == 33) ≡ false
    by true e goes = let same : c ≡ 33 = grind (arith, nat_tests) in absurd (false≢true (sym never ∙ (ap q (sym same) ∙ goes)))
    by false e goes = e

no-mark : is_continuing 33 ≡ false
unfolding unicode_ident
no-mark = refl

low-line : is_continuing 95 ≡ true
unfolding unicode_ident
low-line = refl

name-unmarked : {text : List ℕ} → IsName text → holds_mark text ≡ false
name-unmarked (letter {c} {cs} starts others) =
    unmarked-by is_continuing no-mark (c ∷ cs) (and_from (is_continuing c) (list_all is_continuing cs) (or-left (is_xid_continue c) (c == 39) (is_xid_start-is_xid_continue c starts)) others)
name-unmarked (underscore {c} {cs} others) = unmarked-by is_continuing no-mark (95 ∷ c ∷ cs) (and_from (is_continuing 95) (list_all is_continuing (c ∷ cs)) low-line others)

number-unmarked : {text : List ℕ} → IsNumber text → holds_mark text ≡ false
number-unmarked naught = refl
number-unmarked (number_digits {c} {cs} other all) = unmarked-by is_digit refl (c ∷ cs) all

spelled-unmarked : {of : TokenKind} {text : List ℕ} {fits : Bool} → Spells of text fits → holds_mark text ≡ false
spelled-unmarked (keyword name word) = name-unmarked name
spelled-unmarked (plain name word) = name-unmarked name
spelled-unmarked (dotted {cs} {ds} name word other) = unmarked-join cs (46 ∷ ds) (name-unmarked name) (number-unmarked other)
spelled-unmarked (number several) = number-unmarked several
spelled-unmarked (mark {c} one) = unmarked-by is_mark refl (c ∷ []) (and_from (is_mark c) true one refl)
spelled-unmarked arrow = refl

-- ---- names of families and functions

-- A plain or dotted name of a source file: it holds no mark, and with one after it it is still the first token.
pub record IsStem (name : List ℕ) : Type 0 where
  pub all_chars : are_name_chars name ≡ true
  pub of : TokenKind
  pub kind : (of ≡ Plain) ⊎ (of ≡ Dotted)
  pub spelled : Spells of (chars name) true

-- a segment that may follow the last mark
pub record IsSegment (seg : List ℕ) : Type 0 where
  pub unmarked : holds_mark seg ≡ false
  pub no_elim : (first seg == 101) ≡ false
  pub no_k : (first seg == 107) ≡ false

-- ---- the shape

stem-first : (cs ds : List ℕ) (of : TokenKind) → Spells of cs true → IsFirstToken (cs ++ 33 ∷ ds) of (length cs)
stem-first cs ds of spelled = record {
  text = cs;
  rest = 33 ∷ ds;
  parts = refl;
  size = refl;
  spelled = spelled;
  longest = λ more last other fits e s. no-more more last other fits e s;
}
  where
    no-more : (more last : List ℕ) (other : TokenKind) (fits : Bool) → 33 ∷ ds ≡ more ++ last → Spells other (cs ++ more) fits → more ≡ []
    no-more [] last other fits e s = refl
    no-more (m ∷ more) last other fits e s =
        let same : m ≡ 33 = ap (λ l. first l) (sym e) in
        absurd (false≢true (sym (spelled-unmarked s) ∙ (ap (λ k. holds_mark (cs ++ k ∷ more)) same ∙ inner-mark cs more)))

shape-by-kind : (of : TokenKind) (n : ℕ) (cs : List ℕ) → (of ≡ Plain) ⊎ (of ≡ Dotted) → is_generated (drop n cs) ≡ true → shape_by (Found of n) cs ≡ shape_by (Found Dotted 0) (33 ∷ 33 ∷ [])
shape-by-kind of n cs (inl is) made =
    ap (λ k. shape_by (Found k n) cs) is ∙ ap (λ b. if b then shape_by (Found Dotted 0) (33 ∷ 33 ∷ []) else shape_by Bad []) (or-right (n == length cs) (is_generated (drop n cs)) made)
shape-by-kind of n cs (inr is) made = ap (λ k. shape_by (Found k n) cs) is ∙ ap (λ b. if b then shape_by (Found Dotted 0) (33 ∷ 33 ∷ []) else shape_by Bad []) made

mark-chars : are_name_chars (33 ∷ []) ≡ true
unfolding is_utf8 chars unicode_ident encode
mark-chars = refl

mark-read : chars (33 ∷ []) ≡ 33 ∷ []
unfolding chars encode
mark-read = refl

utf8-of : (name : List ℕ) → are_name_chars name ≡ true → IsUtf8 name
utf8-of name e = IsUtf8-from_is_utf8 name (and_parts (is_utf8 name) (list_all is_name_char (chars name)) e).0

some-chars : (more : List ℕ) → IsUtf8 more → 0 < length more → 0 < length (chars more)
some-chars more utf8 some = by (chars more) refl
  where
    by : (cs : List ℕ) → chars more ≡ cs → 0 < length cs
    by [] e = let none : more ≡ [] = sym (encodes-chars more utf8) ∙ ap encode_utf8_all e in absurd (omega (arith, some, ap length none))
    by (c ∷ cs) e = omega arith

pub with-mark : (stem more : List ℕ) → IsStem stem → are_name_chars more ≡ true → are_name_chars (stem ++ 33 ∷ more) ≡ true
with-mark stem more is all = chars-join stem (33 ∷ more) is.all_chars (chars-join (33 ∷ []) more mark-chars all)

made-shape : (stem more : List ℕ) → IsStem stem → are_name_chars more ≡ true → 0 < length more → shape_of (stem ++ 33 ∷ more) ≡ shape_by (Found Dotted 0) (33 ∷ 33 ∷ [])
made-shape stem more is all some =
    let name = stem ++ 33 ∷ more in
    let cs = chars stem in
    let ds = chars more in
    let read : chars name ≡ cs ++ 33 ∷ ds =
    chars-append stem (33 ∷ more) (utf8-of stem is.all_chars) ∙ ap (λ l. cs ++ l) (chars-append (33 ∷ []) more (utf8-of (33 ∷ []) mark-chars) ∙ ap (λ l. l ++ ds) mark-read) in
    let several = some-chars more (utf8-of more all) some in
    let generated : is_generated (33 ∷ ds) ≡ true = grind (arith, nat_tests) in
    let rest : drop (length cs) (cs ++ 33 ∷ ds) ≡ 33 ∷ ds = drop-append_seam cs (33 ∷ ds) in
    ap (λ b. if b then shape_by (piece (chars name)) (chars name) else shape_by Bad []) (and_parts (is_utf8 name) (list_all is_name_char (chars name)) (with-mark stem more is all)).0
    ∙ (ap (λ l. shape_by (piece l) l) read
    ∙ (ap (λ p. shape_by p (cs ++ 33 ∷ ds)) (first_found (cs ++ 33 ∷ ds) is.of (length cs) (stem-first cs ds is.of is.spelled))
    ∙ shape-by-kind is.of (length cs) (cs ++ 33 ∷ ds) is.kind (ap is_generated rest ∙ generated)))

-- ---- no eliminator, and not K

unsome : {A B : Type 0} (f : A → Option B) (o : Option A) → ((a : A) → o ≡ Some a → is_some (f a) ≡ false) → is_some (option_and_then f o) ≡ false
unsome f None k = refl
unsome f (Some a) k = k a refl

glyph-unmarked : (d : ℕ) → (digit_glyph false d == 33) ≡ false
glyph-unmarked d =
    elim (nat_lt d 10) as (λ small. ((if small then 48 + d else (if false then 55 + d else 87 + d)) == 33) ≡ false) [
      | true ↦ high 48 d (omega arith)
      | false ↦ high 87 d (omega arith)
    ]
  where
    high : (k d : ℕ) → 33 < k → (k + d == 33) ≡ false
    high k d big = grind (arith, nat_tests)

digits-unmarked : (k n : ℕ) (acc : List ℕ) → holds_mark acc ≡ false → holds_mark (digits_onto k 10 false n acc) ≡ false
digits-unmarked zero n acc p = p
digits-unmarked (suc k) n acc p =
    either (n / 10 == 0) (digit_glyph false (n % 10) ∷ acc) (digits_onto k 10 false (n / 10) (digit_glyph false (n % 10) ∷ acc)) more
    (digits-unmarked k (n / 10) (digit_glyph false (n % 10) ∷ acc) more)
  where
    more : holds_mark (digit_glyph false (n % 10) ∷ acc) ≡ false
    more = ap₂ (λ a b. a || b) (glyph-unmarked (n % 10)) p

    either : (b : Bool) (xs ys : List ℕ) → holds_mark xs ≡ false → holds_mark ys ≡ false → holds_mark (if b then xs else ys) ≡ false
    either true xs ys p q = p
    either false xs ys p q = q

pub decimal-unmarked : (n : ℕ) → holds_mark (decimal n) ≡ false
unfolding digits
decimal-unmarked n = digits-unmarked 64 n [] refl

-- the name does not end in a word that begins with `!` and another character than what follows its last mark, and a number
no-word : (name front seg : List ℕ) → name ≡ front ++ 33 ∷ seg → holds_mark seg ≡ false → (c : ℕ) (word : List ℕ) → holds_mark (c ∷ word) ≡ false → (first seg == c) ≡ false
    → (p : List ℕ × ℕ) → number_at_end name ≡ Some p → (start : List ℕ) → before_end (33 ∷ c ∷ word) p.0 ≡ Some start → ⊥
no-word name front seg is unmarked c word none other p number_is start word_is =
    let ends : name ≡ start ++ 33 ∷ (c ∷ word ++ decimal p.1) =
    number-read name p number_is ∙ (ap (λ r. r ++ decimal p.1) (word-read (33 ∷ c ∷ word) p.0 start word_is) ∙ append_assoc start (33 ∷ c ∷ word) (decimal p.1)) in
    let same : seg ≡ c ∷ word ++ decimal p.1 = last-mark front start seg (c ∷ word ++ decimal p.1) (sym is ∙ ends) unmarked (unmarked-join (c ∷ word) (decimal p.1) none (decimal-unmarked p.1)) in
    false≢true (sym other ∙ (ap (λ l. first l == c) same ∙ eq-eqb c c refl))

no-eliminator : (name front seg : List ℕ) → name ≡ front ++ 33 ∷ seg → IsSegment seg → is_eliminator_name name ≡ false
no-eliminator name front seg is h =
    unsome (λ p. option_and_then (λ family. if list_any (λ b. b == 33) family then None else Some p.1) (before_end (codes "!elim.") p.0)) (number_at_end name)
    (λ p number_is. unsome (λ family. if list_any (λ b. b == 33) family then None else Some p.1) (before_end (codes "!elim.") p.0)
    (λ start word_is. absurd (no-word name front seg is h.unmarked 101 (codes "lim.") refl h.no_elim p number_is start word_is)))

no-axiom_k : (name front seg : List ℕ) → name ≡ front ++ 33 ∷ seg → IsSegment seg → is_axiom_k_name name ≡ false
no-axiom_k name front seg is h =
    unsome (λ p. option_and_then (λ equality. option_and_then (λ q. if bytes_eq q.0 (codes "Eq.") then Some p.1 else None) (number_at_end equality)) (before_end (codes "!k.") p.0)) (number_at_end name)
    (λ p number_is. unsome (λ equality. option_and_then (λ q. if bytes_eq q.0 (codes "Eq.") then Some p.1 else None) (number_at_end equality)) (before_end (codes "!k.") p.0)
    (λ start word_is. absurd (no-word name front seg is h.unmarked 107 (codes ".") refl h.no_k p number_is start word_is)))

-- ---- all of it

other-word : (name word : List ℕ) → holds_mark name ≡ true → holds_mark word ≡ false → bytes_eq name word ≡ false
other-word name word holds none = by (bytes_eq name word) refl
  where
    by : (b : Bool) → bytes_eq name word ≡ b → bytes_eq name word ≡ false
    by true e = absurd (false≢true (sym none ∙ (ap holds_mark (sym (same-bytes name word e)) ∙ holds)))
    by false e = e

pub declarable : (stem more front seg : List ℕ) → IsStem stem → are_name_chars more ≡ true → 0 < length more → stem ++ 33 ∷ more ≡ front ++ 33 ∷ seg → IsSegment seg
    → (name : List ℕ) → name ≡ stem ++ 33 ∷ more → IsDeclarableName name
declarable stem more front seg is all some ends h name same =
    let made = stem ++ 33 ∷ more in
    let holds = inner-mark stem more in
    subst IsDeclarableName (sym same) (record {
      readable = record {
        chars = with-mark stem more is all;
        some = some-in stem;
        no_sort = other-word made (codes "Type") holds refl;
        no_let = other-word made (codes "let") holds refl;
        no_eliminator = no-eliminator made front seg ends h;
        no_axiom_k = no-axiom_k made front seg ends h;
      };
      shape = made-shape stem more is all some;
    })
  where
    some-in : (xs : List ℕ) → 0 < length (xs ++ 33 ∷ more)
    some-in [] = omega arith
    some-in (x ∷ xs) = omega arith
