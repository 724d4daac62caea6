-- The plain names of the surface text may be declared, and hold no `!`.
use Rattle.std.proofs.Common.{◌≡◌, ℕ, ◌+◌, ◌/◌, ◌%◌, ◌<◌, Bool, true, false, cond, List, [], ◌∷◌, ◌++◌, length, drop, refl, sym, ap, ap₂, ◌∙◌, arith}
use Rattle.std.specs.Prelude.{◌==◌, ◌||◌, nat_lt, if◌then◌else◌, Option, Some, None, option_and_then, bytes_eq, codes, decimal}
use Rattle.std.specs.List.{list_all, list_any}
use Rattle.std.specs.Option.{is_some}
use Rattle.std.specs.Str.{is_utf8, chars, encode_utf8_all}
use Rattle.std.proofs.lemmas.Bool.{and_parts, and_from, false≢true}
use Rattle.std.proofs.lemmas.Bool.Decides.{nat_tests}
use Rattle.std.proofs.lemmas.List.Folds.{list_any-append}
use Rattle.std.proofs.lemmas.Str.{IsUtf8-from_is_utf8, encodes-chars, chars-nil}
use Rattle.unicode_ident.specs.Ident.{is_xid_continue}
use Rattle.unicode_ident.proofs.Computing.{unicode_ident}
use Rattle.unicode_ident.proofs.IdentLemmas.{is_xid_start-is_xid_continue}
use lib.Utf8.{encode, next}
use Rattle.surface_syntax.specs.Spelling.{is_continuing, is_keyword, piece}
use Rattle.surface_syntax.specs.Tokens.{IsName, letter, underscore, Spells, keyword, plain, dotted, number, mark, arrow}
use Rattle.surface_syntax.specs.declared.token.TokenKind.{TokenKind}
use Rattle.surface_syntax.specs.declared.token.TokenKind.TheVariants.{Plain}
use Rattle.surface_syntax.proofs.TokenLaws.{spelled_piece}
use Rattle.core_text.specs.DeclaredNames.{shape_by, shape_of, is_generated, is_eliminator_name, is_axiom_k_name}
use Rattle.core_text.specs.NameRuns.{is_name_char}
use Rattle.core_text.specs.SurfaceNames.{SurfaceNamesAreReadable}
use Rattle.core_text.specs.SymbolLookup.{number_at_end, before_end}
use Rattle.core_text.specs.declared.declared_names.Shape.TheVariants.{Declarable, Malformed}
use Rattle.core_text.proofs.SymbolsRead.{same-bytes, number-read, word-read}

-- ---- texts that spell a plain name

plain-view : (of : TokenKind) (text : List ℕ) (fits : Bool) → Spells of text fits → of ≡ Plain → IsName text × (is_keyword text ≡ false)
plain-view of text fits (keyword name word) is = absurd (cc)
plain-view of text fits (plain name word) is = (name, word)
plain-view of text fits (dotted name word other) is = absurd (cc)
plain-view of text fits (number several) is = absurd (cc)
plain-view of text fits (mark one) is = absurd (cc)
plain-view of text fits arrow is = absurd (cc)

-- all characters go on with a name
or-left : (a b : Bool) → a ≡ true → (a || b) ≡ true
or-left a b e = ap (λ c. c || b) e

low-line : is_continuing 95 ≡ true
unfolding unicode_ident
low-line = refl

no-mark : is_continuing 33 ≡ false
unfolding unicode_ident
no-mark = refl

name-goes-on : (text : List ℕ) → IsName text → list_all is_continuing text ≡ true
name-goes-on _ (letter {c} {cs} starts others) = and_from (is_continuing c) (list_all is_continuing cs) (or-left (is_xid_continue c) (c == 39) (is_xid_start-is_xid_continue c starts)) others
name-goes-on _ (underscore {c} {cs} others) = and_from (is_continuing 95) (list_all is_continuing (c ∷ cs)) low-line others

all-names : (cs : List ℕ) → list_all is_continuing cs ≡ true → list_all is_name_char cs ≡ true
all-names [] all = refl
all-names (c ∷ cs) all =
    let parts = and_parts (is_continuing c) (list_all is_continuing cs) all in
    and_from (is_name_char c) (list_all is_name_char cs) (or-left (is_continuing c) ((c == 46) || (c == 33)) parts.0) (all-names cs parts.1)

some-name : (text : List ℕ) → IsName text → 0 < length text
some-name _ (letter {c} {cs} starts others) = omega arith
some-name _ (underscore {c} {cs} others) = omega arith

-- ---- no byte is `!`

abbrev marked : List ℕ → Bool
marked bytes = list_any (λ b. b == 33) bytes

high : (k d : ℕ) → 33 < k → (k + d == 33) ≡ false
high k d big = grind (arith, nat_tests)

char-unmarked : (c : ℕ) → (c == 33) ≡ false → marked (encode c) ≡ false
unfolding encode
char-unmarked c other = by (nat_lt c 128) (nat_lt c 2048) (nat_lt c 65536)
  where
    by : (x y z : Bool) → marked (cond x (c ∷ []) (cond y ((192 + c / 64) ∷ next c ∷ []) (cond z ((224 + c / 4096) ∷ next (c / 64) ∷ next c ∷ []) ((240 + c / 262144) ∷ next (c / 4096) ∷ next (c / 64) ∷ next c ∷ [])))) ≡ false
    by true y z = ap (λ b. b || false) other
    by false true z = ap₂ (λ a b. a || (b || false)) (high 192 (c / 64) (omega arith)) (high 128 (c % 64) (omega arith))
    by false false true =
        ap₂ (λ a b. a || b) (high 224 (c / 4096) (omega arith))
        (ap₂ (λ a b. a || (b || false)) (high 128 ((c / 64) % 64) (omega arith)) (high 128 (c % 64) (omega arith)))
    by false false false =
        ap₂ (λ a b. a || b) (high 240 (c / 262144) (omega arith))
        (ap₂ (λ a b. a || b) (high 128 ((c / 4096) % 64) (omega arith))
        (ap₂ (λ a b. a || (b || false)) (high 128 ((c / 64) % 64) (omega arith)) (high 128 (c % 64) (omega arith))))

other-char : (c : ℕ) → is_continuing c ≡ true → (c == 33) ≡ false
other-char c goes = by (c == 33) refl
  where
    by : (b : Bool) → (c == 33) ≡ b → (c == 33) ≡ false
    by true e =
        let same : c ≡ 33 = grind (arith, nat_tests) in
        absurd (false≢true (sym no-mark ∙ (ap is_continuing (sym same) ∙ goes)))
    by false e = e

chars-unmarked : (cs : List ℕ) → list_all is_continuing cs ≡ true → marked (encode_utf8_all cs) ≡ false
chars-unmarked [] all = refl
chars-unmarked (c ∷ cs) all =
    let parts = and_parts (is_continuing c) (list_all is_continuing cs) all in
    list_any-append (λ b. b == 33) (encode c) (encode_utf8_all cs)
    ∙ ap₂ (λ a b. a || b) (char-unmarked c (other-char c parts.0)) (chars-unmarked cs parts.1)

-- ---- so the name is no eliminator's and not K's

or-right : (a b : Bool) → b ≡ true → (a || b) ≡ true
or-right true b e = refl
or-right false b e = e

word-marks : (front word last : List ℕ) → marked word ≡ true → marked ((front ++ word) ++ last) ≡ true
word-marks front word last e =
    list_any-append (λ b. b == 33) (front ++ word) last
    ∙ or-left (marked (front ++ word)) (marked last) (list_any-append (λ b. b == 33) front word ∙ or-right (marked front) (marked word) e)

-- a name with a word that holds `!` before its number
no-word-inside : (name word : List ℕ) → marked word ≡ true → marked name ≡ false → (p : List ℕ × ℕ) → number_at_end name ≡ Some p → (front : List ℕ) → before_end word p.0 ≡ Some front → ⊥
no-word-inside name word holds none p number_is front word_is =
    false≢true (sym none ∙ (ap marked (number-read name p number_is ∙ ap (λ r. r ++ decimal p.1) (word-read word p.0 front word_is)) ∙ word-marks front word (decimal p.1) holds))

unsome : {A B : Type 0} (f : A → Option B) (o : Option A) → ((a : A) → o ≡ Some a → is_some (f a) ≡ false) → is_some (option_and_then f o) ≡ false
unsome f None k = refl
unsome f (Some a) k = k a refl

no-eliminator : (name : List ℕ) → marked name ≡ false → is_eliminator_name name ≡ false
no-eliminator name none =
    unsome (λ p. option_and_then (λ family. if list_any (λ b. b == 33) family then None else Some p.1) (before_end (codes "!elim.") p.0)) (number_at_end name)
    (λ p number_is. unsome (λ family. if list_any (λ b. b == 33) family then None else Some p.1) (before_end (codes "!elim.") p.0)
    (λ front word_is. absurd (no-word-inside name (codes "!elim.") refl none p number_is front word_is)))

no-axiom_k : (name : List ℕ) → marked name ≡ false → is_axiom_k_name name ≡ false
no-axiom_k name none =
    unsome (λ p. option_and_then (λ equality. option_and_then (λ q. if bytes_eq q.0 (codes "Eq.") then Some p.1 else None) (number_at_end equality)) (before_end (codes "!k.") p.0)) (number_at_end name)
    (λ p number_is. unsome (λ equality. option_and_then (λ q. if bytes_eq q.0 (codes "Eq.") then Some p.1 else None) (number_at_end equality)) (before_end (codes "!k.") p.0)
    (λ front word_is. absurd (no-word-inside name (codes "!k.") refl none p number_is front word_is)))

-- ---- a plain name

key-words : (is_keyword (chars (codes "Type")) ≡ true) × (is_keyword (chars (codes "let")) ≡ true)
unfolding chars
key-words = (refl, refl)

no-key-word : (name word : List ℕ) → is_keyword (chars word) ≡ true → is_keyword (chars name) ≡ false → bytes_eq name word ≡ false
no-key-word name word is other = by (bytes_eq name word) refl
  where
    by : (b : Bool) → bytes_eq name word ≡ b → bytes_eq name word ≡ false
    by true e = absurd (false≢true (sym other ∙ (ap (λ x. is_keyword (chars x)) (same-bytes name word e) ∙ is)))
    by false e = e

some-bytes : (name : List ℕ) → 0 < length (chars name) → 0 < length name
some-bytes [] some = absurd (omega (arith, some, ap length chars-nil))
some-bytes (b ∷ name) some = omega arith

whole-shape : (name : List ℕ) → is_utf8 name ≡ true → Spells Plain (chars name) true → shape_of name ≡ Declarable
whole-shape name text spells =
    let cs = chars name in
    let equal : (length cs == length cs) ≡ true = grind (arith, nat_tests) in
    ap (λ b. if b then shape_by (piece cs) cs else Malformed) text
    ∙ (ap (λ found. shape_by found cs) (spelled_piece spells) ∙ ap (λ b. if b || is_generated (drop (length cs) cs) then Declarable else Malformed) equal)

pub surface-names-are-readable : SurfaceNamesAreReadable
surface-names-are-readable name text spells =
    let view = plain-view Plain (chars name) true spells refl in
    let goes = name-goes-on (chars name) view.0 in
    let unmarked : marked name ≡ false = ap marked (sym (encodes-chars name (IsUtf8-from_is_utf8 name text))) ∙ chars-unmarked (chars name) goes in (
      record {
        readable = record {
          chars = and_from (is_utf8 name) (list_all is_name_char (chars name)) text (all-names (chars name) goes);
          some = some-bytes name (some-name (chars name) view.0);
          no_sort = no-key-word name (codes "Type") key-words.0 view.1;
          no_let = no-key-word name (codes "let") key-words.1 view.1;
          no_eliminator = no-eliminator name unmarked;
          no_axiom_k = no-axiom_k name unmarked;
        };
        shape = whole-shape name text spells;
      },
      unmarked,
    )
