-- Texts that agree are read alike: names that a line declares, and names of families.
use Rattle.std.proofs.Common.{◌≡◌, ◌⊎◌, inl, inr, ℕ, zero, suc, ◌+◌, ◌<◌, Bool, true, false, cond, List, [], ◌∷◌, ◌++◌, length, drop, take, refl, sym, ap, ap₂, ◌∙◌, subst, arith}
use Rattle.std.specs.Prelude.{◌==◌, ◌&&◌, ◌||◌, nat_lt, nat_le, if◌then◌else◌, Option, Some, Ok}
use Rattle.std.specs.List.{list_all, prefix_len}
use Rattle.std.specs.Str.{is_utf8, chars, IsUtf8}
use Rattle.std.proofs.lemmas.Bool.{and_parts}
use Rattle.std.proofs.lemmas.Bool.Decides.{nat_tests}
use Rattle.std.proofs.lemmas.List.{length-take-le, take-append-drop}
use Rattle.std.proofs.lemmas.Str.{IsUtf8-from_is_utf8, encode_ascii, encodes-chars, chars-append, chars_past_char}
use Rattle.unicode_ident.specs.Ident.{is_xid_start}
use Rattle.unicode_ident.proofs.Computing.{unicode_ident}
use lib.Utf8.{encode, encodes}
use Rattle.theory.specs.Terms.{Term, Fam}
use Rattle.theory.specs.Signatures.{Signature}
use Rattle.core_sig.specs.Names.{find}
use Rattle.core_sig.specs.Raw.{RawConstructor}
use Rattle.surface_syntax.specs.Spelling.{is_continuing, is_keyword, byte_len, tail_len, found_within, name_len, name_piece, other_piece, piece}
use Rattle.surface_syntax.specs.declared.token.Piece.{Piece}
use Rattle.surface_syntax.specs.declared.token.Piece.TheVariants.{Gap, Found, Bad}
use Rattle.surface_syntax.specs.declared.token.TokenKind.TheVariants.{Plain, Dotted, Number, Keyword, Mark}
use Rattle.core_text.specs.DeclaredNames.{is_generated, shape_by, shape_of, may_declare, by_shape, new_name}
use Rattle.core_text.specs.LineReading.{family_found, family_name}
use Rattle.core_text.specs.NameRuns.{is_name_char, width, are_name_chars, name_char_len, run_len}
use Rattle.core_text.specs.Places.{first_character}
use Rattle.core_text.specs.Reading.{Reading, wrong, first}
use Rattle.core_text.specs.SymbolLookup.{found_symbol}
use Rattle.core_text.specs.declared.declared_names.Shape.{Shape}
use Rattle.core_text.specs.declared.declared_names.Shape.TheVariants.{Declarable, Underscore, Malformed}
use Rattle.core_text.proofs.Agreement.{by_character, Reread, Alike, reread-same}
use Rattle.core_text.proofs.Characters.{Same, char-same, is-run, run-within}
use Rattle.core_text.proofs.NamesAgree.{after_run, NameTells, goes_on, is_wrong, reread-named}
use Rattle.core_text.proofs.RunChars.{run, run-parts, run-chars}
use Rattle.core_text.proofs.RunSteps.{run_more, run_end}
use Rattle.core_text.proofs.TermsBack.{some-char}
use Rattle.core_text.proofs.WordsAgree.{alike-here}

text-of : (name : List ℕ) → are_name_chars name ≡ true → is_utf8 name ≡ true
text-of name e = (and_parts (is_utf8 name) (list_all is_name_char (chars name)) e).0

-- ---- the shape of `_`

abbrev goes : List ℕ → Bool
goes cs = nat_lt 0 (prefix_len is_continuing cs)

not-start : is_xid_start 95 ≡ false
unfolding unicode_ident
not-start = refl

abbrev NoMark : Piece → Type 0
NoMark (Found Mark n) = ⊥
NoMark _ = Unit {0}

either-shape : (b : Bool) → (if b then Declarable else Malformed) ≡ Underscore → ⊥
either-shape true e = absurd (cc)
either-shape false e = absurd (cc)

no-mark-shape : (p : Piece) (cs : List ℕ) → NoMark p → shape_by p cs ≡ Underscore → ⊥
no-mark-shape (Found Plain n) cs is e = either-shape ((n == length cs) || is_generated (drop n cs)) e
no-mark-shape (Found Dotted n) cs is e = either-shape (is_generated (drop n cs)) e
no-mark-shape (Found Number n) cs is e = absurd (cc)
no-mark-shape (Found Keyword n) cs is e = absurd (cc)
no-mark-shape (Found Mark n) cs is e = is
no-mark-shape (Gap n) cs is e = absurd (cc)
no-mark-shape Bad cs is e = absurd (cc)

other-shape : (p : Piece) (cs : List ℕ) → (first cs == 95) ≡ false → shape_by p cs ≡ Underscore → ⊥
other-shape (Found Mark n) cs other e = by (first cs == 95) other e
  where
    by : (b : Bool) → b ≡ false → (if b then Underscore else Malformed) ≡ Underscore → ⊥
    by true f e = absurd (cc)
    by false f e = absurd (cc)
other-shape (Found Plain n) cs other e = no-mark-shape (Found Plain n) cs tt e
other-shape (Found Dotted n) cs other e = no-mark-shape (Found Dotted n) cs tt e
other-shape (Found Number n) cs other e = no-mark-shape (Found Number n) cs tt e
other-shape (Found Keyword n) cs other e = no-mark-shape (Found Keyword n) cs tt e
other-shape (Gap n) cs other e = no-mark-shape (Gap n) cs tt e
other-shape Bad cs other e = no-mark-shape Bad cs tt e

within-no-mark : (a b : Bool) (n m : ℕ) (t : Bool) → NoMark (if t then found_within a Plain n else found_within b Dotted m)
within-no-mark true b n m true = tt
within-no-mark false b n m true = tt
within-no-mark a true n m false = tt
within-no-mark a false n m false = tt

name-no-mark : (n : ℕ) (cs : List ℕ) → NoMark (name_piece n cs)
name-no-mark n cs = by (is_keyword (take n cs))
  where
    by : (t : Bool) → NoMark (if t then Found Keyword n else (if tail_len (drop n cs) == 0 then found_within (nat_le (byte_len (take n cs)) 255) Plain n else found_within (nat_le (byte_len (take n cs)) 255 && nat_le (tail_len (drop n cs)) 3) Dotted (n + tail_len (drop n cs))))
    by true = tt
    by false = within-no-mark (nat_le (byte_len (take n cs)) 255) (nat_le (byte_len (take n cs)) 255 && nat_le (tail_len (drop n cs)) 3) n (n + tail_len (drop n cs)) (tail_len (drop n cs) == 0)

-- how many characters a name has that begins with `_`
line-len : (ds : List ℕ) (b : Bool) → goes ds ≡ b → name_len (95 ∷ ds) ≡ (if b then 1 + prefix_len is_continuing ds else 0)
line-len ds b e = ap₂ (λ x y. if x || y then 1 + prefix_len is_continuing ds else 0) not-start e

line-piece : (ds : List ℕ) (k : ℕ) → name_len (95 ∷ ds) ≡ k → piece (95 ∷ ds) ≡ (if nat_lt 0 k then name_piece k (95 ∷ ds) else other_piece (95 ∷ ds))
line-piece ds k e = ap (λ k. if nat_lt 0 k then name_piece k (95 ∷ ds) else other_piece (95 ∷ ds)) e

line-alone : (ds : List ℕ) → other_piece (95 ∷ ds) ≡ Found Mark 1
line-alone [] = refl
line-alone (d ∷ ds) = refl

-- `_` with nothing after it that goes on with a name
line-shape : (ds : List ℕ) → goes ds ≡ false → shape_by (piece (95 ∷ ds)) (95 ∷ ds) ≡ Underscore
line-shape ds e = ap (λ p. shape_by p (95 ∷ ds)) (line-piece ds 0 (line-len ds false e) ∙ line-alone ds)

pub record IsLine (cs : List ℕ) : Type 0 where
  pub others : List ℕ
  pub is : cs ≡ 95 ∷ others
  pub alone : goes others ≡ false

shape-line : (cs : List ℕ) → shape_by (piece cs) cs ≡ Underscore → IsLine cs
shape-line [] e = absurd (cc)
shape-line (c ∷ ds) e = by (c == 95) refl
  where
    at : c ≡ 95 → (b : Bool) → goes ds ≡ b → IsLine (c ∷ ds)
    at is true f =
        let k = 1 + prefix_len is_continuing ds in
        let more : nat_lt 0 k ≡ true = grind (arith, nat_tests) in
        let named : piece (95 ∷ ds) ≡ name_piece k (95 ∷ ds) = line-piece ds k (line-len ds true f) ∙ ap (λ b. if b then name_piece k (95 ∷ ds) else other_piece (95 ∷ ds)) more in
        let shape : shape_by (piece (95 ∷ ds)) (95 ∷ ds) ≡ Underscore = subst (λ x. shape_by (piece (x ∷ ds)) (x ∷ ds) ≡ Underscore) is e in
        absurd (no-mark-shape (name_piece k (95 ∷ ds)) (95 ∷ ds) (name-no-mark k (95 ∷ ds)) (ap (λ p. shape_by p (95 ∷ ds)) (sym named) ∙ shape))
    at is false f = record { others = ds; is = ap (λ x. x ∷ ds) is; alone = f }

    by : (b : Bool) → (c == 95) ≡ b → IsLine (c ∷ ds)
    by true f = let is : c ≡ 95 = grind (arith, nat_tests) in at is (goes ds) refl
    by false f = absurd (other-shape (piece (c ∷ ds)) (c ∷ ds) f e)

-- ---- bytes that begin with `_`

low-line : are_name_chars (95 ∷ []) ≡ true
unfolding is_utf8 chars unicode_ident lib.Utf8.encode
low-line = refl

line-run : (z : List ℕ) → run (95 ∷ z) ≡ 95 ∷ run z
line-run z =
    let more = run_more (95 ∷ z) 1 (some-char 95 z refl low-line) (omega arith) in
    let next : run_len (95 ∷ z) ≡ suc (run_len z) = omega (arith, more) in
    ap (λ k. take k (95 ∷ z)) next

line-chars : (z : List ℕ) → chars (run (95 ∷ z)) ≡ 95 ∷ chars (run z)
line-chars z =
    chars_past_char (run (95 ∷ z)) (run z) 95 (IsUtf8-from_is_utf8 (run (95 ∷ z)) (text-of (run (95 ∷ z)) (run-chars (95 ∷ z))))
    (line-run z ∙ ap (λ s. s ++ run z) (sym (encode_ascii 95 (omega arith))))

shape-is : (name : List ℕ) → are_name_chars name ≡ true → shape_of name ≡ shape_by (piece (chars name)) (chars name)
shape-is name e = ap (λ b. if b then shape_by (piece (chars name)) (chars name) else Malformed) (text-of name e)

goes-front : (xs ys zs : List ℕ) → 0 < length xs → goes (xs ++ ys) ≡ goes (xs ++ zs)
goes-front [] ys zs some = absurd (omega arith)
goes-front (x ∷ xs) ys zs some = by (is_continuing x)
  where
    by : (b : Bool) → nat_lt 0 (cond b (1 + prefix_len is_continuing (xs ++ ys)) 0) ≡ nat_lt 0 (cond b (1 + prefix_len is_continuing (xs ++ zs)) 0)
    by true =
        let one : nat_lt 0 (1 + prefix_len is_continuing (xs ++ ys)) ≡ true = grind (arith, nat_tests) in
        let two : nat_lt 0 (1 + prefix_len is_continuing (xs ++ zs)) ≡ true = grind (arith, nat_tests) in
        one ∙ sym two
    by false = refl

some-chars : (bytes : List ℕ) → IsUtf8 bytes → 0 < length bytes → 0 < length (chars bytes)
some-chars bytes text some = by (chars bytes) refl
  where
    by : (cs : List ℕ) → chars bytes ≡ cs → 0 < length cs
    by [] e = let none : length (encodes []) ≡ length bytes = ap (λ cs. length (encodes cs)) (sym e) ∙ ap length (encodes-chars bytes text) in absurd (omega (arith, none))
    by (c ∷ cs) e = omega arith

-- whether the run goes on with a name depends on the first character
goes-same : (z y : List ℕ) → Same z y → goes (chars (run z)) ≡ goes (chars (run y))
goes-same z y same = by (name_char_len z) refl
  where
    empty : (x : List ℕ) → name_char_len x ≡ 0 → goes (chars (run x)) ≡ goes (chars [])
    empty x e = ap (λ k. goes (chars (take k x))) (run_end x e)

    parts : (x : List ℕ) → 0 < name_char_len x → IsUtf8 (first_character x) → goes (chars (run x)) ≡ goes (chars (first_character x) ++ chars (run (drop (width (first x)) x)))
    parts x some text = ap (λ r. goes (chars r)) (run-parts x some) ∙ ap goes (chars-append (first_character x) (run (drop (width (first x)) x)) text)

    by : (n : ℕ) → name_char_len z ≡ n → goes (chars (run z)) ≡ goes (chars (run y))
    by zero e = empty z e ∙ sym (empty y (sym (char-same z y same) ∙ e))
    by (suc n) e =
        let some : 0 < name_char_len z = omega arith in
        let more : 0 < name_char_len y = omega (arith, char-same z y same) in
        let char = (is-run z some).char in
        let c = first_character z in
        let text : IsUtf8 c = IsUtf8-from_is_utf8 c (text-of c char.chars) in
        let long : 0 < length c = omega (arith, length-take-le (width (first z)) z char.within) in
        let rest = λ (x : List ℕ). chars (run (drop (width (first x)) x)) in
        parts z some text
        ∙ (goes-front (chars c) (rest z) (rest y) (some-chars c text long)
        ∙ (ap (λ d. goes (chars d ++ rest y)) same ∙ sym (parts y more (subst IsUtf8 same text))))

-- ---- names that are declared

module _ (S : Signature) (own : List ℕ) (found : List RawConstructor) where
  -- by the shape, with the name apart from the bytes after it
  abbrev on_shape : Shape → Bool → List ℕ → List ℕ → List ℕ → Reading (List ℕ)
  on_shape Declarable allowed name r x = if allowed then Ok (name, r) else wrong x
  on_shape Underscore allowed name r x = wrong (drop 1 x)
  on_shape Malformed allowed name r x = wrong x

  abbrev on_new : List ℕ → List ℕ → List ℕ → Reading (List ℕ)
  on_new name r x = on_shape (shape_of name) (may_declare S own found name) name r x

  new-is : (x : List ℕ) → on_new (run x) (after_run x) x ≡ new_name S own found x
  new-is x = by (shape_of (run x)) (may_declare S own found (run x))
    where
      by : (s : Shape) (allowed : Bool) → on_shape s allowed (run x) (after_run x) x ≡ by_shape s allowed (run x) x
      by Declarable true = ap (λ k. Ok (run x, drop k x)) (sym (length-take-le (run_len x) x (run-within x)))
      by Declarable false = refl
      by Underscore allowed = refl
      by Malformed allowed = refl

  shape-tells : (name : List ℕ) (s : Shape) → shape_of name ≡ s → s ≡ Underscore ⊎ NameTells on_new name
  shape-tells name Underscore e = inl refl
  shape-tells name Malformed e = inr (is_wrong (λ r x. ap (λ s. on_shape s (may_declare S own found name) name r x) e))
  shape-tells name Declarable e = inr (by (may_declare S own found name) refl)
    where
      by : (b : Bool) → may_declare S own found name ≡ b → NameTells on_new name
      by true f = goes_on (λ r. Ok (name, r)) (alike-here true name) (λ r. inr refl) (λ r x. ap₂ (λ s b. on_shape s b name r x) e f)
      by false f = is_wrong (λ r x. ap₂ (λ s b. on_shape s b name r x) e f)

  -- the place is after the `_`
  line-reread : (rest : List ℕ) → shape_of (run rest) ≡ Underscore → Reread true (new_name S own found) rest (new_name S own found rest)
  line-reread rest e =
      let name = run rest in
      let line = shape-line (chars name) (sym (shape-is name (run-chars rest)) ∙ e) in
      let z = encodes line.others ++ after_run rest in
      let bytes : name ≡ 95 ∷ encodes line.others =
      sym (encodes-chars name (IsUtf8-from_is_utf8 name (text-of name (run-chars rest)))) ∙ (ap encodes line.is ∙ ap (λ s. s ++ encodes line.others) (encode_ascii 95 (omega arith))) in
      let text : rest ≡ 95 ∷ z = sym (take-append-drop (run_len rest) rest) ∙ ap (λ s. s ++ after_run rest) bytes in
      let whole : 95 ∷ line.others ≡ 95 ∷ chars (run z) = sym line.is ∙ (ap (λ x. chars (run x)) text ∙ line-chars z) in
      let others : line.others ≡ chars (run z) = ap (drop 1) whole in
      let alone : goes (chars (run z)) ≡ false = ap goes (sym others) ∙ line.alone in
      subst (λ x. Reread true (new_name S own found) x (new_name S own found x)) (sym text)
      (subst (Reread true (new_name S own found) (95 ∷ z)) (sym (past-line z alone))
      (record { front = 95 ∷ []; back = z; is = refl; size = refl; refused = by_character (λ y same. past-line y (sym (goes-same z y same) ∙ alone)) }))
    where
      past-line : (y : List ℕ) → goes (chars (run y)) ≡ false → new_name S own found (95 ∷ y) ≡ wrong y
      past-line y alone =
          let shape : shape_of (run (95 ∷ y)) ≡ Underscore = shape-is (run (95 ∷ y)) (run-chars (95 ∷ y)) ∙ (ap (λ cs. shape_by (piece cs) cs) (line-chars y) ∙ line-shape (chars (run y)) alone) in
          ap (λ s. by_shape s (may_declare S own found (run (95 ∷ y))) (run (95 ∷ y)) (95 ∷ y)) shape

  new-reread : (rest : List ℕ) → Reread true (new_name S own found) rest (new_name S own found rest)
  new-reread rest = by (shape-tells (run rest) (shape_of (run rest)) refl)
    where
      by : (shape_of (run rest) ≡ Underscore) ⊎ NameTells on_new (run rest) → Reread true (new_name S own found) rest (new_name S own found rest)
      by (inl e) = line-reread rest e
      by (inr tells) =
          subst (Reread true (new_name S own found) rest) (new-is rest)
          (reread-same true (λ x. on_new (run x) (after_run x) x) (new_name S own found) rest (on_new (run rest) (after_run rest) rest) new-is (reread-named on_new rest tells))

  pub alike-new : Alike true (new_name S own found)
  alike-new = record { reread = new-reread }

-- ---- names of families

module _ (S : Signature) where
  abbrev on_family : List ℕ → List ℕ → List ℕ → Reading ℕ
  on_family name r x = family_found (found_symbol S (find S name)) x r

  family-tells : (name : List ℕ) (o : Option Term) → found_symbol S (find S name) ≡ o → NameTells on_family name
  family-tells name (Some (Fam n)) e = goes_on (λ r. Ok (n, r)) (alike-here true n) (λ r. inr refl) (λ r x. ap (λ o. family_found o x r) e)
  family-tells name o e = is_wrong (λ r x. ap (λ o. family_found o x r) e)

  pub alike-family : Alike true (family_name S)
  alike-family = record { reread = λ rest. reread-named on_family rest (family-tells (run rest) (found_symbol S (find S (run rest))) refl) }
