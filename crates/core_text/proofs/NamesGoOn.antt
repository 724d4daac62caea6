-- A name that is read may be declared, and where one is wrong some other name goes on with the bytes before the place.
use Rattle.std.proofs.Common.{◌≡◌, ℕ, zero, suc, Bool, true, false, List, [], ◌∷◌, ◌++◌, take, drop, length, refl, sym, ap, ◌∙◌, arith}
use Rattle.std.specs.Prelude.{◌==◌, ◌||◌, if◌then◌else◌, Ok}
use Rattle.std.specs.Str.{is_utf8, chars, encode_utf8_all}
use Rattle.std.proofs.lemmas.Bool.{false≢true}
use Rattle.std.proofs.lemmas.Bool.Decides.{nat_tests}
use Rattle.std.proofs.lemmas.Str.{IsUtf8-from_is_utf8, encodes-chars}
use Rattle.theory.specs.Signatures.{Signature}
use Rattle.core_sig.specs.Raw.{RawConstructor}
use Rattle.surface_syntax.specs.Spelling.{piece}
use Rattle.surface_syntax.specs.declared.token.Piece.{Piece}
use Rattle.surface_syntax.specs.declared.token.Piece.TheVariants.{Gap, Found, Bad}
use Rattle.surface_syntax.specs.declared.token.TokenKind.TheVariants.{Plain, Dotted, Number, Keyword, Mark}
use Rattle.core_text.specs.DeclaredNames.{is_generated, marked, shape_by, shape_of, may_declare, by_shape, new_name}
use Rattle.core_text.specs.NameRuns.{run_len}
use Rattle.core_text.specs.Reading.{wrong, first}
use Rattle.core_text.specs.Spellings.{IsNewName}
use Rattle.core_text.specs.declared.declared_names.Shape.{Shape}
use Rattle.core_text.specs.declared.declared_names.Shape.TheVariants.{Declarable, Underscore, Malformed}
use Rattle.core_text.proofs.Completions.{IsFront, Meets, meets-if, meets-wrong}
use Rattle.core_text.proofs.FreshNames.{fresh, fresh-tail, letters-for, fresh-name}
use Rattle.core_text.proofs.RunChars.{run-chars}
use Rattle.core_text.proofs.RunSteps.{taken-front}
use Rattle.core_text.proofs.WordsRead.{first-is}

-- ---- a `_` that begins no name

no-underscore : (b : Bool) → (if b then Declarable else Malformed) ≡ Underscore → ⊥
no-underscore true e = absurd (cc)
no-underscore false e = absurd (cc)

marked-first : (cs : List ℕ) → marked cs ≡ Underscore → (first cs == 95) ≡ true
marked-first cs = by (first cs == 95)
  where
    by : (b : Bool) → (if b then Underscore else Malformed) ≡ Underscore → b ≡ true
    by true e = refl
    by false e = absurd (cc)

shape-first : (p : Piece) (cs : List ℕ) → shape_by p cs ≡ Underscore → (first cs == 95) ≡ true
shape-first (Found Plain n) cs e = absurd (no-underscore ((n == length cs) || is_generated (drop n cs)) e)
shape-first (Found Dotted n) cs e = absurd (no-underscore (is_generated (drop n cs)) e)
shape-first (Found Mark n) cs e = marked-first cs e
shape-first (Found Number n) cs e = absurd (cc)
shape-first (Found Keyword n) cs e = absurd (cc)
shape-first (Gap n) cs e = absurd (cc)
shape-first Bad cs e = absurd (cc)

encoded-first : (cs : List ℕ) → (first cs == 95) ≡ true → (first (encode_utf8_all cs) == 95) ≡ true
unfolding lib.Utf8.encode
encoded-first [] e = e
encoded-first (c ∷ cs) e =
    let here : c ≡ 95 = grind (arith, nat_tests) in ap (λ k. first (encode_utf8_all (k ∷ cs)) == 95) here

name-first : (name : List ℕ) → shape_of name ≡ Underscore → (first name == 95) ≡ true
name-first name = by (is_utf8 name) refl
  where
    by : (b : Bool) → is_utf8 name ≡ b → (if b then shape_by (piece (chars name)) (chars name) else Malformed) ≡ Underscore → (first name == 95) ≡ true
    by true text e =
        ap (λ bytes. first bytes == 95) (sym (encodes-chars name (IsUtf8-from_is_utf8 name text)))
        ∙ encoded-first (chars name) (shape-first (piece (chars name)) (chars name) e)
    by false text e = absurd (cc)

taken-first : (k : ℕ) (rest : List ℕ) → (first (take k rest) == 95) ≡ true → (first rest == 95) ≡ true
taken-first zero rest e = absurd (false≢true e)
taken-first (suc k) [] e = e
taken-first (suc k) (b ∷ rest) e = e

-- ---- a name that is declared

module _ (S : Signature) (own : List ℕ) (found : List RawConstructor) where
  -- the name and what comes after it
  abbrev pub Named : List ℕ → List ℕ → List ℕ → Type 0
  Named rest name r = (rest ≡ name ++ r) × IsNewName S own found name

  some-name : IsFront (IsNewName S own found) []
  some-name = (fresh (letters-for S own found), fresh-name S own found)

  shape-meets : (rest : List ℕ) (shape : Shape) → shape_of (take (run_len rest) rest) ≡ shape → Meets (Named rest) (IsNewName S own found) rest (by_shape shape (may_declare S own found (take (run_len rest) rest)) (take (run_len rest) rest) rest)
  shape-meets rest Declarable is =
      let name = take (run_len rest) rest in
      meets-if (Named rest) (IsNewName S own found) rest (may_declare S own found name) (Ok (name, drop (length name) rest)) (wrong rest)
      (λ may. (taken-front (run_len rest) rest, record { chars = run-chars rest; shape = is; may = may }))
      (λ e. meets-wrong (Named rest) (IsNewName S own found) [] rest rest refl some-name)
  shape-meets rest Underscore is =
      let here = taken-first (run_len rest) rest (name-first (take (run_len rest) rest) is) in
      meets-wrong (Named rest) (IsNewName S own found) (95 ∷ []) (drop 1 rest) rest (first-is 95 rest (omega arith) here)
      (fresh-tail (letters-for S own found), fresh-name S own found)
  shape-meets rest Malformed is = meets-wrong (Named rest) (IsNewName S own found) [] rest rest refl some-name

  pub name-meets : (rest : List ℕ) → Meets (Named rest) (IsNewName S own found) rest (new_name S own found rest)
  name-meets rest = shape-meets rest (shape_of (take (run_len rest) rest)) refl
