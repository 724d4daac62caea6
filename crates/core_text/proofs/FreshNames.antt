-- There is always a name more that a core file may declare.
use Rattle.std.proofs.Common.{◌≡◌, ℕ, zero, suc, ◌+◌, ◌-◌, ◌<◌, Bool, true, false, cond, List, [], ◌∷◌, ◌++◌, take, length, refl, ap, ap₂, ◌∙◌, arith}
use Rattle.std.specs.Prelude.{◌==◌, ◌&&◌, ◌||◌, not, nat_le, nat_lt, if◌then◌else◌, Some, None, option_and_then, slice_index, bytes_eq, codes}
use Rattle.std.specs.List.{list_any}
use Rattle.std.specs.Map.{lookup}
use Rattle.std.specs.Option.{is_some}
use Rattle.std.specs.Str.{is_utf8, chars}
use Rattle.std.proofs.lemmas.Bool.{and_parts}
use Rattle.std.proofs.lemmas.Bool.Decides.{nat_tests}
use Rattle.std.proofs.lemmas.Str.{IsUtf8-from_is_utf8, chars-append}
use Rattle.unicode_ident.proofs.Computing.{unicode_ident}
use Rattle.theory.specs.Signatures.{Signature}
use Rattle.core_sig.specs.Names.{named}
use Rattle.core_sig.specs.Raw.{RawConstructor}
use Rattle.core_sig.specs.declared.entry.Found.{Found}
use Rattle.core_sig.proofs.NameLists.{differs}
use Rattle.surface_syntax.specs.Spelling.{piece}
use Rattle.surface_syntax.specs.declared.token.Piece.TheVariants.{Found as FoundPiece}
use Rattle.surface_syntax.specs.declared.token.TokenKind.TheVariants.{Plain}
use Rattle.core_text.specs.DeclaredNames.{is_generated, shape_by, shape_of, is_eliminator_name, is_axiom_k_name, is_new}
use Rattle.core_text.specs.NameRuns.{are_name_chars}
use Rattle.core_text.specs.Reading.{is_digit, with_digit}
use Rattle.core_text.specs.Spellings.{IsNewName}
use Rattle.core_text.specs.SymbolLookup.{number_at_end, before_end}
use Rattle.core_text.specs.declared.declared_names.Shape.TheVariants.{Declarable, Malformed}
use Rattle.core_text.proofs.RunChars.{none-chars}
use Rattle.core_text.proofs.WholeRuns.{chars-join}

-- ---- names of any length

abbrev letters : ℕ → List ℕ
letters zero = []
letters (suc k) = 120 ∷ letters k

-- after its `_`
abbrev pub fresh-tail : ℕ → List ℕ
fresh-tail k = codes "x!x" ++ letters k

-- `_x!x`, and as many letters more
abbrev pub fresh : ℕ → List ℕ
fresh k = 95 ∷ fresh-tail k

letters-long : (k : ℕ) → length (letters k) ≡ k
letters-long zero = refl
letters-long (suc k) = ap (λ n. suc n) (letters-long k)

fresh-long : (k : ℕ) → k < length (fresh k)
fresh-long k = omega (arith, letters-long k)

letter-chars : are_name_chars (120 ∷ []) ≡ true
unfolding is_utf8 chars unicode_ident lib.Utf8.encode
letter-chars = refl

front-chars : are_name_chars (codes "_x!x") ≡ true
unfolding is_utf8 chars unicode_ident lib.Utf8.encode
front-chars = refl

letters-chars : (k : ℕ) → are_name_chars (letters k) ≡ true
letters-chars zero = none-chars
letters-chars (suc k) = chars-join (120 ∷ []) (letters k) letter-chars (letters-chars k)

fresh-chars : (k : ℕ) → are_name_chars (fresh k) ≡ true
fresh-chars k = chars-join (codes "_x!x") (letters k) front-chars (letters-chars k)

-- ---- its shape

front-utf8 : is_utf8 (codes "_x!x") ≡ true
unfolding is_utf8 chars lib.Utf8.encode
front-utf8 = refl

front-read : chars (codes "_x!x") ≡ codes "_x!x"
unfolding chars lib.Utf8.encode
front-read = refl

fresh-read : (k : ℕ) → chars (fresh k) ≡ codes "_x!x" ++ chars (letters k)
fresh-read k = chars-append (codes "_x!x") (letters k) (IsUtf8-from_is_utf8 (codes "_x!x") front-utf8) ∙ ap (λ cs. cs ++ chars (letters k)) front-read

front-piece : (cs : List ℕ) → piece (codes "_x!x" ++ cs) ≡ FoundPiece Plain 2
unfolding unicode_ident
front-piece cs = refl

several : (cs : List ℕ) → nat_lt 1 (length (codes "!x" ++ cs)) ≡ true
several cs = grind (arith, nat_tests)

either-true : (a b : Bool) → b ≡ true → (a || b) ≡ true
either-true true b e = refl
either-true false b e = e

front-shape : (cs : List ℕ) → shape_by (FoundPiece Plain 2) (codes "_x!x" ++ cs) ≡ Declarable
front-shape cs =
    ap (λ b. if b then Declarable else Malformed) (either-true (2 == length (codes "_x!x" ++ cs)) (is_generated (codes "!x" ++ cs)) (several cs))

fresh-shape : (k : ℕ) → shape_of (fresh k) ≡ Declarable
fresh-shape k =
    ap (λ b. if b then shape_by (piece (chars (fresh k))) (chars (fresh k)) else Malformed) (and_parts (is_utf8 (fresh k)) _ (fresh-chars k)).0
    ∙ (ap (λ cs. shape_by (piece cs) cs) (fresh-read k)
    ∙ (ap (λ p. shape_by p (codes "_x!x" ++ chars (letters k))) (front-piece (chars (letters k))) ∙ front-shape (chars (letters k))))

-- ---- it ends in no number

last-letter : (k : ℕ) → slice_index (120 ∷ letters k) k ≡ 120
last-letter zero = refl
last-letter (suc k) = last-letter k

last-fresh : (k : ℕ) → slice_index (fresh k) (length (fresh k) - 1) ≡ 120
last-fresh k =
    ap (λ n. slice_index (fresh k) n) place ∙ last-letter k
  where
    place : length (fresh k) - 1 ≡ suc (suc (suc k))
    place = omega (arith, letters-long k)

no-number : (k : ℕ) → number_at_end (fresh k) ≡ None
no-number k =
    let bytes = fresh k in
    let n = length bytes in
    let other = slice_index bytes (n - 2) in
    ap (λ last. if not (is_digit last) then None else (if nat_le 2 n && (is_digit other && not (other == 48)) then Some (take (n - 2) bytes, with_digit (other - 48) last) else Some (take (n - 1) bytes, last - 48))) (last-fresh k)

no-eliminator : (k : ℕ) → is_eliminator_name (fresh k) ≡ false
no-eliminator k =
    ap (λ o. is_some (option_and_then (λ p. option_and_then (λ family. if list_any (λ b. b == 33) family then None else Some p.1) (before_end (codes "!elim.") p.0)) o)) (no-number k)

no-axiom : (k : ℕ) → is_axiom_k_name (fresh k) ≡ false
no-axiom k =
    ap (λ o. is_some (option_and_then (λ p. option_and_then (λ equality. option_and_then (λ q. if bytes_eq q.0 (codes "Eq.") then Some p.1 else None) (number_at_end equality)) (before_end (codes "!k.") p.0)) o)) (no-number k)

-- ---- it is none of so many others

other-name : (name other : List ℕ) → length other < length name → bytes_eq name other ≡ false
other-name name other longer = differs name other (λ same. by (ap length same))
  where
    by : length name ≡ length other → ⊥
    by same = omega (arith, same, longer)

-- the lengths of the names together
known-size : List (List ℕ × Found) → ℕ
known-size [] = 0
known-size (p ∷ known) = length p.0 + known-size known

unknown : (name : List ℕ) (known : List (List ℕ × Found)) → known-size known < length name → lookup (bytes_eq name) known ≡ None
unfolding known-size
unknown name [] longer = refl
unknown name (p ∷ known) longer =
    ap (λ b. cond b (Some p.1) (lookup (bytes_eq name) known)) (other-name name p.0 (omega (arith, longer)))
    ∙ unknown name known (omega (arith, longer))

found-size : List RawConstructor → ℕ
found-size [] = 0
found-size (c ∷ found) = length c.name + found-size found

not-found : (name : List ℕ) (found : List RawConstructor) → found-size found < length name → list_any (λ c. bytes_eq name c.name) found ≡ false
unfolding found-size
not-found name [] longer = refl
not-found name (c ∷ found) longer =
    ap₂ (λ a b. a || b) (other-name name c.name (omega (arith, longer))) (not-found name found (omega (arith, longer)))

-- the number of letters with which it is none of the names so far
pub letters-for : Signature → List ℕ → List RawConstructor → ℕ
letters-for S own found = known-size (named 0 S.entries) + (length own + found-size found)

pub fresh-name : (S : Signature) (own : List ℕ) (found : List RawConstructor) → IsNewName S own found (fresh (letters-for S own found))
unfolding letters-for
fresh-name S own found =
    let k = known-size (named 0 S.entries) + (length own + found-size found) in
    let long = fresh-long k in
    record {
      chars = fresh-chars k;
      shape = fresh-shape k;
      may =
          ap₂ (λ a b. not a && (not b && is_new S own found (fresh k))) (no-eliminator k) (no-axiom k)
          ∙ (ap (λ o. not (is_some o) && (not (bytes_eq (fresh k) own) && not (list_any (λ c. bytes_eq (fresh k) c.name) found))) (unknown (fresh k) (named 0 S.entries) (omega (arith, long)))
          ∙ ap₂ (λ a b. not a && not b) (other-name (fresh k) own (omega (arith, long))) (not-found (fresh k) found (omega (arith, long))));
    }
