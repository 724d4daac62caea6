-- A name that may be declared is a plain one, and is read whatever follows that goes on with no name.
use Rattle.std.proofs.Common.{◌≡◌, ℕ, ◌<◌, Bool, true, false, List, [], ◌∷◌, ◌++◌, length, take, drop, refl, ap, ◌∙◌, arith}
use Rattle.std.specs.Prelude.{not, ◌&&◌, if◌then◌else◌, Option, Some, None, Ok, bytes_eq, codes}
use Rattle.std.specs.List.{list_any}
use Rattle.std.specs.Option.{is_some}
use Rattle.std.specs.Str.{is_utf8, chars}
use Rattle.std.proofs.lemmas.Bool.{and_from, and_parts, not-true}
use Rattle.unicode_ident.proofs.Computing.{unicode_ident}
use Rattle.theory.specs.Signatures.{Signature}
use Rattle.core_sig.specs.Names.{find}
use Rattle.core_sig.specs.Raw.{RawConstructor}
use Rattle.core_text.specs.DeclaredNames.{is_eliminator_name, is_axiom_k_name, is_new, may_declare, by_shape, shape_of}
use Rattle.core_text.specs.ReadableNames.{IsReadableName}
use Rattle.core_text.specs.ReadBack.{MayDeclare}
use Rattle.core_text.specs.Reading.{wrong}
use Rattle.core_text.specs.Spellings.{IsNewName}
use Rattle.core_text.specs.WrittenEntries.{IsDeclarableName}
use Rattle.core_text.specs.declared.declared_names.Shape.{Shape}
use Rattle.core_text.specs.declared.declared_names.Shape.TheVariants.{Declarable, Malformed}
use Rattle.core_text.proofs.NumbersBack.{drop-word}
use Rattle.core_text.proofs.SymbolsRead.{same-bytes}
use Rattle.core_text.proofs.TermsBack.{take-word}
use Rattle.core_text.proofs.WholeRuns.{whole-run, no-brace}

-- ---- the shapes of keywords, and of no bytes

none-shape : shape_of [] ≡ Malformed
unfolding is_utf8 chars
none-shape = refl

type-shape : shape_of (codes "Type") ≡ Malformed
unfolding is_utf8 chars unicode_ident lib.Utf8.encode
type-shape = refl

let-shape : shape_of (codes "let") ≡ Malformed
unfolding is_utf8 chars unicode_ident lib.Utf8.encode
let-shape = refl

shapes-apart : {s : Shape} → s ≡ Declarable → s ≡ Malformed → ⊥
shapes-apart e f = absurd (cc (e, f))

other-word : (name word : List ℕ) → shape_of word ≡ Malformed → shape_of name ≡ Declarable → bytes_eq name word ≡ false
other-word name word malformed shape = by (bytes_eq name word) refl
  where
    by : (b : Bool) → bytes_eq name word ≡ b → bytes_eq name word ≡ false
    by true e = absurd (shapes-apart shape (ap shape_of (same-bytes name word e) ∙ malformed))
    by false e = e

some-bytes : (name : List ℕ) → shape_of name ≡ Declarable → 0 < length name
some-bytes [] shape = absurd (shapes-apart shape none-shape)
some-bytes (b ∷ name) shape = omega arith

-- ---- names that may be declared

none-is : {A : Type 0} (o : Option A) → is_some o ≡ false → o ≡ None
none-is None e = refl
none-is (Some a) e = absurd (cc)

module _ (S : Signature) (own : List ℕ) (found : List RawConstructor) (name : List ℕ) (is : IsNewName S own found name) where
  -- it is neither an eliminator's name nor K's, and neither the signature nor the line so far has it
  no-eliminator : (not (is_eliminator_name name) ≡ true) × ((not (is_axiom_k_name name) && is_new S own found name) ≡ true)
  no-eliminator = and_parts (not (is_eliminator_name name)) (not (is_axiom_k_name name) && is_new S own found name) is.may

  no-axiom : (not (is_axiom_k_name name) ≡ true) × (is_new S own found name ≡ true)
  no-axiom = and_parts (not (is_axiom_k_name name)) (is_new S own found name) no-eliminator.1

  not-known : (not (is_some (find S name)) ≡ true) × ((not (bytes_eq name own) && not (list_any (λ c. bytes_eq name c.name) found)) ≡ true)
  not-known = and_parts (not (is_some (find S name))) (not (bytes_eq name own) && not (list_any (λ c. bytes_eq name c.name) found)) no-axiom.1

  not-here : (not (bytes_eq name own) ≡ true) × (not (list_any (λ c. bytes_eq name c.name) found) ≡ true)
  not-here = and_parts (not (bytes_eq name own)) (not (list_any (λ c. bytes_eq name c.name) found)) not-known.1

  pub new-plain : IsReadableName name
  new-plain = record {
    chars = is.chars;
    some = some-bytes name is.shape;
    no_sort = other-word name (codes "Type") type-shape is.shape;
    no_let = other-word name (codes "let") let-shape is.shape;
    no_eliminator = not-true (is_eliminator_name name) no-eliminator.0;
    no_axiom_k = not-true (is_axiom_k_name name) no-axiom.0;
  }

  pub new-unknown : find S name ≡ None
  new-unknown = none-is (find S name) (not-true (is_some (find S name)) not-known.0)

  pub new-apart : (bytes_eq name own ≡ false) × (list_any (λ c. bytes_eq name c.name) found ≡ false)
  new-apart = (not-true (bytes_eq name own) not-here.0, not-true (list_any (λ c. bytes_eq name c.name) found) not-here.1)

  pub new-read : MayDeclare S own found name
  new-read = record {
    reads = λ rest stops.
        ap (λ k. by_shape (shape_of (take k (name ++ rest))) (may_declare S own found (take k (name ++ rest))) (take k (name ++ rest)) (name ++ rest)) (whole-run name rest is.chars stops.run)
        ∙ (ap (λ w. by_shape (shape_of w) (may_declare S own found w) w (name ++ rest)) (take-word name rest)
        ∙ (ap (λ s. by_shape s (may_declare S own found name) name (name ++ rest)) is.shape
        ∙ (ap (λ b. if b then Ok (name, drop (length name) (name ++ rest)) else wrong (name ++ rest)) is.may
        ∙ ap (λ r. Ok (name, r)) (drop-word name rest))));
    no_brace = λ rest. no-brace name rest is.chars (some-bytes name is.shape);
  }

-- a name that may be declared is new where neither the signature nor the line so far has it
pub new-name : (S : Signature) (own : List ℕ) (found : List RawConstructor) (name : List ℕ) → IsDeclarableName name → find S name ≡ None → bytes_eq name own ≡ false → list_any (λ c. bytes_eq name c.name) found ≡ false → IsNewName S own found name
new-name S own found name is unknown other others = record {
  chars = is.readable.chars;
  shape = is.shape;
  may =
      and_from (not (is_eliminator_name name)) (not (is_axiom_k_name name) && is_new S own found name) (ap not is.readable.no_eliminator)
      (and_from (not (is_axiom_k_name name)) (is_new S own found name) (ap not is.readable.no_axiom_k)
      (and_from (not (is_some (find S name))) (not (bytes_eq name own) && not (list_any (λ c. bytes_eq name c.name) found)) (ap (λ o. not (is_some o)) unknown)
      (and_from (not (bytes_eq name own)) (not (list_any (λ c. bytes_eq name c.name) found)) (ap not other) (ap not others))));
}
