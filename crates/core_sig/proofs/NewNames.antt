-- The names of an entry are new to the entries before it, where all names of a signature are different.
use Rattle.std.proofs.Common.{◌≡◌, ◌≢◌, ℕ, zero, suc, ◌+◌, ◌<◌, cond, List, [], ◌∷◌, ◌++◌, map, take, drop, length, get_or, flat_map, None, Some, AllPairs, bytes_eq, refl, ap, ap₂, sym, ◌∙◌, subst, subst₂, arith, append-nil}
use Rattle.std.specs.Map.{lookup, keys_of}
use Rattle.std.proofs.lemmas.Grind.{flat_map-append}
use Rattle.std.proofs.lemmas.List.{map-append, length-append, get_or_append_left, get_or-append-add}
use Rattle.theory.specs.Signatures as signature
use Rattle.theory.specs.Signatures.{Signature, names_of, names, IsEntryAt}
use Rattle.theory.proofs.Lists.{split_at}
use Rattle.core_sig.specs.Names.{AreNew, named, named_by, named_constructors}
use Rattle.core_sig.specs.declared.entry.Found.{Found}
use Rattle.core_sig.proofs.NameLists.{differs}

module _ {X : Type 0} (R : X → X → Type 0) (xs ys : List X) where
  -- all pairs of two lists are those of each, and those between them
  pairs_left : AllPairs R (xs ++ ys) → AllPairs R xs
  pairs_left all i j d lt within =
      subst₂ R (get_or_append_left xs ys d i (omega arith)) (get_or_append_left xs ys d j within) (all i j d lt (omega (arith, length-append xs ys)))

  pairs_right : AllPairs R (xs ++ ys) → AllPairs R ys
  pairs_right all i j d lt within =
      subst₂ R (get_or-append-add xs ys i d) (get_or-append-add xs ys j d) (all (length xs + i) (length xs + j) d (omega arith) (omega (arith, length-append xs ys)))

  pairs_between : AllPairs R (xs ++ ys) → (i j : ℕ) (d : X) → i < length xs → j < length ys → R (get_or xs i d) (get_or ys j d)
  pairs_between all i j d first second =
      subst₂ R (get_or_append_left xs ys d i first) (get_or-append-add xs ys j d) (all i (length xs + j) d (omega arith) (omega (arith, length-append xs ys)))

-- a name that is not among those of a list is not found there
lookup-absent : (known : List (List ℕ × Found)) (name : List ℕ) → ((i : ℕ) → i < length (keys_of known) → get_or (keys_of known) i name ≢ name) → lookup (bytes_eq name) known ≡ None
lookup-absent [] name absent = refl
lookup-absent (p ∷ known) name absent =
    ap (λ b. cond b (Some p.1) (lookup (bytes_eq name) known)) (differs name p.0 (λ e. absent 0 (omega arith) (sym e)))
    ∙ lookup-absent known name (λ i lt. absent (suc i) (omega arith))

keys-constructors : (n number : ℕ) (ns : List (List ℕ)) → keys_of (named_constructors n number ns) ≡ ns
keys-constructors n number [] = refl
keys-constructors n number (name ∷ ns) = ap (λ rest. name ∷ rest) (keys-constructors n (number + 1) ns)

keys-named_by : (n : ℕ) (e : signature.Entry) → keys_of (named_by n e) ≡ names_of e
keys-named_by n (signature.FamilyOf f) = ap (λ rest. f.name ∷ rest) (keys-constructors n 0 (map (λ c. c.name) f.constructors))
keys-named_by n (signature.EliminatorAt f m) = refl
keys-named_by n (signature.AxiomKAt i m) = refl
keys-named_by n (signature.Definition name type body) = refl

-- the names in the index are those of the entries
pub keys-named : (n : ℕ) (es : List signature.Entry) → keys_of (named n es) ≡ flat_map names_of es
keys-named n [] = refl
keys-named n (e ∷ es) =
    map-append (λ p. p.0) (named_by n e) (named (n + 1) es) ∙ ap₂ ◌++◌ (keys-named_by n e) (keys-named (n + 1) es)

same_default : {X : Type 0} (xs : List X) (i : ℕ) (d e : X) → i < length xs → get_or xs i d ≡ get_or xs i e
same_default [] i d e lt = absurd (omega arith)
same_default (x ∷ xs) zero d e lt = refl
same_default (x ∷ xs) (suc i) d e lt = same_default xs i d e (omega arith)

-- the names of each entry are new to those of the entries before it
pub new-entry : (S : Signature) (n : ℕ) (e : signature.Entry) → AllPairs (λ x y. x ≢ y) (names S) → IsEntryAt S n e → AreNew (named 0 (take n S.entries)) (names_of e)
new-entry S n e distinct at = record {
  unknown = λ k d lt. lookup-absent (named 0 (take n S.entries)) (get_or (names_of e) k d)
      (λ i within same. pairs_between Differ before (names_of e) pairs i k (get_or (names_of e) k d) (subst (λ ns. i < length ns) known within) lt
      (ap (λ ns. get_or ns i (get_or (names_of e) k d)) (sym known) ∙ (same ∙ same_default (names_of e) k d (get_or (names_of e) k d) lt)));
  distinct = pairs_right Differ before (names_of e) pairs;
}
  where
    Differ : List ℕ → List ℕ → Type 0
    Differ x y = x ≢ y

    before : List (List ℕ)
    before = flat_map names_of (take n S.entries)

    known : keys_of (named 0 (take n S.entries)) ≡ before
    known = keys-named 0 (take n S.entries)

    split : names S ≡ (before ++ names_of e) ++ flat_map names_of (drop (suc n) S.entries)
    split =
        ap (flat_map names_of) (split_at S.entries n e at)
        ∙ (flat_map-append names_of (take n S.entries ++ e ∷ []) (drop (suc n) S.entries)
        ∙ ap (λ ns. ns ++ flat_map names_of (drop (suc n) S.entries)) (flat_map-append names_of (take n S.entries) (e ∷ []) ∙ ap (λ ns. before ++ ns) (append-nil (names_of e))))

    pairs : AllPairs Differ (before ++ names_of e)
    pairs = pairs_left Differ (before ++ names_of e) (flat_map names_of (drop (suc n) S.entries)) (subst (AllPairs Differ) split distinct)
