-- A name that is not known, and is none of those of a family, is not known once the family is there.
use Rattle.std.proofs.Common.{◌≡◌, ◌≢◌, ℕ, ◌+◌, Bool, true, false, cond, Option, Some, None, List, [], ◌∷◌, ◌++◌, length, map, refl, ap, ◌∙◌}
use Rattle.std.specs.Prelude.{bytes_eq}
use Rattle.std.specs.List.{All}
use Rattle.std.specs.Map.{lookup}
use Rattle.std.proofs.lemmas.List.Elements.{All-head, All-tail}
use Rattle.theory.specs.Families.{Constructor, Family}
use Rattle.theory.specs.Signatures.{FamilyOf, Signature, names_of}
use Rattle.theory.specs.WellFormed.{pushed}
use Rattle.core_sig.specs.Names.{find, named, named_by, named_constructors}
use Rattle.core_sig.specs.declared.entry.Found.{Found}
use Rattle.core_sig.specs.declared.entry.Found.TheVariants.{Entry as FoundEntry, Con as FoundCon}
use Rattle.core_sig.proofs.NameLists.{differs, named-append}

abbrev Apart : List ℕ → List (List ℕ) → Type 0
Apart name names = All (λ x. name ≢ x) names

lookup-none : (test : List ℕ → Bool) (xs ys : List (List ℕ × Found)) → lookup test xs ≡ None → lookup test ys ≡ None → lookup test (xs ++ ys) ≡ None
lookup-none test [] ys h k = k
lookup-none test (p ∷ xs) ys h k = by (test p.0) h (λ rest. lookup-none test xs ys rest k)
  where
    by : (b : Bool) → cond b (Some p.1) (lookup test xs) ≡ None → (lookup test xs ≡ None → lookup test (xs ++ ys) ≡ None) → cond b (Some p.1) (lookup test (xs ++ ys)) ≡ None
    by true h rest = absurd cc
    by false h rest = rest h

constructors-none : (name : List ℕ) (n number : ℕ) (names : List (List ℕ)) → Apart name names → lookup (bytes_eq name) (named_constructors n number names) ≡ None
constructors-none name n number [] apart = refl
constructors-none name n number (x ∷ names) apart =
    ap (λ b. cond b (Some (FoundCon n number)) (lookup (bytes_eq name) (named_constructors n (number + 1) names))) (differs name x (All-head (λ x. name ≢ x) x names apart))
    ∙ constructors-none name n (number + 1) names (All-tail (λ x. name ≢ x) x names apart)

family-none : (name : List ℕ) (n : ℕ) (f : Family) → Apart name (names_of (FamilyOf f)) → lookup (bytes_eq name) (named_by n (FamilyOf f)) ≡ None
family-none name n f apart =
    let others = map (λ (c : Constructor). c.name) f.constructors in
    ap (λ b. cond b (Some (FoundEntry n)) (lookup (bytes_eq name) (named_constructors n 0 others))) (differs name f.name (All-head (λ x. name ≢ x) f.name others apart))
    ∙ constructors-none name n 0 others (All-tail (λ x. name ≢ x) f.name others apart)

pub find-pushed : (S : Signature) (f : Family) (name : List ℕ) → find S name ≡ None → Apart name (names_of (FamilyOf f)) → find (pushed S (FamilyOf f)) name ≡ None
find-pushed S f name new apart =
    let n = 0 + length S.entries in
    ap (lookup (bytes_eq name)) (named-append 0 S.entries (FamilyOf f ∷ []))
    ∙ lookup-none (bytes_eq name) (named 0 S.entries) (named n (FamilyOf f ∷ [])) new
    (lookup-none (bytes_eq name) (named_by n (FamilyOf f)) [] (family-none name n f apart) refl)
