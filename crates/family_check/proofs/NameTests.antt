-- Whether names are new, one name after the other.
use Rattle.std.proofs.Common.{◌≡◌, ℕ, Bool, true, false, not, ◌&&◌, ◌||◌, List, [], ◌∷◌, ◌++◌, map, bytes_eq, refl, ap, ap₂, sym, ◌∙◌}
use Rattle.std.specs.List.{list_any}
use Rattle.std.specs.Option.{is_some}
use Rattle.std.proofs.lemmas.List.Folds.{list_any-append}
use Rattle.theory.specs.Signatures.{Signature}
use Rattle.core_sig.specs.Names.{find}
use Rattle.core_sig.specs.Raw.{raw_constructor_of}
use Rattle.core_sig.specs.declared.raw.RawCon.{RawCon}
use Rattle.core_sig.proofs.NamesShown.{bytes_eq-swap}
use Rattle.family_check.specs.Entering.{has_repeat, are_new, is_taken}

-- no name is taken, where the names in `before` come first
abbrev pub are_new_behind : Signature → List (List ℕ) → List (List ℕ) → Bool
are_new_behind S before [] = true
are_new_behind S before (name ∷ names) = not (is_taken S before name) && are_new_behind S (before ++ name ∷ []) names

-- one of the names is among those before
abbrev meet : List (List ℕ) → List (List ℕ) → Bool
meet before names = list_any (λ name. list_any (bytes_eq name) before) names

regrouped-or : (a b c d : Bool) → ((a || b) || (c || d)) ≡ ((a || c) || (b || d))
regrouped-or true b c d = refl
regrouped-or false true true d = refl
regrouped-or false true false d = refl
regrouped-or false false c d = refl

meet-more : (before : List (List ℕ)) (x : List ℕ) (names : List (List ℕ)) → meet (before ++ x ∷ []) names ≡ (meet before names || list_any (bytes_eq x) names)
meet-more before x [] = refl
meet-more before x (y ∷ names) =
    ap₂ ◌||◌ (list_any-append (bytes_eq y) before (x ∷ []) ∙ ap (λ b. list_any (bytes_eq y) before || b) (last (bytes_eq y x) ∙ bytes_eq-swap y x)) (meet-more before x names)
    ∙ regrouped-or (list_any (bytes_eq y) before) (bytes_eq x y) (meet before names) (list_any (bytes_eq x) names)
  where
    last : (b : Bool) → (b || false) ≡ b
    last true = refl
    last false = refl

regrouped : (a b c d e f : Bool) → (not (a || b) && not (c || ((d || e) || f))) ≡ not ((a || c) || ((b || d) || (e || f)))
regrouped true b c d e f = refl
regrouped false true true d e f = refl
regrouped false true false d e f = refl
regrouped false false true d e f = refl
regrouped false false false true e f = refl
regrouped false false false false e f = refl

behind-is : (S : Signature) (before names : List (List ℕ))
    → are_new_behind S before names ≡ not (list_any (λ name. is_some (find S name)) names || (meet before names || has_repeat names))
behind-is S before [] = refl
behind-is S before (x ∷ names) =
    let known = list_any (λ name. is_some (find S name)) names in
    ap (λ b. not (is_taken S before x) && b) (behind-is S (before ++ x ∷ []) names ∙ ap (λ m. not (known || (m || has_repeat names))) (meet-more before x names))
    ∙ regrouped (is_some (find S x)) (list_any (bytes_eq x) before) known (meet before names) (list_any (bytes_eq x) names) (has_repeat names)

meet-none : (names : List (List ℕ)) → meet [] names ≡ false
meet-none [] = refl
meet-none (x ∷ names) = meet-none names

pub all-behind : (S : Signature) (names : List (List ℕ)) → are_new S names ≡ are_new_behind S [] names
all-behind S names =
    sym (behind-is S [] names ∙ ap (λ m. not (list_any (λ name. is_some (find S name)) names || (m || has_repeat names))) (meet-none names))

abbrev pub con_names : List RawCon → List (List ℕ)
con_names cs = map (λ c. c.name) (map raw_constructor_of cs)

-- the first name is new, and the others are looked at after it
pub names-start : (S : Signature) (name : List ℕ) (names old before : List (List ℕ)) (test : Bool) → old ≡ [] → test ≡ not (is_taken S old name) → test ≡ true → before ≡ old ++ name ∷ []
    → are_new S (name ∷ names) ≡ are_new_behind S before names
names-start S name names old before test none tested passes grown =
    let new : not (is_taken S [] name) ≡ true = ap (λ o. not (is_taken S o name)) (sym none) ∙ (sym tested ∙ passes) in
    all-behind S (name ∷ names)
    ∙ (ap (λ b. b && are_new_behind S (name ∷ []) names) new
    ∙ ap (λ bs. are_new_behind S bs names) (sym (grown ∙ ap (λ o. o ++ name ∷ []) none)))
