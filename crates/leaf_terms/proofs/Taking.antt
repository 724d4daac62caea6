-- Terms of a list that are replaced, or passed over at its beginning, and the others.
use Rattle.std.proofs.Common.{◌≡◌, ℕ, ◌≤◌, false, List, [], ◌∷◌, ◌++◌, drop, length, set, refl, ap, ap₂, ◌∙◌, arith}
use Rattle.std.proofs.lemmas.List.{drop-append-le, get_or-set_other, length-map, map-append, map-set}
use Rattle.theory.specs.Terms.{Term, Sort, App}
use Rattle.theory.specs.Telescopes.{applied}
use Rattle.theory.proofs.Spines.{applied-append}
use Rattle.core_terms.specs.Meanings.{tree_of, tele_of}
use Rattle.core_terms.specs.declared.term.Term as code
use Rattle.tele_eq.specs.Levels.{is_among}
use Rattle.tree_translation.specs.Recursion.{terms_at}
use Rattle.unification.proofs.Levels.{not-among-head, not-among-tail}

pub ruleset taking = (map-set)

-- a term is replaced that is at none of the positions
pub terms_at-set : (positions : List ℕ) (terms : List Term) (j : ℕ) (t : Term) → is_among j positions ≡ false
    → terms_at positions (set terms j t) ≡ terms_at positions terms
terms_at-set [] terms j t h = refl
terms_at-set (i ∷ positions) terms j t h =
    ap₂ ◌∷◌
    (get_or-set_other terms j i t (Sort 0) (not-among-head j i positions h))
    (terms_at-set positions terms j t (not-among-tail j i positions h))

-- one more of the terms after the first ones
pub further-applied : (head : Term) (count : ℕ) (terms : List code.Term) (t : code.Term) → count ≤ length terms
    → applied head (drop count (tele_of (terms ++ t ∷ []))) ≡ App (applied head (drop count (tele_of terms))) (tree_of t)
further-applied head count terms t h =
    let same = length-map terms tree_of in
    ap (λ us. applied head (drop count us)) (map-append tree_of terms (t ∷ []))
    ∙ (ap (applied head) (drop-append-le count (tele_of terms) (tree_of t ∷ []) (omega (arith, same, h)))
    ∙ applied-append head (drop count (tele_of terms)) (tree_of t ∷ []))
