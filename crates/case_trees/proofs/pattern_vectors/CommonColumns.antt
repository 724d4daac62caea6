-- How what is made of two lists of patterns, column by column, joins to the definition.
use Rattle.std.proofs.Common.{◌≡◌, ◌-◌, ◌≤◌, ◌<◌, ◌==◌, true, false, Option, Some, None, option_map, List, [], ◌∷◌, ◌++◌, length, map, take, drop, get_or, refl, ap, ap₂, sym, ◌∙◌, arith}
use Rattle.std.proofs.lemmas.Bool.Decides.{nat_tests}
use Rattle.std.proofs.lemmas.List.{length-drop, map-append, take_all}
use Rattle.core_terms.specs.PatternMeanings.{pat_of, pats_of}
use Rattle.core_terms.specs.Patterns.{Pat, Pats, nil, cons, vector}
use Rattle.core_terms.specs.declared.pattern.Pat as code
use Rattle.case_trees.specs.pattern_vectors.Meeting.{meet_columns, meet, meet_all, onto}

onto-snoc : (made : List Pat) (pat : Pat) (rest : Option Pats) → onto (made ++ pat ∷ []) rest ≡ onto made (option_map (cons pat) rest)
onto-snoc [] pat rest = refl
onto-snoc (q ∷ made) pat rest = ap (option_map (cons q)) (onto-snoc made pat rest)

onto-none : (made : List Pat) → onto made None ≡ None
onto-none [] = refl
onto-none (q ∷ made) = ap (option_map (cons q)) (onto-none made)

onto-nil : (made : List Pat) → onto made (Some nil) ≡ Some (vector made)
onto-nil [] = refl
onto-nil (q ∷ made) = ap (option_map (cons q)) (onto-nil made)

-- both come to their end
pub both-end : (made a b : List code.Pat) → length a < 1 → (length b == 0) ≡ true → Some (pats_of made) ≡ onto (map pat_of made) (meet_all (pats_of a) (pats_of b))
both-end made [] [] few none = sym (onto-nil (map pat_of made))
both-end made [] (q ∷ b) few none = absurd (grind (arith, nat_tests))
both-end made (p ∷ a) b few none = absurd (grind arith)

-- one of them does, but not the other
pub left-ends : (made a b : List code.Pat) → length a < 1 → (length b == 0) ≡ false → None ≡ onto (map pat_of made) (meet_all (pats_of a) (pats_of b))
left-ends made [] [] few some = absurd (grind (arith, nat_tests))
left-ends made [] (q ∷ b) few some = sym (onto-none (map pat_of made))
left-ends made (p ∷ a) b few some = absurd (grind arith)

pub right-ends : (made a b : List code.Pat) → 1 ≤ length a → length b < 1 → None ≡ onto (map pat_of made) (meet_all (pats_of a) (pats_of b))
right-ends made [] b some few = absurd (grind arith)
right-ends made (p ∷ a) [] some few = sym (onto-none (map pat_of made))
right-ends made (p ∷ a) (q ∷ b) some few = absurd (grind arith)

-- the rest of a list after its first item, as a slice has it
pub rest-of : {A : Type 0} (xs : List A) → take (length xs - 1) (drop 1 xs) ≡ drop 1 xs
rest-of xs = let shorter = length-drop 1 xs in take_all (length xs - 1) (drop 1 xs) (omega (arith, shorter))

-- one column more
columns-step : (made a b : List code.Pat) (p q : code.Pat) → 1 ≤ length a → 1 ≤ length b → p ≡ get_or a 0 p → q ≡ get_or b 0 q
    → meet_all (pats_of a) (pats_of b) ≡ meet_columns (meet (pat_of p) (pat_of q)) (meet_all (pats_of (drop 1 a)) (pats_of (drop 1 b)))
columns-step made [] b p q some others first second = absurd (grind arith)
columns-step made (x ∷ a) [] p q some others first second = absurd (grind arith)
columns-step made (x ∷ a) (y ∷ b) p q some others first second =
    ap₂ (λ u v. meet_columns (meet (pat_of u) (pat_of v)) (meet_all (pats_of a) (pats_of b))) (sym first) (sym second)

pub column-clashes : (made a b : List code.Pat) (p q : code.Pat) → 1 ≤ length a → 1 ≤ length b → p ≡ get_or a 0 p → q ≡ get_or b 0 q
    → meet (pat_of p) (pat_of q) ≡ None → None ≡ onto (map pat_of made) (meet_all (pats_of a) (pats_of b))
column-clashes made a b p q some others first second none =
    sym (ap (onto (map pat_of made)) (columns-step made a b p q some others first second
    ∙ ap (λ o. meet_columns o (meet_all (pats_of (drop 1 a)) (pats_of (drop 1 b)))) none)
    ∙ onto-none (map pat_of made))

pub column-meets : (made a b : List code.Pat) (p q m : code.Pat) → 1 ≤ length a → 1 ≤ length b → p ≡ get_or a 0 p → q ≡ get_or b 0 q
    → meet (pat_of p) (pat_of q) ≡ Some (pat_of m)
    → onto (map pat_of (made ++ m ∷ [])) (meet_all (pats_of (drop 1 a)) (pats_of (drop 1 b))) ≡ onto (map pat_of made) (meet_all (pats_of a) (pats_of b))
column-meets made a b p q m some others first second is =
    ap (λ ps. onto ps (meet_all (pats_of (drop 1 a)) (pats_of (drop 1 b)))) (map-append pat_of made (m ∷ []))
    ∙ (onto-snoc (map pat_of made) (pat_of m) (meet_all (pats_of (drop 1 a)) (pats_of (drop 1 b)))
    ∙ sym (ap (onto (map pat_of made)) (columns-step made a b p q some others first second
    ∙ ap (λ o. meet_columns o (meet_all (pats_of (drop 1 a)) (pats_of (drop 1 b)))) is)))
