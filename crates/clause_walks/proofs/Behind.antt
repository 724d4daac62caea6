-- Pairs that are made, and others after them.
use Rattle.std.proofs.Common.{◌≡◌, ◌≤◌, ◌<◌, List, [], ◌∷◌, ◌++◌, length, map, drop, get_or, refl, sym, ap, ap₂, ◌∙◌, arith}
use Rattle.std.proofs.lemmas.List.{map-append}
use Rattle.core_terms.specs.Meanings.{tree_of, tele_of}
use Rattle.core_terms.specs.PatternMeanings.{pat_of, pats_of}
use Rattle.core_terms.specs.declared.pattern.Pat as pattern
use Rattle.core_terms.specs.declared.term.Term as term
use Rattle.case_trees.specs.Pairs.{Pair, Pairs, Waits, nil, cons, waiting}
use Rattle.clause_walks.specs.declared.pairs.Pair as code
use Rattle.clause_walks.specs.Meanings.{pair_of, pairs_of, in_order, put_before, behind}

pub before_more : (made : List Pair) (pair : Pair) (pairs : Pairs) → put_before (made ++ pair ∷ []) pairs ≡ put_before made (cons pair pairs)
before_more [] pair pairs = refl
before_more (first ∷ made) pair pairs = ap (cons first) (before_more made pair pairs)

pub before_none : (made : List Pair) → put_before made nil ≡ in_order made
before_none [] = refl
before_none (first ∷ made) = ap (cons first) (before_none made)

-- ---- pairs of the code

pub made-all : (made : List code.Pair) → pairs_of made ≡ behind made nil
made-all made = sym (before_none (map pair_of made))

pub made-more : (made : List code.Pair) (new : code.Pair) (pairs : Pairs) → behind (made ++ new ∷ []) pairs ≡ behind made (cons (pair_of new) pairs)
made-more made new pairs =
    ap (λ all. put_before all pairs) (map-append pair_of made (new ∷ [])) ∙ before_more (map pair_of made) (pair_of new) pairs

-- the first one and the others
pub pairs-first : (pairs : List code.Pair) (pair : code.Pair) → 1 ≤ length pairs → pair ≡ get_or pairs 0 pair → pairs_of pairs ≡ cons (pair_of pair) (pairs_of (drop 1 pairs))
pairs-first [] pair some is = absurd (grind arith)
pairs-first (first ∷ pairs) pair some is = ap (λ p. cons (pair_of p) (pairs_of pairs)) (sym is)

pub pairs-none : (pairs : List code.Pair) → length pairs < 1 → pairs_of pairs ≡ nil
pairs-none [] few = refl
pairs-none (first ∷ pairs) few = absurd (grind arith)

-- copies
pub copied-none : (made pairs : List code.Pair) → length pairs < 1 → pairs_of made ≡ behind made (pairs_of pairs)
copied-none made pairs few = made-all made ∙ ap (behind made) (sym (pairs-none pairs few))

pub copied-more : (made pairs : List code.Pair) (pair new : code.Pair) → 1 ≤ length pairs → pair ≡ get_or pairs 0 pair → pair_of new ≡ pair_of pair
    → behind (made ++ new ∷ []) (pairs_of (drop 1 pairs)) ≡ behind made (pairs_of pairs)
copied-more made pairs pair new some is same =
    made-more made new (pairs_of (drop 1 pairs))
    ∙ ap (behind made) (ap (λ p. cons p (pairs_of (drop 1 pairs))) same ∙ sym (pairs-first pairs pair some is))

-- ---- patterns that wait

pub waits-none : (made : List code.Pair) (pats : List pattern.Pat) (terms : List term.Term) → length pats < 1 → pairs_of made ≡ behind made (waiting (pats_of pats) (tele_of terms))
waits-none made [] terms few = made-all made
waits-none made (pat ∷ pats) terms few = absurd (grind arith)

pub waits-no_terms : (made : List code.Pair) (pats : List pattern.Pat) (terms : List term.Term) → 1 ≤ length pats → length terms < 1 → pairs_of made ≡ behind made (waiting (pats_of pats) (tele_of terms))
waits-no_terms made [] terms some few = absurd (grind arith)
waits-no_terms made (pat ∷ pats) [] some few = made-all made
waits-no_terms made (pat ∷ pats) (t ∷ terms) some few = absurd (grind arith)

waits-first : (pats : List pattern.Pat) (terms : List term.Term) (pat : pattern.Pat) (t : term.Term) → 1 ≤ length pats → 1 ≤ length terms
    → pat ≡ get_or pats 0 pat → t ≡ get_or terms 0 t
    → waiting (pats_of pats) (tele_of terms) ≡ cons (Waits (pat_of pat) (tree_of t)) (waiting (pats_of (drop 1 pats)) (tele_of (drop 1 terms)))
waits-first [] terms pat t some others first second = absurd (grind arith)
waits-first (p ∷ pats) [] pat t some others first second = absurd (grind arith)
waits-first (p ∷ pats) (u ∷ terms) pat t some others first second =
    ap₂ (λ q v. cons (Waits (pat_of q) (tree_of v)) (waiting (pats_of pats) (tele_of terms))) (sym first) (sym second)

pub waits-more : (made : List code.Pair) (pats : List pattern.Pat) (terms : List term.Term) (pat : pattern.Pat) (t : term.Term) (new : code.Pair) → 1 ≤ length pats → 1 ≤ length terms
    → pat ≡ get_or pats 0 pat → t ≡ get_or terms 0 t → pair_of new ≡ Waits (pat_of pat) (tree_of t)
    → behind (made ++ new ∷ []) (waiting (pats_of (drop 1 pats)) (tele_of (drop 1 terms))) ≡ behind made (waiting (pats_of pats) (tele_of terms))
waits-more made pats terms pat t new some others first second same =
    let rest = waiting (pats_of (drop 1 pats)) (tele_of (drop 1 terms)) in
    made-more made new rest
    ∙ ap (behind made) (ap (λ p. cons p rest) same ∙ sym (waits-first pats terms pat t some others first second))
