-- Pairs that the code makes after a solution are those that are meant.
use Rattle.std.proofs.Common.{◌≡◌, ◌≤◌, ◌<◌, Bool, true, false, ◌&&◌, cond, Result, Ok, Err, List, [], ◌∷◌, ◌++◌, length, map, drop, get_or, refl, ap, ap₂, ◌∙◌, arith}
use Rattle.theory.specs.Terms.{Term}
use Rattle.core_terms.specs.Answers.{and_then, is_low, are_low, bounded_terms}
use Rattle.core_terms.specs.declared.stop.Stop.{Stop}
use Rattle.core_terms.specs.declared.stop.Stop.TheVariants.{Deep}
use Rattle.case_trees.specs.Pairs.{Pair, Pairs, Waits, Binds, Passes, Keeps, Builds, Clashes, nil, cons, with_terms, is_low_pair, are_low_pairs}
use Rattle.case_trees.specs.Points.{under_solution, moved_pairs, bounded_pairs}
use Rattle.clause_walks.specs.Forgetting.{forget, forget_all}
use Rattle.clause_walks.specs.Meanings.{pair_of, pairs_of, put_before}
use Rattle.clause_walks.specs.MovedPairs.{pair_made, pairs_made, made_behind}
use Rattle.clause_walks.specs.declared.pairs.Pair as code
use Rattle.clause_walks.proofs.Behind.{made-all, made-more}

into : {A B : Type 0} (f : A → B) (b : Bool) (a : A) → and_then (cond {A = Result A Stop} b (Ok a) (Err Deep)) (λ u. Ok (f u)) ≡ cond b (Ok (f a)) (Err Deep)
into f true a = refl
into f false a = refl

both : {A B C : Type 0} (f : A → B → C) (b c : Bool) (x : A) (y : B)
    → and_then (cond {A = Result A Stop} b (Ok x) (Err Deep)) (λ u. and_then (cond {A = Result B Stop} c (Ok y) (Err Deep)) (λ v. Ok (f u v)))
    ≡ cond (b && c) (Ok (f x y)) (Err Deep)
both f true true x y = refl
both f true false x y = refl
both f false c x y = refl

mutual
  pair-made : (solution : List Term) (pair : Pair)
      → pair_made solution pair ≡ cond (is_low_pair (forget (with_terms (under_solution solution) pair))) (Ok (forget (with_terms (under_solution solution) pair))) (Err Deep)
  pair-made solution (Waits pat t) = into (Waits pat) (is_low (under_solution solution t)) (under_solution solution t)
  pair-made solution (Binds t) = into Binds (is_low (under_solution solution t)) (under_solution solution t)
  pair-made solution (Passes t) = refl
  pair-made solution (Keeps written t) = into (Keeps written) (is_low (under_solution solution t)) (under_solution solution t)
  pair-made solution (Builds n number ps pairs) =
      ap (λ r. and_then (bounded_terms (map (under_solution solution) ps)) (λ us. and_then r (λ moved. Ok (Builds n number us moved)))) (pairs-made solution pairs)
      ∙ both (Builds n number) (are_low (map (under_solution solution) ps)) (are_low_pairs (forget_all (moved_pairs solution pairs)))
      (map (under_solution solution) ps) (forget_all (moved_pairs solution pairs))
  pair-made solution (Clashes pat t) = into (Clashes pat) (is_low (under_solution solution t)) (under_solution solution t)

  pub pairs-made : (solution : List Term) (pairs : Pairs) → pairs_made solution pairs ≡ bounded_pairs (forget_all (moved_pairs solution pairs))
  pairs-made solution nil = refl
  pairs-made solution (cons pair pairs) =
      ap₂ (λ r s. and_then r (λ first. and_then s (λ rest. Ok (cons first rest)))) (pair-made solution pair) (pairs-made solution pairs)
      ∙ both cons (is_low_pair (forget (with_terms (under_solution solution) pair))) (are_low_pairs (forget_all (moved_pairs solution pairs)))
      (forget (with_terms (under_solution solution) pair)) (forget_all (moved_pairs solution pairs))

-- after none
pub behind-none : (solution : List Term) (pairs : Pairs) → made_behind [] solution pairs ≡ bounded_pairs (forget_all (moved_pairs solution pairs))
behind-none solution pairs = same (pairs_made solution pairs) ∙ pairs-made solution pairs
  where
    same : (r : Result Pairs Stop) → and_then r (λ rest. Ok (put_before [] rest)) ≡ r
    same (Ok rest) = refl
    same (Err e) = refl

-- ---- pairs of the code

pub moved-none : (solution : List Term) (made pairs : List code.Pair) → length pairs < 1 → Ok (pairs_of made) ≡ made_behind (map pair_of made) solution (pairs_of pairs)
moved-none solution made [] few = ap Ok (made-all made)
moved-none solution made (pair ∷ pairs) few = absurd (grind arith)

pub moved-more : (solution : List Term) (made pairs : List code.Pair) (pair new : code.Pair) → 1 ≤ length pairs → pair ≡ get_or pairs 0 pair
    → Ok (pair_of new) ≡ pair_made solution (pair_of pair)
    → made_behind (map pair_of (made ++ new ∷ [])) solution (pairs_of (drop 1 pairs)) ≡ made_behind (map pair_of made) solution (pairs_of pairs)
moved-more solution made [] pair new some is h = absurd (grind arith)
moved-more solution made (first ∷ pairs) pair new some is h =
    by (pairs_made solution (pairs_of pairs))
    ∙ ap (λ r. and_then (and_then r (λ one. and_then (pairs_made solution (pairs_of pairs)) (λ rest. Ok (cons one rest)))) (λ rest. Ok (put_before (map pair_of made) rest)))
    (h ∙ ap (λ p. pair_made solution (pair_of p)) is)
  where
    by : (r : Result Pairs Stop) → and_then r (λ rest. Ok (put_before (map pair_of (made ++ new ∷ [])) rest))
        ≡ and_then (and_then r (λ rest. Ok (cons (pair_of new) rest))) (λ rest. Ok (put_before (map pair_of made) rest))
    by (Ok rest) = ap Ok (made-more made new rest)
    by (Err e) = refl
