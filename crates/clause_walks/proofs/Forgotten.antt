-- Forgetting the terms of wildcards before and after a solution.
use Rattle.std.proofs.Common.{◌≡◌, ℕ, Bool, true, false, cond, Result, Ok, Err, List, [], ◌∷◌, map, refl, sym, ap, ap₂, ◌∙◌}
use Rattle.theory.specs.Terms.{Term}
use Rattle.theory.specs.Substitutions.{inst, fill}
use Rattle.theory.specs.Eliminators.{no_variable}
use Rattle.core_terms.specs.Answers.{and_then}
use Rattle.core_terms.specs.declared.stop.Stop.{Stop}
use Rattle.core_terms.specs.declared.stop.Stop.TheVariants.{Deep}
use Rattle.case_trees.specs.Pairs.{Pair, Pairs, Waits, Binds, Passes, Keeps, Builds, Clashes, nil, cons, is_low_pair, are_low_pairs, with_terms, all_with_terms}
use Rattle.case_trees.specs.Points.{moved_pairs, bounded_pairs}
use Rattle.case_trees.specs.Trees.{Live, moved_live}
use Rattle.clause_walks.specs.Forgetting.{forget, forget_all, forget_live}
use Rattle.clause_walks.proofs.AlikePairs.{low-blind, all-forget-asked}

mutual
  forget-moved : (s : ℕ → Term) (pair : Pair) → forget (with_terms (inst s) pair) ≡ with_terms (inst s) (forget pair)
  forget-moved s (Waits pat t) = refl
  forget-moved s (Binds t) = refl
  forget-moved s (Passes t) = refl
  forget-moved s (Keeps written t) = refl
  forget-moved s (Builds n number ps pairs) = ap (Builds n number (map (inst s) ps)) (all-forget-moved s pairs)
  forget-moved s (Clashes pat t) = refl

  all-forget-moved : (s : ℕ → Term) (pairs : Pairs) → forget_all (all_with_terms (inst s) pairs) ≡ all_with_terms (inst s) (forget_all pairs)
  all-forget-moved s nil = refl
  all-forget-moved s (cons pair pairs) = ap₂ cons (forget-moved s pair) (all-forget-moved s pairs)

-- it is one whether pairs are moved first or without their wildcards' terms
pub moved-forgotten : (solution : List Term) (pairs : Pairs) → forget_all (moved_pairs solution pairs) ≡ moved_pairs solution (forget_all pairs)
moved-forgotten solution pairs = all-forget-moved (fill no_variable solution) pairs

abbrev answer : Bool → Pairs → Result Pairs Stop
answer test moved = cond test (Ok moved) (Err Deep)

-- no term in them is too high, or Deep, with or without those of the wildcards
pub bounded-forgotten : (solution : List Term) (pairs : Pairs)
    → bounded_pairs (moved_pairs solution (forget_all pairs))
    ≡ and_then (bounded_pairs (moved_pairs solution pairs)) (λ moved. Ok (forget_all moved))
bounded-forgotten solution pairs =
    ap bounded_pairs (sym (moved-forgotten solution pairs))
    ∙ (ap (λ test. answer test (forget_all (moved_pairs solution pairs))) (all-forget-asked Bool is_low_pair are_low_pairs low-blind (moved_pairs solution pairs))
    ∙ by (are_low_pairs (moved_pairs solution pairs)))
  where
    by : (test : Bool) → answer test (forget_all (moved_pairs solution pairs))
        ≡ and_then (answer test (moved_pairs solution pairs)) (λ moved. Ok (forget_all moved))
    by true = refl
    by false = refl

abbrev both : (number : ℕ) → Result Pairs Stop → Result (List Live) Stop → Result (List Live) Stop
both number first others = and_then first (λ pairs. and_then others (λ more. Ok (record { number = number; pairs = pairs } ∷ more)))

-- all clauses of a tree are moved alike without the terms of wildcards
pub live-forgotten : (solution : List Term) (live : List Live)
    → moved_live solution (forget_live live) ≡ and_then (moved_live solution live) (λ moved. Ok (forget_live moved))
live-forgotten solution [] = refl
live-forgotten solution (c ∷ live) =
    ap (λ first. both c.number first (moved_live solution (forget_live live))) (bounded-forgotten solution c.pairs)
    ∙ (ap (both c.number (and_then (bounded_pairs (moved_pairs solution c.pairs)) (λ moved. Ok (forget_all moved)))) (live-forgotten solution live)
    ∙ by (bounded_pairs (moved_pairs solution c.pairs)) (moved_live solution live))
  where
    by : (first : Result Pairs Stop) (others : Result (List Live) Stop)
        → both c.number (and_then first (λ moved. Ok (forget_all moved))) (and_then others (λ moved. Ok (forget_live moved)))
        ≡ and_then (both c.number first others) (λ moved. Ok (forget_live moved))
    by (Ok pairs) (Ok more) = refl
    by (Ok pairs) (Err e) = refl
    by (Err e) others = refl
