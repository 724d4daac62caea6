-- The parts of a turn, as the code makes them.
use Rattle.std.proofs.Common.{◌≡◌, ℕ, ◌≤◌, Bool, true, false, ◌&&◌, cond, Result, Ok, Err, List, map, refl, ap, ap₂, arith}
use Rattle.std.proofs.lemmas.List.Elements.{All-weaker}
use Rattle.theory.specs.Terms.{Term, free_of}
use Rattle.theory.specs.Telescopes.{Telescope}
use Rattle.theory.specs.Signatures.{Signature}
use Rattle.theory.specs.SignatureScopes.{IsScoped}
use Rattle.core_terms.specs.Answers.{and_then, are_low}
use Rattle.core_terms.specs.declared.stop.Stop.{Stop}
use Rattle.core_terms.specs.declared.stop.Stop.TheVariants.{Deep}
use Rattle.case_trees.specs.OwnWalks as walk
use Rattle.case_trees.specs.OwnWalks.{or_none, solved_pairs}
use Rattle.case_trees.specs.Pairs.{Pair, Pairs, Waits, Binds, Passes, Keeps, Builds, Clashes, nil, cons, all_bound, is_low_pair, are_low_pairs}
use Rattle.case_trees.specs.Points.{Point, bounded_point, moved_point, moved_pairs, solution_for}
use Rattle.case_trees.specs.Stops.{or_halts}
use Rattle.case_trees.proofs.ScopedWalks.{all-bound-scoped}
use Rattle.problems.specs.Conditions.{most_levels}
use Rattle.clause_walks.specs.CodeWalks.{GoesOn, next_of, solved_next}
use Rattle.clause_walks.specs.Forgetting.{forget, forget_all}
use Rattle.clause_walks.specs.PairConditions.{AreKeptPairs}
use Rattle.clause_walks.specs.PointConditions.{AreOverSo}

mutual
  forget-low : (pair : Pair) → is_low_pair (forget pair) ≡ is_low_pair pair
  forget-low (Waits pat t) = refl
  forget-low (Binds t) = refl
  forget-low (Passes t) = refl
  forget-low (Keeps written t) = refl
  forget-low (Builds n number ps pairs) = ap (λ b. are_low ps && b) (forget-all-low pairs)
  forget-low (Clashes pat t) = refl

  -- a wildcard's term is not tested
  pub forget-all-low : (pairs : Pairs) → are_low_pairs (forget_all pairs) ≡ are_low_pairs pairs
  forget-all-low nil = refl
  forget-all-low (cons pair pairs) = ap₂ ◌&&◌ (forget-low pair) (forget-all-low pairs)

-- the state after a solution
pub solved-on : (p : Point) (pairs : Pairs) (context : Telescope) (solution : List Term)
    → or_halts (solved_next p pairs context solution) ≡ and_then (or_halts (solved_pairs p pairs context (solution_for p solution))) (next_of p pairs)
solved-on p pairs context solution =
    by (bounded_point (moved_point p context (solution_for p solution))) (are_low_pairs (moved_pairs (solution_for p solution) pairs))
    (are_low_pairs (forget_all (moved_pairs (solution_for p solution) pairs))) (forget-all-low (moved_pairs (solution_for p solution) pairs))
  where
    moved : Pairs
    moved = moved_pairs (solution_for p solution) pairs

    by : (r : Result Point Stop) (b c : Bool) → c ≡ b
        → or_halts (and_then r (λ next. and_then (cond {A = Result Pairs Stop} c (Ok (forget_all moved)) (Err Deep)) (λ rest. Ok (GoesOn next rest))))
        ≡ and_then (or_halts (and_then r (λ next. and_then (cond {A = Result Pairs Stop} b (Ok moved) (Err Deep)) (λ rest. Ok (walk.Goes next rest))))) (next_of p pairs)
    by (Err e) b c same = refl
    by (Ok next) true true same = refl
    by (Ok next) false false same = refl
    by (Ok next) true false same = absurd (cc)
    by (Ok next) false true same = absurd (cc)

-- the bindings of pairs are over few variables
pub bound-few : (S : Signature) (n : ℕ) (pairs : Pairs) → AreKeptPairs S n pairs → AreOverSo most_levels (map or_none (all_bound pairs))
bound-few S n pairs h =
    All-weaker (IsScoped S n) (λ t. free_of t ≤ most_levels) (λ t scoped. omega (arith, scoped.variables, h.few)) (map or_none (all_bound pairs))
    (all-bound-scoped S n pairs h.scoped)
