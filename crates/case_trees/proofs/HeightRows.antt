-- Heights where pairs are worked: a constructor that is too high for its place is Deep there, before the pairs after it and also where
-- it clashes. A wildcard is done.
use native.Mathlib.Decide.{ℕ_discrete}
use Rattle.std.proofs.Common.{◌≡◌, ℕ, false, true, Ok, Err, [], ◌∷◌, refl}
use Rattle.theory.specs.Terms.{Term}
use Rattle.theory.proofs.AfterPrelude.{after}
use Rattle.core_terms.specs.Answers.{Spent}
use Rattle.core_terms.specs.Patterns.{Pat, Bind, Wild, Con, vector}
use Rattle.core_terms.specs.declared.stop.Stop.TheVariants.{Deep, Fuel}
use Rattle.kernel_reduce.specs.Reduction.{answered}
use Rattle.case_trees.specs.Pairs as pair
use Rattle.case_trees.specs.Pairs.{Pair, Pairs, is_low_pair}
use Rattle.case_trees.specs.Working.{work_pattern}
use Rattle.case_trees.proofs.Samples.{sample, zero_term, up, pair_term, twice}

abbrev zero_pattern : Pat
zero_pattern = Con (after 0) 0 (vector [])

abbrev suc_pattern : Pat → Pat
suc_pattern pat = Con (after 0) 1 (vector (pat ∷ []))

abbrev pair_pattern : (first second : Pat) → Pat
pair_pattern first second = Con (after 6) 0 (vector (first ∷ second ∷ []))

-- a pair whose first part, twice zero, is the pair of up zero and up zero: it is 4 high then, and is 2 deep
abbrev work : (room : ℕ) → Pat → ℕ → Spent Pair
work room pat left = work_pattern (sample false) room pat (pair_term (twice zero_term) zero_term) left

fits : work 6 (pair_pattern (pair_pattern Bind Wild) zero_pattern) 10
    ≡ answered
    (Ok (pair.Builds (after 6) 0 []
    (pair.cons (pair.Builds (after 6) 0 [] (pair.cons (pair.Binds (up zero_term)) (pair.cons (pair.Passes (up zero_term)) pair.nil)))
    (pair.cons (pair.Builds (after 0) 0 [] pair.nil) pair.nil))))
    8
unfolding native.Mathlib.Decide.ℕ_discrete sample
fits = refl

too_high : work 5 (pair_pattern (pair_pattern Bind Wild) zero_pattern) 10 ≡ answered (Err Deep) 8
unfolding native.Mathlib.Decide.ℕ_discrete sample
too_high = refl

-- before a clash after it
before_clash : work 5 (pair_pattern (pair_pattern Bind Wild) (suc_pattern Bind)) 10 ≡ answered (Err Deep) 8
unfolding native.Mathlib.Decide.ℕ_discrete sample
before_clash = refl

-- where it clashes itself
at_clash : work 5 (pair_pattern zero_pattern zero_pattern) 10 ≡ answered (Err Deep) 8
unfolding native.Mathlib.Decide.ℕ_discrete sample
at_clash = refl

-- and before units run out after it
before_fuel : work 5 (pair_pattern (pair_pattern (suc_pattern Bind) Wild) zero_pattern) 2 ≡ answered (Err Deep) 0
unfolding native.Mathlib.Decide.ℕ_discrete sample
before_fuel = refl

runs_out : work 6 (pair_pattern (pair_pattern (suc_pattern Bind) Wild) zero_pattern) 2 ≡ answered (Err Fuel) 0
unfolding native.Mathlib.Decide.ℕ_discrete sample
runs_out = refl

-- the term of a wildcard is not looked at
wildcard_is_done : (t : Term) → is_low_pair (pair.Passes t) ≡ true
wildcard_is_done t = refl
