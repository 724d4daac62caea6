-- Problems in Nat, with their outcomes as they are worked by hand. The steps, the context and the solution are given whole.
use native.Mathlib.Decide.{ℕ_discrete}
use Rattle.std.proofs.Common.{◌≡◌, true, false, Ok, [], ◌∷◌, refl}
use Rattle.theory.specs.Terms.{Term}
use Rattle.theory.specs.Terms.Term.{Var}
use Rattle.theory.specs.Telescopes.{Telescope}
use Rattle.theory.proofs.AfterPrelude.{after}
use Rattle.core_terms.specs.declared.case_tree.Rule.TheVariants.{SolveRight, Inject, Conflict, Cycle, Delete}
use Rattle.kernel_reduce.specs.Reduction.{answered}
use Rattle.unification.specs.States.{Problem}
use Rattle.unification.specs.Outcomes.{Solved, Absurd, Stuck}
use Rattle.unification.specs.Runs.{unify_of}
use Rattle.unification.specs.declared.why.Why.TheVariants.{NeedsK}
use Rattle.unification.proofs.Samples.{sample, item, step, Nat, zero_term, suc_term}

-- one equation in Nat
abbrev in_nat : Telescope → (u v : Term) → Problem
in_nat context u v = record { context = context; telescope = item Nat ∷ []; left = u ∷ []; right = v ∷ [] }

-- suc m = suc n
injective : unify_of (sample false) (in_nat (Nat ∷ Nat ∷ []) (suc_term (Var 1)) (suc_term (Var 0))) 10
    ≡ answered
    (Ok (Solved
    (step 1 (Inject (after 0) 1) Nat (suc_term (Var 1)) (suc_term (Var 0)) ∷ step 1 (SolveRight 0) Nat (Var 1) (Var 0) ∷ [])
    (Nat ∷ [])
    (Var 0 ∷ Var 0 ∷ [])))
    10
unfolding native.Mathlib.Decide.ℕ_discrete sample
injective = refl

-- zero = suc n
conflicting : unify_of (sample false) (in_nat (Nat ∷ []) zero_term (suc_term (Var 0))) 10
    ≡ answered
    (Ok (Absurd (step 1 (Conflict (after 0) 0 1) Nat zero_term (suc_term (Var 0)) ∷ []) (Nat ∷ []) zero_term (suc_term (Var 0))))
    10
unfolding native.Mathlib.Decide.ℕ_discrete sample
conflicting = refl

-- n = suc n
cyclic : unify_of (sample false) (in_nat (Nat ∷ []) (Var 0) (suc_term (Var 0))) 10
    ≡ answered (Ok (Absurd (step 1 (Cycle 0) Nat (Var 0) (suc_term (Var 0)) ∷ []) (Nat ∷ []) (Var 0) (suc_term (Var 0)))) 10
unfolding native.Mathlib.Decide.ℕ_discrete sample
cyclic = refl

-- n = n, without K
needs_k : unify_of (sample false) (in_nat (Nat ∷ []) (Var 0) (Var 0)) 10
    ≡ answered (Ok (Stuck [] (Nat ∷ []) (Var 0) (Var 0) NeedsK)) 9
unfolding native.Mathlib.Decide.ℕ_discrete sample
needs_k = refl

-- n = n, with K
deleted : unify_of (sample true) (in_nat (Nat ∷ []) (Var 0) (Var 0)) 10
    ≡ answered (Ok (Solved (step 1 Delete Nat (Var 0) (Var 0) ∷ []) (Nat ∷ []) (Var 0 ∷ []))) 9
unfolding native.Mathlib.Decide.ℕ_discrete sample
deleted = refl

-- zero = zero
same_constants : unify_of (sample false) (in_nat [] zero_term zero_term) 10
    ≡ answered (Ok (Solved (step 1 (Inject (after 0) 0) Nat zero_term zero_term ∷ []) [] [])) 10
unfolding native.Mathlib.Decide.ℕ_discrete sample
same_constants = refl
