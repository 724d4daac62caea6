-- Problems as they come up where a variable of an indexed family is split, with their outcomes. Units, sides, contexts and reasons
-- are those of another implementation.
use native.Mathlib.Decide.{ℕ_discrete}
use Rattle.std.proofs.Common.{◌≡◌, false, Ok, Err, [], ◌∷◌, refl}
use Rattle.theory.specs.Terms.{Term, lift}
use Rattle.theory.specs.Terms.Term.{Var, Sort, Pi, Lam, App, Con}
use Rattle.theory.specs.Telescopes.{Telescope}
use Rattle.theory.specs.Signatures.{equation, reflexivity}
use Rattle.theory.proofs.AfterPrelude.{after}
use Rattle.core_terms.specs.declared.case_tree.Rule.TheVariants.{SolveRight, SolveLeft, Inject, Conflict, Cycle}
use Rattle.core_terms.specs.declared.stop.Stop.TheVariants.{Deep}
use Rattle.kernel_reduce.specs.Reduction.{answered}
use Rattle.unification.specs.States.{Problem}
use Rattle.unification.specs.Outcomes.{Solved, Absurd, Stuck}
use Rattle.unification.specs.Runs.{unify_of}
use Rattle.unification.specs.declared.why.Why.TheVariants.{NeedsK, NotRigid, OccursNotRigid, Depends, NeedsIndexEquations}
use Rattle.unification.proofs.Samples.{sample, item, step, Nat, zero_term, suc_term, Fin, fzero, fsuc, Has, there_term, Box, box, Vec, K, k_term, W, w_term, konst, D, Tk, Het, Tree, node, first, add, up, one}

-- ---- equations between members of the identity family: refl is matched with e : Eq.0 A a b

-- the problem of refl in a context that ends with e : Eq.0 A a b
abbrev of_refl : Telescope → (A a b : Term) → Problem
of_refl context A a b = record {
  context = context;
  telescope = item A ∷ item (equation 0 (lift A 1 0) (lift a 1 0) (Var 0)) ∷ [];
  left = a ∷ reflexivity 0 A a ∷ [];
  right = b ∷ Var 0 ∷ [];
}

-- n : Nat, e : Eq.0 Nat n (up (up n))
cycle_by_delta : unify_of (sample false) (of_refl (Nat ∷ equation 0 Nat (Var 0) (up (up (Var 0))) ∷ []) Nat (Var 1) (up (up (Var 1)))) 100
    ≡ answered
    (Ok (Absurd
    (step 1 (Cycle 1) Nat (Var 1) (suc_term (suc_term (Var 1))) ∷ [])
    (Nat ∷ equation 0 Nat (Var 0) (up (up (Var 0))) ∷ [])
    (Var 1)
    (up (up (Var 1)))))
    92
unfolding native.Mathlib.Decide.ℕ_discrete sample
cycle_by_delta = refl

-- n : Nat, e : Eq.0 Nat (up (up n)) n
cycle_on_the_right : unify_of (sample false) (of_refl (Nat ∷ equation 0 Nat (up (up (Var 0))) (Var 0) ∷ []) Nat (up (up (Var 1))) (Var 1)) 100
    ≡ answered
    (Ok (Absurd
    (step 1 (Cycle 1) Nat (suc_term (suc_term (Var 1))) (Var 1) ∷ [])
    (Nat ∷ equation 0 Nat (up (up (Var 0))) (Var 0) ∷ [])
    (up (up (Var 1)))
    (Var 1)))
    90
unfolding native.Mathlib.Decide.ℕ_discrete sample
cycle_on_the_right = refl

-- x y : Tree, e : Eq.0 Tree (first x y) (node (first (node y y) x) (node y (first x y))): x is in the second argument
cycle_behind_an_argument : unify_of (sample false)
    (of_refl
    (Tree ∷ Tree ∷ equation 0 Tree (first (Var 1) (Var 0)) (node (first (node (Var 0) (Var 0)) (Var 1)) (node (Var 0) (first (Var 1) (Var 0)))) ∷ [])
    Tree (first (Var 2) (Var 1)) (node (first (node (Var 1) (Var 1)) (Var 2)) (node (Var 1) (first (Var 2) (Var 1))))) 100
    ≡ answered
    (Ok (Absurd
    (step 1 (Cycle 2) Tree (Var 2) (node (first (node (Var 1) (Var 1)) (Var 2)) (node (Var 1) (Var 2))) ∷ [])
    (Tree ∷ Tree ∷ equation 0 Tree (first (Var 1) (Var 0)) (node (first (node (Var 0) (Var 0)) (Var 1)) (node (Var 0) (first (Var 1) (Var 0)))) ∷ [])
    (first (Var 2) (Var 1))
    (node (first (node (Var 1) (Var 1)) (Var 2)) (node (Var 1) (first (Var 2) (Var 1))))))
    88
unfolding native.Mathlib.Decide.ℕ_discrete sample
cycle_behind_an_argument = refl

-- m n : Nat, e : Eq.0 Nat (konst m zero) (up (suc (up (konst n zero)))): m is not below the constructors
no_cycle : unify_of (sample false)
    (of_refl (Nat ∷ Nat ∷ equation 0 Nat (konst (Var 1) zero_term) (up (suc_term (up (konst (Var 0) zero_term)))) ∷ [])
    Nat (konst (Var 2) zero_term) (up (suc_term (up (konst (Var 1) zero_term))))) 100
    ≡ answered
    (Ok (Stuck []
    (Nat ∷ Nat ∷ equation 0 Nat (konst (Var 1) zero_term) (up (suc_term (up (konst (Var 0) zero_term)))) ∷ [])
    (konst (Var 2) zero_term)
    (up (suc_term (up (konst (Var 1) zero_term))))
    NotRigid))
    81
unfolding native.Mathlib.Decide.ℕ_discrete sample
no_cycle = refl

-- a term below 2,041 constructors, six times after a definition
abbrev far : Term → Term
far n = add (add (add (add (add (add (suc_term n))))))

-- m n : Nat, e : Eq.0 Nat (konst m zero) (far n): m is not there
no_cycle_far_below : unify_of (sample false)
    (of_refl (Nat ∷ Nat ∷ equation 0 Nat (konst (Var 1) zero_term) (far (Var 0)) ∷ [])
    Nat (konst (Var 2) zero_term) (far (Var 1))) 100
    ≡ answered
    (Ok (Stuck []
    (Nat ∷ Nat ∷ equation 0 Nat (konst (Var 1) zero_term) (far (Var 0)) ∷ [])
    (konst (Var 2) zero_term)
    (far (Var 1))
    NotRigid))
    76
unfolding native.Mathlib.Decide.ℕ_discrete sample
no_cycle_far_below = refl

-- m n : Nat, e : Eq.0 Nat (konst m zero) (far m): m is there, and the side, reduced on the way to it, is higher than 2,000
cycle_too_high : unify_of (sample false)
    (of_refl (Nat ∷ Nat ∷ equation 0 Nat (konst (Var 1) zero_term) (far (Var 1)) ∷ [])
    Nat (konst (Var 2) zero_term) (far (Var 2))) 100
    ≡ answered (Err Deep) 82
unfolding native.Mathlib.Decide.ℕ_discrete sample
cycle_too_high = refl

-- n : Nat, e : Eq.0 Nat zero (up (up n))
conflict_by_delta : unify_of (sample false) (of_refl (Nat ∷ equation 0 Nat zero_term (up (up (Var 0))) ∷ []) Nat zero_term (up (up (Var 1)))) 100
    ≡ answered
    (Ok (Absurd
    (step 1 (Conflict (after 0) 0 1) Nat zero_term (suc_term (up (Var 1))) ∷ [])
    (Nat ∷ equation 0 Nat zero_term (up (up (Var 0))) ∷ [])
    zero_term
    (up (up (Var 1)))))
    98
unfolding native.Mathlib.Decide.ℕ_discrete sample
conflict_by_delta = refl

-- m n : Nat, e : Eq.0 Nat (suc m) (suc n)
injective : unify_of (sample false)
    (of_refl (Nat ∷ Nat ∷ equation 0 Nat (suc_term (Var 1)) (suc_term (Var 0)) ∷ []) Nat (suc_term (Var 2)) (suc_term (Var 1))) 100
    ≡ answered
    (Ok (Solved
    (step 1 (Inject (after 0) 1) Nat (suc_term (Var 2)) (suc_term (Var 1))
    ∷ step 1 (SolveRight 1) Nat (Var 2) (Var 1)
    ∷ step 1 (SolveRight 0) (equation 0 Nat (suc_term (Var 1)) (suc_term (Var 1))) (reflexivity 0 Nat (suc_term (Var 1))) (Var 0)
    ∷ [])
    (Nat ∷ [])
    (Var 0 ∷ Var 0 ∷ reflexivity 0 Nat (suc_term (Var 0)) ∷ [])))
    100
unfolding native.Mathlib.Decide.ℕ_discrete sample
injective = refl

-- n : Nat, e : Eq.0 Nat (up n) one
by_delta : unify_of (sample false) (of_refl (Nat ∷ equation 0 Nat (up (Var 0)) one ∷ []) Nat (up (Var 1)) one) 100
    ≡ answered
    (Ok (Solved
    (step 1 (Inject (after 0) 1) Nat (suc_term (Var 1)) (suc_term zero_term)
    ∷ step 1 (SolveLeft 1) Nat (Var 1) zero_term
    ∷ step 1 (SolveRight 0) (equation 0 Nat (up zero_term) one) (reflexivity 0 Nat (up zero_term)) (Var 0)
    ∷ [])
    []
    (zero_term ∷ reflexivity 0 Nat (up zero_term) ∷ [])))
    97
unfolding native.Mathlib.Decide.ℕ_discrete sample
by_delta = refl

-- ---- no rule goes on

-- n : Nat, g : Fin n -> Nat, i : Fin n, e : Eq.0 Nat (g i) n
depends : unify_of (sample false)
    (of_refl (Nat ∷ Pi (Fin (Var 0)) Nat ∷ Fin (Var 1) ∷ equation 0 Nat (App (Var 1) (Var 0)) (Var 2) ∷ []) Nat (App (Var 2) (Var 1)) (Var 3)) 100
    ≡ answered
    (Ok (Stuck []
    (Nat ∷ Pi (Fin (Var 0)) Nat ∷ Fin (Var 1) ∷ equation 0 Nat (App (Var 1) (Var 0)) (Var 2) ∷ [])
    (App (Var 2) (Var 1))
    (Var 3)
    Depends))
    99
unfolding native.Mathlib.Decide.ℕ_discrete sample
depends = refl

-- g : Nat -> Nat, n : Nat, e : Eq.0 Nat n (g n)
occurs : unify_of (sample false)
    (of_refl (Pi Nat Nat ∷ Nat ∷ equation 0 Nat (Var 0) (App (Var 1) (Var 0)) ∷ []) Nat (Var 1) (App (Var 2) (Var 1))) 100
    ≡ answered
    (Ok (Stuck []
    (Pi Nat Nat ∷ Nat ∷ equation 0 Nat (Var 0) (App (Var 1) (Var 0)) ∷ [])
    (Var 1)
    (App (Var 2) (Var 1))
    OccursNotRigid))
    99
unfolding native.Mathlib.Decide.ℕ_discrete sample
occurs = refl

-- g : Nat -> Nat, n : Nat, e : Eq.0 Nat (suc (g n)) (suc zero): stuck after an injectivity
not_rigid : unify_of (sample false)
    (of_refl (Pi Nat Nat ∷ Nat ∷ equation 0 Nat (suc_term (App (Var 1) (Var 0))) (suc_term zero_term) ∷ [])
    Nat (suc_term (App (Var 2) (Var 1))) (suc_term zero_term)) 100
    ≡ answered
    (Ok (Stuck
    (step 1 (Inject (after 0) 1) Nat (suc_term (App (Var 2) (Var 1))) (suc_term zero_term) ∷ [])
    (Pi Nat Nat ∷ Nat ∷ equation 0 Nat (suc_term (App (Var 1) (Var 0))) (suc_term zero_term) ∷ [])
    (App (Var 2) (Var 1))
    zero_term
    NotRigid))
    99
unfolding native.Mathlib.Decide.ℕ_discrete sample
not_rigid = refl

-- n : Nat, i j : Fin n, e : Eq.0 (Fin (suc n)) (fsuc n i) (fsuc n j)
needs_index_equations : unify_of (sample false)
    (of_refl (Nat ∷ Fin (Var 0) ∷ Fin (Var 1) ∷ equation 0 (Fin (suc_term (Var 2))) (fsuc (Var 2) (Var 1)) (fsuc (Var 2) (Var 0)) ∷ [])
    (Fin (suc_term (Var 3))) (fsuc (Var 3) (Var 2)) (fsuc (Var 3) (Var 1))) 100
    ≡ answered
    (Ok (Stuck []
    (Nat ∷ Fin (Var 0) ∷ Fin (Var 1) ∷ equation 0 (Fin (suc_term (Var 2))) (fsuc (Var 2) (Var 1)) (fsuc (Var 2) (Var 0)) ∷ [])
    (fsuc (Var 3) (Var 2))
    (fsuc (Var 3) (Var 1))
    NeedsIndexEquations))
    97
unfolding native.Mathlib.Decide.ℕ_discrete sample
needs_index_equations = refl

-- g : Nat -> Nat, n : Nat, e : Eq.0 Nat (g (up n)) (g (suc n)): convertible
needs_k : unify_of (sample false)
    (of_refl (Pi Nat Nat ∷ Nat ∷ equation 0 Nat (App (Var 1) (up (Var 0))) (App (Var 1) (suc_term (Var 0))) ∷ [])
    Nat (App (Var 2) (up (Var 1))) (App (Var 2) (suc_term (Var 1)))) 100
    ≡ answered
    (Ok (Stuck []
    (Pi Nat Nat ∷ Nat ∷ equation 0 Nat (App (Var 1) (up (Var 0))) (App (Var 1) (suc_term (Var 0))) ∷ [])
    (App (Var 2) (up (Var 1)))
    (App (Var 2) (suc_term (Var 1)))
    NeedsK))
    93
unfolding native.Mathlib.Decide.ℕ_discrete sample
needs_k = refl

-- e : Eq.0 (Nat -> Tk) bk ck: constructors without their arguments are not in conflict
no_conflict_without_arguments : unify_of (sample false)
    (of_refl (equation 0 (Pi Nat Tk) (Con (after 11) 1) (Con (after 11) 2) ∷ []) (Pi Nat Tk) (Con (after 11) 1) (Con (after 11) 2)) 100
    ≡ answered (Ok (Stuck [] (equation 0 (Pi Nat Tk) (Con (after 11) 1) (Con (after 11) 2) ∷ []) (Con (after 11) 1) (Con (after 11) 2) NotRigid)) 99
unfolding native.Mathlib.Decide.ℕ_discrete sample
no_conflict_without_arguments = refl

-- A : Type 0, a b : A, x : Het A a A b is matched with het: the equation of A with itself comes first
heterogeneous : unify_of (sample false)
    (record {
      context = Sort 0 ∷ Var 0 ∷ Var 1 ∷ Het (Var 2) (Var 1) (Var 2) (Var 0) ∷ [];
      telescope =
          record { type = Sort 0; level = 1 } ∷ item (Var 0)
          ∷ record { type = Het (Var 5) (Var 4) (Var 1) (Var 0); level = 1 } ∷ [];
      left = Var 3 ∷ Var 2 ∷ App (App (Con (after 12) 0) (Var 3)) (Var 2) ∷ [];
      right = Var 3 ∷ Var 1 ∷ Var 0 ∷ [];
    }) 100
    ≡ answered (Ok (Stuck [] (Sort 0 ∷ Var 0 ∷ Var 1 ∷ Het (Var 2) (Var 1) (Var 2) (Var 0) ∷ []) (Var 3) (Var 3) NeedsK)) 99
unfolding native.Mathlib.Decide.ℕ_discrete sample
heterogeneous = refl

-- ---- groups

-- n : Nat, x : Has (suc n) (fzero n); n' : Nat, i' : Fin n', h' : Has n' i': x is matched with there n' i' h'
group_conflict : unify_of (sample false)
    (record {
      context = Nat ∷ Has (suc_term (Var 0)) (fzero (Var 0)) ∷ Nat ∷ Fin (Var 0) ∷ Has (Var 1) (Var 0) ∷ [];
      telescope = item Nat ∷ item (Fin (Var 0)) ∷ item (Has (Var 1) (Var 0)) ∷ [];
      left = suc_term (Var 2) ∷ fsuc (Var 2) (Var 1) ∷ there_term (Var 2) (Var 1) (Var 0) ∷ [];
      right = suc_term (Var 4) ∷ fzero (Var 4) ∷ Var 3 ∷ [];
    }) 100
    ≡ answered
    (Ok (Absurd
    (step 2 (Conflict (after 1) 1 0) (Fin (Var 0)) (fsuc (Var 2) (Var 1)) (fzero (Var 4)) ∷ [])
    (Nat ∷ Has (suc_term (Var 0)) (fzero (Var 0)) ∷ Nat ∷ Fin (Var 0) ∷ Has (Var 1) (Var 0) ∷ [])
    (fsuc (Var 2) (Var 1))
    (fzero (Var 4))))
    98
unfolding native.Mathlib.Decide.ℕ_discrete sample
group_conflict = refl

-- n : Nat, i : Fin n, h : Has n i, x : Box (suc n) (fsuc n i) (there n i h); n', i', h': x is matched with box n' i' h'
group_of_three : unify_of (sample false)
    (record {
      context =
          Nat ∷ Fin (Var 0) ∷ Has (Var 1) (Var 0)
          ∷ Box (suc_term (Var 2)) (fsuc (Var 2) (Var 1)) (there_term (Var 2) (Var 1) (Var 0))
          ∷ Nat ∷ Fin (Var 0) ∷ Has (Var 1) (Var 0) ∷ [];
      telescope = item Nat ∷ item (Fin (Var 0)) ∷ item (Has (Var 1) (Var 0)) ∷ item (Box (Var 2) (Var 1) (Var 0)) ∷ [];
      left =
          suc_term (Var 2) ∷ fsuc (Var 2) (Var 1) ∷ there_term (Var 2) (Var 1) (Var 0) ∷ box (Var 2) (Var 1) (Var 0) ∷ [];
      right = suc_term (Var 6) ∷ fsuc (Var 6) (Var 5) ∷ there_term (Var 6) (Var 5) (Var 4) ∷ Var 3 ∷ [];
    }) 100
    ≡ answered
    (Ok (Solved
    (step 3 (Inject (after 2) 1) (Has (Var 1) (Var 0)) (there_term (Var 2) (Var 1) (Var 0)) (there_term (Var 6) (Var 5) (Var 4))
    ∷ step 1 (SolveRight 6) Nat (Var 2) (Var 6)
    ∷ step 1 (SolveRight 2) (Fin (Var 5)) (Var 4) (Var 2)
    ∷ step 1 (SolveRight 1) (Has (Var 4) (Var 3)) (Var 2) (Var 1)
    ∷ step 1 (SolveRight 0) (Box (suc_term (Var 3)) (fsuc (Var 3) (Var 2)) (there_term (Var 3) (Var 2) (Var 1)))
    (box (Var 3) (Var 2) (Var 1)) (Var 0)
    ∷ [])
    (Nat ∷ Fin (Var 0) ∷ Has (Var 1) (Var 0) ∷ [])
    (Var 2 ∷ Var 1 ∷ Var 0 ∷ box (Var 2) (Var 1) (Var 0) ∷ Var 2 ∷ Var 1 ∷ Var 0 ∷ [])))
    97
unfolding native.Mathlib.Decide.ℕ_discrete sample
group_of_three = refl

-- n : Nat, i : Fin n, x : W n i (k n i); n', i': x is matched with w n' i'. The group comes after a solution, and its
-- types have reflexivities in their transports.
group_behind_a_solution : unify_of (sample false)
    (record {
      context = Nat ∷ Fin (Var 0) ∷ W (Var 1) (Var 0) (k_term (Var 1) (Var 0)) ∷ Nat ∷ Fin (Var 0) ∷ [];
      telescope = item Nat ∷ item (Fin (Var 0)) ∷ item (K (Var 1) (Var 0)) ∷ item (W (Var 2) (Var 1) (Var 0)) ∷ [];
      left = Var 1 ∷ Var 0 ∷ k_term (Var 1) (Var 0) ∷ w_term (Var 1) (Var 0) ∷ [];
      right = Var 4 ∷ Var 3 ∷ k_term (Var 4) (Var 3) ∷ Var 2 ∷ [];
    }) 100
    ≡ answered
    (Ok (Solved
    (step 1 (SolveRight 4) Nat (Var 1) (Var 4)
    ∷ step 2 (Inject (after 5) 0) (K (Var 4) (Var 0)) (k_term (Var 3) (Var 2)) (k_term (Var 3) (Var 1))
    ∷ step 1 (SolveRight 1) (Fin (Var 3)) (Var 2) (Var 1)
    ∷ step 1 (SolveRight 0) (W (Var 2) (Var 1) (k_term (Var 2) (Var 1))) (w_term (Var 2) (Var 1)) (Var 0)
    ∷ [])
    (Nat ∷ Fin (Var 0) ∷ [])
    (Var 1 ∷ Var 0 ∷ w_term (Var 1) (Var 0) ∷ Var 1 ∷ Var 0 ∷ [])))
    83
unfolding native.Mathlib.Decide.ℕ_discrete sample
group_behind_a_solution = refl

-- ---- solutions

-- n : Nat, x : D n n is matched with mk: the target of mk has n, and its normal form has not
normalised : unify_of (sample false)
    (record {
      context = Nat ∷ D (Var 0) (Var 0) ∷ [];
      telescope = item Nat ∷ item (D (Var 2) (Var 0)) ∷ [];
      left = App (Lam Nat (konst zero_term (Var 0))) (Var 1) ∷ App (Con (after 8) 0) (Var 1) ∷ [];
      right = Var 1 ∷ Var 0 ∷ [];
    }) 100
    ≡ answered
    (Ok (Solved
    (step 1 (SolveRight 1) Nat zero_term (Var 1)
    ∷ step 1 (SolveRight 0) (D zero_term zero_term) (App (Con (after 8) 0) zero_term) (Var 0)
    ∷ [])
    []
    (zero_term ∷ App (Con (after 8) 0) zero_term ∷ [])))
    96
unfolding native.Mathlib.Decide.ℕ_discrete sample
normalised = refl

-- n k : Nat, v : Vec n, u : Vec k, e : Eq.0 Nat n (suc k): v comes last once n is solved
dependants_stand_last : unify_of (sample false)
    (of_refl (Nat ∷ Nat ∷ Vec (Var 1) ∷ Vec (Var 1) ∷ equation 0 Nat (Var 3) (suc_term (Var 2)) ∷ []) Nat (Var 4) (suc_term (Var 3))) 100
    ≡ answered
    (Ok (Solved
    (step 1 (SolveLeft 4) Nat (Var 4) (suc_term (Var 3))
    ∷ step 1 (SolveRight 0) (equation 0 Nat (suc_term (Var 3)) (suc_term (Var 3))) (reflexivity 0 Nat (suc_term (Var 3))) (Var 0)
    ∷ [])
    (Nat ∷ Vec (Var 0) ∷ Vec (suc_term (Var 1)) ∷ [])
    (suc_term (Var 2) ∷ Var 2 ∷ Var 0 ∷ Var 1 ∷ reflexivity 0 Nat (suc_term (Var 2)) ∷ [])))
    100
unfolding native.Mathlib.Decide.ℕ_discrete sample
dependants_stand_last = refl

-- n k : Nat, v : Vec n, u : Vec k, e : Eq.0 Nat n k: the right side is solved
right_before_left : unify_of (sample false)
    (of_refl (Nat ∷ Nat ∷ Vec (Var 1) ∷ Vec (Var 1) ∷ equation 0 Nat (Var 3) (Var 2) ∷ []) Nat (Var 4) (Var 3)) 100
    ≡ answered
    (Ok (Solved
    (step 1 (SolveRight 3) Nat (Var 4) (Var 3)
    ∷ step 1 (SolveRight 0) (equation 0 Nat (Var 3) (Var 3)) (reflexivity 0 Nat (Var 3)) (Var 0)
    ∷ [])
    (Nat ∷ Vec (Var 0) ∷ Vec (Var 1) ∷ [])
    (Var 2 ∷ Var 2 ∷ Var 1 ∷ Var 0 ∷ reflexivity 0 Nat (Var 2) ∷ [])))
    100
unfolding native.Mathlib.Decide.ℕ_discrete sample
right_before_left = refl
