-- Trees of small functions, as they are worked by hand. Contexts, terms and units are given whole.
use native.Mathlib.Decide.{ℕ_discrete}
use Rattle.std.proofs.Common.{◌≡◌, ℕ, false, Ok, Err, List, [], ◌∷◌, refl}
use Rattle.theory.specs.Terms.{Term}
use Rattle.theory.specs.Terms.Term.{Var, Sort, Fam}
use Rattle.theory.specs.Signatures.{equation}
use Rattle.theory.proofs.AfterPrelude.{after}
use Rattle.core_terms.specs.Patterns as pattern
use Rattle.core_terms.specs.Patterns.{Pat, Bind, Wild, Dot, Con, vector}
use Rattle.core_terms.specs.Clauses as clause
use Rattle.core_terms.specs.Clauses.{Clause, Is, clauses}
use Rattle.core_terms.specs.CaseTrees.{Step, Split, Leaf, Absurd, Solved, branches}
use Rattle.core_terms.specs.declared.case_tree.Rule.{Rule}
use Rattle.core_terms.specs.declared.case_tree.Rule.TheVariants.{SolveRight, Inject, Conflict, Cycle}
use Rattle.core_terms.specs.declared.case_tree.Origin.TheVariants.{Old, Arg}
use Rattle.case_trees.proofs.Samples.{sample, Nat, zero_term, suc_term, Fin, true_term, up, U, u_term, v_term, P, pair_term, W, w_term, Q, Has, fzero, fsuc, there_term, pred}
use Rattle.case_trees.specs.Stops.{Stuck, Uncovered, answers}
use Rattle.unification.specs.declared.why.Why.TheVariants.{NotRigid}
use Rattle.case_trees.specs.Trees.{split_of}

abbrev a_clause : List Pat → ℕ → Clause
a_clause pats binds = Is (vector pats) binds (clause.Side (Sort 0))

abbrev zero_pattern : Pat
zero_pattern = Con (after 0) 0 (vector [])

abbrev suc_pattern : Pat → Pat
suc_pattern pat = Con (after 0) 1 (vector (pat ∷ []))

-- a step with one equation in Nat
abbrev step : Rule → (u v : Term) → Step
step rule u v = record { group = 1; rule = rule; ty = Nat; left = u; right = v }

-- plus zero n, plus (suc m) n
plus : split_of (sample false) (Nat ∷ Nat ∷ []) Nat (Var 1 ∷ Var 0 ∷ [])
    (clauses (a_clause (zero_pattern ∷ Bind ∷ []) 1 ∷ a_clause (suc_pattern Bind ∷ Bind ∷ []) 2 ∷ [])) 10
    ≡ answers
    (Ok (Split (Nat ∷ Nat ∷ []) 1 (after 0) Nat (branches
    (Solved (step (SolveRight 1) zero_term (Var 1) ∷ []) (Old 0 ∷ [])
    (Leaf 0 (Nat ∷ []) Nat (zero_term ∷ Var 0 ∷ []) (zero_term ∷ Var 0 ∷ []) (Var 0 ∷ []))
    ∷ Solved (step (SolveRight 2) (suc_term (Var 0)) (Var 2) ∷ []) (Old 0 ∷ Arg 0 ∷ [])
    (Leaf 1 (Nat ∷ Nat ∷ []) Nat (suc_term (Var 0) ∷ Var 1 ∷ []) (suc_term (Var 0) ∷ Var 1 ∷ []) (Var 0 ∷ Var 1 ∷ []))
    ∷ []))))
    10
unfolding native.Mathlib.Decide.ℕ_discrete sample
plus = refl

-- plus zero n, plus _ _
wildcards : split_of (sample false) (Nat ∷ Nat ∷ []) Nat (Var 1 ∷ Var 0 ∷ [])
    (clauses (a_clause (zero_pattern ∷ Bind ∷ []) 1 ∷ a_clause (Wild ∷ Wild ∷ []) 0 ∷ [])) 10
    ≡ answers
    (Ok (Split (Nat ∷ Nat ∷ []) 1 (after 0) Nat (branches
    (Solved (step (SolveRight 1) zero_term (Var 1) ∷ []) (Old 0 ∷ [])
    (Leaf 0 (Nat ∷ []) Nat (zero_term ∷ Var 0 ∷ []) (zero_term ∷ Var 0 ∷ []) (Var 0 ∷ []))
    ∷ Solved (step (SolveRight 2) (suc_term (Var 0)) (Var 2) ∷ []) (Old 0 ∷ Arg 0 ∷ [])
    (Leaf 1 (Nat ∷ Nat ∷ []) Nat (suc_term (Var 0) ∷ Var 1 ∷ []) (suc_term (Var 0) ∷ Var 1 ∷ []) [])
    ∷ []))))
    10
unfolding native.Mathlib.Decide.ℕ_discrete sample
wildcards = refl

-- add zero n, add m zero, add (suc m) (suc n)
diagonal : split_of (sample false) (Nat ∷ Nat ∷ []) Nat (Var 1 ∷ Var 0 ∷ [])
    (clauses
    (a_clause (zero_pattern ∷ Bind ∷ []) 1
    ∷ a_clause (Bind ∷ zero_pattern ∷ []) 1
    ∷ a_clause (suc_pattern Bind ∷ suc_pattern Bind ∷ []) 2
    ∷ [])) 10
    ≡ answers
    (Ok (Split (Nat ∷ Nat ∷ []) 1 (after 0) Nat (branches
    (Solved (step (SolveRight 1) zero_term (Var 1) ∷ []) (Old 0 ∷ [])
    (Leaf 0 (Nat ∷ []) Nat (zero_term ∷ Var 0 ∷ []) (zero_term ∷ Var 0 ∷ []) (Var 0 ∷ []))
    ∷ Solved (step (SolveRight 2) (suc_term (Var 0)) (Var 2) ∷ []) (Old 0 ∷ Arg 0 ∷ [])
    (Split (Nat ∷ Nat ∷ []) 1 (after 0) Nat (branches
    (Solved (step (SolveRight 1) zero_term (Var 1) ∷ []) (Old 0 ∷ [])
    (Leaf 1 (Nat ∷ []) Nat (suc_term (Var 0) ∷ zero_term ∷ []) (suc_term (Var 0) ∷ zero_term ∷ []) (suc_term (Var 0) ∷ []))
    ∷ Solved (step (SolveRight 2) (suc_term (Var 0)) (Var 2) ∷ []) (Old 0 ∷ Arg 0 ∷ [])
    (Leaf 2 (Nat ∷ Nat ∷ []) Nat (suc_term (Var 1) ∷ suc_term (Var 0) ∷ []) (suc_term (Var 1) ∷ suc_term (Var 0) ∷ [])
    (Var 1 ∷ Var 0 ∷ []))
    ∷ [])))
    ∷ []))))
    10
unfolding native.Mathlib.Decide.ℕ_discrete sample
diagonal = refl

-- suc n alone leaves zero
uncovered : split_of (sample false) (Nat ∷ []) Nat (Var 0 ∷ []) (clauses (a_clause (suc_pattern Bind ∷ []) 1 ∷ [])) 10
    ≡ answers (Err (Uncovered [] (zero_term ∷ []))) 10
unfolding native.Mathlib.Decide.ℕ_discrete sample
uncovered = refl

-- no clause, in a family without constructors: nothing is split
no_clause : split_of (sample false) (Fam 0 ∷ []) Nat (Var 0 ∷ []) (clauses []) 10 ≡ answers (Err (Uncovered (Fam 0 ∷ []) (Var 0 ∷ []))) 10
unfolding native.Mathlib.Decide.ℕ_discrete sample
no_clause = refl

-- ( ) in a family without constructors
empty : split_of (sample false) (Fam 0 ∷ []) Nat (Var 0 ∷ []) (clauses (a_clause (pattern.Absurd ∷ []) 0 ∷ [])) 10
    ≡ answers (Ok (Split (Fam 0 ∷ []) 0 0 (Fam 0) (branches []))) 10
unfolding native.Mathlib.Decide.ℕ_discrete sample
empty = refl

-- ( ) at n = suc n
cyclic : split_of (sample false) (Nat ∷ equation 0 Nat (Var 0) (suc_term (Var 0)) ∷ []) Nat (Var 1 ∷ Var 0 ∷ [])
    (clauses (a_clause (Bind ∷ pattern.Absurd ∷ []) 1 ∷ [])) 10
    ≡ answers
    (Ok (Split (Nat ∷ equation 0 Nat (Var 0) (suc_term (Var 0)) ∷ []) 0 1 (equation 0 Nat (Var 1) (suc_term (Var 1))) (branches
    (Absurd (step (Cycle 1) (Var 1) (suc_term (Var 1)) ∷ []) (Nat ∷ equation 0 Nat (Var 0) (suc_term (Var 0)) ∷ [])
    (Var 1) (suc_term (Var 1))
    ∷ []))))
    10
unfolding native.Mathlib.Decide.ℕ_discrete sample
cyclic = refl

-- ( ) at Fin zero
no_number : split_of (sample false) (Fin zero_term ∷ []) Nat (Var 0 ∷ []) (clauses (a_clause (pattern.Absurd ∷ []) 0 ∷ [])) 10
    ≡ answers
    (Ok (Split (Fin zero_term ∷ []) 0 (after 2) (Fin zero_term) (branches
    (Absurd (step (Conflict (after 0) 1 0) (suc_term (Var 0)) zero_term ∷ []) (Fin zero_term ∷ Nat ∷ []) (suc_term (Var 0)) zero_term
    ∷ Absurd (step (Conflict (after 0) 1 0) (suc_term (Var 1)) zero_term ∷ []) (Fin zero_term ∷ Nat ∷ Fin (Var 0) ∷ [])
    (suc_term (Var 1)) zero_term
    ∷ []))))
    10
unfolding native.Mathlib.Decide.ℕ_discrete sample
no_number = refl

-- A clause with ( ) is dropped where its constructors can be there, here for the second one: no clause is left for true.
dropped : split_of (sample false) (Fam (after 3) ∷ []) Nat (Var 0 ∷ []) (clauses (a_clause (pattern.Absurd ∷ []) 0 ∷ [])) 10
    ≡ answers (Err (Uncovered [] (true_term ∷ []))) 10
unfolding native.Mathlib.Decide.ℕ_discrete sample
dropped = refl

-- ---- terms keep the head forms that clauses were compared with

-- f _ v, f zero _, f n (u zero): after u the second clause is compared with `up k`, for two units. The third one binds `up k` as it is,
-- and leaves the argument list that is shown.
kept : split_of (sample false) (Nat ∷ U (Var 0) ∷ []) Nat (Var 1 ∷ Var 0 ∷ [])
    (clauses
    (a_clause (Wild ∷ Con (after 5) 1 (vector []) ∷ []) 0
    ∷ a_clause (zero_pattern ∷ Wild ∷ []) 0
    ∷ a_clause (Bind ∷ Con (after 5) 0 (vector (zero_pattern ∷ [])) ∷ []) 1
    ∷ [])) 10
    ≡ answers (Err (Uncovered (Nat ∷ []) (suc_term (suc_term (Var 0)) ∷ u_term (suc_term (Var 0)) ∷ []))) 8
unfolding native.Mathlib.Decide.ℕ_discrete sample
kept = refl

-- with u _ in the third clause, its leaf has the terms as they were compared, and the binding as it is
bound_as_it_stands : split_of (sample false) (Nat ∷ U (Var 0) ∷ []) Nat (Var 1 ∷ Var 0 ∷ [])
    (clauses
    (a_clause (Wild ∷ Con (after 5) 1 (vector []) ∷ []) 0
    ∷ a_clause (zero_pattern ∷ Wild ∷ []) 0
    ∷ a_clause (Bind ∷ Con (after 5) 0 (vector (Wild ∷ [])) ∷ []) 1
    ∷ [])) 10
    ≡ answers
    (Ok (Split (Nat ∷ U (Var 0) ∷ []) 0 (after 5) (U (Var 1)) (branches
    (Solved
    (step (SolveRight 2) (up (Var 0)) (Var 2)
    ∷ record { group = 1; rule = SolveRight 0; ty = U (up (Var 1)); left = u_term (Var 1); right = Var 0 }
    ∷ []) (Arg 0 ∷ [])
    (Leaf 2 (Nat ∷ []) Nat (up (Var 0) ∷ u_term (Var 0) ∷ []) (suc_term (Var 0) ∷ u_term (Var 0) ∷ []) (up (Var 0) ∷ []))
    ∷ Solved
    (step (SolveRight 1) zero_term (Var 1)
    ∷ record { group = 1; rule = SolveRight 0; ty = U zero_term; left = v_term; right = Var 0 }
    ∷ []) []
    (Leaf 0 [] Nat (zero_term ∷ v_term ∷ []) (zero_term ∷ v_term ∷ []) [])
    ∷ []))))
    8
unfolding native.Mathlib.Decide.ℕ_discrete sample
bound_as_it_stands = refl

-- f _ x, f (pair zero zero) _, f (pair (suc (suc _)) zero) _: the second clause leaves `suc zero` in the first argument. After
-- its clash it looks no further. The third one reduces its own terms anew, and takes nothing back.
not_overwritten : split_of (sample false) (P ∷ W (Var 0) ∷ []) Nat (Var 1 ∷ Var 0 ∷ [])
    (clauses
    (a_clause (Wild ∷ Con (after 8) 1 (vector []) ∷ []) 0
    ∷ a_clause (Con (after 6) 0 (vector (zero_pattern ∷ zero_pattern ∷ [])) ∷ Wild ∷ []) 0
    ∷ a_clause (Con (after 6) 0 (vector (suc_pattern (suc_pattern Wild) ∷ zero_pattern ∷ [])) ∷ Wild ∷ []) 0
    ∷ [])) 20
    ≡ answers (Err (Uncovered [] (pair_term (suc_term zero_term) (up zero_term) ∷ w_term ∷ []))) 12
unfolding native.Mathlib.Decide.ℕ_discrete sample
not_overwritten = refl

-- ---- where a problem is stuck

-- q0 k at Q zero: the problem of q0 is solved, and that of q1 is stuck, for one unit. No branch is begun.
stuck : split_of (sample false) (Q zero_term ∷ []) Nat (Var 0 ∷ []) (clauses (a_clause (Con (after 9) 0 (vector (Bind ∷ [])) ∷ []) 1 ∷ [])) 10
    ≡ answers (Err (Stuck 0 (Q zero_term ∷ Nat ∷ []) (pred (Var 0)) zero_term NotRigid)) 9
unfolding native.Mathlib.Decide.ℕ_discrete sample
stuck = refl

-- The first clause is the one that is reported: after zero the second one asks for q0 k at Q zero.
stuck_later : split_of (sample false) (Nat ∷ Q (Var 0) ∷ []) Nat (Var 1 ∷ Var 0 ∷ [])
    (clauses
    (a_clause (suc_pattern Wild ∷ Wild ∷ []) 0
    ∷ a_clause (Wild ∷ Con (after 9) 0 (vector (Bind ∷ [])) ∷ []) 1
    ∷ [])) 10
    ≡ answers (Err (Stuck 1 (Q zero_term ∷ Nat ∷ []) (pred (Var 0)) zero_term NotRigid)) 9
unfolding native.Mathlib.Decide.ℕ_discrete sample
stuck_later = refl

-- ---- indices that are terms

-- Has (suc n) (fsuc n i): `here k` has a conflict in the group of k and fzero k, `there n' i' h'` is injective there. Each compares two
-- types, for a unit each.
down : split_of (sample false) (Nat ∷ Fin (Var 0) ∷ Has (suc_term (Var 1)) (fsuc (Var 1) (Var 0)) ∷ []) (Has (Var 2) (Var 1))
    (Var 2 ∷ Var 1 ∷ Var 0 ∷ [])
    (clauses (a_clause (Bind ∷ Bind ∷ Con (after 10) 1 (vector (Dot (Var 2) ∷ Dot (Var 1) ∷ Bind ∷ [])) ∷ []) 3 ∷ [])) 10
    ≡ answers
    (Ok (Split (Nat ∷ Fin (Var 0) ∷ Has (suc_term (Var 1)) (fsuc (Var 1) (Var 0)) ∷ []) 0 (after 10)
    (Has (suc_term (Var 2)) (fsuc (Var 2) (Var 1)))
    (branches
    (Absurd
    (record { group = 2; rule = Conflict (after 2) 0 1; ty = Fin (Var 0); left = fzero (Var 0); right = fsuc (Var 3) (Var 2) } ∷ [])
    (Nat ∷ Fin (Var 0) ∷ Has (suc_term (Var 1)) (fsuc (Var 1) (Var 0)) ∷ Nat ∷ [])
    (fzero (Var 0)) (fsuc (Var 3) (Var 2))
    ∷ Solved
    (record { group = 2; rule = Inject (after 2) 1; ty = Fin (Var 0); left = fsuc (Var 2) (Var 1); right = fsuc (Var 5) (Var 4) }
    ∷ step (SolveRight 5) (Var 2) (Var 5)
    ∷ record { group = 1; rule = SolveRight 1; ty = Fin (Var 4); left = Var 3; right = Var 1 }
    ∷ record {
      group = 1;
      rule = SolveRight 0;
      ty = Has (suc_term (Var 3)) (fsuc (Var 3) (Var 2));
      left = there_term (Var 3) (Var 2) (Var 1);
      right = Var 0;
    }
    ∷ [])
    (Arg 0 ∷ Arg 1 ∷ Arg 2 ∷ [])
    (Leaf 0 (Nat ∷ Fin (Var 0) ∷ Has (Var 1) (Var 0) ∷ []) (Has (Var 2) (Var 1))
    (Var 2 ∷ Var 1 ∷ there_term (Var 2) (Var 1) (Var 0) ∷ [])
    (Var 2 ∷ Var 1 ∷ there_term (Var 2) (Var 1) (Var 0) ∷ [])
    (Var 2 ∷ Var 1 ∷ Var 0 ∷ []))
    ∷ []))))
    6
unfolding native.Mathlib.Decide.ℕ_discrete sample
down = refl
