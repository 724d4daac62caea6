-- Worked cases of pairs. Positions and clauses count from 0.
use Rattle.std.proofs.Common.{◌≡◌, ℕ, List, [], ◌∷◌, map, refl}
use Rattle.theory.specs.Terms.{Term}
use Rattle.theory.specs.Terms.Term.{Var, Sort, App, Fam, Con}
use Rattle.tree_translation.specs.structural_rec.Uses.{Use}
use Rattle.tree_translation.proofs.structural_rec.Samples.{zero, suc, sample, self}
use Rattle.lex_recursion.specs.PairChoices.{At, Failing, FailingPair, choose_pair}
use Rattle.lex_recursion.specs.Pairs.{Pair, pair_order, pairs}

abbrev side : (clause : ℕ) → List Term → Term → Use
side clause terms body = record { function = 0; clause = clause; terms = terms; body = body }

abbrev row : (first second clause : ℕ) → Term → FailingPair
row first second clause call = record { first = first; second = second; clause = clause; call = call }

abbrev pair : (first number : ℕ) (fixed indices : List ℕ) (second other : ℕ) (held others : List ℕ) → Pair
pair first number fixed indices second other held others = record {
  first = first;
  outer = record { number = number; fixed = fixed; indices = indices };
  second = second;
  inner = record { number = other; fixed = held; indices = others };
}

-- ack zero n = suc n, ack (suc m) zero = ack m (suc zero), ack (suc m) (suc n) = ack m (ack (suc m) n)
ack : choose_pair sample (Fam 0 ∷ Fam 0 ∷ []) 9
    (side 0 (zero ∷ Var 0 ∷ []) (suc (Var 0))
    ∷ side 1 (suc (Var 0) ∷ zero ∷ []) (self (Var 0 ∷ suc zero ∷ []))
    ∷ side 2 (suc (Var 1) ∷ suc (Var 0) ∷ []) (self (Var 1 ∷ self (suc (Var 1) ∷ Var 0 ∷ []) ∷ []))
    ∷ [])
    ≡ At 0 1
unfolding native.Mathlib.Decide.ℕ_discrete
ack = refl

-- with the arguments exchanged
kca : choose_pair sample (Fam 0 ∷ Fam 0 ∷ []) 9
    (side 0 (Var 0 ∷ zero ∷ []) (suc (Var 0))
    ∷ side 1 (zero ∷ suc (Var 0) ∷ []) (self (suc zero ∷ Var 0 ∷ []))
    ∷ side 2 (suc (Var 1) ∷ suc (Var 0) ∷ []) (self (self (Var 1 ∷ suc (Var 0) ∷ []) ∷ Var 0 ∷ []))
    ∷ [])
    ≡ At 1 0
unfolding native.Mathlib.Decide.ℕ_discrete
kca = refl

-- swp n zero = n, swp n (suc m) = swp m n
swp : choose_pair sample (Fam 0 ∷ Fam 0 ∷ []) 9
    (side 0 (Var 0 ∷ zero ∷ []) (Var 0) ∷ side 1 (Var 1 ∷ suc (Var 0) ∷ []) (self (Var 0 ∷ Var 1 ∷ [])) ∷ [])
    ≡ Failing (row 0 1 1 (self (Var 0 ∷ Var 1 ∷ [])) ∷ row 1 0 1 (self (Var 0 ∷ Var 1 ∷ [])) ∷ [])
unfolding native.Mathlib.Decide.ℕ_discrete
swp = refl

-- (A : Type 0) (n : Nat) (v : Vec A n) (m : Nat) (w : Vec A m): a number and the vector of another length, and the two vectors
vectors : pairs sample (Sort 0 ∷ Fam 0 ∷ App (App (Fam 1) (Var 1)) (Var 0) ∷ Fam 0 ∷ App (App (Fam 1) (Var 3)) (Var 0) ∷ [])
    ≡ pair 1 0 [] [] 3 0 (1 ∷ []) []
    ∷ pair 1 0 [] [] 4 1 (1 ∷ 0 ∷ []) (3 ∷ [])
    ∷ pair 2 1 (0 ∷ []) (1 ∷ []) 3 0 (0 ∷ 1 ∷ 2 ∷ []) []
    ∷ pair 2 1 (0 ∷ []) (1 ∷ []) 4 1 (0 ∷ 1 ∷ 2 ∷ []) (3 ∷ [])
    ∷ pair 3 0 [] [] 1 0 (3 ∷ []) []
    ∷ pair 3 0 [] [] 2 1 (3 ∷ 0 ∷ []) (1 ∷ [])
    ∷ pair 4 1 (0 ∷ []) (3 ∷ []) 1 0 (0 ∷ 3 ∷ 4 ∷ []) []
    ∷ pair 4 1 (0 ∷ []) (3 ∷ []) 2 1 (0 ∷ 3 ∷ 4 ∷ []) (1 ∷ [])
    ∷ []
unfolding native.Mathlib.Decide.ℕ_discrete
vectors = refl

vector_orders : map (pair_order 5)
    (pair 1 0 [] [] 4 1 (1 ∷ 0 ∷ []) (3 ∷ []) ∷ pair 4 1 (0 ∷ []) (3 ∷ []) 2 1 (0 ∷ 3 ∷ 4 ∷ []) (1 ∷ []) ∷ [])
    ≡ (1 ∷ 0 ∷ 3 ∷ 4 ∷ 2 ∷ []) ∷ (0 ∷ 3 ∷ 4 ∷ 1 ∷ 2 ∷ []) ∷ []
unfolding native.Mathlib.Decide.ℕ_discrete
vector_orders = refl

-- (A : Type 0) (n : Nat) (v w : Vec A n): the length of both is an index of the first recursion
one_length : pairs sample (Sort 0 ∷ Fam 0 ∷ App (App (Fam 1) (Var 1)) (Var 0) ∷ App (App (Fam 1) (Var 2)) (Var 1) ∷ []) ≡ []
unfolding native.Mathlib.Decide.ℕ_discrete
one_length = refl

-- f oz n = zero, f (lim g) n = f (g n) (suc n), f o (suc n) = f o n: a sequence at an argument, and its second argument grows
limits : choose_pair sample (Fam 2 ∷ Fam 0 ∷ []) 9
    (side 0 (Con 2 0 ∷ Var 0 ∷ []) zero
    ∷ side 1 (App (Con 2 2) (Var 1) ∷ Var 0 ∷ []) (self (App (Var 1) (Var 0) ∷ suc (Var 0) ∷ []))
    ∷ side 2 (Var 1 ∷ suc (Var 0) ∷ []) (self (Var 1 ∷ Var 0 ∷ []))
    ∷ [])
    ≡ At 0 1
unfolding native.Mathlib.Decide.ℕ_discrete
limits = refl
