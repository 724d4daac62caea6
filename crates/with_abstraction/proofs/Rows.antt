-- Abstractions over scrutinees, worked by hand. The telescope, the goal, the place and the order are given whole.
use native.Mathlib.Decide.{ℕ_discrete}
use Rattle.std.proofs.Common.{◌≡◌, Ok, Err, [], ◌∷◌, refl, false, ℕ, List}
use Rattle.theory.specs.Terms.{Term}
use Rattle.theory.specs.Terms.Term.{Var, Sort, Pi, Lam, App}
use Rattle.theory.specs.Telescopes.{Telescope}
use Rattle.core_terms.specs.declared.stop.Stop.TheVariants.{Fuel}
use Rattle.kernel_reduce.specs.Reduction.{answered}
use Rattle.with_abstraction.proofs.Samples.{sample, Nat, zero_term, suc_term, Fin, Has}
use Rattle.with_abstraction.specs.Abstractions.{Abstracted, abstract_over_of}

abbrev row : (telescope : Telescope) (goal : Term) (place : ℕ) (order : List ℕ) → Abstracted
row telescope goal place order = record { telescope = telescope; goal = goal; place = place; order = order }

-- functions on Nat, and families over Nat
abbrev functions : Term
functions = Pi Nat Nat

abbrev families : Term
families = Pi Nat (Sort 0)

-- (g : Nat -> Nat) (n : Nat) (P : Nat -> Type 0) (y : P (g n)) (m : Nat), and P (g n): the scrutinee g n occurs in the goal and in
-- a type, which comes after the new variable, while m comes before it
in_both : abstract_over_of (sample false) (functions ∷ Nat ∷ families ∷ App (Var 0) (App (Var 2) (Var 1)) ∷ Nat ∷ [])
    (App (Var 2) (App (Var 4) (Var 3)))
    (App (Var 4) (Var 3)) Nat 0
    ≡ answered
    (Ok (row (functions ∷ Nat ∷ families ∷ Nat ∷ Nat ∷ App (Var 2) (Var 0) ∷ []) (App (Var 3) (Var 1)) 4 (4 ∷ 3 ∷ 2 ∷ 0 ∷ 1 ∷ [])))
    0
unfolding native.Mathlib.Decide.ℕ_discrete sample
in_both = refl

-- (x : Nat) (i : Fin x) (h : Has x i) (m : Nat), and Has x i: the scrutinee x occurs in the type of i and in that of h
a_variable : abstract_over_of (sample false) (Nat ∷ Fin (Var 0) ∷ Has (Var 1) (Var 0) ∷ Nat ∷ []) (Has (Var 3) (Var 2)) (Var 3) Nat 0
    ≡ answered
    (Ok (row (Nat ∷ Nat ∷ Nat ∷ Fin (Var 0) ∷ Has (Var 1) (Var 0) ∷ []) (Has (Var 2) (Var 1)) 2 (3 ∷ 0 ∷ 2 ∷ 1 ∷ [])))
    0
unfolding native.Mathlib.Decide.ℕ_discrete sample
a_variable = refl

-- (n : Nat) (i : Fin n) (h : Has n i) (m : Nat), and Nat: the scrutinee i occurs in the type of h alone
in_type : abstract_over_of (sample false) (Nat ∷ Fin (Var 0) ∷ Has (Var 1) (Var 0) ∷ Nat ∷ []) Nat (Var 2) (Fin (Var 3)) 0
    ≡ answered
    (Ok (row (Nat ∷ Fin (Var 0) ∷ Nat ∷ Fin (Var 2) ∷ Has (Var 3) (Var 0) ∷ []) Nat 3 (3 ∷ 2 ∷ 0 ∷ 1 ∷ [])))
    0
unfolding native.Mathlib.Decide.ℕ_discrete sample
in_type = refl

-- (n : Nat) (i : Fin n), and Fin (suc n): the scrutinee suc n occurs in the goal alone
in_goal : abstract_over_of (sample false) (Nat ∷ Fin (Var 0) ∷ []) (Fin (suc_term (Var 1))) (suc_term (Var 1)) Nat 0
    ≡ answered (Ok (row (Nat ∷ Fin (Var 0) ∷ Nat ∷ []) (Fin (Var 0)) 2 (1 ∷ 0 ∷ []))) 0
unfolding native.Mathlib.Decide.ℕ_discrete sample
in_goal = refl

-- (n : Nat) (i : Fin n), and Nat: zero occurs nowhere
nowhere : abstract_over_of (sample false) (Nat ∷ Fin (Var 0) ∷ []) Nat zero_term Nat 0
    ≡ answered (Ok (row (Nat ∷ Fin (Var 0) ∷ Nat ∷ []) Nat 2 (1 ∷ 0 ∷ []))) 0
unfolding native.Mathlib.Decide.ℕ_discrete sample
nowhere = refl

-- (n : Nat) (P : Nat -> Type 0) (y : (x : Nat) -> P (suc n)), and (x : Nat) -> P (suc n): the scrutinee suc n occurs under a binder
under_binder : abstract_over_of (sample false) (Nat ∷ families ∷ Pi Nat (App (Var 1) (suc_term (Var 2))) ∷ [])
    (Pi Nat (App (Var 2) (suc_term (Var 3))))
    (suc_term (Var 2)) Nat 0
    ≡ answered
    (Ok (row (Nat ∷ families ∷ Nat ∷ Pi Nat (App (Var 2) (Var 1)) ∷ []) (Pi Nat (App (Var 3) (Var 2))) 2 (2 ∷ 1 ∷ 0 ∷ [])))
    0
unfolding native.Mathlib.Decide.ℕ_discrete sample
under_binder = refl

-- (g : Nat -> Nat) (n : Nat) (P : Nat -> Type 0) (y : (m : Nat) -> P (g m)), and P (g n): under the binder is g m, which is not g n
other_under_binder : abstract_over_of (sample false) (functions ∷ Nat ∷ families ∷ Pi Nat (App (Var 1) (App (Var 3) (Var 0))) ∷ [])
    (App (Var 1) (App (Var 3) (Var 2)))
    (App (Var 3) (Var 2)) Nat 0
    ≡ answered
    (Ok (row
    (functions ∷ Nat ∷ families ∷ Pi Nat (App (Var 1) (App (Var 3) (Var 0))) ∷ Nat ∷ [])
    (App (Var 2) (Var 0)) 4 (3 ∷ 2 ∷ 1 ∷ 0 ∷ [])))
    0
unfolding native.Mathlib.Decide.ℕ_discrete sample
other_under_binder = refl

-- (\(i : Fin zero) -> Nat) y
abbrev over_y : Term → Term
over_y y = App (Lam (Fin zero_term) Nat) y

-- (y z : Fin zero), and Fin zero: the scrutinee (\(i : Fin zero) -> zero) y comes to zero, which occurs in the types of y and z. The
-- type (\(i : Fin zero) -> Nat) y has y, so y keeps its type and comes before the new variable. One unit is spent, for the scrutinee.
needed_type : abstract_over_of (sample false) (Fin zero_term ∷ Fin zero_term ∷ []) (Fin zero_term)
    (App (Lam (Fin zero_term) zero_term) (Var 1))
    (over_y (Var 1)) 1
    ≡ answered (Ok (row (Fin zero_term ∷ over_y (Var 0) ∷ Fin (Var 0) ∷ []) (Fin (Var 1)) 1 (1 ∷ 0 ∷ []))) 0
unfolding native.Mathlib.Decide.ℕ_discrete sample
needed_type = refl

-- The type has z, whose type has y: both are needed.
needed_twice : abstract_over_of (sample false)
    (Fin zero_term ∷ Has zero_term (Var 0) ∷ Fin zero_term ∷ [])
    (Has zero_term (Var 2))
    zero_term
    (App (Lam (Has zero_term (Var 2)) Nat) (Var 1))
    0
    ≡ answered
    (Ok (row
    (Fin zero_term ∷ Has zero_term (Var 0) ∷ App (Lam (Has zero_term (Var 1)) Nat) (Var 0) ∷ Fin (Var 0) ∷ [])
    (Has (Var 1) (Var 3)) 2 (2 ∷ 1 ∷ 0 ∷ [])))
    0
unfolding native.Mathlib.Decide.ℕ_discrete sample
needed_twice = refl

-- (\(n : Nat) -> Fin n) t, one step from Fin t
abbrev fin_of : Term → Term
fin_of t = App (Lam Nat (Fin (Var 0))) t

-- One step for the goal, one for each of two types, and one for the scrutinee (\(n : Nat) -> n) zero; the new variable's type stays as
-- it is.
four_units : abstract_over_of (sample false) (fin_of zero_term ∷ fin_of (suc_term zero_term) ∷ []) (fin_of zero_term)
    (App (Lam Nat (Var 0)) zero_term)
    (App (Lam Nat Nat) zero_term)
    5
    ≡ answered
    (Ok (row (App (Lam Nat Nat) zero_term ∷ Fin (Var 0) ∷ Fin (suc_term (Var 1)) ∷ []) (Fin (Var 2)) 0 (1 ∷ 0 ∷ [])))
    1
unfolding native.Mathlib.Decide.ℕ_discrete sample
four_units = refl

three_units : abstract_over_of (sample false) (fin_of zero_term ∷ fin_of (suc_term zero_term) ∷ []) (fin_of zero_term)
    (App (Lam Nat (Var 0)) zero_term)
    (App (Lam Nat Nat) zero_term)
    3
    ≡ answered (Err Fuel) 0
unfolding native.Mathlib.Decide.ℕ_discrete sample
three_units = refl
