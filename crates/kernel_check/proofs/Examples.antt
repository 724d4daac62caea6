-- Small cases of the checker, by computation: the verdicts with the units that are left.
use native.Mathlib.Decide.{ℕ_discrete}
use Rattle.std.proofs.Common.{◌≡◌, ℕ, ◌-◌, false, Ok, Err, List, [], ◌∷◌, refl}
use Rattle.theory.specs.Terms.{Term, Var, Sort, Pi, Lam, App, Let, Const, Elim, AxiomK, top}
use Rattle.theory.specs.Signatures.{Signature, FamilyOf, EliminatorAt, Definition}
use Rattle.theory.specs.Prelude.{empty_family}
use Rattle.core_terms.specs.Answers.{Spent}
use Rattle.core_terms.specs.Verdicts.{Reason, Mismatch, NotAProduct, NotASort, NoSuchInstance, LevelTooHigh, Verdict, Yes, No}
use Rattle.core_terms.specs.declared.stop.Stop.TheVariants.{Fuel, Deep}
use Rattle.kernel_reduce.specs.Reduction.{answered, nesting}
use Rattle.kernel_check.specs.Checking.{infer_of, infer_sort_of, check_of}

yes_with : Term → ℕ → Spent Verdict
yes_with type left = answered (Ok (Yes type)) left

no_with : List ℕ → List Term → Reason → ℕ → Spent Verdict
no_with place ctx reason left = answered (Ok (No (record { place = place; ctx = ctx; reason = reason }))) left

-- (A : Type i) -> A -> A, and the identity at that type
identity_type : ℕ → Term
identity_type i = Pi (Sort i) (Pi (Var 0) (Var 1))

identity : ℕ → Term
identity i = Lam (Sort i) (Lam (Var 0) (Var 0))

-- The signature has Empty, its eliminator into Type 1, and as constant 2 the identity on the types of Type 2.
sample : Signature
sample = record {
  entries =
      FamilyOf empty_family
      ∷ EliminatorAt 0 1
      ∷ Definition [] (identity_type 2) (identity 2)
      ∷ [];
  has_k = false;
}

-- Type 0 : Type 2 takes three units
sort_type : infer_sort_of sample nesting [] (Sort 2) 3 ≡ yes_with (Sort 3) 2
unfolding yes_with native.Mathlib.Decide.ℕ_discrete sample
sort_type = refl

sort_checked : check_of sample nesting [] (Sort 0) (Sort 2) 2 ≡ yes_with (Sort 1) 0
unfolding yes_with native.Mathlib.Decide.ℕ_discrete sample
sort_checked = refl

sort_fuel : check_of sample nesting [] (Sort 0) (Sort 2) 1 ≡ answered (Err Fuel) 0
unfolding native.Mathlib.Decide.ℕ_discrete sample
sort_fuel = refl

-- the identity at its type takes sixteen units
identity_sort : infer_sort_of sample nesting [] (identity_type 0) 16 ≡ yes_with (Sort 1) 11
unfolding yes_with native.Mathlib.Decide.ℕ_discrete sample identity_type
identity_sort = refl

identity_checked : check_of sample nesting [] (identity 0) (identity_type 0) 11 ≡ yes_with (identity_type 0) 0
unfolding yes_with native.Mathlib.Decide.ℕ_discrete sample identity_type identity
identity_checked = refl

identity_fuel : check_of sample nesting [] (identity 0) (identity_type 0) 10 ≡ answered (Err Fuel) 0
unfolding native.Mathlib.Decide.ℕ_discrete sample identity_type identity
identity_fuel = refl

-- an instance of the identity at its type takes nine
instance_sort : infer_sort_of sample nesting [] (Sort 1) 9 ≡ yes_with (Sort 2) 8
unfolding yes_with native.Mathlib.Decide.ℕ_discrete sample
instance_sort = refl

instance_checked : check_of sample nesting [] (App (App (Const 2) (Sort 1)) (Sort 0)) (Sort 1) 8 ≡ yes_with (Sort 1) 0
unfolding yes_with native.Mathlib.Decide.ℕ_discrete sample identity_type
instance_checked = refl

-- let A : Type 1 = Type 0 in A -> A, at Type 1, takes nine with its type
local : Term
local = Let (Sort 1) (Sort 0) (Pi (Var 0) (Var 1))

local_checked : check_of sample nesting [] local (Sort 1) 8 ≡ yes_with (Sort 1) 0
unfolding yes_with native.Mathlib.Decide.ℕ_discrete sample local
local_checked = refl

local_fuel : check_of sample nesting [] local (Sort 1) 7 ≡ answered (Err Fuel) 0
unfolding native.Mathlib.Decide.ℕ_discrete sample local
local_fuel = refl

mismatch : check_of sample nesting [] (Sort 0) (Sort 0) 9 ≡ no_with [] [] (Mismatch (Sort 1) (Sort 0)) 7
unfolding no_with native.Mathlib.Decide.ℕ_discrete sample
mismatch = refl

-- let A : Type 0 = Type 0 in A
value_mismatch : infer_of sample nesting [] (Let (Sort 0) (Sort 0) (Var 0)) 9
    ≡ no_with (1 ∷ []) [] (Mismatch (Sort 1) (Sort 0)) 5
unfolding no_with native.Mathlib.Decide.ℕ_discrete sample
value_mismatch = refl

sort_too_high : infer_sort_of sample nesting [] (Sort top) 9 ≡ no_with [] [] LevelTooHigh 8
unfolding no_with native.Mathlib.Decide.ℕ_discrete sample
sort_too_high = refl

function_too_high : infer_of sample nesting [] (Lam (Sort 0) (Lam (Var 0) (Sort (top - 1)))) 9
    ≡ no_with (1 ∷ []) (Sort 0 ∷ []) LevelTooHigh 4
unfolding no_with native.Mathlib.Decide.ℕ_discrete sample
function_too_high = refl

no_product : infer_of sample nesting [] (Lam (Sort 0) (App (Var 0) (Var 0))) 9
    ≡ no_with (1 ∷ []) (Sort 0 ∷ []) (NotAProduct (Sort 0)) 5
unfolding no_with native.Mathlib.Decide.ℕ_discrete sample
no_product = refl

no_sort : infer_of sample nesting [] (Pi (Sort 0) (Lam (Var 0) (Var 0))) 9
    ≡ no_with (1 ∷ []) (Sort 0 ∷ []) (NotASort (Pi (Var 0) (Var 1))) 4
unfolding no_with native.Mathlib.Decide.ℕ_discrete sample
no_sort = refl

no_instance : infer_of sample nesting [] (Elim 0 0) 9 ≡ no_with [] [] NoSuchInstance 8
unfolding no_with native.Mathlib.Decide.ℕ_discrete sample
no_instance = refl

no_k : infer_of sample nesting [] (AxiomK 0 0) 9 ≡ no_with [] [] NoSuchInstance 8
unfolding no_with native.Mathlib.Decide.ℕ_discrete sample
no_k = refl

-- a denial inside the reduced type of a function: in the domain of the product, after child 0 of the application
reducible : Term
reducible = App (Lam (Sort 0) (Pi (Sort top) (Sort 0))) (Sort 0)

no_reduct : infer_of sample nesting (reducible ∷ []) (App (Var 0) (Sort 0)) 9
    ≡ no_with (0 ∷ 0 ∷ []) (reducible ∷ []) LevelTooHigh 4
unfolding no_with native.Mathlib.Decide.ℕ_discrete sample reducible
no_reduct = refl

-- a denial after a `let`, after child 2
no_body : infer_of sample nesting [] (Let (Sort 1) (Sort 0) (Pi (Var 0) (App (Var 1) (Var 1)))) 9
    ≡ no_with (2 ∷ 1 ∷ []) (Sort 0 ∷ []) (NotAProduct (Sort 1)) 1
unfolding no_with native.Mathlib.Decide.ℕ_discrete sample
no_body = refl

-- one call fewer than a product of two sorts opens
deep : infer_of sample 2 [] (Pi (Sort 0) (Sort 0)) 9 ≡ answered (Err Deep) 8
unfolding native.Mathlib.Decide.ℕ_discrete sample
deep = refl

deep_enough : infer_of sample 3 [] (Pi (Sort 0) (Sort 0)) 9 ≡ yes_with (Sort 1) 6
unfolding yes_with native.Mathlib.Decide.ℕ_discrete sample
deep_enough = refl
