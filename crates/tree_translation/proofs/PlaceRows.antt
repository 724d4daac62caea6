-- Terms for the variables of a walk at a leaf, for a call whose argument is no strict part, and names of helpers.
use native.Mathlib.Decide.{ℕ_discrete}
use Rattle.std.proofs.Common.{◌≡◌, false, Some, [], ◌∷◌, refl, codes}
use Rattle.theory.specs.Terms.Term.{Var, Sort, Lam, App, Con, Fam, Const}
use Rattle.theory.proofs.AfterPrelude.{after}
use Rattle.core_terms.specs.CaseTrees.{Walk}
use Rattle.case_below_gen.specs.Paths.{path_of}
use Rattle.tree_translation.specs.Mappings.{mapping, in_old_order}
use Rattle.tree_translation.specs.Naming.{helper_name}
use Rattle.tree_translation.specs.Plans.{Plan}
use Rattle.tree_translation.specs.Recursion.{Recursion, motive_with}
use Rattle.tree_translation.specs.RightSides.{BelowValue, Place, descent_at, with_calls}
use Rattle.tree_translation.proofs.Samples.{sample, nat_family, Nat, suc_term, own, plan_of}

-- a walk in a context of three numbers, of which the last one occurs nowhere
abbrev walk : Walk
walk = record {
  ctx = Nat ∷ Nat ∷ Nat ∷ [];
  goal = Nat;
  subst = suc_term (Var 2) ∷ App (Con (after 5) 0) (Var 1) ∷ [];
  terms = suc_term (Var 2) ∷ Var 1 ∷ [];
  binds = [];
  dots = [];
}

-- The first variable occurs under a constructor that both have, the second one as a parameter of another, and the third one nowhere.
places : mapping walk (suc_term (suc_term (Var 0)) ∷ App (Con (after 5) 0) (Fam (after 2)) ∷ []) (suc_term (Var 5) ∷ Var 7 ∷ [])
    ≡ suc_term (Var 0) ∷ Fam (after 2) ∷ Sort 0 ∷ []
unfolding native.Mathlib.Decide.ℕ_discrete
places = refl

-- where the leaf has no constructor, or another one, a later place gives the term
later_places : mapping walk (Var 3 ∷ Con (after 0) 0 ∷ []) (suc_term (Var 5) ∷ Var 7 ∷ []) ≡ Var 5 ∷ Var 7 ∷ Sort 0 ∷ []
unfolding native.Mathlib.Decide.ℕ_discrete
later_places = refl

-- a substitution for the positions 2, 0 and 1, as they are in the new order
old_order : in_old_order (2 ∷ 0 ∷ 1 ∷ []) (Var 10 ∷ Var 11 ∷ Var 12 ∷ []) ≡ Var 11 ∷ Var 12 ∷ Var 10 ∷ []
old_order = refl

tenth_helper : helper_name (codes "f") 10 ≡ codes "f!w10"
tenth_helper = refl

last_number : helper_name (codes "f") 4294967295 ≡ codes "f!w4294967295"
last_number = refl

-- ---- calls

abbrev plan : Plan
plan = plan_of (sample false) (after 6) (codes "f") 0 (Nat ∷ Nat ∷ []) Nat (Some 0) [] []

abbrev recursion : Recursion
recursion = record { position = 0; admission = record { number = after 0; fixed = []; indices = [] }; family = nat_family }

-- at a leaf with the terms suc n and m, in the context n m b
abbrev leaf : Place
leaf = record { terms = suc_term (Var 2) ∷ Var 1 ∷ []; belows = record { recursion = recursion; motive = Const (after 14); value = Var 0 } ∷ [] }

-- m is no strict part of suc n: the below value itself is applied to the other argument, also below a binder, where it has another number
below_itself : with_calls (λ name. after 14) plan leaf 0 [] (Lam Nat (suc_term (App (App own (Var 2)) (Var 0))))
    ≡ Lam Nat (suc_term (App (Var 1) (Var 0)))
unfolding native.Mathlib.Decide.ℕ_discrete
below_itself = refl

-- a helper's call has the below value after its arguments
helper_with_below : with_calls (λ name. after 14) plan leaf 0 [] (App (App (Const (after 7)) (Var 2)) (Var 1))
    ≡ App (App (App (Const (after 14)) (Var 2)) (Var 1)) (Var 0)
unfolding native.Mathlib.Decide.ℕ_discrete
helper_with_below = refl

-- ---- two below values

-- recursion at the second position, which has the first one among its fixed positions
abbrev inner : Recursion
inner = record { position = 1; admission = record { number = after 0; fixed = 0 ∷ []; indices = [] }; family = nat_family }

abbrev outer_value : BelowValue
outer_value = record { recursion = recursion; motive = Const (after 14); value = Var 2 }

abbrev inner_value : BelowValue
inner_value = record { recursion = inner; motive = App (App (Const (after 15)) (suc_term (Var 3))) (Var 2); value = Var 0 }

-- at a leaf with the terms suc n and suc m, in the context n b m b2
abbrev pair_leaf : Place
pair_leaf = record { terms = suc_term (Var 3) ∷ suc_term (Var 1) ∷ []; belows = outer_value ∷ inner_value ∷ [] }

-- n is a strict part of suc n: the path in the first below value, applied to the other argument, also where that is a strict part too
path_in_first : with_calls (λ name. after 16) plan pair_leaf 0 [] (App (App own (Var 3)) (Var 1))
    ≡ App (path_of (descent_at (λ name. after 16) plan outer_value (Var 3)) (suc_term (Var 3)) (Var 2)) (Var 1)
unfolding native.Mathlib.Decide.ℕ_discrete
path_in_first = refl

-- suc n is none, and m is one of suc m: the path in the second below value
path_in_second : with_calls (λ name. after 16) plan pair_leaf 0 [] (App (App own (suc_term (Var 3))) (Var 1))
    ≡ path_of (descent_at (λ name. after 16) plan inner_value (Var 1)) (suc_term (Var 1)) (Var 0)
unfolding native.Mathlib.Decide.ℕ_discrete
path_in_second = refl

-- neither is one: the first below value itself
neither : with_calls (λ name. after 16) plan pair_leaf 0 [] (App (App own (suc_term (Var 3))) (suc_term (Var 1)))
    ≡ App (Var 2) (suc_term (Var 1))
unfolding native.Mathlib.Decide.ℕ_discrete
neither = refl

-- the second motive has the first below value after its first fixed term
second_motive : motive_with (λ name. after 15) (record { recursion = inner; motive = codes "f!motive2"; places = 1 ∷ [] }) (Var 5 ∷ Var 4 ∷ []) (Var 3 ∷ [])
    ≡ App (App (Const (after 15)) (Var 5)) (Var 3)
second_motive = refl
