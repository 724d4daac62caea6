-- Small cases by computation. The units of the comparisons under "against another implementation" were found there.
use native.Mathlib.Decide.{ℕ_discrete}
use Rattle.std.proofs.Common.{◌≡◌, ℕ, zero, suc, Bool, true, false, None, Ok, Err, [], ◌∷◌, ◌++◌, refl}
use Rattle.theory.specs.Terms.{Term, Var, Sort, Pi, Lam, App, Let, Const, Fam, Con, Elim, AxiomK}
use Rattle.theory.specs.Telescopes.{applied}
use Rattle.theory.specs.Families.{Family, Plain, Recursive}
use Rattle.theory.specs.Prelude.{prelude}
use Rattle.theory.specs.Signatures.{Signature, FamilyOf, Definition}
use Rattle.theory.proofs.AfterPrelude.{after}
use Rattle.core_terms.specs.declared.stop.Stop.TheVariants.{Fuel, Deep}
use Rattle.kernel_reduce.specs.Reduction.{answered, nesting, head_step_of, whnf_of, normal_of}
use Rattle.kernel_reduce.specs.Comparison.{convertible_of, subtype_of}

natural_family : Family
natural_family = record {
  name = [];
  parameters = [];
  indices = [];
  level = 0;
  constructors =
      record { name = []; arguments = []; targets = [] }
      ∷ record { name = []; arguments = Recursive [] [] 0 ∷ []; targets = [] }
      ∷ [];
}

-- Vec (A : Type 0) : Nat -> Type 0
vector_family : Family
vector_family = record {
  name = [];
  parameters = Sort 0 ∷ [];
  indices = (Fam (after 0), 0) ∷ [];
  level = 0;
  constructors =
      record { name = []; arguments = []; targets = Con (after 0) 0 ∷ [] }
      ∷ record {
        name = [];
        arguments = Plain (Fam (after 0)) 0 ∷ Plain (Var 1) 0 ∷ Recursive [] (Var 1 ∷ []) 0 ∷ [];
        targets = App (Con (after 0) 1) (Var 2) ∷ [];
      }
      ∷ [];
}

-- Tree, with node : (Nat -> Tree) -> Tree
tree_family : Family
tree_family = record {
  name = [];
  parameters = [];
  indices = [];
  level = 0;
  constructors =
      record { name = []; arguments = []; targets = [] }
      ∷ record { name = []; arguments = Recursive (Fam (after 0) ∷ []) [] 0 ∷ []; targets = [] }
      ∷ [];
}

-- after the prelude Nat, Vec and Tree, then a constant for Type 0 -> Type 0, and a provisional constant
sample : Bool → Signature
unfolding natural_family vector_family tree_family
sample k = record {
  entries =
      (prelude k).entries
      ++ FamilyOf natural_family
      ∷ FamilyOf vector_family
      ∷ FamilyOf tree_family
      ∷ Definition [] (Sort 1) (Pi (Sort 0) (Sort 0))
      ∷ Definition [] (Sort 1) (Const (after 4))
      ∷ [];
  has_k = k;
}

number : ℕ → Term
number zero = Con (after 0) 0
number (suc n) = App (Con (after 0) 1) (number n)

-- plus n m by recursion on n
plus : Term → Term → Term
plus n m =
    applied (Elim (after 0) 0) (Lam (Fam (after 0)) (Fam (after 0)) ∷ m ∷ Lam (Fam (after 0)) (Lam (Fam (after 0)) (App (Con (after 0) 1) (Var 0))) ∷ n ∷ [])

-- the number of the elements of v : Vec Nat n
length_of : Term → Term → Term
length_of n v =
    applied (Elim (after 1) 0)
    (Fam (after 0)
    ∷ Lam (Fam (after 0)) (Lam (applied (Fam (after 1)) (Fam (after 0) ∷ Var 0 ∷ [])) (Fam (after 0)))
    ∷ Con (after 0) 0
    ∷ Lam (Fam (after 0)) (Lam (Fam (after 0)) (Lam (applied (Fam (after 1)) (Fam (after 0) ∷ Var 1 ∷ [])) (Lam (Fam (after 0)) (App (Con (after 0) 1) (Var 0)))))
    ∷ n
    ∷ v
    ∷ [])

-- a vector of two zeros
zeros : Term
unfolding number
zeros =
    applied (Con (after 1) 1)
    (Fam (after 0) ∷ number 1 ∷ number 0 ∷ applied (Con (after 1) 1) (Fam (after 0) ∷ number 0 ∷ number 0 ∷ App (Con (after 1) 0) (Fam (after 0)) ∷ []) ∷ [])

-- the length of the path at the branches numbered zero
depth : Term → Term
depth t =
    applied (Elim (after 2) 0)
    (Lam (Fam (after 2)) (Fam (after 0))
    ∷ Con (after 0) 0
    ∷ Lam (Pi (Fam (after 0)) (Fam (after 2))) (Lam (Pi (Fam (after 0)) (Fam (after 0))) (App (Con (after 0) 1) (App (Var 0) (Con (after 0) 0))))
    ∷ t
    ∷ [])

branching : Term
branching = App (Con (after 2) 1) (Lam (Fam (after 0)) (App (Con (after 2) 1) (Lam (Fam (after 0)) (Con (after 2) 0))))

-- Eq.0 Nat a b
equal : Term → Term → Term
equal a b = applied (Fam 1) (Fam (after 0) ∷ a ∷ b ∷ [])

reflexivity_at : Term → Term
reflexivity_at a = applied (Con 1 0) (Fam (after 0) ∷ a ∷ [])

by_equality : Term
unfolding number equal reflexivity_at
by_equality =
    applied (Elim 1 0)
    (Fam (after 0)
    ∷ number 0
    ∷ Lam (Fam (after 0)) (Lam (equal (number 0) (Var 0)) (Fam (after 0)))
    ∷ number 1
    ∷ number 0
    ∷ reflexivity_at (number 0)
    ∷ [])

by_k : Term
unfolding number equal reflexivity_at
by_k =
    applied (AxiomK 0 0)
    (Fam (after 0) ∷ number 0 ∷ Lam (equal (number 0) (number 0)) (Fam (after 0)) ∷ number 1 ∷ reflexivity_at (number 0) ∷ [])

-- Against another implementation: `Eq.0 Nat b b` and `Eq.0 Nat a b`.

sum_of_numbers : convertible_of (sample false) nesting (equal (number 4) (number 4)) (equal (plus (number 2) (number 2)) (number 4)) 1000
    ≡ answered (Ok true) 982
unfolding native.Mathlib.Decide.ℕ_discrete sample equal number plus
sum_of_numbers = refl

length_of_vector : convertible_of (sample false) nesting (equal (number 2) (number 2)) (equal (length_of (number 2) zeros) (number 2)) 1000
    ≡ answered (Ok true) 980
unfolding native.Mathlib.Decide.ℕ_discrete sample equal number length_of zeros
length_of_vector = refl

depth_of_tree : convertible_of (sample false) nesting (equal (number 2) (number 2)) (equal (depth branching) (number 2)) 1000
    ≡ answered (Ok true) 980
unfolding native.Mathlib.Decide.ℕ_discrete sample equal number depth branching
depth_of_tree = refl

equality_at_reflexivity : convertible_of (sample false) nesting (equal (number 1) (number 1)) (equal by_equality (number 1)) 1000
    ≡ answered (Ok true) 992
unfolding native.Mathlib.Decide.ℕ_discrete sample equal number by_equality
equality_at_reflexivity = refl

k_at_reflexivity : convertible_of (sample true) nesting (equal (number 1) (number 1)) (equal by_k (number 1)) 1000
    ≡ answered (Ok true) 992
unfolding native.Mathlib.Decide.ℕ_discrete sample equal number by_k
k_at_reflexivity = refl

-- Where K is off it takes no step.

k_rests : whnf_of (sample false) true 10 by_k ≡ answered (Ok by_k) 10
unfolding sample number by_k
k_rests = refl

-- It takes none either where another family occurs in the place of Eq.0.

k_elsewhere : whnf_of (record { entries = FamilyOf natural_family ∷ FamilyOf natural_family ∷ []; has_k = true }) true 10 by_k ≡ answered (Ok by_k) 10
unfolding natural_family number by_k
k_elsewhere = refl

-- Zeta, with delta and without; the body of a constant; no step of a provisional one.

zeta : convertible_of (sample false) nesting (Let (Sort 1) (Sort 0) (Pi (Var 0) (Var 1))) (Pi (Sort 0) (Sort 0)) 10 ≡ answered (Ok true) 6
unfolding native.Mathlib.Decide.ℕ_discrete sample
zeta = refl

zeta_without_delta : whnf_of (sample false) false 10 (Let (Sort 1) (Const (after 3)) (Var 0)) ≡ answered (Ok (Const (after 3))) 9
unfolding sample
zeta_without_delta = refl

zeta_with_delta : whnf_of (sample false) true 10 (Let (Sort 1) (Const (after 3)) (Var 0)) ≡ answered (Ok (Pi (Sort 0) (Sort 0))) 8
unfolding sample
zeta_with_delta = refl

provisional_rests : head_step_of (sample false) true (Const (after 4)) 10 ≡ answered (Ok None) 10
unfolding sample
provisional_rests = refl

provisional_differs : convertible_of (sample false) nesting (App (Lam (Sort 1) (Var 0)) (Const (after 4))) (Const (after 4)) 10 ≡ answered (Ok false) 8
unfolding native.Mathlib.Decide.ℕ_discrete sample
provisional_differs = refl

-- Fuel where the last unit is missing, also for the first comparison.

fuel_at_last : normal_of (sample false) true nesting (plus (number 2) (number 2)) 6 ≡ answered (Err Fuel) 0
unfolding sample number plus
fuel_at_last = refl

fuel_enough : normal_of (sample false) true nesting (plus (number 2) (number 2)) 7 ≡ answered (Ok (number 4)) 0
unfolding sample number plus
fuel_enough = refl

fuel_before_same : convertible_of (sample false) nesting (Sort 0) (Sort 0) 0 ≡ answered (Err Fuel) 0
fuel_before_same = refl

-- Deep where a call too many would be open, before it needs a unit.

deep_third : convertible_of (sample false) 2 (Pi (Sort 0) (Pi (Sort 0) (Sort 0))) (Pi (Sort 0) (Pi (Sort 0) (Sort 1))) 3 ≡ answered (Err Deep) 0
unfolding native.Mathlib.Decide.ℕ_discrete sample
deep_third = refl

-- Cumulativity in the codomain alone.

sorts_in_order : subtype_of (sample false) nesting (Pi (Sort 0) (Sort 0)) (Pi (Sort 0) (Sort 1)) 10 ≡ answered (Ok true) 7
unfolding native.Mathlib.Decide.ℕ_discrete sample
sorts_in_order = refl

domains_not_in_order : subtype_of (sample false) nesting (Pi (Sort 1) (Sort 0)) (Pi (Sort 0) (Sort 0)) 10 ≡ answered (Ok false) 8
unfolding native.Mathlib.Decide.ℕ_discrete sample
domains_not_in_order = refl

-- Deep where a given term is higher than 2,000, before a unit is needed.

tower : ℕ → Term
tower zero = Sort 0
tower (suc n) = Pi (Sort 0) (tower n)

low_tower : whnf_of (sample false) true 0 (tower 1999) ≡ answered (Ok (tower 1999)) 0
unfolding sample tower
low_tower = refl

high_tower : convertible_of (sample false) nesting (tower 2000) (Sort 0) 0 ≡ answered (Err Deep) 0
unfolding tower
high_tower = refl
