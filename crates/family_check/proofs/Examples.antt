-- Small cases of entering, by computation: entries that enter, with the units that are left, and refusals.
use native.Mathlib.Decide.{ℕ_discrete}
use Rattle.std.proofs.Common.{◌≡◌, ℕ, ◌-◌, true, Ok, Err, None, Some, List, [], ◌∷◌, codes, refl}
use Rattle.theory.specs.Terms.{Term, Var, Sort, Pi, Lam, App, Fam, Con, top}
use Rattle.theory.specs.Families.{Family, Plain, Recursive}
use Rattle.theory.specs.Signatures.{Signature, Entry, FamilyOf, EliminatorAt, AxiomKAt, Definition}
use Rattle.theory.specs.Prelude.{empty_family, equality_family}
use Rattle.theory.specs.WellFormed.{pushed}
use Rattle.core_terms.specs.Verdicts.{Reason, Mismatch, NotAProduct, NoSuchInstance, LevelTooHigh}
use Rattle.core_terms.specs.declared.stop.Stop.TheVariants.{Fuel}
use Rattle.core_sig.specs.Raw.{RawFamily}
use Rattle.family_check.specs.Outcomes.{Site, OfType, OfBody, OfParameter, OfConstructor, FamilyStop, Stopped, Denied, NotPositive, TooLarge, BadFamily, Duplicate, Outcome, ended}
use Rattle.family_check.specs.Asking.{sort_in, type_in}
use Rattle.family_check.specs.Entering.{Entered, entered, declare_of, instance_of, axiom_k_of, define_of}

enters : Signature → Entry → ℕ → Outcome Entered
enters S e left = ended (Ok (entered S e)) left

refused : FamilyStop → ℕ → Outcome Entered
refused e left = ended (Err e) left

denied : Site → List ℕ → List Term → Reason → ℕ → Outcome Entered
denied site place ctx reason left = refused (Denied site (record { place = place; ctx = ctx; reason = reason })) left

-- the signature with Empty and Eq.0
start : Signature
start = record { entries = FamilyOf empty_family ∷ FamilyOf (equality_family 0) ∷ []; has_k = true }

Empty : Term
Empty = Fam 0

-- data Nat : Type 0 { zero : Nat ; suc : Nat -> Nat }
raw_nat : RawFamily
raw_nat = record {
  name = codes "Nat";
  parameters = [];
  type = Sort 0;
  constructors =
      record { name = codes "zero"; type = Fam 2 }
      ∷ record { name = codes "suc"; type = Pi (Fam 2) (Fam 2) }
      ∷ [];
}

nat : Family
nat = record {
  name = codes "Nat";
  parameters = [];
  indices = [];
  level = 0;
  constructors =
      record { name = codes "zero"; arguments = []; targets = [] }
      ∷ record { name = codes "suc"; arguments = Recursive [] [] 0 ∷ []; targets = [] }
      ∷ [];
}

-- Nat takes six units
nat_enters : declare_of start raw_nat 6 ≡ enters start (FamilyOf nat) 0
unfolding sort_in type_in enters native.Mathlib.Decide.ℕ_discrete start raw_nat nat
nat_enters = refl

nat_fuel : declare_of start raw_nat 5 ≡ refused (Stopped Fuel) 0
unfolding sort_in type_in refused native.Mathlib.Decide.ℕ_discrete start raw_nat
nat_fuel = refl

with_nat : Signature
with_nat = pushed start (FamilyOf nat)

-- data Vec (A : Type 0) : Nat -> Type 0 { nil : Vec A zero ; cons : (n : Nat) -> A -> Vec A n -> Vec A (suc n) }
Vec : Term → Term → Term
Vec a n = App (App (Fam 3) a) n

raw_vec : RawFamily
raw_vec = record {
  name = codes "Vec";
  parameters = Sort 0 ∷ [];
  type = Pi (Fam 2) (Sort 0);
  constructors =
      record { name = codes "nil"; type = Vec (Var 0) (Con 2 0) }
      ∷ record { name = codes "cons"; type = Pi (Fam 2) (Pi (Var 1) (Pi (Vec (Var 2) (Var 1)) (Vec (Var 3) (App (Con 2 1) (Var 2))))) }
      ∷ [];
}

vec : Family
vec = record {
  name = codes "Vec";
  parameters = Sort 0 ∷ [];
  indices = (Fam 2, 0) ∷ [];
  level = 0;
  constructors =
      record { name = codes "nil"; arguments = []; targets = Con 2 0 ∷ [] }
      ∷ record {
        name = codes "cons";
        arguments = Plain (Fam 2) 0 ∷ Plain (Var 1) 0 ∷ Recursive [] (Var 1 ∷ []) 0 ∷ [];
        targets = App (Con 2 1) (Var 2) ∷ [];
      }
      ∷ [];
}

-- Vec takes 48
vec_enters : declare_of with_nat raw_vec 48 ≡ enters with_nat (FamilyOf vec) 0
unfolding sort_in type_in enters native.Mathlib.Decide.ℕ_discrete start nat with_nat Vec raw_vec vec
vec_enters = refl

-- a family with one constructor, whose own number is 2
raw : List ℕ → List Term → Term → Term → RawFamily
raw name parameters type constructor = record {
  name = name;
  parameters = parameters;
  type = type;
  constructors = record { name = codes "c"; type = constructor } ∷ [];
}

-- (Bad -> Empty) -> Bad
not_positive : declare_of start (raw (codes "Bad") [] (Sort 0) (Pi (Pi (Fam 2) Empty) (Fam 2))) 9 ≡ refused (NotPositive 0 1) 3
unfolding sort_in type_in refused native.Mathlib.Decide.ℕ_discrete start raw Empty
not_positive = refl

-- (Empty -> Q) -> Q
branching : declare_of start (raw (codes "Q") [] (Sort 0) (Pi (Pi Empty (Fam 2)) (Fam 2))) 9
    ≡ enters start (FamilyOf (record {
      name = codes "Q";
      parameters = [];
      indices = [];
      level = 0;
      constructors = record { name = codes "c"; arguments = Recursive (Empty ∷ []) [] 0 ∷ []; targets = [] } ∷ [];
    })) 0
unfolding sort_in type_in enters native.Mathlib.Decide.ℕ_discrete start raw Empty
branching = refl

-- (A : Type 0): (A -> Q A) -> Q (Q A), whose result is at other parameters
wrong_result : declare_of start (raw (codes "Q") (Sort 0 ∷ []) (Sort 0) (Pi (Pi (Var 0) (App (Fam 2) (Var 1))) (App (Fam 2) (App (Fam 2) (Var 1))))) 20
    ≡ refused (NotPositive 0 0) 4
unfolding sort_in type_in refused native.Mathlib.Decide.ℕ_discrete start raw
wrong_result = refl

-- the argument offends before the result does
argument_first : declare_of start (raw (codes "Q") (Sort 0 ∷ []) (Sort 0) (Pi (Pi (App (Fam 2) (Var 0)) (Var 1)) (App (Fam 2) (App (Fam 2) (Var 1))))) 20
    ≡ refused (NotPositive 0 1) 4
unfolding sort_in type_in refused native.Mathlib.Decide.ℕ_discrete start raw
argument_first = refl

other_result : declare_of start (raw (codes "Q") [] (Sort 0) Empty) 2 ≡ refused (NotPositive 0 0) 0
unfolding sort_in type_in refused native.Mathlib.Decide.ℕ_discrete start raw Empty
other_result = refl

-- Type 0 -> Big, in Type 0
argument_too_large : declare_of start (raw (codes "Big") [] (Sort 0) (Pi (Sort 0) (Fam 2))) 9 ≡ refused (TooLarge (Some 0) 1) 4
unfolding sort_in type_in refused native.Mathlib.Decide.ℕ_discrete start raw
argument_too_large = refl

-- Type 3 -> Type 0
index_too_large : declare_of start (raw (codes "Q") [] (Pi (Sort 3) (Sort 0)) Empty) 9 ≡ refused (TooLarge None 1) 5
unfolding sort_in type_in refused native.Mathlib.Decide.ℕ_discrete start raw Empty
index_too_large = refl

no_sort : declare_of start (raw (codes "D") [] Empty Empty) 9 ≡ refused BadFamily 8
unfolding sort_in type_in refused native.Mathlib.Decide.ℕ_discrete start raw Empty
no_sort = refl

-- (A : Type 0) (x : A A)
wrong_parameter : declare_of start (raw (codes "D") (Sort 0 ∷ App (Var 0) (Var 0) ∷ []) (Sort 0) Empty) 9
    ≡ denied (OfParameter 2) [] (Sort 0 ∷ []) (NotAProduct (Sort 0)) 6
unfolding sort_in type_in denied refused native.Mathlib.Decide.ℕ_discrete start raw Empty
wrong_parameter = refl

-- (A : Type 0), over Type 0 in Type 1: (B : Type 0) -> Q A (Q A B)
wrong_constructor : declare_of start (raw (codes "Q") (Sort 0 ∷ []) (Pi (Sort 0) (Sort 1)) (Pi (Sort 0) (App (App (Fam 2) (Var 1)) (App (App (Fam 2) (Var 1)) (Var 0))))) 20
    ≡ denied (OfConstructor 0) (1 ∷ 1 ∷ []) (Sort 0 ∷ Sort 0 ∷ []) (Mismatch (Sort 1) (Sort 0)) 0
unfolding sort_in type_in denied refused native.Mathlib.Decide.ℕ_discrete start raw
wrong_constructor = refl

-- a constructor may not mention itself
own_constructor : declare_of start (raw (codes "Q") [] (Sort 0) (Con 2 0)) 9 ≡ denied (OfConstructor 0) [] [] NoSuchInstance 7
unfolding sort_in type_in denied refused native.Mathlib.Decide.ℕ_discrete start raw
own_constructor = refl

known_name : declare_of start (raw (codes "Empty") [] (Sort 0) Empty) 9 ≡ refused Duplicate 9
unfolding sort_in type_in refused native.Mathlib.Decide.ℕ_discrete start raw Empty
known_name = refl

name_twice : declare_of start (raw (codes "c") [] (Sort 0) Empty) 9 ≡ refused Duplicate 9
unfolding sort_in type_in refused native.Mathlib.Decide.ℕ_discrete start raw Empty
name_twice = refl

-- the eliminator of Empty takes eleven units, at any level,
eliminator_enters : instance_of start 0 empty_family 0 11 ≡ enters start (EliminatorAt 0 0) 0
unfolding sort_in type_in enters native.Mathlib.Decide.ℕ_discrete start
eliminator_enters = refl

-- none where it is there already,
eliminator_there : instance_of (pushed start (EliminatorAt 0 0)) 0 empty_family 0 0
    ≡ ended (Ok (record { number = 2; signature = pushed start (EliminatorAt 0 0) })) 0
unfolding sort_in type_in native.Mathlib.Decide.ℕ_discrete start
eliminator_there = refl

-- and is rejected into a sort that has no type
eliminator_too_high : instance_of start 0 empty_family top 9 ≡ denied OfType [] [] LevelTooHigh 9
unfolding sort_in type_in denied refused native.Mathlib.Decide.ℕ_discrete start
eliminator_too_high = refl

-- axiom K takes fifty units, once
axiom_k_enters : axiom_k_of start 0 1 50 ≡ enters start (AxiomKAt 0 1) 0
unfolding sort_in type_in enters native.Mathlib.Decide.ℕ_discrete start
axiom_k_enters = refl

axiom_k_there : axiom_k_of (pushed start (AxiomKAt 0 1)) 0 1 0
    ≡ ended (Ok (record { number = 2; signature = pushed start (AxiomKAt 0 1) })) 0
unfolding sort_in type_in native.Mathlib.Decide.ℕ_discrete start
axiom_k_there = refl

axiom_k_too_high : axiom_k_of start top 1 9 ≡ denied OfType [] [] LevelTooHigh 9
unfolding sort_in type_in denied refused native.Mathlib.Decide.ℕ_discrete start
axiom_k_too_high = refl

-- def id : (A : Type 0) -> A -> A = \(A : Type 0) (x : A) -> x
identity_enters : define_of start (codes "id") (Pi (Sort 0) (Pi (Var 0) (Var 1))) (Lam (Sort 0) (Lam (Var 0) (Var 0))) 16
    ≡ enters start (Definition (codes "id") (Pi (Sort 0) (Pi (Var 0) (Var 1))) (Lam (Sort 0) (Lam (Var 0) (Var 0)))) 0
unfolding sort_in type_in enters native.Mathlib.Decide.ℕ_discrete start
identity_enters = refl

-- def t : Type 0 = Type 0
wrong_body : define_of start (codes "t") (Sort 0) (Sort 0) 3 ≡ denied OfBody [] [] (Mismatch (Sort 1) (Sort 0)) 0
unfolding sort_in type_in denied refused native.Mathlib.Decide.ℕ_discrete start
wrong_body = refl

-- the type is the sort that has none
wrong_type : define_of start (codes "t") (Sort top) (Sort (top - 1)) 1 ≡ denied OfType [] [] LevelTooHigh 0
unfolding sort_in type_in denied refused native.Mathlib.Decide.ℕ_discrete start
wrong_type = refl

name_taken : define_of start (codes "refl.0") (Sort 1) (Sort 0) 9 ≡ refused Duplicate 9
unfolding sort_in type_in refused native.Mathlib.Decide.ℕ_discrete start
name_taken = refl
