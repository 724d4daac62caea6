-- Types of eliminators with variables by level, as a reader would write them.
use Rattle.std.proofs.Common.{◌≡◌, ℕ, List, [], ◌∷◌, refl}
use Rattle.theory.specs.Terms.{Term}
use Rattle.theory.specs.Terms.Term.{Var, Sort, Pi, App, Fam, Con}
use Rattle.core_sig.specs.ByLevels.{eliminator_type}
use Rattle.core_sig.specs.Shapes.{ArgumentShape, ConstructorShape, Shape}
use Rattle.core_sig.specs.declared.family.ArgKind.TheVariants.{Plain, Recursive}

abbrev plain : Term → ArgumentShape
plain t = record { type = t; level = 0; kind = Plain }

abbrev recursive : Term → ℕ → ArgumentShape
recursive t inner = record { type = t; level = 0; kind = Recursive inner }

abbrev constructor : List ArgumentShape → List Term → ConstructorShape
constructor arguments targets = record { arguments = arguments; targets = targets }

-- entry 2: Nat, with zero and suc
abbrev Nat : Term
Nat = Fam 2

abbrev nat : Shape
nat = record {
  parameters = [];
  indices = [];
  level = 0;
  constructors = constructor [] [] ∷ constructor (recursive Nat 0 ∷ []) [] ∷ [];
}

-- (P : Nat -> Type m) -> P zero -> ((n : Nat) -> P n -> P (suc n)) -> (n : Nat) -> P n
nat_eliminator : (m : ℕ) → eliminator_type 2 nat m
    ≡ Pi (Pi Nat (Sort m))
    (Pi (App (Var 0) (Con 2 0))
    (Pi (Pi Nat (Pi (App (Var 2) (Var 0)) (App (Var 3) (App (Con 2 1) (Var 1)))))
    (Pi Nat
    (App (Var 3) (Var 0)))))
nat_eliminator m = refl

-- entry 3: Vec A : Nat -> Type 0, with nil : Vec A zero and cons : (n : Nat) -> A -> Vec A n -> Vec A (suc n)
abbrev Vec : Term → Term → Term
Vec A n = App (App (Fam 3) A) n

abbrev vec : Shape
vec = record {
  parameters = Sort 0 ∷ [];
  indices = plain Nat ∷ [];
  level = 0;
  constructors =
      constructor [] (Con 2 0 ∷ [])
      ∷ constructor (plain Nat ∷ plain (Var 1) ∷ recursive (Vec (Var 2) (Var 1)) 0 ∷ []) (App (Con 2 1) (Var 2) ∷ []) ∷ [];
}

-- (A : Type 0) -> (P : (n : Nat) -> Vec A n -> Type m) -> P zero (nil A)
--     -> ((n : Nat) -> (a : A) -> (v : Vec A n) -> P n v -> P (suc n) (cons A n a v)) -> (n : Nat) -> (v : Vec A n) -> P n v
vec_eliminator : (m : ℕ) → eliminator_type 3 vec m
    ≡ Pi (Sort 0)
    (Pi (Pi Nat (Pi (Vec (Var 1) (Var 0)) (Sort m)))
    (Pi (App (App (Var 0) (Con 2 0)) (App (Con 3 0) (Var 1)))
    (Pi (Pi Nat (Pi (Var 3) (Pi (Vec (Var 4) (Var 1)) (Pi (App (App (Var 4) (Var 2)) (Var 0))
    (App (App (Var 5) (App (Con 2 1) (Var 3))) (App (App (App (App (Con 3 1) (Var 6)) (Var 3)) (Var 2)) (Var 1)))))))
    (Pi Nat (Pi (Vec (Var 4) (Var 0))
    (App (App (Var 4) (Var 1)) (Var 0)))))))
vec_eliminator m = refl

-- entry 4: Tree, with node : (Nat -> Tree) -> Tree
abbrev tree : Shape
tree = record {
  parameters = [];
  indices = [];
  level = 0;
  constructors = constructor (recursive (Pi Nat (Fam 4)) 1 ∷ []) [] ∷ [];
}

-- (P : Tree -> Type m) -> ((f : Nat -> Tree) -> ((n : Nat) -> P (f n)) -> P (node f)) -> (t : Tree) -> P t
tree_eliminator : (m : ℕ) → eliminator_type 4 tree m
    ≡ Pi (Pi (Fam 4) (Sort m))
    (Pi (Pi (Pi Nat (Fam 4)) (Pi (Pi Nat (App (Var 2) (App (Var 1) (Var 0)))) (App (Var 2) (App (Con 4 0) (Var 1)))))
    (Pi (Fam 4)
    (App (Var 2) (Var 0))))
tree_eliminator m = refl
