-- Families and terms of the examples: natural numbers, vectors, trees that branch over the numbers.
use Rattle.std.specs.Prelude.{ℕ, true, [], ◌∷◌, codes}
use Rattle.theory.specs.Terms.{Term, Var, Sort, App, Fam, Con}
use Rattle.theory.specs.Families.{Constructor, Family, Plain, Recursive}
use Rattle.theory.specs.Signatures.{Signature, FamilyOf, EliminatorAt, AxiomKAt, Definition}
use Rattle.theory.specs.WellFormed.{provisional}
use Rattle.theory.specs.Prelude.{empty_family, equality_family}

-- the entry numbers: Empty and Eq.0 are where the prelude has them
abbrev pub nat : ℕ
nat = 2

abbrev pub vec : ℕ
vec = 3

abbrev pub tree : ℕ
tree = 4

abbrev pub Nat : Term
Nat = Fam nat

abbrev pub zero_term : Term
zero_term = Con nat 0

abbrev pub suc_of : Term → Term
suc_of n = App (Con nat 1) n

abbrev pub Vec : Term → Term → Term
Vec A n = App (App (Fam vec) A) n

abbrev pub nil_of : Term → Term
nil_of A = App (Con vec 0) A

abbrev pub cons_of : Term → Term → Term → Term → Term
cons_of A n a v = App (App (App (App (Con vec 1) A) n) a) v

abbrev pub zero_constructor : Constructor
zero_constructor = record { name = codes "zero"; arguments = []; targets = [] }

abbrev pub suc_constructor : Constructor
suc_constructor = record { name = codes "suc"; arguments = Recursive [] [] 0 ∷ []; targets = [] }

-- Nat : Type 0 with zero : Nat and suc : Nat -> Nat
abbrev pub nat_family : Family
nat_family = record { name = codes "Nat"; parameters = []; indices = []; level = 0; constructors = zero_constructor ∷ suc_constructor ∷ [] }

abbrev pub nil : Constructor
nil = record { name = codes "nil"; arguments = []; targets = zero_term ∷ [] }

abbrev pub cons : Constructor
cons = record { name = codes "cons"; arguments = Plain Nat 0 ∷ Plain (Var 1) 0 ∷ Recursive [] (Var 1 ∷ []) 0 ∷ []; targets = suc_of (Var 2) ∷ [] }

-- Vec (A : Type 0) : Nat -> Type 0 with nil : Vec A zero and cons : (n : Nat) -> A -> Vec A n -> Vec A (suc n)
abbrev pub vec_family : Family
vec_family = record { name = codes "Vec"; parameters = Sort 0 ∷ []; indices = (Nat, 0) ∷ []; level = 0; constructors = nil ∷ cons ∷ [] }

abbrev pub node : Constructor
node = record { name = codes "node"; arguments = Recursive (Nat ∷ []) [] 0 ∷ []; targets = [] }

-- Tree : Type 0 with node : (Nat -> Tree) -> Tree
abbrev pub tree_family : Family
tree_family = record { name = codes "Tree"; parameters = []; indices = []; level = 0; constructors = node ∷ [] }

-- two : Nat = suc (suc zero)
abbrev pub two : Term
two = suc_of (suc_of zero_term)

-- a signature with K
abbrev pub defined : Signature
defined = record {
  entries =
      FamilyOf empty_family ∷ FamilyOf (equality_family 0) ∷ FamilyOf nat_family ∷ FamilyOf vec_family ∷ FamilyOf tree_family
      ∷ EliminatorAt nat 0 ∷ EliminatorAt vec 0 ∷ AxiomKAt 0 1 ∷ Definition (codes "two") Nat two ∷ [];
  has_k = true;
}

-- with a provisional entry number 9 at its end
abbrev pub sample : Signature
sample = provisional defined (codes "open") Nat
