-- Families for worked rows.
use Rattle.std.proofs.Common.{[], ◌∷◌, codes}
use Rattle.theory.specs.Terms.{Term}
use Rattle.theory.specs.Terms.Term.{Var, Sort, Pi, App, Fam, Con}
use Rattle.theory.specs.Families.{Family, Plain, Recursive}

-- entry 2: Nat, with zero and suc
abbrev pub Nat : Term
Nat = Fam 2

abbrev pub nat : Family
nat = record {
  name = codes "Nat";
  parameters = [];
  indices = [];
  level = 0;
  constructors =
      record { name = codes "zero"; arguments = []; targets = [] }
      ∷ record { name = codes "suc"; arguments = Recursive [] [] 0 ∷ []; targets = [] } ∷ [];
}

-- entry 3: Vec A : Nat -> Type 0, with nil : Vec A zero and cons : (n : Nat) -> A -> Vec A n -> Vec A (suc n)
abbrev pub Vec : Term → Term → Term
Vec A n = App (App (Fam 3) A) n

abbrev pub vec : Family
vec = record {
  name = codes "Vec";
  parameters = Sort 0 ∷ [];
  indices = (Nat, 0) ∷ [];
  level = 0;
  constructors =
      record { name = codes "nil"; arguments = []; targets = Con 2 0 ∷ [] }
      ∷ record {
        name = codes "cons";
        arguments = Plain Nat 0 ∷ Plain (Var 1) 0 ∷ Recursive [] (Var 1 ∷ []) 0 ∷ [];
        targets = App (Con 2 1) (Var 2) ∷ [];
      } ∷ [];
}

-- entry 4: Ord, with lim : Nat -> (Nat -> Ord) -> Ord
abbrev pub ord : Family
ord = record {
  name = codes "Ord";
  parameters = [];
  indices = [];
  level = 0;
  constructors = record { name = codes "lim"; arguments = Plain Nat 0 ∷ Recursive (Nat ∷ []) [] 0 ∷ []; targets = [] } ∷ [];
}

-- entry 5: Acc (A : Type 0) (R : A -> A -> Type 0) : A -> Type 0,
-- with acc : (x : A) -> ((y : A) -> R y x -> Acc A R y) -> Acc A R x
abbrev pub acc : Family
acc = record {
  name = codes "Acc";
  parameters = Sort 0 ∷ Pi (Var 0) (Pi (Var 1) (Sort 0)) ∷ [];
  indices = (Var 1, 0) ∷ [];
  level = 0;
  constructors = record {
    name = codes "acc";
    arguments = Plain (Var 1) 0 ∷ Recursive (Var 2 ∷ App (App (Var 2) (Var 0)) (Var 1) ∷ []) (Var 1 ∷ []) 0 ∷ [];
    targets = Var 1 ∷ [];
  } ∷ [];
}

-- entry 6: Fin : Nat -> Type 0, with fzero : (n : Nat) -> Fin (suc n) and fsuc : (n : Nat) -> Fin n -> Fin (suc n)
abbrev pub fin : Family
fin = record {
  name = codes "Fin";
  parameters = [];
  indices = (Nat, 0) ∷ [];
  level = 0;
  constructors =
      record { name = codes "fzero"; arguments = Plain Nat 0 ∷ []; targets = App (Con 2 1) (Var 0) ∷ [] }
      ∷ record {
        name = codes "fsuc";
        arguments = Plain Nat 0 ∷ Recursive [] (Var 0 ∷ []) 0 ∷ [];
        targets = App (Con 2 1) (Var 1) ∷ [];
      } ∷ [];
}

-- entry 7: Dep (A : Type 0) : (n : Nat) -> Vec A n -> Type 0, with dnil : Dep A zero (nil A) and
-- dcons : (n : Nat) -> (a : A) -> (v : Vec A n) -> Dep A n v -> Dep A n v -> Dep A (suc n) (cons A n a v)
abbrev pub dep : Family
dep = record {
  name = codes "Dep";
  parameters = Sort 0 ∷ [];
  indices = (Nat, 0) ∷ (Vec (Var 1) (Var 0), 0) ∷ [];
  level = 0;
  constructors =
      record { name = codes "dnil"; arguments = []; targets = Con 2 0 ∷ App (Con 3 0) (Var 0) ∷ [] }
      ∷ record {
        name = codes "dcons";
        arguments =
            Plain Nat 0
            ∷ Plain (Var 1) 0
            ∷ Plain (Vec (Var 2) (Var 1)) 0
            ∷ Recursive [] (Var 2 ∷ Var 0 ∷ []) 0
            ∷ Recursive [] (Var 3 ∷ Var 1 ∷ []) 0
            ∷ [];
        targets =
            App (Con 2 1) (Var 4)
            ∷ App (App (App (App (Con 3 1) (Var 5)) (Var 4)) (Var 3)) (Var 2)
            ∷ [];
      } ∷ [];
}

-- entry 8: Rose (A : Type 0) : Nat -> Type 0, with rleaf : (n : Nat) -> Rose A n and
-- rnode : (n : Nat) -> A -> Rose A (suc n) -> Rose A (suc (suc n)) -> Rose A n
abbrev pub rose : Family
rose = record {
  name = codes "Rose";
  parameters = Sort 0 ∷ [];
  indices = (Nat, 0) ∷ [];
  level = 0;
  constructors =
      record { name = codes "rleaf"; arguments = Plain Nat 0 ∷ []; targets = Var 0 ∷ [] }
      ∷ record {
        name = codes "rnode";
        arguments =
            Plain Nat 0
            ∷ Plain (Var 1) 0
            ∷ Recursive [] (App (Con 2 1) (Var 1) ∷ []) 0
            ∷ Recursive [] (App (Con 2 1) (App (Con 2 1) (Var 2)) ∷ []) 0
            ∷ [];
        targets = Var 3 ∷ [];
      } ∷ [];
}
