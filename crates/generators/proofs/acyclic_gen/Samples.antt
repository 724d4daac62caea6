-- Families for worked rows.
use Rattle.std.proofs.Common.{[], ◌∷◌, codes}
use Rattle.theory.specs.Terms.Term.{Var, Sort, App, Fam}
use Rattle.theory.specs.Families.{Family, Plain, Recursive}

-- entry 46: Nat, with zero and suc : Nat -> Nat
abbrev pub nat : Family
nat = record {
  name = codes "Nat";
  parameters = [];
  indices = [];
  level = 0;
  constructors =
      record { name = codes "zero"; arguments = []; targets = [] }
      ∷ record { name = codes "suc"; arguments = Recursive [] [] 0 ∷ []; targets = [] } ∷ [];
}

-- entry 46: List A, with nil and cons : A -> List A -> List A
abbrev pub list : Family
list = record {
  name = codes "List";
  parameters = Sort 0 ∷ [];
  indices = [];
  level = 0;
  constructors =
      record { name = codes "nil"; arguments = []; targets = [] }
      ∷ record { name = codes "cons"; arguments = Plain (Var 0) 0 ∷ Recursive [] [] 0 ∷ []; targets = [] } ∷ [];
}

-- entry 47, after Nat: Ord, with oz, os : Ord -> Ord and lim : (Nat -> Ord) -> Ord
abbrev pub ord : Family
ord = record {
  name = codes "Ord";
  parameters = [];
  indices = [];
  level = 0;
  constructors =
      record { name = codes "oz"; arguments = []; targets = [] }
      ∷ record { name = codes "os"; arguments = Recursive [] [] 0 ∷ []; targets = [] }
      ∷ record { name = codes "lim"; arguments = Recursive (Fam 46 ∷ []) [] 0 ∷ []; targets = [] } ∷ [];
}

-- entry 46: Two A, with base, left : A -> Two A -> Two A, funs : (A -> Two A) -> Two A and
-- both : Two A -> (A -> Two A) -> Two A -> Two A
abbrev pub two : Family
two = record {
  name = codes "Two";
  parameters = Sort 0 ∷ [];
  indices = [];
  level = 0;
  constructors =
      record { name = codes "base"; arguments = []; targets = [] }
      ∷ record { name = codes "left"; arguments = Plain (Var 0) 0 ∷ Recursive [] [] 0 ∷ []; targets = [] }
      ∷ record { name = codes "funs"; arguments = Recursive (Var 0 ∷ []) [] 0 ∷ []; targets = [] }
      ∷ record {
        name = codes "both";
        arguments = Recursive [] [] 0 ∷ Recursive (Var 1 ∷ []) [] 0 ∷ Recursive [] [] 0 ∷ [];
        targets = [];
      } ∷ [];
}

-- entry 48, after Nat and Fin : Nat -> Type 0: Bin, with tip and bin : (n : Nat) -> Bin -> Fin n -> Bin -> Bin
abbrev pub bin : Family
bin = record {
  name = codes "Bin";
  parameters = [];
  indices = [];
  level = 0;
  constructors =
      record { name = codes "tip"; arguments = []; targets = [] }
      ∷ record {
        name = codes "bin";
        arguments = Plain (Fam 46) 0 ∷ Recursive [] [] 0 ∷ Plain (App (Fam 47) (Var 1)) 0 ∷ Recursive [] [] 0 ∷ [];
        targets = [];
      } ∷ [];
}

-- entry 46: Fin : Nat -> Type 0, without constructors
abbrev pub fin : Family
fin = record { name = codes "Fin"; parameters = []; indices = (Fam 47, 0) ∷ []; level = 0; constructors = [] }
