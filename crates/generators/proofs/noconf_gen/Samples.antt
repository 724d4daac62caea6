-- Families for worked rows.
use Rattle.std.proofs.Common.{ℕ, [], ◌∷◌, codes}
use Rattle.theory.specs.Terms.{Term}
use Rattle.theory.specs.Terms.Term.{Var, Sort, App, Fam, Con, Elim}
use Rattle.theory.specs.Families.{Family, Plain, Recursive}
use Rattle.theory.specs.Signatures.{equality}

-- Eq.i!elim.m A a P d b e
abbrev pub J : (i m : ℕ) (A a P d b e : Term) → Term
J i m A a P d b e = App (App (App (App (App (App (Elim (equality i) m) A) a) P) d) b) e

-- entry 2: Nat, with zero and suc
abbrev pub Nat : Term
Nat = Fam 2

abbrev pub zero : Term
zero = Con 2 0

abbrev pub suc : Term → Term
suc n = App (Con 2 1) n

abbrev pub nat : Family
nat = record {
  name = codes "Nat";
  parameters = [];
  indices = [];
  level = 0;
  constructors =
      record { name = codes "zero"; arguments = []; targets = [] }
      ∷ record { name = codes "suc"; arguments = Recursive [] [] 0 ∷ []; targets = [] } ∷ [];
}

-- entry 3: Vec A : Nat -> Type 0, with nil : Vec A zero and cons : (n : Nat) -> A -> Vec A n -> Vec A (suc n)
abbrev pub Vec : Term → Term → Term
Vec A n = App (App (Fam 3) A) n

abbrev pub nil : Term → Term
nil A = App (Con 3 0) A

abbrev pub cons : (A n a v : Term) → Term
cons A n a v = App (App (App (App (Con 3 1) A) n) a) v

abbrev pub vec : Family
vec = record {
  name = codes "Vec";
  parameters = Sort 0 ∷ [];
  indices = (Nat, 0) ∷ [];
  level = 0;
  constructors =
      record { name = codes "nil"; arguments = []; targets = zero ∷ [] }
      ∷ record {
        name = codes "cons";
        arguments = Plain Nat 0 ∷ Plain (Var 1) 0 ∷ Recursive [] (Var 1 ∷ []) 0 ∷ [];
        targets = suc (Var 2) ∷ [];
      } ∷ [];
}

-- entry 6: Fin : Nat -> Type 0, with fz : (n : Nat) -> Fin (suc n) and fs : (n : Nat) -> Fin n -> Fin (suc n)
abbrev pub Fin : Term → Term
Fin n = App (Fam 6) n

abbrev pub fz : Term → Term
fz n = App (Con 6 0) n

abbrev pub fs : (n i : Term) → Term
fs n i = App (App (Con 6 1) n) i

abbrev pub fin : Family
fin = record {
  name = codes "Fin";
  parameters = [];
  indices = (Nat, 0) ∷ [];
  level = 0;
  constructors =
      record { name = codes "fz"; arguments = Plain Nat 0 ∷ []; targets = suc (Var 0) ∷ [] }
      ∷ record {
        name = codes "fs";
        arguments = Plain Nat 0 ∷ Recursive [] (Var 0 ∷ []) 0 ∷ [];
        targets = suc (Var 1) ∷ [];
      } ∷ [];
}

-- entry 7: Two : (n : Nat) -> Fin n -> Type 0, with two : (n : Nat) -> (i : Fin n) -> Two n i
abbrev pub Two : (n i : Term) → Term
Two n i = App (App (Fam 7) n) i

abbrev pub two : (n i : Term) → Term
two n i = App (App (Con 7 0) n) i

abbrev pub two_family : Family
two_family = record {
  name = codes "Two";
  parameters = [];
  indices = (Nat, 0) ∷ (Fin (Var 0), 0) ∷ [];
  level = 0;
  constructors = record {
    name = codes "two";
    arguments = Plain Nat 0 ∷ Plain (Fin (Var 0)) 0 ∷ [];
    targets = Var 1 ∷ Var 0 ∷ [];
  } ∷ [];
}
