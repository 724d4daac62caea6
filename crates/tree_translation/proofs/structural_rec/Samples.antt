-- Families and functions that the worked cases are about.
use Rattle.std.proofs.Common.{false, List, [], ◌∷◌, map}
use Rattle.theory.specs.Terms.Term.{Var, Sort, Pi, App, Const, Fam, Con}
use Rattle.theory.specs.Terms.{Term}
use Rattle.theory.specs.Telescopes.{applied}
use Rattle.theory.specs.Families.{Argument, Constructor, Family}
use Rattle.theory.specs.Families.Argument.{Plain, Recursive}
use Rattle.theory.specs.Signatures.{Signature, FamilyOf}

abbrev pub constructor : List Argument → List Term → Constructor
constructor arguments targets = record { name = []; arguments = arguments; targets = targets }

abbrev pub nat : Family
nat = record { name = []; parameters = []; indices = []; level = 0; constructors = constructor [] [] ∷ constructor (Recursive [] [] 0 ∷ []) [] ∷ [] }

abbrev pub zero : Term
zero = Con 0 0

abbrev pub suc : Term → Term
suc n = App (Con 0 1) n

abbrev pub vec : Family
vec = record {
  name = [];
  parameters = Sort 0 ∷ [];
  indices = (Fam 0, 0) ∷ [];
  level = 0;
  constructors =
      constructor [] (zero ∷ [])
      ∷ constructor (Plain (Fam 0) 0 ∷ Plain (Var 1) 0 ∷ Recursive [] (Var 1 ∷ []) 0 ∷ []) (suc (Var 2) ∷ [])
      ∷ [];
}

-- zero, successors and limits of sequences
abbrev pub ord : Family
ord = record {
  name = [];
  parameters = [];
  indices = [];
  level = 0;
  constructors = constructor [] [] ∷ constructor (Recursive [] [] 0 ∷ []) [] ∷ constructor (Recursive (Fam 0 ∷ []) [] 0 ∷ []) [] ∷ [];
}

abbrev pub list : Family
list = record {
  name = [];
  parameters = Sort 0 ∷ [];
  indices = [];
  level = 0;
  constructors = constructor [] [] ∷ constructor (Plain (Var 0) 0 ∷ Recursive [] [] 0 ∷ []) [] ∷ [];
}

-- two numbers that are equal
abbrev pub two : Family
two = record {
  name = [];
  parameters = [];
  indices = (Fam 0, 0) ∷ (Fam 0, 0) ∷ [];
  level = 0;
  constructors = constructor (Plain (Fam 0) 0 ∷ Recursive [] (Var 0 ∷ Var 0 ∷ []) 0 ∷ []) (Var 1 ∷ Var 1 ∷ []) ∷ [];
}

-- accessible elements of a relation
abbrev pub acc : Family
acc = record {
  name = [];
  parameters = Sort 0 ∷ Pi (Var 0) (Pi (Var 1) (Sort 0)) ∷ [];
  indices = (Var 1, 0) ∷ [];
  level = 0;
  constructors =
      constructor (Plain (Var 1) 0 ∷ Recursive (Var 2 ∷ App (App (Var 2) (Var 0)) (Var 1) ∷ []) (Var 1 ∷ []) 0 ∷ []) (Var 1 ∷ [])
      ∷ [];
}

abbrev pub sample : Signature
sample = record { entries = map FamilyOf (nat ∷ vec ∷ ord ∷ list ∷ two ∷ acc ∷ []); has_k = false }

-- the function of each case is constant 9
abbrev pub self : List Term → Term
self arguments = applied (Const 9) arguments
