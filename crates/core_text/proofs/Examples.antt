-- Core text, computed.
use Rattle.std.proofs.Common.{◌≡◌, [], ◌∷◌, false, refl}
use Rattle.std.specs.Prelude.{codes}
use Rattle.std.specs.Fmt.{digits}
use Rattle.theory.specs.Terms.{Term, Var, Sort, Pi, Lam, App, Let, Const, Fam, Con, Elim, AxiomK}
use Rattle.theory.specs.Families.{Family, Plain, Recursive}
use Rattle.theory.specs.Signatures.{FamilyOf, EliminatorAt, AxiomKAt, Definition, Signature}
use Rattle.core_text.specs.EntryText.{entry_line}
use Rattle.core_text.specs.TermText.{term_text}

empty : Family
empty = record { name = codes "Empty"; parameters = []; indices = []; level = 0; constructors = [] }

-- data Nat : Type 0 { zero : Nat ; suc : Nat -> Nat }
nat : Family
nat = record {
  name = codes "Nat";
  parameters = [];
  indices = [];
  level = 0;
  constructors =
      record { name = codes "zero"; arguments = []; targets = [] }
      ∷ record { name = codes "suc"; arguments = Recursive [] [] 0 ∷ []; targets = [] }
      ∷ [];
}

-- data Vec (A : Type 0) : Nat -> Type 0 { nil : Vec A zero ; cons : (n : Nat) -> A -> Vec A n -> Vec A (suc n) }
vec : Family
vec = record {
  name = codes "Vec";
  parameters = Sort 0 ∷ [];
  indices = (Fam 1, 0) ∷ [];
  level = 0;
  constructors =
      record { name = codes "nil"; arguments = []; targets = Con 1 0 ∷ [] }
      ∷ record {
        name = codes "cons";
        arguments = Plain (Fam 1) 0 ∷ Plain (Var 1) 0 ∷ Recursive [] (Var 1 ∷ []) 0 ∷ [];
        targets = App (Con 1 1) (Var 2) ∷ [];
      }
      ∷ [];
}

-- (A : Type 0) -> A -> A, and its identity function
id_type : Term
id_type = Pi (Sort 0) (Pi (Var 0) (Var 1))

id_body : Term
id_body = Lam (Sort 0) (Lam (Var 0) (Var 0))

S : Signature
S = record {
  entries =
      FamilyOf empty ∷ FamilyOf nat ∷ FamilyOf vec ∷ Definition (codes "id") id_type id_body ∷ EliminatorAt 2 12 ∷ AxiomKAt 3 14 ∷ [];
  has_k = false;
}

definition : entry_line S 3 (Definition (codes "id") id_type id_body) ≡ codes "def id : (Type 0 -> (%0 -> %1)) = (\\Type 0 . (\\%0 . %0))\n"
unfolding S digits id_type id_body
definition = refl

no_constructors : entry_line S 0 (FamilyOf empty) ≡ codes "data Empty : Type 0 { }\n"
unfolding S digits empty
no_constructors = refl

family : entry_line S 1 (FamilyOf nat) ≡ codes "data Nat : Type 0 { zero : Nat ; suc : (Nat -> Nat) }\n"
unfolding S digits nat
family = refl

family_with_parameter : entry_line S 2 (FamilyOf vec) ≡ codes "data Vec (Type 0) : (Nat -> Type 0) { nil : (Vec %0 zero) ; cons : (Nat -> (%1 -> ((Vec %2 %1) -> (Vec %3 (suc %2))))) }\n"
unfolding S digits nat vec
family_with_parameter = refl

product_as_parameter : entry_line S 1 (FamilyOf (record nat { name = codes "Sup"; parameters = Pi (Fam 1) (Sort 0) ∷ []; constructors = [] })) ≡ codes "data Sup ((Nat -> Type 0)) : Type 0 { }\n"
unfolding S digits nat
product_as_parameter = refl

eliminator : entry_line S 4 (EliminatorAt 2 12) ≡ codes "elim Vec 12\n"
unfolding S digits vec
eliminator = refl

axiom_k : entry_line S 5 (AxiomKAt 3 14) ≡ codes "axiomk 3 14\n"
unfolding S digits
axiom_k = refl

spine : term_text S (App (App (Elim 1 12) (App (Con 1 1) (Con 1 0))) (Sort 3)) ≡ codes "(Nat!elim.12 (suc zero) Type 3)"
unfolding S digits nat
spine = refl

function_as_head : term_text S (App (App (Lam (Fam 1) (Var 0)) (Const 3)) (AxiomK 3 14)) ≡ codes "((\\Nat . %0) id Eq.3!k.14)"
unfolding S digits nat
function_as_head = refl

let_term : term_text S (Let (Sort 10) (Fam 1) (Pi (Var 0) (Var 11))) ≡ codes "(let Type 10 = Nat . (%0 -> %11))"
unfolding S digits nat
let_term = refl
