-- Two families that refer to each other, with a parameter and an argument that is a function, as another implementation prints what they
-- become: data A (X : Type 0) : Type 0 { a : (X -> B X) -> A X } with B : Type 0 { b : X -> A X -> B X } in S T { x ; y }. The entries of
-- the signature are these alone: 0 to 3 are T, S, A and B, and 4 is the case analysis of T.
use Rattle.std.proofs.Common.{◌≡◌, ℕ, List, [], ◌∷◌, Ok, Err, codes, refl}
use Rattle.theory.specs.Terms.{Term}
use Rattle.theory.specs.Terms.Term.{Var, Sort, Pi, Lam, App, Const, Fam, Con, Elim}
use Rattle.theory.specs.Families.{Family, Plain, Recursive}
use Rattle.theory.specs.Signatures.{Definition}
use Rattle.core_sig.specs.FamilyShapes.{family_shape}
use Rattle.core_sig.specs.Raw.{RawConstructor, MutualRaw}
use Rattle.mutual_pack.specs.declared.stop.MutualStop.TheVariants.{TagCount, MemberLevel, NotPositive}
use Rattle.mutual_pack.specs.MutualFamilies.{Packed}
use Rattle.mutual_pack.specs.Inductions.{packed_numbers, induction_type, induction_term}
use Rattle.mutual_pack.specs.Packing.{pack}

-- member k at X
abbrev member : (k X : ℕ) → Term
member k X = App (Const k) (Var X)

-- S X t_k
abbrev S : (X k : ℕ) → Term
S X k = App (App (Fam 1) (Var X)) (Con 0 k)

abbrev a : Term → RawConstructor
a type = record { name = codes "a"; type = type }

-- the declaration, with a type of b
abbrev declared : Term → MutualRaw
declared b = record {
  parameters = Sort 0 ∷ [];
  members =
      record { name = codes "A"; type = Sort 0; constructors = a (Pi (Pi (Var 0) (member 1 1)) (member 0 1)) ∷ [] }
      ∷ record { name = codes "B"; type = Sort 0; constructors = record { name = codes "b"; type = b } ∷ [] } ∷ [];
  family = codes "S";
  tag = codes "T";
  tags = codes "x" ∷ codes "y" ∷ [];
}

-- X -> A X -> B X
abbrev written : Term
written = Pi (Var 0) (Pi (member 0 1) (member 1 2))

abbrev tag : (name : List ℕ) → RawConstructor
tag name = record { name = name; type = Fam 0 }

abbrev packed : Packed
packed = record {
  tag = record { name = codes "T"; parameters = []; type = Sort 0; constructors = tag (codes "x") ∷ tag (codes "y") ∷ [] };
  family = record {
    name = codes "S";
    parameters = Sort 0 ∷ [];
    type = Pi (Fam 0) (Sort 0);
    constructors = a (Pi (Pi (Var 0) (S 1 1)) (S 1 0)) ∷ record { name = codes "b"; type = Pi (Var 0) (Pi (S 1 0) (S 2 1)) } ∷ [];
  };
  members = Definition (codes "A") (Pi (Sort 0) (Sort 0)) (Lam (Sort 0) (App (App (Fam 1) (Var 0)) (Con 0 0)))
      ∷ Definition (codes "B") (Pi (Sort 0) (Sort 0)) (Lam (Sort 0) (App (App (Fam 1) (Var 0)) (Con 0 1))) ∷ [];
  owners = 0 ∷ 1 ∷ [];
}

is-packed : pack 0 (declared written) ≡ Ok packed
is-packed = refl

-- ---- refusals

-- one tag only
too-few-tags : pack 0 (record (declared written) { tags = codes "x" ∷ [] }) ≡ Err TagCount
too-few-tags = refl

-- X -> (A X -> X) -> B X
to-the-left : pack 0 (declared (Pi (Var 0) (Pi (Pi (member 0 1) (Var 2)) (member 1 2)))) ≡ Err (NotPositive 1 2)
to-the-left = refl

-- X -> A X -> B (A X)
at-another-parameter : pack 0 (declared (Pi (Var 0) (Pi (member 0 1) (App (Const 1) (member 0 2))))) ≡ Err (NotPositive 1 0)
at-another-parameter = refl

-- B : Type 1
other-level : pack 0 (record (declared written) { members = record { name = codes "A"; type = Sort 0; constructors = [] } ∷ record { name = codes "B"; type = Sort 1; constructors = [] } ∷ [] }) ≡ Err (MemberLevel 2)
other-level = refl

-- ---- induction

-- S as it is in the signature
abbrev family : Family
family = record {
  name = codes "S";
  parameters = Sort 0 ∷ [];
  indices = (Fam 0, 0) ∷ [];
  level = 0;
  constructors =
      record { name = codes "a"; arguments = Recursive (Var 0 ∷ []) (Con 0 1 ∷ []) 0 ∷ []; targets = Con 0 0 ∷ [] }
      ∷ record { name = codes "b"; arguments = Plain (Var 0) 0 ∷ Recursive [] (Con 0 0 ∷ []) 0 ∷ []; targets = Con 0 1 ∷ [] } ∷ [];
}

type-of-A : induction_type (packed_numbers packed (family_shape 1 family)) (0 ∷ 1 ∷ []) (family_shape 1 family) 0 ≡
    Pi (Sort 0) (Pi (Pi (App (Const 2) (Var 0)) (Sort 0)) (Pi (Pi (App (Const 3) (Var 1)) (Sort 0)) (Pi (Pi (Pi (Var 2) (App (App (Fam 1) (Var 3)) (Con 0 1))) (Pi (Pi (Var 3) (App (Var 2) (App (Var 1) (Var 0)))) (App (Var 3) (App (App (Con 1 0) (Var 4)) (Var 1))))) (Pi (Pi (Var 3) (Pi (App (App (Fam 1) (Var 4)) (Con 0 0)) (Pi (App (Var 4) (Var 0)) (App (Var 4) (App (App (App (Con 1 1) (Var 6)) (Var 2)) (Var 1)))))) (Pi (App (Const 2) (Var 4)) (App (Var 4) (Var 0)))))))
type-of-A = refl

term-of-B : induction_term (packed_numbers packed (family_shape 1 family)) (0 ∷ 1 ∷ []) (family_shape 1 family) 4 1 ≡
    Lam (Sort 0) (Lam (Pi (App (Const 2) (Var 0)) (Sort 0)) (Lam (Pi (App (Const 3) (Var 1)) (Sort 0)) (Lam (Pi (Pi (Var 2) (App (App (Fam 1) (Var 3)) (Con 0 1))) (Pi (Pi (Var 3) (App (Var 2) (App (Var 1) (Var 0)))) (App (Var 3) (App (App (Con 1 0) (Var 4)) (Var 1))))) (Lam (Pi (Var 3) (Pi (App (App (Fam 1) (Var 4)) (Con 0 0)) (Pi (App (Var 4) (Var 0)) (App (Var 4) (App (App (App (Con 1 1) (Var 6)) (Var 2)) (Var 1)))))) (Lam (App (Const 3) (Var 4)) (App (App (App (App (App (App (Elim 1 0) (Var 5)) (Lam (Fam 0) (Lam (App (App (Fam 1) (Var 6)) (Var 0)) (App (App (App (App (App (Const 4) (Lam (Fam 0) (Pi (App (App (Fam 1) (Var 8)) (Var 0)) (Sort 0)))) (Var 6)) (Var 5)) (Var 1)) (Var 0))))) (Var 2)) (Var 1)) (Con 0 1)) (Var 0)))))))
term-of-B = refl
