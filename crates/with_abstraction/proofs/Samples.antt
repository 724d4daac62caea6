-- A signature for examples: Nat, Fin and Has after the prelude.
use Rattle.std.proofs.Common.{Bool, [], ◌∷◌, ◌++◌}
use Rattle.theory.specs.Terms.{Term}
use Rattle.theory.specs.Terms.Term.{Var, App, Fam, Con}
use Rattle.theory.specs.Families.{Plain, Recursive, Family}
use Rattle.theory.specs.Prelude.{prelude}
use Rattle.theory.specs.Signatures.{Signature, FamilyOf}
use Rattle.theory.proofs.AfterPrelude.{after}

abbrev pub Nat : Term
Nat = Fam (after 0)

abbrev pub zero_term : Term
zero_term = Con (after 0) 0

abbrev pub suc_term : Term → Term
suc_term n = App (Con (after 0) 1) n

abbrev pub Fin : Term → Term
Fin n = App (Fam (after 1)) n

abbrev pub Has : Term → Term → Term
Has n i = App (App (Fam (after 2)) n) i

abbrev pub nat_family : Family
nat_family = record {
  name = [];
  parameters = [];
  indices = [];
  level = 0;
  constructors =
      record { name = []; arguments = []; targets = [] }
      ∷ record { name = []; arguments = Recursive [] [] 0 ∷ []; targets = [] }
      ∷ [];
}

-- Fin : Nat -> Type 0, with fzero : (n : Nat) -> Fin (suc n)
abbrev pub fin_family : Family
fin_family = record {
  name = [];
  parameters = [];
  indices = (Nat, 0) ∷ [];
  level = 0;
  constructors = record { name = []; arguments = Plain Nat 0 ∷ []; targets = suc_term (Var 0) ∷ [] } ∷ [];
}

-- Has : (n : Nat) -> Fin n -> Type 0, with here : (n : Nat) -> Has (suc n) (fzero n)
abbrev pub has_family : Family
has_family = record {
  name = [];
  parameters = [];
  indices = (Nat, 0) ∷ (Fin (Var 0), 0) ∷ [];
  level = 0;
  constructors =
      record { name = []; arguments = Plain Nat 0 ∷ []; targets = suc_term (Var 0) ∷ App (Con (after 1) 0) (Var 0) ∷ [] } ∷ [];
}

unfoldable pub sample : (k : Bool) → Signature
sample k = record {
  entries = (prelude k).entries ++ FamilyOf nat_family ∷ FamilyOf fin_family ∷ FamilyOf has_family ∷ [];
  has_k = k;
}
