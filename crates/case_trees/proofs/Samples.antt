-- A signature for examples: after the prelude Nat, Vec, Fin, Bool, up, U, P, twice, W, Q and Has.
use Rattle.std.proofs.Common.{Bool, [], ◌∷◌, ◌++◌}
use Rattle.theory.specs.Terms.{Term}
use Rattle.theory.specs.Terms.Term.{Var, Sort, Pi, Lam, App, Const, Fam, Con, Elim}
use Rattle.theory.specs.Families.{Plain, Recursive, Family}
use Rattle.theory.specs.Prelude.{prelude}
use Rattle.theory.specs.Signatures.{Signature, FamilyOf, Definition}
use Rattle.theory.proofs.AfterPrelude.{after}

abbrev pub Nat : Term
Nat = Fam (after 0)

abbrev pub zero_term : Term
zero_term = Con (after 0) 0

abbrev pub suc_term : Term → Term
suc_term n = App (Con (after 0) 1) n

abbrev pub Vec : (A n : Term) → Term
Vec A n = App (App (Fam (after 1)) A) n

abbrev pub nil_term : Term → Term
nil_term A = App (Con (after 1) 0) A

abbrev pub cons_term : (A n x xs : Term) → Term
cons_term A n x xs = App (App (App (App (Con (after 1) 1) A) n) x) xs

abbrev pub Fin : Term → Term
Fin n = App (Fam (after 2)) n

abbrev pub fzero : Term → Term
fzero n = App (Con (after 2) 0) n

abbrev pub fsuc : (n i : Term) → Term
fsuc n i = App (App (Con (after 2) 1) n) i

abbrev pub Boolean : Term
Boolean = Fam (after 3)

abbrev pub true_term : Term
true_term = Con (after 3) 0

abbrev pub false_term : Term
false_term = Con (after 3) 1

-- \n. suc n
abbrev pub up : Term → Term
up n = App (Const (after 4)) n

abbrev pub U : Term → Term
U n = App (Fam (after 5)) n

abbrev pub u_term : Term → Term
u_term k = App (Con (after 5) 0) k

abbrev pub v_term : Term
v_term = Con (after 5) 1

abbrev pub P : Term
P = Fam (after 6)

abbrev pub pair_term : (a b : Term) → Term
pair_term a b = App (App (Con (after 6) 0) a) b

-- \n. pair (up n) (up n)
abbrev pub twice : Term → Term
twice n = App (Const (after 7)) n

abbrev pub W : Term → Term
W p = App (Fam (after 8)) p

abbrev pub w_term : Term
w_term = Con (after 8) 0

abbrev pub Q : Term → Term
Q n = App (Fam (after 9)) n

abbrev pub Has : (n i : Term) → Term
Has n i = App (App (Fam (after 10)) n) i

abbrev pub there_term : (n i h : Term) → Term
there_term n i h = App (App (App (Con (after 10) 1) n) i) h

-- the number before n, where there is one: Nat!elim.0 (\Nat. Nat) zero (\m. \h. m) n
abbrev pub pred : Term → Term
pred n = App (App (App (App (Elim (after 0) 0) (Lam Nat Nat)) zero_term) (Lam Nat (Lam Nat (Var 1)))) n

abbrev pub nat_family : Family
nat_family = record {
  name = [];
  parameters = [];
  indices = [];
  level = 0;
  constructors =
      record { name = []; arguments = []; targets = [] }
      ∷ record { name = []; arguments = Recursive [] [] 0 ∷ []; targets = [] }
      ∷ [];
}

-- Vec (A : Type 0) : Nat -> Type 0, with nil : Vec A zero and cons : (n : Nat) -> A -> Vec A n -> Vec A (suc n)
abbrev pub vec_family : Family
vec_family = record {
  name = [];
  parameters = Sort 0 ∷ [];
  indices = (Nat, 0) ∷ [];
  level = 0;
  constructors =
      record { name = []; arguments = []; targets = zero_term ∷ [] }
      ∷ record {
        name = [];
        arguments = Plain Nat 0 ∷ Plain (Var 1) 0 ∷ Recursive [] (Var 1 ∷ []) 0 ∷ [];
        targets = suc_term (Var 2) ∷ [];
      }
      ∷ [];
}

-- Fin : Nat -> Type 0, with fzero : (n : Nat) -> Fin (suc n) and fsuc : (n : Nat) -> Fin n -> Fin (suc n)
abbrev pub fin_family : Family
fin_family = record {
  name = [];
  parameters = [];
  indices = (Nat, 0) ∷ [];
  level = 0;
  constructors =
      record { name = []; arguments = Plain Nat 0 ∷ []; targets = suc_term (Var 0) ∷ [] }
      ∷ record { name = []; arguments = Plain Nat 0 ∷ Recursive [] (Var 0 ∷ []) 0 ∷ []; targets = suc_term (Var 1) ∷ [] }
      ∷ [];
}

abbrev pub bool_family : Family
bool_family = record {
  name = [];
  parameters = [];
  indices = [];
  level = 0;
  constructors =
      record { name = []; arguments = []; targets = [] }
      ∷ record { name = []; arguments = []; targets = [] }
      ∷ [];
}

-- U : Nat -> Type 0, with u : (k : Nat) -> U (up k) and v : U zero
abbrev pub u_family : Family
u_family = record {
  name = [];
  parameters = [];
  indices = (Nat, 0) ∷ [];
  level = 0;
  constructors =
      record { name = []; arguments = Plain Nat 0 ∷ []; targets = up (Var 0) ∷ [] }
      ∷ record { name = []; arguments = []; targets = zero_term ∷ [] }
      ∷ [];
}

-- P, with pair : Nat -> Nat -> P
abbrev pub p_family : Family
p_family = record {
  name = [];
  parameters = [];
  indices = [];
  level = 0;
  constructors = record { name = []; arguments = Plain Nat 0 ∷ Plain Nat 0 ∷ []; targets = [] } ∷ [];
}

-- W : P -> Type 0, with w : W (twice zero) and x : W (pair zero zero)
abbrev pub w_family : Family
w_family = record {
  name = [];
  parameters = [];
  indices = (P, 0) ∷ [];
  level = 0;
  constructors =
      record { name = []; arguments = []; targets = twice zero_term ∷ [] }
      ∷ record { name = []; arguments = []; targets = pair_term zero_term zero_term ∷ [] }
      ∷ [];
}

-- Q : Nat -> Type 0, with q0 : (k : Nat) -> Q k and q1 : (k : Nat) -> Q (pred k)
abbrev pub q_family : Family
q_family = record {
  name = [];
  parameters = [];
  indices = (Nat, 0) ∷ [];
  level = 0;
  constructors =
      record { name = []; arguments = Plain Nat 0 ∷ []; targets = Var 0 ∷ [] }
      ∷ record { name = []; arguments = Plain Nat 0 ∷ []; targets = pred (Var 0) ∷ [] }
      ∷ [];
}

-- Has : (n : Nat) -> Fin n -> Type 0, with here : (n : Nat) -> Has (suc n) (fzero n)
-- and there : (n : Nat) -> (i : Fin n) -> Has n i -> Has (suc n) (fsuc n i)
abbrev pub has_family : Family
has_family = record {
  name = [];
  parameters = [];
  indices = (Nat, 0) ∷ (Fin (Var 0), 0) ∷ [];
  level = 0;
  constructors =
      record { name = []; arguments = Plain Nat 0 ∷ []; targets = suc_term (Var 0) ∷ fzero (Var 0) ∷ [] }
      ∷ record {
        name = [];
        arguments = Plain Nat 0 ∷ Plain (Fin (Var 0)) 0 ∷ Recursive [] (Var 1 ∷ Var 0 ∷ []) 0 ∷ [];
        targets = suc_term (Var 2) ∷ fsuc (Var 2) (Var 1) ∷ [];
      }
      ∷ [];
}

unfoldable pub sample : Bool → Signature
sample k = record {
  entries =
      (prelude k).entries
      ++ FamilyOf nat_family
      ∷ FamilyOf vec_family
      ∷ FamilyOf fin_family
      ∷ FamilyOf bool_family
      ∷ Definition [] (Pi Nat Nat) (Lam Nat (App (Con (after 0) 1) (Var 0)))
      ∷ FamilyOf u_family
      ∷ FamilyOf p_family
      ∷ Definition [] (Pi Nat P) (Lam Nat (pair_term (up (Var 0)) (up (Var 0))))
      ∷ FamilyOf w_family
      ∷ FamilyOf q_family
      ∷ FamilyOf has_family
      ∷ [];
  has_k = k;
}
