-- A signature for examples: after the prelude Nat, Fin, Has, Box, Vec, K, W, D, Tk, Het, Tree, and constants.
use Rattle.std.proofs.Common.{ℕ, zero, suc, Bool, List, [], ◌∷◌, ◌++◌}
use Rattle.theory.specs.Terms.{Term}
use Rattle.theory.specs.Terms.Term.{Var, Sort, Pi, Lam, App, Const, Fam, Con}
use Rattle.theory.specs.Telescopes.{Telescope, applied}
use Rattle.theory.specs.Families.{Argument, Plain, Recursive, Constructor, Family}
use Rattle.theory.specs.Prelude.{prelude}
use Rattle.theory.specs.Signatures.{Signature, FamilyOf, Definition}
use Rattle.theory.proofs.AfterPrelude.{after}
use Rattle.core_terms.specs.CaseTrees.{Step}
use Rattle.core_terms.specs.declared.case_tree.Rule.{Rule}
use Rattle.tele_eq.specs.Items.{Item}

abbrev pub item : Term → Item
item t = record { type = t; level = 0 }

abbrev pub Nat : Term
Nat = Fam (after 0)

abbrev pub zero_term : Term
zero_term = Con (after 0) 0

abbrev pub suc_term : Term → Term
suc_term n = App (Con (after 0) 1) n

abbrev pub Fin : Term → Term
Fin n = App (Fam (after 1)) n

abbrev pub fzero : Term → Term
fzero n = App (Con (after 1) 0) n

abbrev pub fsuc : Term → Term → Term
fsuc n i = App (App (Con (after 1) 1) n) i

abbrev pub Has : Term → Term → Term
Has n i = App (App (Fam (after 2)) n) i

abbrev pub there_term : Term → Term → Term → Term
there_term n i h = App (App (App (Con (after 2) 1) n) i) h

abbrev pub Box : Term → Term → Term → Term
Box n i h = App (App (App (Fam (after 3)) n) i) h

abbrev pub box : Term → Term → Term → Term
box n i h = App (App (App (Con (after 3) 0) n) i) h

abbrev pub Vec : Term → Term
Vec n = App (App (Fam (after 4)) Nat) n

abbrev pub K : Term → Term → Term
K n i = App (App (Fam (after 5)) n) i

abbrev pub k_term : Term → Term → Term
k_term n i = App (App (Con (after 5) 0) n) i

abbrev pub W : Term → Term → Term → Term
W n i k = App (App (App (Fam (after 6)) n) i) k

abbrev pub w_term : Term → Term → Term
w_term n i = App (App (Con (after 6) 0) n) i

-- \a. \b. a
abbrev pub konst : Term → Term → Term
konst a b = App (App (Const (after 7)) a) b

abbrev pub D : Term → Term → Term
D p n = App (App (Fam (after 8)) p) n

abbrev pub Tk : Term
Tk = Fam (after 11)

abbrev pub Het : Term → Term → Term → Term → Term
Het A a B b = applied (Fam (after 12)) (A ∷ a ∷ B ∷ b ∷ [])

abbrev pub Tree : Term
Tree = Fam (after 13)

abbrev pub node : Term → Term → Term
node a b = App (App (Con (after 13) 1) a) b

-- \a. \b. a, for trees
abbrev pub first : Term → Term → Term
first a b = App (App (Const (after 14)) a) b

-- \n. n with 340 constructors suc around it
abbrev pub add : Term → Term
add n = App (Const (after 15)) n

-- \n. suc n
abbrev pub up : Term → Term
up n = App (Const (after 9)) n

abbrev pub one : Term
one = Const (after 10)

abbrev constructor_with : List Argument → (targets : List Term) → Constructor
constructor_with arguments targets = record { name = []; arguments = arguments; targets = targets }

abbrev family_with : (parameters : Telescope) → (indices : List (Term × ℕ)) → (level : ℕ) → List Constructor → Family
family_with parameters indices level constructors =
    record { name = []; parameters = parameters; indices = indices; level = level; constructors = constructors }

abbrev pub nat_family : Family
nat_family = family_with [] [] 0
    (constructor_with [] []
    ∷ constructor_with (Recursive [] [] 0 ∷ []) []
    ∷ [])

-- Fin : Nat -> Type 0, with fzero : (n : Nat) -> Fin (suc n) and fsuc : (n : Nat) -> Fin n -> Fin (suc n)
abbrev pub fin_family : Family
fin_family = family_with [] ((Nat, 0) ∷ []) 0
    (constructor_with (Plain Nat 0 ∷ []) (suc_term (Var 0) ∷ [])
    ∷ constructor_with (Plain Nat 0 ∷ Recursive [] (Var 0 ∷ []) 0 ∷ []) (suc_term (Var 1) ∷ [])
    ∷ [])

-- Has : (n : Nat) -> Fin n -> Type 0, with here : (n : Nat) -> Has (suc n) (fzero n)
-- and there : (n : Nat) -> (i : Fin n) -> Has n i -> Has (suc n) (fsuc n i)
abbrev pub has_family : Family
has_family = family_with [] ((Nat, 0) ∷ (Fin (Var 0), 0) ∷ []) 0
    (constructor_with (Plain Nat 0 ∷ []) (suc_term (Var 0) ∷ fzero (Var 0) ∷ [])
    ∷ constructor_with (Plain Nat 0 ∷ Plain (Fin (Var 0)) 0 ∷ Recursive [] (Var 1 ∷ Var 0 ∷ []) 0 ∷ []) (suc_term (Var 2) ∷ fsuc (Var 2) (Var 1) ∷ [])
    ∷ [])

-- Box : (n : Nat) -> (i : Fin n) -> Has n i -> Type 0,
-- with box : (n : Nat) -> (i : Fin n) -> (h : Has n i) -> Box (suc n) (fsuc n i) (there n i h)
abbrev pub box_family : Family
box_family = family_with [] ((Nat, 0) ∷ (Fin (Var 0), 0) ∷ (Has (Var 1) (Var 0), 0) ∷ []) 0
    (constructor_with (Plain Nat 0 ∷ Plain (Fin (Var 0)) 0 ∷ Plain (Has (Var 1) (Var 0)) 0 ∷ []) (suc_term (Var 2) ∷ fsuc (Var 2) (Var 1) ∷ there_term (Var 2) (Var 1) (Var 0) ∷ [])
    ∷ [])

-- Vec (A : Type 0) : Nat -> Type 0
abbrev pub vec_family : Family
vec_family = family_with (Sort 0 ∷ []) ((Nat, 0) ∷ []) 0
    (constructor_with [] (zero_term ∷ [])
    ∷ constructor_with (Plain Nat 0 ∷ Plain (Var 1) 0 ∷ Recursive [] (Var 1 ∷ []) 0 ∷ []) (suc_term (Var 2) ∷ [])
    ∷ [])

-- K (n : Nat) : Fin n -> Type 0, with k : (i : Fin n) -> K n i
abbrev pub k_family : Family
k_family = family_with (Nat ∷ []) ((Fin (Var 0), 0) ∷ []) 0
    (constructor_with (Plain (Fin (Var 0)) 0 ∷ []) (Var 0 ∷ []) ∷ [])

-- W : (n : Nat) -> (i : Fin n) -> K n i -> Type 0, with w : (n : Nat) -> (i : Fin n) -> W n i (k n i)
abbrev pub w_family : Family
w_family = family_with [] ((Nat, 0) ∷ (Fin (Var 0), 0) ∷ (K (Var 1) (Var 0), 0) ∷ []) 0
    (constructor_with (Plain Nat 0 ∷ Plain (Fin (Var 0)) 0 ∷ []) (Var 1 ∷ Var 0 ∷ k_term (Var 1) (Var 0) ∷ [])
    ∷ [])

-- D (p : Nat) : Nat -> Type 0, with mk : D p ((\y. konst zero y) p)
abbrev pub d_family : Family
d_family = family_with (Nat ∷ []) ((Nat, 0) ∷ []) 0
    (constructor_with [] (App (Lam Nat (konst zero_term (Var 0))) (Var 0) ∷ []) ∷ [])

-- Tk, with ak : Tk, bk : Nat -> Tk and ck : Nat -> Tk
abbrev pub tk_family : Family
tk_family = family_with [] [] 0
    (constructor_with [] []
    ∷ constructor_with (Plain Nat 0 ∷ []) []
    ∷ constructor_with (Plain Nat 0 ∷ []) []
    ∷ [])

-- Het (A : Type 0) (a : A) : (B : Type 0) -> B -> Type 1, with het : Het A a A a
abbrev pub het_family : Family
het_family = family_with (Sort 0 ∷ Var 0 ∷ []) ((Sort 0, 1) ∷ (Var 0, 0) ∷ []) 1
    (constructor_with [] (Var 1 ∷ Var 0 ∷ []) ∷ [])

-- Tree, with leaf : Nat -> Tree and node : Tree -> Tree -> Tree
abbrev pub tree_family : Family
tree_family = family_with [] [] 0
    (constructor_with (Plain Nat 0 ∷ []) []
    ∷ constructor_with (Recursive [] [] 0 ∷ Recursive [] [] 0 ∷ []) []
    ∷ [])

-- so many constructors suc around a term
abbrev pub sucs : ℕ → Term → Term
sucs zero t = t
sucs (suc n) t = suc_term (sucs n t)

unfoldable pub sample : Bool → Signature
sample k = record {
  entries =
      (prelude k).entries
      ++ FamilyOf nat_family
      ∷ FamilyOf fin_family
      ∷ FamilyOf has_family
      ∷ FamilyOf box_family
      ∷ FamilyOf vec_family
      ∷ FamilyOf k_family
      ∷ FamilyOf w_family
      ∷ Definition [] (Pi Nat (Pi Nat Nat)) (Lam Nat (Lam Nat (Var 1)))
      ∷ FamilyOf d_family
      ∷ Definition [] (Pi Nat Nat) (Lam Nat (App (Con (after 0) 1) (Var 0)))
      ∷ Definition [] Nat (App (Con (after 0) 1) (Con (after 0) 0))
      ∷ FamilyOf tk_family
      ∷ FamilyOf het_family
      ∷ FamilyOf tree_family
      ∷ Definition [] (Pi Tree (Pi Tree Tree)) (Lam Tree (Lam Tree (Var 1)))
      ∷ Definition [] (Pi Nat Nat) (Lam Nat (sucs 340 (Var 0)))
      ∷ [];
  has_k = k;
}

-- a step on the last of so many equations
abbrev pub step : (group : ℕ) → Rule → (ty u v : Term) → Step
step group rule ty u v = record { group = group; rule = rule; ty = ty; left = u; right = v }
