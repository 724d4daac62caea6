-- Blocks, computed, as another implementation prints them. Entry 0 is Nat, entry 1 is `two`.
use native.Mathlib.Decide.{ℕ_discrete}
use Rattle.std.proofs.Common.{◌≡◌, [], ◌∷◌, false, refl}
use Rattle.std.specs.Prelude.{codes}
use Rattle.std.specs.Fmt.{digits}
use Rattle.theory.specs.Terms.{Term, Var, Sort, Pi, Lam, App, Let, Const, Fam, Con}
use Rattle.theory.specs.Families.{Family, Plain, Recursive}
use Rattle.theory.specs.Signatures.{FamilyOf, EliminatorAt, Definition, Signature}
use Rattle.shared_text.specs.BlockText.{entry_block}

Nat : Term
Nat = Fam 0

nat : Family
nat = record {
  name = codes "Nat";
  parameters = [];
  indices = [];
  level = 0;
  constructors =
      record { name = codes "zero"; arguments = []; targets = [] }
      ∷ record { name = codes "suc"; arguments = Recursive [] [] 0 ∷ []; targets = [] }
      ∷ [];
}

-- T, entry 2, with leaf : Nat -> T and node, other : (Nat -> T) -> T
family : Family
family = record {
  name = codes "T";
  parameters = [];
  indices = [];
  level = 0;
  constructors =
      record { name = codes "leaf"; arguments = Plain Nat 0 ∷ []; targets = [] }
      ∷ record { name = codes "node"; arguments = Recursive (Nat ∷ []) [] 0 ∷ []; targets = [] }
      ∷ record { name = codes "other"; arguments = Recursive (Nat ∷ []) [] 0 ∷ []; targets = [] }
      ∷ [];
}

two : Term
two = App (Con 0 1) (App (Con 0 1) (Con 0 0))

S : Signature
S = record { entries = FamilyOf nat ∷ Definition (codes "two") Nat two ∷ FamilyOf family ∷ []; has_k = false }

arrow : Term
arrow = Pi Nat Nat

binary : Term
binary = Pi Nat arrow

-- no term of height 1 is shared
nothing_shared : entry_block S 0 (FamilyOf nat) ≡ codes "data Nat : Type 0 { zero : Nat ; suc : (Nat -> Nat) }\n"
unfolding S digits nat ℕ_discrete
nothing_shared = refl

-- the terms are those of the written text, letter for letter
under_binders :
    entry_block S 3 (Definition (codes "dup") (Pi (Sort 0) (Pi (Pi (Var 0) (Var 1)) (Pi (Var 1) (Var 2)))) (Lam (Sort 0) (Lam (Pi (Var 0) (Var 1)) (Var 0))))
    ≡ codes "share (%0 -> %1)\ndef dup : (Type 0 -> ($0 -> (%1 -> %2))) = (\\Type 0 . (\\$0 . %0))\n"
unfolding S digits ℕ_discrete
under_binders = refl

spine :
    entry_block S 3 (Definition (codes "p") (Pi binary Nat) (Lam binary (App (App (Var 0) (App (App (Var 0) (Con 0 0)) (Const 1))) (App (App (Var 0) (Con 0 0)) (Const 1)))))
    ≡ codes "share (Nat -> (Nat -> Nat))\nshare (%0 zero two)\ndef p : ($0 -> Nat) = (\\$0 . (%0 $1 $1))\n"
unfolding S digits nat binary arrow Nat ℕ_discrete
spine = refl

-- a part of an application is no printed term; a shared term is written by its number in the line of another
inside_another :
    entry_block S 3 (Definition (codes "q") (Pi binary arrow) (Lam binary (App (Var 0) (App (App (Var 0) (Con 0 0)) (Con 0 0)))))
    ≡ codes "share (Nat -> Nat)\nshare (Nat -> $0)\ndef q : ($1 -> $0) = (\\$1 . (%0 (%0 zero zero)))\n"
unfolding S digits nat binary arrow Nat ℕ_discrete
inside_another = refl

as_head :
    entry_block S 3 (Definition (codes "r") arrow (Lam Nat (App (Lam Nat (Var 0)) (App (Lam Nat (Var 0)) (Var 0)))))
    ≡ codes "share (\\Nat . %0)\ndef r : (Nat -> Nat) = (\\Nat . ($0 ($0 %0)))\n"
unfolding S digits nat arrow Nat ℕ_discrete
as_head = refl

in_let :
    entry_block S 3 (Definition (codes "l") Nat (Let Nat (App (Con 0 1) (Con 0 0)) (App (Con 0 1) (Con 0 0))))
    ≡ codes "share (suc zero)\ndef l : Nat = (let Nat = $0 . $0)\n"
unfolding S digits nat Nat ℕ_discrete
in_let = refl

constructor_types :
    entry_block S 2 (FamilyOf family)
    ≡ codes "share (Nat -> T)\nshare ($0 -> T)\ndata T : Type 0 { leaf : $0 ; node : $1 ; other : $1 }\n"
unfolding S digits nat family Nat ℕ_discrete
constructor_types = refl

instance : entry_block S 3 (EliminatorAt 0 2) ≡ codes "elim Nat 2\n"
unfolding S digits nat
instance = refl
