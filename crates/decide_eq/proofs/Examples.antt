-- Types and terms of decisions as another implementation prints them: Nat, and lists with a number at each element. Entry 50 is the
-- case analysis, the two after it are the no confusions, and entry 9 decides the equality of Nat.
use Rattle.std.proofs.Common.{◌≡◌, ℕ, [], ◌∷◌, codes, refl}
use Rattle.theory.specs.Terms.{Term}
use Rattle.theory.specs.Terms.Term.{Var, Sort, Pi, Lam, App, Const, Fam, Con, Elim}
use Rattle.theory.specs.Families.{Family, Plain, Recursive}
use Rattle.theory.specs.Signatures.{equality, equation, reflexivity}
use Rattle.core_sig.specs.FamilyShapes.{family_shape}
use Rattle.decide_eq.specs.Comparisons.{confusions_of}
use Rattle.decide_eq.specs.DecisionEntries.{decided_family, decision_term}
use Rattle.decide_eq.specs.Statements.{decision_type}
use Rattle.decide_eq.specs.declared.decided_family.DecidedFamily.{DecidedFamily}

-- Eq.i!elim.m A a P d b e
abbrev J : (i m : ℕ) (A a P d b e : Term) → Term
J i m A a P d b e = App (App (App (App (App (App (Elim (equality i) m) A) a) P) d) b) e

-- entry 2: Nat, with zero and suc
abbrev Nat : Term
Nat = Fam 2

abbrev zero : Term
zero = Con 2 0

abbrev suc : Term → Term
suc n = App (Con 2 1) n

abbrev nat : Family
nat = record {
  name = codes "Nat";
  parameters = [];
  indices = [];
  level = 0;
  constructors =
      record { name = codes "zero"; arguments = []; targets = [] }
      ∷ record { name = codes "suc"; arguments = Recursive [] [] 0 ∷ []; targets = [] } ∷ [];
}

-- entry 4: Dec A, with yes and no
abbrev Dec : Term → Term
Dec A = App (Fam 4) A

abbrev yes : (A a : Term) → Term
yes A a = App (App (Con 4 0) A) a

abbrev no : (A n : Term) → Term
no A n = App (App (Con 4 1) A) n

-- entry 5: L A, with nil : L A and cons : A -> Nat -> L A -> L A
abbrev L : Term → Term
L A = App (Fam 5) A

abbrev nil : Term → Term
nil A = App (Con 5 0) A

abbrev cons : (A a n l : Term) → Term
cons A a n l = App (App (App (App (Con 5 1) A) a) n) l

abbrev list : Family
list = record {
  name = codes "L";
  parameters = Sort 0 ∷ [];
  indices = [];
  level = 0;
  constructors =
      record { name = codes "nil"; arguments = []; targets = [] }
      ∷ record { name = codes "cons"; arguments = Plain (Var 0) 0 ∷ Plain Nat 0 ∷ Recursive [] [] 0 ∷ []; targets = [] } ∷ [];
}

abbrev decided_nat : DecidedFamily
decided_nat = decided_family 50 2 (family_shape 2 nat) 4

abbrev decided_list : DecidedFamily
decided_list = decided_family 50 5 (family_shape 5 list) 4

nat_type : decision_type decided_nat nat.parameters
    ≡ Pi Nat (Pi Nat (Dec (equation 0 Nat (Var 1) (Var 0))))
nat_type = refl

nat_term : decision_term decided_nat (confusions_of decided_nat) [] (family_shape 2 nat)
    ≡ Lam Nat (App (App (App (App (Elim 2 0) (Lam Nat (Pi Nat (Dec (equation 0 Nat (Var 1) (Var 0)))))) (Lam Nat (App (App (App
    (App (Const 50) (Lam Nat (Dec (equation 0 Nat zero (Var 0))))) (yes (equation 0 Nat zero zero) (reflexivity 0 Nat zero))) (Lam
    Nat (no (equation 0 Nat zero (suc (Var 0))) (Lam (equation 0 Nat zero (suc (Var 0))) (App (App (App (Const 51) (suc (Var 1)))
    (Var 0)) (Lam (equation 0 Nat zero (suc (Var 1))) (Fam 0))))))) (Var 0)))) (Lam Nat (Lam (Pi Nat (Dec (equation 0 Nat (Var 1)
    (Var 0)))) (Lam Nat (App (App (App (App (Const 50) (Lam Nat (Dec (equation 0 Nat (suc (Var 3)) (Var 0))))) (no (equation 0 Nat
    (suc (Var 2)) zero) (Lam (equation 0 Nat (suc (Var 2)) zero) (App (App (App (App (Const 52) (Var 3)) zero) (Var 0)) (Lam
    (equation 0 Nat (suc (Var 3)) zero) (Fam 0)))))) (Lam Nat (App (App (App (App (App (Elim 4 0) (equation 0 Nat (Var 3) (Var
    0))) (Lam (Dec (equation 0 Nat (Var 3) (Var 0))) (Dec (equation 0 Nat (suc (Var 4)) (suc (Var 1)))))) (Lam (equation 0 Nat
    (Var 3) (Var 0)) (yes (equation 0 Nat (suc (Var 4)) (suc (Var 1))) (J 0 0 Nat (Var 4) (Lam Nat (Lam (equation 0 Nat (Var 5)
    (Var 0)) (equation 0 Nat (suc (Var 6)) (suc (Var 1))))) (reflexivity 0 Nat (suc (Var 4))) (Var 1) (Var 0))))) (Lam (Pi
    (equation 0 Nat (Var 3) (Var 0)) (Fam 0)) (no (equation 0 Nat (suc (Var 4)) (suc (Var 1))) (Lam (equation 0 Nat (suc (Var 4))
    (suc (Var 1))) (App (App (App (App (App (Const 52) (Var 5)) (suc (Var 2))) (Var 0)) (Lam (equation 0 Nat (suc (Var 5)) (suc
    (Var 2))) (Fam 0))) (Lam (equation 0 Nat (Var 5) (Var 2)) (App (Var 2) (Var 0)))))))) (App (Var 2) (Var 0))))) (Var 0))))))
    (Var 0))
nat_term = refl

list_type : decision_type decided_list list.parameters
    ≡ Pi (Sort 0) (Pi (Pi (Var 0) (Pi (Var 1) (Dec (equation 0 (Var 2) (Var 1) (Var 0))))) (Pi (L (Var 1)) (Pi (L (Var 2)) (Dec
    (equation 0 (L (Var 3)) (Var 1) (Var 0))))))
list_type = refl

list_term : decision_term decided_list (confusions_of decided_list) ((2, 9) ∷ []) (family_shape 5 list)
    ≡ Lam (Sort 0) (Lam (Pi (Var 0) (Pi (Var 1) (Dec (equation 0 (Var 2) (Var 1) (Var 0))))) (Lam (L (Var 1)) (App (App (App (App
    (App (Elim 5 0) (Var 2)) (Lam (L (Var 2)) (Pi (L (Var 3)) (Dec (equation 0 (L (Var 4)) (Var 1) (Var 0)))))) (Lam (L (Var 2))
    (App (App (App (App (App (Const 50) (Var 3)) (Lam (L (Var 3)) (Dec (equation 0 (L (Var 4)) (nil (Var 4)) (Var 0))))) (yes
    (equation 0 (L (Var 3)) (nil (Var 3)) (nil (Var 3))) (reflexivity 0 (L (Var 3)) (nil (Var 3))))) (Lam (Var 3) (Lam Nat (Lam (L
    (Var 5)) (no (equation 0 (L (Var 6)) (nil (Var 6)) (cons (Var 6) (Var 2) (Var 1) (Var 0))) (Lam (equation 0 (L (Var 6)) (nil
    (Var 6)) (cons (Var 6) (Var 2) (Var 1) (Var 0))) (App (App (App (App (Const 51) (Var 7)) (cons (Var 7) (Var 3) (Var 2) (Var
    1))) (Var 0)) (Lam (equation 0 (L (Var 7)) (nil (Var 7)) (cons (Var 7) (Var 3) (Var 2) (Var 1))) (Fam 0))))))))) (Var 0))))
    (Lam (Var 2) (Lam Nat (Lam (L (Var 4)) (Lam (Pi (L (Var 5)) (Dec (equation 0 (L (Var 6)) (Var 1) (Var 0)))) (Lam (L (Var 6))
    (App (App (App (App (App (Const 50) (Var 7)) (Lam (L (Var 7)) (Dec (equation 0 (L (Var 8)) (cons (Var 8) (Var 5) (Var 4) (Var
    3)) (Var 0))))) (no (equation 0 (L (Var 7)) (cons (Var 7) (Var 4) (Var 3) (Var 2)) (nil (Var 7))) (Lam (equation 0 (L (Var 7))
    (cons (Var 7) (Var 4) (Var 3) (Var 2)) (nil (Var 7))) (App (App (App (App (App (App (App (Const 52) (Var 8)) (Var 5)) (Var 4))
    (Var 3)) (nil (Var 8))) (Var 0)) (Lam (equation 0 (L (Var 8)) (cons (Var 8) (Var 5) (Var 4) (Var 3)) (nil (Var 8))) (Fam
    0)))))) (Lam (Var 7) (Lam Nat (Lam (L (Var 9)) (App (App (App (App (App (Elim 4 0) (equation 0 (Var 10) (Var 7) (Var 2))) (Lam
    (Dec (equation 0 (Var 10) (Var 7) (Var 2))) (Dec (equation 0 (L (Var 11)) (cons (Var 11) (Var 8) (Var 7) (Var 6)) (cons (Var
    11) (Var 3) (Var 2) (Var 1)))))) (Lam (equation 0 (Var 10) (Var 7) (Var 2)) (App (App (App (App (App (Elim 4 0) (equation 0
    Nat (Var 7) (Var 2))) (Lam (Dec (equation 0 Nat (Var 7) (Var 2))) (Dec (equation 0 (L (Var 12)) (cons (Var 12) (Var 9) (Var 8)
    (Var 7)) (cons (Var 12) (Var 4) (Var 3) (Var 2)))))) (Lam (equation 0 Nat (Var 7) (Var 2)) (App (App (App (App (App (Elim 4 0)
    (equation 0 (L (Var 12)) (Var 7) (Var 2))) (Lam (Dec (equation 0 (L (Var 12)) (Var 7) (Var 2))) (Dec (equation 0 (L (Var 13))
    (cons (Var 13) (Var 10) (Var 9) (Var 8)) (cons (Var 13) (Var 5) (Var 4) (Var 3)))))) (Lam (equation 0 (L (Var 12)) (Var 7)
    (Var 2)) (yes (equation 0 (L (Var 13)) (cons (Var 13) (Var 10) (Var 9) (Var 8)) (cons (Var 13) (Var 5) (Var 4) (Var 3))) (App
    (App (App (App (J 0 0 (Var 13) (Var 10) (Lam (Var 13) (Lam (equation 0 (Var 14) (Var 11) (Var 0)) (Pi Nat (Pi (equation 0 Nat
    (Var 12) (Var 0)) (Pi (L (Var 17)) (Pi (equation 0 (L (Var 18)) (Var 13) (Var 0)) (equation 0 (L (Var 19)) (cons (Var 19) (Var
    16) (Var 15) (Var 14)) (cons (Var 19) (Var 5) (Var 3) (Var 1))))))))) (Lam Nat (Lam (equation 0 Nat (Var 10) (Var 0)) (Lam (L
    (Var 15)) (Lam (equation 0 (L (Var 16)) (Var 11) (Var 0)) (App (App (J 0 0 Nat (Var 13) (Lam Nat (Lam (equation 0 Nat (Var 14)
    (Var 0)) (Pi (L (Var 19)) (Pi (equation 0 (L (Var 20)) (Var 15) (Var 0)) (equation 0 (L (Var 21)) (cons (Var 21) (Var 18) (Var
    17) (Var 16)) (cons (Var 21) (Var 18) (Var 3) (Var 1))))))) (Lam (L (Var 17)) (Lam (equation 0 (L (Var 18)) (Var 13) (Var 0))
    (J 0 0 (L (Var 19)) (Var 14) (Lam (L (Var 19)) (Lam (equation 0 (L (Var 20)) (Var 15) (Var 0)) (equation 0 (L (Var 21)) (cons
    (Var 21) (Var 18) (Var 17) (Var 16)) (cons (Var 21) (Var 18) (Var 17) (Var 1))))) (reflexivity 0 (L (Var 19)) (cons (Var 19)
    (Var 16) (Var 15) (Var 14))) (Var 1) (Var 0)))) (Var 3) (Var 2)) (Var 1)) (Var 0)))))) (Var 5) (Var 2)) (Var 4)) (Var 1)) (Var
    3)) (Var 0))))) (Lam (Pi (equation 0 (L (Var 12)) (Var 7) (Var 2)) (Fam 0)) (no (equation 0 (L (Var 13)) (cons (Var 13) (Var
    10) (Var 9) (Var 8)) (cons (Var 13) (Var 5) (Var 4) (Var 3))) (Lam (equation 0 (L (Var 13)) (cons (Var 13) (Var 10) (Var 9)
    (Var 8)) (cons (Var 13) (Var 5) (Var 4) (Var 3))) (App (App (App (App (App (App (App (App (Const 52) (Var 14)) (Var 11)) (Var
    10)) (Var 9)) (cons (Var 14) (Var 6) (Var 5) (Var 4))) (Var 0)) (Lam (equation 0 (L (Var 14)) (cons (Var 14) (Var 11) (Var 10)
    (Var 9)) (cons (Var 14) (Var 6) (Var 5) (Var 4))) (Fam 0))) (Lam (equation 0 (Var 14) (Var 11) (Var 6)) (Lam (equation 0 Nat
    (Var 11) (Var 6)) (Lam (equation 0 (L (Var 16)) (Var 11) (Var 6)) (App (Var 4) (Var 0)))))))))) (App (Var 6) (Var 2))))) (Lam
    (Pi (equation 0 Nat (Var 7) (Var 2)) (Fam 0)) (no (equation 0 (L (Var 12)) (cons (Var 12) (Var 9) (Var 8) (Var 7)) (cons (Var
    12) (Var 4) (Var 3) (Var 2))) (Lam (equation 0 (L (Var 12)) (cons (Var 12) (Var 9) (Var 8) (Var 7)) (cons (Var 12) (Var 4)
    (Var 3) (Var 2))) (App (App (App (App (App (App (App (App (Const 52) (Var 13)) (Var 10)) (Var 9)) (Var 8)) (cons (Var 13) (Var
    5) (Var 4) (Var 3))) (Var 0)) (Lam (equation 0 (L (Var 13)) (cons (Var 13) (Var 10) (Var 9) (Var 8)) (cons (Var 13) (Var 5)
    (Var 4) (Var 3))) (Fam 0))) (Lam (equation 0 (Var 13) (Var 10) (Var 5)) (Lam (equation 0 Nat (Var 10) (Var 5)) (Lam (equation
    0 (L (Var 15)) (Var 10) (Var 5)) (App (Var 4) (Var 1)))))))))) (App (App (Const 9) (Var 7)) (Var 2))))) (Lam (Pi (equation 0
    (Var 10) (Var 7) (Var 2)) (Fam 0)) (no (equation 0 (L (Var 11)) (cons (Var 11) (Var 8) (Var 7) (Var 6)) (cons (Var 11) (Var 3)
    (Var 2) (Var 1))) (Lam (equation 0 (L (Var 11)) (cons (Var 11) (Var 8) (Var 7) (Var 6)) (cons (Var 11) (Var 3) (Var 2) (Var
    1))) (App (App (App (App (App (App (App (App (Const 52) (Var 12)) (Var 9)) (Var 8)) (Var 7)) (cons (Var 12) (Var 4) (Var 3)
    (Var 2))) (Var 0)) (Lam (equation 0 (L (Var 12)) (cons (Var 12) (Var 9) (Var 8) (Var 7)) (cons (Var 12) (Var 4) (Var 3) (Var
    2))) (Fam 0))) (Lam (equation 0 (Var 12) (Var 9) (Var 4)) (Lam (equation 0 Nat (Var 9) (Var 4)) (Lam (equation 0 (L (Var 14))
    (Var 9) (Var 4)) (App (Var 4) (Var 2)))))))))) (App (App (Var 9) (Var 7)) (Var 2))))))) (Var 0)))))))) (Var 0))))
list_term = refl
