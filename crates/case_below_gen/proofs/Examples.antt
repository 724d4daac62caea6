-- Entries of case analysis, as a reader would write them.
use Rattle.std.proofs.Common.{◌≡◌, ℕ, refl}
use Rattle.theory.specs.Terms.{Term}
use Rattle.theory.specs.Terms.Term.{Var, Sort, Pi, Lam, App, Fam, Con, Elim}
use Rattle.case_below_gen.specs.CaseEntries.{case_type, case_term}
use Rattle.core_sig.specs.FamilyShapes.{family_shape}
use Rattle.case_below_gen.proofs.Samples.{Nat, nat, Vec, vec, ord, acc}

-- (P : Nat -> Type m) -> P zero -> ((n : Nat) -> P (suc n)) -> (n : Nat) -> P n
nat_case_type : (m : ℕ) → case_type 2 (family_shape 2 nat) m
    ≡ Pi (Pi Nat (Sort m))
    (Pi (App (Var 0) (Con 2 0))
    (Pi (Pi Nat (App (Var 2) (App (Con 2 1) (Var 0))))
    (Pi Nat
    (App (Var 3) (Var 0)))))
nat_case_type m = refl

-- \P z s n. Nat!elim.m P z (\n h. s n) n
nat_case_term : (m : ℕ) → case_term 2 (family_shape 2 nat) m
    ≡ Lam (Pi Nat (Sort m))
    (Lam (App (Var 0) (Con 2 0))
    (Lam (Pi Nat (App (Var 2) (App (Con 2 1) (Var 0))))
    (Lam Nat
    (App (App (App (App (Elim 2 m) (Var 3)) (Var 2)) (Lam Nat (Lam (App (Var 4) (Var 0)) (App (Var 3) (Var 1))))) (Var 0)))))
nat_case_term m = refl

abbrev cons : Term → Term → Term → Term → Term
cons A n a v = App (App (App (App (Con 3 1) A) n) a) v

-- (A : Type 0) -> (P : (n : Nat) -> Vec A n -> Type m) -> P zero (nil A)
--     -> ((n : Nat) -> (a : A) -> (v : Vec A n) -> P (suc n) (cons A n a v)) -> (n : Nat) -> (v : Vec A n) -> P n v
vec_case_type : (m : ℕ) → case_type 3 (family_shape 3 vec) m
    ≡ Pi (Sort 0)
    (Pi (Pi Nat (Pi (Vec (Var 1) (Var 0)) (Sort m)))
    (Pi (App (App (Var 0) (Con 2 0)) (App (Con 3 0) (Var 1)))
    (Pi (Pi Nat (Pi (Var 3) (Pi (Vec (Var 4) (Var 1)) (App (App (Var 4) (App (Con 2 1) (Var 2))) (cons (Var 5) (Var 2) (Var 1) (Var 0))))))
    (Pi Nat (Pi (Vec (Var 4) (Var 0))
    (App (App (Var 4) (Var 1)) (Var 0)))))))
vec_case_type m = refl

-- \A P e c n v. Vec!elim.m A P e (\n a v h. c n a v) n v
vec_case_term : (m : ℕ) → case_term 3 (family_shape 3 vec) m
    ≡ Lam (Sort 0)
    (Lam (Pi Nat (Pi (Vec (Var 1) (Var 0)) (Sort m)))
    (Lam (App (App (Var 0) (Con 2 0)) (App (Con 3 0) (Var 1)))
    (Lam (Pi Nat (Pi (Var 3) (Pi (Vec (Var 4) (Var 1)) (App (App (Var 4) (App (Con 2 1) (Var 2))) (cons (Var 5) (Var 2) (Var 1) (Var 0))))))
    (Lam Nat (Lam (Vec (Var 4) (Var 0))
    (App (App
    (App (App (App (App (Elim 3 m) (Var 5)) (Var 4)) (Var 3))
    (Lam Nat (Lam (Var 6) (Lam (Vec (Var 7) (Var 1)) (Lam (App (App (Var 7) (Var 2)) (Var 0)) (App (App (App (Var 6) (Var 3)) (Var 2)) (Var 1)))))))
    (Var 1)) (Var 0)))))))
vec_case_term m = refl

-- \P l o. Ord!elim.m P (\n f h. l n f) o, with h : (i : Nat) -> P (f i)
ord_case_term : (m : ℕ) → case_term 4 (family_shape 4 ord) m
    ≡ Lam (Pi (Fam 4) (Sort m))
    (Lam (Pi Nat (Pi (Pi Nat (Fam 4)) (App (Var 2) (App (App (Con 4 0) (Var 1)) (Var 0)))))
    (Lam (Fam 4)
    (App (App (App (Elim 4 m) (Var 2))
    (Lam Nat (Lam (Pi Nat (Fam 4)) (Lam (Pi Nat (App (Var 5) (App (Var 1) (Var 0)))) (App (App (Var 4) (Var 2)) (Var 1))))))
    (Var 0))))
ord_case_term m = refl

abbrev Acc : Term → Term → Term → Term
Acc A R x = App (App (App (Fam 5) A) R) x

-- \A R P a x q. Acc!elim.m A R P (\x f h. a x f) x q, with h : (y : A) -> (r : R y x) -> P y (f y r)
acc_case_term : (m : ℕ) → case_term 5 (family_shape 5 acc) m
    ≡ Lam (Sort 0)
    (Lam (Pi (Var 0) (Pi (Var 1) (Sort 0)))
    (Lam (Pi (Var 1) (Pi (Acc (Var 2) (Var 1) (Var 0)) (Sort m)))
    (Lam (Pi (Var 2) (Pi (Pi (Var 3) (Pi (App (App (Var 3) (Var 0)) (Var 1)) (Acc (Var 5) (Var 4) (Var 1))))
    (App (App (Var 2) (Var 1)) (App (App (App (App (Con 5 0) (Var 4)) (Var 3)) (Var 1)) (Var 0)))))
    (Lam (Var 3)
    (Lam (Acc (Var 4) (Var 3) (Var 0))
    (App (App
    (App (App (App (App (Elim 5 m) (Var 5)) (Var 4)) (Var 3))
    (Lam (Var 5) (Lam (Pi (Var 6) (Pi (App (App (Var 6) (Var 0)) (Var 1)) (Acc (Var 8) (Var 7) (Var 1))))
    (Lam (Pi (Var 7) (Pi (App (App (Var 7) (Var 0)) (Var 2)) (App (App (Var 7) (Var 1)) (App (App (Var 2) (Var 1)) (Var 0)))))
    (App (App (Var 5) (Var 2)) (Var 1))))))
    (Var 1)) (Var 0)))))))
acc_case_term m = refl
