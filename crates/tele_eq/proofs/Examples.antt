-- Equations, transports and congruences of some telescopes, as they are in the types of no confusion.
use Rattle.std.proofs.Common.{◌≡◌, ℕ, List, [], ◌∷◌, refl}
use Rattle.theory.specs.Terms.{Term}
use Rattle.theory.specs.Terms.Term.{Var, Sort, Pi, Lam, App, Const, Fam, Con, Elim}
use Rattle.theory.specs.Signatures.{equality, equation, reflexivity}
use Rattle.tele_eq.specs.Items.{Item}
use Rattle.tele_eq.specs.Dependences.{dependences}
use Rattle.tele_eq.specs.TelescopicEquality.{equations, transport, elimination, reflexivities}
use Rattle.tele_eq.specs.Congruences.{congruences}

abbrev item_at : Term → (level : ℕ) → Item
item_at t level = record { type = t; level = level }

abbrev item : Term → Item
item t = item_at t 0

-- Eq.i!elim.m A a P d b e
abbrev J : (i m : ℕ) (A a P d b e : Term) → Term
J i m A a P d b e = App (App (App (App (App (App (Elim (equality i) m) A) a) P) d) b) e

-- entry 46: Nat, with zero and suc
abbrev Nat : Term
Nat = Fam 46

abbrev suc : Term → Term
suc n = App (Con 46 1) n

-- entry 47: Fin : Nat -> Type 0
abbrev Fin : Term → Term
Fin n = App (Fam 47) n

-- entry 48: Two : (n : Nat) -> Fin n -> Type 0, with two : (n : Nat) -> (i : Fin n) -> Two n i
abbrev Two : (n i : Term) → Term
Two n i = App (App (Fam 48) n) i

abbrev two : (n i : Term) → Term
two n i = App (App (Con 48 0) n) i

-- entry 49: Vec (A : Type 0) : Nat -> Type 0, with nil and cons : (n : Nat) -> A -> Vec A n -> Vec A (suc n)
abbrev Vec : (A n : Term) → Term
Vec A n = App (App (Fam 49) A) n

abbrev cons : (A n a v : Term) → Term
cons A n a v = App (App (App (App (Con 49 1) A) n) a) v

-- entry 50: Point : (X : Type 0) -> X -> Type 1, with point : (X : Type 0) -> (x : X) -> Point X x
abbrev Point : (X x : Term) → Term
Point X x = App (App (Fam 50) X) x

abbrev point : (X x : Term) → Term
point X x = App (App (Con 50 0) X) x

-- ---- a family with two indices, the second of which depends on the first

-- n : Nat, i : Fin n, t : Two n i
abbrev pair_of_indices : List Item
pair_of_indices = item Nat ∷ item (Fin (Var 0)) ∷ item (Two (Var 1) (Var 0)) ∷ []

both : dependences pair_of_indices 2 ≡ 0 ∷ 1 ∷ []
both = refl

-- a type that mentions i alone depends on n as well
by_way_of_another : dependences (item Nat ∷ item (Fin (Var 0)) ∷ item (App (Fam 0) (Var 0)) ∷ []) 2 ≡ 0 ∷ 1 ∷ []
by_way_of_another = refl

-- after n, i, n', i', t', with two n i on the left and t' on the right
two_equations : equations pair_of_indices (Var 4 ∷ Var 3 ∷ two (Var 4) (Var 3) ∷ []) (Var 2 ∷ Var 1 ∷ Var 0 ∷ [])
    ≡ equation 0 Nat (Var 4) (Var 2) ∷ equation 0 (Fin (Var 3)) (App (J 0 0 Nat (Var 5) (Lam Nat (Lam (equation 0 Nat (Var 6) (Var
    0)) (Pi (Fin (Var 7)) (Fin (Var 2))))) (Lam (Fin (Var 5)) (Var 0)) (Var 3) (Var 0)) (Var 4)) (Var 2) ∷ equation 0 (Two (Var 4)
    (Var 3)) (App (App (App (J 0 0 Nat (Var 6) (Lam Nat (Lam (equation 0 Nat (Var 7) (Var 0)) (Pi (Fin (Var 1)) (Pi (equation 0
    (Fin (Var 2)) (App (J 0 0 Nat (Var 9) (Lam Nat (Lam (equation 0 Nat (Var 10) (Var 0)) (Pi (Fin (Var 11)) (Fin (Var 2))))) (Lam
    (Fin (Var 9)) (Var 0)) (Var 2) (Var 1)) (Var 8)) (Var 0)) (Pi (Two (Var 10) (Var 9)) (Two (Var 4) (Var 2))))))) (Lam (Fin (Var
    6)) (Lam (equation 0 (Fin (Var 7)) (App (J 0 0 Nat (Var 7) (Lam Nat (Lam (equation 0 Nat (Var 8) (Var 0)) (Pi (Fin (Var 9))
    (Fin (Var 2))))) (Lam (Fin (Var 7)) (Var 0)) (Var 7) (reflexivity 0 Nat (Var 7))) (Var 6)) (Var 0)) (J 0 0 (Fin (Var 8)) (Var
    7) (Lam (Fin (Var 8)) (Lam (equation 0 (Fin (Var 9)) (Var 8) (Var 0)) (Pi (Two (Var 10) (Var 9)) (Two (Var 11) (Var 2)))))
    (Lam (Two (Var 8) (Var 7)) (Var 0)) (Var 1) (Var 0)))) (Var 4) (Var 1)) (Var 3)) (Var 0)) (two (Var 6) (Var 5))) (Var 2) ∷ []
two_equations = refl

-- after the equations of n and i too: two n i, transported to Two n' i'
two_transported : transport pair_of_indices 2 (Var 6 ∷ Var 5 ∷ two (Var 6) (Var 5) ∷ []) (Var 4 ∷ Var 3 ∷ Var 2 ∷ []) (Var 1 ∷ Var 0 ∷ [])
    ≡ App (App (App (J 0 0 Nat (Var 6) (Lam Nat (Lam (equation 0 Nat (Var 7) (Var 0)) (Pi (Fin (Var 1)) (Pi (equation 0 (Fin (Var
    2)) (App (J 0 0 Nat (Var 9) (Lam Nat (Lam (equation 0 Nat (Var 10) (Var 0)) (Pi (Fin (Var 11)) (Fin (Var 2))))) (Lam (Fin (Var
    9)) (Var 0)) (Var 2) (Var 1)) (Var 8)) (Var 0)) (Pi (Two (Var 10) (Var 9)) (Two (Var 4) (Var 2))))))) (Lam (Fin (Var 6)) (Lam
    (equation 0 (Fin (Var 7)) (App (J 0 0 Nat (Var 7) (Lam Nat (Lam (equation 0 Nat (Var 8) (Var 0)) (Pi (Fin (Var 9)) (Fin (Var
    2))))) (Lam (Fin (Var 7)) (Var 0)) (Var 7) (reflexivity 0 Nat (Var 7))) (Var 6)) (Var 0)) (J 0 0 (Fin (Var 8)) (Var 7) (Lam
    (Fin (Var 8)) (Lam (equation 0 (Fin (Var 9)) (Var 8) (Var 0)) (Pi (Two (Var 10) (Var 9)) (Two (Var 11) (Var 2))))) (Lam (Two
    (Var 8) (Var 7)) (Var 0)) (Var 1) (Var 0)))) (Var 4) (Var 1)) (Var 3)) (Var 0)) (two (Var 6) (Var 5))
two_transported = refl

-- ---- a telescope with different levels

-- X : Type 0, x : X, p : Point X x
abbrev points : List Item
points = item_at (Sort 0) 1 ∷ item_at (Var 0) 0 ∷ item_at (Point (Var 1) (Var 0)) 1 ∷ []

-- after X, x, X', x', p', with point X x on the left and p' on the right
point_equations : equations points (Var 4 ∷ Var 3 ∷ point (Var 4) (Var 3) ∷ []) (Var 2 ∷ Var 1 ∷ Var 0 ∷ [])
    ≡ equation 1 (Sort 0) (Var 4) (Var 2) ∷ equation 0 (Var 3) (App (J 1 1 (Sort 0) (Var 5) (Lam (Sort 0) (Lam (equation 1
    (Sort 0) (Var 6) (Var 0)) (Pi (Var 7) (Var 2)))) (Lam (Var 5) (Var 0)) (Var 3) (Var 0)) (Var 4)) (Var 2) ∷ equation 1
    (Point (Var 4) (Var 3)) (App (App (App (J 1 1 (Sort 0) (Var 6) (Lam (Sort 0) (Lam (equation 1 (Sort 0) (Var 7) (Var 0))
    (Pi (Var 1) (Pi (equation 0 (Var 2) (App (J 1 1 (Sort 0) (Var 9) (Lam (Sort 0) (Lam (equation 1 (Sort 0) (Var 10) (Var
    0)) (Pi (Var 11) (Var 2)))) (Lam (Var 9) (Var 0)) (Var 2) (Var 1)) (Var 8)) (Var 0)) (Pi (Point (Var 10) (Var 9)) (Point
    (Var 4) (Var 2))))))) (Lam (Var 6) (Lam (equation 0 (Var 7) (App (J 1 1 (Sort 0) (Var 7) (Lam (Sort 0) (Lam (equation 1
    (Sort 0) (Var 8) (Var 0)) (Pi (Var 9) (Var 2)))) (Lam (Var 7) (Var 0)) (Var 7) (reflexivity 1 (Sort 0) (Var 7))) (Var
    6)) (Var 0)) (J 0 1 (Var 8) (Var 7) (Lam (Var 8) (Lam (equation 0 (Var 9) (Var 8) (Var 0)) (Pi (Point (Var 10) (Var 9))
    (Point (Var 11) (Var 2))))) (Lam (Point (Var 8) (Var 7)) (Var 0)) (Var 1) (Var 0)))) (Var 4) (Var 1)) (Var 3)) (Var 0))
    (point (Var 6) (Var 5))) (Var 2) ∷ []
point_equations = refl

-- ---- arguments of constructors

-- n : Nat
suc_congruence : congruences (item Nat ∷ []) (item Nat ∷ []) (suc (Var 0) ∷ []) (Var 5 ∷ []) (Var 3 ∷ []) (Var 0 ∷ [])
    ≡ J 0 0 Nat (Var 5) (Lam Nat (Lam (equation 0 Nat (Var 6) (Var 0)) (equation 0 Nat (suc (Var 7)) (suc (Var 1))))) (reflexivity 0
    Nat (suc (Var 5))) (Var 3) (Var 0) ∷ []
suc_congruence = refl

-- no confusion at suc, into Type 2: from the method at reflexivity into a constant applied to n, m and the equation of suc n and m
suc_elimination : elimination (item Nat ∷ []) 2 (App (Const 60) (Var 2))
    (Lam (Pi (equation 0 Nat (suc (Var 2)) (suc (Var 2))) (Sort 1)) (Lam (Pi (equation 0 Nat (Var 3) (Var 3)) (App (Var 1)
    (J 0 0 Nat (Var 4) (Lam Nat (Lam (equation 0 Nat (Var 5) (Var 0)) (equation 0 Nat (suc (Var 6)) (suc (Var 1)))))
    (reflexivity 0 Nat (suc (Var 4))) (Var 4) (Var 0)))) (App (Var 0) (reflexivity 0 Nat (Var 4))))) (suc (Var 2) ∷ []) (Var
    1 ∷ []) (Var 0 ∷ [])
    ≡ J 0 2 Nat (suc (Var 2)) (Lam Nat (Lam (equation 0 Nat (suc (Var 3)) (Var 0)) (App (App (App (Const 60) (Var 4)) (Var
    1)) (Var 0)))) (Lam (Pi (equation 0 Nat (suc (Var 2)) (suc (Var 2))) (Sort 1)) (Lam (Pi (equation 0 Nat (Var 3) (Var 3))
    (App (Var 1) (J 0 0 Nat (Var 4) (Lam Nat (Lam (equation 0 Nat (Var 5) (Var 0)) (equation 0 Nat (suc (Var 6)) (suc (Var
    1))))) (reflexivity 0 Nat (suc (Var 4))) (Var 4) (Var 0)))) (App (Var 0) (reflexivity 0 Nat (Var 4))))) (Var 1) (Var 0)
suc_elimination = refl

-- n : Nat, a : A, v : Vec A n, where A has 14 variables before it
abbrev cons_arguments : List Item
cons_arguments = item Nat ∷ item (Var 15) ∷ item (Vec (Var 16) (Var 1)) ∷ []

-- the type of v does not depend on a
not_on_a : dependences cons_arguments 2 ≡ 0 ∷ []
not_on_a = refl

-- suc n : Nat and cons A n a v : Vec A (suc n)
cons_congruences : congruences cons_arguments (item Nat ∷ item (Vec (Var 15) (Var 0)) ∷ [])
    (suc (Var 2) ∷ cons (Var 17) (Var 2) (Var 1) (Var 0) ∷ [])
    (Var 13 ∷ Var 12 ∷ Var 11 ∷ []) (Var 8 ∷ Var 7 ∷ Var 6 ∷ []) (Var 2 ∷ Var 1 ∷ Var 0 ∷ [])
    ≡ App (App (App (App (J 0 0 Nat (Var 13) (Lam Nat (Lam (equation 0 Nat (Var 14) (Var 0)) (Pi (Var 16) (Pi (equation 0 (Var 17)
    (Var 15) (Var 0)) (Pi (Vec (Var 18) (Var 3)) (Pi (equation 0 (Vec (Var 19) (Var 4)) (App (J 0 0 Nat (Var 18) (Lam Nat (Lam
    (equation 0 Nat (Var 19) (Var 0)) (Pi (Vec (Var 21) (Var 20)) (Vec (Var 22) (Var 2))))) (Lam (Vec (Var 19) (Var 18)) (Var 0))
    (Var 4) (Var 3)) (Var 16)) (Var 0)) (equation 0 Nat (suc (Var 19)) (suc (Var 5))))))))) (Lam (Var 14) (Lam (equation 0 (Var
    15) (Var 13) (Var 0)) (Lam (Vec (Var 16) (Var 15)) (Lam (equation 0 (Vec (Var 17) (Var 16)) (App (J 0 0 Nat (Var 16) (Lam Nat
    (Lam (equation 0 Nat (Var 17) (Var 0)) (Pi (Vec (Var 19) (Var 18)) (Vec (Var 20) (Var 2))))) (Lam (Vec (Var 17) (Var 16)) (Var
    0)) (Var 16) (reflexivity 0 Nat (Var 16))) (Var 14)) (Var 0)) (App (App (J 0 0 (Var 18) (Var 16) (Lam (Var 18) (Lam (equation
    0 (Var 19) (Var 17) (Var 0)) (Pi (Vec (Var 20) (Var 19)) (Pi (equation 0 (Vec (Var 21) (Var 20)) (App (J 0 0 Nat (Var 20) (Lam
    Nat (Lam (equation 0 Nat (Var 21) (Var 0)) (Pi (Vec (Var 23) (Var 22)) (Vec (Var 24) (Var 2))))) (Lam (Vec (Var 21) (Var 20))
    (Var 0)) (Var 20) (reflexivity 0 Nat (Var 20))) (Var 18)) (Var 0)) (equation 0 Nat (suc (Var 21)) (suc (Var 21))))))) (Lam
    (Vec (Var 18) (Var 17)) (Lam (equation 0 (Vec (Var 19) (Var 18)) (App (J 0 0 Nat (Var 18) (Lam Nat (Lam (equation 0 Nat (Var
    19) (Var 0)) (Pi (Vec (Var 21) (Var 20)) (Vec (Var 22) (Var 2))))) (Lam (Vec (Var 19) (Var 18)) (Var 0)) (Var 18) (reflexivity
    0 Nat (Var 18))) (Var 16)) (Var 0)) (J 0 0 (Vec (Var 20) (Var 19)) (Var 17) (Lam (Vec (Var 20) (Var 19)) (Lam (equation 0 (Vec
    (Var 21) (Var 20)) (Var 18) (Var 0)) (equation 0 Nat (suc (Var 21)) (suc (Var 21))))) (reflexivity 0 Nat (suc (Var 19))) (Var
    1) (Var 0)))) (Var 3) (Var 2)) (Var 1)) (Var 0)))))) (Var 8) (Var 2)) (Var 7)) (Var 1)) (Var 6)) (Var 0) ∷ App (App (App (App
    (J 0 0 Nat (Var 13) (Lam Nat (Lam (equation 0 Nat (Var 14) (Var 0)) (Pi (Var 16) (Pi (equation 0 (Var 17) (Var 15) (Var 0))
    (Pi (Vec (Var 18) (Var 3)) (Pi (equation 0 (Vec (Var 19) (Var 4)) (App (J 0 0 Nat (Var 18) (Lam Nat (Lam (equation 0 Nat (Var
    19) (Var 0)) (Pi (Vec (Var 21) (Var 20)) (Vec (Var 22) (Var 2))))) (Lam (Vec (Var 19) (Var 18)) (Var 0)) (Var 4) (Var 3)) (Var
    16)) (Var 0)) (equation 0 (Vec (Var 20) (suc (Var 5))) (App (J 0 0 Nat (suc (Var 19)) (Lam Nat (Lam (equation 0 Nat (suc (Var
    20)) (Var 0)) (Pi (Vec (Var 22) (suc (Var 21))) (Vec (Var 23) (Var 2))))) (Lam (Vec (Var 20) (suc (Var 19))) (Var 0)) (suc
    (Var 5)) (App (App (App (App (J 0 0 Nat (Var 19) (Lam Nat (Lam (equation 0 Nat (Var 20) (Var 0)) (Pi (Var 22) (Pi (equation 0
    (Var 23) (Var 21) (Var 0)) (Pi (Vec (Var 24) (Var 3)) (Pi (equation 0 (Vec (Var 25) (Var 4)) (App (J 0 0 Nat (Var 24) (Lam Nat
    (Lam (equation 0 Nat (Var 25) (Var 0)) (Pi (Vec (Var 27) (Var 26)) (Vec (Var 28) (Var 2))))) (Lam (Vec (Var 25) (Var 24)) (Var
    0)) (Var 4) (Var 3)) (Var 22)) (Var 0)) (equation 0 Nat (suc (Var 25)) (suc (Var 5))))))))) (Lam (Var 20) (Lam (equation 0
    (Var 21) (Var 19) (Var 0)) (Lam (Vec (Var 22) (Var 21)) (Lam (equation 0 (Vec (Var 23) (Var 22)) (App (J 0 0 Nat (Var 22) (Lam
    Nat (Lam (equation 0 Nat (Var 23) (Var 0)) (Pi (Vec (Var 25) (Var 24)) (Vec (Var 26) (Var 2))))) (Lam (Vec (Var 23) (Var 22))
    (Var 0)) (Var 22) (reflexivity 0 Nat (Var 22))) (Var 20)) (Var 0)) (App (App (J 0 0 (Var 24) (Var 22) (Lam (Var 24) (Lam
    (equation 0 (Var 25) (Var 23) (Var 0)) (Pi (Vec (Var 26) (Var 25)) (Pi (equation 0 (Vec (Var 27) (Var 26)) (App (J 0 0 Nat
    (Var 26) (Lam Nat (Lam (equation 0 Nat (Var 27) (Var 0)) (Pi (Vec (Var 29) (Var 28)) (Vec (Var 30) (Var 2))))) (Lam (Vec (Var
    27) (Var 26)) (Var 0)) (Var 26) (reflexivity 0 Nat (Var 26))) (Var 24)) (Var 0)) (equation 0 Nat (suc (Var 27)) (suc (Var
    27))))))) (Lam (Vec (Var 24) (Var 23)) (Lam (equation 0 (Vec (Var 25) (Var 24)) (App (J 0 0 Nat (Var 24) (Lam Nat (Lam
    (equation 0 Nat (Var 25) (Var 0)) (Pi (Vec (Var 27) (Var 26)) (Vec (Var 28) (Var 2))))) (Lam (Vec (Var 25) (Var 24)) (Var 0))
    (Var 24) (reflexivity 0 Nat (Var 24))) (Var 22)) (Var 0)) (J 0 0 (Vec (Var 26) (Var 25)) (Var 23) (Lam (Vec (Var 26) (Var 25))
    (Lam (equation 0 (Vec (Var 27) (Var 26)) (Var 24) (Var 0)) (equation 0 Nat (suc (Var 27)) (suc (Var 27))))) (reflexivity 0 Nat
    (suc (Var 25))) (Var 1) (Var 0)))) (Var 3) (Var 2)) (Var 1)) (Var 0)))))) (Var 5) (Var 4)) (Var 3)) (Var 2)) (Var 1)) (Var
    0))) (cons (Var 20) (Var 19) (Var 18) (Var 17))) (cons (Var 20) (Var 5) (Var 3) (Var 1))))))))) (Lam (Var 14) (Lam (equation 0
    (Var 15) (Var 13) (Var 0)) (Lam (Vec (Var 16) (Var 15)) (Lam (equation 0 (Vec (Var 17) (Var 16)) (App (J 0 0 Nat (Var 16) (Lam
    Nat (Lam (equation 0 Nat (Var 17) (Var 0)) (Pi (Vec (Var 19) (Var 18)) (Vec (Var 20) (Var 2))))) (Lam (Vec (Var 17) (Var 16))
    (Var 0)) (Var 16) (reflexivity 0 Nat (Var 16))) (Var 14)) (Var 0)) (App (App (J 0 0 (Var 18) (Var 16) (Lam (Var 18) (Lam
    (equation 0 (Var 19) (Var 17) (Var 0)) (Pi (Vec (Var 20) (Var 19)) (Pi (equation 0 (Vec (Var 21) (Var 20)) (App (J 0 0 Nat
    (Var 20) (Lam Nat (Lam (equation 0 Nat (Var 21) (Var 0)) (Pi (Vec (Var 23) (Var 22)) (Vec (Var 24) (Var 2))))) (Lam (Vec (Var
    21) (Var 20)) (Var 0)) (Var 20) (reflexivity 0 Nat (Var 20))) (Var 18)) (Var 0)) (equation 0 (Vec (Var 22) (suc (Var 21)))
    (App (J 0 0 Nat (suc (Var 21)) (Lam Nat (Lam (equation 0 Nat (suc (Var 22)) (Var 0)) (Pi (Vec (Var 24) (suc (Var 23))) (Vec
    (Var 25) (Var 2))))) (Lam (Vec (Var 22) (suc (Var 21))) (Var 0)) (suc (Var 21)) (App (App (App (App (J 0 0 Nat (Var 21) (Lam
    Nat (Lam (equation 0 Nat (Var 22) (Var 0)) (Pi (Var 24) (Pi (equation 0 (Var 25) (Var 23) (Var 0)) (Pi (Vec (Var 26) (Var 3))
    (Pi (equation 0 (Vec (Var 27) (Var 4)) (App (J 0 0 Nat (Var 26) (Lam Nat (Lam (equation 0 Nat (Var 27) (Var 0)) (Pi (Vec (Var
    29) (Var 28)) (Vec (Var 30) (Var 2))))) (Lam (Vec (Var 27) (Var 26)) (Var 0)) (Var 4) (Var 3)) (Var 24)) (Var 0)) (equation 0
    Nat (suc (Var 27)) (suc (Var 5))))))))) (Lam (Var 22) (Lam (equation 0 (Var 23) (Var 21) (Var 0)) (Lam (Vec (Var 24) (Var 23))
    (Lam (equation 0 (Vec (Var 25) (Var 24)) (App (J 0 0 Nat (Var 24) (Lam Nat (Lam (equation 0 Nat (Var 25) (Var 0)) (Pi (Vec
    (Var 27) (Var 26)) (Vec (Var 28) (Var 2))))) (Lam (Vec (Var 25) (Var 24)) (Var 0)) (Var 24) (reflexivity 0 Nat (Var 24))) (Var
    22)) (Var 0)) (App (App (J 0 0 (Var 26) (Var 24) (Lam (Var 26) (Lam (equation 0 (Var 27) (Var 25) (Var 0)) (Pi (Vec (Var 28)
    (Var 27)) (Pi (equation 0 (Vec (Var 29) (Var 28)) (App (J 0 0 Nat (Var 28) (Lam Nat (Lam (equation 0 Nat (Var 29) (Var 0)) (Pi
    (Vec (Var 31) (Var 30)) (Vec (Var 32) (Var 2))))) (Lam (Vec (Var 29) (Var 28)) (Var 0)) (Var 28) (reflexivity 0 Nat (Var 28)))
    (Var 26)) (Var 0)) (equation 0 Nat (suc (Var 29)) (suc (Var 29))))))) (Lam (Vec (Var 26) (Var 25)) (Lam (equation 0 (Vec (Var
    27) (Var 26)) (App (J 0 0 Nat (Var 26) (Lam Nat (Lam (equation 0 Nat (Var 27) (Var 0)) (Pi (Vec (Var 29) (Var 28)) (Vec (Var
    30) (Var 2))))) (Lam (Vec (Var 27) (Var 26)) (Var 0)) (Var 26) (reflexivity 0 Nat (Var 26))) (Var 24)) (Var 0)) (J 0 0 (Vec
    (Var 28) (Var 27)) (Var 25) (Lam (Vec (Var 28) (Var 27)) (Lam (equation 0 (Vec (Var 29) (Var 28)) (Var 26) (Var 0)) (equation
    0 Nat (suc (Var 29)) (suc (Var 29))))) (reflexivity 0 Nat (suc (Var 27))) (Var 1) (Var 0)))) (Var 3) (Var 2)) (Var 1)) (Var
    0)))))) (Var 21) (reflexivity 0 Nat (Var 21))) (Var 3)) (Var 2)) (Var 1)) (Var 0))) (cons (Var 22) (Var 21) (Var 20) (Var
    19))) (cons (Var 22) (Var 21) (Var 3) (Var 1))))))) (Lam (Vec (Var 18) (Var 17)) (Lam (equation 0 (Vec (Var 19) (Var 18)) (App
    (J 0 0 Nat (Var 18) (Lam Nat (Lam (equation 0 Nat (Var 19) (Var 0)) (Pi (Vec (Var 21) (Var 20)) (Vec (Var 22) (Var 2))))) (Lam
    (Vec (Var 19) (Var 18)) (Var 0)) (Var 18) (reflexivity 0 Nat (Var 18))) (Var 16)) (Var 0)) (J 0 0 (Vec (Var 20) (Var 19)) (Var
    17) (Lam (Vec (Var 20) (Var 19)) (Lam (equation 0 (Vec (Var 21) (Var 20)) (Var 18) (Var 0)) (equation 0 (Vec (Var 22) (suc
    (Var 21))) (App (J 0 0 Nat (suc (Var 21)) (Lam Nat (Lam (equation 0 Nat (suc (Var 22)) (Var 0)) (Pi (Vec (Var 24) (suc (Var
    23))) (Vec (Var 25) (Var 2))))) (Lam (Vec (Var 22) (suc (Var 21))) (Var 0)) (suc (Var 21)) (App (App (App (App (J 0 0 Nat (Var
    21) (Lam Nat (Lam (equation 0 Nat (Var 22) (Var 0)) (Pi (Var 24) (Pi (equation 0 (Var 25) (Var 23) (Var 0)) (Pi (Vec (Var 26)
    (Var 3)) (Pi (equation 0 (Vec (Var 27) (Var 4)) (App (J 0 0 Nat (Var 26) (Lam Nat (Lam (equation 0 Nat (Var 27) (Var 0)) (Pi
    (Vec (Var 29) (Var 28)) (Vec (Var 30) (Var 2))))) (Lam (Vec (Var 27) (Var 26)) (Var 0)) (Var 4) (Var 3)) (Var 24)) (Var 0))
    (equation 0 Nat (suc (Var 27)) (suc (Var 5))))))))) (Lam (Var 22) (Lam (equation 0 (Var 23) (Var 21) (Var 0)) (Lam (Vec (Var
    24) (Var 23)) (Lam (equation 0 (Vec (Var 25) (Var 24)) (App (J 0 0 Nat (Var 24) (Lam Nat (Lam (equation 0 Nat (Var 25) (Var
    0)) (Pi (Vec (Var 27) (Var 26)) (Vec (Var 28) (Var 2))))) (Lam (Vec (Var 25) (Var 24)) (Var 0)) (Var 24) (reflexivity 0 Nat
    (Var 24))) (Var 22)) (Var 0)) (App (App (J 0 0 (Var 26) (Var 24) (Lam (Var 26) (Lam (equation 0 (Var 27) (Var 25) (Var 0)) (Pi
    (Vec (Var 28) (Var 27)) (Pi (equation 0 (Vec (Var 29) (Var 28)) (App (J 0 0 Nat (Var 28) (Lam Nat (Lam (equation 0 Nat (Var
    29) (Var 0)) (Pi (Vec (Var 31) (Var 30)) (Vec (Var 32) (Var 2))))) (Lam (Vec (Var 29) (Var 28)) (Var 0)) (Var 28) (reflexivity
    0 Nat (Var 28))) (Var 26)) (Var 0)) (equation 0 Nat (suc (Var 29)) (suc (Var 29))))))) (Lam (Vec (Var 26) (Var 25)) (Lam
    (equation 0 (Vec (Var 27) (Var 26)) (App (J 0 0 Nat (Var 26) (Lam Nat (Lam (equation 0 Nat (Var 27) (Var 0)) (Pi (Vec (Var 29)
    (Var 28)) (Vec (Var 30) (Var 2))))) (Lam (Vec (Var 27) (Var 26)) (Var 0)) (Var 26) (reflexivity 0 Nat (Var 26))) (Var 24))
    (Var 0)) (J 0 0 (Vec (Var 28) (Var 27)) (Var 25) (Lam (Vec (Var 28) (Var 27)) (Lam (equation 0 (Vec (Var 29) (Var 28)) (Var
    26) (Var 0)) (equation 0 Nat (suc (Var 29)) (suc (Var 29))))) (reflexivity 0 Nat (suc (Var 27))) (Var 1) (Var 0)))) (Var 3)
    (Var 2)) (Var 1)) (Var 0)))))) (Var 21) (reflexivity 0 Nat (Var 21))) (Var 20)) (reflexivity 0 (Var 22) (Var 20))) (Var 1))
    (Var 0))) (cons (Var 22) (Var 21) (Var 20) (Var 19))) (cons (Var 22) (Var 21) (Var 20) (Var 1))))) (reflexivity 0 (Vec (Var
    20) (suc (Var 19))) (cons (Var 20) (Var 19) (Var 18) (Var 17))) (Var 1) (Var 0)))) (Var 3) (Var 2)) (Var 1)) (Var 0)))))) (Var
    8) (Var 2)) (Var 7)) (Var 1)) (Var 6)) (Var 0) ∷ []
cons_congruences = refl

-- the reflexivities that no confusion at cons begins from
cons_reflexivities : reflexivities (item Nat ∷ item (Var 12) ∷ item (Vec (Var 13) (Var 1)) ∷ []) (Var 10 ∷ Var 9 ∷ Var 8 ∷ [])
    ≡ reflexivity 0 Nat (Var 10) ∷ reflexivity 0 (Var 11) (Var 9) ∷ reflexivity 0 (Vec (Var 11) (Var 10)) (Var 8) ∷ []
cons_reflexivities = refl
