-- Entries of course-of-values recursion.
use Rattle.std.proofs.Common.{◌≡◌, ℕ, ◌+◌, [], ◌∷◌, Ok, codes, refl}
use Rattle.theory.specs.Terms.Term.{Var, Sort, Pi, Lam, App, Const, Fam, Con, Elim}
use Rattle.theory.specs.Prelude.{unit_type, pair_type}
use Rattle.theory.specs.Signatures.{Definition}
use Rattle.case_below_gen.specs.CourseEntries.{course_of, below_type, below_term, aux_type, aux_term, aux_entry}
use Rattle.case_below_gen.specs.declared.sides.Side.TheVariants.{First, Second}
use Rattle.core_sig.specs.Drafts.{generated_name}
use Rattle.core_sig.specs.FamilyShapes.{family_shape}
use Rattle.case_below_gen.specs.Projections.{side_mark, side_entry_type, side_entry_term}
use Rattle.case_below_gen.proofs.Samples.{nat, vec, ord, acc}

-- (P : Nat -> Type m) -> Nat -> Type m
nat_below_type : (m : ℕ) → below_type 2 (family_shape 2 nat) m
    ≡ Pi (Pi (Fam 2) (Sort m)) (Pi (Fam 2) (Sort m))
nat_below_type m = refl

-- \P n. Nat!elim.(m+1) (\n. Type m) Unit.m (\n h. Pair.m (Pair.m (P n) h) Unit.m) n
nat_below_term : (m : ℕ) → below_term 2 (family_shape 2 nat) m
    ≡ Lam (Pi (Fam 2) (Sort m)) (Lam (Fam 2) (App (App (App (App (Elim 2 (m + 1)) (Lam (Fam 2) (Sort m))) (Fam (unit_type m))) (Lam (Fam 2) (Lam (Sort m) (App (App (Fam (pair_type m)) (App (App (Fam (pair_type m)) (App (Var 3) (Var 1))) (Var 0))) (Fam (unit_type m)))))) (Var 0)))
nat_below_term m = refl

-- (A : Type 0) -> (P : (n : Nat) -> Vec A n -> Type m) -> (n : Nat) -> Vec A n -> Type m
vec_below_type : (m : ℕ) → below_type 3 (family_shape 3 vec) m
    ≡ Pi (Sort 0) (Pi (Pi (Fam 2) (Pi (App (App (Fam 3) (Var 1)) (Var 0)) (Sort m))) (Pi (Fam 2) (Pi (App (App (Fam 3) (Var 2)) (Var 0)) (Sort m))))
vec_below_type m = refl

-- the method for cons: \n a v h. Pair.m (Pair.m (P n v) h) Unit.m
vec_below_term : (m : ℕ) → below_term 3 (family_shape 3 vec) m
    ≡ Lam (Sort 0) (Lam (Pi (Fam 2) (Pi (App (App (Fam 3) (Var 1)) (Var 0)) (Sort m))) (Lam (Fam 2) (Lam (App (App (Fam 3) (Var 2)) (Var 0)) (App (App (App (App (App (App (Elim 3 (m + 1)) (Var 3)) (Lam (Fam 2) (Lam (App (App (Fam 3) (Var 4)) (Var 0)) (Sort m)))) (Fam (unit_type m))) (Lam (Fam 2) (Lam (Var 4) (Lam (App (App (Fam 3) (Var 5)) (Var 1)) (Lam (Sort m) (App (App (Fam (pair_type m)) (App (App (Fam (pair_type m)) (App (App (Var 6) (Var 3)) (Var 1))) (Var 0))) (Fam (unit_type m)))))))) (Var 1)) (Var 0)))))
vec_below_term m = refl

-- the method for lim: \n f h. Pair.m ((i : Nat) -> Pair.m (P (f i)) (h i)) Unit.m
ord_below_term : (m : ℕ) → below_term 4 (family_shape 4 ord) m
    ≡ Lam (Pi (Fam 4) (Sort m)) (Lam (Fam 4) (App (App (App (Elim 4 (m + 1)) (Lam (Fam 4) (Sort m))) (Lam (Fam 2) (Lam (Pi (Fam 2) (Fam 4)) (Lam (Pi (Fam 2) (Sort m)) (App (App (Fam (pair_type m)) (Pi (Fam 2) (App (App (Fam (pair_type m)) (App (Var 5) (App (Var 2) (Var 0)))) (App (Var 1) (Var 0))))) (Fam (unit_type m))))))) (Var 0)))
ord_below_term m = refl

-- the method for acc: \x f h. Pair.m ((y : A) -> (r : R y x) -> Pair.m (P y (f y r)) (h y r)) Unit.m
acc_below_term : (m : ℕ) → below_term 5 (family_shape 5 acc) m
    ≡ Lam (Sort 0) (Lam (Pi (Var 0) (Pi (Var 1) (Sort 0))) (Lam (Pi (Var 1) (Pi (App (App (App (Fam 5) (Var 2)) (Var 1)) (Var 0)) (Sort m))) (Lam (Var 2) (Lam (App (App (App (Fam 5) (Var 3)) (Var 2)) (Var 0)) (App (App (App (App (App (App (Elim 5 (m + 1)) (Var 4)) (Var 3)) (Lam (Var 4) (Lam (App (App (App (Fam 5) (Var 5)) (Var 4)) (Var 0)) (Sort m)))) (Lam (Var 4) (Lam (Pi (Var 5) (Pi (App (App (Var 5) (Var 0)) (Var 1)) (App (App (App (Fam 5) (Var 7)) (Var 6)) (Var 1)))) (Lam (Pi (Var 6) (Pi (App (App (Var 6) (Var 0)) (Var 2)) (Sort m))) (App (App (Fam (pair_type m)) (Pi (Var 7) (Pi (App (App (Var 7) (Var 0)) (Var 3)) (App (App (Fam (pair_type m)) (App (App (Var 7) (Var 1)) (App (App (Var 3) (Var 1)) (Var 0)))) (App (App (Var 2) (Var 1)) (Var 0)))))) (Fam (unit_type m))))))) (Var 1)) (Var 0))))))
acc_below_term m = refl

-- (P : Nat -> Type m) -> (s : (n : Nat) -> Nat!below.m P n -> P n) -> (n : Nat) -> Pair.m (P n) (Nat!below.m P n)
nat_aux_type : (m b : ℕ) → aux_type 2 (family_shape 2 nat) (course_of (family_shape 2 nat) m b)
    ≡ Pi (Pi (Fam 2) (Sort m)) (Pi (Pi (Fam 2) (Pi (App (App (Const b) (Var 1)) (Var 0)) (App (Var 2) (Var 1)))) (Pi (Fam 2) (App (App (Fam (pair_type m)) (App (Var 2) (Var 0))) (App (App (Const b) (Var 2)) (Var 0)))))
nat_aux_type m b = refl

-- the method for suc: \n h. pair.m .. (s (suc n) t) t, with t = pair.m .. h unit.m
nat_aux_term : (m b : ℕ) → aux_term 2 (family_shape 2 nat) (course_of (family_shape 2 nat) m b)
    ≡ Lam (Pi (Fam 2) (Sort m)) (Lam (Pi (Fam 2) (Pi (App (App (Const b) (Var 1)) (Var 0)) (App (Var 2) (Var 1)))) (Lam (Fam 2) (App (App (App (App (Elim 2 m) (Lam (Fam 2) (App (App (Fam (pair_type m)) (App (Var 3) (Var 0))) (App (App (Const b) (Var 3)) (Var 0))))) (App (App (App (App (Con (pair_type m) 0) (App (Var 2) (Con 2 0))) (App (App (Const b) (Var 2)) (Con 2 0))) (App (App (Var 1) (Con 2 0)) (Con (unit_type m) 0))) (Con (unit_type m) 0))) (Lam (Fam 2) (Lam (App (App (Fam (pair_type m)) (App (Var 3) (Var 0))) (App (App (Const b) (Var 3)) (Var 0))) (App (App (App (App (Con (pair_type m) 0) (App (Var 4) (App (Con 2 1) (Var 1)))) (App (App (Const b) (Var 4)) (App (Con 2 1) (Var 1)))) (App (App (Var 3) (App (Con 2 1) (Var 1))) (App (App (App (App (Con (pair_type m) 0) (App (App (Fam (pair_type m)) (App (Var 4) (Var 1))) (App (App (Const b) (Var 4)) (Var 1)))) (Fam (unit_type m))) (Var 0)) (Con (unit_type m) 0)))) (App (App (App (App (Con (pair_type m) 0) (App (App (Fam (pair_type m)) (App (Var 4) (Var 1))) (App (App (Const b) (Var 4)) (Var 1)))) (Fam (unit_type m))) (Var 0)) (Con (unit_type m) 0)))))) (Var 0))))
nat_aux_term m b = refl

-- (A) -> (P) -> (s : (n : Nat) -> (v : Vec A n) -> Vec!below.m A P n v -> P n v) -> (n) -> (v) -> Pair.m (P n v) (Vec!below.m A P n v)
vec_aux_type : (m b : ℕ) → aux_type 3 (family_shape 3 vec) (course_of (family_shape 3 vec) m b)
    ≡ Pi (Sort 0) (Pi (Pi (Fam 2) (Pi (App (App (Fam 3) (Var 1)) (Var 0)) (Sort m))) (Pi (Pi (Fam 2) (Pi (App (App (Fam 3) (Var 2)) (Var 0)) (Pi (App (App (App (App (Const b) (Var 3)) (Var 2)) (Var 1)) (Var 0)) (App (App (Var 3) (Var 2)) (Var 1))))) (Pi (Fam 2) (Pi (App (App (Fam 3) (Var 3)) (Var 0)) (App (App (Fam (pair_type m)) (App (App (Var 3) (Var 1)) (Var 0))) (App (App (App (App (Const b) (Var 4)) (Var 3)) (Var 1)) (Var 0)))))))
vec_aux_type m b = refl

-- the method for cons: \n a v h. pair.m .. (s (suc n) (cons A n a v) t) t, with t = pair.m .. h unit.m
vec_aux_term : (m b : ℕ) → aux_term 3 (family_shape 3 vec) (course_of (family_shape 3 vec) m b)
    ≡ Lam (Sort 0) (Lam (Pi (Fam 2) (Pi (App (App (Fam 3) (Var 1)) (Var 0)) (Sort m))) (Lam (Pi (Fam 2) (Pi (App (App (Fam 3) (Var 2)) (Var 0)) (Pi (App (App (App (App (Const b) (Var 3)) (Var 2)) (Var 1)) (Var 0)) (App (App (Var 3) (Var 2)) (Var 1))))) (Lam (Fam 2) (Lam (App (App (Fam 3) (Var 3)) (Var 0)) (App (App (App (App (App (App (Elim 3 m) (Var 4)) (Lam (Fam 2) (Lam (App (App (Fam 3) (Var 5)) (Var 0)) (App (App (Fam (pair_type m)) (App (App (Var 5) (Var 1)) (Var 0))) (App (App (App (App (Const b) (Var 6)) (Var 5)) (Var 1)) (Var 0)))))) (App (App (App (App (Con (pair_type m) 0) (App (App (Var 3) (Con 2 0)) (App (Con 3 0) (Var 4)))) (App (App (App (App (Const b) (Var 4)) (Var 3)) (Con 2 0)) (App (Con 3 0) (Var 4)))) (App (App (App (Var 2) (Con 2 0)) (App (Con 3 0) (Var 4))) (Con (unit_type m) 0))) (Con (unit_type m) 0))) (Lam (Fam 2) (Lam (Var 5) (Lam (App (App (Fam 3) (Var 6)) (Var 1)) (Lam (App (App (Fam (pair_type m)) (App (App (Var 6) (Var 2)) (Var 0))) (App (App (App (App (Const b) (Var 7)) (Var 6)) (Var 2)) (Var 0))) (App (App (App (App (Con (pair_type m) 0) (App (App (Var 7) (App (Con 2 1) (Var 3))) (App (App (App (App (Con 3 1) (Var 8)) (Var 3)) (Var 2)) (Var 1)))) (App (App (App (App (Const b) (Var 8)) (Var 7)) (App (Con 2 1) (Var 3))) (App (App (App (App (Con 3 1) (Var 8)) (Var 3)) (Var 2)) (Var 1)))) (App (App (App (Var 6) (App (Con 2 1) (Var 3))) (App (App (App (App (Con 3 1) (Var 8)) (Var 3)) (Var 2)) (Var 1))) (App (App (App (App (Con (pair_type m) 0) (App (App (Fam (pair_type m)) (App (App (Var 7) (Var 3)) (Var 1))) (App (App (App (App (Const b) (Var 8)) (Var 7)) (Var 3)) (Var 1)))) (Fam (unit_type m))) (Var 0)) (Con (unit_type m) 0)))) (App (App (App (App (Con (pair_type m) 0) (App (App (Fam (pair_type m)) (App (App (Var 7) (Var 3)) (Var 1))) (App (App (App (App (Const b) (Var 8)) (Var 7)) (Var 3)) (Var 1)))) (Fam (unit_type m))) (Var 0)) (Con (unit_type m) 0)))))))) (Var 1)) (Var 0))))))
vec_aux_term m b = refl

-- the hypothesis of acc: (y : A) -> (r : R y x) -> Pair.m (P y (f y r)) (Acc!below.m A R P y (f y r))
acc_aux_term : (m b : ℕ) → aux_term 5 (family_shape 5 acc) (course_of (family_shape 5 acc) m b)
    ≡ Lam (Sort 0) (Lam (Pi (Var 0) (Pi (Var 1) (Sort 0))) (Lam (Pi (Var 1) (Pi (App (App (App (Fam 5) (Var 2)) (Var 1)) (Var 0)) (Sort m))) (Lam (Pi (Var 2) (Pi (App (App (App (Fam 5) (Var 3)) (Var 2)) (Var 0)) (Pi (App (App (App (App (App (Const b) (Var 4)) (Var 3)) (Var 2)) (Var 1)) (Var 0)) (App (App (Var 3) (Var 2)) (Var 1))))) (Lam (Var 3) (Lam (App (App (App (Fam 5) (Var 4)) (Var 3)) (Var 0)) (App (App (App (App (App (App (Elim 5 m) (Var 5)) (Var 4)) (Lam (Var 5) (Lam (App (App (App (Fam 5) (Var 6)) (Var 5)) (Var 0)) (App (App (Fam (pair_type m)) (App (App (Var 5) (Var 1)) (Var 0))) (App (App (App (App (App (Const b) (Var 7)) (Var 6)) (Var 5)) (Var 1)) (Var 0)))))) (Lam (Var 5) (Lam (Pi (Var 6) (Pi (App (App (Var 6) (Var 0)) (Var 1)) (App (App (App (Fam 5) (Var 8)) (Var 7)) (Var 1)))) (Lam (Pi (Var 7) (Pi (App (App (Var 7) (Var 0)) (Var 2)) (App (App (Fam (pair_type m)) (App (App (Var 7) (Var 1)) (App (App (Var 2) (Var 1)) (Var 0)))) (App (App (App (App (App (Const b) (Var 9)) (Var 8)) (Var 7)) (Var 1)) (App (App (Var 2) (Var 1)) (Var 0)))))) (App (App (App (App (Con (pair_type m) 0) (App (App (Var 6) (Var 2)) (App (App (App (App (Con 5 0) (Var 8)) (Var 7)) (Var 2)) (Var 1)))) (App (App (App (App (App (Const b) (Var 8)) (Var 7)) (Var 6)) (Var 2)) (App (App (App (App (Con 5 0) (Var 8)) (Var 7)) (Var 2)) (Var 1)))) (App (App (App (Var 5) (Var 2)) (App (App (App (App (Con 5 0) (Var 8)) (Var 7)) (Var 2)) (Var 1))) (App (App (App (App (Con (pair_type m) 0) (Pi (Var 8) (Pi (App (App (Var 8) (Var 0)) (Var 3)) (App (App (Fam (pair_type m)) (App (App (Var 8) (Var 1)) (App (App (Var 3) (Var 1)) (Var 0)))) (App (App (App (App (App (Const b) (Var 10)) (Var 9)) (Var 8)) (Var 1)) (App (App (Var 3) (Var 1)) (Var 0))))))) (Fam (unit_type m))) (Var 0)) (Con (unit_type m) 0)))) (App (App (App (App (Con (pair_type m) 0) (Pi (Var 8) (Pi (App (App (Var 8) (Var 0)) (Var 3)) (App (App (Fam (pair_type m)) (App (App (Var 8) (Var 1)) (App (App (Var 3) (Var 1)) (Var 0)))) (App (App (App (App (App (Const b) (Var 10)) (Var 9)) (Var 8)) (Var 1)) (App (App (Var 3) (Var 1)) (Var 0))))))) (Fam (unit_type m))) (Var 0)) (Con (unit_type m) 0))))))) (Var 1)) (Var 0)))))))
acc_aux_term m b = refl

-- (P : Nat -> Type m) -> (s : (n : Nat) -> Nat!below.m P n -> P n) -> (n : Nat) -> P n
nat_rec_type : (m b : ℕ) → side_entry_type First 2 (family_shape 2 nat) (course_of (family_shape 2 nat) m b)
    ≡ Pi (Pi (Fam 2) (Sort m)) (Pi (Pi (Fam 2) (Pi (App (App (Const b) (Var 1)) (Var 0)) (App (Var 2) (Var 1)))) (Pi (Fam 2) (App (Var 2) (Var 0))))
nat_rec_type m b = refl

-- \P s n. the first side of Nat!aux.m P s n
nat_rec_term : (m b : ℕ) → side_entry_term First 2 (family_shape 2 nat) (course_of (family_shape 2 nat) m b) (b + 1)
    ≡ Lam (Pi (Fam 2) (Sort m)) (Lam (Pi (Fam 2) (Pi (App (App (Const b) (Var 1)) (Var 0)) (App (Var 2) (Var 1)))) (Lam (Fam 2) (App (App (App (App (App (Elim (pair_type m) m) (App (Var 2) (Var 0))) (App (App (Const b) (Var 2)) (Var 0))) (Lam (App (App (Fam (pair_type m)) (App (Var 2) (Var 0))) (App (App (Const b) (Var 2)) (Var 0))) (App (Var 3) (Var 1)))) (Lam (App (Var 2) (Var 0)) (Lam (App (App (Const b) (Var 3)) (Var 1)) (Var 1)))) (App (App (App (Const (b + 1)) (Var 2)) (Var 1)) (Var 0)))))
nat_rec_term m b = refl

-- the first side of Vec!aux.m A P s n v
vec_rec_term : (m b : ℕ) → side_entry_term First 3 (family_shape 3 vec) (course_of (family_shape 3 vec) m b) (b + 1)
    ≡ Lam (Sort 0) (Lam (Pi (Fam 2) (Pi (App (App (Fam 3) (Var 1)) (Var 0)) (Sort m))) (Lam (Pi (Fam 2) (Pi (App (App (Fam 3) (Var 2)) (Var 0)) (Pi (App (App (App (App (Const b) (Var 3)) (Var 2)) (Var 1)) (Var 0)) (App (App (Var 3) (Var 2)) (Var 1))))) (Lam (Fam 2) (Lam (App (App (Fam 3) (Var 3)) (Var 0)) (App (App (App (App (App (Elim (pair_type m) m) (App (App (Var 3) (Var 1)) (Var 0))) (App (App (App (App (Const b) (Var 4)) (Var 3)) (Var 1)) (Var 0))) (Lam (App (App (Fam (pair_type m)) (App (App (Var 3) (Var 1)) (Var 0))) (App (App (App (App (Const b) (Var 4)) (Var 3)) (Var 1)) (Var 0))) (App (App (Var 4) (Var 2)) (Var 1)))) (Lam (App (App (Var 3) (Var 1)) (Var 0)) (Lam (App (App (App (App (Const b) (Var 5)) (Var 4)) (Var 2)) (Var 1)) (Var 1)))) (App (App (App (App (App (Const (b + 1)) (Var 4)) (Var 3)) (Var 2)) (Var 1)) (Var 0)))))))
vec_rec_term m b = refl

-- (A) -> (P) -> (s) -> (n : Nat) -> (v : Vec A n) -> Vec!below.m A P n v
vec_all_type : (m b : ℕ) → side_entry_type Second 3 (family_shape 3 vec) (course_of (family_shape 3 vec) m b)
    ≡ Pi (Sort 0) (Pi (Pi (Fam 2) (Pi (App (App (Fam 3) (Var 1)) (Var 0)) (Sort m))) (Pi (Pi (Fam 2) (Pi (App (App (Fam 3) (Var 2)) (Var 0)) (Pi (App (App (App (App (Const b) (Var 3)) (Var 2)) (Var 1)) (Var 0)) (App (App (Var 3) (Var 2)) (Var 1))))) (Pi (Fam 2) (Pi (App (App (Fam 3) (Var 3)) (Var 0)) (App (App (App (App (Const b) (Var 4)) (Var 3)) (Var 1)) (Var 0))))))
vec_all_type m b = refl

-- the second side of Vec!aux.m A P s n v
vec_all_term : (m b : ℕ) → side_entry_term Second 3 (family_shape 3 vec) (course_of (family_shape 3 vec) m b) (b + 1)
    ≡ Lam (Sort 0) (Lam (Pi (Fam 2) (Pi (App (App (Fam 3) (Var 1)) (Var 0)) (Sort m))) (Lam (Pi (Fam 2) (Pi (App (App (Fam 3) (Var 2)) (Var 0)) (Pi (App (App (App (App (Const b) (Var 3)) (Var 2)) (Var 1)) (Var 0)) (App (App (Var 3) (Var 2)) (Var 1))))) (Lam (Fam 2) (Lam (App (App (Fam 3) (Var 3)) (Var 0)) (App (App (App (App (App (Elim (pair_type m) m) (App (App (Var 3) (Var 1)) (Var 0))) (App (App (App (App (Const b) (Var 4)) (Var 3)) (Var 1)) (Var 0))) (Lam (App (App (Fam (pair_type m)) (App (App (Var 3) (Var 1)) (Var 0))) (App (App (App (App (Const b) (Var 4)) (Var 3)) (Var 1)) (Var 0))) (App (App (App (App (Const b) (Var 5)) (Var 4)) (Var 2)) (Var 1)))) (Lam (App (App (Var 3) (Var 1)) (Var 0)) (Lam (App (App (App (App (Const b) (Var 5)) (Var 4)) (Var 2)) (Var 1)) (Var 0)))) (App (App (App (App (App (Const (b + 1)) (Var 4)) (Var 3)) (Var 2)) (Var 1)) (Var 0)))))))
vec_all_term m b = refl

-- the second side of Acc!aux.m A R P s x q
acc_all_term : (m b : ℕ) → side_entry_term Second 5 (family_shape 5 acc) (course_of (family_shape 5 acc) m b) (b + 1)
    ≡ Lam (Sort 0) (Lam (Pi (Var 0) (Pi (Var 1) (Sort 0))) (Lam (Pi (Var 1) (Pi (App (App (App (Fam 5) (Var 2)) (Var 1)) (Var 0)) (Sort m))) (Lam (Pi (Var 2) (Pi (App (App (App (Fam 5) (Var 3)) (Var 2)) (Var 0)) (Pi (App (App (App (App (App (Const b) (Var 4)) (Var 3)) (Var 2)) (Var 1)) (Var 0)) (App (App (Var 3) (Var 2)) (Var 1))))) (Lam (Var 3) (Lam (App (App (App (Fam 5) (Var 4)) (Var 3)) (Var 0)) (App (App (App (App (App (Elim (pair_type m) m) (App (App (Var 3) (Var 1)) (Var 0))) (App (App (App (App (App (Const b) (Var 5)) (Var 4)) (Var 3)) (Var 1)) (Var 0))) (Lam (App (App (Fam (pair_type m)) (App (App (Var 3) (Var 1)) (Var 0))) (App (App (App (App (App (Const b) (Var 5)) (Var 4)) (Var 3)) (Var 1)) (Var 0))) (App (App (App (App (App (Const b) (Var 6)) (Var 5)) (Var 4)) (Var 2)) (Var 1)))) (Lam (App (App (Var 3) (Var 1)) (Var 0)) (Lam (App (App (App (App (App (Const b) (Var 6)) (Var 5)) (Var 4)) (Var 2)) (Var 1)) (Var 0)))) (App (App (App (App (App (App (Const (b + 1)) (Var 5)) (Var 4)) (Var 3)) (Var 2)) (Var 1)) (Var 0))))))))
acc_all_term m b = refl

-- a whole draft, and the names of others
nat_aux_entry : aux_entry 50 2 nat 1
    ≡ Ok (record {
      entry = Definition (codes "Nat!aux.1") (aux_type 2 (family_shape 2 nat) (course_of (family_shape 2 nat) 1 50)) (aux_term 2 (family_shape 2 nat) (course_of (family_shape 2 nat) 1 50));
      base = 50;
      names = codes "Nat!below.1" ∷ [];
    })
nat_aux_entry = refl

name_of_case : generated_name (codes "Nat") (codes "!case.") 0 ≡ codes "Nat!case.0"
name_of_case = refl

name_of_all : generated_name (codes "Vec") (side_mark Second) 61 ≡ codes "Vec!all.61"
name_of_all = refl
