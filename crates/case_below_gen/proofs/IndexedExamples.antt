-- Entries of a family whose index is a number, and of one with two indices that depend on each other.
use Rattle.std.proofs.Common.{◌≡◌, refl}
use Rattle.theory.specs.Terms.Term.{Var, Sort, Pi, Lam, App, Const, Fam, Con, Elim}
use Rattle.theory.specs.Prelude.{unit_type, pair_type}
use Rattle.core_sig.specs.FamilyShapes.{family_shape}
use Rattle.case_below_gen.specs.CaseEntries.{case_type, case_term}
use Rattle.case_below_gen.specs.CourseEntries.{course_of, below_term, aux_type, aux_term}
use Rattle.case_below_gen.specs.Projections.{side_entry_type, side_entry_term}
use Rattle.case_below_gen.specs.declared.sides.Side.TheVariants.{First, Second}
use Rattle.case_below_gen.proofs.Samples.{fin, dep}

-- (P : (n : Nat) -> Fin n -> Type 0) -> ((n : Nat) -> P (suc n) (fzero n)) -> ((n : Nat) -> (i : Fin n) -> P (suc n) (fsuc n i)) -> (n : Nat) -> (i : Fin n) -> P n i
fin_case_type : case_type 6 (family_shape 6 fin) 0
    ≡ Pi (Pi (Fam 2) (Pi (App (Fam 6) (Var 0)) (Sort 0))) (Pi (Pi (Fam 2) (App (App (Var 1) (App (Con 2 1) (Var 0))) (App (Con 6 0) (Var 0)))) (Pi (Pi (Fam 2) (Pi (App (Fam 6) (Var 0)) (App (App (Var 3) (App (Con 2 1) (Var 1))) (App (App (Con 6 1) (Var 1)) (Var 0))))) (Pi (Fam 2) (Pi (App (Fam 6) (Var 0)) (App (App (Var 4) (Var 1)) (Var 0))))))
fin_case_type = refl

-- the methods for fzero and fsuc: \n. Unit.0, and \n i h. Pair.0 (Pair.0 (P n i) h) Unit.0
fin_below_term : below_term 6 (family_shape 6 fin) 0
    ≡ Lam (Pi (Fam 2) (Pi (App (Fam 6) (Var 0)) (Sort 0))) (Lam (Fam 2) (Lam (App (Fam 6) (Var 0)) (App (App (App (App (App (Elim 6 1) (Lam (Fam 2) (Lam (App (Fam 6) (Var 0)) (Sort 0)))) (Lam (Fam 2) (Fam (unit_type 0)))) (Lam (Fam 2) (Lam (App (Fam 6) (Var 0)) (Lam (Sort 0) (App (App (Fam (pair_type 0)) (App (App (Fam (pair_type 0)) (App (App (Var 5) (Var 2)) (Var 1))) (Var 0))) (Fam (unit_type 0))))))) (Var 1)) (Var 0))))
fin_below_term = refl

-- the methods give pair.0 .. (s (suc n) (fzero n) unit.0) unit.0, and pair.0 .. (s (suc n) (fsuc n i) t) t with t = pair.0 .. h unit.0
fin_aux_term : aux_term 6 (family_shape 6 fin) (course_of (family_shape 6 fin) 0 50)
    ≡ Lam (Pi (Fam 2) (Pi (App (Fam 6) (Var 0)) (Sort 0))) (Lam (Pi (Fam 2) (Pi (App (Fam 6) (Var 0)) (Pi (App (App (App (Const 50) (Var 2)) (Var 1)) (Var 0)) (App (App (Var 3) (Var 2)) (Var 1))))) (Lam (Fam 2) (Lam (App (Fam 6) (Var 0)) (App (App (App (App (App (Elim 6 0) (Lam (Fam 2) (Lam (App (Fam 6) (Var 0)) (App (App (Fam (pair_type 0)) (App (App (Var 5) (Var 1)) (Var 0))) (App (App (App (Const 50) (Var 5)) (Var 1)) (Var 0)))))) (Lam (Fam 2) (App (App (App (App (Con (pair_type 0) 0) (App (App (Var 4) (App (Con 2 1) (Var 0))) (App (Con 6 0) (Var 0)))) (App (App (App (Const 50) (Var 4)) (App (Con 2 1) (Var 0))) (App (Con 6 0) (Var 0)))) (App (App (App (Var 3) (App (Con 2 1) (Var 0))) (App (Con 6 0) (Var 0))) (Con (unit_type 0) 0))) (Con (unit_type 0) 0)))) (Lam (Fam 2) (Lam (App (Fam 6) (Var 0)) (Lam (App (App (Fam (pair_type 0)) (App (App (Var 5) (Var 1)) (Var 0))) (App (App (App (Const 50) (Var 5)) (Var 1)) (Var 0))) (App (App (App (App (Con (pair_type 0) 0) (App (App (Var 6) (App (Con 2 1) (Var 2))) (App (App (Con 6 1) (Var 2)) (Var 1)))) (App (App (App (Const 50) (Var 6)) (App (Con 2 1) (Var 2))) (App (App (Con 6 1) (Var 2)) (Var 1)))) (App (App (App (Var 5) (App (Con 2 1) (Var 2))) (App (App (Con 6 1) (Var 2)) (Var 1))) (App (App (App (App (Con (pair_type 0) 0) (App (App (Fam (pair_type 0)) (App (App (Var 6) (Var 2)) (Var 1))) (App (App (App (Const 50) (Var 6)) (Var 2)) (Var 1)))) (Fam (unit_type 0))) (Var 0)) (Con (unit_type 0) 0)))) (App (App (App (App (Con (pair_type 0) 0) (App (App (Fam (pair_type 0)) (App (App (Var 6) (Var 2)) (Var 1))) (App (App (App (Const 50) (Var 6)) (Var 2)) (Var 1)))) (Fam (unit_type 0))) (Var 0)) (Con (unit_type 0) 0))))))) (Var 1)) (Var 0)))))
fin_aux_term = refl

-- the first side of Fin!aux.0 P s n i
fin_rec_term : side_entry_term First 6 (family_shape 6 fin) (course_of (family_shape 6 fin) 0 50) 51
    ≡ Lam (Pi (Fam 2) (Pi (App (Fam 6) (Var 0)) (Sort 0))) (Lam (Pi (Fam 2) (Pi (App (Fam 6) (Var 0)) (Pi (App (App (App (Const 50) (Var 2)) (Var 1)) (Var 0)) (App (App (Var 3) (Var 2)) (Var 1))))) (Lam (Fam 2) (Lam (App (Fam 6) (Var 0)) (App (App (App (App (App (Elim (pair_type 0) 0) (App (App (Var 3) (Var 1)) (Var 0))) (App (App (App (Const 50) (Var 3)) (Var 1)) (Var 0))) (Lam (App (App (Fam (pair_type 0)) (App (App (Var 3) (Var 1)) (Var 0))) (App (App (App (Const 50) (Var 3)) (Var 1)) (Var 0))) (App (App (Var 4) (Var 2)) (Var 1)))) (Lam (App (App (Var 3) (Var 1)) (Var 0)) (Lam (App (App (App (Const 50) (Var 4)) (Var 2)) (Var 1)) (Var 1)))) (App (App (App (App (Const 51) (Var 3)) (Var 2)) (Var 1)) (Var 0))))))
fin_rec_term = refl

-- the type of the second index mentions the first
dep_case_type : case_type 7 (family_shape 7 dep) 0
    ≡ Pi (Sort 0) (Pi (Pi (Fam 2) (Pi (App (App (Fam 3) (Var 1)) (Var 0)) (Pi (App (App (App (Fam 7) (Var 2)) (Var 1)) (Var 0)) (Sort 0)))) (Pi (App (App (App (Var 0) (Con 2 0)) (App (Con 3 0) (Var 1))) (App (Con 7 0) (Var 1))) (Pi (Pi (Fam 2) (Pi (Var 3) (Pi (App (App (Fam 3) (Var 4)) (Var 1)) (Pi (App (App (App (Fam 7) (Var 5)) (Var 2)) (Var 0)) (Pi (App (App (App (Fam 7) (Var 6)) (Var 3)) (Var 1)) (App (App (App (Var 6) (App (Con 2 1) (Var 4))) (App (App (App (App (Con 3 1) (Var 7)) (Var 4)) (Var 3)) (Var 2))) (App (App (App (App (App (App (Con 7 1) (Var 7)) (Var 4)) (Var 3)) (Var 2)) (Var 1)) (Var 0)))))))) (Pi (Fam 2) (Pi (App (App (Fam 3) (Var 4)) (Var 0)) (Pi (App (App (App (Fam 7) (Var 5)) (Var 1)) (Var 0)) (App (App (App (Var 5) (Var 2)) (Var 1)) (Var 0))))))))
dep_case_type = refl

-- the method for dcons drops two hypotheses: \n a v d e h i. c n a v d e
dep_case_term : case_term 7 (family_shape 7 dep) 0
    ≡ Lam (Sort 0) (Lam (Pi (Fam 2) (Pi (App (App (Fam 3) (Var 1)) (Var 0)) (Pi (App (App (App (Fam 7) (Var 2)) (Var 1)) (Var 0)) (Sort 0)))) (Lam (App (App (App (Var 0) (Con 2 0)) (App (Con 3 0) (Var 1))) (App (Con 7 0) (Var 1))) (Lam (Pi (Fam 2) (Pi (Var 3) (Pi (App (App (Fam 3) (Var 4)) (Var 1)) (Pi (App (App (App (Fam 7) (Var 5)) (Var 2)) (Var 0)) (Pi (App (App (App (Fam 7) (Var 6)) (Var 3)) (Var 1)) (App (App (App (Var 6) (App (Con 2 1) (Var 4))) (App (App (App (App (Con 3 1) (Var 7)) (Var 4)) (Var 3)) (Var 2))) (App (App (App (App (App (App (Con 7 1) (Var 7)) (Var 4)) (Var 3)) (Var 2)) (Var 1)) (Var 0)))))))) (Lam (Fam 2) (Lam (App (App (Fam 3) (Var 4)) (Var 0)) (Lam (App (App (App (Fam 7) (Var 5)) (Var 1)) (Var 0)) (App (App (App (App (App (App (App (Elim 7 0) (Var 6)) (Var 5)) (Var 4)) (Lam (Fam 2) (Lam (Var 7) (Lam (App (App (Fam 3) (Var 8)) (Var 1)) (Lam (App (App (App (Fam 7) (Var 9)) (Var 2)) (Var 0)) (Lam (App (App (App (Fam 7) (Var 10)) (Var 3)) (Var 1)) (Lam (App (App (App (Var 10) (Var 4)) (Var 2)) (Var 1)) (Lam (App (App (App (Var 11) (Var 5)) (Var 3)) (Var 1)) (App (App (App (App (App (Var 10) (Var 6)) (Var 5)) (Var 4)) (Var 3)) (Var 2)))))))))) (Var 2)) (Var 1)) (Var 0))))))))
dep_case_term = refl

-- the method for dcons: \n a v d e h i. Pair.0 (Pair.0 (P n v d) h) (Pair.0 (Pair.0 (P n v e) i) Unit.0)
dep_below_term : below_term 7 (family_shape 7 dep) 0
    ≡ Lam (Sort 0) (Lam (Pi (Fam 2) (Pi (App (App (Fam 3) (Var 1)) (Var 0)) (Pi (App (App (App (Fam 7) (Var 2)) (Var 1)) (Var 0)) (Sort 0)))) (Lam (Fam 2) (Lam (App (App (Fam 3) (Var 2)) (Var 0)) (Lam (App (App (App (Fam 7) (Var 3)) (Var 1)) (Var 0)) (App (App (App (App (App (App (App (Elim 7 1) (Var 4)) (Lam (Fam 2) (Lam (App (App (Fam 3) (Var 5)) (Var 0)) (Lam (App (App (App (Fam 7) (Var 6)) (Var 1)) (Var 0)) (Sort 0))))) (Fam (unit_type 0))) (Lam (Fam 2) (Lam (Var 5) (Lam (App (App (Fam 3) (Var 6)) (Var 1)) (Lam (App (App (App (Fam 7) (Var 7)) (Var 2)) (Var 0)) (Lam (App (App (App (Fam 7) (Var 8)) (Var 3)) (Var 1)) (Lam (Sort 0) (Lam (Sort 0) (App (App (Fam (pair_type 0)) (App (App (Fam (pair_type 0)) (App (App (App (Var 10) (Var 6)) (Var 4)) (Var 3))) (Var 1))) (App (App (Fam (pair_type 0)) (App (App (Fam (pair_type 0)) (App (App (App (Var 10) (Var 6)) (Var 4)) (Var 2))) (Var 0))) (Fam (unit_type 0)))))))))))) (Var 2)) (Var 1)) (Var 0))))))
dep_below_term = refl

-- the goal: Pair.0 (P n v d) (Dep!below.0 A P n v d)
dep_aux_type : aux_type 7 (family_shape 7 dep) (course_of (family_shape 7 dep) 0 50)
    ≡ Pi (Sort 0) (Pi (Pi (Fam 2) (Pi (App (App (Fam 3) (Var 1)) (Var 0)) (Pi (App (App (App (Fam 7) (Var 2)) (Var 1)) (Var 0)) (Sort 0)))) (Pi (Pi (Fam 2) (Pi (App (App (Fam 3) (Var 2)) (Var 0)) (Pi (App (App (App (Fam 7) (Var 3)) (Var 1)) (Var 0)) (Pi (App (App (App (App (App (Const 50) (Var 4)) (Var 3)) (Var 2)) (Var 1)) (Var 0)) (App (App (App (Var 4) (Var 3)) (Var 2)) (Var 1)))))) (Pi (Fam 2) (Pi (App (App (Fam 3) (Var 3)) (Var 0)) (Pi (App (App (App (Fam 7) (Var 4)) (Var 1)) (Var 0)) (App (App (Fam (pair_type 0)) (App (App (App (Var 4) (Var 2)) (Var 1)) (Var 0))) (App (App (App (App (App (Const 50) (Var 5)) (Var 4)) (Var 2)) (Var 1)) (Var 0))))))))
dep_aux_type = refl

-- the tuple for dcons has two components
dep_aux_term : aux_term 7 (family_shape 7 dep) (course_of (family_shape 7 dep) 0 50)
    ≡ Lam (Sort 0) (Lam (Pi (Fam 2) (Pi (App (App (Fam 3) (Var 1)) (Var 0)) (Pi (App (App (App (Fam 7) (Var 2)) (Var 1)) (Var 0)) (Sort 0)))) (Lam (Pi (Fam 2) (Pi (App (App (Fam 3) (Var 2)) (Var 0)) (Pi (App (App (App (Fam 7) (Var 3)) (Var 1)) (Var 0)) (Pi (App (App (App (App (App (Const 50) (Var 4)) (Var 3)) (Var 2)) (Var 1)) (Var 0)) (App (App (App (Var 4) (Var 3)) (Var 2)) (Var 1)))))) (Lam (Fam 2) (Lam (App (App (Fam 3) (Var 3)) (Var 0)) (Lam (App (App (App (Fam 7) (Var 4)) (Var 1)) (Var 0)) (App (App (App (App (App (App (App (Elim 7 0) (Var 5)) (Lam (Fam 2) (Lam (App (App (Fam 3) (Var 6)) (Var 0)) (Lam (App (App (App (Fam 7) (Var 7)) (Var 1)) (Var 0)) (App (App (Fam (pair_type 0)) (App (App (App (Var 7) (Var 2)) (Var 1)) (Var 0))) (App (App (App (App (App (Const 50) (Var 8)) (Var 7)) (Var 2)) (Var 1)) (Var 0))))))) (App (App (App (App (Con (pair_type 0) 0) (App (App (App (Var 4) (Con 2 0)) (App (Con 3 0) (Var 5))) (App (Con 7 0) (Var 5)))) (App (App (App (App (App (Const 50) (Var 5)) (Var 4)) (Con 2 0)) (App (Con 3 0) (Var 5))) (App (Con 7 0) (Var 5)))) (App (App (App (App (Var 3) (Con 2 0)) (App (Con 3 0) (Var 5))) (App (Con 7 0) (Var 5))) (Con (unit_type 0) 0))) (Con (unit_type 0) 0))) (Lam (Fam 2) (Lam (Var 6) (Lam (App (App (Fam 3) (Var 7)) (Var 1)) (Lam (App (App (App (Fam 7) (Var 8)) (Var 2)) (Var 0)) (Lam (App (App (App (Fam 7) (Var 9)) (Var 3)) (Var 1)) (Lam (App (App (Fam (pair_type 0)) (App (App (App (Var 9) (Var 4)) (Var 2)) (Var 1))) (App (App (App (App (App (Const 50) (Var 10)) (Var 9)) (Var 4)) (Var 2)) (Var 1))) (Lam (App (App (Fam (pair_type 0)) (App (App (App (Var 10) (Var 5)) (Var 3)) (Var 1))) (App (App (App (App (App (Const 50) (Var 11)) (Var 10)) (Var 5)) (Var 3)) (Var 1))) (App (App (App (App (Con (pair_type 0) 0) (App (App (App (Var 11) (App (Con 2 1) (Var 6))) (App (App (App (App (Con 3 1) (Var 12)) (Var 6)) (Var 5)) (Var 4))) (App (App (App (App (App (App (Con 7 1) (Var 12)) (Var 6)) (Var 5)) (Var 4)) (Var 3)) (Var 2)))) (App (App (App (App (App (Const 50) (Var 12)) (Var 11)) (App (Con 2 1) (Var 6))) (App (App (App (App (Con 3 1) (Var 12)) (Var 6)) (Var 5)) (Var 4))) (App (App (App (App (App (App (Con 7 1) (Var 12)) (Var 6)) (Var 5)) (Var 4)) (Var 3)) (Var 2)))) (App (App (App (App (Var 10) (App (Con 2 1) (Var 6))) (App (App (App (App (Con 3 1) (Var 12)) (Var 6)) (Var 5)) (Var 4))) (App (App (App (App (App (App (Con 7 1) (Var 12)) (Var 6)) (Var 5)) (Var 4)) (Var 3)) (Var 2))) (App (App (App (App (Con (pair_type 0) 0) (App (App (Fam (pair_type 0)) (App (App (App (Var 11) (Var 6)) (Var 4)) (Var 3))) (App (App (App (App (App (Const 50) (Var 12)) (Var 11)) (Var 6)) (Var 4)) (Var 3)))) (App (App (Fam (pair_type 0)) (App (App (Fam (pair_type 0)) (App (App (App (Var 11) (Var 6)) (Var 4)) (Var 2))) (App (App (App (App (App (Const 50) (Var 12)) (Var 11)) (Var 6)) (Var 4)) (Var 2)))) (Fam (unit_type 0)))) (Var 1)) (App (App (App (App (Con (pair_type 0) 0) (App (App (Fam (pair_type 0)) (App (App (App (Var 11) (Var 6)) (Var 4)) (Var 2))) (App (App (App (App (App (Const 50) (Var 12)) (Var 11)) (Var 6)) (Var 4)) (Var 2)))) (Fam (unit_type 0))) (Var 0)) (Con (unit_type 0) 0))))) (App (App (App (App (Con (pair_type 0) 0) (App (App (Fam (pair_type 0)) (App (App (App (Var 11) (Var 6)) (Var 4)) (Var 3))) (App (App (App (App (App (Const 50) (Var 12)) (Var 11)) (Var 6)) (Var 4)) (Var 3)))) (App (App (Fam (pair_type 0)) (App (App (Fam (pair_type 0)) (App (App (App (Var 11) (Var 6)) (Var 4)) (Var 2))) (App (App (App (App (App (Const 50) (Var 12)) (Var 11)) (Var 6)) (Var 4)) (Var 2)))) (Fam (unit_type 0)))) (Var 1)) (App (App (App (App (Con (pair_type 0) 0) (App (App (Fam (pair_type 0)) (App (App (App (Var 11) (Var 6)) (Var 4)) (Var 2))) (App (App (App (App (App (Const 50) (Var 12)) (Var 11)) (Var 6)) (Var 4)) (Var 2)))) (Fam (unit_type 0))) (Var 0)) (Con (unit_type 0) 0)))))))))))) (Var 2)) (Var 1)) (Var 0)))))))
dep_aux_term = refl

-- (A) -> (P) -> (s) -> (n : Nat) -> (v : Vec A n) -> (d : Dep A n v) -> Dep!below.0 A P n v d
dep_all_type : side_entry_type Second 7 (family_shape 7 dep) (course_of (family_shape 7 dep) 0 50)
    ≡ Pi (Sort 0) (Pi (Pi (Fam 2) (Pi (App (App (Fam 3) (Var 1)) (Var 0)) (Pi (App (App (App (Fam 7) (Var 2)) (Var 1)) (Var 0)) (Sort 0)))) (Pi (Pi (Fam 2) (Pi (App (App (Fam 3) (Var 2)) (Var 0)) (Pi (App (App (App (Fam 7) (Var 3)) (Var 1)) (Var 0)) (Pi (App (App (App (App (App (Const 50) (Var 4)) (Var 3)) (Var 2)) (Var 1)) (Var 0)) (App (App (App (Var 4) (Var 3)) (Var 2)) (Var 1)))))) (Pi (Fam 2) (Pi (App (App (Fam 3) (Var 3)) (Var 0)) (Pi (App (App (App (Fam 7) (Var 4)) (Var 1)) (Var 0)) (App (App (App (App (App (Const 50) (Var 5)) (Var 4)) (Var 2)) (Var 1)) (Var 0)))))))
dep_all_type = refl

-- the second side of Dep!aux.0 A P s n v d
dep_all_term : side_entry_term Second 7 (family_shape 7 dep) (course_of (family_shape 7 dep) 0 50) 51
    ≡ Lam (Sort 0) (Lam (Pi (Fam 2) (Pi (App (App (Fam 3) (Var 1)) (Var 0)) (Pi (App (App (App (Fam 7) (Var 2)) (Var 1)) (Var 0)) (Sort 0)))) (Lam (Pi (Fam 2) (Pi (App (App (Fam 3) (Var 2)) (Var 0)) (Pi (App (App (App (Fam 7) (Var 3)) (Var 1)) (Var 0)) (Pi (App (App (App (App (App (Const 50) (Var 4)) (Var 3)) (Var 2)) (Var 1)) (Var 0)) (App (App (App (Var 4) (Var 3)) (Var 2)) (Var 1)))))) (Lam (Fam 2) (Lam (App (App (Fam 3) (Var 3)) (Var 0)) (Lam (App (App (App (Fam 7) (Var 4)) (Var 1)) (Var 0)) (App (App (App (App (App (Elim (pair_type 0) 0) (App (App (App (Var 4) (Var 2)) (Var 1)) (Var 0))) (App (App (App (App (App (Const 50) (Var 5)) (Var 4)) (Var 2)) (Var 1)) (Var 0))) (Lam (App (App (Fam (pair_type 0)) (App (App (App (Var 4) (Var 2)) (Var 1)) (Var 0))) (App (App (App (App (App (Const 50) (Var 5)) (Var 4)) (Var 2)) (Var 1)) (Var 0))) (App (App (App (App (App (Const 50) (Var 6)) (Var 5)) (Var 3)) (Var 2)) (Var 1)))) (Lam (App (App (App (Var 4) (Var 2)) (Var 1)) (Var 0)) (Lam (App (App (App (App (App (Const 50) (Var 6)) (Var 5)) (Var 3)) (Var 2)) (Var 1)) (Var 0)))) (App (App (App (App (App (App (Const 51) (Var 5)) (Var 4)) (Var 3)) (Var 2)) (Var 1)) (Var 0))))))))
dep_all_term = refl
