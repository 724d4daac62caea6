-- Elimination of an equation by its left side.
use Rattle.std.proofs.Common.{◌≡◌, Ok, codes, [], refl}
use Rattle.theory.specs.Terms.Term.{Var, Sort, Pi, Lam, App, Fam, Con, Elim}
use Rattle.theory.specs.Signatures.{Definition, equality}
use Rattle.case_below_gen.specs.LeftEntries.{left_type, left_term, left_entry}

left_type_0 : left_type 0 0
    ≡ Pi (Sort 0) (Pi (Var 0) (Pi (Pi (Var 1) (Pi (App (App (App (Fam (equality 0)) (Var 2)) (Var 0)) (Var 1)) (Sort 0))) (Pi (App (App (Var 0) (Var 1)) (App (App (Con (equality 0) 0) (Var 2)) (Var 1))) (Pi (Var 3) (Pi (App (App (App (Fam (equality 0)) (Var 4)) (Var 0)) (Var 3)) (App (App (Var 3) (Var 1)) (Var 0)))))))
left_type_0 = refl

left_term_0_0 : left_term 0 0
    ≡ Lam (Sort 0) (Lam (Var 0) (Lam (Pi (Var 1) (Pi (App (App (App (Fam (equality 0)) (Var 2)) (Var 0)) (Var 1)) (Sort 0))) (Lam (App (App (Var 0) (Var 1)) (App (App (Con (equality 0) 0) (Var 2)) (Var 1))) (Lam (Var 3) (Lam (App (App (App (Fam (equality 0)) (Var 4)) (Var 0)) (Var 3)) (App (App (App (App (App (App (App (App (Elim (equality 0) 1) (Var 5)) (Var 1)) (Lam (Var 5) (Lam (App (App (App (Fam (equality 0)) (Var 6)) (Var 2)) (Var 0)) (Pi (Pi (Var 7) (Pi (App (App (App (Fam (equality 0)) (Var 8)) (Var 0)) (Var 2)) (Sort 0))) (Pi (App (App (Var 0) (Var 2)) (App (App (Con (equality 0) 0) (Var 8)) (Var 2))) (App (App (Var 1) (Var 5)) (Var 2))))))) (Lam (Pi (Var 5) (Pi (App (App (App (Fam (equality 0)) (Var 6)) (Var 0)) (Var 2)) (Sort 0))) (Lam (App (App (Var 0) (Var 2)) (App (App (Con (equality 0) 0) (Var 6)) (Var 2))) (Var 0)))) (Var 4)) (Var 0)) (Var 3)) (Var 2)))))))
left_term_0_0 = refl

left_term_1_0 : left_term 1 0
    ≡ Lam (Sort 1) (Lam (Var 0) (Lam (Pi (Var 1) (Pi (App (App (App (Fam (equality 1)) (Var 2)) (Var 0)) (Var 1)) (Sort 0))) (Lam (App (App (Var 0) (Var 1)) (App (App (Con (equality 1) 0) (Var 2)) (Var 1))) (Lam (Var 3) (Lam (App (App (App (Fam (equality 1)) (Var 4)) (Var 0)) (Var 3)) (App (App (App (App (App (App (App (App (Elim (equality 1) 1) (Var 5)) (Var 1)) (Lam (Var 5) (Lam (App (App (App (Fam (equality 1)) (Var 6)) (Var 2)) (Var 0)) (Pi (Pi (Var 7) (Pi (App (App (App (Fam (equality 1)) (Var 8)) (Var 0)) (Var 2)) (Sort 0))) (Pi (App (App (Var 0) (Var 2)) (App (App (Con (equality 1) 0) (Var 8)) (Var 2))) (App (App (Var 1) (Var 5)) (Var 2))))))) (Lam (Pi (Var 5) (Pi (App (App (App (Fam (equality 1)) (Var 6)) (Var 0)) (Var 2)) (Sort 0))) (Lam (App (App (Var 0) (Var 2)) (App (App (Con (equality 1) 0) (Var 6)) (Var 2))) (Var 0)))) (Var 4)) (Var 0)) (Var 3)) (Var 2)))))))
left_term_1_0 = refl

left_term_0_1 : left_term 0 1
    ≡ Lam (Sort 0) (Lam (Var 0) (Lam (Pi (Var 1) (Pi (App (App (App (Fam (equality 0)) (Var 2)) (Var 0)) (Var 1)) (Sort 1))) (Lam (App (App (Var 0) (Var 1)) (App (App (Con (equality 0) 0) (Var 2)) (Var 1))) (Lam (Var 3) (Lam (App (App (App (Fam (equality 0)) (Var 4)) (Var 0)) (Var 3)) (App (App (App (App (App (App (App (App (Elim (equality 0) 2) (Var 5)) (Var 1)) (Lam (Var 5) (Lam (App (App (App (Fam (equality 0)) (Var 6)) (Var 2)) (Var 0)) (Pi (Pi (Var 7) (Pi (App (App (App (Fam (equality 0)) (Var 8)) (Var 0)) (Var 2)) (Sort 1))) (Pi (App (App (Var 0) (Var 2)) (App (App (Con (equality 0) 0) (Var 8)) (Var 2))) (App (App (Var 1) (Var 5)) (Var 2))))))) (Lam (Pi (Var 5) (Pi (App (App (App (Fam (equality 0)) (Var 6)) (Var 0)) (Var 2)) (Sort 1))) (Lam (App (App (Var 0) (Var 2)) (App (App (Con (equality 0) 0) (Var 6)) (Var 2))) (Var 0)))) (Var 4)) (Var 0)) (Var 3)) (Var 2)))))))
left_term_0_1 = refl

left_term_62_61 : left_term 62 61
    ≡ Lam (Sort 62) (Lam (Var 0) (Lam (Pi (Var 1) (Pi (App (App (App (Fam (equality 62)) (Var 2)) (Var 0)) (Var 1)) (Sort 61))) (Lam (App (App (Var 0) (Var 1)) (App (App (Con (equality 62) 0) (Var 2)) (Var 1))) (Lam (Var 3) (Lam (App (App (App (Fam (equality 62)) (Var 4)) (Var 0)) (Var 3)) (App (App (App (App (App (App (App (App (Elim (equality 62) 62) (Var 5)) (Var 1)) (Lam (Var 5) (Lam (App (App (App (Fam (equality 62)) (Var 6)) (Var 2)) (Var 0)) (Pi (Pi (Var 7) (Pi (App (App (App (Fam (equality 62)) (Var 8)) (Var 0)) (Var 2)) (Sort 61))) (Pi (App (App (Var 0) (Var 2)) (App (App (Con (equality 62) 0) (Var 8)) (Var 2))) (App (App (Var 1) (Var 5)) (Var 2))))))) (Lam (Pi (Var 5) (Pi (App (App (App (Fam (equality 62)) (Var 6)) (Var 0)) (Var 2)) (Sort 61))) (Lam (App (App (Var 0) (Var 2)) (App (App (Con (equality 62) 0) (Var 6)) (Var 2))) (Var 0)))) (Var 4)) (Var 0)) (Var 3)) (Var 2)))))))
left_term_62_61 = refl

-- a whole draft
left_entry_12_3 : left_entry 50 12 3
    ≡ Ok (record { entry = Definition (codes "Eq.12!left.3") (left_type 12 3) (left_term 12 3); base = 50; names = [] })
left_entry_12_3 = refl
