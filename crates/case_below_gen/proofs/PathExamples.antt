-- Paths in below values. The constant 60 is `D!below.m`, and 61 with the parameters is the motive.
use Rattle.std.proofs.Common.{◌≡◌, Ok, Some, None, refl}
use Rattle.theory.specs.Terms.Term.{Var, Pi, Lam, App, Const, Fam, Con, Elim}
use Rattle.theory.specs.Prelude.{unit_type, pair_type}
use Rattle.case_below_gen.specs.Paths.{below_path}
use Rattle.case_below_gen.proofs.Samples.{nat, ord, acc, rose}

-- the part of suc (suc n) that is n
path_half : below_path 2 nat 0 60 (Const 61) (App (Con 2 1) (App (Con 2 1) (Var 2))) (Var 2) (Var 0)
    ≡ Ok (Some (App (App (App (App (App (Elim (pair_type 0) 0) (App (Const 61) (Var 2))) (App (App (Const 60) (Const 61)) (Var 2))) (Lam (App (App (Fam (pair_type 0)) (App (Const 61) (Var 2))) (App (App (Const 60) (Const 61)) (Var 2))) (App (Const 61) (Var 3)))) (Lam (App (Const 61) (Var 2)) (Lam (App (App (Const 60) (Const 61)) (Var 3)) (Var 1)))) (App (App (App (App (App (Elim (pair_type 0) 0) (App (App (Fam (pair_type 0)) (App (Const 61) (Var 2))) (App (App (Const 60) (Const 61)) (Var 2)))) (Fam (unit_type 0))) (Lam (App (App (Fam (pair_type 0)) (App (App (Fam (pair_type 0)) (App (Const 61) (Var 2))) (App (App (Const 60) (Const 61)) (Var 2)))) (Fam (unit_type 0))) (App (App (Fam (pair_type 0)) (App (Const 61) (Var 3))) (App (App (Const 60) (Const 61)) (Var 3))))) (Lam (App (App (Fam (pair_type 0)) (App (Const 61) (Var 2))) (App (App (Const 60) (Const 61)) (Var 2))) (Lam (Fam (unit_type 0)) (Var 1)))) (App (App (App (App (App (Elim (pair_type 0) 0) (App (Const 61) (App (Con 2 1) (Var 2)))) (App (App (Const 60) (Const 61)) (App (Con 2 1) (Var 2)))) (Lam (App (App (Fam (pair_type 0)) (App (Const 61) (App (Con 2 1) (Var 2)))) (App (App (Const 60) (Const 61)) (App (Con 2 1) (Var 2)))) (App (App (Const 60) (Const 61)) (App (Con 2 1) (Var 3))))) (Lam (App (Const 61) (App (Con 2 1) (Var 2))) (Lam (App (App (Const 60) (Const 61)) (App (Con 2 1) (Var 3))) (Var 0)))) (App (App (App (App (App (Elim (pair_type 0) 0) (App (App (Fam (pair_type 0)) (App (Const 61) (App (Con 2 1) (Var 2)))) (App (App (Const 60) (Const 61)) (App (Con 2 1) (Var 2))))) (Fam (unit_type 0))) (Lam (App (App (Fam (pair_type 0)) (App (App (Fam (pair_type 0)) (App (Const 61) (App (Con 2 1) (Var 2)))) (App (App (Const 60) (Const 61)) (App (Con 2 1) (Var 2))))) (Fam (unit_type 0))) (App (App (Fam (pair_type 0)) (App (Const 61) (App (Con 2 1) (Var 3)))) (App (App (Const 60) (Const 61)) (App (Con 2 1) (Var 3)))))) (Lam (App (App (Fam (pair_type 0)) (App (Const 61) (App (Con 2 1) (Var 2)))) (App (App (Const 60) (Const 61)) (App (Con 2 1) (Var 2)))) (Lam (Fam (unit_type 0)) (Var 1)))) (Var 0))))))
unfolding native.Mathlib.Decide.ℕ_discrete
path_half = refl

-- an argument at its inner argument: the part f i of lim n f
path_ordf : below_path 4 ord 0 60 (Const 61) (App (App (Con 4 0) (Var 3)) (Var 2)) (App (Var 2) (Var 3)) (Var 0)
    ≡ Ok (Some (App (App (App (App (App (Elim (pair_type 0) 0) (App (Const 61) (App (Var 2) (Var 3)))) (App (App (Const 60) (Const 61)) (App (Var 2) (Var 3)))) (Lam (App (App (Fam (pair_type 0)) (App (Const 61) (App (Var 2) (Var 3)))) (App (App (Const 60) (Const 61)) (App (Var 2) (Var 3)))) (App (Const 61) (App (Var 3) (Var 4))))) (Lam (App (Const 61) (App (Var 2) (Var 3))) (Lam (App (App (Const 60) (Const 61)) (App (Var 3) (Var 4))) (Var 1)))) (App (App (App (App (App (App (Elim (pair_type 0) 0) (Pi (Fam 2) (App (App (Fam (pair_type 0)) (App (Const 61) (App (Var 3) (Var 0)))) (App (App (Const 60) (Const 61)) (App (Var 3) (Var 0)))))) (Fam (unit_type 0))) (Lam (App (App (Fam (pair_type 0)) (Pi (Fam 2) (App (App (Fam (pair_type 0)) (App (Const 61) (App (Var 3) (Var 0)))) (App (App (Const 60) (Const 61)) (App (Var 3) (Var 0)))))) (Fam (unit_type 0))) (Pi (Fam 2) (App (App (Fam (pair_type 0)) (App (Const 61) (App (Var 4) (Var 0)))) (App (App (Const 60) (Const 61)) (App (Var 4) (Var 0))))))) (Lam (Pi (Fam 2) (App (App (Fam (pair_type 0)) (App (Const 61) (App (Var 3) (Var 0)))) (App (App (Const 60) (Const 61)) (App (Var 3) (Var 0))))) (Lam (Fam (unit_type 0)) (Var 1)))) (Var 0)) (Var 3))))
unfolding native.Mathlib.Decide.ℕ_discrete
path_ordf = refl

-- an indexed family: the part f y r of acc A R y f
path_af : below_path 5 acc 1 60 (App (App (Const 61) (Var 13)) (Var 12)) (App (App (App (App (Con 5 0) (Var 13)) (Var 12)) (Var 7)) (Var 6)) (App (App (Var 6) (Var 7)) (App (Var 8) (Var 7))) (Var 0)
    ≡ Ok (Some (App (App (App (App (App (Elim (pair_type 1) 1) (App (App (App (App (Const 61) (Var 13)) (Var 12)) (Var 7)) (App (App (Var 6) (Var 7)) (App (Var 8) (Var 7))))) (App (App (App (App (App (Const 60) (Var 13)) (Var 12)) (App (App (Const 61) (Var 13)) (Var 12))) (Var 7)) (App (App (Var 6) (Var 7)) (App (Var 8) (Var 7))))) (Lam (App (App (Fam (pair_type 1)) (App (App (App (App (Const 61) (Var 13)) (Var 12)) (Var 7)) (App (App (Var 6) (Var 7)) (App (Var 8) (Var 7))))) (App (App (App (App (App (Const 60) (Var 13)) (Var 12)) (App (App (Const 61) (Var 13)) (Var 12))) (Var 7)) (App (App (Var 6) (Var 7)) (App (Var 8) (Var 7))))) (App (App (App (App (Const 61) (Var 14)) (Var 13)) (Var 8)) (App (App (Var 7) (Var 8)) (App (Var 9) (Var 8)))))) (Lam (App (App (App (App (Const 61) (Var 13)) (Var 12)) (Var 7)) (App (App (Var 6) (Var 7)) (App (Var 8) (Var 7)))) (Lam (App (App (App (App (App (Const 60) (Var 14)) (Var 13)) (App (App (Const 61) (Var 14)) (Var 13))) (Var 8)) (App (App (Var 7) (Var 8)) (App (Var 9) (Var 8)))) (Var 1)))) (App (App (App (App (App (App (App (Elim (pair_type 1) 1) (Pi (Var 13) (Pi (App (App (Var 13) (Var 0)) (Var 8)) (App (App (Fam (pair_type 1)) (App (App (App (App (Const 61) (Var 15)) (Var 14)) (Var 1)) (App (App (Var 8) (Var 1)) (Var 0)))) (App (App (App (App (App (Const 60) (Var 15)) (Var 14)) (App (App (Const 61) (Var 15)) (Var 14))) (Var 1)) (App (App (Var 8) (Var 1)) (Var 0))))))) (Fam (unit_type 1))) (Lam (App (App (Fam (pair_type 1)) (Pi (Var 13) (Pi (App (App (Var 13) (Var 0)) (Var 8)) (App (App (Fam (pair_type 1)) (App (App (App (App (Const 61) (Var 15)) (Var 14)) (Var 1)) (App (App (Var 8) (Var 1)) (Var 0)))) (App (App (App (App (App (Const 60) (Var 15)) (Var 14)) (App (App (Const 61) (Var 15)) (Var 14))) (Var 1)) (App (App (Var 8) (Var 1)) (Var 0))))))) (Fam (unit_type 1))) (Pi (Var 14) (Pi (App (App (Var 14) (Var 0)) (Var 9)) (App (App (Fam (pair_type 1)) (App (App (App (App (Const 61) (Var 16)) (Var 15)) (Var 1)) (App (App (Var 9) (Var 1)) (Var 0)))) (App (App (App (App (App (Const 60) (Var 16)) (Var 15)) (App (App (Const 61) (Var 16)) (Var 15))) (Var 1)) (App (App (Var 9) (Var 1)) (Var 0)))))))) (Lam (Pi (Var 13) (Pi (App (App (Var 13) (Var 0)) (Var 8)) (App (App (Fam (pair_type 1)) (App (App (App (App (Const 61) (Var 15)) (Var 14)) (Var 1)) (App (App (Var 8) (Var 1)) (Var 0)))) (App (App (App (App (App (Const 60) (Var 15)) (Var 14)) (App (App (Const 61) (Var 15)) (Var 14))) (Var 1)) (App (App (Var 8) (Var 1)) (Var 0)))))) (Lam (Fam (unit_type 1)) (Var 1)))) (Var 0)) (Var 7)) (App (Var 8) (Var 7)))))
unfolding native.Mathlib.Decide.ℕ_discrete
path_af = refl

-- the second component: the part r of rnode A n a l r
path_rl : below_path 8 rose 1 60 (App (Const 61) (Var 13)) (App (App (App (App (App (Con 8 1) (Var 13)) (Var 9)) (Var 8)) (Var 7)) (Var 6)) (Var 6) (Var 0)
    ≡ Ok (Some (App (App (App (App (App (Elim (pair_type 1) 1) (App (App (App (Const 61) (Var 13)) (App (Con 2 1) (App (Con 2 1) (Var 9)))) (Var 6))) (App (App (App (App (Const 60) (Var 13)) (App (Const 61) (Var 13))) (App (Con 2 1) (App (Con 2 1) (Var 9)))) (Var 6))) (Lam (App (App (Fam (pair_type 1)) (App (App (App (Const 61) (Var 13)) (App (Con 2 1) (App (Con 2 1) (Var 9)))) (Var 6))) (App (App (App (App (Const 60) (Var 13)) (App (Const 61) (Var 13))) (App (Con 2 1) (App (Con 2 1) (Var 9)))) (Var 6))) (App (App (App (Const 61) (Var 14)) (App (Con 2 1) (App (Con 2 1) (Var 10)))) (Var 7)))) (Lam (App (App (App (Const 61) (Var 13)) (App (Con 2 1) (App (Con 2 1) (Var 9)))) (Var 6)) (Lam (App (App (App (App (Const 60) (Var 14)) (App (Const 61) (Var 14))) (App (Con 2 1) (App (Con 2 1) (Var 10)))) (Var 7)) (Var 1)))) (App (App (App (App (App (Elim (pair_type 1) 1) (App (App (Fam (pair_type 1)) (App (App (App (Const 61) (Var 13)) (App (Con 2 1) (App (Con 2 1) (Var 9)))) (Var 6))) (App (App (App (App (Const 60) (Var 13)) (App (Const 61) (Var 13))) (App (Con 2 1) (App (Con 2 1) (Var 9)))) (Var 6)))) (Fam (unit_type 1))) (Lam (App (App (Fam (pair_type 1)) (App (App (Fam (pair_type 1)) (App (App (App (Const 61) (Var 13)) (App (Con 2 1) (App (Con 2 1) (Var 9)))) (Var 6))) (App (App (App (App (Const 60) (Var 13)) (App (Const 61) (Var 13))) (App (Con 2 1) (App (Con 2 1) (Var 9)))) (Var 6)))) (Fam (unit_type 1))) (App (App (Fam (pair_type 1)) (App (App (App (Const 61) (Var 14)) (App (Con 2 1) (App (Con 2 1) (Var 10)))) (Var 7))) (App (App (App (App (Const 60) (Var 14)) (App (Const 61) (Var 14))) (App (Con 2 1) (App (Con 2 1) (Var 10)))) (Var 7))))) (Lam (App (App (Fam (pair_type 1)) (App (App (App (Const 61) (Var 13)) (App (Con 2 1) (App (Con 2 1) (Var 9)))) (Var 6))) (App (App (App (App (Const 60) (Var 13)) (App (Const 61) (Var 13))) (App (Con 2 1) (App (Con 2 1) (Var 9)))) (Var 6))) (Lam (Fam (unit_type 1)) (Var 1)))) (App (App (App (App (App (Elim (pair_type 1) 1) (App (App (Fam (pair_type 1)) (App (App (App (Const 61) (Var 13)) (App (Con 2 1) (Var 9))) (Var 7))) (App (App (App (App (Const 60) (Var 13)) (App (Const 61) (Var 13))) (App (Con 2 1) (Var 9))) (Var 7)))) (App (App (Fam (pair_type 1)) (App (App (Fam (pair_type 1)) (App (App (App (Const 61) (Var 13)) (App (Con 2 1) (App (Con 2 1) (Var 9)))) (Var 6))) (App (App (App (App (Const 60) (Var 13)) (App (Const 61) (Var 13))) (App (Con 2 1) (App (Con 2 1) (Var 9)))) (Var 6)))) (Fam (unit_type 1)))) (Lam (App (App (Fam (pair_type 1)) (App (App (Fam (pair_type 1)) (App (App (App (Const 61) (Var 13)) (App (Con 2 1) (Var 9))) (Var 7))) (App (App (App (App (Const 60) (Var 13)) (App (Const 61) (Var 13))) (App (Con 2 1) (Var 9))) (Var 7)))) (App (App (Fam (pair_type 1)) (App (App (Fam (pair_type 1)) (App (App (App (Const 61) (Var 13)) (App (Con 2 1) (App (Con 2 1) (Var 9)))) (Var 6))) (App (App (App (App (Const 60) (Var 13)) (App (Const 61) (Var 13))) (App (Con 2 1) (App (Con 2 1) (Var 9)))) (Var 6)))) (Fam (unit_type 1)))) (App (App (Fam (pair_type 1)) (App (App (Fam (pair_type 1)) (App (App (App (Const 61) (Var 14)) (App (Con 2 1) (App (Con 2 1) (Var 10)))) (Var 7))) (App (App (App (App (Const 60) (Var 14)) (App (Const 61) (Var 14))) (App (Con 2 1) (App (Con 2 1) (Var 10)))) (Var 7)))) (Fam (unit_type 1))))) (Lam (App (App (Fam (pair_type 1)) (App (App (App (Const 61) (Var 13)) (App (Con 2 1) (Var 9))) (Var 7))) (App (App (App (App (Const 60) (Var 13)) (App (Const 61) (Var 13))) (App (Con 2 1) (Var 9))) (Var 7))) (Lam (App (App (Fam (pair_type 1)) (App (App (Fam (pair_type 1)) (App (App (App (Const 61) (Var 14)) (App (Con 2 1) (App (Con 2 1) (Var 10)))) (Var 7))) (App (App (App (App (Const 60) (Var 14)) (App (Const 61) (Var 14))) (App (Con 2 1) (App (Con 2 1) (Var 10)))) (Var 7)))) (Fam (unit_type 1))) (Var 0)))) (Var 0)))))
unfolding native.Mathlib.Decide.ℕ_discrete
path_rl = refl

-- a part inside the second component
path_rm : below_path 8 rose 1 60 (App (Const 61) (Var 23)) (App (App (App (App (App (Con 8 1) (Var 23)) (Var 19)) (Var 18)) (Var 17)) (App (App (App (App (App (Con 8 1) (Var 23)) (App (Con 2 1) (App (Con 2 1) (Var 19)))) (Var 8)) (Var 3)) (Var 2))) (Var 3) (Var 0)
    ≡ Ok (Some (App (App (App (App (App (Elim (pair_type 1) 1) (App (App (App (Const 61) (Var 23)) (App (Con 2 1) (App (Con 2 1) (App (Con 2 1) (Var 19))))) (Var 3))) (App (App (App (App (Const 60) (Var 23)) (App (Const 61) (Var 23))) (App (Con 2 1) (App (Con 2 1) (App (Con 2 1) (Var 19))))) (Var 3))) (Lam (App (App (Fam (pair_type 1)) (App (App (App (Const 61) (Var 23)) (App (Con 2 1) (App (Con 2 1) (App (Con 2 1) (Var 19))))) (Var 3))) (App (App (App (App (Const 60) (Var 23)) (App (Const 61) (Var 23))) (App (Con 2 1) (App (Con 2 1) (App (Con 2 1) (Var 19))))) (Var 3))) (App (App (App (Const 61) (Var 24)) (App (Con 2 1) (App (Con 2 1) (App (Con 2 1) (Var 20))))) (Var 4)))) (Lam (App (App (App (Const 61) (Var 23)) (App (Con 2 1) (App (Con 2 1) (App (Con 2 1) (Var 19))))) (Var 3)) (Lam (App (App (App (App (Const 60) (Var 24)) (App (Const 61) (Var 24))) (App (Con 2 1) (App (Con 2 1) (App (Con 2 1) (Var 20))))) (Var 4)) (Var 1)))) (App (App (App (App (App (Elim (pair_type 1) 1) (App (App (Fam (pair_type 1)) (App (App (App (Const 61) (Var 23)) (App (Con 2 1) (App (Con 2 1) (App (Con 2 1) (Var 19))))) (Var 3))) (App (App (App (App (Const 60) (Var 23)) (App (Const 61) (Var 23))) (App (Con 2 1) (App (Con 2 1) (App (Con 2 1) (Var 19))))) (Var 3)))) (App (App (Fam (pair_type 1)) (App (App (Fam (pair_type 1)) (App (App (App (Const 61) (Var 23)) (App (Con 2 1) (App (Con 2 1) (App (Con 2 1) (App (Con 2 1) (Var 19)))))) (Var 2))) (App (App (App (App (Const 60) (Var 23)) (App (Const 61) (Var 23))) (App (Con 2 1) (App (Con 2 1) (App (Con 2 1) (App (Con 2 1) (Var 19)))))) (Var 2)))) (Fam (unit_type 1)))) (Lam (App (App (Fam (pair_type 1)) (App (App (Fam (pair_type 1)) (App (App (App (Const 61) (Var 23)) (App (Con 2 1) (App (Con 2 1) (App (Con 2 1) (Var 19))))) (Var 3))) (App (App (App (App (Const 60) (Var 23)) (App (Const 61) (Var 23))) (App (Con 2 1) (App (Con 2 1) (App (Con 2 1) (Var 19))))) (Var 3)))) (App (App (Fam (pair_type 1)) (App (App (Fam (pair_type 1)) (App (App (App (Const 61) (Var 23)) (App (Con 2 1) (App (Con 2 1) (App (Con 2 1) (App (Con 2 1) (Var 19)))))) (Var 2))) (App (App (App (App (Const 60) (Var 23)) (App (Const 61) (Var 23))) (App (Con 2 1) (App (Con 2 1) (App (Con 2 1) (App (Con 2 1) (Var 19)))))) (Var 2)))) (Fam (unit_type 1)))) (App (App (Fam (pair_type 1)) (App (App (App (Const 61) (Var 24)) (App (Con 2 1) (App (Con 2 1) (App (Con 2 1) (Var 20))))) (Var 4))) (App (App (App (App (Const 60) (Var 24)) (App (Const 61) (Var 24))) (App (Con 2 1) (App (Con 2 1) (App (Con 2 1) (Var 20))))) (Var 4))))) (Lam (App (App (Fam (pair_type 1)) (App (App (App (Const 61) (Var 23)) (App (Con 2 1) (App (Con 2 1) (App (Con 2 1) (Var 19))))) (Var 3))) (App (App (App (App (Const 60) (Var 23)) (App (Const 61) (Var 23))) (App (Con 2 1) (App (Con 2 1) (App (Con 2 1) (Var 19))))) (Var 3))) (Lam (App (App (Fam (pair_type 1)) (App (App (Fam (pair_type 1)) (App (App (App (Const 61) (Var 24)) (App (Con 2 1) (App (Con 2 1) (App (Con 2 1) (App (Con 2 1) (Var 20)))))) (Var 3))) (App (App (App (App (Const 60) (Var 24)) (App (Const 61) (Var 24))) (App (Con 2 1) (App (Con 2 1) (App (Con 2 1) (App (Con 2 1) (Var 20)))))) (Var 3)))) (Fam (unit_type 1))) (Var 1)))) (App (App (App (App (App (Elim (pair_type 1) 1) (App (App (App (Const 61) (Var 23)) (App (Con 2 1) (App (Con 2 1) (Var 19)))) (App (App (App (App (App (Con 8 1) (Var 23)) (App (Con 2 1) (App (Con 2 1) (Var 19)))) (Var 8)) (Var 3)) (Var 2)))) (App (App (App (App (Const 60) (Var 23)) (App (Const 61) (Var 23))) (App (Con 2 1) (App (Con 2 1) (Var 19)))) (App (App (App (App (App (Con 8 1) (Var 23)) (App (Con 2 1) (App (Con 2 1) (Var 19)))) (Var 8)) (Var 3)) (Var 2)))) (Lam (App (App (Fam (pair_type 1)) (App (App (App (Const 61) (Var 23)) (App (Con 2 1) (App (Con 2 1) (Var 19)))) (App (App (App (App (App (Con 8 1) (Var 23)) (App (Con 2 1) (App (Con 2 1) (Var 19)))) (Var 8)) (Var 3)) (Var 2)))) (App (App (App (App (Const 60) (Var 23)) (App (Const 61) (Var 23))) (App (Con 2 1) (App (Con 2 1) (Var 19)))) (App (App (App (App (App (Con 8 1) (Var 23)) (App (Con 2 1) (App (Con 2 1) (Var 19)))) (Var 8)) (Var 3)) (Var 2)))) (App (App (App (App (Const 60) (Var 24)) (App (Const 61) (Var 24))) (App (Con 2 1) (App (Con 2 1) (Var 20)))) (App (App (App (App (App (Con 8 1) (Var 24)) (App (Con 2 1) (App (Con 2 1) (Var 20)))) (Var 9)) (Var 4)) (Var 3))))) (Lam (App (App (App (Const 61) (Var 23)) (App (Con 2 1) (App (Con 2 1) (Var 19)))) (App (App (App (App (App (Con 8 1) (Var 23)) (App (Con 2 1) (App (Con 2 1) (Var 19)))) (Var 8)) (Var 3)) (Var 2))) (Lam (App (App (App (App (Const 60) (Var 24)) (App (Const 61) (Var 24))) (App (Con 2 1) (App (Con 2 1) (Var 20)))) (App (App (App (App (App (Con 8 1) (Var 24)) (App (Con 2 1) (App (Con 2 1) (Var 20)))) (Var 9)) (Var 4)) (Var 3))) (Var 0)))) (App (App (App (App (App (Elim (pair_type 1) 1) (App (App (Fam (pair_type 1)) (App (App (App (Const 61) (Var 23)) (App (Con 2 1) (App (Con 2 1) (Var 19)))) (App (App (App (App (App (Con 8 1) (Var 23)) (App (Con 2 1) (App (Con 2 1) (Var 19)))) (Var 8)) (Var 3)) (Var 2)))) (App (App (App (App (Const 60) (Var 23)) (App (Const 61) (Var 23))) (App (Con 2 1) (App (Con 2 1) (Var 19)))) (App (App (App (App (App (Con 8 1) (Var 23)) (App (Con 2 1) (App (Con 2 1) (Var 19)))) (Var 8)) (Var 3)) (Var 2))))) (Fam (unit_type 1))) (Lam (App (App (Fam (pair_type 1)) (App (App (Fam (pair_type 1)) (App (App (App (Const 61) (Var 23)) (App (Con 2 1) (App (Con 2 1) (Var 19)))) (App (App (App (App (App (Con 8 1) (Var 23)) (App (Con 2 1) (App (Con 2 1) (Var 19)))) (Var 8)) (Var 3)) (Var 2)))) (App (App (App (App (Const 60) (Var 23)) (App (Const 61) (Var 23))) (App (Con 2 1) (App (Con 2 1) (Var 19)))) (App (App (App (App (App (Con 8 1) (Var 23)) (App (Con 2 1) (App (Con 2 1) (Var 19)))) (Var 8)) (Var 3)) (Var 2))))) (Fam (unit_type 1))) (App (App (Fam (pair_type 1)) (App (App (App (Const 61) (Var 24)) (App (Con 2 1) (App (Con 2 1) (Var 20)))) (App (App (App (App (App (Con 8 1) (Var 24)) (App (Con 2 1) (App (Con 2 1) (Var 20)))) (Var 9)) (Var 4)) (Var 3)))) (App (App (App (App (Const 60) (Var 24)) (App (Const 61) (Var 24))) (App (Con 2 1) (App (Con 2 1) (Var 20)))) (App (App (App (App (App (Con 8 1) (Var 24)) (App (Con 2 1) (App (Con 2 1) (Var 20)))) (Var 9)) (Var 4)) (Var 3)))))) (Lam (App (App (Fam (pair_type 1)) (App (App (App (Const 61) (Var 23)) (App (Con 2 1) (App (Con 2 1) (Var 19)))) (App (App (App (App (App (Con 8 1) (Var 23)) (App (Con 2 1) (App (Con 2 1) (Var 19)))) (Var 8)) (Var 3)) (Var 2)))) (App (App (App (App (Const 60) (Var 23)) (App (Const 61) (Var 23))) (App (Con 2 1) (App (Con 2 1) (Var 19)))) (App (App (App (App (App (Con 8 1) (Var 23)) (App (Con 2 1) (App (Con 2 1) (Var 19)))) (Var 8)) (Var 3)) (Var 2)))) (Lam (Fam (unit_type 1)) (Var 1)))) (App (App (App (App (App (Elim (pair_type 1) 1) (App (App (Fam (pair_type 1)) (App (App (App (Const 61) (Var 23)) (App (Con 2 1) (Var 19))) (Var 17))) (App (App (App (App (Const 60) (Var 23)) (App (Const 61) (Var 23))) (App (Con 2 1) (Var 19))) (Var 17)))) (App (App (Fam (pair_type 1)) (App (App (Fam (pair_type 1)) (App (App (App (Const 61) (Var 23)) (App (Con 2 1) (App (Con 2 1) (Var 19)))) (App (App (App (App (App (Con 8 1) (Var 23)) (App (Con 2 1) (App (Con 2 1) (Var 19)))) (Var 8)) (Var 3)) (Var 2)))) (App (App (App (App (Const 60) (Var 23)) (App (Const 61) (Var 23))) (App (Con 2 1) (App (Con 2 1) (Var 19)))) (App (App (App (App (App (Con 8 1) (Var 23)) (App (Con 2 1) (App (Con 2 1) (Var 19)))) (Var 8)) (Var 3)) (Var 2))))) (Fam (unit_type 1)))) (Lam (App (App (Fam (pair_type 1)) (App (App (Fam (pair_type 1)) (App (App (App (Const 61) (Var 23)) (App (Con 2 1) (Var 19))) (Var 17))) (App (App (App (App (Const 60) (Var 23)) (App (Const 61) (Var 23))) (App (Con 2 1) (Var 19))) (Var 17)))) (App (App (Fam (pair_type 1)) (App (App (Fam (pair_type 1)) (App (App (App (Const 61) (Var 23)) (App (Con 2 1) (App (Con 2 1) (Var 19)))) (App (App (App (App (App (Con 8 1) (Var 23)) (App (Con 2 1) (App (Con 2 1) (Var 19)))) (Var 8)) (Var 3)) (Var 2)))) (App (App (App (App (Const 60) (Var 23)) (App (Const 61) (Var 23))) (App (Con 2 1) (App (Con 2 1) (Var 19)))) (App (App (App (App (App (Con 8 1) (Var 23)) (App (Con 2 1) (App (Con 2 1) (Var 19)))) (Var 8)) (Var 3)) (Var 2))))) (Fam (unit_type 1)))) (App (App (Fam (pair_type 1)) (App (App (Fam (pair_type 1)) (App (App (App (Const 61) (Var 24)) (App (Con 2 1) (App (Con 2 1) (Var 20)))) (App (App (App (App (App (Con 8 1) (Var 24)) (App (Con 2 1) (App (Con 2 1) (Var 20)))) (Var 9)) (Var 4)) (Var 3)))) (App (App (App (App (Const 60) (Var 24)) (App (Const 61) (Var 24))) (App (Con 2 1) (App (Con 2 1) (Var 20)))) (App (App (App (App (App (Con 8 1) (Var 24)) (App (Con 2 1) (App (Con 2 1) (Var 20)))) (Var 9)) (Var 4)) (Var 3))))) (Fam (unit_type 1))))) (Lam (App (App (Fam (pair_type 1)) (App (App (App (Const 61) (Var 23)) (App (Con 2 1) (Var 19))) (Var 17))) (App (App (App (App (Const 60) (Var 23)) (App (Const 61) (Var 23))) (App (Con 2 1) (Var 19))) (Var 17))) (Lam (App (App (Fam (pair_type 1)) (App (App (Fam (pair_type 1)) (App (App (App (Const 61) (Var 24)) (App (Con 2 1) (App (Con 2 1) (Var 20)))) (App (App (App (App (App (Con 8 1) (Var 24)) (App (Con 2 1) (App (Con 2 1) (Var 20)))) (Var 9)) (Var 4)) (Var 3)))) (App (App (App (App (Const 60) (Var 24)) (App (Const 61) (Var 24))) (App (Con 2 1) (App (Con 2 1) (Var 20)))) (App (App (App (App (App (Con 8 1) (Var 24)) (App (Con 2 1) (App (Con 2 1) (Var 20)))) (Var 9)) (Var 4)) (Var 3))))) (Fam (unit_type 1))) (Var 0)))) (Var 0)))))))
unfolding native.Mathlib.Decide.ℕ_discrete
path_rm = refl

-- zero has no strict part
no_path_zero : below_path 2 nat 0 60 (Const 61) (Con 2 0) (Con 2 0) (Var 0) ≡ Ok None
unfolding native.Mathlib.Decide.ℕ_discrete
no_path_zero = refl

-- a term is no strict part of itself
no_path_itself : below_path 2 nat 0 60 (Const 61) (App (Con 2 1) (Var 2)) (App (Con 2 1) (Var 2)) (Var 0) ≡ Ok None
unfolding native.Mathlib.Decide.ℕ_discrete
no_path_itself = refl

-- an argument without its inner argument
no_path_fewer : below_path 4 ord 0 60 (Const 61) (App (App (Con 4 0) (Var 3)) (Var 2)) (Var 2) (Var 0) ≡ Ok None
unfolding native.Mathlib.Decide.ℕ_discrete
no_path_fewer = refl

-- an argument that is not recursive
no_path_plain : below_path 8 rose 1 60 (App (Const 61) (Var 13)) (App (App (App (App (App (Con 8 1) (Var 13)) (Var 9)) (Var 8)) (Var 7)) (Var 6)) (Var 9) (Var 0) ≡ Ok None
unfolding native.Mathlib.Decide.ℕ_discrete
no_path_plain = refl

-- a constructor without its last argument
no_path_short : below_path 8 rose 1 60 (App (Const 61) (Var 13)) (App (App (App (App (Con 8 1) (Var 13)) (Var 9)) (Var 8)) (Var 7)) (Var 7) (Var 0) ≡ Ok None
unfolding native.Mathlib.Decide.ℕ_discrete
no_path_short = refl

-- nothing inside an argument that has inner arguments
no_path_under : below_path 4 ord 0 60 (Const 61) (App (App (Con 4 0) (Var 3)) (Lam (Fam 2) (App (App (Con 4 0) (Var 0)) (Var 3)))) (Var 2) (Var 0) ≡ Ok None
unfolding native.Mathlib.Decide.ℕ_discrete
no_path_under = refl
