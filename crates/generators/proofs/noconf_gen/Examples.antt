-- Types and terms of no confusion as another implementation prints them: Nat and Fin. Entry 50 is the constant that each mentions.
use Rattle.std.proofs.Common.{◌≡◌, refl}
use Rattle.theory.specs.Terms.Term.{Var, Sort, Pi, Lam, App, Const}
use Rattle.theory.specs.Signatures.{equation, reflexivity}
use Rattle.core_sig.specs.FamilyShapes.{family_shape}
use Rattle.generators.specs.noconf_gen.NoConfusionTypes.{constructor_at, nct_type, nct_term}
use Rattle.generators.specs.noconf_gen.NoConfusion.{noconf_type, noconf_term}
use Rattle.generators.proofs.noconf_gen.Samples.{J, Nat, zero, suc, nat, Fin, fz, fs, fin}

nat_nct_zero_type : nct_type 2 (family_shape 2 nat) 0 (constructor_at (family_shape 2 nat).constructors 0) 1
    ≡ Pi Nat (Pi (equation 0 Nat zero (Var 0)) (Sort 1))
nat_nct_zero_type = refl

nat_nct_zero_term : nct_term 2 (family_shape 2 nat) 0 (constructor_at (family_shape 2 nat).constructors 0) 0 1 50
    ≡ Lam Nat (App (App (App (App (Const 50) (Lam Nat (Pi (equation 0 Nat zero (Var 0)) (Sort 1)))) (Lam (equation 0 Nat zero
    zero) (Pi (Pi (equation 0 Nat zero zero) (Sort 0)) (Pi (App (Var 0) (reflexivity 0 Nat zero)) (App (Var 1) (Var 2))))))
    (Lam Nat (Lam (equation 0 Nat zero (suc (Var 0))) (Pi (Pi (equation 0 Nat zero (suc (Var 1))) (Sort 0)) (App (Var 0) (Var
    1)))))) (Var 0))
nat_nct_zero_term = refl

nat_nct_suc_type : nct_type 2 (family_shape 2 nat) 1 (constructor_at (family_shape 2 nat).constructors 1) 1
    ≡ Pi Nat (Pi Nat (Pi (equation 0 Nat (suc (Var 1)) (Var 0)) (Sort 1)))
nat_nct_suc_type = refl

nat_nct_suc_term : nct_term 2 (family_shape 2 nat) 1 (constructor_at (family_shape 2 nat).constructors 1) 0 1 50
    ≡ Lam Nat (Lam Nat (App (App (App (App (Const 50) (Lam Nat (Pi (equation 0 Nat (suc (Var 2)) (Var 0)) (Sort 1)))) (Lam
    (equation 0 Nat (suc (Var 1)) zero) (Pi (Pi (equation 0 Nat (suc (Var 2)) zero) (Sort 0)) (App (Var 0) (Var 1))))) (Lam
    Nat (Lam (equation 0 Nat (suc (Var 2)) (suc (Var 0))) (Pi (Pi (equation 0 Nat (suc (Var 3)) (suc (Var 1))) (Sort 0)) (Pi
    (Pi (equation 0 Nat (Var 4) (Var 2)) (App (Var 1) (J 0 0 Nat (Var 5) (Lam Nat (Lam (equation 0 Nat (Var 6) (Var 0))
    (equation 0 Nat (suc (Var 7)) (suc (Var 1))))) (reflexivity 0 Nat (suc (Var 5))) (Var 3) (Var 0)))) (App (Var 1) (Var
    2))))))) (Var 0)))
nat_nct_suc_term = refl

nat_noconf_zero_type : noconf_type 2 (family_shape 2 nat) 0 (constructor_at (family_shape 2 nat).constructors 0) 50
    ≡ Pi Nat (Pi (equation 0 Nat zero (Var 0)) (App (App (Const 50) (Var 1)) (Var 0)))
nat_noconf_zero_type = refl

nat_noconf_zero_term : noconf_term 2 (family_shape 2 nat) 0 (constructor_at (family_shape 2 nat).constructors 0) 0 1 50
    ≡ Lam Nat (Lam (equation 0 Nat zero (Var 0)) (J 0 1 Nat zero (Lam Nat (Lam (equation 0 Nat zero (Var 0)) (App (App (Const
    50) (Var 1)) (Var 0)))) (Lam (Pi (equation 0 Nat zero zero) (Sort 0)) (Lam (App (Var 0) (reflexivity 0 Nat zero)) (Var
    0))) (Var 1) (Var 0)))
nat_noconf_zero_term = refl

nat_noconf_suc_type : noconf_type 2 (family_shape 2 nat) 1 (constructor_at (family_shape 2 nat).constructors 1) 50
    ≡ Pi Nat (Pi Nat (Pi (equation 0 Nat (suc (Var 1)) (Var 0)) (App (App (App (Const 50) (Var 2)) (Var 1)) (Var 0))))
nat_noconf_suc_type = refl

nat_noconf_suc_term : noconf_term 2 (family_shape 2 nat) 1 (constructor_at (family_shape 2 nat).constructors 1) 0 1 50
    ≡ Lam Nat (Lam Nat (Lam (equation 0 Nat (suc (Var 1)) (Var 0)) (J 0 1 Nat (suc (Var 2)) (Lam Nat (Lam (equation 0 Nat (suc
    (Var 3)) (Var 0)) (App (App (App (Const 50) (Var 4)) (Var 1)) (Var 0)))) (Lam (Pi (equation 0 Nat (suc (Var 2)) (suc (Var
    2))) (Sort 0)) (Lam (Pi (equation 0 Nat (Var 3) (Var 3)) (App (Var 1) (J 0 0 Nat (Var 4) (Lam Nat (Lam (equation 0 Nat
    (Var 5) (Var 0)) (equation 0 Nat (suc (Var 6)) (suc (Var 1))))) (reflexivity 0 Nat (suc (Var 4))) (Var 4) (Var 0)))) (App
    (Var 0) (reflexivity 0 Nat (Var 4))))) (Var 1) (Var 0))))
nat_noconf_suc_term = refl

fin_nct_fs_type : nct_type 6 (family_shape 6 fin) 1 (constructor_at (family_shape 6 fin).constructors 1) 1
    ≡ Pi Nat (Pi (Fin (Var 0)) (Pi Nat (Pi (Fin (Var 0)) (Pi (equation 0 Nat (suc (Var 3)) (Var 1)) (Pi (equation 0 (Fin (Var
    2)) (App (J 0 0 Nat (suc (Var 4)) (Lam Nat (Lam (equation 0 Nat (suc (Var 5)) (Var 0)) (Pi (Fin (suc (Var 6))) (Fin (Var
    2))))) (Lam (Fin (suc (Var 4))) (Var 0)) (Var 2) (Var 0)) (fs (Var 4) (Var 3))) (Var 1)) (Sort 1))))))
fin_nct_fs_type = refl

fin_nct_fs_term : nct_term 6 (family_shape 6 fin) 1 (constructor_at (family_shape 6 fin).constructors 1) 0 1 50
    ≡ Lam Nat (Lam (Fin (Var 0)) (Lam Nat (Lam (Fin (Var 0)) (App (App (App (App (App (Const 50) (Lam Nat (Lam (Fin (Var 0))
    (Pi (equation 0 Nat (suc (Var 5)) (Var 1)) (Pi (equation 0 (Fin (Var 2)) (App (J 0 0 Nat (suc (Var 6)) (Lam Nat (Lam
    (equation 0 Nat (suc (Var 7)) (Var 0)) (Pi (Fin (suc (Var 8))) (Fin (Var 2))))) (Lam (Fin (suc (Var 6))) (Var 0)) (Var 2)
    (Var 0)) (fs (Var 6) (Var 5))) (Var 1)) (Sort 1)))))) (Lam Nat (Lam (equation 0 Nat (suc (Var 4)) (suc (Var 0))) (Lam
    (equation 0 (Fin (suc (Var 1))) (App (J 0 0 Nat (suc (Var 5)) (Lam Nat (Lam (equation 0 Nat (suc (Var 6)) (Var 0)) (Pi
    (Fin (suc (Var 7))) (Fin (Var 2))))) (Lam (Fin (suc (Var 5))) (Var 0)) (suc (Var 1)) (Var 0)) (fs (Var 5) (Var 4))) (fz
    (Var 1))) (Pi (Pi (equation 0 Nat (suc (Var 6)) (suc (Var 2))) (Pi (equation 0 (Fin (suc (Var 3))) (App (J 0 0 Nat (suc
    (Var 7)) (Lam Nat (Lam (equation 0 Nat (suc (Var 8)) (Var 0)) (Pi (Fin (suc (Var 9))) (Fin (Var 2))))) (Lam (Fin (suc (Var
    7))) (Var 0)) (suc (Var 3)) (Var 0)) (fs (Var 7) (Var 6))) (fz (Var 3))) (Sort 0))) (App (App (Var 0) (Var 2)) (Var
    1))))))) (Lam Nat (Lam (Fin (Var 0)) (Lam (equation 0 Nat (suc (Var 5)) (suc (Var 1))) (Lam (equation 0 (Fin (suc (Var
    2))) (App (J 0 0 Nat (suc (Var 6)) (Lam Nat (Lam (equation 0 Nat (suc (Var 7)) (Var 0)) (Pi (Fin (suc (Var 8))) (Fin (Var
    2))))) (Lam (Fin (suc (Var 6))) (Var 0)) (suc (Var 2)) (Var 0)) (fs (Var 6) (Var 5))) (fs (Var 2) (Var 1))) (Pi (Pi
    (equation 0 Nat (suc (Var 7)) (suc (Var 3))) (Pi (equation 0 (Fin (suc (Var 4))) (App (J 0 0 Nat (suc (Var 8)) (Lam Nat
    (Lam (equation 0 Nat (suc (Var 9)) (Var 0)) (Pi (Fin (suc (Var 10))) (Fin (Var 2))))) (Lam (Fin (suc (Var 8))) (Var 0))
    (suc (Var 4)) (Var 0)) (fs (Var 8) (Var 7))) (fs (Var 4) (Var 3))) (Sort 0))) (Pi (Pi (equation 0 Nat (Var 8) (Var 4)) (Pi
    (equation 0 (Fin (Var 5)) (App (J 0 0 Nat (Var 9) (Lam Nat (Lam (equation 0 Nat (Var 10) (Var 0)) (Pi (Fin (Var 11)) (Fin
    (Var 2))))) (Lam (Fin (Var 9)) (Var 0)) (Var 5) (Var 0)) (Var 8)) (Var 4)) (App (App (Var 2) (App (App (J 0 0 Nat (Var 10)
    (Lam Nat (Lam (equation 0 Nat (Var 11) (Var 0)) (Pi (Fin (Var 1)) (Pi (equation 0 (Fin (Var 2)) (App (J 0 0 Nat (Var 13)
    (Lam Nat (Lam (equation 0 Nat (Var 14) (Var 0)) (Pi (Fin (Var 15)) (Fin (Var 2))))) (Lam (Fin (Var 13)) (Var 0)) (Var 2)
    (Var 1)) (Var 12)) (Var 0)) (equation 0 Nat (suc (Var 14)) (suc (Var 3))))))) (Lam (Fin (Var 10)) (Lam (equation 0 (Fin
    (Var 11)) (App (J 0 0 Nat (Var 11) (Lam Nat (Lam (equation 0 Nat (Var 12) (Var 0)) (Pi (Fin (Var 13)) (Fin (Var 2)))))
    (Lam (Fin (Var 11)) (Var 0)) (Var 11) (reflexivity 0 Nat (Var 11))) (Var 10)) (Var 0)) (J 0 0 (Fin (Var 12)) (Var 11) (Lam
    (Fin (Var 12)) (Lam (equation 0 (Fin (Var 13)) (Var 12) (Var 0)) (equation 0 Nat (suc (Var 14)) (suc (Var 14)))))
    (reflexivity 0 Nat (suc (Var 12))) (Var 1) (Var 0)))) (Var 6) (Var 1)) (Var 5)) (Var 0))) (App (App (J 0 0 Nat (Var 10)
    (Lam Nat (Lam (equation 0 Nat (Var 11) (Var 0)) (Pi (Fin (Var 1)) (Pi (equation 0 (Fin (Var 2)) (App (J 0 0 Nat (Var 13)
    (Lam Nat (Lam (equation 0 Nat (Var 14) (Var 0)) (Pi (Fin (Var 15)) (Fin (Var 2))))) (Lam (Fin (Var 13)) (Var 0)) (Var 2)
    (Var 1)) (Var 12)) (Var 0)) (equation 0 (Fin (suc (Var 3))) (App (J 0 0 Nat (suc (Var 14)) (Lam Nat (Lam (equation 0 Nat
    (suc (Var 15)) (Var 0)) (Pi (Fin (suc (Var 16))) (Fin (Var 2))))) (Lam (Fin (suc (Var 14))) (Var 0)) (suc (Var 3)) (App
    (App (J 0 0 Nat (Var 14) (Lam Nat (Lam (equation 0 Nat (Var 15) (Var 0)) (Pi (Fin (Var 1)) (Pi (equation 0 (Fin (Var 2))
    (App (J 0 0 Nat (Var 17) (Lam Nat (Lam (equation 0 Nat (Var 18) (Var 0)) (Pi (Fin (Var 19)) (Fin (Var 2))))) (Lam (Fin
    (Var 17)) (Var 0)) (Var 2) (Var 1)) (Var 16)) (Var 0)) (equation 0 Nat (suc (Var 18)) (suc (Var 3))))))) (Lam (Fin (Var
    14)) (Lam (equation 0 (Fin (Var 15)) (App (J 0 0 Nat (Var 15) (Lam Nat (Lam (equation 0 Nat (Var 16) (Var 0)) (Pi (Fin
    (Var 17)) (Fin (Var 2))))) (Lam (Fin (Var 15)) (Var 0)) (Var 15) (reflexivity 0 Nat (Var 15))) (Var 14)) (Var 0)) (J 0 0
    (Fin (Var 16)) (Var 15) (Lam (Fin (Var 16)) (Lam (equation 0 (Fin (Var 17)) (Var 16) (Var 0)) (equation 0 Nat (suc (Var
    18)) (suc (Var 18))))) (reflexivity 0 Nat (suc (Var 16))) (Var 1) (Var 0)))) (Var 3) (Var 2)) (Var 1)) (Var 0))) (fs (Var
    14) (Var 13))) (fs (Var 3) (Var 1))))))) (Lam (Fin (Var 10)) (Lam (equation 0 (Fin (Var 11)) (App (J 0 0 Nat (Var 11) (Lam
    Nat (Lam (equation 0 Nat (Var 12) (Var 0)) (Pi (Fin (Var 13)) (Fin (Var 2))))) (Lam (Fin (Var 11)) (Var 0)) (Var 11)
    (reflexivity 0 Nat (Var 11))) (Var 10)) (Var 0)) (J 0 0 (Fin (Var 12)) (Var 11) (Lam (Fin (Var 12)) (Lam (equation 0 (Fin
    (Var 13)) (Var 12) (Var 0)) (equation 0 (Fin (suc (Var 14))) (App (J 0 0 Nat (suc (Var 14)) (Lam Nat (Lam (equation 0 Nat
    (suc (Var 15)) (Var 0)) (Pi (Fin (suc (Var 16))) (Fin (Var 2))))) (Lam (Fin (suc (Var 14))) (Var 0)) (suc (Var 14)) (App
    (App (J 0 0 Nat (Var 14) (Lam Nat (Lam (equation 0 Nat (Var 15) (Var 0)) (Pi (Fin (Var 1)) (Pi (equation 0 (Fin (Var 2))
    (App (J 0 0 Nat (Var 17) (Lam Nat (Lam (equation 0 Nat (Var 18) (Var 0)) (Pi (Fin (Var 19)) (Fin (Var 2))))) (Lam (Fin
    (Var 17)) (Var 0)) (Var 2) (Var 1)) (Var 16)) (Var 0)) (equation 0 Nat (suc (Var 18)) (suc (Var 3))))))) (Lam (Fin (Var
    14)) (Lam (equation 0 (Fin (Var 15)) (App (J 0 0 Nat (Var 15) (Lam Nat (Lam (equation 0 Nat (Var 16) (Var 0)) (Pi (Fin
    (Var 17)) (Fin (Var 2))))) (Lam (Fin (Var 15)) (Var 0)) (Var 15) (reflexivity 0 Nat (Var 15))) (Var 14)) (Var 0)) (J 0 0
    (Fin (Var 16)) (Var 15) (Lam (Fin (Var 16)) (Lam (equation 0 (Fin (Var 17)) (Var 16) (Var 0)) (equation 0 Nat (suc (Var
    18)) (suc (Var 18))))) (reflexivity 0 Nat (suc (Var 16))) (Var 1) (Var 0)))) (Var 14) (reflexivity 0 Nat (Var 14))) (Var
    1)) (Var 0))) (fs (Var 14) (Var 13))) (fs (Var 14) (Var 1))))) (reflexivity 0 (Fin (suc (Var 12))) (fs (Var 12) (Var 11)))
    (Var 1) (Var 0)))) (Var 6) (Var 1)) (Var 5)) (Var 0))))) (App (App (Var 1) (Var 3)) (Var 2))))))))) (Var 1)) (Var 0)))))
fin_nct_fs_term = refl

fin_noconf_fs_type : noconf_type 6 (family_shape 6 fin) 1 (constructor_at (family_shape 6 fin).constructors 1) 50
    ≡ Pi Nat (Pi (Fin (Var 0)) (Pi Nat (Pi (Fin (Var 0)) (Pi (equation 0 Nat (suc (Var 3)) (Var 1)) (Pi (equation 0 (Fin (Var
    2)) (App (J 0 0 Nat (suc (Var 4)) (Lam Nat (Lam (equation 0 Nat (suc (Var 5)) (Var 0)) (Pi (Fin (suc (Var 6))) (Fin (Var
    2))))) (Lam (Fin (suc (Var 4))) (Var 0)) (Var 2) (Var 0)) (fs (Var 4) (Var 3))) (Var 1)) (App (App (App (App (App (App
    (Const 50) (Var 5)) (Var 4)) (Var 3)) (Var 2)) (Var 1)) (Var 0)))))))
fin_noconf_fs_type = refl
