-- Types and terms of no confusion for Vec, and for a family with two indices, the second of which depends on the first.
use Rattle.std.proofs.Common.{◌≡◌, refl}
use Rattle.theory.specs.Terms.Term.{Var, Sort, Pi, Lam, App, Const}
use Rattle.theory.specs.Signatures.{equation, reflexivity}
use Rattle.core_sig.specs.FamilyShapes.{family_shape}
use Rattle.generators.specs.noconf_gen.NoConfusionTypes.{constructor_at, nct_type, nct_term}
use Rattle.generators.specs.noconf_gen.NoConfusion.{noconf_type, noconf_term}
use Rattle.generators.proofs.noconf_gen.Samples.{J, Nat, zero, suc, Vec, nil, cons, vec, Fin, Two, two, two_family}

vec_nct_cons_type : nct_type 3 (family_shape 3 vec) 1 (constructor_at (family_shape 3 vec).constructors 1) 2
    ≡ Pi (Sort 0) (Pi Nat (Pi (Var 1) (Pi (Vec (Var 2) (Var 1)) (Pi Nat (Pi (Vec (Var 4) (Var 0)) (Pi (equation 0 Nat (suc
    (Var 4)) (Var 1)) (Pi (equation 0 (Vec (Var 6) (Var 2)) (App (J 0 0 Nat (suc (Var 5)) (Lam Nat (Lam (equation 0 Nat (suc
    (Var 6)) (Var 0)) (Pi (Vec (Var 8) (suc (Var 7))) (Vec (Var 9) (Var 2))))) (Lam (Vec (Var 6) (suc (Var 5))) (Var 0)) (Var
    2) (Var 0)) (cons (Var 6) (Var 5) (Var 4) (Var 3))) (Var 1)) (Sort 2))))))))
vec_nct_cons_type = refl

vec_nct_cons_term : nct_term 3 (family_shape 3 vec) 1 (constructor_at (family_shape 3 vec).constructors 1) 1 2 50
    ≡ Lam (Sort 0) (Lam Nat (Lam (Var 1) (Lam (Vec (Var 2) (Var 1)) (Lam Nat (Lam (Vec (Var 4) (Var 0)) (App (App (App (App
    (App (App (Const 50) (Var 5)) (Lam Nat (Lam (Vec (Var 6) (Var 0)) (Pi (equation 0 Nat (suc (Var 6)) (Var 1)) (Pi (equation
    0 (Vec (Var 8) (Var 2)) (App (J 0 0 Nat (suc (Var 7)) (Lam Nat (Lam (equation 0 Nat (suc (Var 8)) (Var 0)) (Pi (Vec (Var
    10) (suc (Var 9))) (Vec (Var 11) (Var 2))))) (Lam (Vec (Var 8) (suc (Var 7))) (Var 0)) (Var 2) (Var 0)) (cons (Var 8) (Var
    7) (Var 6) (Var 5))) (Var 1)) (Sort 2)))))) (Lam (equation 0 Nat (suc (Var 4)) zero) (Lam (equation 0 (Vec (Var 6) zero)
    (App (J 0 0 Nat (suc (Var 5)) (Lam Nat (Lam (equation 0 Nat (suc (Var 6)) (Var 0)) (Pi (Vec (Var 8) (suc (Var 7))) (Vec
    (Var 9) (Var 2))))) (Lam (Vec (Var 6) (suc (Var 5))) (Var 0)) zero (Var 0)) (cons (Var 6) (Var 5) (Var 4) (Var 3))) (nil
    (Var 6))) (Pi (Pi (equation 0 Nat (suc (Var 6)) zero) (Pi (equation 0 (Vec (Var 8) zero) (App (J 0 0 Nat (suc (Var 7))
    (Lam Nat (Lam (equation 0 Nat (suc (Var 8)) (Var 0)) (Pi (Vec (Var 10) (suc (Var 9))) (Vec (Var 11) (Var 2))))) (Lam (Vec
    (Var 8) (suc (Var 7))) (Var 0)) zero (Var 0)) (cons (Var 8) (Var 7) (Var 6) (Var 5))) (nil (Var 8))) (Sort 1))) (App (App
    (Var 0) (Var 2)) (Var 1)))))) (Lam Nat (Lam (Var 6) (Lam (Vec (Var 7) (Var 1)) (Lam (equation 0 Nat (suc (Var 7)) (suc
    (Var 2))) (Lam (equation 0 (Vec (Var 9) (suc (Var 3))) (App (J 0 0 Nat (suc (Var 8)) (Lam Nat (Lam (equation 0 Nat (suc
    (Var 9)) (Var 0)) (Pi (Vec (Var 11) (suc (Var 10))) (Vec (Var 12) (Var 2))))) (Lam (Vec (Var 9) (suc (Var 8))) (Var 0))
    (suc (Var 3)) (Var 0)) (cons (Var 9) (Var 8) (Var 7) (Var 6))) (cons (Var 9) (Var 3) (Var 2) (Var 1))) (Pi (Pi (equation 0
    Nat (suc (Var 9)) (suc (Var 4))) (Pi (equation 0 (Vec (Var 11) (suc (Var 5))) (App (J 0 0 Nat (suc (Var 10)) (Lam Nat (Lam
    (equation 0 Nat (suc (Var 11)) (Var 0)) (Pi (Vec (Var 13) (suc (Var 12))) (Vec (Var 14) (Var 2))))) (Lam (Vec (Var 11)
    (suc (Var 10))) (Var 0)) (suc (Var 5)) (Var 0)) (cons (Var 11) (Var 10) (Var 9) (Var 8))) (cons (Var 11) (Var 5) (Var 4)
    (Var 3))) (Sort 1))) (Pi (Pi (equation 0 Nat (Var 10) (Var 5)) (Pi (equation 0 (Var 12) (Var 10) (Var 5)) (Pi (equation 0
    (Vec (Var 13) (Var 7)) (App (J 0 0 Nat (Var 12) (Lam Nat (Lam (equation 0 Nat (Var 13) (Var 0)) (Pi (Vec (Var 15) (Var
    14)) (Vec (Var 16) (Var 2))))) (Lam (Vec (Var 13) (Var 12)) (Var 0)) (Var 7) (Var 1)) (Var 10)) (Var 5)) (App (App (Var 3)
    (App (App (App (App (J 0 0 Nat (Var 13) (Lam Nat (Lam (equation 0 Nat (Var 14) (Var 0)) (Pi (Var 16) (Pi (equation 0 (Var
    17) (Var 15) (Var 0)) (Pi (Vec (Var 18) (Var 3)) (Pi (equation 0 (Vec (Var 19) (Var 4)) (App (J 0 0 Nat (Var 18) (Lam Nat
    (Lam (equation 0 Nat (Var 19) (Var 0)) (Pi (Vec (Var 21) (Var 20)) (Vec (Var 22) (Var 2))))) (Lam (Vec (Var 19) (Var 18))
    (Var 0)) (Var 4) (Var 3)) (Var 16)) (Var 0)) (equation 0 Nat (suc (Var 19)) (suc (Var 5))))))))) (Lam (Var 14) (Lam
    (equation 0 (Var 15) (Var 13) (Var 0)) (Lam (Vec (Var 16) (Var 15)) (Lam (equation 0 (Vec (Var 17) (Var 16)) (App (J 0 0
    Nat (Var 16) (Lam Nat (Lam (equation 0 Nat (Var 17) (Var 0)) (Pi (Vec (Var 19) (Var 18)) (Vec (Var 20) (Var 2))))) (Lam
    (Vec (Var 17) (Var 16)) (Var 0)) (Var 16) (reflexivity 0 Nat (Var 16))) (Var 14)) (Var 0)) (App (App (J 0 0 (Var 18) (Var
    16) (Lam (Var 18) (Lam (equation 0 (Var 19) (Var 17) (Var 0)) (Pi (Vec (Var 20) (Var 19)) (Pi (equation 0 (Vec (Var 21)
    (Var 20)) (App (J 0 0 Nat (Var 20) (Lam Nat (Lam (equation 0 Nat (Var 21) (Var 0)) (Pi (Vec (Var 23) (Var 22)) (Vec (Var
    24) (Var 2))))) (Lam (Vec (Var 21) (Var 20)) (Var 0)) (Var 20) (reflexivity 0 Nat (Var 20))) (Var 18)) (Var 0)) (equation
    0 Nat (suc (Var 21)) (suc (Var 21))))))) (Lam (Vec (Var 18) (Var 17)) (Lam (equation 0 (Vec (Var 19) (Var 18)) (App (J 0 0
    Nat (Var 18) (Lam Nat (Lam (equation 0 Nat (Var 19) (Var 0)) (Pi (Vec (Var 21) (Var 20)) (Vec (Var 22) (Var 2))))) (Lam
    (Vec (Var 19) (Var 18)) (Var 0)) (Var 18) (reflexivity 0 Nat (Var 18))) (Var 16)) (Var 0)) (J 0 0 (Vec (Var 20) (Var 19))
    (Var 17) (Lam (Vec (Var 20) (Var 19)) (Lam (equation 0 (Vec (Var 21) (Var 20)) (Var 18) (Var 0)) (equation 0 Nat (suc (Var
    21)) (suc (Var 21))))) (reflexivity 0 Nat (suc (Var 19))) (Var 1) (Var 0)))) (Var 3) (Var 2)) (Var 1)) (Var 0)))))) (Var
    8) (Var 2)) (Var 7)) (Var 1)) (Var 6)) (Var 0))) (App (App (App (App (J 0 0 Nat (Var 13) (Lam Nat (Lam (equation 0 Nat
    (Var 14) (Var 0)) (Pi (Var 16) (Pi (equation 0 (Var 17) (Var 15) (Var 0)) (Pi (Vec (Var 18) (Var 3)) (Pi (equation 0 (Vec
    (Var 19) (Var 4)) (App (J 0 0 Nat (Var 18) (Lam Nat (Lam (equation 0 Nat (Var 19) (Var 0)) (Pi (Vec (Var 21) (Var 20))
    (Vec (Var 22) (Var 2))))) (Lam (Vec (Var 19) (Var 18)) (Var 0)) (Var 4) (Var 3)) (Var 16)) (Var 0)) (equation 0 (Vec (Var
    20) (suc (Var 5))) (App (J 0 0 Nat (suc (Var 19)) (Lam Nat (Lam (equation 0 Nat (suc (Var 20)) (Var 0)) (Pi (Vec (Var 22)
    (suc (Var 21))) (Vec (Var 23) (Var 2))))) (Lam (Vec (Var 20) (suc (Var 19))) (Var 0)) (suc (Var 5)) (App (App (App (App (J
    0 0 Nat (Var 19) (Lam Nat (Lam (equation 0 Nat (Var 20) (Var 0)) (Pi (Var 22) (Pi (equation 0 (Var 23) (Var 21) (Var 0))
    (Pi (Vec (Var 24) (Var 3)) (Pi (equation 0 (Vec (Var 25) (Var 4)) (App (J 0 0 Nat (Var 24) (Lam Nat (Lam (equation 0 Nat
    (Var 25) (Var 0)) (Pi (Vec (Var 27) (Var 26)) (Vec (Var 28) (Var 2))))) (Lam (Vec (Var 25) (Var 24)) (Var 0)) (Var 4) (Var
    3)) (Var 22)) (Var 0)) (equation 0 Nat (suc (Var 25)) (suc (Var 5))))))))) (Lam (Var 20) (Lam (equation 0 (Var 21) (Var
    19) (Var 0)) (Lam (Vec (Var 22) (Var 21)) (Lam (equation 0 (Vec (Var 23) (Var 22)) (App (J 0 0 Nat (Var 22) (Lam Nat (Lam
    (equation 0 Nat (Var 23) (Var 0)) (Pi (Vec (Var 25) (Var 24)) (Vec (Var 26) (Var 2))))) (Lam (Vec (Var 23) (Var 22)) (Var
    0)) (Var 22) (reflexivity 0 Nat (Var 22))) (Var 20)) (Var 0)) (App (App (J 0 0 (Var 24) (Var 22) (Lam (Var 24) (Lam
    (equation 0 (Var 25) (Var 23) (Var 0)) (Pi (Vec (Var 26) (Var 25)) (Pi (equation 0 (Vec (Var 27) (Var 26)) (App (J 0 0 Nat
    (Var 26) (Lam Nat (Lam (equation 0 Nat (Var 27) (Var 0)) (Pi (Vec (Var 29) (Var 28)) (Vec (Var 30) (Var 2))))) (Lam (Vec
    (Var 27) (Var 26)) (Var 0)) (Var 26) (reflexivity 0 Nat (Var 26))) (Var 24)) (Var 0)) (equation 0 Nat (suc (Var 27)) (suc
    (Var 27))))))) (Lam (Vec (Var 24) (Var 23)) (Lam (equation 0 (Vec (Var 25) (Var 24)) (App (J 0 0 Nat (Var 24) (Lam Nat
    (Lam (equation 0 Nat (Var 25) (Var 0)) (Pi (Vec (Var 27) (Var 26)) (Vec (Var 28) (Var 2))))) (Lam (Vec (Var 25) (Var 24))
    (Var 0)) (Var 24) (reflexivity 0 Nat (Var 24))) (Var 22)) (Var 0)) (J 0 0 (Vec (Var 26) (Var 25)) (Var 23) (Lam (Vec (Var
    26) (Var 25)) (Lam (equation 0 (Vec (Var 27) (Var 26)) (Var 24) (Var 0)) (equation 0 Nat (suc (Var 27)) (suc (Var 27)))))
    (reflexivity 0 Nat (suc (Var 25))) (Var 1) (Var 0)))) (Var 3) (Var 2)) (Var 1)) (Var 0)))))) (Var 5) (Var 4)) (Var 3))
    (Var 2)) (Var 1)) (Var 0))) (cons (Var 20) (Var 19) (Var 18) (Var 17))) (cons (Var 20) (Var 5) (Var 3) (Var 1)))))))))
    (Lam (Var 14) (Lam (equation 0 (Var 15) (Var 13) (Var 0)) (Lam (Vec (Var 16) (Var 15)) (Lam (equation 0 (Vec (Var 17) (Var
    16)) (App (J 0 0 Nat (Var 16) (Lam Nat (Lam (equation 0 Nat (Var 17) (Var 0)) (Pi (Vec (Var 19) (Var 18)) (Vec (Var 20)
    (Var 2))))) (Lam (Vec (Var 17) (Var 16)) (Var 0)) (Var 16) (reflexivity 0 Nat (Var 16))) (Var 14)) (Var 0)) (App (App (J 0
    0 (Var 18) (Var 16) (Lam (Var 18) (Lam (equation 0 (Var 19) (Var 17) (Var 0)) (Pi (Vec (Var 20) (Var 19)) (Pi (equation 0
    (Vec (Var 21) (Var 20)) (App (J 0 0 Nat (Var 20) (Lam Nat (Lam (equation 0 Nat (Var 21) (Var 0)) (Pi (Vec (Var 23) (Var
    22)) (Vec (Var 24) (Var 2))))) (Lam (Vec (Var 21) (Var 20)) (Var 0)) (Var 20) (reflexivity 0 Nat (Var 20))) (Var 18)) (Var
    0)) (equation 0 (Vec (Var 22) (suc (Var 21))) (App (J 0 0 Nat (suc (Var 21)) (Lam Nat (Lam (equation 0 Nat (suc (Var 22))
    (Var 0)) (Pi (Vec (Var 24) (suc (Var 23))) (Vec (Var 25) (Var 2))))) (Lam (Vec (Var 22) (suc (Var 21))) (Var 0)) (suc (Var
    21)) (App (App (App (App (J 0 0 Nat (Var 21) (Lam Nat (Lam (equation 0 Nat (Var 22) (Var 0)) (Pi (Var 24) (Pi (equation 0
    (Var 25) (Var 23) (Var 0)) (Pi (Vec (Var 26) (Var 3)) (Pi (equation 0 (Vec (Var 27) (Var 4)) (App (J 0 0 Nat (Var 26) (Lam
    Nat (Lam (equation 0 Nat (Var 27) (Var 0)) (Pi (Vec (Var 29) (Var 28)) (Vec (Var 30) (Var 2))))) (Lam (Vec (Var 27) (Var
    26)) (Var 0)) (Var 4) (Var 3)) (Var 24)) (Var 0)) (equation 0 Nat (suc (Var 27)) (suc (Var 5))))))))) (Lam (Var 22) (Lam
    (equation 0 (Var 23) (Var 21) (Var 0)) (Lam (Vec (Var 24) (Var 23)) (Lam (equation 0 (Vec (Var 25) (Var 24)) (App (J 0 0
    Nat (Var 24) (Lam Nat (Lam (equation 0 Nat (Var 25) (Var 0)) (Pi (Vec (Var 27) (Var 26)) (Vec (Var 28) (Var 2))))) (Lam
    (Vec (Var 25) (Var 24)) (Var 0)) (Var 24) (reflexivity 0 Nat (Var 24))) (Var 22)) (Var 0)) (App (App (J 0 0 (Var 26) (Var
    24) (Lam (Var 26) (Lam (equation 0 (Var 27) (Var 25) (Var 0)) (Pi (Vec (Var 28) (Var 27)) (Pi (equation 0 (Vec (Var 29)
    (Var 28)) (App (J 0 0 Nat (Var 28) (Lam Nat (Lam (equation 0 Nat (Var 29) (Var 0)) (Pi (Vec (Var 31) (Var 30)) (Vec (Var
    32) (Var 2))))) (Lam (Vec (Var 29) (Var 28)) (Var 0)) (Var 28) (reflexivity 0 Nat (Var 28))) (Var 26)) (Var 0)) (equation
    0 Nat (suc (Var 29)) (suc (Var 29))))))) (Lam (Vec (Var 26) (Var 25)) (Lam (equation 0 (Vec (Var 27) (Var 26)) (App (J 0 0
    Nat (Var 26) (Lam Nat (Lam (equation 0 Nat (Var 27) (Var 0)) (Pi (Vec (Var 29) (Var 28)) (Vec (Var 30) (Var 2))))) (Lam
    (Vec (Var 27) (Var 26)) (Var 0)) (Var 26) (reflexivity 0 Nat (Var 26))) (Var 24)) (Var 0)) (J 0 0 (Vec (Var 28) (Var 27))
    (Var 25) (Lam (Vec (Var 28) (Var 27)) (Lam (equation 0 (Vec (Var 29) (Var 28)) (Var 26) (Var 0)) (equation 0 Nat (suc (Var
    29)) (suc (Var 29))))) (reflexivity 0 Nat (suc (Var 27))) (Var 1) (Var 0)))) (Var 3) (Var 2)) (Var 1)) (Var 0)))))) (Var
    21) (reflexivity 0 Nat (Var 21))) (Var 3)) (Var 2)) (Var 1)) (Var 0))) (cons (Var 22) (Var 21) (Var 20) (Var 19))) (cons
    (Var 22) (Var 21) (Var 3) (Var 1))))))) (Lam (Vec (Var 18) (Var 17)) (Lam (equation 0 (Vec (Var 19) (Var 18)) (App (J 0 0
    Nat (Var 18) (Lam Nat (Lam (equation 0 Nat (Var 19) (Var 0)) (Pi (Vec (Var 21) (Var 20)) (Vec (Var 22) (Var 2))))) (Lam
    (Vec (Var 19) (Var 18)) (Var 0)) (Var 18) (reflexivity 0 Nat (Var 18))) (Var 16)) (Var 0)) (J 0 0 (Vec (Var 20) (Var 19))
    (Var 17) (Lam (Vec (Var 20) (Var 19)) (Lam (equation 0 (Vec (Var 21) (Var 20)) (Var 18) (Var 0)) (equation 0 (Vec (Var 22)
    (suc (Var 21))) (App (J 0 0 Nat (suc (Var 21)) (Lam Nat (Lam (equation 0 Nat (suc (Var 22)) (Var 0)) (Pi (Vec (Var 24)
    (suc (Var 23))) (Vec (Var 25) (Var 2))))) (Lam (Vec (Var 22) (suc (Var 21))) (Var 0)) (suc (Var 21)) (App (App (App (App
    (J 0 0 Nat (Var 21) (Lam Nat (Lam (equation 0 Nat (Var 22) (Var 0)) (Pi (Var 24) (Pi (equation 0 (Var 25) (Var 23) (Var
    0)) (Pi (Vec (Var 26) (Var 3)) (Pi (equation 0 (Vec (Var 27) (Var 4)) (App (J 0 0 Nat (Var 26) (Lam Nat (Lam (equation 0
    Nat (Var 27) (Var 0)) (Pi (Vec (Var 29) (Var 28)) (Vec (Var 30) (Var 2))))) (Lam (Vec (Var 27) (Var 26)) (Var 0)) (Var 4)
    (Var 3)) (Var 24)) (Var 0)) (equation 0 Nat (suc (Var 27)) (suc (Var 5))))))))) (Lam (Var 22) (Lam (equation 0 (Var 23)
    (Var 21) (Var 0)) (Lam (Vec (Var 24) (Var 23)) (Lam (equation 0 (Vec (Var 25) (Var 24)) (App (J 0 0 Nat (Var 24) (Lam Nat
    (Lam (equation 0 Nat (Var 25) (Var 0)) (Pi (Vec (Var 27) (Var 26)) (Vec (Var 28) (Var 2))))) (Lam (Vec (Var 25) (Var 24))
    (Var 0)) (Var 24) (reflexivity 0 Nat (Var 24))) (Var 22)) (Var 0)) (App (App (J 0 0 (Var 26) (Var 24) (Lam (Var 26) (Lam
    (equation 0 (Var 27) (Var 25) (Var 0)) (Pi (Vec (Var 28) (Var 27)) (Pi (equation 0 (Vec (Var 29) (Var 28)) (App (J 0 0 Nat
    (Var 28) (Lam Nat (Lam (equation 0 Nat (Var 29) (Var 0)) (Pi (Vec (Var 31) (Var 30)) (Vec (Var 32) (Var 2))))) (Lam (Vec
    (Var 29) (Var 28)) (Var 0)) (Var 28) (reflexivity 0 Nat (Var 28))) (Var 26)) (Var 0)) (equation 0 Nat (suc (Var 29)) (suc
    (Var 29))))))) (Lam (Vec (Var 26) (Var 25)) (Lam (equation 0 (Vec (Var 27) (Var 26)) (App (J 0 0 Nat (Var 26) (Lam Nat
    (Lam (equation 0 Nat (Var 27) (Var 0)) (Pi (Vec (Var 29) (Var 28)) (Vec (Var 30) (Var 2))))) (Lam (Vec (Var 27) (Var 26))
    (Var 0)) (Var 26) (reflexivity 0 Nat (Var 26))) (Var 24)) (Var 0)) (J 0 0 (Vec (Var 28) (Var 27)) (Var 25) (Lam (Vec (Var
    28) (Var 27)) (Lam (equation 0 (Vec (Var 29) (Var 28)) (Var 26) (Var 0)) (equation 0 Nat (suc (Var 29)) (suc (Var 29)))))
    (reflexivity 0 Nat (suc (Var 27))) (Var 1) (Var 0)))) (Var 3) (Var 2)) (Var 1)) (Var 0)))))) (Var 21) (reflexivity 0 Nat
    (Var 21))) (Var 20)) (reflexivity 0 (Var 22) (Var 20))) (Var 1)) (Var 0))) (cons (Var 22) (Var 21) (Var 20) (Var 19)))
    (cons (Var 22) (Var 21) (Var 20) (Var 1))))) (reflexivity 0 (Vec (Var 20) (suc (Var 19))) (cons (Var 20) (Var 19) (Var 18)
    (Var 17))) (Var 1) (Var 0)))) (Var 3) (Var 2)) (Var 1)) (Var 0)))))) (Var 8) (Var 2)) (Var 7)) (Var 1)) (Var 6)) (Var
    0)))))) (App (App (Var 1) (Var 3)) (Var 2)))))))))) (Var 1)) (Var 0)))))))
vec_nct_cons_term = refl

vec_noconf_nil_type : noconf_type 3 (family_shape 3 vec) 0 (constructor_at (family_shape 3 vec).constructors 0) 50
    ≡ Pi (Sort 0) (Pi Nat (Pi (Vec (Var 1) (Var 0)) (Pi (equation 0 Nat zero (Var 1)) (Pi (equation 0 (Vec (Var 3) (Var 2))
    (App (J 0 0 Nat zero (Lam Nat (Lam (equation 0 Nat zero (Var 0)) (Pi (Vec (Var 5) zero) (Vec (Var 6) (Var 2))))) (Lam (Vec
    (Var 3) zero) (Var 0)) (Var 2) (Var 0)) (nil (Var 3))) (Var 1)) (App (App (App (App (App (Const 50) (Var 4)) (Var 3)) (Var
    2)) (Var 1)) (Var 0))))))
vec_noconf_nil_type = refl

vec_noconf_nil_term : noconf_term 3 (family_shape 3 vec) 0 (constructor_at (family_shape 3 vec).constructors 0) 0 1 50
    ≡ Lam (Sort 0) (Lam Nat (Lam (Vec (Var 1) (Var 0)) (Lam (equation 0 Nat zero (Var 1)) (Lam (equation 0 (Vec (Var 3) (Var
    2)) (App (J 0 0 Nat zero (Lam Nat (Lam (equation 0 Nat zero (Var 0)) (Pi (Vec (Var 5) zero) (Vec (Var 6) (Var 2))))) (Lam
    (Vec (Var 3) zero) (Var 0)) (Var 2) (Var 0)) (nil (Var 3))) (Var 1)) (App (App (J 0 1 Nat zero (Lam Nat (Lam (equation 0
    Nat zero (Var 0)) (Pi (Vec (Var 6) (Var 1)) (Pi (equation 0 (Vec (Var 7) (Var 2)) (App (J 0 0 Nat zero (Lam Nat (Lam
    (equation 0 Nat zero (Var 0)) (Pi (Vec (Var 9) zero) (Vec (Var 10) (Var 2))))) (Lam (Vec (Var 7) zero) (Var 0)) (Var 2)
    (Var 1)) (nil (Var 7))) (Var 0)) (App (App (App (App (App (Const 50) (Var 8)) (Var 3)) (Var 1)) (Var 2)) (Var 0)))))) (Lam
    (Vec (Var 4) zero) (Lam (equation 0 (Vec (Var 5) zero) (App (J 0 0 Nat zero (Lam Nat (Lam (equation 0 Nat zero (Var 0))
    (Pi (Vec (Var 7) zero) (Vec (Var 8) (Var 2))))) (Lam (Vec (Var 5) zero) (Var 0)) zero (reflexivity 0 Nat zero)) (nil (Var
    5))) (Var 0)) (J 0 1 (Vec (Var 6) zero) (nil (Var 6)) (Lam (Vec (Var 6) zero) (Lam (equation 0 (Vec (Var 7) zero) (nil
    (Var 7)) (Var 0)) (App (App (App (App (App (Const 50) (Var 8)) zero) (Var 1)) (reflexivity 0 Nat zero)) (Var 0)))) (Lam
    (Pi (equation 0 Nat zero zero) (Pi (equation 0 (Vec (Var 7) zero) (App (J 0 0 Nat zero (Lam Nat (Lam (equation 0 Nat zero
    (Var 0)) (Pi (Vec (Var 9) zero) (Vec (Var 10) (Var 2))))) (Lam (Vec (Var 7) zero) (Var 0)) zero (Var 0)) (nil (Var 7)))
    (nil (Var 7))) (Sort 0))) (Lam (App (App (Var 0) (reflexivity 0 Nat zero)) (reflexivity 0 (Vec (Var 7) zero) (nil (Var
    7)))) (Var 0))) (Var 1) (Var 0)))) (Var 3) (Var 1)) (Var 2)) (Var 0))))))
vec_noconf_nil_term = refl

vec_noconf_cons_type : noconf_type 3 (family_shape 3 vec) 1 (constructor_at (family_shape 3 vec).constructors 1) 50
    ≡ Pi (Sort 0) (Pi Nat (Pi (Var 1) (Pi (Vec (Var 2) (Var 1)) (Pi Nat (Pi (Vec (Var 4) (Var 0)) (Pi (equation 0 Nat (suc
    (Var 4)) (Var 1)) (Pi (equation 0 (Vec (Var 6) (Var 2)) (App (J 0 0 Nat (suc (Var 5)) (Lam Nat (Lam (equation 0 Nat (suc
    (Var 6)) (Var 0)) (Pi (Vec (Var 8) (suc (Var 7))) (Vec (Var 9) (Var 2))))) (Lam (Vec (Var 6) (suc (Var 5))) (Var 0)) (Var
    2) (Var 0)) (cons (Var 6) (Var 5) (Var 4) (Var 3))) (Var 1)) (App (App (App (App (App (App (App (App (Const 50) (Var 7))
    (Var 6)) (Var 5)) (Var 4)) (Var 3)) (Var 2)) (Var 1)) (Var 0)))))))))
vec_noconf_cons_type = refl

two_nct_two_type : nct_type 7 (family_shape 7 two_family) 0 (constructor_at (family_shape 7 two_family).constructors 0) 1
    ≡ Pi Nat (Pi (Fin (Var 0)) (Pi Nat (Pi (Fin (Var 0)) (Pi (Two (Var 1) (Var 0)) (Pi (equation 0 Nat (Var 4) (Var 2)) (Pi
    (equation 0 (Fin (Var 3)) (App (J 0 0 Nat (Var 5) (Lam Nat (Lam (equation 0 Nat (Var 6) (Var 0)) (Pi (Fin (Var 7)) (Fin
    (Var 2))))) (Lam (Fin (Var 5)) (Var 0)) (Var 3) (Var 0)) (Var 4)) (Var 2)) (Pi (equation 0 (Two (Var 4) (Var 3)) (App (App
    (App (J 0 0 Nat (Var 6) (Lam Nat (Lam (equation 0 Nat (Var 7) (Var 0)) (Pi (Fin (Var 1)) (Pi (equation 0 (Fin (Var 2))
    (App (J 0 0 Nat (Var 9) (Lam Nat (Lam (equation 0 Nat (Var 10) (Var 0)) (Pi (Fin (Var 11)) (Fin (Var 2))))) (Lam (Fin (Var
    9)) (Var 0)) (Var 2) (Var 1)) (Var 8)) (Var 0)) (Pi (Two (Var 10) (Var 9)) (Two (Var 4) (Var 2))))))) (Lam (Fin (Var 6))
    (Lam (equation 0 (Fin (Var 7)) (App (J 0 0 Nat (Var 7) (Lam Nat (Lam (equation 0 Nat (Var 8) (Var 0)) (Pi (Fin (Var 9))
    (Fin (Var 2))))) (Lam (Fin (Var 7)) (Var 0)) (Var 7) (reflexivity 0 Nat (Var 7))) (Var 6)) (Var 0)) (J 0 0 (Fin (Var 8))
    (Var 7) (Lam (Fin (Var 8)) (Lam (equation 0 (Fin (Var 9)) (Var 8) (Var 0)) (Pi (Two (Var 10) (Var 9)) (Two (Var 11) (Var
    2))))) (Lam (Two (Var 8) (Var 7)) (Var 0)) (Var 1) (Var 0)))) (Var 4) (Var 1)) (Var 3)) (Var 0)) (two (Var 6) (Var 5)))
    (Var 2)) (Sort 1))))))))
two_nct_two_type = refl

two_noconf_two_type : noconf_type 7 (family_shape 7 two_family) 0 (constructor_at (family_shape 7 two_family).constructors 0) 50
    ≡ Pi Nat (Pi (Fin (Var 0)) (Pi Nat (Pi (Fin (Var 0)) (Pi (Two (Var 1) (Var 0)) (Pi (equation 0 Nat (Var 4) (Var 2)) (Pi
    (equation 0 (Fin (Var 3)) (App (J 0 0 Nat (Var 5) (Lam Nat (Lam (equation 0 Nat (Var 6) (Var 0)) (Pi (Fin (Var 7)) (Fin
    (Var 2))))) (Lam (Fin (Var 5)) (Var 0)) (Var 3) (Var 0)) (Var 4)) (Var 2)) (Pi (equation 0 (Two (Var 4) (Var 3)) (App (App
    (App (J 0 0 Nat (Var 6) (Lam Nat (Lam (equation 0 Nat (Var 7) (Var 0)) (Pi (Fin (Var 1)) (Pi (equation 0 (Fin (Var 2))
    (App (J 0 0 Nat (Var 9) (Lam Nat (Lam (equation 0 Nat (Var 10) (Var 0)) (Pi (Fin (Var 11)) (Fin (Var 2))))) (Lam (Fin (Var
    9)) (Var 0)) (Var 2) (Var 1)) (Var 8)) (Var 0)) (Pi (Two (Var 10) (Var 9)) (Two (Var 4) (Var 2))))))) (Lam (Fin (Var 6))
    (Lam (equation 0 (Fin (Var 7)) (App (J 0 0 Nat (Var 7) (Lam Nat (Lam (equation 0 Nat (Var 8) (Var 0)) (Pi (Fin (Var 9))
    (Fin (Var 2))))) (Lam (Fin (Var 7)) (Var 0)) (Var 7) (reflexivity 0 Nat (Var 7))) (Var 6)) (Var 0)) (J 0 0 (Fin (Var 8))
    (Var 7) (Lam (Fin (Var 8)) (Lam (equation 0 (Fin (Var 9)) (Var 8) (Var 0)) (Pi (Two (Var 10) (Var 9)) (Two (Var 11) (Var
    2))))) (Lam (Two (Var 8) (Var 7)) (Var 0)) (Var 1) (Var 0)))) (Var 4) (Var 1)) (Var 3)) (Var 0)) (two (Var 6) (Var 5)))
    (Var 2)) (App (App (App (App (App (App (App (App (Const 50) (Var 7)) (Var 6)) (Var 5)) (Var 4)) (Var 3)) (Var 2)) (Var 1))
    (Var 0)))))))))
two_noconf_two_type = refl

two_noconf_two_term : noconf_term 7 (family_shape 7 two_family) 0 (constructor_at (family_shape 7 two_family).constructors 0) 0 1 50
    ≡ Lam Nat (Lam (Fin (Var 0)) (Lam Nat (Lam (Fin (Var 0)) (Lam (Two (Var 1) (Var 0)) (Lam (equation 0 Nat (Var 4) (Var 2))
    (Lam (equation 0 (Fin (Var 3)) (App (J 0 0 Nat (Var 5) (Lam Nat (Lam (equation 0 Nat (Var 6) (Var 0)) (Pi (Fin (Var 7))
    (Fin (Var 2))))) (Lam (Fin (Var 5)) (Var 0)) (Var 3) (Var 0)) (Var 4)) (Var 2)) (Lam (equation 0 (Two (Var 4) (Var 3))
    (App (App (App (J 0 0 Nat (Var 6) (Lam Nat (Lam (equation 0 Nat (Var 7) (Var 0)) (Pi (Fin (Var 1)) (Pi (equation 0 (Fin
    (Var 2)) (App (J 0 0 Nat (Var 9) (Lam Nat (Lam (equation 0 Nat (Var 10) (Var 0)) (Pi (Fin (Var 11)) (Fin (Var 2))))) (Lam
    (Fin (Var 9)) (Var 0)) (Var 2) (Var 1)) (Var 8)) (Var 0)) (Pi (Two (Var 10) (Var 9)) (Two (Var 4) (Var 2))))))) (Lam (Fin
    (Var 6)) (Lam (equation 0 (Fin (Var 7)) (App (J 0 0 Nat (Var 7) (Lam Nat (Lam (equation 0 Nat (Var 8) (Var 0)) (Pi (Fin
    (Var 9)) (Fin (Var 2))))) (Lam (Fin (Var 7)) (Var 0)) (Var 7) (reflexivity 0 Nat (Var 7))) (Var 6)) (Var 0)) (J 0 0 (Fin
    (Var 8)) (Var 7) (Lam (Fin (Var 8)) (Lam (equation 0 (Fin (Var 9)) (Var 8) (Var 0)) (Pi (Two (Var 10) (Var 9)) (Two (Var
    11) (Var 2))))) (Lam (Two (Var 8) (Var 7)) (Var 0)) (Var 1) (Var 0)))) (Var 4) (Var 1)) (Var 3)) (Var 0)) (two (Var 6)
    (Var 5))) (Var 2)) (App (App (App (App (J 0 1 Nat (Var 7) (Lam Nat (Lam (equation 0 Nat (Var 8) (Var 0)) (Pi (Fin (Var 1))
    (Pi (equation 0 (Fin (Var 2)) (App (J 0 0 Nat (Var 10) (Lam Nat (Lam (equation 0 Nat (Var 11) (Var 0)) (Pi (Fin (Var 12))
    (Fin (Var 2))))) (Lam (Fin (Var 10)) (Var 0)) (Var 2) (Var 1)) (Var 9)) (Var 0)) (Pi (Two (Var 3) (Var 1)) (Pi (equation 0
    (Two (Var 4) (Var 2)) (App (App (App (J 0 0 Nat (Var 12) (Lam Nat (Lam (equation 0 Nat (Var 13) (Var 0)) (Pi (Fin (Var 1))
    (Pi (equation 0 (Fin (Var 2)) (App (J 0 0 Nat (Var 15) (Lam Nat (Lam (equation 0 Nat (Var 16) (Var 0)) (Pi (Fin (Var 17))
    (Fin (Var 2))))) (Lam (Fin (Var 15)) (Var 0)) (Var 2) (Var 1)) (Var 14)) (Var 0)) (Pi (Two (Var 16) (Var 15)) (Two (Var 4)
    (Var 2))))))) (Lam (Fin (Var 12)) (Lam (equation 0 (Fin (Var 13)) (App (J 0 0 Nat (Var 13) (Lam Nat (Lam (equation 0 Nat
    (Var 14) (Var 0)) (Pi (Fin (Var 15)) (Fin (Var 2))))) (Lam (Fin (Var 13)) (Var 0)) (Var 13) (reflexivity 0 Nat (Var 13)))
    (Var 12)) (Var 0)) (J 0 0 (Fin (Var 14)) (Var 13) (Lam (Fin (Var 14)) (Lam (equation 0 (Fin (Var 15)) (Var 14) (Var 0))
    (Pi (Two (Var 16) (Var 15)) (Two (Var 17) (Var 2))))) (Lam (Two (Var 14) (Var 13)) (Var 0)) (Var 1) (Var 0)))) (Var 4)
    (Var 3)) (Var 2)) (Var 1)) (two (Var 12) (Var 11))) (Var 0)) (App (App (App (App (App (App (App (App (Const 50) (Var 13))
    (Var 12)) (Var 5)) (Var 3)) (Var 1)) (Var 4)) (Var 2)) (Var 0)))))))) (Lam (Fin (Var 7)) (Lam (equation 0 (Fin (Var 8))
    (App (J 0 0 Nat (Var 8) (Lam Nat (Lam (equation 0 Nat (Var 9) (Var 0)) (Pi (Fin (Var 10)) (Fin (Var 2))))) (Lam (Fin (Var
    8)) (Var 0)) (Var 8) (reflexivity 0 Nat (Var 8))) (Var 7)) (Var 0)) (Lam (Two (Var 9) (Var 1)) (Lam (equation 0 (Two (Var
    10) (Var 2)) (App (App (App (J 0 0 Nat (Var 10) (Lam Nat (Lam (equation 0 Nat (Var 11) (Var 0)) (Pi (Fin (Var 1)) (Pi
    (equation 0 (Fin (Var 2)) (App (J 0 0 Nat (Var 13) (Lam Nat (Lam (equation 0 Nat (Var 14) (Var 0)) (Pi (Fin (Var 15)) (Fin
    (Var 2))))) (Lam (Fin (Var 13)) (Var 0)) (Var 2) (Var 1)) (Var 12)) (Var 0)) (Pi (Two (Var 14) (Var 13)) (Two (Var 4) (Var
    2))))))) (Lam (Fin (Var 10)) (Lam (equation 0 (Fin (Var 11)) (App (J 0 0 Nat (Var 11) (Lam Nat (Lam (equation 0 Nat (Var
    12) (Var 0)) (Pi (Fin (Var 13)) (Fin (Var 2))))) (Lam (Fin (Var 11)) (Var 0)) (Var 11) (reflexivity 0 Nat (Var 11))) (Var
    10)) (Var 0)) (J 0 0 (Fin (Var 12)) (Var 11) (Lam (Fin (Var 12)) (Lam (equation 0 (Fin (Var 13)) (Var 12) (Var 0)) (Pi
    (Two (Var 14) (Var 13)) (Two (Var 15) (Var 2))))) (Lam (Two (Var 12) (Var 11)) (Var 0)) (Var 1) (Var 0)))) (Var 10)
    (reflexivity 0 Nat (Var 10))) (Var 2)) (Var 1)) (two (Var 10) (Var 9))) (Var 0)) (App (App (J 0 1 (Fin (Var 11)) (Var 10)
    (Lam (Fin (Var 11)) (Lam (equation 0 (Fin (Var 12)) (Var 11) (Var 0)) (Pi (Two (Var 13) (Var 1)) (Pi (equation 0 (Two (Var
    14) (Var 2)) (App (App (App (J 0 0 Nat (Var 14) (Lam Nat (Lam (equation 0 Nat (Var 15) (Var 0)) (Pi (Fin (Var 1)) (Pi
    (equation 0 (Fin (Var 2)) (App (J 0 0 Nat (Var 17) (Lam Nat (Lam (equation 0 Nat (Var 18) (Var 0)) (Pi (Fin (Var 19)) (Fin
    (Var 2))))) (Lam (Fin (Var 17)) (Var 0)) (Var 2) (Var 1)) (Var 16)) (Var 0)) (Pi (Two (Var 18) (Var 17)) (Two (Var 4) (Var
    2))))))) (Lam (Fin (Var 14)) (Lam (equation 0 (Fin (Var 15)) (App (J 0 0 Nat (Var 15) (Lam Nat (Lam (equation 0 Nat (Var
    16) (Var 0)) (Pi (Fin (Var 17)) (Fin (Var 2))))) (Lam (Fin (Var 15)) (Var 0)) (Var 15) (reflexivity 0 Nat (Var 15))) (Var
    14)) (Var 0)) (J 0 0 (Fin (Var 16)) (Var 15) (Lam (Fin (Var 16)) (Lam (equation 0 (Fin (Var 17)) (Var 16) (Var 0)) (Pi
    (Two (Var 18) (Var 17)) (Two (Var 19) (Var 2))))) (Lam (Two (Var 16) (Var 15)) (Var 0)) (Var 1) (Var 0)))) (Var 14)
    (reflexivity 0 Nat (Var 14))) (Var 2)) (Var 1)) (two (Var 14) (Var 13))) (Var 0)) (App (App (App (App (App (App (App (App
    (Const 50) (Var 15)) (Var 14)) (Var 15)) (Var 3)) (Var 1)) (reflexivity 0 Nat (Var 15))) (Var 2)) (Var 0)))))) (Lam (Two
    (Var 11) (Var 10)) (Lam (equation 0 (Two (Var 12) (Var 11)) (App (App (App (J 0 0 Nat (Var 12) (Lam Nat (Lam (equation 0
    Nat (Var 13) (Var 0)) (Pi (Fin (Var 1)) (Pi (equation 0 (Fin (Var 2)) (App (J 0 0 Nat (Var 15) (Lam Nat (Lam (equation 0
    Nat (Var 16) (Var 0)) (Pi (Fin (Var 17)) (Fin (Var 2))))) (Lam (Fin (Var 15)) (Var 0)) (Var 2) (Var 1)) (Var 14)) (Var 0))
    (Pi (Two (Var 16) (Var 15)) (Two (Var 4) (Var 2))))))) (Lam (Fin (Var 12)) (Lam (equation 0 (Fin (Var 13)) (App (J 0 0 Nat
    (Var 13) (Lam Nat (Lam (equation 0 Nat (Var 14) (Var 0)) (Pi (Fin (Var 15)) (Fin (Var 2))))) (Lam (Fin (Var 13)) (Var 0))
    (Var 13) (reflexivity 0 Nat (Var 13))) (Var 12)) (Var 0)) (J 0 0 (Fin (Var 14)) (Var 13) (Lam (Fin (Var 14)) (Lam
    (equation 0 (Fin (Var 15)) (Var 14) (Var 0)) (Pi (Two (Var 16) (Var 15)) (Two (Var 17) (Var 2))))) (Lam (Two (Var 14) (Var
    13)) (Var 0)) (Var 1) (Var 0)))) (Var 12) (reflexivity 0 Nat (Var 12))) (Var 11)) (reflexivity 0 (Fin (Var 12)) (Var 11)))
    (two (Var 12) (Var 11))) (Var 0)) (J 0 1 (Two (Var 13) (Var 12)) (two (Var 13) (Var 12)) (Lam (Two (Var 13) (Var 12)) (Lam
    (equation 0 (Two (Var 14) (Var 13)) (two (Var 14) (Var 13)) (Var 0)) (App (App (App (App (App (App (App (App (Const 50)
    (Var 15)) (Var 14)) (Var 15)) (Var 14)) (Var 1)) (reflexivity 0 Nat (Var 15))) (reflexivity 0 (Fin (Var 15)) (Var 14)))
    (Var 0)))) (Lam (Pi (equation 0 Nat (Var 13) (Var 13)) (Pi (equation 0 (Fin (Var 14)) (App (J 0 0 Nat (Var 14) (Lam Nat
    (Lam (equation 0 Nat (Var 15) (Var 0)) (Pi (Fin (Var 16)) (Fin (Var 2))))) (Lam (Fin (Var 14)) (Var 0)) (Var 14) (Var 0))
    (Var 13)) (Var 13)) (Pi (equation 0 (Two (Var 15) (Var 14)) (App (App (App (J 0 0 Nat (Var 15) (Lam Nat (Lam (equation 0
    Nat (Var 16) (Var 0)) (Pi (Fin (Var 1)) (Pi (equation 0 (Fin (Var 2)) (App (J 0 0 Nat (Var 18) (Lam Nat (Lam (equation 0
    Nat (Var 19) (Var 0)) (Pi (Fin (Var 20)) (Fin (Var 2))))) (Lam (Fin (Var 18)) (Var 0)) (Var 2) (Var 1)) (Var 17)) (Var 0))
    (Pi (Two (Var 19) (Var 18)) (Two (Var 4) (Var 2))))))) (Lam (Fin (Var 15)) (Lam (equation 0 (Fin (Var 16)) (App (J 0 0 Nat
    (Var 16) (Lam Nat (Lam (equation 0 Nat (Var 17) (Var 0)) (Pi (Fin (Var 18)) (Fin (Var 2))))) (Lam (Fin (Var 16)) (Var 0))
    (Var 16) (reflexivity 0 Nat (Var 16))) (Var 15)) (Var 0)) (J 0 0 (Fin (Var 17)) (Var 16) (Lam (Fin (Var 17)) (Lam
    (equation 0 (Fin (Var 18)) (Var 17) (Var 0)) (Pi (Two (Var 19) (Var 18)) (Two (Var 20) (Var 2))))) (Lam (Two (Var 17) (Var
    16)) (Var 0)) (Var 1) (Var 0)))) (Var 15) (Var 1)) (Var 14)) (Var 0)) (two (Var 15) (Var 14))) (two (Var 15) (Var 14)))
    (Sort 0)))) (Lam (Pi (equation 0 Nat (Var 14) (Var 14)) (Pi (equation 0 (Fin (Var 15)) (App (J 0 0 Nat (Var 15) (Lam Nat
    (Lam (equation 0 Nat (Var 16) (Var 0)) (Pi (Fin (Var 17)) (Fin (Var 2))))) (Lam (Fin (Var 15)) (Var 0)) (Var 15) (Var 0))
    (Var 14)) (Var 14)) (App (App (App (Var 2) (App (App (J 0 0 Nat (Var 16) (Lam Nat (Lam (equation 0 Nat (Var 17) (Var 0))
    (Pi (Fin (Var 1)) (Pi (equation 0 (Fin (Var 2)) (App (J 0 0 Nat (Var 19) (Lam Nat (Lam (equation 0 Nat (Var 20) (Var 0))
    (Pi (Fin (Var 21)) (Fin (Var 2))))) (Lam (Fin (Var 19)) (Var 0)) (Var 2) (Var 1)) (Var 18)) (Var 0)) (equation 0 Nat (Var
    20) (Var 3)))))) (Lam (Fin (Var 16)) (Lam (equation 0 (Fin (Var 17)) (App (J 0 0 Nat (Var 17) (Lam Nat (Lam (equation 0
    Nat (Var 18) (Var 0)) (Pi (Fin (Var 19)) (Fin (Var 2))))) (Lam (Fin (Var 17)) (Var 0)) (Var 17) (reflexivity 0 Nat (Var
    17))) (Var 16)) (Var 0)) (J 0 0 (Fin (Var 18)) (Var 17) (Lam (Fin (Var 18)) (Lam (equation 0 (Fin (Var 19)) (Var 18) (Var
    0)) (equation 0 Nat (Var 20) (Var 20)))) (reflexivity 0 Nat (Var 18)) (Var 1) (Var 0)))) (Var 16) (Var 1)) (Var 15)) (Var
    0))) (App (App (J 0 0 Nat (Var 16) (Lam Nat (Lam (equation 0 Nat (Var 17) (Var 0)) (Pi (Fin (Var 1)) (Pi (equation 0 (Fin
    (Var 2)) (App (J 0 0 Nat (Var 19) (Lam Nat (Lam (equation 0 Nat (Var 20) (Var 0)) (Pi (Fin (Var 21)) (Fin (Var 2))))) (Lam
    (Fin (Var 19)) (Var 0)) (Var 2) (Var 1)) (Var 18)) (Var 0)) (equation 0 (Fin (Var 3)) (App (J 0 0 Nat (Var 20) (Lam Nat
    (Lam (equation 0 Nat (Var 21) (Var 0)) (Pi (Fin (Var 22)) (Fin (Var 2))))) (Lam (Fin (Var 20)) (Var 0)) (Var 3) (App (App
    (J 0 0 Nat (Var 20) (Lam Nat (Lam (equation 0 Nat (Var 21) (Var 0)) (Pi (Fin (Var 1)) (Pi (equation 0 (Fin (Var 2)) (App
    (J 0 0 Nat (Var 23) (Lam Nat (Lam (equation 0 Nat (Var 24) (Var 0)) (Pi (Fin (Var 25)) (Fin (Var 2))))) (Lam (Fin (Var
    23)) (Var 0)) (Var 2) (Var 1)) (Var 22)) (Var 0)) (equation 0 Nat (Var 24) (Var 3)))))) (Lam (Fin (Var 20)) (Lam (equation
    0 (Fin (Var 21)) (App (J 0 0 Nat (Var 21) (Lam Nat (Lam (equation 0 Nat (Var 22) (Var 0)) (Pi (Fin (Var 23)) (Fin (Var
    2))))) (Lam (Fin (Var 21)) (Var 0)) (Var 21) (reflexivity 0 Nat (Var 21))) (Var 20)) (Var 0)) (J 0 0 (Fin (Var 22)) (Var
    21) (Lam (Fin (Var 22)) (Lam (equation 0 (Fin (Var 23)) (Var 22) (Var 0)) (equation 0 Nat (Var 24) (Var 24))))
    (reflexivity 0 Nat (Var 22)) (Var 1) (Var 0)))) (Var 3) (Var 2)) (Var 1)) (Var 0))) (Var 19)) (Var 1)))))) (Lam (Fin (Var
    16)) (Lam (equation 0 (Fin (Var 17)) (App (J 0 0 Nat (Var 17) (Lam Nat (Lam (equation 0 Nat (Var 18) (Var 0)) (Pi (Fin
    (Var 19)) (Fin (Var 2))))) (Lam (Fin (Var 17)) (Var 0)) (Var 17) (reflexivity 0 Nat (Var 17))) (Var 16)) (Var 0)) (J 0 0
    (Fin (Var 18)) (Var 17) (Lam (Fin (Var 18)) (Lam (equation 0 (Fin (Var 19)) (Var 18) (Var 0)) (equation 0 (Fin (Var 20))
    (App (J 0 0 Nat (Var 20) (Lam Nat (Lam (equation 0 Nat (Var 21) (Var 0)) (Pi (Fin (Var 22)) (Fin (Var 2))))) (Lam (Fin
    (Var 20)) (Var 0)) (Var 20) (App (App (J 0 0 Nat (Var 20) (Lam Nat (Lam (equation 0 Nat (Var 21) (Var 0)) (Pi (Fin (Var
    1)) (Pi (equation 0 (Fin (Var 2)) (App (J 0 0 Nat (Var 23) (Lam Nat (Lam (equation 0 Nat (Var 24) (Var 0)) (Pi (Fin (Var
    25)) (Fin (Var 2))))) (Lam (Fin (Var 23)) (Var 0)) (Var 2) (Var 1)) (Var 22)) (Var 0)) (equation 0 Nat (Var 24) (Var
    3)))))) (Lam (Fin (Var 20)) (Lam (equation 0 (Fin (Var 21)) (App (J 0 0 Nat (Var 21) (Lam Nat (Lam (equation 0 Nat (Var
    22) (Var 0)) (Pi (Fin (Var 23)) (Fin (Var 2))))) (Lam (Fin (Var 21)) (Var 0)) (Var 21) (reflexivity 0 Nat (Var 21))) (Var
    20)) (Var 0)) (J 0 0 (Fin (Var 22)) (Var 21) (Lam (Fin (Var 22)) (Lam (equation 0 (Fin (Var 23)) (Var 22) (Var 0))
    (equation 0 Nat (Var 24) (Var 24)))) (reflexivity 0 Nat (Var 22)) (Var 1) (Var 0)))) (Var 20) (reflexivity 0 Nat (Var
    20))) (Var 1)) (Var 0))) (Var 19)) (Var 1)))) (reflexivity 0 (Fin (Var 18)) (Var 17)) (Var 1) (Var 0)))) (Var 16) (Var 1))
    (Var 15)) (Var 0))) (App (App (J 0 0 Nat (Var 16) (Lam Nat (Lam (equation 0 Nat (Var 17) (Var 0)) (Pi (Fin (Var 1)) (Pi
    (equation 0 (Fin (Var 2)) (App (J 0 0 Nat (Var 19) (Lam Nat (Lam (equation 0 Nat (Var 20) (Var 0)) (Pi (Fin (Var 21)) (Fin
    (Var 2))))) (Lam (Fin (Var 19)) (Var 0)) (Var 2) (Var 1)) (Var 18)) (Var 0)) (equation 0 (Two (Var 3) (Var 1)) (App (App
    (App (J 0 0 Nat (Var 20) (Lam Nat (Lam (equation 0 Nat (Var 21) (Var 0)) (Pi (Fin (Var 1)) (Pi (equation 0 (Fin (Var 2))
    (App (J 0 0 Nat (Var 23) (Lam Nat (Lam (equation 0 Nat (Var 24) (Var 0)) (Pi (Fin (Var 25)) (Fin (Var 2))))) (Lam (Fin
    (Var 23)) (Var 0)) (Var 2) (Var 1)) (Var 22)) (Var 0)) (Pi (Two (Var 24) (Var 23)) (Two (Var 4) (Var 2))))))) (Lam (Fin
    (Var 20)) (Lam (equation 0 (Fin (Var 21)) (App (J 0 0 Nat (Var 21) (Lam Nat (Lam (equation 0 Nat (Var 22) (Var 0)) (Pi
    (Fin (Var 23)) (Fin (Var 2))))) (Lam (Fin (Var 21)) (Var 0)) (Var 21) (reflexivity 0 Nat (Var 21))) (Var 20)) (Var 0)) (J
    0 0 (Fin (Var 22)) (Var 21) (Lam (Fin (Var 22)) (Lam (equation 0 (Fin (Var 23)) (Var 22) (Var 0)) (Pi (Two (Var 24) (Var
    23)) (Two (Var 25) (Var 2))))) (Lam (Two (Var 22) (Var 21)) (Var 0)) (Var 1) (Var 0)))) (Var 3) (App (App (J 0 0 Nat (Var
    20) (Lam Nat (Lam (equation 0 Nat (Var 21) (Var 0)) (Pi (Fin (Var 1)) (Pi (equation 0 (Fin (Var 2)) (App (J 0 0 Nat (Var
    23) (Lam Nat (Lam (equation 0 Nat (Var 24) (Var 0)) (Pi (Fin (Var 25)) (Fin (Var 2))))) (Lam (Fin (Var 23)) (Var 0)) (Var
    2) (Var 1)) (Var 22)) (Var 0)) (equation 0 Nat (Var 24) (Var 3)))))) (Lam (Fin (Var 20)) (Lam (equation 0 (Fin (Var 21))
    (App (J 0 0 Nat (Var 21) (Lam Nat (Lam (equation 0 Nat (Var 22) (Var 0)) (Pi (Fin (Var 23)) (Fin (Var 2))))) (Lam (Fin
    (Var 21)) (Var 0)) (Var 21) (reflexivity 0 Nat (Var 21))) (Var 20)) (Var 0)) (J 0 0 (Fin (Var 22)) (Var 21) (Lam (Fin (Var
    22)) (Lam (equation 0 (Fin (Var 23)) (Var 22) (Var 0)) (equation 0 Nat (Var 24) (Var 24)))) (reflexivity 0 Nat (Var 22))
    (Var 1) (Var 0)))) (Var 3) (Var 2)) (Var 1)) (Var 0))) (Var 1)) (App (App (J 0 0 Nat (Var 20) (Lam Nat (Lam (equation 0
    Nat (Var 21) (Var 0)) (Pi (Fin (Var 1)) (Pi (equation 0 (Fin (Var 2)) (App (J 0 0 Nat (Var 23) (Lam Nat (Lam (equation 0
    Nat (Var 24) (Var 0)) (Pi (Fin (Var 25)) (Fin (Var 2))))) (Lam (Fin (Var 23)) (Var 0)) (Var 2) (Var 1)) (Var 22)) (Var 0))
    (equation 0 (Fin (Var 3)) (App (J 0 0 Nat (Var 24) (Lam Nat (Lam (equation 0 Nat (Var 25) (Var 0)) (Pi (Fin (Var 26)) (Fin
    (Var 2))))) (Lam (Fin (Var 24)) (Var 0)) (Var 3) (App (App (J 0 0 Nat (Var 24) (Lam Nat (Lam (equation 0 Nat (Var 25) (Var
    0)) (Pi (Fin (Var 1)) (Pi (equation 0 (Fin (Var 2)) (App (J 0 0 Nat (Var 27) (Lam Nat (Lam (equation 0 Nat (Var 28) (Var
    0)) (Pi (Fin (Var 29)) (Fin (Var 2))))) (Lam (Fin (Var 27)) (Var 0)) (Var 2) (Var 1)) (Var 26)) (Var 0)) (equation 0 Nat
    (Var 28) (Var 3)))))) (Lam (Fin (Var 24)) (Lam (equation 0 (Fin (Var 25)) (App (J 0 0 Nat (Var 25) (Lam Nat (Lam (equation
    0 Nat (Var 26) (Var 0)) (Pi (Fin (Var 27)) (Fin (Var 2))))) (Lam (Fin (Var 25)) (Var 0)) (Var 25) (reflexivity 0 Nat (Var
    25))) (Var 24)) (Var 0)) (J 0 0 (Fin (Var 26)) (Var 25) (Lam (Fin (Var 26)) (Lam (equation 0 (Fin (Var 27)) (Var 26) (Var
    0)) (equation 0 Nat (Var 28) (Var 28)))) (reflexivity 0 Nat (Var 26)) (Var 1) (Var 0)))) (Var 3) (Var 2)) (Var 1)) (Var
    0))) (Var 23)) (Var 1)))))) (Lam (Fin (Var 20)) (Lam (equation 0 (Fin (Var 21)) (App (J 0 0 Nat (Var 21) (Lam Nat (Lam
    (equation 0 Nat (Var 22) (Var 0)) (Pi (Fin (Var 23)) (Fin (Var 2))))) (Lam (Fin (Var 21)) (Var 0)) (Var 21) (reflexivity 0
    Nat (Var 21))) (Var 20)) (Var 0)) (J 0 0 (Fin (Var 22)) (Var 21) (Lam (Fin (Var 22)) (Lam (equation 0 (Fin (Var 23)) (Var
    22) (Var 0)) (equation 0 (Fin (Var 24)) (App (J 0 0 Nat (Var 24) (Lam Nat (Lam (equation 0 Nat (Var 25) (Var 0)) (Pi (Fin
    (Var 26)) (Fin (Var 2))))) (Lam (Fin (Var 24)) (Var 0)) (Var 24) (App (App (J 0 0 Nat (Var 24) (Lam Nat (Lam (equation 0
    Nat (Var 25) (Var 0)) (Pi (Fin (Var 1)) (Pi (equation 0 (Fin (Var 2)) (App (J 0 0 Nat (Var 27) (Lam Nat (Lam (equation 0
    Nat (Var 28) (Var 0)) (Pi (Fin (Var 29)) (Fin (Var 2))))) (Lam (Fin (Var 27)) (Var 0)) (Var 2) (Var 1)) (Var 26)) (Var 0))
    (equation 0 Nat (Var 28) (Var 3)))))) (Lam (Fin (Var 24)) (Lam (equation 0 (Fin (Var 25)) (App (J 0 0 Nat (Var 25) (Lam
    Nat (Lam (equation 0 Nat (Var 26) (Var 0)) (Pi (Fin (Var 27)) (Fin (Var 2))))) (Lam (Fin (Var 25)) (Var 0)) (Var 25)
    (reflexivity 0 Nat (Var 25))) (Var 24)) (Var 0)) (J 0 0 (Fin (Var 26)) (Var 25) (Lam (Fin (Var 26)) (Lam (equation 0 (Fin
    (Var 27)) (Var 26) (Var 0)) (equation 0 Nat (Var 28) (Var 28)))) (reflexivity 0 Nat (Var 26)) (Var 1) (Var 0)))) (Var 24)
    (reflexivity 0 Nat (Var 24))) (Var 1)) (Var 0))) (Var 23)) (Var 1)))) (reflexivity 0 (Fin (Var 22)) (Var 21)) (Var 1) (Var
    0)))) (Var 3) (Var 2)) (Var 1)) (Var 0))) (two (Var 20) (Var 19))) (two (Var 3) (Var 1))))))) (Lam (Fin (Var 16)) (Lam
    (equation 0 (Fin (Var 17)) (App (J 0 0 Nat (Var 17) (Lam Nat (Lam (equation 0 Nat (Var 18) (Var 0)) (Pi (Fin (Var 19))
    (Fin (Var 2))))) (Lam (Fin (Var 17)) (Var 0)) (Var 17) (reflexivity 0 Nat (Var 17))) (Var 16)) (Var 0)) (J 0 0 (Fin (Var
    18)) (Var 17) (Lam (Fin (Var 18)) (Lam (equation 0 (Fin (Var 19)) (Var 18) (Var 0)) (equation 0 (Two (Var 20) (Var 1))
    (App (App (App (J 0 0 Nat (Var 20) (Lam Nat (Lam (equation 0 Nat (Var 21) (Var 0)) (Pi (Fin (Var 1)) (Pi (equation 0 (Fin
    (Var 2)) (App (J 0 0 Nat (Var 23) (Lam Nat (Lam (equation 0 Nat (Var 24) (Var 0)) (Pi (Fin (Var 25)) (Fin (Var 2))))) (Lam
    (Fin (Var 23)) (Var 0)) (Var 2) (Var 1)) (Var 22)) (Var 0)) (Pi (Two (Var 24) (Var 23)) (Two (Var 4) (Var 2))))))) (Lam
    (Fin (Var 20)) (Lam (equation 0 (Fin (Var 21)) (App (J 0 0 Nat (Var 21) (Lam Nat (Lam (equation 0 Nat (Var 22) (Var 0))
    (Pi (Fin (Var 23)) (Fin (Var 2))))) (Lam (Fin (Var 21)) (Var 0)) (Var 21) (reflexivity 0 Nat (Var 21))) (Var 20)) (Var 0))
    (J 0 0 (Fin (Var 22)) (Var 21) (Lam (Fin (Var 22)) (Lam (equation 0 (Fin (Var 23)) (Var 22) (Var 0)) (Pi (Two (Var 24)
    (Var 23)) (Two (Var 25) (Var 2))))) (Lam (Two (Var 22) (Var 21)) (Var 0)) (Var 1) (Var 0)))) (Var 20) (App (App (J 0 0 Nat
    (Var 20) (Lam Nat (Lam (equation 0 Nat (Var 21) (Var 0)) (Pi (Fin (Var 1)) (Pi (equation 0 (Fin (Var 2)) (App (J 0 0 Nat
    (Var 23) (Lam Nat (Lam (equation 0 Nat (Var 24) (Var 0)) (Pi (Fin (Var 25)) (Fin (Var 2))))) (Lam (Fin (Var 23)) (Var 0))
    (Var 2) (Var 1)) (Var 22)) (Var 0)) (equation 0 Nat (Var 24) (Var 3)))))) (Lam (Fin (Var 20)) (Lam (equation 0 (Fin (Var
    21)) (App (J 0 0 Nat (Var 21) (Lam Nat (Lam (equation 0 Nat (Var 22) (Var 0)) (Pi (Fin (Var 23)) (Fin (Var 2))))) (Lam
    (Fin (Var 21)) (Var 0)) (Var 21) (reflexivity 0 Nat (Var 21))) (Var 20)) (Var 0)) (J 0 0 (Fin (Var 22)) (Var 21) (Lam (Fin
    (Var 22)) (Lam (equation 0 (Fin (Var 23)) (Var 22) (Var 0)) (equation 0 Nat (Var 24) (Var 24)))) (reflexivity 0 Nat (Var
    22)) (Var 1) (Var 0)))) (Var 20) (reflexivity 0 Nat (Var 20))) (Var 1)) (Var 0))) (Var 1)) (App (App (J 0 0 Nat (Var 20)
    (Lam Nat (Lam (equation 0 Nat (Var 21) (Var 0)) (Pi (Fin (Var 1)) (Pi (equation 0 (Fin (Var 2)) (App (J 0 0 Nat (Var 23)
    (Lam Nat (Lam (equation 0 Nat (Var 24) (Var 0)) (Pi (Fin (Var 25)) (Fin (Var 2))))) (Lam (Fin (Var 23)) (Var 0)) (Var 2)
    (Var 1)) (Var 22)) (Var 0)) (equation 0 (Fin (Var 3)) (App (J 0 0 Nat (Var 24) (Lam Nat (Lam (equation 0 Nat (Var 25) (Var
    0)) (Pi (Fin (Var 26)) (Fin (Var 2))))) (Lam (Fin (Var 24)) (Var 0)) (Var 3) (App (App (J 0 0 Nat (Var 24) (Lam Nat (Lam
    (equation 0 Nat (Var 25) (Var 0)) (Pi (Fin (Var 1)) (Pi (equation 0 (Fin (Var 2)) (App (J 0 0 Nat (Var 27) (Lam Nat (Lam
    (equation 0 Nat (Var 28) (Var 0)) (Pi (Fin (Var 29)) (Fin (Var 2))))) (Lam (Fin (Var 27)) (Var 0)) (Var 2) (Var 1)) (Var
    26)) (Var 0)) (equation 0 Nat (Var 28) (Var 3)))))) (Lam (Fin (Var 24)) (Lam (equation 0 (Fin (Var 25)) (App (J 0 0 Nat
    (Var 25) (Lam Nat (Lam (equation 0 Nat (Var 26) (Var 0)) (Pi (Fin (Var 27)) (Fin (Var 2))))) (Lam (Fin (Var 25)) (Var 0))
    (Var 25) (reflexivity 0 Nat (Var 25))) (Var 24)) (Var 0)) (J 0 0 (Fin (Var 26)) (Var 25) (Lam (Fin (Var 26)) (Lam
    (equation 0 (Fin (Var 27)) (Var 26) (Var 0)) (equation 0 Nat (Var 28) (Var 28)))) (reflexivity 0 Nat (Var 26)) (Var 1)
    (Var 0)))) (Var 3) (Var 2)) (Var 1)) (Var 0))) (Var 23)) (Var 1)))))) (Lam (Fin (Var 20)) (Lam (equation 0 (Fin (Var 21))
    (App (J 0 0 Nat (Var 21) (Lam Nat (Lam (equation 0 Nat (Var 22) (Var 0)) (Pi (Fin (Var 23)) (Fin (Var 2))))) (Lam (Fin
    (Var 21)) (Var 0)) (Var 21) (reflexivity 0 Nat (Var 21))) (Var 20)) (Var 0)) (J 0 0 (Fin (Var 22)) (Var 21) (Lam (Fin (Var
    22)) (Lam (equation 0 (Fin (Var 23)) (Var 22) (Var 0)) (equation 0 (Fin (Var 24)) (App (J 0 0 Nat (Var 24) (Lam Nat (Lam
    (equation 0 Nat (Var 25) (Var 0)) (Pi (Fin (Var 26)) (Fin (Var 2))))) (Lam (Fin (Var 24)) (Var 0)) (Var 24) (App (App (J 0
    0 Nat (Var 24) (Lam Nat (Lam (equation 0 Nat (Var 25) (Var 0)) (Pi (Fin (Var 1)) (Pi (equation 0 (Fin (Var 2)) (App (J 0 0
    Nat (Var 27) (Lam Nat (Lam (equation 0 Nat (Var 28) (Var 0)) (Pi (Fin (Var 29)) (Fin (Var 2))))) (Lam (Fin (Var 27)) (Var
    0)) (Var 2) (Var 1)) (Var 26)) (Var 0)) (equation 0 Nat (Var 28) (Var 3)))))) (Lam (Fin (Var 24)) (Lam (equation 0 (Fin
    (Var 25)) (App (J 0 0 Nat (Var 25) (Lam Nat (Lam (equation 0 Nat (Var 26) (Var 0)) (Pi (Fin (Var 27)) (Fin (Var 2)))))
    (Lam (Fin (Var 25)) (Var 0)) (Var 25) (reflexivity 0 Nat (Var 25))) (Var 24)) (Var 0)) (J 0 0 (Fin (Var 26)) (Var 25) (Lam
    (Fin (Var 26)) (Lam (equation 0 (Fin (Var 27)) (Var 26) (Var 0)) (equation 0 Nat (Var 28) (Var 28)))) (reflexivity 0 Nat
    (Var 26)) (Var 1) (Var 0)))) (Var 24) (reflexivity 0 Nat (Var 24))) (Var 1)) (Var 0))) (Var 23)) (Var 1)))) (reflexivity 0
    (Fin (Var 22)) (Var 21)) (Var 1) (Var 0)))) (Var 20) (reflexivity 0 Nat (Var 20))) (Var 1)) (Var 0))) (two (Var 20) (Var
    19))) (two (Var 20) (Var 1))))) (reflexivity 0 (Two (Var 18) (Var 17)) (two (Var 18) (Var 17))) (Var 1) (Var 0)))) (Var
    16) (Var 1)) (Var 15)) (Var 0))))) (App (App (Var 0) (reflexivity 0 Nat (Var 15))) (reflexivity 0 (Fin (Var 15)) (Var
    14))))) (Var 1) (Var 0)))) (Var 3) (Var 2)) (Var 1)) (Var 0)))))) (Var 5) (Var 2)) (Var 4)) (Var 1)) (Var 3)) (Var
    0)))))))))
two_noconf_two_term = refl
