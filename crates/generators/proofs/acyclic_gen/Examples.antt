-- `D!direct` and `D!acyclic` of some families, where `D!direct` is the constant 60 and `D!noconf.c.0` the constant 61.
use Rattle.std.proofs.Common.{◌≡◌, [], ◌∷◌, Err, codes, refl}
use Rattle.theory.specs.Terms.{Term}
use Rattle.theory.specs.Terms.Term.{Var, Sort, Pi, Lam, App, Const, Fam, Con, Elim}
use Rattle.theory.specs.Substitutions.{weaken}
use Rattle.theory.specs.Prelude.{empty_type, unit_type, pair_type}
use Rattle.theory.specs.Signatures.{equality, equation}
use Rattle.core_sig.specs.FamilyShapes.{family_shape}
use Rattle.case_below_gen.specs.Components.{pair_of, pair_with}
use Rattle.generators.specs.acyclic_gen.DirectEntries.{carrier_of, direct_type, direct_term, direct_entry}
use Rattle.generators.specs.acyclic_gen.AcyclicEntries.{acyclic_type, acyclic_term, names_for, acyclic_entry}
use Rattle.generators.proofs.acyclic_gen.Samples.{nat, list, ord, bin, two, fin}
use Rattle.generators.specs.declared.acyclic_gen.stop.AcyclicStop.TheVariants.{Indexed}

-- \z. Eq.0 D x z -> Empty
abbrev ne : (D x : Term) → Term
ne D x = Lam D (Pi (equation 0 (weaken D) (weaken x) (Var 0)) (Fam empty_type))

-- the sides of a pair of A and B
abbrev first : (A B both : Term) → Term
first A B both = App (App (App (App (App (Elim (pair_type 0) 0) A) B) (Lam (pair_of 0 A B) (weaken A))) (Lam A (Lam (weaken B) (Var 1)))) both

abbrev second : (A B both : Term) → Term
second A B both = App (App (App (App (App (Elim (pair_type 0) 0) A) B) (Lam (pair_of 0 A B) (weaken B))) (Lam A (Lam (weaken B) (Var 0)))) both

-- for a family without parameters: x is no part of y, and is neither y nor a part of it
abbrev no_part : (D x y : Term) → Term
no_part D x y = App (App (Const 60) (ne D x)) y

abbrev not_within : (D x y : Term) → Term
not_within D x y = pair_of 0 (App (ne D x) y) (no_part D x y)

-- for a family with the parameter A
abbrev no_part_at : (A D x y : Term) → Term
no_part_at A D x y = App (App (App (Const 60) A) (ne D x)) y

abbrev not_within_at : (A D x y : Term) → Term
not_within_at A D x y = pair_of 0 (App (ne D x) y) (no_part_at A D x y)

-- ---- Nat

nat_direct_type : direct_type (family_shape 46 nat) (carrier_of 46 (family_shape 46 nat) 60) ≡ Pi (Pi (Fam 46) (Sort 0)) (Pi (Fam 46) (Sort 0))
nat_direct_type = refl

nat_direct_term : direct_term (family_shape 46 nat) (carrier_of 46 (family_shape 46 nat) 60)
    ≡ Lam (Pi (Fam 46) (Sort 0)) (Lam (Fam 46) (App (App (App (App (Elim 46 1) (Lam (Fam 46) (Sort 0))) (Fam (unit_type 0))) (Lam (Fam 46) (Lam (Sort 0) (pair_of 0 (pair_of 0 (App (Var 3) (Var 1)) (Var 0)) (Fam (unit_type 0)))))) (Var 0)))
nat_direct_term = refl

nat_acyclic_type : acyclic_type (family_shape 46 nat) (carrier_of 46 (family_shape 46 nat) 60) ≡ Pi (Fam 46) (no_part (Fam 46) (Var 0) (Var 0))
nat_acyclic_type = refl

nat_acyclic_term : acyclic_term (family_shape 46 nat) (carrier_of 46 (family_shape 46 nat) 60) 61
    ≡ Lam (Fam 46) (App (App (App (App (Elim 46 0) (Lam (Fam 46) (no_part (Fam 46) (Var 0) (Var 0)))) (Con (unit_type 0) 0)) (Lam (Fam 46) (Lam (no_part (Fam 46) (Var 0) (Var 0)) (pair_with 0 (not_within (Fam 46) (App (Con 46 1) (Var 1)) (Var 1)) (Fam (unit_type 0)) (App (App (App (App (App (Elim 46 0) (Lam (Fam 46) (Pi (no_part (Fam 46) (Var 2) (Var 0)) (not_within (Fam 46) (App (Con 46 1) (Var 3)) (Var 1))))) (Lam (no_part (Fam 46) (Var 1) (Con 46 0)) (pair_with 0 (App (ne (Fam 46) (App (Con 46 1) (Var 2))) (Con 46 0)) (no_part (Fam 46) (App (Con 46 1) (Var 2)) (Con 46 0)) (Lam (equation 0 (Fam 46) (App (Con 46 1) (Var 2)) (Con 46 0)) (App (App (App (App (Const 61) (Var 3)) (Con 46 0)) (Var 0)) (Lam (equation 0 (Fam 46) (App (Con 46 1) (Var 3)) (Con 46 0)) (Fam empty_type)))) (Con (unit_type 0) 0)))) (Lam (Fam 46) (Lam (Pi (no_part (Fam 46) (Var 2) (Var 0)) (not_within (Fam 46) (App (Con 46 1) (Var 3)) (Var 1))) (Lam (no_part (Fam 46) (Var 3) (App (Con 46 1) (Var 1))) (pair_with 0 (App (ne (Fam 46) (App (Con 46 1) (Var 4))) (App (Con 46 1) (Var 2))) (no_part (Fam 46) (App (Con 46 1) (Var 4)) (App (Con 46 1) (Var 2))) (Lam (equation 0 (Fam 46) (App (Con 46 1) (Var 4)) (App (Con 46 1) (Var 2))) (App (App (App (App (App (Const 61) (Var 5)) (App (Con 46 1) (Var 3))) (Var 0)) (Lam (equation 0 (Fam 46) (App (Con 46 1) (Var 5)) (App (Con 46 1) (Var 3))) (Fam empty_type))) (Lam (equation 0 (Fam 46) (Var 5) (Var 3)) (App (first (App (ne (Fam 46) (Var 6)) (Var 4)) (no_part (Fam 46) (Var 6) (Var 4)) (first (not_within (Fam 46) (Var 6) (Var 4)) (Fam (unit_type 0)) (Var 2))) (Var 0))))) (pair_with 0 (not_within (Fam 46) (App (Con 46 1) (Var 4)) (Var 2)) (Fam (unit_type 0)) (App (Var 1) (second (App (ne (Fam 46) (Var 4)) (Var 2)) (no_part (Fam 46) (Var 4) (Var 2)) (first (not_within (Fam 46) (Var 4) (Var 2)) (Fam (unit_type 0)) (Var 0)))) (Con (unit_type 0) 0))))))) (Var 1)) (Var 0)) (Con (unit_type 0) 0))))) (Var 0))
nat_acyclic_term = refl

-- ---- List

list_direct_type : direct_type (family_shape 46 list) (carrier_of 46 (family_shape 46 list) 60) ≡ Pi (Sort 0) (Pi (Pi (App (Fam 46) (Var 0)) (Sort 0)) (Pi (App (Fam 46) (Var 1)) (Sort 0)))
list_direct_type = refl

list_direct_term : direct_term (family_shape 46 list) (carrier_of 46 (family_shape 46 list) 60)
    ≡ Lam (Sort 0) (Lam (Pi (App (Fam 46) (Var 0)) (Sort 0)) (Lam (App (Fam 46) (Var 1)) (App (App (App (App (App (Elim 46 1) (Var 2)) (Lam (App (Fam 46) (Var 2)) (Sort 0))) (Fam (unit_type 0))) (Lam (Var 2) (Lam (App (Fam 46) (Var 3)) (Lam (Sort 0) (pair_of 0 (pair_of 0 (App (Var 4) (Var 1)) (Var 0)) (Fam (unit_type 0))))))) (Var 0))))
list_direct_term = refl

list_acyclic_type : acyclic_type (family_shape 46 list) (carrier_of 46 (family_shape 46 list) 60) ≡ Pi (Sort 0) (Pi (App (Fam 46) (Var 0)) (no_part_at (Var 1) (App (Fam 46) (Var 1)) (Var 0) (Var 0)))
list_acyclic_type = refl

list_acyclic_term : acyclic_term (family_shape 46 list) (carrier_of 46 (family_shape 46 list) 60) 61
    ≡ Lam (Sort 0) (Lam (App (Fam 46) (Var 0)) (App (App (App (App (App (Elim 46 0) (Var 1)) (Lam (App (Fam 46) (Var 1)) (no_part_at (Var 2) (App (Fam 46) (Var 2)) (Var 0) (Var 0)))) (Con (unit_type 0) 0)) (Lam (Var 1) (Lam (App (Fam 46) (Var 2)) (Lam (no_part_at (Var 3) (App (Fam 46) (Var 3)) (Var 0) (Var 0)) (pair_with 0 (not_within_at (Var 4) (App (Fam 46) (Var 4)) (App (App (App (Con 46 1) (Var 4)) (Var 2)) (Var 1)) (Var 1)) (Fam (unit_type 0)) (App (App (App (App (App (App (Elim 46 0) (Var 4)) (Lam (App (Fam 46) (Var 4)) (Pi (no_part_at (Var 5) (App (Fam 46) (Var 5)) (Var 2) (Var 0)) (not_within_at (Var 6) (App (Fam 46) (Var 6)) (App (App (App (Con 46 1) (Var 6)) (Var 4)) (Var 3)) (Var 1))))) (Lam (no_part_at (Var 4) (App (Fam 46) (Var 4)) (Var 1) (App (Con 46 0) (Var 4))) (pair_with 0 (App (ne (App (Fam 46) (Var 5)) (App (App (App (Con 46 1) (Var 5)) (Var 3)) (Var 2))) (App (Con 46 0) (Var 5))) (no_part_at (Var 5) (App (Fam 46) (Var 5)) (App (App (App (Con 46 1) (Var 5)) (Var 3)) (Var 2)) (App (Con 46 0) (Var 5))) (Lam (equation 0 (App (Fam 46) (Var 5)) (App (App (App (Con 46 1) (Var 5)) (Var 3)) (Var 2)) (App (Con 46 0) (Var 5))) (App (App (App (App (App (App (Const 61) (Var 6)) (Var 4)) (Var 3)) (App (Con 46 0) (Var 6))) (Var 0)) (Lam (equation 0 (App (Fam 46) (Var 6)) (App (App (App (Con 46 1) (Var 6)) (Var 4)) (Var 3)) (App (Con 46 0) (Var 6))) (Fam empty_type)))) (Con (unit_type 0) 0)))) (Lam (Var 4) (Lam (App (Fam 46) (Var 5)) (Lam (Pi (no_part_at (Var 6) (App (Fam 46) (Var 6)) (Var 3) (Var 0)) (not_within_at (Var 7) (App (Fam 46) (Var 7)) (App (App (App (Con 46 1) (Var 7)) (Var 5)) (Var 4)) (Var 1))) (Lam (no_part_at (Var 7) (App (Fam 46) (Var 7)) (Var 4) (App (App (App (Con 46 1) (Var 7)) (Var 2)) (Var 1))) (pair_with 0 (App (ne (App (Fam 46) (Var 8)) (App (App (App (Con 46 1) (Var 8)) (Var 6)) (Var 5))) (App (App (App (Con 46 1) (Var 8)) (Var 3)) (Var 2))) (no_part_at (Var 8) (App (Fam 46) (Var 8)) (App (App (App (Con 46 1) (Var 8)) (Var 6)) (Var 5)) (App (App (App (Con 46 1) (Var 8)) (Var 3)) (Var 2))) (Lam (equation 0 (App (Fam 46) (Var 8)) (App (App (App (Con 46 1) (Var 8)) (Var 6)) (Var 5)) (App (App (App (Con 46 1) (Var 8)) (Var 3)) (Var 2))) (App (App (App (App (App (App (App (Const 61) (Var 9)) (Var 7)) (Var 6)) (App (App (App (Con 46 1) (Var 9)) (Var 4)) (Var 3))) (Var 0)) (Lam (equation 0 (App (Fam 46) (Var 9)) (App (App (App (Con 46 1) (Var 9)) (Var 7)) (Var 6)) (App (App (App (Con 46 1) (Var 9)) (Var 4)) (Var 3))) (Fam empty_type))) (Lam (equation 0 (Var 9) (Var 7) (Var 4)) (Lam (equation 0 (App (Fam 46) (Var 10)) (Var 7) (Var 4)) (App (first (App (ne (App (Fam 46) (Var 11)) (Var 8)) (Var 5)) (no_part_at (Var 11) (App (Fam 46) (Var 11)) (Var 8) (Var 5)) (first (not_within_at (Var 11) (App (Fam 46) (Var 11)) (Var 8) (Var 5)) (Fam (unit_type 0)) (Var 3))) (Var 0)))))) (pair_with 0 (not_within_at (Var 8) (App (Fam 46) (Var 8)) (App (App (App (Con 46 1) (Var 8)) (Var 6)) (Var 5)) (Var 2)) (Fam (unit_type 0)) (App (Var 1) (second (App (ne (App (Fam 46) (Var 8)) (Var 5)) (Var 2)) (no_part_at (Var 8) (App (Fam 46) (Var 8)) (Var 5) (Var 2)) (first (not_within_at (Var 8) (App (Fam 46) (Var 8)) (Var 5) (Var 2)) (Fam (unit_type 0)) (Var 0)))) (Con (unit_type 0) 0)))))))) (Var 1)) (Var 0)) (Con (unit_type 0) 0)))))) (Var 0)))
list_acyclic_term = refl

-- ---- Ord

ord_direct_type : direct_type (family_shape 47 ord) (carrier_of 47 (family_shape 47 ord) 60) ≡ Pi (Pi (Fam 47) (Sort 0)) (Pi (Fam 47) (Sort 0))
ord_direct_type = refl

ord_direct_term : direct_term (family_shape 47 ord) (carrier_of 47 (family_shape 47 ord) 60)
    ≡ Lam (Pi (Fam 47) (Sort 0)) (Lam (Fam 47) (App (App (App (App (App (Elim 47 1) (Lam (Fam 47) (Sort 0))) (Fam (unit_type 0))) (Lam (Fam 47) (Lam (Sort 0) (pair_of 0 (pair_of 0 (App (Var 3) (Var 1)) (Var 0)) (Fam (unit_type 0)))))) (Lam (Pi (Fam 46) (Fam 47)) (Lam (Pi (Fam 46) (Sort 0)) (Fam (unit_type 0))))) (Var 0)))
ord_direct_term = refl

ord_acyclic_type : acyclic_type (family_shape 47 ord) (carrier_of 47 (family_shape 47 ord) 60) ≡ Pi (Fam 47) (no_part (Fam 47) (Var 0) (Var 0))
ord_acyclic_type = refl

ord_acyclic_term : acyclic_term (family_shape 47 ord) (carrier_of 47 (family_shape 47 ord) 60) 61
    ≡ Lam (Fam 47) (App (App (App (App (App (Elim 47 0) (Lam (Fam 47) (no_part (Fam 47) (Var 0) (Var 0)))) (Con (unit_type 0) 0)) (Lam (Fam 47) (Lam (no_part (Fam 47) (Var 0) (Var 0)) (pair_with 0 (not_within (Fam 47) (App (Con 47 1) (Var 1)) (Var 1)) (Fam (unit_type 0)) (App (App (App (App (App (App (Elim 47 0) (Lam (Fam 47) (Pi (no_part (Fam 47) (Var 2) (Var 0)) (not_within (Fam 47) (App (Con 47 1) (Var 3)) (Var 1))))) (Lam (no_part (Fam 47) (Var 1) (Con 47 0)) (pair_with 0 (App (ne (Fam 47) (App (Con 47 1) (Var 2))) (Con 47 0)) (no_part (Fam 47) (App (Con 47 1) (Var 2)) (Con 47 0)) (Lam (equation 0 (Fam 47) (App (Con 47 1) (Var 2)) (Con 47 0)) (App (App (App (App (Const 61) (Var 3)) (Con 47 0)) (Var 0)) (Lam (equation 0 (Fam 47) (App (Con 47 1) (Var 3)) (Con 47 0)) (Fam empty_type)))) (Con (unit_type 0) 0)))) (Lam (Fam 47) (Lam (Pi (no_part (Fam 47) (Var 2) (Var 0)) (not_within (Fam 47) (App (Con 47 1) (Var 3)) (Var 1))) (Lam (no_part (Fam 47) (Var 3) (App (Con 47 1) (Var 1))) (pair_with 0 (App (ne (Fam 47) (App (Con 47 1) (Var 4))) (App (Con 47 1) (Var 2))) (no_part (Fam 47) (App (Con 47 1) (Var 4)) (App (Con 47 1) (Var 2))) (Lam (equation 0 (Fam 47) (App (Con 47 1) (Var 4)) (App (Con 47 1) (Var 2))) (App (App (App (App (App (Const 61) (Var 5)) (App (Con 47 1) (Var 3))) (Var 0)) (Lam (equation 0 (Fam 47) (App (Con 47 1) (Var 5)) (App (Con 47 1) (Var 3))) (Fam empty_type))) (Lam (equation 0 (Fam 47) (Var 5) (Var 3)) (App (first (App (ne (Fam 47) (Var 6)) (Var 4)) (no_part (Fam 47) (Var 6) (Var 4)) (first (not_within (Fam 47) (Var 6) (Var 4)) (Fam (unit_type 0)) (Var 2))) (Var 0))))) (pair_with 0 (not_within (Fam 47) (App (Con 47 1) (Var 4)) (Var 2)) (Fam (unit_type 0)) (App (Var 1) (second (App (ne (Fam 47) (Var 4)) (Var 2)) (no_part (Fam 47) (Var 4) (Var 2)) (first (not_within (Fam 47) (Var 4) (Var 2)) (Fam (unit_type 0)) (Var 0)))) (Con (unit_type 0) 0))))))) (Lam (Pi (Fam 46) (Fam 47)) (Lam (Pi (Fam 46) (Pi (no_part (Fam 47) (Var 3) (App (Var 1) (Var 0))) (not_within (Fam 47) (App (Con 47 1) (Var 4)) (App (Var 2) (Var 1))))) (Lam (no_part (Fam 47) (Var 3) (App (Con 47 2) (Var 1))) (pair_with 0 (App (ne (Fam 47) (App (Con 47 1) (Var 4))) (App (Con 47 2) (Var 2))) (no_part (Fam 47) (App (Con 47 1) (Var 4)) (App (Con 47 2) (Var 2))) (Lam (equation 0 (Fam 47) (App (Con 47 1) (Var 4)) (App (Con 47 2) (Var 2))) (App (App (App (App (Const 61) (Var 5)) (App (Con 47 2) (Var 3))) (Var 0)) (Lam (equation 0 (Fam 47) (App (Con 47 1) (Var 5)) (App (Con 47 2) (Var 3))) (Fam empty_type)))) (Con (unit_type 0) 0)))))) (Var 1)) (Var 0)) (Con (unit_type 0) 0))))) (Lam (Pi (Fam 46) (Fam 47)) (Lam (Pi (Fam 46) (no_part (Fam 47) (App (Var 1) (Var 0)) (App (Var 1) (Var 0)))) (Con (unit_type 0) 0)))) (Var 0))
ord_acyclic_term = refl

-- ---- Bin

bin_direct_type : direct_type (family_shape 48 bin) (carrier_of 48 (family_shape 48 bin) 60) ≡ Pi (Pi (Fam 48) (Sort 0)) (Pi (Fam 48) (Sort 0))
bin_direct_type = refl

bin_direct_term : direct_term (family_shape 48 bin) (carrier_of 48 (family_shape 48 bin) 60)
    ≡ Lam (Pi (Fam 48) (Sort 0)) (Lam (Fam 48) (App (App (App (App (Elim 48 1) (Lam (Fam 48) (Sort 0))) (Fam (unit_type 0))) (Lam (Fam 46) (Lam (Fam 48) (Lam (App (Fam 47) (Var 1)) (Lam (Fam 48) (Lam (Sort 0) (Lam (Sort 0) (pair_of 0 (pair_of 0 (App (Var 7) (Var 4)) (Var 1)) (pair_of 0 (pair_of 0 (App (Var 7) (Var 2)) (Var 0)) (Fam (unit_type 0))))))))))) (Var 0)))
bin_direct_term = refl

bin_acyclic_type : acyclic_type (family_shape 48 bin) (carrier_of 48 (family_shape 48 bin) 60) ≡ Pi (Fam 48) (no_part (Fam 48) (Var 0) (Var 0))
bin_acyclic_type = refl

bin_acyclic_term : acyclic_term (family_shape 48 bin) (carrier_of 48 (family_shape 48 bin) 60) 61
    ≡ Lam (Fam 48) (App (App (App (App (Elim 48 0) (Lam (Fam 48) (no_part (Fam 48) (Var 0) (Var 0)))) (Con (unit_type 0) 0)) (Lam (Fam 46) (Lam (Fam 48) (Lam (App (Fam 47) (Var 1)) (Lam (Fam 48) (Lam (no_part (Fam 48) (Var 2) (Var 2)) (Lam (no_part (Fam 48) (Var 1) (Var 1)) (pair_with 0 (not_within (Fam 48) (App (App (App (App (Con 48 1) (Var 5)) (Var 4)) (Var 3)) (Var 2)) (Var 4)) (pair_of 0 (not_within (Fam 48) (App (App (App (App (Con 48 1) (Var 5)) (Var 4)) (Var 3)) (Var 2)) (Var 2)) (Fam (unit_type 0))) (App (App (App (App (App (Elim 48 0) (Lam (Fam 48) (Pi (no_part (Fam 48) (Var 5) (Var 0)) (not_within (Fam 48) (App (App (App (App (Con 48 1) (Var 7)) (Var 6)) (Var 5)) (Var 4)) (Var 1))))) (Lam (no_part (Fam 48) (Var 4) (Con 48 0)) (pair_with 0 (App (ne (Fam 48) (App (App (App (App (Con 48 1) (Var 6)) (Var 5)) (Var 4)) (Var 3))) (Con 48 0)) (no_part (Fam 48) (App (App (App (App (Con 48 1) (Var 6)) (Var 5)) (Var 4)) (Var 3)) (Con 48 0)) (Lam (equation 0 (Fam 48) (App (App (App (App (Con 48 1) (Var 6)) (Var 5)) (Var 4)) (Var 3)) (Con 48 0)) (App (App (App (App (App (App (App (Const 61) (Var 7)) (Var 6)) (Var 5)) (Var 4)) (Con 48 0)) (Var 0)) (Lam (equation 0 (Fam 48) (App (App (App (App (Con 48 1) (Var 7)) (Var 6)) (Var 5)) (Var 4)) (Con 48 0)) (Fam empty_type)))) (Con (unit_type 0) 0)))) (Lam (Fam 46) (Lam (Fam 48) (Lam (App (Fam 47) (Var 1)) (Lam (Fam 48) (Lam (Pi (no_part (Fam 48) (Var 8) (Var 2)) (not_within (Fam 48) (App (App (App (App (Con 48 1) (Var 10)) (Var 9)) (Var 8)) (Var 7)) (Var 3))) (Lam (Pi (no_part (Fam 48) (Var 9) (Var 1)) (not_within (Fam 48) (App (App (App (App (Con 48 1) (Var 11)) (Var 10)) (Var 9)) (Var 8)) (Var 2))) (Lam (no_part (Fam 48) (Var 10) (App (App (App (App (Con 48 1) (Var 5)) (Var 4)) (Var 3)) (Var 2))) (pair_with 0 (App (ne (Fam 48) (App (App (App (App (Con 48 1) (Var 12)) (Var 11)) (Var 10)) (Var 9))) (App (App (App (App (Con 48 1) (Var 6)) (Var 5)) (Var 4)) (Var 3))) (no_part (Fam 48) (App (App (App (App (Con 48 1) (Var 12)) (Var 11)) (Var 10)) (Var 9)) (App (App (App (App (Con 48 1) (Var 6)) (Var 5)) (Var 4)) (Var 3))) (Lam (equation 0 (Fam 48) (App (App (App (App (Con 48 1) (Var 12)) (Var 11)) (Var 10)) (Var 9)) (App (App (App (App (Con 48 1) (Var 6)) (Var 5)) (Var 4)) (Var 3))) (App (App (App (App (App (App (App (App (Const 61) (Var 13)) (Var 12)) (Var 11)) (Var 10)) (App (App (App (App (Con 48 1) (Var 7)) (Var 6)) (Var 5)) (Var 4))) (Var 0)) (Lam (equation 0 (Fam 48) (App (App (App (App (Con 48 1) (Var 13)) (Var 12)) (Var 11)) (Var 10)) (App (App (App (App (Con 48 1) (Var 7)) (Var 6)) (Var 5)) (Var 4))) (Fam empty_type))) (Lam (equation 0 (Fam 46) (Var 13) (Var 7)) (Lam (equation 0 (Fam 48) (Var 13) (Var 7)) (Lam (equation 0 (App (Fam 47) (Var 9)) (App (App (App (App (App (App (App (Elim (equality 0) 0) (Fam 46)) (Var 15)) (Lam (Fam 46) (Lam (equation 0 (Fam 46) (Var 16) (Var 0)) (Pi (App (Fam 47) (Var 17)) (App (Fam 47) (Var 2)))))) (Lam (App (Fam 47) (Var 15)) (Var 0))) (Var 9)) (Var 1)) (Var 13)) (Var 7)) (Lam (equation 0 (Fam 48) (Var 13) (Var 7)) (App (first (App (ne (Fam 48) (Var 16)) (Var 10)) (no_part (Fam 48) (Var 16) (Var 10)) (first (not_within (Fam 48) (Var 16) (Var 10)) (pair_of 0 (not_within (Fam 48) (Var 16) (Var 8)) (Fam (unit_type 0))) (Var 5))) (Var 2)))))))) (pair_with 0 (not_within (Fam 48) (App (App (App (App (Con 48 1) (Var 12)) (Var 11)) (Var 10)) (Var 9)) (Var 5)) (pair_of 0 (not_within (Fam 48) (App (App (App (App (Con 48 1) (Var 12)) (Var 11)) (Var 10)) (Var 9)) (Var 3)) (Fam (unit_type 0))) (App (Var 2) (second (App (ne (Fam 48) (Var 11)) (Var 5)) (no_part (Fam 48) (Var 11) (Var 5)) (first (not_within (Fam 48) (Var 11) (Var 5)) (pair_of 0 (not_within (Fam 48) (Var 11) (Var 3)) (Fam (unit_type 0))) (Var 0)))) (pair_with 0 (not_within (Fam 48) (App (App (App (App (Con 48 1) (Var 12)) (Var 11)) (Var 10)) (Var 9)) (Var 3)) (Fam (unit_type 0)) (App (Var 1) (second (App (ne (Fam 48) (Var 11)) (Var 3)) (no_part (Fam 48) (Var 11) (Var 3)) (first (not_within (Fam 48) (Var 11) (Var 3)) (Fam (unit_type 0)) (second (not_within (Fam 48) (Var 11) (Var 5)) (pair_of 0 (not_within (Fam 48) (Var 11) (Var 3)) (Fam (unit_type 0))) (Var 0))))) (Con (unit_type 0) 0)))))))))))) (Var 4)) (Var 1)) (pair_with 0 (not_within (Fam 48) (App (App (App (App (Con 48 1) (Var 5)) (Var 4)) (Var 3)) (Var 2)) (Var 2)) (Fam (unit_type 0)) (App (App (App (App (App (Elim 48 0) (Lam (Fam 48) (Pi (no_part (Fam 48) (Var 3) (Var 0)) (not_within (Fam 48) (App (App (App (App (Con 48 1) (Var 7)) (Var 6)) (Var 5)) (Var 4)) (Var 1))))) (Lam (no_part (Fam 48) (Var 2) (Con 48 0)) (pair_with 0 (App (ne (Fam 48) (App (App (App (App (Con 48 1) (Var 6)) (Var 5)) (Var 4)) (Var 3))) (Con 48 0)) (no_part (Fam 48) (App (App (App (App (Con 48 1) (Var 6)) (Var 5)) (Var 4)) (Var 3)) (Con 48 0)) (Lam (equation 0 (Fam 48) (App (App (App (App (Con 48 1) (Var 6)) (Var 5)) (Var 4)) (Var 3)) (Con 48 0)) (App (App (App (App (App (App (App (Const 61) (Var 7)) (Var 6)) (Var 5)) (Var 4)) (Con 48 0)) (Var 0)) (Lam (equation 0 (Fam 48) (App (App (App (App (Con 48 1) (Var 7)) (Var 6)) (Var 5)) (Var 4)) (Con 48 0)) (Fam empty_type)))) (Con (unit_type 0) 0)))) (Lam (Fam 46) (Lam (Fam 48) (Lam (App (Fam 47) (Var 1)) (Lam (Fam 48) (Lam (Pi (no_part (Fam 48) (Var 6) (Var 2)) (not_within (Fam 48) (App (App (App (App (Con 48 1) (Var 10)) (Var 9)) (Var 8)) (Var 7)) (Var 3))) (Lam (Pi (no_part (Fam 48) (Var 7) (Var 1)) (not_within (Fam 48) (App (App (App (App (Con 48 1) (Var 11)) (Var 10)) (Var 9)) (Var 8)) (Var 2))) (Lam (no_part (Fam 48) (Var 8) (App (App (App (App (Con 48 1) (Var 5)) (Var 4)) (Var 3)) (Var 2))) (pair_with 0 (App (ne (Fam 48) (App (App (App (App (Con 48 1) (Var 12)) (Var 11)) (Var 10)) (Var 9))) (App (App (App (App (Con 48 1) (Var 6)) (Var 5)) (Var 4)) (Var 3))) (no_part (Fam 48) (App (App (App (App (Con 48 1) (Var 12)) (Var 11)) (Var 10)) (Var 9)) (App (App (App (App (Con 48 1) (Var 6)) (Var 5)) (Var 4)) (Var 3))) (Lam (equation 0 (Fam 48) (App (App (App (App (Con 48 1) (Var 12)) (Var 11)) (Var 10)) (Var 9)) (App (App (App (App (Con 48 1) (Var 6)) (Var 5)) (Var 4)) (Var 3))) (App (App (App (App (App (App (App (App (Const 61) (Var 13)) (Var 12)) (Var 11)) (Var 10)) (App (App (App (App (Con 48 1) (Var 7)) (Var 6)) (Var 5)) (Var 4))) (Var 0)) (Lam (equation 0 (Fam 48) (App (App (App (App (Con 48 1) (Var 13)) (Var 12)) (Var 11)) (Var 10)) (App (App (App (App (Con 48 1) (Var 7)) (Var 6)) (Var 5)) (Var 4))) (Fam empty_type))) (Lam (equation 0 (Fam 46) (Var 13) (Var 7)) (Lam (equation 0 (Fam 48) (Var 13) (Var 7)) (Lam (equation 0 (App (Fam 47) (Var 9)) (App (App (App (App (App (App (App (Elim (equality 0) 0) (Fam 46)) (Var 15)) (Lam (Fam 46) (Lam (equation 0 (Fam 46) (Var 16) (Var 0)) (Pi (App (Fam 47) (Var 17)) (App (Fam 47) (Var 2)))))) (Lam (App (Fam 47) (Var 15)) (Var 0))) (Var 9)) (Var 1)) (Var 13)) (Var 7)) (Lam (equation 0 (Fam 48) (Var 13) (Var 7)) (App (first (App (ne (Fam 48) (Var 14)) (Var 8)) (no_part (Fam 48) (Var 14) (Var 8)) (first (not_within (Fam 48) (Var 14) (Var 8)) (Fam (unit_type 0)) (second (not_within (Fam 48) (Var 14) (Var 10)) (pair_of 0 (not_within (Fam 48) (Var 14) (Var 8)) (Fam (unit_type 0))) (Var 5)))) (Var 0)))))))) (pair_with 0 (not_within (Fam 48) (App (App (App (App (Con 48 1) (Var 12)) (Var 11)) (Var 10)) (Var 9)) (Var 5)) (pair_of 0 (not_within (Fam 48) (App (App (App (App (Con 48 1) (Var 12)) (Var 11)) (Var 10)) (Var 9)) (Var 3)) (Fam (unit_type 0))) (App (Var 2) (second (App (ne (Fam 48) (Var 9)) (Var 5)) (no_part (Fam 48) (Var 9) (Var 5)) (first (not_within (Fam 48) (Var 9) (Var 5)) (pair_of 0 (not_within (Fam 48) (Var 9) (Var 3)) (Fam (unit_type 0))) (Var 0)))) (pair_with 0 (not_within (Fam 48) (App (App (App (App (Con 48 1) (Var 12)) (Var 11)) (Var 10)) (Var 9)) (Var 3)) (Fam (unit_type 0)) (App (Var 1) (second (App (ne (Fam 48) (Var 9)) (Var 3)) (no_part (Fam 48) (Var 9) (Var 3)) (first (not_within (Fam 48) (Var 9) (Var 3)) (Fam (unit_type 0)) (second (not_within (Fam 48) (Var 9) (Var 5)) (pair_of 0 (not_within (Fam 48) (Var 9) (Var 3)) (Fam (unit_type 0))) (Var 0))))) (Con (unit_type 0) 0)))))))))))) (Var 2)) (Var 0)) (Con (unit_type 0) 0)))))))))) (Var 0))
bin_acyclic_term = refl

-- ---- names, and indices

two_names : names_for (codes "Two") (codes "base" ∷ codes "left" ∷ codes "funs" ∷ codes "both" ∷ []) (family_shape 46 two).constructors
    ≡ codes "Two!direct" ∷ codes "Two!noconf.left.0" ∷ codes "Two!noconf.both.0" ∷ []
two_names = refl

fin_direct : direct_entry 60 46 fin ≡ Err Indexed
fin_direct = refl

fin_acyclic : acyclic_entry 60 46 fin ≡ Err Indexed
fin_acyclic = refl
