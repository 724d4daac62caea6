-- Entries of recursive functions on numbers, as another implementation prints them.
use native.Mathlib.Decide.{ℕ_discrete}
use Rattle.std.proofs.Common.{◌≡◌, false, Some, Ok, [], ◌∷◌, refl, codes}
use Rattle.theory.specs.Terms.Term.{Var, Sort, Pi, Lam, App, Con, Fam, Elim, Const}
use Rattle.theory.specs.Telescopes.{applied}
use Rattle.theory.specs.Signatures.{equation, reflexivity}
use Rattle.theory.specs.Prelude.{unit_type, pair_type}
use Rattle.theory.proofs.AfterPrelude.{after}
use Rattle.core_terms.specs.Clauses.{Is, Side}
use Rattle.core_terms.specs.Patterns as pattern
use Rattle.core_terms.specs.Patterns.{vector}
use Rattle.tree_translation.specs.Plans.{Plan}
use Rattle.tree_translation.specs.Entries.{translate}
use Rattle.tree_translation.proofs.Samples.{sample, Nat, suc_term, own, draft, plan_of}

abbrev plan_plus : Plan
plan_plus =
    plan_of (sample false) (after 6) (codes "plus") 0 (Nat ∷ Nat ∷ []) (Nat) (Some 0) (Is (vector (pattern.Con (after 0) 0 pattern.nil ∷
    pattern.Bind ∷ [])) 1 (Side (Sort 0)) ∷ Is (vector (pattern.Con (after 0) 1 (vector (pattern.Bind ∷ [])) ∷ pattern.Bind ∷
    [])) 2 (Side (Sort 0)) ∷ []) (Var 0 ∷ suc_term (App (App (own) (Var 1)) (Var 0)) ∷ [])

row_plus : translate (sample false) plan_plus ≡ (Ok (draft (codes "plus!motive") (after 6) [] (Pi (Nat) (Sort 0)) (Lam (Nat)
    (Pi (Nat) (Nat))) ∷ draft (codes "plus!step") (after 6) (codes "Nat!below.0" ∷ codes "plus!motive" ∷ codes "Nat!case.0" ∷ [])
    (Pi (Nat) (Pi (applied (Const (after 6)) ((Const (after 7)) ∷ (Var 0) ∷ [])) (Pi (Nat) (Nat)))) (Lam (Nat) (Lam (applied (Const (after 6))
    ((Const (after 7)) ∷ (Var 0) ∷ [])) (Lam (Nat) (applied (Const (after 8)) ((Lam (Nat) (Pi (equation 0 Nat (Var 0) (Var 3)) (Nat))) ∷
    (Lam (equation 0 Nat (Con (after 0) 0) (Var 2)) (applied (Elim 1 0) (Nat ∷ (Con (after 0) 0) ∷ (Lam (Nat) (Lam (equation 0 Nat (Con
    (after 0) 0) (Var 0)) (Pi (applied (Const (after 6)) ((Const (after 7)) ∷ (Var 1) ∷ [])) (Nat)))) ∷ (Lam (applied (Const (after 6)) ((Const (after 7)) ∷
    (Con (after 0) 0) ∷ [])) (Var 2)) ∷ (Var 3) ∷ (Var 0) ∷ (Var 2) ∷ []))) ∷ (Lam (Nat) (Lam (equation 0 Nat (suc_term (Var 0))
    (Var 3)) (applied (Elim 1 0) (Nat ∷ (suc_term (Var 1)) ∷ (Lam (Nat) (Lam (equation 0 Nat (suc_term (Var 2)) (Var 0))
    (Pi (applied (Const (after 6)) ((Const (after 7)) ∷ (Var 1) ∷ [])) (Nat)))) ∷ (Lam (applied (Const (after 6)) ((Const (after 7)) ∷ (suc_term (Var
    1)) ∷ [])) (suc_term (applied (Elim (pair_type 0) 0) ((App (Const (after 7)) (Var 2)) ∷ (applied (Const (after 6)) ((Const (after 7)) ∷ (Var 2) ∷ []))
    ∷ (Lam (applied (Fam (pair_type 0)) ((App (Const (after 7)) (Var 2)) ∷ (applied (Const (after 6)) ((Const (after 7)) ∷ (Var 2) ∷ [])) ∷ [])) (App
    (Const (after 7)) (Var 3))) ∷ (Lam (App (Const (after 7)) (Var 2)) (Lam (applied (Const (after 6)) ((Const (after 7)) ∷ (Var 3) ∷ [])) (Var 1))) ∷
    (applied (Elim (pair_type 0) 0) ((applied (Fam (pair_type 0)) ((App (Const (after 7)) (Var 2)) ∷ (applied (Const (after 6)) ((Const (after 7)) ∷ (Var 2) ∷ [])) ∷
    [])) ∷ (Fam (unit_type 0)) ∷ (Lam (applied (Fam (pair_type 0)) ((applied (Fam (pair_type 0)) ((App (Const (after 7)) (Var 2)) ∷ (applied (Const (after 6)) ((Const
    (after 7)) ∷ (Var 2) ∷ [])) ∷ [])) ∷ (Fam (unit_type 0)) ∷ [])) (applied (Fam (pair_type 0)) ((App (Const (after 7)) (Var 3)) ∷ (applied (Const (after 6))
    ((Const (after 7)) ∷ (Var 3) ∷ [])) ∷ []))) ∷ (Lam (applied (Fam (pair_type 0)) ((App (Const (after 7)) (Var 2)) ∷ (applied (Const (after 6)) ((Const
    (after 7)) ∷ (Var 2) ∷ [])) ∷ [])) (Lam (Fam (unit_type 0)) (Var 1))) ∷ (Var 0) ∷ [])) ∷ (Var 3) ∷ [])))) ∷ (Var 4) ∷ (Var 0) ∷ (Var 3)
    ∷ [])))) ∷ (Var 2) ∷ (reflexivity 0 Nat (Var 2)) ∷ []))))) ∷ draft (codes "plus") (after 6) (codes "Nat!rec.0" ∷ codes
    "plus!motive" ∷ codes "plus!step" ∷ []) (Pi (Nat) (Pi (Nat) (Nat))) (Lam (Nat) (Lam (Nat) (applied (Const (after 6)) ((Const
    (after 7)) ∷ (Const (after 8)) ∷ (Var 1) ∷ (Var 0) ∷ [])))) ∷ []))
unfolding native.Mathlib.Decide.ℕ_discrete
row_plus = refl

abbrev plan_add : Plan
plan_add =
    plan_of (sample false) (after 6) (codes "add") 0 (Nat ∷ Nat ∷ []) (Nat) (Some 0) (Is (vector (pattern.Con (after 0) 0 pattern.nil ∷
    pattern.Bind ∷ [])) 1 (Side (Sort 0)) ∷ Is (vector (pattern.Bind ∷ pattern.Con (after 0) 0 pattern.nil ∷ [])) 1 (Side (Sort
    0)) ∷ Is (vector (pattern.Con (after 0) 1 (vector (pattern.Bind ∷ [])) ∷ pattern.Con (after 0) 1 (vector (pattern.Bind ∷ [])) ∷ []))
    2 (Side (Sort 0)) ∷ []) (Var 0 ∷ Var 0 ∷ suc_term (suc_term (App (App (own) (Var 1)) (Var 0))) ∷ [])

row_add : translate (sample false) plan_add ≡ (Ok (draft (codes "add!motive") (after 6) [] (Pi (Nat) (Sort 0)) (Lam (Nat)
    (Pi (Nat) (Nat))) ∷ draft (codes "add!step") (after 6) (codes "Nat!below.0" ∷ codes "add!motive" ∷ codes "Nat!case.0" ∷ [])
    (Pi (Nat) (Pi (applied (Const (after 6)) ((Const (after 7)) ∷ (Var 0) ∷ [])) (Pi (Nat) (Nat)))) (Lam (Nat) (Lam (applied (Const (after 6))
    ((Const (after 7)) ∷ (Var 0) ∷ [])) (Lam (Nat) (applied (Const (after 8)) ((Lam (Nat) (Pi (equation 0 Nat (Var 0) (Var 3)) (Nat))) ∷
    (Lam (equation 0 Nat (Con (after 0) 0) (Var 2)) (applied (Elim 1 0) (Nat ∷ (Con (after 0) 0) ∷ (Lam (Nat) (Lam (equation 0 Nat (Con
    (after 0) 0) (Var 0)) (Pi (applied (Const (after 6)) ((Const (after 7)) ∷ (Var 1) ∷ [])) (Nat)))) ∷ (Lam (applied (Const (after 6)) ((Const (after 7)) ∷
    (Con (after 0) 0) ∷ [])) (Var 2)) ∷ (Var 3) ∷ (Var 0) ∷ (Var 2) ∷ []))) ∷ (Lam (Nat) (Lam (equation 0 Nat (suc_term (Var 0))
    (Var 3)) (applied (Elim 1 0) (Nat ∷ (suc_term (Var 1)) ∷ (Lam (Nat) (Lam (equation 0 Nat (suc_term (Var 2)) (Var 0))
    (Pi (applied (Const (after 6)) ((Const (after 7)) ∷ (Var 1) ∷ [])) (Nat)))) ∷ (Lam (applied (Const (after 6)) ((Const (after 7)) ∷ (suc_term (Var
    1)) ∷ [])) (applied (Const (after 8)) ((Lam (Nat) (Pi (equation 0 Nat (Var 0) (Var 4)) (Nat))) ∷ (Lam (equation 0 Nat (Con (after 0)
    0) (Var 3)) (applied (Elim 1 0) (Nat ∷ (Con (after 0) 0) ∷ (Lam (Nat) (Lam (equation 0 Nat (Con (after 0) 0) (Var 0)) (Nat))) ∷
    (suc_term (Var 3)) ∷ (Var 4) ∷ (Var 0) ∷ []))) ∷ (Lam (Nat) (Lam (equation 0 Nat (suc_term (Var 0)) (Var 4)) (applied
    (Elim 1 0) (Nat ∷ (suc_term (Var 1)) ∷ (Lam (Nat) (Lam (equation 0 Nat (suc_term (Var 2)) (Var 0)) (Nat))) ∷ (suc_term
    (suc_term (applied (Elim (pair_type 0) 0) ((App (Const (after 7)) (Var 4)) ∷ (applied (Const (after 6)) ((Const (after 7)) ∷ (Var 4) ∷ [])) ∷ (Lam
    (applied (Fam (pair_type 0)) ((App (Const (after 7)) (Var 4)) ∷ (applied (Const (after 6)) ((Const (after 7)) ∷ (Var 4) ∷ [])) ∷ [])) (App (Const (after 7))
    (Var 5))) ∷ (Lam (App (Const (after 7)) (Var 4)) (Lam (applied (Const (after 6)) ((Const (after 7)) ∷ (Var 5) ∷ [])) (Var 1))) ∷ (applied
    (Elim (pair_type 0) 0) ((applied (Fam (pair_type 0)) ((App (Const (after 7)) (Var 4)) ∷ (applied (Const (after 6)) ((Const (after 7)) ∷ (Var 4) ∷ [])) ∷ [])) ∷
    (Fam (unit_type 0)) ∷ (Lam (applied (Fam (pair_type 0)) ((applied (Fam (pair_type 0)) ((App (Const (after 7)) (Var 4)) ∷ (applied (Const (after 6)) ((Const (after 7)) ∷
    (Var 4) ∷ [])) ∷ [])) ∷ (Fam (unit_type 0)) ∷ [])) (applied (Fam (pair_type 0)) ((App (Const (after 7)) (Var 5)) ∷ (applied (Const (after 6)) ((Const (after 7))
    ∷ (Var 5) ∷ [])) ∷ []))) ∷ (Lam (applied (Fam (pair_type 0)) ((App (Const (after 7)) (Var 4)) ∷ (applied (Const (after 6)) ((Const (after 7)) ∷ (Var
    4) ∷ [])) ∷ [])) (Lam (Fam (unit_type 0)) (Var 1))) ∷ (Var 2) ∷ [])) ∷ (Var 1) ∷ [])))) ∷ (Var 5) ∷ (Var 0) ∷ [])))) ∷ (Var 3) ∷
    (reflexivity 0 Nat (Var 3)) ∷ []))) ∷ (Var 4) ∷ (Var 0) ∷ (Var 3) ∷ [])))) ∷ (Var 2) ∷ (reflexivity 0 Nat (Var 2)) ∷
    []))))) ∷ draft (codes "add") (after 6) (codes "Nat!rec.0" ∷ codes "add!motive" ∷ codes "add!step" ∷ []) (Pi (Nat) (Pi (Nat)
    (Nat))) (Lam (Nat) (Lam (Nat) (applied (Const (after 6)) ((Const (after 7)) ∷ (Const (after 8)) ∷ (Var 1) ∷ (Var 0) ∷ [])))) ∷ []))
unfolding native.Mathlib.Decide.ℕ_discrete
row_add = refl

abbrev plan_eqb : Plan
plan_eqb =
    plan_of (sample false) (after 6) (codes "eqb") 0 (Nat ∷ Nat ∷ []) (Fam (after 2)) (Some 0) (Is (vector (pattern.Con (after 0) 0 pattern.nil
    ∷ pattern.Con (after 0) 0 pattern.nil ∷ [])) 0 (Side (Sort 0)) ∷ Is (vector (pattern.Con (after 0) 1 (vector (pattern.Bind ∷ [])) ∷
    pattern.Con (after 0) 1 (vector (pattern.Bind ∷ [])) ∷ [])) 2 (Side (Sort 0)) ∷ Is (vector (pattern.Wild ∷ pattern.Wild ∷
    [])) 0 (Side (Sort 0)) ∷ []) (Con (after 2) 0 ∷ App (App (own) (Var 1)) (Var 0) ∷ Con (after 2) 1 ∷ [])

row_eqb : translate (sample false) plan_eqb ≡ (Ok (draft (codes "eqb!motive") (after 6) [] (Pi (Nat) (Sort 0)) (Lam (Nat)
    (Pi (Nat) (Fam (after 2)))) ∷ draft (codes "eqb!step") (after 6) (codes "Nat!below.0" ∷ codes "eqb!motive" ∷ codes "Nat!case.0" ∷
    []) (Pi (Nat) (Pi (applied (Const (after 6)) ((Const (after 7)) ∷ (Var 0) ∷ [])) (Pi (Nat) (Fam (after 2))))) (Lam (Nat) (Lam (applied
    (Const (after 6)) ((Const (after 7)) ∷ (Var 0) ∷ [])) (Lam (Nat) (applied (Const (after 8)) ((Lam (Nat) (Pi (equation 0 Nat (Var 0) (Var
    3)) (Fam (after 2)))) ∷ (Lam (equation 0 Nat (Con (after 0) 0) (Var 2)) (applied (Elim 1 0) (Nat ∷ (Con (after 0) 0) ∷ (Lam (Nat) (Lam
    (equation 0 Nat (Con (after 0) 0) (Var 0)) (Pi (applied (Const (after 6)) ((Const (after 7)) ∷ (Var 1) ∷ [])) (Fam (after 2))))) ∷ (Lam (applied
    (Const (after 6)) ((Const (after 7)) ∷ (Con (after 0) 0) ∷ [])) (applied (Const (after 8)) ((Lam (Nat) (Pi (equation 0 Nat (Var 0) (Var 3)) (Fam
    (after 2)))) ∷ (Lam (equation 0 Nat (Con (after 0) 0) (Var 2)) (applied (Elim 1 0) (Nat ∷ (Con (after 0) 0) ∷ (Lam (Nat) (Lam (equation 0
    Nat (Con (after 0) 0) (Var 0)) (Fam (after 2)))) ∷ (Con (after 2) 0) ∷ (Var 3) ∷ (Var 0) ∷ []))) ∷ (Lam (Nat) (Lam (equation 0 Nat
    (suc_term (Var 0)) (Var 3)) (applied (Elim 1 0) (Nat ∷ (suc_term (Var 1)) ∷ (Lam (Nat) (Lam (equation 0 Nat (suc_term
    (Var 2)) (Var 0)) (Fam (after 2)))) ∷ (Con (after 2) 1) ∷ (Var 4) ∷ (Var 0) ∷ [])))) ∷ (Var 2) ∷ (reflexivity 0 Nat (Var 2)) ∷ [])))
    ∷ (Var 3) ∷ (Var 0) ∷ (Var 2) ∷ []))) ∷ (Lam (Nat) (Lam (equation 0 Nat (suc_term (Var 0)) (Var 3)) (applied (Elim 1
    0) (Nat ∷ (suc_term (Var 1)) ∷ (Lam (Nat) (Lam (equation 0 Nat (suc_term (Var 2)) (Var 0)) (Pi (applied (Const (after 6))
    ((Const (after 7)) ∷ (Var 1) ∷ [])) (Fam (after 2))))) ∷ (Lam (applied (Const (after 6)) ((Const (after 7)) ∷ (suc_term (Var 1)) ∷ [])) (applied
    (Const (after 8)) ((Lam (Nat) (Pi (equation 0 Nat (Var 0) (Var 4)) (Fam (after 2)))) ∷ (Lam (equation 0 Nat (Con (after 0) 0) (Var 3))
    (applied (Elim 1 0) (Nat ∷ (Con (after 0) 0) ∷ (Lam (Nat) (Lam (equation 0 Nat (Con (after 0) 0) (Var 0)) (Fam (after 2)))) ∷ (Con (after 2) 1) ∷
    (Var 4) ∷ (Var 0) ∷ []))) ∷ (Lam (Nat) (Lam (equation 0 Nat (suc_term (Var 0)) (Var 4)) (applied (Elim 1 0) (Nat ∷
    (suc_term (Var 1)) ∷ (Lam (Nat) (Lam (equation 0 Nat (suc_term (Var 2)) (Var 0)) (Fam (after 2)))) ∷ (applied (Elim (pair_type 0) 0)
    ((App (Const (after 7)) (Var 4)) ∷ (applied (Const (after 6)) ((Const (after 7)) ∷ (Var 4) ∷ [])) ∷ (Lam (applied (Fam (pair_type 0)) ((App (Const (after 7))
    (Var 4)) ∷ (applied (Const (after 6)) ((Const (after 7)) ∷ (Var 4) ∷ [])) ∷ [])) (App (Const (after 7)) (Var 5))) ∷ (Lam (App (Const (after 7))
    (Var 4)) (Lam (applied (Const (after 6)) ((Const (after 7)) ∷ (Var 5) ∷ [])) (Var 1))) ∷ (applied (Elim (pair_type 0) 0) ((applied (Fam (pair_type 0))
    ((App (Const (after 7)) (Var 4)) ∷ (applied (Const (after 6)) ((Const (after 7)) ∷ (Var 4) ∷ [])) ∷ [])) ∷ (Fam (unit_type 0)) ∷ (Lam (applied (Fam
    (pair_type 0)) ((applied (Fam (pair_type 0)) ((App (Const (after 7)) (Var 4)) ∷ (applied (Const (after 6)) ((Const (after 7)) ∷ (Var 4) ∷ [])) ∷ [])) ∷ (Fam (unit_type 0))
    ∷ [])) (applied (Fam (pair_type 0)) ((App (Const (after 7)) (Var 5)) ∷ (applied (Const (after 6)) ((Const (after 7)) ∷ (Var 5) ∷ [])) ∷ []))) ∷ (Lam
    (applied (Fam (pair_type 0)) ((App (Const (after 7)) (Var 4)) ∷ (applied (Const (after 6)) ((Const (after 7)) ∷ (Var 4) ∷ [])) ∷ [])) (Lam (Fam (unit_type 0))
    (Var 1))) ∷ (Var 2) ∷ [])) ∷ (Var 1) ∷ [])) ∷ (Var 5) ∷ (Var 0) ∷ [])))) ∷ (Var 3) ∷ (reflexivity 0 Nat (Var 3)) ∷
    []))) ∷ (Var 4) ∷ (Var 0) ∷ (Var 3) ∷ [])))) ∷ (Var 2) ∷ (reflexivity 0 Nat (Var 2)) ∷ []))))) ∷ draft (codes "eqb")
    (after 6) (codes "Nat!rec.0" ∷ codes "eqb!motive" ∷ codes "eqb!step" ∷ []) (Pi (Nat) (Pi (Nat) (Fam (after 2)))) (Lam (Nat) (Lam
    (Nat) (applied (Const (after 6)) ((Const (after 7)) ∷ (Const (after 8)) ∷ (Var 1) ∷ (Var 0) ∷ [])))) ∷ []))
unfolding native.Mathlib.Decide.ℕ_discrete
row_eqb = refl
