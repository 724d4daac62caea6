-- Entries of a recursive function whose variables are put in another order, as another implementation prints them.
use native.Mathlib.Decide.{ℕ_discrete}
use Rattle.std.proofs.Common.{◌≡◌, false, Some, Ok, [], ◌∷◌, refl, codes}
use Rattle.theory.specs.Terms.Term.{Var, Sort, Pi, Lam, App, Con, Fam, Elim, Const}
use Rattle.theory.specs.Telescopes.{applied}
use Rattle.theory.specs.Signatures.{equation, reflexivity, FamilyOf}
use Rattle.theory.specs.Prelude.{unit_type, pair_type}
use Rattle.theory.proofs.AfterPrelude.{after}
use Rattle.core_terms.specs.Clauses.{Is, Side}
use Rattle.core_terms.specs.Patterns as pattern
use Rattle.core_terms.specs.Patterns.{vector}
use Rattle.tree_translation.specs.Plans.{Plan}
use Rattle.tree_translation.specs.Entries.{translate}
use Rattle.tree_translation.proofs.Samples.{sample, behind, vg_family, Nat, suc_term, draft, plan_of}

abbrev plan_vg : Plan
plan_vg =
    plan_of (behind (sample false) (FamilyOf vg_family ∷ [])) (after 7) (codes "vg") 1 (Nat ∷ Sort 0 ∷ Nat ∷ App (App (Fam (after 6))
    (Var 1)) (Var 2) ∷ []) (Nat) (Some 3) (Is (vector (pattern.Bind ∷ pattern.Bind ∷ pattern.Bind ∷ pattern.Con (after 6) 0
    (vector (pattern.Dot (Var 2) ∷ [])) ∷ [])) 3 (Side (Sort 0)) ∷ Is (vector (pattern.Bind ∷ pattern.Bind ∷ pattern.Bind
    ∷ pattern.Con (after 6) 1 (vector (pattern.Dot (Var 4) ∷ pattern.Bind ∷ pattern.Bind ∷ [])) ∷ [])) 5 (Side (Sort 0)) ∷ [])
    (Var 0 ∷ App (App (App (App (Const (after 7)) (suc_term (Var 4))) (Var 3)) (suc_term (Var 2))) (Var 0) ∷ [])

row_vg : translate (behind (sample false) (FamilyOf vg_family ∷ [])) plan_vg ≡ (Ok (draft (codes "vg!motive") (after 7) []
    (Pi (Sort 0) (Pi (Nat) (Pi (applied (Fam (after 6)) ((Var 1) ∷ (Var 0) ∷ [])) (Sort 1)))) (Lam (Sort 0) (Lam (Nat) (Lam
    (applied (Fam (after 6)) ((Var 1) ∷ (Var 0) ∷ [])) (Pi (Nat) (Nat))))) ∷ draft (codes "vg!step") (after 7) (codes "Vg!below.1" ∷
    codes "vg!motive" ∷ codes "Vg!case.1" ∷ []) (Pi (Sort 0) (Pi (Nat) (Pi (applied (Fam (after 6)) ((Var 1) ∷ (Var 0) ∷ [])) (Pi
    (applied (Const (after 7)) ((Var 2) ∷ (App (Const (after 8)) (Var 2)) ∷ (Var 1) ∷ (Var 0) ∷ [])) (Pi (Nat) (Nat)))))) (Lam (Sort 0)
    (Lam (Nat) (Lam (applied (Fam (after 6)) ((Var 1) ∷ (Var 0) ∷ [])) (Lam (applied (Const (after 7)) ((Var 2) ∷ (App (Const (after 8)) (Var
    2)) ∷ (Var 1) ∷ (Var 0) ∷ [])) (Lam (Nat) (applied (Const (after 9)) ((Var 4) ∷ (Lam (Nat) (Lam (applied (Fam (after 6)) ((Var 5) ∷
    (Var 0) ∷ [])) (Pi (equation 0 Nat (Var 1) (Var 5)) (Pi (equation 0 (applied (Fam (after 6)) ((Var 7) ∷ (Var 6) ∷ []))
    (applied (Elim 1 0) (Nat ∷ (Var 2) ∷ (Lam (Nat) (Lam (equation 0 Nat (Var 3) (Var 0)) (Pi (applied (Fam (after 6)) ((Var 9) ∷
    (Var 4) ∷ [])) (applied (Fam (after 6)) ((Var 10) ∷ (Var 2) ∷ []))))) ∷ (Lam (applied (Fam (after 6)) ((Var 7) ∷ (Var 2) ∷ [])) (Var
    0)) ∷ (Var 6) ∷ (Var 0) ∷ (Var 1) ∷ [])) (Var 5)) (Nat))))) ∷ (Lam (Nat) (Lam (equation 0 Nat (Var 0) (Var 4)) (Lam
    (equation 0 (applied (Fam (after 6)) ((Var 6) ∷ (Var 5) ∷ [])) (applied (Elim 1 0) (Nat ∷ (Var 1) ∷ (Lam (Nat) (Lam (equation
    0 Nat (Var 2) (Var 0)) (Pi (applied (Fam (after 6)) ((Var 8) ∷ (Var 3) ∷ [])) (applied (Fam (after 6)) ((Var 9) ∷ (Var 2) ∷ [])))))
    ∷ (Lam (applied (Fam (after 6)) ((Var 6) ∷ (Var 1) ∷ [])) (Var 0)) ∷ (Var 5) ∷ (Var 0) ∷ (applied (Con (after 6) 0) ((Var 6) ∷ (Var
    1) ∷ [])) ∷ [])) (Var 4)) (applied (Elim 1 1) (Nat ∷ (Var 2) ∷ (Lam (Nat) (Lam (equation 0 Nat (Var 3) (Var 0)) (Pi
    (applied (Fam (after 6)) ((Var 9) ∷ (Var 1) ∷ [])) (Pi (applied (Const (after 7)) ((Var 10) ∷ (App (Const (after 8)) (Var 10)) ∷ (Var 2) ∷
    (Var 0) ∷ [])) (Pi (equation 0 (applied (Fam (after 6)) ((Var 11) ∷ (Var 3) ∷ [])) (applied (Elim 1 0) (Nat ∷ (Var 6) ∷ (Lam
    (Nat) (Lam (equation 0 Nat (Var 7) (Var 0)) (Pi (applied (Fam (after 6)) ((Var 13) ∷ (Var 8) ∷ [])) (applied (Fam (after 6)) ((Var
    14) ∷ (Var 2) ∷ []))))) ∷ (Lam (applied (Fam (after 6)) ((Var 11) ∷ (Var 6) ∷ [])) (Var 0)) ∷ (Var 3) ∷ (Var 2) ∷ (applied
    (Con (after 6) 0) ((Var 11) ∷ (Var 6) ∷ [])) ∷ [])) (Var 1)) (Nat)))))) ∷ (Lam (applied (Fam (after 6)) ((Var 7) ∷ (Var 2) ∷ []))
    (Lam (applied (Const (after 7)) ((Var 8) ∷ (App (Const (after 8)) (Var 8)) ∷ (Var 3) ∷ (Var 0) ∷ [])) (Lam (equation 0 (applied (Fam
    (after 6)) ((Var 9) ∷ (Var 4) ∷ [])) (applied (Elim 1 0) (Nat ∷ (Var 4) ∷ (Lam (Nat) (Lam (equation 0 Nat (Var 5) (Var 0))
    (Pi (applied (Fam (after 6)) ((Var 11) ∷ (Var 6) ∷ [])) (applied (Fam (after 6)) ((Var 12) ∷ (Var 2) ∷ []))))) ∷ (Lam (applied (Fam
    (after 6)) ((Var 9) ∷ (Var 4) ∷ [])) (Var 0)) ∷ (Var 4) ∷ (reflexivity 0 Nat (Var 4)) ∷ (applied (Con (after 6) 0) ((Var 9) ∷ (Var
    4) ∷ [])) ∷ [])) (Var 1)) (applied (Elim 1 1) ((applied (Fam (after 6)) ((Var 10) ∷ (Var 5) ∷ [])) ∷ (applied (Con (after 6) 0)
    ((Var 10) ∷ (Var 5) ∷ [])) ∷ (Lam (applied (Fam (after 6)) ((Var 10) ∷ (Var 5) ∷ [])) (Lam (equation 0 (applied (Fam (after 6))
    ((Var 11) ∷ (Var 6) ∷ [])) (applied (Con (after 6) 0) ((Var 11) ∷ (Var 6) ∷ [])) (Var 0)) (Pi (applied (Const (after 7)) ((Var 12) ∷
    (App (Const (after 8)) (Var 12)) ∷ (Var 7) ∷ (Var 1) ∷ [])) (Nat)))) ∷ (Lam (applied (Const (after 7)) ((Var 10) ∷ (App (Const (after 8))
    (Var 10)) ∷ (Var 5) ∷ (applied (Con (after 6) 0) ((Var 10) ∷ (Var 5) ∷ [])) ∷ [])) (Var 7)) ∷ (Var 2) ∷ (Var 0) ∷ (Var 1) ∷
    []))))) ∷ (Var 6) ∷ (Var 1) ∷ (Var 5) ∷ (Var 4) ∷ (Var 0) ∷ []))))) ∷ (Lam (Nat) (Lam (Var 5) (Lam (applied (Fam (after 6))
    ((Var 6) ∷ (suc_term (Var 1)) ∷ [])) (Lam (equation 0 Nat (Var 2) (Var 6)) (Lam (equation 0 (applied (Fam (after 6)) ((Var 8)
    ∷ (Var 7) ∷ [])) (applied (Elim 1 0) (Nat ∷ (Var 3) ∷ (Lam (Nat) (Lam (equation 0 Nat (Var 4) (Var 0)) (Pi (applied
    (Fam (after 6)) ((Var 10) ∷ (Var 5) ∷ [])) (applied (Fam (after 6)) ((Var 11) ∷ (Var 2) ∷ []))))) ∷ (Lam (applied (Fam (after 6)) ((Var 8)
    ∷ (Var 3) ∷ [])) (Var 0)) ∷ (Var 7) ∷ (Var 0) ∷ (applied (Con (after 6) 1) ((Var 8) ∷ (Var 3) ∷ (Var 2) ∷ (Var 1) ∷ [])) ∷
    [])) (Var 6)) (applied (Elim 1 1) (Nat ∷ (Var 4) ∷ (Lam (Nat) (Lam (equation 0 Nat (Var 5) (Var 0)) (Pi (applied (Fam
    (after 6)) ((Var 11) ∷ (Var 1) ∷ [])) (Pi (applied (Const (after 7)) ((Var 12) ∷ (App (Const (after 8)) (Var 12)) ∷ (Var 2) ∷ (Var 0) ∷
    [])) (Pi (equation 0 (applied (Fam (after 6)) ((Var 13) ∷ (Var 3) ∷ [])) (applied (Elim 1 0) (Nat ∷ (Var 8) ∷ (Lam (Nat) (Lam
    (equation 0 Nat (Var 9) (Var 0)) (Pi (applied (Fam (after 6)) ((Var 15) ∷ (Var 10) ∷ [])) (applied (Fam (after 6)) ((Var 16) ∷ (Var
    2) ∷ []))))) ∷ (Lam (applied (Fam (after 6)) ((Var 13) ∷ (Var 8) ∷ [])) (Var 0)) ∷ (Var 3) ∷ (Var 2) ∷ (applied (Con (after 6) 1)
    ((Var 13) ∷ (Var 8) ∷ (Var 7) ∷ (Var 6) ∷ [])) ∷ [])) (Var 1)) (Nat)))))) ∷ (Lam (applied (Fam (after 6)) ((Var 9) ∷ (Var 4)
    ∷ [])) (Lam (applied (Const (after 7)) ((Var 10) ∷ (App (Const (after 8)) (Var 10)) ∷ (Var 5) ∷ (Var 0) ∷ [])) (Lam (equation 0
    (applied (Fam (after 6)) ((Var 11) ∷ (Var 6) ∷ [])) (applied (Elim 1 0) (Nat ∷ (Var 6) ∷ (Lam (Nat) (Lam (equation 0 Nat (Var
    7) (Var 0)) (Pi (applied (Fam (after 6)) ((Var 13) ∷ (Var 8) ∷ [])) (applied (Fam (after 6)) ((Var 14) ∷ (Var 2) ∷ []))))) ∷ (Lam
    (applied (Fam (after 6)) ((Var 11) ∷ (Var 6) ∷ [])) (Var 0)) ∷ (Var 6) ∷ (reflexivity 0 Nat (Var 6)) ∷ (applied (Con (after 6) 1)
    ((Var 11) ∷ (Var 6) ∷ (Var 5) ∷ (Var 4) ∷ [])) ∷ [])) (Var 1)) (applied (Elim 1 1) ((applied (Fam (after 6)) ((Var 12) ∷ (Var
    7) ∷ [])) ∷ (applied (Con (after 6) 1) ((Var 12) ∷ (Var 7) ∷ (Var 6) ∷ (Var 5) ∷ [])) ∷ (Lam (applied (Fam (after 6)) ((Var 12) ∷
    (Var 7) ∷ [])) (Lam (equation 0 (applied (Fam (after 6)) ((Var 13) ∷ (Var 8) ∷ [])) (applied (Con (after 6) 1) ((Var 13) ∷ (Var 8) ∷
    (Var 7) ∷ (Var 6) ∷ [])) (Var 0)) (Pi (applied (Const (after 7)) ((Var 14) ∷ (App (Const (after 8)) (Var 14)) ∷ (Var 9) ∷ (Var 1) ∷
    [])) (Nat)))) ∷ (Lam (applied (Const (after 7)) ((Var 12) ∷ (App (Const (after 8)) (Var 12)) ∷ (Var 7) ∷ (applied (Con (after 6) 1) ((Var
    12) ∷ (Var 7) ∷ (Var 6) ∷ (Var 5) ∷ [])) ∷ [])) (applied (Elim (pair_type 1) 1) ((applied (Const (after 8)) ((Var 13) ∷ (suc_term (Var
    8)) ∷ (Var 6) ∷ [])) ∷ (applied (Const (after 7)) ((Var 13) ∷ (App (Const (after 8)) (Var 13)) ∷ (suc_term (Var 8)) ∷ (Var 6) ∷ []))
    ∷ (Lam (applied (Fam (pair_type 1)) ((applied (Const (after 8)) ((Var 13) ∷ (suc_term (Var 8)) ∷ (Var 6) ∷ [])) ∷ (applied (Const (after 7))
    ((Var 13) ∷ (App (Const (after 8)) (Var 13)) ∷ (suc_term (Var 8)) ∷ (Var 6) ∷ [])) ∷ [])) (applied (Const (after 8)) ((Var 14) ∷
    (suc_term (Var 9)) ∷ (Var 7) ∷ []))) ∷ (Lam (applied (Const (after 8)) ((Var 13) ∷ (suc_term (Var 8)) ∷ (Var 6) ∷ [])) (Lam
    (applied (Const (after 7)) ((Var 14) ∷ (App (Const (after 8)) (Var 14)) ∷ (suc_term (Var 9)) ∷ (Var 7) ∷ [])) (Var 1))) ∷ (applied
    (Elim (pair_type 1) 1) ((applied (Fam (pair_type 1)) ((applied (Const (after 8)) ((Var 13) ∷ (suc_term (Var 8)) ∷ (Var 6) ∷ [])) ∷ (applied (Const
    (after 7)) ((Var 13) ∷ (App (Const (after 8)) (Var 13)) ∷ (suc_term (Var 8)) ∷ (Var 6) ∷ [])) ∷ [])) ∷ (Fam (unit_type 1)) ∷ (Lam (applied (Fam
    (pair_type 1)) ((applied (Fam (pair_type 1)) ((applied (Const (after 8)) ((Var 13) ∷ (suc_term (Var 8)) ∷ (Var 6) ∷ [])) ∷ (applied (Const (after 7))
    ((Var 13) ∷ (App (Const (after 8)) (Var 13)) ∷ (suc_term (Var 8)) ∷ (Var 6) ∷ [])) ∷ [])) ∷ (Fam (unit_type 1)) ∷ [])) (applied (Fam (pair_type 1))
    ((applied (Const (after 8)) ((Var 14) ∷ (suc_term (Var 9)) ∷ (Var 7) ∷ [])) ∷ (applied (Const (after 7)) ((Var 14) ∷ (App (Const (after 8))
    (Var 14)) ∷ (suc_term (Var 9)) ∷ (Var 7) ∷ [])) ∷ []))) ∷ (Lam (applied (Fam (pair_type 1)) ((applied (Const (after 8)) ((Var 13) ∷
    (suc_term (Var 8)) ∷ (Var 6) ∷ [])) ∷ (applied (Const (after 7)) ((Var 13) ∷ (App (Const (after 8)) (Var 13)) ∷ (suc_term (Var 8)) ∷
    (Var 6) ∷ [])) ∷ [])) (Lam (Fam (unit_type 1)) (Var 1))) ∷ (Var 0) ∷ [])) ∷ (suc_term (Var 9)) ∷ []))) ∷ (Var 2) ∷ (Var 0) ∷ (Var
    1) ∷ []))))) ∷ (Var 8) ∷ (Var 1) ∷ (Var 7) ∷ (Var 6) ∷ (Var 0) ∷ []))))))) ∷ (Var 3) ∷ (Var 2) ∷ (reflexivity 0 Nat
    (Var 3)) ∷ (reflexivity 0 (applied (Fam (after 6)) ((Var 4) ∷ (Var 3) ∷ [])) (Var 2)) ∷ []))))))) ∷ draft (codes "vg") (after 7)
    (codes "Vg!rec.1" ∷ codes "vg!motive" ∷ codes "vg!step" ∷ []) (Pi (Nat) (Pi (Sort 0) (Pi (Nat) (Pi (applied (Fam (after 6))
    ((Var 1) ∷ (Var 2) ∷ [])) (Nat))))) (Lam (Nat) (Lam (Sort 0) (Lam (Nat) (Lam (applied (Fam (after 6)) ((Var 1) ∷ (Var 2) ∷
    [])) (applied (Const (after 7)) ((Var 2) ∷ (App (Const (after 8)) (Var 2)) ∷ (App (Const (after 9)) (Var 2)) ∷ (Var 3) ∷ (Var 0) ∷ (Var 1)
    ∷ [])))))) ∷ []))
unfolding native.Mathlib.Decide.ℕ_discrete
row_vg = refl
