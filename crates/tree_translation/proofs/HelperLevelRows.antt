-- Entries of a function whose helper is at a higher level, as another implementation prints them.
use native.Mathlib.Decide.{ℕ_discrete}
use Rattle.std.proofs.Common.{◌≡◌, false, Some, Ok, [], ◌∷◌, refl, codes}
use Rattle.theory.specs.Terms.Term.{Var, Sort, Pi, Lam, App, Con, Fam, Elim, Const}
use Rattle.theory.specs.Telescopes.{applied}
use Rattle.theory.specs.Signatures.{equation, reflexivity}
use Rattle.theory.specs.Prelude.{unit_type, pair_type}
use Rattle.theory.proofs.AfterPrelude.{after}
use Rattle.core_terms.specs.Clauses.{Is, Side}
use Rattle.core_terms.specs.Patterns as pattern
use Rattle.core_terms.specs.Patterns.{vector}
use Rattle.tree_translation.specs.Plans.{Plan}
use Rattle.tree_translation.specs.Entries.{translate}
use Rattle.tree_translation.proofs.Samples.{sample, Nat, suc_term, own, draft, plan_with, helper_part}

abbrev plan_lv : Plan
plan_lv =
    plan_with (sample false) (after 6) (codes "lv") 0 (Nat ∷ Nat ∷ []) (Nat) (Some 0) (Is (vector (pattern.Con (after 0) 0 pattern.nil ∷
    pattern.Bind ∷ [])) 1 (Side (Sort 0)) ∷ Is (vector (pattern.Con (after 0) 1 (vector (pattern.Bind ∷ [])) ∷ pattern.Bind ∷
    [])) 2 (Side (Sort 0)) ∷ []) (Var 0 ∷ applied (Const (after 7)) (Var 1 ∷ Var 0 ∷ Fam (after 2) ∷ []) ∷ []) ((helper_part (sample
    false) 1 (Nat ∷ Nat ∷ Sort 0 ∷ []) (suc_term (Var 1) ∷ Var 2 ∷ Var 0 ∷ []) (Nat) (Is (vector (pattern.Con (after 0) 1 (vector
    (pattern.Bind ∷ [])) ∷ pattern.Con (after 0) 0 pattern.nil ∷ pattern.Bind ∷ [])) 2 (Side (Sort 0)) ∷ Is (vector (pattern.Con
    (after 0) 1 (vector (pattern.Bind ∷ [])) ∷ pattern.Con (after 0) 1 (vector (pattern.Bind ∷ [])) ∷ pattern.Bind ∷ [])) 3 (Side (Sort
    0)) ∷ []) (Var 1 ∷ App (App (own) (Var 2)) (Var 1) ∷ [])) ∷ [])

row_lv : translate (sample false) plan_lv ≡ (Ok (draft (codes "lv!motive") (after 6) [] (Pi (Nat) (Sort 0)) (Lam (Nat) (Pi
    (Nat) (Nat))) ∷ draft (codes "lv!w1") (after 6) (codes "Nat!below.0" ∷ codes "lv!motive" ∷ codes "Nat!case.1" ∷ []) (Pi (Nat)
    (Pi (Nat) (Pi (Sort 0) (Pi (applied (Const (after 6)) ((Const (after 7)) ∷ (suc_term (Var 1)) ∷ [])) (Nat))))) (Lam (Nat) (Lam (Nat)
    (Lam (Sort 0) (Lam (applied (Const (after 6)) ((Const (after 7)) ∷ (suc_term (Var 1)) ∷ [])) (applied (Const (after 8)) ((Lam (Nat) (Pi
    (equation 0 Nat (Var 0) (Var 4)) (Nat))) ∷ (Lam (equation 0 Nat (Con (after 0) 0) (Var 3)) (applied (Elim 1 1) (Nat ∷ (Con (after 0)
    0) ∷ (Lam (Nat) (Lam (equation 0 Nat (Con (after 0) 0) (Var 0)) (Nat))) ∷ (Var 3) ∷ (Var 4) ∷ (Var 0) ∷ []))) ∷ (Lam (Nat)
    (Lam (equation 0 Nat (suc_term (Var 0)) (Var 4)) (applied (Elim 1 1) (Nat ∷ (suc_term (Var 1)) ∷ (Lam (Nat) (Lam
    (equation 0 Nat (suc_term (Var 2)) (Var 0)) (Nat))) ∷ (applied (Elim (pair_type 0) 0) ((App (Const (after 7)) (Var 4)) ∷ (applied (Const
    (after 6)) ((Const (after 7)) ∷ (Var 4) ∷ [])) ∷ (Lam (applied (Fam (pair_type 0)) ((App (Const (after 7)) (Var 4)) ∷ (applied (Const (after 6)) ((Const (after 7))
    ∷ (Var 4) ∷ [])) ∷ [])) (App (Const (after 7)) (Var 5))) ∷ (Lam (App (Const (after 7)) (Var 4)) (Lam (applied (Const (after 6)) ((Const (after 7))
    ∷ (Var 5) ∷ [])) (Var 1))) ∷ (applied (Elim (pair_type 0) 0) ((applied (Fam (pair_type 0)) ((App (Const (after 7)) (Var 4)) ∷ (applied (Const (after 6))
    ((Const (after 7)) ∷ (Var 4) ∷ [])) ∷ [])) ∷ (Fam (unit_type 0)) ∷ (Lam (applied (Fam (pair_type 0)) ((applied (Fam (pair_type 0)) ((App (Const (after 7)) (Var 4)) ∷
    (applied (Const (after 6)) ((Const (after 7)) ∷ (Var 4) ∷ [])) ∷ [])) ∷ (Fam (unit_type 0)) ∷ [])) (applied (Fam (pair_type 0)) ((App (Const (after 7)) (Var 5))
    ∷ (applied (Const (after 6)) ((Const (after 7)) ∷ (Var 5) ∷ [])) ∷ []))) ∷ (Lam (applied (Fam (pair_type 0)) ((App (Const (after 7)) (Var 4)) ∷
    (applied (Const (after 6)) ((Const (after 7)) ∷ (Var 4) ∷ [])) ∷ [])) (Lam (Fam (unit_type 0)) (Var 1))) ∷ (Var 2) ∷ [])) ∷ (Var 1) ∷ [])) ∷
    (Var 5) ∷ (Var 0) ∷ [])))) ∷ (Var 3) ∷ (reflexivity 0 Nat (Var 3)) ∷ [])))))) ∷ draft (codes "lv!step") (after 6) (codes
    "Nat!below.0" ∷ codes "lv!motive" ∷ codes "Nat!case.0" ∷ codes "lv!w1" ∷ []) (Pi (Nat) (Pi (applied (Const (after 6)) ((Const
    (after 7)) ∷ (Var 0) ∷ [])) (Pi (Nat) (Nat)))) (Lam (Nat) (Lam (applied (Const (after 6)) ((Const (after 7)) ∷ (Var 0) ∷ [])) (Lam (Nat)
    (applied (Const (after 8)) ((Lam (Nat) (Pi (equation 0 Nat (Var 0) (Var 3)) (Nat))) ∷ (Lam (equation 0 Nat (Con (after 0) 0) (Var
    2)) (applied (Elim 1 0) (Nat ∷ (Con (after 0) 0) ∷ (Lam (Nat) (Lam (equation 0 Nat (Con (after 0) 0) (Var 0)) (Pi (applied (Const
    (after 6)) ((Const (after 7)) ∷ (Var 1) ∷ [])) (Nat)))) ∷ (Lam (applied (Const (after 6)) ((Const (after 7)) ∷ (Con (after 0) 0) ∷ [])) (Var 2)) ∷ (Var
    3) ∷ (Var 0) ∷ (Var 2) ∷ []))) ∷ (Lam (Nat) (Lam (equation 0 Nat (suc_term (Var 0)) (Var 3)) (applied (Elim 1 0) (Nat
    ∷ (suc_term (Var 1)) ∷ (Lam (Nat) (Lam (equation 0 Nat (suc_term (Var 2)) (Var 0)) (Pi (applied (Const (after 6)) ((Const (after 7))
    ∷ (Var 1) ∷ [])) (Nat)))) ∷ (Lam (applied (Const (after 6)) ((Const (after 7)) ∷ (suc_term (Var 1)) ∷ [])) (applied (Const (after 9)) ((Var
    3) ∷ (Var 2) ∷ (Fam (after 2)) ∷ (Var 0) ∷ []))) ∷ (Var 4) ∷ (Var 0) ∷ (Var 3) ∷ [])))) ∷ (Var 2) ∷ (reflexivity 0 Nat (Var
    2)) ∷ []))))) ∷ draft (codes "lv") (after 6) (codes "Nat!rec.0" ∷ codes "lv!motive" ∷ codes "lv!step" ∷ []) (Pi (Nat) (Pi
    (Nat) (Nat))) (Lam (Nat) (Lam (Nat) (applied (Const (after 6)) ((Const (after 7)) ∷ (Const (after 8)) ∷ (Var 1) ∷ (Var 0) ∷ [])))) ∷ []))
unfolding native.Mathlib.Decide.ℕ_discrete
row_lv = refl
