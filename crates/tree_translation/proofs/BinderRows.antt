-- Entries of recursive functions that call themselves below binders, with more arguments than patterns, and in arguments, as another implementation prints them.
use native.Mathlib.Decide.{ℕ_discrete}
use Rattle.std.proofs.Common.{◌≡◌, false, Some, Ok, [], ◌∷◌, refl, codes}
use Rattle.theory.specs.Terms.Term.{Var, Sort, Pi, Lam, App, Let, Con, Fam, Elim, Const}
use Rattle.theory.specs.Telescopes.{applied}
use Rattle.theory.specs.Signatures.{equation, reflexivity}
use Rattle.theory.specs.Prelude.{unit_type, pair_type}
use Rattle.theory.proofs.AfterPrelude.{after}
use Rattle.core_terms.specs.Clauses.{Is, Side}
use Rattle.core_terms.specs.Patterns as pattern
use Rattle.core_terms.specs.Patterns.{vector}
use Rattle.tree_translation.specs.Plans.{Plan}
use Rattle.tree_translation.specs.Entries.{translate}
use Rattle.tree_translation.proofs.Samples.{sample, Nat, suc_term, own, draft, plan_of}

abbrev plan_hi : Plan
plan_hi =
    plan_of (sample false) (after 6) (codes "hi") 0 (Nat ∷ []) (Pi Nat Nat) (Some 0) (Is (vector (pattern.Con (after 0) 0 pattern.nil ∷
    [])) 0 (Side (Sort 0)) ∷ Is (vector (pattern.Con (after 0) 1 (vector (pattern.Bind ∷ [])) ∷ [])) 1 (Side (Sort 0)) ∷ []) (Lam
    Nat (Var 0) ∷ Lam Nat (Let Nat (App (App (own) (Var 1)) (Var 0)) (suc_term (Var 0))) ∷ [])

row_hi : translate (sample false) plan_hi ≡ (Ok (draft (codes "hi!motive") (after 6) [] (Pi (Nat) (Sort 0)) (Lam (Nat) (Pi
    (Nat) (Nat))) ∷ draft (codes "hi!step") (after 6) (codes "Nat!below.0" ∷ codes "hi!motive" ∷ codes "Nat!case.0" ∷ []) (Pi
    (Nat) (Pi (applied (Const (after 6)) ((Const (after 7)) ∷ (Var 0) ∷ [])) (Pi (Nat) (Nat)))) (Lam (Nat) (Lam (applied (Const (after 6))
    ((Const (after 7)) ∷ (Var 0) ∷ [])) (applied (Const (after 8)) ((Lam (Nat) (Pi (equation 0 Nat (Var 0) (Var 2)) (Pi (Nat) (Nat)))) ∷
    (Lam (equation 0 Nat (Con (after 0) 0) (Var 1)) (applied (Elim 1 0) (Nat ∷ (Con (after 0) 0) ∷ (Lam (Nat) (Lam (equation 0 Nat (Con
    (after 0) 0) (Var 0)) (Pi (applied (Const (after 6)) ((Const (after 7)) ∷ (Var 1) ∷ [])) (Pi (Nat) (Nat))))) ∷ (Lam (applied (Const (after 6))
    ((Const (after 7)) ∷ (Con (after 0) 0) ∷ [])) (Lam (Nat) (Var 0))) ∷ (Var 2) ∷ (Var 0) ∷ (Var 1) ∷ []))) ∷ (Lam (Nat) (Lam (equation
    0 Nat (suc_term (Var 0)) (Var 2)) (applied (Elim 1 0) (Nat ∷ (suc_term (Var 1)) ∷ (Lam (Nat) (Lam (equation 0 Nat
    (suc_term (Var 2)) (Var 0)) (Pi (applied (Const (after 6)) ((Const (after 7)) ∷ (Var 1) ∷ [])) (Pi (Nat) (Nat))))) ∷ (Lam (applied
    (Const (after 6)) ((Const (after 7)) ∷ (suc_term (Var 1)) ∷ [])) (Lam (Nat) (Let (Nat) (applied (Elim (pair_type 0) 0) ((App (Const (after 7)) (Var
    3)) ∷ (applied (Const (after 6)) ((Const (after 7)) ∷ (Var 3) ∷ [])) ∷ (Lam (applied (Fam (pair_type 0)) ((App (Const (after 7)) (Var 3)) ∷ (applied
    (Const (after 6)) ((Const (after 7)) ∷ (Var 3) ∷ [])) ∷ [])) (App (Const (after 7)) (Var 4))) ∷ (Lam (App (Const (after 7)) (Var 3)) (Lam (applied
    (Const (after 6)) ((Const (after 7)) ∷ (Var 4) ∷ [])) (Var 1))) ∷ (applied (Elim (pair_type 0) 0) ((applied (Fam (pair_type 0)) ((App (Const (after 7)) (Var 3))
    ∷ (applied (Const (after 6)) ((Const (after 7)) ∷ (Var 3) ∷ [])) ∷ [])) ∷ (Fam (unit_type 0)) ∷ (Lam (applied (Fam (pair_type 0)) ((applied (Fam (pair_type 0)) ((App
    (Const (after 7)) (Var 3)) ∷ (applied (Const (after 6)) ((Const (after 7)) ∷ (Var 3) ∷ [])) ∷ [])) ∷ (Fam (unit_type 0)) ∷ [])) (applied (Fam (pair_type 0))
    ((App (Const (after 7)) (Var 4)) ∷ (applied (Const (after 6)) ((Const (after 7)) ∷ (Var 4) ∷ [])) ∷ []))) ∷ (Lam (applied (Fam (pair_type 0)) ((App
    (Const (after 7)) (Var 3)) ∷ (applied (Const (after 6)) ((Const (after 7)) ∷ (Var 3) ∷ [])) ∷ [])) (Lam (Fam (unit_type 0)) (Var 1))) ∷ (Var 1) ∷ []))
    ∷ (Var 0) ∷ [])) (suc_term (Var 0))))) ∷ (Var 3) ∷ (Var 0) ∷ (Var 2) ∷ [])))) ∷ (Var 1) ∷ (reflexivity 0 Nat (Var 1))
    ∷ [])))) ∷ draft (codes "hi") (after 6) (codes "Nat!rec.0" ∷ codes "hi!motive" ∷ codes "hi!step" ∷ []) (Pi (Nat) (Pi (Nat)
    (Nat))) (Lam (Nat) (applied (Const (after 6)) ((Const (after 7)) ∷ (Const (after 8)) ∷ (Var 0) ∷ []))) ∷ []))
unfolding native.Mathlib.Decide.ℕ_discrete
row_hi = refl

abbrev plan_ne : Plan
plan_ne =
    plan_of (sample false) (after 6) (codes "ne") 0 (Nat ∷ Nat ∷ []) (Nat) (Some 0) (Is (vector (pattern.Con (after 0) 0 pattern.nil ∷
    pattern.Bind ∷ [])) 1 (Side (Sort 0)) ∷ Is (vector (pattern.Con (after 0) 1 (vector (pattern.Bind ∷ [])) ∷ pattern.Bind ∷
    [])) 2 (Side (Sort 0)) ∷ []) (Var 0 ∷ App (App (own) (Var 1)) (App (App (own) (Var 1)) (Var 0)) ∷ [])

row_ne : translate (sample false) plan_ne ≡ (Ok (draft (codes "ne!motive") (after 6) [] (Pi (Nat) (Sort 0)) (Lam (Nat) (Pi
    (Nat) (Nat))) ∷ draft (codes "ne!step") (after 6) (codes "Nat!below.0" ∷ codes "ne!motive" ∷ codes "Nat!case.0" ∷ []) (Pi
    (Nat) (Pi (applied (Const (after 6)) ((Const (after 7)) ∷ (Var 0) ∷ [])) (Pi (Nat) (Nat)))) (Lam (Nat) (Lam (applied (Const (after 6))
    ((Const (after 7)) ∷ (Var 0) ∷ [])) (Lam (Nat) (applied (Const (after 8)) ((Lam (Nat) (Pi (equation 0 Nat (Var 0) (Var 3)) (Nat))) ∷
    (Lam (equation 0 Nat (Con (after 0) 0) (Var 2)) (applied (Elim 1 0) (Nat ∷ (Con (after 0) 0) ∷ (Lam (Nat) (Lam (equation 0 Nat (Con
    (after 0) 0) (Var 0)) (Pi (applied (Const (after 6)) ((Const (after 7)) ∷ (Var 1) ∷ [])) (Nat)))) ∷ (Lam (applied (Const (after 6)) ((Const (after 7)) ∷
    (Con (after 0) 0) ∷ [])) (Var 2)) ∷ (Var 3) ∷ (Var 0) ∷ (Var 2) ∷ []))) ∷ (Lam (Nat) (Lam (equation 0 Nat (suc_term (Var 0))
    (Var 3)) (applied (Elim 1 0) (Nat ∷ (suc_term (Var 1)) ∷ (Lam (Nat) (Lam (equation 0 Nat (suc_term (Var 2)) (Var 0))
    (Pi (applied (Const (after 6)) ((Const (after 7)) ∷ (Var 1) ∷ [])) (Nat)))) ∷ (Lam (applied (Const (after 6)) ((Const (after 7)) ∷ (suc_term (Var
    1)) ∷ [])) (applied (Elim (pair_type 0) 0) ((App (Const (after 7)) (Var 2)) ∷ (applied (Const (after 6)) ((Const (after 7)) ∷ (Var 2) ∷ [])) ∷ (Lam
    (applied (Fam (pair_type 0)) ((App (Const (after 7)) (Var 2)) ∷ (applied (Const (after 6)) ((Const (after 7)) ∷ (Var 2) ∷ [])) ∷ [])) (App (Const (after 7))
    (Var 3))) ∷ (Lam (App (Const (after 7)) (Var 2)) (Lam (applied (Const (after 6)) ((Const (after 7)) ∷ (Var 3) ∷ [])) (Var 1))) ∷ (applied
    (Elim (pair_type 0) 0) ((applied (Fam (pair_type 0)) ((App (Const (after 7)) (Var 2)) ∷ (applied (Const (after 6)) ((Const (after 7)) ∷ (Var 2) ∷ [])) ∷ [])) ∷
    (Fam (unit_type 0)) ∷ (Lam (applied (Fam (pair_type 0)) ((applied (Fam (pair_type 0)) ((App (Const (after 7)) (Var 2)) ∷ (applied (Const (after 6)) ((Const (after 7)) ∷
    (Var 2) ∷ [])) ∷ [])) ∷ (Fam (unit_type 0)) ∷ [])) (applied (Fam (pair_type 0)) ((App (Const (after 7)) (Var 3)) ∷ (applied (Const (after 6)) ((Const (after 7))
    ∷ (Var 3) ∷ [])) ∷ []))) ∷ (Lam (applied (Fam (pair_type 0)) ((App (Const (after 7)) (Var 2)) ∷ (applied (Const (after 6)) ((Const (after 7)) ∷ (Var
    2) ∷ [])) ∷ [])) (Lam (Fam (unit_type 0)) (Var 1))) ∷ (Var 0) ∷ [])) ∷ (applied (Elim (pair_type 0) 0) ((App (Const (after 7)) (Var 2)) ∷ (applied
    (Const (after 6)) ((Const (after 7)) ∷ (Var 2) ∷ [])) ∷ (Lam (applied (Fam (pair_type 0)) ((App (Const (after 7)) (Var 2)) ∷ (applied (Const (after 6))
    ((Const (after 7)) ∷ (Var 2) ∷ [])) ∷ [])) (App (Const (after 7)) (Var 3))) ∷ (Lam (App (Const (after 7)) (Var 2)) (Lam (applied (Const (after 6))
    ((Const (after 7)) ∷ (Var 3) ∷ [])) (Var 1))) ∷ (applied (Elim (pair_type 0) 0) ((applied (Fam (pair_type 0)) ((App (Const (after 7)) (Var 2)) ∷ (applied
    (Const (after 6)) ((Const (after 7)) ∷ (Var 2) ∷ [])) ∷ [])) ∷ (Fam (unit_type 0)) ∷ (Lam (applied (Fam (pair_type 0)) ((applied (Fam (pair_type 0)) ((App (Const (after 7))
    (Var 2)) ∷ (applied (Const (after 6)) ((Const (after 7)) ∷ (Var 2) ∷ [])) ∷ [])) ∷ (Fam (unit_type 0)) ∷ [])) (applied (Fam (pair_type 0)) ((App (Const
    (after 7)) (Var 3)) ∷ (applied (Const (after 6)) ((Const (after 7)) ∷ (Var 3) ∷ [])) ∷ []))) ∷ (Lam (applied (Fam (pair_type 0)) ((App (Const (after 7)) (Var
    2)) ∷ (applied (Const (after 6)) ((Const (after 7)) ∷ (Var 2) ∷ [])) ∷ [])) (Lam (Fam (unit_type 0)) (Var 1))) ∷ (Var 0) ∷ [])) ∷ (Var 3) ∷
    [])) ∷ []))) ∷ (Var 4) ∷ (Var 0) ∷ (Var 3) ∷ [])))) ∷ (Var 2) ∷ (reflexivity 0 Nat (Var 2)) ∷ []))))) ∷ draft (codes
    "ne") (after 6) (codes "Nat!rec.0" ∷ codes "ne!motive" ∷ codes "ne!step" ∷ []) (Pi (Nat) (Pi (Nat) (Nat))) (Lam (Nat) (Lam
    (Nat) (applied (Const (after 6)) ((Const (after 7)) ∷ (Const (after 8)) ∷ (Var 1) ∷ (Var 0) ∷ [])))) ∷ []))
unfolding native.Mathlib.Decide.ℕ_discrete
row_ne = refl
