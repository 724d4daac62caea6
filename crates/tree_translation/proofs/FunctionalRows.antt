-- Entries of a recursive function along a functional argument, as another implementation prints them.
use native.Mathlib.Decide.{ℕ_discrete}
use Rattle.std.proofs.Common.{◌≡◌, false, Some, Ok, [], ◌∷◌, refl, codes}
use Rattle.theory.specs.Terms.Term.{Var, Sort, Pi, Lam, App, Con, Fam, Elim, Const}
use Rattle.theory.specs.Telescopes.{applied}
use Rattle.theory.specs.Signatures.{equation, reflexivity}
use Rattle.theory.specs.Prelude.{unit_type, pair_type}
use Rattle.theory.proofs.AfterPrelude.{after}
use Rattle.core_terms.specs.Clauses.{Is, Side}
use Rattle.core_terms.specs.Patterns as pattern
use Rattle.core_terms.specs.Patterns.{vector}
use Rattle.tree_translation.specs.Plans.{Plan}
use Rattle.tree_translation.specs.Entries.{translate}
use Rattle.tree_translation.proofs.Samples.{sample, Nat, suc_term, own, draft, plan_of}

abbrev plan_depth : Plan
plan_depth =
    plan_of (sample false) (after 6) (codes "depth") 1 (Sort 0 ∷ Pi (Var 0) (Sort 0) ∷ Pi (Var 1) (App (Var 1) (Var 0)) ∷ App
    (App (Fam (after 4)) (Var 2)) (Var 1) ∷ []) (Nat) (Some 3) (Is (vector (pattern.Bind ∷ pattern.Bind ∷ pattern.Bind ∷
    pattern.Con (after 4) 0 (vector (pattern.Bind ∷ pattern.Bind ∷ [])) ∷ [])) 5 (Side (Sort 0)) ∷ []) (suc_term (App (App (App
    (App (own) (Var 4)) (Var 3)) (Var 2)) (App (Var 0) (App (Var 2) (Var 1)))) ∷ [])

row_depth : translate (sample false) plan_depth ≡ (Ok (draft (codes "depth!motive") (after 6) [] (Pi (Sort 0) (Pi (Pi (Var
    0) (Sort 0)) (Pi (applied (Fam (after 4)) ((Var 1) ∷ (Var 0) ∷ [])) (Sort 1)))) (Lam (Sort 0) (Lam (Pi (Var 0) (Sort 0)) (Lam
    (applied (Fam (after 4)) ((Var 1) ∷ (Var 0) ∷ [])) (Pi (Pi (Var 2) (App (Var 2) (Var 0))) (Nat))))) ∷ draft (codes
    "depth!step") (after 6) (codes "W!below.1" ∷ codes "depth!motive" ∷ codes "W!case.1" ∷ []) (Pi (Sort 0) (Pi (Pi (Var 0) (Sort
    0)) (Pi (applied (Fam (after 4)) ((Var 1) ∷ (Var 0) ∷ [])) (Pi (applied (Const (after 6)) ((Var 2) ∷ (Var 1) ∷ (applied (Const (after 7))
    ((Var 2) ∷ (Var 1) ∷ [])) ∷ (Var 0) ∷ [])) (Pi (Pi (Var 3) (App (Var 3) (Var 0))) (Nat)))))) (Lam (Sort 0) (Lam (Pi
    (Var 0) (Sort 0)) (Lam (applied (Fam (after 4)) ((Var 1) ∷ (Var 0) ∷ [])) (Lam (applied (Const (after 6)) ((Var 2) ∷ (Var 1) ∷
    (applied (Const (after 7)) ((Var 2) ∷ (Var 1) ∷ [])) ∷ (Var 0) ∷ [])) (Lam (Pi (Var 3) (App (Var 3) (Var 0))) (applied (Const
    (after 8)) ((Var 4) ∷ (Var 3) ∷ (Lam (applied (Fam (after 4)) ((Var 4) ∷ (Var 3) ∷ [])) (Pi (equation 0 (applied (Fam (after 4)) ((Var 5) ∷
    (Var 4) ∷ [])) (Var 0) (Var 3)) (Nat))) ∷ (Lam (Var 4) (Lam (Pi (App (Var 4) (Var 0)) (applied (Fam (after 4)) ((Var 6) ∷
    (Var 5) ∷ []))) (Lam (equation 0 (applied (Fam (after 4)) ((Var 6) ∷ (Var 5) ∷ [])) (applied (Con (after 4) 0) ((Var 6) ∷ (Var 5) ∷
    (Var 1) ∷ (Var 0) ∷ [])) (Var 4)) (applied (Elim 1 1) ((applied (Fam (after 4)) ((Var 7) ∷ (Var 6) ∷ [])) ∷ (applied (Con (after 4)
    0) ((Var 7) ∷ (Var 6) ∷ (Var 2) ∷ (Var 1) ∷ [])) ∷ (Lam (applied (Fam (after 4)) ((Var 7) ∷ (Var 6) ∷ [])) (Lam (equation 0
    (applied (Fam (after 4)) ((Var 8) ∷ (Var 7) ∷ [])) (applied (Con (after 4) 0) ((Var 8) ∷ (Var 7) ∷ (Var 3) ∷ (Var 2) ∷ [])) (Var 0))
    (Pi (applied (Const (after 6)) ((Var 9) ∷ (Var 8) ∷ (applied (Const (after 7)) ((Var 9) ∷ (Var 8) ∷ [])) ∷ (Var 1) ∷ [])) (Nat)))) ∷
    (Lam (applied (Const (after 6)) ((Var 7) ∷ (Var 6) ∷ (applied (Const (after 7)) ((Var 7) ∷ (Var 6) ∷ [])) ∷ (applied (Con (after 4) 0)
    ((Var 7) ∷ (Var 6) ∷ (Var 2) ∷ (Var 1) ∷ [])) ∷ [])) (suc_term (applied (Elim (pair_type 1) 1) ((applied (Const (after 7)) ((Var 8) ∷
    (Var 7) ∷ (App (Var 2) (App (Var 4) (Var 3))) ∷ [])) ∷ (applied (Const (after 6)) ((Var 8) ∷ (Var 7) ∷ (applied (Const (after 7))
    ((Var 8) ∷ (Var 7) ∷ [])) ∷ (App (Var 2) (App (Var 4) (Var 3))) ∷ [])) ∷ (Lam (applied (Fam (pair_type 1)) ((applied (Const (after 7))
    ((Var 8) ∷ (Var 7) ∷ (App (Var 2) (App (Var 4) (Var 3))) ∷ [])) ∷ (applied (Const (after 6)) ((Var 8) ∷ (Var 7) ∷ (applied
    (Const (after 7)) ((Var 8) ∷ (Var 7) ∷ [])) ∷ (App (Var 2) (App (Var 4) (Var 3))) ∷ [])) ∷ [])) (applied (Const (after 7)) ((Var 9)
    ∷ (Var 8) ∷ (App (Var 3) (App (Var 5) (Var 4))) ∷ []))) ∷ (Lam (applied (Const (after 7)) ((Var 8) ∷ (Var 7) ∷ (App (Var 2)
    (App (Var 4) (Var 3))) ∷ [])) (Lam (applied (Const (after 6)) ((Var 9) ∷ (Var 8) ∷ (applied (Const (after 7)) ((Var 9) ∷ (Var 8) ∷
    [])) ∷ (App (Var 3) (App (Var 5) (Var 4))) ∷ [])) (Var 1))) ∷ (applied (Elim (pair_type 1) 1) ((Pi (App (Var 7) (Var 3)) (applied
    (Fam (pair_type 1)) ((applied (Const (after 7)) ((Var 9) ∷ (Var 8) ∷ (App (Var 3) (Var 0)) ∷ [])) ∷ (applied (Const (after 6)) ((Var 9) ∷ (Var
    8) ∷ (applied (Const (after 7)) ((Var 9) ∷ (Var 8) ∷ [])) ∷ (App (Var 3) (Var 0)) ∷ [])) ∷ []))) ∷ (Fam (unit_type 1)) ∷ (Lam (applied
    (Fam (pair_type 1)) ((Pi (App (Var 7) (Var 3)) (applied (Fam (pair_type 1)) ((applied (Const (after 7)) ((Var 9) ∷ (Var 8) ∷ (App (Var 3) (Var 0))
    ∷ [])) ∷ (applied (Const (after 6)) ((Var 9) ∷ (Var 8) ∷ (applied (Const (after 7)) ((Var 9) ∷ (Var 8) ∷ [])) ∷ (App (Var 3) (Var
    0)) ∷ [])) ∷ []))) ∷ (Fam (unit_type 1)) ∷ [])) (Pi (App (Var 8) (Var 4)) (applied (Fam (pair_type 1)) ((applied (Const (after 7)) ((Var 10) ∷ (Var
    9) ∷ (App (Var 4) (Var 0)) ∷ [])) ∷ (applied (Const (after 6)) ((Var 10) ∷ (Var 9) ∷ (applied (Const (after 7)) ((Var 10) ∷ (Var 9)
    ∷ [])) ∷ (App (Var 4) (Var 0)) ∷ [])) ∷ [])))) ∷ (Lam (Pi (App (Var 7) (Var 3)) (applied (Fam (pair_type 1)) ((applied (Const (after 7))
    ((Var 9) ∷ (Var 8) ∷ (App (Var 3) (Var 0)) ∷ [])) ∷ (applied (Const (after 6)) ((Var 9) ∷ (Var 8) ∷ (applied (Const (after 7)) ((Var
    9) ∷ (Var 8) ∷ [])) ∷ (App (Var 3) (Var 0)) ∷ [])) ∷ []))) (Lam (Fam (unit_type 1)) (Var 1))) ∷ (Var 0) ∷ (App (Var 4) (Var 3)) ∷
    [])) ∷ (Var 4) ∷ [])))) ∷ (Var 5) ∷ (Var 0) ∷ (Var 4) ∷ []))))) ∷ (Var 2) ∷ (reflexivity 0 (applied (Fam (after 4)) ((Var 4)
    ∷ (Var 3) ∷ [])) (Var 2)) ∷ []))))))) ∷ draft (codes "depth") (after 6) (codes "W!rec.1" ∷ codes "depth!motive" ∷ codes
    "depth!step" ∷ []) (Pi (Sort 0) (Pi (Pi (Var 0) (Sort 0)) (Pi (Pi (Var 1) (App (Var 1) (Var 0))) (Pi (applied (Fam (after 4))
    ((Var 2) ∷ (Var 1) ∷ [])) (Nat))))) (Lam (Sort 0) (Lam (Pi (Var 0) (Sort 0)) (Lam (Pi (Var 1) (App (Var 1) (Var 0)))
    (Lam (applied (Fam (after 4)) ((Var 2) ∷ (Var 1) ∷ [])) (applied (Const (after 6)) ((Var 3) ∷ (Var 2) ∷ (applied (Const (after 7)) ((Var 3)
    ∷ (Var 2) ∷ [])) ∷ (applied (Const (after 8)) ((Var 3) ∷ (Var 2) ∷ [])) ∷ (Var 0) ∷ (Var 1) ∷ [])))))) ∷ []))
unfolding native.Mathlib.Decide.ℕ_discrete
row_depth = refl
