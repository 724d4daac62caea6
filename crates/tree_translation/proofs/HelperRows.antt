-- Entries of functions with a helper, as another implementation prints them: with recursion, without, and over a view.
use native.Mathlib.Decide.{ℕ_discrete}
use Rattle.std.proofs.Common.{◌≡◌, false, Some, None, Ok, [], ◌∷◌, refl, codes}
use Rattle.theory.specs.Terms.Term.{Var, Sort, Pi, Lam, App, Con, Fam, Elim, Const}
use Rattle.theory.specs.Telescopes.{applied}
use Rattle.theory.specs.Signatures.{equation, reflexivity, FamilyOf}
use Rattle.theory.specs.Prelude.{unit_type, pair_type}
use Rattle.theory.proofs.AfterPrelude.{after}
use Rattle.core_terms.specs.Clauses.{Is, Side}
use Rattle.core_terms.specs.Patterns as pattern
use Rattle.core_terms.specs.Patterns.{vector}
use Rattle.tree_translation.specs.Plans.{Plan}
use Rattle.tree_translation.specs.Entries.{translate}
use Rattle.tree_translation.proofs.Samples.{sample, behind, constant, parity_family, Nat, suc_term, own, draft, plan_with, helper_part}

abbrev plan_filter : Plan
plan_filter =
    plan_with (sample false) (after 6) (codes "filter") 1 (Sort 0 ∷ Pi (Var 0) (Fam (after 2)) ∷ App (Fam (after 5)) (Var 1) ∷ []) (App (Fam
    (after 5)) (Var 2)) (Some 2) (Is (vector (pattern.Bind ∷ pattern.Bind ∷ pattern.Con (after 5) 0 pattern.nil ∷ [])) 2 (Side (Sort 0))
    ∷ Is (vector (pattern.Bind ∷ pattern.Bind ∷ pattern.Con (after 5) 1 (vector (pattern.Bind ∷ pattern.Bind ∷ [])) ∷ [])) 4
    (Side (Sort 0)) ∷ []) (App (Con (after 5) 0) (Var 1) ∷ applied (Const (after 7)) (Var 3 ∷ Var 2 ∷ Var 1 ∷ Var 0 ∷ App (Var 2) (Var
    1) ∷ []) ∷ []) ((helper_part (sample false) 1 (Sort 0 ∷ Pi (Var 0) (Fam (after 2)) ∷ Var 1 ∷ App (Fam (after 5)) (Var 2) ∷ Fam (after 2) ∷
    []) (Var 4 ∷ Var 3 ∷ App (App (App (Con (after 5) 1) (Var 4)) (Var 2)) (Var 1) ∷ Var 0 ∷ []) (App (Fam (after 5)) (Var 4)) (Is
    (vector (pattern.Bind ∷ pattern.Bind ∷ pattern.Con (after 5) 1 (vector (pattern.Bind ∷ pattern.Bind ∷ [])) ∷ pattern.Con (after 2) 0
    pattern.nil ∷ [])) 4 (Side (Sort 0)) ∷ Is (vector (pattern.Bind ∷ pattern.Bind ∷ pattern.Con (after 5) 1 (vector
    (pattern.Bind ∷ pattern.Bind ∷ [])) ∷ pattern.Con (after 2) 1 pattern.nil ∷ [])) 4 (Side (Sort 0)) ∷ []) (App (App (App (Con
    (after 5) 1) (Var 3)) (Var 1)) (App (App (App (own) (Var 3)) (Var 2)) (Var 0)) ∷ App (App (App (own) (Var 3)) (Var 2)) (Var
    0) ∷ [])) ∷ [])

row_filter : translate (sample false) plan_filter ≡ (Ok (draft (codes "filter!motive") (after 6) [] (Pi (Sort 0) (Pi (App
    (Fam (after 5)) (Var 0)) (Sort 1))) (Lam (Sort 0) (Lam (App (Fam (after 5)) (Var 0)) (Pi (Pi (Var 1) (Fam (after 2))) (App (Fam (after 5)) (Var
    2))))) ∷ draft (codes "filter!w1") (after 6) (codes "List!below.1" ∷ codes "filter!motive" ∷ codes "Bool!case.1" ∷ []) (Pi
    (Sort 0) (Pi (Pi (Var 0) (Fam (after 2))) (Pi (Var 1) (Pi (App (Fam (after 5)) (Var 2)) (Pi (Fam (after 2)) (Pi (applied (Const (after 6)) ((Var
    4) ∷ (App (Const (after 7)) (Var 4)) ∷ (applied (Con (after 5) 1) ((Var 4) ∷ (Var 2) ∷ (Var 1) ∷ [])) ∷ [])) (App (Fam (after 5)) (Var
    5)))))))) (Lam (Sort 0) (Lam (Pi (Var 0) (Fam (after 2))) (Lam (Var 1) (Lam (App (Fam (after 5)) (Var 2)) (Lam (Fam (after 2)) (Lam
    (applied (Const (after 6)) ((Var 4) ∷ (App (Const (after 7)) (Var 4)) ∷ (applied (Con (after 5) 1) ((Var 4) ∷ (Var 2) ∷ (Var 1) ∷ [])) ∷
    [])) (applied (Const (after 8)) ((Lam (Fam (after 2)) (Pi (equation 0 (Fam (after 2)) (Var 0) (Var 2)) (App (Fam (after 5)) (Var 7)))) ∷ (Lam
    (equation 0 (Fam (after 2)) (Con (after 2) 0) (Var 1)) (applied (Elim 1 1) ((Fam (after 2)) ∷ (Con (after 2) 0) ∷ (Lam (Fam (after 2)) (Lam (equation 0
    (Fam (after 2)) (Con (after 2) 0) (Var 0)) (App (Fam (after 5)) (Var 8)))) ∷ (applied (Con (after 5) 1) ((Var 6) ∷ (Var 4) ∷ (applied (Elim (pair_type 1) 1)
    ((applied (Const (after 7)) ((Var 6) ∷ (Var 3) ∷ [])) ∷ (applied (Const (after 6)) ((Var 6) ∷ (App (Const (after 7)) (Var 6)) ∷ (Var 3) ∷
    [])) ∷ (Lam (applied (Fam (pair_type 1)) ((applied (Const (after 7)) ((Var 6) ∷ (Var 3) ∷ [])) ∷ (applied (Const (after 6)) ((Var 6) ∷ (App
    (Const (after 7)) (Var 6)) ∷ (Var 3) ∷ [])) ∷ [])) (applied (Const (after 7)) ((Var 7) ∷ (Var 4) ∷ []))) ∷ (Lam (applied (Const (after 7))
    ((Var 6) ∷ (Var 3) ∷ [])) (Lam (applied (Const (after 6)) ((Var 7) ∷ (App (Const (after 7)) (Var 7)) ∷ (Var 4) ∷ [])) (Var 1))) ∷
    (applied (Elim (pair_type 1) 1) ((applied (Fam (pair_type 1)) ((applied (Const (after 7)) ((Var 6) ∷ (Var 3) ∷ [])) ∷ (applied (Const (after 6)) ((Var 6)
    ∷ (App (Const (after 7)) (Var 6)) ∷ (Var 3) ∷ [])) ∷ [])) ∷ (Fam (unit_type 1)) ∷ (Lam (applied (Fam (pair_type 1)) ((applied (Fam (pair_type 1)) ((applied
    (Const (after 7)) ((Var 6) ∷ (Var 3) ∷ [])) ∷ (applied (Const (after 6)) ((Var 6) ∷ (App (Const (after 7)) (Var 6)) ∷ (Var 3) ∷ [])) ∷ []))
    ∷ (Fam (unit_type 1)) ∷ [])) (applied (Fam (pair_type 1)) ((applied (Const (after 7)) ((Var 7) ∷ (Var 4) ∷ [])) ∷ (applied (Const (after 6)) ((Var 7) ∷
    (App (Const (after 7)) (Var 7)) ∷ (Var 4) ∷ [])) ∷ []))) ∷ (Lam (applied (Fam (pair_type 1)) ((applied (Const (after 7)) ((Var 6) ∷ (Var 3) ∷
    [])) ∷ (applied (Const (after 6)) ((Var 6) ∷ (App (Const (after 7)) (Var 6)) ∷ (Var 3) ∷ [])) ∷ [])) (Lam (Fam (unit_type 1)) (Var 1))) ∷ (Var
    1) ∷ [])) ∷ (Var 5) ∷ [])) ∷ [])) ∷ (Var 2) ∷ (Var 0) ∷ []))) ∷ (Lam (equation 0 (Fam (after 2)) (Con (after 2) 1) (Var 1)) (applied
    (Elim 1 1) ((Fam (after 2)) ∷ (Con (after 2) 1) ∷ (Lam (Fam (after 2)) (Lam (equation 0 (Fam (after 2)) (Con (after 2) 1) (Var 0)) (App (Fam (after 5)) (Var
    8)))) ∷ (applied (Elim (pair_type 1) 1) ((applied (Const (after 7)) ((Var 6) ∷ (Var 3) ∷ [])) ∷ (applied (Const (after 6)) ((Var 6) ∷ (App
    (Const (after 7)) (Var 6)) ∷ (Var 3) ∷ [])) ∷ (Lam (applied (Fam (pair_type 1)) ((applied (Const (after 7)) ((Var 6) ∷ (Var 3) ∷ [])) ∷
    (applied (Const (after 6)) ((Var 6) ∷ (App (Const (after 7)) (Var 6)) ∷ (Var 3) ∷ [])) ∷ [])) (applied (Const (after 7)) ((Var 7) ∷ (Var 4)
    ∷ []))) ∷ (Lam (applied (Const (after 7)) ((Var 6) ∷ (Var 3) ∷ [])) (Lam (applied (Const (after 6)) ((Var 7) ∷ (App (Const (after 7)) (Var
    7)) ∷ (Var 4) ∷ [])) (Var 1))) ∷ (applied (Elim (pair_type 1) 1) ((applied (Fam (pair_type 1)) ((applied (Const (after 7)) ((Var 6) ∷ (Var 3) ∷
    [])) ∷ (applied (Const (after 6)) ((Var 6) ∷ (App (Const (after 7)) (Var 6)) ∷ (Var 3) ∷ [])) ∷ [])) ∷ (Fam (unit_type 1)) ∷ (Lam (applied (Fam
    (pair_type 1)) ((applied (Fam (pair_type 1)) ((applied (Const (after 7)) ((Var 6) ∷ (Var 3) ∷ [])) ∷ (applied (Const (after 6)) ((Var 6) ∷ (App (Const (after 7))
    (Var 6)) ∷ (Var 3) ∷ [])) ∷ [])) ∷ (Fam (unit_type 1)) ∷ [])) (applied (Fam (pair_type 1)) ((applied (Const (after 7)) ((Var 7) ∷ (Var 4) ∷ [])) ∷
    (applied (Const (after 6)) ((Var 7) ∷ (App (Const (after 7)) (Var 7)) ∷ (Var 4) ∷ [])) ∷ []))) ∷ (Lam (applied (Fam (pair_type 1)) ((applied
    (Const (after 7)) ((Var 6) ∷ (Var 3) ∷ [])) ∷ (applied (Const (after 6)) ((Var 6) ∷ (App (Const (after 7)) (Var 6)) ∷ (Var 3) ∷ [])) ∷ []))
    (Lam (Fam (unit_type 1)) (Var 1))) ∷ (Var 1) ∷ [])) ∷ (Var 5) ∷ [])) ∷ (Var 2) ∷ (Var 0) ∷ []))) ∷ (Var 1) ∷ (reflexivity 0 (Fam
    (after 2)) (Var 1)) ∷ [])))))))) ∷ draft (codes "filter!step") (after 6) (codes "List!below.1" ∷ codes "filter!motive" ∷ codes
    "List!case.1" ∷ codes "filter!w1" ∷ []) (Pi (Sort 0) (Pi (App (Fam (after 5)) (Var 0)) (Pi (applied (Const (after 6)) ((Var 1) ∷
    (App (Const (after 7)) (Var 1)) ∷ (Var 0) ∷ [])) (Pi (Pi (Var 2) (Fam (after 2))) (App (Fam (after 5)) (Var 3)))))) (Lam (Sort 0) (Lam (App
    (Fam (after 5)) (Var 0)) (Lam (applied (Const (after 6)) ((Var 1) ∷ (App (Const (after 7)) (Var 1)) ∷ (Var 0) ∷ [])) (Lam (Pi (Var 2) (Fam
    (after 2))) (applied (Const (after 8)) ((Var 3) ∷ (Lam (App (Fam (after 5)) (Var 3)) (Pi (equation 0 (App (Fam (after 5)) (Var 4)) (Var 0) (Var
    3)) (App (Fam (after 5)) (Var 5)))) ∷ (Lam (equation 0 (App (Fam (after 5)) (Var 3)) (App (Con (after 5) 0) (Var 3)) (Var 2)) (applied
    (Elim 1 1) ((App (Fam (after 5)) (Var 4)) ∷ (App (Con (after 5) 0) (Var 4)) ∷ (Lam (App (Fam (after 5)) (Var 4)) (Lam (equation 0 (App (Fam
    (after 5)) (Var 5)) (App (Con (after 5) 0) (Var 5)) (Var 0)) (Pi (applied (Const (after 6)) ((Var 6) ∷ (App (Const (after 7)) (Var 6)) ∷ (Var 1) ∷
    [])) (App (Fam (after 5)) (Var 7))))) ∷ (Lam (applied (Const (after 6)) ((Var 4) ∷ (App (Const (after 7)) (Var 4)) ∷ (App (Con (after 5) 0) (Var
    4)) ∷ [])) (App (Con (after 5) 0) (Var 5))) ∷ (Var 3) ∷ (Var 0) ∷ (Var 2) ∷ []))) ∷ (Lam (Var 3) (Lam (App (Fam (after 5)) (Var 4))
    (Lam (equation 0 (App (Fam (after 5)) (Var 5)) (applied (Con (after 5) 1) ((Var 5) ∷ (Var 1) ∷ (Var 0) ∷ [])) (Var 4)) (applied
    (Elim 1 1) ((App (Fam (after 5)) (Var 6)) ∷ (applied (Con (after 5) 1) ((Var 6) ∷ (Var 2) ∷ (Var 1) ∷ [])) ∷ (Lam (App (Fam (after 5)) (Var
    6)) (Lam (equation 0 (App (Fam (after 5)) (Var 7)) (applied (Con (after 5) 1) ((Var 7) ∷ (Var 3) ∷ (Var 2) ∷ [])) (Var 0)) (Pi
    (applied (Const (after 6)) ((Var 8) ∷ (App (Const (after 7)) (Var 8)) ∷ (Var 1) ∷ [])) (App (Fam (after 5)) (Var 9))))) ∷ (Lam (applied
    (Const (after 6)) ((Var 6) ∷ (App (Const (after 7)) (Var 6)) ∷ (applied (Con (after 5) 1) ((Var 6) ∷ (Var 2) ∷ (Var 1) ∷ [])) ∷ []))
    (applied (Const (after 9)) ((Var 7) ∷ (Var 4) ∷ (Var 3) ∷ (Var 2) ∷ (App (Var 4) (Var 3)) ∷ (Var 0) ∷ []))) ∷ (Var 5) ∷ (Var
    0) ∷ (Var 4) ∷ []))))) ∷ (Var 2) ∷ (reflexivity 0 (App (Fam (after 5)) (Var 3)) (Var 2)) ∷ [])))))) ∷ draft (codes "filter")
    (after 6) (codes "List!rec.1" ∷ codes "filter!motive" ∷ codes "filter!step" ∷ []) (Pi (Sort 0) (Pi (Pi (Var 0) (Fam (after 2))) (Pi
    (App (Fam (after 5)) (Var 1)) (App (Fam (after 5)) (Var 2))))) (Lam (Sort 0) (Lam (Pi (Var 0) (Fam (after 2))) (Lam (App (Fam (after 5)) (Var 1))
    (applied (Const (after 6)) ((Var 2) ∷ (App (Const (after 7)) (Var 2)) ∷ (App (Const (after 8)) (Var 2)) ∷ (Var 0) ∷ (Var 1) ∷ []))))) ∷
    []))
unfolding native.Mathlib.Decide.ℕ_discrete
row_filter = refl

abbrev plan_parity : Plan
plan_parity =
    plan_with (behind (sample false) (constant (after 6) ∷ FamilyOf parity_family ∷ [])) (after 8) (codes "parity") 0 (Nat ∷ []) (App
    (Fam (after 7)) (Var 0)) (Some 0) (Is (vector (pattern.Con (after 0) 0 pattern.nil ∷ [])) 0 (Side (Sort 0)) ∷ Is (vector
    (pattern.Con (after 0) 1 (vector (pattern.Bind ∷ [])) ∷ [])) 1 (Side (Sort 0)) ∷ []) (App (Con (after 7) 0) (Con (after 0) 0) ∷ applied
    (Const (after 9)) (Var 0 ∷ App (Const (after 8)) (Var 0) ∷ []) ∷ []) ((helper_part (behind (sample false) (constant (after 6) ∷ FamilyOf
    parity_family ∷ [])) 0 (Nat ∷ App (Fam (after 7)) (Var 0) ∷ []) (suc_term (Var 1) ∷ Var 0 ∷ []) (App (Fam (after 7)) (suc_term (Var
    1))) (Is (vector (pattern.Con (after 0) 1 (vector (pattern.Dot (App (Const (after 6)) (Var 0)) ∷ [])) ∷ pattern.Con (after 7) 0 (vector
    (pattern.Bind ∷ [])) ∷ [])) 1 (Side (Sort 0)) ∷ Is (vector (pattern.Con (after 0) 1 (vector (pattern.Dot (suc_term (App
    (Const (after 6)) (Var 0))) ∷ [])) ∷ pattern.Con (after 7) 1 (vector (pattern.Bind ∷ [])) ∷ [])) 1 (Side (Sort 0)) ∷ []) (App (Con
    (after 7) 1) (Var 0) ∷ App (Con (after 7) 0) (suc_term (Var 0)) ∷ [])) ∷ [])

row_parity : translate (behind (sample false) (constant (after 6) ∷ FamilyOf parity_family ∷ [])) plan_parity ≡ (Ok (draft
    (codes "parity!motive") (after 8) [] (Pi (Nat) (Sort 0)) (Lam (Nat) (App (Fam (after 7)) (Var 0))) ∷ draft (codes "parity!w1") (after 8)
    (codes "Nat!below.0" ∷ codes "parity!motive" ∷ codes "Parity!case.0" ∷ []) (Pi (Nat) (Pi (App (Fam (after 7)) (Var 0)) (Pi
    (applied (Const (after 8)) ((Const (after 9)) ∷ (suc_term (Var 1)) ∷ [])) (App (Fam (after 7)) (suc_term (Var 2)))))) (Lam (Nat) (Lam (App
    (Fam (after 7)) (Var 0)) (Lam (applied (Const (after 8)) ((Const (after 9)) ∷ (suc_term (Var 1)) ∷ [])) (applied (Const (after 10)) ((Lam (Nat)
    (Lam (App (Fam (after 7)) (Var 0)) (Pi (equation 0 Nat (Var 1) (Var 4)) (Pi (equation 0 (App (Fam (after 7)) (Var 5)) (applied (Elim
    1 0) (Nat ∷ (Var 2) ∷ (Lam (Nat) (Lam (equation 0 Nat (Var 3) (Var 0)) (Pi (App (Fam (after 7)) (Var 4)) (App (Fam (after 7)) (Var
    2))))) ∷ (Lam (App (Fam (after 7)) (Var 2)) (Var 0)) ∷ (Var 5) ∷ (Var 0) ∷ (Var 1) ∷ [])) (Var 4)) (App (Fam (after 7)) (suc_term
    (Var 6))))))) ∷ (Lam (Nat) (Lam (equation 0 Nat (App (Const (after 6)) (Var 0)) (Var 3)) (Lam (equation 0 (App (Fam (after 7)) (Var
    4)) (applied (Elim 1 0) (Nat ∷ (App (Const (after 6)) (Var 1)) ∷ (Lam (Nat) (Lam (equation 0 Nat (App (Const (after 6)) (Var 2))
    (Var 0)) (Pi (App (Fam (after 7)) (App (Const (after 6)) (Var 3))) (App (Fam (after 7)) (Var 2))))) ∷ (Lam (App (Fam (after 7)) (App (Const (after 6))
    (Var 1))) (Var 0)) ∷ (Var 4) ∷ (Var 0) ∷ (App (Con (after 7) 0) (Var 1)) ∷ [])) (Var 3)) (applied (Elim 1 0) (Nat ∷ (App
    (Const (after 6)) (Var 2)) ∷ (Lam (Nat) (Lam (equation 0 Nat (App (Const (after 6)) (Var 3)) (Var 0)) (Pi (App (Fam (after 7)) (Var 1)) (Pi
    (applied (Const (after 8)) ((Const (after 9)) ∷ (suc_term (Var 2)) ∷ [])) (Pi (equation 0 (App (Fam (after 7)) (Var 3)) (applied (Elim 1 0)
    (Nat ∷ (App (Const (after 6)) (Var 6)) ∷ (Lam (Nat) (Lam (equation 0 Nat (App (Const (after 6)) (Var 7)) (Var 0)) (Pi (App (Fam (after 7))
    (App (Const (after 6)) (Var 8))) (App (Fam (after 7)) (Var 2))))) ∷ (Lam (App (Fam (after 7)) (App (Const (after 6)) (Var 6))) (Var 0)) ∷ (Var 3)
    ∷ (Var 2) ∷ (App (Con (after 7) 0) (Var 6)) ∷ [])) (Var 1)) (App (Fam (after 7)) (suc_term (Var 4)))))))) ∷ (Lam (App (Fam (after 7)) (App
    (Const (after 6)) (Var 2))) (Lam (applied (Const (after 8)) ((Const (after 9)) ∷ (suc_term (App (Const (after 6)) (Var 3))) ∷ [])) (Lam (equation
    0 (App (Fam (after 7)) (App (Const (after 6)) (Var 4))) (applied (Elim 1 0) (Nat ∷ (App (Const (after 6)) (Var 4)) ∷ (Lam (Nat) (Lam
    (equation 0 Nat (App (Const (after 6)) (Var 5)) (Var 0)) (Pi (App (Fam (after 7)) (App (Const (after 6)) (Var 6))) (App (Fam (after 7)) (Var
    2))))) ∷ (Lam (App (Fam (after 7)) (App (Const (after 6)) (Var 4))) (Var 0)) ∷ (App (Const (after 6)) (Var 4)) ∷ (reflexivity 0 Nat (App
    (Const (after 6)) (Var 4))) ∷ (App (Con (after 7) 0) (Var 4)) ∷ [])) (Var 1)) (applied (Elim 1 0) ((App (Fam (after 7)) (App (Const (after 6))
    (Var 5))) ∷ (App (Con (after 7) 0) (Var 5)) ∷ (Lam (App (Fam (after 7)) (App (Const (after 6)) (Var 5))) (Lam (equation 0 (App (Fam (after 7))
    (App (Const (after 6)) (Var 6))) (App (Con (after 7) 0) (Var 6)) (Var 0)) (App (Fam (after 7)) (suc_term (App (Const (after 6)) (Var 7)))))) ∷
    (App (Con (after 7) 1) (Var 5)) ∷ (Var 2) ∷ (Var 0) ∷ []))))) ∷ (Var 5) ∷ (Var 1) ∷ (Var 4) ∷ (Var 3) ∷ (Var 0) ∷ []))))) ∷
    (Lam (Nat) (Lam (equation 0 Nat (suc_term (App (Const (after 6)) (Var 0))) (Var 3)) (Lam (equation 0 (App (Fam (after 7)) (Var 4))
    (applied (Elim 1 0) (Nat ∷ (suc_term (App (Const (after 6)) (Var 1))) ∷ (Lam (Nat) (Lam (equation 0 Nat (suc_term (App (Const
    (after 6)) (Var 2))) (Var 0)) (Pi (App (Fam (after 7)) (suc_term (App (Const (after 6)) (Var 3)))) (App (Fam (after 7)) (Var 2))))) ∷ (Lam (App
    (Fam (after 7)) (suc_term (App (Const (after 6)) (Var 1)))) (Var 0)) ∷ (Var 4) ∷ (Var 0) ∷ (App (Con (after 7) 1) (Var 1)) ∷ [])) (Var 3))
    (applied (Elim 1 0) (Nat ∷ (suc_term (App (Const (after 6)) (Var 2))) ∷ (Lam (Nat) (Lam (equation 0 Nat (suc_term (App (Const
    (after 6)) (Var 3))) (Var 0)) (Pi (App (Fam (after 7)) (Var 1)) (Pi (applied (Const (after 8)) ((Const (after 9)) ∷ (suc_term (Var 2)) ∷ [])) (Pi
    (equation 0 (App (Fam (after 7)) (Var 3)) (applied (Elim 1 0) (Nat ∷ (suc_term (App (Const (after 6)) (Var 6))) ∷ (Lam (Nat) (Lam
    (equation 0 Nat (suc_term (App (Const (after 6)) (Var 7))) (Var 0)) (Pi (App (Fam (after 7)) (suc_term (App (Const (after 6)) (Var 8))))
    (App (Fam (after 7)) (Var 2))))) ∷ (Lam (App (Fam (after 7)) (suc_term (App (Const (after 6)) (Var 6)))) (Var 0)) ∷ (Var 3) ∷ (Var 2) ∷
    (App (Con (after 7) 1) (Var 6)) ∷ [])) (Var 1)) (App (Fam (after 7)) (suc_term (Var 4)))))))) ∷ (Lam (App (Fam (after 7)) (suc_term (App
    (Const (after 6)) (Var 2)))) (Lam (applied (Const (after 8)) ((Const (after 9)) ∷ (suc_term (suc_term (App (Const (after 6)) (Var 3)))) ∷ []))
    (Lam (equation 0 (App (Fam (after 7)) (suc_term (App (Const (after 6)) (Var 4)))) (applied (Elim 1 0) (Nat ∷ (suc_term (App (Const
    (after 6)) (Var 4))) ∷ (Lam (Nat) (Lam (equation 0 Nat (suc_term (App (Const (after 6)) (Var 5))) (Var 0)) (Pi (App (Fam (after 7))
    (suc_term (App (Const (after 6)) (Var 6)))) (App (Fam (after 7)) (Var 2))))) ∷ (Lam (App (Fam (after 7)) (suc_term (App (Const (after 6)) (Var
    4)))) (Var 0)) ∷ (suc_term (App (Const (after 6)) (Var 4))) ∷ (reflexivity 0 Nat (suc_term (App (Const (after 6)) (Var 4)))) ∷ (App
    (Con (after 7) 1) (Var 4)) ∷ [])) (Var 1)) (applied (Elim 1 0) ((App (Fam (after 7)) (suc_term (App (Const (after 6)) (Var 5)))) ∷ (App
    (Con (after 7) 1) (Var 5)) ∷ (Lam (App (Fam (after 7)) (suc_term (App (Const (after 6)) (Var 5)))) (Lam (equation 0 (App (Fam (after 7)) (suc_term
    (App (Const (after 6)) (Var 6)))) (App (Con (after 7) 1) (Var 6)) (Var 0)) (App (Fam (after 7)) (suc_term (suc_term (App (Const (after 6)) (Var
    7))))))) ∷ (App (Con (after 7) 0) (suc_term (Var 5))) ∷ (Var 2) ∷ (Var 0) ∷ []))))) ∷ (Var 5) ∷ (Var 1) ∷ (Var 4) ∷ (Var 3) ∷
    (Var 0) ∷ []))))) ∷ (Var 2) ∷ (Var 1) ∷ (reflexivity 0 Nat (Var 2)) ∷ (reflexivity 0 (App (Fam (after 7)) (Var 2)) (Var 1)) ∷
    []))))) ∷ draft (codes "parity!step") (after 8) (codes "Nat!below.0" ∷ codes "parity!motive" ∷ codes "Nat!case.0" ∷ codes
    "parity!w1" ∷ []) (Pi (Nat) (Pi (applied (Const (after 8)) ((Const (after 9)) ∷ (Var 0) ∷ [])) (App (Fam (after 7)) (Var 1)))) (Lam (Nat)
    (Lam (applied (Const (after 8)) ((Const (after 9)) ∷ (Var 0) ∷ [])) (applied (Const (after 10)) ((Lam (Nat) (Pi (equation 0 Nat (Var 0) (Var
    2)) (App (Fam (after 7)) (Var 3)))) ∷ (Lam (equation 0 Nat (Con (after 0) 0) (Var 1)) (applied (Elim 1 0) (Nat ∷ (Con (after 0) 0) ∷ (Lam
    (Nat) (Lam (equation 0 Nat (Con (after 0) 0) (Var 0)) (Pi (applied (Const (after 8)) ((Const (after 9)) ∷ (Var 1) ∷ [])) (App (Fam (after 7)) (Var
    2))))) ∷ (Lam (applied (Const (after 8)) ((Const (after 9)) ∷ (Con (after 0) 0) ∷ [])) (App (Con (after 7) 0) (Con (after 0) 0))) ∷ (Var 2) ∷ (Var 0) ∷
    (Var 1) ∷ []))) ∷ (Lam (Nat) (Lam (equation 0 Nat (suc_term (Var 0)) (Var 2)) (applied (Elim 1 0) (Nat ∷ (suc_term
    (Var 1)) ∷ (Lam (Nat) (Lam (equation 0 Nat (suc_term (Var 2)) (Var 0)) (Pi (applied (Const (after 8)) ((Const (after 9)) ∷ (Var 1) ∷
    [])) (App (Fam (after 7)) (Var 2))))) ∷ (Lam (applied (Const (after 8)) ((Const (after 9)) ∷ (suc_term (Var 1)) ∷ [])) (applied (Const (after 11))
    ((Var 2) ∷ (applied (Elim (pair_type 0) 0) ((App (Const (after 9)) (Var 2)) ∷ (applied (Const (after 8)) ((Const (after 9)) ∷ (Var 2) ∷ [])) ∷ (Lam
    (applied (Fam (pair_type 0)) ((App (Const (after 9)) (Var 2)) ∷ (applied (Const (after 8)) ((Const (after 9)) ∷ (Var 2) ∷ [])) ∷ [])) (App (Const (after 9))
    (Var 3))) ∷ (Lam (App (Const (after 9)) (Var 2)) (Lam (applied (Const (after 8)) ((Const (after 9)) ∷ (Var 3) ∷ [])) (Var 1))) ∷ (applied
    (Elim (pair_type 0) 0) ((applied (Fam (pair_type 0)) ((App (Const (after 9)) (Var 2)) ∷ (applied (Const (after 8)) ((Const (after 9)) ∷ (Var 2) ∷ [])) ∷ [])) ∷
    (Fam (unit_type 0)) ∷ (Lam (applied (Fam (pair_type 0)) ((applied (Fam (pair_type 0)) ((App (Const (after 9)) (Var 2)) ∷ (applied (Const (after 8)) ((Const (after 9)) ∷
    (Var 2) ∷ [])) ∷ [])) ∷ (Fam (unit_type 0)) ∷ [])) (applied (Fam (pair_type 0)) ((App (Const (after 9)) (Var 3)) ∷ (applied (Const (after 8)) ((Const (after 9))
    ∷ (Var 3) ∷ [])) ∷ []))) ∷ (Lam (applied (Fam (pair_type 0)) ((App (Const (after 9)) (Var 2)) ∷ (applied (Const (after 8)) ((Const (after 9)) ∷ (Var
    2) ∷ [])) ∷ [])) (Lam (Fam (unit_type 0)) (Var 1))) ∷ (Var 0) ∷ [])) ∷ [])) ∷ (Var 0) ∷ []))) ∷ (Var 3) ∷ (Var 0) ∷ (Var 2) ∷
    [])))) ∷ (Var 1) ∷ (reflexivity 0 Nat (Var 1)) ∷ [])))) ∷ draft (codes "parity") (after 8) (codes "Nat!rec.0" ∷ codes
    "parity!motive" ∷ codes "parity!step" ∷ []) (Pi (Nat) (App (Fam (after 7)) (Var 0))) (Lam (Nat) (applied (Const (after 8)) ((Const
    (after 9)) ∷ (Const (after 10)) ∷ (Var 0) ∷ []))) ∷ []))
unfolding native.Mathlib.Decide.ℕ_discrete
row_parity = refl

abbrev plan_half : Plan
plan_half =
    plan_with (behind (sample false) (constant (after 6) ∷ FamilyOf parity_family ∷ constant (after 8) ∷ [])) (after 9) (codes "half") 0 (Nat ∷
    []) (Nat) None (Is (vector (pattern.Bind ∷ [])) 1 (Side (Sort 0)) ∷ []) (applied (Const (after 10)) (Var 0 ∷ App (Const (after 8))
    (Var 0) ∷ []) ∷ []) ((helper_part (behind (sample false) (constant (after 6) ∷ FamilyOf parity_family ∷ constant (after 8) ∷ [])) 0
    (Nat ∷ App (Fam (after 7)) (Var 0) ∷ []) (Var 1 ∷ Var 0 ∷ []) (Nat) (Is (vector (pattern.Dot (App (Const (after 6)) (Var 0)) ∷
    pattern.Con (after 7) 0 (vector (pattern.Bind ∷ [])) ∷ [])) 1 (Side (Sort 0)) ∷ Is (vector (pattern.Dot (suc_term (App (Const
    (after 6)) (Var 0))) ∷ pattern.Con (after 7) 1 (vector (pattern.Bind ∷ [])) ∷ [])) 1 (Side (Sort 0)) ∷ []) (Var 0 ∷ Var 0 ∷ [])) ∷
    [])

row_half : translate (behind (sample false) (constant (after 6) ∷ FamilyOf parity_family ∷ constant (after 8) ∷ [])) plan_half ≡ (Ok
    (draft (codes "half!w1") (after 9) (codes "Parity!case.0" ∷ []) (Pi (Nat) (Pi (App (Fam (after 7)) (Var 0)) (Nat))) (Lam (Nat) (Lam
    (App (Fam (after 7)) (Var 0)) (applied (Const (after 9)) ((Lam (Nat) (Lam (App (Fam (after 7)) (Var 0)) (Pi (equation 0 Nat (Var 1) (Var
    3)) (Pi (equation 0 (App (Fam (after 7)) (Var 4)) (applied (Elim 1 0) (Nat ∷ (Var 2) ∷ (Lam (Nat) (Lam (equation 0 Nat (Var
    3) (Var 0)) (Pi (App (Fam (after 7)) (Var 4)) (App (Fam (after 7)) (Var 2))))) ∷ (Lam (App (Fam (after 7)) (Var 2)) (Var 0)) ∷ (Var 4) ∷
    (Var 0) ∷ (Var 1) ∷ [])) (Var 3)) (Nat))))) ∷ (Lam (Nat) (Lam (equation 0 Nat (App (Const (after 6)) (Var 0)) (Var 2)) (Lam
    (equation 0 (App (Fam (after 7)) (Var 3)) (applied (Elim 1 0) (Nat ∷ (App (Const (after 6)) (Var 1)) ∷ (Lam (Nat) (Lam (equation 0
    Nat (App (Const (after 6)) (Var 2)) (Var 0)) (Pi (App (Fam (after 7)) (App (Const (after 6)) (Var 3))) (App (Fam (after 7)) (Var 2))))) ∷ (Lam
    (App (Fam (after 7)) (App (Const (after 6)) (Var 1))) (Var 0)) ∷ (Var 3) ∷ (Var 0) ∷ (App (Con (after 7) 0) (Var 1)) ∷ [])) (Var 2))
    (applied (Elim 1 0) (Nat ∷ (App (Const (after 6)) (Var 2)) ∷ (Lam (Nat) (Lam (equation 0 Nat (App (Const (after 6)) (Var 3)) (Var
    0)) (Pi (App (Fam (after 7)) (Var 1)) (Pi (equation 0 (App (Fam (after 7)) (Var 2)) (applied (Elim 1 0) (Nat ∷ (App (Const (after 6)) (Var
    5)) ∷ (Lam (Nat) (Lam (equation 0 Nat (App (Const (after 6)) (Var 6)) (Var 0)) (Pi (App (Fam (after 7)) (App (Const (after 6)) (Var 7)))
    (App (Fam (after 7)) (Var 2))))) ∷ (Lam (App (Fam (after 7)) (App (Const (after 6)) (Var 5))) (Var 0)) ∷ (Var 2) ∷ (Var 1) ∷ (App (Con (after 7)
    0) (Var 5)) ∷ [])) (Var 0)) (Nat))))) ∷ (Lam (App (Fam (after 7)) (App (Const (after 6)) (Var 2))) (Lam (equation 0 (App (Fam (after 7))
    (App (Const (after 6)) (Var 3))) (applied (Elim 1 0) (Nat ∷ (App (Const (after 6)) (Var 3)) ∷ (Lam (Nat) (Lam (equation 0 Nat (App
    (Const (after 6)) (Var 4)) (Var 0)) (Pi (App (Fam (after 7)) (App (Const (after 6)) (Var 5))) (App (Fam (after 7)) (Var 2))))) ∷ (Lam (App (Fam
    (after 7)) (App (Const (after 6)) (Var 3))) (Var 0)) ∷ (App (Const (after 6)) (Var 3)) ∷ (reflexivity 0 Nat (App (Const (after 6)) (Var 3))) ∷
    (App (Con (after 7) 0) (Var 3)) ∷ [])) (Var 0)) (applied (Elim 1 0) ((App (Fam (after 7)) (App (Const (after 6)) (Var 4))) ∷ (App (Con (after 7)
    0) (Var 4)) ∷ (Lam (App (Fam (after 7)) (App (Const (after 6)) (Var 4))) (Lam (equation 0 (App (Fam (after 7)) (App (Const (after 6)) (Var 5)))
    (App (Con (after 7) 0) (Var 5)) (Var 0)) (Nat))) ∷ (Var 4) ∷ (Var 1) ∷ (Var 0) ∷ [])))) ∷ (Var 4) ∷ (Var 1) ∷ (Var 3) ∷ (Var
    0) ∷ []))))) ∷ (Lam (Nat) (Lam (equation 0 Nat (suc_term (App (Const (after 6)) (Var 0))) (Var 2)) (Lam (equation 0 (App (Fam
    (after 7)) (Var 3)) (applied (Elim 1 0) (Nat ∷ (suc_term (App (Const (after 6)) (Var 1))) ∷ (Lam (Nat) (Lam (equation 0 Nat
    (suc_term (App (Const (after 6)) (Var 2))) (Var 0)) (Pi (App (Fam (after 7)) (suc_term (App (Const (after 6)) (Var 3)))) (App (Fam (after 7)) (Var
    2))))) ∷ (Lam (App (Fam (after 7)) (suc_term (App (Const (after 6)) (Var 1)))) (Var 0)) ∷ (Var 3) ∷ (Var 0) ∷ (App (Con (after 7) 1) (Var
    1)) ∷ [])) (Var 2)) (applied (Elim 1 0) (Nat ∷ (suc_term (App (Const (after 6)) (Var 2))) ∷ (Lam (Nat) (Lam (equation 0 Nat
    (suc_term (App (Const (after 6)) (Var 3))) (Var 0)) (Pi (App (Fam (after 7)) (Var 1)) (Pi (equation 0 (App (Fam (after 7)) (Var 2))
    (applied (Elim 1 0) (Nat ∷ (suc_term (App (Const (after 6)) (Var 5))) ∷ (Lam (Nat) (Lam (equation 0 Nat (suc_term (App (Const
    (after 6)) (Var 6))) (Var 0)) (Pi (App (Fam (after 7)) (suc_term (App (Const (after 6)) (Var 7)))) (App (Fam (after 7)) (Var 2))))) ∷ (Lam (App
    (Fam (after 7)) (suc_term (App (Const (after 6)) (Var 5)))) (Var 0)) ∷ (Var 2) ∷ (Var 1) ∷ (App (Con (after 7) 1) (Var 5)) ∷ [])) (Var 0))
    (Nat))))) ∷ (Lam (App (Fam (after 7)) (suc_term (App (Const (after 6)) (Var 2)))) (Lam (equation 0 (App (Fam (after 7)) (suc_term (App
    (Const (after 6)) (Var 3)))) (applied (Elim 1 0) (Nat ∷ (suc_term (App (Const (after 6)) (Var 3))) ∷ (Lam (Nat) (Lam (equation 0 Nat
    (suc_term (App (Const (after 6)) (Var 4))) (Var 0)) (Pi (App (Fam (after 7)) (suc_term (App (Const (after 6)) (Var 5)))) (App (Fam (after 7)) (Var
    2))))) ∷ (Lam (App (Fam (after 7)) (suc_term (App (Const (after 6)) (Var 3)))) (Var 0)) ∷ (suc_term (App (Const (after 6)) (Var 3))) ∷
    (reflexivity 0 Nat (suc_term (App (Const (after 6)) (Var 3)))) ∷ (App (Con (after 7) 1) (Var 3)) ∷ [])) (Var 0)) (applied (Elim 1 0)
    ((App (Fam (after 7)) (suc_term (App (Const (after 6)) (Var 4)))) ∷ (App (Con (after 7) 1) (Var 4)) ∷ (Lam (App (Fam (after 7)) (suc_term (App
    (Const (after 6)) (Var 4)))) (Lam (equation 0 (App (Fam (after 7)) (suc_term (App (Const (after 6)) (Var 5)))) (App (Con (after 7) 1) (Var 5))
    (Var 0)) (Nat))) ∷ (Var 4) ∷ (Var 1) ∷ (Var 0) ∷ [])))) ∷ (Var 4) ∷ (Var 1) ∷ (Var 3) ∷ (Var 0) ∷ []))))) ∷ (Var 1) ∷
    (Var 0) ∷ (reflexivity 0 Nat (Var 1)) ∷ (reflexivity 0 (App (Fam (after 7)) (Var 1)) (Var 0)) ∷ [])))) ∷ draft (codes "half")
    (after 9) (codes "half!w1" ∷ []) (Pi (Nat) (Nat)) (Lam (Nat) (applied (Const (after 9)) ((Var 0) ∷ (App (Const (after 8)) (Var 0)) ∷ [])))
    ∷ []))
unfolding native.Mathlib.Decide.ℕ_discrete
row_half = refl
