-- Entries of a function that is recursive on a family with indices, which grow, as another implementation prints them.
use native.Mathlib.Decide.{ℕ_discrete}
use Rattle.std.proofs.Common.{◌≡◌, false, Some, Ok, [], ◌∷◌, refl, codes}
use Rattle.theory.specs.Terms.Term.{Var, Sort, Pi, Lam, App, Con, Fam, Elim, Const}
use Rattle.theory.specs.Telescopes.{applied}
use Rattle.theory.specs.Signatures.{equation, reflexivity, FamilyOf}
use Rattle.theory.specs.Prelude.{unit_type, pair_type}
use Rattle.theory.proofs.AfterPrelude.{after}
use Rattle.core_terms.specs.Clauses.{Is, Side}
use Rattle.core_terms.specs.Patterns as pattern
use Rattle.core_terms.specs.Patterns.{vector}
use Rattle.tree_translation.specs.Plans.{Plan}
use Rattle.tree_translation.specs.Entries.{translate}
use Rattle.tree_translation.proofs.Samples.{sample, behind, has_family, up_family, Nat, suc_term, Fin, draft, plan_of}

abbrev plan_up : Plan
plan_up =
    plan_of (behind (sample false) (FamilyOf has_family ∷ FamilyOf up_family ∷ [])) (after 8) (codes "up") 0 (Nat ∷ Nat ∷ Fin
    (Var 0) ∷ App (App (Fam (after 7)) (Var 1)) (Var 0) ∷ []) (Nat) (Some 3) (Is (vector (pattern.Bind ∷ pattern.Bind ∷
    pattern.Bind ∷ pattern.Con (after 7) 0 (vector (pattern.Dot (Var 1) ∷ pattern.Dot (Var 0) ∷ [])) ∷ [])) 3 (Side (Sort 0)) ∷
    Is (vector (pattern.Bind ∷ pattern.Bind ∷ pattern.Bind ∷ pattern.Con (after 7) 1 (vector (pattern.Dot (Var 2) ∷ pattern.Dot
    (Var 1) ∷ pattern.Bind ∷ [])) ∷ [])) 4 (Side (Sort 0)) ∷ []) (Var 2 ∷ App (App (App (App (Const (after 8)) (suc_term (Var
    3))) (suc_term (Var 2))) (App (App (Con (after 3) 1) (Var 2)) (Var 1))) (Var 0) ∷ [])

row_up : translate (behind (sample false) (FamilyOf has_family ∷ FamilyOf up_family ∷ [])) plan_up ≡ (Ok (draft
    (codes "up!motive") (after 8) [] (Pi (Nat) (Pi (Fin (Var 0)) (Pi (applied (Fam (after 7)) ((Var 1) ∷ (Var 0) ∷ [])) (Sort 0)))) (Lam
    (Nat) (Lam (Fin (Var 0)) (Lam (applied (Fam (after 7)) ((Var 1) ∷ (Var 0) ∷ [])) (Pi (Nat) (Nat))))) ∷ draft (codes
    "up!step") (after 8) (codes "Up!below.0" ∷ codes "up!motive" ∷ codes "Up!case.0" ∷ []) (Pi (Nat) (Pi (Fin (Var 0)) (Pi
    (applied (Fam (after 7)) ((Var 1) ∷ (Var 0) ∷ [])) (Pi (applied (Const (after 8)) ((Const (after 9)) ∷ (Var 2) ∷ (Var 1) ∷ (Var 0) ∷ []))
    (Pi (Nat) (Nat)))))) (Lam (Nat) (Lam (Fin (Var 0)) (Lam (applied (Fam (after 7)) ((Var 1) ∷ (Var 0) ∷ [])) (Lam (applied
    (Const (after 8)) ((Const (after 9)) ∷ (Var 2) ∷ (Var 1) ∷ (Var 0) ∷ [])) (Lam (Nat) (applied (Const (after 10)) ((Lam (Nat) (Lam (Fin (Var
    0)) (Lam (applied (Fam (after 7)) ((Var 1) ∷ (Var 0) ∷ [])) (Pi (equation 0 Nat (Var 2) (Var 7)) (Pi (equation 0 (Fin (Var
    8)) (applied (Elim 1 0) (Nat ∷ (Var 3) ∷ (Lam (Nat) (Lam (equation 0 Nat (Var 4) (Var 0)) (Pi (Fin (Var 5)) (Fin (Var
    2))))) ∷ (Lam (Fin (Var 3)) (Var 0)) ∷ (Var 8) ∷ (Var 0) ∷ (Var 2) ∷ [])) (Var 7)) (Pi (equation 0 (applied (Fam (after 7))
    ((Var 9) ∷ (Var 8) ∷ [])) (applied (Elim 1 0) (Nat ∷ (Var 4) ∷ (Lam (Nat) (Lam (equation 0 Nat (Var 5) (Var 0)) (Pi
    (Fin (Var 1)) (Pi (equation 0 (Fin (Var 2)) (applied (Elim 1 0) (Nat ∷ (Var 7) ∷ (Lam (Nat) (Lam (equation 0 Nat (Var
    8) (Var 0)) (Pi (Fin (Var 9)) (Fin (Var 2))))) ∷ (Lam (Fin (Var 7)) (Var 0)) ∷ (Var 2) ∷ (Var 1) ∷ (Var 6) ∷ [])) (Var
    0)) (Pi (applied (Fam (after 7)) ((Var 8) ∷ (Var 7) ∷ [])) (applied (Fam (after 7)) ((Var 4) ∷ (Var 2) ∷ []))))))) ∷ (Lam (Fin (Var
    4)) (Lam (equation 0 (Fin (Var 5)) (applied (Elim 1 0) (Nat ∷ (Var 5) ∷ (Lam (Nat) (Lam (equation 0 Nat (Var 6) (Var
    0)) (Pi (Fin (Var 7)) (Fin (Var 2))))) ∷ (Lam (Fin (Var 5)) (Var 0)) ∷ (Var 5) ∷ (reflexivity 0 Nat (Var 5)) ∷ (Var 4)
    ∷ [])) (Var 0)) (applied (Elim 1 0) ((Fin (Var 6)) ∷ (Var 5) ∷ (Lam (Fin (Var 6)) (Lam (equation 0 (Fin (Var 7)) (Var
    6) (Var 0)) (Pi (applied (Fam (after 7)) ((Var 8) ∷ (Var 7) ∷ [])) (applied (Fam (after 7)) ((Var 9) ∷ (Var 2) ∷ []))))) ∷ (Lam
    (applied (Fam (after 7)) ((Var 6) ∷ (Var 5) ∷ [])) (Var 0)) ∷ (Var 1) ∷ (Var 0) ∷ [])))) ∷ (Var 9) ∷ (Var 1) ∷ (Var 8) ∷ (Var
    0) ∷ (Var 2) ∷ [])) (Var 7)) (Nat))))))) ∷ (Lam (Nat) (Lam (Fin (Var 0)) (Lam (equation 0 Nat (Var 1) (Var 6)) (Lam
    (equation 0 (Fin (Var 7)) (applied (Elim 1 0) (Nat ∷ (Var 2) ∷ (Lam (Nat) (Lam (equation 0 Nat (Var 3) (Var 0)) (Pi
    (Fin (Var 4)) (Fin (Var 2))))) ∷ (Lam (Fin (Var 2)) (Var 0)) ∷ (Var 7) ∷ (Var 0) ∷ (Var 1) ∷ [])) (Var 6)) (Lam
    (equation 0 (applied (Fam (after 7)) ((Var 8) ∷ (Var 7) ∷ [])) (applied (Elim 1 0) (Nat ∷ (Var 3) ∷ (Lam (Nat) (Lam (equation
    0 Nat (Var 4) (Var 0)) (Pi (Fin (Var 1)) (Pi (equation 0 (Fin (Var 2)) (applied (Elim 1 0) (Nat ∷ (Var 6) ∷ (Lam (Nat)
    (Lam (equation 0 Nat (Var 7) (Var 0)) (Pi (Fin (Var 8)) (Fin (Var 2))))) ∷ (Lam (Fin (Var 6)) (Var 0)) ∷ (Var 2) ∷
    (Var 1) ∷ (Var 5) ∷ [])) (Var 0)) (Pi (applied (Fam (after 7)) ((Var 7) ∷ (Var 6) ∷ [])) (applied (Fam (after 7)) ((Var 4) ∷ (Var 2)
    ∷ []))))))) ∷ (Lam (Fin (Var 3)) (Lam (equation 0 (Fin (Var 4)) (applied (Elim 1 0) (Nat ∷ (Var 4) ∷ (Lam (Nat) (Lam
    (equation 0 Nat (Var 5) (Var 0)) (Pi (Fin (Var 6)) (Fin (Var 2))))) ∷ (Lam (Fin (Var 4)) (Var 0)) ∷ (Var 4) ∷
    (reflexivity 0 Nat (Var 4)) ∷ (Var 3) ∷ [])) (Var 0)) (applied (Elim 1 0) ((Fin (Var 5)) ∷ (Var 4) ∷ (Lam (Fin (Var
    5)) (Lam (equation 0 (Fin (Var 6)) (Var 5) (Var 0)) (Pi (applied (Fam (after 7)) ((Var 7) ∷ (Var 6) ∷ [])) (applied (Fam (after 7))
    ((Var 8) ∷ (Var 2) ∷ []))))) ∷ (Lam (applied (Fam (after 7)) ((Var 5) ∷ (Var 4) ∷ [])) (Var 0)) ∷ (Var 1) ∷ (Var 0) ∷ []))))
    ∷ (Var 8) ∷ (Var 1) ∷ (Var 7) ∷ (Var 0) ∷ (applied (Con (after 7) 0) ((Var 3) ∷ (Var 2) ∷ [])) ∷ [])) (Var 6)) (applied (Elim
    1 0) (Nat ∷ (Var 4) ∷ (Lam (Nat) (Lam (equation 0 Nat (Var 5) (Var 0)) (Pi (Fin (Var 1)) (Pi (applied (Fam (after 7)) ((Var
    2) ∷ (Var 0) ∷ [])) (Pi (applied (Const (after 8)) ((Const (after 9)) ∷ (Var 3) ∷ (Var 1) ∷ (Var 0) ∷ [])) (Pi (equation 0 (Fin (Var
    4)) (applied (Elim 1 0) (Nat ∷ (Var 9) ∷ (Lam (Nat) (Lam (equation 0 Nat (Var 10) (Var 0)) (Pi (Fin (Var 11)) (Fin
    (Var 2))))) ∷ (Lam (Fin (Var 9)) (Var 0)) ∷ (Var 4) ∷ (Var 3) ∷ (Var 8) ∷ [])) (Var 2)) (Pi (equation 0 (applied (Fam
    (after 7)) ((Var 5) ∷ (Var 3) ∷ [])) (applied (Elim 1 0) (Nat ∷ (Var 10) ∷ (Lam (Nat) (Lam (equation 0 Nat (Var 11) (Var 0))
    (Pi (Fin (Var 1)) (Pi (equation 0 (Fin (Var 2)) (applied (Elim 1 0) (Nat ∷ (Var 13) ∷ (Lam (Nat) (Lam (equation 0 Nat
    (Var 14) (Var 0)) (Pi (Fin (Var 15)) (Fin (Var 2))))) ∷ (Lam (Fin (Var 13)) (Var 0)) ∷ (Var 2) ∷ (Var 1) ∷ (Var 12) ∷
    [])) (Var 0)) (Pi (applied (Fam (after 7)) ((Var 14) ∷ (Var 13) ∷ [])) (applied (Fam (after 7)) ((Var 4) ∷ (Var 2) ∷ []))))))) ∷
    (Lam (Fin (Var 10)) (Lam (equation 0 (Fin (Var 11)) (applied (Elim 1 0) (Nat ∷ (Var 11) ∷ (Lam (Nat) (Lam (equation 0
    Nat (Var 12) (Var 0)) (Pi (Fin (Var 13)) (Fin (Var 2))))) ∷ (Lam (Fin (Var 11)) (Var 0)) ∷ (Var 11) ∷ (reflexivity 0
    Nat (Var 11)) ∷ (Var 10) ∷ [])) (Var 0)) (applied (Elim 1 0) ((Fin (Var 12)) ∷ (Var 11) ∷ (Lam (Fin (Var 12)) (Lam
    (equation 0 (Fin (Var 13)) (Var 12) (Var 0)) (Pi (applied (Fam (after 7)) ((Var 14) ∷ (Var 13) ∷ [])) (applied (Fam (after 7)) ((Var
    15) ∷ (Var 2) ∷ []))))) ∷ (Lam (applied (Fam (after 7)) ((Var 12) ∷ (Var 11) ∷ [])) (Var 0)) ∷ (Var 1) ∷ (Var 0) ∷ [])))) ∷
    (Var 5) ∷ (Var 4) ∷ (Var 3) ∷ (Var 0) ∷ (applied (Con (after 7) 0) ((Var 10) ∷ (Var 9) ∷ [])) ∷ [])) (Var 2)) (Nat)))))))) ∷
    (Lam (Fin (Var 4)) (Lam (applied (Fam (after 7)) ((Var 5) ∷ (Var 0) ∷ [])) (Lam (applied (Const (after 8)) ((Const (after 9)) ∷ (Var 6) ∷
    (Var 1) ∷ (Var 0) ∷ [])) (Lam (equation 0 (Fin (Var 7)) (applied (Elim 1 0) (Nat ∷ (Var 7) ∷ (Lam (Nat) (Lam (equation
    0 Nat (Var 8) (Var 0)) (Pi (Fin (Var 9)) (Fin (Var 2))))) ∷ (Lam (Fin (Var 7)) (Var 0)) ∷ (Var 7) ∷ (reflexivity 0 Nat
    (Var 7)) ∷ (Var 6) ∷ [])) (Var 2)) (Lam (equation 0 (applied (Fam (after 7)) ((Var 8) ∷ (Var 3) ∷ [])) (applied (Elim 1 0)
    (Nat ∷ (Var 8) ∷ (Lam (Nat) (Lam (equation 0 Nat (Var 9) (Var 0)) (Pi (Fin (Var 1)) (Pi (equation 0 (Fin (Var 2))
    (applied (Elim 1 0) (Nat ∷ (Var 11) ∷ (Lam (Nat) (Lam (equation 0 Nat (Var 12) (Var 0)) (Pi (Fin (Var 13)) (Fin (Var
    2))))) ∷ (Lam (Fin (Var 11)) (Var 0)) ∷ (Var 2) ∷ (Var 1) ∷ (Var 10) ∷ [])) (Var 0)) (Pi (applied (Fam (after 7)) ((Var 12) ∷
    (Var 11) ∷ [])) (applied (Fam (after 7)) ((Var 4) ∷ (Var 2) ∷ []))))))) ∷ (Lam (Fin (Var 8)) (Lam (equation 0 (Fin (Var 9))
    (applied (Elim 1 0) (Nat ∷ (Var 9) ∷ (Lam (Nat) (Lam (equation 0 Nat (Var 10) (Var 0)) (Pi (Fin (Var 11)) (Fin (Var
    2))))) ∷ (Lam (Fin (Var 9)) (Var 0)) ∷ (Var 9) ∷ (reflexivity 0 Nat (Var 9)) ∷ (Var 8) ∷ [])) (Var 0)) (applied (Elim
    1 0) ((Fin (Var 10)) ∷ (Var 9) ∷ (Lam (Fin (Var 10)) (Lam (equation 0 (Fin (Var 11)) (Var 10) (Var 0)) (Pi (applied
    (Fam (after 7)) ((Var 12) ∷ (Var 11) ∷ [])) (applied (Fam (after 7)) ((Var 13) ∷ (Var 2) ∷ []))))) ∷ (Lam (applied (Fam (after 7)) ((Var
    10) ∷ (Var 9) ∷ [])) (Var 0)) ∷ (Var 1) ∷ (Var 0) ∷ [])))) ∷ (Var 8) ∷ (reflexivity 0 Nat (Var 8)) ∷ (Var 3) ∷ (Var 0)
    ∷ (applied (Con (after 7) 0) ((Var 8) ∷ (Var 7) ∷ [])) ∷ [])) (Var 2)) (applied (Elim 1 0) ((Fin (Var 9)) ∷ (Var 8) ∷ (Lam
    (Fin (Var 9)) (Lam (equation 0 (Fin (Var 10)) (Var 9) (Var 0)) (Pi (applied (Fam (after 7)) ((Var 11) ∷ (Var 1) ∷ [])) (Pi
    (applied (Const (after 8)) ((Const (after 9)) ∷ (Var 12) ∷ (Var 2) ∷ (Var 0) ∷ [])) (Pi (equation 0 (applied (Fam (after 7)) ((Var 13) ∷
    (Var 3) ∷ [])) (applied (Elim 1 0) (Nat ∷ (Var 13) ∷ (Lam (Nat) (Lam (equation 0 Nat (Var 14) (Var 0)) (Pi (Fin (Var
    1)) (Pi (equation 0 (Fin (Var 2)) (applied (Elim 1 0) (Nat ∷ (Var 16) ∷ (Lam (Nat) (Lam (equation 0 Nat (Var 17) (Var
    0)) (Pi (Fin (Var 18)) (Fin (Var 2))))) ∷ (Lam (Fin (Var 16)) (Var 0)) ∷ (Var 2) ∷ (Var 1) ∷ (Var 15) ∷ [])) (Var 0))
    (Pi (applied (Fam (after 7)) ((Var 17) ∷ (Var 16) ∷ [])) (applied (Fam (after 7)) ((Var 4) ∷ (Var 2) ∷ []))))))) ∷ (Lam (Fin (Var
    13)) (Lam (equation 0 (Fin (Var 14)) (applied (Elim 1 0) (Nat ∷ (Var 14) ∷ (Lam (Nat) (Lam (equation 0 Nat (Var 15)
    (Var 0)) (Pi (Fin (Var 16)) (Fin (Var 2))))) ∷ (Lam (Fin (Var 14)) (Var 0)) ∷ (Var 14) ∷ (reflexivity 0 Nat (Var 14))
    ∷ (Var 13) ∷ [])) (Var 0)) (applied (Elim 1 0) ((Fin (Var 15)) ∷ (Var 14) ∷ (Lam (Fin (Var 15)) (Lam (equation 0 (Fin
    (Var 16)) (Var 15) (Var 0)) (Pi (applied (Fam (after 7)) ((Var 17) ∷ (Var 16) ∷ [])) (applied (Fam (after 7)) ((Var 18) ∷ (Var 2) ∷
    []))))) ∷ (Lam (applied (Fam (after 7)) ((Var 15) ∷ (Var 14) ∷ [])) (Var 0)) ∷ (Var 1) ∷ (Var 0) ∷ [])))) ∷ (Var 13) ∷
    (reflexivity 0 Nat (Var 13)) ∷ (Var 3) ∷ (Var 2) ∷ (applied (Con (after 7) 0) ((Var 13) ∷ (Var 12) ∷ [])) ∷ [])) (Var 1))
    (Nat)))))) ∷ (Lam (applied (Fam (after 7)) ((Var 9) ∷ (Var 8) ∷ [])) (Lam (applied (Const (after 8)) ((Const (after 9)) ∷ (Var 10) ∷ (Var
    9) ∷ (Var 0) ∷ [])) (Lam (equation 0 (applied (Fam (after 7)) ((Var 11) ∷ (Var 10) ∷ [])) (applied (Elim 1 0) (Nat ∷ (Var 11)
    ∷ (Lam (Nat) (Lam (equation 0 Nat (Var 12) (Var 0)) (Pi (Fin (Var 1)) (Pi (equation 0 (Fin (Var 2)) (applied (Elim 1
    0) (Nat ∷ (Var 14) ∷ (Lam (Nat) (Lam (equation 0 Nat (Var 15) (Var 0)) (Pi (Fin (Var 16)) (Fin (Var 2))))) ∷ (Lam (Fin
    (Var 14)) (Var 0)) ∷ (Var 2) ∷ (Var 1) ∷ (Var 13) ∷ [])) (Var 0)) (Pi (applied (Fam (after 7)) ((Var 15) ∷ (Var 14) ∷ []))
    (applied (Fam (after 7)) ((Var 4) ∷ (Var 2) ∷ []))))))) ∷ (Lam (Fin (Var 11)) (Lam (equation 0 (Fin (Var 12)) (applied (Elim
    1 0) (Nat ∷ (Var 12) ∷ (Lam (Nat) (Lam (equation 0 Nat (Var 13) (Var 0)) (Pi (Fin (Var 14)) (Fin (Var 2))))) ∷ (Lam
    (Fin (Var 12)) (Var 0)) ∷ (Var 12) ∷ (reflexivity 0 Nat (Var 12)) ∷ (Var 11) ∷ [])) (Var 0)) (applied (Elim 1 0) ((Fin
    (Var 13)) ∷ (Var 12) ∷ (Lam (Fin (Var 13)) (Lam (equation 0 (Fin (Var 14)) (Var 13) (Var 0)) (Pi (applied (Fam (after 7))
    ((Var 15) ∷ (Var 14) ∷ [])) (applied (Fam (after 7)) ((Var 16) ∷ (Var 2) ∷ []))))) ∷ (Lam (applied (Fam (after 7)) ((Var 13) ∷ (Var
    12) ∷ [])) (Var 0)) ∷ (Var 1) ∷ (Var 0) ∷ [])))) ∷ (Var 11) ∷ (reflexivity 0 Nat (Var 11)) ∷ (Var 10) ∷ (reflexivity 0
    (Fin (Var 11)) (Var 10)) ∷ (applied (Con (after 7) 0) ((Var 11) ∷ (Var 10) ∷ [])) ∷ [])) (Var 1)) (applied (Elim 1 0)
    ((applied (Fam (after 7)) ((Var 12) ∷ (Var 11) ∷ [])) ∷ (applied (Con (after 7) 0) ((Var 12) ∷ (Var 11) ∷ [])) ∷ (Lam (applied (Fam
    (after 7)) ((Var 12) ∷ (Var 11) ∷ [])) (Lam (equation 0 (applied (Fam (after 7)) ((Var 13) ∷ (Var 12) ∷ [])) (applied (Con (after 7) 0)
    ((Var 13) ∷ (Var 12) ∷ [])) (Var 0)) (Pi (applied (Const (after 8)) ((Const (after 9)) ∷ (Var 14) ∷ (Var 13) ∷ (Var 1) ∷ []))
    (Nat)))) ∷ (Lam (applied (Const (after 8)) ((Const (after 9)) ∷ (Var 12) ∷ (Var 11) ∷ (applied (Con (after 7) 0) ((Var 12) ∷ (Var 11) ∷
    [])) ∷ [])) (Var 14)) ∷ (Var 2) ∷ (Var 0) ∷ (Var 1) ∷ []))))) ∷ (Var 4) ∷ (Var 1) ∷ (Var 3) ∷ (Var 2) ∷ (Var 0) ∷
    []))))))) ∷ (Var 9) ∷ (Var 2) ∷ (Var 8) ∷ (Var 7) ∷ (Var 6) ∷ (Var 1) ∷ (Var 0) ∷ []))))))) ∷ (Lam (Nat) (Lam (Fin
    (Var 0)) (Lam (applied (Fam (after 7)) ((suc_term (Var 1)) ∷ (applied (Con (after 3) 1) ((Var 1) ∷ (Var 0) ∷ [])) ∷ [])) (Lam
    (equation 0 Nat (Var 2) (Var 7)) (Lam (equation 0 (Fin (Var 8)) (applied (Elim 1 0) (Nat ∷ (Var 3) ∷ (Lam (Nat) (Lam
    (equation 0 Nat (Var 4) (Var 0)) (Pi (Fin (Var 5)) (Fin (Var 2))))) ∷ (Lam (Fin (Var 3)) (Var 0)) ∷ (Var 8) ∷ (Var 0)
    ∷ (Var 2) ∷ [])) (Var 7)) (Lam (equation 0 (applied (Fam (after 7)) ((Var 9) ∷ (Var 8) ∷ [])) (applied (Elim 1 0) (Nat ∷ (Var
    4) ∷ (Lam (Nat) (Lam (equation 0 Nat (Var 5) (Var 0)) (Pi (Fin (Var 1)) (Pi (equation 0 (Fin (Var 2)) (applied (Elim 1
    0) (Nat ∷ (Var 7) ∷ (Lam (Nat) (Lam (equation 0 Nat (Var 8) (Var 0)) (Pi (Fin (Var 9)) (Fin (Var 2))))) ∷ (Lam (Fin
    (Var 7)) (Var 0)) ∷ (Var 2) ∷ (Var 1) ∷ (Var 6) ∷ [])) (Var 0)) (Pi (applied (Fam (after 7)) ((Var 8) ∷ (Var 7) ∷ []))
    (applied (Fam (after 7)) ((Var 4) ∷ (Var 2) ∷ []))))))) ∷ (Lam (Fin (Var 4)) (Lam (equation 0 (Fin (Var 5)) (applied (Elim 1
    0) (Nat ∷ (Var 5) ∷ (Lam (Nat) (Lam (equation 0 Nat (Var 6) (Var 0)) (Pi (Fin (Var 7)) (Fin (Var 2))))) ∷ (Lam (Fin
    (Var 5)) (Var 0)) ∷ (Var 5) ∷ (reflexivity 0 Nat (Var 5)) ∷ (Var 4) ∷ [])) (Var 0)) (applied (Elim 1 0) ((Fin (Var 6))
    ∷ (Var 5) ∷ (Lam (Fin (Var 6)) (Lam (equation 0 (Fin (Var 7)) (Var 6) (Var 0)) (Pi (applied (Fam (after 7)) ((Var 8) ∷ (Var
    7) ∷ [])) (applied (Fam (after 7)) ((Var 9) ∷ (Var 2) ∷ []))))) ∷ (Lam (applied (Fam (after 7)) ((Var 6) ∷ (Var 5) ∷ [])) (Var 0)) ∷
    (Var 1) ∷ (Var 0) ∷ [])))) ∷ (Var 9) ∷ (Var 1) ∷ (Var 8) ∷ (Var 0) ∷ (applied (Con (after 7) 1) ((Var 4) ∷ (Var 3) ∷ (Var 2)
    ∷ [])) ∷ [])) (Var 7)) (applied (Elim 1 0) (Nat ∷ (Var 5) ∷ (Lam (Nat) (Lam (equation 0 Nat (Var 6) (Var 0)) (Pi (Fin
    (Var 1)) (Pi (applied (Fam (after 7)) ((Var 2) ∷ (Var 0) ∷ [])) (Pi (applied (Const (after 8)) ((Const (after 9)) ∷ (Var 3) ∷ (Var 1) ∷
    (Var 0) ∷ [])) (Pi (equation 0 (Fin (Var 4)) (applied (Elim 1 0) (Nat ∷ (Var 10) ∷ (Lam (Nat) (Lam (equation 0 Nat
    (Var 11) (Var 0)) (Pi (Fin (Var 12)) (Fin (Var 2))))) ∷ (Lam (Fin (Var 10)) (Var 0)) ∷ (Var 4) ∷ (Var 3) ∷ (Var 9) ∷
    [])) (Var 2)) (Pi (equation 0 (applied (Fam (after 7)) ((Var 5) ∷ (Var 3) ∷ [])) (applied (Elim 1 0) (Nat ∷ (Var 11) ∷ (Lam
    (Nat) (Lam (equation 0 Nat (Var 12) (Var 0)) (Pi (Fin (Var 1)) (Pi (equation 0 (Fin (Var 2)) (applied (Elim 1 0) (Nat
    ∷ (Var 14) ∷ (Lam (Nat) (Lam (equation 0 Nat (Var 15) (Var 0)) (Pi (Fin (Var 16)) (Fin (Var 2))))) ∷ (Lam (Fin (Var
    14)) (Var 0)) ∷ (Var 2) ∷ (Var 1) ∷ (Var 13) ∷ [])) (Var 0)) (Pi (applied (Fam (after 7)) ((Var 15) ∷ (Var 14) ∷ []))
    (applied (Fam (after 7)) ((Var 4) ∷ (Var 2) ∷ []))))))) ∷ (Lam (Fin (Var 11)) (Lam (equation 0 (Fin (Var 12)) (applied (Elim
    1 0) (Nat ∷ (Var 12) ∷ (Lam (Nat) (Lam (equation 0 Nat (Var 13) (Var 0)) (Pi (Fin (Var 14)) (Fin (Var 2))))) ∷ (Lam
    (Fin (Var 12)) (Var 0)) ∷ (Var 12) ∷ (reflexivity 0 Nat (Var 12)) ∷ (Var 11) ∷ [])) (Var 0)) (applied (Elim 1 0) ((Fin
    (Var 13)) ∷ (Var 12) ∷ (Lam (Fin (Var 13)) (Lam (equation 0 (Fin (Var 14)) (Var 13) (Var 0)) (Pi (applied (Fam (after 7))
    ((Var 15) ∷ (Var 14) ∷ [])) (applied (Fam (after 7)) ((Var 16) ∷ (Var 2) ∷ []))))) ∷ (Lam (applied (Fam (after 7)) ((Var 13) ∷ (Var
    12) ∷ [])) (Var 0)) ∷ (Var 1) ∷ (Var 0) ∷ [])))) ∷ (Var 5) ∷ (Var 4) ∷ (Var 3) ∷ (Var 0) ∷ (applied (Con (after 7) 1) ((Var
    11) ∷ (Var 10) ∷ (Var 9) ∷ [])) ∷ [])) (Var 2)) (Nat)))))))) ∷ (Lam (Fin (Var 5)) (Lam (applied (Fam (after 7)) ((Var 6) ∷
    (Var 0) ∷ [])) (Lam (applied (Const (after 8)) ((Const (after 9)) ∷ (Var 7) ∷ (Var 1) ∷ (Var 0) ∷ [])) (Lam (equation 0 (Fin (Var
    8)) (applied (Elim 1 0) (Nat ∷ (Var 8) ∷ (Lam (Nat) (Lam (equation 0 Nat (Var 9) (Var 0)) (Pi (Fin (Var 10)) (Fin (Var
    2))))) ∷ (Lam (Fin (Var 8)) (Var 0)) ∷ (Var 8) ∷ (reflexivity 0 Nat (Var 8)) ∷ (Var 7) ∷ [])) (Var 2)) (Lam (equation
    0 (applied (Fam (after 7)) ((Var 9) ∷ (Var 3) ∷ [])) (applied (Elim 1 0) (Nat ∷ (Var 9) ∷ (Lam (Nat) (Lam (equation 0 Nat
    (Var 10) (Var 0)) (Pi (Fin (Var 1)) (Pi (equation 0 (Fin (Var 2)) (applied (Elim 1 0) (Nat ∷ (Var 12) ∷ (Lam (Nat)
    (Lam (equation 0 Nat (Var 13) (Var 0)) (Pi (Fin (Var 14)) (Fin (Var 2))))) ∷ (Lam (Fin (Var 12)) (Var 0)) ∷ (Var 2) ∷
    (Var 1) ∷ (Var 11) ∷ [])) (Var 0)) (Pi (applied (Fam (after 7)) ((Var 13) ∷ (Var 12) ∷ [])) (applied (Fam (after 7)) ((Var 4) ∷ (Var
    2) ∷ []))))))) ∷ (Lam (Fin (Var 9)) (Lam (equation 0 (Fin (Var 10)) (applied (Elim 1 0) (Nat ∷ (Var 10) ∷ (Lam (Nat)
    (Lam (equation 0 Nat (Var 11) (Var 0)) (Pi (Fin (Var 12)) (Fin (Var 2))))) ∷ (Lam (Fin (Var 10)) (Var 0)) ∷ (Var 10) ∷
    (reflexivity 0 Nat (Var 10)) ∷ (Var 9) ∷ [])) (Var 0)) (applied (Elim 1 0) ((Fin (Var 11)) ∷ (Var 10) ∷ (Lam (Fin (Var
    11)) (Lam (equation 0 (Fin (Var 12)) (Var 11) (Var 0)) (Pi (applied (Fam (after 7)) ((Var 13) ∷ (Var 12) ∷ [])) (applied (Fam
    (after 7)) ((Var 14) ∷ (Var 2) ∷ []))))) ∷ (Lam (applied (Fam (after 7)) ((Var 11) ∷ (Var 10) ∷ [])) (Var 0)) ∷ (Var 1) ∷ (Var 0) ∷
    [])))) ∷ (Var 9) ∷ (reflexivity 0 Nat (Var 9)) ∷ (Var 3) ∷ (Var 0) ∷ (applied (Con (after 7) 1) ((Var 9) ∷ (Var 8) ∷ (Var 7)
    ∷ [])) ∷ [])) (Var 2)) (applied (Elim 1 0) ((Fin (Var 10)) ∷ (Var 9) ∷ (Lam (Fin (Var 10)) (Lam (equation 0 (Fin (Var
    11)) (Var 10) (Var 0)) (Pi (applied (Fam (after 7)) ((Var 12) ∷ (Var 1) ∷ [])) (Pi (applied (Const (after 8)) ((Const (after 9)) ∷ (Var 13)
    ∷ (Var 2) ∷ (Var 0) ∷ [])) (Pi (equation 0 (applied (Fam (after 7)) ((Var 14) ∷ (Var 3) ∷ [])) (applied (Elim 1 0) (Nat ∷
    (Var 14) ∷ (Lam (Nat) (Lam (equation 0 Nat (Var 15) (Var 0)) (Pi (Fin (Var 1)) (Pi (equation 0 (Fin (Var 2)) (applied
    (Elim 1 0) (Nat ∷ (Var 17) ∷ (Lam (Nat) (Lam (equation 0 Nat (Var 18) (Var 0)) (Pi (Fin (Var 19)) (Fin (Var 2))))) ∷
    (Lam (Fin (Var 17)) (Var 0)) ∷ (Var 2) ∷ (Var 1) ∷ (Var 16) ∷ [])) (Var 0)) (Pi (applied (Fam (after 7)) ((Var 18) ∷ (Var 17)
    ∷ [])) (applied (Fam (after 7)) ((Var 4) ∷ (Var 2) ∷ []))))))) ∷ (Lam (Fin (Var 14)) (Lam (equation 0 (Fin (Var 15)) (applied
    (Elim 1 0) (Nat ∷ (Var 15) ∷ (Lam (Nat) (Lam (equation 0 Nat (Var 16) (Var 0)) (Pi (Fin (Var 17)) (Fin (Var 2))))) ∷
    (Lam (Fin (Var 15)) (Var 0)) ∷ (Var 15) ∷ (reflexivity 0 Nat (Var 15)) ∷ (Var 14) ∷ [])) (Var 0)) (applied (Elim 1 0)
    ((Fin (Var 16)) ∷ (Var 15) ∷ (Lam (Fin (Var 16)) (Lam (equation 0 (Fin (Var 17)) (Var 16) (Var 0)) (Pi (applied (Fam
    (after 7)) ((Var 18) ∷ (Var 17) ∷ [])) (applied (Fam (after 7)) ((Var 19) ∷ (Var 2) ∷ []))))) ∷ (Lam (applied (Fam (after 7)) ((Var 16) ∷
    (Var 15) ∷ [])) (Var 0)) ∷ (Var 1) ∷ (Var 0) ∷ [])))) ∷ (Var 14) ∷ (reflexivity 0 Nat (Var 14)) ∷ (Var 3) ∷ (Var 2) ∷
    (applied (Con (after 7) 1) ((Var 14) ∷ (Var 13) ∷ (Var 12) ∷ [])) ∷ [])) (Var 1)) (Nat)))))) ∷ (Lam (applied (Fam (after 7)) ((Var
    10) ∷ (Var 9) ∷ [])) (Lam (applied (Const (after 8)) ((Const (after 9)) ∷ (Var 11) ∷ (Var 10) ∷ (Var 0) ∷ [])) (Lam (equation 0
    (applied (Fam (after 7)) ((Var 12) ∷ (Var 11) ∷ [])) (applied (Elim 1 0) (Nat ∷ (Var 12) ∷ (Lam (Nat) (Lam (equation 0 Nat
    (Var 13) (Var 0)) (Pi (Fin (Var 1)) (Pi (equation 0 (Fin (Var 2)) (applied (Elim 1 0) (Nat ∷ (Var 15) ∷ (Lam (Nat)
    (Lam (equation 0 Nat (Var 16) (Var 0)) (Pi (Fin (Var 17)) (Fin (Var 2))))) ∷ (Lam (Fin (Var 15)) (Var 0)) ∷ (Var 2) ∷
    (Var 1) ∷ (Var 14) ∷ [])) (Var 0)) (Pi (applied (Fam (after 7)) ((Var 16) ∷ (Var 15) ∷ [])) (applied (Fam (after 7)) ((Var 4) ∷ (Var
    2) ∷ []))))))) ∷ (Lam (Fin (Var 12)) (Lam (equation 0 (Fin (Var 13)) (applied (Elim 1 0) (Nat ∷ (Var 13) ∷ (Lam (Nat)
    (Lam (equation 0 Nat (Var 14) (Var 0)) (Pi (Fin (Var 15)) (Fin (Var 2))))) ∷ (Lam (Fin (Var 13)) (Var 0)) ∷ (Var 13) ∷
    (reflexivity 0 Nat (Var 13)) ∷ (Var 12) ∷ [])) (Var 0)) (applied (Elim 1 0) ((Fin (Var 14)) ∷ (Var 13) ∷ (Lam (Fin
    (Var 14)) (Lam (equation 0 (Fin (Var 15)) (Var 14) (Var 0)) (Pi (applied (Fam (after 7)) ((Var 16) ∷ (Var 15) ∷ [])) (applied
    (Fam (after 7)) ((Var 17) ∷ (Var 2) ∷ []))))) ∷ (Lam (applied (Fam (after 7)) ((Var 14) ∷ (Var 13) ∷ [])) (Var 0)) ∷ (Var 1) ∷ (Var
    0) ∷ [])))) ∷ (Var 12) ∷ (reflexivity 0 Nat (Var 12)) ∷ (Var 11) ∷ (reflexivity 0 (Fin (Var 12)) (Var 11)) ∷ (applied
    (Con (after 7) 1) ((Var 12) ∷ (Var 11) ∷ (Var 10) ∷ [])) ∷ [])) (Var 1)) (applied (Elim 1 0) ((applied (Fam (after 7)) ((Var 13) ∷
    (Var 12) ∷ [])) ∷ (applied (Con (after 7) 1) ((Var 13) ∷ (Var 12) ∷ (Var 11) ∷ [])) ∷ (Lam (applied (Fam (after 7)) ((Var 13) ∷ (Var
    12) ∷ [])) (Lam (equation 0 (applied (Fam (after 7)) ((Var 14) ∷ (Var 13) ∷ [])) (applied (Con (after 7) 1) ((Var 14) ∷ (Var 13) ∷
    (Var 12) ∷ [])) (Var 0)) (Pi (applied (Const (after 8)) ((Const (after 9)) ∷ (Var 15) ∷ (Var 14) ∷ (Var 1) ∷ [])) (Nat)))) ∷ (Lam
    (applied (Const (after 8)) ((Const (after 9)) ∷ (Var 13) ∷ (Var 12) ∷ (applied (Con (after 7) 1) ((Var 13) ∷ (Var 12) ∷ (Var 11) ∷ [])) ∷
    [])) (applied (Elim (pair_type 0) 0) ((applied (Const (after 9)) ((suc_term (Var 14)) ∷ (applied (Con (after 3) 1) ((Var 14) ∷ (Var 13) ∷ []))
    ∷ (Var 12) ∷ [])) ∷ (applied (Const (after 8)) ((Const (after 9)) ∷ (suc_term (Var 14)) ∷ (applied (Con (after 3) 1) ((Var 14) ∷ (Var 13) ∷
    [])) ∷ (Var 12) ∷ [])) ∷ (Lam (applied (Fam (pair_type 0)) ((applied (Const (after 9)) ((suc_term (Var 14)) ∷ (applied (Con (after 3) 1) ((Var
    14) ∷ (Var 13) ∷ [])) ∷ (Var 12) ∷ [])) ∷ (applied (Const (after 8)) ((Const (after 9)) ∷ (suc_term (Var 14)) ∷ (applied (Con (after 3) 1)
    ((Var 14) ∷ (Var 13) ∷ [])) ∷ (Var 12) ∷ [])) ∷ [])) (applied (Const (after 9)) ((suc_term (Var 15)) ∷ (applied (Con (after 3) 1)
    ((Var 15) ∷ (Var 14) ∷ [])) ∷ (Var 13) ∷ []))) ∷ (Lam (applied (Const (after 9)) ((suc_term (Var 14)) ∷ (applied (Con (after 3) 1)
    ((Var 14) ∷ (Var 13) ∷ [])) ∷ (Var 12) ∷ [])) (Lam (applied (Const (after 8)) ((Const (after 9)) ∷ (suc_term (Var 15)) ∷ (applied
    (Con (after 3) 1) ((Var 15) ∷ (Var 14) ∷ [])) ∷ (Var 13) ∷ [])) (Var 1))) ∷ (applied (Elim (pair_type 0) 0) ((applied (Fam (pair_type 0)) ((applied
    (Const (after 9)) ((suc_term (Var 14)) ∷ (applied (Con (after 3) 1) ((Var 14) ∷ (Var 13) ∷ [])) ∷ (Var 12) ∷ [])) ∷ (applied (Const
    (after 8)) ((Const (after 9)) ∷ (suc_term (Var 14)) ∷ (applied (Con (after 3) 1) ((Var 14) ∷ (Var 13) ∷ [])) ∷ (Var 12) ∷ [])) ∷ [])) ∷
    (Fam (unit_type 0)) ∷ (Lam (applied (Fam (pair_type 0)) ((applied (Fam (pair_type 0)) ((applied (Const (after 9)) ((suc_term (Var 14)) ∷ (applied (Con (after 3) 1)
    ((Var 14) ∷ (Var 13) ∷ [])) ∷ (Var 12) ∷ [])) ∷ (applied (Const (after 8)) ((Const (after 9)) ∷ (suc_term (Var 14)) ∷ (applied (Con
    (after 3) 1) ((Var 14) ∷ (Var 13) ∷ [])) ∷ (Var 12) ∷ [])) ∷ [])) ∷ (Fam (unit_type 0)) ∷ [])) (applied (Fam (pair_type 0)) ((applied (Const (after 9))
    ((suc_term (Var 15)) ∷ (applied (Con (after 3) 1) ((Var 15) ∷ (Var 14) ∷ [])) ∷ (Var 13) ∷ [])) ∷ (applied (Const (after 8)) ((Const
    (after 9)) ∷ (suc_term (Var 15)) ∷ (applied (Con (after 3) 1) ((Var 15) ∷ (Var 14) ∷ [])) ∷ (Var 13) ∷ [])) ∷ []))) ∷ (Lam (applied
    (Fam (pair_type 0)) ((applied (Const (after 9)) ((suc_term (Var 14)) ∷ (applied (Con (after 3) 1) ((Var 14) ∷ (Var 13) ∷ [])) ∷ (Var 12) ∷ []))
    ∷ (applied (Const (after 8)) ((Const (after 9)) ∷ (suc_term (Var 14)) ∷ (applied (Con (after 3) 1) ((Var 14) ∷ (Var 13) ∷ [])) ∷ (Var 12) ∷
    [])) ∷ [])) (Lam (Fam (unit_type 0)) (Var 1))) ∷ (Var 0) ∷ [])) ∷ (suc_term (Var 15)) ∷ []))) ∷ (Var 2) ∷ (Var 0) ∷ (Var 1) ∷
    []))))) ∷ (Var 4) ∷ (Var 1) ∷ (Var 3) ∷ (Var 2) ∷ (Var 0) ∷ []))))))) ∷ (Var 10) ∷ (Var 2) ∷ (Var 9) ∷ (Var 8) ∷ (Var
    7) ∷ (Var 1) ∷ (Var 0) ∷ [])))))))) ∷ (Var 4) ∷ (Var 3) ∷ (Var 2) ∷ (reflexivity 0 Nat (Var 4)) ∷ (reflexivity 0 (Fin
    (Var 4)) (Var 3)) ∷ (reflexivity 0 (applied (Fam (after 7)) ((Var 4) ∷ (Var 3) ∷ [])) (Var 2)) ∷ []))))))) ∷ draft (codes
    "up") (after 8) (codes "Up!rec.0" ∷ codes "up!motive" ∷ codes "up!step" ∷ []) (Pi (Nat) (Pi (Nat) (Pi (Fin (Var 0)) (Pi
    (applied (Fam (after 7)) ((Var 1) ∷ (Var 0) ∷ [])) (Nat))))) (Lam (Nat) (Lam (Nat) (Lam (Fin (Var 0)) (Lam (applied (Fam (after 7))
    ((Var 1) ∷ (Var 0) ∷ [])) (applied (Const (after 8)) ((Const (after 9)) ∷ (Const (after 10)) ∷ (Var 2) ∷ (Var 1) ∷ (Var 0) ∷ (Var 3) ∷
    [])))))) ∷ []))
unfolding native.Mathlib.Decide.ℕ_discrete
row_up = refl
