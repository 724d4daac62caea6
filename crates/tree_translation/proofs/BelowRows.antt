-- Entries of recursive functions whose branches end or are solved by other rules, as another implementation prints them.
use native.Mathlib.Decide.{ℕ_discrete}
use Rattle.std.proofs.Common.{◌≡◌, true, false, Some, Ok, [], ◌∷◌, refl, codes}
use Rattle.theory.specs.Terms.Term.{Var, Sort, Pi, Lam, App, Con, Fam, Elim, Const, AxiomK}
use Rattle.theory.specs.Telescopes.{applied}
use Rattle.theory.specs.Signatures.{equation, reflexivity}
use Rattle.theory.specs.Prelude.{unit_type, pair_type}
use Rattle.theory.proofs.AfterPrelude.{after}
use Rattle.core_terms.specs.Clauses.{Is, Side}
use Rattle.core_terms.specs.Patterns as pattern
use Rattle.core_terms.specs.Patterns.{vector}
use Rattle.tree_translation.specs.Plans.{Plan}
use Rattle.tree_translation.specs.Entries.{translate}
use Rattle.tree_translation.proofs.Samples.{sample, Nat, suc_term, own, draft, plan_of}

abbrev plan_cb : Plan
plan_cb =
    plan_of (sample false) (after 6) (codes "cb") 0 (Nat ∷ Nat ∷ equation 0 Nat (Var 0) (suc_term (Var 0)) ∷ []) (Nat) (Some 0)
    (Is (vector (pattern.Con (after 0) 0 pattern.nil ∷ pattern.Bind ∷ pattern.Absurd ∷ [])) 1 (Side (Sort 0)) ∷ Is (vector
    (pattern.Con (after 0) 1 (vector (pattern.Bind ∷ [])) ∷ pattern.Bind ∷ pattern.Bind ∷ [])) 3 (Side (Sort 0)) ∷ []) (Sort 0 ∷
    App (App (App (own) (Var 2)) (Var 1)) (Var 0) ∷ [])

row_cb : translate (sample false) plan_cb ≡ (Ok (draft (codes "cb!motive") (after 6) [] (Pi (Nat) (Sort 0)) (Lam (Nat) (Pi
    (Nat) (Pi (equation 0 Nat (Var 0) (suc_term (Var 0))) (Nat)))) ∷ draft (codes "cb!step") (after 6) (codes "Nat!below.0" ∷
    codes "cb!motive" ∷ codes "Nat!case.0" ∷ codes "Eq.0!case.0" ∷ codes "Nat!direct" ∷ codes "Nat!acyclic" ∷ []) (Pi
    (Nat) (Pi (applied (Const (after 6)) ((Const (after 7)) ∷ (Var 0) ∷ [])) (Pi (Nat) (Pi (equation 0 Nat (Var 0) (suc_term (Var 0)))
    (Nat))))) (Lam (Nat) (Lam (applied (Const (after 6)) ((Const (after 7)) ∷ (Var 0) ∷ [])) (Lam (Nat) (Lam (equation 0 Nat (Var 0)
    (suc_term (Var 0))) (applied (Const (after 8)) ((Lam (Nat) (Pi (equation 0 Nat (Var 0) (Var 4)) (Nat))) ∷ (Lam (equation 0
    Nat (Con (after 0) 0) (Var 3)) (applied (Elim 1 0) (Nat ∷ (Con (after 0) 0) ∷ (Lam (Nat) (Lam (equation 0 Nat (Con (after 0) 0) (Var 0))
    (Pi (applied (Const (after 6)) ((Const (after 7)) ∷ (Var 1) ∷ [])) (Nat)))) ∷ (Lam (applied (Const (after 6)) ((Const (after 7)) ∷ (Con (after 0) 0) ∷
    [])) (applied (Const (after 9)) (Nat ∷ (Var 3) ∷ (Lam (Nat) (Lam (equation 0 Nat (Var 4) (Var 0)) (Pi (equation 0 Nat (Var 1)
    (suc_term (Var 5))) (Pi (equation 0 (equation 0 Nat (Var 6) (suc_term (Var 6))) (applied (Elim 1 0) (Nat ∷ (Var 2) ∷
    (Lam (Nat) (Lam (equation 0 Nat (Var 3) (Var 0)) (Pi (equation 0 Nat (Var 8) (Var 4)) (equation 0 Nat (Var 9) (Var
    2))))) ∷ (Lam (equation 0 Nat (Var 6) (Var 2)) (Var 0)) ∷ (suc_term (Var 6)) ∷ (Var 0) ∷ (Var 1) ∷ [])) (Var 5))
    (Nat))))) ∷ (Lam (equation 0 Nat (Var 3) (suc_term (Var 3))) (Lam (equation 0 (equation 0 Nat (Var 4) (suc_term (Var
    4))) (applied (Elim 1 0) (Nat ∷ (Var 4) ∷ (Lam (Nat) (Lam (equation 0 Nat (Var 5) (Var 0)) (Pi (equation 0 Nat (Var 6)
    (Var 6)) (equation 0 Nat (Var 7) (Var 2))))) ∷ (Lam (equation 0 Nat (Var 4) (Var 4)) (Var 0)) ∷ (suc_term (Var 4)) ∷
    (Var 0) ∷ (reflexivity 0 Nat (Var 4)) ∷ [])) (Var 3)) (applied (Elim 0 0) ((Lam (Fam 0) (Nat)) ∷ (applied (Elim (pair_type 0) 0)
    ((App (Lam (Nat) (Pi (equation 0 Nat (Var 6) (Var 0)) (Fam 0))) (Var 5)) ∷ (applied (Const (after 10)) ((Lam (Nat) (Pi
    (equation 0 Nat (Var 6) (Var 0)) (Fam 0))) ∷ (Var 5) ∷ [])) ∷ (Lam (applied (Fam (pair_type 0)) ((App (Lam (Nat) (Pi (equation 0
    Nat (Var 6) (Var 0)) (Fam 0))) (Var 5)) ∷ (applied (Const (after 10)) ((Lam (Nat) (Pi (equation 0 Nat (Var 6) (Var 0)) (Fam
    0))) ∷ (Var 5) ∷ [])) ∷ [])) (App (Lam (Nat) (Pi (equation 0 Nat (Var 7) (Var 0)) (Fam 0))) (Var 6))) ∷ (Lam (App (Lam
    (Nat) (Pi (equation 0 Nat (Var 6) (Var 0)) (Fam 0))) (Var 5)) (Lam (applied (Const (after 10)) ((Lam (Nat) (Pi (equation 0 Nat
    (Var 7) (Var 0)) (Fam 0))) ∷ (Var 6) ∷ [])) (Var 1))) ∷ (applied (Elim (pair_type 0) 0) ((applied (Fam (pair_type 0)) ((App (Lam (Nat) (Pi
    (equation 0 Nat (Var 6) (Var 0)) (Fam 0))) (Var 5)) ∷ (applied (Const (after 10)) ((Lam (Nat) (Pi (equation 0 Nat (Var 6) (Var
    0)) (Fam 0))) ∷ (Var 5) ∷ [])) ∷ [])) ∷ (Fam (unit_type 0)) ∷ (Lam (applied (Fam (pair_type 0)) ((applied (Fam (pair_type 0)) ((App (Lam (Nat) (Pi
    (equation 0 Nat (Var 6) (Var 0)) (Fam 0))) (Var 5)) ∷ (applied (Const (after 10)) ((Lam (Nat) (Pi (equation 0 Nat (Var 6) (Var
    0)) (Fam 0))) ∷ (Var 5) ∷ [])) ∷ [])) ∷ (Fam (unit_type 0)) ∷ [])) (applied (Fam (pair_type 0)) ((App (Lam (Nat) (Pi (equation 0 Nat (Var 7)
    (Var 0)) (Fam 0))) (Var 6)) ∷ (applied (Const (after 10)) ((Lam (Nat) (Pi (equation 0 Nat (Var 7) (Var 0)) (Fam 0))) ∷ (Var 6)
    ∷ [])) ∷ []))) ∷ (Lam (applied (Fam (pair_type 0)) ((App (Lam (Nat) (Pi (equation 0 Nat (Var 6) (Var 0)) (Fam 0))) (Var 5)) ∷
    (applied (Const (after 10)) ((Lam (Nat) (Pi (equation 0 Nat (Var 6) (Var 0)) (Fam 0))) ∷ (Var 5) ∷ [])) ∷ [])) (Lam (Fam (unit_type 0))
    (Var 1))) ∷ (applied (Elim 1 0) (Nat ∷ (Var 5) ∷ (Lam (Nat) (Lam (equation 0 Nat (Var 6) (Var 0)) (applied (Const (after 10))
    ((Lam (Nat) (Pi (equation 0 Nat (Var 8) (Var 0)) (Fam 0))) ∷ (Var 1) ∷ [])))) ∷ (App (Const (after 11)) (Var 5)) ∷ (suc_term
    (Var 5)) ∷ (Var 1) ∷ [])) ∷ [])) ∷ (reflexivity 0 Nat (Var 5)) ∷ [])) ∷ [])))) ∷ (suc_term (Var 3)) ∷ (Var 2) ∷
    (reflexivity 0 Nat (suc_term (Var 3))) ∷ (reflexivity 0 (equation 0 Nat (Var 3) (suc_term (Var 3))) (Var 2)) ∷ []))) ∷
    (Var 4) ∷ (Var 0) ∷ (Var 3) ∷ []))) ∷ (Lam (Nat) (Lam (equation 0 Nat (suc_term (Var 0)) (Var 4)) (applied (Elim 1 0)
    (Nat ∷ (suc_term (Var 1)) ∷ (Lam (Nat) (Lam (equation 0 Nat (suc_term (Var 2)) (Var 0)) (Pi (applied (Const (after 6))
    ((Const (after 7)) ∷ (Var 1) ∷ [])) (Nat)))) ∷ (Lam (applied (Const (after 6)) ((Const (after 7)) ∷ (suc_term (Var 1)) ∷ [])) (applied
    (Elim (pair_type 0) 0) ((App (Const (after 7)) (Var 2)) ∷ (applied (Const (after 6)) ((Const (after 7)) ∷ (Var 2) ∷ [])) ∷ (Lam (applied (Fam (pair_type 0))
    ((App (Const (after 7)) (Var 2)) ∷ (applied (Const (after 6)) ((Const (after 7)) ∷ (Var 2) ∷ [])) ∷ [])) (App (Const (after 7)) (Var 3))) ∷ (Lam
    (App (Const (after 7)) (Var 2)) (Lam (applied (Const (after 6)) ((Const (after 7)) ∷ (Var 3) ∷ [])) (Var 1))) ∷ (applied (Elim (pair_type 0) 0)
    ((applied (Fam (pair_type 0)) ((App (Const (after 7)) (Var 2)) ∷ (applied (Const (after 6)) ((Const (after 7)) ∷ (Var 2) ∷ [])) ∷ [])) ∷ (Fam (unit_type 0)) ∷
    (Lam (applied (Fam (pair_type 0)) ((applied (Fam (pair_type 0)) ((App (Const (after 7)) (Var 2)) ∷ (applied (Const (after 6)) ((Const (after 7)) ∷ (Var 2) ∷ []))
    ∷ [])) ∷ (Fam (unit_type 0)) ∷ [])) (applied (Fam (pair_type 0)) ((App (Const (after 7)) (Var 3)) ∷ (applied (Const (after 6)) ((Const (after 7)) ∷ (Var 3) ∷
    [])) ∷ []))) ∷ (Lam (applied (Fam (pair_type 0)) ((App (Const (after 7)) (Var 2)) ∷ (applied (Const (after 6)) ((Const (after 7)) ∷ (Var 2) ∷ [])) ∷
    [])) (Lam (Fam (unit_type 0)) (Var 1))) ∷ (Var 0) ∷ [])) ∷ (Var 4) ∷ (Var 3) ∷ []))) ∷ (Var 5) ∷ (Var 0) ∷ (Var 4) ∷ [])))) ∷
    (Var 3) ∷ (reflexivity 0 Nat (Var 3)) ∷ [])))))) ∷ draft (codes "cb") (after 6) (codes "Nat!rec.0" ∷ codes "cb!motive" ∷
    codes "cb!step" ∷ []) (Pi (Nat) (Pi (Nat) (Pi (equation 0 Nat (Var 0) (suc_term (Var 0))) (Nat)))) (Lam (Nat) (Lam
    (Nat) (Lam (equation 0 Nat (Var 0) (suc_term (Var 0))) (applied (Const (after 6)) ((Const (after 7)) ∷ (Const (after 8)) ∷ (Var 2) ∷ (Var
    1) ∷ (Var 0) ∷ []))))) ∷ []))
unfolding native.Mathlib.Decide.ℕ_discrete
row_cb = refl

abbrev plan_sl : Plan
plan_sl =
    plan_of (sample false) (after 6) (codes "sl") 0 (Pi (Nat) (equation 0 Nat (Var 0) (suc_term (Var 0))) ∷ Nat ∷ Nat ∷ equation
    0 Nat (Var 1) (suc_term (Var 0)) ∷ []) (Nat) (Some 1) (Is (vector (pattern.Bind ∷ pattern.Dot (suc_term (Var 0)) ∷
    pattern.Bind ∷ pattern.Con 1 0 pattern.nil ∷ [])) 2 (Side (Sort 0)) ∷ []) (App (App (App (App (own) (Var 1)) (Var 0))
    (Var 0)) (App (Var 1) (Var 0)) ∷ [])

row_sl : translate (sample false) plan_sl ≡ (Ok (draft (codes "sl!motive") (after 6) [] (Pi (Nat) (Sort 0)) (Lam (Nat) (Pi
    (Pi (Nat) (equation 0 Nat (Var 0) (suc_term (Var 0)))) (Pi (Nat) (Pi (equation 0 Nat (Var 2) (suc_term (Var 0)))
    (Nat))))) ∷ draft (codes "sl!step") (after 6) (codes "Nat!below.0" ∷ codes "sl!motive" ∷ codes "Eq.0!case.0" ∷ codes
    "Eq.0!left.0" ∷ []) (Pi (Nat) (Pi (applied (Const (after 6)) ((Const (after 7)) ∷ (Var 0) ∷ [])) (Pi (Pi (Nat) (equation 0 Nat (Var
    0) (suc_term (Var 0)))) (Pi (Nat) (Pi (equation 0 Nat (Var 3) (suc_term (Var 0))) (Nat)))))) (Lam (Nat) (Lam (applied
    (Const (after 6)) ((Const (after 7)) ∷ (Var 0) ∷ [])) (Lam (Pi (Nat) (equation 0 Nat (Var 0) (suc_term (Var 0)))) (Lam (Nat) (Lam
    (equation 0 Nat (Var 3) (suc_term (Var 0))) (applied (Const (after 8)) (Nat ∷ (Var 4) ∷ (Lam (Nat) (Lam (equation 0 Nat (Var
    5) (Var 0)) (Pi (equation 0 Nat (Var 1) (suc_term (Var 3))) (Pi (equation 0 (equation 0 Nat (Var 7) (suc_term (Var
    4))) (applied (Elim 1 0) (Nat ∷ (Var 2) ∷ (Lam (Nat) (Lam (equation 0 Nat (Var 3) (Var 0)) (Pi (equation 0 Nat (Var 9)
    (Var 4)) (equation 0 Nat (Var 10) (Var 2))))) ∷ (Lam (equation 0 Nat (Var 7) (Var 2)) (Var 0)) ∷ (suc_term (Var 4)) ∷
    (Var 0) ∷ (Var 1) ∷ [])) (Var 3)) (Nat))))) ∷ (Lam (equation 0 Nat (Var 4) (suc_term (Var 1))) (Lam (equation 0
    (equation 0 Nat (Var 5) (suc_term (Var 2))) (applied (Elim 1 0) (Nat ∷ (Var 5) ∷ (Lam (Nat) (Lam (equation 0 Nat (Var
    6) (Var 0)) (Pi (equation 0 Nat (Var 7) (Var 7)) (equation 0 Nat (Var 8) (Var 2))))) ∷ (Lam (equation 0 Nat (Var 5)
    (Var 5)) (Var 0)) ∷ (suc_term (Var 2)) ∷ (Var 0) ∷ (reflexivity 0 Nat (Var 5)) ∷ [])) (Var 1)) (applied (Const (after 9))
    (Nat ∷ (suc_term (Var 3)) ∷ (Lam (Nat) (Lam (equation 0 Nat (Var 0) (suc_term (Var 4))) (Pi (applied (Const (after 6))
    ((Const (after 7)) ∷ (Var 1) ∷ [])) (Pi (equation 0 Nat (Var 2) (suc_term (Var 6))) (Pi (equation 0 (equation 0 Nat (Var 3)
    (suc_term (Var 7))) (applied (Elim 1 0) (Nat ∷ (Var 3) ∷ (Lam (Nat) (Lam (equation 0 Nat (Var 4) (Var 0)) (Pi
    (equation 0 Nat (Var 5) (Var 5)) (equation 0 Nat (Var 6) (Var 2))))) ∷ (Lam (equation 0 Nat (Var 3) (Var 3)) (Var 0))
    ∷ (suc_term (Var 7)) ∷ (Var 2) ∷ (reflexivity 0 Nat (Var 3)) ∷ [])) (Var 0)) (Nat)))))) ∷ (Lam (applied (Const (after 6))
    ((Const (after 7)) ∷ (suc_term (Var 3)) ∷ [])) (Lam (equation 0 Nat (suc_term (Var 4)) (suc_term (Var 4))) (Lam (equation 0
    (equation 0 Nat (suc_term (Var 5)) (suc_term (Var 5))) (applied (Elim 1 0) (Nat ∷ (suc_term (Var 5)) ∷ (Lam (Nat) (Lam
    (equation 0 Nat (suc_term (Var 6)) (Var 0)) (Pi (equation 0 Nat (suc_term (Var 7)) (suc_term (Var 7))) (equation 0 Nat
    (suc_term (Var 8)) (Var 2))))) ∷ (Lam (equation 0 Nat (suc_term (Var 5)) (suc_term (Var 5))) (Var 0)) ∷ (suc_term (Var
    5)) ∷ (reflexivity 0 Nat (suc_term (Var 5))) ∷ (reflexivity 0 Nat (suc_term (Var 5))) ∷ [])) (Var 0)) (applied (Elim 1
    0) ((equation 0 Nat (suc_term (Var 6)) (suc_term (Var 6))) ∷ (reflexivity 0 Nat (suc_term (Var 6))) ∷ (Lam (equation 0
    Nat (suc_term (Var 6)) (suc_term (Var 6))) (Lam (equation 0 (equation 0 Nat (suc_term (Var 7)) (suc_term (Var 7)))
    (reflexivity 0 Nat (suc_term (Var 7))) (Var 0)) (Nat))) ∷ (applied (Elim (pair_type 0) 0) ((App (Const (after 7)) (Var 6)) ∷ (applied
    (Const (after 6)) ((Const (after 7)) ∷ (Var 6) ∷ [])) ∷ (Lam (applied (Fam (pair_type 0)) ((App (Const (after 7)) (Var 6)) ∷ (applied (Const (after 6))
    ((Const (after 7)) ∷ (Var 6) ∷ [])) ∷ [])) (App (Const (after 7)) (Var 7))) ∷ (Lam (App (Const (after 7)) (Var 6)) (Lam (applied (Const (after 6))
    ((Const (after 7)) ∷ (Var 7) ∷ [])) (Var 1))) ∷ (applied (Elim (pair_type 0) 0) ((applied (Fam (pair_type 0)) ((App (Const (after 7)) (Var 6)) ∷ (applied
    (Const (after 6)) ((Const (after 7)) ∷ (Var 6) ∷ [])) ∷ [])) ∷ (Fam (unit_type 0)) ∷ (Lam (applied (Fam (pair_type 0)) ((applied (Fam (pair_type 0)) ((App (Const (after 7))
    (Var 6)) ∷ (applied (Const (after 6)) ((Const (after 7)) ∷ (Var 6) ∷ [])) ∷ [])) ∷ (Fam (unit_type 0)) ∷ [])) (applied (Fam (pair_type 0)) ((App (Const
    (after 7)) (Var 7)) ∷ (applied (Const (after 6)) ((Const (after 7)) ∷ (Var 7) ∷ [])) ∷ []))) ∷ (Lam (applied (Fam (pair_type 0)) ((App (Const (after 7)) (Var
    6)) ∷ (applied (Const (after 6)) ((Const (after 7)) ∷ (Var 6) ∷ [])) ∷ [])) (Lam (Fam (unit_type 0)) (Var 1))) ∷ (Var 2) ∷ [])) ∷ (Var 7) ∷
    (Var 6) ∷ (App (Var 7) (Var 6)) ∷ [])) ∷ (Var 1) ∷ (Var 0) ∷ []))))) ∷ (Var 6) ∷ (Var 1) ∷ (Var 5) ∷ (Var 2) ∷ (Var 0)
    ∷ [])))) ∷ (suc_term (Var 1)) ∷ (Var 0) ∷ (reflexivity 0 Nat (suc_term (Var 1))) ∷ (reflexivity 0 (equation 0 Nat (Var
    4) (suc_term (Var 1))) (Var 0)) ∷ []))))))) ∷ draft (codes "sl") (after 6) (codes "Nat!rec.0" ∷ codes "sl!motive" ∷ codes
    "sl!step" ∷ []) (Pi (Pi (Nat) (equation 0 Nat (Var 0) (suc_term (Var 0)))) (Pi (Nat) (Pi (Nat) (Pi (equation 0 Nat
    (Var 1) (suc_term (Var 0))) (Nat))))) (Lam (Pi (Nat) (equation 0 Nat (Var 0) (suc_term (Var 0)))) (Lam (Nat) (Lam
    (Nat) (Lam (equation 0 Nat (Var 1) (suc_term (Var 0))) (applied (Const (after 6)) ((Const (after 7)) ∷ (Const (after 8)) ∷ (Var 2) ∷ (Var
    3) ∷ (Var 1) ∷ (Var 0) ∷ [])))))) ∷ []))
unfolding native.Mathlib.Decide.ℕ_discrete
row_sl = refl

abbrev plan_db : Plan
plan_db =
    plan_of (sample true) (after 6) (codes "db") 1 (Nat ∷ Sort 0 ∷ Var 0 ∷ equation 0 (Var 1) (Var 0) (Var 0) ∷ []) (Nat) (Some
    0) (Is (vector (pattern.Con (after 0) 0 pattern.nil ∷ pattern.Bind ∷ pattern.Bind ∷ pattern.Con 1 0 pattern.nil ∷ [])) 2
    (Side (Sort 0)) ∷ Is (vector (pattern.Con (after 0) 1 (vector (pattern.Bind ∷ [])) ∷ pattern.Bind ∷ pattern.Bind ∷
    pattern.Con 1 0 pattern.nil ∷ [])) 3 (Side (Sort 0)) ∷ []) (Con (after 0) 0 ∷ suc_term (App (App (App (App (own) (Var 2))
    (Var 1)) (Var 0)) (reflexivity 0 (Var 1) (Var 0))) ∷ [])

row_db : translate (sample true) plan_db ≡ (Ok (draft (codes "db!motive") (after 6) [] (Pi (Nat) (Sort 1)) (Lam (Nat) (Pi
    (Sort 0) (Pi (Var 0) (Pi (equation 0 (Var 1) (Var 0) (Var 0)) (Nat))))) ∷ draft (codes "db!step") (after 6) (codes
    "Nat!below.1" ∷ codes "db!motive" ∷ codes "Nat!case.1" ∷ codes "Eq.0!case.1" ∷ []) (Pi (Nat) (Pi (applied (Const (after 6))
    ((Const (after 7)) ∷ (Var 0) ∷ [])) (Pi (Sort 0) (Pi (Var 0) (Pi (equation 0 (Var 1) (Var 0) (Var 0)) (Nat)))))) (Lam (Nat)
    (Lam (applied (Const (after 6)) ((Const (after 7)) ∷ (Var 0) ∷ [])) (Lam (Sort 0) (Lam (Var 0) (Lam (equation 0 (Var 1) (Var 0) (Var
    0)) (applied (Const (after 8)) ((Lam (Nat) (Pi (equation 0 Nat (Var 0) (Var 5)) (Nat))) ∷ (Lam (equation 0 Nat (Con (after 0) 0)
    (Var 4)) (applied (Elim 1 1) (Nat ∷ (Con (after 0) 0) ∷ (Lam (Nat) (Lam (equation 0 Nat (Con (after 0) 0) (Var 0)) (Pi (applied
    (Const (after 6)) ((Const (after 7)) ∷ (Var 1) ∷ [])) (Nat)))) ∷ (Lam (applied (Const (after 6)) ((Const (after 7)) ∷ (Con (after 0) 0) ∷ [])) (applied
    (Const (after 9)) ((Var 4) ∷ (Var 3) ∷ (Lam (Var 4) (Lam (equation 0 (Var 5) (Var 4) (Var 0)) (Pi (equation 0 (Var 6) (Var 1)
    (Var 5)) (Pi (equation 0 (equation 0 (Var 7) (Var 6) (Var 6)) (applied (Elim 1 0) ((Var 7) ∷ (Var 2) ∷ (Lam (Var 7)
    (Lam (equation 0 (Var 8) (Var 3) (Var 0)) (Pi (equation 0 (Var 9) (Var 8) (Var 4)) (equation 0 (Var 10) (Var 9) (Var
    2))))) ∷ (Lam (equation 0 (Var 7) (Var 6) (Var 2)) (Var 0)) ∷ (Var 6) ∷ (Var 0) ∷ (Var 1) ∷ [])) (Var 5)) (Nat))))) ∷
    (Lam (equation 0 (Var 4) (Var 3) (Var 3)) (Lam (equation 0 (equation 0 (Var 5) (Var 4) (Var 4)) (applied (Elim 1 0)
    ((Var 5) ∷ (Var 4) ∷ (Lam (Var 5) (Lam (equation 0 (Var 6) (Var 5) (Var 0)) (Pi (equation 0 (Var 7) (Var 6) (Var 6))
    (equation 0 (Var 8) (Var 7) (Var 2))))) ∷ (Lam (equation 0 (Var 5) (Var 4) (Var 4)) (Var 0)) ∷ (Var 4) ∷ (Var 0) ∷
    (reflexivity 0 (Var 5) (Var 4)) ∷ [])) (Var 3)) (applied (AxiomK 0 1) ((Var 6) ∷ (Var 5) ∷ (Lam (equation 0 (Var 6)
    (Var 5) (Var 5)) (Pi (equation 0 (equation 0 (Var 7) (Var 6) (Var 6)) (applied (Elim 1 0) ((Var 7) ∷ (Var 6) ∷ (Lam
    (Var 7) (Lam (equation 0 (Var 8) (Var 7) (Var 0)) (Pi (equation 0 (Var 9) (Var 8) (Var 8)) (equation 0 (Var 10) (Var
    9) (Var 2))))) ∷ (Lam (equation 0 (Var 7) (Var 6) (Var 6)) (Var 0)) ∷ (Var 6) ∷ (Var 0) ∷ (reflexivity 0 (Var 7) (Var
    6)) ∷ [])) (Var 5)) (Nat))) ∷ (Lam (equation 0 (equation 0 (Var 6) (Var 5) (Var 5)) (applied (Elim 1 0) ((Var 6) ∷
    (Var 5) ∷ (Lam (Var 6) (Lam (equation 0 (Var 7) (Var 6) (Var 0)) (Pi (equation 0 (Var 8) (Var 7) (Var 7)) (equation 0
    (Var 9) (Var 8) (Var 2))))) ∷ (Lam (equation 0 (Var 6) (Var 5) (Var 5)) (Var 0)) ∷ (Var 5) ∷ (reflexivity 0 (Var 6)
    (Var 5)) ∷ (reflexivity 0 (Var 6) (Var 5)) ∷ [])) (Var 4)) (applied (Elim 1 1) ((equation 0 (Var 7) (Var 6) (Var 6)) ∷
    (reflexivity 0 (Var 7) (Var 6)) ∷ (Lam (equation 0 (Var 7) (Var 6) (Var 6)) (Lam (equation 0 (equation 0 (Var 8) (Var
    7) (Var 7)) (reflexivity 0 (Var 8) (Var 7)) (Var 0)) (Nat))) ∷ (Con (after 0) 0) ∷ (Var 5) ∷ (Var 0) ∷ []))) ∷ (Var 1) ∷ (Var
    0) ∷ [])))) ∷ (Var 3) ∷ (Var 2) ∷ (reflexivity 0 (Var 4) (Var 3)) ∷ (reflexivity 0 (equation 0 (Var 4) (Var 3) (Var
    3)) (Var 2)) ∷ []))) ∷ (Var 5) ∷ (Var 0) ∷ (Var 4) ∷ []))) ∷ (Lam (Nat) (Lam (equation 0 Nat (suc_term (Var 0)) (Var
    5)) (applied (Elim 1 1) (Nat ∷ (suc_term (Var 1)) ∷ (Lam (Nat) (Lam (equation 0 Nat (suc_term (Var 2)) (Var 0)) (Pi
    (applied (Const (after 6)) ((Const (after 7)) ∷ (Var 1) ∷ [])) (Nat)))) ∷ (Lam (applied (Const (after 6)) ((Const (after 7)) ∷ (suc_term (Var 1))
    ∷ [])) (applied (Const (after 9)) ((Var 5) ∷ (Var 4) ∷ (Lam (Var 5) (Lam (equation 0 (Var 6) (Var 5) (Var 0)) (Pi (equation 0
    (Var 7) (Var 1) (Var 6)) (Pi (equation 0 (equation 0 (Var 8) (Var 7) (Var 7)) (applied (Elim 1 0) ((Var 8) ∷ (Var 2) ∷
    (Lam (Var 8) (Lam (equation 0 (Var 9) (Var 3) (Var 0)) (Pi (equation 0 (Var 10) (Var 9) (Var 4)) (equation 0 (Var 11)
    (Var 10) (Var 2))))) ∷ (Lam (equation 0 (Var 8) (Var 7) (Var 2)) (Var 0)) ∷ (Var 7) ∷ (Var 0) ∷ (Var 1) ∷ [])) (Var
    6)) (Nat))))) ∷ (Lam (equation 0 (Var 5) (Var 4) (Var 4)) (Lam (equation 0 (equation 0 (Var 6) (Var 5) (Var 5))
    (applied (Elim 1 0) ((Var 6) ∷ (Var 5) ∷ (Lam (Var 6) (Lam (equation 0 (Var 7) (Var 6) (Var 0)) (Pi (equation 0 (Var
    8) (Var 7) (Var 7)) (equation 0 (Var 9) (Var 8) (Var 2))))) ∷ (Lam (equation 0 (Var 6) (Var 5) (Var 5)) (Var 0)) ∷
    (Var 5) ∷ (Var 0) ∷ (reflexivity 0 (Var 6) (Var 5)) ∷ [])) (Var 4)) (applied (AxiomK 0 1) ((Var 7) ∷ (Var 6) ∷ (Lam
    (equation 0 (Var 7) (Var 6) (Var 6)) (Pi (equation 0 (equation 0 (Var 8) (Var 7) (Var 7)) (applied (Elim 1 0) ((Var 8)
    ∷ (Var 7) ∷ (Lam (Var 8) (Lam (equation 0 (Var 9) (Var 8) (Var 0)) (Pi (equation 0 (Var 10) (Var 9) (Var 9)) (equation
    0 (Var 11) (Var 10) (Var 2))))) ∷ (Lam (equation 0 (Var 8) (Var 7) (Var 7)) (Var 0)) ∷ (Var 7) ∷ (Var 0) ∷
    (reflexivity 0 (Var 8) (Var 7)) ∷ [])) (Var 6)) (Nat))) ∷ (Lam (equation 0 (equation 0 (Var 7) (Var 6) (Var 6))
    (applied (Elim 1 0) ((Var 7) ∷ (Var 6) ∷ (Lam (Var 7) (Lam (equation 0 (Var 8) (Var 7) (Var 0)) (Pi (equation 0 (Var
    9) (Var 8) (Var 8)) (equation 0 (Var 10) (Var 9) (Var 2))))) ∷ (Lam (equation 0 (Var 7) (Var 6) (Var 6)) (Var 0)) ∷
    (Var 6) ∷ (reflexivity 0 (Var 7) (Var 6)) ∷ (reflexivity 0 (Var 7) (Var 6)) ∷ [])) (Var 5)) (applied (Elim 1 1)
    ((equation 0 (Var 8) (Var 7) (Var 7)) ∷ (reflexivity 0 (Var 8) (Var 7)) ∷ (Lam (equation 0 (Var 8) (Var 7) (Var 7))
    (Lam (equation 0 (equation 0 (Var 9) (Var 8) (Var 8)) (reflexivity 0 (Var 9) (Var 8)) (Var 0)) (Nat))) ∷ (suc_term
    (applied (Elim (pair_type 1) 1) ((App (Const (after 7)) (Var 5)) ∷ (applied (Const (after 6)) ((Const (after 7)) ∷ (Var 5) ∷ [])) ∷ (Lam (applied (Fam
    (pair_type 1)) ((App (Const (after 7)) (Var 5)) ∷ (applied (Const (after 6)) ((Const (after 7)) ∷ (Var 5) ∷ [])) ∷ [])) (App (Const (after 7)) (Var 6))) ∷
    (Lam (App (Const (after 7)) (Var 5)) (Lam (applied (Const (after 6)) ((Const (after 7)) ∷ (Var 6) ∷ [])) (Var 1))) ∷ (applied (Elim (pair_type 1) 1)
    ((applied (Fam (pair_type 1)) ((App (Const (after 7)) (Var 5)) ∷ (applied (Const (after 6)) ((Const (after 7)) ∷ (Var 5) ∷ [])) ∷ [])) ∷ (Fam (unit_type 1)) ∷
    (Lam (applied (Fam (pair_type 1)) ((applied (Fam (pair_type 1)) ((App (Const (after 7)) (Var 5)) ∷ (applied (Const (after 6)) ((Const (after 7)) ∷ (Var 5) ∷ []))
    ∷ [])) ∷ (Fam (unit_type 1)) ∷ [])) (applied (Fam (pair_type 1)) ((App (Const (after 7)) (Var 6)) ∷ (applied (Const (after 6)) ((Const (after 7)) ∷ (Var 6) ∷
    [])) ∷ []))) ∷ (Lam (applied (Fam (pair_type 1)) ((App (Const (after 7)) (Var 5)) ∷ (applied (Const (after 6)) ((Const (after 7)) ∷ (Var 5) ∷ [])) ∷
    [])) (Lam (Fam (unit_type 1)) (Var 1))) ∷ (Var 3) ∷ [])) ∷ (Var 8) ∷ (Var 7) ∷ (reflexivity 0 (Var 8) (Var 7)) ∷ []))) ∷ (Var 6)
    ∷ (Var 0) ∷ []))) ∷ (Var 1) ∷ (Var 0) ∷ [])))) ∷ (Var 4) ∷ (Var 3) ∷ (reflexivity 0 (Var 5) (Var 4)) ∷ (reflexivity 0
    (equation 0 (Var 5) (Var 4) (Var 4)) (Var 3)) ∷ []))) ∷ (Var 6) ∷ (Var 0) ∷ (Var 5) ∷ [])))) ∷ (Var 4) ∷ (reflexivity
    0 Nat (Var 4)) ∷ []))))))) ∷ draft (codes "db") (after 6) (codes "Nat!rec.1" ∷ codes "db!motive" ∷ codes "db!step" ∷ []) (Pi
    (Nat) (Pi (Sort 0) (Pi (Var 0) (Pi (equation 0 (Var 1) (Var 0) (Var 0)) (Nat))))) (Lam (Nat) (Lam (Sort 0) (Lam (Var
    0) (Lam (equation 0 (Var 1) (Var 0) (Var 0)) (applied (Const (after 6)) ((Const (after 7)) ∷ (Const (after 8)) ∷ (Var 3) ∷ (Var 2) ∷ (Var
    1) ∷ (Var 0) ∷ [])))))) ∷ []))
unfolding native.Mathlib.Decide.ℕ_discrete
row_db = refl
