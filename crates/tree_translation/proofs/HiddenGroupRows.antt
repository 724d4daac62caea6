-- Entries of a recursive function whose branches are solved by groups, as another implementation prints them.
use native.Mathlib.Decide.{ℕ_discrete}
use Rattle.std.proofs.Common.{◌≡◌, false, Some, Ok, [], ◌∷◌, refl, codes}
use Rattle.theory.specs.Terms.Term.{Var, Sort, Pi, Lam, App, Con, Fam, Elim, Const}
use Rattle.theory.specs.Telescopes.{applied}
use Rattle.theory.specs.Signatures.{equation, reflexivity, FamilyOf}
use Rattle.theory.specs.Prelude.{unit_type, pair_type}
use Rattle.theory.proofs.AfterPrelude.{after}
use Rattle.core_terms.specs.Clauses.{Is, Side}
use Rattle.core_terms.specs.Patterns as pattern
use Rattle.core_terms.specs.Patterns.{vector}
use Rattle.tree_translation.specs.Plans.{Plan}
use Rattle.tree_translation.specs.Entries.{translate}
use Rattle.tree_translation.proofs.Samples.{sample, behind, has_family, Nat, suc_term, Fin, draft, plan_of}

abbrev plan_gd : Plan
plan_gd =
    plan_of (behind (sample false) (FamilyOf has_family ∷ [])) (after 7) (codes "gd") 0 (Nat ∷ Nat ∷ Fin (Var 0) ∷ App (App (Fam
    (after 6)) (suc_term (Var 1))) (App (App (Con (after 3) 1) (Var 1)) (Var 0)) ∷ []) (Nat) (Some 0) (Is (vector (pattern.Con (after 0) 0
    pattern.nil ∷ pattern.Bind ∷ pattern.Bind ∷ pattern.Bind ∷ [])) 3 (Side (Sort 0)) ∷ Is (vector (pattern.Con (after 0) 1
    (vector (pattern.Bind ∷ [])) ∷ pattern.Bind ∷ pattern.Bind ∷ pattern.Con (after 6) 1 (vector (pattern.Dot (Var 2) ∷
    pattern.Dot (Var 1) ∷ pattern.Bind ∷ [])) ∷ [])) 4 (Side (Sort 0)) ∷ []) (Con (after 0) 0 ∷ App (App (App (App (Const (after 7))
    (Var 3)) (Var 2)) (Var 1)) (App (App (App (Con (after 6) 1) (Var 2)) (Var 1)) (Var 0)) ∷ [])

row_gd : translate (behind (sample false) (FamilyOf has_family ∷ [])) plan_gd ≡ (Ok (draft (codes "gd!motive") (after 7) []
    (Pi (Nat) (Sort 0)) (Lam (Nat) (Pi (Nat) (Pi (Fin (Var 0)) (Pi (applied (Fam (after 6)) ((suc_term (Var 1)) ∷ (applied (Con
    (after 3) 1) ((Var 1) ∷ (Var 0) ∷ [])) ∷ [])) (Nat))))) ∷ draft (codes "gd!step") (after 7) (codes "Nat!below.0" ∷ codes "gd!motive"
    ∷ codes "Nat!case.0" ∷ codes "Has!case.0" ∷ codes "Fin!noconf.fzero.0" ∷ codes "Fin!noconf.fsuc.0" ∷ []) (Pi (Nat) (Pi
    (applied (Const (after 7)) ((Const (after 8)) ∷ (Var 0) ∷ [])) (Pi (Nat) (Pi (Fin (Var 0)) (Pi (applied (Fam (after 6)) ((suc_term (Var 1))
    ∷ (applied (Con (after 3) 1) ((Var 1) ∷ (Var 0) ∷ [])) ∷ [])) (Nat)))))) (Lam (Nat) (Lam (applied (Const (after 7)) ((Const (after 8)) ∷
    (Var 0) ∷ [])) (Lam (Nat) (Lam (Fin (Var 0)) (Lam (applied (Fam (after 6)) ((suc_term (Var 1)) ∷ (applied (Con (after 3) 1) ((Var 1)
    ∷ (Var 0) ∷ [])) ∷ [])) (applied (Const (after 9)) ((Lam (Nat) (Pi (equation 0 Nat (Var 0) (Var 5)) (Nat))) ∷ (Lam (equation
    0 Nat (Con (after 0) 0) (Var 4)) (applied (Elim 1 0) (Nat ∷ (Con (after 0) 0) ∷ (Lam (Nat) (Lam (equation 0 Nat (Con (after 0) 0) (Var 0))
    (Pi (applied (Const (after 7)) ((Const (after 8)) ∷ (Var 1) ∷ [])) (Nat)))) ∷ (Lam (applied (Const (after 7)) ((Const (after 8)) ∷ (Con (after 0) 0) ∷
    [])) (Con (after 0) 0)) ∷ (Var 5) ∷ (Var 0) ∷ (Var 4) ∷ []))) ∷ (Lam (Nat) (Lam (equation 0 Nat (suc_term (Var 0)) (Var 5))
    (applied (Elim 1 0) (Nat ∷ (suc_term (Var 1)) ∷ (Lam (Nat) (Lam (equation 0 Nat (suc_term (Var 2)) (Var 0)) (Pi
    (applied (Const (after 7)) ((Const (after 8)) ∷ (Var 1) ∷ [])) (Nat)))) ∷ (Lam (applied (Const (after 7)) ((Const (after 8)) ∷ (suc_term (Var 1))
    ∷ [])) (applied (Const (after 10)) ((Lam (Nat) (Lam (Fin (Var 0)) (Lam (applied (Fam (after 6)) ((Var 1) ∷ (Var 0) ∷ [])) (Pi
    (equation 0 Nat (Var 2) (suc_term (Var 8))) (Pi (equation 0 (Fin (suc_term (Var 9))) (applied (Elim 1 0) (Nat ∷ (Var
    3) ∷ (Lam (Nat) (Lam (equation 0 Nat (Var 4) (Var 0)) (Pi (Fin (Var 5)) (Fin (Var 2))))) ∷ (Lam (Fin (Var 3)) (Var 0))
    ∷ (suc_term (Var 9)) ∷ (Var 0) ∷ (Var 2) ∷ [])) (applied (Con (after 3) 1) ((Var 9) ∷ (Var 8) ∷ []))) (Pi (equation 0
    (applied (Fam (after 6)) ((suc_term (Var 10)) ∷ (applied (Con (after 3) 1) ((Var 10) ∷ (Var 9) ∷ [])) ∷ [])) (applied (Elim 1 0)
    (Nat ∷ (Var 4) ∷ (Lam (Nat) (Lam (equation 0 Nat (Var 5) (Var 0)) (Pi (Fin (Var 1)) (Pi (equation 0 (Fin (Var 2))
    (applied (Elim 1 0) (Nat ∷ (Var 7) ∷ (Lam (Nat) (Lam (equation 0 Nat (Var 8) (Var 0)) (Pi (Fin (Var 9)) (Fin (Var
    2))))) ∷ (Lam (Fin (Var 7)) (Var 0)) ∷ (Var 2) ∷ (Var 1) ∷ (Var 6) ∷ [])) (Var 0)) (Pi (applied (Fam (after 6)) ((Var 8) ∷
    (Var 7) ∷ [])) (applied (Fam (after 6)) ((Var 4) ∷ (Var 2) ∷ []))))))) ∷ (Lam (Fin (Var 4)) (Lam (equation 0 (Fin (Var 5))
    (applied (Elim 1 0) (Nat ∷ (Var 5) ∷ (Lam (Nat) (Lam (equation 0 Nat (Var 6) (Var 0)) (Pi (Fin (Var 7)) (Fin (Var
    2))))) ∷ (Lam (Fin (Var 5)) (Var 0)) ∷ (Var 5) ∷ (reflexivity 0 Nat (Var 5)) ∷ (Var 4) ∷ [])) (Var 0)) (applied (Elim
    1 0) ((Fin (Var 6)) ∷ (Var 5) ∷ (Lam (Fin (Var 6)) (Lam (equation 0 (Fin (Var 7)) (Var 6) (Var 0)) (Pi (applied (Fam
    (after 6)) ((Var 8) ∷ (Var 7) ∷ [])) (applied (Fam (after 6)) ((Var 9) ∷ (Var 2) ∷ []))))) ∷ (Lam (applied (Fam (after 6)) ((Var 6) ∷ (Var
    5) ∷ [])) (Var 0)) ∷ (Var 1) ∷ (Var 0) ∷ [])))) ∷ (suc_term (Var 10)) ∷ (Var 1) ∷ (applied (Con (after 3) 1) ((Var 10) ∷ (Var
    9) ∷ [])) ∷ (Var 0) ∷ (Var 2) ∷ [])) (Var 8)) (Nat))))))) ∷ (Lam (Nat) (Lam (equation 0 Nat (suc_term (Var 0))
    (suc_term (Var 6))) (Lam (equation 0 (Fin (suc_term (Var 7))) (applied (Elim 1 0) (Nat ∷ (suc_term (Var 1)) ∷ (Lam
    (Nat) (Lam (equation 0 Nat (suc_term (Var 2)) (Var 0)) (Pi (Fin (suc_term (Var 3))) (Fin (Var 2))))) ∷ (Lam (Fin
    (suc_term (Var 1))) (Var 0)) ∷ (suc_term (Var 7)) ∷ (Var 0) ∷ (App (Con (after 3) 0) (Var 1)) ∷ [])) (applied (Con (after 3) 1)
    ((Var 7) ∷ (Var 6) ∷ []))) (Lam (equation 0 (applied (Fam (after 6)) ((suc_term (Var 8)) ∷ (applied (Con (after 3) 1) ((Var 8) ∷
    (Var 7) ∷ [])) ∷ [])) (applied (Elim 1 0) (Nat ∷ (suc_term (Var 2)) ∷ (Lam (Nat) (Lam (equation 0 Nat (suc_term (Var
    3)) (Var 0)) (Pi (Fin (Var 1)) (Pi (equation 0 (Fin (Var 2)) (applied (Elim 1 0) (Nat ∷ (suc_term (Var 5)) ∷ (Lam
    (Nat) (Lam (equation 0 Nat (suc_term (Var 6)) (Var 0)) (Pi (Fin (suc_term (Var 7))) (Fin (Var 2))))) ∷ (Lam (Fin
    (suc_term (Var 5))) (Var 0)) ∷ (Var 2) ∷ (Var 1) ∷ (App (Con (after 3) 0) (Var 5)) ∷ [])) (Var 0)) (Pi (applied (Fam (after 6))
    ((suc_term (Var 6)) ∷ (App (Con (after 3) 0) (Var 6)) ∷ [])) (applied (Fam (after 6)) ((Var 4) ∷ (Var 2) ∷ []))))))) ∷ (Lam (Fin
    (suc_term (Var 2))) (Lam (equation 0 (Fin (suc_term (Var 3))) (applied (Elim 1 0) (Nat ∷ (suc_term (Var 3)) ∷ (Lam
    (Nat) (Lam (equation 0 Nat (suc_term (Var 4)) (Var 0)) (Pi (Fin (suc_term (Var 5))) (Fin (Var 2))))) ∷ (Lam (Fin
    (suc_term (Var 3))) (Var 0)) ∷ (suc_term (Var 3)) ∷ (reflexivity 0 Nat (suc_term (Var 3))) ∷ (App (Con (after 3) 0) (Var 3))
    ∷ [])) (Var 0)) (applied (Elim 1 0) ((Fin (suc_term (Var 4))) ∷ (App (Con (after 3) 0) (Var 4)) ∷ (Lam (Fin (suc_term (Var
    4))) (Lam (equation 0 (Fin (suc_term (Var 5))) (App (Con (after 3) 0) (Var 5)) (Var 0)) (Pi (applied (Fam (after 6)) ((suc_term (Var
    6)) ∷ (App (Con (after 3) 0) (Var 6)) ∷ [])) (applied (Fam (after 6)) ((suc_term (Var 7)) ∷ (Var 2) ∷ []))))) ∷ (Lam (applied (Fam
    (after 6)) ((suc_term (Var 4)) ∷ (App (Con (after 3) 0) (Var 4)) ∷ [])) (Var 0)) ∷ (Var 1) ∷ (Var 0) ∷ [])))) ∷ (suc_term (Var 8)) ∷
    (Var 1) ∷ (applied (Con (after 3) 1) ((Var 8) ∷ (Var 7) ∷ [])) ∷ (Var 0) ∷ (App (Con (after 6) 0) (Var 2)) ∷ [])) (Var 6)) (applied
    (Const (after 11)) ((Var 3) ∷ (suc_term (Var 9)) ∷ (applied (Con (after 3) 1) ((Var 9) ∷ (Var 8) ∷ [])) ∷ (Var 2) ∷ (Var 1) ∷ (Lam
    (equation 0 Nat (suc_term (Var 3)) (suc_term (Var 9))) (Lam (equation 0 (Fin (suc_term (Var 10))) (applied (Elim 1 0)
    (Nat ∷ (suc_term (Var 4)) ∷ (Lam (Nat) (Lam (equation 0 Nat (suc_term (Var 5)) (Var 0)) (Pi (Fin (suc_term (Var 6)))
    (Fin (Var 2))))) ∷ (Lam (Fin (suc_term (Var 4))) (Var 0)) ∷ (suc_term (Var 10)) ∷ (Var 0) ∷ (App (Con (after 3) 0) (Var 4)) ∷
    [])) (applied (Con (after 3) 1) ((Var 10) ∷ (Var 9) ∷ []))) (Nat))) ∷ [])))))) ∷ (Lam (Nat) (Lam (Fin (Var 0)) (Lam (applied
    (Fam (after 6)) ((Var 1) ∷ (Var 0) ∷ [])) (Lam (equation 0 Nat (suc_term (Var 2)) (suc_term (Var 8))) (Lam (equation 0 (Fin
    (suc_term (Var 9))) (applied (Elim 1 0) (Nat ∷ (suc_term (Var 3)) ∷ (Lam (Nat) (Lam (equation 0 Nat (suc_term (Var 4))
    (Var 0)) (Pi (Fin (suc_term (Var 5))) (Fin (Var 2))))) ∷ (Lam (Fin (suc_term (Var 3))) (Var 0)) ∷ (suc_term (Var 9)) ∷
    (Var 0) ∷ (applied (Con (after 3) 1) ((Var 3) ∷ (Var 2) ∷ [])) ∷ [])) (applied (Con (after 3) 1) ((Var 9) ∷ (Var 8) ∷ []))) (Lam
    (equation 0 (applied (Fam (after 6)) ((suc_term (Var 10)) ∷ (applied (Con (after 3) 1) ((Var 10) ∷ (Var 9) ∷ [])) ∷ [])) (applied
    (Elim 1 0) (Nat ∷ (suc_term (Var 4)) ∷ (Lam (Nat) (Lam (equation 0 Nat (suc_term (Var 5)) (Var 0)) (Pi (Fin (Var 1))
    (Pi (equation 0 (Fin (Var 2)) (applied (Elim 1 0) (Nat ∷ (suc_term (Var 7)) ∷ (Lam (Nat) (Lam (equation 0 Nat
    (suc_term (Var 8)) (Var 0)) (Pi (Fin (suc_term (Var 9))) (Fin (Var 2))))) ∷ (Lam (Fin (suc_term (Var 7))) (Var 0)) ∷
    (Var 2) ∷ (Var 1) ∷ (applied (Con (after 3) 1) ((Var 7) ∷ (Var 6) ∷ [])) ∷ [])) (Var 0)) (Pi (applied (Fam (after 6)) ((suc_term
    (Var 8)) ∷ (applied (Con (after 3) 1) ((Var 8) ∷ (Var 7) ∷ [])) ∷ [])) (applied (Fam (after 6)) ((Var 4) ∷ (Var 2) ∷ []))))))) ∷
    (Lam (Fin (suc_term (Var 4))) (Lam (equation 0 (Fin (suc_term (Var 5))) (applied (Elim 1 0) (Nat ∷ (suc_term (Var 5))
    ∷ (Lam (Nat) (Lam (equation 0 Nat (suc_term (Var 6)) (Var 0)) (Pi (Fin (suc_term (Var 7))) (Fin (Var 2))))) ∷ (Lam
    (Fin (suc_term (Var 5))) (Var 0)) ∷ (suc_term (Var 5)) ∷ (reflexivity 0 Nat (suc_term (Var 5))) ∷ (applied (Con (after 3) 1)
    ((Var 5) ∷ (Var 4) ∷ [])) ∷ [])) (Var 0)) (applied (Elim 1 0) ((Fin (suc_term (Var 6))) ∷ (applied (Con (after 3) 1) ((Var 6)
    ∷ (Var 5) ∷ [])) ∷ (Lam (Fin (suc_term (Var 6))) (Lam (equation 0 (Fin (suc_term (Var 7))) (applied (Con (after 3) 1) ((Var
    7) ∷ (Var 6) ∷ [])) (Var 0)) (Pi (applied (Fam (after 6)) ((suc_term (Var 8)) ∷ (applied (Con (after 3) 1) ((Var 8) ∷ (Var 7) ∷ []))
    ∷ [])) (applied (Fam (after 6)) ((suc_term (Var 9)) ∷ (Var 2) ∷ []))))) ∷ (Lam (applied (Fam (after 6)) ((suc_term (Var 6)) ∷
    (applied (Con (after 3) 1) ((Var 6) ∷ (Var 5) ∷ [])) ∷ [])) (Var 0)) ∷ (Var 1) ∷ (Var 0) ∷ [])))) ∷ (suc_term (Var 10)) ∷
    (Var 1) ∷ (applied (Con (after 3) 1) ((Var 10) ∷ (Var 9) ∷ [])) ∷ (Var 0) ∷ (applied (Con (after 6) 1) ((Var 4) ∷ (Var 3) ∷ (Var 2)
    ∷ [])) ∷ [])) (Var 8)) (applied (Const (after 12)) ((Var 5) ∷ (Var 4) ∷ (suc_term (Var 11)) ∷ (applied (Con (after 3) 1) ((Var 11) ∷
    (Var 10) ∷ [])) ∷ (Var 2) ∷ (Var 1) ∷ (Lam (equation 0 Nat (suc_term (Var 5)) (suc_term (Var 11))) (Lam (equation 0
    (Fin (suc_term (Var 12))) (applied (Elim 1 0) (Nat ∷ (suc_term (Var 6)) ∷ (Lam (Nat) (Lam (equation 0 Nat (suc_term
    (Var 7)) (Var 0)) (Pi (Fin (suc_term (Var 8))) (Fin (Var 2))))) ∷ (Lam (Fin (suc_term (Var 6))) (Var 0)) ∷ (suc_term
    (Var 12)) ∷ (Var 0) ∷ (applied (Con (after 3) 1) ((Var 6) ∷ (Var 5) ∷ [])) ∷ [])) (applied (Con (after 3) 1) ((Var 12) ∷ (Var 11) ∷
    []))) (Pi (equation 0 (applied (Fam (after 6)) ((suc_term (Var 13)) ∷ (applied (Con (after 3) 1) ((Var 13) ∷ (Var 12) ∷ [])) ∷ []))
    (applied (Elim 1 0) (Nat ∷ (suc_term (Var 7)) ∷ (Lam (Nat) (Lam (equation 0 Nat (suc_term (Var 8)) (Var 0)) (Pi (Fin
    (Var 1)) (Pi (equation 0 (Fin (Var 2)) (applied (Elim 1 0) (Nat ∷ (suc_term (Var 10)) ∷ (Lam (Nat) (Lam (equation 0
    Nat (suc_term (Var 11)) (Var 0)) (Pi (Fin (suc_term (Var 12))) (Fin (Var 2))))) ∷ (Lam (Fin (suc_term (Var 10))) (Var
    0)) ∷ (Var 2) ∷ (Var 1) ∷ (applied (Con (after 3) 1) ((Var 10) ∷ (Var 9) ∷ [])) ∷ [])) (Var 0)) (Pi (applied (Fam (after 6))
    ((suc_term (Var 11)) ∷ (applied (Con (after 3) 1) ((Var 11) ∷ (Var 10) ∷ [])) ∷ [])) (applied (Fam (after 6)) ((Var 4) ∷ (Var 2) ∷
    []))))))) ∷ (Lam (Fin (suc_term (Var 7))) (Lam (equation 0 (Fin (suc_term (Var 8))) (applied (Elim 1 0) (Nat ∷
    (suc_term (Var 8)) ∷ (Lam (Nat) (Lam (equation 0 Nat (suc_term (Var 9)) (Var 0)) (Pi (Fin (suc_term (Var 10))) (Fin
    (Var 2))))) ∷ (Lam (Fin (suc_term (Var 8))) (Var 0)) ∷ (suc_term (Var 8)) ∷ (reflexivity 0 Nat (suc_term (Var 8))) ∷
    (applied (Con (after 3) 1) ((Var 8) ∷ (Var 7) ∷ [])) ∷ [])) (Var 0)) (applied (Elim 1 0) ((Fin (suc_term (Var 9))) ∷ (applied
    (Con (after 3) 1) ((Var 9) ∷ (Var 8) ∷ [])) ∷ (Lam (Fin (suc_term (Var 9))) (Lam (equation 0 (Fin (suc_term (Var 10)))
    (applied (Con (after 3) 1) ((Var 10) ∷ (Var 9) ∷ [])) (Var 0)) (Pi (applied (Fam (after 6)) ((suc_term (Var 11)) ∷ (applied (Con (after 3)
    1) ((Var 11) ∷ (Var 10) ∷ [])) ∷ [])) (applied (Fam (after 6)) ((suc_term (Var 12)) ∷ (Var 2) ∷ []))))) ∷ (Lam (applied (Fam
    (after 6)) ((suc_term (Var 9)) ∷ (applied (Con (after 3) 1) ((Var 9) ∷ (Var 8) ∷ [])) ∷ [])) (Var 0)) ∷ (Var 1) ∷ (Var 0) ∷ [])))) ∷
    (suc_term (Var 13)) ∷ (Var 1) ∷ (applied (Con (after 3) 1) ((Var 13) ∷ (Var 12) ∷ [])) ∷ (Var 0) ∷ (applied (Con (after 6) 1) ((Var
    7) ∷ (Var 6) ∷ (Var 5) ∷ [])) ∷ [])) (Var 11)) (Nat)))) ∷ (Lam (equation 0 Nat (Var 5) (Var 11)) (Lam (equation 0 (Fin
    (Var 12)) (applied (Elim 1 0) (Nat ∷ (Var 6) ∷ (Lam (Nat) (Lam (equation 0 Nat (Var 7) (Var 0)) (Pi (Fin (Var 8)) (Fin
    (Var 2))))) ∷ (Lam (Fin (Var 6)) (Var 0)) ∷ (Var 12) ∷ (Var 0) ∷ (Var 5) ∷ [])) (Var 11)) (Lam (equation 0 (applied
    (Fam (after 6)) ((suc_term (Var 13)) ∷ (applied (Con (after 3) 1) ((Var 13) ∷ (Var 12) ∷ [])) ∷ [])) (applied (Elim 1 0) (Nat ∷
    (suc_term (Var 7)) ∷ (Lam (Nat) (Lam (equation 0 Nat (suc_term (Var 8)) (Var 0)) (Pi (Fin (Var 1)) (Pi (equation 0
    (Fin (Var 2)) (applied (Elim 1 0) (Nat ∷ (suc_term (Var 10)) ∷ (Lam (Nat) (Lam (equation 0 Nat (suc_term (Var 11))
    (Var 0)) (Pi (Fin (suc_term (Var 12))) (Fin (Var 2))))) ∷ (Lam (Fin (suc_term (Var 10))) (Var 0)) ∷ (Var 2) ∷ (Var 1)
    ∷ (applied (Con (after 3) 1) ((Var 10) ∷ (Var 9) ∷ [])) ∷ [])) (Var 0)) (Pi (applied (Fam (after 6)) ((suc_term (Var 11)) ∷ (applied
    (Con (after 3) 1) ((Var 11) ∷ (Var 10) ∷ [])) ∷ [])) (applied (Fam (after 6)) ((Var 4) ∷ (Var 2) ∷ []))))))) ∷ (Lam (Fin (suc_term
    (Var 7))) (Lam (equation 0 (Fin (suc_term (Var 8))) (applied (Elim 1 0) (Nat ∷ (suc_term (Var 8)) ∷ (Lam (Nat) (Lam
    (equation 0 Nat (suc_term (Var 9)) (Var 0)) (Pi (Fin (suc_term (Var 10))) (Fin (Var 2))))) ∷ (Lam (Fin (suc_term (Var
    8))) (Var 0)) ∷ (suc_term (Var 8)) ∷ (reflexivity 0 Nat (suc_term (Var 8))) ∷ (applied (Con (after 3) 1) ((Var 8) ∷ (Var 7) ∷
    [])) ∷ [])) (Var 0)) (applied (Elim 1 0) ((Fin (suc_term (Var 9))) ∷ (applied (Con (after 3) 1) ((Var 9) ∷ (Var 8) ∷ [])) ∷
    (Lam (Fin (suc_term (Var 9))) (Lam (equation 0 (Fin (suc_term (Var 10))) (applied (Con (after 3) 1) ((Var 10) ∷ (Var 9) ∷
    [])) (Var 0)) (Pi (applied (Fam (after 6)) ((suc_term (Var 11)) ∷ (applied (Con (after 3) 1) ((Var 11) ∷ (Var 10) ∷ [])) ∷ []))
    (applied (Fam (after 6)) ((suc_term (Var 12)) ∷ (Var 2) ∷ []))))) ∷ (Lam (applied (Fam (after 6)) ((suc_term (Var 9)) ∷ (applied
    (Con (after 3) 1) ((Var 9) ∷ (Var 8) ∷ [])) ∷ [])) (Var 0)) ∷ (Var 1) ∷ (Var 0) ∷ [])))) ∷ (suc_term (Var 13)) ∷ (applied
    (Elim 1 0) (Nat ∷ (Var 7) ∷ (Lam (Nat) (Lam (equation 0 Nat (Var 8) (Var 0)) (Pi (Fin (Var 1)) (Pi (equation 0 (Fin
    (Var 2)) (applied (Elim 1 0) (Nat ∷ (Var 10) ∷ (Lam (Nat) (Lam (equation 0 Nat (Var 11) (Var 0)) (Pi (Fin (Var 12))
    (Fin (Var 2))))) ∷ (Lam (Fin (Var 10)) (Var 0)) ∷ (Var 2) ∷ (Var 1) ∷ (Var 9) ∷ [])) (Var 0)) (equation 0 Nat
    (suc_term (Var 11)) (suc_term (Var 3))))))) ∷ (Lam (Fin (Var 7)) (Lam (equation 0 (Fin (Var 8)) (applied (Elim 1 0)
    (Nat ∷ (Var 8) ∷ (Lam (Nat) (Lam (equation 0 Nat (Var 9) (Var 0)) (Pi (Fin (Var 10)) (Fin (Var 2))))) ∷ (Lam (Fin (Var
    8)) (Var 0)) ∷ (Var 8) ∷ (reflexivity 0 Nat (Var 8)) ∷ (Var 7) ∷ [])) (Var 0)) (applied (Elim 1 0) ((Fin (Var 9)) ∷
    (Var 8) ∷ (Lam (Fin (Var 9)) (Lam (equation 0 (Fin (Var 10)) (Var 9) (Var 0)) (equation 0 Nat (suc_term (Var 11))
    (suc_term (Var 11))))) ∷ (reflexivity 0 Nat (suc_term (Var 9))) ∷ (Var 1) ∷ (Var 0) ∷ [])))) ∷ (Var 13) ∷ (Var 1) ∷
    (Var 12) ∷ (Var 0) ∷ [])) ∷ (applied (Con (after 3) 1) ((Var 13) ∷ (Var 12) ∷ [])) ∷ (applied (Elim 1 0) (Nat ∷ (Var 7) ∷
    (Lam (Nat) (Lam (equation 0 Nat (Var 8) (Var 0)) (Pi (Fin (Var 1)) (Pi (equation 0 (Fin (Var 2)) (applied (Elim 1 0)
    (Nat ∷ (Var 10) ∷ (Lam (Nat) (Lam (equation 0 Nat (Var 11) (Var 0)) (Pi (Fin (Var 12)) (Fin (Var 2))))) ∷ (Lam (Fin
    (Var 10)) (Var 0)) ∷ (Var 2) ∷ (Var 1) ∷ (Var 9) ∷ [])) (Var 0)) (equation 0 (Fin (suc_term (Var 3))) (applied (Elim 1
    0) (Nat ∷ (suc_term (Var 11)) ∷ (Lam (Nat) (Lam (equation 0 Nat (suc_term (Var 12)) (Var 0)) (Pi (Fin (suc_term (Var
    13))) (Fin (Var 2))))) ∷ (Lam (Fin (suc_term (Var 11))) (Var 0)) ∷ (suc_term (Var 3)) ∷ (applied (Elim 1 0) (Nat ∷
    (Var 11) ∷ (Lam (Nat) (Lam (equation 0 Nat (Var 12) (Var 0)) (Pi (Fin (Var 1)) (Pi (equation 0 (Fin (Var 2)) (applied
    (Elim 1 0) (Nat ∷ (Var 14) ∷ (Lam (Nat) (Lam (equation 0 Nat (Var 15) (Var 0)) (Pi (Fin (Var 16)) (Fin (Var 2))))) ∷
    (Lam (Fin (Var 14)) (Var 0)) ∷ (Var 2) ∷ (Var 1) ∷ (Var 13) ∷ [])) (Var 0)) (equation 0 Nat (suc_term (Var 15))
    (suc_term (Var 3))))))) ∷ (Lam (Fin (Var 11)) (Lam (equation 0 (Fin (Var 12)) (applied (Elim 1 0) (Nat ∷ (Var 12) ∷
    (Lam (Nat) (Lam (equation 0 Nat (Var 13) (Var 0)) (Pi (Fin (Var 14)) (Fin (Var 2))))) ∷ (Lam (Fin (Var 12)) (Var 0)) ∷
    (Var 12) ∷ (reflexivity 0 Nat (Var 12)) ∷ (Var 11) ∷ [])) (Var 0)) (applied (Elim 1 0) ((Fin (Var 13)) ∷ (Var 12) ∷
    (Lam (Fin (Var 13)) (Lam (equation 0 (Fin (Var 14)) (Var 13) (Var 0)) (equation 0 Nat (suc_term (Var 15)) (suc_term
    (Var 15))))) ∷ (reflexivity 0 Nat (suc_term (Var 13))) ∷ (Var 1) ∷ (Var 0) ∷ [])))) ∷ (Var 3) ∷ (Var 2) ∷ (Var 1) ∷
    (Var 0) ∷ [])) ∷ (applied (Con (after 3) 1) ((Var 11) ∷ (Var 10) ∷ [])) ∷ [])) (applied (Con (after 3) 1) ((Var 3) ∷ (Var 1) ∷
    []))))))) ∷ (Lam (Fin (Var 7)) (Lam (equation 0 (Fin (Var 8)) (applied (Elim 1 0) (Nat ∷ (Var 8) ∷ (Lam (Nat) (Lam
    (equation 0 Nat (Var 9) (Var 0)) (Pi (Fin (Var 10)) (Fin (Var 2))))) ∷ (Lam (Fin (Var 8)) (Var 0)) ∷ (Var 8) ∷
    (reflexivity 0 Nat (Var 8)) ∷ (Var 7) ∷ [])) (Var 0)) (applied (Elim 1 0) ((Fin (Var 9)) ∷ (Var 8) ∷ (Lam (Fin (Var
    9)) (Lam (equation 0 (Fin (Var 10)) (Var 9) (Var 0)) (equation 0 (Fin (suc_term (Var 11))) (applied (Elim 1 0) (Nat ∷
    (suc_term (Var 11)) ∷ (Lam (Nat) (Lam (equation 0 Nat (suc_term (Var 12)) (Var 0)) (Pi (Fin (suc_term (Var 13))) (Fin
    (Var 2))))) ∷ (Lam (Fin (suc_term (Var 11))) (Var 0)) ∷ (suc_term (Var 11)) ∷ (applied (Elim 1 0) (Nat ∷ (Var 11) ∷
    (Lam (Nat) (Lam (equation 0 Nat (Var 12) (Var 0)) (Pi (Fin (Var 1)) (Pi (equation 0 (Fin (Var 2)) (applied (Elim 1 0)
    (Nat ∷ (Var 14) ∷ (Lam (Nat) (Lam (equation 0 Nat (Var 15) (Var 0)) (Pi (Fin (Var 16)) (Fin (Var 2))))) ∷ (Lam (Fin
    (Var 14)) (Var 0)) ∷ (Var 2) ∷ (Var 1) ∷ (Var 13) ∷ [])) (Var 0)) (equation 0 Nat (suc_term (Var 15)) (suc_term (Var
    3))))))) ∷ (Lam (Fin (Var 11)) (Lam (equation 0 (Fin (Var 12)) (applied (Elim 1 0) (Nat ∷ (Var 12) ∷ (Lam (Nat) (Lam
    (equation 0 Nat (Var 13) (Var 0)) (Pi (Fin (Var 14)) (Fin (Var 2))))) ∷ (Lam (Fin (Var 12)) (Var 0)) ∷ (Var 12) ∷
    (reflexivity 0 Nat (Var 12)) ∷ (Var 11) ∷ [])) (Var 0)) (applied (Elim 1 0) ((Fin (Var 13)) ∷ (Var 12) ∷ (Lam (Fin
    (Var 13)) (Lam (equation 0 (Fin (Var 14)) (Var 13) (Var 0)) (equation 0 Nat (suc_term (Var 15)) (suc_term (Var 15)))))
    ∷ (reflexivity 0 Nat (suc_term (Var 13))) ∷ (Var 1) ∷ (Var 0) ∷ [])))) ∷ (Var 11) ∷ (reflexivity 0 Nat (Var 11)) ∷
    (Var 1) ∷ (Var 0) ∷ [])) ∷ (applied (Con (after 3) 1) ((Var 11) ∷ (Var 10) ∷ [])) ∷ [])) (applied (Con (after 3) 1) ((Var 11) ∷ (Var
    1) ∷ []))))) ∷ (reflexivity 0 (Fin (suc_term (Var 9))) (applied (Con (after 3) 1) ((Var 9) ∷ (Var 8) ∷ []))) ∷ (Var 1) ∷ (Var
    0) ∷ [])))) ∷ (Var 13) ∷ (Var 1) ∷ (Var 12) ∷ (Var 0) ∷ [])) ∷ (applied (Con (after 6) 1) ((Var 7) ∷ (Var 6) ∷ (Var 5) ∷ []))
    ∷ [])) (Var 11)) (applied (Elim 1 0) (Nat ∷ (Var 8) ∷ (Lam (Nat) (Lam (equation 0 Nat (Var 9) (Var 0)) (Pi (Fin (Var
    1)) (Pi (applied (Fam (after 6)) ((suc_term (Var 2)) ∷ (applied (Con (after 3) 1) ((Var 2) ∷ (Var 0) ∷ [])) ∷ [])) (Pi (equation 0
    (Fin (Var 3)) (applied (Elim 1 0) (Nat ∷ (Var 12) ∷ (Lam (Nat) (Lam (equation 0 Nat (Var 13) (Var 0)) (Pi (Fin (Var
    14)) (Fin (Var 2))))) ∷ (Lam (Fin (Var 12)) (Var 0)) ∷ (Var 3) ∷ (Var 2) ∷ (Var 11) ∷ [])) (Var 1)) (Pi (equation 0
    (applied (Fam (after 6)) ((suc_term (Var 4)) ∷ (applied (Con (after 3) 1) ((Var 4) ∷ (Var 2) ∷ [])) ∷ [])) (applied (Elim 1 0) (Nat
    ∷ (suc_term (Var 13)) ∷ (Lam (Nat) (Lam (equation 0 Nat (suc_term (Var 14)) (Var 0)) (Pi (Fin (Var 1)) (Pi (equation 0
    (Fin (Var 2)) (applied (Elim 1 0) (Nat ∷ (suc_term (Var 16)) ∷ (Lam (Nat) (Lam (equation 0 Nat (suc_term (Var 17))
    (Var 0)) (Pi (Fin (suc_term (Var 18))) (Fin (Var 2))))) ∷ (Lam (Fin (suc_term (Var 16))) (Var 0)) ∷ (Var 2) ∷ (Var 1)
    ∷ (applied (Con (after 3) 1) ((Var 16) ∷ (Var 15) ∷ [])) ∷ [])) (Var 0)) (Pi (applied (Fam (after 6)) ((suc_term (Var 17)) ∷
    (applied (Con (after 3) 1) ((Var 17) ∷ (Var 16) ∷ [])) ∷ [])) (applied (Fam (after 6)) ((Var 4) ∷ (Var 2) ∷ []))))))) ∷ (Lam (Fin
    (suc_term (Var 13))) (Lam (equation 0 (Fin (suc_term (Var 14))) (applied (Elim 1 0) (Nat ∷ (suc_term (Var 14)) ∷ (Lam
    (Nat) (Lam (equation 0 Nat (suc_term (Var 15)) (Var 0)) (Pi (Fin (suc_term (Var 16))) (Fin (Var 2))))) ∷ (Lam (Fin
    (suc_term (Var 14))) (Var 0)) ∷ (suc_term (Var 14)) ∷ (reflexivity 0 Nat (suc_term (Var 14))) ∷ (applied (Con (after 3) 1)
    ((Var 14) ∷ (Var 13) ∷ [])) ∷ [])) (Var 0)) (applied (Elim 1 0) ((Fin (suc_term (Var 15))) ∷ (applied (Con (after 3) 1) ((Var
    15) ∷ (Var 14) ∷ [])) ∷ (Lam (Fin (suc_term (Var 15))) (Lam (equation 0 (Fin (suc_term (Var 16))) (applied (Con (after 3) 1)
    ((Var 16) ∷ (Var 15) ∷ [])) (Var 0)) (Pi (applied (Fam (after 6)) ((suc_term (Var 17)) ∷ (applied (Con (after 3) 1) ((Var 17) ∷ (Var
    16) ∷ [])) ∷ [])) (applied (Fam (after 6)) ((suc_term (Var 18)) ∷ (Var 2) ∷ []))))) ∷ (Lam (applied (Fam (after 6)) ((suc_term (Var
    15)) ∷ (applied (Con (after 3) 1) ((Var 15) ∷ (Var 14) ∷ [])) ∷ [])) (Var 0)) ∷ (Var 1) ∷ (Var 0) ∷ [])))) ∷ (suc_term (Var
    4)) ∷ (applied (Elim 1 0) (Nat ∷ (Var 13) ∷ (Lam (Nat) (Lam (equation 0 Nat (Var 14) (Var 0)) (Pi (Fin (Var 1)) (Pi
    (equation 0 (Fin (Var 2)) (applied (Elim 1 0) (Nat ∷ (Var 16) ∷ (Lam (Nat) (Lam (equation 0 Nat (Var 17) (Var 0)) (Pi
    (Fin (Var 18)) (Fin (Var 2))))) ∷ (Lam (Fin (Var 16)) (Var 0)) ∷ (Var 2) ∷ (Var 1) ∷ (Var 15) ∷ [])) (Var 0))
    (equation 0 Nat (suc_term (Var 17)) (suc_term (Var 3))))))) ∷ (Lam (Fin (Var 13)) (Lam (equation 0 (Fin (Var 14))
    (applied (Elim 1 0) (Nat ∷ (Var 14) ∷ (Lam (Nat) (Lam (equation 0 Nat (Var 15) (Var 0)) (Pi (Fin (Var 16)) (Fin (Var
    2))))) ∷ (Lam (Fin (Var 14)) (Var 0)) ∷ (Var 14) ∷ (reflexivity 0 Nat (Var 14)) ∷ (Var 13) ∷ [])) (Var 0)) (applied
    (Elim 1 0) ((Fin (Var 15)) ∷ (Var 14) ∷ (Lam (Fin (Var 15)) (Lam (equation 0 (Fin (Var 16)) (Var 15) (Var 0))
    (equation 0 Nat (suc_term (Var 17)) (suc_term (Var 17))))) ∷ (reflexivity 0 Nat (suc_term (Var 15))) ∷ (Var 1) ∷ (Var
    0) ∷ [])))) ∷ (Var 4) ∷ (Var 3) ∷ (Var 2) ∷ (Var 0) ∷ [])) ∷ (applied (Con (after 3) 1) ((Var 4) ∷ (Var 2) ∷ [])) ∷ (applied
    (Elim 1 0) (Nat ∷ (Var 13) ∷ (Lam (Nat) (Lam (equation 0 Nat (Var 14) (Var 0)) (Pi (Fin (Var 1)) (Pi (equation 0 (Fin
    (Var 2)) (applied (Elim 1 0) (Nat ∷ (Var 16) ∷ (Lam (Nat) (Lam (equation 0 Nat (Var 17) (Var 0)) (Pi (Fin (Var 18))
    (Fin (Var 2))))) ∷ (Lam (Fin (Var 16)) (Var 0)) ∷ (Var 2) ∷ (Var 1) ∷ (Var 15) ∷ [])) (Var 0)) (equation 0 (Fin
    (suc_term (Var 3))) (applied (Elim 1 0) (Nat ∷ (suc_term (Var 17)) ∷ (Lam (Nat) (Lam (equation 0 Nat (suc_term (Var
    18)) (Var 0)) (Pi (Fin (suc_term (Var 19))) (Fin (Var 2))))) ∷ (Lam (Fin (suc_term (Var 17))) (Var 0)) ∷ (suc_term
    (Var 3)) ∷ (applied (Elim 1 0) (Nat ∷ (Var 17) ∷ (Lam (Nat) (Lam (equation 0 Nat (Var 18) (Var 0)) (Pi (Fin (Var 1))
    (Pi (equation 0 (Fin (Var 2)) (applied (Elim 1 0) (Nat ∷ (Var 20) ∷ (Lam (Nat) (Lam (equation 0 Nat (Var 21) (Var 0))
    (Pi (Fin (Var 22)) (Fin (Var 2))))) ∷ (Lam (Fin (Var 20)) (Var 0)) ∷ (Var 2) ∷ (Var 1) ∷ (Var 19) ∷ [])) (Var 0))
    (equation 0 Nat (suc_term (Var 21)) (suc_term (Var 3))))))) ∷ (Lam (Fin (Var 17)) (Lam (equation 0 (Fin (Var 18))
    (applied (Elim 1 0) (Nat ∷ (Var 18) ∷ (Lam (Nat) (Lam (equation 0 Nat (Var 19) (Var 0)) (Pi (Fin (Var 20)) (Fin (Var
    2))))) ∷ (Lam (Fin (Var 18)) (Var 0)) ∷ (Var 18) ∷ (reflexivity 0 Nat (Var 18)) ∷ (Var 17) ∷ [])) (Var 0)) (applied
    (Elim 1 0) ((Fin (Var 19)) ∷ (Var 18) ∷ (Lam (Fin (Var 19)) (Lam (equation 0 (Fin (Var 20)) (Var 19) (Var 0))
    (equation 0 Nat (suc_term (Var 21)) (suc_term (Var 21))))) ∷ (reflexivity 0 Nat (suc_term (Var 19))) ∷ (Var 1) ∷ (Var
    0) ∷ [])))) ∷ (Var 3) ∷ (Var 2) ∷ (Var 1) ∷ (Var 0) ∷ [])) ∷ (applied (Con (after 3) 1) ((Var 17) ∷ (Var 16) ∷ [])) ∷ []))
    (applied (Con (after 3) 1) ((Var 3) ∷ (Var 1) ∷ []))))))) ∷ (Lam (Fin (Var 13)) (Lam (equation 0 (Fin (Var 14)) (applied
    (Elim 1 0) (Nat ∷ (Var 14) ∷ (Lam (Nat) (Lam (equation 0 Nat (Var 15) (Var 0)) (Pi (Fin (Var 16)) (Fin (Var 2))))) ∷
    (Lam (Fin (Var 14)) (Var 0)) ∷ (Var 14) ∷ (reflexivity 0 Nat (Var 14)) ∷ (Var 13) ∷ [])) (Var 0)) (applied (Elim 1 0)
    ((Fin (Var 15)) ∷ (Var 14) ∷ (Lam (Fin (Var 15)) (Lam (equation 0 (Fin (Var 16)) (Var 15) (Var 0)) (equation 0 (Fin
    (suc_term (Var 17))) (applied (Elim 1 0) (Nat ∷ (suc_term (Var 17)) ∷ (Lam (Nat) (Lam (equation 0 Nat (suc_term (Var
    18)) (Var 0)) (Pi (Fin (suc_term (Var 19))) (Fin (Var 2))))) ∷ (Lam (Fin (suc_term (Var 17))) (Var 0)) ∷ (suc_term
    (Var 17)) ∷ (applied (Elim 1 0) (Nat ∷ (Var 17) ∷ (Lam (Nat) (Lam (equation 0 Nat (Var 18) (Var 0)) (Pi (Fin (Var 1))
    (Pi (equation 0 (Fin (Var 2)) (applied (Elim 1 0) (Nat ∷ (Var 20) ∷ (Lam (Nat) (Lam (equation 0 Nat (Var 21) (Var 0))
    (Pi (Fin (Var 22)) (Fin (Var 2))))) ∷ (Lam (Fin (Var 20)) (Var 0)) ∷ (Var 2) ∷ (Var 1) ∷ (Var 19) ∷ [])) (Var 0))
    (equation 0 Nat (suc_term (Var 21)) (suc_term (Var 3))))))) ∷ (Lam (Fin (Var 17)) (Lam (equation 0 (Fin (Var 18))
    (applied (Elim 1 0) (Nat ∷ (Var 18) ∷ (Lam (Nat) (Lam (equation 0 Nat (Var 19) (Var 0)) (Pi (Fin (Var 20)) (Fin (Var
    2))))) ∷ (Lam (Fin (Var 18)) (Var 0)) ∷ (Var 18) ∷ (reflexivity 0 Nat (Var 18)) ∷ (Var 17) ∷ [])) (Var 0)) (applied
    (Elim 1 0) ((Fin (Var 19)) ∷ (Var 18) ∷ (Lam (Fin (Var 19)) (Lam (equation 0 (Fin (Var 20)) (Var 19) (Var 0))
    (equation 0 Nat (suc_term (Var 21)) (suc_term (Var 21))))) ∷ (reflexivity 0 Nat (suc_term (Var 19))) ∷ (Var 1) ∷ (Var
    0) ∷ [])))) ∷ (Var 17) ∷ (reflexivity 0 Nat (Var 17)) ∷ (Var 1) ∷ (Var 0) ∷ [])) ∷ (applied (Con (after 3) 1) ((Var 17) ∷
    (Var 16) ∷ [])) ∷ [])) (applied (Con (after 3) 1) ((Var 17) ∷ (Var 1) ∷ []))))) ∷ (reflexivity 0 (Fin (suc_term (Var 15)))
    (applied (Con (after 3) 1) ((Var 15) ∷ (Var 14) ∷ []))) ∷ (Var 1) ∷ (Var 0) ∷ [])))) ∷ (Var 4) ∷ (Var 3) ∷ (Var 2) ∷ (Var 0)
    ∷ [])) ∷ (applied (Con (after 6) 1) ((Var 13) ∷ (Var 12) ∷ (Var 11) ∷ [])) ∷ [])) (Var 1)) (Nat))))))) ∷ (Lam (Fin (Var 8))
    (Lam (applied (Fam (after 6)) ((suc_term (Var 9)) ∷ (applied (Con (after 3) 1) ((Var 9) ∷ (Var 0) ∷ [])) ∷ [])) (Lam (equation 0
    (Fin (Var 10)) (applied (Elim 1 0) (Nat ∷ (Var 10) ∷ (Lam (Nat) (Lam (equation 0 Nat (Var 11) (Var 0)) (Pi (Fin (Var
    12)) (Fin (Var 2))))) ∷ (Lam (Fin (Var 10)) (Var 0)) ∷ (Var 10) ∷ (reflexivity 0 Nat (Var 10)) ∷ (Var 9) ∷ [])) (Var
    1)) (Lam (equation 0 (applied (Fam (after 6)) ((suc_term (Var 11)) ∷ (applied (Con (after 3) 1) ((Var 11) ∷ (Var 2) ∷ [])) ∷ []))
    (applied (Elim 1 0) (Nat ∷ (suc_term (Var 11)) ∷ (Lam (Nat) (Lam (equation 0 Nat (suc_term (Var 12)) (Var 0)) (Pi (Fin
    (Var 1)) (Pi (equation 0 (Fin (Var 2)) (applied (Elim 1 0) (Nat ∷ (suc_term (Var 14)) ∷ (Lam (Nat) (Lam (equation 0
    Nat (suc_term (Var 15)) (Var 0)) (Pi (Fin (suc_term (Var 16))) (Fin (Var 2))))) ∷ (Lam (Fin (suc_term (Var 14))) (Var
    0)) ∷ (Var 2) ∷ (Var 1) ∷ (applied (Con (after 3) 1) ((Var 14) ∷ (Var 13) ∷ [])) ∷ [])) (Var 0)) (Pi (applied (Fam (after 6))
    ((suc_term (Var 15)) ∷ (applied (Con (after 3) 1) ((Var 15) ∷ (Var 14) ∷ [])) ∷ [])) (applied (Fam (after 6)) ((Var 4) ∷ (Var 2) ∷
    []))))))) ∷ (Lam (Fin (suc_term (Var 11))) (Lam (equation 0 (Fin (suc_term (Var 12))) (applied (Elim 1 0) (Nat ∷
    (suc_term (Var 12)) ∷ (Lam (Nat) (Lam (equation 0 Nat (suc_term (Var 13)) (Var 0)) (Pi (Fin (suc_term (Var 14))) (Fin
    (Var 2))))) ∷ (Lam (Fin (suc_term (Var 12))) (Var 0)) ∷ (suc_term (Var 12)) ∷ (reflexivity 0 Nat (suc_term (Var 12)))
    ∷ (applied (Con (after 3) 1) ((Var 12) ∷ (Var 11) ∷ [])) ∷ [])) (Var 0)) (applied (Elim 1 0) ((Fin (suc_term (Var 13))) ∷
    (applied (Con (after 3) 1) ((Var 13) ∷ (Var 12) ∷ [])) ∷ (Lam (Fin (suc_term (Var 13))) (Lam (equation 0 (Fin (suc_term (Var
    14))) (applied (Con (after 3) 1) ((Var 14) ∷ (Var 13) ∷ [])) (Var 0)) (Pi (applied (Fam (after 6)) ((suc_term (Var 15)) ∷ (applied
    (Con (after 3) 1) ((Var 15) ∷ (Var 14) ∷ [])) ∷ [])) (applied (Fam (after 6)) ((suc_term (Var 16)) ∷ (Var 2) ∷ []))))) ∷ (Lam
    (applied (Fam (after 6)) ((suc_term (Var 13)) ∷ (applied (Con (after 3) 1) ((Var 13) ∷ (Var 12) ∷ [])) ∷ [])) (Var 0)) ∷ (Var 1) ∷
    (Var 0) ∷ [])))) ∷ (suc_term (Var 11)) ∷ (applied (Elim 1 0) (Nat ∷ (Var 11) ∷ (Lam (Nat) (Lam (equation 0 Nat (Var
    12) (Var 0)) (Pi (Fin (Var 1)) (Pi (equation 0 (Fin (Var 2)) (applied (Elim 1 0) (Nat ∷ (Var 14) ∷ (Lam (Nat) (Lam
    (equation 0 Nat (Var 15) (Var 0)) (Pi (Fin (Var 16)) (Fin (Var 2))))) ∷ (Lam (Fin (Var 14)) (Var 0)) ∷ (Var 2) ∷ (Var
    1) ∷ (Var 13) ∷ [])) (Var 0)) (equation 0 Nat (suc_term (Var 15)) (suc_term (Var 3))))))) ∷ (Lam (Fin (Var 11)) (Lam
    (equation 0 (Fin (Var 12)) (applied (Elim 1 0) (Nat ∷ (Var 12) ∷ (Lam (Nat) (Lam (equation 0 Nat (Var 13) (Var 0)) (Pi
    (Fin (Var 14)) (Fin (Var 2))))) ∷ (Lam (Fin (Var 12)) (Var 0)) ∷ (Var 12) ∷ (reflexivity 0 Nat (Var 12)) ∷ (Var 11) ∷
    [])) (Var 0)) (applied (Elim 1 0) ((Fin (Var 13)) ∷ (Var 12) ∷ (Lam (Fin (Var 13)) (Lam (equation 0 (Fin (Var 14))
    (Var 13) (Var 0)) (equation 0 Nat (suc_term (Var 15)) (suc_term (Var 15))))) ∷ (reflexivity 0 Nat (suc_term (Var 13)))
    ∷ (Var 1) ∷ (Var 0) ∷ [])))) ∷ (Var 11) ∷ (reflexivity 0 Nat (Var 11)) ∷ (Var 2) ∷ (Var 0) ∷ [])) ∷ (applied (Con (after 3)
    1) ((Var 11) ∷ (Var 2) ∷ [])) ∷ (applied (Elim 1 0) (Nat ∷ (Var 11) ∷ (Lam (Nat) (Lam (equation 0 Nat (Var 12) (Var
    0)) (Pi (Fin (Var 1)) (Pi (equation 0 (Fin (Var 2)) (applied (Elim 1 0) (Nat ∷ (Var 14) ∷ (Lam (Nat) (Lam (equation 0
    Nat (Var 15) (Var 0)) (Pi (Fin (Var 16)) (Fin (Var 2))))) ∷ (Lam (Fin (Var 14)) (Var 0)) ∷ (Var 2) ∷ (Var 1) ∷ (Var
    13) ∷ [])) (Var 0)) (equation 0 (Fin (suc_term (Var 3))) (applied (Elim 1 0) (Nat ∷ (suc_term (Var 15)) ∷ (Lam (Nat)
    (Lam (equation 0 Nat (suc_term (Var 16)) (Var 0)) (Pi (Fin (suc_term (Var 17))) (Fin (Var 2))))) ∷ (Lam (Fin (suc_term
    (Var 15))) (Var 0)) ∷ (suc_term (Var 3)) ∷ (applied (Elim 1 0) (Nat ∷ (Var 15) ∷ (Lam (Nat) (Lam (equation 0 Nat (Var
    16) (Var 0)) (Pi (Fin (Var 1)) (Pi (equation 0 (Fin (Var 2)) (applied (Elim 1 0) (Nat ∷ (Var 18) ∷ (Lam (Nat) (Lam
    (equation 0 Nat (Var 19) (Var 0)) (Pi (Fin (Var 20)) (Fin (Var 2))))) ∷ (Lam (Fin (Var 18)) (Var 0)) ∷ (Var 2) ∷ (Var
    1) ∷ (Var 17) ∷ [])) (Var 0)) (equation 0 Nat (suc_term (Var 19)) (suc_term (Var 3))))))) ∷ (Lam (Fin (Var 15)) (Lam
    (equation 0 (Fin (Var 16)) (applied (Elim 1 0) (Nat ∷ (Var 16) ∷ (Lam (Nat) (Lam (equation 0 Nat (Var 17) (Var 0)) (Pi
    (Fin (Var 18)) (Fin (Var 2))))) ∷ (Lam (Fin (Var 16)) (Var 0)) ∷ (Var 16) ∷ (reflexivity 0 Nat (Var 16)) ∷ (Var 15) ∷
    [])) (Var 0)) (applied (Elim 1 0) ((Fin (Var 17)) ∷ (Var 16) ∷ (Lam (Fin (Var 17)) (Lam (equation 0 (Fin (Var 18))
    (Var 17) (Var 0)) (equation 0 Nat (suc_term (Var 19)) (suc_term (Var 19))))) ∷ (reflexivity 0 Nat (suc_term (Var 17)))
    ∷ (Var 1) ∷ (Var 0) ∷ [])))) ∷ (Var 3) ∷ (Var 2) ∷ (Var 1) ∷ (Var 0) ∷ [])) ∷ (applied (Con (after 3) 1) ((Var 15) ∷ (Var 14)
    ∷ [])) ∷ [])) (applied (Con (after 3) 1) ((Var 3) ∷ (Var 1) ∷ []))))))) ∷ (Lam (Fin (Var 11)) (Lam (equation 0 (Fin (Var 12))
    (applied (Elim 1 0) (Nat ∷ (Var 12) ∷ (Lam (Nat) (Lam (equation 0 Nat (Var 13) (Var 0)) (Pi (Fin (Var 14)) (Fin (Var
    2))))) ∷ (Lam (Fin (Var 12)) (Var 0)) ∷ (Var 12) ∷ (reflexivity 0 Nat (Var 12)) ∷ (Var 11) ∷ [])) (Var 0)) (applied
    (Elim 1 0) ((Fin (Var 13)) ∷ (Var 12) ∷ (Lam (Fin (Var 13)) (Lam (equation 0 (Fin (Var 14)) (Var 13) (Var 0))
    (equation 0 (Fin (suc_term (Var 15))) (applied (Elim 1 0) (Nat ∷ (suc_term (Var 15)) ∷ (Lam (Nat) (Lam (equation 0 Nat
    (suc_term (Var 16)) (Var 0)) (Pi (Fin (suc_term (Var 17))) (Fin (Var 2))))) ∷ (Lam (Fin (suc_term (Var 15))) (Var 0))
    ∷ (suc_term (Var 15)) ∷ (applied (Elim 1 0) (Nat ∷ (Var 15) ∷ (Lam (Nat) (Lam (equation 0 Nat (Var 16) (Var 0)) (Pi
    (Fin (Var 1)) (Pi (equation 0 (Fin (Var 2)) (applied (Elim 1 0) (Nat ∷ (Var 18) ∷ (Lam (Nat) (Lam (equation 0 Nat (Var
    19) (Var 0)) (Pi (Fin (Var 20)) (Fin (Var 2))))) ∷ (Lam (Fin (Var 18)) (Var 0)) ∷ (Var 2) ∷ (Var 1) ∷ (Var 17) ∷ []))
    (Var 0)) (equation 0 Nat (suc_term (Var 19)) (suc_term (Var 3))))))) ∷ (Lam (Fin (Var 15)) (Lam (equation 0 (Fin (Var
    16)) (applied (Elim 1 0) (Nat ∷ (Var 16) ∷ (Lam (Nat) (Lam (equation 0 Nat (Var 17) (Var 0)) (Pi (Fin (Var 18)) (Fin
    (Var 2))))) ∷ (Lam (Fin (Var 16)) (Var 0)) ∷ (Var 16) ∷ (reflexivity 0 Nat (Var 16)) ∷ (Var 15) ∷ [])) (Var 0))
    (applied (Elim 1 0) ((Fin (Var 17)) ∷ (Var 16) ∷ (Lam (Fin (Var 17)) (Lam (equation 0 (Fin (Var 18)) (Var 17) (Var 0))
    (equation 0 Nat (suc_term (Var 19)) (suc_term (Var 19))))) ∷ (reflexivity 0 Nat (suc_term (Var 17))) ∷ (Var 1) ∷ (Var
    0) ∷ [])))) ∷ (Var 15) ∷ (reflexivity 0 Nat (Var 15)) ∷ (Var 1) ∷ (Var 0) ∷ [])) ∷ (applied (Con (after 3) 1) ((Var 15) ∷
    (Var 14) ∷ [])) ∷ [])) (applied (Con (after 3) 1) ((Var 15) ∷ (Var 1) ∷ []))))) ∷ (reflexivity 0 (Fin (suc_term (Var 13)))
    (applied (Con (after 3) 1) ((Var 13) ∷ (Var 12) ∷ []))) ∷ (Var 1) ∷ (Var 0) ∷ [])))) ∷ (Var 11) ∷ (reflexivity 0 Nat (Var
    11)) ∷ (Var 2) ∷ (Var 0) ∷ [])) ∷ (applied (Con (after 6) 1) ((Var 11) ∷ (Var 10) ∷ (Var 9) ∷ [])) ∷ [])) (Var 1)) (applied
    (Elim 1 0) ((Fin (Var 12)) ∷ (Var 11) ∷ (Lam (Fin (Var 12)) (Lam (equation 0 (Fin (Var 13)) (Var 12) (Var 0)) (Pi
    (applied (Fam (after 6)) ((suc_term (Var 14)) ∷ (applied (Con (after 3) 1) ((Var 14) ∷ (Var 1) ∷ [])) ∷ [])) (Pi (equation 0
    (applied (Fam (after 6)) ((suc_term (Var 15)) ∷ (applied (Con (after 3) 1) ((Var 15) ∷ (Var 2) ∷ [])) ∷ [])) (applied (Elim 1 0)
    (Nat ∷ (suc_term (Var 15)) ∷ (Lam (Nat) (Lam (equation 0 Nat (suc_term (Var 16)) (Var 0)) (Pi (Fin (Var 1)) (Pi
    (equation 0 (Fin (Var 2)) (applied (Elim 1 0) (Nat ∷ (suc_term (Var 18)) ∷ (Lam (Nat) (Lam (equation 0 Nat (suc_term
    (Var 19)) (Var 0)) (Pi (Fin (suc_term (Var 20))) (Fin (Var 2))))) ∷ (Lam (Fin (suc_term (Var 18))) (Var 0)) ∷ (Var 2)
    ∷ (Var 1) ∷ (applied (Con (after 3) 1) ((Var 18) ∷ (Var 17) ∷ [])) ∷ [])) (Var 0)) (Pi (applied (Fam (after 6)) ((suc_term (Var 19))
    ∷ (applied (Con (after 3) 1) ((Var 19) ∷ (Var 18) ∷ [])) ∷ [])) (applied (Fam (after 6)) ((Var 4) ∷ (Var 2) ∷ []))))))) ∷ (Lam (Fin
    (suc_term (Var 15))) (Lam (equation 0 (Fin (suc_term (Var 16))) (applied (Elim 1 0) (Nat ∷ (suc_term (Var 16)) ∷ (Lam
    (Nat) (Lam (equation 0 Nat (suc_term (Var 17)) (Var 0)) (Pi (Fin (suc_term (Var 18))) (Fin (Var 2))))) ∷ (Lam (Fin
    (suc_term (Var 16))) (Var 0)) ∷ (suc_term (Var 16)) ∷ (reflexivity 0 Nat (suc_term (Var 16))) ∷ (applied (Con (after 3) 1)
    ((Var 16) ∷ (Var 15) ∷ [])) ∷ [])) (Var 0)) (applied (Elim 1 0) ((Fin (suc_term (Var 17))) ∷ (applied (Con (after 3) 1) ((Var
    17) ∷ (Var 16) ∷ [])) ∷ (Lam (Fin (suc_term (Var 17))) (Lam (equation 0 (Fin (suc_term (Var 18))) (applied (Con (after 3) 1)
    ((Var 18) ∷ (Var 17) ∷ [])) (Var 0)) (Pi (applied (Fam (after 6)) ((suc_term (Var 19)) ∷ (applied (Con (after 3) 1) ((Var 19) ∷ (Var
    18) ∷ [])) ∷ [])) (applied (Fam (after 6)) ((suc_term (Var 20)) ∷ (Var 2) ∷ []))))) ∷ (Lam (applied (Fam (after 6)) ((suc_term (Var
    17)) ∷ (applied (Con (after 3) 1) ((Var 17) ∷ (Var 16) ∷ [])) ∷ [])) (Var 0)) ∷ (Var 1) ∷ (Var 0) ∷ [])))) ∷ (suc_term (Var
    15)) ∷ (applied (Elim 1 0) (Nat ∷ (Var 15) ∷ (Lam (Nat) (Lam (equation 0 Nat (Var 16) (Var 0)) (Pi (Fin (Var 1)) (Pi
    (equation 0 (Fin (Var 2)) (applied (Elim 1 0) (Nat ∷ (Var 18) ∷ (Lam (Nat) (Lam (equation 0 Nat (Var 19) (Var 0)) (Pi
    (Fin (Var 20)) (Fin (Var 2))))) ∷ (Lam (Fin (Var 18)) (Var 0)) ∷ (Var 2) ∷ (Var 1) ∷ (Var 17) ∷ [])) (Var 0))
    (equation 0 Nat (suc_term (Var 19)) (suc_term (Var 3))))))) ∷ (Lam (Fin (Var 15)) (Lam (equation 0 (Fin (Var 16))
    (applied (Elim 1 0) (Nat ∷ (Var 16) ∷ (Lam (Nat) (Lam (equation 0 Nat (Var 17) (Var 0)) (Pi (Fin (Var 18)) (Fin (Var
    2))))) ∷ (Lam (Fin (Var 16)) (Var 0)) ∷ (Var 16) ∷ (reflexivity 0 Nat (Var 16)) ∷ (Var 15) ∷ [])) (Var 0)) (applied
    (Elim 1 0) ((Fin (Var 17)) ∷ (Var 16) ∷ (Lam (Fin (Var 17)) (Lam (equation 0 (Fin (Var 18)) (Var 17) (Var 0))
    (equation 0 Nat (suc_term (Var 19)) (suc_term (Var 19))))) ∷ (reflexivity 0 Nat (suc_term (Var 17))) ∷ (Var 1) ∷ (Var
    0) ∷ [])))) ∷ (Var 15) ∷ (reflexivity 0 Nat (Var 15)) ∷ (Var 2) ∷ (Var 1) ∷ [])) ∷ (applied (Con (after 3) 1) ((Var 15) ∷
    (Var 2) ∷ [])) ∷ (applied (Elim 1 0) (Nat ∷ (Var 15) ∷ (Lam (Nat) (Lam (equation 0 Nat (Var 16) (Var 0)) (Pi (Fin (Var
    1)) (Pi (equation 0 (Fin (Var 2)) (applied (Elim 1 0) (Nat ∷ (Var 18) ∷ (Lam (Nat) (Lam (equation 0 Nat (Var 19) (Var
    0)) (Pi (Fin (Var 20)) (Fin (Var 2))))) ∷ (Lam (Fin (Var 18)) (Var 0)) ∷ (Var 2) ∷ (Var 1) ∷ (Var 17) ∷ [])) (Var 0))
    (equation 0 (Fin (suc_term (Var 3))) (applied (Elim 1 0) (Nat ∷ (suc_term (Var 19)) ∷ (Lam (Nat) (Lam (equation 0 Nat
    (suc_term (Var 20)) (Var 0)) (Pi (Fin (suc_term (Var 21))) (Fin (Var 2))))) ∷ (Lam (Fin (suc_term (Var 19))) (Var 0))
    ∷ (suc_term (Var 3)) ∷ (applied (Elim 1 0) (Nat ∷ (Var 19) ∷ (Lam (Nat) (Lam (equation 0 Nat (Var 20) (Var 0)) (Pi
    (Fin (Var 1)) (Pi (equation 0 (Fin (Var 2)) (applied (Elim 1 0) (Nat ∷ (Var 22) ∷ (Lam (Nat) (Lam (equation 0 Nat (Var
    23) (Var 0)) (Pi (Fin (Var 24)) (Fin (Var 2))))) ∷ (Lam (Fin (Var 22)) (Var 0)) ∷ (Var 2) ∷ (Var 1) ∷ (Var 21) ∷ []))
    (Var 0)) (equation 0 Nat (suc_term (Var 23)) (suc_term (Var 3))))))) ∷ (Lam (Fin (Var 19)) (Lam (equation 0 (Fin (Var
    20)) (applied (Elim 1 0) (Nat ∷ (Var 20) ∷ (Lam (Nat) (Lam (equation 0 Nat (Var 21) (Var 0)) (Pi (Fin (Var 22)) (Fin
    (Var 2))))) ∷ (Lam (Fin (Var 20)) (Var 0)) ∷ (Var 20) ∷ (reflexivity 0 Nat (Var 20)) ∷ (Var 19) ∷ [])) (Var 0))
    (applied (Elim 1 0) ((Fin (Var 21)) ∷ (Var 20) ∷ (Lam (Fin (Var 21)) (Lam (equation 0 (Fin (Var 22)) (Var 21) (Var 0))
    (equation 0 Nat (suc_term (Var 23)) (suc_term (Var 23))))) ∷ (reflexivity 0 Nat (suc_term (Var 21))) ∷ (Var 1) ∷ (Var
    0) ∷ [])))) ∷ (Var 3) ∷ (Var 2) ∷ (Var 1) ∷ (Var 0) ∷ [])) ∷ (applied (Con (after 3) 1) ((Var 19) ∷ (Var 18) ∷ [])) ∷ []))
    (applied (Con (after 3) 1) ((Var 3) ∷ (Var 1) ∷ []))))))) ∷ (Lam (Fin (Var 15)) (Lam (equation 0 (Fin (Var 16)) (applied
    (Elim 1 0) (Nat ∷ (Var 16) ∷ (Lam (Nat) (Lam (equation 0 Nat (Var 17) (Var 0)) (Pi (Fin (Var 18)) (Fin (Var 2))))) ∷
    (Lam (Fin (Var 16)) (Var 0)) ∷ (Var 16) ∷ (reflexivity 0 Nat (Var 16)) ∷ (Var 15) ∷ [])) (Var 0)) (applied (Elim 1 0)
    ((Fin (Var 17)) ∷ (Var 16) ∷ (Lam (Fin (Var 17)) (Lam (equation 0 (Fin (Var 18)) (Var 17) (Var 0)) (equation 0 (Fin
    (suc_term (Var 19))) (applied (Elim 1 0) (Nat ∷ (suc_term (Var 19)) ∷ (Lam (Nat) (Lam (equation 0 Nat (suc_term (Var
    20)) (Var 0)) (Pi (Fin (suc_term (Var 21))) (Fin (Var 2))))) ∷ (Lam (Fin (suc_term (Var 19))) (Var 0)) ∷ (suc_term
    (Var 19)) ∷ (applied (Elim 1 0) (Nat ∷ (Var 19) ∷ (Lam (Nat) (Lam (equation 0 Nat (Var 20) (Var 0)) (Pi (Fin (Var 1))
    (Pi (equation 0 (Fin (Var 2)) (applied (Elim 1 0) (Nat ∷ (Var 22) ∷ (Lam (Nat) (Lam (equation 0 Nat (Var 23) (Var 0))
    (Pi (Fin (Var 24)) (Fin (Var 2))))) ∷ (Lam (Fin (Var 22)) (Var 0)) ∷ (Var 2) ∷ (Var 1) ∷ (Var 21) ∷ [])) (Var 0))
    (equation 0 Nat (suc_term (Var 23)) (suc_term (Var 3))))))) ∷ (Lam (Fin (Var 19)) (Lam (equation 0 (Fin (Var 20))
    (applied (Elim 1 0) (Nat ∷ (Var 20) ∷ (Lam (Nat) (Lam (equation 0 Nat (Var 21) (Var 0)) (Pi (Fin (Var 22)) (Fin (Var
    2))))) ∷ (Lam (Fin (Var 20)) (Var 0)) ∷ (Var 20) ∷ (reflexivity 0 Nat (Var 20)) ∷ (Var 19) ∷ [])) (Var 0)) (applied
    (Elim 1 0) ((Fin (Var 21)) ∷ (Var 20) ∷ (Lam (Fin (Var 21)) (Lam (equation 0 (Fin (Var 22)) (Var 21) (Var 0))
    (equation 0 Nat (suc_term (Var 23)) (suc_term (Var 23))))) ∷ (reflexivity 0 Nat (suc_term (Var 21))) ∷ (Var 1) ∷ (Var
    0) ∷ [])))) ∷ (Var 19) ∷ (reflexivity 0 Nat (Var 19)) ∷ (Var 1) ∷ (Var 0) ∷ [])) ∷ (applied (Con (after 3) 1) ((Var 19) ∷
    (Var 18) ∷ [])) ∷ [])) (applied (Con (after 3) 1) ((Var 19) ∷ (Var 1) ∷ []))))) ∷ (reflexivity 0 (Fin (suc_term (Var 17)))
    (applied (Con (after 3) 1) ((Var 17) ∷ (Var 16) ∷ []))) ∷ (Var 1) ∷ (Var 0) ∷ [])))) ∷ (Var 15) ∷ (reflexivity 0 Nat (Var
    15)) ∷ (Var 2) ∷ (Var 1) ∷ [])) ∷ (applied (Con (after 6) 1) ((Var 15) ∷ (Var 14) ∷ (Var 13) ∷ [])) ∷ [])) (Var 0)) (Nat)))))
    ∷ (Lam (applied (Fam (after 6)) ((suc_term (Var 12)) ∷ (applied (Con (after 3) 1) ((Var 12) ∷ (Var 11) ∷ [])) ∷ [])) (Lam (equation
    0 (applied (Fam (after 6)) ((suc_term (Var 13)) ∷ (applied (Con (after 3) 1) ((Var 13) ∷ (Var 12) ∷ [])) ∷ [])) (applied (Elim 1 0)
    (Nat ∷ (suc_term (Var 13)) ∷ (Lam (Nat) (Lam (equation 0 Nat (suc_term (Var 14)) (Var 0)) (Pi (Fin (Var 1)) (Pi
    (equation 0 (Fin (Var 2)) (applied (Elim 1 0) (Nat ∷ (suc_term (Var 16)) ∷ (Lam (Nat) (Lam (equation 0 Nat (suc_term
    (Var 17)) (Var 0)) (Pi (Fin (suc_term (Var 18))) (Fin (Var 2))))) ∷ (Lam (Fin (suc_term (Var 16))) (Var 0)) ∷ (Var 2)
    ∷ (Var 1) ∷ (applied (Con (after 3) 1) ((Var 16) ∷ (Var 15) ∷ [])) ∷ [])) (Var 0)) (Pi (applied (Fam (after 6)) ((suc_term (Var 17))
    ∷ (applied (Con (after 3) 1) ((Var 17) ∷ (Var 16) ∷ [])) ∷ [])) (applied (Fam (after 6)) ((Var 4) ∷ (Var 2) ∷ []))))))) ∷ (Lam (Fin
    (suc_term (Var 13))) (Lam (equation 0 (Fin (suc_term (Var 14))) (applied (Elim 1 0) (Nat ∷ (suc_term (Var 14)) ∷ (Lam
    (Nat) (Lam (equation 0 Nat (suc_term (Var 15)) (Var 0)) (Pi (Fin (suc_term (Var 16))) (Fin (Var 2))))) ∷ (Lam (Fin
    (suc_term (Var 14))) (Var 0)) ∷ (suc_term (Var 14)) ∷ (reflexivity 0 Nat (suc_term (Var 14))) ∷ (applied (Con (after 3) 1)
    ((Var 14) ∷ (Var 13) ∷ [])) ∷ [])) (Var 0)) (applied (Elim 1 0) ((Fin (suc_term (Var 15))) ∷ (applied (Con (after 3) 1) ((Var
    15) ∷ (Var 14) ∷ [])) ∷ (Lam (Fin (suc_term (Var 15))) (Lam (equation 0 (Fin (suc_term (Var 16))) (applied (Con (after 3) 1)
    ((Var 16) ∷ (Var 15) ∷ [])) (Var 0)) (Pi (applied (Fam (after 6)) ((suc_term (Var 17)) ∷ (applied (Con (after 3) 1) ((Var 17) ∷ (Var
    16) ∷ [])) ∷ [])) (applied (Fam (after 6)) ((suc_term (Var 18)) ∷ (Var 2) ∷ []))))) ∷ (Lam (applied (Fam (after 6)) ((suc_term (Var
    15)) ∷ (applied (Con (after 3) 1) ((Var 15) ∷ (Var 14) ∷ [])) ∷ [])) (Var 0)) ∷ (Var 1) ∷ (Var 0) ∷ [])))) ∷ (suc_term (Var
    13)) ∷ (applied (Elim 1 0) (Nat ∷ (Var 13) ∷ (Lam (Nat) (Lam (equation 0 Nat (Var 14) (Var 0)) (Pi (Fin (Var 1)) (Pi
    (equation 0 (Fin (Var 2)) (applied (Elim 1 0) (Nat ∷ (Var 16) ∷ (Lam (Nat) (Lam (equation 0 Nat (Var 17) (Var 0)) (Pi
    (Fin (Var 18)) (Fin (Var 2))))) ∷ (Lam (Fin (Var 16)) (Var 0)) ∷ (Var 2) ∷ (Var 1) ∷ (Var 15) ∷ [])) (Var 0))
    (equation 0 Nat (suc_term (Var 17)) (suc_term (Var 3))))))) ∷ (Lam (Fin (Var 13)) (Lam (equation 0 (Fin (Var 14))
    (applied (Elim 1 0) (Nat ∷ (Var 14) ∷ (Lam (Nat) (Lam (equation 0 Nat (Var 15) (Var 0)) (Pi (Fin (Var 16)) (Fin (Var
    2))))) ∷ (Lam (Fin (Var 14)) (Var 0)) ∷ (Var 14) ∷ (reflexivity 0 Nat (Var 14)) ∷ (Var 13) ∷ [])) (Var 0)) (applied
    (Elim 1 0) ((Fin (Var 15)) ∷ (Var 14) ∷ (Lam (Fin (Var 15)) (Lam (equation 0 (Fin (Var 16)) (Var 15) (Var 0))
    (equation 0 Nat (suc_term (Var 17)) (suc_term (Var 17))))) ∷ (reflexivity 0 Nat (suc_term (Var 15))) ∷ (Var 1) ∷ (Var
    0) ∷ [])))) ∷ (Var 13) ∷ (reflexivity 0 Nat (Var 13)) ∷ (Var 12) ∷ (reflexivity 0 (Fin (Var 13)) (Var 12)) ∷ [])) ∷
    (applied (Con (after 3) 1) ((Var 13) ∷ (Var 12) ∷ [])) ∷ (applied (Elim 1 0) (Nat ∷ (Var 13) ∷ (Lam (Nat) (Lam (equation 0
    Nat (Var 14) (Var 0)) (Pi (Fin (Var 1)) (Pi (equation 0 (Fin (Var 2)) (applied (Elim 1 0) (Nat ∷ (Var 16) ∷ (Lam (Nat)
    (Lam (equation 0 Nat (Var 17) (Var 0)) (Pi (Fin (Var 18)) (Fin (Var 2))))) ∷ (Lam (Fin (Var 16)) (Var 0)) ∷ (Var 2) ∷
    (Var 1) ∷ (Var 15) ∷ [])) (Var 0)) (equation 0 (Fin (suc_term (Var 3))) (applied (Elim 1 0) (Nat ∷ (suc_term (Var 17))
    ∷ (Lam (Nat) (Lam (equation 0 Nat (suc_term (Var 18)) (Var 0)) (Pi (Fin (suc_term (Var 19))) (Fin (Var 2))))) ∷ (Lam
    (Fin (suc_term (Var 17))) (Var 0)) ∷ (suc_term (Var 3)) ∷ (applied (Elim 1 0) (Nat ∷ (Var 17) ∷ (Lam (Nat) (Lam
    (equation 0 Nat (Var 18) (Var 0)) (Pi (Fin (Var 1)) (Pi (equation 0 (Fin (Var 2)) (applied (Elim 1 0) (Nat ∷ (Var 20)
    ∷ (Lam (Nat) (Lam (equation 0 Nat (Var 21) (Var 0)) (Pi (Fin (Var 22)) (Fin (Var 2))))) ∷ (Lam (Fin (Var 20)) (Var 0))
    ∷ (Var 2) ∷ (Var 1) ∷ (Var 19) ∷ [])) (Var 0)) (equation 0 Nat (suc_term (Var 21)) (suc_term (Var 3))))))) ∷ (Lam (Fin
    (Var 17)) (Lam (equation 0 (Fin (Var 18)) (applied (Elim 1 0) (Nat ∷ (Var 18) ∷ (Lam (Nat) (Lam (equation 0 Nat (Var
    19) (Var 0)) (Pi (Fin (Var 20)) (Fin (Var 2))))) ∷ (Lam (Fin (Var 18)) (Var 0)) ∷ (Var 18) ∷ (reflexivity 0 Nat (Var
    18)) ∷ (Var 17) ∷ [])) (Var 0)) (applied (Elim 1 0) ((Fin (Var 19)) ∷ (Var 18) ∷ (Lam (Fin (Var 19)) (Lam (equation 0
    (Fin (Var 20)) (Var 19) (Var 0)) (equation 0 Nat (suc_term (Var 21)) (suc_term (Var 21))))) ∷ (reflexivity 0 Nat
    (suc_term (Var 19))) ∷ (Var 1) ∷ (Var 0) ∷ [])))) ∷ (Var 3) ∷ (Var 2) ∷ (Var 1) ∷ (Var 0) ∷ [])) ∷ (applied (Con (after 3) 1)
    ((Var 17) ∷ (Var 16) ∷ [])) ∷ [])) (applied (Con (after 3) 1) ((Var 3) ∷ (Var 1) ∷ []))))))) ∷ (Lam (Fin (Var 13)) (Lam
    (equation 0 (Fin (Var 14)) (applied (Elim 1 0) (Nat ∷ (Var 14) ∷ (Lam (Nat) (Lam (equation 0 Nat (Var 15) (Var 0)) (Pi
    (Fin (Var 16)) (Fin (Var 2))))) ∷ (Lam (Fin (Var 14)) (Var 0)) ∷ (Var 14) ∷ (reflexivity 0 Nat (Var 14)) ∷ (Var 13) ∷
    [])) (Var 0)) (applied (Elim 1 0) ((Fin (Var 15)) ∷ (Var 14) ∷ (Lam (Fin (Var 15)) (Lam (equation 0 (Fin (Var 16))
    (Var 15) (Var 0)) (equation 0 (Fin (suc_term (Var 17))) (applied (Elim 1 0) (Nat ∷ (suc_term (Var 17)) ∷ (Lam (Nat)
    (Lam (equation 0 Nat (suc_term (Var 18)) (Var 0)) (Pi (Fin (suc_term (Var 19))) (Fin (Var 2))))) ∷ (Lam (Fin (suc_term
    (Var 17))) (Var 0)) ∷ (suc_term (Var 17)) ∷ (applied (Elim 1 0) (Nat ∷ (Var 17) ∷ (Lam (Nat) (Lam (equation 0 Nat (Var
    18) (Var 0)) (Pi (Fin (Var 1)) (Pi (equation 0 (Fin (Var 2)) (applied (Elim 1 0) (Nat ∷ (Var 20) ∷ (Lam (Nat) (Lam
    (equation 0 Nat (Var 21) (Var 0)) (Pi (Fin (Var 22)) (Fin (Var 2))))) ∷ (Lam (Fin (Var 20)) (Var 0)) ∷ (Var 2) ∷ (Var
    1) ∷ (Var 19) ∷ [])) (Var 0)) (equation 0 Nat (suc_term (Var 21)) (suc_term (Var 3))))))) ∷ (Lam (Fin (Var 17)) (Lam
    (equation 0 (Fin (Var 18)) (applied (Elim 1 0) (Nat ∷ (Var 18) ∷ (Lam (Nat) (Lam (equation 0 Nat (Var 19) (Var 0)) (Pi
    (Fin (Var 20)) (Fin (Var 2))))) ∷ (Lam (Fin (Var 18)) (Var 0)) ∷ (Var 18) ∷ (reflexivity 0 Nat (Var 18)) ∷ (Var 17) ∷
    [])) (Var 0)) (applied (Elim 1 0) ((Fin (Var 19)) ∷ (Var 18) ∷ (Lam (Fin (Var 19)) (Lam (equation 0 (Fin (Var 20))
    (Var 19) (Var 0)) (equation 0 Nat (suc_term (Var 21)) (suc_term (Var 21))))) ∷ (reflexivity 0 Nat (suc_term (Var 19)))
    ∷ (Var 1) ∷ (Var 0) ∷ [])))) ∷ (Var 17) ∷ (reflexivity 0 Nat (Var 17)) ∷ (Var 1) ∷ (Var 0) ∷ [])) ∷ (applied (Con (after 3)
    1) ((Var 17) ∷ (Var 16) ∷ [])) ∷ [])) (applied (Con (after 3) 1) ((Var 17) ∷ (Var 1) ∷ []))))) ∷ (reflexivity 0 (Fin
    (suc_term (Var 15))) (applied (Con (after 3) 1) ((Var 15) ∷ (Var 14) ∷ []))) ∷ (Var 1) ∷ (Var 0) ∷ [])))) ∷ (Var 13) ∷
    (reflexivity 0 Nat (Var 13)) ∷ (Var 12) ∷ (reflexivity 0 (Fin (Var 13)) (Var 12)) ∷ [])) ∷ (applied (Con (after 6) 1) ((Var
    13) ∷ (Var 12) ∷ (Var 11) ∷ [])) ∷ [])) (Var 0)) (applied (Elim 1 0) ((applied (Fam (after 6)) ((suc_term (Var 14)) ∷
    (applied (Con (after 3) 1) ((Var 14) ∷ (Var 13) ∷ [])) ∷ [])) ∷ (applied (Con (after 6) 1) ((Var 14) ∷ (Var 13) ∷ (Var 12) ∷ [])) ∷
    (Lam (applied (Fam (after 6)) ((suc_term (Var 14)) ∷ (applied (Con (after 3) 1) ((Var 14) ∷ (Var 13) ∷ [])) ∷ [])) (Lam (equation 0
    (applied (Fam (after 6)) ((suc_term (Var 15)) ∷ (applied (Con (after 3) 1) ((Var 15) ∷ (Var 14) ∷ [])) ∷ [])) (applied (Con (after 6) 1)
    ((Var 15) ∷ (Var 14) ∷ (Var 13) ∷ [])) (Var 0)) (Nat))) ∷ (applied (Elim (pair_type 0) 0) ((App (Const (after 8)) (Var 17)) ∷ (applied
    (Const (after 7)) ((Const (after 8)) ∷ (Var 17) ∷ [])) ∷ (Lam (applied (Fam (pair_type 0)) ((App (Const (after 8)) (Var 17)) ∷ (applied (Const (after 7))
    ((Const (after 8)) ∷ (Var 17) ∷ [])) ∷ [])) (App (Const (after 8)) (Var 18))) ∷ (Lam (App (Const (after 8)) (Var 17)) (Lam (applied (Const
    (after 7)) ((Const (after 8)) ∷ (Var 18) ∷ [])) (Var 1))) ∷ (applied (Elim (pair_type 0) 0) ((applied (Fam (pair_type 0)) ((App (Const (after 8)) (Var 17)) ∷
    (applied (Const (after 7)) ((Const (after 8)) ∷ (Var 17) ∷ [])) ∷ [])) ∷ (Fam (unit_type 0)) ∷ (Lam (applied (Fam (pair_type 0)) ((applied (Fam (pair_type 0)) ((App
    (Const (after 8)) (Var 17)) ∷ (applied (Const (after 7)) ((Const (after 8)) ∷ (Var 17) ∷ [])) ∷ [])) ∷ (Fam (unit_type 0)) ∷ [])) (applied (Fam (pair_type 0))
    ((App (Const (after 8)) (Var 18)) ∷ (applied (Const (after 7)) ((Const (after 8)) ∷ (Var 18) ∷ [])) ∷ []))) ∷ (Lam (applied (Fam (pair_type 0)) ((App
    (Const (after 8)) (Var 17)) ∷ (applied (Const (after 7)) ((Const (after 8)) ∷ (Var 17) ∷ [])) ∷ [])) (Lam (Fam (unit_type 0)) (Var 1))) ∷ (Var 15) ∷
    [])) ∷ (Var 14) ∷ (Var 13) ∷ (applied (Con (after 6) 1) ((Var 14) ∷ (Var 13) ∷ (Var 12) ∷ [])) ∷ [])) ∷ (Var 1) ∷ (Var 0) ∷
    [])))) ∷ (Var 3) ∷ (Var 1) ∷ (Var 2) ∷ (Var 0) ∷ [])))))) ∷ (Var 14) ∷ (Var 2) ∷ (Var 13) ∷ (Var 12) ∷ (Var 1) ∷ (Var
    0) ∷ []))))) ∷ (Var 0) ∷ [])))))))) ∷ (suc_term (Var 5)) ∷ (applied (Con (after 3) 1) ((Var 5) ∷ (Var 4) ∷ [])) ∷ (Var 3) ∷
    (reflexivity 0 Nat (suc_term (Var 5))) ∷ (reflexivity 0 (Fin (suc_term (Var 5))) (applied (Con (after 3) 1) ((Var 5) ∷ (Var
    4) ∷ []))) ∷ (reflexivity 0 (applied (Fam (after 6)) ((suc_term (Var 5)) ∷ (applied (Con (after 3) 1) ((Var 5) ∷ (Var 4) ∷ [])) ∷
    [])) (Var 3)) ∷ []))) ∷ (Var 6) ∷ (Var 0) ∷ (Var 5) ∷ [])))) ∷ (Var 4) ∷ (reflexivity 0 Nat (Var 4)) ∷ []))))))) ∷
    draft (codes "gd") (after 7) (codes "Nat!rec.0" ∷ codes "gd!motive" ∷ codes "gd!step" ∷ []) (Pi (Nat) (Pi (Nat) (Pi (Fin (Var
    0)) (Pi (applied (Fam (after 6)) ((suc_term (Var 1)) ∷ (applied (Con (after 3) 1) ((Var 1) ∷ (Var 0) ∷ [])) ∷ [])) (Nat))))) (Lam
    (Nat) (Lam (Nat) (Lam (Fin (Var 0)) (Lam (applied (Fam (after 6)) ((suc_term (Var 1)) ∷ (applied (Con (after 3) 1) ((Var 1) ∷ (Var
    0) ∷ [])) ∷ [])) (applied (Const (after 7)) ((Const (after 8)) ∷ (Const (after 9)) ∷ (Var 3) ∷ (Var 2) ∷ (Var 1) ∷ (Var 0) ∷ [])))))) ∷
    []))
unfolding native.Mathlib.Decide.ℕ_discrete
row_gd = refl
