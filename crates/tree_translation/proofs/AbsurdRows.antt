-- Entries of functions with absurd patterns, by cycle and by conflict, as another implementation prints them.
use native.Mathlib.Decide.{ℕ_discrete}
use Rattle.std.proofs.Common.{◌≡◌, false, None, Ok, [], ◌∷◌, refl, codes}
use Rattle.theory.specs.Terms.Term.{Var, Sort, Pi, Lam, App, Con, Fam, Elim, Const}
use Rattle.theory.specs.Telescopes.{applied}
use Rattle.theory.specs.Signatures.{equation, reflexivity}
use Rattle.theory.specs.Prelude.{unit_type, pair_type}
use Rattle.theory.proofs.AfterPrelude.{after}
use Rattle.core_terms.specs.Clauses.{Is, Side}
use Rattle.core_terms.specs.Patterns as pattern
use Rattle.core_terms.specs.Patterns.{vector}
use Rattle.tree_translation.specs.Plans.{Plan}
use Rattle.tree_translation.specs.Entries.{translate}
use Rattle.tree_translation.proofs.Samples.{sample, Nat, suc_term, Fin, draft, plan_of}

abbrev plan_no : Plan
plan_no =
    plan_of (sample false) (after 6) (codes "no") 0 (Nat ∷ equation 0 Nat (Var 0) (suc_term (suc_term (Var 0))) ∷ []) (Fam 0)
    None (Is (vector (pattern.Bind ∷ pattern.Absurd ∷ [])) 1 (Side (Sort 0)) ∷ []) (Sort 0 ∷ [])

row_no : translate (sample false) plan_no ≡ (Ok (draft (codes "no") (after 6) (codes "Eq.0!case.0" ∷ codes "Nat!direct" ∷
    codes "Nat!acyclic" ∷ []) (Pi (Nat) (Pi (equation 0 Nat (Var 0) (suc_term (suc_term (Var 0)))) (Fam 0))) (Lam (Nat)
    (Lam (equation 0 Nat (Var 0) (suc_term (suc_term (Var 0)))) (applied (Const (after 6)) (Nat ∷ (Var 1) ∷ (Lam (Nat) (Lam
    (equation 0 Nat (Var 2) (Var 0)) (Pi (equation 0 Nat (Var 1) (suc_term (suc_term (Var 3)))) (Pi (equation 0 (equation
    0 Nat (Var 4) (suc_term (suc_term (Var 4)))) (applied (Elim 1 0) (Nat ∷ (Var 2) ∷ (Lam (Nat) (Lam (equation 0 Nat (Var
    3) (Var 0)) (Pi (equation 0 Nat (Var 6) (Var 4)) (equation 0 Nat (Var 7) (Var 2))))) ∷ (Lam (equation 0 Nat (Var 4)
    (Var 2)) (Var 0)) ∷ (suc_term (suc_term (Var 4))) ∷ (Var 0) ∷ (Var 1) ∷ [])) (Var 3)) (Fam 0))))) ∷ (Lam (equation 0
    Nat (Var 1) (suc_term (suc_term (Var 1)))) (Lam (equation 0 (equation 0 Nat (Var 2) (suc_term (suc_term (Var 2))))
    (applied (Elim 1 0) (Nat ∷ (Var 2) ∷ (Lam (Nat) (Lam (equation 0 Nat (Var 3) (Var 0)) (Pi (equation 0 Nat (Var 4) (Var
    4)) (equation 0 Nat (Var 5) (Var 2))))) ∷ (Lam (equation 0 Nat (Var 2) (Var 2)) (Var 0)) ∷ (suc_term (suc_term (Var
    2))) ∷ (Var 0) ∷ (reflexivity 0 Nat (Var 2)) ∷ [])) (Var 1)) (applied (Elim 0 0) ((Lam (Fam 0) (Fam 0)) ∷ (applied
    (Elim (pair_type 0) 0) ((App (Lam (Nat) (Pi (equation 0 Nat (Var 4) (Var 0)) (Fam 0))) (Var 3)) ∷ (applied (Const (after 7)) ((Lam (Nat)
    (Pi (equation 0 Nat (Var 4) (Var 0)) (Fam 0))) ∷ (Var 3) ∷ [])) ∷ (Lam (applied (Fam (pair_type 0)) ((App (Lam (Nat) (Pi
    (equation 0 Nat (Var 4) (Var 0)) (Fam 0))) (Var 3)) ∷ (applied (Const (after 7)) ((Lam (Nat) (Pi (equation 0 Nat (Var 4) (Var
    0)) (Fam 0))) ∷ (Var 3) ∷ [])) ∷ [])) (App (Lam (Nat) (Pi (equation 0 Nat (Var 5) (Var 0)) (Fam 0))) (Var 4))) ∷ (Lam
    (App (Lam (Nat) (Pi (equation 0 Nat (Var 4) (Var 0)) (Fam 0))) (Var 3)) (Lam (applied (Const (after 7)) ((Lam (Nat) (Pi
    (equation 0 Nat (Var 5) (Var 0)) (Fam 0))) ∷ (Var 4) ∷ [])) (Var 1))) ∷ (applied (Elim (pair_type 0) 0) ((applied (Fam (pair_type 0)) ((App
    (Lam (Nat) (Pi (equation 0 Nat (Var 4) (Var 0)) (Fam 0))) (Var 3)) ∷ (applied (Const (after 7)) ((Lam (Nat) (Pi (equation 0
    Nat (Var 4) (Var 0)) (Fam 0))) ∷ (Var 3) ∷ [])) ∷ [])) ∷ (Fam (unit_type 0)) ∷ (Lam (applied (Fam (pair_type 0)) ((applied (Fam (pair_type 0)) ((App
    (Lam (Nat) (Pi (equation 0 Nat (Var 4) (Var 0)) (Fam 0))) (Var 3)) ∷ (applied (Const (after 7)) ((Lam (Nat) (Pi (equation 0
    Nat (Var 4) (Var 0)) (Fam 0))) ∷ (Var 3) ∷ [])) ∷ [])) ∷ (Fam (unit_type 0)) ∷ [])) (applied (Fam (pair_type 0)) ((App (Lam (Nat) (Pi
    (equation 0 Nat (Var 5) (Var 0)) (Fam 0))) (Var 4)) ∷ (applied (Const (after 7)) ((Lam (Nat) (Pi (equation 0 Nat (Var 5) (Var
    0)) (Fam 0))) ∷ (Var 4) ∷ [])) ∷ []))) ∷ (Lam (applied (Fam (pair_type 0)) ((App (Lam (Nat) (Pi (equation 0 Nat (Var 4) (Var 0))
    (Fam 0))) (Var 3)) ∷ (applied (Const (after 7)) ((Lam (Nat) (Pi (equation 0 Nat (Var 4) (Var 0)) (Fam 0))) ∷ (Var 3) ∷ [])) ∷
    [])) (Lam (Fam (unit_type 0)) (Var 1))) ∷ (applied (Elim (pair_type 0) 0) ((App (Lam (Nat) (Pi (equation 0 Nat (Var 4) (Var 0)) (Fam 0)))
    (suc_term (Var 3))) ∷ (applied (Const (after 7)) ((Lam (Nat) (Pi (equation 0 Nat (Var 4) (Var 0)) (Fam 0))) ∷ (suc_term (Var
    3)) ∷ [])) ∷ (Lam (applied (Fam (pair_type 0)) ((App (Lam (Nat) (Pi (equation 0 Nat (Var 4) (Var 0)) (Fam 0))) (suc_term (Var
    3))) ∷ (applied (Const (after 7)) ((Lam (Nat) (Pi (equation 0 Nat (Var 4) (Var 0)) (Fam 0))) ∷ (suc_term (Var 3)) ∷ [])) ∷
    [])) (applied (Const (after 7)) ((Lam (Nat) (Pi (equation 0 Nat (Var 5) (Var 0)) (Fam 0))) ∷ (suc_term (Var 4)) ∷ []))) ∷
    (Lam (App (Lam (Nat) (Pi (equation 0 Nat (Var 4) (Var 0)) (Fam 0))) (suc_term (Var 3))) (Lam (applied (Const (after 7)) ((Lam
    (Nat) (Pi (equation 0 Nat (Var 5) (Var 0)) (Fam 0))) ∷ (suc_term (Var 4)) ∷ [])) (Var 0))) ∷ (applied (Elim (pair_type 0) 0)
    ((applied (Fam (pair_type 0)) ((App (Lam (Nat) (Pi (equation 0 Nat (Var 4) (Var 0)) (Fam 0))) (suc_term (Var 3))) ∷ (applied
    (Const (after 7)) ((Lam (Nat) (Pi (equation 0 Nat (Var 4) (Var 0)) (Fam 0))) ∷ (suc_term (Var 3)) ∷ [])) ∷ [])) ∷ (Fam (unit_type 0)) ∷
    (Lam (applied (Fam (pair_type 0)) ((applied (Fam (pair_type 0)) ((App (Lam (Nat) (Pi (equation 0 Nat (Var 4) (Var 0)) (Fam 0))) (suc_term
    (Var 3))) ∷ (applied (Const (after 7)) ((Lam (Nat) (Pi (equation 0 Nat (Var 4) (Var 0)) (Fam 0))) ∷ (suc_term (Var 3)) ∷ []))
    ∷ [])) ∷ (Fam (unit_type 0)) ∷ [])) (applied (Fam (pair_type 0)) ((App (Lam (Nat) (Pi (equation 0 Nat (Var 5) (Var 0)) (Fam 0))) (suc_term
    (Var 4))) ∷ (applied (Const (after 7)) ((Lam (Nat) (Pi (equation 0 Nat (Var 5) (Var 0)) (Fam 0))) ∷ (suc_term (Var 4)) ∷ []))
    ∷ []))) ∷ (Lam (applied (Fam (pair_type 0)) ((App (Lam (Nat) (Pi (equation 0 Nat (Var 4) (Var 0)) (Fam 0))) (suc_term (Var 3))) ∷
    (applied (Const (after 7)) ((Lam (Nat) (Pi (equation 0 Nat (Var 4) (Var 0)) (Fam 0))) ∷ (suc_term (Var 3)) ∷ [])) ∷ [])) (Lam
    (Fam (unit_type 0)) (Var 1))) ∷ (applied (Elim 1 0) (Nat ∷ (Var 3) ∷ (Lam (Nat) (Lam (equation 0 Nat (Var 4) (Var 0)) (applied
    (Const (after 7)) ((Lam (Nat) (Pi (equation 0 Nat (Var 6) (Var 0)) (Fam 0))) ∷ (Var 1) ∷ [])))) ∷ (App (Const (after 8)) (Var 3)) ∷
    (suc_term (suc_term (Var 3))) ∷ (Var 1) ∷ [])) ∷ [])) ∷ [])) ∷ [])) ∷ (reflexivity 0 Nat (Var 3)) ∷ [])) ∷ [])))) ∷
    (suc_term (suc_term (Var 1))) ∷ (Var 0) ∷ (reflexivity 0 Nat (suc_term (suc_term (Var 1)))) ∷ (reflexivity 0 (equation
    0 Nat (Var 1) (suc_term (suc_term (Var 1)))) (Var 0)) ∷ [])))) ∷ []))
unfolding native.Mathlib.Decide.ℕ_discrete
row_no = refl

abbrev plan_on : Plan
plan_on =
    plan_of (sample false) (after 6) (codes "on") 0 (Nat ∷ equation 0 Nat (suc_term (Var 0)) (Var 0) ∷ []) (Fam 0) None (Is
    (vector (pattern.Bind ∷ pattern.Absurd ∷ [])) 1 (Side (Sort 0)) ∷ []) (Sort 0 ∷ [])

row_on : translate (sample false) plan_on ≡ (Ok (draft (codes "on") (after 6) (codes "Eq.0!case.0" ∷ codes "Nat!direct" ∷
    codes "Eq.0!left.0" ∷ codes "Nat!acyclic" ∷ []) (Pi (Nat) (Pi (equation 0 Nat (suc_term (Var 0)) (Var 0)) (Fam 0)))
    (Lam (Nat) (Lam (equation 0 Nat (suc_term (Var 0)) (Var 0)) (applied (Const (after 6)) (Nat ∷ (suc_term (Var 1)) ∷ (Lam (Nat)
    (Lam (equation 0 Nat (suc_term (Var 2)) (Var 0)) (Pi (equation 0 Nat (Var 1) (Var 3)) (Pi (equation 0 (equation 0 Nat
    (suc_term (Var 4)) (Var 4)) (applied (Elim 1 0) (Nat ∷ (Var 2) ∷ (Lam (Nat) (Lam (equation 0 Nat (Var 3) (Var 0)) (Pi
    (equation 0 Nat (suc_term (Var 6)) (Var 4)) (equation 0 Nat (suc_term (Var 7)) (Var 2))))) ∷ (Lam (equation 0 Nat
    (suc_term (Var 4)) (Var 2)) (Var 0)) ∷ (Var 4) ∷ (Var 0) ∷ (Var 1) ∷ [])) (Var 3)) (Fam 0))))) ∷ (Lam (equation 0 Nat
    (suc_term (Var 1)) (Var 1)) (Lam (equation 0 (equation 0 Nat (suc_term (Var 2)) (Var 2)) (applied (Elim 1 0) (Nat ∷
    (suc_term (Var 2)) ∷ (Lam (Nat) (Lam (equation 0 Nat (suc_term (Var 3)) (Var 0)) (Pi (equation 0 Nat (suc_term (Var
    4)) (suc_term (Var 4))) (equation 0 Nat (suc_term (Var 5)) (Var 2))))) ∷ (Lam (equation 0 Nat (suc_term (Var 2))
    (suc_term (Var 2))) (Var 0)) ∷ (Var 2) ∷ (Var 0) ∷ (reflexivity 0 Nat (suc_term (Var 2))) ∷ [])) (Var 1)) (applied
    (Elim 0 0) ((Lam (Fam 0) (Fam 0)) ∷ (applied (Elim (pair_type 0) 0) ((App (Lam (Nat) (Pi (equation 0 Nat (Var 4) (Var 0)) (Fam
    0))) (Var 3)) ∷ (applied (Const (after 7)) ((Lam (Nat) (Pi (equation 0 Nat (Var 4) (Var 0)) (Fam 0))) ∷ (Var 3) ∷ [])) ∷ (Lam
    (applied (Fam (pair_type 0)) ((App (Lam (Nat) (Pi (equation 0 Nat (Var 4) (Var 0)) (Fam 0))) (Var 3)) ∷ (applied (Const (after 7)) ((Lam
    (Nat) (Pi (equation 0 Nat (Var 4) (Var 0)) (Fam 0))) ∷ (Var 3) ∷ [])) ∷ [])) (App (Lam (Nat) (Pi (equation 0 Nat (Var
    5) (Var 0)) (Fam 0))) (Var 4))) ∷ (Lam (App (Lam (Nat) (Pi (equation 0 Nat (Var 4) (Var 0)) (Fam 0))) (Var 3)) (Lam
    (applied (Const (after 7)) ((Lam (Nat) (Pi (equation 0 Nat (Var 5) (Var 0)) (Fam 0))) ∷ (Var 4) ∷ [])) (Var 1))) ∷ (applied
    (Elim (pair_type 0) 0) ((applied (Fam (pair_type 0)) ((App (Lam (Nat) (Pi (equation 0 Nat (Var 4) (Var 0)) (Fam 0))) (Var 3)) ∷ (applied
    (Const (after 7)) ((Lam (Nat) (Pi (equation 0 Nat (Var 4) (Var 0)) (Fam 0))) ∷ (Var 3) ∷ [])) ∷ [])) ∷ (Fam (unit_type 0)) ∷ (Lam
    (applied (Fam (pair_type 0)) ((applied (Fam (pair_type 0)) ((App (Lam (Nat) (Pi (equation 0 Nat (Var 4) (Var 0)) (Fam 0))) (Var 3)) ∷
    (applied (Const (after 7)) ((Lam (Nat) (Pi (equation 0 Nat (Var 4) (Var 0)) (Fam 0))) ∷ (Var 3) ∷ [])) ∷ [])) ∷ (Fam (unit_type 0)) ∷
    [])) (applied (Fam (pair_type 0)) ((App (Lam (Nat) (Pi (equation 0 Nat (Var 5) (Var 0)) (Fam 0))) (Var 4)) ∷ (applied (Const (after 7))
    ((Lam (Nat) (Pi (equation 0 Nat (Var 5) (Var 0)) (Fam 0))) ∷ (Var 4) ∷ [])) ∷ []))) ∷ (Lam (applied (Fam (pair_type 0)) ((App
    (Lam (Nat) (Pi (equation 0 Nat (Var 4) (Var 0)) (Fam 0))) (Var 3)) ∷ (applied (Const (after 7)) ((Lam (Nat) (Pi (equation 0
    Nat (Var 4) (Var 0)) (Fam 0))) ∷ (Var 3) ∷ [])) ∷ [])) (Lam (Fam (unit_type 0)) (Var 1))) ∷ (applied (Const (after 8)) (Nat ∷ (Var 3) ∷
    (Lam (Nat) (Lam (equation 0 Nat (Var 0) (Var 4)) (applied (Const (after 7)) ((Lam (Nat) (Pi (equation 0 Nat (Var 6) (Var 0))
    (Fam 0))) ∷ (Var 1) ∷ [])))) ∷ (App (Const (after 9)) (Var 3)) ∷ (suc_term (Var 3)) ∷ (Var 1) ∷ [])) ∷ [])) ∷ (reflexivity 0
    Nat (Var 3)) ∷ [])) ∷ [])))) ∷ (Var 1) ∷ (Var 0) ∷ (reflexivity 0 Nat (Var 1)) ∷ (reflexivity 0 (equation 0 Nat
    (suc_term (Var 1)) (Var 1)) (Var 0)) ∷ [])))) ∷ []))
unfolding native.Mathlib.Decide.ℕ_discrete
row_on = refl

abbrev plan_finc : Plan
plan_finc =
    plan_of (sample false) (after 6) (codes "finc") 0 (Nat ∷ Fin (Var 0) ∷ equation 0 (Fin (suc_term (Var 1))) (App (Con (after 3) 0)
    (Var 1)) (App (App (Con (after 3) 1) (Var 1)) (Var 0)) ∷ []) (Fam 0) None (Is (vector (pattern.Bind ∷ pattern.Bind ∷
    pattern.Absurd ∷ [])) 2 (Side (Sort 0)) ∷ []) (Sort 0 ∷ [])

row_finc : translate (sample false) plan_finc ≡ (Ok (draft (codes "finc") (after 6) (codes "Eq.0!case.0" ∷ codes
    "Fin!noconf.fzero.0" ∷ []) (Pi (Nat) (Pi (Fin (Var 0)) (Pi (equation 0 (Fin (suc_term (Var 1))) (App (Con (after 3) 0) (Var
    1)) (applied (Con (after 3) 1) ((Var 1) ∷ (Var 0) ∷ []))) (Fam 0)))) (Lam (Nat) (Lam (Fin (Var 0)) (Lam (equation 0 (Fin
    (suc_term (Var 1))) (App (Con (after 3) 0) (Var 1)) (applied (Con (after 3) 1) ((Var 1) ∷ (Var 0) ∷ []))) (applied (Const (after 6)) ((Fin
    (suc_term (Var 2))) ∷ (App (Con (after 3) 0) (Var 2)) ∷ (Lam (Fin (suc_term (Var 2))) (Lam (equation 0 (Fin (suc_term (Var
    3))) (App (Con (after 3) 0) (Var 3)) (Var 0)) (Pi (equation 0 (Fin (suc_term (Var 4))) (Var 1) (applied (Con (after 3) 1) ((Var 4) ∷
    (Var 3) ∷ []))) (Pi (equation 0 (equation 0 (Fin (suc_term (Var 5))) (App (Con (after 3) 0) (Var 5)) (applied (Con (after 3) 1)
    ((Var 5) ∷ (Var 4) ∷ []))) (applied (Elim 1 0) ((Fin (suc_term (Var 5))) ∷ (Var 2) ∷ (Lam (Fin (suc_term (Var 5)))
    (Lam (equation 0 (Fin (suc_term (Var 6))) (Var 3) (Var 0)) (Pi (equation 0 (Fin (suc_term (Var 7))) (App (Con (after 3) 0)
    (Var 7)) (Var 4)) (equation 0 (Fin (suc_term (Var 8))) (App (Con (after 3) 0) (Var 8)) (Var 2))))) ∷ (Lam (equation 0 (Fin
    (suc_term (Var 5))) (App (Con (after 3) 0) (Var 5)) (Var 2)) (Var 0)) ∷ (applied (Con (after 3) 1) ((Var 5) ∷ (Var 4) ∷ [])) ∷ (Var
    0) ∷ (Var 1) ∷ [])) (Var 3)) (Fam 0))))) ∷ (Lam (equation 0 (Fin (suc_term (Var 2))) (App (Con (after 3) 0) (Var 2)) (applied
    (Con (after 3) 1) ((Var 2) ∷ (Var 1) ∷ []))) (Lam (equation 0 (equation 0 (Fin (suc_term (Var 3))) (App (Con (after 3) 0) (Var 3))
    (applied (Con (after 3) 1) ((Var 3) ∷ (Var 2) ∷ []))) (applied (Elim 1 0) ((Fin (suc_term (Var 3))) ∷ (App (Con (after 3) 0) (Var
    3)) ∷ (Lam (Fin (suc_term (Var 3))) (Lam (equation 0 (Fin (suc_term (Var 4))) (App (Con (after 3) 0) (Var 4)) (Var 0)) (Pi
    (equation 0 (Fin (suc_term (Var 5))) (App (Con (after 3) 0) (Var 5)) (App (Con (after 3) 0) (Var 5))) (equation 0 (Fin (suc_term
    (Var 6))) (App (Con (after 3) 0) (Var 6)) (Var 2))))) ∷ (Lam (equation 0 (Fin (suc_term (Var 3))) (App (Con (after 3) 0) (Var 3))
    (App (Con (after 3) 0) (Var 3))) (Var 0)) ∷ (applied (Con (after 3) 1) ((Var 3) ∷ (Var 2) ∷ [])) ∷ (Var 0) ∷ (reflexivity 0 (Fin
    (suc_term (Var 3))) (App (Con (after 3) 0) (Var 3))) ∷ [])) (Var 1)) (applied (Const (after 7)) ((Var 4) ∷ (suc_term (Var 4)) ∷
    (applied (Con (after 3) 1) ((Var 4) ∷ (Var 3) ∷ [])) ∷ (reflexivity 0 Nat (suc_term (Var 4))) ∷ (Var 1) ∷ (Lam (equation 0
    Nat (suc_term (Var 4)) (suc_term (Var 4))) (Lam (equation 0 (Fin (suc_term (Var 5))) (applied (Elim 1 0) (Nat ∷
    (suc_term (Var 5)) ∷ (Lam (Nat) (Lam (equation 0 Nat (suc_term (Var 6)) (Var 0)) (Pi (Fin (suc_term (Var 7))) (Fin
    (Var 2))))) ∷ (Lam (Fin (suc_term (Var 5))) (Var 0)) ∷ (suc_term (Var 5)) ∷ (Var 0) ∷ (App (Con (after 3) 0) (Var 5)) ∷ []))
    (applied (Con (after 3) 1) ((Var 5) ∷ (Var 4) ∷ []))) (Fam 0))) ∷ [])))) ∷ (applied (Con (after 3) 1) ((Var 2) ∷ (Var 1) ∷ [])) ∷
    (Var 0) ∷ (reflexivity 0 (Fin (suc_term (Var 2))) (applied (Con (after 3) 1) ((Var 2) ∷ (Var 1) ∷ []))) ∷ (reflexivity 0
    (equation 0 (Fin (suc_term (Var 2))) (App (Con (after 3) 0) (Var 2)) (applied (Con (after 3) 1) ((Var 2) ∷ (Var 1) ∷ []))) (Var 0))
    ∷ []))))) ∷ []))
unfolding native.Mathlib.Decide.ℕ_discrete
row_finc = refl
