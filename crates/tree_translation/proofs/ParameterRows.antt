-- Entries of functions where a parameter is solved, and where a cycle is in a family with one, as another implementation prints them.
use native.Mathlib.Decide.{ℕ_discrete}
use Rattle.std.proofs.Common.{◌≡◌, false, Some, None, Ok, [], ◌∷◌, refl, codes}
use Rattle.theory.specs.Terms.Term.{Var, Sort, Pi, Lam, App, Con, Fam, Elim, Const}
use Rattle.theory.specs.Telescopes.{applied}
use Rattle.theory.specs.Signatures.{equation, reflexivity}
use Rattle.theory.specs.Prelude.{unit_type, pair_type}
use Rattle.theory.proofs.AfterPrelude.{after}
use Rattle.core_terms.specs.Clauses.{Is, Side}
use Rattle.core_terms.specs.Patterns as pattern
use Rattle.core_terms.specs.Patterns.{vector}
use Rattle.tree_translation.specs.Plans.{Plan}
use Rattle.tree_translation.specs.Entries.{translate}
use Rattle.tree_translation.proofs.Samples.{sample, Nat, suc_term, own, draft, plan_of}

abbrev plan_fsolve : Plan
plan_fsolve =
    plan_of (sample false) (after 6) (codes "fsolve") 1 (Sort 0 ∷ Sort 0 ∷ equation 1 (Sort 0) (Var 0) (Var 1) ∷ App (Fam (after 5))
    (Var 2) ∷ []) (Nat) (Some 3) (Is (vector (pattern.Bind ∷ pattern.Dot (Var 0) ∷ pattern.Con 2 0 pattern.nil ∷
    pattern.Con (after 5) 0 pattern.nil ∷ [])) 1 (Side (Sort 0)) ∷ Is (vector (pattern.Bind ∷ pattern.Dot (Var 2) ∷ pattern.Con 2
    0 pattern.nil ∷ pattern.Con (after 5) 1 (vector (pattern.Bind ∷ pattern.Bind ∷ [])) ∷ [])) 3 (Side (Sort 0)) ∷ []) (Con (after 0) 0
    ∷ suc_term (App (App (App (App (own) (Var 2)) (Var 2)) (reflexivity 1 (Sort 0) (Var 2))) (Var 0)) ∷ [])

row_fsolve : translate (sample false) plan_fsolve ≡ (Ok (draft (codes "fsolve!motive") (after 6) [] (Pi (Sort 0) (Pi (App
    (Fam (after 5)) (Var 0)) (Sort 1))) (Lam (Sort 0) (Lam (App (Fam (after 5)) (Var 0)) (Pi (Sort 0) (Pi (equation 1 (Sort 0) (Var 0)
    (Var 2)) (Nat))))) ∷ draft (codes "fsolve!step") (after 6) (codes "List!below.1" ∷ codes "fsolve!motive" ∷ codes
    "Eq.1!case.1" ∷ codes "List!case.1" ∷ []) (Pi (Sort 0) (Pi (App (Fam (after 5)) (Var 0)) (Pi (applied (Const (after 6)) ((Var 1) ∷
    (App (Const (after 7)) (Var 1)) ∷ (Var 0) ∷ [])) (Pi (Sort 0) (Pi (equation 1 (Sort 0) (Var 0) (Var 3)) (Nat)))))) (Lam (Sort
    0) (Lam (App (Fam (after 5)) (Var 0)) (Lam (applied (Const (after 6)) ((Var 1) ∷ (App (Const (after 7)) (Var 1)) ∷ (Var 0) ∷ [])) (Lam
    (Sort 0) (Lam (equation 1 (Sort 0) (Var 0) (Var 3)) (applied (Const (after 8)) ((Sort 0) ∷ (Var 1) ∷ (Lam (Sort 0) (Lam
    (equation 1 (Sort 0) (Var 2) (Var 0)) (Pi (equation 1 (Sort 0) (Var 1) (Var 6)) (Pi (equation 1 (equation 1 (Sort 0)
    (Var 4) (Var 7)) (applied (Elim 2 1) ((Sort 0) ∷ (Var 2) ∷ (Lam (Sort 0) (Lam (equation 1 (Sort 0) (Var 3) (Var 0))
    (Pi (equation 1 (Sort 0) (Var 6) (Var 4)) (equation 1 (Sort 0) (Var 7) (Var 2))))) ∷ (Lam (equation 1 (Sort 0) (Var 4)
    (Var 2)) (Var 0)) ∷ (Var 7) ∷ (Var 0) ∷ (Var 1) ∷ [])) (Var 3)) (Nat))))) ∷ (Lam (equation 1 (Sort 0) (Var 1) (Var 4))
    (Lam (equation 1 (equation 1 (Sort 0) (Var 2) (Var 5)) (applied (Elim 2 1) ((Sort 0) ∷ (Var 2) ∷ (Lam (Sort 0) (Lam
    (equation 1 (Sort 0) (Var 3) (Var 0)) (Pi (equation 1 (Sort 0) (Var 4) (Var 4)) (equation 1 (Sort 0) (Var 5) (Var
    2))))) ∷ (Lam (equation 1 (Sort 0) (Var 2) (Var 2)) (Var 0)) ∷ (Var 5) ∷ (Var 0) ∷ (reflexivity 1 (Sort 0) (Var 2)) ∷
    [])) (Var 1)) (applied (Elim 2 1) ((Sort 0) ∷ (Var 3) ∷ (Lam (Sort 0) (Lam (equation 1 (Sort 0) (Var 4) (Var 0)) (Pi
    (App (Fam (after 5)) (Var 1)) (Pi (applied (Const (after 6)) ((Var 2) ∷ (App (Const (after 7)) (Var 2)) ∷ (Var 0) ∷ [])) (Pi (equation 1
    (Sort 0) (Var 7) (Var 3)) (Pi (equation 1 (equation 1 (Sort 0) (Var 8) (Var 4)) (applied (Elim 2 1) ((Sort 0) ∷ (Var
    8) ∷ (Lam (Sort 0) (Lam (equation 1 (Sort 0) (Var 9) (Var 0)) (Pi (equation 1 (Sort 0) (Var 10) (Var 10)) (equation 1
    (Sort 0) (Var 11) (Var 2))))) ∷ (Lam (equation 1 (Sort 0) (Var 8) (Var 8)) (Var 0)) ∷ (Var 4) ∷ (Var 3) ∷ (reflexivity
    1 (Sort 0) (Var 8)) ∷ [])) (Var 0)) (Nat))))))) ∷ (Lam (App (Fam (after 5)) (Var 3)) (Lam (applied (Const (after 6)) ((Var 4) ∷ (App
    (Const (after 7)) (Var 4)) ∷ (Var 0) ∷ [])) (Lam (equation 1 (Sort 0) (Var 5) (Var 5)) (Lam (equation 1 (equation 1 (Sort 0)
    (Var 6) (Var 6)) (applied (Elim 2 1) ((Sort 0) ∷ (Var 6) ∷ (Lam (Sort 0) (Lam (equation 1 (Sort 0) (Var 7) (Var 0))
    (Pi (equation 1 (Sort 0) (Var 8) (Var 8)) (equation 1 (Sort 0) (Var 9) (Var 2))))) ∷ (Lam (equation 1 (Sort 0) (Var 6)
    (Var 6)) (Var 0)) ∷ (Var 6) ∷ (reflexivity 1 (Sort 0) (Var 6)) ∷ (reflexivity 1 (Sort 0) (Var 6)) ∷ [])) (Var 0))
    (applied (Elim 2 1) ((equation 1 (Sort 0) (Var 7) (Var 7)) ∷ (reflexivity 1 (Sort 0) (Var 7)) ∷ (Lam (equation 1 (Sort
    0) (Var 7) (Var 7)) (Lam (equation 1 (equation 1 (Sort 0) (Var 8) (Var 8)) (reflexivity 1 (Sort 0) (Var 8)) (Var 0))
    (Nat))) ∷ (applied (Const (after 9)) ((Var 7) ∷ (Lam (App (Fam (after 5)) (Var 7)) (Pi (equation 0 (App (Fam (after 5)) (Var 8)) (Var 0)
    (Var 4)) (Nat))) ∷ (Lam (equation 0 (App (Fam (after 5)) (Var 7)) (App (Con (after 5) 0) (Var 7)) (Var 3)) (applied (Elim 1 1) ((App
    (Fam (after 5)) (Var 8)) ∷ (App (Con (after 5) 0) (Var 8)) ∷ (Lam (App (Fam (after 5)) (Var 8)) (Lam (equation 0 (App (Fam (after 5)) (Var 9))
    (App (Con (after 5) 0) (Var 9)) (Var 0)) (Pi (applied (Const (after 6)) ((Var 10) ∷ (App (Const (after 7)) (Var 10)) ∷ (Var 1) ∷ []))
    (Nat)))) ∷ (Lam (applied (Const (after 6)) ((Var 8) ∷ (App (Const (after 7)) (Var 8)) ∷ (App (Con (after 5) 0) (Var 8)) ∷ [])) (Con (after 0) 0))
    ∷ (Var 4) ∷ (Var 0) ∷ (Var 3) ∷ []))) ∷ (Lam (Var 7) (Lam (App (Fam (after 5)) (Var 8)) (Lam (equation 0 (App (Fam (after 5)) (Var
    9)) (applied (Con (after 5) 1) ((Var 9) ∷ (Var 1) ∷ (Var 0) ∷ [])) (Var 5)) (applied (Elim 1 1) ((App (Fam (after 5)) (Var 10)) ∷
    (applied (Con (after 5) 1) ((Var 10) ∷ (Var 2) ∷ (Var 1) ∷ [])) ∷ (Lam (App (Fam (after 5)) (Var 10)) (Lam (equation 0 (App (Fam (after 5))
    (Var 11)) (applied (Con (after 5) 1) ((Var 11) ∷ (Var 3) ∷ (Var 2) ∷ [])) (Var 0)) (Pi (applied (Const (after 6)) ((Var 12) ∷ (App
    (Const (after 7)) (Var 12)) ∷ (Var 1) ∷ [])) (Nat)))) ∷ (Lam (applied (Const (after 6)) ((Var 10) ∷ (App (Const (after 7)) (Var 10)) ∷
    (applied (Con (after 5) 1) ((Var 10) ∷ (Var 2) ∷ (Var 1) ∷ [])) ∷ [])) (suc_term (applied (Elim (pair_type 1) 1) ((applied (Const (after 7))
    ((Var 11) ∷ (Var 2) ∷ [])) ∷ (applied (Const (after 6)) ((Var 11) ∷ (App (Const (after 7)) (Var 11)) ∷ (Var 2) ∷ [])) ∷ (Lam
    (applied (Fam (pair_type 1)) ((applied (Const (after 7)) ((Var 11) ∷ (Var 2) ∷ [])) ∷ (applied (Const (after 6)) ((Var 11) ∷ (App (Const (after 7))
    (Var 11)) ∷ (Var 2) ∷ [])) ∷ [])) (applied (Const (after 7)) ((Var 12) ∷ (Var 3) ∷ []))) ∷ (Lam (applied (Const (after 7)) ((Var 11)
    ∷ (Var 2) ∷ [])) (Lam (applied (Const (after 6)) ((Var 12) ∷ (App (Const (after 7)) (Var 12)) ∷ (Var 3) ∷ [])) (Var 1))) ∷ (applied
    (Elim (pair_type 1) 1) ((applied (Fam (pair_type 1)) ((applied (Const (after 7)) ((Var 11) ∷ (Var 2) ∷ [])) ∷ (applied (Const (after 6)) ((Var 11) ∷ (App
    (Const (after 7)) (Var 11)) ∷ (Var 2) ∷ [])) ∷ [])) ∷ (Fam (unit_type 1)) ∷ (Lam (applied (Fam (pair_type 1)) ((applied (Fam (pair_type 1)) ((applied (Const
    (after 7)) ((Var 11) ∷ (Var 2) ∷ [])) ∷ (applied (Const (after 6)) ((Var 11) ∷ (App (Const (after 7)) (Var 11)) ∷ (Var 2) ∷ [])) ∷ [])) ∷
    (Fam (unit_type 1)) ∷ [])) (applied (Fam (pair_type 1)) ((applied (Const (after 7)) ((Var 12) ∷ (Var 3) ∷ [])) ∷ (applied (Const (after 6)) ((Var 12) ∷
    (App (Const (after 7)) (Var 12)) ∷ (Var 3) ∷ [])) ∷ []))) ∷ (Lam (applied (Fam (pair_type 1)) ((applied (Const (after 7)) ((Var 11) ∷ (Var 2) ∷
    [])) ∷ (applied (Const (after 6)) ((Var 11) ∷ (App (Const (after 7)) (Var 11)) ∷ (Var 2) ∷ [])) ∷ [])) (Lam (Fam (unit_type 1)) (Var 1))) ∷
    (Var 0) ∷ [])) ∷ (Var 11) ∷ (reflexivity 1 (Sort 0) (Var 11)) ∷ [])))) ∷ (Var 6) ∷ (Var 0) ∷ (Var 5) ∷ []))))) ∷ (Var
    3) ∷ (reflexivity 0 (App (Fam (after 5)) (Var 7)) (Var 3)) ∷ [])) ∷ (Var 1) ∷ (Var 0) ∷ [])))))) ∷ (Var 6) ∷ (Var 1) ∷ (Var
    5) ∷ (Var 4) ∷ (Var 2) ∷ (Var 0) ∷ [])))) ∷ (Var 4) ∷ (Var 0) ∷ (reflexivity 1 (Sort 0) (Var 4)) ∷ (reflexivity 1
    (equation 1 (Sort 0) (Var 1) (Var 4)) (Var 0)) ∷ []))))))) ∷ draft (codes "fsolve") (after 6) (codes "List!rec.1" ∷ codes
    "fsolve!motive" ∷ codes "fsolve!step" ∷ []) (Pi (Sort 0) (Pi (Sort 0) (Pi (equation 1 (Sort 0) (Var 0) (Var 1)) (Pi
    (App (Fam (after 5)) (Var 2)) (Nat))))) (Lam (Sort 0) (Lam (Sort 0) (Lam (equation 1 (Sort 0) (Var 0) (Var 1)) (Lam (App (Fam
    (after 5)) (Var 2)) (applied (Const (after 6)) ((Var 3) ∷ (App (Const (after 7)) (Var 3)) ∷ (App (Const (after 8)) (Var 3)) ∷ (Var 0) ∷ (Var 2) ∷
    (Var 1) ∷ [])))))) ∷ []))
unfolding native.Mathlib.Decide.ℕ_discrete
row_fsolve = refl

abbrev plan_lcyc : Plan
plan_lcyc =
    plan_of (sample false) (after 6) (codes "lcyc") 1 (Sort 0 ∷ Var 0 ∷ Var 1 ∷ App (Fam (after 5)) (Var 2) ∷ equation 0 (App (Fam (after 5))
    (Var 3)) (Var 0) (App (App (App (Con (after 5) 1) (Var 3)) (Var 2)) (App (App (App (Con (after 5) 1) (Var 3)) (Var 1)) (Var 0))) ∷
    []) (Nat) None (Is (vector (pattern.Bind ∷ pattern.Bind ∷ pattern.Bind ∷ pattern.Bind ∷ pattern.Absurd ∷ [])) 4 (Side
    (Sort 0)) ∷ []) (Sort 0 ∷ [])

row_lcyc : translate (sample false) plan_lcyc ≡ (Ok (draft (codes "lcyc") (after 6) (codes "Eq.0!case.1" ∷ codes
    "List!direct" ∷ codes "List!acyclic" ∷ []) (Pi (Sort 0) (Pi (Var 0) (Pi (Var 1) (Pi (App (Fam (after 5)) (Var 2)) (Pi
    (equation 0 (App (Fam (after 5)) (Var 3)) (Var 0) (applied (Con (after 5) 1) ((Var 3) ∷ (Var 2) ∷ (applied (Con (after 5) 1) ((Var 3) ∷
    (Var 1) ∷ (Var 0) ∷ [])) ∷ []))) (Nat)))))) (Lam (Sort 0) (Lam (Var 0) (Lam (Var 1) (Lam (App (Fam (after 5)) (Var 2)) (Lam
    (equation 0 (App (Fam (after 5)) (Var 3)) (Var 0) (applied (Con (after 5) 1) ((Var 3) ∷ (Var 2) ∷ (applied (Con (after 5) 1) ((Var 3) ∷
    (Var 1) ∷ (Var 0) ∷ [])) ∷ []))) (applied (Const (after 6)) ((App (Fam (after 5)) (Var 4)) ∷ (Var 1) ∷ (Lam (App (Fam (after 5)) (Var 4))
    (Lam (equation 0 (App (Fam (after 5)) (Var 5)) (Var 2) (Var 0)) (Pi (equation 0 (App (Fam (after 5)) (Var 6)) (Var 1) (applied (Con
    (after 5) 1) ((Var 6) ∷ (Var 5) ∷ (applied (Con (after 5) 1) ((Var 6) ∷ (Var 4) ∷ (Var 3) ∷ [])) ∷ []))) (Pi (equation 0 (equation 0
    (App (Fam (after 5)) (Var 7)) (Var 4) (applied (Con (after 5) 1) ((Var 7) ∷ (Var 6) ∷ (applied (Con (after 5) 1) ((Var 7) ∷ (Var 5) ∷ (Var
    4) ∷ [])) ∷ []))) (applied (Elim 1 0) ((App (Fam (after 5)) (Var 7)) ∷ (Var 2) ∷ (Lam (App (Fam (after 5)) (Var 7)) (Lam (equation 0
    (App (Fam (after 5)) (Var 8)) (Var 3) (Var 0)) (Pi (equation 0 (App (Fam (after 5)) (Var 9)) (Var 6) (Var 4)) (equation 0 (App (Fam
    (after 5)) (Var 10)) (Var 7) (Var 2))))) ∷ (Lam (equation 0 (App (Fam (after 5)) (Var 7)) (Var 4) (Var 2)) (Var 0)) ∷ (applied (Con
    (after 5) 1) ((Var 7) ∷ (Var 6) ∷ (applied (Con (after 5) 1) ((Var 7) ∷ (Var 5) ∷ (Var 4) ∷ [])) ∷ [])) ∷ (Var 0) ∷ (Var 1) ∷ []))
    (Var 3)) (Nat))))) ∷ (Lam (equation 0 (App (Fam (after 5)) (Var 4)) (Var 1) (applied (Con (after 5) 1) ((Var 4) ∷ (Var 3) ∷ (applied
    (Con (after 5) 1) ((Var 4) ∷ (Var 2) ∷ (Var 1) ∷ [])) ∷ []))) (Lam (equation 0 (equation 0 (App (Fam (after 5)) (Var 5)) (Var 2)
    (applied (Con (after 5) 1) ((Var 5) ∷ (Var 4) ∷ (applied (Con (after 5) 1) ((Var 5) ∷ (Var 3) ∷ (Var 2) ∷ [])) ∷ []))) (applied
    (Elim 1 0) ((App (Fam (after 5)) (Var 5)) ∷ (Var 2) ∷ (Lam (App (Fam (after 5)) (Var 5)) (Lam (equation 0 (App (Fam (after 5)) (Var 6))
    (Var 3) (Var 0)) (Pi (equation 0 (App (Fam (after 5)) (Var 7)) (Var 4) (Var 4)) (equation 0 (App (Fam (after 5)) (Var 8)) (Var 5)
    (Var 2))))) ∷ (Lam (equation 0 (App (Fam (after 5)) (Var 5)) (Var 2) (Var 2)) (Var 0)) ∷ (applied (Con (after 5) 1) ((Var 5) ∷ (Var
    4) ∷ (applied (Con (after 5) 1) ((Var 5) ∷ (Var 3) ∷ (Var 2) ∷ [])) ∷ [])) ∷ (Var 0) ∷ (reflexivity 0 (App (Fam (after 5)) (Var 5))
    (Var 2)) ∷ [])) (Var 1)) (applied (Elim 0 1) ((Lam (Fam 0) (Nat)) ∷ (applied (Elim (pair_type 0) 0) ((App (Lam (App (Fam (after 5)) (Var
    6)) (Pi (equation 0 (App (Fam (after 5)) (Var 7)) (Var 4) (Var 0)) (Fam 0))) (Var 3)) ∷ (applied (Const (after 7)) ((Var 6) ∷ (Lam
    (App (Fam (after 5)) (Var 6)) (Pi (equation 0 (App (Fam (after 5)) (Var 7)) (Var 4) (Var 0)) (Fam 0))) ∷ (Var 3) ∷ [])) ∷ (Lam
    (applied (Fam (pair_type 0)) ((App (Lam (App (Fam (after 5)) (Var 6)) (Pi (equation 0 (App (Fam (after 5)) (Var 7)) (Var 4) (Var 0)) (Fam 0)))
    (Var 3)) ∷ (applied (Const (after 7)) ((Var 6) ∷ (Lam (App (Fam (after 5)) (Var 6)) (Pi (equation 0 (App (Fam (after 5)) (Var 7)) (Var 4)
    (Var 0)) (Fam 0))) ∷ (Var 3) ∷ [])) ∷ [])) (App (Lam (App (Fam (after 5)) (Var 7)) (Pi (equation 0 (App (Fam (after 5)) (Var 8))
    (Var 5) (Var 0)) (Fam 0))) (Var 4))) ∷ (Lam (App (Lam (App (Fam (after 5)) (Var 6)) (Pi (equation 0 (App (Fam (after 5)) (Var 7))
    (Var 4) (Var 0)) (Fam 0))) (Var 3)) (Lam (applied (Const (after 7)) ((Var 7) ∷ (Lam (App (Fam (after 5)) (Var 7)) (Pi (equation 0
    (App (Fam (after 5)) (Var 8)) (Var 5) (Var 0)) (Fam 0))) ∷ (Var 4) ∷ [])) (Var 1))) ∷ (applied (Elim (pair_type 0) 0) ((applied (Fam (pair_type 0))
    ((App (Lam (App (Fam (after 5)) (Var 6)) (Pi (equation 0 (App (Fam (after 5)) (Var 7)) (Var 4) (Var 0)) (Fam 0))) (Var 3)) ∷
    (applied (Const (after 7)) ((Var 6) ∷ (Lam (App (Fam (after 5)) (Var 6)) (Pi (equation 0 (App (Fam (after 5)) (Var 7)) (Var 4) (Var 0))
    (Fam 0))) ∷ (Var 3) ∷ [])) ∷ [])) ∷ (Fam (unit_type 0)) ∷ (Lam (applied (Fam (pair_type 0)) ((applied (Fam (pair_type 0)) ((App (Lam (App (Fam (after 5)) (Var
    6)) (Pi (equation 0 (App (Fam (after 5)) (Var 7)) (Var 4) (Var 0)) (Fam 0))) (Var 3)) ∷ (applied (Const (after 7)) ((Var 6) ∷ (Lam
    (App (Fam (after 5)) (Var 6)) (Pi (equation 0 (App (Fam (after 5)) (Var 7)) (Var 4) (Var 0)) (Fam 0))) ∷ (Var 3) ∷ [])) ∷ [])) ∷
    (Fam (unit_type 0)) ∷ [])) (applied (Fam (pair_type 0)) ((App (Lam (App (Fam (after 5)) (Var 7)) (Pi (equation 0 (App (Fam (after 5)) (Var 8)) (Var 5)
    (Var 0)) (Fam 0))) (Var 4)) ∷ (applied (Const (after 7)) ((Var 7) ∷ (Lam (App (Fam (after 5)) (Var 7)) (Pi (equation 0 (App (Fam (after 5))
    (Var 8)) (Var 5) (Var 0)) (Fam 0))) ∷ (Var 4) ∷ [])) ∷ []))) ∷ (Lam (applied (Fam (pair_type 0)) ((App (Lam (App (Fam (after 5)) (Var
    6)) (Pi (equation 0 (App (Fam (after 5)) (Var 7)) (Var 4) (Var 0)) (Fam 0))) (Var 3)) ∷ (applied (Const (after 7)) ((Var 6) ∷ (Lam
    (App (Fam (after 5)) (Var 6)) (Pi (equation 0 (App (Fam (after 5)) (Var 7)) (Var 4) (Var 0)) (Fam 0))) ∷ (Var 3) ∷ [])) ∷ [])) (Lam
    (Fam (unit_type 0)) (Var 1))) ∷ (applied (Elim (pair_type 0) 0) ((App (Lam (App (Fam (after 5)) (Var 6)) (Pi (equation 0 (App (Fam (after 5)) (Var 7))
    (Var 4) (Var 0)) (Fam 0))) (applied (Con (after 5) 1) ((Var 6) ∷ (Var 4) ∷ (Var 3) ∷ []))) ∷ (applied (Const (after 7)) ((Var 6) ∷
    (Lam (App (Fam (after 5)) (Var 6)) (Pi (equation 0 (App (Fam (after 5)) (Var 7)) (Var 4) (Var 0)) (Fam 0))) ∷ (applied (Con (after 5) 1)
    ((Var 6) ∷ (Var 4) ∷ (Var 3) ∷ [])) ∷ [])) ∷ (Lam (applied (Fam (pair_type 0)) ((App (Lam (App (Fam (after 5)) (Var 6)) (Pi (equation 0
    (App (Fam (after 5)) (Var 7)) (Var 4) (Var 0)) (Fam 0))) (applied (Con (after 5) 1) ((Var 6) ∷ (Var 4) ∷ (Var 3) ∷ []))) ∷ (applied
    (Const (after 7)) ((Var 6) ∷ (Lam (App (Fam (after 5)) (Var 6)) (Pi (equation 0 (App (Fam (after 5)) (Var 7)) (Var 4) (Var 0)) (Fam 0))) ∷
    (applied (Con (after 5) 1) ((Var 6) ∷ (Var 4) ∷ (Var 3) ∷ [])) ∷ [])) ∷ [])) (applied (Const (after 7)) ((Var 7) ∷ (Lam (App (Fam
    (after 5)) (Var 7)) (Pi (equation 0 (App (Fam (after 5)) (Var 8)) (Var 5) (Var 0)) (Fam 0))) ∷ (applied (Con (after 5) 1) ((Var 7) ∷ (Var
    5) ∷ (Var 4) ∷ [])) ∷ []))) ∷ (Lam (App (Lam (App (Fam (after 5)) (Var 6)) (Pi (equation 0 (App (Fam (after 5)) (Var 7)) (Var 4)
    (Var 0)) (Fam 0))) (applied (Con (after 5) 1) ((Var 6) ∷ (Var 4) ∷ (Var 3) ∷ []))) (Lam (applied (Const (after 7)) ((Var 7) ∷ (Lam
    (App (Fam (after 5)) (Var 7)) (Pi (equation 0 (App (Fam (after 5)) (Var 8)) (Var 5) (Var 0)) (Fam 0))) ∷ (applied (Con (after 5) 1) ((Var
    7) ∷ (Var 5) ∷ (Var 4) ∷ [])) ∷ [])) (Var 0))) ∷ (applied (Elim (pair_type 0) 0) ((applied (Fam (pair_type 0)) ((App (Lam (App (Fam (after 5)) (Var
    6)) (Pi (equation 0 (App (Fam (after 5)) (Var 7)) (Var 4) (Var 0)) (Fam 0))) (applied (Con (after 5) 1) ((Var 6) ∷ (Var 4) ∷ (Var 3)
    ∷ []))) ∷ (applied (Const (after 7)) ((Var 6) ∷ (Lam (App (Fam (after 5)) (Var 6)) (Pi (equation 0 (App (Fam (after 5)) (Var 7)) (Var 4)
    (Var 0)) (Fam 0))) ∷ (applied (Con (after 5) 1) ((Var 6) ∷ (Var 4) ∷ (Var 3) ∷ [])) ∷ [])) ∷ [])) ∷ (Fam (unit_type 0)) ∷ (Lam (applied
    (Fam (pair_type 0)) ((applied (Fam (pair_type 0)) ((App (Lam (App (Fam (after 5)) (Var 6)) (Pi (equation 0 (App (Fam (after 5)) (Var 7)) (Var 4) (Var 0))
    (Fam 0))) (applied (Con (after 5) 1) ((Var 6) ∷ (Var 4) ∷ (Var 3) ∷ []))) ∷ (applied (Const (after 7)) ((Var 6) ∷ (Lam (App (Fam (after 5))
    (Var 6)) (Pi (equation 0 (App (Fam (after 5)) (Var 7)) (Var 4) (Var 0)) (Fam 0))) ∷ (applied (Con (after 5) 1) ((Var 6) ∷ (Var 4) ∷
    (Var 3) ∷ [])) ∷ [])) ∷ [])) ∷ (Fam (unit_type 0)) ∷ [])) (applied (Fam (pair_type 0)) ((App (Lam (App (Fam (after 5)) (Var 7)) (Pi (equation 0
    (App (Fam (after 5)) (Var 8)) (Var 5) (Var 0)) (Fam 0))) (applied (Con (after 5) 1) ((Var 7) ∷ (Var 5) ∷ (Var 4) ∷ []))) ∷ (applied
    (Const (after 7)) ((Var 7) ∷ (Lam (App (Fam (after 5)) (Var 7)) (Pi (equation 0 (App (Fam (after 5)) (Var 8)) (Var 5) (Var 0)) (Fam 0))) ∷
    (applied (Con (after 5) 1) ((Var 7) ∷ (Var 5) ∷ (Var 4) ∷ [])) ∷ [])) ∷ []))) ∷ (Lam (applied (Fam (pair_type 0)) ((App (Lam (App (Fam
    (after 5)) (Var 6)) (Pi (equation 0 (App (Fam (after 5)) (Var 7)) (Var 4) (Var 0)) (Fam 0))) (applied (Con (after 5) 1) ((Var 6) ∷ (Var 4)
    ∷ (Var 3) ∷ []))) ∷ (applied (Const (after 7)) ((Var 6) ∷ (Lam (App (Fam (after 5)) (Var 6)) (Pi (equation 0 (App (Fam (after 5)) (Var 7))
    (Var 4) (Var 0)) (Fam 0))) ∷ (applied (Con (after 5) 1) ((Var 6) ∷ (Var 4) ∷ (Var 3) ∷ [])) ∷ [])) ∷ [])) (Lam (Fam (unit_type 0)) (Var
    1))) ∷ (applied (Elim 1 0) ((App (Fam (after 5)) (Var 6)) ∷ (Var 3) ∷ (Lam (App (Fam (after 5)) (Var 6)) (Lam (equation 0 (App (Fam
    (after 5)) (Var 7)) (Var 4) (Var 0)) (applied (Const (after 7)) ((Var 8) ∷ (Lam (App (Fam (after 5)) (Var 8)) (Pi (equation 0 (App (Fam (after 5))
    (Var 9)) (Var 6) (Var 0)) (Fam 0))) ∷ (Var 1) ∷ [])))) ∷ (applied (Const (after 8)) ((Var 6) ∷ (Var 3) ∷ [])) ∷ (applied (Con
    (after 5) 1) ((Var 6) ∷ (Var 5) ∷ (applied (Con (after 5) 1) ((Var 6) ∷ (Var 4) ∷ (Var 3) ∷ [])) ∷ [])) ∷ (Var 1) ∷ [])) ∷ [])) ∷
    [])) ∷ [])) ∷ (reflexivity 0 (App (Fam (after 5)) (Var 6)) (Var 3)) ∷ [])) ∷ [])))) ∷ (applied (Con (after 5) 1) ((Var 4) ∷ (Var 3)
    ∷ (applied (Con (after 5) 1) ((Var 4) ∷ (Var 2) ∷ (Var 1) ∷ [])) ∷ [])) ∷ (Var 0) ∷ (reflexivity 0 (App (Fam (after 5)) (Var 4))
    (applied (Con (after 5) 1) ((Var 4) ∷ (Var 3) ∷ (applied (Con (after 5) 1) ((Var 4) ∷ (Var 2) ∷ (Var 1) ∷ [])) ∷ []))) ∷
    (reflexivity 0 (equation 0 (App (Fam (after 5)) (Var 4)) (Var 1) (applied (Con (after 5) 1) ((Var 4) ∷ (Var 3) ∷ (applied (Con (after 5) 1)
    ((Var 4) ∷ (Var 2) ∷ (Var 1) ∷ [])) ∷ []))) (Var 0)) ∷ []))))))) ∷ []))
unfolding native.Mathlib.Decide.ℕ_discrete
row_lcyc = refl
