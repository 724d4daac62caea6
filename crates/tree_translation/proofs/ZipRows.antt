-- Entries of a recursive function on two vectors, as another implementation prints them.
use native.Mathlib.Decide.{ℕ_discrete}
use Rattle.std.proofs.Common.{◌≡◌, false, Some, Ok, [], ◌∷◌, refl, codes}
use Rattle.theory.specs.Terms.Term.{Var, Sort, Pi, Lam, App, Con, Fam, Elim, Const}
use Rattle.theory.specs.Telescopes.{applied}
use Rattle.theory.specs.Signatures.{equation, reflexivity}
use Rattle.theory.specs.Prelude.{unit_type, pair_type}
use Rattle.theory.proofs.AfterPrelude.{after}
use Rattle.core_terms.specs.Clauses.{Is, Side}
use Rattle.core_terms.specs.Patterns as pattern
use Rattle.core_terms.specs.Patterns.{vector}
use Rattle.tree_translation.specs.Plans.{Plan}
use Rattle.tree_translation.specs.Entries.{translate}
use Rattle.tree_translation.proofs.Samples.{sample, Nat, suc_term, Vec, own, draft, plan_of}

abbrev plan_zip : Plan
plan_zip =
    plan_of (sample false) (after 6) (codes "zip") 1 (Sort 0 ∷ Sort 0 ∷ Nat ∷ Vec (Var 2) (Var 0) ∷ Vec (Var 2) (Var 1) ∷ [])
    (Vec (App (App (Fam (pair_type 0)) (Var 4)) (Var 3)) (Var 2)) (Some 2) (Is (vector (pattern.Bind ∷ pattern.Bind ∷ pattern.Dot
    (Con (after 0) 0) ∷ pattern.Con (after 1) 0 pattern.nil ∷ pattern.Con (after 1) 0 pattern.nil ∷ [])) 2 (Side (Sort 0)) ∷ Is (vector
    (pattern.Bind ∷ pattern.Bind ∷ pattern.Dot (suc_term (Var 4)) ∷ pattern.Con (after 1) 1 (vector (pattern.Bind ∷ pattern.Bind
    ∷ pattern.Bind ∷ [])) ∷ pattern.Con (after 1) 1 (vector (pattern.Dot (Var 4) ∷ pattern.Bind ∷ pattern.Bind ∷ [])) ∷ [])) 7
    (Side (Sort 0)) ∷ []) (App (Con (after 1) 0) (App (App (Fam (pair_type 0)) (Var 1)) (Var 0)) ∷ App (App (App (App (Con (after 1) 1) (App (App
    (Fam (pair_type 0)) (Var 6)) (Var 5))) (Var 4)) (App (App (App (App (Con (pair_type 0) 0) (Var 6)) (Var 5)) (Var 3)) (Var 1))) (App (App
    (App (App (App (own) (Var 6)) (Var 5)) (Var 4)) (Var 2)) (Var 0)) ∷ [])

row_zip : translate (sample false) plan_zip ≡ (Ok (draft (codes "zip!motive") (after 6) [] (Pi (Nat) (Sort 1)) (Lam (Nat)
    (Pi (Sort 0) (Pi (Sort 0) (Pi (Vec (Var 1) (Var 2)) (Pi (Vec (Var 1) (Var 3)) (Vec (applied (Fam (pair_type 0)) ((Var 3) ∷ (Var
    2) ∷ [])) (Var 4))))))) ∷ draft (codes "zip!step") (after 6) (codes "Nat!below.1" ∷ codes "zip!motive" ∷ codes "Vec!case.1" ∷
    codes "Nat!noconf.zero.1" ∷ codes "Nat!noconf.suc.1" ∷ []) (Pi (Nat) (Pi (applied (Const (after 6)) ((Const (after 7)) ∷ (Var 0) ∷
    [])) (Pi (Sort 0) (Pi (Sort 0) (Pi (Vec (Var 1) (Var 3)) (Pi (Vec (Var 1) (Var 4)) (Vec (applied (Fam (pair_type 0)) ((Var 3) ∷
    (Var 2) ∷ [])) (Var 5)))))))) (Lam (Nat) (Lam (applied (Const (after 6)) ((Const (after 7)) ∷ (Var 0) ∷ [])) (Lam (Sort 0) (Lam
    (Sort 0) (Lam (Vec (Var 1) (Var 3)) (Lam (Vec (Var 1) (Var 4)) (applied (Const (after 8)) ((Var 3) ∷ (Lam (Nat) (Lam (Vec
    (Var 4) (Var 0)) (Pi (equation 0 Nat (Var 1) (Var 7)) (Pi (equation 0 (Vec (Var 6) (Var 8)) (applied (Elim 1 0) (Nat ∷
    (Var 2) ∷ (Lam (Nat) (Lam (equation 0 Nat (Var 3) (Var 0)) (Pi (Vec (Var 8) (Var 4)) (Vec (Var 9) (Var 2))))) ∷ (Lam
    (Vec (Var 6) (Var 2)) (Var 0)) ∷ (Var 8) ∷ (Var 0) ∷ (Var 1) ∷ [])) (Var 4)) (Vec (applied (Fam (pair_type 0)) ((Var 7) ∷ (Var 6)
    ∷ [])) (Var 9)))))) ∷ (Lam (equation 0 Nat (Con (after 0) 0) (Var 5)) (Lam (equation 0 (Vec (Var 4) (Var 6)) (applied (Elim 1
    0) (Nat ∷ (Con (after 0) 0) ∷ (Lam (Nat) (Lam (equation 0 Nat (Con (after 0) 0) (Var 0)) (Pi (Vec (Var 6) (Con (after 0) 0)) (Vec (Var 7)
    (Var 2))))) ∷ (Lam (Vec (Var 4) (Con (after 0) 0)) (Var 0)) ∷ (Var 6) ∷ (Var 0) ∷ (App (Con (after 1) 0) (Var 4)) ∷ [])) (Var 2))
    (applied (Elim 1 1) (Nat ∷ (Con (after 0) 0) ∷ (Lam (Nat) (Lam (equation 0 Nat (Con (after 0) 0) (Var 0)) (Pi (applied (Const (after 6))
    ((Const (after 7)) ∷ (Var 1) ∷ [])) (Pi (Vec (Var 8) (Var 2)) (Pi (Vec (Var 8) (Var 3)) (Pi (equation 0 (Vec (Var 10) (Var
    4)) (applied (Elim 1 0) (Nat ∷ (Con (after 0) 0) ∷ (Lam (Nat) (Lam (equation 0 Nat (Con (after 0) 0) (Var 0)) (Pi (Vec (Var 12) (Con
    (after 0) 0)) (Vec (Var 13) (Var 2))))) ∷ (Lam (Vec (Var 10) (Con (after 0) 0)) (Var 0)) ∷ (Var 4) ∷ (Var 3) ∷ (App (Con (after 1) 0) (Var
    10)) ∷ [])) (Var 1)) (Vec (applied (Fam (pair_type 0)) ((Var 11) ∷ (Var 10) ∷ [])) (Var 5)))))))) ∷ (Lam (applied (Const (after 6))
    ((Const (after 7)) ∷ (Con (after 0) 0) ∷ [])) (Lam (Vec (Var 6) (Con (after 0) 0)) (Lam (Vec (Var 6) (Con (after 0) 0)) (Lam (equation 0 (Vec (Var
    8) (Con (after 0) 0)) (applied (Elim 1 0) (Nat ∷ (Con (after 0) 0) ∷ (Lam (Nat) (Lam (equation 0 Nat (Con (after 0) 0) (Var 0)) (Pi (Vec
    (Var 10) (Con (after 0) 0)) (Vec (Var 11) (Var 2))))) ∷ (Lam (Vec (Var 8) (Con (after 0) 0)) (Var 0)) ∷ (Con (after 0) 0) ∷ (reflexivity 0
    Nat (Con (after 0) 0)) ∷ (App (Con (after 1) 0) (Var 8)) ∷ [])) (Var 1)) (applied (Elim 1 1) ((Vec (Var 9) (Con (after 0) 0)) ∷ (App (Con
    (after 1) 0) (Var 9)) ∷ (Lam (Vec (Var 9) (Con (after 0) 0)) (Lam (equation 0 (Vec (Var 10) (Con (after 0) 0)) (App (Con (after 1) 0) (Var 10))
    (Var 0)) (Vec (applied (Fam (pair_type 0)) ((Var 11) ∷ (Var 10) ∷ [])) (Con (after 0) 0)))) ∷ (applied (Const (after 8)) ((Var 8) ∷ (Lam (Nat)
    (Lam (Vec (Var 9) (Var 0)) (Pi (equation 0 Nat (Var 1) (Con (after 0) 0)) (Pi (equation 0 (Vec (Var 11) (Con (after 0) 0)) (applied
    (Elim 1 0) (Nat ∷ (Var 2) ∷ (Lam (Nat) (Lam (equation 0 Nat (Var 3) (Var 0)) (Pi (Vec (Var 13) (Var 4)) (Vec (Var 14)
    (Var 2))))) ∷ (Lam (Vec (Var 11) (Var 2)) (Var 0)) ∷ (Con (after 0) 0) ∷ (Var 0) ∷ (Var 1) ∷ [])) (Var 4)) (Vec (applied (Fam
    (pair_type 0)) ((Var 13) ∷ (Var 12) ∷ [])) (Con (after 0) 0)))))) ∷ (Lam (equation 0 Nat (Con (after 0) 0) (Con (after 0) 0)) (Lam (equation 0 (Vec
    (Var 9) (Con (after 0) 0)) (applied (Elim 1 0) (Nat ∷ (Con (after 0) 0) ∷ (Lam (Nat) (Lam (equation 0 Nat (Con (after 0) 0) (Var 0)) (Pi
    (Vec (Var 11) (Con (after 0) 0)) (Vec (Var 12) (Var 2))))) ∷ (Lam (Vec (Var 9) (Con (after 0) 0)) (Var 0)) ∷ (Con (after 0) 0) ∷ (Var 0) ∷
    (App (Con (after 1) 0) (Var 9)) ∷ [])) (Var 2)) (applied (Const (after 9)) ((Con (after 0) 0) ∷ (Var 1) ∷ (Lam (equation 0 Nat (Con (after 0) 0)
    (Con (after 0) 0)) (Pi (equation 0 (Vec (Var 11) (Con (after 0) 0)) (applied (Elim 1 0) (Nat ∷ (Con (after 0) 0) ∷ (Lam (Nat) (Lam
    (equation 0 Nat (Con (after 0) 0) (Var 0)) (Pi (Vec (Var 13) (Con (after 0) 0)) (Vec (Var 14) (Var 2))))) ∷ (Lam (Vec (Var 11) (Con
    (after 0) 0)) (Var 0)) ∷ (Con (after 0) 0) ∷ (Var 0) ∷ (App (Con (after 1) 0) (Var 11)) ∷ [])) (Var 4)) (Vec (applied (Fam (pair_type 0)) ((Var 13) ∷
    (Var 12) ∷ [])) (Con (after 0) 0)))) ∷ (Lam (equation 0 (Vec (Var 10) (Con (after 0) 0)) (applied (Elim 1 0) (Nat ∷ (Con (after 0) 0) ∷
    (Lam (Nat) (Lam (equation 0 Nat (Con (after 0) 0) (Var 0)) (Pi (Vec (Var 12) (Con (after 0) 0)) (Vec (Var 13) (Var 2))))) ∷ (Lam
    (Vec (Var 10) (Con (after 0) 0)) (Var 0)) ∷ (Con (after 0) 0) ∷ (reflexivity 0 Nat (Con (after 0) 0)) ∷ (App (Con (after 1) 0) (Var 10)) ∷ []))
    (Var 3)) (applied (Elim 1 1) ((Vec (Var 11) (Con (after 0) 0)) ∷ (App (Con (after 1) 0) (Var 11)) ∷ (Lam (Vec (Var 11) (Con (after 0) 0))
    (Lam (equation 0 (Vec (Var 12) (Con (after 0) 0)) (App (Con (after 1) 0) (Var 12)) (Var 0)) (Vec (applied (Fam (pair_type 0)) ((Var 14) ∷ (Var
    13) ∷ [])) (Con (after 0) 0)))) ∷ (App (Con (after 1) 0) (applied (Fam (pair_type 0)) ((Var 12) ∷ (Var 11) ∷ []))) ∷ (Var 4) ∷ (Var 0) ∷ [])))
    ∷ (Var 0) ∷ [])))) ∷ (Lam (Nat) (Lam (Var 9) (Lam (Vec (Var 10) (Var 1)) (Lam (equation 0 Nat (suc_term (Var 2)) (Con
    (after 0) 0)) (Lam (equation 0 (Vec (Var 12) (Con (after 0) 0)) (applied (Elim 1 0) (Nat ∷ (suc_term (Var 3)) ∷ (Lam (Nat) (Lam
    (equation 0 Nat (suc_term (Var 4)) (Var 0)) (Pi (Vec (Var 14) (suc_term (Var 5))) (Vec (Var 15) (Var 2))))) ∷ (Lam
    (Vec (Var 12) (suc_term (Var 3))) (Var 0)) ∷ (Con (after 0) 0) ∷ (Var 0) ∷ (applied (Con (after 1) 1) ((Var 12) ∷ (Var 3) ∷ (Var 2)
    ∷ (Var 1) ∷ [])) ∷ [])) (Var 5)) (applied (Const (after 10)) ((Var 4) ∷ (Con (after 0) 0) ∷ (Var 1) ∷ (Lam (equation 0 Nat (suc_term
    (Var 4)) (Con (after 0) 0)) (Vec (applied (Fam (pair_type 0)) ((Var 15) ∷ (Var 14) ∷ [])) (Con (after 0) 0))) ∷ []))))))) ∷ (Con (after 0) 0) ∷ (Var
    1) ∷ (reflexivity 0 Nat (Con (after 0) 0)) ∷ (reflexivity 0 (Vec (Var 8) (Con (after 0) 0)) (Var 1)) ∷ [])) ∷ (Var 2) ∷ (Var 0) ∷
    [])))))) ∷ (Var 7) ∷ (Var 1) ∷ (Var 6) ∷ (Var 3) ∷ (Var 2) ∷ (Var 0) ∷ [])))) ∷ (Lam (Nat) (Lam (Var 4) (Lam (Vec (Var
    5) (Var 1)) (Lam (equation 0 Nat (suc_term (Var 2)) (Var 8)) (Lam (equation 0 (Vec (Var 7) (Var 9)) (applied (Elim 1
    0) (Nat ∷ (suc_term (Var 3)) ∷ (Lam (Nat) (Lam (equation 0 Nat (suc_term (Var 4)) (Var 0)) (Pi (Vec (Var 9) (suc_term
    (Var 5))) (Vec (Var 10) (Var 2))))) ∷ (Lam (Vec (Var 7) (suc_term (Var 3))) (Var 0)) ∷ (Var 9) ∷ (Var 0) ∷ (applied
    (Con (after 1) 1) ((Var 7) ∷ (Var 3) ∷ (Var 2) ∷ (Var 1) ∷ [])) ∷ [])) (Var 5)) (applied (Elim 1 1) (Nat ∷ (suc_term (Var 4))
    ∷ (Lam (Nat) (Lam (equation 0 Nat (suc_term (Var 5)) (Var 0)) (Pi (applied (Const (after 6)) ((Const (after 7)) ∷ (Var 1) ∷ [])) (Pi
    (Vec (Var 11) (Var 2)) (Pi (Vec (Var 11) (Var 3)) (Pi (equation 0 (Vec (Var 13) (Var 4)) (applied (Elim 1 0) (Nat ∷
    (suc_term (Var 9)) ∷ (Lam (Nat) (Lam (equation 0 Nat (suc_term (Var 10)) (Var 0)) (Pi (Vec (Var 15) (suc_term (Var
    11))) (Vec (Var 16) (Var 2))))) ∷ (Lam (Vec (Var 13) (suc_term (Var 9))) (Var 0)) ∷ (Var 4) ∷ (Var 3) ∷ (applied (Con
    (after 1) 1) ((Var 13) ∷ (Var 9) ∷ (Var 8) ∷ (Var 7) ∷ [])) ∷ [])) (Var 1)) (Vec (applied (Fam (pair_type 0)) ((Var 14) ∷ (Var 13) ∷
    [])) (Var 5)))))))) ∷ (Lam (applied (Const (after 6)) ((Const (after 7)) ∷ (suc_term (Var 4)) ∷ [])) (Lam (Vec (Var 9) (suc_term
    (Var 5))) (Lam (Vec (Var 9) (suc_term (Var 6))) (Lam (equation 0 (Vec (Var 11) (suc_term (Var 7))) (applied (Elim 1 0)
    (Nat ∷ (suc_term (Var 7)) ∷ (Lam (Nat) (Lam (equation 0 Nat (suc_term (Var 8)) (Var 0)) (Pi (Vec (Var 13) (suc_term
    (Var 9))) (Vec (Var 14) (Var 2))))) ∷ (Lam (Vec (Var 11) (suc_term (Var 7))) (Var 0)) ∷ (suc_term (Var 7)) ∷
    (reflexivity 0 Nat (suc_term (Var 7))) ∷ (applied (Con (after 1) 1) ((Var 11) ∷ (Var 7) ∷ (Var 6) ∷ (Var 5) ∷ [])) ∷ []))
    (Var 1)) (applied (Elim 1 1) ((Vec (Var 12) (suc_term (Var 8))) ∷ (applied (Con (after 1) 1) ((Var 12) ∷ (Var 8) ∷ (Var 7) ∷
    (Var 6) ∷ [])) ∷ (Lam (Vec (Var 12) (suc_term (Var 8))) (Lam (equation 0 (Vec (Var 13) (suc_term (Var 9))) (applied
    (Con (after 1) 1) ((Var 13) ∷ (Var 9) ∷ (Var 8) ∷ (Var 7) ∷ [])) (Var 0)) (Vec (applied (Fam (pair_type 0)) ((Var 14) ∷ (Var 13) ∷ []))
    (suc_term (Var 10))))) ∷ (applied (Const (after 8)) ((Var 11) ∷ (Lam (Nat) (Lam (Vec (Var 12) (Var 0)) (Pi (equation 0 Nat
    (Var 1) (suc_term (Var 10))) (Pi (equation 0 (Vec (Var 14) (suc_term (Var 11))) (applied (Elim 1 0) (Nat ∷ (Var 2) ∷
    (Lam (Nat) (Lam (equation 0 Nat (Var 3) (Var 0)) (Pi (Vec (Var 16) (Var 4)) (Vec (Var 17) (Var 2))))) ∷ (Lam (Vec (Var
    14) (Var 2)) (Var 0)) ∷ (suc_term (Var 11)) ∷ (Var 0) ∷ (Var 1) ∷ [])) (Var 4)) (Vec (applied (Fam (pair_type 0)) ((Var 16) ∷
    (Var 15) ∷ [])) (suc_term (Var 12))))))) ∷ (Lam (equation 0 Nat (Con (after 0) 0) (suc_term (Var 8))) (Lam (equation 0 (Vec
    (Var 12) (suc_term (Var 9))) (applied (Elim 1 0) (Nat ∷ (Con (after 0) 0) ∷ (Lam (Nat) (Lam (equation 0 Nat (Con (after 0) 0) (Var
    0)) (Pi (Vec (Var 14) (Con (after 0) 0)) (Vec (Var 15) (Var 2))))) ∷ (Lam (Vec (Var 12) (Con (after 0) 0)) (Var 0)) ∷ (suc_term (Var
    9)) ∷ (Var 0) ∷ (App (Con (after 1) 0) (Var 12)) ∷ [])) (Var 2)) (applied (Const (after 9)) ((suc_term (Var 10)) ∷ (Var 1) ∷ (Lam
    (equation 0 Nat (Con (after 0) 0) (suc_term (Var 10))) (Vec (applied (Fam (pair_type 0)) ((Var 15) ∷ (Var 14) ∷ [])) (suc_term (Var
    11)))) ∷ [])))) ∷ (Lam (Nat) (Lam (Var 12) (Lam (Vec (Var 13) (Var 1)) (Lam (equation 0 Nat (suc_term (Var 2))
    (suc_term (Var 11))) (Lam (equation 0 (Vec (Var 15) (suc_term (Var 12))) (applied (Elim 1 0) (Nat ∷ (suc_term (Var 3))
    ∷ (Lam (Nat) (Lam (equation 0 Nat (suc_term (Var 4)) (Var 0)) (Pi (Vec (Var 17) (suc_term (Var 5))) (Vec (Var 18) (Var
    2))))) ∷ (Lam (Vec (Var 15) (suc_term (Var 3))) (Var 0)) ∷ (suc_term (Var 12)) ∷ (Var 0) ∷ (applied (Con (after 1) 1) ((Var
    15) ∷ (Var 3) ∷ (Var 2) ∷ (Var 1) ∷ [])) ∷ [])) (Var 5)) (applied (Const (after 10)) ((Var 4) ∷ (suc_term (Var 13)) ∷ (Var 1)
    ∷ (Lam (equation 0 Nat (suc_term (Var 4)) (suc_term (Var 13))) (Pi (equation 0 (Vec (Var 17) (suc_term (Var 14)))
    (applied (Elim 1 0) (Nat ∷ (suc_term (Var 5)) ∷ (Lam (Nat) (Lam (equation 0 Nat (suc_term (Var 6)) (Var 0)) (Pi (Vec
    (Var 19) (suc_term (Var 7))) (Vec (Var 20) (Var 2))))) ∷ (Lam (Vec (Var 17) (suc_term (Var 5))) (Var 0)) ∷ (suc_term
    (Var 14)) ∷ (Var 0) ∷ (applied (Con (after 1) 1) ((Var 17) ∷ (Var 5) ∷ (Var 4) ∷ (Var 3) ∷ [])) ∷ [])) (Var 7)) (Vec (applied
    (Fam (pair_type 0)) ((Var 19) ∷ (Var 18) ∷ [])) (suc_term (Var 15))))) ∷ (Lam (equation 0 Nat (Var 4) (Var 13)) (Lam (equation 0
    (Vec (Var 17) (suc_term (Var 14))) (applied (Elim 1 0) (Nat ∷ (suc_term (Var 5)) ∷ (Lam (Nat) (Lam (equation 0 Nat
    (suc_term (Var 6)) (Var 0)) (Pi (Vec (Var 19) (suc_term (Var 7))) (Vec (Var 20) (Var 2))))) ∷ (Lam (Vec (Var 17)
    (suc_term (Var 5))) (Var 0)) ∷ (suc_term (Var 14)) ∷ (applied (Elim 1 0) (Nat ∷ (Var 5) ∷ (Lam (Nat) (Lam (equation 0
    Nat (Var 6) (Var 0)) (equation 0 Nat (suc_term (Var 7)) (suc_term (Var 1))))) ∷ (reflexivity 0 Nat (suc_term (Var 5)))
    ∷ (Var 14) ∷ (Var 0) ∷ [])) ∷ (applied (Con (after 1) 1) ((Var 17) ∷ (Var 5) ∷ (Var 4) ∷ (Var 3) ∷ [])) ∷ [])) (Var 7))
    (applied (Elim 1 1) (Nat ∷ (Var 6) ∷ (Lam (Nat) (Lam (equation 0 Nat (Var 7) (Var 0)) (Pi (Vec (Var 21) (Var 1)) (Pi
    (applied (Const (after 6)) ((Const (after 7)) ∷ (suc_term (Var 2)) ∷ [])) (Pi (Vec (Var 22) (suc_term (Var 3))) (Pi (equation 0 (Vec
    (Var 23) (suc_term (Var 4))) (applied (Elim 1 0) (Nat ∷ (suc_term (Var 11)) ∷ (Lam (Nat) (Lam (equation 0 Nat
    (suc_term (Var 12)) (Var 0)) (Pi (Vec (Var 25) (suc_term (Var 13))) (Vec (Var 26) (Var 2))))) ∷ (Lam (Vec (Var 23)
    (suc_term (Var 11))) (Var 0)) ∷ (suc_term (Var 4)) ∷ (applied (Elim 1 0) (Nat ∷ (Var 11) ∷ (Lam (Nat) (Lam (equation 0
    Nat (Var 12) (Var 0)) (equation 0 Nat (suc_term (Var 13)) (suc_term (Var 1))))) ∷ (reflexivity 0 Nat (suc_term (Var
    11))) ∷ (Var 4) ∷ (Var 3) ∷ [])) ∷ (applied (Con (after 1) 1) ((Var 23) ∷ (Var 11) ∷ (Var 10) ∷ (Var 9) ∷ [])) ∷ [])) (Var
    0)) (Vec (applied (Fam (pair_type 0)) ((Var 25) ∷ (Var 24) ∷ [])) (suc_term (Var 5))))))))) ∷ (Lam (Vec (Var 19) (Var 6)) (Lam
    (applied (Const (after 6)) ((Const (after 7)) ∷ (suc_term (Var 7)) ∷ [])) (Lam (Vec (Var 20) (suc_term (Var 8))) (Lam (equation 0
    (Vec (Var 21) (suc_term (Var 9))) (applied (Elim 1 0) (Nat ∷ (suc_term (Var 9)) ∷ (Lam (Nat) (Lam (equation 0 Nat
    (suc_term (Var 10)) (Var 0)) (Pi (Vec (Var 23) (suc_term (Var 11))) (Vec (Var 24) (Var 2))))) ∷ (Lam (Vec (Var 21)
    (suc_term (Var 9))) (Var 0)) ∷ (suc_term (Var 9)) ∷ (applied (Elim 1 0) (Nat ∷ (Var 9) ∷ (Lam (Nat) (Lam (equation 0
    Nat (Var 10) (Var 0)) (equation 0 Nat (suc_term (Var 11)) (suc_term (Var 1))))) ∷ (reflexivity 0 Nat (suc_term (Var
    9))) ∷ (Var 9) ∷ (reflexivity 0 Nat (Var 9)) ∷ [])) ∷ (applied (Con (after 1) 1) ((Var 21) ∷ (Var 9) ∷ (Var 8) ∷ (Var 7) ∷
    [])) ∷ [])) (Var 0)) (applied (Elim 1 1) ((Vec (Var 22) (suc_term (Var 10))) ∷ (applied (Con (after 1) 1) ((Var 22) ∷ (Var
    10) ∷ (Var 9) ∷ (Var 8) ∷ [])) ∷ (Lam (Vec (Var 22) (suc_term (Var 10))) (Lam (equation 0 (Vec (Var 23) (suc_term (Var
    11))) (applied (Con (after 1) 1) ((Var 23) ∷ (Var 11) ∷ (Var 10) ∷ (Var 9) ∷ [])) (Var 0)) (Vec (applied (Fam (pair_type 0)) ((Var 25) ∷
    (Var 24) ∷ [])) (suc_term (Var 12))))) ∷ (applied (Con (after 1) 1) ((applied (Fam (pair_type 0)) ((Var 23) ∷ (Var 22) ∷ [])) ∷ (Var 10)
    ∷ (applied (Con (pair_type 0) 0) ((Var 23) ∷ (Var 22) ∷ (Var 18) ∷ (Var 9) ∷ [])) ∷ (applied (Elim (pair_type 1) 1) ((App (Const (after 7)) (Var
    10)) ∷ (applied (Const (after 6)) ((Const (after 7)) ∷ (Var 10) ∷ [])) ∷ (Lam (applied (Fam (pair_type 1)) ((App (Const (after 7)) (Var 10)) ∷
    (applied (Const (after 6)) ((Const (after 7)) ∷ (Var 10) ∷ [])) ∷ [])) (App (Const (after 7)) (Var 11))) ∷ (Lam (App (Const (after 7)) (Var 10))
    (Lam (applied (Const (after 6)) ((Const (after 7)) ∷ (Var 11) ∷ [])) (Var 1))) ∷ (applied (Elim (pair_type 1) 1) ((applied (Fam (pair_type 1)) ((App
    (Const (after 7)) (Var 10)) ∷ (applied (Const (after 6)) ((Const (after 7)) ∷ (Var 10) ∷ [])) ∷ [])) ∷ (Fam (unit_type 1)) ∷ (Lam (applied (Fam (pair_type 1))
    ((applied (Fam (pair_type 1)) ((App (Const (after 7)) (Var 10)) ∷ (applied (Const (after 6)) ((Const (after 7)) ∷ (Var 10) ∷ [])) ∷ [])) ∷ (Fam (unit_type 1)) ∷
    [])) (applied (Fam (pair_type 1)) ((App (Const (after 7)) (Var 11)) ∷ (applied (Const (after 6)) ((Const (after 7)) ∷ (Var 11) ∷ [])) ∷ []))) ∷ (Lam
    (applied (Fam (pair_type 1)) ((App (Const (after 7)) (Var 10)) ∷ (applied (Const (after 6)) ((Const (after 7)) ∷ (Var 10) ∷ [])) ∷ [])) (Lam (Fam (unit_type 1))
    (Var 1))) ∷ (Var 2) ∷ [])) ∷ (Var 23) ∷ (Var 22) ∷ (Var 3) ∷ (Var 8) ∷ [])) ∷ [])) ∷ (Var 1) ∷ (Var 0) ∷ [])))))) ∷
    (Var 15) ∷ (Var 1) ∷ (Var 13) ∷ (Var 10) ∷ (Var 8) ∷ (Var 0) ∷ [])))) ∷ (Var 0) ∷ []))))))) ∷ (suc_term (Var 8)) ∷
    (Var 1) ∷ (reflexivity 0 Nat (suc_term (Var 8))) ∷ (reflexivity 0 (Vec (Var 11) (suc_term (Var 8))) (Var 1)) ∷ [])) ∷
    (Var 2) ∷ (Var 0) ∷ [])))))) ∷ (Var 10) ∷ (Var 1) ∷ (Var 9) ∷ (Var 6) ∷ (Var 5) ∷ (Var 0) ∷ []))))))) ∷ (Var 5) ∷ (Var
    1) ∷ (reflexivity 0 Nat (Var 5)) ∷ (reflexivity 0 (Vec (Var 3) (Var 5)) (Var 1)) ∷ [])))))))) ∷ draft (codes "zip") (after 6)
    (codes "Nat!rec.1" ∷ codes "zip!motive" ∷ codes "zip!step" ∷ []) (Pi (Sort 0) (Pi (Sort 0) (Pi (Nat) (Pi (Vec (Var 2)
    (Var 0)) (Pi (Vec (Var 2) (Var 1)) (Vec (applied (Fam (pair_type 0)) ((Var 4) ∷ (Var 3) ∷ [])) (Var 2))))))) (Lam (Sort 0) (Lam
    (Sort 0) (Lam (Nat) (Lam (Vec (Var 2) (Var 0)) (Lam (Vec (Var 2) (Var 1)) (applied (Const (after 6)) ((Const (after 7)) ∷ (Const (after 8))
    ∷ (Var 2) ∷ (Var 4) ∷ (Var 3) ∷ (Var 1) ∷ (Var 0) ∷ []))))))) ∷ []))
unfolding native.Mathlib.Decide.ℕ_discrete
row_zip = refl
