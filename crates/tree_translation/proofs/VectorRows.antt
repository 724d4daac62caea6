-- Entries of recursive functions on vectors, as another implementation prints them.
use native.Mathlib.Decide.{ℕ_discrete}
use Rattle.std.proofs.Common.{◌≡◌, false, Some, Ok, [], ◌∷◌, refl, codes}
use Rattle.theory.specs.Terms.Term.{Var, Sort, Pi, Lam, App, Con, Fam, Elim, Const}
use Rattle.theory.specs.Telescopes.{applied}
use Rattle.theory.specs.Signatures.{equation, reflexivity}
use Rattle.theory.specs.Prelude.{unit_type, pair_type}
use Rattle.theory.proofs.AfterPrelude.{after}
use Rattle.core_terms.specs.Clauses.{Is, Side}
use Rattle.core_terms.specs.Patterns as pattern
use Rattle.core_terms.specs.Patterns.{vector}
use Rattle.tree_translation.specs.Plans.{Plan}
use Rattle.tree_translation.specs.Entries.{translate}
use Rattle.tree_translation.proofs.Samples.{sample, behind, constant, Nat, suc_term, Vec, own, draft, plan_of}

abbrev plan_len : Plan
plan_len =
    plan_of (sample false) (after 6) (codes "len") 1 (Nat ∷ Sort 0 ∷ Nat ∷ Vec (Var 1) (Var 2) ∷ []) (Nat) (Some 0) (Is (vector
    (pattern.Dot (Con (after 0) 0) ∷ pattern.Bind ∷ pattern.Bind ∷ pattern.Con (after 1) 0 pattern.nil ∷ [])) 2 (Side (Sort 0)) ∷ Is
    (vector (pattern.Dot (suc_term (Var 2)) ∷ pattern.Bind ∷ pattern.Bind ∷ pattern.Con (after 1) 1 (vector (pattern.Bind ∷
    pattern.Bind ∷ pattern.Bind ∷ [])) ∷ [])) 5 (Side (Sort 0)) ∷ []) (Var 0 ∷ App (App (App (App (own) (Var 2)) (Var 4))
    (suc_term (Var 3))) (Var 0) ∷ [])

row_len : translate (sample false) plan_len ≡ (Ok (draft (codes "len!motive") (after 6) [] (Pi (Nat) (Sort 1)) (Lam (Nat)
    (Pi (Sort 0) (Pi (Nat) (Pi (Vec (Var 1) (Var 2)) (Nat))))) ∷ draft (codes "len!step") (after 6) (codes "Nat!below.1" ∷ codes
    "len!motive" ∷ codes "Vec!case.1" ∷ []) (Pi (Nat) (Pi (applied (Const (after 6)) ((Const (after 7)) ∷ (Var 0) ∷ [])) (Pi (Sort 0)
    (Pi (Nat) (Pi (Vec (Var 1) (Var 3)) (Nat)))))) (Lam (Nat) (Lam (applied (Const (after 6)) ((Const (after 7)) ∷ (Var 0) ∷ [])) (Lam
    (Sort 0) (Lam (Nat) (Lam (Vec (Var 1) (Var 3)) (applied (Const (after 8)) ((Var 2) ∷ (Lam (Nat) (Lam (Vec (Var 3) (Var 0))
    (Pi (equation 0 Nat (Var 1) (Var 6)) (Pi (equation 0 (Vec (Var 5) (Var 7)) (applied (Elim 1 0) (Nat ∷ (Var 2) ∷ (Lam
    (Nat) (Lam (equation 0 Nat (Var 3) (Var 0)) (Pi (Vec (Var 7) (Var 4)) (Vec (Var 8) (Var 2))))) ∷ (Lam (Vec (Var 5)
    (Var 2)) (Var 0)) ∷ (Var 7) ∷ (Var 0) ∷ (Var 1) ∷ [])) (Var 3)) (Nat))))) ∷ (Lam (equation 0 Nat (Con (after 0) 0) (Var 4))
    (Lam (equation 0 (Vec (Var 3) (Var 5)) (applied (Elim 1 0) (Nat ∷ (Con (after 0) 0) ∷ (Lam (Nat) (Lam (equation 0 Nat (Con (after 0)
    0) (Var 0)) (Pi (Vec (Var 5) (Con (after 0) 0)) (Vec (Var 6) (Var 2))))) ∷ (Lam (Vec (Var 3) (Con (after 0) 0)) (Var 0)) ∷ (Var 5) ∷
    (Var 0) ∷ (App (Con (after 1) 0) (Var 3)) ∷ [])) (Var 1)) (applied (Elim 1 1) (Nat ∷ (Con (after 0) 0) ∷ (Lam (Nat) (Lam (equation 0
    Nat (Con (after 0) 0) (Var 0)) (Pi (applied (Const (after 6)) ((Const (after 7)) ∷ (Var 1) ∷ [])) (Pi (Vec (Var 7) (Var 2)) (Pi (equation 0
    (Vec (Var 8) (Var 3)) (applied (Elim 1 0) (Nat ∷ (Con (after 0) 0) ∷ (Lam (Nat) (Lam (equation 0 Nat (Con (after 0) 0) (Var 0)) (Pi
    (Vec (Var 10) (Con (after 0) 0)) (Vec (Var 11) (Var 2))))) ∷ (Lam (Vec (Var 8) (Con (after 0) 0)) (Var 0)) ∷ (Var 3) ∷ (Var 2) ∷
    (App (Con (after 1) 0) (Var 8)) ∷ [])) (Var 0)) (Nat)))))) ∷ (Lam (applied (Const (after 6)) ((Const (after 7)) ∷ (Con (after 0) 0) ∷ [])) (Lam
    (Vec (Var 5) (Con (after 0) 0)) (Lam (equation 0 (Vec (Var 6) (Con (after 0) 0)) (applied (Elim 1 0) (Nat ∷ (Con (after 0) 0) ∷ (Lam (Nat)
    (Lam (equation 0 Nat (Con (after 0) 0) (Var 0)) (Pi (Vec (Var 8) (Con (after 0) 0)) (Vec (Var 9) (Var 2))))) ∷ (Lam (Vec (Var 6)
    (Con (after 0) 0)) (Var 0)) ∷ (Con (after 0) 0) ∷ (reflexivity 0 Nat (Con (after 0) 0)) ∷ (App (Con (after 1) 0) (Var 6)) ∷ [])) (Var 0)) (applied
    (Elim 1 1) ((Vec (Var 7) (Con (after 0) 0)) ∷ (App (Con (after 1) 0) (Var 7)) ∷ (Lam (Vec (Var 7) (Con (after 0) 0)) (Lam (equation 0 (Vec
    (Var 8) (Con (after 0) 0)) (App (Con (after 1) 0) (Var 8)) (Var 0)) (Nat))) ∷ (Var 6) ∷ (Var 1) ∷ (Var 0) ∷ []))))) ∷ (Var 6) ∷ (Var
    1) ∷ (Var 5) ∷ (Var 2) ∷ (Var 0) ∷ [])))) ∷ (Lam (Nat) (Lam (Var 3) (Lam (Vec (Var 4) (Var 1)) (Lam (equation 0 Nat
    (suc_term (Var 2)) (Var 7)) (Lam (equation 0 (Vec (Var 6) (Var 8)) (applied (Elim 1 0) (Nat ∷ (suc_term (Var 3)) ∷
    (Lam (Nat) (Lam (equation 0 Nat (suc_term (Var 4)) (Var 0)) (Pi (Vec (Var 8) (suc_term (Var 5))) (Vec (Var 9) (Var
    2))))) ∷ (Lam (Vec (Var 6) (suc_term (Var 3))) (Var 0)) ∷ (Var 8) ∷ (Var 0) ∷ (applied (Con (after 1) 1) ((Var 6) ∷ (Var 3) ∷
    (Var 2) ∷ (Var 1) ∷ [])) ∷ [])) (Var 4)) (applied (Elim 1 1) (Nat ∷ (suc_term (Var 4)) ∷ (Lam (Nat) (Lam (equation 0
    Nat (suc_term (Var 5)) (Var 0)) (Pi (applied (Const (after 6)) ((Const (after 7)) ∷ (Var 1) ∷ [])) (Pi (Vec (Var 10) (Var 2)) (Pi
    (equation 0 (Vec (Var 11) (Var 3)) (applied (Elim 1 0) (Nat ∷ (suc_term (Var 8)) ∷ (Lam (Nat) (Lam (equation 0 Nat
    (suc_term (Var 9)) (Var 0)) (Pi (Vec (Var 13) (suc_term (Var 10))) (Vec (Var 14) (Var 2))))) ∷ (Lam (Vec (Var 11)
    (suc_term (Var 8))) (Var 0)) ∷ (Var 3) ∷ (Var 2) ∷ (applied (Con (after 1) 1) ((Var 11) ∷ (Var 8) ∷ (Var 7) ∷ (Var 6) ∷ []))
    ∷ [])) (Var 0)) (Nat)))))) ∷ (Lam (applied (Const (after 6)) ((Const (after 7)) ∷ (suc_term (Var 4)) ∷ [])) (Lam (Vec (Var 8)
    (suc_term (Var 5))) (Lam (equation 0 (Vec (Var 9) (suc_term (Var 6))) (applied (Elim 1 0) (Nat ∷ (suc_term (Var 6)) ∷
    (Lam (Nat) (Lam (equation 0 Nat (suc_term (Var 7)) (Var 0)) (Pi (Vec (Var 11) (suc_term (Var 8))) (Vec (Var 12) (Var
    2))))) ∷ (Lam (Vec (Var 9) (suc_term (Var 6))) (Var 0)) ∷ (suc_term (Var 6)) ∷ (reflexivity 0 Nat (suc_term (Var 6)))
    ∷ (applied (Con (after 1) 1) ((Var 9) ∷ (Var 6) ∷ (Var 5) ∷ (Var 4) ∷ [])) ∷ [])) (Var 0)) (applied (Elim 1 1) ((Vec (Var 10)
    (suc_term (Var 7))) ∷ (applied (Con (after 1) 1) ((Var 10) ∷ (Var 7) ∷ (Var 6) ∷ (Var 5) ∷ [])) ∷ (Lam (Vec (Var 10)
    (suc_term (Var 7))) (Lam (equation 0 (Vec (Var 11) (suc_term (Var 8))) (applied (Con (after 1) 1) ((Var 11) ∷ (Var 8) ∷ (Var
    7) ∷ (Var 6) ∷ [])) (Var 0)) (Nat))) ∷ (applied (Elim (pair_type 1) 1) ((App (Const (after 7)) (Var 7)) ∷ (applied (Const (after 6)) ((Const
    (after 7)) ∷ (Var 7) ∷ [])) ∷ (Lam (applied (Fam (pair_type 1)) ((App (Const (after 7)) (Var 7)) ∷ (applied (Const (after 6)) ((Const (after 7)) ∷ (Var 7) ∷
    [])) ∷ [])) (App (Const (after 7)) (Var 8))) ∷ (Lam (App (Const (after 7)) (Var 7)) (Lam (applied (Const (after 6)) ((Const (after 7)) ∷ (Var 8) ∷
    [])) (Var 1))) ∷ (applied (Elim (pair_type 1) 1) ((applied (Fam (pair_type 1)) ((App (Const (after 7)) (Var 7)) ∷ (applied (Const (after 6)) ((Const (after 7)) ∷
    (Var 7) ∷ [])) ∷ [])) ∷ (Fam (unit_type 1)) ∷ (Lam (applied (Fam (pair_type 1)) ((applied (Fam (pair_type 1)) ((App (Const (after 7)) (Var 7)) ∷ (applied
    (Const (after 6)) ((Const (after 7)) ∷ (Var 7) ∷ [])) ∷ [])) ∷ (Fam (unit_type 1)) ∷ [])) (applied (Fam (pair_type 1)) ((App (Const (after 7)) (Var 8)) ∷
    (applied (Const (after 6)) ((Const (after 7)) ∷ (Var 8) ∷ [])) ∷ []))) ∷ (Lam (applied (Fam (pair_type 1)) ((App (Const (after 7)) (Var 7)) ∷ (applied
    (Const (after 6)) ((Const (after 7)) ∷ (Var 7) ∷ [])) ∷ [])) (Lam (Fam (unit_type 1)) (Var 1))) ∷ (Var 2) ∷ [])) ∷ (Var 10) ∷ (suc_term (Var
    9)) ∷ (Var 5) ∷ [])) ∷ (Var 1) ∷ (Var 0) ∷ []))))) ∷ (Var 9) ∷ (Var 1) ∷ (Var 8) ∷ (Var 5) ∷ (Var 0) ∷ []))))))) ∷
    (Var 4) ∷ (Var 0) ∷ (reflexivity 0 Nat (Var 4)) ∷ (reflexivity 0 (Vec (Var 2) (Var 4)) (Var 0)) ∷ []))))))) ∷ draft
    (codes "len") (after 6) (codes "Nat!rec.1" ∷ codes "len!motive" ∷ codes "len!step" ∷ []) (Pi (Nat) (Pi (Sort 0) (Pi (Nat) (Pi
    (Vec (Var 1) (Var 2)) (Nat))))) (Lam (Nat) (Lam (Sort 0) (Lam (Nat) (Lam (Vec (Var 1) (Var 2)) (applied (Const (after 6))
    ((Const (after 7)) ∷ (Const (after 8)) ∷ (Var 3) ∷ (Var 2) ∷ (Var 1) ∷ (Var 0) ∷ [])))))) ∷ []))
unfolding native.Mathlib.Decide.ℕ_discrete
row_len = refl

abbrev plan_append : Plan
plan_append =
    plan_of (behind (sample false) (constant (after 6) ∷ [])) (after 7) (codes "append") 1 (Sort 0 ∷ Nat ∷ Nat ∷ Vec (Var 2) (Var 1) ∷
    Vec (Var 3) (Var 1) ∷ []) (Vec (Var 4) (App (App (Const (after 6)) (Var 3)) (Var 2))) (Some 1) (Is (vector (pattern.Bind ∷
    pattern.Dot (Con (after 0) 0) ∷ pattern.Bind ∷ pattern.Con (after 1) 0 pattern.nil ∷ pattern.Bind ∷ [])) 3 (Side (Sort 0)) ∷ Is
    (vector (pattern.Bind ∷ pattern.Dot (suc_term (Var 3)) ∷ pattern.Bind ∷ pattern.Con (after 1) 1 (vector (pattern.Bind ∷
    pattern.Bind ∷ pattern.Bind ∷ [])) ∷ pattern.Bind ∷ [])) 6 (Side (Sort 0)) ∷ []) (Var 0 ∷ App (App (App (App (Con (after 1)
    1) (Var 5)) (App (App (Const (after 6)) (Var 3)) (Var 4))) (Var 2)) (App (App (App (App (App (Const (after 7)) (Var 5)) (Var 3))
    (Var 4)) (Var 1)) (Var 0)) ∷ [])

row_append : translate (behind (sample false) (constant (after 6) ∷ [])) plan_append ≡ (Ok (draft (codes "append!motive") (after 7)
    [] (Pi (Nat) (Sort 1)) (Lam (Nat) (Pi (Sort 0) (Pi (Nat) (Pi (Vec (Var 1) (Var 2)) (Pi (Vec (Var 2) (Var 1)) (Vec (Var
    3) (applied (Const (after 6)) ((Var 4) ∷ (Var 2) ∷ [])))))))) ∷ draft (codes "append!step") (after 7) (codes "Nat!below.1" ∷ codes
    "append!motive" ∷ codes "Vec!case.1" ∷ []) (Pi (Nat) (Pi (applied (Const (after 7)) ((Const (after 8)) ∷ (Var 0) ∷ [])) (Pi (Sort 0)
    (Pi (Nat) (Pi (Vec (Var 1) (Var 3)) (Pi (Vec (Var 2) (Var 1)) (Vec (Var 3) (applied (Const (after 6)) ((Var 5) ∷ (Var 2) ∷
    []))))))))) (Lam (Nat) (Lam (applied (Const (after 7)) ((Const (after 8)) ∷ (Var 0) ∷ [])) (Lam (Sort 0) (Lam (Nat) (Lam (Vec (Var
    1) (Var 3)) (Lam (Vec (Var 2) (Var 1)) (applied (Const (after 9)) ((Var 3) ∷ (Lam (Nat) (Lam (Vec (Var 4) (Var 0)) (Pi
    (equation 0 Nat (Var 1) (Var 7)) (Pi (equation 0 (Vec (Var 6) (Var 8)) (applied (Elim 1 0) (Nat ∷ (Var 2) ∷ (Lam (Nat)
    (Lam (equation 0 Nat (Var 3) (Var 0)) (Pi (Vec (Var 8) (Var 4)) (Vec (Var 9) (Var 2))))) ∷ (Lam (Vec (Var 6) (Var 2))
    (Var 0)) ∷ (Var 8) ∷ (Var 0) ∷ (Var 1) ∷ [])) (Var 4)) (Vec (Var 7) (applied (Const (after 6)) ((Var 9) ∷ (Var 6) ∷ [])))))))
    ∷ (Lam (equation 0 Nat (Con (after 0) 0) (Var 5)) (Lam (equation 0 (Vec (Var 4) (Var 6)) (applied (Elim 1 0) (Nat ∷ (Con (after 0)
    0) ∷ (Lam (Nat) (Lam (equation 0 Nat (Con (after 0) 0) (Var 0)) (Pi (Vec (Var 6) (Con (after 0) 0)) (Vec (Var 7) (Var 2))))) ∷ (Lam
    (Vec (Var 4) (Con (after 0) 0)) (Var 0)) ∷ (Var 6) ∷ (Var 0) ∷ (App (Con (after 1) 0) (Var 4)) ∷ [])) (Var 2)) (applied (Elim 1 1)
    (Nat ∷ (Con (after 0) 0) ∷ (Lam (Nat) (Lam (equation 0 Nat (Con (after 0) 0) (Var 0)) (Pi (applied (Const (after 7)) ((Const (after 8)) ∷ (Var 1)
    ∷ [])) (Pi (Vec (Var 8) (Var 2)) (Pi (equation 0 (Vec (Var 9) (Var 3)) (applied (Elim 1 0) (Nat ∷ (Con (after 0) 0) ∷ (Lam
    (Nat) (Lam (equation 0 Nat (Con (after 0) 0) (Var 0)) (Pi (Vec (Var 11) (Con (after 0) 0)) (Vec (Var 12) (Var 2))))) ∷ (Lam (Vec
    (Var 9) (Con (after 0) 0)) (Var 0)) ∷ (Var 3) ∷ (Var 2) ∷ (App (Con (after 1) 0) (Var 9)) ∷ [])) (Var 0)) (Vec (Var 10) (applied
    (Const (after 6)) ((Var 4) ∷ (Var 9) ∷ [])))))))) ∷ (Lam (applied (Const (after 7)) ((Const (after 8)) ∷ (Con (after 0) 0) ∷ [])) (Lam (Vec (Var
    6) (Con (after 0) 0)) (Lam (equation 0 (Vec (Var 7) (Con (after 0) 0)) (applied (Elim 1 0) (Nat ∷ (Con (after 0) 0) ∷ (Lam (Nat) (Lam
    (equation 0 Nat (Con (after 0) 0) (Var 0)) (Pi (Vec (Var 9) (Con (after 0) 0)) (Vec (Var 10) (Var 2))))) ∷ (Lam (Vec (Var 7) (Con (after 0)
    0)) (Var 0)) ∷ (Con (after 0) 0) ∷ (reflexivity 0 Nat (Con (after 0) 0)) ∷ (App (Con (after 1) 0) (Var 7)) ∷ [])) (Var 0)) (applied (Elim 1
    1) ((Vec (Var 8) (Con (after 0) 0)) ∷ (App (Con (after 1) 0) (Var 8)) ∷ (Lam (Vec (Var 8) (Con (after 0) 0)) (Lam (equation 0 (Vec (Var 9)
    (Con (after 0) 0)) (App (Con (after 1) 0) (Var 9)) (Var 0)) (Vec (Var 10) (applied (Const (after 6)) ((Con (after 0) 0) ∷ (Var 9) ∷ []))))) ∷ (Var
    5) ∷ (Var 1) ∷ (Var 0) ∷ []))))) ∷ (Var 7) ∷ (Var 1) ∷ (Var 6) ∷ (Var 3) ∷ (Var 0) ∷ [])))) ∷ (Lam (Nat) (Lam (Var 4)
    (Lam (Vec (Var 5) (Var 1)) (Lam (equation 0 Nat (suc_term (Var 2)) (Var 8)) (Lam (equation 0 (Vec (Var 7) (Var 9))
    (applied (Elim 1 0) (Nat ∷ (suc_term (Var 3)) ∷ (Lam (Nat) (Lam (equation 0 Nat (suc_term (Var 4)) (Var 0)) (Pi (Vec
    (Var 9) (suc_term (Var 5))) (Vec (Var 10) (Var 2))))) ∷ (Lam (Vec (Var 7) (suc_term (Var 3))) (Var 0)) ∷ (Var 9) ∷
    (Var 0) ∷ (applied (Con (after 1) 1) ((Var 7) ∷ (Var 3) ∷ (Var 2) ∷ (Var 1) ∷ [])) ∷ [])) (Var 5)) (applied (Elim 1 1) (Nat ∷
    (suc_term (Var 4)) ∷ (Lam (Nat) (Lam (equation 0 Nat (suc_term (Var 5)) (Var 0)) (Pi (applied (Const (after 7)) ((Const (after 8)) ∷
    (Var 1) ∷ [])) (Pi (Vec (Var 11) (Var 2)) (Pi (equation 0 (Vec (Var 12) (Var 3)) (applied (Elim 1 0) (Nat ∷ (suc_term
    (Var 8)) ∷ (Lam (Nat) (Lam (equation 0 Nat (suc_term (Var 9)) (Var 0)) (Pi (Vec (Var 14) (suc_term (Var 10))) (Vec
    (Var 15) (Var 2))))) ∷ (Lam (Vec (Var 12) (suc_term (Var 8))) (Var 0)) ∷ (Var 3) ∷ (Var 2) ∷ (applied (Con (after 1) 1) ((Var
    12) ∷ (Var 8) ∷ (Var 7) ∷ (Var 6) ∷ [])) ∷ [])) (Var 0)) (Vec (Var 13) (applied (Const (after 6)) ((Var 4) ∷ (Var 12) ∷
    [])))))))) ∷ (Lam (applied (Const (after 7)) ((Const (after 8)) ∷ (suc_term (Var 4)) ∷ [])) (Lam (Vec (Var 9) (suc_term (Var 5)))
    (Lam (equation 0 (Vec (Var 10) (suc_term (Var 6))) (applied (Elim 1 0) (Nat ∷ (suc_term (Var 6)) ∷ (Lam (Nat) (Lam
    (equation 0 Nat (suc_term (Var 7)) (Var 0)) (Pi (Vec (Var 12) (suc_term (Var 8))) (Vec (Var 13) (Var 2))))) ∷ (Lam
    (Vec (Var 10) (suc_term (Var 6))) (Var 0)) ∷ (suc_term (Var 6)) ∷ (reflexivity 0 Nat (suc_term (Var 6))) ∷ (applied
    (Con (after 1) 1) ((Var 10) ∷ (Var 6) ∷ (Var 5) ∷ (Var 4) ∷ [])) ∷ [])) (Var 0)) (applied (Elim 1 1) ((Vec (Var 11) (suc_term
    (Var 7))) ∷ (applied (Con (after 1) 1) ((Var 11) ∷ (Var 7) ∷ (Var 6) ∷ (Var 5) ∷ [])) ∷ (Lam (Vec (Var 11) (suc_term (Var
    7))) (Lam (equation 0 (Vec (Var 12) (suc_term (Var 8))) (applied (Con (after 1) 1) ((Var 12) ∷ (Var 8) ∷ (Var 7) ∷ (Var 6) ∷
    [])) (Var 0)) (Vec (Var 13) (applied (Const (after 6)) ((suc_term (Var 9)) ∷ (Var 12) ∷ []))))) ∷ (applied (Con (after 1) 1) ((Var
    11) ∷ (applied (Const (after 6)) ((Var 7) ∷ (Var 10) ∷ [])) ∷ (Var 6) ∷ (applied (Elim (pair_type 1) 1) ((App (Const (after 8)) (Var 7)) ∷
    (applied (Const (after 7)) ((Const (after 8)) ∷ (Var 7) ∷ [])) ∷ (Lam (applied (Fam (pair_type 1)) ((App (Const (after 8)) (Var 7)) ∷ (applied (Const
    (after 7)) ((Const (after 8)) ∷ (Var 7) ∷ [])) ∷ [])) (App (Const (after 8)) (Var 8))) ∷ (Lam (App (Const (after 8)) (Var 7)) (Lam (applied (Const
    (after 7)) ((Const (after 8)) ∷ (Var 8) ∷ [])) (Var 1))) ∷ (applied (Elim (pair_type 1) 1) ((applied (Fam (pair_type 1)) ((App (Const (after 8)) (Var 7)) ∷
    (applied (Const (after 7)) ((Const (after 8)) ∷ (Var 7) ∷ [])) ∷ [])) ∷ (Fam (unit_type 1)) ∷ (Lam (applied (Fam (pair_type 1)) ((applied (Fam (pair_type 1)) ((App
    (Const (after 8)) (Var 7)) ∷ (applied (Const (after 7)) ((Const (after 8)) ∷ (Var 7) ∷ [])) ∷ [])) ∷ (Fam (unit_type 1)) ∷ [])) (applied (Fam (pair_type 1))
    ((App (Const (after 8)) (Var 8)) ∷ (applied (Const (after 7)) ((Const (after 8)) ∷ (Var 8) ∷ [])) ∷ []))) ∷ (Lam (applied (Fam (pair_type 1)) ((App
    (Const (after 8)) (Var 7)) ∷ (applied (Const (after 7)) ((Const (after 8)) ∷ (Var 7) ∷ [])) ∷ [])) (Lam (Fam (unit_type 1)) (Var 1))) ∷ (Var 2) ∷ []))
    ∷ (Var 11) ∷ (Var 10) ∷ (Var 5) ∷ (Var 8) ∷ [])) ∷ [])) ∷ (Var 1) ∷ (Var 0) ∷ []))))) ∷ (Var 10) ∷ (Var 1) ∷ (Var 9) ∷
    (Var 6) ∷ (Var 0) ∷ []))))))) ∷ (Var 5) ∷ (Var 1) ∷ (reflexivity 0 Nat (Var 5)) ∷ (reflexivity 0 (Vec (Var 3) (Var 5))
    (Var 1)) ∷ [])))))))) ∷ draft (codes "append") (after 7) (codes "Nat!rec.1" ∷ codes "append!motive" ∷ codes "append!step" ∷
    []) (Pi (Sort 0) (Pi (Nat) (Pi (Nat) (Pi (Vec (Var 2) (Var 1)) (Pi (Vec (Var 3) (Var 1)) (Vec (Var 4) (applied (Const
    (after 6)) ((Var 3) ∷ (Var 2) ∷ [])))))))) (Lam (Sort 0) (Lam (Nat) (Lam (Nat) (Lam (Vec (Var 2) (Var 1)) (Lam (Vec (Var 3)
    (Var 1)) (applied (Const (after 7)) ((Const (after 8)) ∷ (Const (after 9)) ∷ (Var 3) ∷ (Var 4) ∷ (Var 2) ∷ (Var 1) ∷ (Var 0) ∷ []))))))) ∷
    []))
unfolding native.Mathlib.Decide.ℕ_discrete
row_append = refl
