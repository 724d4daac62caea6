-- Entries of a recursive function with a helper inside a helper, as another implementation prints them.
use native.Mathlib.Decide.{ℕ_discrete}
use Rattle.std.proofs.Common.{◌≡◌, false, Some, Ok, [], ◌∷◌, refl, codes}
use Rattle.theory.specs.Terms.Term.{Var, Sort, Pi, Lam, App, Con, Fam, Elim, Const}
use Rattle.theory.specs.Telescopes.{applied}
use Rattle.theory.specs.Signatures.{equation, reflexivity}
use Rattle.theory.specs.Prelude.{unit_type, pair_type}
use Rattle.theory.proofs.AfterPrelude.{after}
use Rattle.core_terms.specs.Clauses.{Is, Side}
use Rattle.core_terms.specs.Patterns as pattern
use Rattle.core_terms.specs.Patterns.{vector}
use Rattle.tree_translation.specs.Plans.{Plan}
use Rattle.tree_translation.specs.Entries.{translate}
use Rattle.tree_translation.proofs.Samples.{sample, Nat, suc_term, own, draft, plan_with, helper_part}

abbrev plan_deep : Plan
plan_deep =
    plan_with (sample false) (after 6) (codes "deep") 0 (Nat ∷ Nat ∷ []) (Nat) (Some 0) (Is (vector (pattern.Con (after 0) 0 pattern.nil
    ∷ pattern.Bind ∷ [])) 1 (Side (Sort 0)) ∷ Is (vector (pattern.Con (after 0) 1 (vector (pattern.Con (after 0) 0 pattern.nil ∷ [])) ∷
    pattern.Bind ∷ [])) 1 (Side (Sort 0)) ∷ Is (vector (pattern.Con (after 0) 1 (vector (pattern.Con (after 0) 1 (vector (pattern.Bind ∷
    [])) ∷ [])) ∷ pattern.Bind ∷ [])) 2 (Side (Sort 0)) ∷ []) (Var 0 ∷ Var 0 ∷ applied (Const (after 7)) (Var 1 ∷ Var 0 ∷ App
    (App (own) (suc_term (Var 0))) (Var 1) ∷ []) ∷ []) ((helper_part (sample false) 0 (Nat ∷ Nat ∷ Nat ∷ []) (suc_term
    (suc_term (Var 1)) ∷ Var 2 ∷ Var 0 ∷ []) (Nat) (Is (vector (pattern.Con (after 0) 1 (vector (pattern.Con (after 0) 1 (vector
    (pattern.Bind ∷ [])) ∷ [])) ∷ pattern.Bind ∷ pattern.Con (after 0) 0 pattern.nil ∷ [])) 2 (Side (Sort 0)) ∷ Is (vector
    (pattern.Con (after 0) 1 (vector (pattern.Con (after 0) 1 (vector (pattern.Bind ∷ [])) ∷ [])) ∷ pattern.Bind ∷ pattern.Con (after 0) 1
    (vector (pattern.Bind ∷ [])) ∷ [])) 3 (Side (Sort 0)) ∷ []) (App (App (own) (Var 1)) (Var 0) ∷ applied (Const (after 8)) (Var
    2 ∷ Var 1 ∷ Var 0 ∷ App (App (own) (Var 1)) (Var 0) ∷ []) ∷ [])) ∷ (helper_part (sample false) 0 (Nat ∷ Nat ∷ Nat ∷
    Nat ∷ []) (suc_term (suc_term (Var 2)) ∷ Var 3 ∷ suc_term (Var 1) ∷ Var 0 ∷ []) (Nat) (Is (vector (pattern.Con (after 0) 1
    (vector (pattern.Con (after 0) 1 (vector (pattern.Bind ∷ [])) ∷ [])) ∷ pattern.Bind ∷ pattern.Con (after 0) 1 (vector (pattern.Bind
    ∷ [])) ∷ pattern.Bind ∷ [])) 4 (Side (Sort 0)) ∷ []) (App (App (own) (suc_term (Var 3))) (suc_term (Var 0)) ∷ [])) ∷
    [])

row_deep : translate (sample false) plan_deep ≡ (Ok (draft (codes "deep!motive") (after 6) [] (Pi (Nat) (Sort 0)) (Lam (Nat)
    (Pi (Nat) (Nat))) ∷ draft (codes "deep!w2") (after 6) (codes "Nat!below.0" ∷ codes "deep!motive" ∷ []) (Pi (Nat) (Pi (Nat)
    (Pi (Nat) (Pi (Nat) (Pi (applied (Const (after 6)) ((Const (after 7)) ∷ (suc_term (suc_term (Var 2))) ∷ [])) (Nat)))))) (Lam (Nat)
    (Lam (Nat) (Lam (Nat) (Lam (Nat) (Lam (applied (Const (after 6)) ((Const (after 7)) ∷ (suc_term (suc_term (Var 2))) ∷ [])) (applied
    (Elim (pair_type 0) 0) ((App (Const (after 7)) (suc_term (Var 3))) ∷ (applied (Const (after 6)) ((Const (after 7)) ∷ (suc_term (Var 3)) ∷ [])) ∷ (Lam
    (applied (Fam (pair_type 0)) ((App (Const (after 7)) (suc_term (Var 3))) ∷ (applied (Const (after 6)) ((Const (after 7)) ∷ (suc_term (Var 3)) ∷ [])) ∷
    [])) (App (Const (after 7)) (suc_term (Var 4)))) ∷ (Lam (App (Const (after 7)) (suc_term (Var 3))) (Lam (applied (Const (after 6)) ((Const
    (after 7)) ∷ (suc_term (Var 4)) ∷ [])) (Var 1))) ∷ (applied (Elim (pair_type 0) 0) ((applied (Fam (pair_type 0)) ((App (Const (after 7)) (suc_term (Var
    3))) ∷ (applied (Const (after 6)) ((Const (after 7)) ∷ (suc_term (Var 3)) ∷ [])) ∷ [])) ∷ (Fam (unit_type 0)) ∷ (Lam (applied (Fam (pair_type 0))
    ((applied (Fam (pair_type 0)) ((App (Const (after 7)) (suc_term (Var 3))) ∷ (applied (Const (after 6)) ((Const (after 7)) ∷ (suc_term (Var 3)) ∷ []))
    ∷ [])) ∷ (Fam (unit_type 0)) ∷ [])) (applied (Fam (pair_type 0)) ((App (Const (after 7)) (suc_term (Var 4))) ∷ (applied (Const (after 6)) ((Const (after 7)) ∷
    (suc_term (Var 4)) ∷ [])) ∷ []))) ∷ (Lam (applied (Fam (pair_type 0)) ((App (Const (after 7)) (suc_term (Var 3))) ∷ (applied (Const (after 6))
    ((Const (after 7)) ∷ (suc_term (Var 3)) ∷ [])) ∷ [])) (Lam (Fam (unit_type 0)) (Var 1))) ∷ (Var 0) ∷ [])) ∷ (suc_term (Var 1)) ∷
    []))))))) ∷ draft (codes "deep!w1") (after 6) (codes "Nat!below.0" ∷ codes "deep!motive" ∷ codes "Nat!case.0" ∷ codes
    "deep!w2" ∷ []) (Pi (Nat) (Pi (Nat) (Pi (Nat) (Pi (applied (Const (after 6)) ((Const (after 7)) ∷ (suc_term (suc_term (Var 1))) ∷
    [])) (Nat))))) (Lam (Nat) (Lam (Nat) (Lam (Nat) (Lam (applied (Const (after 6)) ((Const (after 7)) ∷ (suc_term (suc_term (Var 1))) ∷
    [])) (applied (Const (after 8)) ((Lam (Nat) (Pi (equation 0 Nat (Var 0) (Var 2)) (Nat))) ∷ (Lam (equation 0 Nat (Con (after 0) 0)
    (Var 1)) (applied (Elim 1 0) (Nat ∷ (Con (after 0) 0) ∷ (Lam (Nat) (Lam (equation 0 Nat (Con (after 0) 0) (Var 0)) (Nat))) ∷
    (applied (Elim (pair_type 0) 0) ((App (Const (after 7)) (Var 3)) ∷ (applied (Const (after 6)) ((Const (after 7)) ∷ (Var 3) ∷ [])) ∷ (Lam (applied (Fam
    (pair_type 0)) ((App (Const (after 7)) (Var 3)) ∷ (applied (Const (after 6)) ((Const (after 7)) ∷ (Var 3) ∷ [])) ∷ [])) (App (Const (after 7)) (Var 4))) ∷
    (Lam (App (Const (after 7)) (Var 3)) (Lam (applied (Const (after 6)) ((Const (after 7)) ∷ (Var 4) ∷ [])) (Var 1))) ∷ (applied (Elim (pair_type 0) 0)
    ((applied (Fam (pair_type 0)) ((App (Const (after 7)) (Var 3)) ∷ (applied (Const (after 6)) ((Const (after 7)) ∷ (Var 3) ∷ [])) ∷ [])) ∷ (Fam (unit_type 0)) ∷
    (Lam (applied (Fam (pair_type 0)) ((applied (Fam (pair_type 0)) ((App (Const (after 7)) (Var 3)) ∷ (applied (Const (after 6)) ((Const (after 7)) ∷ (Var 3) ∷ []))
    ∷ [])) ∷ (Fam (unit_type 0)) ∷ [])) (applied (Fam (pair_type 0)) ((App (Const (after 7)) (Var 4)) ∷ (applied (Const (after 6)) ((Const (after 7)) ∷ (Var 4) ∷
    [])) ∷ []))) ∷ (Lam (applied (Fam (pair_type 0)) ((App (Const (after 7)) (Var 3)) ∷ (applied (Const (after 6)) ((Const (after 7)) ∷ (Var 3) ∷ [])) ∷
    [])) (Lam (Fam (unit_type 0)) (Var 1))) ∷ (applied (Elim (pair_type 0) 0) ((App (Const (after 7)) (suc_term (Var 3))) ∷ (applied (Const (after 6)) ((Const
    (after 7)) ∷ (suc_term (Var 3)) ∷ [])) ∷ (Lam (applied (Fam (pair_type 0)) ((App (Const (after 7)) (suc_term (Var 3))) ∷ (applied (Const (after 6))
    ((Const (after 7)) ∷ (suc_term (Var 3)) ∷ [])) ∷ [])) (applied (Const (after 6)) ((Const (after 7)) ∷ (suc_term (Var 4)) ∷ []))) ∷ (Lam
    (App (Const (after 7)) (suc_term (Var 3))) (Lam (applied (Const (after 6)) ((Const (after 7)) ∷ (suc_term (Var 4)) ∷ [])) (Var 0))) ∷
    (applied (Elim (pair_type 0) 0) ((applied (Fam (pair_type 0)) ((App (Const (after 7)) (suc_term (Var 3))) ∷ (applied (Const (after 6)) ((Const (after 7)) ∷
    (suc_term (Var 3)) ∷ [])) ∷ [])) ∷ (Fam (unit_type 0)) ∷ (Lam (applied (Fam (pair_type 0)) ((applied (Fam (pair_type 0)) ((App (Const (after 7)) (suc_term
    (Var 3))) ∷ (applied (Const (after 6)) ((Const (after 7)) ∷ (suc_term (Var 3)) ∷ [])) ∷ [])) ∷ (Fam (unit_type 0)) ∷ [])) (applied (Fam (pair_type 0))
    ((App (Const (after 7)) (suc_term (Var 4))) ∷ (applied (Const (after 6)) ((Const (after 7)) ∷ (suc_term (Var 4)) ∷ [])) ∷ []))) ∷ (Lam
    (applied (Fam (pair_type 0)) ((App (Const (after 7)) (suc_term (Var 3))) ∷ (applied (Const (after 6)) ((Const (after 7)) ∷ (suc_term (Var 3)) ∷ [])) ∷
    [])) (Lam (Fam (unit_type 0)) (Var 1))) ∷ (Var 1) ∷ [])) ∷ [])) ∷ [])) ∷ (Var 4) ∷ [])) ∷ (Var 2) ∷ (Var 0) ∷ []))) ∷ (Lam (Nat)
    (Lam (equation 0 Nat (suc_term (Var 0)) (Var 2)) (applied (Elim 1 0) (Nat ∷ (suc_term (Var 1)) ∷ (Lam (Nat) (Lam
    (equation 0 Nat (suc_term (Var 2)) (Var 0)) (Nat))) ∷ (applied (Const (after 9)) ((Var 5) ∷ (Var 4) ∷ (Var 1) ∷ (applied
    (Elim (pair_type 0) 0) ((App (Const (after 7)) (Var 4)) ∷ (applied (Const (after 6)) ((Const (after 7)) ∷ (Var 4) ∷ [])) ∷ (Lam (applied (Fam (pair_type 0))
    ((App (Const (after 7)) (Var 4)) ∷ (applied (Const (after 6)) ((Const (after 7)) ∷ (Var 4) ∷ [])) ∷ [])) (App (Const (after 7)) (Var 5))) ∷ (Lam
    (App (Const (after 7)) (Var 4)) (Lam (applied (Const (after 6)) ((Const (after 7)) ∷ (Var 5) ∷ [])) (Var 1))) ∷ (applied (Elim (pair_type 0) 0)
    ((applied (Fam (pair_type 0)) ((App (Const (after 7)) (Var 4)) ∷ (applied (Const (after 6)) ((Const (after 7)) ∷ (Var 4) ∷ [])) ∷ [])) ∷ (Fam (unit_type 0)) ∷
    (Lam (applied (Fam (pair_type 0)) ((applied (Fam (pair_type 0)) ((App (Const (after 7)) (Var 4)) ∷ (applied (Const (after 6)) ((Const (after 7)) ∷ (Var 4) ∷ []))
    ∷ [])) ∷ (Fam (unit_type 0)) ∷ [])) (applied (Fam (pair_type 0)) ((App (Const (after 7)) (Var 5)) ∷ (applied (Const (after 6)) ((Const (after 7)) ∷ (Var 5) ∷
    [])) ∷ []))) ∷ (Lam (applied (Fam (pair_type 0)) ((App (Const (after 7)) (Var 4)) ∷ (applied (Const (after 6)) ((Const (after 7)) ∷ (Var 4) ∷ [])) ∷
    [])) (Lam (Fam (unit_type 0)) (Var 1))) ∷ (applied (Elim (pair_type 0) 0) ((App (Const (after 7)) (suc_term (Var 4))) ∷ (applied (Const (after 6)) ((Const
    (after 7)) ∷ (suc_term (Var 4)) ∷ [])) ∷ (Lam (applied (Fam (pair_type 0)) ((App (Const (after 7)) (suc_term (Var 4))) ∷ (applied (Const (after 6))
    ((Const (after 7)) ∷ (suc_term (Var 4)) ∷ [])) ∷ [])) (applied (Const (after 6)) ((Const (after 7)) ∷ (suc_term (Var 5)) ∷ []))) ∷ (Lam
    (App (Const (after 7)) (suc_term (Var 4))) (Lam (applied (Const (after 6)) ((Const (after 7)) ∷ (suc_term (Var 5)) ∷ [])) (Var 0))) ∷
    (applied (Elim (pair_type 0) 0) ((applied (Fam (pair_type 0)) ((App (Const (after 7)) (suc_term (Var 4))) ∷ (applied (Const (after 6)) ((Const (after 7)) ∷
    (suc_term (Var 4)) ∷ [])) ∷ [])) ∷ (Fam (unit_type 0)) ∷ (Lam (applied (Fam (pair_type 0)) ((applied (Fam (pair_type 0)) ((App (Const (after 7)) (suc_term
    (Var 4))) ∷ (applied (Const (after 6)) ((Const (after 7)) ∷ (suc_term (Var 4)) ∷ [])) ∷ [])) ∷ (Fam (unit_type 0)) ∷ [])) (applied (Fam (pair_type 0))
    ((App (Const (after 7)) (suc_term (Var 5))) ∷ (applied (Const (after 6)) ((Const (after 7)) ∷ (suc_term (Var 5)) ∷ [])) ∷ []))) ∷ (Lam
    (applied (Fam (pair_type 0)) ((App (Const (after 7)) (suc_term (Var 4))) ∷ (applied (Const (after 6)) ((Const (after 7)) ∷ (suc_term (Var 4)) ∷ [])) ∷
    [])) (Lam (Fam (unit_type 0)) (Var 1))) ∷ (Var 2) ∷ [])) ∷ [])) ∷ [])) ∷ (Var 1) ∷ [])) ∷ (Var 2) ∷ [])) ∷ (Var 3) ∷ (Var 0) ∷
    [])))) ∷ (Var 1) ∷ (reflexivity 0 Nat (Var 1)) ∷ [])))))) ∷ draft (codes "deep!step") (after 6) (codes "Nat!below.0" ∷ codes
    "deep!motive" ∷ codes "Nat!case.0" ∷ codes "deep!w1" ∷ []) (Pi (Nat) (Pi (applied (Const (after 6)) ((Const (after 7)) ∷ (Var 0) ∷
    [])) (Pi (Nat) (Nat)))) (Lam (Nat) (Lam (applied (Const (after 6)) ((Const (after 7)) ∷ (Var 0) ∷ [])) (Lam (Nat) (applied (Const
    (after 8)) ((Lam (Nat) (Pi (equation 0 Nat (Var 0) (Var 3)) (Nat))) ∷ (Lam (equation 0 Nat (Con (after 0) 0) (Var 2)) (applied (Elim
    1 0) (Nat ∷ (Con (after 0) 0) ∷ (Lam (Nat) (Lam (equation 0 Nat (Con (after 0) 0) (Var 0)) (Pi (applied (Const (after 6)) ((Const (after 7)) ∷
    (Var 1) ∷ [])) (Nat)))) ∷ (Lam (applied (Const (after 6)) ((Const (after 7)) ∷ (Con (after 0) 0) ∷ [])) (Var 2)) ∷ (Var 3) ∷ (Var 0) ∷ (Var
    2) ∷ []))) ∷ (Lam (Nat) (Lam (equation 0 Nat (suc_term (Var 0)) (Var 3)) (applied (Elim 1 0) (Nat ∷ (suc_term (Var 1))
    ∷ (Lam (Nat) (Lam (equation 0 Nat (suc_term (Var 2)) (Var 0)) (Pi (applied (Const (after 6)) ((Const (after 7)) ∷ (Var 1) ∷ []))
    (Nat)))) ∷ (Lam (applied (Const (after 6)) ((Const (after 7)) ∷ (suc_term (Var 1)) ∷ [])) (applied (Const (after 8)) ((Lam (Nat) (Pi
    (equation 0 Nat (Var 0) (Var 3)) (Nat))) ∷ (Lam (equation 0 Nat (Con (after 0) 0) (Var 2)) (applied (Elim 1 0) (Nat ∷ (Con (after 0)
    0) ∷ (Lam (Nat) (Lam (equation 0 Nat (Con (after 0) 0) (Var 0)) (Pi (applied (Const (after 6)) ((Const (after 7)) ∷ (suc_term (Var 1)) ∷
    [])) (Nat)))) ∷ (Lam (applied (Const (after 6)) ((Const (after 7)) ∷ (suc_term (Con (after 0) 0)) ∷ [])) (Var 5)) ∷ (Var 3) ∷ (Var 0) ∷
    (Var 1) ∷ []))) ∷ (Lam (Nat) (Lam (equation 0 Nat (suc_term (Var 0)) (Var 3)) (applied (Elim 1 0) (Nat ∷ (suc_term
    (Var 1)) ∷ (Lam (Nat) (Lam (equation 0 Nat (suc_term (Var 2)) (Var 0)) (Pi (applied (Const (after 6)) ((Const (after 7)) ∷ (suc_term
    (Var 1)) ∷ [])) (Nat)))) ∷ (Lam (applied (Const (after 6)) ((Const (after 7)) ∷ (suc_term (suc_term (Var 1))) ∷ [])) (applied (Const
    (after 9)) ((Var 6) ∷ (Var 2) ∷ (applied (Elim (pair_type 0) 0) ((App (Const (after 7)) (suc_term (Var 2))) ∷ (applied (Const (after 6)) ((Const (after 7)) ∷
    (suc_term (Var 2)) ∷ [])) ∷ (Lam (applied (Fam (pair_type 0)) ((App (Const (after 7)) (suc_term (Var 2))) ∷ (applied (Const (after 6)) ((Const
    (after 7)) ∷ (suc_term (Var 2)) ∷ [])) ∷ [])) (App (Const (after 7)) (suc_term (Var 3)))) ∷ (Lam (App (Const (after 7)) (suc_term (Var 2)))
    (Lam (applied (Const (after 6)) ((Const (after 7)) ∷ (suc_term (Var 3)) ∷ [])) (Var 1))) ∷ (applied (Elim (pair_type 0) 0) ((applied (Fam (pair_type 0))
    ((App (Const (after 7)) (suc_term (Var 2))) ∷ (applied (Const (after 6)) ((Const (after 7)) ∷ (suc_term (Var 2)) ∷ [])) ∷ [])) ∷ (Fam (unit_type 0)) ∷
    (Lam (applied (Fam (pair_type 0)) ((applied (Fam (pair_type 0)) ((App (Const (after 7)) (suc_term (Var 2))) ∷ (applied (Const (after 6)) ((Const (after 7)) ∷
    (suc_term (Var 2)) ∷ [])) ∷ [])) ∷ (Fam (unit_type 0)) ∷ [])) (applied (Fam (pair_type 0)) ((App (Const (after 7)) (suc_term (Var 3))) ∷ (applied
    (Const (after 6)) ((Const (after 7)) ∷ (suc_term (Var 3)) ∷ [])) ∷ []))) ∷ (Lam (applied (Fam (pair_type 0)) ((App (Const (after 7)) (suc_term (Var
    2))) ∷ (applied (Const (after 6)) ((Const (after 7)) ∷ (suc_term (Var 2)) ∷ [])) ∷ [])) (Lam (Fam (unit_type 0)) (Var 1))) ∷ (Var 0) ∷ [])) ∷
    (Var 6) ∷ [])) ∷ (Var 0) ∷ []))) ∷ (Var 4) ∷ (Var 0) ∷ (Var 2) ∷ [])))) ∷ (Var 2) ∷ (reflexivity 0 Nat (Var 2)) ∷
    []))) ∷ (Var 4) ∷ (Var 0) ∷ (Var 3) ∷ [])))) ∷ (Var 2) ∷ (reflexivity 0 Nat (Var 2)) ∷ []))))) ∷ draft (codes "deep")
    (after 6) (codes "Nat!rec.0" ∷ codes "deep!motive" ∷ codes "deep!step" ∷ []) (Pi (Nat) (Pi (Nat) (Nat))) (Lam (Nat) (Lam
    (Nat) (applied (Const (after 6)) ((Const (after 7)) ∷ (Const (after 8)) ∷ (Var 1) ∷ (Var 0) ∷ [])))) ∷ []))
unfolding native.Mathlib.Decide.ℕ_discrete
row_deep = refl
