-- Entries of a function with a helper that two leaves call, as another implementation prints them.
use native.Mathlib.Decide.{ℕ_discrete}
use Rattle.std.proofs.Common.{◌≡◌, false, None, Ok, [], ◌∷◌, refl, codes}
use Rattle.theory.specs.Terms.Term.{Var, Sort, Pi, Lam, Con, Elim, Const}
use Rattle.theory.specs.Telescopes.{applied}
use Rattle.theory.specs.Signatures.{equation, reflexivity}
use Rattle.theory.proofs.AfterPrelude.{after}
use Rattle.core_terms.specs.Clauses.{Is, Side}
use Rattle.core_terms.specs.Patterns as pattern
use Rattle.core_terms.specs.Patterns.{vector}
use Rattle.tree_translation.specs.Plans.{Plan}
use Rattle.tree_translation.specs.Entries.{translate}
use Rattle.tree_translation.proofs.Samples.{sample, Nat, suc_term, draft, plan_with, helper_part}

abbrev plan_wmap : Plan
plan_wmap =
    plan_with (sample false) (after 6) (codes "wmap") 0 (Nat ∷ Nat ∷ []) (Nat) None (Is (vector (pattern.Con (after 0) 0 pattern.nil ∷
    pattern.Con (after 0) 0 pattern.nil ∷ [])) 0 (Side (Sort 0)) ∷ Is (vector (pattern.Bind ∷ pattern.Bind ∷ [])) 2 (Side (Sort
    0)) ∷ []) (Con (after 0) 0 ∷ applied (Const (after 7)) (Var 1 ∷ Var 0 ∷ suc_term (Var 0) ∷ []) ∷ []) ((helper_part (sample false) 0
    (Nat ∷ Nat ∷ Nat ∷ []) (Var 2 ∷ Var 1 ∷ Var 0 ∷ []) (Nat) (Is (vector (pattern.Bind ∷ pattern.Bind ∷ pattern.Con (after 0) 0
    pattern.nil ∷ [])) 2 (Side (Sort 0)) ∷ Is (vector (pattern.Bind ∷ pattern.Bind ∷ pattern.Con (after 0) 1 (vector
    (pattern.Bind ∷ [])) ∷ [])) 3 (Side (Sort 0)) ∷ []) (Var 0 ∷ suc_term (Var 2) ∷ [])) ∷ [])

row_wmap : translate (sample false) plan_wmap ≡ (Ok (draft (codes "wmap!w1") (after 6) (codes "Nat!case.0" ∷ []) (Pi (Nat)
    (Pi (Nat) (Pi (Nat) (Nat)))) (Lam (Nat) (Lam (Nat) (Lam (Nat) (applied (Const (after 6)) ((Lam (Nat) (Pi (equation 0 Nat (Var
    0) (Var 1)) (Nat))) ∷ (Lam (equation 0 Nat (Con (after 0) 0) (Var 0)) (applied (Elim 1 0) (Nat ∷ (Con (after 0) 0) ∷ (Lam (Nat) (Lam
    (equation 0 Nat (Con (after 0) 0) (Var 0)) (Nat))) ∷ (Var 2) ∷ (Var 1) ∷ (Var 0) ∷ []))) ∷ (Lam (Nat) (Lam (equation 0 Nat
    (suc_term (Var 0)) (Var 1)) (applied (Elim 1 0) (Nat ∷ (suc_term (Var 1)) ∷ (Lam (Nat) (Lam (equation 0 Nat (suc_term
    (Var 2)) (Var 0)) (Nat))) ∷ (suc_term (Var 4)) ∷ (Var 2) ∷ (Var 0) ∷ [])))) ∷ (Var 0) ∷ (reflexivity 0 Nat (Var 0)) ∷
    []))))) ∷ draft (codes "wmap") (after 6) (codes "Nat!case.0" ∷ codes "wmap!w1" ∷ []) (Pi (Nat) (Pi (Nat) (Nat))) (Lam (Nat)
    (Lam (Nat) (applied (Const (after 6)) ((Lam (Nat) (Pi (equation 0 Nat (Var 0) (Var 2)) (Nat))) ∷ (Lam (equation 0 Nat (Con (after 0)
    0) (Var 1)) (applied (Elim 1 0) (Nat ∷ (Con (after 0) 0) ∷ (Lam (Nat) (Lam (equation 0 Nat (Con (after 0) 0) (Var 0)) (Nat))) ∷
    (applied (Const (after 6)) ((Lam (Nat) (Pi (equation 0 Nat (Var 0) (Var 2)) (Nat))) ∷ (Lam (equation 0 Nat (Con (after 0) 0) (Var
    1)) (applied (Elim 1 0) (Nat ∷ (Con (after 0) 0) ∷ (Lam (Nat) (Lam (equation 0 Nat (Con (after 0) 0) (Var 0)) (Nat))) ∷ (Con (after 0) 0) ∷
    (Var 2) ∷ (Var 0) ∷ []))) ∷ (Lam (Nat) (Lam (equation 0 Nat (suc_term (Var 0)) (Var 2)) (applied (Elim 1 0) (Nat ∷
    (suc_term (Var 1)) ∷ (Lam (Nat) (Lam (equation 0 Nat (suc_term (Var 2)) (Var 0)) (Nat))) ∷ (applied (Const (after 7)) ((Con
    (after 0) 0) ∷ (suc_term (Var 1)) ∷ (suc_term (suc_term (Var 1))) ∷ [])) ∷ (Var 3) ∷ (Var 0) ∷ [])))) ∷ (Var 1) ∷
    (reflexivity 0 Nat (Var 1)) ∷ [])) ∷ (Var 2) ∷ (Var 0) ∷ []))) ∷ (Lam (Nat) (Lam (equation 0 Nat (suc_term (Var 0))
    (Var 2)) (applied (Elim 1 0) (Nat ∷ (suc_term (Var 1)) ∷ (Lam (Nat) (Lam (equation 0 Nat (suc_term (Var 2)) (Var 0))
    (Nat))) ∷ (applied (Const (after 7)) ((suc_term (Var 1)) ∷ (Var 2) ∷ (suc_term (Var 2)) ∷ [])) ∷ (Var 3) ∷ (Var 0) ∷ [])))) ∷
    (Var 1) ∷ (reflexivity 0 Nat (Var 1)) ∷ [])))) ∷ []))
unfolding native.Mathlib.Decide.ℕ_discrete
row_wmap = refl
