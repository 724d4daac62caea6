-- Entries of a recursive function with a call in the inner argument of a strict part. The step was checked by another implementation.
use native.Mathlib.Decide.{ℕ_discrete}
use Rattle.std.proofs.Common.{◌≡◌, false, Some, Ok, [], ◌∷◌, refl, codes}
use Rattle.theory.specs.Terms.Term.{Var, Sort, Pi, Lam, App, Con, Fam, Elim, Const}
use Rattle.theory.specs.Telescopes.{applied}
use Rattle.theory.specs.Signatures.{equation, reflexivity}
use Rattle.theory.specs.Prelude.{unit_type, pair_type}
use Rattle.theory.proofs.AfterPrelude.{after}
use Rattle.core_terms.specs.Clauses.{Is, Side}
use Rattle.core_terms.specs.Patterns as pattern
use Rattle.core_terms.specs.Patterns.{vector}
use Rattle.tree_translation.specs.Plans.{Plan}
use Rattle.tree_translation.specs.Entries.{translate}
use Rattle.tree_translation.proofs.Samples.{sample, Nat, own, draft, plan_of}

abbrev plan_nest : Plan
plan_nest =
    plan_of (sample false) (after 6) (codes "nest") 0 (applied (Fam (after 4)) (Nat ∷ Lam Nat Nat ∷ []) ∷ []) (Nat) (Some 0) (Is (vector
    (pattern.Con (after 4) 0 (vector (pattern.Bind ∷ pattern.Bind ∷ [])) ∷ [])) 2 (Side (Sort 0)) ∷ []) (App own (App (Var 0)
    (App own (App (Var 0) (Con (after 0) 0)))) ∷ [])

row_nest : translate (sample false) plan_nest ≡ (Ok (draft (codes "nest!motive") (after 6) [] (Pi (applied (Fam (after 4)) (Nat ∷
    (Lam (Nat) (Nat)) ∷ [])) (Sort 0)) (Lam (applied (Fam (after 4)) (Nat ∷ (Lam (Nat) (Nat)) ∷ [])) (Nat)) ∷ draft (codes
    "nest!step") (after 6) (codes "W!below.0" ∷ codes "nest!motive" ∷ codes "W!case.0" ∷ []) (Pi (applied (Fam (after 4)) (Nat ∷ (Lam
    (Nat) (Nat)) ∷ [])) (Pi (applied (Const (after 6)) (Nat ∷ (Lam (Nat) (Nat)) ∷ (Const (after 7)) ∷ (Var 0) ∷ [])) (Nat))) (Lam
    (applied (Fam (after 4)) (Nat ∷ (Lam (Nat) (Nat)) ∷ [])) (Lam (applied (Const (after 6)) (Nat ∷ (Lam (Nat) (Nat)) ∷ (Const (after 7)) ∷
    (Var 0) ∷ [])) (applied (Const (after 8)) (Nat ∷ (Lam (Nat) (Nat)) ∷ (Lam (applied (Fam (after 4)) (Nat ∷ (Lam (Nat) (Nat)) ∷ []))
    (Pi (equation 0 (applied (Fam (after 4)) (Nat ∷ (Lam (Nat) (Nat)) ∷ [])) (Var 0) (Var 2)) (Nat))) ∷ (Lam (Nat) (Lam (Pi (App
    (Lam (Nat) (Nat)) (Var 0)) (applied (Fam (after 4)) (Nat ∷ (Lam (Nat) (Nat)) ∷ []))) (Lam (equation 0 (applied (Fam (after 4)) (Nat
    ∷ (Lam (Nat) (Nat)) ∷ [])) (applied (Con (after 4) 0) (Nat ∷ (Lam (Nat) (Nat)) ∷ (Var 1) ∷ (Var 0) ∷ [])) (Var 3)) (applied
    (Elim 1 0) ((applied (Fam (after 4)) (Nat ∷ (Lam (Nat) (Nat)) ∷ [])) ∷ (applied (Con (after 4) 0) (Nat ∷ (Lam (Nat) (Nat)) ∷ (Var 2)
    ∷ (Var 1) ∷ [])) ∷ (Lam (applied (Fam (after 4)) (Nat ∷ (Lam (Nat) (Nat)) ∷ [])) (Lam (equation 0 (applied (Fam (after 4)) (Nat ∷
    (Lam (Nat) (Nat)) ∷ [])) (applied (Con (after 4) 0) (Nat ∷ (Lam (Nat) (Nat)) ∷ (Var 3) ∷ (Var 2) ∷ [])) (Var 0)) (Pi (applied
    (Const (after 6)) (Nat ∷ (Lam (Nat) (Nat)) ∷ (Const (after 7)) ∷ (Var 1) ∷ [])) (Nat)))) ∷ (Lam (applied (Const (after 6)) (Nat ∷ (Lam
    (Nat) (Nat)) ∷ (Const (after 7)) ∷ (applied (Con (after 4) 0) (Nat ∷ (Lam (Nat) (Nat)) ∷ (Var 2) ∷ (Var 1) ∷ [])) ∷ [])) (applied
    (Elim (pair_type 0) 0) ((App (Const (after 7)) (App (Var 2) (applied (Elim (pair_type 0) 0) ((App (Const (after 7)) (App (Var 2) (Con (after 0) 0))) ∷ (applied
    (Const (after 6)) (Nat ∷ (Lam (Nat) (Nat)) ∷ (Const (after 7)) ∷ (App (Var 2) (Con (after 0) 0)) ∷ [])) ∷ (Lam (applied (Fam (pair_type 0)) ((App
    (Const (after 7)) (App (Var 2) (Con (after 0) 0))) ∷ (applied (Const (after 6)) (Nat ∷ (Lam (Nat) (Nat)) ∷ (Const (after 7)) ∷ (App (Var 2) (Con
    (after 0) 0)) ∷ [])) ∷ [])) (App (Const (after 7)) (App (Var 3) (Con (after 0) 0)))) ∷ (Lam (App (Const (after 7)) (App (Var 2) (Con (after 0) 0))) (Lam
    (applied (Const (after 6)) (Nat ∷ (Lam (Nat) (Nat)) ∷ (Const (after 7)) ∷ (App (Var 3) (Con (after 0) 0)) ∷ [])) (Var 1))) ∷ (applied (Elim
    (pair_type 0) 0) ((Pi (App (Lam (Nat) (Nat)) (Var 3)) (applied (Fam (pair_type 0)) ((App (Const (after 7)) (App (Var 3) (Var 0))) ∷ (applied (Const
    (after 6)) (Nat ∷ (Lam (Nat) (Nat)) ∷ (Const (after 7)) ∷ (App (Var 3) (Var 0)) ∷ [])) ∷ []))) ∷ (Fam (unit_type 0)) ∷ (Lam (applied (Fam (pair_type 0))
    ((Pi (App (Lam (Nat) (Nat)) (Var 3)) (applied (Fam (pair_type 0)) ((App (Const (after 7)) (App (Var 3) (Var 0))) ∷ (applied (Const (after 6))
    (Nat ∷ (Lam (Nat) (Nat)) ∷ (Const (after 7)) ∷ (App (Var 3) (Var 0)) ∷ [])) ∷ []))) ∷ (Fam (unit_type 0)) ∷ [])) (Pi (App (Lam (Nat)
    (Nat)) (Var 4)) (applied (Fam (pair_type 0)) ((App (Const (after 7)) (App (Var 4) (Var 0))) ∷ (applied (Const (after 6)) (Nat ∷ (Lam (Nat)
    (Nat)) ∷ (Const (after 7)) ∷ (App (Var 4) (Var 0)) ∷ [])) ∷ [])))) ∷ (Lam (Pi (App (Lam (Nat) (Nat)) (Var 3)) (applied (Fam
    (pair_type 0)) ((App (Const (after 7)) (App (Var 3) (Var 0))) ∷ (applied (Const (after 6)) (Nat ∷ (Lam (Nat) (Nat)) ∷ (Const (after 7)) ∷ (App (Var 3)
    (Var 0)) ∷ [])) ∷ []))) (Lam (Fam (unit_type 0)) (Var 1))) ∷ (Var 0) ∷ (Con (after 0) 0) ∷ [])) ∷ [])))) ∷ (applied (Const (after 6)) (Nat ∷
    (Lam (Nat) (Nat)) ∷ (Const (after 7)) ∷ (App (Var 2) (applied (Elim (pair_type 0) 0) ((App (Const (after 7)) (App (Var 2) (Con (after 0) 0))) ∷
    (applied (Const (after 6)) (Nat ∷ (Lam (Nat) (Nat)) ∷ (Const (after 7)) ∷ (App (Var 2) (Con (after 0) 0)) ∷ [])) ∷ (Lam (applied (Fam (pair_type 0))
    ((App (Const (after 7)) (App (Var 2) (Con (after 0) 0))) ∷ (applied (Const (after 6)) (Nat ∷ (Lam (Nat) (Nat)) ∷ (Const (after 7)) ∷ (App (Var 2)
    (Con (after 0) 0)) ∷ [])) ∷ [])) (App (Const (after 7)) (App (Var 3) (Con (after 0) 0)))) ∷ (Lam (App (Const (after 7)) (App (Var 2) (Con (after 0) 0)))
    (Lam (applied (Const (after 6)) (Nat ∷ (Lam (Nat) (Nat)) ∷ (Const (after 7)) ∷ (App (Var 3) (Con (after 0) 0)) ∷ [])) (Var 1))) ∷ (applied
    (Elim (pair_type 0) 0) ((Pi (App (Lam (Nat) (Nat)) (Var 3)) (applied (Fam (pair_type 0)) ((App (Const (after 7)) (App (Var 3) (Var 0))) ∷ (applied
    (Const (after 6)) (Nat ∷ (Lam (Nat) (Nat)) ∷ (Const (after 7)) ∷ (App (Var 3) (Var 0)) ∷ [])) ∷ []))) ∷ (Fam (unit_type 0)) ∷ (Lam (applied
    (Fam (pair_type 0)) ((Pi (App (Lam (Nat) (Nat)) (Var 3)) (applied (Fam (pair_type 0)) ((App (Const (after 7)) (App (Var 3) (Var 0))) ∷ (applied
    (Const (after 6)) (Nat ∷ (Lam (Nat) (Nat)) ∷ (Const (after 7)) ∷ (App (Var 3) (Var 0)) ∷ [])) ∷ []))) ∷ (Fam (unit_type 0)) ∷ [])) (Pi (App
    (Lam (Nat) (Nat)) (Var 4)) (applied (Fam (pair_type 0)) ((App (Const (after 7)) (App (Var 4) (Var 0))) ∷ (applied (Const (after 6)) (Nat ∷ (Lam
    (Nat) (Nat)) ∷ (Const (after 7)) ∷ (App (Var 4) (Var 0)) ∷ [])) ∷ [])))) ∷ (Lam (Pi (App (Lam (Nat) (Nat)) (Var 3)) (applied
    (Fam (pair_type 0)) ((App (Const (after 7)) (App (Var 3) (Var 0))) ∷ (applied (Const (after 6)) (Nat ∷ (Lam (Nat) (Nat)) ∷ (Const (after 7)) ∷ (App
    (Var 3) (Var 0)) ∷ [])) ∷ []))) (Lam (Fam (unit_type 0)) (Var 1))) ∷ (Var 0) ∷ (Con (after 0) 0) ∷ [])) ∷ []))) ∷ [])) ∷ (Lam (applied
    (Fam (pair_type 0)) ((App (Const (after 7)) (App (Var 2) (applied (Elim (pair_type 0) 0) ((App (Const (after 7)) (App (Var 2) (Con (after 0) 0))) ∷ (applied
    (Const (after 6)) (Nat ∷ (Lam (Nat) (Nat)) ∷ (Const (after 7)) ∷ (App (Var 2) (Con (after 0) 0)) ∷ [])) ∷ (Lam (applied (Fam (pair_type 0)) ((App
    (Const (after 7)) (App (Var 2) (Con (after 0) 0))) ∷ (applied (Const (after 6)) (Nat ∷ (Lam (Nat) (Nat)) ∷ (Const (after 7)) ∷ (App (Var 2) (Con
    (after 0) 0)) ∷ [])) ∷ [])) (App (Const (after 7)) (App (Var 3) (Con (after 0) 0)))) ∷ (Lam (App (Const (after 7)) (App (Var 2) (Con (after 0) 0))) (Lam
    (applied (Const (after 6)) (Nat ∷ (Lam (Nat) (Nat)) ∷ (Const (after 7)) ∷ (App (Var 3) (Con (after 0) 0)) ∷ [])) (Var 1))) ∷ (applied (Elim
    (pair_type 0) 0) ((Pi (App (Lam (Nat) (Nat)) (Var 3)) (applied (Fam (pair_type 0)) ((App (Const (after 7)) (App (Var 3) (Var 0))) ∷ (applied (Const
    (after 6)) (Nat ∷ (Lam (Nat) (Nat)) ∷ (Const (after 7)) ∷ (App (Var 3) (Var 0)) ∷ [])) ∷ []))) ∷ (Fam (unit_type 0)) ∷ (Lam (applied (Fam (pair_type 0))
    ((Pi (App (Lam (Nat) (Nat)) (Var 3)) (applied (Fam (pair_type 0)) ((App (Const (after 7)) (App (Var 3) (Var 0))) ∷ (applied (Const (after 6))
    (Nat ∷ (Lam (Nat) (Nat)) ∷ (Const (after 7)) ∷ (App (Var 3) (Var 0)) ∷ [])) ∷ []))) ∷ (Fam (unit_type 0)) ∷ [])) (Pi (App (Lam (Nat)
    (Nat)) (Var 4)) (applied (Fam (pair_type 0)) ((App (Const (after 7)) (App (Var 4) (Var 0))) ∷ (applied (Const (after 6)) (Nat ∷ (Lam (Nat)
    (Nat)) ∷ (Const (after 7)) ∷ (App (Var 4) (Var 0)) ∷ [])) ∷ [])))) ∷ (Lam (Pi (App (Lam (Nat) (Nat)) (Var 3)) (applied (Fam
    (pair_type 0)) ((App (Const (after 7)) (App (Var 3) (Var 0))) ∷ (applied (Const (after 6)) (Nat ∷ (Lam (Nat) (Nat)) ∷ (Const (after 7)) ∷ (App (Var 3)
    (Var 0)) ∷ [])) ∷ []))) (Lam (Fam (unit_type 0)) (Var 1))) ∷ (Var 0) ∷ (Con (after 0) 0) ∷ [])) ∷ [])))) ∷ (applied (Const (after 6)) (Nat ∷
    (Lam (Nat) (Nat)) ∷ (Const (after 7)) ∷ (App (Var 2) (applied (Elim (pair_type 0) 0) ((App (Const (after 7)) (App (Var 2) (Con (after 0) 0))) ∷
    (applied (Const (after 6)) (Nat ∷ (Lam (Nat) (Nat)) ∷ (Const (after 7)) ∷ (App (Var 2) (Con (after 0) 0)) ∷ [])) ∷ (Lam (applied (Fam (pair_type 0))
    ((App (Const (after 7)) (App (Var 2) (Con (after 0) 0))) ∷ (applied (Const (after 6)) (Nat ∷ (Lam (Nat) (Nat)) ∷ (Const (after 7)) ∷ (App (Var 2)
    (Con (after 0) 0)) ∷ [])) ∷ [])) (App (Const (after 7)) (App (Var 3) (Con (after 0) 0)))) ∷ (Lam (App (Const (after 7)) (App (Var 2) (Con (after 0) 0)))
    (Lam (applied (Const (after 6)) (Nat ∷ (Lam (Nat) (Nat)) ∷ (Const (after 7)) ∷ (App (Var 3) (Con (after 0) 0)) ∷ [])) (Var 1))) ∷ (applied
    (Elim (pair_type 0) 0) ((Pi (App (Lam (Nat) (Nat)) (Var 3)) (applied (Fam (pair_type 0)) ((App (Const (after 7)) (App (Var 3) (Var 0))) ∷ (applied
    (Const (after 6)) (Nat ∷ (Lam (Nat) (Nat)) ∷ (Const (after 7)) ∷ (App (Var 3) (Var 0)) ∷ [])) ∷ []))) ∷ (Fam (unit_type 0)) ∷ (Lam (applied
    (Fam (pair_type 0)) ((Pi (App (Lam (Nat) (Nat)) (Var 3)) (applied (Fam (pair_type 0)) ((App (Const (after 7)) (App (Var 3) (Var 0))) ∷ (applied
    (Const (after 6)) (Nat ∷ (Lam (Nat) (Nat)) ∷ (Const (after 7)) ∷ (App (Var 3) (Var 0)) ∷ [])) ∷ []))) ∷ (Fam (unit_type 0)) ∷ [])) (Pi (App
    (Lam (Nat) (Nat)) (Var 4)) (applied (Fam (pair_type 0)) ((App (Const (after 7)) (App (Var 4) (Var 0))) ∷ (applied (Const (after 6)) (Nat ∷ (Lam
    (Nat) (Nat)) ∷ (Const (after 7)) ∷ (App (Var 4) (Var 0)) ∷ [])) ∷ [])))) ∷ (Lam (Pi (App (Lam (Nat) (Nat)) (Var 3)) (applied
    (Fam (pair_type 0)) ((App (Const (after 7)) (App (Var 3) (Var 0))) ∷ (applied (Const (after 6)) (Nat ∷ (Lam (Nat) (Nat)) ∷ (Const (after 7)) ∷ (App
    (Var 3) (Var 0)) ∷ [])) ∷ []))) (Lam (Fam (unit_type 0)) (Var 1))) ∷ (Var 0) ∷ (Con (after 0) 0) ∷ [])) ∷ []))) ∷ [])) ∷ [])) (App
    (Const (after 7)) (App (Var 3) (applied (Elim (pair_type 0) 0) ((App (Const (after 7)) (App (Var 3) (Con (after 0) 0))) ∷ (applied (Const (after 6)) (Nat ∷
    (Lam (Nat) (Nat)) ∷ (Const (after 7)) ∷ (App (Var 3) (Con (after 0) 0)) ∷ [])) ∷ (Lam (applied (Fam (pair_type 0)) ((App (Const (after 7)) (App (Var
    3) (Con (after 0) 0))) ∷ (applied (Const (after 6)) (Nat ∷ (Lam (Nat) (Nat)) ∷ (Const (after 7)) ∷ (App (Var 3) (Con (after 0) 0)) ∷ [])) ∷ []))
    (App (Const (after 7)) (App (Var 4) (Con (after 0) 0)))) ∷ (Lam (App (Const (after 7)) (App (Var 3) (Con (after 0) 0))) (Lam (applied (Const (after 6))
    (Nat ∷ (Lam (Nat) (Nat)) ∷ (Const (after 7)) ∷ (App (Var 4) (Con (after 0) 0)) ∷ [])) (Var 1))) ∷ (applied (Elim (pair_type 0) 0) ((Pi (App
    (Lam (Nat) (Nat)) (Var 4)) (applied (Fam (pair_type 0)) ((App (Const (after 7)) (App (Var 4) (Var 0))) ∷ (applied (Const (after 6)) (Nat ∷ (Lam
    (Nat) (Nat)) ∷ (Const (after 7)) ∷ (App (Var 4) (Var 0)) ∷ [])) ∷ []))) ∷ (Fam (unit_type 0)) ∷ (Lam (applied (Fam (pair_type 0)) ((Pi (App (Lam
    (Nat) (Nat)) (Var 4)) (applied (Fam (pair_type 0)) ((App (Const (after 7)) (App (Var 4) (Var 0))) ∷ (applied (Const (after 6)) (Nat ∷ (Lam
    (Nat) (Nat)) ∷ (Const (after 7)) ∷ (App (Var 4) (Var 0)) ∷ [])) ∷ []))) ∷ (Fam (unit_type 0)) ∷ [])) (Pi (App (Lam (Nat) (Nat)) (Var 5))
    (applied (Fam (pair_type 0)) ((App (Const (after 7)) (App (Var 5) (Var 0))) ∷ (applied (Const (after 6)) (Nat ∷ (Lam (Nat) (Nat)) ∷ (Const (after 7))
    ∷ (App (Var 5) (Var 0)) ∷ [])) ∷ [])))) ∷ (Lam (Pi (App (Lam (Nat) (Nat)) (Var 4)) (applied (Fam (pair_type 0)) ((App (Const (after 7))
    (App (Var 4) (Var 0))) ∷ (applied (Const (after 6)) (Nat ∷ (Lam (Nat) (Nat)) ∷ (Const (after 7)) ∷ (App (Var 4) (Var 0)) ∷ [])) ∷
    []))) (Lam (Fam (unit_type 0)) (Var 1))) ∷ (Var 1) ∷ (Con (after 0) 0) ∷ [])) ∷ []))))) ∷ (Lam (App (Const (after 7)) (App (Var 2) (applied
    (Elim (pair_type 0) 0) ((App (Const (after 7)) (App (Var 2) (Con (after 0) 0))) ∷ (applied (Const (after 6)) (Nat ∷ (Lam (Nat) (Nat)) ∷ (Const (after 7)) ∷
    (App (Var 2) (Con (after 0) 0)) ∷ [])) ∷ (Lam (applied (Fam (pair_type 0)) ((App (Const (after 7)) (App (Var 2) (Con (after 0) 0))) ∷ (applied (Const
    (after 6)) (Nat ∷ (Lam (Nat) (Nat)) ∷ (Const (after 7)) ∷ (App (Var 2) (Con (after 0) 0)) ∷ [])) ∷ [])) (App (Const (after 7)) (App (Var 3) (Con
    (after 0) 0)))) ∷ (Lam (App (Const (after 7)) (App (Var 2) (Con (after 0) 0))) (Lam (applied (Const (after 6)) (Nat ∷ (Lam (Nat) (Nat)) ∷ (Const
    (after 7)) ∷ (App (Var 3) (Con (after 0) 0)) ∷ [])) (Var 1))) ∷ (applied (Elim (pair_type 0) 0) ((Pi (App (Lam (Nat) (Nat)) (Var 3)) (applied
    (Fam (pair_type 0)) ((App (Const (after 7)) (App (Var 3) (Var 0))) ∷ (applied (Const (after 6)) (Nat ∷ (Lam (Nat) (Nat)) ∷ (Const (after 7)) ∷ (App
    (Var 3) (Var 0)) ∷ [])) ∷ []))) ∷ (Fam (unit_type 0)) ∷ (Lam (applied (Fam (pair_type 0)) ((Pi (App (Lam (Nat) (Nat)) (Var 3)) (applied (Fam
    (pair_type 0)) ((App (Const (after 7)) (App (Var 3) (Var 0))) ∷ (applied (Const (after 6)) (Nat ∷ (Lam (Nat) (Nat)) ∷ (Const (after 7)) ∷ (App (Var 3)
    (Var 0)) ∷ [])) ∷ []))) ∷ (Fam (unit_type 0)) ∷ [])) (Pi (App (Lam (Nat) (Nat)) (Var 4)) (applied (Fam (pair_type 0)) ((App (Const (after 7)) (App
    (Var 4) (Var 0))) ∷ (applied (Const (after 6)) (Nat ∷ (Lam (Nat) (Nat)) ∷ (Const (after 7)) ∷ (App (Var 4) (Var 0)) ∷ [])) ∷ []))))
    ∷ (Lam (Pi (App (Lam (Nat) (Nat)) (Var 3)) (applied (Fam (pair_type 0)) ((App (Const (after 7)) (App (Var 3) (Var 0))) ∷ (applied (Const
    (after 6)) (Nat ∷ (Lam (Nat) (Nat)) ∷ (Const (after 7)) ∷ (App (Var 3) (Var 0)) ∷ [])) ∷ []))) (Lam (Fam (unit_type 0)) (Var 1))) ∷ (Var 0) ∷
    (Con (after 0) 0) ∷ [])) ∷ [])))) (Lam (applied (Const (after 6)) (Nat ∷ (Lam (Nat) (Nat)) ∷ (Const (after 7)) ∷ (App (Var 3) (applied
    (Elim (pair_type 0) 0) ((App (Const (after 7)) (App (Var 3) (Con (after 0) 0))) ∷ (applied (Const (after 6)) (Nat ∷ (Lam (Nat) (Nat)) ∷ (Const (after 7)) ∷
    (App (Var 3) (Con (after 0) 0)) ∷ [])) ∷ (Lam (applied (Fam (pair_type 0)) ((App (Const (after 7)) (App (Var 3) (Con (after 0) 0))) ∷ (applied (Const
    (after 6)) (Nat ∷ (Lam (Nat) (Nat)) ∷ (Const (after 7)) ∷ (App (Var 3) (Con (after 0) 0)) ∷ [])) ∷ [])) (App (Const (after 7)) (App (Var 4) (Con
    (after 0) 0)))) ∷ (Lam (App (Const (after 7)) (App (Var 3) (Con (after 0) 0))) (Lam (applied (Const (after 6)) (Nat ∷ (Lam (Nat) (Nat)) ∷ (Const
    (after 7)) ∷ (App (Var 4) (Con (after 0) 0)) ∷ [])) (Var 1))) ∷ (applied (Elim (pair_type 0) 0) ((Pi (App (Lam (Nat) (Nat)) (Var 4)) (applied
    (Fam (pair_type 0)) ((App (Const (after 7)) (App (Var 4) (Var 0))) ∷ (applied (Const (after 6)) (Nat ∷ (Lam (Nat) (Nat)) ∷ (Const (after 7)) ∷ (App
    (Var 4) (Var 0)) ∷ [])) ∷ []))) ∷ (Fam (unit_type 0)) ∷ (Lam (applied (Fam (pair_type 0)) ((Pi (App (Lam (Nat) (Nat)) (Var 4)) (applied (Fam
    (pair_type 0)) ((App (Const (after 7)) (App (Var 4) (Var 0))) ∷ (applied (Const (after 6)) (Nat ∷ (Lam (Nat) (Nat)) ∷ (Const (after 7)) ∷ (App (Var 4)
    (Var 0)) ∷ [])) ∷ []))) ∷ (Fam (unit_type 0)) ∷ [])) (Pi (App (Lam (Nat) (Nat)) (Var 5)) (applied (Fam (pair_type 0)) ((App (Const (after 7)) (App
    (Var 5) (Var 0))) ∷ (applied (Const (after 6)) (Nat ∷ (Lam (Nat) (Nat)) ∷ (Const (after 7)) ∷ (App (Var 5) (Var 0)) ∷ [])) ∷ []))))
    ∷ (Lam (Pi (App (Lam (Nat) (Nat)) (Var 4)) (applied (Fam (pair_type 0)) ((App (Const (after 7)) (App (Var 4) (Var 0))) ∷ (applied (Const
    (after 6)) (Nat ∷ (Lam (Nat) (Nat)) ∷ (Const (after 7)) ∷ (App (Var 4) (Var 0)) ∷ [])) ∷ []))) (Lam (Fam (unit_type 0)) (Var 1))) ∷ (Var 1) ∷
    (Con (after 0) 0) ∷ [])) ∷ []))) ∷ [])) (Var 1))) ∷ (applied (Elim (pair_type 0) 0) ((Pi (App (Lam (Nat) (Nat)) (Var 3)) (applied (Fam
    (pair_type 0)) ((App (Const (after 7)) (App (Var 3) (Var 0))) ∷ (applied (Const (after 6)) (Nat ∷ (Lam (Nat) (Nat)) ∷ (Const (after 7)) ∷ (App (Var 3)
    (Var 0)) ∷ [])) ∷ []))) ∷ (Fam (unit_type 0)) ∷ (Lam (applied (Fam (pair_type 0)) ((Pi (App (Lam (Nat) (Nat)) (Var 3)) (applied (Fam (pair_type 0))
    ((App (Const (after 7)) (App (Var 3) (Var 0))) ∷ (applied (Const (after 6)) (Nat ∷ (Lam (Nat) (Nat)) ∷ (Const (after 7)) ∷ (App (Var 3)
    (Var 0)) ∷ [])) ∷ []))) ∷ (Fam (unit_type 0)) ∷ [])) (Pi (App (Lam (Nat) (Nat)) (Var 4)) (applied (Fam (pair_type 0)) ((App (Const (after 7)) (App
    (Var 4) (Var 0))) ∷ (applied (Const (after 6)) (Nat ∷ (Lam (Nat) (Nat)) ∷ (Const (after 7)) ∷ (App (Var 4) (Var 0)) ∷ [])) ∷ []))))
    ∷ (Lam (Pi (App (Lam (Nat) (Nat)) (Var 3)) (applied (Fam (pair_type 0)) ((App (Const (after 7)) (App (Var 3) (Var 0))) ∷ (applied (Const
    (after 6)) (Nat ∷ (Lam (Nat) (Nat)) ∷ (Const (after 7)) ∷ (App (Var 3) (Var 0)) ∷ [])) ∷ []))) (Lam (Fam (unit_type 0)) (Var 1))) ∷ (Var 0) ∷
    (applied (Elim (pair_type 0) 0) ((App (Const (after 7)) (App (Var 2) (Con (after 0) 0))) ∷ (applied (Const (after 6)) (Nat ∷ (Lam (Nat) (Nat)) ∷
    (Const (after 7)) ∷ (App (Var 2) (Con (after 0) 0)) ∷ [])) ∷ (Lam (applied (Fam (pair_type 0)) ((App (Const (after 7)) (App (Var 2) (Con (after 0) 0))) ∷
    (applied (Const (after 6)) (Nat ∷ (Lam (Nat) (Nat)) ∷ (Const (after 7)) ∷ (App (Var 2) (Con (after 0) 0)) ∷ [])) ∷ [])) (App (Const (after 7))
    (App (Var 3) (Con (after 0) 0)))) ∷ (Lam (App (Const (after 7)) (App (Var 2) (Con (after 0) 0))) (Lam (applied (Const (after 6)) (Nat ∷ (Lam (Nat)
    (Nat)) ∷ (Const (after 7)) ∷ (App (Var 3) (Con (after 0) 0)) ∷ [])) (Var 1))) ∷ (applied (Elim (pair_type 0) 0) ((Pi (App (Lam (Nat) (Nat))
    (Var 3)) (applied (Fam (pair_type 0)) ((App (Const (after 7)) (App (Var 3) (Var 0))) ∷ (applied (Const (after 6)) (Nat ∷ (Lam (Nat) (Nat)) ∷
    (Const (after 7)) ∷ (App (Var 3) (Var 0)) ∷ [])) ∷ []))) ∷ (Fam (unit_type 0)) ∷ (Lam (applied (Fam (pair_type 0)) ((Pi (App (Lam (Nat) (Nat)) (Var
    3)) (applied (Fam (pair_type 0)) ((App (Const (after 7)) (App (Var 3) (Var 0))) ∷ (applied (Const (after 6)) (Nat ∷ (Lam (Nat) (Nat)) ∷ (Const
    (after 7)) ∷ (App (Var 3) (Var 0)) ∷ [])) ∷ []))) ∷ (Fam (unit_type 0)) ∷ [])) (Pi (App (Lam (Nat) (Nat)) (Var 4)) (applied (Fam (pair_type 0))
    ((App (Const (after 7)) (App (Var 4) (Var 0))) ∷ (applied (Const (after 6)) (Nat ∷ (Lam (Nat) (Nat)) ∷ (Const (after 7)) ∷ (App (Var 4)
    (Var 0)) ∷ [])) ∷ [])))) ∷ (Lam (Pi (App (Lam (Nat) (Nat)) (Var 3)) (applied (Fam (pair_type 0)) ((App (Const (after 7)) (App (Var 3)
    (Var 0))) ∷ (applied (Const (after 6)) (Nat ∷ (Lam (Nat) (Nat)) ∷ (Const (after 7)) ∷ (App (Var 3) (Var 0)) ∷ [])) ∷ []))) (Lam (Fam
    (unit_type 0)) (Var 1))) ∷ (Var 0) ∷ (Con (after 0) 0) ∷ [])) ∷ [])) ∷ [])) ∷ []))) ∷ (Var 4) ∷ (Var 0) ∷ (Var 3) ∷ []))))) ∷ (Var 1) ∷
    (reflexivity 0 (applied (Fam (after 4)) (Nat ∷ (Lam (Nat) (Nat)) ∷ [])) (Var 1)) ∷ [])))) ∷ draft (codes "nest") (after 6) (codes
    "W!rec.0" ∷ codes "nest!motive" ∷ codes "nest!step" ∷ []) (Pi (applied (Fam (after 4)) (Nat ∷ (Lam (Nat) (Nat)) ∷ [])) (Nat))
    (Lam (applied (Fam (after 4)) (Nat ∷ (Lam (Nat) (Nat)) ∷ [])) (applied (Const (after 6)) (Nat ∷ (Lam (Nat) (Nat)) ∷ (Const (after 7)) ∷
    (Const (after 8)) ∷ (Var 0) ∷ []))) ∷ []))
unfolding native.Mathlib.Decide.ℕ_discrete
row_nest = refl
