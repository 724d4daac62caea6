-- Entries of functions on equations, by K and by the left side, as another implementation prints them.
use native.Mathlib.Decide.{ℕ_discrete}
use Rattle.std.proofs.Common.{◌≡◌, true, false, None, Ok, [], ◌∷◌, refl, codes}
use Rattle.theory.specs.Terms.Term.{Var, Sort, Pi, Lam, Con, Elim, Const, AxiomK}
use Rattle.theory.specs.Telescopes.{applied}
use Rattle.theory.specs.Signatures.{equation, reflexivity}
use Rattle.theory.proofs.AfterPrelude.{after}
use Rattle.core_terms.specs.Clauses.{Is, Side}
use Rattle.core_terms.specs.Patterns as pattern
use Rattle.core_terms.specs.Patterns.{vector}
use Rattle.tree_translation.specs.Plans.{Plan}
use Rattle.tree_translation.specs.Entries.{translate}
use Rattle.tree_translation.proofs.Samples.{sample, Nat, Vec, draft, plan_of}

abbrev plan_uip : Plan
plan_uip =
    plan_of (sample true) (after 6) (codes "uip") 1 (Sort 0 ∷ Var 0 ∷ Var 1 ∷ equation 0 (Var 2) (Var 1) (Var 0) ∷ equation 0
    (Var 3) (Var 2) (Var 1) ∷ []) (equation 0 (equation 0 (Var 4) (Var 3) (Var 2)) (Var 1) (Var 0)) None (Is (vector
    (pattern.Bind ∷ pattern.Bind ∷ pattern.Dot (Var 0) ∷ pattern.Con 1 0 pattern.nil ∷ pattern.Con 1 0 pattern.nil ∷ []))
    2 (Side (Sort 0)) ∷ []) (reflexivity 0 (equation 0 (Var 1) (Var 0) (Var 0)) (reflexivity 0 (Var 1) (Var 0)) ∷ [])

row_uip : translate (sample true) plan_uip ≡ (Ok (draft (codes "uip") (after 6) (codes "Eq.0!case.1" ∷ []) (Pi (Sort 0) (Pi
    (Var 0) (Pi (Var 1) (Pi (equation 0 (Var 2) (Var 1) (Var 0)) (Pi (equation 0 (Var 3) (Var 2) (Var 1)) (equation 0
    (equation 0 (Var 4) (Var 3) (Var 2)) (Var 1) (Var 0))))))) (Lam (Sort 0) (Lam (Var 0) (Lam (Var 1) (Lam (equation 0
    (Var 2) (Var 1) (Var 0)) (Lam (equation 0 (Var 3) (Var 2) (Var 1)) (applied (Const (after 6)) ((Var 4) ∷ (Var 3) ∷ (Lam (Var
    4) (Lam (equation 0 (Var 5) (Var 4) (Var 0)) (Pi (equation 0 (Var 6) (Var 1) (Var 4)) (Pi (equation 0 (equation 0 (Var
    7) (Var 6) (Var 5)) (applied (Elim 1 0) ((Var 7) ∷ (Var 2) ∷ (Lam (Var 7) (Lam (equation 0 (Var 8) (Var 3) (Var 0))
    (Pi (equation 0 (Var 9) (Var 8) (Var 4)) (equation 0 (Var 10) (Var 9) (Var 2))))) ∷ (Lam (equation 0 (Var 7) (Var 6)
    (Var 2)) (Var 0)) ∷ (Var 5) ∷ (Var 0) ∷ (Var 1) ∷ [])) (Var 4)) (equation 0 (equation 0 (Var 8) (Var 7) (Var 6)) (Var
    5) (Var 4)))))) ∷ (Lam (equation 0 (Var 4) (Var 3) (Var 2)) (Lam (equation 0 (equation 0 (Var 5) (Var 4) (Var 3))
    (applied (Elim 1 0) ((Var 5) ∷ (Var 4) ∷ (Lam (Var 5) (Lam (equation 0 (Var 6) (Var 5) (Var 0)) (Pi (equation 0 (Var
    7) (Var 6) (Var 6)) (equation 0 (Var 8) (Var 7) (Var 2))))) ∷ (Lam (equation 0 (Var 5) (Var 4) (Var 4)) (Var 0)) ∷
    (Var 3) ∷ (Var 0) ∷ (reflexivity 0 (Var 5) (Var 4)) ∷ [])) (Var 2)) (applied (Elim 1 1) ((Var 6) ∷ (Var 5) ∷ (Lam (Var
    6) (Lam (equation 0 (Var 7) (Var 6) (Var 0)) (Pi (equation 0 (Var 8) (Var 7) (Var 1)) (Pi (equation 0 (Var 9) (Var 8)
    (Var 2)) (Pi (equation 0 (equation 0 (Var 10) (Var 9) (Var 3)) (applied (Elim 1 0) ((Var 10) ∷ (Var 9) ∷ (Lam (Var 10)
    (Lam (equation 0 (Var 11) (Var 10) (Var 0)) (Pi (equation 0 (Var 12) (Var 11) (Var 11)) (equation 0 (Var 13) (Var 12)
    (Var 2))))) ∷ (Lam (equation 0 (Var 10) (Var 9) (Var 9)) (Var 0)) ∷ (Var 3) ∷ (Var 2) ∷ (reflexivity 0 (Var 10) (Var
    9)) ∷ [])) (Var 1)) (equation 0 (equation 0 (Var 11) (Var 10) (Var 4)) (Var 2) (Var 1))))))) ∷ (Lam (equation 0 (Var
    6) (Var 5) (Var 5)) (Lam (equation 0 (Var 7) (Var 6) (Var 6)) (Lam (equation 0 (equation 0 (Var 8) (Var 7) (Var 7))
    (applied (Elim 1 0) ((Var 8) ∷ (Var 7) ∷ (Lam (Var 8) (Lam (equation 0 (Var 9) (Var 8) (Var 0)) (Pi (equation 0 (Var
    10) (Var 9) (Var 9)) (equation 0 (Var 11) (Var 10) (Var 2))))) ∷ (Lam (equation 0 (Var 8) (Var 7) (Var 7)) (Var 0)) ∷
    (Var 7) ∷ (reflexivity 0 (Var 8) (Var 7)) ∷ (reflexivity 0 (Var 8) (Var 7)) ∷ [])) (Var 1)) (applied (Elim 1 1)
    ((equation 0 (Var 9) (Var 8) (Var 8)) ∷ (reflexivity 0 (Var 9) (Var 8)) ∷ (Lam (equation 0 (Var 9) (Var 8) (Var 8))
    (Lam (equation 0 (equation 0 (Var 10) (Var 9) (Var 9)) (reflexivity 0 (Var 10) (Var 9)) (Var 0)) (equation 0 (equation
    0 (Var 11) (Var 10) (Var 10)) (Var 1) (Var 3)))) ∷ (applied (Const (after 6)) ((Var 9) ∷ (Var 8) ∷ (Lam (Var 9) (Lam
    (equation 0 (Var 10) (Var 9) (Var 0)) (Pi (equation 0 (Var 11) (Var 1) (Var 10)) (Pi (equation 0 (equation 0 (Var 12)
    (Var 11) (Var 11)) (applied (Elim 1 0) ((Var 12) ∷ (Var 2) ∷ (Lam (Var 12) (Lam (equation 0 (Var 13) (Var 3) (Var 0))
    (Pi (equation 0 (Var 14) (Var 13) (Var 4)) (equation 0 (Var 15) (Var 14) (Var 2))))) ∷ (Lam (equation 0 (Var 12) (Var
    11) (Var 2)) (Var 0)) ∷ (Var 11) ∷ (Var 0) ∷ (Var 1) ∷ [])) (Var 4)) (equation 0 (equation 0 (Var 13) (Var 12) (Var
    12)) (reflexivity 0 (Var 13) (Var 12)) (Var 5)))))) ∷ (Lam (equation 0 (Var 9) (Var 8) (Var 8)) (Lam (equation 0
    (equation 0 (Var 10) (Var 9) (Var 9)) (applied (Elim 1 0) ((Var 10) ∷ (Var 9) ∷ (Lam (Var 10) (Lam (equation 0 (Var
    11) (Var 10) (Var 0)) (Pi (equation 0 (Var 12) (Var 11) (Var 11)) (equation 0 (Var 13) (Var 12) (Var 2))))) ∷ (Lam
    (equation 0 (Var 10) (Var 9) (Var 9)) (Var 0)) ∷ (Var 9) ∷ (Var 0) ∷ (reflexivity 0 (Var 10) (Var 9)) ∷ [])) (Var 2))
    (applied (AxiomK 0 1) ((Var 11) ∷ (Var 10) ∷ (Lam (equation 0 (Var 11) (Var 10) (Var 10)) (Pi (equation 0 (equation 0
    (Var 12) (Var 11) (Var 11)) (applied (Elim 1 0) ((Var 12) ∷ (Var 11) ∷ (Lam (Var 12) (Lam (equation 0 (Var 13) (Var
    12) (Var 0)) (Pi (equation 0 (Var 14) (Var 13) (Var 13)) (equation 0 (Var 15) (Var 14) (Var 2))))) ∷ (Lam (equation 0
    (Var 12) (Var 11) (Var 11)) (Var 0)) ∷ (Var 11) ∷ (Var 0) ∷ (reflexivity 0 (Var 12) (Var 11)) ∷ [])) (Var 4))
    (equation 0 (equation 0 (Var 13) (Var 12) (Var 12)) (reflexivity 0 (Var 13) (Var 12)) (Var 5)))) ∷ (Lam (equation 0
    (equation 0 (Var 11) (Var 10) (Var 10)) (applied (Elim 1 0) ((Var 11) ∷ (Var 10) ∷ (Lam (Var 11) (Lam (equation 0 (Var
    12) (Var 11) (Var 0)) (Pi (equation 0 (Var 13) (Var 12) (Var 12)) (equation 0 (Var 14) (Var 13) (Var 2))))) ∷ (Lam
    (equation 0 (Var 11) (Var 10) (Var 10)) (Var 0)) ∷ (Var 10) ∷ (reflexivity 0 (Var 11) (Var 10)) ∷ (reflexivity 0 (Var
    11) (Var 10)) ∷ [])) (Var 3)) (applied (Elim 1 1) ((equation 0 (Var 12) (Var 11) (Var 11)) ∷ (reflexivity 0 (Var 12)
    (Var 11)) ∷ (Lam (equation 0 (Var 12) (Var 11) (Var 11)) (Lam (equation 0 (equation 0 (Var 13) (Var 12) (Var 12))
    (reflexivity 0 (Var 13) (Var 12)) (Var 0)) (equation 0 (equation 0 (Var 14) (Var 13) (Var 13)) (reflexivity 0 (Var 14)
    (Var 13)) (Var 1)))) ∷ (reflexivity 0 (equation 0 (Var 12) (Var 11) (Var 11)) (reflexivity 0 (Var 12) (Var 11))) ∷
    (Var 4) ∷ (Var 0) ∷ []))) ∷ (Var 1) ∷ (Var 0) ∷ [])))) ∷ (Var 8) ∷ (Var 1) ∷ (reflexivity 0 (Var 9) (Var 8)) ∷
    (reflexivity 0 (equation 0 (Var 9) (Var 8) (Var 8)) (Var 1)) ∷ [])) ∷ (Var 2) ∷ (Var 0) ∷ []))))) ∷ (Var 4) ∷ (Var 1)
    ∷ (Var 3) ∷ (Var 2) ∷ (Var 0) ∷ [])))) ∷ (Var 2) ∷ (Var 1) ∷ (reflexivity 0 (Var 4) (Var 2)) ∷ (reflexivity 0
    (equation 0 (Var 4) (Var 3) (Var 2)) (Var 1)) ∷ []))))))) ∷ []))
unfolding native.Mathlib.Decide.ℕ_discrete
row_uip = refl

abbrev plan_sleft : Plan
plan_sleft =
    plan_of (sample false) (after 6) (codes "sleft") 0 (Nat ∷ Vec Nat (Var 0) ∷ equation 0 Nat (Var 1) (Con (after 0) 0) ∷ []) (Vec Nat
    (Con (after 0) 0)) None (Is (vector (pattern.Dot (Con (after 0) 0) ∷ pattern.Bind ∷ pattern.Con 1 0 pattern.nil ∷ [])) 1 (Side (Sort
    0)) ∷ []) (Var 0 ∷ [])

row_sleft : translate (sample false) plan_sleft ≡ (Ok (draft (codes "sleft") (after 6) (codes "Eq.0!case.0" ∷ codes
    "Eq.0!left.0" ∷ []) (Pi (Nat) (Pi (Vec Nat (Var 0)) (Pi (equation 0 Nat (Var 1) (Con (after 0) 0)) (Vec Nat (Con (after 0) 0)))))
    (Lam (Nat) (Lam (Vec Nat (Var 0)) (Lam (equation 0 Nat (Var 1) (Con (after 0) 0)) (applied (Const (after 6)) (Nat ∷ (Var 2) ∷ (Lam
    (Nat) (Lam (equation 0 Nat (Var 3) (Var 0)) (Pi (equation 0 Nat (Var 1) (Con (after 0) 0)) (Pi (equation 0 (equation 0 Nat
    (Var 5) (Con (after 0) 0)) (applied (Elim 1 0) (Nat ∷ (Var 2) ∷ (Lam (Nat) (Lam (equation 0 Nat (Var 3) (Var 0)) (Pi
    (equation 0 Nat (Var 7) (Var 4)) (equation 0 Nat (Var 8) (Var 2))))) ∷ (Lam (equation 0 Nat (Var 5) (Var 2)) (Var 0))
    ∷ (Con (after 0) 0) ∷ (Var 0) ∷ (Var 1) ∷ [])) (Var 3)) (Vec Nat (Con (after 0) 0)))))) ∷ (Lam (equation 0 Nat (Var 2) (Con (after 0) 0))
    (Lam (equation 0 (equation 0 Nat (Var 3) (Con (after 0) 0)) (applied (Elim 1 0) (Nat ∷ (Var 3) ∷ (Lam (Nat) (Lam (equation 0
    Nat (Var 4) (Var 0)) (Pi (equation 0 Nat (Var 5) (Var 5)) (equation 0 Nat (Var 6) (Var 2))))) ∷ (Lam (equation 0 Nat
    (Var 3) (Var 3)) (Var 0)) ∷ (Con (after 0) 0) ∷ (Var 0) ∷ (reflexivity 0 Nat (Var 3)) ∷ [])) (Var 1)) (applied (Const (after 7))
    (Nat ∷ (Con (after 0) 0) ∷ (Lam (Nat) (Lam (equation 0 Nat (Var 0) (Con (after 0) 0)) (Pi (Vec Nat (Var 1)) (Pi (equation 0 Nat (Var
    2) (Con (after 0) 0)) (Pi (equation 0 (equation 0 Nat (Var 3) (Con (after 0) 0)) (applied (Elim 1 0) (Nat ∷ (Var 3) ∷ (Lam (Nat)
    (Lam (equation 0 Nat (Var 4) (Var 0)) (Pi (equation 0 Nat (Var 5) (Var 5)) (equation 0 Nat (Var 6) (Var 2))))) ∷ (Lam
    (equation 0 Nat (Var 3) (Var 3)) (Var 0)) ∷ (Con (after 0) 0) ∷ (Var 2) ∷ (reflexivity 0 Nat (Var 3)) ∷ [])) (Var 0)) (Vec
    Nat (Con (after 0) 0))))))) ∷ (Lam (Vec Nat (Con (after 0) 0)) (Lam (equation 0 Nat (Con (after 0) 0) (Con (after 0) 0)) (Lam (equation 0
    (equation 0 Nat (Con (after 0) 0) (Con (after 0) 0)) (applied (Elim 1 0) (Nat ∷ (Con (after 0) 0) ∷ (Lam (Nat) (Lam (equation 0 Nat (Con (after 0)
    0) (Var 0)) (Pi (equation 0 Nat (Con (after 0) 0) (Con (after 0) 0)) (equation 0 Nat (Con (after 0) 0) (Var 2))))) ∷ (Lam (equation 0 Nat
    (Con (after 0) 0) (Con (after 0) 0)) (Var 0)) ∷ (Con (after 0) 0) ∷ (reflexivity 0 Nat (Con (after 0) 0)) ∷ (reflexivity 0 Nat (Con (after 0) 0)) ∷ []))
    (Var 0)) (applied (Elim 1 0) ((equation 0 Nat (Con (after 0) 0) (Con (after 0) 0)) ∷ (reflexivity 0 Nat (Con (after 0) 0)) ∷ (Lam (equation
    0 Nat (Con (after 0) 0) (Con (after 0) 0)) (Lam (equation 0 (equation 0 Nat (Con (after 0) 0) (Con (after 0) 0)) (reflexivity 0 Nat (Con (after 0) 0))
    (Var 0)) (Vec Nat (Con (after 0) 0)))) ∷ (Var 2) ∷ (Var 1) ∷ (Var 0) ∷ []))))) ∷ (Var 4) ∷ (Var 1) ∷ (Var 3) ∷ (Var 2) ∷ (Var
    0) ∷ [])))) ∷ (Con (after 0) 0) ∷ (Var 0) ∷ (reflexivity 0 Nat (Con (after 0) 0)) ∷ (reflexivity 0 (equation 0 Nat (Var 2) (Con (after 0)
    0)) (Var 0)) ∷ []))))) ∷ []))
unfolding native.Mathlib.Decide.ℕ_discrete
row_sleft = refl
