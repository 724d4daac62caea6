-- Entries of functions that do not call themselves, as another implementation prints them: first, head, injectivity of suc, symmetry.
use native.Mathlib.Decide.{ℕ_discrete}
use Rattle.std.proofs.Common.{◌≡◌, false, None, Ok, [], ◌∷◌, refl, codes}
use Rattle.theory.specs.Terms.Term.{Var, Sort, Pi, Lam, App, Con, Elim, Const}
use Rattle.theory.specs.Telescopes.{applied}
use Rattle.theory.specs.Signatures.{equation, reflexivity}
use Rattle.theory.proofs.AfterPrelude.{after}
use Rattle.core_terms.specs.Clauses.{Is, Side}
use Rattle.core_terms.specs.Patterns as pattern
use Rattle.core_terms.specs.Patterns.{vector}
use Rattle.tree_translation.specs.Plans.{Plan}
use Rattle.tree_translation.specs.Entries.{translate}
use Rattle.tree_translation.proofs.Samples.{sample, Nat, suc_term, Vec, draft, plan_of}

abbrev plan_first : Plan
plan_first =
    plan_of (sample false) (after 6) (codes "first") 0 (Nat ∷ Nat ∷ []) (Nat) None (Is (vector (pattern.Con (after 0) 0 pattern.nil ∷
    pattern.Wild ∷ [])) 0 (Side (Sort 0)) ∷ Is (vector (pattern.Con (after 0) 1 (vector (pattern.Bind ∷ [])) ∷ pattern.Wild ∷
    [])) 1 (Side (Sort 0)) ∷ []) (Con (after 0) 0 ∷ Var 0 ∷ [])

row_first : translate (sample false) plan_first ≡ (Ok (draft (codes "first") (after 6) (codes "Nat!case.0" ∷ []) (Pi (Nat)
    (Pi (Nat) (Nat))) (Lam (Nat) (Lam (Nat) (applied (Const (after 6)) ((Lam (Nat) (Pi (equation 0 Nat (Var 0) (Var 2)) (Nat))) ∷
    (Lam (equation 0 Nat (Con (after 0) 0) (Var 1)) (applied (Elim 1 0) (Nat ∷ (Con (after 0) 0) ∷ (Lam (Nat) (Lam (equation 0 Nat (Con
    (after 0) 0) (Var 0)) (Nat))) ∷ (Con (after 0) 0) ∷ (Var 2) ∷ (Var 0) ∷ []))) ∷ (Lam (Nat) (Lam (equation 0 Nat (suc_term (Var 0))
    (Var 2)) (applied (Elim 1 0) (Nat ∷ (suc_term (Var 1)) ∷ (Lam (Nat) (Lam (equation 0 Nat (suc_term (Var 2)) (Var 0))
    (Nat))) ∷ (Var 1) ∷ (Var 3) ∷ (Var 0) ∷ [])))) ∷ (Var 1) ∷ (reflexivity 0 Nat (Var 1)) ∷ [])))) ∷ []))
unfolding native.Mathlib.Decide.ℕ_discrete
row_first = refl

abbrev plan_head : Plan
plan_head =
    plan_of (sample false) (after 6) (codes "head") 1 (Sort 0 ∷ Nat ∷ Vec (Var 1) (suc_term (Var 0)) ∷ []) (Var 2) None (Is
    (vector (pattern.Bind ∷ pattern.Bind ∷ pattern.Con (after 1) 1 (vector (pattern.Dot (Var 2) ∷ pattern.Bind ∷ pattern.Bind ∷
    [])) ∷ [])) 4 (Side (Sort 0)) ∷ []) (Var 1 ∷ [])

row_head : translate (sample false) plan_head ≡ (Ok (draft (codes "head") (after 6) (codes "Vec!case.1" ∷ codes
    "Nat!noconf.zero.1" ∷ codes "Nat!noconf.suc.1" ∷ []) (Pi (Sort 0) (Pi (Nat) (Pi (Vec (Var 1) (suc_term (Var 0))) (Var
    2)))) (Lam (Sort 0) (Lam (Nat) (Lam (Vec (Var 1) (suc_term (Var 0))) (applied (Const (after 6)) ((Var 2) ∷ (Lam (Nat) (Lam
    (Vec (Var 3) (Var 0)) (Pi (equation 0 Nat (Var 1) (suc_term (Var 3))) (Pi (equation 0 (Vec (Var 5) (suc_term (Var 4)))
    (applied (Elim 1 0) (Nat ∷ (Var 2) ∷ (Lam (Nat) (Lam (equation 0 Nat (Var 3) (Var 0)) (Pi (Vec (Var 7) (Var 4)) (Vec
    (Var 8) (Var 2))))) ∷ (Lam (Vec (Var 5) (Var 2)) (Var 0)) ∷ (suc_term (Var 4)) ∷ (Var 0) ∷ (Var 1) ∷ [])) (Var 3))
    (Var 6))))) ∷ (Lam (equation 0 Nat (Con (after 0) 0) (suc_term (Var 1))) (Lam (equation 0 (Vec (Var 3) (suc_term (Var 2)))
    (applied (Elim 1 0) (Nat ∷ (Con (after 0) 0) ∷ (Lam (Nat) (Lam (equation 0 Nat (Con (after 0) 0) (Var 0)) (Pi (Vec (Var 5) (Con (after 0)
    0)) (Vec (Var 6) (Var 2))))) ∷ (Lam (Vec (Var 3) (Con (after 0) 0)) (Var 0)) ∷ (suc_term (Var 2)) ∷ (Var 0) ∷ (App (Con (after 1) 0)
    (Var 3)) ∷ [])) (Var 1)) (applied (Const (after 7)) ((suc_term (Var 3)) ∷ (Var 1) ∷ (Lam (equation 0 Nat (Con (after 0) 0) (suc_term
    (Var 3))) (Var 5)) ∷ [])))) ∷ (Lam (Nat) (Lam (Var 3) (Lam (Vec (Var 4) (Var 1)) (Lam (equation 0 Nat (suc_term (Var
    2)) (suc_term (Var 4))) (Lam (equation 0 (Vec (Var 6) (suc_term (Var 5))) (applied (Elim 1 0) (Nat ∷ (suc_term (Var
    3)) ∷ (Lam (Nat) (Lam (equation 0 Nat (suc_term (Var 4)) (Var 0)) (Pi (Vec (Var 8) (suc_term (Var 5))) (Vec (Var 9)
    (Var 2))))) ∷ (Lam (Vec (Var 6) (suc_term (Var 3))) (Var 0)) ∷ (suc_term (Var 5)) ∷ (Var 0) ∷ (applied (Con (after 1) 1)
    ((Var 6) ∷ (Var 3) ∷ (Var 2) ∷ (Var 1) ∷ [])) ∷ [])) (Var 4)) (applied (Const (after 8)) ((Var 4) ∷ (suc_term (Var 6)) ∷ (Var
    1) ∷ (Lam (equation 0 Nat (suc_term (Var 4)) (suc_term (Var 6))) (Pi (equation 0 (Vec (Var 8) (suc_term (Var 7)))
    (applied (Elim 1 0) (Nat ∷ (suc_term (Var 5)) ∷ (Lam (Nat) (Lam (equation 0 Nat (suc_term (Var 6)) (Var 0)) (Pi (Vec
    (Var 10) (suc_term (Var 7))) (Vec (Var 11) (Var 2))))) ∷ (Lam (Vec (Var 8) (suc_term (Var 5))) (Var 0)) ∷ (suc_term
    (Var 7)) ∷ (Var 0) ∷ (applied (Con (after 1) 1) ((Var 8) ∷ (Var 5) ∷ (Var 4) ∷ (Var 3) ∷ [])) ∷ [])) (Var 6)) (Var 9))) ∷
    (Lam (equation 0 Nat (Var 4) (Var 6)) (Lam (equation 0 (Vec (Var 8) (suc_term (Var 7))) (applied (Elim 1 0) (Nat ∷
    (suc_term (Var 5)) ∷ (Lam (Nat) (Lam (equation 0 Nat (suc_term (Var 6)) (Var 0)) (Pi (Vec (Var 10) (suc_term (Var 7)))
    (Vec (Var 11) (Var 2))))) ∷ (Lam (Vec (Var 8) (suc_term (Var 5))) (Var 0)) ∷ (suc_term (Var 7)) ∷ (applied (Elim 1 0)
    (Nat ∷ (Var 5) ∷ (Lam (Nat) (Lam (equation 0 Nat (Var 6) (Var 0)) (equation 0 Nat (suc_term (Var 7)) (suc_term (Var
    1))))) ∷ (reflexivity 0 Nat (suc_term (Var 5))) ∷ (Var 7) ∷ (Var 0) ∷ [])) ∷ (applied (Con (after 1) 1) ((Var 8) ∷ (Var 5) ∷
    (Var 4) ∷ (Var 3) ∷ [])) ∷ [])) (Var 6)) (applied (Elim 1 1) (Nat ∷ (Var 6) ∷ (Lam (Nat) (Lam (equation 0 Nat (Var 7)
    (Var 0)) (Pi (Vec (Var 11) (suc_term (Var 1))) (Pi (equation 0 (Vec (Var 12) (suc_term (Var 2))) (applied (Elim 1 0)
    (Nat ∷ (suc_term (Var 9)) ∷ (Lam (Nat) (Lam (equation 0 Nat (suc_term (Var 10)) (Var 0)) (Pi (Vec (Var 14) (suc_term
    (Var 11))) (Vec (Var 15) (Var 2))))) ∷ (Lam (Vec (Var 12) (suc_term (Var 9))) (Var 0)) ∷ (suc_term (Var 2)) ∷ (applied
    (Elim 1 0) (Nat ∷ (Var 9) ∷ (Lam (Nat) (Lam (equation 0 Nat (Var 10) (Var 0)) (equation 0 Nat (suc_term (Var 11))
    (suc_term (Var 1))))) ∷ (reflexivity 0 Nat (suc_term (Var 9))) ∷ (Var 2) ∷ (Var 1) ∷ [])) ∷ (applied (Con (after 1) 1) ((Var
    12) ∷ (Var 9) ∷ (Var 8) ∷ (Var 7) ∷ [])) ∷ [])) (Var 0)) (Var 13))))) ∷ (Lam (Vec (Var 9) (suc_term (Var 6))) (Lam
    (equation 0 (Vec (Var 10) (suc_term (Var 7))) (applied (Elim 1 0) (Nat ∷ (suc_term (Var 7)) ∷ (Lam (Nat) (Lam
    (equation 0 Nat (suc_term (Var 8)) (Var 0)) (Pi (Vec (Var 12) (suc_term (Var 9))) (Vec (Var 13) (Var 2))))) ∷ (Lam
    (Vec (Var 10) (suc_term (Var 7))) (Var 0)) ∷ (suc_term (Var 7)) ∷ (applied (Elim 1 0) (Nat ∷ (Var 7) ∷ (Lam (Nat) (Lam
    (equation 0 Nat (Var 8) (Var 0)) (equation 0 Nat (suc_term (Var 9)) (suc_term (Var 1))))) ∷ (reflexivity 0 Nat
    (suc_term (Var 7))) ∷ (Var 7) ∷ (reflexivity 0 Nat (Var 7)) ∷ [])) ∷ (applied (Con (after 1) 1) ((Var 10) ∷ (Var 7) ∷ (Var 6)
    ∷ (Var 5) ∷ [])) ∷ [])) (Var 0)) (applied (Elim 1 1) ((Vec (Var 11) (suc_term (Var 8))) ∷ (applied (Con (after 1) 1) ((Var
    11) ∷ (Var 8) ∷ (Var 7) ∷ (Var 6) ∷ [])) ∷ (Lam (Vec (Var 11) (suc_term (Var 8))) (Lam (equation 0 (Vec (Var 12)
    (suc_term (Var 9))) (applied (Con (after 1) 1) ((Var 12) ∷ (Var 9) ∷ (Var 8) ∷ (Var 7) ∷ [])) (Var 0)) (Var 13))) ∷ (Var 7) ∷
    (Var 1) ∷ (Var 0) ∷ [])))) ∷ (Var 8) ∷ (Var 1) ∷ (Var 7) ∷ (Var 0) ∷ [])))) ∷ (Var 0) ∷ []))))))) ∷ (suc_term (Var 1))
    ∷ (Var 0) ∷ (reflexivity 0 Nat (suc_term (Var 1))) ∷ (reflexivity 0 (Vec (Var 2) (suc_term (Var 1))) (Var 0)) ∷
    []))))) ∷ []))
unfolding native.Mathlib.Decide.ℕ_discrete
row_head = refl

abbrev plan_inj : Plan
plan_inj =
    plan_of (sample false) (after 6) (codes "inj") 0 (Nat ∷ Nat ∷ equation 0 Nat (suc_term (Var 1)) (suc_term (Var 0)) ∷ [])
    (equation 0 Nat (Var 2) (Var 1)) None (Is (vector (pattern.Bind ∷ pattern.Dot (Var 0) ∷ pattern.Con 1 0 pattern.nil ∷
    [])) 1 (Side (Sort 0)) ∷ []) (reflexivity 0 Nat (Var 0) ∷ [])

row_inj : translate (sample false) plan_inj ≡ (Ok (draft (codes "inj") (after 6) (codes "Eq.0!case.0" ∷ codes
    "Nat!noconf.suc.0" ∷ []) (Pi (Nat) (Pi (Nat) (Pi (equation 0 Nat (suc_term (Var 1)) (suc_term (Var 0))) (equation 0
    Nat (Var 2) (Var 1))))) (Lam (Nat) (Lam (Nat) (Lam (equation 0 Nat (suc_term (Var 1)) (suc_term (Var 0))) (applied
    (Const (after 6)) (Nat ∷ (suc_term (Var 2)) ∷ (Lam (Nat) (Lam (equation 0 Nat (suc_term (Var 3)) (Var 0)) (Pi (equation 0 Nat
    (Var 1) (suc_term (Var 3))) (Pi (equation 0 (equation 0 Nat (suc_term (Var 5)) (suc_term (Var 4))) (applied (Elim 1 0)
    (Nat ∷ (Var 2) ∷ (Lam (Nat) (Lam (equation 0 Nat (Var 3) (Var 0)) (Pi (equation 0 Nat (suc_term (Var 7)) (Var 4))
    (equation 0 Nat (suc_term (Var 8)) (Var 2))))) ∷ (Lam (equation 0 Nat (suc_term (Var 5)) (Var 2)) (Var 0)) ∷ (suc_term
    (Var 4)) ∷ (Var 0) ∷ (Var 1) ∷ [])) (Var 3)) (equation 0 Nat (Var 6) (Var 5)))))) ∷ (Lam (equation 0 Nat (suc_term
    (Var 2)) (suc_term (Var 1))) (Lam (equation 0 (equation 0 Nat (suc_term (Var 3)) (suc_term (Var 2))) (applied (Elim 1
    0) (Nat ∷ (suc_term (Var 3)) ∷ (Lam (Nat) (Lam (equation 0 Nat (suc_term (Var 4)) (Var 0)) (Pi (equation 0 Nat
    (suc_term (Var 5)) (suc_term (Var 5))) (equation 0 Nat (suc_term (Var 6)) (Var 2))))) ∷ (Lam (equation 0 Nat (suc_term
    (Var 3)) (suc_term (Var 3))) (Var 0)) ∷ (suc_term (Var 2)) ∷ (Var 0) ∷ (reflexivity 0 Nat (suc_term (Var 3))) ∷ []))
    (Var 1)) (applied (Const (after 7)) ((Var 4) ∷ (suc_term (Var 3)) ∷ (Var 1) ∷ (Lam (equation 0 Nat (suc_term (Var 4))
    (suc_term (Var 3))) (Pi (equation 0 (equation 0 Nat (suc_term (Var 5)) (suc_term (Var 4))) (applied (Elim 1 0) (Nat ∷
    (suc_term (Var 5)) ∷ (Lam (Nat) (Lam (equation 0 Nat (suc_term (Var 6)) (Var 0)) (Pi (equation 0 Nat (suc_term (Var
    7)) (suc_term (Var 7))) (equation 0 Nat (suc_term (Var 8)) (Var 2))))) ∷ (Lam (equation 0 Nat (suc_term (Var 5))
    (suc_term (Var 5))) (Var 0)) ∷ (suc_term (Var 4)) ∷ (Var 0) ∷ (reflexivity 0 Nat (suc_term (Var 5))) ∷ [])) (Var 3))
    (equation 0 Nat (Var 6) (Var 5)))) ∷ (Lam (equation 0 Nat (Var 4) (Var 3)) (Lam (equation 0 (equation 0 Nat (suc_term
    (Var 5)) (suc_term (Var 4))) (applied (Elim 1 0) (Nat ∷ (suc_term (Var 5)) ∷ (Lam (Nat) (Lam (equation 0 Nat (suc_term
    (Var 6)) (Var 0)) (Pi (equation 0 Nat (suc_term (Var 7)) (suc_term (Var 7))) (equation 0 Nat (suc_term (Var 8)) (Var
    2))))) ∷ (Lam (equation 0 Nat (suc_term (Var 5)) (suc_term (Var 5))) (Var 0)) ∷ (suc_term (Var 4)) ∷ (applied (Elim 1
    0) (Nat ∷ (Var 5) ∷ (Lam (Nat) (Lam (equation 0 Nat (Var 6) (Var 0)) (equation 0 Nat (suc_term (Var 7)) (suc_term (Var
    1))))) ∷ (reflexivity 0 Nat (suc_term (Var 5))) ∷ (Var 4) ∷ (Var 0) ∷ [])) ∷ (reflexivity 0 Nat (suc_term (Var 5))) ∷
    [])) (Var 3)) (applied (Elim 1 0) (Nat ∷ (Var 6) ∷ (Lam (Nat) (Lam (equation 0 Nat (Var 7) (Var 0)) (Pi (equation 0
    Nat (suc_term (Var 8)) (suc_term (Var 1))) (Pi (equation 0 (equation 0 Nat (suc_term (Var 9)) (suc_term (Var 2)))
    (applied (Elim 1 0) (Nat ∷ (suc_term (Var 9)) ∷ (Lam (Nat) (Lam (equation 0 Nat (suc_term (Var 10)) (Var 0)) (Pi
    (equation 0 Nat (suc_term (Var 11)) (suc_term (Var 11))) (equation 0 Nat (suc_term (Var 12)) (Var 2))))) ∷ (Lam
    (equation 0 Nat (suc_term (Var 9)) (suc_term (Var 9))) (Var 0)) ∷ (suc_term (Var 2)) ∷ (applied (Elim 1 0) (Nat ∷ (Var
    9) ∷ (Lam (Nat) (Lam (equation 0 Nat (Var 10) (Var 0)) (equation 0 Nat (suc_term (Var 11)) (suc_term (Var 1))))) ∷
    (reflexivity 0 Nat (suc_term (Var 9))) ∷ (Var 2) ∷ (Var 1) ∷ [])) ∷ (reflexivity 0 Nat (suc_term (Var 9))) ∷ [])) (Var
    0)) (equation 0 Nat (Var 10) (Var 3)))))) ∷ (Lam (equation 0 Nat (suc_term (Var 6)) (suc_term (Var 6))) (Lam (equation
    0 (equation 0 Nat (suc_term (Var 7)) (suc_term (Var 7))) (applied (Elim 1 0) (Nat ∷ (suc_term (Var 7)) ∷ (Lam (Nat)
    (Lam (equation 0 Nat (suc_term (Var 8)) (Var 0)) (Pi (equation 0 Nat (suc_term (Var 9)) (suc_term (Var 9))) (equation
    0 Nat (suc_term (Var 10)) (Var 2))))) ∷ (Lam (equation 0 Nat (suc_term (Var 7)) (suc_term (Var 7))) (Var 0)) ∷
    (suc_term (Var 7)) ∷ (applied (Elim 1 0) (Nat ∷ (Var 7) ∷ (Lam (Nat) (Lam (equation 0 Nat (Var 8) (Var 0)) (equation 0
    Nat (suc_term (Var 9)) (suc_term (Var 1))))) ∷ (reflexivity 0 Nat (suc_term (Var 7))) ∷ (Var 7) ∷ (reflexivity 0 Nat
    (Var 7)) ∷ [])) ∷ (reflexivity 0 Nat (suc_term (Var 7))) ∷ [])) (Var 0)) (applied (Elim 1 0) ((equation 0 Nat
    (suc_term (Var 8)) (suc_term (Var 8))) ∷ (reflexivity 0 Nat (suc_term (Var 8))) ∷ (Lam (equation 0 Nat (suc_term (Var
    8)) (suc_term (Var 8))) (Lam (equation 0 (equation 0 Nat (suc_term (Var 9)) (suc_term (Var 9))) (reflexivity 0 Nat
    (suc_term (Var 9))) (Var 0)) (equation 0 Nat (Var 10) (Var 10)))) ∷ (reflexivity 0 Nat (Var 8)) ∷ (Var 1) ∷ (Var 0) ∷
    [])))) ∷ (Var 5) ∷ (Var 1) ∷ (Var 4) ∷ (Var 0) ∷ [])))) ∷ (Var 0) ∷ [])))) ∷ (suc_term (Var 1)) ∷ (Var 0) ∷
    (reflexivity 0 Nat (suc_term (Var 1))) ∷ (reflexivity 0 (equation 0 Nat (suc_term (Var 2)) (suc_term (Var 1))) (Var
    0)) ∷ []))))) ∷ []))
unfolding native.Mathlib.Decide.ℕ_discrete
row_inj = refl

abbrev plan_left : Plan
plan_left =
    plan_of (sample false) (after 6) (codes "left") 1 (Sort 0 ∷ Var 0 ∷ Var 1 ∷ equation 0 (Var 2) (Var 1) (Var 0) ∷ [])
    (equation 0 (Var 3) (Var 1) (Var 2)) None (Is (vector (pattern.Bind ∷ pattern.Bind ∷ pattern.Dot (Var 0) ∷ pattern.Con
    1 0 pattern.nil ∷ [])) 2 (Side (Sort 0)) ∷ []) (reflexivity 0 (Var 1) (Var 0) ∷ [])

row_left : translate (sample false) plan_left ≡ (Ok (draft (codes "left") (after 6) (codes "Eq.0!case.1" ∷ []) (Pi (Sort 0)
    (Pi (Var 0) (Pi (Var 1) (Pi (equation 0 (Var 2) (Var 1) (Var 0)) (equation 0 (Var 3) (Var 1) (Var 2)))))) (Lam (Sort
    0) (Lam (Var 0) (Lam (Var 1) (Lam (equation 0 (Var 2) (Var 1) (Var 0)) (applied (Const (after 6)) ((Var 3) ∷ (Var 2) ∷ (Lam
    (Var 3) (Lam (equation 0 (Var 4) (Var 3) (Var 0)) (Pi (equation 0 (Var 5) (Var 1) (Var 3)) (Pi (equation 0 (equation 0
    (Var 6) (Var 5) (Var 4)) (applied (Elim 1 0) ((Var 6) ∷ (Var 2) ∷ (Lam (Var 6) (Lam (equation 0 (Var 7) (Var 3) (Var
    0)) (Pi (equation 0 (Var 8) (Var 7) (Var 4)) (equation 0 (Var 9) (Var 8) (Var 2))))) ∷ (Lam (equation 0 (Var 6) (Var
    5) (Var 2)) (Var 0)) ∷ (Var 4) ∷ (Var 0) ∷ (Var 1) ∷ [])) (Var 3)) (equation 0 (Var 7) (Var 5) (Var 6)))))) ∷ (Lam
    (equation 0 (Var 3) (Var 2) (Var 1)) (Lam (equation 0 (equation 0 (Var 4) (Var 3) (Var 2)) (applied (Elim 1 0) ((Var
    4) ∷ (Var 3) ∷ (Lam (Var 4) (Lam (equation 0 (Var 5) (Var 4) (Var 0)) (Pi (equation 0 (Var 6) (Var 5) (Var 5))
    (equation 0 (Var 7) (Var 6) (Var 2))))) ∷ (Lam (equation 0 (Var 4) (Var 3) (Var 3)) (Var 0)) ∷ (Var 2) ∷ (Var 0) ∷
    (reflexivity 0 (Var 4) (Var 3)) ∷ [])) (Var 1)) (applied (Elim 1 1) ((Var 5) ∷ (Var 4) ∷ (Lam (Var 5) (Lam (equation 0
    (Var 6) (Var 5) (Var 0)) (Pi (equation 0 (Var 7) (Var 6) (Var 1)) (Pi (equation 0 (equation 0 (Var 8) (Var 7) (Var 2))
    (applied (Elim 1 0) ((Var 8) ∷ (Var 7) ∷ (Lam (Var 8) (Lam (equation 0 (Var 9) (Var 8) (Var 0)) (Pi (equation 0 (Var
    10) (Var 9) (Var 9)) (equation 0 (Var 11) (Var 10) (Var 2))))) ∷ (Lam (equation 0 (Var 8) (Var 7) (Var 7)) (Var 0)) ∷
    (Var 2) ∷ (Var 1) ∷ (reflexivity 0 (Var 8) (Var 7)) ∷ [])) (Var 0)) (equation 0 (Var 9) (Var 3) (Var 8)))))) ∷ (Lam
    (equation 0 (Var 5) (Var 4) (Var 4)) (Lam (equation 0 (equation 0 (Var 6) (Var 5) (Var 5)) (applied (Elim 1 0) ((Var
    6) ∷ (Var 5) ∷ (Lam (Var 6) (Lam (equation 0 (Var 7) (Var 6) (Var 0)) (Pi (equation 0 (Var 8) (Var 7) (Var 7))
    (equation 0 (Var 9) (Var 8) (Var 2))))) ∷ (Lam (equation 0 (Var 6) (Var 5) (Var 5)) (Var 0)) ∷ (Var 5) ∷ (reflexivity
    0 (Var 6) (Var 5)) ∷ (reflexivity 0 (Var 6) (Var 5)) ∷ [])) (Var 0)) (applied (Elim 1 1) ((equation 0 (Var 7) (Var 6)
    (Var 6)) ∷ (reflexivity 0 (Var 7) (Var 6)) ∷ (Lam (equation 0 (Var 7) (Var 6) (Var 6)) (Lam (equation 0 (equation 0
    (Var 8) (Var 7) (Var 7)) (reflexivity 0 (Var 8) (Var 7)) (Var 0)) (equation 0 (Var 9) (Var 8) (Var 8)))) ∷
    (reflexivity 0 (Var 7) (Var 6)) ∷ (Var 1) ∷ (Var 0) ∷ [])))) ∷ (Var 3) ∷ (Var 1) ∷ (Var 2) ∷ (Var 0) ∷ [])))) ∷ (Var
    1) ∷ (Var 0) ∷ (reflexivity 0 (Var 3) (Var 1)) ∷ (reflexivity 0 (equation 0 (Var 3) (Var 2) (Var 1)) (Var 0)) ∷
    [])))))) ∷ []))
unfolding native.Mathlib.Decide.ℕ_discrete
row_left = refl
