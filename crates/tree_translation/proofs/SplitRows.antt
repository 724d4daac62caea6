-- The terms of single split nodes, and the names that drafts need.
use native.Mathlib.Decide.{ℕ_discrete}
use Rattle.std.proofs.Common.{◌≡◌, ℕ, true, false, Ok, [], ◌∷◌, refl, codes}
use Rattle.theory.specs.Terms.{Term}
use Rattle.theory.specs.Terms.Term.{Var, Pi, Lam, App, Con, Elim, Const, AxiomK}
use Rattle.theory.specs.Telescopes.{applied}
use Rattle.theory.specs.Signatures.{equation, reflexivity, EliminatorAt, Definition}
use Rattle.theory.proofs.AfterPrelude.{after}
use Rattle.core_terms.specs.CaseTrees.{Step}
use Rattle.core_terms.specs.declared.case_tree.Rule.TheVariants.{SolveRight}
use Rattle.tree_translation.specs.Needed.{needed}
use Rattle.tree_translation.specs.Splits.{split_term}
use Rattle.tree_translation.proofs.Samples.{sample, behind, Nat, suc_term, Fin, draft}

abbrev solved_by : (x : ℕ) → Term → Step
solved_by x u = record { group = 1; rule = SolveRight x; ty = Nat; left = u; right = Var x }

-- x b y : the variable b : Fin x is hidden, and x is split; the steps are over x and y, and after them the constructor's argument
split_with_hidden : split_term (sample false) (after 6) 0
    (record { context = Nat ∷ Fin (Var 0) ∷ Nat ∷ []; goal = Nat; hidden = 1 ∷ [] }) 2 Nat
    ((solved_by 1 (Con (after 0) 0) ∷ []) ∷ (solved_by 2 (suc_term (Var 0)) ∷ []) ∷ [])
    (Var 1 ∷ App (Const (after 6)) (Var 0) ∷ [])
    (codes "other" ∷ [])
    ≡ record {
      names = codes "other" ∷ codes "Nat!case.0" ∷ [];
      term =
          Ok
          (applied (Const (after 7))
          (Lam Nat (Pi (equation 0 Nat (Var 0) (Var 3)) Nat)
          ∷ Lam (equation 0 Nat (Con (after 0) 0) (Var 2))
          (applied (Elim 1 0)
          (Nat
          ∷ Con (after 0) 0
          ∷ Lam Nat (Lam (equation 0 Nat (Con (after 0) 0) (Var 0)) (Pi (Fin (Var 1)) Nat))
          ∷ Lam (Fin (Con (after 0) 0)) (Var 2)
          ∷ Var 3
          ∷ Var 0
          ∷ Var 2
          ∷ []))
          ∷ Lam Nat
          (Lam (equation 0 Nat (suc_term (Var 0)) (Var 3))
          (applied (Elim 1 0)
          (Nat
          ∷ suc_term (Var 1)
          ∷ Lam Nat (Lam (equation 0 Nat (suc_term (Var 2)) (Var 0)) (Pi (Fin (Var 1)) Nat))
          ∷ Lam (Fin (suc_term (Var 1))) (App (Const (after 6)) (Var 0))
          ∷ Var 4
          ∷ Var 0
          ∷ Var 3
          ∷ [])))
          ∷ Var 2
          ∷ reflexivity 0 Nat (Var 2)
          ∷ []));
    }
unfolding native.Mathlib.Decide.ℕ_discrete
split_with_hidden = refl

-- a draft that mentions instances and names more than once, some of which are there
needed_in_order : needed (behind (sample true) (EliminatorAt 1 0 ∷ Definition (codes "there") Nat (Con (after 0) 0) ∷ []))
    (draft (codes "t") (after 8) (codes "later" ∷ codes "there" ∷ codes "first" ∷ [])
    (Pi (App (Elim (after 0) 1) (Const (after 10))) (App (AxiomK 0 10) (Const (after 9))))
    (Lam (App (Elim 1 0) (Elim (after 0) 1)) (App (App (Const (after 7)) (Const (after 8))) (Elim 2 0))))
    ≡ codes "Nat!elim.1" ∷ codes "first" ∷ codes "Eq.0!k.10" ∷ codes "later" ∷ codes "Eq.1!elim.0" ∷ []
unfolding native.Mathlib.Decide.ℕ_discrete
needed_in_order = refl
