-- In the order after a solution each type mentions variables before it, or the variable that is solved.
use Rattle.std.proofs.Common.{◌≡◌, ℕ, zero, suc, ◌+◌, ◌-◌, ◌<◌, true, Some, List, [], ◌∷◌, ◌++◌, length, take, slice_get, sym, subst, append_assoc, arith}
use Rattle.std.proofs.lemmas.List.{append-nil}
use Rattle.theory.specs.Terms.{Term}
use Rattle.theory.specs.Telescopes.{Telescope}
use Rattle.theory.proofs.Lists.{some_is}
use Rattle.tele_eq.specs.Dependences.{has_variable}
use Rattle.tele_eq.specs.Items.{term_at}
use Rattle.unification.specs.Occurrences.{lacks, order_without}
use Rattle.unification.proofs.SolvedContexts.{Stands, AreOver, order-over}

-- at each place of the order
pub over-at : (n p : ℕ) (u : Term) (context : Telescope) (done rest : List ℕ) → AreOver n p u context done rest → (k j : ℕ) → slice_get rest k ≡ Some j
    → (i : ℕ) → i < j → has_variable (j - (i + 1)) (term_at context j) ≡ true → Stands n p u (done ++ take k rest) i
over-at n p u context done [] over k j at i low occurs = absurd (grind arith)
over-at n p u context done (l ∷ rest) over zero j at i low occurs =
    let same : l ≡ j = some_is at in
    subst (λ levels. Stands n p u levels i) (sym (append-nil done))
    (over.0 i (omega arith) (subst (λ x. has_variable (x - (i + 1)) (term_at context x) ≡ true) (sym same) occurs))
over-at n p u context done (l ∷ rest) over (suc k) j at i low occurs =
    subst (λ levels. Stands n p u levels i) (append_assoc done (l ∷ []) (take k rest))
    (over-at n p u context (done ++ l ∷ []) rest over.1 k j at i low occurs)

pub stands-at : (context : Telescope) (p : ℕ) (u : Term) → p < length context → lacks context p u ≡ true
    → (k j : ℕ) → slice_get (order_without context p) k ≡ Some j → (i : ℕ) → i < j → has_variable (j - (i + 1)) (term_at context j) ≡ true
    → Stands (length context) p u (take k (order_without context p)) i
stands-at context p u lt free k j at i low occurs =
    over-at (length context) p u context [] (order_without context p) (order-over context p u lt free) k j at i low occurs
