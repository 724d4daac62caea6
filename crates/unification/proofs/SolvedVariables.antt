-- The terms for the variables after a solution: an instantiation, by which the solved variable and the term that solves it become one
-- term.
use Rattle.std.proofs.Common.{◌≡◌, ℕ, ◌+◌, ◌-◌, ◌<◌, ◌≤◌, inl, inr, ◌==◌, false, IsTrue, cond, List, length, ap, sym, ◌∙◌, arith}
use Rattle.std.proofs.lemmas.Bool.{not-true, or_parts}
use Rattle.theory.specs.Terms.{Term}
use Rattle.theory.specs.Terms.Term.{Var, Sort}
use Rattle.theory.specs.Substitutions.{inst}
use Rattle.theory.specs.Telescopes.{Telescope, weaken_by}
use Rattle.theory.proofs.Instances.{inst-same, ren-inst}
use Rattle.core_terms.specs.Levels.{variable}
use Rattle.tele_eq.specs.Dependences.{has_variable}
use Rattle.tele_eq.specs.Environments.{Environment, put}
use Rattle.tele_eq.proofs.Carrying.{where-same, where-other}
use Rattle.tele_eq.specs.Levels.{has_level, place_in}
use Rattle.unification.specs.Occurrences.{dependants, lacks, order_without}
use Rattle.unification.specs.Solving.{reordered, solved}
use Rattle.unification.proofs.Cases.{below-or_from, same-or_not, first-of_two, second-of_two}
use Rattle.unification.proofs.Levels.{place-there}
use Rattle.unification.proofs.Puts.{Lifts, stands, put-is_inst, put-without}
use Rattle.unification.proofs.SolvedContexts.{other-among}

-- each other variable has a place in the order after a solution
other-place : (context : Telescope) (p j : ℕ) → j < length context → (j ≡ p → ⊥)
    → place_in (order_without context p) j < length (order_without context p)
other-place context p j lt other = (place-there (order_without context p) j (other-among context p j lt other)).0

-- ---- the solved variable

-- the variable is not in a term that lacks it
lacks-variable : (context : Telescope) (p : ℕ) (u : Term) → IsTrue (lacks context p u)
    → has_variable (length context - (p + 1)) u ≡ false
lacks-variable context p u h =
    (or_parts (has_variable (length context - (p + 1)) u) (has_level (length context) (dependants context p) u) (not-true _ h)).0

-- the variables in a new order, and a sort for the one without a place
abbrev others : (order : List ℕ) (p : ℕ) → Environment
others order p depth j = cond (j == p) (Sort 0) (reordered order depth j)

variable-lifts : (d by l : ℕ) → l < d → variable (d + by) l ≡ weaken_by by (variable d l)
variable-lifts d by l lt = ap Var (omega arith)

others-lift : (context : Telescope) (p d : ℕ) → length (order_without context p) ≤ d
    → Lifts (others (order_without context p) p) (length context) d
others-lift context p d le by j lt = elim (same-or_not j p) [
  | inl e ↦ where-same j p _ _ e ∙ ap (weaken_by by) (sym (where-same j p _ _ e))
  | inr other ↦
      where-other j p _ _ other
      ∙ (variable-lifts d by (place_in (order_without context p) j) (near other) ∙ ap (weaken_by by) (sym (where-other j p _ _ other)))
]
  where
    near : (j ≡ p → ⊥) → place_in (order_without context p) j < d
    near other = let l = other-place context p j lt other in omega arith

stands-lift : (s : Environment) (size d : ℕ) → Lifts s size d → (by v : ℕ)
    → stands s size (d + by) v ≡ weaken_by by (stands s size d v)
stands-lift s size d lifts by v = elim (below-or_from v size) [
  | inl lt ↦
      first-of_two v size _ _ lt ∙ (lifts by (size - (v + 1)) (omega arith) ∙ ap (weaken_by by) (sym (first-of_two v size _ _ lt)))
  | inr le ↦
      let e : v - size + (d + by) ≡ v - size + d + by = omega arith in
      second-of_two v size _ _ le ∙ (ap Var e ∙ ap (weaken_by by) (sym (second-of_two v size _ _ le)))
]

-- the term that solves variable p, moved after the new context
pub moved-term : (context : Telescope) (p : ℕ) (u : Term) (d : ℕ) → p < length context
    → has_variable (length context - (p + 1)) u ≡ false → length (order_without context p) ≤ d
    → put (reordered (order_without context p)) (length context) d u
    ≡ inst (stands (others (order_without context p) p) (length context) d) u
moved-term context p u d there free le =
    put-without (reordered (order_without context p)) (others (order_without context p) p) (length context) d p there
    (λ depth j other. sym (where-other j p _ _ other)) u free
    ∙ put-is_inst (others (order_without context p) p) (length context) d (others-lift context p d le) u

pub solved-lifts : (context : Telescope) (p : ℕ) (u : Term) → p < length context
    → has_variable (length context - (p + 1)) u ≡ false
    → Lifts (solved (length context) (order_without context p) p u) (length context) (length (order_without context p))
solved-lifts context p u there free by j lt = elim (same-or_not j p) [
  | inl e ↦ where-same j p _ _ e ∙ (own ∙ ap (weaken_by by) (sym (where-same j p _ _ e)))
  | inr other ↦
      let l = other-place context p j lt other in
      where-other j p _ _ other
      ∙ (variable-lifts m by (place_in (order_without context p) j) l ∙ ap (weaken_by by) (sym (where-other j p _ _ other)))
]
  where
    m : ℕ
    m = length (order_without context p)

    s : Environment
    s = others (order_without context p) p

    own : put (reordered (order_without context p)) (length context) (m + by) u
        ≡ weaken_by by (put (reordered (order_without context p)) (length context) m u)
    own =
        moved-term context p u (m + by) there free (omega arith)
        ∙ (inst-same u (stands-lift s (length context) m (others-lift context p m (omega arith)) by)
        ∙ (sym (ren-inst (λ v. v + by) (stands s (length context) m) u)
        ∙ ap (weaken_by by) (sym (moved-term context p u m there free (omega arith)))))

-- the terms for the variables of the context after a solution of the variable with level p
abbrev pub solution_at : Telescope → (p : ℕ) → Term → ℕ → Term
solution_at context p u =
    stands (solved (length context) (order_without context p) p u) (length context) (length (order_without context p))

-- each term is instantiated so
pub solved-is_inst : (context : Telescope) (p : ℕ) (u : Term) → p < length context → IsTrue (lacks context p u) → (t : Term)
    → put (solved (length context) (order_without context p) p u) (length context) (length (order_without context p)) t
    ≡ inst (solution_at context p u) t
solved-is_inst context p u there free t =
    put-is_inst (solved (length context) (order_without context p) p u) (length context) (length (order_without context p))
    (solved-lifts context p u there (lacks-variable context p u free)) t

-- and so the variable and the term become one term
pub solved-agrees : (context : Telescope) (p x : ℕ) (u : Term) → p < length context → x < length context → p ≡ length context - (x + 1)
    → IsTrue (lacks context p u) → inst (solution_at context p u) (Var x) ≡ inst (solution_at context p u) u
solved-agrees context p x u there within level free =
    first-of_two x (length context) _ _ within
    ∙ (where-same (length context - (x + 1)) p _ _ (sym level)
    ∙ (sym (put-without (solved (length context) (order_without context p) p u) (reordered (order_without context p))
    (length context) (length (order_without context p)) p there (λ depth j other. where-other j p _ _ other) u
    (lacks-variable context p u free))
    ∙ solved-is_inst context p u there free u))
