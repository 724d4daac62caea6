-- In the order of a function that does not call itself each variable is where it was.
use Rattle.std.proofs.Common.{◌≡◌, ℕ, zero, suc, ◌+◌, ◌-◌, ◌<◌, ◌≤◌, ◌==◌, inl, inr, false, cond, [], ◌∷◌, length, refl, sym, ap, ap₂, ◌∙◌, arith, eq-eqb}
use Rattle.theory.specs.Terms.{Term, Var, Sort, Pi, Lam, App, Let, Const, Fam, Con, Elim, AxiomK}
use Rattle.theory.specs.Telescopes.{Telescope}
use Rattle.core_terms.specs.Levels.{variable}
use Rattle.tele_eq.specs.Environments.{Environment, put_under, put_variable}
use Rattle.tele_eq.specs.Items.{term_at}
use Rattle.tele_eq.specs.Levels.{place_in}
use Rattle.unification.specs.Solving.{reordered, new_context}
use Rattle.unification.proofs.Cases.{below-or_from, first-of_three, second-of_three, third-of_three}
use Rattle.case_trees.proofs.SolvedOrders.{not-equal}
use Rattle.tree_translation.specs.Recursion.{ordered_telescope, ordered_term}
use Rattle.tree_translation.specs.Standings.{levels_from}

-- ---- places

place-level : (at count k : ℕ) → k < count → place_in (levels_from at count) (at + k) ≡ k
place-level at zero k lt = absurd (omega arith)
place-level at (suc count) zero lt =
    ap (λ test. cond test zero (place_in (levels_from (at + 1) count) (at + zero) + 1)) (eq-eqb at (at + zero) (omega arith))
place-level at (suc count) (suc k) lt =
    let e : at + 1 + k ≡ at + suc k = omega arith in
    let inner : place_in (levels_from (at + 1) count) (at + suc k) ≡ k =
    ap (place_in (levels_from (at + 1) count)) (sym e) ∙ place-level (at + 1) count k (omega arith) in
    let other : (at == at + suc k) ≡ false = not-equal at (at + suc k) (λ same. omega arith) in
    ap (λ test. cond test zero (place_in (levels_from (at + 1) count) (at + suc k) + 1)) other ∙ omega arith

-- ---- terms

-- each of the first n variables stands for itself
IsItself : Environment → ℕ → Type 0
IsItself s n = (depth l : ℕ) → l < n → s depth l ≡ variable depth l

variable-itself : (s : Environment) (n under v : ℕ) → IsItself s n → put_variable s n n under v ≡ Var v
unfolding IsItself
variable-itself s n under v own = elim (below-or_from v under) [
  | inl lt ↦ first-of_three v under (n + under) _ _ _ lt
  | inr le ↦ elim (below-or_from v (n + under)) [
    | inl lt ↦ second-of_three v under (n + under) _ _ _ le lt ∙ (own (n + under) (n + under - (v + 1)) (omega arith) ∙ ap Var (omega arith))
    | inr beyond ↦ third-of_three v under (n + under) _ _ _ le beyond ∙ ap Var (omega arith)
  ]
]

put-itself : (s : Environment) (n under : ℕ) (t : Term) → IsItself s n → put_under s n n under t ≡ t
put-itself s n under (Var v) own = variable-itself s n under v own
put-itself s n under (Sort i) own = refl
put-itself s n under (Pi a b) own = ap₂ Pi (put-itself s n under a own) (put-itself s n (under + 1) b own)
put-itself s n under (Lam a b) own = ap₂ Lam (put-itself s n under a own) (put-itself s n (under + 1) b own)
put-itself s n under (App f a) own = ap₂ App (put-itself s n under f own) (put-itself s n under a own)
put-itself s n under (Let a t b) own =
    let e = put-itself s n under a own in
    let f = put-itself s n under t own in
    let g = put-itself s n (under + 1) b own in
    cc
put-itself s n under (Const c) own = refl
put-itself s n under (Fam f) own = refl
put-itself s n under (Con f c) own = refl
put-itself s n under (Elim f m) own = refl
put-itself s n under (AxiomK i m) own = refl

levels-themselves : (count n : ℕ) → n ≤ count → IsItself (reordered (levels_from 0 count)) n
unfolding IsItself
levels-themselves count n le = λ depth l lt.
    (let e : l ≡ 0 + l = omega arith in
    ap (variable depth) (ap (place_in (levels_from 0 count)) e ∙ place-level 0 count l (omega arith)))

pub goal-stays : (count : ℕ) (t : Term) → ordered_term count (levels_from 0 count) t ≡ t
goal-stays count t = put-itself (reordered (levels_from 0 count)) count 0 t (levels-themselves count count (omega arith))

-- ---- telescopes

fewer : (s : Environment) (total from : ℕ) → IsItself s total → from ≤ total → IsItself s from
unfolding IsItself
fewer s total from own le = λ depth l lt. own depth l (omega arith)

-- the types from one on, of a telescope whose terms are those of another from there on
types-stay : (whole : Telescope) (s : Environment) (total from : ℕ) (tele : Telescope) → from + length tele ≤ total → IsItself s total
    → ((k : ℕ) → term_at whole (from + k) ≡ term_at tele k) → new_context whole s from (levels_from from (length tele)) ≡ tele
types-stay whole s total from [] le own same = refl
types-stay whole s total from (a ∷ tele) le own same =
    ap₂ (λ b rest. b ∷ rest) (put-itself s from 0 (term_at whole from) (fewer s total from own (omega arith)) ∙ first)
    (types-stay whole s total (from + 1) tele (omega arith) own next)
  where
    first : term_at whole from ≡ a
    first = let e : from ≡ from + 0 = omega arith in ap (term_at whole) e ∙ same 0

    next : (k : ℕ) → term_at whole (from + 1 + k) ≡ term_at tele k
    next k = let e : from + 1 + k ≡ from + suc k = omega arith in ap (term_at whole) e ∙ same (suc k)

pub telescope-stays : (tele : Telescope) → ordered_telescope tele (levels_from 0 (length tele)) ≡ tele
telescope-stays tele =
    types-stay tele (reordered (levels_from 0 (length tele))) (length tele) 0 tele (omega arith) (levels-themselves (length tele) (length tele) (omega arith))
    (λ k. let e : 0 + k ≡ k = omega arith in ap (term_at tele) e)
