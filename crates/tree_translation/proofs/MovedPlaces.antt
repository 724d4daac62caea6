-- The terms that are put for the variables of a context and for the equations that follow it, where further equations move.
use Rattle.std.proofs.Common.{◌≡◌, ℕ, ◌+◌, ◌-◌, ◌<◌, ◌≤◌, inl, inr, List, sym, ap, ap₂, ◌∙◌, arith}
use Rattle.theory.specs.Terms.{Term, Var, lift}
use Rattle.theory.specs.Telescopes.{weaken_by}
use Rattle.theory.proofs.Instances.{ren-ren, ren-same}
use Rattle.theory.proofs.Shifts.{weaken_by-is_lift}
use Rattle.tele_eq.specs.Items.{term_at}
use Rattle.tele_eq.specs.Environments.{Environment}
use Rattle.unification.specs.Moving.{over_first, behind}
use Rattle.unification.proofs.Cases.{below-or_from, first-of_two, second-of_two, second-of_three, third-of_three}
use Rattle.unification.proofs.Puts.{Lifts, stands}

-- Where equations come from and go: they followed m variables and g equations, and now follow n variables and h equations; `variables`
-- is put for the variables, and `terms` for the g equations.
pub record Place : Type 0 where
  pub m : ℕ
  pub g : ℕ
  pub n : ℕ
  pub h : ℕ
  pub variables : Environment
  pub terms : List Term

abbrev pub environment : Place → Environment
environment p = behind p.m p.g (p.n + p.h) p.variables (over_first (p.n + p.h) p.terms)

abbrev pub context_map : Place → ℕ → Term
context_map p = stands p.variables p.m p.n

pub lifts-at : (p : Place) (i : ℕ) → Lifts p.variables p.m p.n → Lifts (environment p) (p.m + p.g + i) (p.n + p.h + i)
lifts-at p i lifts by j lt = elim (below-or_from j p.m) [
  | inl less ↦
      let d : p.n + p.h + i + by ≡ p.n + (p.h + i + by) = omega arith in
      let d' : p.n + p.h + i ≡ p.n + (p.h + i) = omega arith in
      first-of_two j p.m _ _ less
      ∙ (ap (λ depth. p.variables depth j) d
      ∙ (lifts (p.h + i + by) j less
      ∙ (sym (ren-ren (λ v. v + by) (λ v. v + (p.h + i)) (p.variables p.n j) ∙ ren-same {r = λ v. v + (p.h + i) + by} {q = λ v. v + (p.h + i + by)} (p.variables p.n j) (λ v. omega arith))
      ∙ ap (weaken_by by) (sym (lifts (p.h + i) j less) ∙ (ap (λ depth. p.variables depth j) (sym d') ∙ sym (first-of_two j p.m _ _ less))))))
  | inr le ↦ elim (below-or_from j (p.m + p.g)) [
    | inl less ↦
        let t = term_at p.terms (j - p.m) in
        let d : p.n + p.h + i + by - (p.n + p.h) ≡ i + by = omega arith in
        let d' : p.n + p.h + i - (p.n + p.h) ≡ i = omega arith in
        second-of_three j p.m (p.m + p.g) _ _ _ le less
        ∙ (ap (λ depth. lift t depth 0) d
        ∙ (sym (weaken_by-is_lift (i + by) t)
        ∙ (sym (ren-ren (λ v. v + by) (λ v. v + i) t ∙ ren-same {r = λ v. v + i + by} {q = λ v. v + (i + by)} t (λ v. omega arith))
        ∙ ap (weaken_by by)
        (weaken_by-is_lift i t ∙ (ap (λ depth. lift t depth 0) (sym d') ∙ sym (second-of_three j p.m (p.m + p.g) _ _ _ le less))))))
    | inr beyond ↦
        let l = p.n + p.h + (j - (p.m + p.g)) in
        let e : p.n + p.h + i + by - (l + 1) ≡ p.n + p.h + i - (l + 1) + by = omega arith in
        third-of_three j p.m (p.m + p.g) _ _ _ le beyond ∙ (ap Var e ∙ ap (weaken_by by) (sym (third-of_three j p.m (p.m + p.g) _ _ _ le beyond)))
  ]
]

-- the term for a variable of the context, after i equations more
pub context-at : (p : Place) (i x : ℕ) → Lifts p.variables p.m p.n
    → stands (environment p) (p.m + p.g + i) (p.n + p.h + i) (x + (p.g + i)) ≡ weaken_by (p.h + i) (context_map p x)
context-at p i x lifts = elim (below-or_from x p.m) [
  | inl lt ↦
      let position : p.m + p.g + i - (x + (p.g + i) + 1) ≡ p.m - (x + 1) = omega arith in
      let d : p.n + p.h + i ≡ p.n + (p.h + i) = omega arith in
      first-of_two (x + (p.g + i)) (p.m + p.g + i) _ _ (omega arith)
      ∙ (ap (environment p (p.n + p.h + i)) position
      ∙ (first-of_two (p.m - (x + 1)) p.m _ _ (omega arith)
      ∙ (ap (λ depth. p.variables depth (p.m - (x + 1))) d
      ∙ (lifts (p.h + i) (p.m - (x + 1)) (omega arith) ∙ ap (weaken_by (p.h + i)) (sym (first-of_two x p.m _ _ lt))))))
  | inr le ↦
      let e : x + (p.g + i) - (p.m + p.g + i) + (p.n + p.h + i) ≡ x - p.m + p.n + (p.h + i) = omega arith in
      second-of_two (x + (p.g + i)) (p.m + p.g + i) _ _ (omega arith)
      ∙ (ap Var e ∙ ap (weaken_by (p.h + i)) (sym (second-of_two x p.m _ _ le)))
]

pub near-at : (p : Place) (i v : ℕ) → v < i → stands (environment p) (p.m + p.g + i) (p.n + p.h + i) v ≡ Var v
near-at p i v lt =
    let j = p.m + p.g + i - (v + 1) in
    let e : p.n + p.h + i - (p.n + p.h + (j - (p.m + p.g)) + 1) ≡ v = omega arith in
    first-of_two v (p.m + p.g + i) _ _ (omega arith)
    ∙ (third-of_three j p.m (p.m + p.g) _ _ _ (omega arith) (omega arith) ∙ ap Var e)

pub place-at : (p : Place) (i v : ℕ) → i ≤ v → v < p.g + i
    → stands (environment p) (p.m + p.g + i) (p.n + p.h + i) v ≡ weaken_by i (term_at p.terms (p.g + i - (v + 1)))
place-at p i v le lt =
    let j = p.m + p.g + i - (v + 1) in
    let e : j - p.m ≡ p.g + i - (v + 1) = omega arith in
    let d : p.n + p.h + i - (p.n + p.h) ≡ i = omega arith in
    first-of_two v (p.m + p.g + i) _ _ (omega arith)
    ∙ (second-of_three j p.m (p.m + p.g) _ _ _ (omega arith) (omega arith)
    ∙ (ap₂ (λ k depth. lift (term_at p.terms k) depth 0) e d ∙ sym (weaken_by-is_lift i (term_at p.terms (p.g + i - (v + 1))))))
