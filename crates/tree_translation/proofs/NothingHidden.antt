-- Where no variable is hidden, a term that is read over the whole context is the written one.
use Rattle.std.proofs.Common.{◌≡◌, ℕ, ◌+◌, ◌-◌, ◌<◌, inl, inr, List, [], ◌∷◌, ◌++◌, length, get_or, refl, ap, ap₂, ◌∙◌, arith}
use Rattle.theory.specs.Terms.{Term, Var, Sort, Pi, Lam, App, Let, Const, Fam, Con, Elim, AxiomK}
use Rattle.core_terms.specs.CaseTrees.{Step}
use Rattle.core_terms.specs.declared.case_tree.Rule.{Rule}
use Rattle.tele_eq.specs.Environments.{put_under, put_variable}
use Rattle.unification.specs.Occurrences.{without}
use Rattle.unification.proofs.Cases.{below-or_from, first-of_three, second-of_three, third-of_three}
use Rattle.tree_translation.specs.Standings.{at_levels, placed, levels_from}
use Rattle.tree_translation.specs.Hidden.{widened, widened_behind, widened_number, widened_rule, widened_step}
use Rattle.tree_translation.proofs.LevelLists.{length-levels, get-levels, levels-more}

-- each level is its own position
AreOwn : List ℕ → ℕ → Type 0
AreOwn levels n = (length levels ≡ n) × ((j : ℕ) → j < n → get_or levels j 0 ≡ j)

variable-own : (levels : List ℕ) (n under v : ℕ) → AreOwn levels n → put_variable (at_levels levels) (length levels) n under v ≡ Var v
unfolding AreOwn
variable-own levels n under v own = elim (below-or_from v under) [
  | inl lt ↦ first-of_three v under (length levels + under) _ _ _ lt
  | inr le ↦
      let size : length levels ≡ n = own.0 in
      elim (below-or_from v (length levels + under)) [
        | inl lt ↦
            let j = length levels + under - (v + 1) in
            let at : get_or levels j 0 ≡ j = own.1 j (omega arith) in
            second-of_three v under (length levels + under) _ _ _ le lt ∙ ap Var (omega arith)
        | inr beyond ↦ third-of_three v under (length levels + under) _ _ _ le beyond ∙ ap Var (omega arith)
      ]
]

own-put : (levels : List ℕ) (n under : ℕ) (t : Term) → AreOwn levels n → put_under (at_levels levels) (length levels) n under t ≡ t
own-put levels n under (Var v) own = variable-own levels n under v own
own-put levels n under (Sort i) own = refl
own-put levels n under (Pi a b) own = ap₂ Pi (own-put levels n under a own) (own-put levels n (under + 1) b own)
own-put levels n under (Lam a b) own = ap₂ Lam (own-put levels n under a own) (own-put levels n (under + 1) b own)
own-put levels n under (App f a) own = ap₂ App (own-put levels n under f own) (own-put levels n under a own)
own-put levels n under (Let a t b) own =
    let e = own-put levels n under a own in
    let f = own-put levels n under t own in
    let g = own-put levels n (under + 1) b own in
    cc
own-put levels n under (Const c) own = refl
own-put levels n under (Fam f) own = refl
own-put levels n under (Con f c) own = refl
own-put levels n under (Elim f m) own = refl
own-put levels n under (AxiomK i m) own = refl

levels-own : (n : ℕ) → AreOwn (levels_from 0 n) n
unfolding AreOwn
levels-own n = (length-levels 0 n, λ j lt. get-levels 0 n j lt ∙ omega arith)

all-visible : (levels : List ℕ) → without [] levels ≡ levels
all-visible [] = refl
all-visible (j ∷ levels) = ap (λ rest. j ∷ rest) (all-visible levels)

pub widened-own : (n : ℕ) (t : Term) → widened n [] t ≡ t
widened-own n t =
    ap (λ levels. placed levels n t) (all-visible (levels_from 0 n)) ∙ own-put (levels_from 0 n) n 0 t (levels-own n)

pub behind-own : (n k : ℕ) (t : Term) → widened_behind n [] k t ≡ t
behind-own n k t =
    ap (λ levels. placed levels (n + k) t) (ap (λ levels. levels ++ levels_from n k) (all-visible (levels_from 0 n)) ∙ more)
    ∙ own-put (levels_from 0 (n + k)) (n + k) 0 t (levels-own (n + k))
  where
    more : levels_from 0 n ++ levels_from n k ≡ levels_from 0 (n + k)
    more = let e : n ≡ 0 + n = omega arith in ap (λ from. levels_from 0 n ++ levels_from from k) e ∙ levels-more 0 n k

pub number-own : (n x : ℕ) → x < n → widened_number n [] x ≡ x
number-own n x lt =
    ap (λ levels. n - (get_or levels (length levels - (x + 1)) 0 + 1)) (all-visible (levels_from 0 n))
    ∙ number
  where
    number : n - (get_or (levels_from 0 n) (length (levels_from 0 n) - (x + 1)) 0 + 1) ≡ x
    number =
        let long : length (levels_from 0 n) ≡ n = length-levels 0 n in
        let place = length (levels_from 0 n) - (x + 1) in
        let at : get_or (levels_from 0 n) place 0 ≡ 0 + place = get-levels 0 n place (omega arith) in
        omega arith

-- a step whose variable is one of the context
pub step-own : (n : ℕ) (step : Step) → widened_rule n [] step.rule ≡ step.rule → widened_step n [] step ≡ step
step-own n step rule =
    same step.group (widened_rule n [] step.rule) step.rule (widened_behind n [] (step.group - 1) step.ty) step.ty (widened n [] step.left) step.left
    (widened n [] step.right) step.right rule (behind-own n (step.group - 1) step.ty) (widened-own n step.left) (widened-own n step.right)
  where
    same : (group : ℕ) (r r' : Rule) (a a' t t' u u' : Term) → r ≡ r' → a ≡ a' → t ≡ t' → u ≡ u'
        → (let one : Step = record { group = group; rule = r; ty = a; left = t; right = u } in
        let other : Step = record { group = group; rule = r'; ty = a'; left = t'; right = u' } in
        one ≡ other)
    same group r r' a a' t t' u u' e f g h = cc
