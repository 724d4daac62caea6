-- A part that is placed, and then placed again, is placed by the composed levels.
use Rattle.std.proofs.Common.{◌≡◌, ℕ, zero, suc, ◌+◌, ◌-◌, ◌<◌, ◌≤◌, ◌==◌, ◌⊎◌, inl, inr, nat_lt, true, List, [], ◌∷◌, length, map, get_or, refl, sym, ap, ap₂, ◌∙◌, arith}
use Rattle.std.proofs.lemmas.Bool.{and_parts, eqb-true}
use Rattle.std.proofs.lemmas.Bool.Decides.{nat_tests}
use Rattle.std.proofs.lemmas.List.{length-map}
use Rattle.theory.specs.Terms.{Term}
use Rattle.theory.specs.Terms.Term.{Var, Pi, Lam, App, Let}
use Rattle.theory.proofs.Instances.{ap₃}
use Rattle.tele_eq.specs.Environments.{put_under, put_variable}
use Rattle.unification.proofs.Cases.{below-or_from, first-of_two, second-of_two, first-of_three, second-of_three, third-of_three}
use Rattle.tree_translation.specs.Standings.{at_levels, placed}
use Rattle.run_terms.specs.outlines.Composing.{are_below, composed, composed_level, composes}

-- ---- positions of a list

get-mapped : (f : ℕ → ℕ) (own : List ℕ) (j : ℕ) → j < length own → get_or (map f own) j 0 ≡ f (get_or own j 0)
get-mapped f (level ∷ own) zero lt = refl
get-mapped f (level ∷ own) (suc j) lt = get-mapped f own j (omega arith)
get-mapped f [] j lt = absurd (omega arith)

below-first : (a b : ℕ) → nat_lt a b ≡ true → a < b
below-first a b e = grind (arith, nat_tests)

get-below : (end : ℕ) (own : List ℕ) (j : ℕ) → are_below end own ≡ true → j < length own → get_or own j 0 < end
get-below end (level ∷ own) zero below lt = below-first level end (and_parts (nat_lt level end) (are_below end own) below).0
get-below end (level ∷ own) (suc j) below lt =
    get-below end own j (and_parts (nat_lt level end) (are_below end own) below).1 (omega arith)
get-below end [] j below lt = absurd (omega arith)

-- ---- terms

module _ (levels : List ℕ) (depth under : ℕ) (own : List ℕ) (at : ℕ) (deep : at ≡ length levels + under) (below : are_below at own ≡ true) where
  -- a variable of the term's own
  own-variable : (n u w : ℕ) → w ≡ under + u → n < u
      → put_under (at_levels levels) (length levels) depth w (put_variable (at_levels own) (length own) at u n)
      ≡ put_variable (at_levels (composed levels depth own)) (length own) (depth + under) u n
  own-variable n u w e lt =
      ap (put_under (at_levels levels) (length levels) depth w) (first-of_three n u (length own + u) _ _ _ lt)
      ∙ (first-of_three n w (length levels + w) _ _ _ (omega arith) ∙ sym (first-of_three n u (length own + u) _ _ _ lt))

  -- a variable with a level among the outer ones
  outer-level : (u w level : ℕ) → w ≡ under + u → level < length levels
      → put_variable (at_levels levels) (length levels) depth w (at + u - (level + 1))
      ≡ Var (depth + under + u - (composed_level levels depth level + 1))
  outer-level u w level e lt =
      let m : ℕ = at + u - (level + 1) in
      let d : at ≡ length levels + under = deep in
      let position : length levels + w - (m + 1) ≡ level = omega arith in
      let further : depth + w ≡ depth + under + u = omega arith in
      second-of_three m w (length levels + w) _ _ _ (omega arith) (omega arith)
      ∙ (ap₂ (λ k l. Var (k - (get_or levels l 0 + 1))) further position
      ∙ ap (λ l. Var (depth + under + u - (l + 1))) (sym (first-of_two level (length levels) _ _ lt)))

  -- a variable with a level among the binders
  inner-level : (u w level : ℕ) → w ≡ under + u → length levels ≤ level → level < at
      → put_variable (at_levels levels) (length levels) depth w (at + u - (level + 1))
      ≡ Var (depth + under + u - (composed_level levels depth level + 1))
  inner-level u w level e le lt =
      let m : ℕ = at + u - (level + 1) in
      let d : at ≡ length levels + under = deep in
      let same : m ≡ depth + under + u - (depth + (level - length levels) + 1) = omega arith in
      first-of_three m w (length levels + w) _ _ _ (omega arith)
      ∙ (ap Var same ∙ ap (λ l. Var (depth + under + u - (l + 1))) (sym (second-of_two level (length levels) _ _ le)))

  any-level : (u w level : ℕ) → w ≡ under + u → level < at
      → put_variable (at_levels levels) (length levels) depth w (at + u - (level + 1))
      ≡ Var (depth + under + u - (composed_level levels depth level + 1))
  any-level u w level e lt = by (below-or_from level (length levels))
    where
      by : (level < length levels) ⊎ (length levels ≤ level)
          → put_variable (at_levels levels) (length levels) depth w (at + u - (level + 1))
          ≡ Var (depth + under + u - (composed_level levels depth level + 1))
      by (inl less) = outer-level u w level e less
      by (inr le) = inner-level u w level e le lt

  placed-variable : (n u w : ℕ) → w ≡ under + u → u ≤ n → n < length own + u
      → put_under (at_levels levels) (length levels) depth w (put_variable (at_levels own) (length own) at u n)
      ≡ put_variable (at_levels (composed levels depth own)) (length own) (depth + under) u n
  placed-variable n u w e le lt =
      let j : ℕ = length own + u - (n + 1) in
      let low : j < length own = omega arith in
      ap (put_under (at_levels levels) (length levels) depth w) (second-of_three n u (length own + u) _ _ _ le lt)
      ∙ (any-level u w (get_or own j 0) e (get-below at own j below low)
      ∙ (ap (λ l. Var (depth + under + u - (l + 1))) (sym (get-mapped (composed_level levels depth) own j low))
      ∙ sym (second-of_three n u (length own + u) _ _ _ le lt)))

  further-variable : (n u w : ℕ) → w ≡ under + u → u ≤ n → length own + u ≤ n
      → put_under (at_levels levels) (length levels) depth w (put_variable (at_levels own) (length own) at u n)
      ≡ put_variable (at_levels (composed levels depth own)) (length own) (depth + under) u n
  further-variable n u w e le far =
      let m : ℕ = n - length own + at in
      let d : at ≡ length levels + under = deep in
      let same : m - length levels + depth ≡ n - length own + (depth + under) = omega arith in
      ap (put_under (at_levels levels) (length levels) depth w) (third-of_three n u (length own + u) _ _ _ le far)
      ∙ (third-of_three m w (length levels + w) _ _ _ (omega arith) (omega arith)
      ∙ (ap Var same ∙ sym (third-of_three n u (length own + u) _ _ _ le far)))

  any-variable : (n u w : ℕ) → w ≡ under + u
      → put_under (at_levels levels) (length levels) depth w (put_variable (at_levels own) (length own) at u n)
      ≡ put_variable (at_levels (composed levels depth own)) (length own) (depth + under) u n
  any-variable n u w e = by (below-or_from n u) (below-or_from n (length own + u))
    where
      by : (n < u) ⊎ (u ≤ n) → (n < length own + u) ⊎ (length own + u ≤ n)
          → put_under (at_levels levels) (length levels) depth w (put_variable (at_levels own) (length own) at u n)
          ≡ put_variable (at_levels (composed levels depth own)) (length own) (depth + under) u n
      by (inl lt) _ = own-variable n u w e lt
      by (inr le) (inl lt) = placed-variable n u w e le lt
      by (inr le) (inr far) = further-variable n u w e le far

  one-more : (u w : ℕ) → w ≡ under + u → w + 1 ≡ under + (u + 1)
  one-more u w e = omega arith

  twice-under : (t : Term) (u w : ℕ) → w ≡ under + u
      → put_under (at_levels levels) (length levels) depth w (put_under (at_levels own) (length own) at u t)
      ≡ put_under (at_levels (composed levels depth own)) (length own) (depth + under) u t
  twice-under (Var n) u w e = any-variable n u w e
  twice-under (Pi a b) u w e = ap₂ Pi (twice-under a u w e) (twice-under b (u + 1) (w + 1) (one-more u w e))
  twice-under (Lam a b) u w e = ap₂ Lam (twice-under a u w e) (twice-under b (u + 1) (w + 1) (one-more u w e))
  twice-under (App f a) u w e = ap₂ App (twice-under f u w e) (twice-under a u w e)
  twice-under (Let a t b) u w e =
      ap₃ Let (twice-under a u w e) (twice-under t u w e) (twice-under b (u + 1) (w + 1) (one-more u w e))
  twice-under _ u w e = refl

  pub placed-under : (t : Term)
      → put_under (at_levels levels) (length levels) depth under (placed own at t) ≡ placed (composed levels depth own) (depth + under) t
  placed-under t =
      twice-under t 0 under (omega arith)
      ∙ ap (λ size. put_under (at_levels (composed levels depth own)) size (depth + under) 0 t)
      (sym (length-map own (composed_level levels depth)))

-- a term that is placed again is placed once with the composed levels, if the test holds
pub placed-again : (levels : List ℕ) (depth under : ℕ) (own : List ℕ) (at : ℕ) (t : Term) → composes levels under own at ≡ true
    → placed (composed levels depth own) (depth + under) t ≡ put_under (at_levels levels) (length levels) depth under (placed own at t)
placed-again levels depth under own at t e =
    let parts = and_parts (length levels + under == at) (are_below at own) e in
    let deep : at ≡ length levels + under = sym (eqb-true (length levels + under) at parts.0) in
    sym (placed-under levels depth under own at deep parts.1 t)
