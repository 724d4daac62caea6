-- Terms that are seen without the hidden variables, read over the whole context: they are instantiated.
use Rattle.std.proofs.Common.{◌≡◌, ℕ, zero, suc, ◌+◌, ◌-◌, ◌<◌, ◌≤◌, inl, inr, List, [], ◌∷◌, ◌++◌, length, get_or, refl, sym, ap, ap₂, ◌∙◌, arith}
use Rattle.std.proofs.lemmas.List.{length-append}
use Rattle.theory.specs.Terms.{Term, Var}
use Rattle.theory.specs.Substitutions.{inst}
use Rattle.theory.specs.Telescopes.{weaken_by}
use Rattle.theory.proofs.Instances.{inst-same}
use Rattle.tele_eq.proofs.Carrying.{ups_by}
use Rattle.unification.specs.States.{Equation}
use Rattle.unification.proofs.Cases.{below-or_from, first-of_two, second-of_two}
use Rattle.unification.proofs.Puts.{Lifts, stands, put-is_inst}
use Rattle.tree_translation.specs.Standings.{at_levels, levels_from}
use Rattle.tree_translation.specs.Hidden.{visible, widened, widened_behind, widened_number}
use Rattle.tree_translation.specs.Laws.{widened_equations}
use Rattle.tree_translation.proofs.MovedInstances.{equations_under, one-equation}
use Rattle.tree_translation.proofs.LevelLists.{there-get, at-among, each-below, without-among, length-levels, get-levels}

-- ---- levels below a depth

abbrev pub AreBelow : List ℕ → ℕ → Type 0
AreBelow levels n = (j : ℕ) → j < length levels → get_or levels j 0 < n

pub levels-lift : (levels : List ℕ) (n : ℕ) → AreBelow levels n → Lifts (at_levels levels) (length levels) n
levels-lift levels n below by j lt =
    let low : get_or levels j 0 < n = below j lt in
    let e : n + by - (get_or levels j 0 + 1) ≡ n - (get_or levels j 0 + 1) + by = omega arith in
    ap Var e

pub visible-below : (n : ℕ) (hidden : List ℕ) (j : ℕ) → j < length (visible n hidden) → get_or (visible n hidden) j 0 < n
visible-below n hidden j lt =
    let levels = visible n hidden in
    let r = without-among hidden (levels_from 0 n) (get_or levels j 0) (at-among levels j (get_or levels j 0) (there-get levels j 0 lt)) in
    let low : get_or levels j 0 < 0 + n = each-below 0 n (get_or levels j 0) r.0 in
    omega arith

pub visible-are : (n : ℕ) (hidden : List ℕ) → AreBelow (visible n hidden) n
visible-are n hidden = visible-below n hidden

-- ---- widening

-- the terms that are put for the visible variables
abbrev pub widening : (n : ℕ) (hidden : List ℕ) → ℕ → Term
widening n hidden = stands (at_levels (visible n hidden)) (length (visible n hidden)) n

pub widened-is : (n : ℕ) (hidden : List ℕ) (t : Term) → widened n hidden t ≡ inst (widening n hidden) t
widened-is n hidden t =
    put-is_inst (at_levels (visible n hidden)) (length (visible n hidden)) n (levels-lift (visible n hidden) n (visible-are n hidden)) t

pub get-first : (xs ys : List ℕ) (j : ℕ) → j < length xs → get_or (xs ++ ys) j 0 ≡ get_or xs j 0
get-first [] ys j lt = absurd (omega arith)
get-first (x ∷ xs) ys zero lt = refl
get-first (x ∷ xs) ys (suc j) lt = get-first xs ys j (omega arith)

pub get-later : (xs ys : List ℕ) (j : ℕ) → length xs ≤ j → get_or (xs ++ ys) j 0 ≡ get_or ys (j - length xs) 0
get-later [] ys j le = ap (λ k. get_or ys k 0) (omega arith)
get-later (x ∷ xs) ys zero le = absurd (omega arith)
get-later (x ∷ xs) ys (suc j) le =
    let e : j - length xs ≡ suc j - suc (length xs) = omega arith in get-later xs ys j (omega arith) ∙ ap (λ k. get_or ys k 0) e

module _ (n : ℕ) (hidden : List ℕ) (k : ℕ) where
  further : List ℕ
  further = visible n hidden ++ levels_from n k

  long : length further ≡ length (visible n hidden) + k
  unfolding further
  long = length-append (visible n hidden) (levels_from n k) ∙ ap (λ c. length (visible n hidden) + c) (length-levels n k)

  further-at : (j : ℕ) → length (visible n hidden) ≤ j → j < length (visible n hidden) + k → get_or further j 0 ≡ n + (j - length (visible n hidden))
  unfolding further
  further-at j le lt =
      get-later (visible n hidden) (levels_from n k) j le ∙ get-levels n k (j - length (visible n hidden)) (omega arith)

  further-below : AreBelow further (n + k)
  unfolding further
  further-below j lt =
      let total : length further ≡ length (visible n hidden) + k = long in
      elim (below-or_from j (length (visible n hidden))) [
        | inl less ↦
            let low : get_or (visible n hidden) j 0 < n = visible-below n hidden j less in
            let e : get_or further j 0 ≡ get_or (visible n hidden) j 0 = get-first (visible n hidden) (levels_from n k) j less in
            omega arith
        | inr le ↦
            let e : get_or further j 0 ≡ n + (j - length (visible n hidden)) = further-at j le (omega arith) in
            omega arith
      ]

  stands-further : (v : ℕ) → stands (at_levels further) (length further) (n + k) v ≡ ups_by k (widening n hidden) v
  unfolding further
  stands-further v = let total : length further ≡ length (visible n hidden) + k = long in elim (below-or_from v k) [
    | inl lt ↦
        let j = length further - (v + 1) in
        let e : get_or further j 0 ≡ n + (j - length (visible n hidden)) = further-at j (omega arith) (omega arith) in
        let f : n + k - (get_or further j 0 + 1) ≡ v = omega arith in
        first-of_two v (length further) _ _ (omega arith) ∙ (ap Var f ∙ sym (first-of_two v k _ _ lt))
    | inr le ↦ elim (below-or_from v (length further)) [
      | inl lt ↦
          let j = length further - (v + 1) in
          let i = length (visible n hidden) - (v - k + 1) in
          let same : j ≡ i = omega arith in
          let low : get_or (visible n hidden) i 0 < n = visible-below n hidden i (omega arith) in
          let e : get_or further j 0 ≡ get_or (visible n hidden) i 0 =
          ap (λ c. get_or further c 0) same ∙ get-first (visible n hidden) (levels_from n k) i (omega arith) in
          let f : n + k - (get_or further j 0 + 1) ≡ n - (get_or (visible n hidden) i 0 + 1) + k = omega arith in
          first-of_two v (length further) _ _ lt
          ∙ (ap Var f
          ∙ (ap (weaken_by k) (sym (first-of_two (v - k) (length (visible n hidden)) _ _ (omega arith))) ∙ sym (second-of_two v k _ _ le)))
      | inr beyond ↦
          let f : v - length further + (n + k) ≡ v - k - length (visible n hidden) + n + k = omega arith in
          second-of_two v (length further) _ _ beyond
          ∙ (ap Var f
          ∙ (ap (weaken_by k) (sym (second-of_two (v - k) (length (visible n hidden)) _ _ (omega arith))) ∙ sym (second-of_two v k _ _ le)))
    ]
  ]

  -- a term that follows k places
  pub behind-is : (t : Term) → widened_behind n hidden k t ≡ inst (ups_by k (widening n hidden)) t
  unfolding further
  behind-is t = put-is_inst (at_levels further) (length further) (n + k) (levels-lift further (n + k) further-below) t ∙ inst-same t stands-further

-- equations, read over the whole context
pub widened-equations : (n : ℕ) (hidden : List ℕ) (k : ℕ) (es : List Equation) → widened_equations n hidden k es ≡ equations_under (widening n hidden) k es
widened-equations n hidden k [] = refl
widened-equations n hidden k (e ∷ es) =
    ap₂ ◌∷◌
    (one-equation e.place.level (behind-is n hidden k e.place.type) (behind-is n hidden k e.type) (widened-is n hidden e.left) (widened-is n hidden e.right))
    (widened-equations n hidden (k + 1) es)

-- the number of a variable
pub widened-variable : (n : ℕ) (hidden : List ℕ) (x : ℕ) → x < length (visible n hidden) → widening n hidden x ≡ Var (widened_number n hidden x)
widened-variable n hidden x lt = first-of_two x (length (visible n hidden)) _ _ lt
