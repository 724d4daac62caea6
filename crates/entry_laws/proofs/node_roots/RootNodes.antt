-- A context that has the below value after some of its variables is seen without it.
use Rattle.std.proofs.Common.{◌≡◌, ◌⊎◌, ℕ, zero, suc, ◌+◌, ◌-◌, ◌<◌, ◌≤◌, ◌==◌, ◌||◌, inl, inr, true, false, cond, Some, None, List, [], ◌∷◌, ◌++◌, length, take, drop, get_or, slice_get, flat_map, refl, sym, ap, ap₂, ◌∙◌, subst as transport, arith}
use Rattle.std.proofs.lemmas.Bool.Decides.{nat_tests}
use Rattle.std.proofs.lemmas.List.{get_or-append_right, length-append, length-drop, length-take, take-append-le}
use Rattle.std.specs.List.{range_with_len}
use Rattle.theory.specs.Terms.{Term, Sort, lift, lift_var}
use Rattle.theory.specs.Terms.Term.{Var, Pi, Lam, App, Let}
use Rattle.theory.specs.Telescopes.{Telescope}
use Rattle.core_terms.specs.Telescopes.{lift_telescope}
use Rattle.tree_translation.specs.structural_rec.Orders.{unless_among}
use Rattle.tele_eq.specs.Environments.{put_under, put_variable}
use Rattle.tele_eq.specs.Items.{term_at}
use Rattle.tele_eq.specs.Levels.{is_among}
use Rattle.unification.specs.Occurrences.{without}
use Rattle.unification.specs.Solving.{reordered}
use Rattle.unification.proofs.Cases.{below-or_from, first-of_three, second-of_three, third-of_three}
use Rattle.unification.proofs.SolvedContexts.{length-new_context}
use Rattle.tree_translation.specs.Conditions.{IsSeen}
use Rattle.tree_translation.specs.Entries.{ordered_variables, with_below}
use Rattle.tree_translation.specs.Hidden.{visible}
use Rattle.tree_translation.specs.Plans.{own_part}
use Rattle.tree_translation.specs.Recursion.{Recursion, below_type, first_positions, order_of, ordered_telescope}
use Rattle.tree_translation.specs.Standings.{at_levels, levels_from, placed}
use Rattle.tree_translation.proofs.LevelLists.{get-levels, get-there, length-levels, levels-more, there-below}
use Rattle.tree_translation.proofs.NothingHidden.{widened-own}
use Rattle.tree_translation.proofs.SeenOrders.{without-append}
use Rattle.tree_translation.proofs.SeenTerms.{get-first, get-later}
use Rattle.entry_laws.specs.node_roots.Laws.{HelperNodeOver, StepNodeOver}

-- ---- levels

pub none-out : (levels : List ℕ) → without [] levels ≡ levels
none-out [] = refl
none-out (j ∷ levels) = ap (λ rest. j ∷ rest) (none-out levels)

before-out : (a at count : ℕ) → at + count ≤ a → without (a ∷ []) (levels_from at count) ≡ levels_from at count
before-out a at zero le = refl
before-out a at (suc count) le =
    ap (λ b. cond b (without (a ∷ []) (levels_from (at + 1) count)) (at ∷ without (a ∷ []) (levels_from (at + 1) count))) other
    ∙ ap (λ levels. at ∷ levels) (before-out a (at + 1) count (omega arith))
  where
    other : is_among at (a ∷ []) ≡ false
    other = ap (λ b. b || false) (let ne : (a == at) ≡ false = grind (arith, nat_tests) in ne)

pub after-out : (a at count : ℕ) → a < at → without (a ∷ []) (levels_from at count) ≡ levels_from at count
after-out a at zero lt = refl
after-out a at (suc count) lt =
    ap (λ b. cond b (without (a ∷ []) (levels_from (at + 1) count)) (at ∷ without (a ∷ []) (levels_from (at + 1) count))) other
    ∙ ap (λ levels. at ∷ levels) (after-out a (at + 1) count (omega arith))
  where
    other : is_among at (a ∷ []) ≡ false
    other = ap (λ b. b || false) (let ne : (a == at) ≡ false = grind (arith, nat_tests) in ne)

-- all levels but one
abbrev pub gap : (a more : ℕ) → List ℕ
gap a more = levels_from 0 a ++ levels_from (a + 1) more

pub visible-gap : (a more n : ℕ) → n ≡ a + suc more → visible n (a ∷ []) ≡ gap a more
visible-gap a more n e =
    let f : 0 + a ≡ a = omega arith in
    ap (λ n. without (a ∷ []) (levels_from 0 n)) e
    ∙ (ap (without (a ∷ [])) (sym (levels-more 0 a (suc more)) ∙ ap (λ at. levels_from 0 a ++ levels_from at (suc more)) f)
    ∙ (without-append (a ∷ []) (levels_from 0 a) (levels_from a (suc more))
    ∙ ap₂ ◌++◌ (before-out a 0 a (omega arith)) (itself ∙ after-out a (a + 1) more (omega arith))))
  where
    itself : without (a ∷ []) (levels_from a (suc more)) ≡ without (a ∷ []) (levels_from (a + 1) more)
    itself =
        let there : is_among a (a ∷ []) ≡ true = grind (arith, nat_tests) in
        ap (λ b. cond b (without (a ∷ []) (levels_from (a + 1) more)) (a ∷ without (a ∷ []) (levels_from (a + 1) more))) there

-- ---- terms

-- levels of j variables, of which those from number a on are one further in
pub record IsGap (levels : List ℕ) (j a : ℕ) : Type 0 where
  pub count : length levels ≡ j
  pub room : a ≤ j
  pub first : (i : ℕ) → i < a → get_or levels i 0 ≡ i
  pub further : (i : ℕ) → a ≤ i → i < j → get_or levels i 0 ≡ i + 1

variable-gap : (levels : List ℕ) (j a under v : ℕ) → IsGap levels j a
    → put_variable (at_levels levels) (length levels) (j + 1) under v ≡ Var (lift_var v 1 (j - a + under))
variable-gap levels j a under v is = elim (below-or_from v under) [
  | inl lt ↦
      let e : lift_var v 1 (j - a + under) ≡ v = grind (arith, nat_tests) in
      first-of_three v under (length levels + under) _ _ _ lt ∙ ap Var (sym e)
  | inr le ↦
      let size : length levels ≡ j = is.count in
      let room : a ≤ j = is.room in
      elim (below-or_from v (length levels + under)) [
        | inl lt ↦
            let i = length levels + under - (v + 1) in
            elim (below-or_from i a) [
              | inl small ↦
                  let at : get_or levels i 0 ≡ i = is.first i small in
                  let e : lift_var v 1 (j - a + under) ≡ v + 1 = grind (arith, nat_tests) in
                  second-of_three v under (length levels + under) _ _ _ le lt ∙ ap Var (omega arith)
              | inr large ↦
                  let at : get_or levels i 0 ≡ i + 1 = is.further i large (omega arith) in
                  let e : lift_var v 1 (j - a + under) ≡ v = grind (arith, nat_tests) in
                  second-of_three v under (length levels + under) _ _ _ le lt ∙ ap Var (omega arith)
            ]
        | inr beyond ↦
            let e : lift_var v 1 (j - a + under) ≡ v + 1 = grind (arith, nat_tests) in
            third-of_three v under (length levels + under) _ _ _ le beyond ∙ ap Var (omega arith)
      ]
]

put-gap : (levels : List ℕ) (j a under : ℕ) (t : Term) → IsGap levels j a
    → put_under (at_levels levels) (length levels) (j + 1) under t ≡ lift t 1 (j - a + under)
put-gap levels j a under (Var v) is = variable-gap levels j a under v is
put-gap levels j a under (Pi x y) is =
    let e : j - a + (under + 1) ≡ j - a + under + 1 = omega arith in
    ap₂ Pi (put-gap levels j a under x is) (put-gap levels j a (under + 1) y is ∙ ap (lift y 1) e)
put-gap levels j a under (Lam x y) is =
    let e : j - a + (under + 1) ≡ j - a + under + 1 = omega arith in
    ap₂ Lam (put-gap levels j a under x is) (put-gap levels j a (under + 1) y is ∙ ap (lift y 1) e)
put-gap levels j a under (App f x) is = ap₂ App (put-gap levels j a under f is) (put-gap levels j a under x is)
put-gap levels j a under (Let x t y) is =
    let e : j - a + (under + 1) ≡ j - a + under + 1 = omega arith in
    let first = put-gap levels j a under x is in
    let second = put-gap levels j a under t is in
    let third = put-gap levels j a (under + 1) y is ∙ ap (lift y 1) e in
    cc
put-gap levels j a under _ is = refl

-- ---- lists

take-past : (xs ys : List ℕ) (j : ℕ) → length xs ≤ j → take j (xs ++ ys) ≡ xs ++ take (j - length xs) ys
take-past [] ys j le = let e : j ≡ j - 0 = omega arith in ap (λ k. take k ys) e
take-past (x ∷ xs) ys zero le = absurd (omega arith)
take-past (x ∷ xs) ys (suc j) le =
    let e : j - length xs ≡ suc j - suc (length xs) = omega arith in
    ap (λ levels. x ∷ levels) (take-past xs ys j (omega arith) ∙ ap (λ k. xs ++ take k ys) e)

take-levels : (at count i : ℕ) → i ≤ count → take i (levels_from at count) ≡ levels_from at i
take-levels at count zero le = refl
take-levels at zero (suc i) le = absurd (omega arith)
take-levels at (suc count) (suc i) le = ap (λ levels. at ∷ levels) (take-levels (at + 1) count i (omega arith))

-- the first levels with a gap
take-gap : (a more j : ℕ) → a ≤ j → j ≤ a + more → take j (gap a more) ≡ gap a (j - a)
take-gap a more j le room =
    let e : length (levels_from 0 a) ≡ a = length-levels 0 a in
    take-past (levels_from 0 a) (levels_from (a + 1) more) j (omega arith)
    ∙ ap (λ levels. levels_from 0 a ++ levels)
    (ap (λ k. take (j - k) (levels_from (a + 1) more)) e ∙ take-levels (a + 1) more (j - a) (omega arith))

pub gap-is : (a j : ℕ) → a ≤ j → IsGap (gap a (j - a)) j a
gap-is a j le = record {
  count =
      (let l = length-append (levels_from 0 a) (levels_from (a + 1) (j - a)) in
      let x = length-levels 0 a in
      let y = length-levels (a + 1) (j - a) in
      omega arith);
  room = le;
  first = λ i lt.
      (let x : length (levels_from 0 a) ≡ a = length-levels 0 a in
      get-first (levels_from 0 a) (levels_from (a + 1) (j - a)) i (omega arith) ∙ (get-levels 0 a i lt ∙ omega arith));
  further = λ i least lt.
      (let x : length (levels_from 0 a) ≡ a = length-levels 0 a in
      get-later (levels_from 0 a) (levels_from (a + 1) (j - a)) i (omega arith)
      ∙ (ap (λ k. get_or (levels_from (a + 1) (j - a)) (i - k) 0) x ∙ (get-levels (a + 1) (j - a) (i - a) (omega arith) ∙ omega arith)));
}

take-at : (a : ℕ) (tele others : Telescope) (j : ℕ) → j < a → a ≤ length tele → term_at (take a tele ++ others) j ≡ term_at tele j
take-at zero tele others j lt le = absurd (omega arith)
take-at (suc a) [] others j lt le = absurd (omega arith)
take-at (suc a) (x ∷ tele) others zero lt le = refl
take-at (suc a) (x ∷ tele) others (suc j) lt le = take-at a tele others j (omega arith) (omega arith)

drop-at : (a : ℕ) (tele : Telescope) (i : ℕ) → term_at (drop a tele) i ≡ term_at tele (a + i)
drop-at zero tele i = let e : i ≡ 0 + i = omega arith in ap (term_at tele) e
drop-at (suc a) [] i = nothing i
  where
    nothing : (k : ℕ) → term_at [] k ≡ term_at [] (suc a + k)
    nothing k = refl
drop-at (suc a) (x ∷ tele) i = let e : suc (a + i) ≡ suc a + i = omega arith in drop-at a tele i ∙ ap (term_at (x ∷ tele)) e

lift-at : (tele : Telescope) (from i : ℕ) → i < length tele → term_at (lift_telescope tele 1 from) i ≡ lift (term_at tele i) 1 (from + i)
lift-at [] from i lt = absurd (omega arith)
lift-at (x ∷ tele) from zero lt = let e : from ≡ from + 0 = omega arith in ap (lift x 1) e
lift-at (x ∷ tele) from (suc i) lt =
    let e : from + 1 + i ≡ from + suc i = omega arith in lift-at tele (from + 1) i (omega arith) ∙ ap (lift (term_at tele i) 1) e

length-lift : (tele : Telescope) (from : ℕ) → length (lift_telescope tele 1 from) ≡ length tele
length-lift [] from = refl
length-lift (x ∷ tele) from = ap suc (length-lift tele (from + 1))

-- ---- contexts

pub length-below : (a : ℕ) (below : Term) (tele : Telescope) → a ≤ length tele → length (with_below a below tele) ≡ a + suc (length tele - a)
length-below a below tele le =
    let others = lift_telescope (drop a tele) 1 0 in
    let x = length-append (take a tele) (below ∷ others) in
    let y = length-take a tele in
    let z = length-lift (drop a tele) 0 in
    let d = length-drop a tele in
    omega arith

each-gap : (a : ℕ) (below : Term) (tele : Telescope) → a ≤ length tele → (j p : ℕ) → slice_get (gap a (length tele - a)) j ≡ Some p
    → term_at (with_below a below tele) p ≡ placed (take j (gap a (length tele - a))) p (term_at tele j)
each-gap a below tele le j p e = by (below-or_from j a)
  where
    more : ℕ
    more = length tele - a

    at : get_or (gap a (length tele - a)) j 0 ≡ p
    at = get-there (gap a more) j p 0 e

    inside : j < length tele
    inside =
        let lt : j < length (gap a (length tele - a)) = there-below (gap a more) j p e in
        let x = length-append (levels_from 0 a) (levels_from (a + 1) (length tele - a)) in
        let y = length-levels 0 a in
        let z = length-levels (a + 1) (length tele - a) in
        omega arith

    by : (j < a) ⊎ (a ≤ j) → term_at (with_below a below tele) p ≡ placed (take j (gap a (length tele - a))) p (term_at tele j)
    by (inl lt) =
        let x : length (levels_from 0 a) ≡ a = length-levels 0 a in
        let level : get_or (levels_from 0 a) j 0 ≡ 0 + j = get-levels 0 a j lt in
        let first : get_or (gap a (length tele - a)) j 0 ≡ get_or (levels_from 0 a) j 0 =
        get-first (levels_from 0 a) (levels_from (a + 1) (length tele - a)) j (omega arith) in
        let here : get_or (gap a (length tele - a)) j 0 ≡ p = at in
        let same : p ≡ j = omega arith in
        let taken : take j (gap a (length tele - a)) ≡ levels_from 0 j =
        take-append-le j (levels_from 0 a) (levels_from (a + 1) (length tele - a)) (omega arith) ∙ take-levels 0 a j (omega arith) in
        ap (term_at (with_below a below tele)) same
        ∙ (take-at a tele (below ∷ lift_telescope (drop a tele) 1 0) j lt le
        ∙ (sym (widened-own j (term_at tele j))
        ∙ ap₂ (λ levels p. placed levels p (term_at tele j)) (none-out (levels_from 0 j) ∙ sym taken) (sym same)))
    by (inr least) =
        let lt : j < length tele = inside in
        let x : length (levels_from 0 a) ≡ a = length-levels 0 a in
        let later : get_or (gap a (length tele - a)) j 0 ≡ get_or (levels_from (a + 1) (length tele - a)) (j - length (levels_from 0 a)) 0 =
        get-later (levels_from 0 a) (levels_from (a + 1) (length tele - a)) j (omega arith) in
        let level : get_or (levels_from (a + 1) (length tele - a)) (j - length (levels_from 0 a)) 0 ≡ a + 1 + (j - length (levels_from 0 a)) =
        get-levels (a + 1) (length tele - a) (j - length (levels_from 0 a)) (omega arith) in
        let here : get_or (gap a (length tele - a)) j 0 ≡ p = at in
        let same : p ≡ j + 1 = omega arith in
        let d = length-drop a tele in
        let t = length-take a tele in
        let long : length (take a tele) ≡ a = omega arith in
        let after : p - a ≡ suc (j - a) = omega arith in
        let whole : a + (j - a) ≡ j = omega arith in
        let zero_more : 0 + (j - a) ≡ j - a + 0 = omega arith in
        get_or-append_right (take a tele) (below ∷ lift_telescope (drop a tele) 1 0) a p (Sort 0) long (omega arith)
        ∙ (ap (term_at (below ∷ lift_telescope (drop a tele) 1 0)) after
        ∙ (lift-at (drop a tele) 0 (j - a) (omega arith)
        ∙ (ap₂ (λ t k. lift t 1 k) (drop-at a tele (j - a) ∙ ap (term_at tele) whole) zero_more
        ∙ (sym (put-gap (gap a (j - a)) j a 0 (term_at tele j) (gap-is a j least))
        ∙ ap₂ (λ levels p. placed levels p (term_at tele j)) (sym (take-gap a more j least (omega arith))) (sym same)))))

pub below-seen : (a : ℕ) (below : Term) (tele : Telescope) → a ≤ length tele → IsSeen (with_below a below tele) (a ∷ []) tele
below-seen a below tele le = record {
  count =
      (let x = length-append (levels_from 0 a) (levels_from (a + 1) (length tele - a)) in
      let y = length-levels 0 a in
      let z = length-levels (a + 1) (length tele - a) in
      let e : length tele ≡ length (gap a (length tele - a)) = omega arith in
      e ∙ ap length (sym same));
  each = λ j p e.
      transport (λ levels. term_at (with_below a below tele) p ≡ placed (take j levels) p (term_at tele j)) (sym same)
      (each-gap a below tele le j p (ap (λ levels. slice_get levels j) (sym same) ∙ e));
}
  where
    same : visible (length (with_below a below tele)) (a ∷ []) ≡ gap a (length tele - a)
    same = visible-gap a (length tele - a) (length (with_below a below tele)) (length-below a below tele le)

-- nothing is hidden
pub own-seen : (tele : Telescope) → IsSeen tele [] tele
own-seen tele = record {
  count = sym (ap length (none-out (levels_from 0 (length tele))) ∙ length-levels 0 (length tele));
  each = λ j p e.
      (let n = length tele in
      let f = ap (λ levels. slice_get levels j) (sym (none-out (levels_from 0 n))) ∙ e in
      let at : get_or (levels_from 0 n) j 0 ≡ p = get-there (levels_from 0 n) j p 0 f in
      let long = length-levels 0 n in
      let below : j < length (levels_from 0 n) = there-below (levels_from 0 n) j p f in
      let lt : j < n = omega arith in
      let level : get_or (levels_from 0 n) j 0 ≡ 0 + j = get-levels 0 n j lt in
      let same : p ≡ j = omega arith in
      ap (term_at tele) same
      ∙ (sym (widened-own j (term_at tele j))
      ∙ ap₂ (λ levels p. placed levels p (term_at tele j))
      (none-out (levels_from 0 j) ∙ (sym (take-levels 0 n j (omega arith)) ∙ ap (take j) (sym (none-out (levels_from 0 n))))) (sym same)));
}

-- the below value after all variables
at-end : (tele : Telescope) (below : Term) → with_below (length tele) below tele ≡ tele ++ below ∷ []
at-end [] below = refl
at-end (x ∷ tele) below = ap (λ rest. x ∷ rest) (at-end tele below)

pub helper_node-over : HelperNodeOver
helper_node-over plan None part number = record { is_seen = own-seen part.tele; hidden = tt }
helper_node-over plan (Some r) part number =
    let below = below_type number plan r part.terms in
    let n = length part.tele in
    record {
      is_seen = transport (λ context. IsSeen context (n ∷ []) part.tele) (at-end part.tele below) (below-seen n below part.tele (omega arith));
      hidden = (let l = length-append part.tele (below ∷ []) in omega arith, tt);
    }

-- the first positions are among all of them
pub first-within : (count : ℕ) (r : Recursion) → length (first_positions r) ≤ length (order_of count (Some r))
first-within count r =
    let first = first_positions r in
    let l = length-append first (flat_map (unless_among first) (range_with_len 0 count)) in
    omega arith

pub step_node-over : StepNodeOver
step_node-over plan r number =
    let tele = (own_part plan).tele in
    let order = order_of (length tele) (Some r) in
    let context = ordered_telescope tele order in
    let first = length (first_positions r) in
    let below = below_type number plan r (ordered_variables order first) in
    let long : length context ≡ length order = length-new_context tele (reordered order) 0 order in
    let within : first ≤ length order = first-within (length tele) r in
    let le : first ≤ length context = omega arith in
    record {
      is_seen = below-seen first below context le;
      hidden = (let l = length-below first below context le in omega arith, tt);
    }
