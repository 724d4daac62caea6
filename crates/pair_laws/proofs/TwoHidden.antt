-- A context that has two below values after some of its variables is seen without them.
use Rattle.std.proofs.Common.{◌≡◌, ◌⊎◌, inl, inr, ℕ, zero, suc, ◌+◌, ◌-◌, ◌<◌, ◌≤◌, ◌==◌, ◌||◌, Bool, true, false, cond, Some, List, [], ◌∷◌, ◌++◌, length, map, take, get_or, slice_get, refl, sym, ap, ap₂, ◌∙◌, subst as transport, arith}
use Rattle.std.proofs.lemmas.Bool.Decides.{nat_tests}
use Rattle.std.proofs.lemmas.List.{length-append, length-map, map-append}
use Rattle.std.proofs.lemmas.Option.{slice_get-get_or}
use Rattle.theory.specs.Substitutions.{ren}
use Rattle.theory.specs.Terms.{Term}
use Rattle.theory.specs.Telescopes.{Telescope}
use Rattle.theory.proofs.Instances.{ren-ren, ren-same}
use Rattle.tele_eq.specs.Items.{term_at}
use Rattle.tele_eq.specs.Levels.{is_among}
use Rattle.unification.specs.Occurrences.{without}
use Rattle.unification.proofs.Cases.{below-or_from, first-of_two, second-of_two}
use Rattle.tree_translation.specs.Conditions.{IsSeen}
use Rattle.tree_translation.specs.Entries.{with_below}
use Rattle.tree_translation.specs.Hidden.{visible}
use Rattle.tree_translation.specs.Standings.{levels_from, placed}
use Rattle.tree_translation.proofs.LevelLists.{get-levels, get-there, length-levels, levels-more, there-below}
use Rattle.tree_translation.proofs.SeenOccurrences.{number_at, placed-is}
use Rattle.tree_translation.proofs.SeenOrders.{without-append}
use Rattle.tree_translation.proofs.SeenTerms.{AreBelow}
use Rattle.entry_laws.proofs.node_roots.RootNodes.{IsGap, after-out, below-seen, gap, gap-is, length-below, visible-gap}

-- ---- levels that are seen of what is seen

-- one out after the other
without-two : (a c : ℕ) (levels : List ℕ) → without (a ∷ c ∷ []) levels ≡ without (a ∷ []) (without (c ∷ []) levels)
without-two a c [] = refl
without-two a c (j ∷ levels) = by (a == j) (c == j) refl (without-two a c levels)
  where
    by : (x y : Bool) → (a == j) ≡ x → without (a ∷ c ∷ []) levels ≡ without (a ∷ []) (without (c ∷ []) levels)
        → cond (x || (y || false)) (without (a ∷ c ∷ []) levels) (j ∷ without (a ∷ c ∷ []) levels)
        ≡ without (a ∷ []) (cond (y || false) (without (c ∷ []) levels) (j ∷ without (c ∷ []) levels))
    by true true e h = h
    by false true e h = h
    by true false e h =
        h ∙ sym (ap (λ b. cond (b || false) (without (a ∷ []) (without (c ∷ []) levels)) (j ∷ without (a ∷ []) (without (c ∷ []) levels))) e)
    by false false e h =
        ap (λ ls. j ∷ ls) h
        ∙ sym (ap (λ b. cond (b || false) (without (a ∷ []) (without (c ∷ []) levels)) (j ∷ without (a ∷ []) (without (c ∷ []) levels))) e)

-- the levels at some levels
abbrev at_all : (levels places : List ℕ) → List ℕ
at_all levels places = map (λ l. get_or levels l 0) places

get-all : (levels xs : List ℕ) (i : ℕ) → i < length xs → get_or (at_all levels xs) i 0 ≡ get_or levels (get_or xs i 0) 0
get-all levels [] i lt = absurd (omega arith)
get-all levels (x ∷ xs) zero lt = refl
get-all levels (x ∷ xs) (suc i) lt = get-all levels xs i (omega arith)

at-first : (levels : List ℕ) (n c from count : ℕ) → IsGap levels n c → from + count ≤ c → at_all levels (levels_from from count) ≡ levels_from from count
at-first levels n c from zero is le = refl
at-first levels n c from (suc count) is le =
    ap₂ ◌∷◌ (is.first from (omega arith)) (at-first levels n c (from + 1) count is (omega arith))

at-further : (levels : List ℕ) (n c from count : ℕ) → IsGap levels n c → c ≤ from → from + count ≤ n → at_all levels (levels_from from count) ≡ levels_from (from + 1) count
at-further levels n c from zero is le room = refl
at-further levels n c from (suc count) is le room =
    ap₂ ◌∷◌ (is.further from le (omega arith)) (at-further levels n c (from + 1) count is (omega arith) (omega arith))

-- both gaps: n is the length of the context with the first of them
both-gaps : (a c n : ℕ) → a < c → c ≤ n → visible (n + 1) (a ∷ c ∷ []) ≡ at_all (gap c (n - c)) (gap a (n - a - 1))
both-gaps a c n lt le =
    let is : IsGap (gap c (n - c)) n c = gap-is c n le in
    let m = c - a - 1 in
    let split : n - a - 1 ≡ m + (n - c) = omega arith in
    let whole : n + 1 ≡ c + suc (n - c) = omega arith in
    let first : c ≡ a + suc m = omega arith in
    let from : a + 1 + m ≡ c = omega arith in
    let zero_a : 0 + a ≡ a = omega arith in
    without-two a c (levels_from 0 (n + 1))
    ∙ (ap (without (a ∷ [])) (visible-gap c (n - c) (n + 1) whole)
    ∙ (without-append (a ∷ []) (levels_from 0 c) (levels_from (c + 1) (n - c))
    ∙ (ap₂ ◌++◌ (visible-gap a m c first) (after-out a (c + 1) (n - c) (omega arith))
    ∙ (assoc (levels_from 0 a) (levels_from (a + 1) m) (levels_from (c + 1) (n - c))
    ∙ sym
    (ap (λ k. at_all (gap c (n - c)) (levels_from 0 a ++ levels_from (a + 1) k)) split
    ∙ (ap (λ ls. at_all (gap c (n - c)) (levels_from 0 a ++ ls)) (sym (levels-more (a + 1) m (n - c)) ∙ ap (λ k. levels_from (a + 1) m ++ levels_from k (n - c)) from)
    ∙ (map-append (λ l. get_or (gap c (n - c)) l 0) (levels_from 0 a) (levels_from (a + 1) m ++ levels_from c (n - c))
    ∙ ap₂ ◌++◌ (at-first (gap c (n - c)) n c 0 a is (omega arith))
    (map-append (λ l. get_or (gap c (n - c)) l 0) (levels_from (a + 1) m) (levels_from c (n - c))
    ∙ ap₂ ◌++◌ (at-first (gap c (n - c)) n c (a + 1) m is (omega arith)) (at-further (gap c (n - c)) n c c (n - c) is (omega arith) (omega arith))))))))))
  where
    assoc : (xs ys zs : List ℕ) → (xs ++ ys) ++ zs ≡ xs ++ (ys ++ zs)
    assoc [] ys zs = refl
    assoc (x ∷ xs) ys zs = ap (λ ls. x ∷ ls) (assoc xs ys zs)

-- ---- terms placed twice

placed-twice : (first second : List ℕ) (q p : ℕ) (t : Term) → AreBelow first q → length second ≡ q → AreBelow second p → AreBelow (at_all second first) p
    → placed second p (placed first q t) ≡ placed (at_all second first) p t
placed-twice first second q p t one long two both =
    ap (placed second p) (placed-is first q t one)
    ∙ (placed-is second p (ren (number_at first q) t) two
    ∙ (ren-ren (number_at second p) (number_at first q) t
    ∙ (ren-same t each ∙ sym (placed-is (at_all second first) p t both))))
  where
    count : length (at_all second first) ≡ length first
    count = length-map first (λ l. get_or second l 0)

    each : (v : ℕ) → number_at second p (number_at first q v) ≡ number_at (at_all second first) p v
    each v = elim (below-or_from v (length first)) [
      | inl lt ↦
          let i = length first - (v + 1) in
          let l = get_or first i 0 in
          let low : l < q = one i (omega arith) in
          let inner : number_at first q v ≡ q - (l + 1) = first-of_two v (length first) (q - (l + 1)) (v - length first + q) lt in
          let back : length second - (q - (l + 1) + 1) ≡ l = omega (arith, long) in
          let outer : number_at second p (q - (l + 1)) ≡ p - (get_or second l 0 + 1) =
          first-of_two (q - (l + 1)) (length second) _ _ (omega (arith, long)) ∙ ap (λ k. p - (get_or second k 0 + 1)) back in
          let place : length (at_all second first) - (v + 1) ≡ i = omega (arith, count) in
          let whole : number_at (at_all second first) p v ≡ p - (get_or second l 0 + 1) =
          first-of_two v (length (at_all second first)) _ _ (omega (arith, count))
          ∙ ap (λ k. p - (k + 1)) (ap (λ k. get_or (at_all second first) k 0) place ∙ get-all second first i (omega arith)) in
          ap (number_at second p) inner ∙ (outer ∙ sym whole)
      | inr le ↦
          let inner : number_at first q v ≡ v - length first + q = second-of_two v (length first) _ (v - length first + q) le in
          let outer : number_at second p (v - length first + q) ≡ v - length first + p =
          second-of_two (v - length first + q) (length second) _ _ (omega (arith, long)) ∙ omega (arith, long) in
          let whole : number_at (at_all second first) p v ≡ v - length first + p =
          second-of_two v (length (at_all second first)) _ _ (omega (arith, count)) ∙ omega (arith, count) in
          ap (number_at second p) inner ∙ (outer ∙ sym whole)
    ]

-- ---- lists

take-all : (f : ℕ → ℕ) (j : ℕ) (xs : List ℕ) → take j (map f xs) ≡ map f (take j xs)
take-all f zero xs = refl
take-all f (suc j) [] = refl
take-all f (suc j) (x ∷ xs) = ap (λ ys. f x ∷ ys) (take-all f j xs)

get-taken : (j : ℕ) (xs : List ℕ) (i : ℕ) → i < j → get_or (take j xs) i 0 ≡ get_or xs i 0
get-taken zero xs i lt = absurd (omega arith)
get-taken (suc j) [] i lt = refl
get-taken (suc j) (x ∷ xs) zero lt = refl
get-taken (suc j) (x ∷ xs) (suc i) lt = get-taken j xs i (omega arith)

length-taken : (j : ℕ) (xs : List ℕ) → j ≤ length xs → length (take j xs) ≡ j
length-taken zero xs le = refl
length-taken (suc j) [] le = absurd (omega arith)
length-taken (suc j) (x ∷ xs) le = ap suc (length-taken j xs (omega arith))

-- the levels before one are below it
gap-below : (levels : List ℕ) (n a j q : ℕ) → IsGap levels n a → j < n → get_or levels j 0 ≡ q → AreBelow (take j levels) q
gap-below levels n a j q is lt e i within =
    let long : length (take j levels) ≡ j = length-taken j levels (omega (arith, is.count)) in
    let small : i < j = omega (arith, long) in
    let same : get_or (take j levels) i 0 ≡ get_or levels i 0 = get-taken j levels i small in
    let low : get_or levels i 0 < q = elim (below-or_from i a) [
      | inl first ↦
          let one : get_or levels i 0 ≡ i = is.first i first in
          elim (below-or_from j a) [
            | inl both ↦ let two : get_or levels j 0 ≡ j = is.first j both in omega arith
            | inr past ↦ let two : get_or levels j 0 ≡ j + 1 = is.further j past lt in omega arith
          ]
      | inr past ↦
          let one : get_or levels i 0 ≡ i + 1 = is.further i past (omega arith) in
          let two : get_or levels j 0 ≡ j + 1 = is.further j (omega arith) lt in
          omega arith
    ] in
    omega arith

at-below : (levels : List ℕ) (n c : ℕ) (first : List ℕ) (q p : ℕ) → IsGap levels n c → q < n → get_or levels q 0 ≡ p → AreBelow first q → AreBelow (at_all levels first) p
at-below levels n c first q p is lt e below i within =
    let long : length (at_all levels first) ≡ length first = length-map first (λ l. get_or levels l 0) in
    let low : get_or first i 0 < q = below i (omega (arith, long)) in
    let same : get_or (at_all levels first) i 0 ≡ get_or levels (get_or first i 0) 0 = get-all levels first i (omega (arith, long)) in
    let taken : get_or (take q levels) (get_or first i 0) 0 ≡ get_or levels (get_or first i 0) 0 = get-taken q levels (get_or first i 0) low in
    let under : get_or (take q levels) (get_or first i 0) 0 < p =
    gap-below levels n c q p is lt e (get_or first i 0) (let l : length (take q levels) ≡ q = length-taken q levels (omega (arith, is.count)) in omega arith) in
    omega arith

at-taken : (levels : List ℕ) (q : ℕ) (first : List ℕ) → AreBelow first q → at_all (take q levels) first ≡ at_all levels first
at-taken levels q [] below = refl
at-taken levels q (l ∷ first) below =
    ap₂ ◌∷◌ (get-taken q levels l (below 0 (omega arith))) (at-taken levels q first (λ i lt. below (suc i) (omega arith)))

-- ---- contexts

there-at : (levels xs : List ℕ) (j p : ℕ) → slice_get (at_all levels xs) j ≡ Some p → (j < length xs) × (get_or levels (get_or xs j 0) 0 ≡ p)
there-at levels xs j p e =
    let within : j < length (at_all levels xs) = there-below (at_all levels xs) j p e in
    let long : length (at_all levels xs) ≡ length xs = length-map xs (λ l. get_or levels l 0) in
    let lt : j < length xs = omega arith in
    (lt, sym (get-all levels xs j lt) ∙ get-there (at_all levels xs) j p 0 e)

pub both-seen : (a c : ℕ) (first second : Term) (tele : Telescope) → a < c → c ≤ length tele + 1
    → IsSeen (with_below c second (with_below a first tele)) (a ∷ c ∷ []) tele
both-seen a c first second tele lt le = record {
  count = counted ∙ ap length (sym levels);
  each = λ j p e.
      transport (λ ls. term_at (with_below c second (with_below a first tele)) p ≡ placed (take j ls) p (term_at tele j)) (sym levels)
      (each j p (ap (λ ls. slice_get ls j) (sym levels) ∙ e));
}
  where
    inner_long : length (with_below a first tele) ≡ length tele + 1
    inner_long = let l = length-below a first tele (omega arith) in omega arith

    within : c ≤ length (with_below a first tele)
    within = omega (arith, inner_long)

    long : length (with_below c second (with_below a first tele)) ≡ length (with_below a first tele) + 1
    long = let l = length-below c second (with_below a first tele) within in omega (arith, within)

    levels : visible (length (with_below c second (with_below a first tele))) (a ∷ c ∷ [])
        ≡ at_all (gap c (length (with_below a first tele) - c)) (gap a (length (with_below a first tele) - a - 1))
    levels = ap (λ k. visible k (a ∷ c ∷ [])) long ∙ both-gaps a c (length (with_below a first tele)) lt within

    counted : length tele ≡ length (at_all (gap c (length (with_below a first tele) - c)) (gap a (length (with_below a first tele) - a - 1)))
    counted =
        let n = length (with_below a first tele) in
        let x = length-append (levels_from 0 a) (levels_from (a + 1) (n - a - 1)) in
        let y = length-levels 0 a in
        let z = length-levels (a + 1) (n - a - 1) in
        let m = length-map (gap a (n - a - 1)) (λ l. get_or (gap c (n - c)) l 0) in
        omega (arith, inner_long)

    each : (j p : ℕ) → slice_get (at_all (gap c (length (with_below a first tele) - c)) (gap a (length (with_below a first tele) - a - 1))) j ≡ Some p
        → term_at (with_below c second (with_below a first tele)) p
        ≡ placed (take j (at_all (gap c (length (with_below a first tele) - c)) (gap a (length (with_below a first tele) - a - 1)))) p (term_at tele j)
    each j p e =
        let n = length (with_below a first tele) in
        let C = with_below a first tele in
        let ones = gap a (n - a - 1) in
        let twos = gap c (n - c) in
        let there = there-at twos ones j p e in
        let q = get_or ones j 0 in
        let few : n - a - 1 ≡ length tele - a = omega (arith, inner_long) in
        let one_is : IsGap ones (length tele) a =
        transport (λ k. IsGap (gap a k) (length tele) a) (sym few) (gap-is a (length tele) (omega arith)) in
        let two_is : IsGap twos n c = gap-is c n within in
        let j_low : j < length tele = omega (arith, there.0, one_is.count) in
        let q_low : q < n = elim (below-or_from j a) [
          | inl small ↦ let x : get_or ones j 0 ≡ j = one_is.first j small in omega (arith, inner_long)
          | inr past ↦ let x : get_or ones j 0 ≡ j + 1 = one_is.further j past j_low in omega (arith, inner_long)
        ] in
        let seen_one = below-seen a first tele (omega arith) in
        let seen_two = below-seen c second C within in
        let vis_one : visible (length C) (a ∷ []) ≡ ones =
        visible-gap a (n - a - 1) n (omega (arith, inner_long)) in
        let vis_two : visible (length (with_below c second C)) (c ∷ []) ≡ twos =
        visible-gap c (n - c) (length (with_below c second C)) (omega (arith, long, within)) in
        let at_one : slice_get (visible (length C) (a ∷ [])) j ≡ Some q =
        ap (λ ls. slice_get ls j) vis_one ∙ slice_get-get_or ones j 0 there.0 in
        let at_two : slice_get (visible (length (with_below c second C)) (c ∷ [])) q ≡ Some p =
        ap (λ ls. slice_get ls q) vis_two ∙ (slice_get-get_or twos q 0 (omega (arith, q_low, two_is.count)) ∙ ap Some there.1) in
        let step_one : term_at C q ≡ placed (take j ones) q (term_at tele j) =
        transport (λ ls. term_at C q ≡ placed (take j ls) q (term_at tele j)) vis_one (seen_one.each j q at_one) in
        let step_two : term_at (with_below c second C) p ≡ placed (take q twos) p (term_at C q) =
        transport (λ ls. term_at (with_below c second C) p ≡ placed (take q ls) p (term_at C q)) vis_two (seen_two.each q p at_two) in
        let below_one : AreBelow (take j ones) q = gap-below ones (length tele) a j q one_is j_low refl in
        let below_two : AreBelow (take q twos) p = gap-below twos n c q p two_is q_low there.1 in
        let below_both : AreBelow (at_all twos (take j ones)) p = at-below twos n c (take j ones) q p two_is q_low there.1 below_one in
        let same : at_all (take q twos) (take j ones) ≡ at_all twos (take j ones) = at-taken twos q (take j ones) below_one in
        step_two
        ∙ (ap (placed (take q twos) p) step_one
        ∙ (placed-twice (take j ones) (take q twos) q p (term_at tele j) below_one (length-taken q twos (omega (arith, q_low, two_is.count))) below_two
        (transport (λ ls. AreBelow ls p) (sym same) below_both)
        ∙ ap (λ ls. placed ls p (term_at tele j)) (same ∙ sym (take-all (λ l. get_or twos l 0) j ones))))
