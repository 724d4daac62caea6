-- The visible part of a solution in the whole context is the solution in the visible part.
use Rattle.std.proofs.Common.{◌≡◌, ℕ, zero, suc, ◌+◌, ◌-◌, ◌<◌, ◌≤◌, ◌⊎◌, inl, inr, IsTrue, Bool, true, false, Some, List, [], ◌∷◌, ◌++◌, length, map, take, drop, get_or, slice_get, refl, sym, ap, ap₂, ◌∙◌, subst, arith}
use Rattle.std.proofs.lemmas.Bool.{true≢false, not-true, or_parts}
use Rattle.std.proofs.lemmas.List.{length-append, length-take-le, take-append-drop}
use Rattle.theory.specs.Terms.{Term, Var}
use Rattle.theory.specs.Substitutions.{inst}
use Rattle.theory.specs.Telescopes.{Telescope}
use Rattle.tele_eq.specs.Dependences.{has_variable}
use Rattle.tele_eq.specs.Environments.{Environment, put, put_under}
use Rattle.tele_eq.specs.Items.{term_at}
use Rattle.tele_eq.specs.Levels.{is_among, has_level, place_in}
use Rattle.tele_eq.proofs.Carrying.{IsFrom, where-same, where-other}
use Rattle.unification.specs.Occurrences.{dependants, lacks, order_without}
use Rattle.unification.specs.Solving.{reordered, solved, new_context}
use Rattle.unification.proofs.Cases.{below-or_from, same-or_not, first-of_two, second-of_two, second-of_three}
use Rattle.unification.proofs.Levels.{place-before, place-there, among-left}
use Rattle.unification.proofs.Puts.{stands}
use Rattle.unification.proofs.SolvedContexts.{Stands, IsOver, other-among, length-new_context}
use Rattle.case_trees.proofs.SolvedOrders.{order-own}
use Rattle.tree_translation.specs.Standings.{at_levels, placed, levels_from}
use Rattle.tree_translation.specs.Hidden.{visible, widened}
use Rattle.tree_translation.specs.Conditions.{IsSeen}
use Rattle.tree_translation.proofs.LevelLists.{there-get, there-below, get-there, from-each, from-without, climbs, length-levels}
use Rattle.tree_translation.proofs.OrderTypes.{stands-at}
use Rattle.tree_translation.proofs.SeenTerms.{AreBelow, widening, widened-is, visible-below, visible-are, get-first}
use Rattle.tree_translation.proofs.SeenOccurrences.{position-of}
use Rattle.tree_translation.proofs.SeenSquares.{IsSquare, square, binders}
use Rattle.tree_translation.proofs.SeenOrders.{IsSameVariable, rising, same-level, whole-below, new-count, new-source, new-place}

pub get-take : (xs : List ℕ) (n j : ℕ) → j < n → get_or (take n xs) j 0 ≡ get_or xs j 0
get-take xs zero j lt = absurd (omega arith)
get-take [] (suc n) j lt = refl
get-take (x ∷ xs) (suc n) zero lt = refl
get-take (x ∷ xs) (suc n) (suc j) lt = get-take xs n j (omega arith)

-- the type at a place of a new context
pub new-at : (context : Telescope) (s : Environment) (depth : ℕ) (levels : List ℕ) (k : ℕ) → k < length levels
    → term_at (new_context context s depth levels) k ≡ put s (get_or levels k 0) (depth + k) (term_at context (get_or levels k 0))
new-at context s depth [] k lt = absurd (omega arith)
new-at context s depth (j ∷ levels) zero lt = ap (λ d. put s j d (term_at context j)) (omega arith)
new-at context s depth (j ∷ levels) (suc k) lt =
    let e : depth + 1 + k ≡ depth + suc k = omega arith in
    new-at context s (depth + 1) levels k (omega arith) ∙ ap (λ d. put s (get_or levels k 0) d (term_at context (get_or levels k 0))) e

-- a variable at place K, which has level L there
pub place-square : (W' : List ℕ) (q under K L : ℕ) → K < length W' → get_or W' K 0 ≡ L
    → Var (q + under - (L + 1)) ≡ put_under (at_levels W') (length W') q under (Var (length W' + under - (K + 1)))
place-square W' q under K L lt e =
    let w = length W' + under - (K + 1) in
    let back : length W' + under - (w + 1) ≡ K = omega arith in
    ap (λ l. Var (q + under - (l + 1))) (sym (ap (λ i. get_or W' i 0) back ∙ e))
    ∙ sym (second-of_three w under (length W' + under) _ _ _ (omega arith) (omega arith))

module _ (context : Telescope) (hid : List ℕ) (others : Telescope) (p' p : ℕ) (v : IsSameVariable context hid others p' p) (u : Term) (free : IsTrue (lacks others p u)) where
  abbrev V : List ℕ
  V = visible (length context) hid

  abbrev order : List ℕ
  order = order_without others p

  abbrev order' : List ℕ
  order' = order_without context p'

  abbrev hid' : List ℕ
  hid' = map (place_in (order_without context p')) hid

  abbrev V' : List ℕ
  V' = visible (length (order_without context p')) (map (place_in (order_without context p')) hid)

  abbrev u' : Term
  u' = widened (length context) hid u

  many : length V ≡ length others
  many = sym v.is_seen.count

  climbing : IsFrom 0 V'
  climbing = from-without 0 hid' (levels_from 0 (length order')) (from-each 0 (length order'))

  -- the place of a variable of the visible part, and the level there
  there : (j : ℕ) → is_among j order ≡ true → (place_in order j < length order) × (get_or V' (place_in order j) 0 ≡ place_in order' (get_or V j 0))
  there j h =
      let r = place-there order j h in
      (r.0, new-place context hid others p' p v (place_in order j) r.0 ∙ ap (λ i. place_in order' (get_or V i 0)) (get-there order (place_in order j) j 0 r.1))

  -- the term that solves, over levels W' that have those of the first k places
  moved-solution : (k q : ℕ) (W' : List ℕ) → k ≤ length W' → k ≤ length order → ((i : ℕ) → i < k → get_or W' i 0 ≡ get_or V' i 0)
      → IsOver (length others) (take k order) u
      → put (reordered order') (length context) q u' ≡ placed W' q (put (reordered order) (length others) (length W') u)
  moved-solution k q W' le le' same over =
      square V W' (length context) q (reordered order') (reordered order) u (record {
        below = visible-are (length context) hid;
        each = λ i lt occurs under. each i (omega (arith, many)) (subst (λ n. has_variable (n - (i + 1)) u ≡ true) many occurs) under;
      })
      ∙ ap (λ n. placed W' q (put (reordered order) n (length W') u)) many
    where
      each : (i : ℕ) → i < length others → has_variable (length others - (i + 1)) u ≡ true → (under : ℕ)
          → reordered order' (q + under) (get_or V i 0) ≡ put_under (at_levels W') (length W') q under (reordered order (length W' + under) i)
      each i lt occurs under =
          let among : is_among i (take k order) ≡ true = over i lt occurs in
          let split : take k order ++ drop k order ≡ order = take-append-drop k order in
          let near : place_in order i < k =
          subst (λ n. place_in order i < n) (length-take-le k order le')
          (subst (λ levels. place_in levels i < length (take k order)) split (place-before (take k order) (drop k order) i among)) in
          let in_order : is_among i order ≡ true = subst (λ levels. is_among i levels ≡ true) split (among-left i (take k order) (drop k order) among) in
          place-square W' q under (place_in order i) (place_in order' (get_or V i 0)) (omega arith)
          (same (place_in order i) near ∙ (there i in_order).1)

  -- the variable that is solved is not in the term, and neither is that of the whole context
  pub lacks-it : has_variable (length others - (p + 1)) u ≡ false
  lacks-it = (or_parts (has_variable (length others - (p + 1)) u) (has_level (length others) (dependants others p) u) (not-true _ free)).0

  pub lacks-there : has_variable (length context - (p' + 1)) (widened (length context) hid u) ≡ false
  lacks-there = by (has_variable (length context - (p' + 1)) u') refl
    where
      by : (t : Bool) → has_variable (length context - (p' + 1)) u' ≡ t → t ≡ false
      by true h =
          let r = position-of V (length context) p' u (visible-are (length context) hid) (whole-below context hid others p' p v) h in
          let own : r.j ≡ p = same-level context hid others p' p v r.j p (omega (arith, r.within, many)) v.inside (r.level ∙ sym v.level) in
          absurd (true≢false
          (sym (ap₂ (λ n j. has_variable (n - (j + 1)) u) (sym many) (sym own) ∙ r.occurs) ∙ lacks-it))
      by false h = refl

  -- a term of the context that lacks the solved variable is over all others
  over-all : IsOver (length others) (take (length order) order) u
  over-all i lt occurs =
      subst (λ levels. is_among i levels ≡ true) (sym (take-all order))
      (other-among others p i lt (λ same. true≢false (sym (subst (λ j. has_variable (length others - (j + 1)) u ≡ true) same occurs) ∙ lacks-it)))
    where
      take-all : (xs : List ℕ) → take (length xs) xs ≡ xs
      take-all [] = refl
      take-all (x ∷ xs) = ap (λ rest. x ∷ rest) (take-all xs)

  pub moved-all : put (reordered (order_without context p')) (length context) (length (order_without context p')) (widened (length context) hid u)
      ≡ inst (widening (length (order_without context p')) (map (place_in (order_without context p')) hid))
      (put (reordered (order_without others p)) (length others) (length (order_without others p)) u)
  moved-all =
      let counted : length V' ≡ length order = new-count context hid others p' p v in
      moved-solution (length order) (length order') V' (omega arith) (omega arith) (λ i low. refl) over-all
      ∙ (ap (λ n. placed V' (length order') (put (reordered order) (length others) n u)) counted
      ∙ widened-is (length order') hid' (put (reordered order) (length others) (length order) u))

  -- ---- the context

  -- a variable that the type at a place mentions
  type-square : (k j q : ℕ) → k < length order → slice_get order k ≡ Some j → q ≡ get_or V' k 0 → j < length others → (a : Term) → a ≡ term_at others j
      → IsSquare (take j V) (take k V') (get_or V j 0) q (solved (length context) order' p' u') (solved (length others) order p u) a
  type-square k j q lt at level within a type = record {
    below = λ i less.
        let l : length (take j V) ≡ j = long in
        let low : get_or V i 0 < get_or V j 0 = climbs 0 V i j (rising context hid others p' p v) (omega arith) (omega (arith, many)) in
        subst (λ x. x < get_or V j 0) (sym (get-take V j i (omega arith))) low;
    each = λ i less occurs under.
        let l : length (take j V) ≡ j = long in
        subst (λ x. solved (length context) order' p' u' (q + under) x ≡ put_under (at_levels (take k V')) (length (take k V')) q under (solved (length others) order p u (length (take k V') + under) i))
        (sym (get-take V j i (omega arith)))
        (by i (omega arith) under
        (stands-at others p u v.inside free k j at i (omega arith)
        (subst (λ x. has_variable (j - (i + 1)) x ≡ true) type (subst (λ n. has_variable (n - (i + 1)) a ≡ true) l occurs))));
  }
    where
      long : length (take j V) ≡ j
      long = length-take-le j V (omega (arith, many))

      long' : length (take k V') ≡ k
      long' = length-take-le k V' (omega (arith, new-count context hid others p' p v))

      below' : AreBelow (take k V') q
      below' i less =
          let l : length (take k V') ≡ k = long' in
          let low : get_or V' i 0 < get_or V' k 0 = climbs 0 V' i k climbing (omega arith) (omega (arith, new-count context hid others p' p v)) in
          let e : get_or (take k V') i 0 ≡ get_or V' i 0 = get-take V' k i (omega arith) in
          omega arith

      by : (i : ℕ) → i < j → (under : ℕ) → Stands (length others) p u (take k order) i
          → solved (length context) order' p' u' (q + under) (get_or V i 0)
          ≡ put_under (at_levels (take k V')) (length (take k V')) q under (solved (length others) order p u (length (take k V') + under) i)
      by i less under (inl (other, among)) =
          let split : take k order ++ drop k order ≡ order = take-append-drop k order in
          let near : place_in order i < k =
          subst (λ n. place_in order i < n) (length-take-le k order (omega arith))
          (subst (λ levels. place_in levels i < length (take k order)) split (place-before (take k order) (drop k order) i among)) in
          let in_order : is_among i order ≡ true = subst (λ levels. is_among i levels ≡ true) split (among-left i (take k order) (drop k order) among) in
          where-other (get_or V i 0) p' (put (reordered order') (length context) (q + under) u') (reordered order' (q + under) (get_or V i 0))
          (λ e. other (same-level context hid others p' p v i p (omega arith) v.inside (e ∙ sym v.level)))
          ∙ (place-square (take k V') q under (place_in order i) (place_in order' (get_or V i 0)) (omega (arith, long'))
          (get-take V' k (place_in order i) near ∙ (there i in_order).1)
          ∙ ap (put_under (at_levels (take k V')) (length (take k V')) q under)
          (sym (where-other i p (put (reordered order) (length others) (length (take k V') + under) u) (reordered order (length (take k V') + under) i) other)))
      by i less under (inr (own, over)) =
          let W = take k V' ++ levels_from q under in
          let l : length (take k V') ≡ k = long' in
          let total : length W ≡ length (take k V') + under = length-append (take k V') (levels_from q under) ∙ ap (λ n. length (take k V') + n) (length-levels q under) in
          where-same (get_or V i 0) p' (put (reordered order') (length context) (q + under) u') (reordered order' (q + under) (get_or V i 0))
          (ap (λ x. get_or V x 0) own ∙ v.level)
          ∙ (moved-solution k (q + under) W (omega arith) (omega arith)
          (λ x low. get-first (take k V') (levels_from q under) x (omega arith) ∙ get-take V' k x low) over
          ∙ (ap (λ n. placed W (q + under) (put (reordered order) (length others) n u)) total
          ∙ (sym (binders (take k V') q under (put (reordered order) (length others) (length (take k V') + under) u) below')
          ∙ ap (put_under (at_levels (take k V')) (length (take k V')) q under)
          (sym (where-same i p (put (reordered order) (length others) (length (take k V') + under) u) (reordered order (length (take k V') + under) i) own)))))

  pub solved-context_seen : IsSeen (new_context context (solved (length context) (order_without context p') p' (widened (length context) hid u)) 0 (order_without context p'))
      (map (place_in (order_without context p')) hid)
      (new_context others (solved (length others) (order_without others p) p u) 0 (order_without others p))
  solved-context_seen = record {
    count = length-new_context others (solved (length others) order p u) 0 order
        ∙ (sym (new-count context hid others p' p v) ∙ ap (λ n. length (visible n hid')) (sym longer));
    each = λ k q at.
        subst (λ n. term_at (new_context context (solved (length context) order' p' u') 0 order') q
        ≡ placed (take k (visible n hid')) q (term_at (new_context others (solved (length others) order p u) 0 order) k)) (sym longer)
        (one k q (subst (λ n. slice_get (visible n hid') k ≡ Some q) longer at));
  }
    where
      longer : length (new_context context (solved (length context) order' p' u') 0 order') ≡ length order'
      longer = length-new_context context (solved (length context) order' p' u') 0 order'

      one : (k q : ℕ) → slice_get V' k ≡ Some q
          → term_at (new_context context (solved (length context) order' p' u') 0 order') q
          ≡ placed (take k V') q (term_at (new_context others (solved (length others) order p u) 0 order) k)
      one k q at =
          let counted : length V' ≡ length order = new-count context hid others p' p v in
          let lt : k < length order = omega (arith, there-below V' k q at) in
          let level : get_or V' k 0 ≡ q = get-there V' k q 0 at in
          let low : q < length order' = subst (λ x. x < length order') level (visible-below (length order') hid' k (omega arith)) in
          let j = get_or order k 0 in
          let place : slice_get order k ≡ Some j = there-get order k 0 lt in
          let own = order-own others p k j v.inside place in
          let within : j < length others = own.1.0 in
          let source : get_or order' q 0 ≡ get_or V j 0 = ap (λ x. get_or order' x 0) (sym level) ∙ new-source context hid others p' p v k lt in
          let type : term_at context (get_or V j 0) ≡ placed (take j V) (get_or V j 0) (term_at others j) =
          v.is_seen.each j (get_or V j 0) (there-get V j 0 (omega (arith, many))) in
          let z : 0 + q ≡ q = omega arith in
          let z' : k ≡ 0 + k = omega arith in
          let long : length (take j V) ≡ j = length-take-le j V (omega (arith, many)) in
          let long' : length (take k V') ≡ k = length-take-le k V' (omega arith) in
          new-at context (solved (length context) order' p' u') 0 order' q low
          ∙ (ap₂ (λ l d. put (solved (length context) order' p' u') l d (term_at context l)) source z
          ∙ (ap (put (solved (length context) order' p' u') (get_or V j 0) q) type
          ∙ (square (take j V) (take k V') (get_or V j 0) q (solved (length context) order' p' u') (solved (length others) order p u) (term_at others j)
          (type-square k j q lt place (sym level) within (term_at others j) refl)
          ∙ (ap₂ (λ size depth. placed (take k V') q (put (solved (length others) order p u) size depth (term_at others j))) long (long' ∙ z')
          ∙ ap (placed (take k V') q) (sym (new-at others (solved (length others) order p u) 0 order k lt))))))

  -- ---- terms

  -- terms after the solution, over the whole context and over the visible part
  pub solutions-agree : (x : ℕ) → inst (stands (solved (length context) (order_without context p') p' (widened (length context) hid u)) (length context) (length (order_without context p')))
      (widening (length context) hid x)
      ≡ inst (widening (length (order_without context p')) (map (place_in (order_without context p')) hid))
      (stands (solved (length others) (order_without others p) p u) (length others) (length (order_without others p)) x)
  solutions-agree x = elim (below-or_from x (length others)) [
    | inl lt ↦
        let j = length others - (x + 1) in
        let low : get_or V j 0 < length context = visible-below (length context) hid j (omega (arith, many)) in
        let y = length context - (get_or V j 0 + 1) in
        let back : length context - (y + 1) ≡ get_or V j 0 = omega arith in
        ap (inst (stands (solved (length context) order' p' u') (length context) (length order')))
        (first-of_two x (length V) _ _ (omega (arith, many)) ∙ ap (λ n. Var (length context - (get_or V (n - (x + 1)) 0 + 1))) many)
        ∙ (first-of_two y (length context) _ _ (omega arith)
        ∙ (ap (solved (length context) order' p' u' (length order')) back
        ∙ (by j (omega arith) (same-or_not j p)
        ∙ ap (inst (widening (length order') hid')) (sym (first-of_two x (length others) _ _ lt)))))
    | inr le ↦
        let y = x - length others + length context in
        let w = x - length others + length order in
        let e : y - length context + length order' ≡ w - length order + length order' = omega arith in
        let counted : length V' ≡ length order = new-count context hid others p' p v in
        ap (inst (stands (solved (length context) order' p' u') (length context) (length order')))
        (second-of_two x (length V) _ _ (omega (arith, many)) ∙ ap (λ n. Var (x - n + length context)) many)
        ∙ (second-of_two y (length context) _ _ (omega arith)
        ∙ (ap Var (e ∙ ap (λ n. w - n + length order') (sym counted))
        ∙ (sym (second-of_two w (length V') _ _ (omega arith))
        ∙ ap (inst (widening (length order') hid')) (sym (second-of_two x (length others) _ _ le)))))
  ]
    where
      by : (j : ℕ) → j < length others → (j ≡ p) ⊎ (j ≡ p → ⊥)
          → solved (length context) order' p' u' (length order') (get_or V j 0)
          ≡ inst (widening (length order') hid') (solved (length others) order p u (length order) j)
      by j lt (inl own) =
          let counted : length V' ≡ length order = new-count context hid others p' p v in
          where-same (get_or V j 0) p' (put (reordered order') (length context) (length order') u') (reordered order' (length order') (get_or V j 0))
          (ap (λ i. get_or V i 0) own ∙ v.level)
          ∙ (moved-all
          ∙ ap (inst (widening (length order') hid'))
          (sym (where-same j p (put (reordered order) (length others) (length order) u) (reordered order (length order) j) own)))
      by j lt (inr other) =
          let counted : length V' ≡ length order = new-count context hid others p' p v in
          let r = there j (other-among others p j lt other) in
          let K = place_in order j in
          let y = length order - (K + 1) in
          let back : length order - (y + 1) ≡ K = omega (arith, r.0) in
          where-other (get_or V j 0) p' (put (reordered order') (length context) (length order') u') (reordered order' (length order') (get_or V j 0))
          (λ e. other (same-level context hid others p' p v j p lt v.inside (e ∙ sym v.level)))
          ∙ (ap (λ l. Var (length order' - (l + 1))) (sym (ap (λ i. get_or V' i 0) (ap (λ n. n - (y + 1)) counted ∙ back) ∙ r.1))
          ∙ (sym (first-of_two y (length V') _ _ (omega (arith, r.0)))
          ∙ ap (inst (widening (length order') hid'))
          (sym (where-other j p (put (reordered order) (length others) (length order) u) (reordered order (length order) j) other))))
