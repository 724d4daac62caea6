-- The order after a solution in the whole context has what is seen in the order after the same solution of what is seen.
use Rattle.std.proofs.Common.{◌≡◌, ℕ, zero, suc, ◌+◌, ◌<◌, ◌==◌, ◌||◌, inl, inr, Bool, true, false, cond, Some, List, [], ◌∷◌, ◌++◌, length, map, get_or, refl, sym, ap, ap₂, ◌∙◌, subst, arith, eq-eqb}
use Rattle.std.proofs.lemmas.Bool.{true≢false, eqb-true}
use Rattle.std.proofs.lemmas.List.{map-append, length-map, length-append, append_assoc}
use Rattle.theory.specs.Telescopes.{Telescope}
use Rattle.tele_eq.specs.Levels.{is_among, place_in}
use Rattle.tele_eq.proofs.Carrying.{IsFrom}
use Rattle.unification.specs.Occurrences.{without, dependants, order_without}
use Rattle.unification.proofs.Levels.{among-cases, among-own, among-later, among-without}
use Rattle.unification.proofs.SolvedContexts.{dependants-within}
use Rattle.case_trees.proofs.SolvedOrders.{order-own}
use Rattle.tree_translation.specs.Standings.{levels_from}
use Rattle.tree_translation.specs.Hidden.{visible}
use Rattle.tree_translation.specs.Conditions.{IsSeen}
use Rattle.tree_translation.proofs.LevelLists.{at-among, there-get, from-each, from-without, from-apart, each-below, without-among}
use Rattle.tree_translation.proofs.SeenTerms.{visible-below}
use Rattle.tree_translation.proofs.SeenDependants.{dependants-seen}

pub same-test : (a b : Bool) → (a ≡ true → b ≡ true) → (b ≡ true → a ≡ true) → a ≡ b
same-test true true f g = refl
same-test true false f g = sym (f refl)
same-test false true f g = g refl
same-test false false f g = refl

-- ---- lists without some elements

pub without-append : (out xs ys : List ℕ) → without out (xs ++ ys) ≡ without out xs ++ without out ys
without-append out [] ys = refl
without-append out (x ∷ xs) ys = by (is_among x out) (without-append out xs ys)
  where
    by : (t : Bool) → without out (xs ++ ys) ≡ without out xs ++ without out ys
        → cond t (without out (xs ++ ys)) (x ∷ without out (xs ++ ys)) ≡ cond t (without out xs) (x ∷ without out xs) ++ without out ys
    by true e = e
    by false e = ap (λ rest. x ∷ rest) e

pub without-both : (out other xs : List ℕ) → without out (without other xs) ≡ without other (without out xs)
without-both out other [] = refl
without-both out other (x ∷ xs) = by (is_among x out) refl (is_among x other) refl (without-both out other xs)
  where
    by : (t : Bool) → is_among x out ≡ t → (s : Bool) → is_among x other ≡ s → without out (without other xs) ≡ without other (without out xs)
        → without out (cond s (without other xs) (x ∷ without other xs)) ≡ without other (cond t (without out xs) (x ∷ without out xs))
    by true a true b e = e
    by true a false b e = ap (λ t. cond t (without out (without other xs)) (x ∷ without out (without other xs))) a ∙ e
    by false a true b e = e ∙ sym (ap (λ s. cond s (without other (without out xs)) (x ∷ without other (without out xs))) b)
    by false a false b e =
        ap (λ t. cond t (without out (without other xs)) (x ∷ without out (without other xs))) a
        ∙ (ap (λ rest. x ∷ rest) e ∙ sym (ap (λ s. cond s (without other (without out xs)) (x ∷ without other (without out xs))) b))

-- of a list that is mapped
pub without-map : (f : ℕ → ℕ) (out' out js : List ℕ) → ((j : ℕ) → is_among j js ≡ true → is_among (f j) out' ≡ is_among j out)
    → without out' (map f js) ≡ map f (without out js)
without-map f out' out [] same = refl
without-map f out' out (j ∷ js) same =
    ap (λ t. cond t (without out' (map f js)) (f j ∷ without out' (map f js))) (same j (among-own j js))
    ∙ by (is_among j out) (without-map f out' out js (λ i h. same i (among-later i j js h)))
  where
    by : (t : Bool) → without out' (map f js) ≡ map f (without out js)
        → cond t (without out' (map f js)) (f j ∷ without out' (map f js)) ≡ map f (cond t (without out js) (j ∷ without out js))
    by true e = e
    by false e = ap (λ rest. f j ∷ rest) e

pub among-left_over : (j : ℕ) (out levels : List ℕ) → is_among j out ≡ false → is_among j (without out levels) ≡ is_among j levels
among-left_over j out levels not =
    same-test _ _ (λ h. (without-among out levels j h).0) (λ h. among-without j out levels h not)

-- in a list that is mapped, where no other element becomes the same
pub among-map : (f : ℕ → ℕ) (js : List ℕ) (j : ℕ) → ((i : ℕ) → is_among i js ≡ true → f i ≡ f j → i ≡ j) → is_among (f j) (map f js) ≡ is_among j js
among-map f [] j apart = refl
among-map f (i ∷ js) j apart =
    ap₂ ◌||◌
    (same-test _ _ (λ h. eq-eqb i j (apart i (among-own i js) (eqb-true (f i) (f j) h))) (λ h. eq-eqb (f i) (f j) (ap f (eqb-true i j h))))
    (among-map f js j (λ l h. apart l (among-later l i js h)))

-- a list by the numbers of its elements
pub own-numbers : (xs done all : List ℕ) → all ≡ done ++ xs → map (λ j. get_or all j 0) (levels_from (length done) (length xs)) ≡ xs
own-numbers [] done all e = refl
own-numbers (x ∷ xs) done all e =
    let l : length (done ++ x ∷ []) ≡ length done + 1 = length-append done (x ∷ []) in
    ap₂ ◌∷◌ (ap (λ levels. get_or levels (length done) 0) e ∙ middle done)
    (ap (λ k. map (λ j. get_or all j 0) (levels_from k (length xs))) (sym l)
    ∙ own-numbers xs (done ++ x ∷ []) all (e ∙ sym (append_assoc done (x ∷ []) xs)))
  where
    middle : (ys : List ℕ) → get_or (ys ++ x ∷ xs) (length ys) 0 ≡ x
    middle [] = refl
    middle (y ∷ ys) = middle ys

pub by-numbers : (xs : List ℕ) → map (λ j. get_or xs j 0) (levels_from 0 (length xs)) ≡ xs
by-numbers xs = own-numbers xs [] xs refl

pub place-get : (xs : List ℕ) (h : ℕ) → place_in xs h < length xs → get_or xs (place_in xs h) 0 ≡ h
place-get [] h lt = absurd (omega arith)
place-get (x ∷ xs) h lt = by (x == h) refl lt (place-get xs h)
  where
    by : (t : Bool) → (x == h) ≡ t → cond t 0 (place_in xs h + 1) < suc (length xs) → (place_in xs h < length xs → get_or xs (place_in xs h) 0 ≡ h)
        → get_or (x ∷ xs) (cond t 0 (place_in xs h + 1)) 0 ≡ h
    by true e k rest = eqb-true x h e
    by false e k rest =
        let f : place_in xs h + 1 ≡ suc (place_in xs h) = omega arith in
        ap (λ i. get_or (x ∷ xs) i 0) f ∙ rest (omega arith)

pub among-image : (f : ℕ → ℕ) (js : List ℕ) (j : ℕ) → is_among j js ≡ true → is_among (f j) (map f js) ≡ true
among-image f [] j h = absurd (true≢false (sym h))
among-image f (i ∷ js) j h = elim (among-cases j i js h) [
  | inl e ↦ subst (λ l. is_among (f l) (f i ∷ map f js) ≡ true) e (among-own (f i) (map f js))
  | inr k ↦ among-later (f j) (f i) (map f js) (among-image f js j k)
]

record IsImageOf (f : ℕ → ℕ) (js : List ℕ) (k : ℕ) : Type 0 where
  j : ℕ
  among : is_among j js ≡ true
  same : f j ≡ k

image-of : (f : ℕ → ℕ) (js : List ℕ) (k : ℕ) → is_among k (map f js) ≡ true → IsImageOf f js k
image-of f [] k h = absurd (true≢false (sym h))
image-of f (i ∷ js) k h = elim (among-cases k (f i) (map f js) h) [
  | inl e ↦ record { j = i; among = among-own i js; same = e }
  | inr l ↦ let r = image-of f js k l in record { j = r.j; among = among-later r.j i js r.among; same = r.same }
]

-- the places of the elements that are left, in a list in which each element has its own place
pub places-left : (xs hid : List ℕ) → ((k : ℕ) → k < length xs → place_in xs (get_or xs k 0) ≡ k)
    → map (λ k. get_or xs k 0) (without (map (place_in xs) hid) (levels_from 0 (length xs))) ≡ without hid xs
places-left xs hid own =
    sym (without-map (λ k. get_or xs k 0) hid (map (place_in xs) hid) (levels_from 0 (length xs)) same) ∙ ap (without hid) (by-numbers xs)
  where
    same : (k : ℕ) → is_among k (levels_from 0 (length xs)) ≡ true → is_among (get_or xs k 0) hid ≡ is_among k (map (place_in xs) hid)
    same k among =
        let lt : k < 0 + length xs = each-below 0 (length xs) k among in
        same-test _ _
        (λ h. subst (λ i. is_among i (map (place_in xs) hid) ≡ true) (own k (omega arith)) (among-image (place_in xs) hid (get_or xs k 0) h))
        (λ h.
        let r = image-of (place_in xs) hid k h in
        let low : place_in xs r.j < length xs = subst (λ i. i < length xs) (sym r.same) (omega arith) in
        let back : r.j ≡ get_or xs k 0 = sym (place-get xs r.j low) ∙ ap (λ i. get_or xs i 0) r.same in
        subst (λ i. is_among i hid ≡ true) back r.among)

-- ---- the order after a solution

-- variable p of the visible part is variable p' of the whole context
pub record IsSameVariable (context : Telescope) (hid : List ℕ) (others : Telescope) (p' p : ℕ) : Type 0 where
  pub is_seen : IsSeen context hid others
  pub inside : p < length others
  pub level : get_or (visible (length context) hid) p 0 ≡ p'

module _ (context : Telescope) (hid : List ℕ) (others : Telescope) (p' p : ℕ) (v : IsSameVariable context hid others p' p) where
  abbrev V : List ℕ
  V = visible (length context) hid

  abbrev at : ℕ → ℕ
  at j = get_or (visible (length context) hid) j 0

  pub rising : IsFrom 0 (visible (length context) hid)
  rising = from-without 0 hid (levels_from 0 (length context)) (from-each 0 (length context))

  pub same-level : (i j : ℕ) → i < length others → j < length others → get_or (visible (length context) hid) i 0 ≡ get_or (visible (length context) hid) j 0 → i ≡ j
  same-level i j lt lt' e =
      from-apart 0 V i j (at j) rising
      (there-get V i 0 (omega (arith, v.is_seen.count)) ∙ ap Some e) (there-get V j 0 (omega (arith, v.is_seen.count)))

  not-hidden : (j : ℕ) → j < length others → is_among (at j) hid ≡ false
  not-hidden j lt = (without-among hid (levels_from 0 (length context)) (at j) (at-among V j (at j) (there-get V j 0 (omega (arith, v.is_seen.count))))).1

  pub whole-below : p' < length context
  whole-below = subst (λ q. q < length context) v.level (visible-below (length context) hid p (omega (arith, v.is_seen.count, v.inside)))

  dependants-same : without hid (dependants context p') ≡ map at (dependants others p)
  dependants-same =
      dependants-seen context hid others p' p v.is_seen v.inside v.level (subst (λ q. is_among q hid ≡ false) v.level (not-hidden p v.inside)) whole-below

  pub left_out-same : (j : ℕ) → j < length others → is_among (get_or (visible (length context) hid) j 0) (p' ∷ dependants context p') ≡ is_among j (p ∷ dependants others p)
  left_out-same j lt =
      ap₂ ◌||◌
      (same-test _ _
      (λ h. eq-eqb p j (same-level p j v.inside lt (v.level ∙ eqb-true p' (at j) h)))
      (λ h. eq-eqb p' (at j) (sym v.level ∙ ap at (eqb-true p j h))))
      (sym (among-left_over (at j) hid (dependants context p') (not-hidden j lt))
      ∙ (ap (is_among (at j)) dependants-same
      ∙ among-map at (dependants others p) j
      (λ i h e. same-level i j (dependants-within others p i v.inside h) lt e)))

  pub order-seen : without hid (order_without context p') ≡ map (λ j. get_or (visible (length context) hid) j 0) (order_without others p)
  order-seen =
      without-append hid (without (p' ∷ dependants context p') (levels_from 0 (length context))) (dependants context p')
      ∙ (ap₂ ◌++◌
      (without-both hid (p' ∷ dependants context p') (levels_from 0 (length context))
      ∙ (ap (without (p' ∷ dependants context p')) (sym (by-numbers V) ∙ ap (λ k. map at (levels_from 0 k)) (sym v.is_seen.count))
      ∙ without-map at (p' ∷ dependants context p') (p ∷ dependants others p) (levels_from 0 (length others))
      (λ j h. left_out-same j (each-below' j h))))
      dependants-same
      ∙ sym (map-append at (without (p ∷ dependants others p) (levels_from 0 (length others))) (dependants others p)))
    where
      each-below' : (j : ℕ) → is_among j (levels_from 0 (length others)) ≡ true → j < length others
      each-below' j h = let low : j < 0 + length others = each-below 0 (length others) j h in omega arith

  -- the levels that are seen after the solution
  abbrev V' : List ℕ
  V' = visible (length (order_without context p')) (map (place_in (order_without context p')) hid)

  places-own : (k : ℕ) → k < length (order_without context p') → place_in (order_without context p') (get_or (order_without context p') k 0) ≡ k
  places-own k lt = (order-own context p' k (get_or (order_without context p') k 0) whole-below (there-get (order_without context p') k 0 lt)).0

  seen-places : map (λ k. get_or (order_without context p') k 0) V' ≡ map at (order_without others p)
  seen-places = places-left (order_without context p') hid places-own ∙ order-seen

  pub new-count : length (visible (length (order_without context p')) (map (place_in (order_without context p')) hid)) ≡ length (order_without others p)
  new-count =
      sym (length-map V' (λ k. get_or (order_without context p') k 0))
      ∙ (ap length seen-places ∙ length-map (order_without others p) at)

  pub new-source : (k : ℕ) → k < length (order_without others p)
      → get_or (order_without context p') (get_or (visible (length (order_without context p')) (map (place_in (order_without context p')) hid)) k 0) 0
      ≡ get_or (visible (length context) hid) (get_or (order_without others p) k 0) 0
  new-source k lt =
      sym (get-map (λ i. get_or (order_without context p') i 0) V' k (omega (arith, new-count)))
      ∙ (ap (λ levels. get_or levels k 0) seen-places ∙ get-map at (order_without others p) k lt)
    where
      get-map : (f : ℕ → ℕ) (xs : List ℕ) (k : ℕ) → k < length xs → get_or (map f xs) k 0 ≡ f (get_or xs k 0)
      get-map f [] k less = absurd (omega arith)
      get-map f (x ∷ xs) zero less = refl
      get-map f (x ∷ xs) (suc k) less = get-map f xs k (omega arith)

  pub new-place : (k : ℕ) → k < length (order_without others p)
      → get_or (visible (length (order_without context p')) (map (place_in (order_without context p')) hid)) k 0
      ≡ place_in (order_without context p') (get_or (visible (length context) hid) (get_or (order_without others p) k 0) 0)
  new-place k lt =
      sym (places-own (get_or V' k 0) (visible-below (length (order_without context p')) (map (place_in (order_without context p')) hid) k (omega (arith, new-count))))
      ∙ ap (place_in (order_without context p')) (new-source k lt)
