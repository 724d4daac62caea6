-- The recursion order has each position once, and each type mentions only positions before its own there.
use Rattle.std.proofs.Common.{◌≡◌, ◌≢◌, ◌⊎◌, inl, inr, ℕ, zero, suc, ◌+◌, ◌-◌, ◌<◌, ◌≤◌, Bool, true, false, ◌||◌, ◌==◌, nat_lt, cond, Some, List, [], ◌∷◌, ◌++◌, flat_map, length, map, slice_get, refl, sym, ap, ◌∙◌, subst, append_assoc, arith}
use Rattle.std.specs.List.{range_with_len, list_any}
use Rattle.std.specs.Prelude.{All, AllPairs}
use Rattle.std.proofs.lemmas.Bool.{false≢true, and_from, or_left, or_right}
use Rattle.std.proofs.lemmas.Bool.Decides.{Decides-eqb, Decides-ltb}
use Rattle.std.proofs.lemmas.List.Elements.{All-nil, All-cons, All-head, All-tail}
use Rattle.std.proofs.lemmas.List.Kept.{AllPairs-cons}
use Rattle.std.proofs.lemmas.Option.{slice_get_within}
use Rattle.theory.specs.Terms.{Term, App, Fam}
use Rattle.theory.specs.Telescopes.{applied}
use Rattle.theory.specs.Signatures.{Signature}
use Rattle.theory.proofs.Lists.{AllPairs-append}
use Rattle.core_terms.specs.Levels.{variable}
use Rattle.case_below_gen.proofs.PartTests.{and-tells, or-tells}
use Rattle.tele_eq.specs.Dependences.{has_variable}
use Rattle.tele_eq.specs.Levels.{is_among}
use Rattle.tree_translation.specs.structural_rec.Positions.{Admission, Admits, IsFixed, have_position, in_type, mentions, with_fixed, fixed_below, fixed_positions}
use Rattle.tree_translation.specs.structural_rec.Positions.IsFixed.{parameter, behind}
use Rattle.tree_translation.specs.structural_rec.Orders.{unless_among, recursive_positions, recursion_order}
use Rattle.tree_translation.specs.structural_rec.Laws.{IsOrder, IsTelescopeOrder}
use Rattle.tree_translation.proofs.structural_rec.FixedPositions.{fixed-before, fixed-decides, mentions-before}
use Rattle.tree_translation.proofs.structural_rec.Members.{among-first, among-later}

-- one position more, and then the others
pub others-step : (first : List ℕ) (from count : ℕ) (xs ys : List ℕ) → count ≢ 0 → ys ≡ xs ++ unless_among first from
    → ys ++ flat_map (unless_among first) (range_with_len (from + 1) (count - 1)) ≡ xs ++ flat_map (unless_among first) (range_with_len from count)
others-step first from zero xs ys more is = absurd (more refl)
others-step first from (suc count) xs ys more is =
    ap (λ zs. zs ++ flat_map (unless_among first) (range_with_len (from + 1) (suc count - 1))) is
    ∙ (append_assoc xs (unless_among first from) (flat_map (unless_among first) (range_with_len (from + 1) (suc count - 1)))
    ∙ ap (λ k. xs ++ (unless_among first from ++ flat_map (unless_among first) (range_with_len (from + 1) k))) (omega arith))

-- ---- elements of lists

pub among-tells : (i : ℕ) (xs ys : List ℕ) → is_among i (xs ++ ys) ≡ true → (is_among i xs ≡ true) ⊎ (is_among i ys ≡ true)
among-tells i [] ys h = inr h
among-tells i (x ∷ xs) ys h = elim (or-tells (x == i) (is_among i (xs ++ ys)) h) [
  | inl here ↦ inl (or_left (x == i) (is_among i xs) here)
  | inr later ↦ elim (among-tells i xs ys later) [
    | inl front ↦ inl (or_right (x == i) (is_among i xs) front)
    | inr back ↦ inr back
  ]
]

pub among-left : (i : ℕ) (xs ys : List ℕ) → is_among i xs ≡ true → is_among i (xs ++ ys) ≡ true
among-left i [] ys h = absurd (false≢true h)
among-left i (x ∷ xs) ys h = elim (or-tells (x == i) (is_among i xs) h) [
  | inl here ↦ or_left (x == i) (is_among i (xs ++ ys)) here
  | inr later ↦ or_right (x == i) (is_among i (xs ++ ys)) (among-left i xs ys later)
]

pub among-right : (i : ℕ) (xs ys : List ℕ) → is_among i ys ≡ true → is_among i (xs ++ ys) ≡ true
among-right i [] ys h = h
among-right i (x ∷ xs) ys h = or_right (x == i) (is_among i (xs ++ ys)) (among-right i xs ys h)

-- a property of each element of a list, from its being among the list
all-among : (P : ℕ → Type 0) (xs : List ℕ) → ((i : ℕ) → is_among i xs ≡ true → P i) → All P xs
all-among P [] h = All-nil P
all-among P (x ∷ xs) h = All-cons P x xs (h x (among-first x xs)) (all-among P xs (λ i among. h i (among-later i x xs among)))

pub among-all : (P : ℕ → Type 0) (xs : List ℕ) → All P xs → (i : ℕ) → is_among i xs ≡ true → P i
among-all P [] h i among = absurd (false≢true among)
among-all P (x ∷ xs) h i among = elim (or-tells (x == i) (is_among i xs) among) [
  | inl here ↦ subst P ((Decides-eqb x i).0 here) (All-head P x xs h)
  | inr later ↦ among-all P xs (All-tail P x xs h) i later
]

-- different ones after different ones that are not among them
pub once-append : (xs ys : List ℕ) → AllPairs (λ i k. i ≢ k) xs → AllPairs (λ i k. i ≢ k) ys → ((i : ℕ) → is_among i ys ≡ true → is_among i xs ≡ false)
    → AllPairs (λ i k. i ≢ k) (xs ++ ys)
once-append xs ys first second apart =
    AllPairs-append (λ i k. i ≢ k) (λ i. is_among i xs ≡ true) (λ i. is_among i xs ≡ false) xs ys
    (λ i k here there same. false≢true (sym there ∙ (ap (λ x. is_among x xs) (sym same) ∙ here)))
    (all-among (λ i. is_among i xs ≡ true) xs (λ i among. among)) (all-among (λ i. is_among i xs ≡ false) ys apart) first second

-- ---- rising lists

-- each element is below those after it
abbrev pub Rising : List ℕ → Type 0
Rising [] = Unit {0}
Rising (x ∷ xs) = ((i : ℕ) → is_among i xs ≡ true → x < i) × Rising xs

rising-pairs : (R : ℕ → ℕ → Type 0) → ((i k : ℕ) → i < k → R i k) → (xs : List ℕ) → Rising xs → AllPairs R xs
rising-pairs R below [] rising = λ i k d lt within. absurd (omega arith)
rising-pairs R below (x ∷ xs) rising =
    AllPairs-cons R x xs (all-among (R x) xs (λ k among. below x k (rising.0 k among))) (rising-pairs R below xs rising.1)

pub rising-once : (xs : List ℕ) → Rising xs → AllPairs (λ i k. i ≢ k) xs
rising-once = rising-pairs (λ i k. i ≢ k) (λ i k lt same. omega arith)

pub not-true-is : (b : Bool) → (b ≡ true → ⊥) → b ≡ false
not-true-is true h = absurd (h refl)
not-true-is false h = refl

-- ---- the fixed positions

with-above : (tele : List Term) (j : ℕ) (ps : List Term) (at : ℕ) (found : List ℕ) → ((i : ℕ) → is_among i found ≡ true → at < i)
    → (i : ℕ) → is_among i (with_fixed tele j ps at found) ≡ true → at ≤ i
with-above tele j ps at found above i among = by (have_position j at ps || list_any (λ k. mentions tele k at) found) among
  where
    by : (b : Bool) → is_among i (cond b (at ∷ found) found) ≡ true → at ≤ i
    by true among = elim (or-tells (at == i) (is_among i found) among) [
      | inl here ↦ let same = (Decides-eqb at i).0 here in omega arith
      | inr later ↦ let lt = above i later in omega arith
    ]
    by false among = let lt = above i among in omega arith

with-rising : (tele : List Term) (j : ℕ) (ps : List Term) (at : ℕ) (found : List ℕ) → ((i : ℕ) → is_among i found ≡ true → at < i)
    → Rising found → Rising (with_fixed tele j ps at found)
with-rising tele j ps at found above rising = by (have_position j at ps || list_any (λ k. mentions tele k at) found)
  where
    by : (b : Bool) → Rising (cond b (at ∷ found) found)
    by true = (above, rising)
    by false = rising

below-rising : (tele : List Term) (j : ℕ) (ps : List Term) (at : ℕ) (found : List ℕ) → ((i : ℕ) → is_among i found ≡ true → at ≤ i)
    → Rising found → Rising (fixed_below tele j ps at found)
below-rising tele j ps zero found above rising = rising
below-rising tele j ps (suc at) found above rising =
    let strictly : (i : ℕ) → is_among i found ≡ true → at < i = λ i among. (let le = above i among in omega arith) in
    below-rising tele j ps at (with_fixed tele j ps at found) (with-above tele j ps at found strictly) (with-rising tele j ps at found strictly rising)

pub fixed-rising : (tele : List Term) (j : ℕ) (ps : List Term) → Rising (fixed_positions tele j ps)
fixed-rising tele j ps = below-rising tele j ps j [] (λ i among. absurd (false≢true among)) tt

-- ---- the others

others-tell : (first : List ℕ) (from count i : ℕ) → is_among i (flat_map (unless_among first) (range_with_len from count)) ≡ true
    → (from ≤ i) × (i < from + count) × (is_among i first ≡ false)
others-tell first from zero i among = absurd (false≢true among)
others-tell first from (suc count) i among = elim (among-tells i (unless_among first from) (flat_map (unless_among first) (range_with_len (from + 1) count)) among) [
  | inl here ↦ by (is_among from first) refl here
  | inr later ↦ let rest = others-tell first (from + 1) count i later in let low = rest.0 in let high = rest.1 in (omega arith, omega arith, rest.2)
]
  where
    by : (b : Bool) → is_among from first ≡ b → is_among i (cond b [] (from ∷ [])) ≡ true → (from ≤ i) × (i < from + suc count) × (is_among i first ≡ false)
    by true e here = absurd (false≢true here)
    by false e here = elim (or-tells (from == i) false here) [
      | inl same ↦ let is : from ≡ i = (Decides-eqb from i).0 same in (omega arith, omega arith, ap (λ x. is_among x first) (sym is) ∙ e)
      | inr none ↦ absurd (false≢true none)
    ]

others-have : (first : List ℕ) (from count i : ℕ) → from ≤ i → i < from + count → is_among i first ≡ false
    → is_among i (flat_map (unless_among first) (range_with_len from count)) ≡ true
others-have first from zero i low high apart = absurd (omega arith)
others-have first from (suc count) i low high apart =
    by (from == i) refl (λ le. others-have first (from + 1) count i le (omega arith) apart)
  where
    by : (b : Bool) → (from == i) ≡ b → (from + 1 ≤ i → is_among i (flat_map (unless_among first) (range_with_len (from + 1) count)) ≡ true)
        → is_among i (unless_among first from ++ flat_map (unless_among first) (range_with_len (from + 1) count)) ≡ true
    by true e more =
        let same : from ≡ i = (Decides-eqb from i).0 e in
        among-left i (unless_among first from) (flat_map (unless_among first) (range_with_len (from + 1) count))
        (ap (λ b. is_among i (cond b [] (from ∷ []))) (ap (λ x. is_among x first) same ∙ apart) ∙ or_left (from == i) false e)
    by false e more =
        let other : from ≢ i = (λ same. false≢true (sym e ∙ (Decides-eqb from i).1 same)) in
        among-right i (unless_among first from) (flat_map (unless_among first) (range_with_len (from + 1) count)) (more (grind arith))

others-rising : (first : List ℕ) (from count : ℕ) → Rising (flat_map (unless_among first) (range_with_len from count))
others-rising first from zero = tt
others-rising first from (suc count) = by (is_among from first) (others-rising first (from + 1) count)
  where
    rest : List ℕ
    rest = flat_map (unless_among first) (range_with_len (from + 1) count)

    by : (b : Bool) → Rising rest → Rising (cond b [] (from ∷ []) ++ rest)
    by true rising = rising
    by false rising = (λ i among. let low = (others-tell first (from + 1) count i among).0 in omega arith, rising)

-- ---- mentions

-- each type mentions only positions that come before its own in the list, or are among the first ones
abbrev pub Follows : (tele : List Term) (first xs : List ℕ) → Type 0
Follows tele first [] = Unit {0}
Follows tele first (i ∷ xs) = ((k : ℕ) → mentions tele i k ≡ true → is_among k first ≡ true) × Follows tele (i ∷ first) xs

-- an element before others, of which one is looked for among two lists
moved : (k x : ℕ) (first xs : List ℕ) → (is_among k first ≡ true) ⊎ (is_among k (x ∷ xs) ≡ true) → (is_among k (x ∷ first) ≡ true) ⊎ (is_among k xs ≡ true)
moved k x first xs (inl among) = inl (among-later k x first among)
moved k x first xs (inr among) = elim (or-tells (x == k) (is_among k xs) among) [
  | inl here ↦ inl (or_left (x == k) (is_among k first) here)
  | inr later ↦ inr later
]

pub moved-back : (k x : ℕ) (first xs : List ℕ) → (is_among k (x ∷ first) ≡ true) ⊎ (is_among k xs ≡ true) → (is_among k first ≡ true) ⊎ (is_among k (x ∷ xs) ≡ true)
moved-back k x first xs (inl among) = elim (or-tells (x == k) (is_among k first) among) [
  | inl here ↦ inr (or_left (x == k) (is_among k xs) here)
  | inr later ↦ inl later
]
moved-back k x first xs (inr among) = inr (among-later k x xs among)

follows-more : (tele : List Term) (first more xs : List ℕ) → ((k : ℕ) → is_among k first ≡ true → is_among k more ≡ true) → Follows tele first xs
    → Follows tele more xs
follows-more tele first more [] there h = tt
follows-more tele first more (x ∷ xs) there h = (λ k m. there k (h.0 k m), follows-more tele (x ∷ first) (x ∷ more) xs still h.1)
  where
    still : (k : ℕ) → is_among k (x ∷ first) ≡ true → is_among k (x ∷ more) ≡ true
    still k among = elim (or-tells (x == k) (is_among k first) among) [
      | inl here ↦ or_left (x == k) (is_among k more) here
      | inr later ↦ or_right (x == k) (is_among k more) (there k later)
    ]

pub follows-append : (tele : List Term) (first second xs ys : List ℕ)
    → ((k : ℕ) → is_among k second ≡ true → (is_among k first ≡ true) ⊎ (is_among k xs ≡ true)) → Follows tele first xs → Follows tele second ys
    → Follows tele first (xs ++ ys)
follows-append tele first second [] ys there h k =
    follows-more tele second first ys (λ i among. elim (there i among) [ inl front ↦ front | inr none ↦ absurd (false≢true none) ]) k
follows-append tele first second (x ∷ xs) ys there h k =
    (h.0, follows-append tele (x ∷ first) second xs ys (λ i among. moved i x first xs (there i among)) h.1 k)

-- so does a list that has with each position all that its type mentions, unless it is among the first ones, if no type mentions a later one
closed-follows : (tele : List Term) (first xs : List ℕ)
    → ((i k : ℕ) → is_among i xs ≡ true → mentions tele i k ≡ true → (is_among k first ≡ true) ⊎ (is_among k xs ≡ true))
    → AllPairs (λ i k. mentions tele i k ≡ false) xs → Follows tele first xs
closed-follows tele first [] closed apart = tt
closed-follows tele first (x ∷ xs) closed apart = (
  λ k m. elim (moved k x first xs (closed x k (among-first x xs) m)) [
    | inl front ↦ elim (or-tells (x == k) (is_among k first) front) [
      | inl here ↦ (let same : x ≡ k = (Decides-eqb x k).0 here in let lt = mentions-before tele x k m in absurd (omega arith))
      | inr there ↦ there
    ]
    | inr later ↦
        absurd (false≢true (sym (among-all (λ k. mentions tele x k ≡ false) xs (λ k d lt. apart 0 (suc k) d (omega arith) (omega arith)) k later) ∙ m))
  ],
  closed-follows tele (x ∷ first) xs (λ i k among m. moved k x first xs (closed i k (among-later i x xs among) m))
      (λ i k d lt within. apart (suc i) (suc k) d (omega arith) (omega arith)),
)

-- no type mentions its own position or a later one
later-not : (tele : List Term) (i k : ℕ) → i < k → mentions tele i k ≡ false
later-not tele i k lt = not-true-is (mentions tele i k) (λ m. let before = mentions-before tele i k m in omega arith)

pub rising-follows : (tele : List Term) (first xs : List ℕ)
    → ((i k : ℕ) → is_among i xs ≡ true → mentions tele i k ≡ true → (is_among k first ≡ true) ⊎ (is_among k xs ≡ true)) → Rising xs → Follows tele first xs
rising-follows tele first xs closed rising =
    closed-follows tele first xs closed (rising-pairs (λ i k. mentions tele i k ≡ false) (later-not tele) xs rising)

-- what is mentioned at a place of such a list
follows-tells : (tele : List Term) (first before after : List ℕ) (i k : ℕ) → Follows tele first (before ++ i ∷ after) → mentions tele i k ≡ true
    → (is_among k first ≡ true) ⊎ (is_among k before ≡ true)
follows-tells tele first [] after i k h m = inl (h.0 k m)
follows-tells tele first (x ∷ before) after i k h m = moved-back k x first before (follows-tells tele (x ∷ first) before after i k h.1 m)

pub follows-earlier : (tele : List Term) (order : List ℕ) → Follows tele [] order → (before after : List ℕ) (i k : ℕ) → order ≡ before ++ i ∷ after
    → mentions tele i k ≡ true → is_among k before ≡ true
follows-earlier tele order h before after i k is m =
    elim (follows-tells tele [] before after i k (subst (Follows tele []) is h) m) [ inl none ↦ absurd (false≢true none) | inr there ↦ there ]

-- ---- variables of a type `D ps is`

has-applied : (v : ℕ) (head : Term) (args : List Term) → has_variable v (applied head args) ≡ true
    → (has_variable v head ≡ true) ⊎ (list_any (has_variable v) args ≡ true)
has-applied v head [] h = inl h
has-applied v head (a ∷ args) h = elim (has-applied v (App head a) args h) [
  | inl front ↦ elim (or-tells (has_variable v head) (has_variable v a) front) [
    | inl there ↦ inl there
    | inr first ↦ inr (or_left (has_variable v a) (list_any (has_variable v) args) first)
  ]
  | inr later ↦ inr (or_right (has_variable v a) (list_any (has_variable v) args) later)
]

any-split : (p : Term → Bool) (xs ys : List Term) → list_any p (xs ++ ys) ≡ true → (list_any p xs ≡ true) ⊎ (list_any p ys ≡ true)
any-split p [] ys h = inr h
any-split p (x ∷ xs) ys h = elim (or-tells (p x) (list_any p (xs ++ ys)) h) [
  | inl here ↦ inl (or_left (p x) (list_any p xs) here)
  | inr later ↦ elim (any-split p xs ys later) [
    | inl front ↦ inl (or_right (p x) (list_any p xs) front)
    | inr back ↦ inr back
  ]
]

-- of variables of a position, one with such a number is that of one of the list
variable-listed : (j k : ℕ) (is : List ℕ) → k < j → All (λ i. i < j) is → list_any (has_variable (j - (k + 1))) (map (variable j) is) ≡ true → is_among k is ≡ true
variable-listed j k [] lt low h = absurd (false≢true h)
variable-listed j k (i ∷ is) lt low h = elim (or-tells (j - (i + 1) == j - (k + 1)) (list_any (has_variable (j - (k + 1))) (map (variable j) is)) h) [
  | inl here ↦ (
      let same : j - (i + 1) ≡ j - (k + 1) = (Decides-eqb (j - (i + 1)) (j - (k + 1))).0 here in
      let near : i < j = All-head (λ i. i < j) i is low in
      or_left (i == k) (is_among k is) ((Decides-eqb i k).1 (omega arith))
      )
  | inr later ↦ or_right (i == k) (is_among k is) (variable-listed j k is lt (All-tail (λ i. i < j) i is low) later)
]

-- what a mention rests on
mention-tells : (tele : List Term) (j k : ℕ) (t : Term) → slice_get tele j ≡ Some t → mentions tele j k ≡ true → (k < j) × (has_variable (j - (k + 1)) t ≡ true)
mention-tells tele j k t at m =
    let parts = and-tells (nat_lt k j) (in_type (j - (k + 1)) (slice_get tele j)) m in
    ((Decides-ltb k j).0 parts.0, sym (ap (in_type (j - (k + 1))) at) ∙ parts.1)

-- what the type `D ps is` of a position mentions: variables of its parameters, and its indices
pub family-mentions : (tele : List Term) (j n : ℕ) (ps : List Term) (is : List ℕ) (k : ℕ)
    → slice_get tele j ≡ Some (applied (Fam n) (ps ++ map (variable j) is)) → All (λ i. i < j) is → mentions tele j k ≡ true
    → (have_position j k ps ≡ true) ⊎ (is_among k is ≡ true)
family-mentions tele j n ps is k type low mentioned =
    let parts = mention-tells tele j k _ type mentioned in
    elim (has-applied (j - (k + 1)) (Fam n) (ps ++ map (variable j) is) parts.1) [
      | inl none ↦ absurd (false≢true none)
      | inr there ↦ elim (any-split (has_variable (j - (k + 1))) ps (map (variable j) is) there) [
        | inl fixed ↦ inl (and_from (nat_lt k j) (list_any (has_variable (j - (k + 1))) ps) ((Decides-ltb k j).1 parts.0) fixed)
        | inr index ↦ inr (variable-listed j k is parts.0 low index)
      ]
    ]

-- ---- the order

-- The first positions of an order: positions of the telescope, each once, whose types mention only those before them.
pub record AreInOrder (tele : List Term) (first : List ℕ) : Type 0 where
  pub within : (i : ℕ) → is_among i first ≡ true → i < length tele
  pub once : AllPairs (λ i k. i ≢ k) first
  pub follow : Follows tele [] first

abbrev pub others_of : (tele : List Term) (first : List ℕ) → List ℕ
others_of tele first = flat_map (unless_among first) (range_with_len 0 (length tele))

-- with the others after them they are an order,
pub with-others-whole : (tele : List Term) (first : List ℕ) → AreInOrder tele first → IsOrder (length tele) (first ++ others_of tele first)
with-others-whole tele first h = record { whole = whole; within = within; once = once }
  where
    count : ℕ
    count = length tele

    others : List ℕ
    others = others_of tele first

    whole : (i : ℕ) → i < count → is_among i (first ++ others) ≡ true
    whole i lt = by (is_among i first) refl
      where
        by : (b : Bool) → is_among i first ≡ b → is_among i (first ++ others) ≡ true
        by true e = among-left i first others e
        by false e = among-right i first others (others-have first 0 count i (omega arith) (omega arith) e)

    within : (i : ℕ) → is_among i (first ++ others) ≡ true → i < count
    within i among = elim (among-tells i first others among) [
      | inl front ↦ h.within i front
      | inr back ↦ let high = (others-tell first 0 count i back).1 in omega arith
    ]

    once : AllPairs (λ i k. i ≢ k) (first ++ others)
    once = once-append first others h.once (rising-once others (others-rising first 0 count)) (λ i among. (others-tell first 0 count i among).2)

-- and the types in it are a telescope
pub with-others-telescope : (tele : List Term) (first : List ℕ) → AreInOrder tele first → IsTelescopeOrder tele (first ++ others_of tele first)
with-others-telescope tele first h = record {
  positions = whole;
  earlier = follows-earlier tele (first ++ others)
      (follows-append tele [] first first others (λ k among. inr among) h.follow (rising-follows tele first others closed (others-rising first 0 count)));
}
  where
    count : ℕ
    count = length tele

    others : List ℕ
    others = others_of tele first

    whole : IsOrder count (first ++ others)
    whole = with-others-whole tele first h

    closed : (i k : ℕ) → is_among i others ≡ true → mentions tele i k ≡ true → (is_among k first ≡ true) ⊎ (is_among k others ≡ true)
    closed i k among mentioned =
        let lt : k < i = mentions-before tele i k mentioned in
        let low : i < 0 + count = (others-tell first 0 count i among).1 in
        let near : k < count = omega arith in
        among-tells k first others (whole.whole k near)

-- A position after fixed positions that are in order and its indices, where its type mentions these alone.
pub record IsAfter (tele : List Term) (fixed indices : List ℕ) (j : ℕ) : Type 0 where
  pub fixed_order : AreInOrder tele fixed
  pub inside : j < length tele
  pub outside : is_among j fixed ≡ false
  pub before : All (λ i. i < j) indices
  pub different : AllPairs (λ i k. i ≢ k) indices
  pub apart : (i : ℕ) → is_among i indices ≡ true → is_among i fixed ≡ false
  pub index_types : (i k : ℕ) → is_among i indices ≡ true → mentions tele i k ≡ true → (is_among k fixed || is_among k indices) ≡ true
  pub index_order : AllPairs (λ i k. mentions tele i k ≡ false) indices
  pub own : (k : ℕ) → mentions tele j k ≡ true → is_among k (fixed ++ indices) ≡ true

pub after-in-order : (tele : List Term) (fixed indices : List ℕ) (j : ℕ) → IsAfter tele fixed indices j → AreInOrder tele (fixed ++ (indices ++ j ∷ []))
after-in-order tele fixed indices j m = record { within = within; once = once; follow = follow }
  where
    index-low : (i : ℕ) → is_among i indices ≡ true → i < j
    index-low i among = among-all (λ k. k < j) indices m.before i among

    only-itself : (i : ℕ) → is_among i (j ∷ []) ≡ true → j ≡ i
    only-itself i among = elim (or-tells (j == i) false among) [
      | inl same ↦ (Decides-eqb j i).0 same
      | inr none ↦ absurd (false≢true none)
    ]

    among-last : (i : ℕ) → is_among i (indices ++ j ∷ []) ≡ true → (is_among i indices ≡ true) ⊎ (j ≡ i)
    among-last i among = elim (among-tells i indices (j ∷ []) among) [
      | inl index ↦ inl index
      | inr last ↦ inr (only-itself i last)
    ]

    within : (i : ℕ) → is_among i (fixed ++ (indices ++ j ∷ [])) ≡ true → i < length tele
    within i among = elim (among-tells i fixed (indices ++ j ∷ []) among) [
      | inl front ↦ m.fixed_order.within i front
      | inr later ↦ elim (among-last i later) [
        | inl index ↦ let lt = index-low i index in let far = m.inside in omega arith
        | inr last ↦ let far = m.inside in omega arith
      ]
    ]

    apart : (i : ℕ) → is_among i (indices ++ j ∷ []) ≡ true → is_among i fixed ≡ false
    apart i among = elim (among-last i among) [
      | inl index ↦ m.apart i index
      | inr last ↦ ap (λ k. is_among k fixed) (sym last) ∙ m.outside
    ]

    last-apart : (i : ℕ) → is_among i (j ∷ []) ≡ true → is_among i indices ≡ false
    last-apart i among =
        let same = only-itself i among in
        not-true-is (is_among i indices) (λ index. let lt = index-low i index in omega arith)

    once : AllPairs (λ i k. i ≢ k) (fixed ++ (indices ++ j ∷ []))
    once =
        once-append fixed (indices ++ j ∷ []) m.fixed_order.once
        (once-append indices (j ∷ []) m.different (rising-once (j ∷ []) (λ i among. absurd (false≢true among), tt)) last-apart)
        apart

    indices-follow : Follows tele fixed indices
    indices-follow =
        closed-follows tele fixed indices
        (λ i k among mentioned. or-tells (is_among k fixed) (is_among k indices) (m.index_types i k among mentioned)) m.index_order

    follow : Follows tele [] (fixed ++ (indices ++ j ∷ []))
    follow =
        follows-append tele [] fixed fixed (indices ++ j ∷ []) (λ k among. inr among) m.fixed_order.follow
        (follows-append tele fixed (fixed ++ indices) indices (j ∷ []) (λ k among. among-tells k fixed indices among) indices-follow (m.own, tt))

pub recursive-in-order : (S : Signature) (tele : List Term) (j : ℕ) (a : Admission) → Admits S tele j a → AreInOrder tele (recursive_positions j a)
recursive-in-order S tele j a m =
    after-in-order tele a.fixed a.indices j
    (record {
      fixed_order = record { within = λ i among. (let lt = fixed-low i among in let far = inside in omega arith); once = rising-once a.fixed rising; follow = follow };
      inside = inside;
      outside = not-true-is (is_among j a.fixed) (λ fixed. let lt = fixed-low j fixed in omega arith);
      before = m.before;
      different = m.different;
      apart = m.apart;
      index_types = m.index_types;
      index_order = m.index_order;
      own = own;
    })
  where
    inside : j < length tele
    inside = slice_get_within tele j _ m.type

    is-fixed : (i : ℕ) → is_among i a.fixed ≡ true → IsFixed tele j m.parameters i
    is-fixed i among = (fixed-decides tele j m.parameters i).0 (ap (is_among i) (sym m.fixed) ∙ among)

    found-fixed : (i : ℕ) → IsFixed tele j m.parameters i → is_among i a.fixed ≡ true
    found-fixed i fixed = ap (is_among i) m.fixed ∙ (fixed-decides tele j m.parameters i).1 fixed

    fixed-low : (i : ℕ) → is_among i a.fixed ≡ true → i < j
    fixed-low i among = fixed-before tele j m.parameters (is-fixed i among)

    rising : Rising a.fixed
    rising = subst Rising (sym m.fixed) (fixed-rising tele j m.parameters)

    follow : Follows tele [] a.fixed
    follow = rising-follows tele [] a.fixed (λ i k among mentioned. inr (found-fixed k (behind (is-fixed i among) mentioned))) rising

    -- the type at j itself mentions its parameters' variables, which are fixed, and the indices
    own : (k : ℕ) → mentions tele j k ≡ true → is_among k (a.fixed ++ a.indices) ≡ true
    own k mentioned = elim (family-mentions tele j a.number m.parameters a.indices k m.type m.before mentioned) [
      | inl fixed ↦ among-left k a.fixed a.indices (found-fixed k (parameter fixed))
      | inr index ↦ among-right k a.fixed a.indices index
    ]

pub order-whole : (S : Signature) (tele : List Term) (j : ℕ) (a : Admission) → Admits S tele j a → IsOrder (length tele) (recursion_order (length tele) j a)
order-whole S tele j a m = with-others-whole tele (recursive_positions j a) (recursive-in-order S tele j a m)

pub order-is-telescope : (S : Signature) (tele : List Term) (j : ℕ) (a : Admission) → Admits S tele j a → IsTelescopeOrder tele (recursion_order (length tele) j a)
order-is-telescope S tele j a m = with-others-telescope tele (recursive_positions j a) (recursive-in-order S tele j a m)
