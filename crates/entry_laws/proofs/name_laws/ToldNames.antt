-- The names of a table have rising places: each new one the next.
use Rattle.std.proofs.Common.{◌≡◌, ◌≢◌, inl, inr, ℕ, zero, suc, ◌+◌, ◌-◌, ◌<◌, ◌≤◌, ◌==◌, ◌||◌, nat_lt, Bool, true, false, cond, List, [], ◌∷◌, ◌++◌, length, map, bytes_eq, refl, sym, ap, ap₂, subst, ◌∙◌, arith, append_assoc}
use Rattle.std.proofs.lemmas.Bool.{true≢false}
use Rattle.std.proofs.lemmas.Bool.Decides.{nat_tests}
use Rattle.std.proofs.lemmas.List.{length-append}
use Rattle.std.proofs.lemmas.Slice.Eq.{bytes_eq-Decides}
use Rattle.theory.specs.Terms.{Term, Var, Sort, Pi, Lam, App, Let, Const, Fam, Con, Elim, AxiomK}
use Rattle.core_sig.proofs.NamesShown.{bytes_eq-swap}
use Rattle.tele_eq.specs.Levels.{is_among}
use Rattle.unification.proofs.Cases.{below-or_from, first-of_two, second-of_two}
use Rattle.tree_translation.specs.Naming.{Naming, mentions, number_in, once, is_named, place_of, with_names}
use Rattle.tree_translation.specs.Standings.{levels_from}
use Rattle.tree_translation.proofs.NewNames.{longer}

-- ---- places from a bound on

-- The second list has those places of the first that are n or more, counted from n.
pub data AreAbove (n : ℕ) : List ℕ → List ℕ → Type 0 where
  ended : AreAbove n [] []
  lower : {i : ℕ} {xs ys : List ℕ} → i < n → AreAbove n xs ys → AreAbove n (i ∷ xs) ys
  higher : {j : ℕ} {xs ys : List ℕ} → AreAbove n xs ys → AreAbove n ((n + j) ∷ xs) (j ∷ ys)

above-append : (n : ℕ) (xs ys us vs : List ℕ) → AreAbove n xs ys → AreAbove n us vs → AreAbove n (xs ++ us) (ys ++ vs)
above-append n _ _ us vs AreAbove.ended k = k
above-append n (i ∷ xs) ys us vs (AreAbove.lower lt h) k = AreAbove.lower lt (above-append n xs ys us vs h k)
above-append n (_ ∷ xs) (j ∷ ys) us vs (AreAbove.higher h) k = AreAbove.higher (above-append n xs ys us vs h k)

above-constant : (base n c : ℕ) → AreAbove n (mentions base (Const c)) (mentions (base + n) (Const c))
above-constant base n c = elim (below-or_from c base) [
  | inl lt ↦
      subst (λ xs. AreAbove n xs (mentions (base + n) (Const c))) (sym (first-of_two c base [] ((c - base) ∷ []) lt))
      (subst (AreAbove n []) (sym (first-of_two c (base + n) [] ((c - (base + n)) ∷ []) (omega arith))) AreAbove.ended)
  | inr le ↦
      subst (λ xs. AreAbove n xs (mentions (base + n) (Const c))) (sym (second-of_two c base [] ((c - base) ∷ []) le))
      (elim (below-or_from c (base + n)) [
        | inl lt ↦
            subst (AreAbove n ((c - base) ∷ [])) (sym (first-of_two c (base + n) [] ((c - (base + n)) ∷ []) lt))
            (let low : c - base < n = omega arith in AreAbove.lower low AreAbove.ended)
        | inr far ↦
            let e : n + (c - (base + n)) ≡ c - base = omega arith in
            subst (AreAbove n ((c - base) ∷ [])) (sym (second-of_two c (base + n) [] ((c - (base + n)) ∷ []) far))
            (subst (λ i. AreAbove n (i ∷ []) ((c - (base + n)) ∷ [])) e (AreAbove.higher AreAbove.ended))
      ])
]

mentions-above : (base n : ℕ) (t : Term) → AreAbove n (mentions base t) (mentions (base + n) t)
mentions-above base n (Pi a b) =
    above-append n (mentions base a) (mentions (base + n) a) (mentions base b) (mentions (base + n) b) (mentions-above base n a) (mentions-above base n b)
mentions-above base n (Lam a b) =
    above-append n (mentions base a) (mentions (base + n) a) (mentions base b) (mentions (base + n) b) (mentions-above base n a) (mentions-above base n b)
mentions-above base n (App f a) =
    above-append n (mentions base f) (mentions (base + n) f) (mentions base a) (mentions (base + n) a) (mentions-above base n f) (mentions-above base n a)
mentions-above base n (Let a t b) =
    above-append n (mentions base a) (mentions (base + n) a) (mentions base t ++ mentions base b) (mentions (base + n) t ++ mentions (base + n) b)
    (mentions-above base n a)
    (above-append n (mentions base t) (mentions (base + n) t) (mentions base b) (mentions (base + n) b) (mentions-above base n t) (mentions-above base n b))
mentions-above base n (Const c) = above-constant base n c
mentions-above base n (Var v) = AreAbove.ended
mentions-above base n (Sort i) = AreAbove.ended
mentions-above base n (Fam f) = AreAbove.ended
mentions-above base n (Con f c) = AreAbove.ended
mentions-above base n (Elim f m) = AreAbove.ended
mentions-above base n (AxiomK i m) = AreAbove.ended

-- all places below n are seen, and a place n + j where `above` has j
record SeesAll (n : ℕ) (seen above : List ℕ) : Type 0 where
  lows : (i : ℕ) → i < n → is_among i seen ≡ true
  highs : (j : ℕ) → is_among (n + j) seen ≡ is_among j above

shifted-test : (n i j : ℕ) → ((n + i) == (n + j)) ≡ (i == j)
shifted-test n i j = grind (arith, nat_tests)

sees-more : (n : ℕ) (seen above : List ℕ) (j : ℕ) → SeesAll n seen above → SeesAll n ((n + j) ∷ seen) (j ∷ above)
sees-more n seen above j s = record {
  lows = λ i lt. by (n + j == i) (is_among i seen) (s.lows i lt);
  highs = λ k. ap₂ ◌||◌ (shifted-test n j k) (s.highs k);
}
  where
    by : (a b : Bool) → b ≡ true → (a || b) ≡ true
    by true b h = refl
    by false b h = h

once-above : (n : ℕ) (xs ys seen above : List ℕ) → AreAbove n xs ys → SeesAll n seen above → once seen xs ≡ map (λ j. n + j) (once above ys)
once-above n _ _ seen above AreAbove.ended s = refl
once-above n (i ∷ xs) ys seen above (AreAbove.lower lt h) s =
    ap (λ b. cond b (once seen xs) (i ∷ once (i ∷ seen) xs)) (s.lows i lt) ∙ once-above n xs ys seen above h s
once-above n (_ ∷ xs) (j ∷ ys) seen above (AreAbove.higher h) s =
    by (is_among (n + j) seen) (is_among j above) (s.highs j) (once-above n xs ys seen above h s)
    (once-above n xs ys ((n + j) ∷ seen) (j ∷ above) h (sees-more n seen above j s))
  where
    by : (a b : Bool) → a ≡ b → once seen xs ≡ map (λ j. n + j) (once above ys)
        → once ((n + j) ∷ seen) xs ≡ map (λ j. n + j) (once (j ∷ above) ys)
        → cond a (once seen xs) ((n + j) ∷ once ((n + j) ∷ seen) xs)
        ≡ map (λ j. n + j) (cond b (once above ys) (j ∷ once (j ∷ above) ys))
    by true true e old new = old
    by true false e old new = absurd (true≢false e)
    by false true e old new = absurd (true≢false (sym e))
    by false false e old new = ap (λ places. (n + j) ∷ places) new

among-levels : (count from i : ℕ) → from ≤ i → i < from + count → is_among i (levels_from from count) ≡ true
among-levels zero from i le lt = absurd (omega arith)
among-levels (suc count) from i le lt = by (from == i) refl (λ more. among-levels count (from + 1) i more (omega arith))
  where
    by : (b : Bool) → (from == i) ≡ b → (from + 1 ≤ i → is_among i (levels_from (from + 1) count) ≡ true)
        → (b || is_among i (levels_from (from + 1) count)) ≡ true
    by true e rest = refl
    by false e rest = rest (grind (arith, nat_tests))

apart-below : (from i : ℕ) → from < i → (from == i) ≡ false
apart-below from i less = grind (arith, nat_tests)

not-above : (count from i : ℕ) → from + count ≤ i → is_among i (levels_from from count) ≡ false
not-above zero from i le = refl
not-above (suc count) from i le = ap₂ ◌||◌ (apart-below from i (omega arith)) (not-above count (from + 1) i (omega arith))

-- where the places below n are seen, those that are new are those from n on
pub once-from : (base n : ℕ) (t : Term) → once (levels_from 0 n) (mentions base t) ≡ map (λ j. n + j) (once [] (mentions (base + n) t))
once-from base n t =
    once-above n (mentions base t) (mentions (base + n) t) (levels_from 0 n) [] (mentions-above base n t)
    (record {
      lows = λ i lt. among-levels n 0 i (omega arith) (omega arith);
      highs = λ j. not-above n 0 (n + j) (omega arith);
    })

pub levels-moved : (n from count : ℕ) → map (λ j. n + j) (levels_from from count) ≡ levels_from (n + from) count
levels-moved n from zero = refl
levels-moved n from (suc count) =
    let e : n + (from + 1) ≡ n + from + 1 = omega arith in
    ap (λ places. (n + from) ∷ places) (levels-moved n (from + 1) count ∙ ap (λ k. levels_from k count) e)

-- ---- the names of a table

-- the mentions, from a bound on, of constants with the numbers of names
abbrev pub told : (bound : ℕ) → Naming → List (List ℕ) → List ℕ
told bound number [] = []
told bound number (name ∷ names) = mentions bound (Const (number name)) ++ told bound number names

pub told-append : (bound : ℕ) (number : Naming) (xs ys : List (List ℕ)) → told bound number (xs ++ ys) ≡ told bound number xs ++ told bound number ys
told-append bound number [] ys = refl
told-append bound number (x ∷ xs) ys =
    ap (λ rest. mentions bound (Const (number x)) ++ rest) (told-append bound number xs ys)
    ∙ sym (append_assoc (mentions bound (Const (number x))) (told bound number xs) (told bound number ys))

-- the place of a name that is there is that in the first names
place-first : (xs ys : List (List ℕ)) (name : List ℕ) → is_named xs name ≡ true → (place_of (xs ++ ys) name ≡ place_of xs name) × (place_of xs name < length xs)
place-first [] ys name h = absurd (true≢false (sym h))
place-first (x ∷ xs) ys name h = by (bytes_eq x name) refl (place-first xs ys name) h
  where
    by : (b : Bool) → bytes_eq x name ≡ b → (is_named xs name ≡ true → (place_of (xs ++ ys) name ≡ place_of xs name) × (place_of xs name < length xs))
        → (bytes_eq name x || is_named xs name) ≡ true
        → (cond b 0 (place_of (xs ++ ys) name + 1) ≡ cond b 0 (place_of xs name + 1)) × (cond b 0 (place_of xs name + 1) < suc (length xs))
    by true e rest k = (refl, omega arith)
    by false e rest k =
        let r = rest (sym (ap (λ b. b || is_named xs name) (bytes_eq-swap name x ∙ e)) ∙ k) in
        (ap (λ i. i + 1) r.0, let low = r.1 in omega arith)

-- that of one that is not there follows them
place-next : (xs ys : List (List ℕ)) (name : List ℕ) → is_named xs name ≡ false → place_of (xs ++ name ∷ ys) name ≡ length xs
place-next [] ys name h = ap (λ b. cond b 0 (place_of ys name + 1)) ((bytes_eq-Decides name name).1 refl)
place-next (x ∷ xs) ys name h = by (bytes_eq x name) refl (place-next xs ys name) h
  where
    by : (b : Bool) → bytes_eq x name ≡ b → (is_named xs name ≡ false → place_of (xs ++ name ∷ ys) name ≡ length xs)
        → (bytes_eq name x || is_named xs name) ≡ false → cond b 0 (place_of (xs ++ name ∷ ys) name + 1) ≡ suc (length xs)
    by true e rest k = absurd (true≢false (sym (ap (λ b. b || is_named xs name) (bytes_eq-swap name x ∙ e)) ∙ k))
    by false e rest k =
        let r = rest (sym (ap (λ b. b || is_named xs name) (bytes_eq-swap name x ∙ e)) ∙ k) in omega arith

-- how far the table has grown: the names from n on are seen
abbrev AreTold : (n : ℕ) (known : List (List ℕ)) (seen : List ℕ) → Type 0
AreTold n known seen = (j : ℕ) → is_among j seen ≡ nat_lt j (length known - n)

told-more : (n : ℕ) (known : List (List ℕ)) (name : List ℕ) (seen : List ℕ) → n ≤ length known → AreTold n known seen
    → AreTold n (known ++ name ∷ []) ((length known - n) ∷ seen)
told-more n known name seen le t j =
    ap (λ b. (length known - n == j) || b) (t j)
    ∙ last (length known - n) j (length (known ++ name ∷ []) - n) (let long = length-append known (name ∷ []) in omega arith)
  where
    last : (k j m : ℕ) → m ≡ k + 1 → ((k == j) || nat_lt j k) ≡ nat_lt j m
    last k j m e = grind (arith, nat_tests)

module _ (base n : ℕ) where
  abbrev told_in : (all others : List (List ℕ)) → List ℕ
  told_in all others = told (base + n) (number_in base all) others

  -- a name that is known adds nothing new
  old-told : (all known : List (List ℕ)) (seen rest : List ℕ) (name : List ℕ) → AreTold n known seen → place_of all name < length known
      → once seen (mentions (base + n) (Const (number_in base all name)) ++ rest) ≡ once seen rest
  old-told all known seen rest name t low = elim (below-or_from (place_of all name) n) [
    | inl lt ↦
        ap (λ first. once seen (first ++ rest)) (first-of_two (base + place_of all name) (base + n) [] ((base + place_of all name - (base + n)) ∷ []) (omega arith))
    | inr le ↦
        let there : is_among (base + place_of all name - (base + n)) seen ≡ true = t (base + place_of all name - (base + n)) ∙ grind (arith, nat_tests) in
        ap (λ first. once seen (first ++ rest)) (second-of_two (base + place_of all name) (base + n) [] ((base + place_of all name - (base + n)) ∷ []) (omega arith))
        ∙ ap (λ b. cond b (once seen rest) ((base + place_of all name - (base + n)) ∷ once ((base + place_of all name - (base + n)) ∷ seen) rest)) there
  ]

  -- one that is new adds its place
  new-told : (all known : List (List ℕ)) (seen rest : List ℕ) (name : List ℕ) → n ≤ length known → AreTold n known seen → place_of all name ≡ length known
      → once seen (mentions (base + n) (Const (number_in base all name)) ++ rest) ≡ (length known - n) ∷ once ((length known - n) ∷ seen) rest
  new-told all known seen rest name le t e =
      let place : base + place_of all name - (base + n) ≡ length known - n = omega arith in
      let none : is_among (length known - n) seen ≡ false = t (length known - n) ∙ grind (arith, nat_tests) in
      ap (λ first. once seen (first ++ rest)) (second-of_two (base + place_of all name) (base + n) [] ((base + place_of all name - (base + n)) ∷ []) (omega arith))
      ∙ (ap (λ i. once seen (i ∷ rest)) place
      ∙ ap (λ b. cond b (once seen rest) ((length known - n) ∷ once ((length known - n) ∷ seen) rest)) none)

  told-rise : (known others : List (List ℕ)) (seen : List ℕ) → n ≤ length known → AreTold n known seen
      → once seen (told_in (with_names known others) others) ≡ levels_from (length known - n) (length (with_names known others) - length known)
  told-rise known [] seen le t = let e : length known - length known ≡ 0 = omega arith in sym (ap (levels_from (length known - n)) e)
  told-rise known (name ∷ others) seen le t = by (is_named known name) refl (λ next seen. told-rise next others seen)
    where
      by : (b : Bool) → is_named known name ≡ b
          → ((next : List (List ℕ)) (seen : List ℕ) → n ≤ length next → AreTold n next seen
          → once seen (told_in (with_names next others) others) ≡ levels_from (length next - n) (length (with_names next others) - length next))
          → (let all = with_names (cond b known (known ++ name ∷ [])) others in
          once seen (mentions (base + n) (Const (number_in base all name)) ++ told_in all others) ≡ levels_from (length known - n) (length all - length known))
      by true e go =
          let all = with_names known others in
          let grown = longer (λ name. Unit {0}) known others (λ i d within. tt) in
          let first = place-first known grown.new name e in
          let same : place_of all name ≡ place_of known name = ap (λ all. place_of all name) grown.added ∙ first.0 in
          let less : place_of known name < length known = first.1 in
          old-told all known seen (told_in all others) name t (omega arith) ∙ go known seen le t
      by false e go =
          let next = known ++ name ∷ [] in
          let all = with_names next others in
          let long : length next ≡ length known + 1 = length-append known (name ∷ []) in
          let grown = longer (λ name. Unit {0}) next others (λ i d within. tt) in
          let whole : length all ≡ length next + length grown.new = ap length grown.added ∙ length-append next grown.new in
          let place : place_of all name ≡ length known =
          ap (λ all. place_of all name) (grown.added ∙ append_assoc known (name ∷ []) grown.new) ∙ place-next known grown.new name e in
          let start : length next - n ≡ length known - n + 1 = omega arith in
          let count : length all - length known ≡ suc (length all - length next) = omega arith in
          new-told all known seen (told_in all others) name le t place
          ∙ (ap (λ places. (length known - n) ∷ places)
          (go next ((length known - n) ∷ seen) (omega arith) (told-more n known name seen le t)
          ∙ ap (λ from. levels_from from (length all - length next)) start)
          ∙ ap (levels_from (length known - n)) (sym count))

-- the names that are added to a table have the places from its end on, in their order
pub told-in_order : (base : ℕ) (names others : List (List ℕ)) → once [] (told (base + length names) (number_in base (with_names names others)) others)
    ≡ levels_from 0 (length (with_names names others) - length names)
told-in_order base names others =
    let e : length names - length names ≡ 0 = omega arith in
    told-rise base (length names) names others [] (omega arith) (λ j. grind (arith, nat_tests))
    ∙ ap (λ from. levels_from from (length (with_names names others) - length names)) e
