-- A position admits recursion exactly where something is found that recursion there rests on.
use Rattle.std.proofs.Common.{◌≡◌, ◌≢◌, ℕ, zero, suc, ◌+◌, ◌-◌, ◌<◌, Bool, true, false, ◌&&◌, ◌||◌, not, ◌==◌, nat_lt, cond, Option, Some, None, option_map, option_and_then, List, [], ◌∷◌, ◌++◌, length, map, take, drop, slice_get, inl, inr, refl, sym, ap, ap₂, ◌∙◌, subst, arith}
use Rattle.std.specs.Prelude.{◌↔◌, All, AllPairs}
use Rattle.std.specs.List.{list_any}
use Rattle.std.proofs.lemmas.Bool.{false≢true, and_from, or_from, or_parts, not-true, not_from_false}
use Rattle.std.proofs.lemmas.Bool.Decides.{Decides-eqb, Decides-ltb}
use Rattle.std.proofs.lemmas.List.{length-append, length-map, length-drop, length-take, take-append-drop}
use Rattle.std.proofs.lemmas.List.Elements.{All-nil, All-cons, All-head, All-tail}
use Rattle.std.proofs.lemmas.List.Kept.{AllPairs-cons}
use Rattle.std.proofs.lemmas.Option.{none-some}
use Rattle.std.proofs.Math.Seq.{take-append_seam, drop-append_seam}
use Rattle.theory.specs.Terms.{Term, Var, Fam}
use Rattle.theory.specs.Spines.{head_of, spine_of}
use Rattle.theory.specs.Telescopes.{applied}
use Rattle.theory.specs.Families.{Family}
use Rattle.theory.specs.Signatures.{Signature}
use Rattle.theory.proofs.Lists.{some_is}
use Rattle.theory.proofs.Spines.{applied-spine}
use Rattle.core_terms.specs.Levels.{variable}
use Rattle.core_sig.proofs.Arguments.{spine_of-applied}
use Rattle.kernel_reduce.specs.Entries.{family_in, family_at}
use Rattle.kernel_reduce.proofs.LookUps.{family-found}
use Rattle.case_below_gen.proofs.PartTests.{and-tells, or-tells}
use Rattle.tele_eq.specs.Levels.{is_among}
use Rattle.tree_translation.specs.structural_rec.Positions.{Admission, Admits, admission, admission_of, admission_in, admission_with, admission_at, admission_from, are_different, are_in_order, are_independent, family_number, fixed_positions, mentions, mentions_only, position_of, positions_of}
use Rattle.tree_translation.proofs.structural_rec.Admissions.{admission-whole}
use Rattle.tree_translation.proofs.structural_rec.FixedPositions.{mentions-before}
use Rattle.tree_translation.proofs.structural_rec.LowerParts.{head_of-applied}
use Rattle.tree_translation.proofs.structural_rec.Members.{among-first, among-later}

-- ---- positions of variables

position-tells : (j : ℕ) (t : Term) (i : ℕ) → position_of j t ≡ Some i → (t ≡ variable j i) × (i < j)
position-tells j (Var v) i h = by (nat_lt v j) refl h
  where
    by : (b : Bool) → nat_lt v j ≡ b → cond b (Some (j - (v + 1))) None ≡ Some i → (Var v ≡ variable j i) × (i < j)
    by true e h =
        let lt : v < j = (Decides-ltb v j).0 e in
        let is : j - (v + 1) ≡ i = some_is h in
        (ap Var (omega arith), omega arith)
    by false e h = absurd (none-some i h)
position-tells j _ i h = absurd (none-some i h)

position-found : (j i : ℕ) → i < j → position_of j (variable j i) ≡ Some i
position-found j i lt =
    ap (λ b. cond b (Some (j - (j - (i + 1) + 1))) None) ((Decides-ltb (j - (i + 1)) j).1 (omega arith)) ∙ ap (λ k. Some k) (omega arith)

pub record ArePositions (j : ℕ) (terms : List Term) (is : List ℕ) : Type 0 where
  pub form : terms ≡ map (variable j) is
  pub before : All (λ i. i < j) is

pub positions-tells : (j : ℕ) (terms : List Term) (is : List ℕ) → positions_of j terms ≡ Some is → ArePositions j terms is
positions-tells j [] is h = subst (ArePositions j []) (some_is h) (record { form = refl; before = All-nil (λ i. i < j) })
positions-tells j (t ∷ terms) is h = by (position_of j t) refl (positions_of j terms) (λ others d. positions-tells j terms others d) h
  where
    by : (o : Option ℕ) → position_of j t ≡ o → (r : Option (List ℕ)) → ((others : List ℕ) → r ≡ Some others → ArePositions j terms others)
        → option_and_then (λ i. option_map (λ others. i ∷ others) r) o ≡ Some is → ArePositions j (t ∷ terms) is
    by None e r rest h = absurd (none-some is h)
    by (Some i) e None rest h = absurd (none-some is h)
    by (Some i) e (Some others) rest h =
        let one = position-tells j t i e in
        let later = rest others refl in
        subst (ArePositions j (t ∷ terms)) (some_is h)
        (record { form = ap₂ (λ u us. u ∷ us) one.0 later.form; before = All-cons (λ k. k < j) i others one.1 later.before })

pub positions-found : (j : ℕ) (is : List ℕ) → All (λ i. i < j) is → positions_of j (map (variable j) is) ≡ Some is
positions-found j [] h = refl
positions-found j (i ∷ is) h =
    ap₂ (λ o r. option_and_then (λ k. option_map (λ others. k ∷ others) r) o) (position-found j i (All-head (λ k. k < j) i is h))
    (positions-found j is (All-tail (λ k. k < j) i is h))

-- ---- different positions

not-among : (x : ℕ) (xs : List ℕ) → is_among x xs ≡ false → All (λ k. x ≢ k) xs
not-among x [] h = All-nil (λ k. x ≢ k)
not-among x (y ∷ xs) h =
    let parts = or_parts (y == x) (is_among x xs) h in
    All-cons (λ k. x ≢ k) y xs (λ same. false≢true (sym parts.0 ∙ (Decides-eqb y x).1 (sym same))) (not-among x xs parts.1)

among-not : (x : ℕ) (xs : List ℕ) → All (λ k. x ≢ k) xs → is_among x xs ≡ false
among-not x [] h = refl
among-not x (y ∷ xs) h =
    or_from (y == x) (is_among x xs) (by (y == x) refl) (among-not x xs (All-tail (λ k. x ≢ k) y xs h))
  where
    by : (b : Bool) → (y == x) ≡ b → b ≡ false
    by true e = absurd (All-head (λ k. x ≢ k) y xs h (sym ((Decides-eqb y x).0 e)))
    by false e = refl

pub different-tells : (xs : List ℕ) → are_different xs ≡ true → AllPairs (λ i k. i ≢ k) xs
different-tells [] h = λ i k d lt within. absurd (omega arith)
different-tells (x ∷ xs) h =
    let parts = and-tells (not (is_among x xs)) (are_different xs) h in
    AllPairs-cons (λ i k. i ≢ k) x xs (not-among x xs (not-true (is_among x xs) parts.0)) (different-tells xs parts.1)

pub different-found : (xs : List ℕ) → AllPairs (λ i k. i ≢ k) xs → are_different xs ≡ true
different-found [] h = refl
different-found (x ∷ xs) h =
    and_from (not (is_among x xs)) (are_different xs)
    (not_from_false (is_among x xs) (among-not x xs (λ k d lt. h 0 (suc k) d (omega arith) (omega arith))))
    (different-found xs (λ i k d lt within. h (suc i) (suc k) d (omega arith) (omega arith)))

-- ---- the order of the indices

none-tells : (p : ℕ → Bool) (xs : List ℕ) → list_any p xs ≡ false → All (λ k. p k ≡ false) xs
none-tells p [] h = All-nil (λ k. p k ≡ false)
none-tells p (x ∷ xs) h =
    let parts = or_parts (p x) (list_any p xs) h in
    All-cons (λ k. p k ≡ false) x xs parts.0 (none-tells p xs parts.1)

none-found : (p : ℕ → Bool) (xs : List ℕ) → All (λ k. p k ≡ false) xs → list_any p xs ≡ false
none-found p [] h = refl
none-found p (x ∷ xs) h =
    or_from (p x) (list_any p xs) (All-head (λ k. p k ≡ false) x xs h) (none-found p xs (All-tail (λ k. p k ≡ false) x xs h))

pub in-order-tells : (tele : List Term) (xs : List ℕ) → are_in_order tele xs ≡ true → AllPairs (λ i k. mentions tele i k ≡ false) xs
in-order-tells tele [] h = λ i k d lt within. absurd (omega arith)
in-order-tells tele (x ∷ xs) h =
    let parts = and-tells (not (list_any (mentions tele x) xs)) (are_in_order tele xs) h in
    AllPairs-cons (λ i k. mentions tele i k ≡ false) x xs
    (none-tells (mentions tele x) xs (not-true (list_any (mentions tele x) xs) parts.0)) (in-order-tells tele xs parts.1)

pub in-order-found : (tele : List Term) (xs : List ℕ) → AllPairs (λ i k. mentions tele i k ≡ false) xs → are_in_order tele xs ≡ true
in-order-found tele [] h = refl
in-order-found tele (x ∷ xs) h =
    and_from (not (list_any (mentions tele x) xs)) (are_in_order tele xs)
    (not_from_false (list_any (mentions tele x) xs) (none-found (mentions tele x) xs (λ k d lt. h 0 (suc k) d (omega arith) (omega arith))))
    (in-order-found tele xs (λ i k d lt within. h (suc i) (suc k) d (omega arith) (omega arith)))

-- ---- mentions in the types of the indices

pub only-tells : (tele : List Term) (fixed indices : List ℕ) (i n : ℕ) → mentions_only tele fixed indices i n ≡ true → (k : ℕ) → k < n → mentions tele i k ≡ true
    → (is_among k fixed || is_among k indices) ≡ true
only-tells tele fixed indices i zero h k lt m = absurd (omega arith)
only-tells tele fixed indices i (suc n) h k lt m = by (n == k) refl (λ near. only-tells tele fixed indices i n parts.1 k near m)
  where
    parts : ((not (mentions tele i n) || (is_among n fixed || is_among n indices)) ≡ true) × (mentions_only tele fixed indices i n ≡ true)
    parts = and-tells (not (mentions tele i n) || (is_among n fixed || is_among n indices)) (mentions_only tele fixed indices i n) h

    by : (b : Bool) → (n == k) ≡ b → (k < n → (is_among k fixed || is_among k indices) ≡ true) → (is_among k fixed || is_among k indices) ≡ true
    by true e before =
        let same : n ≡ k = (Decides-eqb n k).0 e in
        elim (or-tells (not (mentions tele i n)) (is_among n fixed || is_among n indices) parts.0) [
          | inl none ↦ absurd (false≢true (sym (not-true (mentions tele i n) none) ∙ (ap (mentions tele i) same ∙ m)))
          | inr there ↦ subst (λ x. (is_among x fixed || is_among x indices) ≡ true) same there
        ]
    by false e before =
        let other : n ≢ k = (λ same. false≢true (sym e ∙ (Decides-eqb n k).1 same)) in
        before (grind arith)

pub only-found : (tele : List Term) (fixed indices : List ℕ) (i n : ℕ) → ((k : ℕ) → mentions tele i k ≡ true → (is_among k fixed || is_among k indices) ≡ true)
    → mentions_only tele fixed indices i n ≡ true
only-found tele fixed indices i zero h = refl
only-found tele fixed indices i (suc n) h =
    and_from (not (mentions tele i n) || (is_among n fixed || is_among n indices)) (mentions_only tele fixed indices i n)
    (by (mentions tele i n) (h n)) (only-found tele fixed indices i n h)
  where
    by : (b : Bool) → (b ≡ true → (is_among n fixed || is_among n indices) ≡ true) → (not b || (is_among n fixed || is_among n indices)) ≡ true
    by true h = h refl
    by false h = refl

pub independent-tells : (tele : List Term) (fixed indices last : List ℕ) → are_independent tele fixed indices last ≡ true → (i : ℕ) → is_among i last ≡ true
    → (is_among i fixed ≡ false) × (mentions_only tele fixed indices i i ≡ true)
independent-tells tele fixed indices [] h i among = absurd (false≢true among)
independent-tells tele fixed indices (x ∷ last) h i among =
    let parts = and-tells (not (is_among x fixed) && mentions_only tele fixed indices x x) (are_independent tele fixed indices last) h in
    elim (or-tells (x == i) (is_among i last) among) [
      | inl here ↦
          let one = and-tells (not (is_among x fixed)) (mentions_only tele fixed indices x x) parts.0 in
          subst (λ k. (is_among k fixed ≡ false) × (mentions_only tele fixed indices k k ≡ true)) ((Decides-eqb x i).0 here)
          (not-true (is_among x fixed) one.0, one.1)
      | inr later ↦ independent-tells tele fixed indices last parts.1 i later
    ]

pub independent-found : (tele : List Term) (fixed indices last : List ℕ)
    → ((i : ℕ) → is_among i last ≡ true → (is_among i fixed ≡ false) × (mentions_only tele fixed indices i i ≡ true))
    → are_independent tele fixed indices last ≡ true
independent-found tele fixed indices [] h = refl
independent-found tele fixed indices (x ∷ last) h =
    let one = h x (among-first x last) in
    and_from (not (is_among x fixed) && mentions_only tele fixed indices x x) (are_independent tele fixed indices last)
    (and_from (not (is_among x fixed)) (mentions_only tele fixed indices x x) (not_from_false (is_among x fixed) one.0) one.1)
    (independent-found tele fixed indices last (λ i among. h i (among-later i x last among)))

-- ---- a found admission is one

-- the tests of the search that a type has passed
record Told (S : Signature) (tele : List Term) (j : ℕ) (t : Term) (n : ℕ) (f : Family) (is : List ℕ) : Type 0 where
  at : slice_get tele j ≡ Some t
  head : head_of t ≡ Fam n
  known : family_at S n ≡ Some f
  counted : length (spine_of t) ≡ length f.parameters + length f.indices
  positions : positions_of j (drop (length f.parameters) (spine_of t)) ≡ Some is
  different : are_different is ≡ true
  ordered : are_in_order tele is ≡ true
  independent : are_independent tele (fixed_positions tele j (take (length f.parameters) (spine_of t))) is is ≡ true

told-admits : (S : Signature) (tele : List Term) (j : ℕ) (t : Term) (n : ℕ) (f : Family) (is : List ℕ) → Told S tele j t n f is
    → Admits S tele j (record { number = n; fixed = fixed_positions tele j (take (length f.parameters) (spine_of t)); indices = is })
told-admits S tele j t n f is told = record {
  family = f;
  parameters = ps;
  known = family-found S n f told.known;
  type = told.at ∙ ap (λ u. Some u) (sym (applied-spine t) ∙ ap₂ applied told.head (sym (take-append-drop count (spine_of t)) ∙ ap (λ us. ps ++ us) positions.form));
  parameter_count = (let long = told.counted in length-take count (spine_of t) ∙ omega arith);
  index_count = (let long = told.counted in sym (length-map is (variable j)) ∙ (ap length (sym positions.form) ∙ (length-drop count (spine_of t) ∙ omega arith)));
  before = positions.before;
  different = different-tells is told.different;
  fixed = refl;
  apart = λ i among. (independent-tells tele fixed is is told.independent i among).0;
  index_types = λ i k among m. only-tells tele fixed is i i (independent-tells tele fixed is is told.independent i among).1 k (mentions-before tele i k m) m;
  index_order = in-order-tells tele is told.ordered;
}
  where
    count : ℕ
    count = length f.parameters

    ps : List Term
    ps = take count (spine_of t)

    fixed : List ℕ
    fixed = fixed_positions tele j ps

    positions : ArePositions j (drop count (spine_of t)) is
    positions = positions-tells j (drop count (spine_of t)) is told.positions

number-tells : (h : Term) (n : ℕ) → family_number h ≡ Some n → h ≡ Fam n
number-tells (Fam g) n e = ap Fam (some_is e)
number-tells _ n e = absurd (none-some n e)

admission-tells : (S : Signature) (tele : List Term) (j : ℕ) (a : Admission) → admission S tele j ≡ Some a → Admits S tele j a
admission-tells S tele j a h = at-type (slice_get tele j) refl h
  where
    from : (t : Term) (n : ℕ) (f : Family) (is : List ℕ) → slice_get tele j ≡ Some t → head_of t ≡ Fam n → family_at S n ≡ Some f
        → length (spine_of t) ≡ length f.parameters + length f.indices → positions_of j (drop (length f.parameters) (spine_of t)) ≡ Some is
        → admission_from tele n (fixed_positions tele j (take (length f.parameters) (spine_of t))) is ≡ Some a → Admits S tele j a
    from t n f is at head known counted positions h = by ((are_different is && are_in_order tele is) && are_independent tele fixed is is) refl h
      where
        fixed : List ℕ
        fixed = fixed_positions tele j (take (length f.parameters) (spine_of t))

        by : (b : Bool) → ((are_different is && are_in_order tele is) && are_independent tele fixed is is) ≡ b
            → cond b (Some (record { number = n; fixed = fixed; indices = is })) None ≡ Some a → Admits S tele j a
        by true e h =
            let parts = and-tells (are_different is && are_in_order tele is) (are_independent tele fixed is is) e in
            let alone = and-tells (are_different is) (are_in_order tele is) parts.0 in
            subst (Admits S tele j) (some_is h)
            (told-admits S tele j t n f is (record { at = at; head = head; known = known; counted = counted; positions = positions; different = alone.0; ordered = alone.1; independent = parts.1 }))
        by false e h = absurd (none-some a h)

    with-family : (t : Term) (n : ℕ) (f : Family) → slice_get tele j ≡ Some t → head_of t ≡ Fam n → family_at S n ≡ Some f
        → admission_with tele j n (spine_of t) f ≡ Some a → Admits S tele j a
    with-family t n f at head known h = by (length (spine_of t) == length f.parameters + length f.indices) refl h
      where
        count : ℕ
        count = length f.parameters

        positions : (o : Option (List ℕ)) → positions_of j (drop count (spine_of t)) ≡ o → length (spine_of t) ≡ count + length f.indices
            → option_and_then (admission_from tele n (fixed_positions tele j (take count (spine_of t)))) o ≡ Some a → Admits S tele j a
        positions None e counted h = absurd (none-some a h)
        positions (Some is) e counted h = from t n f is at head known counted e h

        by : (b : Bool) → (length (spine_of t) == count + length f.indices) ≡ b
            → cond b (admission_at tele j n (take count (spine_of t)) (drop count (spine_of t))) None ≡ Some a → Admits S tele j a
        by true e h = positions (positions_of j (drop count (spine_of t))) refl ((Decides-eqb (length (spine_of t)) (count + length f.indices)).0 e) h
        by false e h = absurd (none-some a h)

    with-number : (t : Term) (n : ℕ) → slice_get tele j ≡ Some t → head_of t ≡ Fam n → admission_in S tele j (spine_of t) n ≡ Some a → Admits S tele j a
    with-number t n at head h = by (family_at S n) refl h
      where
        by : (o : Option Family) → family_at S n ≡ o → option_and_then (admission_with tele j n (spine_of t)) o ≡ Some a → Admits S tele j a
        by None e h = absurd (none-some a h)
        by (Some f) e h = with-family t n f at head e h

    of-type : (t : Term) → slice_get tele j ≡ Some t → admission_of S tele j t ≡ Some a → Admits S tele j a
    of-type t at h = by (family_number (head_of t)) refl h
      where
        by : (o : Option ℕ) → family_number (head_of t) ≡ o → option_and_then (admission_in S tele j (spine_of t)) o ≡ Some a → Admits S tele j a
        by None e h = absurd (none-some a h)
        by (Some n) e h = with-number t n at (number-tells (head_of t) n e) h

    at-type : (o : Option Term) → slice_get tele j ≡ o → option_and_then (admission_of S tele j) o ≡ Some a → Admits S tele j a
    at-type None e h = absurd (none-some a h)
    at-type (Some t) e h = of-type t e h

-- ---- and each admission is found

admission-found : (S : Signature) (tele : List Term) (j : ℕ) (a : Admission) → Admits S tele j a → admission S tele j ≡ Some a
admission-found S tele j a m =
    ap (option_and_then (admission_of S tele j)) m.type
    ∙ (ap₂ (λ spine head. option_and_then (admission_in S tele j spine) (family_number head)) (spine_of-applied (Fam a.number) spine) (head_of-applied (Fam a.number) spine)
    ∙ (ap (λ o. option_and_then (admission_with tele j a.number spine) (option_and_then family_in o)) m.known
    ∙ (admission-whole tele j a.number spine m.family counted
    ∙ (ap₂ (admission_at tele j a.number) front back
    ∙ (ap (option_and_then (admission_from tele a.number (fixed_positions tele j m.parameters))) (positions-found j a.indices m.before)
    ∙ (ap (λ fixed. admission_from tele a.number fixed a.indices) (sym m.fixed)
    ∙ ap (λ b. cond b (Some (record { number = a.number; fixed = a.fixed; indices = a.indices })) None) tests))))))
  where
    spine : List Term
    spine = m.parameters ++ map (variable j) a.indices

    counted : length spine ≡ length m.family.parameters + length m.family.indices
    counted = length-append m.parameters (map (variable j) a.indices) ∙ ap₂ (λ x y. x + y) m.parameter_count (length-map a.indices (variable j) ∙ m.index_count)

    front : take (length m.family.parameters) spine ≡ m.parameters
    front = ap (λ k. take k spine) (sym m.parameter_count) ∙ take-append_seam m.parameters (map (variable j) a.indices)

    back : drop (length m.family.parameters) spine ≡ map (variable j) a.indices
    back = ap (λ k. drop k spine) (sym m.parameter_count) ∙ drop-append_seam m.parameters (map (variable j) a.indices)

    tests : ((are_different a.indices && are_in_order tele a.indices) && are_independent tele a.fixed a.indices a.indices) ≡ true
    tests =
        and_from (are_different a.indices && are_in_order tele a.indices) (are_independent tele a.fixed a.indices a.indices)
        (and_from (are_different a.indices) (are_in_order tele a.indices) (different-found a.indices m.different) (in-order-found tele a.indices m.index_order))
        (independent-found tele a.fixed a.indices a.indices (λ i among. (m.apart i among, only-found tele a.fixed a.indices i i (λ k h. m.index_types i k among h))))

pub admission-decides : (S : Signature) (tele : List Term) (j : ℕ) (a : Admission) → (admission S tele j ≡ Some a) ↔ Admits S tele j a
admission-decides S tele j a = (admission-tells S tele j a, admission-found S tele j a)
