-- An order of so many positions has so many elements.
use Rattle.std.proofs.Common.{◌≡◌, ◌≢◌, ℕ, zero, suc, ◌<◌, inl, inr, Bool, true, false, cond, Option, Some, None, option_map, option_and_then, List, [], ◌∷◌, length, AllPairs, All, refl, sym, ap, ◌∙◌, subst, arith}
use Rattle.std.proofs.lemmas.Bool.{false≢true, true≢false}
use Rattle.std.proofs.lemmas.List.Elements.{All-head, All-tail}
use Rattle.std.proofs.lemmas.Option.{none-some}
use Rattle.theory.specs.Telescopes.{Telescope}
use Rattle.theory.specs.Families.{Family}
use Rattle.theory.specs.Signatures.{Signature}
use Rattle.theory.proofs.Lists.{some_is}
use Rattle.kernel_reduce.specs.Entries.{family_at}
use Rattle.tele_eq.specs.Levels.{is_among}
use Rattle.unification.specs.Occurrences.{without}
use Rattle.unification.proofs.Levels.{among-cases, among-own, among-later, not-among-head, not-among-tail, among-without}
use Rattle.tree_translation.specs.structural_rec.Laws.{IsOrder}
use Rattle.tree_translation.specs.structural_rec.Positions.{Admission, admission}
use Rattle.tree_translation.proofs.structural_rec.AdmittingPositions.{admission-decides}
use Rattle.tree_translation.proofs.structural_rec.RecursionOrders.{order-whole}
use Rattle.tree_translation.specs.Plans.{Plan, own_part}
use Rattle.tree_translation.specs.Recursion.{Recursion, recursion_with, recursion_at, recursion_of, order_of}
use Rattle.tree_translation.proofs.LevelLists.{length-levels}

-- each is there once
abbrev AreDifferent : List ℕ → Type 0
AreDifferent [] = Unit {0}
AreDifferent (x ∷ xs) = (is_among x xs ≡ false) × AreDifferent xs

-- a number other than the first and not among the others is not in the list
apart-from : (x y : ℕ) (ys : List ℕ) → x ≢ y → is_among x ys ≡ false → is_among x (y ∷ ys) ≡ false
apart-from x y ys other rest = by (is_among x (y ∷ ys)) refl
  where
    by : (b : Bool) → is_among x (y ∷ ys) ≡ b → is_among x (y ∷ ys) ≡ false
    by false e = e
    by true e = elim (among-cases x y ys e) [
      | inl same ↦ absurd (other (sym same))
      | inr there ↦ absurd (true≢false (sym there ∙ rest))
    ]

none-among : (x : ℕ) (xs : List ℕ) → All (λ y. x ≢ y) xs → is_among x xs ≡ false
none-among x [] h = refl
none-among x (y ∷ ys) h =
    apart-from x y ys (All-head (λ y. x ≢ y) y ys h) (none-among x ys (All-tail (λ y. x ≢ y) y ys h))

different : (xs : List ℕ) → AllPairs (λ x y. x ≢ y) xs → AreDifferent xs
different [] r = tt
different (x ∷ xs) r =
    (none-among x xs (λ k d w. r 0 (suc k) d (omega arith) (omega arith)), different xs (λ i j d l w. r (suc i) (suc j) d (omega arith) (omega arith)))

-- ---- without one of them

itself-among : (k x : ℕ) → k ≡ x → is_among x (k ∷ []) ≡ true
itself-among k x e = subst (λ y. is_among y (k ∷ []) ≡ true) e (among-own k [])

only-among : (k x : ℕ) → is_among x (k ∷ []) ≡ true → k ≡ x
only-among k x h = elim (among-cases x k [] h) [
  | inl e ↦ e
  | inr none ↦ absurd (false≢true none)
]

absent-stays : (k : ℕ) (xs : List ℕ) → is_among k xs ≡ false → without (k ∷ []) xs ≡ xs
absent-stays k [] h = refl
absent-stays k (x ∷ xs) h = by (absent-stays k xs (not-among-tail k x xs h)) (is_among x (k ∷ [])) refl
  where
    by : without (k ∷ []) xs ≡ xs → (b : Bool) → is_among x (k ∷ []) ≡ b → cond b (without (k ∷ []) xs) (x ∷ without (k ∷ []) xs) ≡ x ∷ xs
    by rest true e = absurd (not-among-head k x xs h (sym (only-among k x e)))
    by rest false e = ap (λ ys. x ∷ ys) rest

one-less : (k : ℕ) (xs : List ℕ) → AreDifferent xs → is_among k xs ≡ true → length xs ≡ suc (length (without (k ∷ []) xs))
one-less k [] d h = absurd (false≢true h)
one-less k (x ∷ xs) d h = by (one-less k xs d.1) (is_among x (k ∷ [])) refl
  where
    by : (is_among k xs ≡ true → length xs ≡ suc (length (without (k ∷ []) xs))) → (b : Bool) → is_among x (k ∷ []) ≡ b
        → length (x ∷ xs) ≡ suc (length (cond b (without (k ∷ []) xs) (x ∷ without (k ∷ []) xs)))
    by rest true e = ap (λ ys. suc (length ys)) (sym (absent-stays k xs (subst (λ y. is_among y xs ≡ false) (sym (only-among k x e)) d.0)))
    by rest false e = elim (among-cases k x xs h) [
      | inl same ↦ absurd (true≢false (sym (itself-among k x (sym same)) ∙ e))
      | inr there ↦ ap suc (rest there)
    ]

back : (j : ℕ) (out xs : List ℕ) → is_among j (without out xs) ≡ true → (is_among j xs ≡ true) × (is_among j out ≡ false)
back j out [] h = absurd (false≢true h)
back j out (x ∷ xs) h = by (back j out xs) (is_among x out) refl h
  where
    by : (is_among j (without out xs) ≡ true → (is_among j xs ≡ true) × (is_among j out ≡ false)) → (b : Bool) → is_among x out ≡ b
        → is_among j (cond b (without out xs) (x ∷ without out xs)) ≡ true → (is_among j (x ∷ xs) ≡ true) × (is_among j out ≡ false)
    by rest true e k = let r = rest k in (among-later j x xs r.0, r.1)
    by rest false e k = elim (among-cases j x (without out xs) k) [
      | inl same ↦ (subst (λ y. is_among y (x ∷ xs) ≡ true) same (among-own x xs), subst (λ y. is_among y out ≡ false) same e)
      | inr there ↦ let r = rest there in (among-later j x xs r.0, r.1)
    ]

none-back : (j : ℕ) (out xs : List ℕ) → is_among j xs ≡ false → is_among j (without out xs) ≡ false
none-back j out xs h = by (is_among j (without out xs)) refl
  where
    by : (b : Bool) → is_among j (without out xs) ≡ b → is_among j (without out xs) ≡ false
    by false e = e
    by true e = absurd (true≢false (sym (back j out xs e).0 ∙ h))

different-stay : (out xs : List ℕ) → AreDifferent xs → AreDifferent (without out xs)
different-stay out [] d = tt
different-stay out (x ∷ xs) d = by (different-stay out xs d.1) (is_among x out)
  where
    by : AreDifferent (without out xs) → (b : Bool) → AreDifferent (cond b (without out xs) (x ∷ without out xs))
    by rest true = rest
    by rest false = (none-back x out xs d.0, rest)

-- ---- so many of them

counted : (count : ℕ) (xs : List ℕ) → AreDifferent xs → ((i : ℕ) → i < count → is_among i xs ≡ true) → ((i : ℕ) → is_among i xs ≡ true → i < count)
    → length xs ≡ count
counted zero [] d whole within = refl
counted zero (x ∷ xs) d whole within = let low : x < 0 = within x (among-own x xs) in absurd (omega arith)
counted (suc count) xs d whole within =
    one-less count xs d (whole count (omega arith))
    ∙ ap suc (counted count (without (count ∷ []) xs) (different-stay (count ∷ []) xs d)
    (λ i low. among-without i (count ∷ []) xs (whole i (omega arith)) (other i low))
    (λ i there. lower i (back i (count ∷ []) xs there)))
  where
    other : (i : ℕ) → i < count → is_among i (count ∷ []) ≡ false
    other i low = by (is_among i (count ∷ [])) refl
      where
        by : (b : Bool) → is_among i (count ∷ []) ≡ b → is_among i (count ∷ []) ≡ false
        by false e = e
        by true e = let same : count ≡ i = only-among count i e in absurd (omega arith)

    lower : (i : ℕ) → (is_among i xs ≡ true) × (is_among i (count ∷ []) ≡ false) → i < count
    lower i r =
        let low : i < suc count = within i r.0 in
        let apart : count ≡ i → ⊥ = (λ same. true≢false (sym (itself-among count i same) ∙ r.1)) in
        omega arith

pub order-counted : (count : ℕ) (order : List ℕ) → IsOrder count order → length order ≡ count
order-counted count order h = counted count order (different order h.once) h.whole h.within

-- ---- the order of a plan

-- the position admits recursion over its family
pub record IsRecursion (S : Signature) (tele : Telescope) (r : Recursion) : Type 0 where
  pub admits : admission S tele r.position ≡ Some r.admission
  pub family : family_at S r.admission.number ≡ Some r.family

with-its-family : (S : Signature) (tele : Telescope) (j : ℕ) (r : Recursion) (a : Admission) → admission S tele j ≡ Some a → (o : Option Family) → family_at S a.number ≡ o
    → option_map (recursion_with j a) o ≡ Some r → IsRecursion S tele r
with-its-family S tele j r a at None there e = absurd (none-some r e)
with-its-family S tele j r a at (Some f) there e = subst (IsRecursion S tele) (some_is e) (record { admits = at; family = there })

at-position : (S : Signature) (tele : Telescope) (j : ℕ) (r : Recursion) (o : Option Admission) → admission S tele j ≡ o
    → option_and_then (λ a. option_map (recursion_with j a) (family_at S a.number)) o ≡ Some r → IsRecursion S tele r
at-position S tele j r None at e = absurd (none-some r e)
at-position S tele j r (Some a) at e = with-its-family S tele j r a at (family_at S a.number) refl e

pub of-position : (S : Signature) (tele : Telescope) (r : Recursion) (o : Option ℕ) → option_and_then (recursion_at S tele) o ≡ Some r → IsRecursion S tele r
of-position S tele r None e = absurd (none-some r e)
of-position S tele r (Some j) e = at-position S tele j r (admission S tele j) refl e

pub recursion-tells : (S : Signature) (plan : Plan) (r : Recursion) → recursion_of S plan ≡ Some r → IsRecursion S (own_part plan).tele r
recursion-tells S plan r e = of-position S (own_part plan).tele r plan.position e

-- it has as many positions as the function
pub order-long : (S : Signature) (plan : Plan) (o : Option Recursion) → recursion_of S plan ≡ o
    → length (order_of (length (own_part plan).tele) o) ≡ length (own_part plan).tele
order-long S plan None e = length-levels 0 (length (own_part plan).tele)
order-long S plan (Some r) e =
    order-counted (length (own_part plan).tele) _
    (order-whole S (own_part plan).tele r.position r.admission
    ((admission-decides S (own_part plan).tele r.position r.admission).0 (recursion-tells S plan r e).admits))
