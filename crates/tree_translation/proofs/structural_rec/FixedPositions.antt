-- The positions that are found fixed are those of the relation.
use Rattle.std.proofs.Common.{◌≡◌, ℕ, zero, suc, ◌<◌, ◌≤◌, Bool, true, false, ◌||◌, ◌&&◌, ◌==◌, nat_lt, cond, List, [], ◌∷◌, inl, inr, refl, sym, ap, ◌∙◌, subst, arith}
use Rattle.std.specs.List.{list_any}
use Rattle.std.specs.Prelude.{◌↔◌}
use Rattle.std.proofs.lemmas.Bool.{false≢true, or_left, or_right}
use Rattle.std.proofs.lemmas.Bool.Decides.{Decides-eqb, Decides-ltb}
use Rattle.theory.specs.Terms.{Term}
use Rattle.case_below_gen.proofs.PartTests.{or-tells, and-tells}
use Rattle.tele_eq.specs.Levels.{is_among}
use Rattle.tree_translation.specs.structural_rec.Positions.{have_position, mentions, IsFixed, with_fixed, fixed_below, fixed_positions}
use Rattle.tree_translation.specs.structural_rec.Positions.IsFixed.{parameter, behind}
use Rattle.tree_translation.proofs.structural_rec.Members.{among-first, among-later, any-tells, any-found}

lt-tells : (i j : ℕ) (b : Bool) → (nat_lt i j && b) ≡ true → i < j
lt-tells i j b h = (Decides-ltb i j).0 (and-tells (nat_lt i j) b h).0

-- mentioned positions come before
pub have-before : (j i : ℕ) (terms : List Term) → have_position j i terms ≡ true → i < j
have-before j i terms h = lt-tells i j _ h

pub mentions-before : (tele : List Term) (k i : ℕ) → mentions tele k i ≡ true → i < k
mentions-before tele k i h = lt-tells i k _ h

pub fixed-before : (tele : List Term) (j : ℕ) (ps : List Term) {i : ℕ} → IsFixed tele j ps i → i < j
fixed-before tele j ps (parameter {i} h) = have-before j i ps h
fixed-before tele j ps (behind {k} {i} fixed h) =
    let near = mentions-before tele k i h in
    let far = fixed-before tele j ps fixed in
    omega arith

-- whether position i is mentioned by the parameters or by those that are found
abbrev is_next : (tele : List Term) (j : ℕ) (ps : List Term) (i : ℕ) (found : List ℕ) → Bool
is_next tele j ps i found = have_position j i ps || list_any (λ k. mentions tele k i) found

-- ---- found positions are fixed

next-fixed : (tele : List Term) (j : ℕ) (ps : List Term) (i : ℕ) (found : List ℕ) → ((k : ℕ) → is_among k found ≡ true → IsFixed tele j ps k)
    → is_next tele j ps i found ≡ true → IsFixed tele j ps i
next-fixed tele j ps i found known h = elim (or-tells (have_position j i ps) (list_any (λ k. mentions tele k i) found) h) [
  | inl named ↦ parameter named
  | inr mentioned ↦ let m = any-tells (λ k. mentions tele k i) found mentioned in behind (known m.k m.among) m.passes
]

with-fixed : (tele : List Term) (j : ℕ) (ps : List Term) (i : ℕ) (found : List ℕ) → ((k : ℕ) → is_among k found ≡ true → IsFixed tele j ps k)
    → (k : ℕ) → is_among k (with_fixed tele j ps i found) ≡ true → IsFixed tele j ps k
with-fixed tele j ps i found known k h = by (is_next tele j ps i found) refl h
  where
    by : (b : Bool) → is_next tele j ps i found ≡ b → is_among k (cond b (i ∷ found) found) ≡ true → IsFixed tele j ps k
    by true e h = elim (or-tells (i == k) (is_among k found) h) [
      | inl same ↦ subst (IsFixed tele j ps) ((Decides-eqb i k).0 same) (next-fixed tele j ps i found known e)
      | inr before ↦ known k before
    ]
    by false e h = known k h

below-fixed : (tele : List Term) (j : ℕ) (ps : List Term) (at : ℕ) (found : List ℕ) → ((k : ℕ) → is_among k found ≡ true → IsFixed tele j ps k)
    → (k : ℕ) → is_among k (fixed_below tele j ps at found) ≡ true → IsFixed tele j ps k
below-fixed tele j ps zero found known k h = known k h
below-fixed tele j ps (suc at) found known k h =
    below-fixed tele j ps at (with_fixed tele j ps at found) (with-fixed tele j ps at found known) k h

-- ---- fixed positions are found

with-kept : (tele : List Term) (j : ℕ) (ps : List Term) (i : ℕ) (found : List ℕ) (k : ℕ) → is_among k found ≡ true
    → is_among k (with_fixed tele j ps i found) ≡ true
with-kept tele j ps i found k h = by (is_next tele j ps i found)
  where
    by : (b : Bool) → is_among k (cond b (i ∷ found) found) ≡ true
    by true = among-later k i found h
    by false = h

with-next : (tele : List Term) (j : ℕ) (ps : List Term) (i : ℕ) (found : List ℕ) → is_next tele j ps i found ≡ true
    → is_among i (with_fixed tele j ps i found) ≡ true
with-next tele j ps i found h = ap (λ b. is_among i (cond b (i ∷ found) found)) h ∙ among-first i found

-- a fixed position at `at` is mentioned, if all fixed positions after it are found
fixed-next : (tele : List Term) (j : ℕ) (ps : List Term) (i : ℕ) (found : List ℕ) → ((k : ℕ) → i < k → IsFixed tele j ps k → is_among k found ≡ true)
    → IsFixed tele j ps i → is_next tele j ps i found ≡ true
fixed-next tele j ps i found known (parameter h) = or_left (have_position j i ps) (list_any (λ k. mentions tele k i) found) h
fixed-next tele j ps i found known (behind {k} fixed h) =
    or_right (have_position j i ps) (list_any (λ k. mentions tele k i) found)
    (any-found (λ k. mentions tele k i) found k (known k (mentions-before tele k i h) fixed) h)

with-whole : (tele : List Term) (j : ℕ) (ps : List Term) (at : ℕ) (found : List ℕ) → ((k : ℕ) → at < k → IsFixed tele j ps k → is_among k found ≡ true)
    → (k : ℕ) → at ≤ k → IsFixed tele j ps k → is_among k (with_fixed tele j ps at found) ≡ true
with-whole tele j ps at found known k le fixed = by (at == k) refl
  where
    by : (b : Bool) → (at == k) ≡ b → is_among k (with_fixed tele j ps at found) ≡ true
    by true e =
        let same : at ≡ k = (Decides-eqb at k).0 e in
        subst (λ i. is_among i (with_fixed tele j ps at found) ≡ true) same
        (with-next tele j ps at found (fixed-next tele j ps at found known (subst (IsFixed tele j ps) (sym same) fixed)))
    by false e =
        let other : ¬ (at ≡ k) = (λ same. false≢true (sym e ∙ (Decides-eqb at k).1 same)) in
        with-kept tele j ps at found k (known k (grind arith) fixed)

below-whole : (tele : List Term) (j : ℕ) (ps : List Term) (at : ℕ) (found : List ℕ) → ((k : ℕ) → at ≤ k → IsFixed tele j ps k → is_among k found ≡ true)
    → (k : ℕ) → IsFixed tele j ps k → is_among k (fixed_below tele j ps at found) ≡ true
below-whole tele j ps zero found known k fixed = known k (omega arith) fixed
below-whole tele j ps (suc at) found known k fixed =
    below-whole tele j ps at (with_fixed tele j ps at found)
    (with-whole tele j ps at found (λ i lt f. known i (omega arith) f)) k fixed

pub fixed-decides : (tele : List Term) (j : ℕ) (ps : List Term) (i : ℕ) → (is_among i (fixed_positions tele j ps) ≡ true) ↔ IsFixed tele j ps i
fixed-decides tele j ps i = (
  below-fixed tele j ps j [] (λ k h. absurd (false≢true h)) i,
  λ fixed. below-whole tele j ps j [] (λ k le f. let lt = fixed-before tele j ps f in absurd (omega arith)) i fixed,
)
