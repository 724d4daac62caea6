-- The fixed positions of the rest are those that the relation says.
use Rattle.std.proofs.Common.{◌≡◌, ◌⊎◌, inl, inr, ℕ, Bool, true, false, ◌==◌, cond, List, [], ◌∷◌, ◌++◌, flat_map, refl, sym, ap, ◌∙◌}
use Rattle.std.specs.Prelude.{◌↔◌}
use Rattle.std.proofs.lemmas.Bool.{false≢true, or_left}
use Rattle.std.proofs.lemmas.Bool.Decides.{Decides-eqb}
use Rattle.theory.specs.Terms.{Term}
use Rattle.theory.specs.Signatures.{Signature}
use Rattle.case_below_gen.proofs.PartTests.{or-tells}
use Rattle.tele_eq.specs.Levels.{is_among}
use Rattle.tree_translation.specs.structural_rec.Positions.{Admission, Admits, IsFixed, fixed_positions, mentions}
use Rattle.tree_translation.specs.structural_rec.Positions.IsFixed.{parameter, behind}
use Rattle.tree_translation.specs.structural_rec.Orders.{unless_among, recursive_positions}
use Rattle.tree_translation.proofs.structural_rec.FixedPositions.{fixed-decides}
use Rattle.tree_translation.proofs.structural_rec.Members.{among-later}
use Rattle.tree_translation.proofs.structural_rec.RecursionOrders.{AreInOrder, Follows, Rising, among-left, among-right, among-tells, moved-back, recursive-in-order}
use Rattle.lex_recursion.specs.Following.{IsFixedBehind, fixed_behind}
use Rattle.lex_recursion.specs.Following.IsFixedBehind.{of_parameter, of_type}

-- ---- a list without the first positions

pub unless-tells : (first xs : List ℕ) (i : ℕ) → is_among i (flat_map (unless_among first) xs) ≡ true
    → (is_among i xs ≡ true) × (is_among i first ≡ false)
unless-tells first [] i h = absurd (false≢true h)
unless-tells first (x ∷ xs) i h = elim (among-tells i (unless_among first x) (flat_map (unless_among first) xs) h) [
  | inl here ↦ by (is_among x first) refl here
  | inr later ↦ let rest = unless-tells first xs i later in (among-later i x xs rest.0, rest.1)
]
  where
    by : (b : Bool) → is_among x first ≡ b → is_among i (cond b [] (x ∷ [])) ≡ true → (is_among i (x ∷ xs) ≡ true) × (is_among i first ≡ false)
    by true e here = absurd (false≢true here)
    by false e here = elim (or-tells (x == i) false here) [
      | inl same ↦ let is : x ≡ i = (Decides-eqb x i).0 same in (or_left (x == i) (is_among i xs) same, ap (λ k. is_among k first) (sym is) ∙ e)
      | inr none ↦ absurd (false≢true none)
    ]

pub unless-has : (first xs : List ℕ) (i : ℕ) → is_among i xs ≡ true → is_among i first ≡ false
    → is_among i (flat_map (unless_among first) xs) ≡ true
unless-has first [] i among apart = absurd (false≢true among)
unless-has first (x ∷ xs) i among apart = elim (or-tells (x == i) (is_among i xs) among) [
  | inl here ↦
      let same : x ≡ i = (Decides-eqb x i).0 here in
      among-left i (unless_among first x) (flat_map (unless_among first) xs)
      (ap (λ b. is_among i (cond b [] (x ∷ []))) (ap (λ k. is_among k first) same ∙ apart) ∙ or_left (x == i) false here)
  | inr later ↦ among-right i (unless_among first x) (flat_map (unless_among first) xs) (unless-has first xs i later apart)
]

pub unless-rising : (first xs : List ℕ) → Rising xs → Rising (flat_map (unless_among first) xs)
unless-rising first [] rising = tt
unless-rising first (x ∷ xs) rising = by (is_among x first) (unless-rising first xs rising.1)
  where
    by : (b : Bool) → Rising (flat_map (unless_among first) xs) → Rising (cond b [] (x ∷ []) ++ flat_map (unless_among first) xs)
    by true rest = rest
    by false rest = (λ i among. rising.0 i (unless-tells first xs i among).0, rest)

-- ---- positions in order are closed under mentions

follows-closed : (tele : List Term) (first xs : List ℕ) (i k : ℕ) → Follows tele first xs → is_among i xs ≡ true → mentions tele i k ≡ true
    → (is_among k first ≡ true) ⊎ (is_among k xs ≡ true)
follows-closed tele first [] i k h among m = absurd (false≢true among)
follows-closed tele first (x ∷ xs) i k h among m = elim (or-tells (x == i) (is_among i xs) among) [
  | inl here ↦ inl (h.0 k (ap (λ n. mentions tele n k) ((Decides-eqb x i).0 here) ∙ m))
  | inr later ↦ moved-back k x first xs (follows-closed tele (x ∷ first) xs i k h.1 later m)
]

pub order-closed : (tele : List Term) (first : List ℕ) → AreInOrder tele first → (i k : ℕ) → is_among i first ≡ true → mentions tele i k ≡ true
    → is_among k first ≡ true
order-closed tele first h i k among m = elim (follows-closed tele [] first i k h.follow among m) [
  | inl none ↦ absurd (false≢true none)
  | inr there ↦ there
]

-- ---- the relation

-- a fixed position outside positions that are closed under mentions is reached outside them
fixed-outside : (tele : List Term) (first : List ℕ) (j : ℕ) (ps : List Term)
    → ((n i : ℕ) → is_among n first ≡ true → mentions tele n i ≡ true → is_among i first ≡ true) → {i : ℕ} → IsFixed tele j ps i
    → is_among i first ≡ false → IsFixedBehind tele first j ps i
fixed-outside tele first j ps closed (parameter h) apart = of_parameter h apart
fixed-outside tele first j ps closed (behind {k} {i} fixed m) apart = by (is_among k first) refl (λ e. fixed-outside tele first j ps closed fixed e)
  where
    by : (b : Bool) → is_among k first ≡ b → (is_among k first ≡ false → IsFixedBehind tele first j ps k) → IsFixedBehind tele first j ps i
    by true e rest = absurd (false≢true (sym apart ∙ closed k i e m))
    by false e rest = of_type (rest e) m apart

outside-fixed : (tele : List Term) (first : List ℕ) (k : ℕ) (ps : List Term) {i : ℕ} → IsFixedBehind tele first k ps i
    → IsFixed tele k ps i × (is_among i first ≡ false)
outside-fixed tele first k ps (of_parameter h apart) = (parameter h, apart)
outside-fixed tele first k ps (of_type fixed m apart) = (behind (outside-fixed tele first k ps fixed).0 m, apart)

pub fixed-behind-decides : (S : Signature) (tele : List Term) (j : ℕ) (a : Admission) (k : ℕ) (ps : List Term) (i : ℕ) → Admits S tele j a
    → (is_among i (fixed_behind tele (recursive_positions j a) k ps) ≡ true) ↔ IsFixedBehind tele (recursive_positions j a) k ps i
fixed-behind-decides S tele j a k ps i m = (tells, found)
  where
    first : List ℕ
    first = recursive_positions j a

    tells : is_among i (fixed_behind tele first k ps) ≡ true → IsFixedBehind tele first k ps i
    tells h =
        let parts = unless-tells first (fixed_positions tele k ps) i h in
        fixed-outside tele first k ps (order-closed tele first (recursive-in-order S tele j a m)) ((fixed-decides tele k ps i).0 parts.0) parts.1

    found : IsFixedBehind tele first k ps i → is_among i (fixed_behind tele first k ps) ≡ true
    found h =
        let parts = outside-fixed tele first k ps h in
        unless-has first (fixed_positions tele k ps) i ((fixed-decides tele k ps i).1 parts.0) parts.1
