-- A number that is read is a level that is left, and where one is wrong some level that is left goes on with the bytes before the place.
use Rattle.std.proofs.Common.{◌≡◌, ℕ, zero, suc, ◌+◌, ◌-◌, ◌*◌, ◌/◌, ◌%◌, ◌<◌, ◌≤◌, Bool, true, false, List, [], ◌∷◌, ◌++◌, length, refl, sym, ap, ap₂, ◌∙◌, subst, append_assoc, append-nil, arith, inl, inr}
use Rattle.std.specs.Prelude.{◌⊎◌, ◌==◌, ◌&&◌, ◌||◌, nat_lt, Ok, Option, Some, None, decimal, slice_get}
use Rattle.std.proofs.lemmas.Bool.{and_parts, false≢true}
use Rattle.std.proofs.lemmas.Bool.Decides.{nat_tests}
use Rattle.std.proofs.lemmas.Fmt.{decimal_step}
use Rattle.theory.specs.Terms.{top}
use Rattle.theory.specs.Signatures.{Entry, FamilyOf, Signature}
use Rattle.theory.specs.SignatureScopes.{IsFamilyNumber}
use Rattle.core_text.specs.LineReading.{level_list, levels_left, some_level_left, identities_left}
use Rattle.core_text.specs.Reading.{wrong, is_digit, with_digit, is_left, some_left, begins_level, one_digit, level_from, read_level}
use Rattle.core_text.specs.declared.instances.Series.TheVariants.{Elim, AxiomK}
use Rattle.core_text.proofs.Completions.{IsFront, front-less, Meets, meets-if, meets-wrong}
use Rattle.core_text.proofs.WordsRead.{digit-bounds, decimal-one, decimal-more}
use Rattle.core_text.proofs.Outcomes.{lt-is}

-- ---- whether some level is left

abbrev pub SomeLeft : List Bool → Type 0
SomeLeft levels = (v : ℕ) × (is_left levels v ≡ true)

abbrev pub NoneLeft : List Bool → Type 0
NoneLeft levels = (v : ℕ) → is_left levels v ≡ false

pub some-or-none : (levels : List Bool) → SomeLeft levels ⊎ NoneLeft levels
some-or-none [] = inr (λ v. refl)
some-or-none (true ∷ levels) = inl (0, refl)
some-or-none (false ∷ levels) = by (some-or-none levels)
  where
    by : SomeLeft levels ⊎ NoneLeft levels → SomeLeft (false ∷ levels) ⊎ NoneLeft (false ∷ levels)
    by (inl some) = inl (suc some.0, some.1)
    by (inr none) = inr later
      where
        later : NoneLeft (false ∷ levels)
        later zero = refl
        later (suc v) = none v

-- one of those from n on
pub some-of : (levels : List Bool) (n k : ℕ) → some_left levels n k ≡ true → (v : ℕ) × (is_left levels v ≡ true) × (n ≤ v) × (v < n + k)
some-of levels n zero e = absurd (false≢true e)
some-of levels n (suc k) e = by (is_left levels n) refl (some-of levels (n + 1) k) e
  where
    by : (b : Bool) → is_left levels n ≡ b → (some_left levels (n + 1) k ≡ true → (v : ℕ) × (is_left levels v ≡ true) × (n + 1 ≤ v) × (v < n + 1 + k)) → (b || some_left levels (n + 1) k) ≡ true → (v : ℕ) × (is_left levels v ≡ true) × (n ≤ v) × (v < n + suc k)
    by true is others same = (n, is, omega arith, omega arith)
    by false is others same = let more = others same in (more.0, more.1, omega (arith, more.2), omega (arith, more.3))

listed-left : (left : ℕ → Bool) (n k i : ℕ) → is_left (level_list left n k) i ≡ true → left (n + i) ≡ true
listed-left left n zero i e = absurd (false≢true e)
listed-left left n (suc k) zero e = ap left (omega arith) ∙ e
listed-left left n (suc k) (suc i) e = ap left (omega arith) ∙ listed-left left (n + 1) k i e

-- where K of Eq.i is left, it is so at some level
pub level-of-axiom : (S : Signature) (i : ℕ) → is_left (identities_left S) i ≡ true → SomeLeft (levels_left S (AxiomK i))
unfolding identities_left some_level_left
level-of-axiom S i e =
    let same : 0 + i ≡ i = omega arith in
    let found = some-of (levels_left S (AxiomK i)) 0 top (subst (λ j. some_left (levels_left S (AxiomK j)) 0 top ≡ true) same (listed-left (λ j. some_left (levels_left S (AxiomK j)) 0 top) 0 top i e)) in
    (found.0, found.1)

-- ---- whether some eliminator is left

abbrev pub SomeEliminator : Signature → Type 0
SomeEliminator S = (g : ℕ) × IsFamilyNumber S g × SomeLeft (levels_left S (Elim g))

abbrev pub NoEliminator : Signature → Type 0
NoEliminator S = (g m : ℕ) → IsFamilyNumber S g → is_left (levels_left S (Elim g)) m ≡ false

-- of a family among the first k entries
abbrev NoneBefore : Signature → ℕ → Type 0
NoneBefore S k = (g m : ℕ) → g < k → IsFamilyNumber S g → is_left (levels_left S (Elim g)) m ≡ false

found-within : (es : List Entry) (n : ℕ) (e : Entry) → slice_get es n ≡ Some e → n < length es
found-within [] n e is = absurd (cc)
found-within (x ∷ es) zero e is = omega arith
found-within (x ∷ es) (suc n) e is = omega (arith, found-within es n e is)

at-number : (S : Signature) (k : ℕ) (o : Option Entry) → slice_get S.entries k ≡ o → SomeEliminator S ⊎ ((m : ℕ) → IsFamilyNumber S k → is_left (levels_left S (Elim k)) m ≡ false)
at-number S k (Some (FamilyOf f)) is = by (some-or-none (levels_left S (Elim k)))
  where
    by : SomeLeft (levels_left S (Elim k)) ⊎ NoneLeft (levels_left S (Elim k)) → SomeEliminator S ⊎ ((m : ℕ) → IsFamilyNumber S k → is_left (levels_left S (Elim k)) m ≡ false)
    by (inl some) = inl (k, (f, is), some)
    by (inr none) = inr (λ m family. none m)
at-number S k (Some _) is = inr (λ m family. absurd (let other = family.1 in cc))
at-number S k None is = inr (λ m family. absurd (let other = family.1 in cc))

search-before : (S : Signature) (k : ℕ) → SomeEliminator S ⊎ NoneBefore S k
search-before S zero = inr (λ g m lt family. absurd (omega (arith, lt)))
search-before S (suc k) = by (search-before S k) (at-number S k (slice_get S.entries k) refl)
  where
    by : SomeEliminator S ⊎ NoneBefore S k → SomeEliminator S ⊎ ((m : ℕ) → IsFamilyNumber S k → is_left (levels_left S (Elim k)) m ≡ false) → SomeEliminator S ⊎ NoneBefore S (suc k)
    by (inl some) here = inl some
    by (inr none) (inl some) = inl some
    by (inr none) (inr here) = inr all
      where
        all : NoneBefore S (suc k)
        all g m lt family = last (g == k) refl
          where
            last : (b : Bool) → (g == k) ≡ b → is_left (levels_left S (Elim g)) m ≡ false
            last true e =
                let same : g ≡ k = grind (arith, nat_tests) in
                subst (λ j. IsFamilyNumber S j → is_left (levels_left S (Elim j)) m ≡ false) (sym same) (here m) family
            last false e = none g m (grind (arith, nat_tests)) family

pub eliminator-or-none : (S : Signature) → SomeEliminator S ⊎ NoEliminator S
eliminator-or-none S = by (search-before S (length S.entries))
  where
    by : SomeEliminator S ⊎ NoneBefore S (length S.entries) → SomeEliminator S ⊎ NoEliminator S
    by (inl some) = inl some
    by (inr none) = inr (λ g m family. none g m (found-within S.entries g (FamilyOf family.0) family.1) family)

-- ---- a level that is read after a text

module _ (levels : List Bool) (V : List ℕ → Type 0) (text whole : List ℕ) (fronts : (v : ℕ) → is_left levels v ≡ true → IsFront V (text ++ decimal v)) where
  -- the number and what comes after it
  abbrev pub Levelled : List ℕ → ℕ → List ℕ → Type 0
  Levelled rest v r = (rest ≡ decimal v ++ r) × (is_left levels v ≡ true)

  -- after the first digit
  digit-front : (b : ℕ) → is_digit b ≡ true → begins_level levels (b - 48) ≡ true → IsFront V (text ++ b ∷ [])
  digit-front b digit begun = by (is_left levels (b - 48)) refl begun
    where
      by : (c : Bool) → is_left levels (b - 48) ≡ c → (c || (nat_lt 0 (b - 48) && some_left levels (10 * (b - 48)) 10)) ≡ true → IsFront V (text ++ b ∷ [])
      by true left e = subst (λ ds. IsFront V (text ++ ds)) (sym (decimal-one b [] digit ∙ nothing (decimal (b - 48)))) (fronts (b - 48) left)
        where
          nothing : (xs : List ℕ) → xs ++ [] ≡ xs
          nothing xs = append-nil xs
      by false left e =
          let bounds = digit-bounds b digit in
          let parts = and_parts (nat_lt 0 (b - 48)) (some_left levels (10 * (b - 48)) 10) e in
          let some = lt-is 0 (b - 48) parts.0 in
          let found = some-of levels (10 * (b - 48)) 10 parts.1 in
          let v = found.0 in
          let front : v / 10 ≡ b - 48 = omega (arith, found.2, found.3) in
          let one : decimal (b - 48) ≡ b ∷ [] = sym (decimal-one b [] digit ∙ append-nil (decimal (b - 48))) in
          front-less V (text ++ b ∷ []) ((48 + v % 10) ∷ [])
          (subst (IsFront V)
          (ap (λ ds. text ++ ds) (decimal_step v (omega (arith, some, found.2)) (omega (arith, bounds.1, found.3)) ∙ ap₂ (λ w ds. w ++ ds) (ap decimal front ∙ one) refl)
          ∙ sym (append_assoc text (b ∷ []) ((48 + v % 10) ∷ [])))
          (fronts v found.1))

  module _ (b : ℕ) (rest : List ℕ) (at : whole ≡ text ++ b ∷ rest) (digit : is_digit b ≡ true) (begun : begins_level levels (b - 48) ≡ true) where
    one-meets : Meets (Levelled (b ∷ rest)) V whole (one_digit levels (b - 48) rest)
    one-meets =
        meets-if (Levelled (b ∷ rest)) V whole (is_left levels (b - 48)) (Ok (b - 48, rest)) (wrong rest)
        (λ left. (decimal-one b rest digit, left))
        (λ e. meets-wrong (Levelled (b ∷ rest)) V (text ++ b ∷ []) rest whole (at ∙ sym (append_assoc text (b ∷ []) rest)) (digit-front b digit begun))

  from-meets : (b : ℕ) (rest : List ℕ) → whole ≡ text ++ b ∷ rest → is_digit b ≡ true → begins_level levels (b - 48) ≡ true → Meets (Levelled (b ∷ rest)) V whole (level_from levels (b - 48) rest)
  from-meets b [] at digit begun = one-meets b [] at digit begun
  from-meets b (c ∷ rest) at digit begun =
      meets-if (Levelled (b ∷ c ∷ rest)) V whole (is_digit c && (nat_lt 0 (b - 48) && is_left levels (with_digit (b - 48) c))) (Ok (with_digit (b - 48) c, rest)) (one_digit levels (b - 48) (c ∷ rest))
      (λ e. two (and_parts (is_digit c) (nat_lt 0 (b - 48) && is_left levels (with_digit (b - 48) c)) e))
      (λ e. one-meets b (c ∷ rest) at digit begun)
    where
      two : (is_digit c ≡ true) × ((nat_lt 0 (b - 48) && is_left levels (with_digit (b - 48) c)) ≡ true) → Levelled (b ∷ c ∷ rest) (with_digit (b - 48) c) rest
      two parts =
          let inner = and_parts (nat_lt 0 (b - 48)) (is_left levels (with_digit (b - 48) c)) parts.1 in
          let one = digit-bounds b digit in
          let other = digit-bounds c parts.0 in
          (decimal-one b (c ∷ rest) digit ∙ decimal-more (b - 48) c rest parts.0 (lt-is 0 (b - 48) inner.0) (omega (arith, one.1, other.1)), inner.1)

  pub level-meets : (rest : List ℕ) → whole ≡ text ++ rest → IsFront V text → Meets (Levelled rest) V whole (read_level levels rest)
  level-meets [] at start = meets-wrong (Levelled []) V text [] whole at start
  level-meets (b ∷ rest) at start =
      meets-if (Levelled (b ∷ rest)) V whole (is_digit b && begins_level levels (b - 48)) (level_from levels (b - 48) rest) (wrong (b ∷ rest))
      (λ e. let parts = and_parts (is_digit b) (begins_level levels (b - 48)) e in from-meets b rest at parts.0 parts.1)
      (λ e. meets-wrong (Levelled (b ∷ rest)) V text (b ∷ rest) whole at start)
