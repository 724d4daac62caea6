-- The names of the prelude hold no `!`, and so drafts may enter it.
use Rattle.std.proofs.Common.{◌≡◌, ℕ, ◌+◌, ◌/◌, ◌%◌, ◌==◌, ◌||◌, Bool, true, false, cond, nat_lt, [], ◌∷◌, ◌++◌, get_or, All, refl, ap, ap₂, arith}
use Rattle.std.specs.List.{range_with_len}
use Rattle.std.proofs.lemmas.Bool.{ne_eqb}
use Rattle.std.proofs.lemmas.List.Elements.{All-append, All-cons, All-map, All-nil}
use Rattle.theory.specs.Terms.{top}
use Rattle.theory.specs.Families.{Family, Constructor}
use Rattle.theory.specs.Prelude.{level_text, empty_family, equality_family, unit_family, pair_family, at_levels, prelude}
use Rattle.theory.specs.Signatures.{FamilyOf}
use Rattle.family_check.proofs.PreludeEntries.{prelude-settled, prelude-first}
use Rattle.drafts.specs.draft_entering.FreeNames.{is_marked, HasUnmarkedNames}
use Rattle.drafts.proofs.draft_entering.UnmarkedNames.{names-free}
use Rattle.drafts.specs.entering_laws.Laws.{IsUnmarked, PreludeIsOpen}

-- a digit is no `!`
digit : (b : ℕ) → ((48 + b) == 33) ≡ false
digit b = ne_eqb (48 + b) 33 (λ e. omega arith)

digits : (i : ℕ) → is_marked (level_text i) ≡ false
digits i = by (nat_lt i 10)
  where
    by : (b : Bool) → is_marked (cond b ((48 + i) ∷ []) ((48 + i / 10) ∷ (48 + i % 10) ∷ [])) ≡ false
    by true = ap (λ x. x || false) (digit i)
    by false = ap₂ (λ x y. x || (y || false)) (digit (i / 10)) (digit (i % 10))

only-one : (c : Constructor) → is_marked c.name ≡ false → All (λ k. is_marked k.name ≡ false) (c ∷ [])
only-one c h = All-cons (λ k. is_marked k.name ≡ false) c [] h (All-nil (λ k. is_marked k.name ≡ false))

equality-unmarked : (i : ℕ) → HasUnmarkedNames (FamilyOf (equality_family i))
equality-unmarked i = (digits i, only-one _ (digits i))

unit-unmarked : (i : ℕ) → HasUnmarkedNames (FamilyOf (unit_family i))
unit-unmarked i = (digits i, only-one _ (digits i))

pair-unmarked : (i : ℕ) → HasUnmarkedNames (FamilyOf (pair_family i))
pair-unmarked i = (digits i, only-one _ (digits i))

levels-unmarked : (family : ℕ → Family) → ((i : ℕ) → HasUnmarkedNames (FamilyOf (family i))) → All HasUnmarkedNames (at_levels family)
levels-unmarked family h =
    All-map HasUnmarkedNames (λ i. FamilyOf (family i)) (range_with_len 0 top) (λ k d w. h (get_or (range_with_len 0 top) k d))

empty-unmarked : HasUnmarkedNames (FamilyOf empty_family)
empty-unmarked = (refl, All-nil (λ c. is_marked c.name ≡ false))

pub prelude-unmarked : (k : Bool) → IsUnmarked (prelude k)
prelude-unmarked k =
    All-append HasUnmarkedNames (FamilyOf empty_family ∷ at_levels equality_family ++ at_levels unit_family) (at_levels pair_family)
    (All-append HasUnmarkedNames (FamilyOf empty_family ∷ at_levels equality_family) (at_levels unit_family)
    (All-cons HasUnmarkedNames (FamilyOf empty_family) (at_levels equality_family) empty-unmarked (levels-unmarked equality_family equality-unmarked))
    (levels-unmarked unit_family unit-unmarked))
    (levels-unmarked pair_family pair-unmarked)

pub prelude-open : PreludeIsOpen
prelude-open k = (
  record { settled = prelude-settled k; prelude = prelude-first k; tabled = names-free (prelude k) (prelude-unmarked k) },
  prelude-unmarked k,
)
