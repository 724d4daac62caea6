-- Laws of the choice of a pair of positions.
use Rattle.std.specs.Prelude.{◌≡◌, ◌↔◌, ℕ, suc, ◌<◌, true, Some, List, [], ◌∷◌, ◌++◌, length, slice_get, All, AllPairs}
use Rattle.std.specs.List.{Contains}
use Rattle.theory.specs.Terms.{Term, height, lift}
use Rattle.theory.specs.Spines.{spine_of}
use Rattle.theory.specs.Families.{Family}
use Rattle.theory.specs.Signatures.{Signature, FamilyOf, IsEntryAt}
use Rattle.tele_eq.specs.Levels.{is_among}
use Rattle.tree_translation.specs.structural_rec.Calls.{Call, calls}
use Rattle.tree_translation.specs.structural_rec.Laws.{IsFinitary, IsTelescopeOrder, TakesNoConstructor}
use Rattle.tree_translation.specs.structural_rec.Orders.{recursive_positions}
use Rattle.tree_translation.specs.structural_rec.Positions.{Admission, Admits}
use Rattle.tree_translation.specs.structural_rec.Uses.{Use}
use Rattle.lex_recursion.specs.Descents.{FallsToParts, Falls}
use Rattle.lex_recursion.specs.FittingPairs.{FitsPair, IsUsablePair, fits_pair}
use Rattle.lex_recursion.specs.Following.{Follows, IsFixedBehind, fixed_behind, following}
use Rattle.lex_recursion.specs.PairChoices.{At, Failing, FailingPair, choose_pair, failing_row}
use Rattle.lex_recursion.specs.Pairs.{IsPair, Pair, Precedes, pair_order, pairs}

-- ---- tests

-- The fixed positions of the rest are those that the relation says, where the first positions are those of a recursion.
abbrev pub FixedBehindAreClosed : Type 0
FixedBehindAreClosed =
    (S : Signature) (tele : List Term) (j : ℕ) (a : Admission) (k : ℕ) (ps : List Term) (i : ℕ) → Admits S tele j a
    → (is_among i (fixed_behind tele (recursive_positions j a) k ps) ≡ true) ↔ IsFixedBehind tele (recursive_positions j a) k ps i

-- a position follows others exactly where something is found that it rests on
abbrev pub FollowingDecides : Type 0
FollowingDecides =
    (S : Signature) (tele : List Term) (first : List ℕ) (k : ℕ) (a : Admission) → (following S tele first k ≡ Some a) ↔ Follows S tele first k a

abbrev pub PairFitsDecides : Type 0
PairFitsDecides =
    (S : Signature) (count : ℕ) (p : Pair) (terms : List Term) (c : Call) → (fits_pair S count p terms c ≡ true) ↔ FitsPair S count p terms c

-- ---- the pairs

-- the list has each pair, and nothing else
abbrev pub PairsAreThese : Type 0
PairsAreThese = (S : Signature) (tele : List Term) (p : Pair) → Contains (pairs S tele) p ↔ IsPair S tele p

-- by the first position and then by the second one
abbrev pub PairsAscend : Type 0
PairsAscend = (S : Signature) (tele : List Term) → AllPairs Precedes (pairs S tele)

-- In the order of a pair each type mentions only positions that come before its own, so the types in that order are a telescope.
abbrev pub PairOrderIsTelescope : Type 0
PairOrderIsTelescope = (S : Signature) (tele : List Term) (p : Pair) → IsPair S tele p → IsTelescopeOrder tele (pair_order (length tele) p)

-- ---- the choice

-- The row is the first call that does not fit the pair: all calls of earlier right sides fit, and all earlier ones of its own.
pub record IsFirstFailing (S : Signature) (own count : ℕ) (p : Pair) (uses : List Use) (row : FailingPair) : Type 0 where
  pub before : List Use
  pub one : Use
  pub behind : List Use
  pub split : uses ≡ before ++ one ∷ behind
  pub earlier : IsUsablePair S own count p before
  pub first : List Call
  pub call : Call
  pub others : List Call
  pub parted : calls own one.body ≡ first ++ call ∷ others
  pub fitting : All (FitsPair S count p one.terms) first
  pub fails : ¬ FitsPair S count p one.terms call
  pub form : row ≡ failing_row p one call.term

-- The positions are those of the first usable pair: each earlier pair has a call that does not fit it.
pub record IsFirstUsable (S : Signature) (tele : List Term) (own : ℕ) (uses : List Use) (j k : ℕ) : Type 0 where
  pub pair : Pair
  pub is_pair : IsPair S tele pair
  pub first : pair.first ≡ j
  pub second : pair.second ≡ k
  pub usable : IsUsablePair S own (length tele) pair uses
  pub earlier : (q : Pair) → IsPair S tele q → Precedes q pair → (row : FailingPair) × IsFirstFailing S own (length tele) q uses row

-- a pair is chosen exactly where it is the first usable one
abbrev pub AtIsFirstUsable : Type 0
AtIsFirstUsable =
    (S : Signature) (tele : List Term) (own : ℕ) (uses : List Use) (j k : ℕ)
    → (choose_pair S tele own uses ≡ At j k) ↔ IsFirstUsable S tele own uses j k

-- one row for each of the pairs, with its first failing call
pub data AreRows (S : Signature) (own count : ℕ) (uses : List Use) : List Pair → List FailingPair → Type 0 where
  none : AreRows S own count uses [] []
  failed : {p : Pair} {others : List Pair} {row : FailingPair} {rows : List FailingPair} → IsFirstFailing S own count p uses row
      → AreRows S own count uses others rows → AreRows S own count uses (p ∷ others) (row ∷ rows)

-- `Failing` is answered exactly where each pair has a call that does not fit it, with the first one for each
abbrev pub FailingIsExact : Type 0
FailingIsExact =
    (S : Signature) (tele : List Term) (own : ℕ) (uses : List Use) (rows : List FailingPair)
    → (choose_pair S tele own uses ≡ Failing rows) ↔ AreRows S own (length tele) uses (pairs S tele) rows

-- ---- calls that fit descend

-- A call at both positions of a pair, with the clause's own terms there under the binders around it, and the families of the positions.
pub record IsCallAt (S : Signature) (p : Pair) (terms : List Term) (c : Call) (f g : Family) (to from : Term × Term) : Type 0 where
  pub outer : IsEntryAt S p.outer.number (FamilyOf f)
  pub inner : IsEntryAt S p.inner.number (FamilyOf g)
  pub x : Term
  pub first_term : slice_get terms p.first ≡ Some x
  pub first_lifted : from.0 ≡ lift x c.under 0
  pub y : Term
  pub second_term : slice_get terms p.second ≡ Some y
  pub second_lifted : from.1 ≡ lift y c.under 0
  pub first_argument : slice_get (spine_of c.term) p.first ≡ Some to.0
  pub second_argument : slice_get (spine_of c.term) p.second ≡ Some to.1

-- The arguments of a call that fits fall lexicographically: that at the first position is a strict part of the clause's own term, or it is
-- that term and the one at the second position is a strict part of the clause's own term there.
abbrev pub CallsFall : Type 0
CallsFall =
    (S : Signature) (tele : List Term) (p : Pair) (terms : List Term) (c : Call) (f g : Family) (to from : Term × Term)
    → IsPair S tele p → IsCallAt S p terms c f g to from → FitsPair S (length tele) p terms c
    → FallsToParts p.outer.number f p.inner.number g to from

abbrev pub IsLower : Term → Term → Type 0
IsLower t u = height t < height u

-- where no recursive argument is a function, their heights do
abbrev pub FinitaryCallsFall : Type 0
FinitaryCallsFall =
    (n : ℕ) (f : Family) (k : ℕ) (g : Family) (to from : Term × Term) → IsFinitary f → IsFinitary g
    → FallsToParts n f k g to from → Falls IsLower IsLower to from

-- No chain of such calls goes on for ever, unless a constructor is taken as a function.
abbrev pub FallsEnd : Type 0
FallsEnd =
    (n : ℕ) (f : Family) (k : ℕ) (g : Family) (chain : ℕ → Term × Term) → ((i : ℕ) → TakesNoConstructor n f (chain i).0)
    → ((i : ℕ) → TakesNoConstructor k g (chain i).1) → ((i : ℕ) → FallsToParts n f k g (chain (suc i)) (chain i)) → ⊥
