-- Laws of the choice of a position.
use Rattle.std.specs.Prelude.{◌≡◌, ◌≢◌, ◌⊎◌, ◌↔◌, ℕ, suc, ◌+◌, ◌<◌, ◌≤◌, true, false, Some, List, [], ◌∷◌, ◌++◌, length, slice_get, All, AllPairs}
use Rattle.theory.specs.Terms.{Term, Con, height}
use Rattle.theory.specs.Spines.{head_of}
use Rattle.theory.specs.Telescopes.{applied}
use Rattle.theory.specs.Families.{Family, Constructor, Recursive}
use Rattle.theory.specs.Signatures.{Signature}
use Rattle.case_below_gen.specs.StrictParts.{IsRecursiveArgument, IsStrictPart}
use Rattle.tree_translation.specs.structural_rec.Calls.{Call, calls, has_constant}
use Rattle.tele_eq.specs.Levels.{is_among}
use Rattle.tree_translation.specs.structural_rec.Positions.{Admission, Admits, IsFixed, admission, fixed_positions, mentions}
use Rattle.tree_translation.specs.structural_rec.Orders.{recursion_order}
use Rattle.tree_translation.specs.structural_rec.Uses.{Use, is_recursive}
use Rattle.tree_translation.specs.structural_rec.Fitting.{Fits, AllFit, IsUsable, fits}
use Rattle.tree_translation.specs.structural_rec.Choices.{NotRecursive, At, NotSmaller, Failing, choose, failing_row}

-- ---- tests

-- the fixed positions are those that the relation says
abbrev pub FixedAreClosed : Type 0
FixedAreClosed =
    (tele : List Term) (j : ℕ) (ps : List Term) (i : ℕ) → (is_among i (fixed_positions tele j ps) ≡ true) ↔ IsFixed tele j ps i

-- a position admits recursion exactly where something is found that it rests on
abbrev pub AdmissionDecides : Type 0
AdmissionDecides =
    (S : Signature) (tele : List Term) (j : ℕ) (a : Admission) → (admission S tele j ≡ Some a) ↔ Admits S tele j a

abbrev pub FitsDecides : Type 0
FitsDecides =
    (S : Signature) (count j : ℕ) (a : Admission) (terms : List Term) (c : Call) → (fits S count j a terms c ≡ true) ↔ Fits S count j a terms c

-- there is a call exactly where the constant occurs in the term
abbrev pub ConstantIsCalled : Type 0
ConstantIsCalled = (own : ℕ) (t : Term) → (has_constant own t ≡ false) ↔ (calls own t ≡ [])

-- ---- the choice

-- `NotRecursive` is chosen exactly where the constant occurs in no right side and in no scrutinee
abbrev pub NotRecursiveIsExact : Type 0
NotRecursiveIsExact =
    (S : Signature) (tele : List Term) (own : ℕ) (uses : List Use)
    → (choose S tele own uses ≡ NotRecursive) ↔ All (λ u. has_constant own u.body ≡ false) uses

-- A position is chosen exactly where the function calls itself and the position is the least usable one.
pub record IsLeastUsable (S : Signature) (tele : List Term) (own : ℕ) (uses : List Use) (j : ℕ) : Type 0 where
  pub recursive : is_recursive own uses ≡ true
  pub usable : IsUsable S tele own uses j
  pub least : (i : ℕ) → i < j → ¬ IsUsable S tele own uses i

abbrev pub AtIsLeastUsable : Type 0
AtIsLeastUsable =
    (S : Signature) (tele : List Term) (own : ℕ) (uses : List Use) (j : ℕ)
    → (choose S tele own uses ≡ At j) ↔ IsLeastUsable S tele own uses j

-- The row is the first call that does not fit position j: all calls of earlier right sides and scrutinees fit, and all earlier ones
-- of its own.
pub record IsFirstFailing (S : Signature) (own count j : ℕ) (a : Admission) (uses : List Use) (row : Failing) : Type 0 where
  pub before : List Use
  pub one : Use
  pub behind : List Use
  pub split : uses ≡ before ++ one ∷ behind
  pub earlier : AllFit S own count j a before
  pub first : List Call
  pub call : Call
  pub others : List Call
  pub parted : calls own one.body ≡ first ++ call ∷ others
  pub fitting : All (Fits S count j a one.terms) first
  pub fails : ¬ Fits S count j a one.terms call
  pub form : row ≡ failing_row j one call.term

-- The rows are those of the positions from j on that admit recursion, and each such position has one.
pub data AreRows (S : Signature) (tele : List Term) (own : ℕ) (uses : List Use) : ℕ → List Failing → Type 0 where
  none : {j : ℕ} → length tele ≤ j → AreRows S tele own uses j []
  passed : {j : ℕ} {rows : List Failing} → j < length tele → ((a : Admission) → ¬ Admits S tele j a) → AreRows S tele own uses (j + 1) rows
      → AreRows S tele own uses j rows
  failed : {j : ℕ} {a : Admission} {row : Failing} {rows : List Failing} → Admits S tele j a → IsFirstFailing S own (length tele) j a uses row
      → AreRows S tele own uses (j + 1) rows → AreRows S tele own uses j (row ∷ rows)

-- `NotSmaller` is answered exactly where the function calls itself and each position that admits recursion has a call that does not
-- fit it, with the first one for each such position.
abbrev pub NotSmallerIsExact : Type 0
NotSmallerIsExact =
    (S : Signature) (tele : List Term) (own : ℕ) (uses : List Use) (rows : List Failing)
    → (choose S tele own uses ≡ NotSmaller rows) ↔ ((is_recursive own uses ≡ true) × AreRows S tele own uses 0 rows)

-- ---- strict parts are smaller

-- A strict part is something lower than the whole, at as many arguments as are wanted. These may be as high as they like.
abbrev pub PartsAreLower : Type 0
PartsAreLower =
    (n : ℕ) (f : Family) (part t : Term) → IsStrictPart n f part t → (r : Term) × (inner : List Term) × (part ≡ applied r inner) × (height r < height t)

-- no recursive argument of a constructor is a function
abbrev pub IsFinitary : Family → Type 0
IsFinitary f =
    (number at : ℕ) (c : Constructor) (inner targets : List Term) (level : ℕ) → slice_get f.constructors number ≡ Some c
    → slice_get c.arguments at ≡ Some (Recursive inner targets level) → inner ≡ []

-- where no recursive argument is a function, a strict part is itself lower
abbrev pub FinitaryPartsAreLower : Type 0
FinitaryPartsAreLower =
    (n : ℕ) (f : Family) (part t : Term) → IsFinitary f → IsStrictPart n f part t → height part < height t

-- In t, and in its strict parts, no recursive argument that is a function is itself a constructor of family n.
abbrev pub TakesNoConstructor : ℕ → Family → Term → Type 0
TakesNoConstructor n f t =
    (u r : Term) (count number : ℕ) → (u ≡ t) ⊎ IsStrictPart n f u t → IsRecursiveArgument n f u r (suc count) → head_of r ≢ Con n number

-- No chain of calls goes on for ever: there is no endless sequence of terms, each a strict part of the one before, unless a
-- constructor is taken as a function. That gives a part at any argument whatever, so with one there may be an endless sequence.
abbrev pub PartsEnd : Type 0
PartsEnd =
    (n : ℕ) (f : Family) (chain : ℕ → Term) → ((i : ℕ) → TakesNoConstructor n f (chain i))
    → ((i : ℕ) → IsStrictPart n f (chain (suc i)) (chain i)) → ⊥

-- ---- the recursion order

-- Each of `count` positions is in the order, once, and nothing else is.
pub record IsOrder (count : ℕ) (order : List ℕ) : Type 0 where
  pub whole : (i : ℕ) → i < count → is_among i order ≡ true
  pub within : (i : ℕ) → is_among i order ≡ true → i < count
  pub once : AllPairs (λ i k. i ≢ k) order

-- In the order each type mentions only positions that come before its own, so the types in that order are a telescope.
pub record IsTelescopeOrder (tele : List Term) (order : List ℕ) : Type 0 where
  pub positions : IsOrder (length tele) order
  pub earlier : (before behind : List ℕ) (i k : ℕ) → order ≡ before ++ i ∷ behind → mentions tele i k ≡ true → is_among k before ≡ true

abbrev pub OrderIsTelescope : Type 0
OrderIsTelescope =
    (S : Signature) (tele : List Term) (j : ℕ) (a : Admission) → Admits S tele j a → IsTelescopeOrder tele (recursion_order (length tele) j a)
