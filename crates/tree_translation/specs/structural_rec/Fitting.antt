-- Which calls fit a position that admits recursion, and which positions are usable.
use Rattle.std.specs.Prelude.{◌≡◌, ℕ, ◌≤◌, Bool, true, false, ◌&&◌, nat_le, Option, Some, None, List, length, slice_get, All}
use Rattle.std.specs.List.{list_all}
use Rattle.theory.specs.Terms.{Term, lift}
use Rattle.theory.specs.Spines.{spine_of}
use Rattle.theory.specs.Families.{Family}
use Rattle.theory.specs.Signatures.{Signature, FamilyOf, IsEntryAt}
use Rattle.core_sig.specs.FamilyShapes.{family_shape}
use Rattle.kernel_reduce.specs.Entries.{family_at}
use Rattle.case_below_gen.specs.PartTests.{same, has_part}
use Rattle.case_below_gen.specs.StrictParts.{IsStrictPart}
use Rattle.tree_translation.specs.structural_rec.Calls.{Call, calls}
use Rattle.tele_eq.specs.Levels.{is_among}
use Rattle.tree_translation.specs.structural_rec.Positions.{Admission, Admits}
use Rattle.tree_translation.specs.structural_rec.Uses.{Use}

-- the argument of a call at position i is syntactically equal to the clause's own term there
pub record IsKept (terms : List Term) (c : Call) (i : ℕ) : Type 0 where
  pub own : Term
  pub there : slice_get terms i ≡ Some own
  pub argument : slice_get (spine_of c.term) i ≡ Some (lift own c.under 0)

-- A call fits position j of `count`: it has an argument for each position, that at j is a strict part of the clause's own term
-- there, and those at the fixed positions are the clause's own terms.
pub record Fits (S : Signature) (count j : ℕ) (a : Admission) (terms : List Term) (c : Call) : Type 0 where
  pub family : Family
  pub known : IsEntryAt S a.number (FamilyOf family)
  pub whole : count ≤ length (spine_of c.term)
  pub own : Term
  pub there : slice_get terms j ≡ Some own
  pub part : Term
  pub argument : slice_get (spine_of c.term) j ≡ Some part
  pub smaller : IsStrictPart a.number family part (lift own c.under 0)
  pub kept : (i : ℕ) → is_among i a.fixed ≡ true → IsKept terms c i

-- each call of the function fits position j
abbrev pub AllFit : (S : Signature) (own count j : ℕ) (a : Admission) → List Use → Type 0
AllFit S own count j a uses = All (λ u. All (Fits S count j a u.terms) (calls own u.body)) uses

-- Position j is usable: it admits recursion, and each call fits it.
pub record IsUsable (S : Signature) (tele : List Term) (own : ℕ) (uses : List Use) (j : ℕ) : Type 0 where
  pub admission : Admission
  pub admits : Admits S tele j admission
  pub fit : AllFit S own (length tele) j admission uses

-- ---- how it is tested

abbrev pub part_in : (n : ℕ) (part t : Term) → Option Family → Bool
part_in n part t None = false
part_in n part t (Some f) = has_part n (family_shape n f) part t

-- an argument is a strict part of the clause's own term, in family n and under so many binders
abbrev pub is_smaller : (S : Signature) (n under : ℕ) (argument own : Term) → Bool
is_smaller S n under argument own = part_in n argument (lift own under 0) (family_at S n)

abbrev pub is_same : (under : ℕ) (argument own : Term) → Bool
is_same under argument own = same argument (lift own under 0)

abbrev pub both_pass : (Term → Term → Bool) → Option Term → Option Term → Bool
both_pass test (Some argument) (Some own) = test argument own
both_pass test _ _ = false

-- the argument and the clause's own term at position i pass the test
abbrev pub pass_at : (Term → Term → Bool) → (arguments terms : List Term) → ℕ → Bool
pass_at test arguments terms i = both_pass test (slice_get arguments i) (slice_get terms i)

-- the arguments of a call under so many binders fit position j of `count`
abbrev pub arguments_fit : (S : Signature) (count j : ℕ) (a : Admission) (terms : List Term) (under : ℕ) (arguments : List Term) → Bool
arguments_fit S count j a terms under arguments =
    nat_le count (length arguments)
    && (pass_at (is_smaller S a.number under) arguments terms j
    && list_all (pass_at (is_same under) arguments terms) a.fixed)

abbrev pub fits : (S : Signature) (count j : ℕ) (a : Admission) (terms : List Term) → Call → Bool
fits S count j a terms c = arguments_fit S count j a terms c.under (spine_of c.term)
