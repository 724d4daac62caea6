-- Signatures that have the same families at the same numbers give the same decreasing argument.
use mathlib.Core.Path.{fun_ext}
use Rattle.std.proofs.Common.{◌≡◌, ℕ, zero, suc, ◌+◌, not, cond, Option, Some, None, option_map, option_and_then, List, [], ◌∷◌, ◌++◌, length, find, slice_get, nat_le, ◌&&◌, refl, sym, ap, ap₂, ◌∙◌}
use Rattle.std.specs.Option.{option_or}
use Rattle.std.specs.List.{list_all}
use Rattle.theory.specs.Terms.{Term, lift}
use Rattle.theory.specs.Telescopes.{Telescope}
use Rattle.theory.specs.Signatures.{Signature, Entry}
use Rattle.theory.specs.Spines.{head_of, spine_of}
use Rattle.theory.specs.WellFormed.{provisional}
use Rattle.kernel_reduce.specs.Entries.{family_at, family_in}
use Rattle.tree_translation.specs.structural_rec.Calls.{Call, calls}
use Rattle.tree_translation.specs.structural_rec.Choices.{NotRecursive, choose, failing_at, failing_in, failing_row, first_failing, first_usable, or_later}
use Rattle.tree_translation.specs.structural_rec.Fitting.{both_pass, fits, is_same, is_smaller, part_in, pass_at}
use Rattle.tree_translation.specs.structural_rec.Positions.{Admission, admission, admission_in, admission_of, admission_with, family_number}
use Rattle.tree_translation.specs.structural_rec.Uses.{Use, is_recursive}
use Rattle.tree_translation.specs.Recursion.{recursion_at, recursion_with}
use Rattle.clause_reports.specs.elaboration.Functions.{recursion_in}

-- both have one family at each number
abbrev pub HaveSame : Signature → Signature → Type 0
HaveSame S T = (n : ℕ) → family_at S n ≡ family_at T n

pub same-more : (es : List Entry) (e : Entry) (n : ℕ) → family_in e ≡ None
    → option_and_then family_in (slice_get es n) ≡ option_and_then family_in (slice_get (es ++ e ∷ []) n)
same-more [] e zero h = sym h
same-more [] e (suc n) h = refl
same-more (x ∷ es) e zero h = refl
same-more (x ∷ es) e (suc n) h = same-more es e n h

-- a function at the end is no family
pub provisional-same : (S : Signature) (name : List ℕ) (type : Term) → HaveSame S (provisional S name type)
provisional-same S name type n = same-more S.entries _ n refl

module _ (S T : Signature) (same : HaveSame S T) where
  number-same : (tele : Telescope) (j : ℕ) (spine : List Term) (o : Option ℕ)
      → option_and_then (admission_in S tele j spine) o ≡ option_and_then (admission_in T tele j spine) o
  number-same tele j spine None = refl
  number-same tele j spine (Some n) = ap (option_and_then (admission_with tele j n spine)) (same n)

  type-same : (tele : Telescope) (j : ℕ) (o : Option Term) → option_and_then (admission_of S tele j) o ≡ option_and_then (admission_of T tele j) o
  type-same tele j None = refl
  type-same tele j (Some t) = number-same tele j (spine_of t) (family_number (head_of t))

  pub admission-same : (tele : Telescope) (j : ℕ) → admission S tele j ≡ admission T tele j
  admission-same tele j = type-same tele j (slice_get tele j)

  smaller-same : (n under : ℕ) (argument own : Term) → is_smaller S n under argument own ≡ is_smaller T n under argument own
  smaller-same n under argument own = ap (part_in n argument (lift own under 0)) (same n)

  pass-same : (n under : ℕ) (a b : Option Term) → both_pass (is_smaller S n under) a b ≡ both_pass (is_smaller T n under) a b
  pass-same n under (Some a) (Some b) = smaller-same n under a b
  pass-same n under (Some a) None = refl
  pass-same n under None b = refl

  fits-same : (count j : ℕ) (a : Admission) (terms : List Term) (c : Call) → fits S count j a terms c ≡ fits T count j a terms c
  fits-same count j a terms c =
      ap (λ b. nat_le count (length (spine_of c.term)) && (b && list_all (pass_at (is_same c.under) (spine_of c.term) terms) a.fixed))
      (pass-same a.number c.under (slice_get (spine_of c.term) j) (slice_get terms j))

  failing-same : (own count j : ℕ) (a : Admission) (u : Use) → failing_in S own count j a u ≡ failing_in T own count j a u
  failing-same own count j a u =
      ap (λ p. option_map (failing_row j u) (option_map (λ c. c.term) (find p (calls own u.body))))
      (fun_ext (λ c. ap not (fits-same count j a u.terms c)))

  first-same : (own count j : ℕ) (a : Admission) (uses : List Use) → first_failing S own count j a uses ≡ first_failing T own count j a uses
  first-same own count j a [] = refl
  first-same own count j a (u ∷ uses) = ap₂ option_or (failing-same own count j a u) (first-same own count j a uses)

  at-same : (tele : Telescope) (own : ℕ) (uses : List Use) (j : ℕ) → failing_at S tele own uses j ≡ failing_at T tele own uses j
  at-same tele own uses j =
      ap₂ option_map (fun_ext (λ a. first-same own (length tele) j a uses)) (admission-same tele j)

  usable-same : (tele : Telescope) (own : ℕ) (uses : List Use) (j : ℕ) (rest : List Term)
      → first_usable S tele own uses j rest ≡ first_usable T tele own uses j rest
  usable-same tele own uses j [] = refl
  usable-same tele own uses j (type ∷ rest) = ap₂ (or_later j) (at-same tele own uses j) (usable-same tele own uses (j + 1) rest)

  pub choice-same : (tele : Telescope) (own : ℕ) (uses : List Use) → choose S tele own uses ≡ choose T tele own uses
  choice-same tele own uses = ap (λ c. cond (is_recursive own uses) c NotRecursive) (usable-same tele own uses 0 tele)

  family-same : (j : ℕ) (o : Option Admission)
      → option_and_then (λ a. option_map (recursion_with j a) (family_at S a.number)) o
      ≡ option_and_then (λ a. option_map (recursion_with j a) (family_at T a.number)) o
  family-same j None = refl
  family-same j (Some a) = ap (option_map (recursion_with j a)) (same a.number)

  at-position : (tele : Telescope) (j : ℕ) → recursion_at S tele j ≡ recursion_at T tele j
  at-position tele j =
      ap (option_and_then (λ a. option_map (recursion_with j a) (family_at S a.number))) (admission-same tele j)
      ∙ family-same j (admission T tele j)

  pub recursion-same : (tele : Telescope) (position : Option ℕ) → recursion_in S tele position ≡ recursion_in T tele position
  recursion-same tele None = refl
  recursion-same tele (Some j) = at-position tele j
