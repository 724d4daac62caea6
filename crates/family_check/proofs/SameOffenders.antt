-- The check of a declared type and that of the record that is made of it find the same first offender.
use Rattle.std.proofs.Common.{◌≡◌, ℕ, ◌+◌, Bool, true, false, cond, not, ◌||◌, if◌then◌else◌, Option, Some, None, IfSome, Err, List, [], ◌∷◌, length, drop, All, refl, ap, ap₂, sym, ◌∙◌, subst as transport, arith}
use Rattle.std.specs.List.{list_any}
use Rattle.std.specs.Option.{is_some}
use Rattle.std.proofs.lemmas.List.Folds.{list_any_none}
use Rattle.theory.specs.Terms.{Term}
use Rattle.theory.specs.Spines.{spine_of}
use Rattle.theory.specs.Telescopes.{Telescope, applied, weaken_by}
use Rattle.theory.specs.Families.{Constructor, Family, family_head, mentions, Lacks}
use Rattle.core_sig.specs.Kinds.{IsRecursiveType}
use Rattle.core_sig.specs.Offenders.{offends, offender_in}
use Rattle.family_check.specs.Laws.{SameOffender}
use Rattle.core_terms.specs.Telescopes.{domains_of, end_of}
use Rattle.family_check.specs.Shapes.{targets_of, recursive_parts, argument_of, arguments, is_positive, first_offender, unless_offender}
use Rattle.family_check.proofs.KindShapes.{spine-drops, targets-are}
use Rattle.family_check.proofs.NewNames.{none-passes}
use Rattle.family_check.proofs.Shapes.{IsEnd, targets-found, recursive-found}

-- an argument offends where its type does not keep positivity
argument-offends : (n : ℕ) (f : Family) (k : ℕ) (t : Term) (level : ℕ) → offends n (argument_of t level (recursive_parts n f k t)) ≡ not (is_positive n f k t)
argument-offends n f k t level = by_case (recursive_parts n f k t) (recursive-found n f k t)
  where
    plain : (b : Bool) → b ≡ not (not b || false)
    plain true = refl
    plain false = refl

    kept : (b : Bool) → false ≡ not (not b || true)
    kept true = refl
    kept false = refl

    by_case : (o : Option (Telescope × List Term)) → IfSome o (λ p. IsRecursiveType n f k p.0 p.1 t) → offends n (argument_of t level o) ≡ not (not (mentions n t) || is_some o)
    by_case None h = plain (mentions n t)
    by_case (Some p) h =
        ap₂ ◌||◌ (list_any_none (mentions n) p.0 h.inner_lacks) (list_any_none (mentions n) p.1 h.targets_lack) ∙ kept (mentions n t)

-- the first number, or else the second one
abbrev first_number : Option ℕ → Option ℕ → Option ℕ
first_number (Some k) other = Some k
first_number None other = other

abbrev in_targets : ℕ → List Term → Option ℕ
in_targets n targets = if list_any (mentions n) targets then Some 0 else None

arguments-offend : (n : ℕ) (f : Family) (k number : ℕ) (types : Telescope) (levels : List ℕ) (c : Constructor) → length levels ≡ length types → number ≡ k + 1
    → offender_in n (arguments n f k types levels) number c ≡ first_number (first_offender n f k types) (in_targets n c.targets)
arguments-offend n f k number [] levels c counted at = refl
arguments-offend n f k number (t ∷ types) [] c counted at = absurd (grind arith)
arguments-offend n f k number (t ∷ types) (level ∷ levels) c counted at =
    ap (λ b. if b then Some number else offender_in n (arguments n f (k + 1) types levels) (number + 1) c) (argument-offends n f k t level)
    ∙ by_case (is_positive n f k t) (arguments-offend n f (k + 1) (number + 1) types levels c (omega arith) (omega arith))
  where
    by_case : (b : Bool) → offender_in n (arguments n f (k + 1) types levels) (number + 1) c ≡ first_number (first_offender n f (k + 1) types) (in_targets n c.targets)
        → (if not b then Some number else offender_in n (arguments n f (k + 1) types levels) (number + 1) c)
        ≡ first_number (cond b (first_offender n f (k + 1) types) (Some (k + 1))) (in_targets n c.targets)
    by_case true rest = rest
    by_case false rest = ap Some at

lacking : (n : ℕ) (ts : List Term) → list_any (mentions n) ts ≡ false → All (Lacks n) ts
lacking n ts none = none-passes (mentions n) ts none

-- the targets are found where they lack the family
targets-offend : (n : ℕ) (f : Family) (k : ℕ) (t : Term) (targets : List Term) → t ≡ applied (weaken_by k (family_head n f)) targets → length targets ≡ length f.indices
    → unless_offender None (targets_of n f k t) ≡ unless_offender (in_targets n targets) (Some targets)
targets-offend n f k t targets form count = by_case (list_any (mentions n) targets) refl
  where
    hidden : (o : Option (List Term)) → IfSome o (IsEnd n f k t) → list_any (mentions n) targets ≡ true → unless_offender None o ≡ Err 0
    hidden None h any = refl
    hidden (Some found) h any =
        let same : found ≡ targets =
        sym (ap (λ u. drop (length f.parameters) (spine_of u)) h.form ∙ spine-drops n f k found) ∙ (ap (λ u. drop (length f.parameters) (spine_of u)) form ∙ spine-drops n f k targets) in
        let none : list_any (mentions n) targets ≡ false = list_any_none (mentions n) targets (transport (All (Lacks n)) same h.lack) in
        absurd (grind arith)

    by_case : (b : Bool) → list_any (mentions n) targets ≡ b → unless_offender None (targets_of n f k t) ≡ unless_offender (if b then Some 0 else None) (Some targets)
    by_case true any = hidden (targets_of n f k t) (targets-found n f k t) any
    by_case false none = ap (unless_offender None) (targets-are n f k t targets (record { form = form; count = count; lack = lacking n targets none }))

pub same_offender : SameOffender
same_offender n f t name levels targets counted form count =
    by_case (first_offender n f 0 types) ∙ sym (ap (λ o. unless_offender o (Some targets)) (arguments-offend n f 0 1 types levels c counted (omega arith)))
  where
    types : Telescope
    types = domains_of t

    c : Constructor
    c = record { name = name; arguments = arguments n f 0 types levels; targets = targets }

    by_case : (o : Option ℕ) → unless_offender o (targets_of n f (length types) (end_of t)) ≡ unless_offender (first_number o (in_targets n targets)) (Some targets)
    by_case (Some k) = refl
    by_case None = targets-offend n f (length types) (end_of t) targets form count
