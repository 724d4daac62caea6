-- Strict parts are lower.
use Rattle.std.proofs.Common.{◌≡◌, ◌≢◌, ◌⊎◌, inl, inr, ℕ, zero, suc, ◌+◌, ◌<◌, ◌≤◌, List, [], ◌∷◌, length, Option, Some, None, option_map, slice_get, refl, sym, ap, ◌∙◌, subst, arith}
use Rattle.std.proofs.lemmas.Option.{none-some}
use Rattle.theory.specs.Terms.{Term, App, Con, height}
use Rattle.theory.specs.Spines.{head_of}
use Rattle.theory.specs.Telescopes.{Telescope, applied}
use Rattle.theory.specs.Families.{Argument, Plain, Recursive, Family}
use Rattle.theory.proofs.Lists.{some_is}
use Rattle.core_sig.specs.FamilyShapes.{kind_of}
use Rattle.core_sig.specs.Shapes.{by_kind}
use Rattle.core_sig.specs.declared.family.ArgKind.TheVariants.{Recursive as RecursiveKind}
use Rattle.case_below_gen.specs.StrictParts.{IsRecursiveArgument, IsStrictPart}
use Rattle.case_below_gen.specs.StrictParts.IsStrictPart.{itself, inside}
use Rattle.case_below_gen.proofs.PartTests.{argument-low}
use Rattle.tree_translation.specs.structural_rec.Laws.{IsFinitary, TakesNoConstructor}

recursive-low : (n : ℕ) (f : Family) (t r : Term) (count : ℕ) → IsRecursiveArgument n f t r count → height r < height t
recursive-low n f t r count is = argument-low t r (length f.parameters + is.at) is.argument

pub part-lower : (n : ℕ) (f : Family) (part : Term) {t : Term} → IsStrictPart n f part t → (r : Term) × (inner : List Term) × (part ≡ applied r inner) × (height r < height t)
part-lower n f part (itself {t} {r} inner is form) = (r, inner, form, recursive-low n f t r (length inner) is)
part-lower n f part (inside {t} {r} is rest) =
    let low = recursive-low n f t r 0 is in
    let found = part-lower n f part rest in
    (found.0, found.1, found.2, (let lower = found.3 in omega arith))

-- an argument that is recursive with `count` inner arguments is one of the theory's
pub record IsInner (o : Option Argument) (count : ℕ) : Type 0 where
  pub inner : Telescope
  pub targets : List Term
  pub level : ℕ
  pub argument : o ≡ Some (Recursive inner targets level)
  pub counted : length inner ≡ count

kind-inner : (o : Option Argument) (count : ℕ) → option_map kind_of o ≡ Some (RecursiveKind count) → IsInner o count
kind-inner None count e = absurd (none-some (RecursiveKind count) e)
kind-inner (Some (Plain type level)) count e = absurd (let other : 0 ≡ suc count = ap (λ k. by_kind k 0 (λ n. suc n)) (some_is e) in omega arith)
kind-inner (Some (Recursive inner targets level)) count e = record { inner = inner; targets = targets; level = level; argument = refl; counted = ap (λ k. by_kind k 0 (λ n. n)) (some_is e) }

-- where no recursive argument is a function, a part is the argument itself
pub no-inner : (inner : List Term) → length inner ≡ 0 → (r : Term) → applied r inner ≡ r
no-inner [] e r = refl
no-inner (a ∷ inner) e r = absurd (omega (arith, e))

finitary-count : (n : ℕ) (f : Family) (t r : Term) (count : ℕ) → IsFinitary f → IsRecursiveArgument n f t r count → count ≡ 0
finitary-count n f t r count finitary is =
    let one = kind-inner (slice_get is.constructor.arguments is.at) count is.kind in
    sym one.counted ∙ ap length (finitary is.number is.at is.constructor one.inner one.targets one.level is.known one.argument)

pub finitary-lower : (n : ℕ) (f : Family) (part : Term) → IsFinitary f → {t : Term} → IsStrictPart n f part t → height part < height t
finitary-lower n f part finitary (itself {t} {r} inner is form) =
    let same : part ≡ r = form ∙ no-inner inner (finitary-count n f t r (length inner) finitary is) r in
    subst (λ u. height u < height t) (sym same) (recursive-low n f t r (length inner) is)
finitary-lower n f part finitary (inside {t} {r} is rest) =
    let low = recursive-low n f t r 0 is in
    let lower = finitary-lower n f part finitary rest in
    omega arith

-- ---- no chain goes on for ever

-- only constructors have strict parts
pub part-constructor : (n : ℕ) (f : Family) (part : Term) {t : Term} → IsStrictPart n f part t → (number : ℕ) × (head_of t ≡ Con n number)
part-constructor n f part (itself inner is form) = (is.number, is.head)
part-constructor n f part (inside is rest) = (is.number, is.head)

pub head_of-applied : (h : Term) (us : List Term) → head_of (applied h us) ≡ head_of h
head_of-applied h [] = refl
head_of-applied h (u ∷ us) = head_of-applied (App h u) us

-- an argument takes no constructor where the term takes none
argument-takes : (n : ℕ) (f : Family) (t r : Term) → IsRecursiveArgument n f t r 0 → TakesNoConstructor n f t → TakesNoConstructor n f r
argument-takes n f t r is takes u s count number (inl same) function = takes u s count number (inr (itself [] is same)) function
argument-takes n f t r is takes u s count number (inr part) function = takes u s count number (inr (inside is part)) function

-- a part is lower, or no constructor
pub lower-or-none : (n : ℕ) (f : Family) (part : Term) {t : Term} → TakesNoConstructor n f t → IsStrictPart n f part t
    → (height part < height t) ⊎ ((number : ℕ) → head_of part ≢ Con n number)
lower-or-none n f part takes (itself {t} {r} [] is form) = inl (subst (λ u. height u < height t) (sym form) (recursive-low n f t r 0 is))
lower-or-none n f part takes (itself {t} {r} (a ∷ inner) is form) =
    inr (λ number e. takes t r (length inner) number (inl refl) is (sym (head_of-applied r (a ∷ inner)) ∙ (ap head_of (sym form) ∙ e)))
lower-or-none n f part takes (inside {t} {r} is rest) = elim (lower-or-none n f part (argument-takes n f t r is takes) rest) [
  | inl lower ↦ let low = recursive-low n f t r 0 is in inl (omega arith)
  | inr other ↦ inr other
]

ends-within : (n : ℕ) (f : Family) (room : ℕ) (chain : ℕ → Term) → height (chain 0) ≤ room → ((i : ℕ) → TakesNoConstructor n f (chain i))
    → ((i : ℕ) → IsStrictPart n f (chain (suc i)) (chain i)) → ⊥
ends-within n f zero chain low takes parts = elim (lower-or-none n f (chain 1) (takes 0) (parts 0)) [
  | inl lower ↦ omega arith
  | inr other ↦ let next = part-constructor n f (chain 2) (parts 1) in other next.0 next.1
]
ends-within n f (suc room) chain low takes parts = elim (lower-or-none n f (chain 1) (takes 0) (parts 0)) [
  | inl lower ↦ ends-within n f room (λ i. chain (suc i)) (omega arith) (λ i. takes (suc i)) (λ i. parts (suc i))
  | inr other ↦ let next = part-constructor n f (chain 2) (parts 1) in other next.0 next.1
]

pub parts-end : (n : ℕ) (f : Family) (chain : ℕ → Term) → ((i : ℕ) → TakesNoConstructor n f (chain i))
    → ((i : ℕ) → IsStrictPart n f (chain (suc i)) (chain i)) → ⊥
parts-end n f chain takes parts = ends-within n f (height (chain 0)) chain (omega arith) takes parts
