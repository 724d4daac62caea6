-- The forms of a step of a path and of `D!rec.m` and `D!all.m`: a side of a pair whose types are the motive and `D!below.m` at a term.
use Rattle.std.proofs.Common.{◌≡◌, ℕ, zero, suc, ◌+◌, ◌-◌, ◌<◌, ◌≤◌, inl, List, [], ◌∷◌, ◌++◌, map, length, take, drop, slice_get, Some, All, refl, ap, ap₂, sym, ◌∙◌, subst, append_assoc, append-nil, arith}
use Rattle.std.proofs.lemmas.List.{length-append, map-append, length-take}
use Rattle.std.proofs.lemmas.Bool.Decides.{nat_tests}
use Rattle.std.proofs.lemmas.Option.{slice_get_within}
use Rattle.theory.specs.Terms.{Term, lift}
use Rattle.theory.specs.Terms.Term.{Var, Pi, App, Const}
use Rattle.theory.specs.Substitutions.{inst, ups, weaken, fill}
use Rattle.theory.specs.Telescopes.{Telescope, applied}
use Rattle.theory.specs.Families.{recursive_type}
use Rattle.theory.specs.Eliminators.{no_variable}
use Rattle.theory.specs.Signatures.{Signature, HasClosedBodies}
use Rattle.theory.specs.Conversion.{Converts}
use Rattle.theory.proofs.Bounds.{applied-parts}
use Rattle.theory.proofs.Congruence.{converts-trans}
use Rattle.theory.proofs.Instantiation.{inst-applied, inst-weaken}
use Rattle.theory.proofs.Lists.{split_at}
use Rattle.theory.proofs.Shifts.{lift-one}
use Rattle.theory.proofs.Spines.{applied-append}
use Rattle.core_terms.specs.Levels.{variable, level_at, place, run}
use Rattle.core_sig.specs.ByLevels.{applied_to_targets}
use Rattle.core_sig.specs.Meanings.{behind}
use Rattle.core_sig.specs.Shapes.{Shape}
use Rattle.core_sig.proofs.Arguments.{ups-same_var, map-inst-var}
use Rattle.case_below_gen.specs.declared.components.Course.{Course}
use Rattle.case_below_gen.specs.declared.sides.Side.{Side}
use Rattle.case_below_gen.specs.declared.sides.Side.TheVariants.{First, Second}
use Rattle.case_below_gen.specs.CaseEntries.{at_scrutinee}
use Rattle.case_below_gen.specs.Components.{below_at}
use Rattle.case_below_gen.specs.CourseEntries.{course_of}
use Rattle.case_below_gen.specs.CourseLaws.{IsRegularTarget, HasBody}
use Rattle.case_below_gen.specs.PathSteps.{projected, at_part, part_side}
use Rattle.case_below_gen.specs.Projections.{side_type, aux_at, projection, side_entry_term}
use Rattle.case_below_gen.proofs.Deeper.{lift-applied, low-variable, low-run, targets-moved, below-moved}
use Rattle.case_below_gen.proofs.Filling.{variable-filled, run-filled}
use Rattle.case_below_gen.proofs.Functions.{converts-from}
use Rattle.case_below_gen.proofs.Placements.{run_variables, run_count, AreBelow, places-filled}
use Rattle.case_below_gen.proofs.Unfolding.{with_scrutinee, length-with, entry-unfolds, at-scrutinee-filled}

-- a side of a pair, where the types one binder further in are the same ones
abbrev pub side_taken : (side : Side) (m : ℕ) (A B v : Term) → Term
side_taken side m A B v = projected side m A B (weaken A) (weaken B) v

inst-projected : (σ : ℕ → Term) (side : Side) (m : ℕ) (A B A' B' v : Term) → inst σ (projected side m A B A' B' v) ≡ projected side m (inst σ A) (inst σ B) (inst (ups σ) A') (inst (ups σ) B') (inst σ v)
inst-projected σ First m A B A' B' v = refl
inst-projected σ Second m A B A' B' v = refl

-- a term one binder further in, under an instantiation
deeper-inst : (σ : ℕ → Term) (X X' : Term) → X' ≡ lift X 1 0 → inst (ups σ) X' ≡ weaken (inst σ X)
deeper-inst σ X X' is = ap (inst (ups σ)) (is ∙ lift-one X) ∙ inst-weaken σ X

projected-same : (side : Side) (m : ℕ) {A A' B B' C C' D D' v v' : Term} → A ≡ A' → B ≡ B' → C ≡ C' → D ≡ D' → v ≡ v' → projected side m A B C D v ≡ projected side m A' B' C' D' v'
projected-same side m p q r s t = cc

-- D!below.m p P
abbrev pub below_of : (below : ℕ) (ps : List Term) (P : Term) → Term
below_of below ps P = App (applied (Const below) ps) P

below-filled : (args ps more : List Term) (P : Term) (q : Course) (depth : ℕ) → args ≡ ps ++ P ∷ more → depth ≡ length args → q.params ≡ length ps → inst (fill no_variable args) (below_at q depth) ≡ below_of q.below ps P
below-filled args ps more P q depth is deep params =
    ap₂ App
    (inst-applied (fill no_variable args) (Const q.below) (run depth 0 q.params)
    ∙ ap (applied (Const q.below)) (run-filled no_variable args [] ps (P ∷ more) depth 0 q.params is deep refl params))
    (variable-filled no_variable args ps P more depth q.params is deep params)

-- ---- D!rec.m and D!all.m

scrutinee-deeper : (depth start k : ℕ) (h h' : Term) → start + k < depth → h' ≡ lift h 1 0 → at_scrutinee (depth + 1) start k h' ≡ lift (at_scrutinee depth start k h) 1 0
scrutinee-deeper depth start k h h' lt same =
    ap₂ App (ap₂ applied same (low-run depth 1 0 depth (depth + 1) start k (omega arith) refl (omega arith)) ∙ sym (lift-applied h (run depth start k) 1 0))
    (low-variable depth 1 0 depth (depth + 1) (start + k) (omega arith) refl lt)

projection-form : (side : Side) (q : Course) (aux depth start : ℕ)
    → projection side q aux depth start ≡ projected side q.m (side_type First q depth start) (side_type Second q depth start) (side_type First q (depth + 1) start) (side_type Second q (depth + 1) start) (at_scrutinee depth start q.indices (aux_at q aux depth))
projection-form First q aux depth start = refl
projection-form Second q aux depth start = refl

pub entry-form : (S : Signature) (side : Side) (n : ℕ) (f : Shape) (m below aux entry : ℕ) (ps : List Term) (P s : Term) (js : List Term) (y : Term) → HasClosedBodies S → HasBody S entry (side_entry_term side n f (course_of f m below) aux)
    → length ps ≡ length f.parameters → length js ≡ length f.indices
    → Converts S (App (applied (Const entry) (ps ++ P ∷ s ∷ js)) y) (side_taken side m (App (applied P js) y) (App (applied (below_of below ps P) js) y) (App (applied (Const aux) (ps ++ P ∷ s ∷ js)) y))
entry-form S side n f m below aux entry ps P s js y closed body params indices =
    converts-trans (entry-unfolds S n f q entry (projection side q aux depth start) ps P s js y closed body params indices)
    (converts-from
    (ap (inst σ) (projection-form side q aux depth start)
    ∙ (inst-projected σ side m (side_type First q depth start) (side_type Second q depth start) (side_type First q (depth + 1) start) (side_type Second q (depth + 1) start) (at_scrutinee depth start q.indices (aux_at q aux depth))
    ∙ projected-same side m first second
    (deeper-inst σ (side_type First q depth start) (side_type First q (depth + 1) start) (scrutinee-deeper depth start q.indices (variable depth q.params) (variable (depth + 1) q.params) (omega arith) (low-variable depth 1 0 depth (depth + 1) q.params (omega arith) refl (omega arith))) ∙ ap weaken first)
    (deeper-inst σ (side_type Second q depth start) (side_type Second q (depth + 1) start) (scrutinee-deeper depth start q.indices (below_at q depth) (below_at q (depth + 1)) (omega arith) (below-moved depth 1 0 depth (depth + 1) q (omega arith) (omega arith) refl)) ∙ ap weaken second)
    both)))
  where
    q : Course
    q = course_of f m below

    start : ℕ
    start = q.params + 2

    depth : ℕ
    depth = start + q.indices + 1

    args : List Term
    args = with_scrutinee ps P s js y

    σ : ℕ → Term
    σ = fill no_variable args

    deep : depth ≡ length args
    deep = let all = length-with ps P s js y in omega arith

    first : inst σ (side_type First q depth start) ≡ App (applied P js) y
    first =
        at-scrutinee-filled ps P s js y q.params q.indices (variable depth q.params) (sym params) (sym indices)
        ∙ ap (λ h. App (applied h js) y) (variable-filled no_variable args ps P (s ∷ (js ++ y ∷ [])) depth q.params refl deep (sym params))

    second : inst σ (side_type Second q depth start) ≡ App (applied (below_of below ps P) js) y
    second =
        at-scrutinee-filled ps P s js y q.params q.indices (below_at q depth) (sym params) (sym indices)
        ∙ ap (λ h. App (applied h js) y) (below-filled args ps (s ∷ (js ++ y ∷ [])) P q depth refl deep (sym params))

    both : inst σ (at_scrutinee depth start q.indices (aux_at q aux depth)) ≡ App (applied (Const aux) (ps ++ P ∷ s ∷ js)) y
    both =
        at-scrutinee-filled ps P s js y q.params q.indices (aux_at q aux depth) (sym params) (sym indices)
        ∙ ap (λ h. App (applied h js) y)
        (ap₂ App
        (ap₂ App (inst-applied σ (Const aux) (run depth 0 q.params) ∙ ap (applied (Const aux)) (run-filled no_variable args [] ps (P ∷ s ∷ (js ++ y ∷ [])) depth 0 q.params refl deep refl (sym params)))
        (variable-filled no_variable args ps P (s ∷ (js ++ y ∷ [])) depth q.params refl deep (sym params)))
        (variable-filled no_variable args (ps ++ P ∷ []) s (js ++ y ∷ []) depth (q.params + 1) (sym (append_assoc ps (P ∷ []) (s ∷ (js ++ y ∷ [])))) deep
        (let all = length-append ps (P ∷ []) in omega arith))
        ∙ sym (applied-append (Const aux) ps (P ∷ s ∷ [])))
        ∙ ap (λ h. App h y) (sym (applied-append (Const aux) (ps ++ P ∷ s ∷ []) js) ∙ ap (applied (Const aux)) (append_assoc ps (P ∷ s ∷ []) js))

-- ---- the end of the type of a recursive argument

-- the family at its targets
record EndsAt (targets : List Term) (t : Term) : Type 0 where
  head : Term
  form : t ≡ applied head targets

ends-at : (h : Term) (inner : Telescope) (targets : List Term) → EndsAt targets (behind (length inner) (recursive_type Var h inner targets))
ends-at h [] targets = record { head = h; form = ap (applied h) (map-inst-var targets) }
ends-at h (a ∷ inner) targets =
    subst (λ s. EndsAt targets (behind (length inner) (recursive_type s (weaken h) inner targets))) (sym ups-same_var) (ends-at (weaken h) inner targets)

pub regular-end : (n count : ℕ) (t : Term) → IsRegularTarget n t → IsRegularTarget (n + count) (behind count t)
regular-end n (suc count) (Pi a b) fit =
    let free = fit.0 in let low = fit.1 in subst (λ k. IsRegularTarget k (behind count b)) (omega arith) (regular-end (n + 1) count b (omega arith, omega arith))
regular-end n zero t fit = let free = fit.0 in (omega arith, fit.1)
regular-end n (suc count) t fit = let free = fit.0 in (omega arith, fit.1)

regular-spine : (n : ℕ) (h : Term) (ts : List Term) → IsRegularTarget n (applied h ts) → All (IsRegularTarget n) ts
regular-spine n h ts fit = (applied-parts (IsRegularTarget n) (λ f a two. let free = two.0 in let low = two.1 in ((omega arith, omega arith), (omega arith, omega arith))) h ts fit).1

targets-applied : (runs : List (ℕ × ℕ)) (size depth : ℕ) (h x : Term) (ts : List Term) (j k : ℕ) → k ≡ length ts + j → applied_to_targets runs size depth h k (applied x ts) ≡ applied (applied_to_targets runs size depth h j x) (map (place runs size depth) ts)
targets-applied runs size depth h x [] j k is = ap (λ i. applied_to_targets runs size depth h i x) (omega arith)
targets-applied runs size depth h x (t ∷ ts) j k is = targets-applied runs size depth h (App x t) ts (suc j) k (omega arith)

-- ---- a step of a path

all-low : (depth : ℕ) (runs : List (ℕ × ℕ)) → AreBelow depth runs → 0 < depth → (l : ℕ) → level_at runs l < depth
all-low depth [] below lt l = lt
all-low depth (r ∷ runs) below lt l =
    let rest = all-low depth runs below.1 lt (l - r.1) in let bound = below.0 in grind (arith, nat_tests, rest)

part-deeper : (q : Course) (depth at start count : ℕ) (end h h' : Term) → q.params + 1 + at < depth → start + count ≤ depth → IsRegularTarget (q.params + at + count) end → h' ≡ lift h 1 0
    → at_part q (depth + 1) at start count end h' ≡ lift (at_part q depth at start count end h) 1 0
part-deeper q depth at start count end h h' inside le fit same =
    ap₂ App
    (targets-moved depth 1 0 (q.params + at + count) depth (depth + 1) runs runs h h' q.indices end (omega arith) refl (λ l lt. inl (all-low depth runs (omega arith, (omega arith, (le, tt))) (omega arith) l, refl)) fit.0 fit.1 same)
    (ap₂ applied (low-variable depth 1 0 depth (depth + 1) (q.params + 1 + at) (omega arith) refl inside) (low-run depth 1 0 depth (depth + 1) start count (omega arith) refl le)
    ∙ sym (lift-applied (variable depth (q.params + 1 + at)) (run depth start count) 1 0))
  where
    runs : List (ℕ × ℕ)
    runs = (0, q.params) ∷ (q.params + 1, at) ∷ (start, count) ∷ []

-- the values of a step: parameters, motive, arguments, the below value, inner arguments
module _ (q : Course) (ps : List Term) (P : Term) (us : List Term) (b : Term) (ts : List Term) (at : ℕ) (r : Term) (inner : Telescope) (targets : List Term) (h : Term) (params : q.params ≡ length ps) (there : slice_get us at ≡ Some r) (counted : length ts ≡ length inner)
    (indices : q.indices ≡ length targets) (fit : IsRegularTarget (q.params + at) (recursive_type Var h inner targets)) where
  abbrev args : List Term
  args = ps ++ P ∷ (us ++ b ∷ ts)

  abbrev count : ℕ
  count = length inner

  abbrev start : ℕ
  start = q.params + 1 + length us + 1

  abbrev depth : ℕ
  depth = start + count

  abbrev σ : ℕ → Term
  σ = fill no_variable args

  abbrev end : Term
  end = behind count (recursive_type Var h inner targets)

  abbrev js : List Term
  js = map (inst (fill no_variable (ps ++ (take at us ++ ts)))) targets

  deep : depth ≡ length args
  deep = omega (arith, length-append ps (P ∷ (us ++ b ∷ ts)), length-append us (b ∷ ts), params, counted)

  at_low : at < length us
  at_low = slice_get_within us at r there

  params-there : map (inst σ) (run depth 0 q.params) ≡ ps
  params-there = run-filled no_variable args [] ps (P ∷ (us ++ b ∷ ts)) depth 0 q.params refl deep refl params

  split : us ≡ take at us ++ (r ∷ drop (suc at) us)
  split = split_at us at r there ∙ append_assoc (take at us) (r ∷ []) (drop (suc at) us)

  before_at : length (take at us) ≡ at
  before_at = omega (arith, length-take at us, at_low)

  arguments-there : map (inst σ) (run depth (q.params + 1) at) ≡ take at us
  arguments-there =
      run-filled no_variable args (ps ++ P ∷ []) (take at us) ((r ∷ drop (suc at) us) ++ b ∷ ts) depth (q.params + 1) at
      (ap (λ vs. ps ++ P ∷ (vs ++ b ∷ ts)) split ∙ (ap (λ vs. ps ++ P ∷ vs) (append_assoc (take at us) (r ∷ drop (suc at) us) (b ∷ ts)) ∙ sym (append_assoc ps (P ∷ []) _))) deep
      (omega (arith, length-append ps (P ∷ []), params)) (sym before_at)

  r-there : inst σ (variable depth (q.params + 1 + at)) ≡ r
  r-there =
      variable-filled no_variable args (ps ++ P ∷ take at us) r (drop (suc at) us ++ b ∷ ts) depth (q.params + 1 + at)
      (ap (λ vs. ps ++ P ∷ (vs ++ b ∷ ts)) split ∙ (ap (λ vs. ps ++ P ∷ vs) (append_assoc (take at us) (r ∷ drop (suc at) us) (b ∷ ts)) ∙ sym (append_assoc ps (P ∷ take at us) _))) deep
      (omega (arith, length-append ps (P ∷ take at us), params, before_at))

  pub inner-there : map (inst σ) (run depth start count) ≡ ts
  inner-there =
      run-filled no_variable args (ps ++ P ∷ (us ++ b ∷ [])) ts [] depth start count
      (ap (λ vs. ps ++ P ∷ vs) (sym (append_assoc us (b ∷ []) ts) ∙ ap (λ vs. (us ++ b ∷ []) ++ vs) (sym (append-nil ts))) ∙ sym (append_assoc ps (P ∷ (us ++ b ∷ [])) (ts ++ []))) deep
      (omega (arith, length-append ps (P ∷ (us ++ b ∷ [])), length-append us (b ∷ []), params)) (sym counted)

  abbrev runs : List (ℕ × ℕ)
  runs = (0, q.params) ∷ (q.params + 1, at) ∷ (start, count) ∷ []

  runs-below : AreBelow depth runs
  runs-below = (omega arith, ((let lt = at_low in omega arith), (omega arith, tt)))

  fit_end : IsRegularTarget (q.params + at + count) end
  fit_end = regular-end (q.params + at) count (recursive_type Var h inner targets) fit

  sizes : run_count runs ≡ q.params + at + count
  sizes = omega arith

  -- a head at the targets and at the argument with its inner arguments
  part-there : (H : Term) → inst σ (at_part q depth at start count end H) ≡ App (applied (inst σ H) js) (applied r ts)
  part-there H =
      ap₂ App
      (ap (inst σ) (ap (applied_to_targets runs (q.params + at + count) depth H q.indices) form.form ∙ targets-applied runs (q.params + at + count) depth H form.head targets 0 q.indices (omega arith))
      ∙ (inst-applied σ H (map (place runs (q.params + at + count) depth) targets)
      ∙ ap (applied (inst σ H))
      (ap (λ size. map (inst σ) (map (place runs size depth) targets)) (sym sizes)
      ∙ (places-filled args depth runs targets runs-below (subst (λ size. All (IsRegularTarget size) targets) (sym sizes) (regular-spine (q.params + at + count) form.head targets (subst (IsRegularTarget (q.params + at + count)) form.form fit_end)))
      ∙ ap (λ vs. map (inst (fill no_variable vs)) targets) vars))))
      (inst-applied σ (variable depth (q.params + 1 + at)) (run depth start count) ∙ ap₂ applied r-there inner-there)
    where
      form : EndsAt targets end
      form = ends-at h inner targets

      vars : map (inst σ) (run_variables depth runs) ≡ ps ++ (take at us ++ ts)
      vars =
          map-append (inst σ) (run depth 0 q.params) (run depth (q.params + 1) at ++ (run depth start count ++ []))
          ∙ ap₂ ◌++◌ params-there
          (map-append (inst σ) (run depth (q.params + 1) at) (run depth start count ++ [])
          ∙ ap₂ ◌++◌ arguments-there (ap (map (inst σ)) (append-nil (run depth start count)) ∙ inner-there))

  abbrev part : Term
  part = applied r ts

  pub step-form : (side : Side) (v : Term) → inst σ (part_side side q depth at start count end v) ≡ side_taken side q.m (App (applied P js) part) (App (applied (below_of q.below ps P) js) part) (inst σ v)
  step-form side v =
      inst-projected σ side q.m (at_part q depth at start count end (variable depth q.params)) (at_part q depth at start count end (below_at q depth)) (at_part q (depth + 1) at start count end (variable (depth + 1) q.params)) (at_part q (depth + 1) at start count end (below_at q (depth + 1))) v
      ∙ projected-same side q.m first second
      (deeper-inst σ (at_part q depth at start count end (variable depth q.params)) _ (part-deeper q depth at start count end (variable depth q.params) (variable (depth + 1) q.params) (omega (arith, at_low)) (omega arith) fit_end (low-variable depth 1 0 depth (depth + 1) q.params (omega arith) refl (omega arith))) ∙ ap weaken first)
      (deeper-inst σ (at_part q depth at start count end (below_at q depth)) _ (part-deeper q depth at start count end (below_at q depth) (below_at q (depth + 1)) (omega (arith, at_low)) (omega arith) fit_end (below-moved depth 1 0 depth (depth + 1) q (omega arith) (omega arith) refl)) ∙ ap weaken second)
      refl
    where
      first : inst σ (at_part q depth at start count end (variable depth q.params)) ≡ App (applied P js) part
      first = part-there (variable depth q.params) ∙ ap (λ H. App (applied H js) part) (variable-filled no_variable args ps P (us ++ b ∷ ts) depth q.params refl deep params)

      second : inst σ (at_part q depth at start count end (below_at q depth)) ≡ App (applied (below_of q.below ps P) js) part
      second = part-there (below_at q depth) ∙ ap (λ H. App (applied H js) part) (below-filled args ps (us ++ b ∷ ts) P q depth refl deep params)
