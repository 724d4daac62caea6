-- The path to a strict part in a below value: the component of `D!below.m` for it, taken out by projections of pairs. The parameters and
-- the targets come from the term, a constructor with all its arguments.
use Rattle.std.specs.Prelude.{ℕ, suc, ◌-◌, ◌&&◌, if◌then◌else◌, List, [], ◌∷◌, ◌++◌, length, take, drop, Option, Some, None, slice_get, Result, Ok, Err}
use Rattle.theory.specs.Terms.{Term, App}
use Rattle.theory.specs.Substitutions.{inst, fill}
use Rattle.theory.specs.Spines.{spine_of}
use Rattle.theory.specs.Eliminators.{no_variable}
use Rattle.theory.specs.Families.{Family}
use Rattle.core_terms.specs.Answers.{and_then, is_low, bounded}
use Rattle.core_terms.specs.declared.stop.Stop.{Stop}
use Rattle.core_terms.specs.declared.stop.Stop.TheVariants.{Deep}
use Rattle.core_sig.specs.FamilyShapes.{family_shape}
use Rattle.core_sig.specs.Meanings.{behind}
use Rattle.core_sig.specs.Shapes.{ArgumentShape, ConstructorShape, Shape}
use Rattle.case_below_gen.specs.declared.sides.Side.{Side}
use Rattle.case_below_gen.specs.declared.sides.Side.TheVariants.{First, Second}
use Rattle.case_below_gen.specs.CourseEntries.{course_of}
use Rattle.case_below_gen.specs.PartTests.{is_applied, if_recursive, constructor_of, has_part_along, has_part}
use Rattle.case_below_gen.specs.PathSteps.{path_step}

-- A descent: it looks for a part in terms of family number `family`, with the motive into Type m, where the constant `below` is
-- `D!below.m`.
pub record Descent : Type 0 where
  pub family : ℕ
  pub shape : Shape
  pub m : ℕ
  pub below : ℕ
  pub motive : Term
  pub part : Term

-- the terms for the variables of a step: the parameters, the motive, the arguments, the below value b and inner arguments
abbrev pub step_values : (d : Descent) (whole b : Term) (inner : List Term) → List Term
step_values d whole b inner =
    let p = length d.shape.parameters in
    take p (spine_of whole) ++ d.motive ∷ (drop p (spine_of whole) ++ b ∷ inner)

-- the step from `whole`, a constructor with all its arguments, to argument `at` with its inner arguments; `end` is what the type of
-- the argument ends in
abbrev pub step_to : (d : Descent) (side : Side) (whole : Term) → List ArgumentShape → (at count : ℕ) (end : Term) (inner : List Term) (b : Term) → Term
step_to d side whole arguments at count end inner b =
    inst (fill no_variable (step_values d whole b inner)) (path_step side (course_of d.shape d.m d.below) arguments at count end)

-- the last `count` arguments of a term
abbrev pub last_arguments : (count : ℕ) → Term → List Term
last_arguments count t = drop (length (spine_of t) - count) (spine_of t)

-- the path through argument `at`, which is r: it ends there, or goes on inside r, which has no inner arguments then
abbrev pub path_at : (d : Descent) (whole : Term) → List ArgumentShape → (at : ℕ) (r b : Term) (go_on : Term → Term) → Term
path_at d whole arguments at r b go_on =
    if_recursive (slice_get arguments at) b (λ count type.
    if is_applied r count d.part
    then step_to d First whole arguments at count (behind count type) (last_arguments count d.part) b
    else go_on (step_to d Second whole arguments at 0 type [] b))

-- a constructor's arguments are used, where there is one
abbrev pub with_arguments : Option ConstructorShape → Term → (List ArgumentShape → Term) → Term
with_arguments None t go = t
with_arguments (Some c) t go = go c.arguments

-- the path among the first `at` arguments of `whole`, the last of which are in t: through the first one from the left that is the
-- part at its inner arguments, or has it inside
abbrev pub path_along : (d : Descent) (whole : Term) → List ArgumentShape → (at : ℕ) → Term → (b : Term) → Term
path_along d whole arguments (suc at) (App g r) b =
    if has_part_along d.family d.shape d.part arguments at g
    then path_along d whole arguments at g b
    else path_at d whole arguments at r b (λ inside.
    with_arguments (constructor_of d.family d.shape r) inside (λ inner. path_along d r inner (length inner) r inside))
path_along d whole arguments at t b = b

-- the path to the part in a term of the family, with the below value b for the term
abbrev pub path_of : (d : Descent) → Term → (b : Term) → Term
path_of d t b = with_arguments (constructor_of d.family d.shape t) b (λ arguments. path_along d t arguments (length arguments) t b)

-- the term that is there, or Deep where it is too high
abbrev pub some_bounded : Term → Result (Option Term) Stop
some_bounded t = and_then (bounded t) (λ u. Ok (Some u))

-- the path, or None where the part is no strict part of the term; a given term that is too high is Deep
abbrev pub path_to : (d : Descent) → Term → (b : Term) → Result (Option Term) Stop
path_to d t b =
    if has_part d.family d.shape d.part t
    then (if is_low t && is_low d.part then some_bounded (path_of d t b) else Err Deep)
    else Ok None

-- the path to `part` in the below value b for the term t of family number n, where the constant `number` is `D!below.m`
abbrev pub below_path : (n : ℕ) (f : Family) (m number : ℕ) (motive t part b : Term) → Result (Option Term) Stop
below_path n f m number motive t part b =
    path_to (record { family = n; shape = family_shape n f; m = m; below = number; motive = motive; part = part }) t b
