-- One step of a path in a below value, with variables by level: the parameters, the motive, the arguments of the constructor, the
-- below value, and the inner arguments of the argument that is gone to.
use Rattle.std.specs.Prelude.{ℕ, ◌+◌, ◌==◌, if◌then◌else◌, List, [], ◌∷◌, length}
use Rattle.theory.specs.Terms.{Term, Lam, App, Elim}
use Rattle.theory.specs.Telescopes.{applied}
use Rattle.theory.specs.Prelude.{pair_type}
use Rattle.core_terms.specs.Levels.{variable, run}
use Rattle.core_sig.specs.ByLevels.{applied_to_targets}
use Rattle.core_sig.specs.Shapes.{ArgumentShape, by_kind}
use Rattle.case_below_gen.specs.declared.components.Course.{Course}
use Rattle.case_below_gen.specs.declared.components.Ending.TheVariants.{Folded}
use Rattle.case_below_gen.specs.declared.sides.Side.{Side}
use Rattle.case_below_gen.specs.declared.sides.Side.TheVariants.{First, Second}
use Rattle.case_below_gen.specs.Components.{pair_of, below_at, component, tuple_type}
use Rattle.case_below_gen.specs.Projections.{side_variable}

-- one of two
abbrev pub side_of : {A : Type 0} → Side → A → A → A
side_of First a b = a
side_of Second a b = b

-- the first or the second of q : Pair.m A B: Pair.m!elim.m A B (\_. C) (\a b. c) q, where `A'` and `B'` are A and B one binder
-- further in, and C is A or B
abbrev pub projected : (side : Side) (m : ℕ) (A B A' B' q : Term) → Term
projected side m A B A' B' q =
    App (App (App (App (App (Elim (pair_type m) m) A) B)
    (Lam (pair_of m A B) (side_of side A' B')))
    (Lam A (Lam B' (side_variable side))))
    q

-- the component for argument `at`, or the tuple of those after it, of the tuple b of the components from this argument on
abbrev pub component_side : (side : Side) (q : Course) (depth at count : ℕ) → Term → List ArgumentShape → (b : Term) → Term
component_side side q depth at count type arguments b =
    projected side q.m
    (component Folded q (q.params + 1) at depth 0 count type)
    (tuple_type Folded q (q.params + 1) (at + 1) depth 0 arguments)
    (component Folded q (q.params + 1) at (depth + 1) 0 count type)
    (tuple_type Folded q (q.params + 1) (at + 1) (depth + 1) 0 arguments)
    b

-- the component for argument `wanted`, of the tuple b of those for the arguments from `at` on: `second` for each recursive argument
-- before it, and then `first`
abbrev pub component_in : (q : Course) (depth wanted at : ℕ) → List ArgumentShape → (b : Term) → Term
component_in q depth wanted at [] b = b
component_in q depth wanted at (a ∷ arguments) b =
    by_kind a.kind (component_in q depth wanted (at + 1) arguments b)
    (λ count. if at == wanted
    then component_side First q depth at count a.type arguments b
    else component_in q depth wanted (at + 1) arguments (component_side Second q depth at count a.type arguments b))

-- `head` at the targets in `end` and at argument `at` with its `count` inner arguments, whose levels begin with `start`; `end` is the end
-- of the argument's type
abbrev pub at_part : (q : Course) (depth at start count : ℕ) (end head : Term) → Term
at_part q depth at start count end head =
    let first = q.params + 1 in
    App (applied_to_targets ((0, q.params) ∷ (first, at) ∷ (start, count) ∷ []) (q.params + at + count) depth head q.indices end)
    (applied (variable depth (first + at)) (run depth start count))

-- the first or the second component of b for argument `at` with its inner arguments, which is in
-- Pair.m (P targets (r inner)) (D!below.m p P targets (r inner))
abbrev pub part_side : (side : Side) (q : Course) (depth at start count : ℕ) (end b : Term) → Term
part_side side q depth at start count end b =
    projected side q.m
    (at_part q depth at start count end (variable depth q.params))
    (at_part q depth at start count end (below_at q depth))
    (at_part q (depth + 1) at start count end (variable (depth + 1) q.params))
    (at_part q (depth + 1) at start count end (below_at q (depth + 1)))
    b

-- the step to argument `at`, with so many inner arguments
abbrev pub path_step : (side : Side) (q : Course) → List ArgumentShape → (at count : ℕ) (end : Term) → Term
path_step side q arguments at count end =
    let value = q.params + 1 + length arguments in
    let start = value + 1 in
    let depth = start + count in
    part_side side q depth at start count end
    (applied (component_in q depth at 0 arguments (variable depth value)) (run depth start count))
