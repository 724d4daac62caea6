-- Course-of-values recursion (McBride, Goguen and McKinna, "A few constructions on constructors", 2006): `D!below.m` gives at
-- a term the motive at each of its strict parts, and `D!aux.m` makes both from a step.
use Rattle.std.specs.Prelude.{ℕ, ◌+◌, List, [], ◌∷◌, map, length, Result, codes}
use Rattle.theory.specs.Terms.{Term, Sort, Pi, App, Con, Elim}
use Rattle.theory.specs.Telescopes.{applied}
use Rattle.theory.specs.Families.{Family}
use Rattle.core_terms.specs.Levels.{variable, run, place, bind, over}
use Rattle.core_terms.specs.declared.levels.Binder.{Binder}
use Rattle.core_terms.specs.declared.levels.Binder.TheVariants.{Product, Function}
use Rattle.core_terms.specs.declared.stop.Stop.{Stop}
use Rattle.core_sig.specs.ByLevels.{motive_type}
use Rattle.core_sig.specs.Shapes.{ConstructorShape, Shape, types_of, recursive_count}
use Rattle.case_below_gen.specs.declared.components.Course.{Course}
use Rattle.case_below_gen.specs.declared.components.Ending.TheVariants.{Level, Beside, Folded}
use Rattle.case_below_gen.specs.CaseEntries.{closed_over, scrutinee_over, at_scrutinee}
use Rattle.case_below_gen.specs.Components.{pair_of, pair_with, below_at, components_over, tuple_type, tuple}
use Rattle.core_sig.specs.Drafts.{Draft, drafted, generated_name}
use Rattle.core_sig.specs.FamilyShapes.{family_shape}

-- a family's recursion into Type m, where `D!below.m` is a constant
abbrev pub course_of : (f : Shape) (m below : ℕ) → Course
course_of f m below = record { m = m; params = length f.parameters; indices = length f.indices; below = below }

-- `head` applied to the methods for the constructors from `number` on
abbrev pub applied_to_methods : (method : ℕ → ConstructorShape → Term) (number : ℕ) → Term → List ConstructorShape → Term
applied_to_methods method number head [] = head
applied_to_methods method number head (c ∷ constructors) =
    applied_to_methods method (number + 1) (App head (method number c)) constructors

-- D!elim.l p
abbrev pub eliminator_at : (n l p depth : ℕ) → Term
eliminator_at n l p depth = applied (Elim n l) (run depth 0 p)

-- \arguments hypotheses. Pair.m H1 (Pair.m H2 .. Unit.m), with a hypothesis h : (inner) -> Type m for each argument
-- r : (inner) -> D p targets, and H = (inner) -> Pair.m (P targets (r inner)) (h inner)
abbrev pub below_method : (q : Course) (depth : ℕ) → ConstructorShape → Term
below_method q depth c =
    let count = length c.arguments in
    let inside = depth + count in
    over Function ((0, q.params) ∷ (depth, count) ∷ []) q.params depth (types_of c.arguments)
    (components_over Level q depth 0 inside c.arguments
    (tuple_type Beside q depth 0 (inside + recursive_count c.arguments) inside c.arguments))

-- binds (p), (P : (I) -> D p I -> Type m), (I) and (x : D p I) around `end`
abbrev pub below_over : (binder : Binder) (n : ℕ) (f : Shape) (m : ℕ) → Term → Term
below_over binder n f m end =
    let p = length f.parameters in
    closed_over binder f.parameters (bind binder (motive_type n f m p) (scrutinee_over binder n f (p + 1) end))

-- (p) -> (P : (I) -> D p I -> Type m) -> (I) -> D p I -> Type m
abbrev pub below_type : (n : ℕ) (f : Shape) (m : ℕ) → Term
below_type n f m = below_over Product n f m (Sort m)

-- \p P I x. D!elim.(m+1) p (\I x. Type m) methods I x
abbrev pub below_term : (n : ℕ) (f : Shape) (m : ℕ) → Term
below_term n f m =
    let p = length f.parameters in
    let k = length f.indices in
    let inside = p + 1 + k + 1 in
    below_over Function n f m
    (at_scrutinee inside (p + 1) k
    (applied_to_methods (λ number c. below_method (course_of f m 0) inside c) 0
    (App (eliminator_at n (m + 1) p inside) (scrutinee_over Function n f inside (Sort m))) f.constructors))

abbrev pub below_of_shape : (base : ℕ) (name : List ℕ) (n : ℕ) (f : Shape) (m : ℕ) → Result Draft Stop
below_of_shape base name n f m = drafted (generated_name name (codes "!below.") m) base [] (below_type n f m) (below_term n f m)

-- the entry `D!below.m` for family number n, over `base` entries; it mentions no generated constant
abbrev pub below_entry : (base n : ℕ) (f : Family) (m : ℕ) → Result Draft Stop
below_entry base n f m = below_of_shape base f.name n (family_shape n f) m

-- `head` at the targets of constructor `number` and at the constructor, whose arguments' levels begin with `first`
abbrev pub at_constructor : (n p number first depth : ℕ) (head : Term) → ConstructorShape → Term
at_constructor n p number first depth head c =
    let count = length c.arguments in
    App (applied head (map (place ((0, p) ∷ (first, count) ∷ []) (p + count) depth) c.targets))
    (applied (applied (Con n number) (run depth 0 p)) (run depth first count))

-- pair.m (P us (c p arguments)) (D!below.m p P us (c p arguments)) (s us (c p arguments) t) t, with the tuple t of the hypotheses,
-- where s comes after P
abbrev pub aux_pair : (n : ℕ) (q : Course) (number first depth hypothesis : ℕ) → ConstructorShape → Term
aux_pair n q number first depth hypothesis c =
    let t = tuple q first 0 depth hypothesis c.arguments in
    pair_with q.m
    (at_constructor n q.params number first depth (variable depth q.params) c)
    (at_constructor n q.params number first depth (below_at q depth) c)
    (App (at_constructor n q.params number first depth (variable depth (q.params + 1)) c) t)
    t

-- \arguments hypotheses. that pair
abbrev pub aux_method : (n : ℕ) (q : Course) (depth number : ℕ) → ConstructorShape → Term
aux_method n q depth number c =
    let count = length c.arguments in
    let inside = depth + count in
    over Function ((0, q.params) ∷ (depth, count) ∷ []) q.params depth (types_of c.arguments)
    (components_over Folded q depth 0 inside c.arguments
    (aux_pair n q number depth (inside + recursive_count c.arguments) inside c))

-- (I) -> (x : D p I) -> D!below.m p P I x -> P I x, at a depth
abbrev pub step_type : (n : ℕ) (f : Shape) (q : Course) (depth : ℕ) → Term
step_type n f q depth =
    let inside = depth + q.indices + 1 in
    scrutinee_over Product n f depth
    (Pi (at_scrutinee inside depth q.indices (below_at q inside))
    (at_scrutinee (inside + 1) depth q.indices (variable (inside + 1) q.params)))

-- Pair.m (P I x) (D!below.m p P I x), where the levels of I begin with `start`
abbrev pub aux_goal : (q : Course) (depth start : ℕ) → Term
aux_goal q depth start =
    pair_of q.m (at_scrutinee depth start q.indices (variable depth q.params)) (at_scrutinee depth start q.indices (below_at q depth))

-- binds (p), (P : (I) -> D p I -> Type m), the step, (I) and (x : D p I) around `end`
abbrev pub step_over : (binder : Binder) (n : ℕ) (f : Shape) (q : Course) → Term → Term
step_over binder n f q end =
    closed_over binder f.parameters
    (bind binder (motive_type n f q.m q.params)
    (bind binder (step_type n f q (q.params + 1)) (scrutinee_over binder n f (q.params + 2) end)))

-- (p) -> (P) -> (s : (I) -> (x : D p I) -> D!below.m p P I x -> P I x) -> (I) -> (x : D p I) -> Pair.m (P I x) (D!below.m p P I x)
abbrev pub aux_type : (n : ℕ) (f : Shape) (q : Course) → Term
aux_type n f q = step_over Product n f q (aux_goal q (q.params + 2 + q.indices + 1) (q.params + 2))

-- \p P s I x. D!elim.m p (\I x. Pair.m (P I x) (D!below.m p P I x)) methods I x
abbrev pub aux_term : (n : ℕ) (f : Shape) (q : Course) → Term
aux_term n f q =
    let inside = q.params + 2 + q.indices + 1 in
    step_over Function n f q
    (at_scrutinee inside (q.params + 2) q.indices
    (applied_to_methods (aux_method n q inside) 0
    (App (eliminator_at n q.m q.params inside) (scrutinee_over Function n f inside (aux_goal q (inside + q.indices + 1) inside)))
    f.constructors))

abbrev pub aux_of_shape : (base : ℕ) (name : List ℕ) (n : ℕ) (f : Shape) (m : ℕ) → Result Draft Stop
aux_of_shape base name n f m =
    drafted (generated_name name (codes "!aux.") m) base (generated_name name (codes "!below.") m ∷ [])
    (aux_type n f (course_of f m base)) (aux_term n f (course_of f m base))

-- the entry `D!aux.m` for family number n, over `base` entries; it mentions `D!below.m`
abbrev pub aux_entry : (base n : ℕ) (f : Family) (m : ℕ) → Result Draft Stop
aux_entry base n f m = aux_of_shape base f.name n (family_shape n f) m
