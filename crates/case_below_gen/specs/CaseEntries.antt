-- Case analysis (McBride, Goguen and McKinna, "A few constructions on constructors", 2006): `D!case.m` is the eliminator
-- without hypotheses. Variables are by level: the parameters have the levels from 0 on.
use Rattle.std.specs.Prelude.{ℕ, ◌+◌, List, [], ◌∷◌, length, Result, codes}
use Rattle.theory.specs.Terms.{Term, App, Elim}
use Rattle.theory.specs.Telescopes.{Telescope, products, functions, applied}
use Rattle.theory.specs.Families.{Family}
use Rattle.core_terms.specs.Levels.{variable, run, bind, over}
use Rattle.core_terms.specs.declared.levels.Binder.{Binder}
use Rattle.core_terms.specs.declared.levels.Binder.TheVariants.{Product, Function}
use Rattle.core_terms.specs.declared.stop.Stop.{Stop}
use Rattle.core_sig.specs.ByLevels.{family_at, motive_type, hypotheses_over, conclusion}
use Rattle.core_sig.specs.Shapes.{ConstructorShape, Shape, types_of, recursive_count}
use Rattle.core_sig.specs.Drafts.{Draft, drafted, generated_name}
use Rattle.core_sig.specs.FamilyShapes.{family_shape}

-- (tele) -> end, or \tele. end
abbrev pub closed_over : Binder → Telescope → Term → Term
closed_over Product tele end = products tele end
closed_over Function tele end = functions tele end

-- binds (I) and (x : D p I) around `end`, at a depth
abbrev pub scrutinee_over : (binder : Binder) (n : ℕ) (f : Shape) (depth : ℕ) → Term → Term
scrutinee_over binder n f depth end =
    let p = length f.parameters in
    let k = length f.indices in
    over binder ((0, p) ∷ (depth, k) ∷ []) p depth (types_of f.indices) (bind binder (family_at n p (depth + k) depth k) end)

-- a method without hypotheses: (arguments) -> P targets (c p arguments)
abbrev pub branch_type : (n p motive number depth : ℕ) → ConstructorShape → Term
branch_type n p motive number depth c =
    let count = length c.arguments in
    over Product ((0, p) ∷ (depth, count) ∷ []) p depth (types_of c.arguments)
    (conclusion n p motive number depth (depth + count) c)

-- binds these methods around `end`, for the constructors from `number` on
abbrev pub branches_over : (binder : Binder) (n p motive number depth : ℕ) → List ConstructorShape → Term → Term
branches_over binder n p motive number depth [] end = end
branches_over binder n p motive number depth (c ∷ constructors) end =
    bind binder (branch_type n p motive number depth c)
    (branches_over binder n p motive (number + 1) (depth + 1) constructors end)

-- a method of the eliminator that drops the hypotheses: \arguments hypotheses. m arguments, where m has the level `method`
abbrev pub dropping : (p k motive method depth : ℕ) → ConstructorShape → Term
dropping p k motive method depth c =
    let count = length c.arguments in
    let inside = depth + count in
    let whole = inside + recursive_count c.arguments in
    over Function ((0, p) ∷ (depth, count) ∷ []) p depth (types_of c.arguments)
    (hypotheses_over Function p k motive depth 0 inside c.arguments
    (applied (variable whole method) (run whole depth count)))

-- `head` applied to these methods, where the first m has the level `method`
abbrev pub applied_to_droppings : (p k motive method depth : ℕ) → Term → List ConstructorShape → Term
applied_to_droppings p k motive method depth head [] = head
applied_to_droppings p k motive method depth head (c ∷ constructors) =
    applied_to_droppings p k motive (method + 1) depth (App head (dropping p k motive method depth c)) constructors

-- binds (p), (P : (I) -> D p I -> Type m), the methods without hypotheses, (I) and (x : D p I) around `end`
abbrev pub case_over : (binder : Binder) (n : ℕ) (f : Shape) (m : ℕ) → Term → Term
case_over binder n f m end =
    let p = length f.parameters in
    closed_over binder f.parameters
    (bind binder (motive_type n f m p)
    (branches_over binder n p p 0 (p + 1) f.constructors
    (scrutinee_over binder n f (p + 1 + length f.constructors) end)))

-- `head` applied to k indices, whose levels begin with `start`, and to the scrutinee after them, at a depth
abbrev pub at_scrutinee : (depth start k : ℕ) → Term → Term
at_scrutinee depth start k head = App (applied head (run depth start k)) (variable depth (start + k))

-- the eliminator's type without hypotheses: (p) -> (P : (I) -> D p I -> Type m) -> methods -> (I) -> (x : D p I) -> P I x
abbrev pub case_type : (n : ℕ) (f : Shape) (m : ℕ) → Term
case_type n f m =
    let p = length f.parameters in
    let k = length f.indices in
    let depth = p + 1 + length f.constructors in
    case_over Product n f m (at_scrutinee (depth + k + 1) depth k (variable (depth + k + 1) p))

-- \p P methods I x. D!elim.m p P methods' I x, with methods' that drop the hypotheses
abbrev pub case_term : (n : ℕ) (f : Shape) (m : ℕ) → Term
case_term n f m =
    let p = length f.parameters in
    let k = length f.indices in
    let depth = p + 1 + length f.constructors in
    let inside = depth + k + 1 in
    case_over Function n f m
    (at_scrutinee inside depth k
    (applied_to_droppings p k p (p + 1) inside (App (applied (Elim n m) (run inside 0 p)) (variable inside p)) f.constructors))

-- the entry for a family with a name and a shape, over `base` entries
abbrev pub case_of_shape : (base : ℕ) (name : List ℕ) (n : ℕ) (f : Shape) (m : ℕ) → Result Draft Stop
case_of_shape base name n f m =
    drafted (generated_name name (codes "!case.") m) base [] (case_type n f m) (case_term n f m)

-- the entry `D!case.m` for family number n, over `base` entries; it mentions no generated constant
abbrev pub case_entry : (base n : ℕ) (f : Family) (m : ℕ) → Result Draft Stop
case_entry base n f m = case_of_shape base f.name n (family_shape n f) m
