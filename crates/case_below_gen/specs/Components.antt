-- The components of course-of-values recursion for the recursive arguments of a constructor: one for each, and their tuple. The motive P
-- comes after the parameters, whose levels begin with 0.
use Rattle.std.specs.Prelude.{ℕ, suc, ◌+◌, ◌-◌, nat_le, if◌then◌else◌, List, [], ◌∷◌, Result, Ok}
use Rattle.theory.specs.Terms.{Term, Sort, Pi, Lam, App, Const, Fam, Con}
use Rattle.theory.specs.Telescopes.{applied}
use Rattle.theory.specs.Prelude.{unit_type, pair_type}
use Rattle.core_terms.specs.Answered.{of_two}
use Rattle.core_terms.specs.Levels.{variable, run, place}
use Rattle.core_terms.specs.declared.stop.Stop.{Stop}
use Rattle.core_sig.specs.ByLevels.{applied_to_targets}
use Rattle.core_sig.specs.Shapes.{ArgumentShape, by_kind}
use Rattle.case_below_gen.specs.declared.components.Course.{Course}
use Rattle.case_below_gen.specs.declared.components.Ending.{Ending}
use Rattle.case_below_gen.specs.declared.components.Ending.TheVariants.{Level, Beside, Folded}

-- Pair.m A B
abbrev pub pair_of : ℕ → Term → Term → Term
pair_of m A B = App (App (Fam (pair_type m)) A) B

-- pair.m A B a b
abbrev pub pair_with : ℕ → Term → Term → Term → Term → Term
pair_with m A B a b = App (App (App (App (Con (pair_type m) 0) A) B) a) b

-- a pair made of four answers, or the first refusal among them
abbrev pub pair_with_answers : ℕ → Result Term Stop → Result Term Stop → Result Term Stop → Result Term Stop → Result Term Stop
pair_with_answers m A B a b = of_two App (of_two App (of_two App (of_two App (Ok (Con (pair_type m) 0)) A) B) a) b

-- D!below.m p P
abbrev pub below_at : (q : Course) (depth : ℕ) → Term
below_at q depth = App (applied (Const q.below) (run depth 0 q.params)) (variable depth q.params)

-- r inner, where the inner arguments' levels begin with `start`
abbrev pub at_inner : (depth r start : ℕ) → Term
at_inner depth r start = applied (variable depth r) (run depth start (depth - start))

-- head targets (r inner), where the type of r ends in t
abbrev pub at_argument : (runs : List (ℕ × ℕ)) (size depth : ℕ) (head : Term) (r start k : ℕ) → Term → Term
at_argument runs size depth head r start k t = App (applied_to_targets runs size depth head k t) (at_inner depth r start)

-- the end after the inner arguments of the argument r with the hypothesis h: Type m, or Pair.m (P targets (r inner)) (h inner), or Pair.m
-- (P targets (r inner)) (D!below.m p P targets (r inner))
abbrev pub behind_inner : (e : Ending) (q : Course) (runs : List (ℕ × ℕ)) (size depth r start h : ℕ) → Term → Term
behind_inner Level q runs size depth r start h t = Sort q.m
behind_inner Beside q runs size depth r start h t =
    pair_of q.m (at_argument runs size depth (variable depth q.params) r start q.indices t) (at_inner depth h start)
behind_inner Folded q runs size depth r start h t =
    pair_of q.m (at_argument runs size depth (variable depth q.params) r start q.indices t)
    (at_argument runs size depth (below_at q depth) r start q.indices t)

-- (inner) -> what comes after, for so many inner arguments
abbrev pub component_from : (e : Ending) (q : Course) (runs : List (ℕ × ℕ)) (size depth r start h count : ℕ) → Term → Term
component_from e q runs size depth r start h (suc count) (Pi a b) =
    Pi (place runs size depth a) (component_from e q runs (size + 1) (depth + 1) r start h count b)
component_from e q runs size depth r start h _ t = behind_inner e q runs size depth r start h t

-- the component for argument `at` of a constructor whose arguments' levels begin with `first`; a type with more than 2,000
-- inner arguments stays as it is, since no answer has it
abbrev pub component : (e : Ending) (q : Course) (first at depth h count : ℕ) → Term → Term
component e q first at depth h count t =
    if nat_le count 2000
    then component_from e q ((0, q.params) ∷ (first, at) ∷ (depth, count) ∷ []) (q.params + at) depth (first + at) depth h count t
    else t

-- \hypotheses. end, where each hypothesis has the type of a component
abbrev pub components_over : (e : Ending) (q : Course) (first at depth : ℕ) → List ArgumentShape → Term → Term
components_over e q first at depth [] end = end
components_over e q first at depth (a ∷ arguments) end =
    by_kind a.kind (components_over e q first (at + 1) depth arguments end)
    (λ count. Lam (component e q first at depth 0 count a.type) (components_over e q first (at + 1) (depth + 1) arguments end))

-- Pair.m H1 (Pair.m H2 .. Unit.m) over the components, where the first hypothesis has the level h
abbrev pub tuple_type : (e : Ending) (q : Course) (first at depth h : ℕ) → List ArgumentShape → Term
tuple_type e q first at depth h [] = Fam (unit_type q.m)
tuple_type e q first at depth h (a ∷ arguments) =
    by_kind a.kind (tuple_type e q first (at + 1) depth h arguments)
    (λ count. pair_of q.m (component e q first at depth h count a.type) (tuple_type e q first (at + 1) depth (h + 1) arguments))

-- the tuple of the hypotheses, whose types are the folded components
abbrev pub tuple : (q : Course) (first at depth h : ℕ) → List ArgumentShape → Term
tuple q first at depth h [] = Con (unit_type q.m) 0
tuple q first at depth h (a ∷ arguments) =
    by_kind a.kind (tuple q first (at + 1) depth h arguments)
    (λ count. pair_with q.m (component Folded q first at depth h count a.type) (tuple_type Folded q first (at + 1) depth (h + 1) arguments)
    (variable depth h) (tuple q first (at + 1) depth (h + 1) arguments))
