-- Terms made of a family's shape, with variables by level: the parameters have the levels from 0 on, and whatever is at a depth comes
-- after so many binders.
use Rattle.std.specs.Prelude.{ℕ, suc, ◌+◌, ◌-◌, nat_le, if◌then◌else◌, List, [], ◌∷◌, map, length}
use Rattle.theory.specs.Terms.{Term, Sort, Pi, App, Fam, Con}
use Rattle.theory.specs.Telescopes.{Telescope, products, applied}
use Rattle.core_terms.specs.Levels.{variable, run, place, bind, over}
use Rattle.core_terms.specs.declared.levels.Binder.{Binder}
use Rattle.core_terms.specs.declared.levels.Binder.TheVariants.{Product}
use Rattle.core_sig.specs.Shapes.{ArgumentShape, ConstructorShape, Shape, types_of, by_kind, recursive_count}

-- family n at its p parameters, and at k indices that have the levels from `start` on
abbrev pub family_at : (n p depth start k : ℕ) → Term
family_at n p depth start k = applied (applied (Fam n) (run depth 0 p)) (run depth start k)

-- (I) -> D p I -> Type m
abbrev pub motive_type : (n : ℕ) (f : Shape) (m depth : ℕ) → Term
motive_type n f m depth =
    let p = length f.parameters in
    let k = length f.indices in
    over Product ((0, p) ∷ (depth, k) ∷ []) p depth (types_of f.indices)
    (Pi (family_at n p (depth + k) depth k) (Sort m))

-- (I) -> (x : D p I) -> P I x, where P has the level `motive`
abbrev pub goal_type : (n : ℕ) (f : Shape) (motive depth : ℕ) → Term
goal_type n f motive depth =
    let p = length f.parameters in
    let k = length f.indices in
    let inside = depth + k in
    over Product ((0, p) ∷ (depth, k) ∷ []) p depth (types_of f.indices)
    (Pi (family_at n p inside depth k)
    (App (applied (variable (inside + 1) motive) (run (inside + 1) depth k)) (variable (inside + 1) inside)))

-- `head` applied to the last `count` arguments of a term of a record
abbrev pub applied_to_targets : (runs : List (ℕ × ℕ)) (size depth : ℕ) (head : Term) (count : ℕ) → Term → Term
applied_to_targets runs size depth head (suc count) (App f a) =
    App (applied_to_targets runs size depth head count f) (place runs size depth a)
applied_to_targets runs size depth head _ t = head

-- (inner) -> P targets (r inner), from the type (inner) -> D p targets of the argument with the level r, which has `count`
-- inner arguments, whose levels begin with `start`, and k targets
abbrev pub hypothesis_from : (runs : List (ℕ × ℕ)) (size depth motive r start k count : ℕ) → Term → Term
hypothesis_from runs size depth motive r start k (suc count) (Pi a b) =
    Pi (place runs size depth a) (hypothesis_from runs (size + 1) (depth + 1) motive r start k count b)
hypothesis_from runs size depth motive r start k _ t =
    App (applied_to_targets runs size depth (variable depth motive) k t)
    (applied (variable depth r) (run depth start (depth - start)))

-- the hypothesis for argument `at` of a constructor whose arguments' levels begin with `first`; a type with more than 2,000
-- inner arguments stays as it is, since no answer has it
abbrev pub hypothesis_type : (p k motive first at depth count : ℕ) → Term → Term
hypothesis_type p k motive first at depth count t =
    if nat_le count 2000
    then hypothesis_from ((0, p) ∷ (first, at) ∷ (depth, count) ∷ []) (p + at) depth motive (first + at) depth k count t
    else t

-- hypotheses -> end, or \hypotheses. end, for arguments after `at` others of a constructor, whose arguments' levels begin
-- with `first`
abbrev pub hypotheses_over : (binder : Binder) (p k motive first at depth : ℕ) → List ArgumentShape → Term → Term
hypotheses_over binder p k motive first at depth [] end = end
hypotheses_over binder p k motive first at depth (a ∷ arguments) end =
    by_kind a.kind (hypotheses_over binder p k motive first (at + 1) depth arguments end)
    (λ count. bind binder (hypothesis_type p k motive first at depth count a.type)
    (hypotheses_over binder p k motive first (at + 1) (depth + 1) arguments end))

-- P targets (c p arguments), where the arguments' levels begin with `first`
abbrev pub conclusion : (n p motive number first depth : ℕ) → ConstructorShape → Term
conclusion n p motive number first depth c =
    let count = length c.arguments in
    App (applied (variable depth motive) (map (place ((0, p) ∷ (first, count) ∷ []) (p + count) depth) c.targets))
    (applied (applied (Con n number) (run depth 0 p)) (run depth first count))

-- (arguments) -> hypotheses -> P targets (c p arguments)
abbrev pub method_type : (n p k motive number depth : ℕ) → ConstructorShape → Term
method_type n p k motive number depth c =
    let count = length c.arguments in
    let inside = depth + count in
    over Product ((0, p) ∷ (depth, count) ∷ []) p depth (types_of c.arguments)
    (hypotheses_over Product p k motive depth 0 inside c.arguments
    (conclusion n p motive number depth (inside + recursive_count c.arguments) c))

-- methods -> end, for the constructors from `number` on
abbrev pub methods_over : (n p k motive number depth : ℕ) → List ConstructorShape → Term → Term
methods_over n p k motive number depth [] end = end
methods_over n p k motive number depth (c ∷ constructors) end =
    Pi (method_type n p k motive number depth c) (methods_over n p k motive (number + 1) (depth + 1) constructors end)

-- the type of the eliminator: (p) -> (P : (I) -> D p I -> Type m) -> methods -> (I) -> (x : D p I) -> P I x
abbrev pub eliminator_type : (n : ℕ) (f : Shape) (m : ℕ) → Term
eliminator_type n f m =
    let p = length f.parameters in
    products f.parameters (Pi (motive_type n f m p)
    (methods_over n p (length f.indices) p 0 (p + 1) f.constructors (goal_type n f p (p + 1 + length f.constructors))))

-- the type of a constructor behind its p parameters, where its arguments have the types: (types) -> D p targets
abbrev pub type_behind : (n p : ℕ) → Telescope → List Term → Term
type_behind n p types targets = products types (applied (applied (Fam n) (run (p + length types) 0 p)) targets)

-- the type of a constructor, whose arguments have the types: (p) -> (types) -> D p targets
abbrev pub constructor_type : (n : ℕ) → Telescope → Telescope → List Term → Term
constructor_type n parameters types targets = products parameters (type_behind n (length parameters) types targets)
