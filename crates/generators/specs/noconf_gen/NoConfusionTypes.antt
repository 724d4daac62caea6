-- No confusion (McBride, Goguen and McKinna, "A few constructions on constructors", 2006; Cockx and Devriese,
-- "Proof-relevant unification", 2018): what equations between an application of a constructor c and another term of its
-- family come to. `D!nct.c.m` says it as a type: with a motive for the equations, for c itself that the motive follows from
-- its case at equal arguments, and for another constructor that it holds.
--
-- The parameters have the levels from 0 on, the arguments s of c those after them, then come the indices js and the other
-- term y, and then the equations.
use Rattle.std.specs.Prelude.{ℕ, ◌+◌, ◌==◌, max, cond, List, [], ◌∷◌, ◌++◌, map, length, get_or, Result, codes}
use Rattle.theory.specs.Terms.{Term, Sort, Pi, App, Const}
use Rattle.theory.specs.Telescopes.{products, applied}
use Rattle.theory.specs.Families.{Family}
use Rattle.core_terms.specs.Levels.{variable, run, over}
use Rattle.core_terms.specs.declared.levels.Binder.{Binder}
use Rattle.core_terms.specs.declared.levels.Binder.TheVariants.{Product, Function}
use Rattle.core_terms.specs.declared.stop.Stop.{Stop}
use Rattle.core_sig.specs.Shapes.{ConstructorShape, Shape, types_of}
use Rattle.core_sig.specs.Drafts.{Draft, drafted, generated_name}
use Rattle.core_sig.specs.FamilyShapes.{family_shape}
use Rattle.tele_eq.specs.TelescopicEquality.{equations}
use Rattle.tele_eq.specs.Congruences.{congruences}
use Rattle.case_below_gen.specs.CaseEntries.{closed_over, scrutinee_over, at_scrutinee}
use Rattle.case_below_gen.specs.CourseEntries.{applied_to_methods}
use Rattle.generators.specs.noconf_gen.Compared.{argument_items, member_items, constructed}

-- terms of (I) (y : D p I), at each depth
abbrev pub Member : Type 0
Member = (depth : ℕ) → List Term

-- the variables of (I) (y : D p I), whose levels begin with `start`
abbrev pub variable_member : (k start : ℕ) → Member
variable_member k start depth = run depth start (k + 1)

-- binds the equations of two members around `end`
abbrev pub equations_over : (binder : Binder) (n : ℕ) (f : Shape) (left right : Member) (depth : ℕ) → Term → Term
equations_over binder n f left right depth end =
    closed_over binder (equations (member_items n f depth) (left depth) (right depth)) end

-- eqs(left; right) -> Type m
abbrev pub motive_type : (n : ℕ) (f : Shape) (left right : Member) (m depth : ℕ) → Term
motive_type n f left right m depth = equations_over Product n f left right depth (Sort m)

-- congs(es): congruences of us, c p at the arguments s and t, whose levels begin with `first` and `second`, along equations whose
-- levels begin with `start`
abbrev pub congruences_at : (n : ℕ) (f : Shape) (number : ℕ) → ConstructorShape → (first second start depth : ℕ) → List Term
congruences_at n f number c first second start depth =
    let p = length f.parameters in
    let count = length c.arguments in
    congruences (argument_items p depth c) (member_items n f depth)
    (constructed n p (length f.indices) number depth c (depth + count))
    (run depth first count) (run depth second count) (run depth start count)

-- (es : eqs(Ac; s; t)) -> Q congs(es), for constructor c with the given number, where the levels of the arguments s and t begin
-- with `first` and `second`, and Q has the level `motive`
abbrev pub injective_type : (n : ℕ) (f : Shape) (number : ℕ) → ConstructorShape → (first second motive depth : ℕ) → Term
injective_type n f number c first second motive depth =
    let p = length f.parameters in
    let count = length c.arguments in
    let inside = depth + count in
    products (equations (argument_items p depth c) (run depth first count) (run depth second count))
    (applied (variable inside motive) (congruences_at n f number c first second depth inside))

-- Q E, where the levels of the equations begin with `start`
abbrev pub concluded : (k motive start depth : ℕ) → Term
concluded k motive start depth = applied (variable depth motive) (run depth start (k + 1))

-- for another constructor: (Q : eqs -> Type m) -> Q E
abbrev pub conflict_type : (n : ℕ) (f : Shape) (left right : Member) (m start depth : ℕ) → Term
conflict_type n f left right m start depth =
    Pi (motive_type n f left right m depth) (concluded (length f.indices) depth start (depth + 1))

-- for c itself: (Q : eqs -> Type m) -> ((es : eqs(Ac; s; t)) -> Q congs(es)) -> Q E
abbrev pub injection_type : (n : ℕ) (f : Shape) (number : ℕ) → ConstructorShape → (first second m start depth : ℕ) → Term
injection_type n f number c first second m start depth =
    let p = length f.parameters in
    let k = length f.indices in
    Pi (motive_type n f (constructed n p k number first c) (constructed n p k number second c) m depth)
    (Pi (injective_type n f number c first second depth (depth + 1)) (concluded k depth start (depth + 2)))

-- the consequence of the equations of c at s and of constructor `at` at t
abbrev pub confusion_type : (n : ℕ) (f : Shape) (number : ℕ) → ConstructorShape → (at : ℕ) → ConstructorShape → (second m start depth : ℕ) → Term
confusion_type n f number c at d second m start depth =
    let p = length f.parameters in
    let k = length f.indices in
    cond (at == number) (injection_type n f number c p second m start depth)
    (conflict_type n f (constructed n p k number p c) (constructed n p k at second d) m start depth)

-- \t E. the consequence of the equations E, for constructor `at` at t
abbrev pub confusion_method : (n : ℕ) (f : Shape) (number : ℕ) → ConstructorShape → (m depth at : ℕ) → ConstructorShape → Term
confusion_method n f number c m depth at d =
    let p = length f.parameters in
    let k = length f.indices in
    let count = length d.arguments in
    let inside = depth + count in
    over Function ((0, p) ∷ (depth, count) ∷ []) p depth (types_of d.arguments)
    (equations_over Function n f (constructed n p k number p c) (constructed n p k at depth d) inside
    (confusion_type n f number c at d depth m inside (inside + k + 1)))

-- binds (p), (s : Ac), (js : I) and (y : D p js) around `end`
abbrev pub members_over : (binder : Binder) (n : ℕ) (f : Shape) → ConstructorShape → Term → Term
members_over binder n f c end =
    let p = length f.parameters in
    let count = length c.arguments in
    closed_over binder f.parameters
    (over binder ((0, p) ∷ (p, count) ∷ []) p p (types_of c.arguments) (scrutinee_over binder n f (p + count) end))

-- (p) -> (s : Ac) -> (js : I) -> (y : D p js) -> eqs(us, c p s; js, y) -> Type j
abbrev pub nct_type : (n : ℕ) (f : Shape) (number : ℕ) → ConstructorShape → (j : ℕ) → Term
nct_type n f number c j =
    let p = length f.parameters in
    let k = length f.indices in
    let start = p + length c.arguments in
    members_over Product n f c
    (motive_type n f (constructed n p k number p c) (variable_member k start) j (start + k + 1))

-- \I y. eqs(us, c p s; I, y) -> Type j, at a depth
abbrev pub analysis_motive : (n : ℕ) (f : Shape) (number : ℕ) → ConstructorShape → (j depth : ℕ) → Term
analysis_motive n f number c j depth =
    let p = length f.parameters in
    let k = length f.indices in
    scrutinee_over Function n f depth
    (motive_type n f (constructed n p k number p c) (variable_member k depth) j (depth + k + 1))

-- \p s js y. D!case.(j+1) p (\I y. eqs(us, c p s; I, y) -> Type j) methods js y, where D!case.(j+1) is a constant
abbrev pub nct_term : (n : ℕ) (f : Shape) (number : ℕ) → ConstructorShape → (m j analysis : ℕ) → Term
nct_term n f number c m j analysis =
    let p = length f.parameters in
    let k = length f.indices in
    let start = p + length c.arguments in
    let depth = start + k + 1 in
    members_over Function n f c
    (at_scrutinee depth start k
    (applied_to_methods (confusion_method n f number c m depth) 0
    (App (applied (Const analysis) (run depth 0 p)) (analysis_motive n f number c j depth))
    f.constructors))

-- the constructor with a number
abbrev pub constructor_at : List ConstructorShape → ℕ → ConstructorShape
constructor_at constructors number = get_or constructors number (record { arguments = []; targets = [] })

-- the level of the type `D!nct.c.m`
abbrev pub confusion_level : (f : Shape) (m : ℕ) → ℕ
confusion_level f m = max f.level (m + 1)

-- the part between the family's name and the level in the name of an entry for a constructor, as `!nct.c.`
abbrev pub constructor_mark : (mark constructor : List ℕ) → List ℕ
constructor_mark mark constructor = mark ++ constructor ++ codes "."

-- the entry for constructor c with the given number, of a family with a name and a shape, over `base` entries
abbrev pub nct_of_constructor : (base : ℕ) (name : List ℕ) (n : ℕ) (f : Shape) (number : ℕ) (constructor : List ℕ) → ConstructorShape → (m : ℕ) → Result Draft Stop
nct_of_constructor base name n f number constructor c m =
    let j = confusion_level f m in
    drafted (generated_name name (constructor_mark (codes "!nct.") constructor) m) base
    (generated_name name (codes "!case.") (j + 1) ∷ [])
    (nct_type n f number c j) (nct_term n f number c m j base)

-- the name of a constructor
abbrev pub constructor_name : Family → (number : ℕ) → List ℕ
constructor_name f number = get_or (map (λ c. c.name) f.constructors) number []

-- the entry `D!nct.c.m` for family number n and a constructor of it, over `base` entries; it mentions `D!case.(j+1)`
abbrev pub nct_entry : (base n : ℕ) (f : Family) (number m : ℕ) → Result Draft Stop
nct_entry base n f number m =
    let shape = family_shape n f in
    nct_of_constructor base f.name n shape number (constructor_name f number) (constructor_at shape.constructors number) m
