-- The path to a part in a below value has constants of one kind, where what it is made of has.
use Rattle.std.proofs.Common.{◌≡◌, ℕ, zero, suc, ◌+◌, ◌-◌, ◌==◌, nat_le, Bool, true, false, if◌then◌else◌, Option, Some, None, List, [], ◌∷◌, map, length, take, drop, slice_get, option_and_then, refl, subst}
use Rattle.std.proofs.lemmas.Option.{none-some}
use Rattle.theory.specs.Terms.{Term, Var, Pi, App, Const, Fam}
use Rattle.theory.specs.Substitutions.{fill}
use Rattle.theory.specs.Telescopes.{applied, variables, weaken_by}
use Rattle.theory.specs.Spines.{spine_of}
use Rattle.theory.specs.Eliminators.{no_variable}
use Rattle.theory.specs.Families.{Argument, Constructor, Family, family_head}
use Rattle.theory.proofs.Lists.{some_is}
use Rattle.core_terms.specs.Levels.{variable, run}
use Rattle.core_sig.specs.ByLevels.{applied_to_targets}
use Rattle.core_sig.specs.FamilyShapes as shape
use Rattle.core_sig.specs.FamilyShapes.{argument_shapes, family_shape}
use Rattle.core_sig.specs.Meanings.{behind}
use Rattle.core_sig.specs.Shapes.{ArgumentShape, ConstructorShape, Shape, by_kind}
use Rattle.core_sig.specs.declared.family.ArgKind.{ArgKind}
use Rattle.core_sig.specs.declared.family.ArgKind.TheVariants.{Plain, Recursive}
use Rattle.case_below_gen.specs.declared.components.Course.{Course}
use Rattle.case_below_gen.specs.declared.components.Ending.TheVariants.{Folded}
use Rattle.case_below_gen.specs.declared.sides.Side.{Side}
use Rattle.case_below_gen.specs.declared.sides.Side.TheVariants.{First, Second}
use Rattle.case_below_gen.specs.Components.{pair_of, below_at, at_inner, at_argument, behind_inner, component_from, component, tuple_type}
use Rattle.case_below_gen.specs.CourseEntries.{course_of}
use Rattle.case_below_gen.specs.PartTests.{is_applied, if_full, constructor_of, if_recursive, has_part_along}
use Rattle.case_below_gen.specs.PathSteps.{side_of, projected, component_side, component_in, at_part, part_side, path_step}
use Rattle.case_below_gen.specs.Paths.{Descent, step_values, step_to, last_arguments, path_at, with_arguments, path_along, path_of}
use Rattle.case_below_gen.specs.Projections.{side_variable}
use Rattle.entry_laws.proofs.OnlyConstants.{Each, each-append, each-take, each-drop, HasOnly, only-if, only-inst, only-filled, only-applied, only-spine, only-variables, only-run, only-place}
use Rattle.entry_laws.proofs.OnlyFamilies.{ArgumentOnly, ConstructorOnly, FamilyOnly, only-argument_type, only-weaken_by}

-- ---- shapes

abbrev pub ArgumentsOnly : (ℕ → Type 0) → List ArgumentShape → Type 0
ArgumentsOnly Q arguments = Each (λ a. HasOnly Q a.type) arguments

abbrev pub ConstructorShapesOnly : (ℕ → Type 0) → List ConstructorShape → Type 0
ConstructorShapesOnly Q constructors = Each (λ c. ArgumentsOnly Q c.arguments) constructors

only-argument_shapes : {Q : ℕ → Type 0} (n : ℕ) (f : Family) (at : ℕ) (arguments : List Argument) → Each (ArgumentOnly Q) arguments → ArgumentsOnly Q (argument_shapes n f at arguments)
only-argument_shapes n f at [] Each.none = Each.none
only-argument_shapes n f at (a ∷ arguments) (Each.more h all) =
    Each.more
    (only-argument_type Var (weaken_by at (family_head n f)) a (λ v. HasOnly.of_var)
    (only-weaken_by at (family_head n f) (only-applied (Fam n) (variables (length f.parameters)) HasOnly.of_fam (only-variables (length f.parameters)))) h)
    (only-argument_shapes n f (at + 1) arguments all)

only-constructor_shapes : {Q : ℕ → Type 0} (n : ℕ) (f : Family) (constructors : List Constructor) → Each (ConstructorOnly Q) constructors
    → ConstructorShapesOnly Q (map (shape.constructor_shape n f) constructors)
only-constructor_shapes n f [] Each.none = Each.none
only-constructor_shapes n f (c ∷ constructors) (Each.more h all) =
    Each.more (only-argument_shapes n f 0 c.arguments h.arguments) (only-constructor_shapes n f constructors all)

pub only-shape : {Q : ℕ → Type 0} (n : ℕ) (f : Family) → FamilyOnly Q f → ConstructorShapesOnly Q (family_shape n f).constructors
only-shape n f h = only-constructor_shapes n f f.constructors h.constructors

-- ---- components

pub only-side_variable : {Q : ℕ → Type 0} (side : Side) → HasOnly Q (side_variable side)
only-side_variable First = HasOnly.of_var
only-side_variable Second = HasOnly.of_var

only-side_of : {Q : ℕ → Type 0} (side : Side) (a b : Term) → HasOnly Q a → HasOnly Q b → HasOnly Q (side_of side a b)
only-side_of First a b h k = h
only-side_of Second a b h k = k

pub only-pair_of : {Q : ℕ → Type 0} (m : ℕ) (A B : Term) → HasOnly Q A → HasOnly Q B → HasOnly Q (pair_of m A B)
only-pair_of m A B h k = HasOnly.of_app (HasOnly.of_app HasOnly.of_fam h) k

only-projected : {Q : ℕ → Type 0} (side : Side) (m : ℕ) (A B A' B' q : Term) → HasOnly Q A → HasOnly Q B → HasOnly Q A' → HasOnly Q B' → HasOnly Q q
    → HasOnly Q (projected side m A B A' B' q)
only-projected side m A B A' B' q hA hB hA' hB' hq =
    HasOnly.of_app
    (HasOnly.of_app
    (HasOnly.of_app (HasOnly.of_app (HasOnly.of_app HasOnly.of_elim hA) hB)
    (HasOnly.of_lam (only-pair_of m A B hA hB) (only-side_of side A' B' hA' hB')))
    (HasOnly.of_lam hA (HasOnly.of_lam hB' (only-side_variable side))))
    hq

only-below_at : {Q : ℕ → Type 0} (q : Course) (depth : ℕ) → Q q.below → HasOnly Q (below_at q depth)
only-below_at q depth named = HasOnly.of_app (only-applied (Const q.below) (run depth 0 q.params) (HasOnly.of_const named) (only-run _ _ _)) HasOnly.of_var

only-targets_of : {Q : ℕ → Type 0} (runs : List (ℕ × ℕ)) (size depth : ℕ) (head : Term) (count : ℕ) (t : Term) → HasOnly Q head → HasOnly Q t
    → HasOnly Q (applied_to_targets runs size depth head count t)
only-targets_of runs size depth head (suc count) (App f a) hh (HasOnly.of_app hf ha) =
    HasOnly.of_app (only-targets_of runs size depth head count f hh hf) (only-place runs size depth a ha)
only-targets_of runs size depth head zero t hh ht = hh
only-targets_of runs size depth head (suc count) t hh ht = hh

only-at_inner : {Q : ℕ → Type 0} (depth r start : ℕ) → HasOnly Q (at_inner depth r start)
only-at_inner depth r start = only-applied (variable depth r) (run depth start (depth - start)) HasOnly.of_var (only-run _ _ _)

only-at_argument : {Q : ℕ → Type 0} (runs : List (ℕ × ℕ)) (size depth : ℕ) (head : Term) (r start k : ℕ) (t : Term) → HasOnly Q head → HasOnly Q t
    → HasOnly Q (at_argument runs size depth head r start k t)
only-at_argument runs size depth head r start k t hh ht = HasOnly.of_app (only-targets_of runs size depth head k t hh ht) (only-at_inner depth r start)

only-folded_inner : {Q : ℕ → Type 0} (q : Course) (runs : List (ℕ × ℕ)) (size depth r start h : ℕ) (t : Term) → Q q.below → HasOnly Q t
    → HasOnly Q (behind_inner Folded q runs size depth r start h t)
only-folded_inner q runs size depth r start h t named ht =
    only-pair_of q.m (at_argument runs size depth (variable depth q.params) r start q.indices t) (at_argument runs size depth (below_at q depth) r start q.indices t)
    (only-at_argument runs size depth (variable depth q.params) r start q.indices t HasOnly.of_var ht)
    (only-at_argument runs size depth (below_at q depth) r start q.indices t (only-below_at q depth named) ht)

only-component_from : {Q : ℕ → Type 0} (q : Course) (runs : List (ℕ × ℕ)) (size depth r start h count : ℕ) (t : Term) → Q q.below → HasOnly Q t
    → HasOnly Q (component_from Folded q runs size depth r start h count t)
only-component_from q runs size depth r start h (suc count) (Pi a b) named (HasOnly.of_pi ha hb) =
    HasOnly.of_pi (only-place runs size depth a ha) (only-component_from q runs (size + 1) (depth + 1) r start h count b named hb)
only-component_from q runs size depth r start h zero t named ht = only-folded_inner q runs size depth r start h t named ht
only-component_from q runs size depth r start h (suc count) t named ht = only-folded_inner q runs size depth r start h t named ht

only-component : {Q : ℕ → Type 0} (q : Course) (first at depth h count : ℕ) (t : Term) → Q q.below → HasOnly Q t → HasOnly Q (component Folded q first at depth h count t)
only-component q first at depth h count t named ht =
    let runs : List (ℕ × ℕ) = (0, q.params) ∷ (first, at) ∷ (depth, count) ∷ [] in
    let size = q.params + at in
    only-if (nat_le count 2000) (component_from Folded q runs size depth (first + at) depth h count t) t (only-component_from q runs size depth (first + at) depth h count t named ht) ht

only-tuple_type : {Q : ℕ → Type 0} (q : Course) (first at depth h : ℕ) (arguments : List ArgumentShape) → Q q.below → ArgumentsOnly Q arguments
    → HasOnly Q (tuple_type Folded q first at depth h arguments)
only-tuple_type q first at depth h [] named Each.none = HasOnly.of_fam
only-tuple_type {Q} q first at depth h (a ∷ arguments) named (Each.more k all) =
    by a.kind (only-tuple_type q first (at + 1) depth h arguments named all) (only-tuple_type q first (at + 1) depth (h + 1) arguments named all)
  where
    by : (kind : ArgKind) → HasOnly Q (tuple_type Folded q first (at + 1) depth h arguments) → HasOnly Q (tuple_type Folded q first (at + 1) depth (h + 1) arguments)
        → HasOnly Q (by_kind kind (tuple_type Folded q first (at + 1) depth h arguments)
        (λ count. pair_of q.m (component Folded q first at depth h count a.type) (tuple_type Folded q first (at + 1) depth (h + 1) arguments)))
    by Plain g l = g
    by (Recursive count) g l =
        only-pair_of q.m (component Folded q first at depth h count a.type) (tuple_type Folded q first (at + 1) depth (h + 1) arguments)
        (only-component q first at depth h count a.type named k) l

-- ---- steps

only-component_side : {Q : ℕ → Type 0} (side : Side) (q : Course) (depth at count : ℕ) (type : Term) (arguments : List ArgumentShape) (b : Term) → Q q.below → HasOnly Q type
    → ArgumentsOnly Q arguments → HasOnly Q b → HasOnly Q (component_side side q depth at count type arguments b)
only-component_side side q depth at count type arguments b named ht all hb =
    only-projected side q.m
    (component Folded q (q.params + 1) at depth 0 count type)
    (tuple_type Folded q (q.params + 1) (at + 1) depth 0 arguments)
    (component Folded q (q.params + 1) at (depth + 1) 0 count type)
    (tuple_type Folded q (q.params + 1) (at + 1) (depth + 1) 0 arguments)
    b
    (only-component q (q.params + 1) at depth 0 count type named ht)
    (only-tuple_type q (q.params + 1) (at + 1) depth 0 arguments named all)
    (only-component q (q.params + 1) at (depth + 1) 0 count type named ht)
    (only-tuple_type q (q.params + 1) (at + 1) (depth + 1) 0 arguments named all)
    hb

only-component_in : {Q : ℕ → Type 0} (q : Course) (depth wanted at : ℕ) (arguments : List ArgumentShape) (b : Term) → Q q.below → ArgumentsOnly Q arguments → HasOnly Q b
    → HasOnly Q (component_in q depth wanted at arguments b)
only-component_in q depth wanted at [] b named Each.none hb = hb
only-component_in {Q} q depth wanted at (a ∷ arguments) b named (Each.more k all) hb =
    by a.kind (only-component_in q depth wanted (at + 1) arguments b named all hb)
    (λ count. only-component_side First q depth at count a.type arguments b named k all hb)
    (λ count.
    only-component_in q depth wanted (at + 1) arguments (component_side Second q depth at count a.type arguments b) named all
    (only-component_side Second q depth at count a.type arguments b named k all hb))
  where
    by : (kind : ArgKind) → HasOnly Q (component_in q depth wanted (at + 1) arguments b)
        → ((count : ℕ) → HasOnly Q (component_side First q depth at count a.type arguments b))
        → ((count : ℕ) → HasOnly Q (component_in q depth wanted (at + 1) arguments (component_side Second q depth at count a.type arguments b)))
        → HasOnly Q (by_kind kind (component_in q depth wanted (at + 1) arguments b)
        (λ count. if at == wanted then component_side First q depth at count a.type arguments b else component_in q depth wanted (at + 1) arguments (component_side Second q depth at count a.type arguments b)))
    by Plain g first others = g
    by (Recursive count) g first others =
        only-if (at == wanted) (component_side First q depth at count a.type arguments b)
        (component_in q depth wanted (at + 1) arguments (component_side Second q depth at count a.type arguments b)) (first count) (others count)

only-at_part : {Q : ℕ → Type 0} (q : Course) (depth at start count : ℕ) (end head : Term) → HasOnly Q end → HasOnly Q head → HasOnly Q (at_part q depth at start count end head)
only-at_part q depth at start count end head he hh =
    HasOnly.of_app
    (only-targets_of ((0, q.params) ∷ (q.params + 1, at) ∷ (start, count) ∷ []) (q.params + at + count) depth head q.indices end hh he)
    (only-applied (variable depth (q.params + 1 + at)) (run depth start count) HasOnly.of_var (only-run depth start count))

only-part_side : {Q : ℕ → Type 0} (side : Side) (q : Course) (depth at start count : ℕ) (end b : Term) → Q q.below → HasOnly Q end → HasOnly Q b
    → HasOnly Q (part_side side q depth at start count end b)
only-part_side side q depth at start count end b named he hb =
    only-projected side q.m
    (at_part q depth at start count end (variable depth q.params))
    (at_part q depth at start count end (below_at q depth))
    (at_part q (depth + 1) at start count end (variable (depth + 1) q.params))
    (at_part q (depth + 1) at start count end (below_at q (depth + 1)))
    b
    (only-at_part q depth at start count end (variable depth q.params) he HasOnly.of_var)
    (only-at_part q depth at start count end (below_at q depth) he (only-below_at q depth named))
    (only-at_part q (depth + 1) at start count end (variable (depth + 1) q.params) he HasOnly.of_var)
    (only-at_part q (depth + 1) at start count end (below_at q (depth + 1)) he (only-below_at q (depth + 1) named))
    hb

only-path_step : {Q : ℕ → Type 0} (side : Side) (q : Course) (arguments : List ArgumentShape) (at count : ℕ) (end : Term) → Q q.below → ArgumentsOnly Q arguments
    → HasOnly Q end → HasOnly Q (path_step side q arguments at count end)
only-path_step side q arguments at count end named all he =
    let value = q.params + 1 + length arguments in
    let start = value + 1 in
    let depth = start + count in
    only-part_side side q depth at start count end (applied (component_in q depth at 0 arguments (variable depth value)) (run depth start count)) named he
    (only-applied (component_in q depth at 0 arguments (variable depth value)) (run depth start count)
    (only-component_in q depth at 0 arguments (variable depth value) named all HasOnly.of_var) (only-run _ _ _))

-- ---- paths

pub record DescentOnly (Q : ℕ → Type 0) (d : Descent) : Type 0 where
  pub below : Q d.below
  pub constructors : ConstructorShapesOnly Q d.shape.constructors
  pub motive : HasOnly Q d.motive
  pub part : HasOnly Q d.part

only-behind : {Q : ℕ → Type 0} (n : ℕ) (t : Term) → HasOnly Q t → HasOnly Q (behind n t)
only-behind (suc n) (Pi a b) (HasOnly.of_pi ha hb) = only-behind n b hb
only-behind zero t h = h
only-behind (suc n) t h = h

only-step_to : {Q : ℕ → Type 0} (d : Descent) (side : Side) (whole : Term) (arguments : List ArgumentShape) (at count : ℕ) (end : Term) (inner : List Term) (b : Term)
    → DescentOnly Q d → HasOnly Q whole → ArgumentsOnly Q arguments → HasOnly Q end → Each (HasOnly Q) inner → HasOnly Q b
    → HasOnly Q (step_to d side whole arguments at count end inner b)
only-step_to d side whole arguments at count end inner b is hw all he hi hb =
    let p = length d.shape.parameters in
    let spine = only-spine whole hw in
    only-inst (fill no_variable (step_values d whole b inner)) (path_step side (course_of d.shape d.m d.below) arguments at count end)
    (only-filled (step_values d whole b inner)
    (each-append (take p (spine_of whole)) _ (each-take p (spine_of whole) spine)
    (Each.more is.motive (each-append (drop p (spine_of whole)) (b ∷ inner) (each-drop p (spine_of whole) spine) (Each.more hb hi)))))
    (only-path_step side (course_of d.shape d.m d.below) arguments at count end is.below all he)

-- one of the constructors
only-found_at : {Q : ℕ → Type 0} (constructors : List ConstructorShape) (i : ℕ) (c : ConstructorShape) → ConstructorShapesOnly Q constructors → slice_get constructors i ≡ Some c
    → ArgumentsOnly Q c.arguments
only-found_at [] i c all there = absurd (none-some c there)
only-found_at {Q} (b ∷ constructors) zero c (Each.more h all) there = subst (λ c. ArgumentsOnly Q c.arguments) (some_is there) h
only-found_at (b ∷ constructors) (suc i) c (Each.more h all) there = only-found_at constructors i c all there

only-found_full : {Q : ℕ → Type 0} (f : Shape) (size : ℕ) (number : Option ℕ) (c : ConstructorShape) → ConstructorShapesOnly Q f.constructors
    → option_and_then (if_full f size) (option_and_then (slice_get f.constructors) number) ≡ Some c → ArgumentsOnly Q c.arguments
only-found_full f size None c all there = absurd (none-some c there)
only-found_full {Q} f size (Some i) c all there = from (slice_get f.constructors i) refl there
  where
    from : (o : Option ConstructorShape) → slice_get f.constructors i ≡ o → option_and_then (if_full f size) o ≡ Some c → ArgumentsOnly Q c.arguments
    from None e is = absurd (none-some c is)
    from (Some x) e is = test (size == length f.parameters + length x.arguments) is
      where
        test : (t : Bool) → (if t then Some x else None) ≡ Some c → ArgumentsOnly Q c.arguments
        test true some = only-found_at f.constructors i c all (let same = some_is some in subst (λ y. slice_get f.constructors i ≡ Some y) same e)
        test false some = absurd (none-some c some)

only-path_at : {Q : ℕ → Type 0} (d : Descent) (whole : Term) (arguments : List ArgumentShape) (at : ℕ) (r b : Term) (go_on : Term → Term) → DescentOnly Q d → HasOnly Q whole
    → ArgumentsOnly Q arguments → HasOnly Q b → ((x : Term) → HasOnly Q x → HasOnly Q (go_on x)) → HasOnly Q (path_at d whole arguments at r b go_on)
only-path_at {Q} d whole arguments at r b go_on is hw all hb goes = of-argument (slice_get arguments at) refl
  where
    of-kind : (kind : ArgKind) (type : Term) → HasOnly Q type
        → HasOnly Q (by_kind kind b (λ inner. if is_applied r inner d.part then step_to d First whole arguments at inner (behind inner type) (last_arguments inner d.part) b else go_on (step_to d Second whole arguments at 0 type [] b)))
    of-kind Plain type ht = hb
    of-kind (Recursive inner) type ht =
        only-if (is_applied r inner d.part) (step_to d First whole arguments at inner (behind inner type) (last_arguments inner d.part) b)
        (go_on (step_to d Second whole arguments at 0 type [] b))
        (only-step_to d First whole arguments at inner (behind inner type) (last_arguments inner d.part) b is hw all (only-behind inner type ht)
        (each-drop (length (spine_of d.part) - inner) (spine_of d.part) (only-spine d.part is.part)) hb)
        (goes (step_to d Second whole arguments at 0 type [] b) (only-step_to d Second whole arguments at 0 type [] b is hw all ht Each.none hb))

    type-there : (xs : List ArgumentShape) (i : ℕ) (a : ArgumentShape) → ArgumentsOnly Q xs → slice_get xs i ≡ Some a → HasOnly Q a.type
    type-there [] i a Each.none there = absurd (none-some a there)
    type-there (x ∷ xs) zero a (Each.more h rest) there = subst (λ a. HasOnly Q a.type) (some_is there) h
    type-there (x ∷ xs) (suc i) a (Each.more h rest) there = type-there xs i a rest there

    of-argument : (o : Option ArgumentShape) → slice_get arguments at ≡ o
        → HasOnly Q (if_recursive o b (λ inner type. if is_applied r inner d.part then step_to d First whole arguments at inner (behind inner type) (last_arguments inner d.part) b else go_on (step_to d Second whole arguments at 0 type [] b)))
    of-argument None there = hb
    of-argument (Some a) there = of-kind a.kind a.type (type-there arguments at a all there)

only-with : {Q : ℕ → Type 0} (o : Option ConstructorShape) (t : Term) (go_on : List ArgumentShape → Term) → HasOnly Q t
    → ((c : ConstructorShape) → o ≡ Some c → HasOnly Q (go_on c.arguments)) → HasOnly Q (with_arguments o t go_on)
only-with None t go_on ht goes = ht
only-with (Some c) t go_on ht goes = goes c refl

only-along : {Q : ℕ → Type 0} (d : Descent) (whole : Term) (arguments : List ArgumentShape) (at : ℕ) (t b : Term) → DescentOnly Q d → HasOnly Q whole → ArgumentsOnly Q arguments
    → HasOnly Q t → HasOnly Q b → HasOnly Q (path_along d whole arguments at t b)
only-along d whole arguments (suc at) (App g r) b is hw all (HasOnly.of_app hg hr) hb =
    only-if (has_part_along d.family d.shape d.part arguments at g) _ _ (only-along d whole arguments at g b is hw all hg hb)
    (only-path_at d whole arguments at r b _ is hw all hb
    (λ x hx. only-with (constructor_of d.family d.shape r) x _ hx
    (λ c found. only-along d r c.arguments (length c.arguments) r x is hr (only-found_full d.shape (length (spine_of r)) _ c is.constructors found) hr hx)))
only-along d whole arguments zero t b is hw all ht hb = hb
only-along d whole arguments (suc at) t b is hw all ht hb = hb

pub only-path_of : {Q : ℕ → Type 0} (d : Descent) (t b : Term) → DescentOnly Q d → HasOnly Q t → HasOnly Q b → HasOnly Q (path_of d t b)
only-path_of d t b is ht hb =
    only-with (constructor_of d.family d.shape t) b _ hb
    (λ c found. only-along d t c.arguments (length c.arguments) t b is ht (only-found_full d.shape (length (spine_of t)) _ c is.constructors found) ht hb)
