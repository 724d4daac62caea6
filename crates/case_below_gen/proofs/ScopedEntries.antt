-- `D!below.m`, `D!aux.m`, `D!rec.m` and `D!all.m` for a family of a scoped signature are scoped.
use Rattle.std.proofs.Common.{◌≡◌, ℕ, ◌+◌, ◌<◌, ◌≤◌, List, [], ◌∷◌, length, All, IfOk, inr, refl, subst as transport, arith, codes}
use Rattle.std.proofs.lemmas.List.Elements.{All-head, All-tail}
use Rattle.theory.specs.Terms.{Term, top}
use Rattle.theory.specs.Terms.Term.{Sort, Pi, App, Const, Elim}
use Rattle.theory.specs.Families.{Family}
use Rattle.theory.specs.Prelude.{prelude, pair_type}
use Rattle.theory.specs.Signatures.{Signature, FamilyOf, IsEntryAt, IsPrefix}
use Rattle.theory.specs.SignatureScopes.{IsFamilyNumber, IsConstructorNumber, IsScopedSignature}
use Rattle.core_terms.specs.Levels.{variable, bind}
use Rattle.core_terms.specs.declared.levels.Binder.{Binder}
use Rattle.core_terms.specs.declared.levels.Binder.TheVariants.{Product, Function}
use Rattle.core_sig.specs.ByLevels.{motive_type}
use Rattle.core_sig.specs.DraftScopes.{IsDraftNumber, IsDraftTerm}
use Rattle.core_sig.specs.Drafts.{generated_name}
use Rattle.core_sig.specs.FamilyShapes.{family_shape}
use Rattle.core_sig.specs.ScopedDrafts.{IsScopedDraft}
use Rattle.core_sig.specs.Shapes.{ConstructorShape, Shape, recursive_count}
use Rattle.core_sig.proofs.PlacedDrafts.{pi-draft, lam-draft, app-draft, bind-draft, draft-more, draft-longer, var-draft, sort-draft, variable-draft, at-run-draft}
use Rattle.core_sig.proofs.ScopedDrafts.{drafted-scoped}
use Rattle.core_sig.proofs.ShapeScopes.{IsDraftConstructor, IsDraftShape, elim-draft, family-draft, motive_type-draft, targets-of-draft, constructor-at-draft}
use Rattle.case_below_gen.specs.declared.components.Course.{Course}
use Rattle.case_below_gen.specs.declared.components.Ending.TheVariants.{Level, Beside, Folded}
use Rattle.case_below_gen.specs.declared.sides.Side.{Side}
use Rattle.case_below_gen.specs.declared.sides.Side.TheVariants.{First, Second}
use Rattle.case_below_gen.specs.CaseEntries.{scrutinee_over, at_scrutinee}
use Rattle.case_below_gen.specs.Components.{below_at, components_over, tuple_type, tuple}
use Rattle.case_below_gen.specs.CourseEntries.{course_of, applied_to_methods, eliminator_at, below_method, below_over, below_type, below_term, below_entry, at_constructor, aux_pair, aux_method, step_type, aux_goal, step_over, aux_type, aux_term, aux_entry}
use Rattle.case_below_gen.specs.Projections.{side_type, side_variable, aux_at, projection, side_entry_type, side_entry_term, side_mark, side_entry}
use Rattle.case_below_gen.proofs.ScopedCases.{closed_over-draft, scrutinee_over-draft, at_scrutinee-draft, constructor-over-draft, arguments-behind}
use Rattle.case_below_gen.proofs.ScopedCourses.{HasPairs, pairs-there, pair_of-draft, pair_with-draft, const-draft, below_at-draft, components_over-draft, tuple_type-draft, tuple-draft}

pub applied_to_methods-draft : {T : Signature} {base count : ℕ} (n p depth : ℕ) (method : ℕ → ConstructorShape → Term) (number : ℕ) (head : Term) (constructors : List ConstructorShape) → ((i : ℕ) → i < number + length constructors → IsConstructorNumber T n i) → All (IsDraftConstructor T base count p) constructors
    → ((i : ℕ) (c : ConstructorShape) → IsConstructorNumber T n i → IsDraftConstructor T base count p c → IsDraftTerm T base count depth (method i c)) → IsDraftTerm T base count depth head → IsDraftTerm T base count depth (applied_to_methods method number head constructors)
applied_to_methods-draft n p depth method number head [] known all each h = h
applied_to_methods-draft {T} {base} {count} n p depth method number head (c ∷ constructors) known all each h =
    applied_to_methods-draft n p depth method (number + 1) (App head (method number c)) constructors (λ i lt. known i (omega arith)) (All-tail (IsDraftConstructor T base count p) c constructors all) each
    (app-draft h (each number c (known number (omega arith)) (All-head (IsDraftConstructor T base count p) c constructors all)))

pub eliminator_at-draft : {T : Signature} {base count : ℕ} (n l p depth : ℕ) → IsFamilyNumber T n → p ≤ depth → IsDraftTerm T base count depth (eliminator_at n l p depth)
eliminator_at-draft n l p depth is low = at-run-draft (Elim n l) depth 0 p (omega arith) (elim-draft n l is)

-- ---- D!below.m

below_method-draft : {T : Signature} {base count : ℕ} (q : Course) (depth : ℕ) (c : ConstructorShape) → HasPairs T q.m → IsDraftConstructor T base count q.params c → q.params < depth → IsDraftTerm T base count depth (below_method q depth c)
below_method-draft q depth c pairs is low =
    let inside = depth + length c.arguments in
    let end = tuple_type Beside q depth 0 (inside + recursive_count c.arguments) inside c.arguments in
    constructor-over-draft Function q.params depth c (components_over Level q depth 0 inside c.arguments end) is (omega arith)
    (components_over-draft Level q depth 0 inside c.arguments end pairs tt (omega arith) (omega arith) (omega arith) (arguments-behind c is)
    (tuple_type-draft Beside q depth 0 (inside + recursive_count c.arguments) inside c.arguments pairs tt (omega arith) (omega arith) (omega arith) (omega arith) (arguments-behind c is)))

below_over-draft : {T : Signature} {base count : ℕ} (binder : Binder) (n : ℕ) (f : Shape) (m : ℕ) (end : Term) → IsDraftShape T base count n f → IsDraftTerm T base count (length f.parameters + 1 + length f.indices + 1) end → IsDraftTerm T base count 0 (below_over binder n f m end)
below_over-draft binder n f m end is h =
    let p = length f.parameters in
    closed_over-draft binder f.parameters (bind binder (motive_type n f m p) (scrutinee_over binder n f (p + 1) end)) is.parameters
    (bind-draft binder (motive_type-draft n f m p is (omega arith)) (scrutinee_over-draft binder n f (p + 1) end is (omega arith) h))

below_term-draft : {T : Signature} {base count : ℕ} (n : ℕ) (f : Shape) (m : ℕ) → HasPairs T m → IsDraftShape T base count n f → IsDraftTerm T base count 0 (below_term n f m)
below_term-draft n f m pairs is =
    let p = length f.parameters in
    let k = length f.indices in
    let inside = p + 1 + k + 1 in
    let method : ℕ → ConstructorShape → Term = λ number c. below_method (course_of f m 0) inside c in
    let head = App (eliminator_at n (m + 1) p inside) (scrutinee_over Function n f inside (Sort m)) in
    let whole = applied_to_methods method 0 head f.constructors in
    below_over-draft Function n f m (at_scrutinee inside (p + 1) k whole) is
    (at_scrutinee-draft inside (p + 1) k whole (omega arith)
    (applied_to_methods-draft n p inside method 0 head f.constructors (λ i lt. is.numbers i (omega arith)) is.constructors
    (λ i c known made. below_method-draft (course_of f m 0) inside c pairs made (omega arith))
    (app-draft (eliminator_at-draft n (m + 1) p inside is.family (omega arith)) (scrutinee_over-draft Function n f inside (Sort m) is (omega arith) (sort-draft m)))))

-- over each longer signature
pub below-scoped : (S T : Signature) (n : ℕ) (f : Family) (m : ℕ) → IsScopedSignature S → IsPrefix (prelude S.has_k) S → m < top → IsEntryAt S n (FamilyOf f) → IsPrefix S T → IfOk (below_entry (length S.entries) n f m) (IsScopedDraft T)
below-scoped S T n f m scoped first low at longer =
    let shape = family_shape n f in
    let is = family-draft S 0 n f scoped at in
    drafted-scoped T (generated_name f.name (codes "!below.") m) (length S.entries) [] (below_type n shape m) (below_term n shape m)
    (draft-longer longer (below_over-draft Product n shape m (Sort m) is (sort-draft m)))
    (draft-longer longer (below_term-draft n shape m (pairs-there S m first low) is))

-- ---- D!aux.m

-- the conditions of a course on a signature: the tuples, and the constant `D!below.m`
record IsDraftCourse (T : Signature) (base count : ℕ) (f : Shape) (q : Course) : Type 0 where
  pairs : HasPairs T q.m
  below : IsDraftNumber T base count q.below
  params : q.params ≡ length f.parameters
  indices : q.indices ≡ length f.indices

at_constructor-draft : {T : Signature} {base count : ℕ} (n p number first depth : ℕ) (head : Term) (c : ConstructorShape) → IsConstructorNumber T n number → IsDraftConstructor T base count p c → p ≤ first → first + length c.arguments ≤ depth → IsDraftTerm T base count depth head → IsDraftTerm T base count depth (at_constructor n p number first depth head c)
at_constructor-draft n p number first depth head c known is low below h =
    app-draft (targets-of-draft head p first depth c is low below h) (constructor-at-draft n p number first (length c.arguments) depth known (omega arith) below)

aux_pair-draft : {T : Signature} {base count : ℕ} (n : ℕ) (q : Course) (number first depth hypothesis : ℕ) (c : ConstructorShape) → HasPairs T q.m → IsDraftNumber T base count q.below → IsConstructorNumber T n number → IsDraftConstructor T base count q.params c → q.params + 1 < depth → q.params ≤ first → first + length c.arguments ≤ depth → hypothesis + recursive_count c.arguments ≤ depth
    → IsDraftTerm T base count depth (aux_pair n q number first depth hypothesis c)
aux_pair-draft {T} {base} {count} n q number first depth hypothesis c pairs named known is step low below hh =
    let t = tuple q first 0 depth hypothesis c.arguments in
    let ht : IsDraftTerm T base count depth t = tuple-draft q first 0 depth hypothesis c.arguments pairs named low (omega arith) (omega arith) hh (arguments-behind c is) in
    pair_with-draft q.m
    (at_constructor n q.params number first depth (variable depth q.params) c)
    (at_constructor n q.params number first depth (below_at q depth) c)
    (App (at_constructor n q.params number first depth (variable depth (q.params + 1)) c) t) t pairs
    (at_constructor-draft n q.params number first depth (variable depth q.params) c known is low below (variable-draft q.params (omega arith)))
    (at_constructor-draft n q.params number first depth (below_at q depth) c known is low below (below_at-draft q depth named (omega arith)))
    (app-draft (at_constructor-draft n q.params number first depth (variable depth (q.params + 1)) c known is low below (variable-draft (q.params + 1) step)) ht)
    ht

aux_method-draft : {T : Signature} {base count : ℕ} (n : ℕ) (q : Course) (depth number : ℕ) (c : ConstructorShape) → HasPairs T q.m → IsDraftNumber T base count q.below → IsConstructorNumber T n number → IsDraftConstructor T base count q.params c → q.params + 1 < depth → IsDraftTerm T base count depth (aux_method n q depth number c)
aux_method-draft n q depth number c pairs named known is low =
    let inside = depth + length c.arguments in
    let end = aux_pair n q number depth (inside + recursive_count c.arguments) inside c in
    constructor-over-draft Function q.params depth c (components_over Folded q depth 0 inside c.arguments end) is (omega arith)
    (components_over-draft Folded q depth 0 inside c.arguments end pairs named (omega arith) (omega arith) (omega arith) (arguments-behind c is)
    (aux_pair-draft n q number depth (inside + recursive_count c.arguments) inside c pairs named known is (omega arith) (omega arith) (omega arith) (omega arith)))

aux_goal-draft : {T : Signature} {base count : ℕ} (q : Course) (depth start : ℕ) → HasPairs T q.m → IsDraftNumber T base count q.below → q.params < depth → start + q.indices < depth → IsDraftTerm T base count depth (aux_goal q depth start)
aux_goal-draft q depth start pairs named low below =
    pair_of-draft q.m (at_scrutinee depth start q.indices (variable depth q.params)) (at_scrutinee depth start q.indices (below_at q depth)) pairs
    (at_scrutinee-draft depth start q.indices (variable depth q.params) below (variable-draft q.params low))
    (at_scrutinee-draft depth start q.indices (below_at q depth) below (below_at-draft q depth named low))

step_type-draft : {T : Signature} {base count : ℕ} (n : ℕ) (f : Shape) (q : Course) (depth : ℕ) → IsDraftCourse T base count f q → IsDraftShape T base count n f → q.params < depth → IsDraftTerm T base count depth (step_type n f q depth)
step_type-draft n f q depth course is low =
    let inside = depth + q.indices + 1 in
    let below = at_scrutinee inside depth q.indices (below_at q inside) in
    let goal = at_scrutinee (inside + 1) depth q.indices (variable (inside + 1) q.params) in
    scrutinee_over-draft Product n f depth (Pi below goal) is (omega (arith, course.params))
    (draft-more (omega (arith, course.indices))
    (pi-draft
    (at_scrutinee-draft inside depth q.indices (below_at q inside) (omega arith) (below_at-draft q inside course.below (omega arith)))
    (at_scrutinee-draft (inside + 1) depth q.indices (variable (inside + 1) q.params) (omega arith) (variable-draft q.params (omega arith)))))

step_over-draft : {T : Signature} {base count : ℕ} (binder : Binder) (n : ℕ) (f : Shape) (q : Course) (end : Term) → IsDraftCourse T base count f q → IsDraftShape T base count n f → IsDraftTerm T base count (q.params + 2 + q.indices + 1) end → IsDraftTerm T base count 0 (step_over binder n f q end)
step_over-draft binder n f q end course is h =
    let scrutinee = scrutinee_over binder n f (q.params + 2) end in
    let step = bind binder (step_type n f q (q.params + 1)) scrutinee in
    closed_over-draft binder f.parameters (bind binder (motive_type n f q.m q.params) step) is.parameters
    (draft-more (omega (arith, course.params))
    (bind-draft binder (motive_type-draft n f q.m q.params is (omega (arith, course.params)))
    (bind-draft binder (step_type-draft n f q (q.params + 1) course is (omega arith))
    (draft-more (omega arith) (scrutinee_over-draft binder n f (q.params + 2) end is (omega (arith, course.params)) (draft-more (omega (arith, course.indices)) h))))))

aux_type-draft : {T : Signature} {base count : ℕ} (n : ℕ) (f : Shape) (q : Course) → IsDraftCourse T base count f q → IsDraftShape T base count n f → IsDraftTerm T base count 0 (aux_type n f q)
aux_type-draft n f q course is =
    let inside = q.params + 2 + q.indices + 1 in
    step_over-draft Product n f q (aux_goal q inside (q.params + 2)) course is
    (aux_goal-draft q inside (q.params + 2) course.pairs course.below (omega arith) (omega arith))

aux_term-draft : {T : Signature} {base count : ℕ} (n : ℕ) (f : Shape) (q : Course) → IsDraftCourse T base count f q → IsDraftShape T base count n f → IsDraftTerm T base count 0 (aux_term n f q)
aux_term-draft {T} {base} {count} n f q course is =
    let inside = q.params + 2 + q.indices + 1 in
    let goal = aux_goal q (inside + q.indices + 1) inside in
    let head = App (eliminator_at n q.m q.params inside) (scrutinee_over Function n f inside goal) in
    let whole = applied_to_methods (aux_method n q inside) 0 head f.constructors in
    let all : All (IsDraftConstructor T base count q.params) f.constructors =
    transport (λ p. All (IsDraftConstructor T base count p) f.constructors) (omega (arith, course.params)) is.constructors in
    step_over-draft Function n f q (at_scrutinee inside (q.params + 2) q.indices whole) course is
    (at_scrutinee-draft inside (q.params + 2) q.indices whole (omega arith)
    (applied_to_methods-draft n q.params inside (aux_method n q inside) 0 head f.constructors (λ i lt. is.numbers i (omega arith)) all
    (λ i c known made. aux_method-draft n q inside i c course.pairs course.below known made (omega arith))
    (app-draft (eliminator_at-draft n q.m q.params inside is.family (omega arith))
    (scrutinee_over-draft Function n f inside goal is (omega (arith, course.params))
    (draft-more (omega (arith, course.indices)) (aux_goal-draft q (inside + q.indices + 1) inside course.pairs course.below (omega arith) (omega arith)))))))

-- the course of a family whose `D!below.m` is the first name of a draft
course-draft : (S : Signature) (count : ℕ) (f : Shape) (m : ℕ) → IsPrefix (prelude S.has_k) S → m < top → 0 < count → IsDraftCourse S (length S.entries) count f (course_of f m (length S.entries))
course-draft S count f m first low some =
    record { pairs = pairs-there S m first low; below = inr (omega arith, omega arith); params = refl; indices = refl }

pub aux-scoped : (S T : Signature) (n : ℕ) (f : Family) (m : ℕ) → IsScopedSignature S → IsPrefix (prelude S.has_k) S → m < top → IsEntryAt S n (FamilyOf f) → IsPrefix S T → IfOk (aux_entry (length S.entries) n f m) (IsScopedDraft T)
aux-scoped S T n f m scoped first low at longer =
    let shape = family_shape n f in
    let base = length S.entries in
    let is = family-draft S 1 n f scoped at in
    let course = course-draft S 1 shape m first low (omega arith) in
    drafted-scoped T (generated_name f.name (codes "!aux.") m) base (generated_name f.name (codes "!below.") m ∷ []) (aux_type n shape (course_of shape m base)) (aux_term n shape (course_of shape m base))
    (draft-longer longer (aux_type-draft n shape (course_of shape m base) course is))
    (draft-longer longer (aux_term-draft n shape (course_of shape m base) course is))

-- ---- D!rec.m and D!all.m

side_type-draft : {T : Signature} {base count : ℕ} (side : Side) (q : Course) (depth start : ℕ) → IsDraftNumber T base count q.below → q.params < depth → start + q.indices < depth → IsDraftTerm T base count depth (side_type side q depth start)
side_type-draft First q depth start named low below =
    at_scrutinee-draft depth start q.indices (variable depth q.params) below (variable-draft q.params low)
side_type-draft Second q depth start named low below =
    at_scrutinee-draft depth start q.indices (below_at q depth) below (below_at-draft q depth named low)

pub side_variable-draft : {T : Signature} {base count depth : ℕ} (side : Side) → 1 < depth → IsDraftTerm T base count depth (side_variable side)
side_variable-draft First low = var-draft 1 low
side_variable-draft Second low = var-draft 0 (omega arith)

aux_at-draft : {T : Signature} {base count : ℕ} (q : Course) (aux depth : ℕ) → IsDraftNumber T base count aux → q.params + 1 < depth → IsDraftTerm T base count depth (aux_at q aux depth)
aux_at-draft q aux depth named low =
    app-draft (app-draft (at-run-draft (Const aux) depth 0 q.params (omega arith) (const-draft aux named)) (variable-draft q.params (omega arith)))
    (variable-draft (q.params + 1) low)

projection-draft : {T : Signature} {base count : ℕ} (side : Side) (q : Course) (aux depth start : ℕ) → HasPairs T q.m → IsDraftNumber T base count q.below → IsDraftNumber T base count aux → q.params + 1 < depth → start + q.indices < depth → IsDraftTerm T base count depth (projection side q aux depth start)
projection-draft side q aux depth start pairs named made low below =
    app-draft (app-draft (app-draft (app-draft (app-draft (elim-draft (pair_type q.m) q.m pairs.pair)
    (side_type-draft First q depth start named (omega arith) below)) (side_type-draft Second q depth start named (omega arith) below))
    (lam-draft (aux_goal-draft q depth start pairs named (omega arith) below) (side_type-draft side q (depth + 1) start named (omega arith) (omega arith))))
    (lam-draft (side_type-draft First q depth start named (omega arith) below)
    (lam-draft (side_type-draft Second q (depth + 1) start named (omega arith) (omega arith)) (side_variable-draft side (omega arith)))))
    (at_scrutinee-draft depth start q.indices (aux_at q aux depth) below (aux_at-draft q aux depth made low))

pub side-scoped : (side : Side) (S T : Signature) (n : ℕ) (f : Family) (m : ℕ) → IsScopedSignature S → IsPrefix (prelude S.has_k) S → m < top → IsEntryAt S n (FamilyOf f) → IsPrefix S T → IfOk (side_entry side (length S.entries) n f m) (IsScopedDraft T)
side-scoped side S T n f m scoped first low at longer =
    let shape = family_shape n f in
    let base = length S.entries in
    let q = course_of shape m base in
    let inside = q.params + 2 + q.indices + 1 in
    let is = family-draft S 2 n f scoped at in
    let course = course-draft S 2 shape m first low (omega arith) in
    drafted-scoped T (generated_name f.name (side_mark side) m) base (generated_name f.name (codes "!below.") m ∷ generated_name f.name (codes "!aux.") m ∷ [])
    (side_entry_type side n shape q) (side_entry_term side n shape q (base + 1))
    (draft-longer longer
    (step_over-draft Product n shape q (side_type side q inside (q.params + 2)) course is
    (side_type-draft side q inside (q.params + 2) course.below (omega arith) (omega arith))))
    (draft-longer longer
    (step_over-draft Function n shape q (projection side q (base + 1) inside (q.params + 2)) course is
    (projection-draft side q (base + 1) inside (q.params + 2) course.pairs course.below (inr (omega arith, omega arith)) (omega arith) (omega arith))))
