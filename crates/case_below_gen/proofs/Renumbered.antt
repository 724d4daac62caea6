-- Constants of generated terms that are numbered anew: where the family's own terms keep theirs, the number of `D!below.m` and that
-- of `D!aux.m` alone are others.
use Rattle.std.proofs.Common.{◌≡◌, ℕ, zero, suc, ◌+◌, ◌-◌, Bool, true, false, nat_le, if◌then◌else◌, List, [], ◌∷◌, map, length, refl, ap, ap₂, ◌∙◌}
use Rattle.theory.specs.Terms.{Term, height}
use Rattle.theory.specs.Terms.Term.{Var, Sort, Pi, Lam, App, Let, Const, Fam, Con, Elim, AxiomK}
use Rattle.theory.specs.Telescopes.{Telescope, applied}
use Rattle.theory.specs.Prelude.{pair_type}
use Rattle.core_terms.specs.Levels.{variable, run, place_under, place, bind, over}
use Rattle.core_terms.specs.declared.levels.Binder.{Binder}
use Rattle.core_terms.specs.declared.levels.Binder.TheVariants.{Product, Function}
use Rattle.core_sig.specs.ByLevels.{family_at, motive_type, applied_to_targets}
use Rattle.core_sig.specs.Settling.{renumbered}
use Rattle.core_sig.specs.Shapes.{ArgumentShape, ConstructorShape, Shape, types_of, by_kind, recursive_count}
use Rattle.core_sig.specs.declared.family.ArgKind.{ArgKind}
use Rattle.core_sig.specs.declared.family.ArgKind.TheVariants.{Plain, Recursive}
use Rattle.case_below_gen.specs.declared.components.Course.{Course}
use Rattle.case_below_gen.specs.declared.components.Ending.TheVariants.{Folded}
use Rattle.case_below_gen.specs.declared.sides.Side.{Side}
use Rattle.case_below_gen.specs.declared.sides.Side.TheVariants.{First, Second}
use Rattle.case_below_gen.specs.CaseEntries.{closed_over, scrutinee_over, at_scrutinee}
use Rattle.case_below_gen.specs.Components.{pair_of, pair_with, below_at, at_argument, behind_inner, component_from, component, components_over, tuple_type, tuple}
use Rattle.case_below_gen.specs.CourseEntries.{applied_to_methods, eliminator_at, at_constructor, aux_pair, aux_method, step_type, aux_goal, step_over, aux_type, aux_term}
use Rattle.case_below_gen.specs.Projections.{side_type, side_variable, aux_at, projection, side_entry_type, side_entry_term}

module _ (r : ℕ → ℕ) where
  abbrev R : Term → Term
  R = renumbered r

  abbrev pub Kept : Term → Type 0
  Kept t = renumbered r t ≡ t

  abbrev pub AllKept : List Term → Type 0
  AllKept [] = Unit {0}
  AllKept (t ∷ ts) = Kept t × AllKept ts

  abbrev pub KeptConstructors : List ConstructorShape → Type 0
  KeptConstructors [] = Unit {0}
  KeptConstructors (c ∷ constructors) = AllKept (types_of c.arguments) × AllKept c.targets × KeptConstructors constructors

  pub record KeptShape (f : Shape) : Type 0 where
    pub parameters : AllKept f.parameters
    pub indices : AllKept (types_of f.indices)
    pub constructors : KeptConstructors f.constructors

  -- the course with the new number of `D!below.m`
  abbrev pub anew : Course → Course
  anew q = record { m = q.m; params = q.params; indices = q.indices; below = r q.below }

  -- ---- terms by levels

  applied-anew : (head : Term) (ts : List Term) → R (applied head ts) ≡ applied (R head) (map R ts)
  applied-anew head [] = refl
  applied-anew head (t ∷ ts) = applied-anew (App head t) ts

  run-anew : (depth start count : ℕ) → map R (run depth start count) ≡ run depth start count
  run-anew depth start zero = refl
  run-anew depth start (suc count) = ap (λ ts. variable depth start ∷ ts) (run-anew depth (start + 1) count)

  at-run-anew : (head : Term) (depth start count : ℕ) → R (applied head (run depth start count)) ≡ applied (R head) (run depth start count)
  at-run-anew head depth start count = applied-anew head (run depth start count) ∙ ap (applied (R head)) (run-anew depth start count)

  under-anew : (runs : List (ℕ × ℕ)) (size depth under : ℕ) (t : Term) → R (place_under runs size depth under t) ≡ place_under runs size depth under (R t)
  under-anew runs size depth under (Pi a b) = ap₂ Pi (under-anew runs size depth under a) (under-anew runs size depth (under + 1) b)
  under-anew runs size depth under (Lam a b) = ap₂ Lam (under-anew runs size depth under a) (under-anew runs size depth (under + 1) b)
  under-anew runs size depth under (App f a) = ap₂ App (under-anew runs size depth under f) (under-anew runs size depth under a)
  under-anew runs size depth under (Let a t b) =
      ap₂ (λ (x : Term × Term) (y : Term). Let x.0 x.1 y) (ap₂ (λ (x y : Term). (x, y)) (under-anew runs size depth under a) (under-anew runs size depth under t)) (under-anew runs size depth (under + 1) b)
  under-anew runs size depth under (Var v) = refl
  under-anew runs size depth under (Sort i) = refl
  under-anew runs size depth under (Const c) = refl
  under-anew runs size depth under (Fam n) = refl
  under-anew runs size depth under (Con n c) = refl
  under-anew runs size depth under (Elim n m) = refl
  under-anew runs size depth under (AxiomK i m) = refl

  place-anew : (runs : List (ℕ × ℕ)) (size depth : ℕ) (t : Term) → Kept t → R (place runs size depth t) ≡ place runs size depth t
  place-anew runs size depth t kept = by (nat_le (height t) 2000)
    where
      by : (b : Bool) → R (if b then place_under runs size depth 0 t else t) ≡ (if b then place_under runs size depth 0 t else t)
      by true = under-anew runs size depth 0 t ∙ ap (place_under runs size depth 0) kept
      by false = kept

  places-anew : (runs : List (ℕ × ℕ)) (size depth : ℕ) (ts : List Term) → AllKept ts → map R (map (place runs size depth) ts) ≡ map (place runs size depth) ts
  places-anew runs size depth [] kept = refl
  places-anew runs size depth (t ∷ ts) kept = ap₂ ◌∷◌ (place-anew runs size depth t kept.0) (places-anew runs size depth ts kept.1)

  bind-anew : (binder : Binder) (a b : Term) → R (bind binder a b) ≡ bind binder (R a) (R b)
  bind-anew Product a b = refl
  bind-anew Function a b = refl

  over-anew : (binder : Binder) (runs : List (ℕ × ℕ)) (size depth : ℕ) (tele : Telescope) (end : Term) → AllKept tele → R (over binder runs size depth tele end) ≡ over binder runs size depth tele (R end)
  over-anew binder runs size depth [] end kept = refl
  over-anew binder runs size depth (a ∷ tele) end kept =
      bind-anew binder (place runs size depth a) (over binder runs (size + 1) (depth + 1) tele end)
      ∙ ap₂ (bind binder) (place-anew runs size depth a kept.0) (over-anew binder runs (size + 1) (depth + 1) tele end kept.1)

  closed_over-anew : (binder : Binder) (tele : Telescope) (end : Term) → AllKept tele → R (closed_over binder tele end) ≡ closed_over binder tele (R end)
  closed_over-anew Product [] end kept = refl
  closed_over-anew Product (a ∷ tele) end kept = ap₂ Pi kept.0 (closed_over-anew Product tele end kept.1)
  closed_over-anew Function [] end kept = refl
  closed_over-anew Function (a ∷ tele) end kept = ap₂ Lam kept.0 (closed_over-anew Function tele end kept.1)

  function-kept : (f a : Term) → Kept (App f a) → Kept f
  function-kept f a kept = let parts : App (renumbered r f) (renumbered r a) ≡ App f a = kept in cc

  argument-kept : (f a : Term) → Kept (App f a) → Kept a
  argument-kept f a kept = let parts : App (renumbered r f) (renumbered r a) ≡ App f a = kept in cc

  domain-kept : (a b : Term) → Kept (Pi a b) → Kept a
  domain-kept a b kept = let parts : Pi (renumbered r a) (renumbered r b) ≡ Pi a b = kept in cc

  codomain-kept : (a b : Term) → Kept (Pi a b) → Kept b
  codomain-kept a b kept = let parts : Pi (renumbered r a) (renumbered r b) ≡ Pi a b = kept in cc

  targets-anew : (runs : List (ℕ × ℕ)) (size depth : ℕ) (head : Term) (k : ℕ) (t : Term) → Kept t → R (applied_to_targets runs size depth head k t) ≡ applied_to_targets runs size depth (R head) k t
  targets-anew runs size depth head (suc k) (App f a) kept =
      ap₂ App (targets-anew runs size depth head k f (function-kept f a kept)) (place-anew runs size depth a (argument-kept f a kept))
  targets-anew runs size depth head k t kept = refl

  family_at-anew : (n p depth start k : ℕ) → R (family_at n p depth start k) ≡ family_at n p depth start k
  family_at-anew n p depth start k =
      at-run-anew (applied (Fam n) (run depth 0 p)) depth start k ∙ ap (λ h. applied h (run depth start k)) (at-run-anew (Fam n) depth 0 p)

  at_scrutinee-anew : (depth start k : ℕ) (head : Term) → R (at_scrutinee depth start k head) ≡ at_scrutinee depth start k (R head)
  at_scrutinee-anew depth start k head = ap (λ h. App h (variable depth (start + k))) (at-run-anew head depth start k)

  scrutinee_over-anew : (binder : Binder) (n : ℕ) (f : Shape) (depth : ℕ) (end : Term) → AllKept (types_of f.indices) → R (scrutinee_over binder n f depth end) ≡ scrutinee_over binder n f depth (R end)
  scrutinee_over-anew binder n f depth end kept =
      let p = length f.parameters in
      let k = length f.indices in
      over-anew binder ((0, p) ∷ (depth, k) ∷ []) p depth (types_of f.indices) (bind binder (family_at n p (depth + k) depth k) end) kept
      ∙ ap (over binder ((0, p) ∷ (depth, k) ∷ []) p depth (types_of f.indices))
      (bind-anew binder (family_at n p (depth + k) depth k) end ∙ ap (λ a. bind binder a (R end)) (family_at-anew n p (depth + k) depth k))

  motive_type-anew : (n : ℕ) (f : Shape) (m depth : ℕ) → AllKept (types_of f.indices) → R (motive_type n f m depth) ≡ motive_type n f m depth
  motive_type-anew n f m depth kept =
      let p = length f.parameters in
      let k = length f.indices in
      over-anew Product ((0, p) ∷ (depth, k) ∷ []) p depth (types_of f.indices) (Pi (family_at n p (depth + k) depth k) (Sort m)) kept
      ∙ ap (λ a. over Product ((0, p) ∷ (depth, k) ∷ []) p depth (types_of f.indices) (Pi a (Sort m))) (family_at-anew n p (depth + k) depth k)

  -- ---- components and tuples

  below_at-anew : (q : Course) (depth : ℕ) → R (below_at q depth) ≡ below_at (anew q) depth
  below_at-anew q depth = ap (λ h. App h (variable depth q.params)) (at-run-anew (Const q.below) depth 0 q.params)

  at_argument-anew : (runs : List (ℕ × ℕ)) (size depth : ℕ) (head head' : Term) (place start k : ℕ) (t : Term) → R head ≡ head' → Kept t → R (at_argument runs size depth head place start k t) ≡ at_argument runs size depth head' place start k t
  at_argument-anew runs size depth head head' place start k t is kept =
      ap₂ App (targets-anew runs size depth head k t kept ∙ ap (λ h. applied_to_targets runs size depth h k t) is) (at-run-anew (variable depth place) depth start (depth - start))

  behind_inner-anew : (q : Course) (runs : List (ℕ × ℕ)) (size depth place start h : ℕ) (t : Term) → Kept t → R (behind_inner Folded q runs size depth place start h t) ≡ behind_inner Folded (anew q) runs size depth place start h t
  behind_inner-anew q runs size depth place start h t kept =
      ap₂ (pair_of q.m)
      (at_argument-anew runs size depth (variable depth q.params) (variable depth q.params) place start q.indices t refl kept)
      (at_argument-anew runs size depth (below_at q depth) (below_at (anew q) depth) place start q.indices t (below_at-anew q depth) kept)

  component_from-anew : (q : Course) (runs : List (ℕ × ℕ)) (size depth place start h inner : ℕ) (t : Term) → Kept t → R (component_from Folded q runs size depth place start h inner t) ≡ component_from Folded (anew q) runs size depth place start h inner t
  component_from-anew q runs size depth place start h (suc inner) (Pi a b) kept =
      ap₂ Pi (place-anew runs size depth a (domain-kept a b kept)) (component_from-anew q runs (size + 1) (depth + 1) place start h inner b (codomain-kept a b kept))
  component_from-anew q runs size depth place start h inner t kept = behind_inner-anew q runs size depth place start h t kept

  component-anew : (q : Course) (first at depth h inner : ℕ) (t : Term) → Kept t → R (component Folded q first at depth h inner t) ≡ component Folded (anew q) first at depth h inner t
  component-anew q first at depth h inner t kept = by (nat_le inner 2000)
    where
      by : (b : Bool) → R (if b then component_from Folded q ((0, q.params) ∷ (first, at) ∷ (depth, inner) ∷ []) (q.params + at) depth (first + at) depth h inner t else t) ≡ (if b then component_from Folded (anew q) ((0, q.params) ∷ (first, at) ∷ (depth, inner) ∷ []) (q.params + at) depth (first + at) depth h inner t else t)
      by true = component_from-anew q ((0, q.params) ∷ (first, at) ∷ (depth, inner) ∷ []) (q.params + at) depth (first + at) depth h inner t kept
      by false = kept

  components_over-anew : (q : Course) (first at depth : ℕ) (arguments : List ArgumentShape) (end : Term) → AllKept (types_of arguments) → R (components_over Folded q first at depth arguments end) ≡ components_over Folded (anew q) first at depth arguments (R end)
  components_over-anew q first at depth [] end kept = refl
  components_over-anew q first at depth (a ∷ arguments) end kept =
      by a.kind (components_over-anew q first (at + 1) depth arguments end kept.1) (components_over-anew q first (at + 1) (depth + 1) arguments end kept.1)
    where
      by : (kind : ArgKind) → R (components_over Folded q first (at + 1) depth arguments end) ≡ components_over Folded (anew q) first (at + 1) depth arguments (R end)
          → R (components_over Folded q first (at + 1) (depth + 1) arguments end) ≡ components_over Folded (anew q) first (at + 1) (depth + 1) arguments (R end)
          → R (by_kind kind (components_over Folded q first (at + 1) depth arguments end) (λ inner. Lam (component Folded q first at depth 0 inner a.type) (components_over Folded q first (at + 1) (depth + 1) arguments end)))
          ≡ by_kind kind (components_over Folded (anew q) first (at + 1) depth arguments (R end)) (λ inner. Lam (component Folded (anew q) first at depth 0 inner a.type) (components_over Folded (anew q) first (at + 1) (depth + 1) arguments (R end)))
      by Plain plain recursive = plain
      by (Recursive inner) plain recursive = ap₂ Lam (component-anew q first at depth 0 inner a.type kept.0) recursive

  tuple_type-anew : (q : Course) (first at depth h : ℕ) (arguments : List ArgumentShape) → AllKept (types_of arguments) → R (tuple_type Folded q first at depth h arguments) ≡ tuple_type Folded (anew q) first at depth h arguments
  tuple_type-anew q first at depth h [] kept = refl
  tuple_type-anew q first at depth h (a ∷ arguments) kept =
      by a.kind (tuple_type-anew q first (at + 1) depth h arguments kept.1) (tuple_type-anew q first (at + 1) depth (h + 1) arguments kept.1)
    where
      by : (kind : ArgKind) → R (tuple_type Folded q first (at + 1) depth h arguments) ≡ tuple_type Folded (anew q) first (at + 1) depth h arguments
          → R (tuple_type Folded q first (at + 1) depth (h + 1) arguments) ≡ tuple_type Folded (anew q) first (at + 1) depth (h + 1) arguments
          → R (by_kind kind (tuple_type Folded q first (at + 1) depth h arguments) (λ inner. pair_of q.m (component Folded q first at depth h inner a.type) (tuple_type Folded q first (at + 1) depth (h + 1) arguments)))
          ≡ by_kind kind (tuple_type Folded (anew q) first (at + 1) depth h arguments) (λ inner. pair_of q.m (component Folded (anew q) first at depth h inner a.type) (tuple_type Folded (anew q) first (at + 1) depth (h + 1) arguments))
      by Plain plain recursive = plain
      by (Recursive inner) plain recursive = ap₂ (pair_of q.m) (component-anew q first at depth h inner a.type kept.0) recursive

  pair_with-anew : (m : ℕ) (A A' B B' a a' b b' : Term) → R A ≡ A' → R B ≡ B' → R a ≡ a' → R b ≡ b' → R (pair_with m A B a b) ≡ pair_with m A' B' a' b'
  pair_with-anew m A A' B B' a a' b b' hA hB ha hb = ap₂ App (ap₂ App (ap₂ App (ap (App (Con (pair_type m) 0)) hA) hB) ha) hb

  tuple-anew : (q : Course) (first at depth h : ℕ) (arguments : List ArgumentShape) → AllKept (types_of arguments) → R (tuple q first at depth h arguments) ≡ tuple (anew q) first at depth h arguments
  tuple-anew q first at depth h [] kept = refl
  tuple-anew q first at depth h (a ∷ arguments) kept =
      by a.kind (tuple-anew q first (at + 1) depth h arguments kept.1) (tuple-anew q first (at + 1) depth (h + 1) arguments kept.1)
    where
      by : (kind : ArgKind) → R (tuple q first (at + 1) depth h arguments) ≡ tuple (anew q) first (at + 1) depth h arguments
          → R (tuple q first (at + 1) depth (h + 1) arguments) ≡ tuple (anew q) first (at + 1) depth (h + 1) arguments
          → R (by_kind kind (tuple q first (at + 1) depth h arguments) (λ inner. pair_with q.m (component Folded q first at depth h inner a.type) (tuple_type Folded q first (at + 1) depth (h + 1) arguments) (variable depth h) (tuple q first (at + 1) depth (h + 1) arguments)))
          ≡ by_kind kind (tuple (anew q) first (at + 1) depth h arguments) (λ inner. pair_with q.m (component Folded (anew q) first at depth h inner a.type) (tuple_type Folded (anew q) first (at + 1) depth (h + 1) arguments) (variable depth h) (tuple (anew q) first (at + 1) depth (h + 1) arguments))
      by Plain plain recursive = plain
      by (Recursive inner) plain recursive =
          pair_with-anew q.m (component Folded q first at depth h inner a.type) (component Folded (anew q) first at depth h inner a.type)
          (tuple_type Folded q first (at + 1) depth (h + 1) arguments) (tuple_type Folded (anew q) first (at + 1) depth (h + 1) arguments)
          (variable depth h) (variable depth h) (tuple q first (at + 1) depth (h + 1) arguments) (tuple (anew q) first (at + 1) depth (h + 1) arguments)
          (component-anew q first at depth h inner a.type kept.0) (tuple_type-anew q first (at + 1) depth (h + 1) arguments kept.1) refl recursive

  -- ---- D!aux.m

  at_constructor-anew : (n p number first depth : ℕ) (head head' : Term) (c : ConstructorShape) → R head ≡ head' → AllKept c.targets → R (at_constructor n p number first depth head c) ≡ at_constructor n p number first depth head' c
  at_constructor-anew n p number first depth head head' c is kept =
      let count = length c.arguments in
      let targets = map (place ((0, p) ∷ (first, count) ∷ []) (p + count) depth) c.targets in
      ap₂ App
      (applied-anew head targets ∙ ap₂ applied is (places-anew ((0, p) ∷ (first, count) ∷ []) (p + count) depth c.targets kept))
      (at-run-anew (applied (Con n number) (run depth 0 p)) depth first count ∙ ap (λ h. applied h (run depth first count)) (at-run-anew (Con n number) depth 0 p))

  aux_pair-anew : (n : ℕ) (q : Course) (number first depth hypothesis : ℕ) (c : ConstructorShape) → AllKept (types_of c.arguments) → AllKept c.targets → R (aux_pair n q number first depth hypothesis c) ≡ aux_pair n (anew q) number first depth hypothesis c
  aux_pair-anew n q number first depth hypothesis c kept targets =
      let t = tuple-anew q first 0 depth hypothesis c.arguments kept in
      pair_with-anew q.m (at_constructor n q.params number first depth (variable depth q.params) c) _ (at_constructor n q.params number first depth (below_at q depth) c) _
      (App (at_constructor n q.params number first depth (variable depth (q.params + 1)) c) (tuple q first 0 depth hypothesis c.arguments)) _ (tuple q first 0 depth hypothesis c.arguments) _
      (at_constructor-anew n q.params number first depth (variable depth q.params) (variable depth q.params) c refl targets)
      (at_constructor-anew n q.params number first depth (below_at q depth) (below_at (anew q) depth) c (below_at-anew q depth) targets)
      (ap₂ App (at_constructor-anew n q.params number first depth (variable depth (q.params + 1)) (variable depth (q.params + 1)) c refl targets) t)
      t

  aux_method-anew : (n : ℕ) (q : Course) (depth number : ℕ) (c : ConstructorShape) → AllKept (types_of c.arguments) → AllKept c.targets → R (aux_method n q depth number c) ≡ aux_method n (anew q) depth number c
  aux_method-anew n q depth number c kept targets =
      let count = length c.arguments in
      let inside = depth + count in
      let pair = aux_pair n q number depth (inside + recursive_count c.arguments) inside c in
      over-anew Function ((0, q.params) ∷ (depth, count) ∷ []) q.params depth (types_of c.arguments) (components_over Folded q depth 0 inside c.arguments pair) kept
      ∙ ap (over Function ((0, q.params) ∷ (depth, count) ∷ []) q.params depth (types_of c.arguments))
      (components_over-anew q depth 0 inside c.arguments pair kept
      ∙ ap (components_over Folded (anew q) depth 0 inside c.arguments) (aux_pair-anew n q number depth (inside + recursive_count c.arguments) inside c kept targets))

  methods-anew : (method other : ℕ → ConstructorShape → Term) → ((i : ℕ) (c : ConstructorShape) → AllKept (types_of c.arguments) → AllKept c.targets → R (method i c) ≡ other i c) → (number : ℕ) (head head' : Term) (constructors : List ConstructorShape) → R head ≡ head' → KeptConstructors constructors
      → R (applied_to_methods method number head constructors) ≡ applied_to_methods other number head' constructors
  methods-anew method other each number head head' [] is kept = is
  methods-anew method other each number head head' (c ∷ constructors) is kept =
      methods-anew method other each (number + 1) (App head (method number c)) (App head' (other number c)) constructors (ap₂ App is (each number c kept.0 kept.1)) kept.2

  aux_goal-anew : (q : Course) (depth start : ℕ) → R (aux_goal q depth start) ≡ aux_goal (anew q) depth start
  aux_goal-anew q depth start =
      ap₂ (pair_of q.m) (at_scrutinee-anew depth start q.indices (variable depth q.params))
      (at_scrutinee-anew depth start q.indices (below_at q depth) ∙ ap (at_scrutinee depth start q.indices) (below_at-anew q depth))

  step_type-anew : (n : ℕ) (f : Shape) (q : Course) (depth : ℕ) → AllKept (types_of f.indices) → R (step_type n f q depth) ≡ step_type n f (anew q) depth
  step_type-anew n f q depth kept =
      let inside = depth + q.indices + 1 in
      scrutinee_over-anew Product n f depth (Pi (at_scrutinee inside depth q.indices (below_at q inside)) (at_scrutinee (inside + 1) depth q.indices (variable (inside + 1) q.params))) kept
      ∙ ap (scrutinee_over Product n f depth)
      (ap₂ Pi (at_scrutinee-anew inside depth q.indices (below_at q inside) ∙ ap (at_scrutinee inside depth q.indices) (below_at-anew q inside))
      (at_scrutinee-anew (inside + 1) depth q.indices (variable (inside + 1) q.params)))

  step_over-anew : (binder : Binder) (n : ℕ) (f : Shape) (q : Course) (end end' : Term) → KeptShape f → R end ≡ end' → R (step_over binder n f q end) ≡ step_over binder n f (anew q) end'
  step_over-anew binder n f q end end' kept is =
      let scrutinee = scrutinee_over binder n f (q.params + 2) end in
      let step = bind binder (step_type n f q (q.params + 1)) scrutinee in
      closed_over-anew binder f.parameters (bind binder (motive_type n f q.m q.params) step) kept.parameters
      ∙ ap (closed_over binder f.parameters)
      (bind-anew binder (motive_type n f q.m q.params) step
      ∙ ap₂ (bind binder) (motive_type-anew n f q.m q.params kept.indices)
      (bind-anew binder (step_type n f q (q.params + 1)) scrutinee
      ∙ ap₂ (bind binder) (step_type-anew n f q (q.params + 1) kept.indices)
      (scrutinee_over-anew binder n f (q.params + 2) end kept.indices ∙ ap (scrutinee_over binder n f (q.params + 2)) is)))

  pub aux_type-anew : (n : ℕ) (f : Shape) (q : Course) → KeptShape f → R (aux_type n f q) ≡ aux_type n f (anew q)
  aux_type-anew n f q kept =
      let inside = q.params + 2 + q.indices + 1 in
      step_over-anew Product n f q (aux_goal q inside (q.params + 2)) (aux_goal (anew q) inside (q.params + 2)) kept (aux_goal-anew q inside (q.params + 2))

  pub aux_term-anew : (n : ℕ) (f : Shape) (q : Course) → KeptShape f → R (aux_term n f q) ≡ aux_term n f (anew q)
  aux_term-anew n f q kept =
      let inside = q.params + 2 + q.indices + 1 in
      let goal = aux_goal q (inside + q.indices + 1) inside in
      let head = App (eliminator_at n q.m q.params inside) (scrutinee_over Function n f inside goal) in
      let whole = applied_to_methods (aux_method n q inside) 0 head f.constructors in
      step_over-anew Function n f q (at_scrutinee inside (q.params + 2) q.indices whole) _ kept
      (at_scrutinee-anew inside (q.params + 2) q.indices whole
      ∙ ap (at_scrutinee inside (q.params + 2) q.indices)
      (methods-anew (aux_method n q inside) (aux_method n (anew q) inside) (aux_method-anew n q inside) 0 head _ f.constructors
      (ap₂ App (at-run-anew (Elim n q.m) inside 0 q.params)
      (scrutinee_over-anew Function n f inside goal kept.indices ∙ ap (scrutinee_over Function n f inside) (aux_goal-anew q (inside + q.indices + 1) inside)))
      kept.constructors))

  -- ---- D!rec.m and D!all.m

  side_type-anew : (side : Side) (q : Course) (depth start : ℕ) → R (side_type side q depth start) ≡ side_type side (anew q) depth start
  side_type-anew First q depth start = at_scrutinee-anew depth start q.indices (variable depth q.params)
  side_type-anew Second q depth start =
      at_scrutinee-anew depth start q.indices (below_at q depth) ∙ ap (at_scrutinee depth start q.indices) (below_at-anew q depth)

  side_variable-anew : (side : Side) → R (side_variable side) ≡ side_variable side
  side_variable-anew First = refl
  side_variable-anew Second = refl

  aux_at-anew : (q : Course) (aux depth : ℕ) → R (aux_at q aux depth) ≡ aux_at (anew q) (r aux) depth
  aux_at-anew q aux depth = ap (λ h. App (App h (variable depth q.params)) (variable depth (q.params + 1))) (at-run-anew (Const aux) depth 0 q.params)

  projection-anew : (side : Side) (q : Course) (aux depth start : ℕ) → R (projection side q aux depth start) ≡ projection side (anew q) (r aux) depth start
  projection-anew side q aux depth start =
      ap₂ App (ap₂ App (ap₂ App (ap₂ App (ap (App (Elim (pair_type q.m) q.m))
      (side_type-anew First q depth start)) (side_type-anew Second q depth start))
      (ap₂ Lam (aux_goal-anew q depth start) (side_type-anew side q (depth + 1) start)))
      (ap₂ Lam (side_type-anew First q depth start) (ap₂ Lam (side_type-anew Second q (depth + 1) start) (side_variable-anew side))))
      (at_scrutinee-anew depth start q.indices (aux_at q aux depth) ∙ ap (at_scrutinee depth start q.indices) (aux_at-anew q aux depth))

  pub side_type-is-anew : (side : Side) (n : ℕ) (f : Shape) (q : Course) → KeptShape f → R (side_entry_type side n f q) ≡ side_entry_type side n f (anew q)
  side_type-is-anew side n f q kept =
      let inside = q.params + 2 + q.indices + 1 in step_over-anew Product n f q (side_type side q inside (q.params + 2)) _ kept (side_type-anew side q inside (q.params + 2))

  pub side_term-is-anew : (side : Side) (n : ℕ) (f : Shape) (q : Course) (aux : ℕ) → KeptShape f → R (side_entry_term side n f q aux) ≡ side_entry_term side n f (anew q) (r aux)
  side_term-is-anew side n f q aux kept =
      let inside = q.params + 2 + q.indices + 1 in step_over-anew Function n f q (projection side q aux inside (q.params + 2)) _ kept (projection-anew side q aux inside (q.params + 2))
