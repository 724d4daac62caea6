-- The path to a part in a below value is scoped, where what it is made of is.
use Rattle.std.proofs.Common.{◌≡◌, ℕ, zero, suc, ◌+◌, ◌-◌, ◌==◌, nat_le, Bool, true, false, if◌then◌else◌, Option, Some, None, List, [], ◌∷◌, length, take, drop, slice_get, option_and_then, refl, subst, arith}
use Rattle.std.proofs.lemmas.Option.{none-some}
use Rattle.theory.specs.Terms.{Term, Var, Sort, Pi, Lam, App, Let, Const, Fam, Con, Elim, AxiomK, height, free_of}
use Rattle.theory.specs.Substitutions.{ren, up, inst, ups, extend, fill}
use Rattle.theory.specs.Telescopes.{applied, variables}
use Rattle.theory.specs.Spines.{spine_of}
use Rattle.theory.specs.Eliminators.{no_variable}
use Rattle.theory.specs.Prelude.{pair_type}
use Rattle.theory.specs.Signatures.{Signature}
use Rattle.theory.specs.SignatureScopes.{IsConstantNumber, IsFamilyNumber, HasEntries, IsScoped}
use Rattle.theory.proofs.Lists.{some_is}
use Rattle.theory.proofs.ScopedTerms.{scoped-app, inst-scoped, spine-scoped}
use Rattle.core_terms.specs.Levels.{variable, place_under, place, run}
use Rattle.core_sig.specs.ByLevels.{applied_to_targets}
use Rattle.core_sig.specs.Meanings.{behind}
use Rattle.core_sig.specs.Shapes.{ArgumentShape, ConstructorShape, Shape, by_kind}
use Rattle.core_sig.specs.declared.family.ArgKind.{ArgKind}
use Rattle.core_sig.specs.declared.family.ArgKind.TheVariants.{Plain, Recursive}
use Rattle.case_below_gen.specs.declared.components.Course.{Course}
use Rattle.case_below_gen.specs.declared.components.Ending.TheVariants.{Folded}
use Rattle.case_below_gen.specs.declared.sides.Side.{Side}
use Rattle.case_below_gen.specs.declared.sides.Side.TheVariants.{First, Second}
use Rattle.case_below_gen.specs.Components.{pair_of, below_at, at_inner, at_argument, behind_inner, component_from, component, tuple_type}
use Rattle.case_below_gen.specs.CourseEntries.{course_of}
use Rattle.case_below_gen.specs.PartTests.{is_applied, if_full, constructor_of, if_recursive, has_part_along}
use Rattle.case_below_gen.specs.PathSteps.{side_of, projected, component_side, component_in, at_part, part_side, path_step}
use Rattle.case_below_gen.specs.Paths.{Descent, step_values, step_to, last_arguments, path_at, with_arguments, path_along, path_of}
use Rattle.case_below_gen.specs.Projections.{side_variable}
use Rattle.case_below_gen.proofs.ScopedCourses.{HasPairs}
use Rattle.entry_laws.proofs.OnlyConstants.{Each, each-append, each-take, each-drop, each-all}
use Rattle.entry_laws.proofs.TableNames.{all-each}
use Rattle.entry_laws.proofs.entry_scopes.WholeStandings.{filled-scoped}

module _ (T : Signature) where
  -- the types of arguments name entries
  abbrev pub Arguments : List ArgumentShape → Type 0
  Arguments arguments = Each (λ a. HasEntries T a.type) arguments

  abbrev pub Constructors : List ConstructorShape → Type 0
  Constructors constructors = Each (λ c. Arguments c.arguments) constructors

  -- the signature has what a below value is made of
  record IsCourse (q : Course) : Type 0 where
    below : IsConstantNumber T q.below
    pairs : HasPairs T q.m

  entries-if : (b : Bool) (t u : Term) → HasEntries T t → HasEntries T u → HasEntries T (if b then t else u)
  entries-if true t u h k = h
  entries-if false t u h k = k

  -- ---- renaming and instantiation

  entries-ren : (r : ℕ → ℕ) (t : Term) → HasEntries T t → HasEntries T (ren r t)
  entries-ren r (Pi a b) ((h, k)) = ((entries-ren r a h), (entries-ren (up r) b k))
  entries-ren r (Lam a b) ((h, k)) = ((entries-ren r a h), (entries-ren (up r) b k))
  entries-ren r (App f a) ((h, k)) = ((entries-ren r f h), (entries-ren r a k))
  entries-ren r (Let a t b) ((h, k, l)) = ((entries-ren r a h), (entries-ren r t k), (entries-ren (up r) b l))
  entries-ren r (Const c) (q) = q
  entries-ren r (Var n) h = tt
  entries-ren r (Sort i) h = tt
  entries-ren r (Fam n) h = h
  entries-ren r (Con n c) h = h
  entries-ren r (Elim n m) h = h
  entries-ren r (AxiomK i m) h = tt

  -- what is put for each variable
  abbrev Puts : (ℕ → Term) → Type 0
  Puts s = (v : ℕ) → HasEntries T (s v)

  entries-under : (s : ℕ → Term) → Puts s → Puts (ups s)
  entries-under s each zero = tt
  entries-under s each (suc v) = entries-ren suc (s v) (each v)

  entries-inst : (s : ℕ → Term) (t : Term) → Puts s → HasEntries T t → HasEntries T (inst s t)
  entries-inst s (Pi a b) each ((h, k)) = ((entries-inst s a each h), (entries-inst (ups s) b (entries-under s each) k))
  entries-inst s (Lam a b) each ((h, k)) = ((entries-inst s a each h), (entries-inst (ups s) b (entries-under s each) k))
  entries-inst s (App f a) each ((h, k)) = ((entries-inst s f each h), (entries-inst s a each k))
  entries-inst s (Let a t b) each ((h, k, l)) =
      ((entries-inst s a each h), (entries-inst s t each k), (entries-inst (ups s) b (entries-under s each) l))
  entries-inst s (Const c) each (q) = q
  entries-inst s (Var n) each h = each n
  entries-inst s (Sort i) each h = tt
  entries-inst s (Fam n) each h = h
  entries-inst s (Con n c) each h = h
  entries-inst s (Elim n m) each h = h
  entries-inst s (AxiomK i m) each h = tt

  entries-extend : (s : ℕ → Term) (u : Term) → Puts s → HasEntries T u → Puts (extend s u)
  entries-extend s u each h zero = h
  entries-extend s u each h (suc v) = each v

  entries-fill : (s : ℕ → Term) (us : List Term) → Puts s → Each (HasEntries T) us → Puts (fill s us)
  entries-fill s [] each Each.none v = each v
  entries-fill s (u ∷ us) each (Each.more h all) v = entries-fill (extend s u) us (entries-extend s u each h) all v

  entries-nothing : Puts no_variable
  entries-nothing v = tt

  entries-filled : (us : List Term) → Each (HasEntries T) us → Puts (fill no_variable us)
  entries-filled us all = entries-fill no_variable us entries-nothing all

  entries-applied : (head : Term) (us : List Term) → HasEntries T head → Each (HasEntries T) us → HasEntries T (applied head us)
  entries-applied head [] h Each.none = h
  entries-applied head (u ∷ us) h (Each.more k all) = entries-applied (App head u) us ((h, k)) all

  entries-spine : (t : Term) → HasEntries T t → Each (HasEntries T) (spine_of t)
  entries-spine (App f a) ((h, k)) = each-append (spine_of f) (a ∷ []) (entries-spine f h) (Each.more k Each.none)
  entries-spine (Var n) h = Each.none
  entries-spine (Sort i) h = Each.none
  entries-spine (Pi a b) h = Each.none
  entries-spine (Lam a b) h = Each.none
  entries-spine (Let a t b) h = Each.none
  entries-spine (Const c) h = Each.none
  entries-spine (Fam n) h = Each.none
  entries-spine (Con n c) h = Each.none
  entries-spine (Elim n m) h = Each.none
  entries-spine (AxiomK i m) h = Each.none

  entries-variables : (k : ℕ) → Each (HasEntries T) (variables k)
  entries-variables zero = Each.none
  entries-variables (suc k) = Each.more tt (entries-variables k)

  entries-run : (depth start count : ℕ) → Each (HasEntries T) (run depth start count)
  entries-run depth start zero = Each.none
  entries-run depth start (suc count) = Each.more tt (entries-run depth (start + 1) count)

  -- ---- terms of records

  entries-place_under : (runs : List (ℕ × ℕ)) (size depth under : ℕ) (t : Term) → HasEntries T t → HasEntries T (place_under runs size depth under t)
  entries-place_under runs size depth under (Pi a b) ((h, k)) =
      ((entries-place_under runs size depth under a h), (entries-place_under runs size depth (under + 1) b k))
  entries-place_under runs size depth under (Lam a b) ((h, k)) =
      ((entries-place_under runs size depth under a h), (entries-place_under runs size depth (under + 1) b k))
  entries-place_under runs size depth under (App f a) ((h, k)) =
      ((entries-place_under runs size depth under f h), (entries-place_under runs size depth under a k))
  entries-place_under runs size depth under (Let a t b) ((h, k, l)) =
      ((entries-place_under runs size depth under a h), (entries-place_under runs size depth under t k), (entries-place_under runs size depth (under + 1) b l))
  entries-place_under runs size depth under (Const c) (q) = q
  entries-place_under runs size depth under (Var n) h = tt
  entries-place_under runs size depth under (Sort i) h = tt
  entries-place_under runs size depth under (Fam n) h = h
  entries-place_under runs size depth under (Con n c) h = h
  entries-place_under runs size depth under (Elim n m) h = h
  entries-place_under runs size depth under (AxiomK i m) h = tt

  entries-place : (runs : List (ℕ × ℕ)) (size depth : ℕ) (t : Term) → HasEntries T t → HasEntries T (place runs size depth t)
  entries-place runs size depth t h =
      entries-if (nat_le (height t) 2000) (place_under runs size depth 0 t) t (entries-place_under runs size depth 0 t h) h

  -- ---- components

  entries-side_variable : (side : Side) → HasEntries T (side_variable side)
  entries-side_variable First = tt
  entries-side_variable Second = tt

  entries-side_of : (side : Side) (a b : Term) → HasEntries T a → HasEntries T b → HasEntries T (side_of side a b)
  entries-side_of First a b h k = h
  entries-side_of Second a b h k = k

  entries-pair_of : (m : ℕ) → IsFamilyNumber T (pair_type m) → (A B : Term) → HasEntries T A → HasEntries T B → HasEntries T (pair_of m A B)
  entries-pair_of m is A B h k = ((is, h), k)

  entries-projected : {m : ℕ} → HasPairs T m → (side : Side) (A B A' B' q : Term) → HasEntries T A → HasEntries T B → HasEntries T A' → HasEntries T B' → HasEntries T q
      → HasEntries T (projected side m A B A' B' q)
  entries-projected {m} pairs side A B A' B' q hA hB hA' hB' hq =
      (((((((((pairs.pair, hA)), hB)), (((entries-pair_of m pairs.pair A B hA hB), (entries-side_of side A' B' hA' hB'))))), ((hA, ((hB', (entries-side_variable side))))))), hq)

  entries-below_at : (q : Course) (depth : ℕ) → IsCourse q → HasEntries T (below_at q depth)
  entries-below_at q depth named = ((entries-applied (Const q.below) (run depth 0 q.params) named.below (entries-run _ _ _)), tt)

  entries-targets_of : (runs : List (ℕ × ℕ)) (size depth : ℕ) (head : Term) (count : ℕ) (t : Term) → HasEntries T head → HasEntries T t
      → HasEntries T (applied_to_targets runs size depth head count t)
  entries-targets_of runs size depth head (suc count) (App f a) hh ((hf, ha)) =
      ((entries-targets_of runs size depth head count f hh hf), (entries-place runs size depth a ha))
  entries-targets_of runs size depth head zero t hh ht = hh
  entries-targets_of runs size depth head (suc count) t hh ht = hh

  entries-at_inner : (depth r start : ℕ) → HasEntries T (at_inner depth r start)
  entries-at_inner depth r start = entries-applied (variable depth r) (run depth start (depth - start)) tt (entries-run _ _ _)

  entries-at_argument : (runs : List (ℕ × ℕ)) (size depth : ℕ) (head : Term) (r start k : ℕ) (t : Term) → HasEntries T head → HasEntries T t
      → HasEntries T (at_argument runs size depth head r start k t)
  entries-at_argument runs size depth head r start k t hh ht = ((entries-targets_of runs size depth head k t hh ht), (entries-at_inner depth r start))

  entries-folded_inner : (q : Course) (runs : List (ℕ × ℕ)) (size depth r start h : ℕ) (t : Term) → IsCourse q → HasEntries T t
      → HasEntries T (behind_inner Folded q runs size depth r start h t)
  entries-folded_inner q runs size depth r start h t named ht =
      entries-pair_of q.m named.pairs.pair (at_argument runs size depth (variable depth q.params) r start q.indices t) (at_argument runs size depth (below_at q depth) r start q.indices t)
      (entries-at_argument runs size depth (variable depth q.params) r start q.indices t tt ht)
      (entries-at_argument runs size depth (below_at q depth) r start q.indices t (entries-below_at q depth named) ht)

  entries-component_from : (q : Course) (runs : List (ℕ × ℕ)) (size depth r start h count : ℕ) (t : Term) → IsCourse q → HasEntries T t
      → HasEntries T (component_from Folded q runs size depth r start h count t)
  entries-component_from q runs size depth r start h (suc count) (Pi a b) named ((ha, hb)) =
      ((entries-place runs size depth a ha), (entries-component_from q runs (size + 1) (depth + 1) r start h count b named hb))
  entries-component_from q runs size depth r start h zero t named ht = entries-folded_inner q runs size depth r start h t named ht
  entries-component_from q runs size depth r start h (suc count) t named ht = entries-folded_inner q runs size depth r start h t named ht

  entries-component : (q : Course) (first at depth h count : ℕ) (t : Term) → IsCourse q → HasEntries T t → HasEntries T (component Folded q first at depth h count t)
  entries-component q first at depth h count t named ht =
      let runs : List (ℕ × ℕ) = (0, q.params) ∷ (first, at) ∷ (depth, count) ∷ [] in
      let size = q.params + at in
      entries-if (nat_le count 2000) (component_from Folded q runs size depth (first + at) depth h count t) t (entries-component_from q runs size depth (first + at) depth h count t named ht) ht

  entries-tuple_type : (q : Course) (first at depth h : ℕ) (arguments : List ArgumentShape) → IsCourse q → Arguments arguments
      → HasEntries T (tuple_type Folded q first at depth h arguments)
  entries-tuple_type q first at depth h [] named Each.none = named.pairs.unit
  entries-tuple_type q first at depth h (a ∷ arguments) named (Each.more k all) =
      by a.kind (entries-tuple_type q first (at + 1) depth h arguments named all) (entries-tuple_type q first (at + 1) depth (h + 1) arguments named all)
    where
      by : (kind : ArgKind) → HasEntries T (tuple_type Folded q first (at + 1) depth h arguments) → HasEntries T (tuple_type Folded q first (at + 1) depth (h + 1) arguments)
          → HasEntries T (by_kind kind (tuple_type Folded q first (at + 1) depth h arguments)
          (λ count. pair_of q.m (component Folded q first at depth h count a.type) (tuple_type Folded q first (at + 1) depth (h + 1) arguments)))
      by Plain g l = g
      by (Recursive count) g l =
          entries-pair_of q.m named.pairs.pair (component Folded q first at depth h count a.type) (tuple_type Folded q first (at + 1) depth (h + 1) arguments)
          (entries-component q first at depth h count a.type named k) l

  -- ---- steps

  entries-component_side : (side : Side) (q : Course) (depth at count : ℕ) (type : Term) (arguments : List ArgumentShape) (b : Term) → IsCourse q → HasEntries T type
      → Arguments arguments → HasEntries T b → HasEntries T (component_side side q depth at count type arguments b)
  entries-component_side side q depth at count type arguments b named ht all hb =
      entries-projected named.pairs side
      (component Folded q (q.params + 1) at depth 0 count type)
      (tuple_type Folded q (q.params + 1) (at + 1) depth 0 arguments)
      (component Folded q (q.params + 1) at (depth + 1) 0 count type)
      (tuple_type Folded q (q.params + 1) (at + 1) (depth + 1) 0 arguments)
      b
      (entries-component q (q.params + 1) at depth 0 count type named ht)
      (entries-tuple_type q (q.params + 1) (at + 1) depth 0 arguments named all)
      (entries-component q (q.params + 1) at (depth + 1) 0 count type named ht)
      (entries-tuple_type q (q.params + 1) (at + 1) (depth + 1) 0 arguments named all)
      hb

  entries-component_in : (q : Course) (depth wanted at : ℕ) (arguments : List ArgumentShape) (b : Term) → IsCourse q → Arguments arguments → HasEntries T b
      → HasEntries T (component_in q depth wanted at arguments b)
  entries-component_in q depth wanted at [] b named Each.none hb = hb
  entries-component_in q depth wanted at (a ∷ arguments) b named (Each.more k all) hb =
      by a.kind (entries-component_in q depth wanted (at + 1) arguments b named all hb)
      (λ count. entries-component_side First q depth at count a.type arguments b named k all hb)
      (λ count.
      entries-component_in q depth wanted (at + 1) arguments (component_side Second q depth at count a.type arguments b) named all
      (entries-component_side Second q depth at count a.type arguments b named k all hb))
    where
      by : (kind : ArgKind) → HasEntries T (component_in q depth wanted (at + 1) arguments b)
          → ((count : ℕ) → HasEntries T (component_side First q depth at count a.type arguments b))
          → ((count : ℕ) → HasEntries T (component_in q depth wanted (at + 1) arguments (component_side Second q depth at count a.type arguments b)))
          → HasEntries T (by_kind kind (component_in q depth wanted (at + 1) arguments b)
          (λ count. if at == wanted then component_side First q depth at count a.type arguments b else component_in q depth wanted (at + 1) arguments (component_side Second q depth at count a.type arguments b)))
      by Plain g first others = g
      by (Recursive count) g first others =
          entries-if (at == wanted) (component_side First q depth at count a.type arguments b)
          (component_in q depth wanted (at + 1) arguments (component_side Second q depth at count a.type arguments b)) (first count) (others count)

  entries-at_part : (q : Course) (depth at start count : ℕ) (end head : Term) → HasEntries T end → HasEntries T head → HasEntries T (at_part q depth at start count end head)
  entries-at_part q depth at start count end head he hh =
      ((entries-targets_of ((0, q.params) ∷ (q.params + 1, at) ∷ (start, count) ∷ []) (q.params + at + count) depth head q.indices end hh he), (entries-applied (variable depth (q.params + 1 + at)) (run depth start count) tt (entries-run depth start count)))

  entries-part_side : (side : Side) (q : Course) (depth at start count : ℕ) (end b : Term) → IsCourse q → HasEntries T end → HasEntries T b
      → HasEntries T (part_side side q depth at start count end b)
  entries-part_side side q depth at start count end b named he hb =
      entries-projected named.pairs side
      (at_part q depth at start count end (variable depth q.params))
      (at_part q depth at start count end (below_at q depth))
      (at_part q (depth + 1) at start count end (variable (depth + 1) q.params))
      (at_part q (depth + 1) at start count end (below_at q (depth + 1)))
      b
      (entries-at_part q depth at start count end (variable depth q.params) he tt)
      (entries-at_part q depth at start count end (below_at q depth) he (entries-below_at q depth named))
      (entries-at_part q (depth + 1) at start count end (variable (depth + 1) q.params) he tt)
      (entries-at_part q (depth + 1) at start count end (below_at q (depth + 1)) he (entries-below_at q (depth + 1) named))
      hb

  entries-path_step : (side : Side) (q : Course) (arguments : List ArgumentShape) (at count : ℕ) (end : Term) → IsCourse q → Arguments arguments
      → HasEntries T end → HasEntries T (path_step side q arguments at count end)
  entries-path_step side q arguments at count end named all he =
      let value = q.params + 1 + length arguments in
      let start = value + 1 in
      let depth = start + count in
      entries-part_side side q depth at start count end (applied (component_in q depth at 0 arguments (variable depth value)) (run depth start count)) named he
      (entries-applied (component_in q depth at 0 arguments (variable depth value)) (run depth start count)
      (entries-component_in q depth at 0 arguments (variable depth value) named all tt) (entries-run _ _ _))

  -- ---- paths

  entries-behind : (n : ℕ) (t : Term) → HasEntries T t → HasEntries T (behind n t)
  entries-behind (suc n) (Pi a b) (ha, hb) = entries-behind n b hb
  entries-behind zero t h = h
  entries-behind (suc n) t h = h

  pub record IsDescent (n : ℕ) (d : Descent) : Type 0 where
    pub below : IsConstantNumber T d.below
    pub pairs : HasPairs T d.m
    pub constructors : Constructors d.shape.constructors
    pub motive : IsScoped T n d.motive
    pub part : IsScoped T n d.part

  spine-each : (n : ℕ) (t : Term) → IsScoped T n t → Each (IsScoped T n) (spine_of t)
  spine-each n t h = each-all (IsScoped T n) (spine_of t) (spine-scoped T n t h)

  scoped-step_to : (n : ℕ) (d : Descent) (side : Side) (whole : Term) (arguments : List ArgumentShape) (at count : ℕ) (end : Term) (inner : List Term) (b : Term)
      → IsDescent n d → IsScoped T n whole → Arguments arguments → HasEntries T end → Each (IsScoped T n) inner → IsScoped T n b
      → IsScoped T n (step_to d side whole arguments at count end inner b)
  scoped-step_to n d side whole arguments at count end inner b is hw all he hi hb =
      let p = length d.shape.parameters in
      let spine = spine-each n whole hw in
      let values = step_values d whole b inner in
      let step = path_step side (course_of d.shape d.m d.below) arguments at count end in
      let each : Each (IsScoped T n) values =
      each-append (take p (spine_of whole)) _ (each-take p (spine_of whole) spine)
      (Each.more is.motive (each-append (drop p (spine_of whole)) (b ∷ inner) (each-drop p (spine_of whole) spine) (Each.more hb hi))) in
      inst-scoped T (fill no_variable values) (free_of step) n step (λ v lt. filled-scoped T n values (all-each (IsScoped T n) values each) v)
      (record {
        variables = omega arith;
        entries = entries-path_step side (course_of d.shape d.m d.below) arguments at count end (record { below = is.below; pairs = is.pairs }) all he;
      })

  found-at : (constructors : List ConstructorShape) (i : ℕ) (c : ConstructorShape) → Constructors constructors → slice_get constructors i ≡ Some c → Arguments c.arguments
  found-at [] i c all there = absurd (none-some c there)
  found-at (b ∷ constructors) zero c (Each.more h all) there = subst (λ c. Arguments c.arguments) (some_is there) h
  found-at (b ∷ constructors) (suc i) c (Each.more h all) there = found-at constructors i c all there

  found-full : (f : Shape) (size : ℕ) (number : Option ℕ) (c : ConstructorShape) → Constructors f.constructors
      → option_and_then (if_full f size) (option_and_then (slice_get f.constructors) number) ≡ Some c → Arguments c.arguments
  found-full f size None c all there = absurd (none-some c there)
  found-full f size (Some i) c all there = from (slice_get f.constructors i) refl there
    where
      from : (o : Option ConstructorShape) → slice_get f.constructors i ≡ o → option_and_then (if_full f size) o ≡ Some c → Arguments c.arguments
      from None e is = absurd (none-some c is)
      from (Some x) e is = test (size == length f.parameters + length x.arguments) is
        where
          test : (t : Bool) → (if t then Some x else None) ≡ Some c → Arguments c.arguments
          test true some = found-at f.constructors i c all (let same = some_is some in subst (λ y. slice_get f.constructors i ≡ Some y) same e)
          test false some = absurd (none-some c some)

  scoped-if : (n : ℕ) (b : Bool) (t u : Term) → IsScoped T n t → IsScoped T n u → IsScoped T n (if b then t else u)
  scoped-if n true t u h k = h
  scoped-if n false t u h k = k

  type-there : (xs : List ArgumentShape) (i : ℕ) (a : ArgumentShape) → Arguments xs → slice_get xs i ≡ Some a → HasEntries T a.type
  type-there [] i a Each.none there = absurd (none-some a there)
  type-there (x ∷ xs) zero a (Each.more h rest) there = subst (λ a. HasEntries T a.type) (some_is there) h
  type-there (x ∷ xs) (suc i) a (Each.more h rest) there = type-there xs i a rest there

  scoped-path_at : (n : ℕ) (d : Descent) (whole : Term) (arguments : List ArgumentShape) (at : ℕ) (r b : Term) (go_on : Term → Term) → IsDescent n d → IsScoped T n whole
      → Arguments arguments → IsScoped T n b → ((x : Term) → IsScoped T n x → IsScoped T n (go_on x)) → IsScoped T n (path_at d whole arguments at r b go_on)
  scoped-path_at n d whole arguments at r b go_on is hw all hb goes = of-argument (slice_get arguments at) refl
    where
      of-kind : (kind : ArgKind) (type : Term) → HasEntries T type
          → IsScoped T n (by_kind kind b (λ inner. if is_applied r inner d.part then step_to d First whole arguments at inner (behind inner type) (last_arguments inner d.part) b else go_on (step_to d Second whole arguments at 0 type [] b)))
      of-kind Plain type ht = hb
      of-kind (Recursive inner) type ht =
          scoped-if n (is_applied r inner d.part) (step_to d First whole arguments at inner (behind inner type) (last_arguments inner d.part) b)
          (go_on (step_to d Second whole arguments at 0 type [] b))
          (scoped-step_to n d First whole arguments at inner (behind inner type) (last_arguments inner d.part) b is hw all (entries-behind inner type ht)
          (each-drop (length (spine_of d.part) - inner) (spine_of d.part) (spine-each n d.part is.part)) hb)
          (goes (step_to d Second whole arguments at 0 type [] b) (scoped-step_to n d Second whole arguments at 0 type [] b is hw all ht Each.none hb))

      of-argument : (o : Option ArgumentShape) → slice_get arguments at ≡ o
          → IsScoped T n (if_recursive o b (λ inner type. if is_applied r inner d.part then step_to d First whole arguments at inner (behind inner type) (last_arguments inner d.part) b else go_on (step_to d Second whole arguments at 0 type [] b)))
      of-argument None there = hb
      of-argument (Some a) there = of-kind a.kind a.type (type-there arguments at a all there)

  scoped-with : (n : ℕ) (o : Option ConstructorShape) (t : Term) (go_on : List ArgumentShape → Term) → IsScoped T n t
      → ((c : ConstructorShape) → o ≡ Some c → IsScoped T n (go_on c.arguments)) → IsScoped T n (with_arguments o t go_on)
  scoped-with n None t go_on ht goes = ht
  scoped-with n (Some c) t go_on ht goes = goes c refl

  scoped-along : (n : ℕ) (d : Descent) (whole : Term) (arguments : List ArgumentShape) (at : ℕ) (t b : Term) → IsDescent n d → IsScoped T n whole → Arguments arguments
      → IsScoped T n t → IsScoped T n b → IsScoped T n (path_along d whole arguments at t b)
  scoped-along n d whole arguments (suc at) (App g r) b is hw all ht hb =
      let parts = scoped-app ht in
      scoped-if n (has_part_along d.family d.shape d.part arguments at g) _ _ (scoped-along n d whole arguments at g b is hw all parts.0 hb)
      (scoped-path_at n d whole arguments at r b _ is hw all hb
      (λ x hx. scoped-with n (constructor_of d.family d.shape r) x _ hx
      (λ c found. scoped-along n d r c.arguments (length c.arguments) r x is parts.1 (found-full d.shape (length (spine_of r)) _ c is.constructors found) parts.1 hx)))
  scoped-along n d whole arguments zero t b is hw all ht hb = hb
  scoped-along n d whole arguments (suc at) t b is hw all ht hb = hb

  pub scoped-path_of : (n : ℕ) (d : Descent) (t b : Term) → IsDescent n d → IsScoped T n t → IsScoped T n b → IsScoped T n (path_of d t b)
  scoped-path_of n d t b is ht hb =
      scoped-with n (constructor_of d.family d.shape t) b _ hb
      (λ c found. scoped-along n d t c.arguments (length c.arguments) t b is ht (found-full d.shape (length (spine_of t)) _ c is.constructors found) ht hb)
