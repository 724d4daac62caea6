-- Bounds of paths: their free variables and heights, and how many arguments are in a term.
use Rattle.std.proofs.Common.{◌≡◌, ℕ, zero, suc, ◌+◌, ◌-◌, ◌<◌, ◌≤◌, Bool, true, false, ◌==◌, if◌then◌else◌, List, [], ◌∷◌, ◌++◌, map, length, take, drop, Option, Some, None, option_map, slice_get, Result, Ok, Err, ◌&&◌, All, refl, ap, sym, ◌∙◌, subst, append_assoc, arith}
use Rattle.std.specs.Prelude.{option_and_then, ◌↔◌, IfOk}
use Rattle.std.proofs.lemmas.Bool.{false≢true}
use Rattle.std.proofs.lemmas.Bool.Decides.{Decides-eqb}
use Rattle.std.proofs.lemmas.List.{length-append, length-drop}
use Rattle.std.proofs.lemmas.List.Elements.{All-cons, All-head, All-tail, All-append, All-take, All-drop}
use Rattle.std.proofs.lemmas.Option.{none-some}
use Rattle.theory.specs.Terms.{Term, height, free_of}
use Rattle.theory.specs.Terms.Term.{App}
use Rattle.theory.specs.Substitutions.{inst, extend, fill}
use Rattle.theory.specs.Spines.{head_of, spine_of}
use Rattle.theory.specs.Telescopes.{applied}
use Rattle.theory.specs.Eliminators.{no_variable}
use Rattle.theory.proofs.FreeInstances.{free_of-inst}
use Rattle.theory.proofs.Instantiation.{inst-applied}
use Rattle.theory.proofs.Lists.{some_is}
use Rattle.theory.proofs.Scopes.{Scoped, applied-scoped}
use Rattle.theory.proofs.Spines.{applied-spine}
use Rattle.theory.specs.Families.{Family}
use Rattle.theory.specs.Signatures.{FamilyOf}
use Rattle.core_terms.specs.Answers.{Gives, and_then, is_low}
use Rattle.core_terms.specs.Levels.{variable, run}
use Rattle.core_terms.specs.Meanings.{tree_of}
use Rattle.core_terms.specs.declared.stop.Stop.{Stop}
use Rattle.core_terms.specs.declared.stop.Stop.TheVariants.{Deep}
use Rattle.core_terms.specs.declared.term.Term as code
use Rattle.core_terms.proofs.Builders.{height-applied}
use Rattle.core_sig.specs.Meanings.{behind, family_of}
use Rattle.core_sig.specs.Shapes.{ArgumentShape, ConstructorShape, Shape, by_kind, shape_of}
use Rattle.core_sig.specs.FamilyShapes.{family_shape}
use Rattle.core_sig.specs.Kinds.{HasKinds}
use Rattle.core_sig.specs.declared.family.Family.{Family as CodeFamily}
use Rattle.core_sig.proofs.ShapesOfCode.{shape-is}
use Rattle.core_sig.specs.declared.family.ArgKind.{ArgKind}
use Rattle.core_sig.specs.declared.family.ArgKind.TheVariants.{Plain, Recursive}
use Rattle.case_below_gen.specs.declared.components.Course.{Course}
use Rattle.case_below_gen.specs.declared.sides.Side.{Side}
use Rattle.case_below_gen.specs.declared.sides.Side.TheVariants.{First, Second}
use Rattle.case_below_gen.specs.CourseEntries.{course_of}
use Rattle.case_below_gen.specs.PartTests.{is_applied, if_full, constructor_of, if_recursive, has_part_along, has_part}
use Rattle.case_below_gen.specs.PathSteps.{component_side, component_in, path_step}
use Rattle.case_below_gen.specs.Paths.{Descent, step_values, step_to, last_arguments, path_at, with_arguments, path_along, path_of, some_bounded, path_to, below_path}
use Rattle.case_below_gen.specs.StrictParts.{IsStrictPart}
use Rattle.case_below_gen.proofs.PartTests.{part-found, part-decides}
use Rattle.case_below_gen.proofs.Filling.{fill-append, fill-past}

-- ---- numbers of arguments

full-counted : (f : Shape) (count : ℕ) (o : Option ConstructorShape) (s : ConstructorShape) → option_and_then (if_full f count) o ≡ Some s → count ≡ length f.parameters + length s.arguments
full-counted f count None s h = absurd (none-some s h)
full-counted f count (Some c) s h = go (count == length f.parameters + length c.arguments) refl h
  where
    go : (b : Bool) → (count == length f.parameters + length c.arguments) ≡ b → (if b then Some c else None) ≡ Some s → count ≡ length f.parameters + length s.arguments
    go true e some = (Decides-eqb count (length f.parameters + length c.arguments)).0 e ∙ ap (λ d. length f.parameters + length d.arguments) (some_is some)
    go false e some = absurd (none-some s some)

-- a constructor that is found has all its arguments
pub whole-counted : (n : ℕ) (f : Shape) (t : Term) (s : ConstructorShape) → constructor_of n f t ≡ Some s → length (spine_of t) ≡ length f.parameters + length s.arguments
whole-counted n f t s h = full-counted f (length (spine_of t)) _ s h

pub spine-low : (t : Term) → length (spine_of t) < height t
spine-low (App g a) = omega (arith, length-append (spine_of g) (a ∷ []), spine-low g)
spine-low _ = omega arith

pub count-low : (r : Term) (count : ℕ) (t : Term) → is_applied r count t ≡ true → count ≤ length (spine_of t)
count-low r zero t h = omega arith
count-low r (suc count) (App g a) h = omega (arith, length-append (spine_of g) (a ∷ []), count-low r count g h)
count-low r (suc count) _ h = absurd (false≢true h)

-- ---- free variables

pub free-spine : (n : ℕ) (t : Term) → free_of t ≤ n → All (Scoped n) (spine_of t)
free-spine n t h = (applied-scoped (head_of t) (spine_of t) n (subst (Scoped n) (sym (applied-spine t)) h)).1

pub free-last : (n count : ℕ) (t : Term) → free_of t ≤ n → All (Scoped n) (last_arguments count t)
free-last n count t h = All-drop (Scoped n) (length (spine_of t) - count) (spine_of t) (free-spine n t h)

free-fill : (n : ℕ) (s : ℕ → Term) (us : List Term) → ((i : ℕ) → free_of (s i) ≤ n) → All (Scoped n) us → (i : ℕ) → free_of (fill s us i) ≤ n
free-fill n s [] each all i = each i
free-fill n s (u ∷ us) each all i = free-fill n (extend s u) us one (All-tail (Scoped n) u us all) i
  where
    one : (i : ℕ) → free_of (extend s u i) ≤ n
    one zero = All-head (Scoped n) u us all
    one (suc i) = each i

pub free-values : (n : ℕ) (d : Descent) (whole b : Term) (inner : List Term) → free_of d.motive ≤ n → free_of whole ≤ n → All (Scoped n) inner → free_of b ≤ n → All (Scoped n) (step_values d whole b inner)
free-values n d whole b inner motive_free whole_free inner_free b_free =
    All-append (Scoped n) (take (length d.shape.parameters) (spine_of whole)) _ (All-take (Scoped n) (length d.shape.parameters) (spine_of whole) spine)
    (All-cons (Scoped n) d.motive _ motive_free
    (All-append (Scoped n) (drop (length d.shape.parameters) (spine_of whole)) _ (All-drop (Scoped n) (length d.shape.parameters) (spine_of whole) spine) (All-cons (Scoped n) b inner b_free inner_free)))
  where
    spine : All (Scoped n) (spine_of whole)
    spine = free-spine n whole whole_free

pub free-step : (n : ℕ) (d : Descent) (side : Side) (whole : Term) (arguments : List ArgumentShape) (at count : ℕ) (end : Term) (inner : List Term) (b : Term) → free_of d.motive ≤ n → free_of whole ≤ n → All (Scoped n) inner → free_of b ≤ n
    → free_of (step_to d side whole arguments at count end inner b) ≤ n
free-step n d side whole arguments at count end inner b motive_free whole_free inner_free b_free =
    free_of-inst (fill no_variable (step_values d whole b inner)) step (free_of step) n (omega arith) (λ i lt. free-fill n no_variable (step_values d whole b inner) (λ j. omega arith) values i)
  where
    step : Term
    step = path_step side (course_of d.shape d.m d.below) arguments at count end

    values : All (Scoped n) (step_values d whole b inner)
    values = free-values n d whole b inner motive_free whole_free inner_free b_free

-- ---- heights of made terms and of their parts

le-trans : (a b c : ℕ) → a ≤ b → b ≤ c → a ≤ c
le-trans a b c h k = omega arith

le-same : (a b : ℕ) → a ≡ b → a ≤ b
le-same a b e = omega arith

le-more : (a b c : ℕ) → a + b ≤ c → a ≤ c
le-more a b c h = omega arith

argument-kept : (u g a : Term) → u ≡ App g a → height a ≤ height u
argument-kept u g a is = omega (arith, ap height is)

pub higher : (n : ℕ) (t u v : Term) → n < 0 + height t → height t ≤ height u → u ≡ v → n < 0 + height v
higher n t u v high kept is = let same = ap height is in omega arith

-- one component
side-keeps : (σ : ℕ → Term) (side : Side) (q : Course) (depth at count : ℕ) (type : Term) (arguments : List ArgumentShape) (v : Term) → height (inst σ v) ≤ height (inst σ (component_side side q depth at count type arguments v))
side-keeps σ side q depth at count type arguments v = argument-kept (inst σ (component_side side q depth at count type arguments v)) _ (inst σ v) refl

component-keeps : (σ : ℕ → Term) (q : Course) (depth wanted at : ℕ) (arguments : List ArgumentShape) (v : Term) → height (inst σ v) ≤ height (inst σ (component_in q depth wanted at arguments v))
component-keeps σ q depth wanted at [] v = le-same _ _ refl
component-keeps σ q depth wanted at (a ∷ arguments) v =
    of-kind a.kind (component-keeps σ q depth wanted (at + 1) arguments v) (λ count. component-keeps σ q depth wanted (at + 1) arguments (component_side Second q depth at count a.type arguments v))
  where
    of-test : (b : Bool) (count : ℕ) → height (inst σ (component_side Second q depth at count a.type arguments v)) ≤ height (inst σ (component_in q depth wanted (at + 1) arguments (component_side Second q depth at count a.type arguments v)))
        → height (inst σ v) ≤ height (inst σ (if b then component_side First q depth at count a.type arguments v else component_in q depth wanted (at + 1) arguments (component_side Second q depth at count a.type arguments v)))
    of-test true count rest = side-keeps σ First q depth at count a.type arguments v
    of-test false count rest = le-trans _ _ _ (side-keeps σ Second q depth at count a.type arguments v) rest

    of-kind : (kind : ArgKind) → height (inst σ v) ≤ height (inst σ (component_in q depth wanted (at + 1) arguments v))
        → ((count : ℕ) → height (inst σ (component_side Second q depth at count a.type arguments v)) ≤ height (inst σ (component_in q depth wanted (at + 1) arguments (component_side Second q depth at count a.type arguments v))))
        → height (inst σ v) ≤ height (inst σ (by_kind kind (component_in q depth wanted (at + 1) arguments v) (λ count. if at == wanted then component_side First q depth at count a.type arguments v else component_in q depth wanted (at + 1) arguments (component_side Second q depth at count a.type arguments v))))
    of-kind Plain rest others = rest
    of-kind (Recursive count) rest others = of-test (at == wanted) count (others count)

-- the below value among the values
pub below-there : (d : Descent) (whole b : Term) (inner : List Term) (depth value : ℕ) → depth ≡ value + 1 + length inner → inst (fill no_variable (step_values d whole b inner)) (variable depth value) ≡ b
below-there d whole b inner depth value is =
    ap (fill no_variable (step_values d whole b inner)) place
    ∙ (ap (λ us. fill no_variable us (0 + length inner)) (sym (append_assoc (take p (spine_of whole)) (d.motive ∷ drop p (spine_of whole)) (b ∷ inner)))
    ∙ (fill-append no_variable (take p (spine_of whole) ++ d.motive ∷ drop p (spine_of whole)) (b ∷ inner) (0 + length inner)
    ∙ fill-past (extend (fill no_variable (take p (spine_of whole) ++ d.motive ∷ drop p (spine_of whole))) b) inner 0))
  where
    p : ℕ
    p = length d.shape.parameters

    place : depth - (value + 1) ≡ 0 + length inner
    place = omega arith

pub step-keeps : (d : Descent) (side : Side) (whole : Term) (arguments : List ArgumentShape) (at count : ℕ) (end : Term) (inner : List Term) (b : Term) → length inner ≡ count → height b ≤ height (step_to d side whole arguments at count end inner b)
step-keeps d side whole arguments at count end inner b counted =
    le-trans _ _ _ (le-same _ _ (ap height (sym (below-there d whole b inner depth value (ap (λ k. value + 1 + k) (sym counted))))))
    (le-trans _ _ _ (component-keeps σ q depth at 0 arguments (variable depth value))
    (le-trans _ _ _ (le-more _ _ _ (height-applied (inst σ component) (map (inst σ) (run depth (value + 1) count))))
    (le-trans _ _ _ (le-same _ _ (ap height (sym (inst-applied σ component (run depth (value + 1) count)))))
    (argument-kept (step_to d side whole arguments at count end inner b) _ (inst σ (applied component (run depth (value + 1) count))) refl))))
  where
    q : Course
    q = course_of d.shape d.m d.below

    σ : ℕ → Term
    σ = fill no_variable (step_values d whole b inner)

    value : ℕ
    value = q.params + 1 + length arguments

    depth : ℕ
    depth = value + 1 + count

    component : Term
    component = component_in q depth at 0 arguments (variable depth value)

last-counted : (r : Term) (count : ℕ) (t : Term) → is_applied r count t ≡ true → length (last_arguments count t) ≡ count
last-counted r count t h = let low = count-low r count t h in omega (arith, length-drop (length (spine_of t) - count) (spine_of t))

at-keeps : (d : Descent) (whole : Term) (arguments : List ArgumentShape) (at : ℕ) (r b : Term) (go_on : Term → Term) → ((x : Term) → height x ≤ height (go_on x)) → height b ≤ height (path_at d whole arguments at r b go_on)
at-keeps d whole arguments at r b go_on keeps = of-argument (slice_get arguments at)
  where
    of-test : (count : ℕ) (type : Term) (t : Bool) → is_applied r count d.part ≡ t
        → height b ≤ height (if t then step_to d First whole arguments at count (behind count type) (last_arguments count d.part) b else go_on (step_to d Second whole arguments at 0 type [] b))
    of-test count type true e = step-keeps d First whole arguments at count (behind count type) (last_arguments count d.part) b (last-counted r count d.part e)
    of-test count type false e = le-trans _ _ _ (step-keeps d Second whole arguments at 0 type [] b refl) (keeps (step_to d Second whole arguments at 0 type [] b))

    of-kind : (kind : ArgKind) (type : Term) → height b ≤ height (by_kind kind b (λ count. if is_applied r count d.part
        then step_to d First whole arguments at count (behind count type) (last_arguments count d.part) b
        else go_on (step_to d Second whole arguments at 0 type [] b)))
    of-kind Plain type = le-same _ _ refl
    of-kind (Recursive count) type = of-test count type (is_applied r count d.part) refl

    of-argument : (o : Option ArgumentShape) → height b ≤ height (if_recursive o b (λ count type. if is_applied r count d.part
        then step_to d First whole arguments at count (behind count type) (last_arguments count d.part) b
        else go_on (step_to d Second whole arguments at 0 type [] b)))
    of-argument None = le-same _ _ refl
    of-argument (Some a) = of-kind a.kind a.type

with-keeps : (o : Option ConstructorShape) (t : Term) (go_on : List ArgumentShape → Term) → ((arguments : List ArgumentShape) → height t ≤ height (go_on arguments)) → height t ≤ height (with_arguments o t go_on)
with-keeps None t go_on keeps = le-same _ _ refl
with-keeps (Some c) t go_on keeps = keeps c.arguments

if-keeps : (c : Bool) (b x y : Term) → height b ≤ height x → height b ≤ height y → height b ≤ height (if c then x else y)
if-keeps true b x y h k = h
if-keeps false b x y h k = k

along-keeps : (d : Descent) (whole : Term) (arguments : List ArgumentShape) (at : ℕ) (t b : Term) → height b ≤ height (path_along d whole arguments at t b)
along-keeps d whole arguments (suc at) (App g r) b =
    if-keeps (has_part_along d.family d.shape d.part arguments at g) b _ _ (along-keeps d whole arguments at g b)
    (at-keeps d whole arguments at r b _ (λ x. with-keeps (constructor_of d.family d.shape r) x _ (λ inner. along-keeps d r inner (length inner) r x)))
along-keeps d whole arguments zero t b = le-same _ _ refl
along-keeps d whole arguments (suc at) t b = le-same _ _ refl

-- a path holds the below value
pub path-keeps : (d : Descent) (t b : Term) → height b ≤ height (path_of d t b)
path-keeps d t b = with-keeps (constructor_of d.family d.shape t) b _ (λ arguments. along-keeps d t arguments (length arguments) t b)

-- ---- the family that the code holds

pub path-is : (n : ℕ) (f : Family) (held : CodeFamily) (result : Result (Option code.Term) Stop) (m number : ℕ) (motive part t b : Term) → HasKinds n held → Some (FamilyOf (family_of held)) ≡ Some (FamilyOf f)
    → Gives (option_map tree_of) result (path_to (record { family = n; shape = shape_of held; m = m; below = number; motive = motive; part = part }) t b)
    → Gives (option_map tree_of) result (below_path n f m number motive t part b)
path-is n f held result m number motive part t b kinds same given =
    let family : family_of held ≡ f = cc in
    subst (λ s. Gives (option_map tree_of) result (path_to (record { family = n; shape = s; m = m; below = number; motive = motive; part = part }) t b))
    (sym (shape-is n held kinds) ∙ ap (family_shape n) family) given

-- ---- none

-- a definite answer of a path is there exactly where the test holds
some-there : (d : Descent) (t b : Term) (p : Option code.Term) (test : Bool) → has_part d.family d.shape d.part t ≡ test → Ok (option_map tree_of p) ≡ path_to d t b → (p ≡ None) ↔ (test ≡ false)
some-there d t b p true e is = go p (is ∙ ap (λ y. if y then (if is_low t && is_low d.part then some_bounded (path_of d t b) else Err Deep) else Ok None) e)
  where
    go : (p : Option code.Term) → Ok (option_map tree_of p) ≡ (if is_low t && is_low d.part then some_bounded (path_of d t b) else Err Deep) → (p ≡ None) ↔ (true ≡ false)
    go (Some x) is = (λ none. absurd (grind arith), λ fails. absurd (grind arith))
    go None is = absurd (no_none (is_low t && is_low d.part) (is_low (path_of d t b)) is)
      where
        no_none : (low bound : Bool) → ◌≡◌ {A = Result (Option Term) Stop} (Ok None) (if low then and_then (if bound then Ok (path_of d t b) else Err Deep) (λ u. Ok (Some u)) else Err Deep) → ⊥
        no_none true true e = grind arith
        no_none true false e = grind arith
        no_none false bound e = grind arith
some-there d t b p false e is = go p (is ∙ ap (λ y. if y then (if is_low t && is_low d.part then some_bounded (path_of d t b) else Err Deep) else Ok None) e)
  where
    go : (p : Option code.Term) → ◌≡◌ {A = Result (Option Term) Stop} (Ok (option_map tree_of p)) (Ok None) → (p ≡ None) ↔ (false ≡ false)
    go (Some x) is = absurd (grind arith)
    go None is = (λ none. refl, λ fails. refl)

pub none-is : (n : ℕ) (f : Family) (result : Result (Option code.Term) Stop) (m number : ℕ) (motive part t b : Term) → Gives (option_map tree_of) result (below_path n f m number motive t part b) → IfOk result (λ p. (p ≡ None) ↔ ((IsStrictPart n f part t) → ⊥))
none-is n f (Err e) m number motive part t b given = tt
none-is n f (Ok p) m number motive part t b given =
    go (has_part n (family_shape n f) part t) refl
  where
    d : Descent
    d = record { family = n; shape = family_shape n f; m = m; below = number; motive = motive; part = part }

    go : (test : Bool) → has_part n (family_shape n f) part t ≡ test → (p ≡ None) ↔ ((IsStrictPart n f part t) → ⊥)
    go test e =
        let there = some-there d t b p test e given in (
          λ none. λ strict. false≢true (sym (e ∙ there.0 none) ∙ part-found n f part strict),
          λ absent. there.1 (no-part test e absent),
        )
      where
        no-part : (test : Bool) → has_part n (family_shape n f) part t ≡ test → ((IsStrictPart n f part t) → ⊥) → test ≡ false
        no-part true e absent = absurd (absent ((part-decides n f part t).0 (let h = e in grind arith)))
        no-part false e absent = refl
