-- Where paths lead: to the components of `D!all.m` at a constructor.
use Rattle.std.proofs.Common.{◌≡◌, ℕ, zero, suc, ◌+◌, Bool, true, false, ◌==◌, if◌then◌else◌, List, [], ◌∷◌, ◌++◌, map, length, take, drop, slice_get, option_map, Some, All, refl, ap, ap₂, sym, ◌∙◌, subst, append_assoc, arith}
use Rattle.std.proofs.lemmas.Bool.Decides.{Decides-eqb}
use Rattle.std.proofs.lemmas.List.{length-append, length-map}
use Rattle.std.proofs.lemmas.Option.{none-some, slice_get-map}
use Rattle.std.proofs.Math.Seq.{drop-append_seam}
use mathlib.Core.Path.{fun_ext}
use Rattle.theory.specs.Terms.{Term}
use Rattle.theory.specs.Terms.Term.{Var, App, Const, Con}
use Rattle.theory.specs.Substitutions.{inst, ups, weaken, extend, put, fill}
use Rattle.theory.specs.Telescopes.{Telescope, applied, weaken_by}
use Rattle.theory.specs.Spines.{spine_of}
use Rattle.theory.specs.Families.{Argument, Family, argument_type, recursive_type, family_head}
use Rattle.theory.specs.Families.Argument.{Plain, Recursive}
use Rattle.theory.specs.Eliminators.{hypothesis, hypotheses, no_variable}
use Rattle.theory.specs.Prelude.{pair_type, pair_family}
use Rattle.theory.specs.Signatures.{Signature, FamilyOf, IsEntryAt}
use Rattle.theory.specs.Conversion.{Converts}
use Rattle.theory.specs.Conversion.Contracts.{beta}
use Rattle.theory.specs.Conversion.Step.{here}
use Rattle.theory.specs.Conversion.Converts.{same, forwards}
use Rattle.theory.proofs.Congruence.{converts-trans, converts-sym, converts-app}
use Rattle.theory.proofs.Instances.{inst-ren, inst-var}
use Rattle.theory.proofs.Instantiation.{inst-applied, inst-hypotheses}
use Rattle.theory.proofs.Lists.{some_is}
use Rattle.theory.proofs.Spines.{applied-append}
use Rattle.core_terms.specs.Levels.{variable, run}
use Rattle.core_sig.proofs.Arguments.{spine_of-applied}
use Rattle.core_sig.specs.FamilyShapes.{argument_shapes, constructor_shape, family_shape}
use Rattle.core_sig.specs.Meanings.{behind}
use Rattle.core_sig.specs.Shapes.{ArgumentShape, recursive_count}
use Rattle.case_below_gen.specs.declared.components.Course.{Course}
use Rattle.case_below_gen.specs.declared.sides.Side.{Side}
use Rattle.case_below_gen.specs.declared.sides.Side.TheVariants.{First, Second}
use Rattle.case_below_gen.specs.Components.{tuple}
use Rattle.case_below_gen.specs.CourseEntries.{course_of}
use Rattle.case_below_gen.specs.CourseLaws.{AreRegular, IsRegularTarget, IsRegularConstructor, HasTargets, recursive_pairs, StepComputes, PathStepComputes}
use Rattle.case_below_gen.specs.PathSteps.{component_side, component_in, part_side, path_step}
use Rattle.case_below_gen.proofs.Computing.{all-slice_get, all-computes}
use Rattle.case_below_gen.proofs.Filling.{fill-append, variable-filled}
use Rattle.case_below_gen.proofs.Functions.{converts-from, converts-applied, step-applied, extend-ups, pair-iota, first-beta, second-beta}
use Rattle.case_below_gen.proofs.Hypotheses.{length-hypotheses}
use Rattle.case_below_gen.proofs.StepForms.{side_taken, below_of, entry-form, step-form, inner-there}

-- ---- hypotheses at their inner arguments

put-hypothesis : (s : ℕ → Term) (A r t : Term) (inner : Telescope) (targets : List Term) → put t (hypothesis (ups s) (weaken A) (App (weaken r) (Var 0)) inner targets) ≡ hypothesis (extend s t) A (App r t) inner targets
put-hypothesis s A r t inner targets =
    let passed : put t (hypothesis (ups s) (weaken A) (App (weaken r) (Var 0)) inner targets) ∷ [] ≡ hypothesis (λ n. inst (extend Var t) (ups s n)) (put t (weaken A)) (App (put t (weaken r)) t) inner targets ∷ [] =
    inst-hypotheses (extend Var t) (ups s) (weaken A) (Recursive inner targets 0 ∷ []) (App (weaken r) (Var 0) ∷ []) in
    let put_in : put t (hypothesis (ups s) (weaken A) (App (weaken r) (Var 0)) inner targets) ≡ hypothesis (λ n. inst (extend Var t) (ups s n)) (put t (weaken A)) (App (put t (weaken r)) t) inner targets = cc in
    put_in ∙ (ap (λ q. hypothesis q (put t (weaken A)) (App (put t (weaken r)) t) inner targets) (fun_ext (extend-ups s t))
    ∙ ap₂ (λ B u. hypothesis (extend s t) B (App u t) inner targets) (inst-ren (extend Var t) suc A ∙ inst-var A) (inst-ren (extend Var t) suc r ∙ inst-var r))

pub hypothesis-applied : (S : Signature) (s : ℕ → Term) (A r : Term) (inner : Telescope) (targets ts : List Term) → length ts ≡ length inner → Converts S (applied (hypothesis s A r inner targets) ts) (App (applied A (map (inst (fill s ts)) targets)) (applied r ts))
hypothesis-applied S s A r [] targets [] e = same
hypothesis-applied S s A r [] targets (t ∷ ts) e = absurd (omega arith)
hypothesis-applied S s A r (a ∷ inner) targets [] e = absurd (omega arith)
hypothesis-applied S s A r (a ∷ inner) targets (t ∷ ts) e =
    converts-trans (forwards (step-applied ts (here (beta {u = t}))) (converts-from (ap (λ h. applied h ts) (put-hypothesis s A r t inner targets))))
    (hypothesis-applied S (extend s t) A (App r t) inner targets ts (omega arith))

-- ---- components

-- the component for a recursive argument of a tuple of hypotheses is its hypothesis
pub kept-computes : (S : Signature) (n : ℕ) (f : Family) (q : Course) → IsEntryAt S (pair_type q.m) (FamilyOf (pair_family q.m)) → (σ : ℕ → Term) (depth wanted first D : ℕ) (args : List Term) → D ≡ length args
    → (A : Term) (s : ℕ → Term) (arguments : List Argument) (vs : List Term) (i h j : ℕ) (before : List Term) (v : Term) (inner : Telescope) (targets : List Term) (level : ℕ) (r : Term)
    → args ≡ before ++ hypotheses s A arguments vs → h ≡ length before → wanted ≡ i + j → slice_get arguments j ≡ Some (Recursive inner targets level) → slice_get vs j ≡ Some r
    → Converts S (inst σ v) (inst (fill no_variable args) (tuple q first i D h (argument_shapes n f i arguments)))
    → Converts S (inst σ (component_in q depth wanted i (argument_shapes n f i arguments) v)) (hypothesis (fill s (take j vs)) A r inner targets)
kept-computes S n f q pairs σ depth wanted first D args all A s [] vs i h j before v inner targets level r is at place kind there conv = absurd (none-some (Recursive inner targets level) kind)
kept-computes S n f q pairs σ depth wanted first D args all A s (b ∷ arguments) [] i h j before v inner targets level r is at place kind there conv = absurd (none-some r there)
kept-computes S n f q pairs σ depth wanted first D args all A s (Plain type l ∷ arguments) (w ∷ vs) i h zero before v inner targets level r is at place kind there conv = absurd (grind arith)
kept-computes S n f q pairs σ depth wanted first D args all A s (Plain type l ∷ arguments) (w ∷ vs) i h (suc j) before v inner targets level r is at place kind there conv =
    kept-computes S n f q pairs σ depth wanted first D args all A (extend s w) arguments vs (i + 1) h j before v inner targets level r is at (omega arith) kind there conv
kept-computes S n f q pairs σ depth wanted first D args all A s (Recursive inside ends l ∷ arguments) (w ∷ vs) i h zero before v inner targets level r is at place kind there conv =
    converts-trans
    (converts-from (ap (λ t. inst σ (if t then component_side First q depth i (length inside) (recursive_type Var (weaken_by i (family_head n f)) inside ends) (argument_shapes n f (i + 1) arguments) v else component_in q depth wanted (i + 1) (argument_shapes n f (i + 1) arguments) (component_side Second q depth i (length inside) (recursive_type Var (weaken_by i (family_head n f)) inside ends) (argument_shapes n f (i + 1) arguments) v))) ((Decides-eqb i wanted).1 (omega arith))))
    (converts-trans (converts-app same conv)
    (converts-trans (pair-iota q.m _ _ _ _ _ _ _ _ pairs)
    (converts-trans (first-beta _ _ _ _)
    (converts-from (variable-filled no_variable args before (hypothesis s A w inside ends) (hypotheses (extend s w) A arguments vs) D h is all at ∙ found)))))
  where
    found : hypothesis s A w inside ends ≡ hypothesis s A r inner targets
    found =
        let e : Recursive inside ends l ≡ Recursive inner targets level = some_is kind in
        let t : w ≡ r = some_is there in
        let same_inner : inside ≡ inner = cc in
        let same_targets : ends ≡ targets = cc in
        ap₂ (λ (x : Term) (y : Telescope × List Term). hypothesis s A x y.0 y.1) t (ap₂ (λ (x : Telescope) (y : List Term). (x, y)) same_inner same_targets)
kept-computes S n f q pairs σ depth wanted first D args all A s (Recursive inside ends l ∷ arguments) (w ∷ vs) i h (suc j) before v inner targets level r is at place kind there conv =
    converts-trans
    (converts-from (ap (λ t. inst σ (if t then component_side First q depth i (length inside) (recursive_type Var (weaken_by i (family_head n f)) inside ends) (argument_shapes n f (i + 1) arguments) v else component_in q depth wanted (i + 1) (argument_shapes n f (i + 1) arguments) (component_side Second q depth i (length inside) (recursive_type Var (weaken_by i (family_head n f)) inside ends) (argument_shapes n f (i + 1) arguments) v))) other))
    (kept-computes S n f q pairs σ depth wanted first D args all A (extend s w) arguments vs (i + 1) (h + 1) j (before ++ hypothesis s A w inside ends ∷ []) (component_side Second q depth i (length inside) (recursive_type Var (weaken_by i (family_head n f)) inside ends) (argument_shapes n f (i + 1) arguments) v) inner targets level r
    (is ∙ sym (append_assoc before (hypothesis s A w inside ends ∷ []) (hypotheses (extend s w) A arguments vs)))
    (omega (arith, at, length-append before (hypothesis s A w inside ends ∷ []))) (omega arith) kind there
    (converts-trans (converts-app same conv) (converts-trans (pair-iota q.m _ _ _ _ _ _ _ _ pairs) (second-beta _ _ _ _))))
  where
    other : (i == wanted) ≡ false
    other = go (i == wanted) refl
      where
        go : (b : Bool) → (i == wanted) ≡ b → (i == wanted) ≡ false
        go true t = absurd (let e : i ≡ wanted = (Decides-eqb i wanted).0 t in omega arith)
        go false t = t

-- ---- one step

-- the type of an argument that a regular constructor has
regular-at : (n : ℕ) (f : Family) (p i j k : ℕ) (arguments : List Argument) (a : Argument) → AreRegular p i (argument_shapes n f i arguments) → slice_get arguments j ≡ Some a → k ≡ i + j → IsRegularTarget (p + k) (argument_type Var (weaken_by k (family_head n f)) a)
regular-at n f p i j k [] a fit at is = absurd (none-some a at)
regular-at n f p i zero k (b ∷ arguments) a fit at is =
    let place : i ≡ k = omega arith in
    subst (λ l. IsRegularTarget (p + l) (argument_type Var (weaken_by l (family_head n f)) a)) place
    (subst (λ x. IsRegularTarget (p + i) (argument_type Var (weaken_by i (family_head n f)) x)) (some_is at) (fit.0, fit.1))
regular-at n f p i (suc j) k (b ∷ arguments) a fit at is = regular-at n f p (i + 1) j k arguments a fit.3 at (omega arith)

-- a constructor with its parameters and arguments
take-spine : (n number p : ℕ) (ps us : List Term) → length ps ≡ p → take p (spine_of (applied (Con n number) (ps ++ us))) ≡ ps
take-spine n number p ps us is =
    ap (take p) (spine_of-applied (Con n number) (ps ++ us)) ∙ (ap (λ k. take k (ps ++ us)) (sym is) ∙ take-append ps us)
  where
    take-append : (xs ys : List Term) → take (length xs) (xs ++ ys) ≡ xs
    take-append [] ys = refl
    take-append (x ∷ xs) ys = ap (λ zs. x ∷ zs) (take-append xs ys)

drop-spine : (n number p : ℕ) (ps us : List Term) → length ps ≡ p → drop p (spine_of (applied (Con n number) (ps ++ us))) ≡ us
drop-spine n number p ps us is =
    ap (drop p) (spine_of-applied (Con n number) (ps ++ us)) ∙ (ap (λ k. drop k (ps ++ us)) (sym is) ∙ drop-append_seam ps us)

length-shapes : (n : ℕ) (f : Family) (at : ℕ) (arguments : List Argument) → length (argument_shapes n f at arguments) ≡ length arguments
length-shapes n f at [] = refl
length-shapes n f at (a ∷ arguments) = ap suc (length-shapes n f (at + 1) arguments)

pub step-computes : (side : Side) → StepComputes side
step-computes side S n f m below aux all entry has all_body entry_body number c ps P s is us at_constructor at inner targets level r ts part kind there counted =
    converts-trans (converts-from shown)
    (converts-trans (converts-app same (converts-trans (converts-applied ts component) (hypothesis-applied S (fill (fill no_variable ps) (take at us)) A r inner targets ts counted)))
    (converts-trans (converts-from (ap (λ h. side_taken side m (App (applied P js) (applied r ts)) (App (applied (below_of below ps P) js) (applied r ts)) (App h (applied r ts))) (recursor_at_js ∙ (sym (applied-append (Const aux) (ps ++ P ∷ s ∷ []) js) ∙ ap (applied (Const aux)) (append_assoc ps (P ∷ s ∷ []) js)))))
    (converts-sym (entry-form S side n (family_shape n f) m below aux entry ps P s js (applied r ts) has.bodies entry_body at_constructor.parameters js_count))))
  where
    q : Course
    q = course_of (family_shape n f) m below

    shapes : List ArgumentShape
    shapes = argument_shapes n f 0 c.arguments

    whole : Term
    whole = applied (Con n number) (ps ++ us)

    b : Term
    b = App (applied (Const all) (ps ++ P ∷ s ∷ is)) whole

    A : Term
    A = applied (Const aux) (ps ++ P ∷ s ∷ [])

    js : List Term
    js = map (inst (fill no_variable (ps ++ (take at us ++ ts)))) targets

    args : List Term
    args = ps ++ P ∷ (us ++ b ∷ ts)

    count : ℕ
    count = length inner

    value : ℕ
    value = q.params + 1 + length us

    depth : ℕ
    depth = value + 1 + count

    end : Term
    end = behind count (recursive_type Var (weaken_by at (family_head n f)) inner targets)

    component_term : Term
    component_term = component_in q depth at 0 shapes (variable depth value)

    shapes_count : length shapes ≡ length us
    shapes_count = length-shapes n f 0 c.arguments ∙ sym at_constructor.arguments

    index_count : length (family_shape n f).indices ≡ length f.indices
    index_count = length-map f.indices _

    target_count : length targets ≡ length f.indices
    target_count = all-slice_get (HasTargets (length f.indices)) c.arguments at (Recursive inner targets level) (all-slice_get (λ c. All (HasTargets (length f.indices)) c.arguments) f.constructors number c has.targets at_constructor.constructor) kind

    js_count : length js ≡ length (family_shape n f).indices
    js_count = length-map targets _ ∙ (target_count ∙ sym index_count)

    regular : IsRegularTarget (q.params + at) (recursive_type Var (weaken_by at (family_head n f)) inner targets)
    regular =
        regular-at n f q.params 0 at at c.arguments (Recursive inner targets level)
        (all-slice_get (IsRegularConstructor q.params) (family_shape n f).constructors number (constructor_shape n f c) has.regular.constructors (slice_get-map (constructor_shape n f) f.constructors number ∙ ap (option_map (constructor_shape n f)) at_constructor.constructor)).arguments
        kind (omega arith)

    shown : inst (fill no_variable (take q.params (spine_of whole) ++ P ∷ (drop q.params (spine_of whole) ++ b ∷ ts))) (path_step side q shapes at count end) ≡ side_taken side m (App (applied P js) (applied r ts)) (App (applied (below_of below ps P) js) (applied r ts)) (applied (inst (fill no_variable args) component_term) ts)
    shown =
        ap₂ (λ xs ys. inst (fill no_variable (xs ++ P ∷ (ys ++ b ∷ ts))) (path_step side q shapes at count end)) (take-spine n number q.params ps us at_constructor.parameters) (drop-spine n number q.params ps us at_constructor.parameters)
        ∙ (ap (λ k. inst (fill no_variable args) (part_side side q (q.params + 1 + k + 1 + count) at (q.params + 1 + k + 1) count end (applied (component_in q (q.params + 1 + k + 1 + count) at 0 shapes (variable (q.params + 1 + k + 1 + count) (q.params + 1 + k))) (run (q.params + 1 + k + 1 + count) (q.params + 1 + k + 1) count)))) shapes_count
        ∙ (step-form q ps P us b ts at r inner targets (weaken_by at (family_head n f)) (sym at_constructor.parameters) there counted (index_count ∙ sym target_count) regular side (applied component_term (run depth (value + 1) count))
        ∙ ap (side_taken side m (App (applied P js) (applied r ts)) (App (applied (below_of below ps P) js) (applied r ts)))
        (inst-applied (fill no_variable args) component_term (run depth (value + 1) count)
        ∙ ap (applied (inst (fill no_variable args) component_term)) (inner-there q ps P us b ts at r inner targets (weaken_by at (family_head n f)) (sym at_constructor.parameters) there counted (index_count ∙ sym target_count) regular))))

    pairs : List Term
    pairs = recursive_pairs aux ps P s c.arguments us

    tuple_args : List Term
    tuple_args = ps ++ P ∷ (us ++ pairs)

    first : ℕ
    first = q.params + 1

    pairs_count : length pairs ≡ recursive_count shapes
    pairs_count = length-hypotheses n f 0 (fill no_variable ps) A c.arguments us at_constructor.arguments

    below-value : inst (fill no_variable args) (variable depth value) ≡ b
    below-value =
        variable-filled no_variable args (ps ++ P ∷ us) b ts depth value (sym (append_assoc ps (P ∷ us) (b ∷ ts)))
        (omega (arith, length-append ps (P ∷ (us ++ b ∷ ts)), length-append us (b ∷ ts), at_constructor.parameters, counted))
        (omega (arith, length-append ps (P ∷ us), at_constructor.parameters))

    component : Converts S (inst (fill no_variable args) component_term) (hypothesis (fill (fill no_variable ps) (take at us)) A r inner targets)
    component =
        kept-computes S n f q has.pairs (fill no_variable args) depth at first (first + length shapes + recursive_count shapes) tuple_args
        (omega (arith, length-append ps (P ∷ (us ++ pairs)), length-append us pairs, at_constructor.parameters, shapes_count, pairs_count))
        A (fill no_variable ps) c.arguments us 0 (first + length shapes) at (ps ++ P ∷ us) (variable depth value) inner targets level r (sym (append_assoc ps (P ∷ us) pairs))
        (omega (arith, length-append ps (P ∷ us), at_constructor.parameters, shapes_count)) (omega arith) kind there
        (converts-trans (converts-from below-value) (all-computes S n f m below aux all has all_body number c ps P s is ps us at_constructor))

    recursor_at_js : applied A (map (inst (fill (fill (fill no_variable ps) (take at us)) ts)) targets) ≡ applied A js
    recursor_at_js = ap (λ g. applied A (map (inst g) targets)) (fun_ext (λ v. sym (fill-append no_variable ps (take at us ++ ts) v ∙ fill-append (fill no_variable ps) (take at us) ts v)))

pub path-step-computes : PathStepComputes
path-step-computes = (step-computes First, step-computes Second)
