-- The path to a strict part in `D!all.m` at a term converts to `D!rec.m` at the part.
use Rattle.std.proofs.Common.{◌≡◌, ℕ, zero, suc, ◌+◌, ◌-◌, ◌<◌, ◌≤◌, Bool, true, false, ◌&&◌, ◌||◌, ◌==◌, if◌then◌else◌, List, [], ◌∷◌, ◌++◌, map, length, take, drop, slice_get, option_map, Option, Some, None, All, inl, inr, refl, ap, ap₂, sym, ◌∙◌, subst, arith}
use Rattle.std.proofs.lemmas.Bool.{false≢true}
use Rattle.std.proofs.lemmas.Bool.Decides.{Decides-eqb}
use Rattle.std.proofs.lemmas.List.{length-append, length-drop, take-append-drop, length-map}
use Rattle.std.proofs.lemmas.Option.{none-some}
use Rattle.theory.specs.Terms.{Term, height}
use Rattle.theory.specs.Terms.Term.{Var, App, Const, Con}
use Rattle.theory.specs.Substitutions.{inst, fill}
use Rattle.theory.specs.Telescopes.{Telescope, applied, weaken_by}
use Rattle.theory.specs.Spines.{head_of, spine_of}
use Rattle.theory.specs.Families.{Argument, Constructor, Family, level_of, argument_type, recursive_type, family_head}
use Rattle.theory.specs.Families.Argument.{Plain, Recursive}
use Rattle.theory.specs.Eliminators.{no_variable}
use Rattle.theory.specs.Signatures.{Signature, HasClosedBodies}
use Rattle.theory.specs.Conversion.{Converts}
use Rattle.theory.specs.Conversion.Converts.{same}
use Rattle.theory.proofs.Congruence.{converts-trans, converts-inst-each}
use Rattle.theory.proofs.Lists.{slice_get-last, slice_get-longer, slice_get-append_right, some_is}
use Rattle.std.proofs.Math.Seq.{drop-append_seam}
use Rattle.theory.proofs.Spines.{applied-spine}
use Rattle.core_sig.proofs.Arguments.{spine_of-applied}
use Rattle.core_sig.specs.FamilyShapes.{kind_of, argument_shapes, constructor_shape, family_shape}
use Rattle.core_sig.specs.Meanings.{behind}
use Rattle.core_sig.specs.Shapes.{ArgumentShape, ConstructorShape}
use Rattle.case_below_gen.specs.declared.sides.Side.{Side}
use Rattle.case_below_gen.specs.declared.sides.Side.TheVariants.{First, Second}
use Rattle.case_below_gen.specs.CourseEntries.{course_of}
use Rattle.case_below_gen.specs.CourseLaws.{HasBody, HasCourse, HasTargets, IsAtConstructor}
use Rattle.case_below_gen.specs.PartTests.{is_applied, constructor_of, if_recursive, is_at, in_constructor, has_part_along, has_part}
use Rattle.case_below_gen.specs.PathLaws.{IsArgumentAt, HasPartWith, HaveParameters, PathComputes}
use Rattle.case_below_gen.specs.PathLaws.HasPartWith.{itself as part_itself, inside as part_inside}
use Rattle.case_below_gen.specs.PathSteps.{path_step}
use Rattle.case_below_gen.specs.Paths.{Descent, step_values, step_to, last_arguments, path_at, with_arguments, path_along, path_of}
use Rattle.case_below_gen.specs.Projections.{side_entry_term}
use Rattle.case_below_gen.specs.StrictParts.{IsRecursiveArgument}
use Rattle.case_below_gen.specs.StrictParts.IsStrictPart.{itself as strict_itself, inside as strict_inside}
use Rattle.case_below_gen.proofs.Computing.{all-slice_get}
use Rattle.case_below_gen.proofs.Hypotheses.{EachConverts, fill-converts}
use Rattle.case_below_gen.proofs.PartTests.{whole-tells, applied-tells, and-tells, argument-low, part-found}
use Rattle.case_below_gen.proofs.PathLaws.{step-computes}

-- ---- the place that the path takes

record Place (d : Descent) (whole : Term) (arguments : List ArgumentShape) (at : ℕ) (t b : Term) : Type 0 where
  place : ℕ
  r : Term
  before : place < at
  argument : slice_get (spine_of t) (length d.shape.parameters + place) ≡ Some r
  holds : is_at d.part r (slice_get arguments place) (has_part d.family d.shape d.part r) ≡ true
  path : path_along d whole arguments at t b ≡ path_at d whole arguments place r b (path_of d r)

place-in : (d : Descent) (whole : Term) (arguments : List ArgumentShape) (at : ℕ) (t b : Term) → length (spine_of t) ≡ length d.shape.parameters + at → has_part_along d.family d.shape d.part arguments at t ≡ true → Place d whole arguments at t b
place-in d whole arguments (suc at) (App g r) b counted h = go (has_part_along d.family d.shape d.part arguments at g) refl h (place-in d whole arguments at g b front)
  where
    front : length (spine_of g) ≡ length d.shape.parameters + at
    front = omega (arith, length-append (spine_of g) (r ∷ []), counted)

    go : (test : Bool) → has_part_along d.family d.shape d.part arguments at g ≡ test → (test || is_at d.part r (slice_get arguments at) (has_part d.family d.shape d.part r)) ≡ true
        → (has_part_along d.family d.shape d.part arguments at g ≡ true → Place d whole arguments at g b) → Place d whole arguments (suc at) (App g r) b
    go true e holds before =
        let found = before e in
        record {
          place = found.place;
          r = found.r;
          before = (let lt = found.before in omega arith);
          argument = slice_get-longer (spine_of g) (r ∷ []) (length d.shape.parameters + found.place) found.r found.argument;
          holds = found.holds;
          path = ap (λ y. if y then path_along d whole arguments at g b else path_at d whole arguments at r b (path_of d r)) e ∙ found.path;
        }
    go false e holds before =
        let last : length d.shape.parameters + at ≡ length (spine_of g) = sym front in
        record {
          place = at;
          r = r;
          before = omega arith;
          argument = ap (slice_get (spine_of g ++ r ∷ [])) last ∙ slice_get-last (spine_of g) r;
          holds = holds;
          path = ap (λ y. if y then path_along d whole arguments at g b else path_at d whole arguments at r b (path_of d r)) e;
        }
place-in d whole arguments zero t b counted h = absurd (false≢true h)
place-in d whole arguments (suc at) t b counted h = absurd (false≢true h)

-- ---- below values that convert

step-converts : (S : Signature) (d : Descent) (side : Side) (whole : Term) (arguments : List ArgumentShape) (at count : ℕ) (end : Term) (inner : List Term) (b b' : Term) → HasClosedBodies S → Converts S b b' → Converts S (step_to d side whole arguments at count end inner b) (step_to d side whole arguments at count end inner b')
step-converts S d side whole arguments at count end inner b b' closed h =
    converts-inst-each S closed (fill no_variable (step_values d whole b inner)) (fill no_variable (step_values d whole b' inner)) (fill-converts S no_variable no_variable (step_values d whole b inner) (step_values d whole b' inner) (λ v. same) values) (path_step side (course_of d.shape d.m d.below) arguments at count end)
  where
    each : (us : List Term) → EachConverts S us us
    each [] = tt
    each (u ∷ us) = (same, each us)

    more : (us vs ws : List Term) → EachConverts S vs ws → EachConverts S (us ++ vs) (us ++ ws)
    more [] vs ws k = k
    more (u ∷ us) vs ws k = (same, more us vs ws k)

    values : EachConverts S (step_values d whole b inner) (step_values d whole b' inner)
    values =
        more (take (length d.shape.parameters) (spine_of whole)) _ _
        (same, more (drop (length d.shape.parameters) (spine_of whole)) (b ∷ inner) (b' ∷ inner) (h, each inner))

-- ---- arguments and their shapes

get-there : {X : Type 0} (xs : List X) (j : ℕ) → j < length xs → (x : X) × (slice_get xs j ≡ Some x)
get-there [] j lt = absurd (omega arith)
get-there (x ∷ xs) zero lt = (x, refl)
get-there (x ∷ xs) (suc j) lt = get-there xs j (omega arith)

abbrev shape-of : (n : ℕ) (f : Family) (k : ℕ) → Argument → ArgumentShape
shape-of n f k a = record { type = argument_type Var (weaken_by k (family_head n f)) a; level = level_of a; kind = kind_of a }

shapes-at : (n : ℕ) (f : Family) (i j k : ℕ) (arguments : List Argument) (a : Argument) → slice_get arguments j ≡ Some a → k ≡ i + j → slice_get (argument_shapes n f i arguments) j ≡ Some (shape-of n f k a)
shapes-at n f i j k [] a at is = absurd (none-some a at)
shapes-at n f i zero k (b ∷ arguments) a at is =
    let place : i ≡ k = omega arith in ap₂ (λ l x. Some (shape-of n f l x)) place (some_is at)
shapes-at n f i (suc j) k (b ∷ arguments) a at is = shapes-at n f (i + 1) j k arguments a at (omega arith)

length-shapes : (n : ℕ) (f : Family) (at : ℕ) (arguments : List Argument) → length (argument_shapes n f at arguments) ≡ length arguments
length-shapes n f at [] = refl
length-shapes n f at (a ∷ arguments) = ap suc (length-shapes n f (at + 1) arguments)

-- the last arguments of a spine
last-applied : (r : Term) (ts : List Term) → last_arguments (length ts) (applied r ts) ≡ ts
last-applied r ts =
    ap (λ us. drop (length us - length ts) us) (spine_of-applied r ts)
    ∙ (ap (λ k. drop k (spine_of r ++ ts)) place ∙ drop-append_seam (spine_of r) ts)
  where
    place : length (spine_of r ++ ts) - length ts ≡ length (spine_of r)
    place = omega (arith, length-append (spine_of r) ts)

-- ---- one argument more

module _ (S : Signature) (n : ℕ) (f : Family) (m below aux rec all : ℕ) (has : HasCourse S n f m below aux) (rec_body : HasBody S rec (side_entry_term First n (family_shape n f) (course_of (family_shape n f) m below) aux)) (all_body : HasBody S all (side_entry_term Second n (family_shape n f) (course_of (family_shape n f) m below) aux))
    (ps : List Term) (P s : Term) (params : length ps ≡ length f.parameters) (part : Term) where
  abbrev d : Descent
  d = record { family = n; shape = family_shape n f; m = m; below = below; motive = P; part = part }

  abbrev k : ℕ
  k = length f.indices

  abbrev all_at : List Term → Term → Term
  all_at js t = App (applied (Const all) (ps ++ P ∷ s ∷ js)) t

  abbrev rec_at : List Term → Term → Term
  rec_at js t = App (applied (Const rec) (ps ++ P ∷ s ∷ js)) t

  abbrev Leads : Term → Term → Type 0
  Leads t b = (js : List Term) × HasPartWith n f ps part js t × Converts S (path_of d t b) (rec_at js part)

  -- the path to the part in each lower term computes
  abbrev Known : Term → Type 0
  Known t = (u b : Term) (js : List Term) → height u < height t → length js ≡ k → HaveParameters n f ps u → has_part n (family_shape n f) part u ≡ true → Converts S b (all_at js u) → Leads u b

  module _ (t b : Term) (is : List Term) (indices : length is ≡ k) (own : HaveParameters n f ps t) (value : Converts S b (all_at is t)) (known : Known t) (number : ℕ) (c : Constructor) (head : head_of t ≡ Con n number) (there : slice_get f.constructors number ≡ Some c) (whole : length (spine_of t) ≡ length f.parameters + length c.arguments)
      (found : constructor_of n (family_shape n f) t ≡ Some (constructor_shape n f c)) (place : ℕ) (r : Term) (argument : slice_get (spine_of t) (length f.parameters + place) ≡ Some r) where
    abbrev us : List Term
    us = drop (length f.parameters) (spine_of t)

    abbrev shapes : List ArgumentShape
    shapes = argument_shapes n f 0 c.arguments

    spine : spine_of t ≡ ps ++ us
    spine = sym (take-append-drop (length f.parameters) (spine_of t)) ∙ ap (λ vs. vs ++ us) (own t number (inl refl) head)

    form : t ≡ applied (Con n number) (ps ++ us)
    form = sym (applied-spine t) ∙ ap₂ applied head spine

    us_count : length us ≡ length c.arguments
    us_count = omega (arith, length-drop (length f.parameters) (spine_of t), whole)

    r_there : slice_get us place ≡ Some r
    r_there =
        sym (slice_get-append_right ps us place)
        ∙ (ap (λ i. slice_get (ps ++ us) (i + place)) params ∙ (ap (λ vs. slice_get vs (length f.parameters + place)) (sym spine) ∙ argument))

    at_constructor : IsAtConstructor f number c ps is ps us
    at_constructor = record { constructor = there; parameters = params; indices = indices; constructor_parameters = params; arguments = us_count }

    argument-at : (inner : Telescope) (targets : List Term) (level : ℕ) → slice_get c.arguments place ≡ Some (Recursive inner targets level) → IsArgumentAt n f ps t r inner targets (take place us)
    argument-at inner targets level kind = record { number = number; constructor = c; us = us; at = place; level = level; form = form; known = there; arguments = us_count; kind = kind; argument = r_there; place = refl }

    -- the step in the below value
    step-leads : (side : Side) (entry : ℕ) → HasBody S entry (side_entry_term side n (family_shape n f) (course_of (family_shape n f) m below) aux) → (inner : Telescope) (targets : List Term) (level : ℕ) (ts : List Term) → slice_get c.arguments place ≡ Some (Recursive inner targets level) → length ts ≡ length inner
        → Converts S (step_to d side t shapes place (length inner) (behind (length inner) (recursive_type Var (weaken_by place (family_head n f)) inner targets)) ts b) (App (applied (Const entry) (ps ++ P ∷ s ∷ map (inst (fill no_variable (ps ++ (take place us ++ ts)))) targets)) (applied r ts))
    step-leads side entry body inner targets level ts kind counted =
        converts-trans (step-converts S d side t shapes place (length inner) end ts b (all_at is t) has.bodies value)
        (subst (λ w. Converts S (step_to d side w shapes place (length inner) end ts (all_at is w)) (App (applied (Const entry) (ps ++ P ∷ s ∷ map (inst (fill no_variable (ps ++ (take place us ++ ts)))) targets)) (applied r ts))) (sym form)
        (step-computes side S n f m below aux all entry has all_body body number c ps P s is us at_constructor place inner targets level r ts part kind r_there counted))
      where
        end : Term
        end = behind (length inner) (recursive_type Var (weaken_by place (family_head n f)) inner targets)

    -- the path ends at r, or goes on inside it
    abbrev goes : (test : Bool) (inner : Telescope) (targets : List Term) → Term
    goes test inner targets =
        if test
        then step_to d First t shapes place (length inner) (behind (length inner) (recursive_type Var (weaken_by place (family_head n f)) inner targets)) (last_arguments (length inner) part) b
        else path_of d r (step_to d Second t shapes place 0 (recursive_type Var (weaken_by place (family_head n f)) inner targets) [] b)

    abbrev Ends : Term → Type 0
    Ends path = (js : List Term) × HasPartWith n f ps part js t × Converts S path (rec_at js part)

    ends : (inner : Telescope) (targets : List Term) (level : ℕ) → slice_get c.arguments place ≡ Some (Recursive inner targets level) → (ts : List Term) → length ts ≡ length inner → part ≡ applied r ts → Ends (goes true inner targets)
    ends inner targets level kind ts counted is_part = (
      map (inst (fill no_variable (ps ++ (take place us ++ ts)))) targets,
      part_itself ts (argument-at inner targets level kind) counted is_part refl,
      subst (λ vs. Converts S (step_to d First t shapes place (length inner) (behind (length inner) (recursive_type Var (weaken_by place (family_head n f)) inner targets)) vs b) (rec_at (map (inst (fill no_variable (ps ++ (take place us ++ ts)))) targets) part)) (sym last)
          (subst (λ u. Converts S (step_to d First t shapes place (length inner) (behind (length inner) (recursive_type Var (weaken_by place (family_head n f)) inner targets)) ts b) (rec_at (map (inst (fill no_variable (ps ++ (take place us ++ ts)))) targets) u)) (sym is_part)
          (step-leads First rec rec_body inner targets level ts kind counted)),
    )
      where
        last : last_arguments (length inner) part ≡ ts
        last = ap₂ (λ i u. last_arguments i u) (sym counted) is_part ∙ last-applied r ts

    further : (targets : List Term) (level : ℕ) → slice_get c.arguments place ≡ Some (Recursive [] targets level) → has_part n (family_shape n f) part r ≡ true → Ends (goes false [] targets)
    further targets level kind inside_r =
        let js = map (inst (fill no_variable (ps ++ (take place us ++ [])))) targets in
        let rest = known r (step_to d Second t shapes place 0 (recursive_type Var (weaken_by place (family_head n f)) [] targets) [] b) js (argument-low t r (length f.parameters + place) argument) target_count own_r inside_r (step-leads Second all all_body [] targets level [] kind refl) in
        (rest.0, part_inside (argument-at [] targets level kind) rest.1, rest.2)
      where
        is_argument : IsRecursiveArgument n f t r 0
        is_argument = record { number = number; constructor = c; at = place; head = head; known = there; whole = whole; kind = ap (option_map kind_of) kind; argument = argument }

        own_r : HaveParameters n f ps r
        own_r u i (inl e) = own u i (inr (strict_itself [] is_argument e))
        own_r u i (inr strict) = own u i (inr (strict_inside is_argument strict))

        target_count : length (map (inst (fill no_variable (ps ++ (take place us ++ [])))) targets) ≡ k
        target_count =
            length-map targets _
            ∙ all-slice_get (HasTargets k) c.arguments place (Recursive [] targets level) (all-slice_get (λ c. All (HasTargets k) c.arguments) f.constructors number c has.targets there) kind

    recursive-leads : (inner : Telescope) (targets : List Term) (level : ℕ) → slice_get c.arguments place ≡ Some (Recursive inner targets level) → (test : Bool) → is_applied r (length inner) part ≡ test
        → (test || ((length inner == 0) && has_part n (family_shape n f) part r)) ≡ true → Ends (goes test inner targets)
    recursive-leads inner targets level kind true e holds =
        let at = applied-tells r (length inner) part e in ends inner targets level kind at.inner at.counted at.form
    recursive-leads [] targets level kind false e holds = further targets level kind (and-tells (0 == 0) (has_part n (family_shape n f) part r) holds).1
    recursive-leads (a ∷ inner) targets level kind false e holds =
        let none : length (a ∷ inner) ≡ 0 = (Decides-eqb (length (a ∷ inner)) 0).0 (and-tells (length (a ∷ inner) == 0) (has_part n (family_shape n f) part r) holds).0 in absurd (omega arith)

    argument-leads : (a : Argument) → slice_get c.arguments place ≡ Some a → is_at part r (Some (shape-of n f place a)) (has_part n (family_shape n f) part r) ≡ true → Ends (if_recursive (Some (shape-of n f place a)) b (λ count type. if is_applied r count part
        then step_to d First t shapes place count (behind count type) (last_arguments count part) b
        else path_of d r (step_to d Second t shapes place 0 type [] b)))
    argument-leads (Plain type level) kind holds = absurd (false≢true holds)
    argument-leads (Recursive inner targets level) kind holds = recursive-leads inner targets level kind (is_applied r (length inner) part) refl holds

  -- ---- whole terms

  leads-step : (t b : Term) (is : List Term) → length is ≡ k → HaveParameters n f ps t → has_part n (family_shape n f) part t ≡ true → Converts S b (all_at is t) → Known t → Leads t b
  leads-step t b is indices own h value known = go (constructor_of n (family_shape n f) t) refl h
    where
      at-place : (number : ℕ) (c : Constructor) → head_of t ≡ Con n number → slice_get f.constructors number ≡ Some c → length (spine_of t) ≡ length f.parameters + length c.arguments → constructor_of n (family_shape n f) t ≡ Some (constructor_shape n f c)
          → Place d t (argument_shapes n f 0 c.arguments) (length (argument_shapes n f 0 c.arguments)) t b → Leads t b
      at-place number c head there whole found pl =
          let lt : pl.place < length c.arguments = (let before = pl.before in omega (arith, length-shapes n f 0 c.arguments)) in
          let a = get-there c.arguments pl.place lt in
          let shape = shapes-at n f 0 pl.place pl.place c.arguments a.0 a.1 (omega arith) in
          let led = argument-leads t b is indices own value known number c head there whole found pl.place pl.r pl.argument a.0 a.1 (ap (λ o. is_at part pl.r o (has_part n (family_shape n f) part pl.r)) (sym shape) ∙ pl.holds) in
          let path =
          ap (λ o. with_arguments o b (λ arguments. path_along d t arguments (length arguments) t b)) found
          ∙ (pl.path ∙ ap (λ o. if_recursive o b (λ count type. if is_applied pl.r count part
          then step_to d First t (argument_shapes n f 0 c.arguments) pl.place count (behind count type) (last_arguments count part) b
          else path_of d pl.r (step_to d Second t (argument_shapes n f 0 c.arguments) pl.place 0 type [] b))) shape) in
          (led.0, led.1, subst (λ u. Converts S u (rec_at led.0 part)) (sym path) led.2)

      from-whole : (s : ConstructorShape) → constructor_of n (family_shape n f) t ≡ Some s → has_part_along n (family_shape n f) part s.arguments (length s.arguments) t ≡ true → Leads t b
      from-whole s e along =
          let w = whole-tells n f t s e in
          let shape : s.arguments ≡ argument_shapes n f 0 w.constructor.arguments = ap (λ c. c.arguments) w.shape in
          at-place w.number w.constructor w.head w.known w.whole (e ∙ ap Some w.shape)
          (place-in d t (argument_shapes n f 0 w.constructor.arguments) (length (argument_shapes n f 0 w.constructor.arguments)) t b
          (w.whole ∙ ap (λ i. length f.parameters + i) (sym (length-shapes n f 0 w.constructor.arguments)))
          (ap (λ arguments. has_part_along n (family_shape n f) part arguments (length arguments) t) (sym shape) ∙ along))

      go : (o : Option ConstructorShape) → constructor_of n (family_shape n f) t ≡ o → in_constructor o (λ arguments. has_part_along n (family_shape n f) part arguments (length arguments) t) ≡ true → Leads t b
      go None e h = absurd (false≢true h)
      go (Some s) e h = from-whole s e h

  leads-within : (room : ℕ) (t b : Term) (is : List Term) → height t ≤ room → length is ≡ k → HaveParameters n f ps t → has_part n (family_shape n f) part t ≡ true → Converts S b (all_at is t) → Leads t b
  leads-within zero t b is low indices own h value = leads-step t b is indices own h value (λ u b' js lt. absurd (omega arith))
  leads-within (suc room) t b is low indices own h value = leads-step t b is indices own h value (λ u b' js lt. leads-within room u b' js (omega arith))

pub path-computes : PathComputes
path-computes S n f m below aux rec all has rec_body all_body ps P s params part t b is indices own strict value =
    leads-within S n f m below aux rec all has rec_body all_body ps P s params part (height t) t b is (omega arith) indices own (part-found n f part strict) value
