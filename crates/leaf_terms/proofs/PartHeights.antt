-- A path to a strict part holds the part itself: it is no lower.
use Rattle.std.proofs.Common.{◌≡◌, ℕ, zero, suc, ◌+◌, ◌-◌, ◌≤◌, ◌==◌, ◌&&◌, ◌||◌, Bool, true, false, if◌then◌else◌, Option, Some, None, List, [], ◌∷◌, ◌++◌, length, map, take, drop, slice_get, refl, sym, ap, ap₂, ◌∙◌, subst as transport, arith, append_assoc}
use Rattle.std.proofs.lemmas.Bool.{true≢false}
use Rattle.std.proofs.lemmas.List.{length-append, append-nil}
use Rattle.theory.specs.Terms.{Term, App, height}
use Rattle.theory.specs.Substitutions.{inst, fill}
use Rattle.theory.specs.Spines.{spine_of}
use Rattle.theory.specs.Telescopes.{applied}
use Rattle.theory.specs.Eliminators.{no_variable}
use Rattle.theory.proofs.Instantiation.{inst-applied}
use Rattle.core_terms.specs.Levels.{variable, run}
use Rattle.core_sig.specs.Meanings.{behind}
use Rattle.core_sig.specs.Shapes.{ArgumentShape, ConstructorShape, by_kind}
use Rattle.core_sig.specs.declared.family.ArgKind.{ArgKind}
use Rattle.core_sig.specs.declared.family.ArgKind.TheVariants.{Plain, Recursive}
use Rattle.core_sig.proofs.Arguments.{spine_of-applied}
use Rattle.case_below_gen.specs.PartTests.{constructor_of, has_part, has_part_along, if_recursive, in_constructor, is_applied, is_at}
use Rattle.case_below_gen.specs.Paths.{Descent, last_arguments, path_along, path_of, step_to, step_values, with_arguments}
use Rattle.case_below_gen.specs.declared.sides.Side.TheVariants.{First, Second}
use Rattle.case_below_gen.proofs.Filling.{run-filled, variable-filled}
use Rattle.case_below_gen.proofs.PartTests.{and-tells, applied-tells}
use Rattle.case_below_gen.proofs.PathBounds.{whole-counted}

-- ---- lists

drop-first : (k : ℕ) (xs ys : List Term) → k ≤ length xs → drop k (xs ++ ys) ≡ drop k xs ++ ys
drop-first zero xs ys le = refl
drop-first (suc k) [] ys le = absurd (omega arith)
drop-first (suc k) (x ∷ xs) ys le = drop-first k xs ys (omega arith)

drop-all : (xs ys : List Term) → drop (length xs) (xs ++ ys) ≡ ys
drop-all [] ys = refl
drop-all (x ∷ xs) ys = drop-all xs ys

length-first : (k : ℕ) (xs : List Term) → k ≤ length xs → length (take k xs) ≡ k
length-first zero xs le = refl
length-first (suc k) [] le = absurd (omega arith)
length-first (suc k) (x ∷ xs) le = ap suc (length-first k xs (omega arith))

length-rest : (k : ℕ) (xs : List Term) → k ≤ length xs → length (drop k xs) + k ≡ length xs
length-rest zero xs le = omega arith
length-rest (suc k) [] le = absurd (omega arith)
length-rest (suc k) (x ∷ xs) le = let rest = length-rest k xs (omega arith) in omega arith

-- the last arguments of a term at arguments
last-of : (r : Term) (inner : List Term) → last_arguments (length inner) (applied r inner) ≡ inner
last-of r inner =
    let whole = spine_of-applied r inner in
    let long = length-append (spine_of r) inner in
    let place : length (spine_of r ++ inner) - length inner ≡ length (spine_of r) = omega arith in
    ap (λ us. drop (length us - length inner) us) whole ∙ (ap (λ k. drop k (spine_of r ++ inner)) place ∙ drop-all (spine_of r) inner)

-- ---- a step that ends at the part

-- argument `at` of a constructor with all its arguments, which is r
pub record StandsThere (d : Descent) (whole : Term) (arguments : List ArgumentShape) (at : ℕ) (r : Term) : Type 0 where
  pub before : List Term
  pub after : List Term
  pub spine : spine_of whole ≡ before ++ r ∷ after
  pub place : length before ≡ length d.shape.parameters + at
  pub counted : length (spine_of whole) ≡ length d.shape.parameters + length arguments

module _ (d : Descent) (whole : Term) (arguments : List ArgumentShape) (at : ℕ) (r : Term) (is : StandsThere d whole arguments at r) (count : ℕ) (end : Term) (inner : List Term)
    (inner_counted : length inner ≡ count) (b : Term) where
  first : List Term
  first = take (length d.shape.parameters) (spine_of whole) ++ d.motive ∷ drop (length d.shape.parameters) is.before

  values : step_values d whole b inner ≡ first ++ r ∷ (is.after ++ b ∷ inner)
  unfolding first
  values =
      let low : length d.shape.parameters ≤ length is.before = (let place = is.place in omega arith) in
      ap (λ rest. take (length d.shape.parameters) (spine_of whole) ++ d.motive ∷ (rest ++ b ∷ inner))
      (ap (drop (length d.shape.parameters)) is.spine ∙ drop-first (length d.shape.parameters) is.before (r ∷ is.after) low)
      ∙ (ap (λ rest. take (length d.shape.parameters) (spine_of whole) ++ d.motive ∷ rest) (append_assoc (drop (length d.shape.parameters) is.before) (r ∷ is.after) (b ∷ inner))
      ∙ sym (append_assoc (take (length d.shape.parameters) (spine_of whole)) (d.motive ∷ drop (length d.shape.parameters) is.before) (r ∷ (is.after ++ b ∷ inner))))

  whole_long : length d.shape.parameters ≤ length (spine_of whole)
  whole_long = let counted = is.counted in omega arith

  first_long : length first ≡ length d.shape.parameters + 1 + at
  unfolding first
  first_long =
      let low : length d.shape.parameters ≤ length is.before = (let place = is.place in omega arith) in
      let sum = length-append (take (length d.shape.parameters) (spine_of whole)) (d.motive ∷ drop (length d.shape.parameters) is.before) in
      let one = length-first (length d.shape.parameters) (spine_of whole) whole_long in
      let other = length-rest (length d.shape.parameters) is.before low in
      let place = is.place in
      omega arith

  values_long : length (step_values d whole b inner) ≡ length d.shape.parameters + 1 + length arguments + 1 + count
  values_long =
      let sum = length-append (take (length d.shape.parameters) (spine_of whole)) (d.motive ∷ (drop (length d.shape.parameters) (spine_of whole) ++ b ∷ inner)) in
      let rest = length-append (drop (length d.shape.parameters) (spine_of whole)) (b ∷ inner) in
      let one = length-first (length d.shape.parameters) (spine_of whole) whole_long in
      let other = length-rest (length d.shape.parameters) (spine_of whole) whole_long in
      let counted = is.counted in
      omega arith

  -- the values before the inner arguments
  near : step_values d whole b inner ≡ (take (length d.shape.parameters) (spine_of whole) ++ d.motive ∷ (drop (length d.shape.parameters) (spine_of whole) ++ b ∷ [])) ++ (inner ++ [])
  near =
      ap (λ rest. take (length d.shape.parameters) (spine_of whole) ++ d.motive ∷ rest)
      (ap (λ last. drop (length d.shape.parameters) (spine_of whole) ++ b ∷ last) (sym (append-nil inner))
      ∙ sym (append_assoc (drop (length d.shape.parameters) (spine_of whole)) (b ∷ []) (inner ++ [])))
      ∙ sym (append_assoc (take (length d.shape.parameters) (spine_of whole)) (d.motive ∷ (drop (length d.shape.parameters) (spine_of whole) ++ b ∷ [])) (inner ++ []))

  near_long : length d.shape.parameters + 1 + length arguments + 1
      ≡ length (take (length d.shape.parameters) (spine_of whole) ++ d.motive ∷ (drop (length d.shape.parameters) (spine_of whole) ++ b ∷ []))
  near_long =
      let sum = length-append (take (length d.shape.parameters) (spine_of whole)) (d.motive ∷ (drop (length d.shape.parameters) (spine_of whole) ++ b ∷ [])) in
      let rest = length-append (drop (length d.shape.parameters) (spine_of whole)) (b ∷ []) in
      let one = length-first (length d.shape.parameters) (spine_of whole) whole_long in
      let other = length-rest (length d.shape.parameters) (spine_of whole) whole_long in
      let counted = is.counted in
      omega arith

  pub step-part : height (applied r inner) ≤ height (step_to d First whole arguments at count end inner b)
  unfolding first
  step-part =
      let σ = fill no_variable (step_values d whole b inner) in
      let sum : length d.shape.parameters + 1 + length arguments + 1 + count ≡ length (step_values d whole b inner) = sym values_long in
      let argument : inst σ (variable (length d.shape.parameters + 1 + length arguments + 1 + count) (length d.shape.parameters + 1 + at)) ≡ r =
      variable-filled no_variable (step_values d whole b inner) first r (is.after ++ b ∷ inner) (length d.shape.parameters + 1 + length arguments + 1 + count) (length d.shape.parameters + 1 + at) values sum (sym first_long) in
      let others : map (inst σ) (run (length d.shape.parameters + 1 + length arguments + 1 + count) (length d.shape.parameters + 1 + length arguments + 1) count) ≡ inner =
      run-filled no_variable (step_values d whole b inner) (take (length d.shape.parameters) (spine_of whole) ++ d.motive ∷ (drop (length d.shape.parameters) (spine_of whole) ++ b ∷ [])) inner []
      (length d.shape.parameters + 1 + length arguments + 1 + count) (length d.shape.parameters + 1 + length arguments + 1) count near sum near_long (sym inner_counted) in
      let held =
      inst-applied σ (variable (length d.shape.parameters + 1 + length arguments + 1 + count) (length d.shape.parameters + 1 + at))
      (run (length d.shape.parameters + 1 + length arguments + 1 + count) (length d.shape.parameters + 1 + length arguments + 1) count)
      ∙ ap₂ applied argument others in
      within (step_to d First whole arguments at count end inner b) _ _ _ _ _ _ refl _ _ refl (applied r inner) held
    where
      -- the part is an argument of the first type of the outermost projection
      within : (path head A B C D v : Term) → path ≡ App (App (App (App (App head A) B) C) D) v → (f a : Term) → A ≡ App f a → (part : Term) → a ≡ part → height part ≤ height path
      within path head A B C D v e f a is part same =
          let whole = ap height e in let first = ap height is in let last = ap height same in omega arith

-- ---- paths

chosen : (test : Bool) (n : ℕ) (x y : Term) → (test ≡ true → n ≤ height x) → (test ≡ false → n ≤ height y) → n ≤ height (if test then x else y)
chosen true n x y h k = h refl
chosen false n x y h k = k refl

along-part : (d : Descent) (whole : Term) (arguments : List ArgumentShape) (at : ℕ) (t b : Term) (after : List Term) → spine_of whole ≡ spine_of t ++ after
    → length (spine_of whole) ≡ length d.shape.parameters + length arguments → length (spine_of t) ≡ length d.shape.parameters + at
    → has_part_along d.family d.shape d.part arguments at t ≡ true → height d.part ≤ height (path_along d whole arguments at t b)
along-part d whole arguments (suc at) (App g r) b after spine whole_counted counted h =
    chosen (has_part_along d.family d.shape d.part arguments at g) (height d.part) (path_along d whole arguments at g b) _
    (λ front. along-part d whole arguments at g b (r ∷ after) (spine ∙ append_assoc (spine_of g) (r ∷ []) after) whole_counted g_counted front)
    (λ other.
    last (slice_get arguments at) (rest (has_part_along d.family d.shape d.part arguments at g) _ other h)
    (λ con e x.
    along-part d r con.arguments (length con.arguments) r x [] (sym (append-nil (spine_of r))) (whole-counted d.family d.shape r con e) (whole-counted d.family d.shape r con e)))
  where
    g_counted : length (spine_of g) ≡ length d.shape.parameters + at
    g_counted = let sum = length-append (spine_of g) (r ∷ []) in omega arith

    there : StandsThere d whole arguments at r
    there = record { before = spine_of g; after = after; spine = spine ∙ append_assoc (spine_of g) (r ∷ []) after; place = g_counted; counted = whole_counted }

    rest : (a c : Bool) → a ≡ false → (a || c) ≡ true → c ≡ true
    rest false c e k = k
    rest true c e k = absurd (true≢false e)

    onward : (o : Option ConstructorShape) → constructor_of d.family d.shape r ≡ o → (b : Term)
        → ((con : ConstructorShape) → constructor_of d.family d.shape r ≡ Some con → has_part_along d.family d.shape d.part con.arguments (length con.arguments) r ≡ true
        → height d.part ≤ height (path_along d r con.arguments (length con.arguments) r b))
        → in_constructor o (λ inner. has_part_along d.family d.shape d.part inner (length inner) r) ≡ true
        → height d.part ≤ height (with_arguments o b (λ inner. path_along d r inner (length inner) r b))
    onward None e b go k = absurd (true≢false (sym k))
    onward (Some con) e b go k = go con e k

    last : (o : Option ArgumentShape) → is_at d.part r o (has_part d.family d.shape d.part r) ≡ true
        → ((con : ConstructorShape) → constructor_of d.family d.shape r ≡ Some con → (x : Term) → has_part_along d.family d.shape d.part con.arguments (length con.arguments) r ≡ true
        → height d.part ≤ height (path_along d r con.arguments (length con.arguments) r x))
        → height d.part
        ≤ height
        (if_recursive o b (λ count type.
        if is_applied r count d.part
        then step_to d First whole arguments at count (behind count type) (last_arguments count d.part) b
        else with_arguments (constructor_of d.family d.shape r) (step_to d Second whole arguments at 0 type [] b)
        (λ inner. path_along d r inner (length inner) r (step_to d Second whole arguments at 0 type [] b))))
    last None k go = absurd (true≢false (sym k))
    last (Some a) k go = kinds a.kind a.type k
      where
        kinds : (kind : ArgKind) (type : Term) → by_kind kind false (λ count. is_applied r count d.part || ((count == 0) && has_part d.family d.shape d.part r)) ≡ true
            → height d.part
            ≤ height
            (by_kind kind b (λ count.
            if is_applied r count d.part
            then step_to d First whole arguments at count (behind count type) (last_arguments count d.part) b
            else with_arguments (constructor_of d.family d.shape r) (step_to d Second whole arguments at 0 type [] b)
            (λ inner. path_along d r inner (length inner) r (step_to d Second whole arguments at 0 type [] b))))
        kinds Plain type k = absurd (true≢false (sym k))
        kinds (Recursive count) type k =
            chosen (is_applied r count d.part) (height d.part) (step_to d First whole arguments at count (behind count type) (last_arguments count d.part) b) _
            (λ here.
            let part = applied-tells r count d.part here in
            let inner : last_arguments count d.part ≡ part.inner =
            ap₂ (λ n u. last_arguments n u) (sym part.counted) part.form ∙ last-of r part.inner in
            transport (λ u. height u ≤ height (step_to d First whole arguments at count (behind count type) (last_arguments count d.part) b)) (sym part.form)
            (transport (λ us. height (applied r part.inner) ≤ height (step_to d First whole arguments at count (behind count type) us b)) (sym inner)
            (step-part d whole arguments at r there count (behind count type) part.inner part.counted b)))
            (λ other.
            onward (constructor_of d.family d.shape r) refl (step_to d Second whole arguments at 0 type [] b)
            (λ con e. go con e (step_to d Second whole arguments at 0 type [] b))
            (and-tells (count == 0) (has_part d.family d.shape d.part r) (rest (is_applied r count d.part) _ other k)).1)
along-part d whole arguments zero t b after spine whole_counted counted h = absurd (true≢false (sym h))
along-part d whole arguments (suc at) t b after spine whole_counted counted h = absurd (true≢false (sym h))

-- the path to a strict part is no lower than the part
pub path-part : (d : Descent) (t b : Term) → has_part d.family d.shape d.part t ≡ true → height d.part ≤ height (path_of d t b)
path-part d t b h = by (constructor_of d.family d.shape t) refl h
  where
    by : (o : Option ConstructorShape) → constructor_of d.family d.shape t ≡ o
        → in_constructor o (λ arguments. has_part_along d.family d.shape d.part arguments (length arguments) t) ≡ true
        → height d.part ≤ height (with_arguments o b (λ arguments. path_along d t arguments (length arguments) t b))
    by None e k = absurd (true≢false (sym k))
    by (Some con) e k =
        along-part d t con.arguments (length con.arguments) t b [] (sym (append-nil (spine_of t))) (whole-counted d.family d.shape t con e) (whole-counted d.family d.shape t con e) k
