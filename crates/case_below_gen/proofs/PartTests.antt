-- The test for strict parts decides the relation.
use native.Mathlib.Decide.{ℕ_discrete}
use Rattle.std.proofs.Common.{◌≡◌, ◌≢◌, ◌⊎◌, ℕ, zero, suc, ◌+◌, ◌<◌, ◌≤◌, Bool, true, false, ◌&&◌, ◌||◌, ◌==◌, IsTrue, if◌then◌else◌, List, [], ◌∷◌, ◌++◌, length, Option, Some, None, option_map, slice_get, inl, inr, refl, ap, ap₂, sym, ◌∙◌, subst, arith}
use Rattle.std.specs.Prelude.{option_and_then, ◌↔◌}
use Rattle.std.proofs.lemmas.Bool.{false≢true}
use Rattle.std.proofs.lemmas.Bool.Decides.{Decides-eqb}
use Rattle.std.proofs.lemmas.List.{length-append}
use Rattle.std.proofs.lemmas.Option.{slice_get-map, slice_get_within, none-some}
use Rattle.theory.specs.Terms.{Term, Term-discrete, height}
use Rattle.theory.specs.Terms.Term.{App, Con}
use Rattle.theory.specs.Telescopes.{applied}
use Rattle.theory.specs.Spines.{head_of, spine_of}
use Rattle.theory.specs.Families.{Argument, Constructor, Family}
use Rattle.theory.proofs.Lists.{slice_get-last, slice_get-append, slice_get-longer, slice_get-pushed, some_is}
use Rattle.core_terms.proofs.Builders.{applied-push}
use Rattle.core_sig.specs.FamilyShapes.{kind_of, argument_shapes, constructor_shape, family_shape}
use Rattle.core_sig.specs.Shapes.{ArgumentShape, ConstructorShape, Shape, by_kind, shape_of}
use Rattle.theory.specs.Signatures.{FamilyOf}
use Rattle.core_sig.proofs.ShapesOfCode.{shape-is}
use Rattle.core_sig.specs.Kinds.{HasKinds}
use Rattle.core_sig.specs.Meanings.{family_of}
use Rattle.core_sig.specs.declared.family.Family.{Family as CodeFamily}
use Rattle.core_sig.specs.declared.family.ArgKind.{ArgKind}
use Rattle.core_sig.specs.declared.family.ArgKind.TheVariants.{Plain, Recursive}
use Rattle.case_below_gen.specs.PartTests.{same, is_applied, constructor_number, if_full, constructor_of, is_at, in_constructor, has_part_along, has_part}
use Rattle.case_below_gen.specs.StrictParts.{IsRecursiveArgument, IsStrictPart}
use Rattle.case_below_gen.specs.StrictParts.IsStrictPart.{itself, inside as within}

-- ---- syntactic equality

same-tells : (a b : Term) → same a b ≡ true → a ≡ b
same-tells a b h = go (Term-discrete ℕ_discrete a b) h
  where
    go : (d : Dec (a ≡ b)) → (elim d [ yes e ↦ true | no e ↦ false ]) ≡ true → a ≡ b
    go (yes e) h = e
    go (no e) h = absurd (false≢true h)

same-found : (a b : Term) → a ≡ b → same a b ≡ true
same-found a b h = go (Term-discrete ℕ_discrete a b)
  where
    go : (d : Dec (a ≡ b)) → (elim d [ yes e ↦ true | no e ↦ false ]) ≡ true
    go (yes e) = refl
    go (no e) = absurd (e h)

-- r at so many arguments
pub record IsAt (r : Term) (count : ℕ) (t : Term) : Type 0 where
  pub inner : List Term
  pub counted : length inner ≡ count
  pub form : t ≡ applied r inner

pub applied-tells : (r : Term) (count : ℕ) (t : Term) → is_applied r count t ≡ true → IsAt r count t
applied-tells r zero t h = record { inner = []; counted = refl; form = same-tells t r h }
applied-tells r (suc count) (App g a) h =
    let front = applied-tells r count g h in
    record {
      inner = front.inner ++ a ∷ [];
      counted = omega (arith, length-append front.inner (a ∷ []), front.counted);
      form = ap (λ f. App f a) front.form ∙ sym (applied-push r front.inner a);
    }
applied-tells r (suc count) _ h = absurd (false≢true h)

applied-found : (h r : Term) (count : ℕ) (inner : List Term) → is_applied r count h ≡ true → is_applied r (count + length inner) (applied h inner) ≡ true
applied-found h r count [] e = ap (λ k. is_applied r k h) (omega arith) ∙ e
applied-found h r count (u ∷ inner) e = ap (λ k. is_applied r k (applied (App h u) inner)) (omega arith) ∙ applied-found (App h u) r (suc count) inner e

pub or-tells : (a b : Bool) → (a || b) ≡ true → (a ≡ true) ⊎ (b ≡ true)
or-tells true b h = inl refl
or-tells false b h = inr h

or-left : (a b : Bool) → a ≡ true → (a || b) ≡ true
or-left true b h = refl
or-left false b h = absurd (false≢true h)

or-right : (a b : Bool) → b ≡ true → (a || b) ≡ true
or-right true b h = refl
or-right false b h = h

pub and-tells : (a b : Bool) → (a && b) ≡ true → (a ≡ true) × (b ≡ true)
and-tells true b h = (refl, h)
and-tells false b h = absurd (false≢true h)

-- ---- constructors with all their arguments

number-tells : (n number : ℕ) (t : Term) → constructor_number n t ≡ Some number → t ≡ Con n number
number-tells n number (Con g c) h = go (g == n) refl h
  where
    go : (b : Bool) → (g == n) ≡ b → (if b then Some c else None) ≡ Some number → Con g c ≡ Con n number
    go true e some = ap₂ Con ((Decides-eqb g n).0 e) (some_is some)
    go false e some = absurd (none-some number some)
number-tells n number _ h = absurd (none-some number h)

number-found : (n number : ℕ) → constructor_number n (Con n number) ≡ Some number
number-found n number = ap (λ b. if b then Some number else None) ((Decides-eqb n n).1 refl)

-- a term is a constructor with all its arguments
pub record IsWhole (n : ℕ) (f : Family) (t : Term) (s : ConstructorShape) : Type 0 where
  pub number : ℕ
  pub constructor : Constructor
  pub head : head_of t ≡ Con n number
  pub known : slice_get f.constructors number ≡ Some constructor
  pub whole : length (spine_of t) ≡ length f.parameters + length constructor.arguments
  pub shape : s ≡ constructor_shape n f constructor

length-shapes : (n : ℕ) (f : Family) (c : Constructor) → length (constructor_shape n f c).arguments ≡ length c.arguments
length-shapes n f c = go 0 c.arguments
  where
    go : (at : ℕ) (arguments : List _) → length (argument_shapes n f at arguments) ≡ length arguments
    go at [] = refl
    go at (a ∷ arguments) = ap suc (go (at + 1) arguments)

pub whole-tells : (n : ℕ) (f : Family) (t : Term) (s : ConstructorShape) → constructor_of n (family_shape n f) t ≡ Some s → IsWhole n f t s
whole-tells n f t s h = from-number (constructor_number n (head_of t)) refl h
  where
    F : Shape
    F = family_shape n f

    from-full : (number : ℕ) → head_of t ≡ Con n number → (o : Option Constructor) → slice_get f.constructors number ≡ o → option_and_then (if_full F (length (spine_of t))) (option_map (constructor_shape n f) o) ≡ Some s → IsWhole n f t s
    from-full number head None at some = absurd (none-some s some)
    from-full number head (Some c) at some = go (length (spine_of t) == length f.parameters + length (constructor_shape n f c).arguments) refl some
      where
        go : (b : Bool) → (length (spine_of t) == length f.parameters + length (constructor_shape n f c).arguments) ≡ b → (if b then Some (constructor_shape n f c) else None) ≡ Some s → IsWhole n f t s
        go true e some =
            record {
              number = number;
              constructor = c;
              head = head;
              known = at;
              whole = (Decides-eqb (length (spine_of t)) (length f.parameters + length (constructor_shape n f c).arguments)).0 e ∙ ap (λ k. length f.parameters + k) (length-shapes n f c);
              shape = sym (some_is some);
            }
        go false e some = absurd (none-some s some)

    from-number : (o : Option ℕ) → constructor_number n (head_of t) ≡ o → option_and_then (if_full F (length (spine_of t))) (option_and_then (slice_get F.constructors) o) ≡ Some s → IsWhole n f t s
    from-number None e some = absurd (none-some s some)
    from-number (Some number) e some =
        from-full number (number-tells n number (head_of t) e) (slice_get f.constructors number) refl
        (ap (option_and_then (if_full F (length (spine_of t)))) (sym (slice_get-map (constructor_shape n f) f.constructors number)) ∙ some)

whole-found : (n : ℕ) (f : Family) (t : Term) (number : ℕ) (c : Constructor) → head_of t ≡ Con n number → slice_get f.constructors number ≡ Some c → length (spine_of t) ≡ length f.parameters + length c.arguments
    → constructor_of n (family_shape n f) t ≡ Some (constructor_shape n f c)
whole-found n f t number c head known whole =
    ap (λ o. option_and_then (if_full F (length (spine_of t))) (option_and_then (slice_get F.constructors) o)) (ap (constructor_number n) head ∙ number-found n number)
    ∙ (ap (option_and_then (if_full F (length (spine_of t)))) (slice_get-map (constructor_shape n f) f.constructors number ∙ ap (option_map (constructor_shape n f)) known)
    ∙ ap (λ b. if b then Some (constructor_shape n f c) else None)
    ((Decides-eqb (length (spine_of t)) (length f.parameters + length (constructor_shape n f c).arguments)).1 (whole ∙ ap (λ k. length f.parameters + k) (sym (length-shapes n f c)))))
  where
    F : Shape
    F = family_shape n f

-- ---- along a spine

-- one of the first `at` arguments in the spine t has the part
record HasAt (n : ℕ) (f : Family) (part : Term) (arguments : List ArgumentShape) (at : ℕ) (t : Term) : Type 0 where
  place : ℕ
  r : Term
  before : place < at
  argument : slice_get (spine_of t) (length f.parameters + place) ≡ Some r
  holds : is_at part r (slice_get arguments place) (has_part n (family_shape n f) part r) ≡ true

along-tells : (n : ℕ) (f : Family) (part : Term) (arguments : List ArgumentShape) (at : ℕ) (t : Term) → length (spine_of t) ≡ length f.parameters + at → has_part_along n (family_shape n f) part arguments at t ≡ true → HasAt n f part arguments at t
along-tells n f part arguments (suc at) (App g r) counted h =
    elim (or-tells (has_part_along n (family_shape n f) part arguments at g) (is_at part r (slice_get arguments at) (has_part n (family_shape n f) part r)) h) [
      | inl front ↦ let found = along-tells n f part arguments at g (omega (arith, length-append (spine_of g) (r ∷ []), counted)) front in
          record { place = found.place; r = found.r; before = (let lt = found.before in omega arith); argument = slice_get-longer (spine_of g) (r ∷ []) (length f.parameters + found.place) found.r found.argument; holds = found.holds }
      | inr last ↦ record {
        place = at;
        r = r;
        before = omega arith;
        argument = ap (slice_get (spine_of g ++ r ∷ [])) (omega (arith, length-append (spine_of g) (r ∷ []), counted)) ∙ slice_get-last (spine_of g) r;
        holds = last;
      }
    ]
along-tells n f part arguments zero t counted h = absurd (false≢true h)
along-tells n f part arguments (suc at) t counted h = absurd (false≢true h)

along-found : (n : ℕ) (f : Family) (part : Term) (arguments : List ArgumentShape) (at : ℕ) (t : Term) → length (spine_of t) ≡ length f.parameters + at → HasAt n f part arguments at t → has_part_along n (family_shape n f) part arguments at t ≡ true
along-found n f part arguments (suc at) (App g r) counted has = go (has.place == at) refl (along-found n f part arguments at g front)
  where
    front : length (spine_of g) ≡ length f.parameters + at
    front = omega (arith, length-append (spine_of g) (r ∷ []), counted)

    go : (b : Bool) → (has.place == at) ≡ b → (HasAt n f part arguments at g → has_part_along n (family_shape n f) part arguments at g ≡ true) → (has_part_along n (family_shape n f) part arguments at g || is_at part r (slice_get arguments at) (has_part n (family_shape n f) part r)) ≡ true
    go true e before =
        let here : has.place ≡ at = (Decides-eqb has.place at).0 e in
        let same : r ≡ has.r = some_is (sym (slice_get-last (spine_of g) r) ∙ (ap (slice_get (spine_of g ++ r ∷ [])) (omega (arith, front, here)) ∙ has.argument)) in
        or-right (has_part_along n (family_shape n f) part arguments at g) _
        (subst (λ u. is_at part u (slice_get arguments at) (has_part n (family_shape n f) part u) ≡ true) (sym same)
        (subst (λ k. is_at part has.r (slice_get arguments k) (has_part n (family_shape n f) part has.r) ≡ true) here has.holds))
    go false e before =
        let other : has.place ≢ at = (λ same. false≢true (sym e ∙ (Decides-eqb has.place at).1 same)) in
        let lt = has.before in
        let low : has.place < at = grind arith in
        or-left _ _ (before (record { place = has.place; r = has.r; before = low; argument = sym (slice_get-append (spine_of g) (r ∷ []) (length f.parameters + has.place) (omega (arith, front, low))) ∙ has.argument; holds = has.holds }))
along-found n f part arguments zero t counted has = let lt = has.before in absurd (omega arith)
along-found n f part arguments (suc at) t counted has = absurd (omega arith)

-- ---- kinds

abbrev pub is_at_kind : (part r : Term) → Option ArgKind → (inside : Bool) → Bool
is_at_kind part r None inside = false
is_at_kind part r (Some kind) inside = by_kind kind false (λ count. is_applied r count part || ((count == 0) && inside))

at-kind : (part r : Term) (argument : Option ArgumentShape) (inside : Bool) → is_at part r argument inside ≡ is_at_kind part r (option_map (λ a. a.kind) argument) inside
at-kind part r None inside = refl
at-kind part r (Some a) inside = refl

kinds-are : (n : ℕ) (f : Family) (at place : ℕ) (arguments : List Argument) → option_map (λ a. a.kind) (slice_get (argument_shapes n f at arguments) place) ≡ option_map kind_of (slice_get arguments place)
kinds-are n f at place [] = refl
kinds-are n f at zero (a ∷ arguments) = refl
kinds-are n f at (suc place) (a ∷ arguments) = kinds-are n f (at + 1) place arguments

-- an argument is lower than the term
pub argument-low : (t r : Term) (place : ℕ) → slice_get (spine_of t) place ≡ Some r → height r < height t
argument-low (App g a) r place at = elim (slice_get-pushed (spine_of g) a place r at) [
  | inl front ↦ let low = argument-low g r place front in omega arith
  | inr (last, is) ↦ let same = ap height is in omega arith
]
argument-low _ r place at = absurd (none-some r at)

-- ---- the test says, and finds

-- the test is right at each lower term
abbrev Known : (n : ℕ) (f : Family) (part t : Term) → Type 0
Known n f part t = (u : Term) → height u < height t → has_part n (family_shape n f) part u ≡ true → IsStrictPart n f part u

kind-tells : (n : ℕ) (f : Family) (part t r : Term) (number place : ℕ) (c : Constructor) → Known n f part t → head_of t ≡ Con n number → slice_get f.constructors number ≡ Some c → length (spine_of t) ≡ length f.parameters + length c.arguments
    → slice_get (spine_of t) (length f.parameters + place) ≡ Some r → (o : Option ArgKind) → option_map kind_of (slice_get c.arguments place) ≡ o → is_at_kind part r o (has_part n (family_shape n f) part r) ≡ true → IsStrictPart n f part t
kind-tells n f part t r number place c known head there whole argument None kind holds = absurd (false≢true holds)
kind-tells n f part t r number place c known head there whole argument (Some Plain) kind holds = absurd (false≢true holds)
kind-tells n f part t r number place c known head there whole argument (Some (Recursive count)) kind holds =
    elim (or-tells (is_applied r count part) ((count == 0) && has_part n (family_shape n f) part r) holds) [
      | inl here ↦ let found = applied-tells r count part here in
          itself found.inner (is-recursive (length found.inner) (kind ∙ ap (λ k. Some (Recursive k)) (sym found.counted))) found.form
      | inr behind ↦ let parts = and-tells (count == 0) (has_part n (family_shape n f) part r) behind in
          within (is-recursive 0 (kind ∙ ap (λ k. Some (Recursive k)) ((Decides-eqb count 0).0 parts.0))) (known r (argument-low t r (length f.parameters + place) argument) parts.1)
    ]
  where
    is-recursive : (k : ℕ) → option_map kind_of (slice_get c.arguments place) ≡ Some (Recursive k) → IsRecursiveArgument n f t r k
    is-recursive k e = record { number = number; constructor = c; at = place; head = head; known = there; whole = whole; kind = e; argument = argument }

-- how many arguments the shape has
pub shape-counted : (n : ℕ) (f : Family) (t : Term) (s : ConstructorShape) → (w : IsWhole n f t s) → length (spine_of t) ≡ length f.parameters + length s.arguments
shape-counted n f t s w = w.whole ∙ ap (λ k. length f.parameters + k) (sym (ap (λ c. length c.arguments) w.shape ∙ length-shapes n f w.constructor))

whole-part : (n : ℕ) (f : Family) (part t : Term) (s : ConstructorShape) → Known n f part t → IsWhole n f t s → has_part_along n (family_shape n f) part s.arguments (length s.arguments) t ≡ true → IsStrictPart n f part t
whole-part n f part t s known w along =
    kind-tells n f part t found.r w.number found.place w.constructor known w.head w.known w.whole found.argument (option_map kind_of (slice_get w.constructor.arguments found.place)) refl
    (sym (at-kind part found.r (slice_get (argument_shapes n f 0 w.constructor.arguments) found.place) behind ∙ ap (λ o. is_at_kind part found.r o behind) (kinds-are n f 0 found.place w.constructor.arguments))
    ∙ (ap (λ c. is_at part found.r (slice_get c.arguments found.place) behind) (sym w.shape) ∙ found.holds))
  where
    found : HasAt n f part s.arguments (length s.arguments) t
    found = along-tells n f part s.arguments (length s.arguments) t (shape-counted n f t s w) along

    behind : Bool
    behind = has_part n (family_shape n f) part found.r

part-tells : (n : ℕ) (f : Family) (part t : Term) → Known n f part t → has_part n (family_shape n f) part t ≡ true → IsStrictPart n f part t
part-tells n f part t known h = go (constructor_of n (family_shape n f) t) refl h
  where
    go : (o : Option ConstructorShape) → constructor_of n (family_shape n f) t ≡ o → in_constructor o (λ arguments. has_part_along n (family_shape n f) part arguments (length arguments) t) ≡ true → IsStrictPart n f part t
    go None e h = absurd (false≢true h)
    go (Some s) e h = whole-part n f part t s known (whole-tells n f t s e) h

tells-within : (n : ℕ) (f : Family) (part : Term) (room : ℕ) (t : Term) → height t ≤ room → has_part n (family_shape n f) part t ≡ true → IsStrictPart n f part t
tells-within n f part zero t low h = part-tells n f part t (λ u lt. absurd (omega arith)) h
tells-within n f part (suc room) t low h = part-tells n f part t (λ u lt. tells-within n f part room u (omega arith)) h

-- where a recursive argument passes the test, the term does
argument-found : (n : ℕ) (f : Family) (part t r : Term) (count : ℕ) → IsRecursiveArgument n f t r count → (is_applied r count part || ((count == 0) && has_part n (family_shape n f) part r)) ≡ true → has_part n (family_shape n f) part t ≡ true
argument-found n f part t r count is holds =
    ap (λ o. in_constructor o (λ arguments. has_part_along n (family_shape n f) part arguments (length arguments) t)) (whole-found n f t is.number is.constructor is.head is.known is.whole)
    ∙ along-found n f part shapes (length shapes) t (is.whole ∙ ap (λ k. length f.parameters + k) (sym (length-shapes n f is.constructor)))
    (record {
      place = is.at;
      r = r;
      before = (let lt = slice_get_within (spine_of t) (length f.parameters + is.at) r is.argument in let all = is.whole in let count = length-shapes n f is.constructor in omega arith);
      argument = is.argument;
      holds = at-kind part r (slice_get shapes is.at) behind ∙ (ap (λ o. is_at_kind part r o behind) (kinds-are n f 0 is.at is.constructor.arguments ∙ is.kind) ∙ holds);
    })
  where
    shapes : List ArgumentShape
    shapes = argument_shapes n f 0 is.constructor.arguments

    behind : Bool
    behind = has_part n (family_shape n f) part r

pub part-found : (n : ℕ) (f : Family) (part : Term) {t : Term} → IsStrictPart n f part t → has_part n (family_shape n f) part t ≡ true
part-found n f part (itself {t} {r} inner is form) =
    argument-found n f part t r (length inner) is
    (or-left (is_applied r (length inner) part) _ (ap (is_applied r (length inner)) form ∙ (ap (λ k. is_applied r k (applied r inner)) none_more ∙ applied-found r r 0 inner (same-found r r refl))))
  where
    none_more : length inner ≡ 0 + length inner
    none_more = omega arith
part-found n f part (within {t} {r} is rest) =
    argument-found n f part t r 0 is (or-right (is_applied r 0 part) _ (part-found n f part rest))

-- the test decides
pub part-decides : (n : ℕ) (f : Family) (part t : Term) → IsTrue (has_part n (family_shape n f) part t) ↔ IsStrictPart n f part t
part-decides n f part t = (λ h. tells-within n f part (height t) t (omega arith) (grind arith), λ is. let e = part-found n f part is in grind arith)

-- also where the family is one that the code holds
pub decides-code : (n : ℕ) (f : Family) (code : CodeFamily) (result : Bool) (part t : Term) → HasKinds n code → Some (FamilyOf (family_of code)) ≡ Some (FamilyOf f) → result ≡ has_part n (shape_of code) part t → IsTrue result ↔ IsStrictPart n f part t
decides-code n f code result part t kinds same is =
    let family : family_of code ≡ f = cc in
    subst (λ g. IsTrue result ↔ IsStrictPart n g part t) family
    (subst (λ b. IsTrue b ↔ IsStrictPart n (family_of code) part t) (sym (is ∙ ap (λ s. has_part n s part t) (sym (shape-is n code kinds)))) (part-decides n (family_of code) part t))
