-- How strict parts are found: the recursive arguments of a constructor, from the left, and each before those inside it.
use Rattle.std.specs.Prelude.{ℕ, zero, suc, ◌+◌, Bool, true, false, ◌&&◌, ◌||◌, ◌==◌, if◌then◌else◌, List, length, Option, Some, None, option_and_then, slice_get}
use native.Mathlib.Decide.{ℕ_discrete}
use Rattle.theory.specs.Terms.{Term, Term-discrete, App, Con}
use Rattle.theory.specs.Spines.{head_of, spine_of}
use Rattle.core_sig.specs.Shapes.{ArgumentShape, ConstructorShape, Shape, by_kind}

-- the terms are syntactically equal
abbrev pub same : Term → Term → Bool
same a b = elim (Term-discrete ℕ_discrete a b) [ yes e ↦ true | no e ↦ false ]

-- the term is r at so many arguments
abbrev pub is_applied : (r : Term) (count : ℕ) → Term → Bool
is_applied r zero t = same t r
is_applied r (suc count) (App g a) = is_applied r count g
is_applied r (suc count) _ = false

-- the number of a constructor of family n
abbrev pub constructor_number : (n : ℕ) → Term → Option ℕ
constructor_number n (Con g number) = if g == n then Some number else None
constructor_number n _ = None

-- the constructor, where so many arguments are all that it takes
abbrev pub if_full : (f : Shape) (count : ℕ) → ConstructorShape → Option ConstructorShape
if_full f count c = if count == length f.parameters + length c.arguments then Some c else None

-- the constructor at the head of a term of family n, where it has all its arguments
abbrev pub constructor_of : (n : ℕ) (f : Shape) → Term → Option ConstructorShape
constructor_of n f t =
    option_and_then (if_full f (length (spine_of t))) (option_and_then (slice_get f.constructors) (constructor_number n (head_of t)))

-- one thing for a recursive argument, from its number of inner arguments and its type, and another for any other
abbrev pub if_recursive : {B : Type 0} → Option ArgumentShape → B → (ℕ → Term → B) → B
if_recursive None other go = other
if_recursive (Some a) other go = by_kind a.kind other (λ count. go count a.type)

-- `part` is r, an argument, at its inner arguments, or is inside r
abbrev pub is_at : (part r : Term) → Option ArgumentShape → (inside : Bool) → Bool
is_at part r argument inside = if_recursive argument false (λ count type. is_applied r count part || ((count == 0) && inside))

-- a constructor's arguments are tested, where there is one
abbrev pub in_constructor : Option ConstructorShape → (List ArgumentShape → Bool) → Bool
in_constructor None test = false
in_constructor (Some c) test = test c.arguments

-- `part` is a strict part among the first `at` arguments of a constructor, the last of which are in t
abbrev pub has_part_along : (n : ℕ) (f : Shape) (part : Term) → List ArgumentShape → (at : ℕ) → Term → Bool
has_part_along n f part arguments (suc at) (App g r) =
    has_part_along n f part arguments at g
    || is_at part r (slice_get arguments at)
    (in_constructor (constructor_of n f r) (λ inner. has_part_along n f part inner (length inner) r))
has_part_along n f part arguments _ _ = false

-- `part` is a strict part of a term of family n
abbrev pub has_part : (n : ℕ) (f : Shape) (part : Term) → Term → Bool
has_part n f part t = in_constructor (constructor_of n f t) (λ arguments. has_part_along n f part arguments (length arguments) t)
