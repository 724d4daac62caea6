-- Lists of patterns against argument lists: which match, and which are apart.
use Rattle.std.specs.Prelude.{ℕ, Bool, true, false, ◌==◌, ◌&&◌, ◌||◌, cond, Option, Some, None, List, [], ◌∷◌}
use Rattle.theory.specs.Terms.{Term}
use Rattle.theory.specs.Signatures.{Signature}
use Rattle.core_terms.specs.Patterns.{Pat, Bind, Wild, Dot, Con, Absurd, Pats, nil, cons}
use Rattle.unification.specs.Built.{Built, built_of}

-- there are as many patterns as there are others
abbrev pub is_as_long : {A : Type 0} → Pats → List A → Bool
is_as_long nil [] = true
is_as_long (cons pat pats) (a ∷ others) = is_as_long pats others
is_as_long nil (a ∷ others) = false
is_as_long (cons pat pats) [] = false

-- it is constructor `number` of family n
abbrev pub is_constructor : (n number : ℕ) → Built → Bool
is_constructor n number b = (b.n == n) && (b.number == number)

abbrev pub is_there : Option Built → Bool
is_there None = false
is_there (Some b) = true

-- constructor `number` of family n, whose arguments after the parameters match
abbrev pub matches_built : (n number : ℕ) → (match : List Term → Bool) → Option Built → Bool
matches_built n number match None = false
matches_built n number match (Some b) = is_constructor n number b && match b.arguments

abbrev mutual
  -- A variable, a wildcard and a forced term match every term. A constructor matches itself with all its arguments, where those
  -- after the parameters match. The absurd pattern matches no term.
  pub matches : Signature → Pat → Term → Bool
  matches S Bind t = true
  matches S Wild t = true
  matches S (Dot forced) t = true
  matches S (Con n number pats) t = matches_built n number (matches_all S pats) (built_of S t)
  matches S Absurd t = false

  -- a list of patterns matches as many terms, if all columns match
  pub matches_all : Signature → Pats → List Term → Bool
  matches_all S nil [] = true
  matches_all S (cons pat pats) (t ∷ terms) = matches S pat t && matches_all S pats terms
  matches_all S nil (t ∷ terms) = false
  matches_all S (cons pat pats) [] = false

-- another constructor than this one, or this one with as many arguments as there are patterns, and these are apart
abbrev pub is_apart_from : (n number : ℕ) → Pats → (apart : List Term → Bool) → Option Built → Bool
is_apart_from n number pats apart None = false
is_apart_from n number pats apart (Some b) =
    cond (is_constructor n number b) (is_as_long pats b.arguments && apart b.arguments) true

abbrev mutual
  -- A constructor is apart from each other constructor with all its arguments, and from itself where the arguments are apart. The
  -- absurd pattern is apart from every constructor with all its arguments, and any other pattern from no term.
  pub is_apart : Signature → Pat → Term → Bool
  is_apart S Bind t = false
  is_apart S Wild t = false
  is_apart S (Dot forced) t = false
  is_apart S (Con n number pats) t = is_apart_from n number pats (has_apart S pats) (built_of S t)
  is_apart S Absurd t = is_there (built_of S t)

  -- some column is apart
  pub has_apart : Signature → Pats → List Term → Bool
  has_apart S (cons pat pats) (t ∷ terms) = is_apart S pat t || has_apart S pats terms
  has_apart S nil terms = false
  has_apart S (cons pat pats) [] = false

-- a list of patterns is apart from as many terms, if some column is
abbrev pub are_apart : Signature → Pats → List Term → Bool
are_apart S pats terms = is_as_long pats terms && has_apart S pats terms
