-- The state of a clause: pairs of a pattern and a term of the current context, as far as they are worked.
use Rattle.std.specs.Prelude.{ℕ, ◌+◌, Bool, true, false, ◌||◌, ◌&&◌, Option, Some, None, List, [], ◌∷◌, ◌++◌, map}
use Rattle.theory.specs.Terms.{Term, Con}
use Rattle.theory.specs.Telescopes.{applied}
use Rattle.core_terms.specs.Answers.{is_low, are_low}
use Rattle.core_terms.specs.Patterns as pattern
use Rattle.core_terms.specs.Patterns.{Pat, Pats}

-- `Waits pat t`: the pattern waits for what becomes of the term. It is not worked yet, or open: it asks for a constructor, and the
-- head form of the term is none.
-- `Binds t`: a variable has the term. `Passes t`: a wildcard took it.
-- `Keeps written t`: a dot is kept, with the term that it is to be.
-- `Builds n number ps pairs`: the term is the constructor of the pattern, at its parameters and the pairs of its arguments.
-- `Clashes pat t`: the term is another constructor, or any constructor against the absurd pattern, so the clause is dropped.
mutual
  pub data Pair : Type 0 where
    Waits : Pat → Term → Pair
    Binds : Term → Pair
    Passes : Term → Pair
    Keeps : (written t : Term) → Pair
    Builds : (n number : ℕ) → (parameters : List Term) → Pairs → Pair
    Clashes : Pat → Term → Pair

  pub data Pairs : Type 0 where
    nil : Pairs
    cons : Pair → Pairs → Pairs

-- the patterns of a clause with as many terms: the state at the start
abbrev pub waiting : Pats → List Term → Pairs
waiting (pattern.cons pat pats) (t ∷ terms) = cons (Waits pat t) (waiting pats terms)
waiting _ _ = nil

abbrev mutual
  -- the term of a pair
  pub term_in : Pair → Term
  term_in (Waits pat t) = t
  term_in (Binds t) = t
  term_in (Passes t) = t
  term_in (Keeps written t) = t
  term_in (Builds n number ps pairs) = applied (Con n number) (ps ++ terms_in pairs)
  term_in (Clashes pat t) = t

  pub terms_in : Pairs → List Term
  terms_in nil = []
  terms_in (cons pair pairs) = term_in pair ∷ terms_in pairs

abbrev mutual
  -- where a pair clashes the clause is dropped
  pub clashes : Pair → Bool
  clashes (Builds n number ps pairs) = some_clashes pairs
  clashes (Clashes pat t) = true
  clashes _ = false

  pub some_clashes : Pairs → Bool
  some_clashes nil = false
  some_clashes (cons pair pairs) = clashes pair || some_clashes pairs

-- the first of two, or the later one if the first is None
abbrev pub or_later : {A : Type 0} → Option A → Option A → Option A
or_later (Some a) later = Some a
or_later None later = later

abbrev mutual
  -- the pattern and the term that clash
  pub clash_in : Pair → Option (Pat × Term)
  clash_in (Builds n number ps pairs) = first_clash pairs
  clash_in (Clashes pat t) = Some (pat, t)
  clash_in _ = None

  pub first_clash : Pairs → Option (Pat × Term)
  first_clash nil = None
  first_clash (cons pair pairs) = or_later (clash_in pair) (first_clash pairs)

abbrev mutual
  -- the pairs that wait, from the left
  pub open_in : Pair → List (Pat × Term)
  open_in (Waits pat t) = (pat, t) ∷ []
  open_in (Builds n number ps pairs) = all_open pairs
  open_in _ = []

  pub all_open : Pairs → List (Pat × Term)
  all_open nil = []
  all_open (cons pair pairs) = open_in pair ++ all_open pairs

abbrev mutual
  -- one None for each variable that a pattern binds
  pub unbound : Pat → List (Option Term)
  unbound pattern.Bind = None ∷ []
  unbound (pattern.Con n number pats) = all_unbound pats
  unbound _ = []

  pub all_unbound : Pats → List (Option Term)
  all_unbound pattern.nil = []
  all_unbound (pattern.cons pat pats) = unbound pat ++ all_unbound pats

abbrev mutual
  -- the terms of the clause's variables, in the order in which they are written; None if a variable has no term yet
  pub bound_in : Pair → List (Option Term)
  bound_in (Waits pat t) = unbound pat
  bound_in (Binds t) = Some t ∷ []
  bound_in (Builds n number ps pairs) = all_bound pairs
  bound_in (Clashes pat t) = unbound pat
  bound_in _ = []

  pub all_bound : Pairs → List (Option Term)
  all_bound nil = []
  all_bound (cons pair pairs) = bound_in pair ++ all_bound pairs

abbrev mutual
  -- the dots that are kept, from the left: the written term, and the term that it is to be
  pub dots_in : Pair → List (Term × Term)
  dots_in (Keeps written t) = (written, t) ∷ []
  dots_in (Builds n number ps pairs) = all_dots pairs
  dots_in _ = []

  pub all_dots : Pairs → List (Term × Term)
  all_dots nil = []
  all_dots (cons pair pairs) = dots_in pair ++ all_dots pairs

abbrev mutual
  -- the pair with `f` of each term of the context
  pub with_terms : (f : Term → Term) → Pair → Pair
  with_terms f (Waits pat t) = Waits pat (f t)
  with_terms f (Binds t) = Binds (f t)
  with_terms f (Passes t) = Passes (f t)
  with_terms f (Keeps written t) = Keeps written (f t)
  with_terms f (Builds n number ps pairs) = Builds n number (map f ps) (all_with_terms f pairs)
  with_terms f (Clashes pat t) = Clashes pat (f t)

  pub all_with_terms : (f : Term → Term) → Pairs → Pairs
  all_with_terms f nil = nil
  all_with_terms f (cons pair pairs) = cons (with_terms f pair) (all_with_terms f pairs)

abbrev mutual
  -- No term in a pair is too high. A wildcard is done: its term is of no account.
  pub is_low_pair : Pair → Bool
  is_low_pair (Builds n number ps pairs) = are_low ps && are_low_pairs pairs
  is_low_pair (Waits pat t) = is_low t
  is_low_pair (Binds t) = is_low t
  is_low_pair (Passes t) = true
  is_low_pair (Keeps written t) = is_low t
  is_low_pair (Clashes pat t) = is_low t

  pub are_low_pairs : Pairs → Bool
  are_low_pairs nil = true
  are_low_pairs (cons pair pairs) = is_low_pair pair && are_low_pairs pairs

-- ---- the measure of walks and trees: the constructor and absurd patterns that are left

abbrev mutual
  pub patterns_in : Pat → ℕ
  patterns_in (pattern.Con n number pats) = 1 + all_patterns pats
  patterns_in pattern.Absurd = 1
  patterns_in _ = 0

  pub all_patterns : Pats → ℕ
  all_patterns pattern.nil = 0
  all_patterns (pattern.cons pat pats) = patterns_in pat + all_patterns pats

abbrev mutual
  pub left_in : Pair → ℕ
  left_in (Waits pat t) = patterns_in pat
  left_in (Builds n number ps pairs) = all_left pairs
  left_in _ = 0

  pub all_left : Pairs → ℕ
  all_left nil = 0
  all_left (cons pair pairs) = left_in pair + all_left pairs
