-- The common patterns of two lists.
use Rattle.std.specs.Prelude.{◌≡◌, ◌≢◌, ℕ, ◌+◌, ◌==◌, ◌&&◌, cond, Option, Some, None, option_map, List, [], ◌∷◌}
use Rattle.core_terms.specs.Patterns.{Pat, Bind, Wild, Dot, Con, Absurd, Pats, nil, cons}

-- the first column with the others, where both are there
abbrev pub meet_columns : Option Pat → Option Pats → Option Pats
meet_columns None vector = None
meet_columns (Some pat) vector = option_map (cons pat) vector

-- a pattern that has instances
abbrev pub unless_absurd : Pat → Option Pat
unless_absurd Absurd = None
unless_absurd Bind = Some Bind
unless_absurd Wild = Some Wild
unless_absurd (Dot forced) = Some (Dot forced)
unless_absurd (Con n number pats) = Some (Con n number pats)

-- constructor `number` of family n with these patterns, and another pattern
abbrev pub meet_constructor : (n number : ℕ) → Pats → (meet : Pats → Option Pats) → Pat → Option Pat
meet_constructor n number pats meet Bind = Some (Con n number pats)
meet_constructor n number pats meet Wild = Some (Con n number pats)
meet_constructor n number pats meet (Dot forced) = Some (Con n number pats)
meet_constructor n number pats meet (Con m k others) =
    cond ((n == m) && (number == k)) (option_map (Con n number) (meet others)) None
meet_constructor n number pats meet Absurd = None

abbrev mutual
  -- The pattern whose instances are those of both; None where they have none in common. Of a pattern that matches every term and
  -- another one it is the other one.
  pub meet : Pat → Pat → Option Pat
  meet Bind b = unless_absurd b
  meet Wild b = unless_absurd b
  meet (Dot forced) b = unless_absurd b
  meet (Con n number pats) b = meet_constructor n number pats (meet_all pats) b
  meet Absurd b = None

  -- column by column
  pub meet_all : Pats → Pats → Option Pats
  meet_all nil nil = Some nil
  meet_all (cons a pats) (cons b others) = meet_columns (meet a b) (meet_all pats others)
  meet_all nil (cons b others) = None
  meet_all (cons a pats) nil = None

-- Two patterns clash where they have different constructors, where some of their arguments clash, or where one of them is absurd.
mutual
  pub data Clash : Pat → Pat → Type 0 where
    absurd_left : (b : Pat) → Clash Absurd b
    absurd_right : (a : Pat) → Clash a Absurd
    other_family : (n m number k : ℕ) (pats others : Pats) → n ≢ m → Clash (Con n number pats) (Con m k others)
    other_number : (n m number k : ℕ) (pats others : Pats) → number ≢ k → Clash (Con n number pats) (Con m k others)
    in_arguments : (n number : ℕ) (pats others : Pats) → SomeClash pats others → Clash (Con n number pats) (Con n number others)

  pub data SomeClash : Pats → Pats → Type 0 where
    first : (a b : Pat) (pats others : Pats) → Clash a b → SomeClash (cons a pats) (cons b others)
    further : (a b : Pat) (pats others : Pats) → SomeClash pats others → SomeClash (cons a pats) (cons b others)

abbrev mutual
  -- patterns of one constructor have equally many arguments
  pub AreComparable : Pat → Pat → Type 0
  AreComparable (Con n number pats) (Con m k others) = n ≡ m → number ≡ k → AreColumns pats others
  AreComparable a b = Unit {0}

  -- two lists of one length, whose columns are comparable
  pub AreColumns : Pats → Pats → Type 0
  AreColumns nil nil = Unit {0}
  AreColumns (cons a pats) (cons b others) = AreComparable a b × AreColumns pats others
  AreColumns _ _ = ⊥

-- patterns before a list, if there is one
abbrev pub onto : List Pat → Option Pats → Option Pats
onto [] vector = vector
onto (pat ∷ made) vector = option_map (cons pat) (onto made vector)

-- ---- how large patterns are

abbrev mutual
  pub size_of : Pat → ℕ
  size_of Bind = 0
  size_of Wild = 0
  size_of (Dot forced) = 0
  size_of (Con n number pats) = 1 + size_of_all pats
  size_of Absurd = 0

  pub size_of_all : Pats → ℕ
  size_of_all nil = 0
  size_of_all (cons pat pats) = 1 + (size_of pat + size_of_all pats)
