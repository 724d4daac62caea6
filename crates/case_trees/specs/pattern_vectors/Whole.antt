-- Constructors with all their arguments, as the code finds them: their numbers, and how many arguments follow the parameters.
use Rattle.std.specs.Prelude.{ℕ, ◌-◌, Bool, false, ◌==◌, ◌&&◌, Option, Some, None, List, length, drop}
use Rattle.unification.specs.Built.{Built}
use Rattle.case_trees.specs.declared.pattern_vectors.matching.Found as code

pub record Numbers : Type 0 where
  pub family : ℕ
  pub number : ℕ
  pub arguments : ℕ

abbrev pub numbers_in : Built → Numbers
numbers_in b = record { family = b.n; number = b.number; arguments = length b.arguments }

abbrev pub numbers_of : code.Found → Numbers
numbers_of w = record { family = w.family; number = w.number; arguments = w.args }

-- the last k of a list
abbrev pub last : {A : Type 0} → (k : ℕ) → List A → List A
last k terms = drop (length terms - k) terms

-- constructor `number` of family n with `count` arguments
abbrev pub is_whole_of : (n number count : ℕ) → Option Built → Bool
is_whole_of n number count None = false
is_whole_of n number count (Some b) = (b.n == n) && ((b.number == number) && (length b.arguments == count))
