-- Names of families that refer to each other, with the numbers that they get.
use Rattle.std.specs.Prelude.{ℕ, ◌+◌, ◌-◌, ◌<◌, List, length, Option, option_map}
use Rattle.resolve.specs.declared.member_names.MemberNames.TheInside.{Inside}
use Rattle.resolve.specs.Names.{scope_of, variable_of}

-- the first name has the first number, and each other one the next number
pub record MemberNumbers : Type 0 where
  pub first : ℕ
  pub names : List (List ℕ)

-- the numbers fit 32 bits
abbrev pub HaveNumbers : Inside → Type 0
HaveNumbers m = m.first + length m.names < 4294967296

-- the number of the last of the names that is this one
abbrev pub number_of : MemberNumbers → List ℕ → Option ℕ
number_of m name = option_map (λ v. m.first + (length m.names - (v + 1))) (variable_of name (scope_of m.names))
