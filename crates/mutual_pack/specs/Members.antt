-- Where members stand in a type, and where they may stand: at the end of an argument's type and at the end of a constructor's type, at
-- the parameters letter for letter.
use Rattle.std.specs.Prelude.{ℕ, suc, ◌+◌, ◌-◌, ◌==◌, nat_lt, nat_le, ◌&&◌, ◌||◌, not, Bool, false, cond, Option, Some, None, is_some, List, [], ◌∷◌, length}
use Rattle.theory.specs.Terms.{Term, Pi, Lam, App, Let, Const}
use Rattle.core_sig.specs.KindTests.{is_variable}
use Rattle.core_sig.specs.Raw.{RawConstructor, RawMember}
use Rattle.mutual_pack.specs.declared.members.Members.{Members}

-- the constant stands for a member
abbrev pub is_member : Members → ℕ → Bool
is_member g c = nat_le g.first c && nat_lt c (g.first + g.count)

-- its member, counted from 0
abbrev pub member_number : Members → ℕ → Option ℕ
member_number g c = cond (is_member g c) (Some (c - g.first)) None

-- a member occurs in the term
abbrev pub mentions_member : Members → Term → Bool
mentions_member g (Pi a b) = mentions_member g a || mentions_member g b
mentions_member g (Lam a b) = mentions_member g a || mentions_member g b
mentions_member g (App f a) = mentions_member g f || mentions_member g a
mentions_member g (Let a t b) = mentions_member g a || (mentions_member g t || mentions_member g b)
mentions_member g (Const c) = is_member g c
mentions_member g _ = false

-- the member, counted from 0, where the term is one at p variables, the last of which is variable `at`
abbrev pub member_at : Members → (p at : ℕ) → Term → Option ℕ
member_at g p at (Const c) = cond (p == 0) (member_number g c) None
member_at g (suc p) at (App f a) = cond (is_variable at a) (member_at g p (at + 1) f) None
member_at g p at t = None

-- the member, where the term is one at the parameters, under so many binders beyond these
abbrev pub whole_member : Members → (under : ℕ) → Term → Option ℕ
whole_member g under t = member_at g g.params under t

-- the end of a type: a member at the parameters, or a term without members
abbrev pub is_positive_end : Members → (under : ℕ) → Term → Bool
is_positive_end g under t = is_some (whole_member g under t) || not (mentions_member g t)

-- the type of an argument: (inner) -> end, where no member occurs in `inner`
abbrev pub is_positive_argument : Members → (under : ℕ) → Term → Bool
is_positive_argument g under (Pi a b) = not (mentions_member g a) && is_positive_argument g (under + 1) b
is_positive_argument g under t = is_positive_end g under t

-- In the type of a constructor after `at` arguments, the first argument where a member stands elsewhere, counted from 1; or 0, where one
-- does in the result.
abbrev pub offending_argument : Members → (at : ℕ) → Term → Option ℕ
offending_argument g at (Pi a b) = cond (is_positive_argument g at a) (offending_argument g (at + 1) b) (Some (at + 1))
offending_argument g at t = cond (is_positive_end g at t) None (Some 0)

abbrev pub offence_at : (number : ℕ) → Option ℕ → Option (ℕ × ℕ) → Option (ℕ × ℕ)
offence_at number (Some k) rest = Some (number, k)
offence_at number None rest = rest

-- the first constructor from `number` on with such an argument, and the argument
abbrev pub offence : Members → (number : ℕ) → List RawConstructor → Option (ℕ × ℕ)
offence g number [] = None
offence g number (c ∷ constructors) = offence_at number (offending_argument g 0 c.type) (offence g (number + 1) constructors)

abbrev pub offence_or : Option (ℕ × ℕ) → Option (ℕ × ℕ) → Option (ℕ × ℕ)
offence_or (Some o) rest = Some o
offence_or None rest = rest

-- that among the constructors of members, which are numbered through
abbrev pub offence_among : Members → (number : ℕ) → List RawMember → Option (ℕ × ℕ)
offence_among g number [] = None
offence_among g number (m ∷ members) = offence_or (offence g number m.constructors) (offence_among g (number + length m.constructors) members)
