-- Where a function's constant occurs in a term, and with which arguments.
use Rattle.std.specs.Prelude.{ℕ, ◌+◌, ◌==◌, Bool, false, ◌||◌, cond, List, [], ◌∷◌, ◌++◌}
use Rattle.theory.specs.Terms.{Term, Pi, Lam, App, Let, Const}

-- whether the constant occurs in a term
abbrev pub has_constant : (own : ℕ) → Term → Bool
has_constant own (Pi a b) = has_constant own a || has_constant own b
has_constant own (Lam a b) = has_constant own a || has_constant own b
has_constant own (App f a) = has_constant own f || has_constant own a
has_constant own (Let a t b) = has_constant own a || (has_constant own t || has_constant own b)
has_constant own (Const c) = c == own
has_constant own _ = false

-- the constant with all the arguments that come after it, none or more, and how many binders are around them
pub record Call : Type 0 where
  pub under : ℕ
  pub term : Term

-- the calls in t, of which `whole` is the application to the arguments after it: a call before those in its arguments, and those
-- from the left
abbrev pub calls_in : (own under : ℕ) (whole : Term) → Term → List Call
calls_in own under whole (Pi a b) = calls_in own under a a ++ calls_in own (under + 1) b b
calls_in own under whole (Lam a b) = calls_in own under a a ++ calls_in own (under + 1) b b
calls_in own under whole (App f a) = calls_in own under whole f ++ calls_in own under a a
calls_in own under whole (Let a t b) = calls_in own under a a ++ (calls_in own under t t ++ calls_in own (under + 1) b b)
calls_in own under whole (Const c) = cond (c == own) (record { under = under; term = whole } ∷ []) []
calls_in own under whole _ = []

abbrev pub calls : (own : ℕ) → Term → List Call
calls own t = calls_in own 0 t t
