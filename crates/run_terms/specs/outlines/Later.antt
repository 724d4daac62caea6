-- Where a term has another one inside, which is made apart: in the body of its function, at its head, or in the body of its last
-- argument that is no variable.
use Rattle.std.specs.Prelude.{Bool, true, false, cond}
use Rattle.theory.specs.Terms.{Term, Var, Lam, App}

abbrev pub is_variable : Term → Bool
is_variable (Var n) = true
is_variable t = false

-- \tele. N, for any \tele. t where t is no function
abbrev pub in_body : Term → (N : Term) → Term
in_body (Lam a b) N = Lam a (in_body b N)
in_body t N = N

-- N applied to the arguments of a term
abbrev pub at_head : Term → (N : Term) → Term
at_head (App f a) N = App (at_head f N) a
at_head t N = N

-- the last argument that is no variable has the body N
abbrev pub with_later : Term → (N : Term) → Term
with_later (App f a) N = cond (is_variable a) (App (with_later f N) a) (App f (in_body a N))
with_later t N = t
