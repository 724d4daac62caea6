-- The greatest height of a term, and bounds under which an index of a variable fits 32 bits.
use Rattle.std.specs.Prelude.{ℕ}

-- the greatest height of a term that a call answers
abbrev pub most_height : ℕ
most_height = 2000

-- 2 ^ 32 - 2001: with so many free variables a term of height 2,000 or less has no index above u32.MAX, since fewer
-- than 2,000 binders are around a variable
abbrev pub most_free : ℕ
most_free = 4294965295

-- 3 * 2 ^ 30: a term that is put under binders has at most so many free variables, so that no index passes 32 bits
abbrev pub most_inner_variables : ℕ
most_inner_variables = 3221225472

-- 2 ^ 31: a context that a call is given has fewer types, and a term has at most so many free variables where it is not yet put
-- under binders
abbrev pub context_limit : ℕ
context_limit = 2147483648
