-- Reading a term: one byte, or the word after a parenthesis, says its form.
use Rattle.std.specs.Prelude.{ℕ, zero, suc, ◌+◌, ◌==◌, nat_le, Bool, true, false, if◌then◌else◌, List, length, take, drop, codes, bytes_eq, Ok, Err, Option, Some, None}
use Rattle.theory.specs.Terms.{Term, Var, Sort, Pi, Lam, App, Let, height, top}
use Rattle.core_text.specs.NameRuns.{run_len}
use Rattle.core_text.specs.Reading.{Reading, wrong, and_then, after, begins, past, first, read_index}
use Rattle.core_text.specs.declared.halt.Halt.TheVariants.{Nested}

-- the greatest height of a term, and the number of terms that may be nested
abbrev pub most : ℕ
most = 2000

-- a term that is not too high
abbrev pub limited : Term → List ℕ → Reading Term
limited t rest = if nat_le (height t) most then Ok (t, rest) else Err (Nested (length rest))

-- a term and the parenthesis that closes it
abbrev pub closed_by : Term → List ℕ → Reading Term
closed_by t rest = after (past (codes ")") rest) (limited t)

-- a number that is a variable or a level
abbrev pub as_term : (ℕ → Term) → Reading ℕ → Reading Term
as_term form (Ok p) = Ok (form p.0, p.1)
as_term form (Err e) = Err e

-- a symbol, or the place before its name
abbrev pub known : Option Term → List ℕ → List ℕ → Reading Term
known (Some t) start rest = Ok (t, rest)
known None start rest = wrong start

-- a variable under n binders, from its `%` on; under none there is no variable
abbrev pub variable_at : ℕ → List ℕ → Reading Term
variable_at zero rest = wrong rest
variable_at (suc n) rest = as_term Var (read_index (suc n) (drop 1 rest))

-- a sort, after `Type`
abbrev pub sort_at : List ℕ → Reading Term
sort_at rest = after (past (codes " ") rest) (λ r. as_term Sort (read_index (top + 1) r))

-- a sort, or a name of n bytes; `look` says what names stand for
abbrev pub named : (List ℕ → Option Term) → ℕ → List ℕ → Reading Term
named look n rest =
    if bytes_eq (take n rest) (codes "Type") then sort_at (drop n rest)
    else known (look (take n rest)) rest (drop n rest)

abbrev pub is_application : Term → Bool
is_application (App f a) = true
is_application _ = false

-- `inner n` reads a term under n binders inside the one that is read.
module _ (inner : ℕ → List ℕ → Reading Term) where
  -- a term after a word
  abbrev pub term_after : List ℕ → ℕ → List ℕ → Reading Term
  term_after word n rest = after (past word rest) (inner n)

  -- after `(\`
  abbrev pub function_at : ℕ → List ℕ → Reading Term
  function_at n rest =
      and_then (inner n rest) (λ a r. and_then (term_after (codes " . ") (n + 1) r) (λ b end. closed_by (Lam a b) end))

  -- after `(let `
  abbrev pub let_at : ℕ → List ℕ → Reading Term
  let_at n rest =
      and_then (inner n rest) (λ a r1.
      and_then (term_after (codes " = ") n r1) (λ t r2.
      and_then (term_after (codes " . ") (n + 1) r2) (λ b end. closed_by (Let a t b) end)))

  -- the product over a, from its arrow on
  abbrev pub product_from : Term → ℕ → List ℕ → Reading Term
  product_from a n rest = and_then (term_after (codes "-> ") (n + 1) rest) (λ b end. closed_by (Pi a b) end)

  -- f applied to one argument more
  abbrev pub argument_of : Term → ℕ → List ℕ → Reading Term
  argument_of f n rest = and_then (inner n rest) (λ a r. limited (App f a) r)

  -- after an argument, where t is the application so far: a space and one argument more, or the end
  abbrev pub after_argument : (Term → List ℕ → Reading Term) → Term → List ℕ → Reading Term
  after_argument more t rest = if first rest == 32 then more t (drop 1 rest) else closed_by t rest

  -- The other arguments of f, at most k, and the parenthesis after them. A term with more would be too high.
  abbrev pub arguments_from : ℕ → Term → ℕ → List ℕ → Reading Term
  arguments_from zero f n rest = Err (Nested (length rest))
  arguments_from (suc k) f n rest = and_then (argument_of f n rest) (after_argument (λ t end. arguments_from k t n end))

  -- the application of f from its first argument on, where f is none
  abbrev pub spine_from : Term → ℕ → List ℕ → Reading Term
  spine_from f n rest = if is_application f then wrong rest else arguments_from most f n rest

  -- after the first term in parentheses: an arrow, or arguments
  abbrev pub after_first : Term → ℕ → List ℕ → Reading Term
  after_first a n rest =
      after (past (codes " ") rest) (λ r. if first r == 45 then product_from a n r else spine_from a n r)

  -- after `(`
  abbrev pub enclosed_at : ℕ → List ℕ → Reading Term
  enclosed_at n rest =
      if first rest == 92 then function_at n (drop 1 rest)
      else (if begins (codes "let ") rest then let_at n (drop 4 rest)
      else and_then (inner n rest) (λ a r. after_first a n r))

  -- a term, by its first byte
  abbrev pub term_at : (List ℕ → Option Term) → ℕ → List ℕ → Reading Term
  term_at look n rest =
      if first rest == 40 then enclosed_at n (drop 1 rest)
      else (if first rest == 37 then variable_at n rest else named look (run_len rest) rest)

-- a term under n binders, inside which `room` terms may be nested
abbrev pub read_term : (List ℕ → Option Term) → ℕ → ℕ → List ℕ → Reading Term
read_term look zero n rest = Err (Nested (length rest))
read_term look (suc room) n rest = term_at (read_term look room) look n rest
