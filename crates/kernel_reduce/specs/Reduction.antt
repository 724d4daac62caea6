-- Reduction with units: each head step costs one. Fuel comes where a unit is needed and none is left. Deep comes where a
-- term higher than 2,000 is given or made, and where a call would be the 2,001st of those that are open at once.
use Rattle.std.specs.Prelude.{ℕ, zero, suc, Bool, true, false, cond, Option, Some, None, Result, Ok, Err}
use Rattle.theory.specs.Terms.{Term, Pi, Lam, App}
use Rattle.theory.specs.Signatures.{Signature}
use Rattle.core_terms.specs.Answers.{Spent, and_next, is_low, bounded}
use Rattle.core_terms.specs.declared.stop.Stop.{Stop}
use Rattle.core_terms.specs.declared.stop.Stop.TheVariants.{Fuel, Deep}
use Rattle.kernel_reduce.specs.Steps.{step_of}

-- how many calls may be open at once
abbrev pub nesting : ℕ
nesting = 2000

-- 3 * 2 ^ 30 - 2000, which is more than 2 ^ 31: a term that a call is given has at most so many free variables. A term inside
-- may be under as many binders more as calls may be open.
abbrev pub most_variables : ℕ
most_variables = 3221223472

-- an answer with the units that are left after it
abbrev pub answered : {A : Type 0} → Result A Stop → ℕ → Spent A
answered answer left = (answer, left)

-- one unit is spent before `next`
abbrev pub charge : {A : Type 0} → (ℕ → Spent A) → ℕ → Spent A
charge next zero = answered (Err Fuel) zero
charge next (suc left) = next left

-- `next`, unless a given term is too high
abbrev pub if_low : {A : Type 0} → Bool → (ℕ → Spent A) → ℕ → Spent A
if_low true next left = next left
if_low false next left = answered (Err Deep) left

abbrev pub some_bounded : Term → Result (Option Term) Stop
some_bounded t = cond (is_low t) (Ok (Some t)) (Err Deep)

-- a step needs its unit before its term is made
abbrev pub step_taken : Option Term → ℕ → Spent (Option Term)
step_taken None left = answered (Ok None) left
step_taken (Some u) left = charge (answered (some_bounded u)) left

-- one head step, or None where there is none
abbrev pub head_step_of : Signature → Bool → Term → ℕ → Spent (Option Term)
head_step_of S delta t left = if_low (is_low t) (step_taken (step_of S delta t)) left

-- the term without a head step is the answer, and with none left to pay for it the step is Fuel
abbrev pub without_units : Term → Option Term → Spent Term
without_units t None = answered (Ok t) zero
without_units t (Some u) = answered (Err Fuel) zero

-- where one unit more than `left` is left: after a step `next` goes on with its term
abbrev pub with_unit : Term → ℕ → (Term → Spent Term) → Option Term → Spent Term
with_unit t left next None = answered (Ok t) (suc left)
with_unit t left next (Some u) = next u

-- head steps until there is none, with `left` units at first
abbrev pub whnf_of : Signature → Bool → ℕ → Term → Spent Term
whnf_of S delta zero t = if_low (is_low t) (λ none. without_units t (step_of S delta t)) zero
whnf_of S delta (suc left) t =
    if_low (is_low t) (λ all. with_unit t left (whnf_of S delta left) (step_of S delta t)) (suc left)

-- the form with two children, the first one normalised before the second
abbrev pub with_children : (Term → Term → Term) → (ℕ → Spent Term) → (ℕ → Spent Term) → ℕ → Spent Term
with_children form first second left =
    and_next (first left) (λ a rest. and_next (second rest) (λ b end. answered (bounded (form a b)) end))

-- a term that takes no head step, with `normal` for its children
abbrev pub normal_children : (Term → ℕ → Spent Term) → Term → ℕ → Spent Term
normal_children normal (Pi a b) left = with_children Pi (normal a) (normal b) left
normal_children normal (Lam a b) left = with_children Lam (normal a) (normal b) left
normal_children normal (App f a) left = with_children App (normal f) (normal a) left
normal_children normal t left = answered (Ok t) left

-- the head form, and then the normal forms of its children, where `room` calls more may be open
abbrev pub normal_of : Signature → Bool → ℕ → Term → ℕ → Spent Term
normal_of S delta zero t left = answered (Err Deep) left
normal_of S delta (suc room) t left = and_next (whnf_of S delta left t) (normal_children (normal_of S delta room))
