-- Cycle: one side of the first equation is a variable that occurs below constructors on the other side.
use Rattle.std.specs.Prelude.{ℕ, zero, suc, Bool, true, false, ◌&&◌, ◌==◌, nat_lt, cond, Option, Some, None, option_map, List, ◌∷◌, ◌++◌, Result, Ok, Err}
use Rattle.theory.specs.Terms.{Term, Var, Con, height}
use Rattle.theory.specs.Telescopes.{applied}
use Rattle.theory.specs.Families.{Argument}
use Rattle.theory.specs.Signatures.{Signature}
use Rattle.core_terms.specs.Answers.{Spent, and_next}
use Rattle.core_terms.specs.CaseTrees.{Step}
use Rattle.core_terms.specs.declared.case_tree.Rule.TheVariants.{Cycle}
use Rattle.core_terms.specs.declared.stop.Stop.{Stop}
use Rattle.core_terms.specs.declared.stop.Stop.TheVariants.{Deep}
use Rattle.kernel_reduce.specs.Reduction.{answered, some_bounded, whnf_of}
use Rattle.unification.specs.States.{Equation}
use Rattle.unification.specs.Built.{Built, built_of, is_fitting, has_no_indices, is_direct}
use Rattle.unification.specs.Solutions.{variable_in}
use Rattle.unification.specs.Turns.{Trial, does_not_apply, fails_at, single, type_in}

-- terms, or None where nothing is found
abbrev pub Search : Type 0 → Type 0
Search A = ℕ → Spent (Option A)

abbrev pub not_found : {A : Type 0} → Search A
not_found left = answered (Ok None) left

-- a search whose found value is mapped by f
abbrev pub found_as : {A B : Type 0} → (A → B) → Search A → Search B
found_as f search left = and_next (search left) (λ found rest. answered (Ok (option_map f found)) rest)

-- the arguments with the one that is found in them, or those after it
abbrev pub here_or : {A : Type 0} → Option A → Search A → Search A
here_or (Some a) search left = answered (Ok (Some a)) left
here_or None search left = search left

-- how a search goes on in the head form of an argument, whose reduction began with `before` units
abbrev pub Below : Type 0
Below = (before : ℕ) → Term → Search Term

-- One direct argument after the other is reduced and searched, until something is found. It takes the place of the argument in
-- which it is found; the other arguments stay as they are.
abbrev pub among_arguments : Signature → Below → List Argument → List Term → Search (List Term)
among_arguments S below (a ∷ arguments) (u ∷ us) left =
    cond (is_direct a)
    (and_next (whnf_of S true left u) (λ v rest.
    and_next (below left v rest) (λ found end.
    here_or (option_map (λ w. w ∷ us) found) (found_as (λ ws. u ∷ ws) (among_arguments S below arguments us)) end)))
    (found_as (λ ws. u ∷ ws) (among_arguments S below arguments us) left)
among_arguments S below _ _ left = not_found left

abbrev pub with_arguments : Built → List Term → Term
with_arguments b us = applied (Con b.n b.number) (b.parameters ++ us)

-- the variable is a head form itself
abbrev pub is_variable : (x : ℕ) → Option ℕ → Bool
is_variable x (Some y) = y == x
is_variable x None = false

-- below a constructor of family n
abbrev pub below_constructor : Signature → (n : ℕ) → Below → Option Built → Search Term
below_constructor S n below None = not_found
below_constructor S n below (Some b) =
    cond (b.n == n) (found_as (with_arguments b) (among_arguments S below b.constructor.arguments b.arguments)) not_found

-- the variable x in a head form: it is x, or a constructor of family n with x at or below a direct argument
abbrev pub in_form : Signature → (n x : ℕ) → Below → Term → Search Term
in_form S n x below t left =
    cond (is_variable x (variable_in t)) (answered (Ok (Some t)) left) (below_constructor S n below (built_of S t) left)

-- ---- the search, worked out by a measure that falls on the way: units, and then room for the height of the term

-- How a search goes on in an argument, by the measure that has become less: its reduction has spent units, or else it is as it was and is
-- lower than the constructor around it.
abbrev pub by_less : (units room : Term → Search Term) → Below
by_less units room before t left = cond (nat_lt left before) (units t left) (room t left)

-- where the measure has fallen as far as it can: no argument comes there
abbrev pub no_argument : Term → Search Term
no_argument t left = answered (Err Deep) left

-- the term has at most this height
abbrev pub by_room : Signature → (n x : ℕ) → (units : Term → Search Term) → (room : ℕ) → Term → Search Term
by_room S n x units zero = no_argument
by_room S n x units (suc room) = in_form S n x (by_less units (by_room S n x units room))

-- at most so many units are left
abbrev pub by_units : Signature → (n x units : ℕ) → Term → Search Term
by_units S n x zero t = by_room S n x no_argument (height t) t
by_units S n x (suc units) t = by_room S n x (by_units S n x units) (height t) t

-- The variable x at a head form, or below constructors of family n in it, however many. The found term is the term with each
-- argument on the way reduced.
abbrev pub search_in : Signature → (n x : ℕ) → Term → Search Term
search_in S n x t left = by_units S n x left t left

-- ---- the rule

-- a constructor that acyclicity is made for
abbrev pub is_acyclic : Built → Bool
is_acyclic b = has_no_indices b.family && is_fitting b.family

abbrev pub bounded_found : Option Term → Result (Option Term) Stop
bounded_found None = Ok None
bounded_found (Some t) = some_bounded t

-- the side that is a constructor, reduced on the way to variable x, or Deep where it is then too high
abbrev pub reduced_side : Signature → (x : ℕ) → Term → Option Built → Search Term
reduced_side S x t None left = not_found left
reduced_side S x t (Some b) left =
    cond (is_acyclic b) (and_next (search_in S b.n x t left) (λ found rest. answered (bounded_found found) rest)) (not_found left)

-- a last step, with the side that is no variable
abbrev pub cycle_at : Signature → Equation → (Term → Step) → Option Term → Trial
cycle_at S e step None left = does_not_apply left
cycle_at S e step (Some t) left = fails_at S (step t) e.left e.right left

abbrev pub cycle_search : Signature → Equation → (x : ℕ) → (Term → Step) → Term → Trial
cycle_search S e x step t left =
    and_next (reduced_side S x t (built_of S t) left) (λ found rest. cycle_at S e step found rest)

abbrev pub cycle_step : Equation → (x : ℕ) (u v : Term) → Step
cycle_step e x u v = single (Cycle x) (type_in e.type) u v

-- the left side is a variable
abbrev pub left_variable : Signature → Equation → (x : ℕ) → Trial
left_variable S e x left =
    and_next (whnf_of S true left e.right) (λ r rest. cycle_search S e x (λ v. cycle_step e x (Var x) v) r rest)

-- the right side is a variable, and the left one has the head form l
abbrev pub right_variable : Signature → Equation → (l : Term) → Option ℕ → Trial
right_variable S e l None left = does_not_apply left
right_variable S e l (Some x) left = cycle_search S e x (λ u. cycle_step e x u (Var x)) l left

abbrev pub left_constructor : Signature → Equation → (l : Term) → Option Built → Trial
left_constructor S e l None left = does_not_apply left
left_constructor S e l (Some b) left =
    cond (is_acyclic b)
    (and_next (whnf_of S true left e.right) (λ r rest. right_variable S e l (variable_in r) rest))
    (does_not_apply left)

abbrev pub left_form : Signature → Equation → (l : Term) → Option ℕ → Trial
left_form S e l (Some x) = left_variable S e x
left_form S e l None = left_constructor S e l (built_of S l)

-- The rule.
abbrev pub cycle_trial : Signature → Equation → Trial
cycle_trial S e left = and_next (whnf_of S true left e.left) (λ l rest. left_form S e l (variable_in l) rest)
