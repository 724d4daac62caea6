-- Injectivity and conflict: both sides of an equation are constructors.
use Rattle.std.specs.Prelude.{ℕ, Bool, true, ◌==◌, cond, Option, Some, None, Ok}
use Rattle.theory.specs.Terms.{Term}
use Rattle.theory.specs.Signatures.{Signature}
use Rattle.core_terms.specs.Answers.{Spent, and_next}
use Rattle.core_terms.specs.CaseTrees.{Step}
use Rattle.core_terms.specs.declared.case_tree.Rule.TheVariants.{Inject, Conflict}
use Rattle.kernel_reduce.specs.Reduction.{answered, whnf_of}
use Rattle.unification.specs.States.{Equation, State}
use Rattle.unification.specs.Built.{Built, built_of, is_fitting, has_no_indices}
use Rattle.unification.specs.Heights.{injection_made}
use Rattle.unification.specs.Turns.{Trial, does_not_apply, goes_to, fails_at, type_in}

-- a constructor that meets the condition
abbrev pub where_fits : (Built → Bool) → Option Built → Option Built
where_fits fits None = None
where_fits fits (Some b) = cond (fits b) (Some b) None

-- two head forms, where the right one is a constructor too
abbrev pub both_heads : (l r : Term) → Option Built → Option (Term × Term)
both_heads l r None = None
both_heads l r (Some d) = Some (l, r)

-- after the left head form, which is a constructor where there is one: the right side is reduced only then
abbrev pub right_head : Signature → (l v : Term) → Option Built → ℕ → Spent (Option (Term × Term))
right_head S l v None left = answered (Ok None) left
right_head S l v (Some b) left =
    and_next (whnf_of S true left v) (λ r rest.
    answered (Ok (both_heads l r (where_fits (λ d. d.n == b.n) (built_of S r)))) rest)

-- The head forms of both sides, with delta, where the left one is a constructor with all its arguments that meets the condition,
-- and the right one such a constructor of the same family.
abbrev pub heads : Signature → (Built → Bool) → (u v : Term) → ℕ → Spent (Option (Term × Term))
heads S fits u v left =
    and_next (whnf_of S true left u) (λ l rest. right_head S l v (where_fits fits (built_of S l)) rest)

abbrev pub with_built : ((l : Term) (b : Built) (r : Term) (d : Built) → Trial) → (l r : Term) → Option Built → Option Built → Trial
with_built go l r (Some b) (Some d) = go l b r d
with_built go l r _ _ = does_not_apply

abbrev pub with_heads : Signature → ((l : Term) (b : Built) (r : Term) (d : Built) → Trial) → Option (Term × Term) → Trial
with_heads S go None = does_not_apply
with_heads S go (Some sides) = with_built go sides.0 sides.1 (built_of S sides.0) (built_of S sides.1)

-- goes on with these head forms, where they are there
abbrev pub on_constructors : Signature → (Built → Bool) → (u v : Term) → ((l : Term) (b : Built) (r : Term) (d : Built) → Trial) → Trial
on_constructors S fits u v go left = and_next (heads S fits u v left) (λ found rest. with_heads S go found rest)

abbrev pub conflict_step : (g : ℕ) (ty l r : Term) (b d : Built) → Step
conflict_step g ty l r b d = record { group = g; rule = Conflict b.n b.number d.number; ty = ty; left = l; right = r }

abbrev pub injection_step : (g : ℕ) (ty l r : Term) (b : Built) → Step
injection_step g ty l r b = record { group = g; rule = Inject b.n b.number; ty = ty; left = l; right = r }

-- one constructor on both sides: injectivity, where the family has no indices
abbrev pub same_constructor : State → Equation → (l r : Term) (b d : Built) → Trial
same_constructor s e l r b d =
    cond (has_no_indices b.family)
    (goes_to (injection_step 1 (type_in e.type) l r b)
    (injection_made s 1 b.n b.number b.family b.constructor b.parameters b.arguments d.arguments))
    does_not_apply

-- different constructors, or one on both sides
abbrev pub constructor_turn : Signature → State → Equation → (l : Term) (b : Built) (r : Term) (d : Built) → Trial
constructor_turn S s e l b r d =
    cond (b.number == d.number) (same_constructor s e l r b d)
    (fails_at S (conflict_step 1 (type_in e.type) l r b d) e.left e.right)

-- The rule for the first equation.
abbrev pub constructor_trial : Signature → State → Equation → Trial
constructor_trial S s e = on_constructors S (λ b. is_fitting b.family) e.left e.right (constructor_turn S s e)
