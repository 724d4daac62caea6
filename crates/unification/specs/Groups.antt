-- Injectivity and conflict of a group: the equations between two members of an indexed family are those of its indices, and last
-- that of the members. They are taken together, so that the indices need no K.
use Rattle.std.specs.Prelude.{ℕ, zero, suc, ◌+◌, ◌-◌, Bool, true, false, ◌==◌, ◌&&◌, ◌||◌, not, cond, Option, Some, None, option_and_then, List, [], ◌∷◌, length, map, take, drop, slice_get, Ok}
use Rattle.theory.specs.Terms.{Term, Var, Fam}
use Rattle.theory.specs.Substitutions.{ren}
use Rattle.theory.specs.Spines.{head_of, spine_of}
use Rattle.theory.specs.Families.{Family}
use Rattle.theory.specs.Signatures.{Signature}
use Rattle.core_terms.specs.Answers.{Spent, and_next}
use Rattle.kernel_reduce.specs.Comparison.{both, convertible_of}
use Rattle.kernel_reduce.specs.Entries.{family_at}
use Rattle.kernel_reduce.specs.Reduction.{answered, nesting}
use Rattle.kernel_reduce.specs.Tidying.{tidy_of}
use Rattle.tele_eq.specs.Dependences.{has_variable}
use Rattle.unification.specs.States.{Equation, State, left_sides, right_sides, types_as_they_stand}
use Rattle.unification.specs.Built.{Built, is_fitting}
use Rattle.unification.specs.Records.{family_items}
use Rattle.unification.specs.Heights.{equations_made, injection_made}
use Rattle.unification.specs.Turns.{Trial, does_not_apply, goes_to, fails_at, or_else}
use Rattle.unification.specs.Constructors.{on_constructors, conflict_step, injection_step}

-- the terms are the nearest k variables, from the outermost on
abbrev pub are_nearest : (k : ℕ) → List Term → Bool
are_nearest zero [] = true
are_nearest (suc k) (Var n ∷ terms) = (n == k) && are_nearest k terms
are_nearest k terms = false

-- one of the nearest k variables is free in a term
abbrev pub has_nearest : (k : ℕ) → Term → Bool
has_nearest zero t = false
has_nearest (suc k) t = has_variable k t || has_nearest k t

abbrev pub have_nearest : (k : ℕ) → List Term → Bool
have_nearest k [] = false
have_nearest k (t ∷ terms) = has_nearest k t || have_nearest k terms

-- a term without the nearest k variables, outside of their binders
abbrev pub lowered : (k : ℕ) → Term → Term
lowered k t = ren (λ n. n - k) t

-- family n at parameters of the context, and at exactly the k places before the one that has this type
pub record Membership : Type 0 where
  pub n : ℕ
  pub family : Family
  pub parameters : List Term

abbrev pub with_places : (k n : ℕ) (spine : List Term) → Family → Option Membership
with_places k n spine f =
    let count = length f.parameters in
    let ps = take count spine in
    let has_form = (length f.indices == k) && ((length spine == count + k) && are_nearest k (drop count spine)) in
    cond (has_form && (not (have_nearest k ps) && is_fitting f))
    (Some (record { n = n; family = f; parameters = map (lowered k) ps }))
    None

abbrev pub membership_with : Signature → (k : ℕ) → Term → List Term → Option Membership
membership_with S k (Fam n) spine = option_and_then (with_places k n spine) (family_at S n)
membership_with S k h spine = None

-- the type of the place after k others as a family at them
abbrev pub membership_of : Signature → (k : ℕ) → Term → Option Membership
membership_of S k t = membership_with S k (head_of t) (spine_of t)

-- whether types are convertible one by one, up to the first that are not
abbrev pub all_convertible : Signature → (types others : List Term) → ℕ → Spent Bool
all_convertible S (a ∷ types) (b ∷ others) left =
    both (convertible_of S nesting a b) (all_convertible S types others) left
all_convertible S _ _ left = answered (Ok true) left

-- the equations are those of the telescope I, D ps I
abbrev pub are_equations_of : Signature → Membership → List Equation → ℕ → Spent Bool
are_equations_of S m group left =
    and_next (answered (equations_made (family_items m.n m.family m.parameters) (left_sides group) (right_sides group)) left)
    (λ types rest. all_convertible S (types_as_they_stand group) types rest)

-- the constructors of the last equation are the same, or not
abbrev pub group_turn : Signature → State → (k : ℕ) → Equation → Membership → (type l : Term) (b : Built) (r : Term) (d : Built) → Trial
group_turn S s k e m type l b r d =
    cond (b.number == d.number)
    (goes_to (injection_step (k + 1) type l r b)
    (injection_made s (k + 1) b.n b.number m.family b.constructor m.parameters b.arguments d.arguments))
    (fails_at S (conflict_step (k + 1) type l r b d) e.left e.right)

abbrev pub if_holds : Bool → Trial → Trial
if_holds true go = go
if_holds false go = does_not_apply

-- the first k + 1 equations, the last of which has a place with the tidied type
abbrev pub on_membership : Signature → State → (k : ℕ) → Equation → (type : Term) → Option Membership → Trial
on_membership S s k e type None = does_not_apply
on_membership S s k e type (Some m) =
    on_constructors S (λ b. b.n == m.n) e.left e.right (λ l b r d left.
    and_next (are_equations_of S m (take (k + 1) s.equations) left) (λ holds rest.
    if_holds holds (group_turn S s k e m type l b r d) rest))

abbrev pub last_trial : Signature → State → (k : ℕ) → Option Equation → Trial
last_trial S s k None left = does_not_apply left
last_trial S s k (Some e) left =
    and_next (tidy_of S left e.place.type) (λ type rest. on_membership S s k e type (membership_of S k type) rest)

-- The rule for the first k + 1 equations.
abbrev pub group_trial : Signature → State → (k : ℕ) → Trial
group_trial S s k = last_trial S s k (slice_get s.equations k)

-- The groups of at most k + 1 equations and of two at least, the greatest first.
abbrev pub group_trials : Signature → State → (k : ℕ) → Trial
group_trials S s zero = does_not_apply
group_trials S s (suc k) = or_else (group_trial S s (suc k)) (group_trials S s k)
