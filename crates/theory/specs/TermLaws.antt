-- The laws of `lift` and `subst`, with general positions, and as renaming and instantiation.
use Rattle.std.specs.Prelude.{◌≡◌, ℕ, ◌+◌, ◌≤◌, nat_lt, cond, ◌↔◌}
use Rattle.theory.specs.Terms.{Term, Var, lift, lift_var, subst, subst_var, height, free_of, SortsBelow}
use Rattle.theory.specs.Substitutions.{ren, weaken, inst, extend}

-- a lift is the renaming that does to each variable what the lift does
abbrev pub LiftIsRen : Type 0
LiftIsRen = (t : Term) (by from : ℕ) → lift t by from ≡ ren (λ n. lift_var n by from) t

-- a lift of every variable by one goes one binder further in
abbrev pub LiftIsWeaken : Type 0
LiftIsWeaken = (t : Term) → lift t 1 0 ≡ weaken t

-- a substitution is the instantiation that does to each variable what the substitution does
abbrev pub SubstIsInst : Type 0
SubstIsInst = (t : Term) (at : ℕ) (u : Term) → subst t at u ≡ inst (λ n. subst_var n at u) t

-- a substitution for the nearest variable gives that one a term, and each other its own place
abbrev pub SubstIsExtend : Type 0
SubstIsExtend = (t u : Term) → subst t 0 u ≡ inst (extend Var u) t

-- lifting by nothing changes nothing
abbrev pub LiftByNone : Type 0
LiftByNone = (t : Term) (from : ℕ) → lift t 0 from ≡ t

-- two lifts commute: the one at the greater position is moved by the other
abbrev pub LiftLift : Type 0
LiftLift =
    (t : Term) (by from by' from' : ℕ) → from ≤ from' →
    lift (lift t by from) by' (from' + by) ≡ lift (lift t by' from') by from

-- a second lift within the gap that the first one made only widens it
abbrev pub LiftMerge : Type 0
LiftMerge =
    (t : Term) (by from by' from' : ℕ) → from ≤ from' → from' ≤ from + by →
    lift (lift t by from) by' from' ≡ lift t (by + by') from

-- a lift at or below the place of a substitution
abbrev pub LiftOfSubst : Type 0
LiftOfSubst =
    (t : Term) (at : ℕ) (u : Term) (by from : ℕ) → from ≤ at →
    lift (subst t at u) by from ≡ subst (lift t by from) (at + by) (lift u by from)

-- a lift at or above the place of a substitution
abbrev pub LiftOfSubstAbove : Type 0
LiftOfSubstAbove =
    (t : Term) (at : ℕ) (u : Term) (by from : ℕ) → at ≤ from →
    lift (subst t at u) by from ≡ subst (lift t by (from + 1)) at (lift u by from)

-- a substitution within the gap of a lift closes the gap by one
abbrev pub SubstOfLift : Type 0
SubstOfLift =
    (t : Term) (by from at : ℕ) (u : Term) → from ≤ at → at ≤ from + by →
    subst (lift t (by + 1) from) at u ≡ lift t by from

-- a substitution for the variable that a lift made room for cancels it
abbrev pub SubstCancels : Type 0
SubstCancels = (t : Term) (at : ℕ) (u : Term) → subst (lift t 1 at) at u ≡ t

-- two substitutions commute: the one at the greater place also works inside the term of the other
abbrev pub SubstSubst : Type 0
SubstSubst =
    (t : Term) (at : ℕ) (u : Term) (at' : ℕ) (v : Term) → at ≤ at' →
    subst (subst t at u) at' v ≡ subst (subst t (at' + 1) (lift v 1 at)) at (subst u at' v)

-- a term whose free variables are all below `from` is not changed by a lift from there
abbrev pub LiftOfScoped : Type 0
LiftOfScoped = (t : Term) (by from : ℕ) → free_of t ≤ from → lift t by from ≡ t

-- a term whose free variables are all below `at` is not changed by a substitution there
abbrev pub SubstOfScoped : Type 0
SubstOfScoped = (t : Term) (at : ℕ) (u : Term) → free_of t ≤ at → subst t at u ≡ t

-- a lift raises the bound on the free variables by `by`, if it moves any of them
abbrev pub FreeOfLift : Type 0
FreeOfLift =
    (t : Term) (by from : ℕ) →
    free_of (lift t by from) ≡ cond (nat_lt from (free_of t)) (free_of t + by) (free_of t)

-- a substitution takes a term that is scoped below n + 1 to one that is scoped below n
abbrev pub FreeOfSubst : Type 0
FreeOfSubst =
    (t : Term) (at : ℕ) (u : Term) (n : ℕ) → at ≤ n → free_of t ≤ n + 1 → free_of u ≤ n → free_of (subst t at u) ≤ n

-- and no other term
abbrev pub FreeBeforeSubst : Type 0
FreeBeforeSubst =
    (t : Term) (at : ℕ) (u : Term) (n : ℕ) → at ≤ n → free_of (subst t at u) ≤ n → free_of t ≤ n + 1

-- a lift keeps the height
abbrev pub HeightOfLift : Type 0
HeightOfLift = (t : Term) (by from : ℕ) → height (lift t by from) ≡ height t

-- a substitution loses no height, and gains at most what its term has above a leaf
abbrev pub HeightOfSubst : Type 0
HeightOfSubst =
    (t : Term) (at : ℕ) (u : Term) →
    (height t ≤ height (subst t at u)) × (height (subst t at u) + 1 ≤ height t + height u)

-- a bound on the sorts may be raised
abbrev pub SortsRaised : Type 0
SortsRaised = (t : Term) (n m : ℕ) → n ≤ m → SortsBelow n t → SortsBelow m t

-- a lift keeps the sorts
abbrev pub SortsOfLift : Type 0
SortsOfLift = (t : Term) (by from n : ℕ) → SortsBelow n t ↔ SortsBelow n (lift t by from)

-- a substitution brings no sorts but those of its term
abbrev pub SortsOfSubst : Type 0
SortsOfSubst =
    (t : Term) (at : ℕ) (u : Term) (n : ℕ) → SortsBelow n t → SortsBelow n u → SortsBelow n (subst t at u)

-- and drops none
abbrev pub SortsBeforeSubst : Type 0
SortsBeforeSubst = (t : Term) (at : ℕ) (u : Term) (n : ℕ) → SortsBelow n (subst t at u) → SortsBelow n t
