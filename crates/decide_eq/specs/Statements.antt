-- That the equality of two terms of family D is decided: E (Eq.l (D p) x y), for the family E and the level l of D. The parameters p have
-- the levels from 0 on, and whatever is at a depth comes after so many binders.
use Rattle.std.specs.Prelude.{ℕ, zero, suc, ◌+◌}
use Rattle.theory.specs.Terms.{Term, Pi, App, Fam}
use Rattle.theory.specs.Telescopes.{Telescope}
use Rattle.theory.specs.Signatures.{equation}
use Rattle.core_terms.specs.Levels.{variable, bind}
use Rattle.core_terms.specs.declared.levels.Binder.{Binder}
use Rattle.core_terms.specs.declared.levels.Binder.TheVariants.{Product}
use Rattle.core_sig.specs.ByLevels.{family_at}
use Rattle.case_below_gen.specs.CaseEntries.{closed_over}
use Rattle.decide_eq.specs.declared.decided_family.DecidedFamily.{DecidedFamily}

-- D p
abbrev pub whole_type : DecidedFamily → (depth : ℕ) → Term
whole_type d depth = family_at d.family d.params depth 0 0

-- Eq.l A x y
abbrev pub equal : DecidedFamily → (type x y : Term) → Term
equal d type x y = equation d.level type x y

-- E A
abbrev pub decision_of : DecidedFamily → (claim : Term) → Term
decision_of d claim = App (Fam d.into) claim

-- (y : D p) -> E (Eq.l (D p) x y), for a term x that is one binder further in
abbrev pub deciding_from : DecidedFamily → (x : Term) (depth : ℕ) → Term
deciding_from d x depth =
    let inside = depth + 1 in
    Pi (whole_type d depth) (decision_of d (equal d (whole_type d inside) x (variable inside depth)))

-- (x : D p) -> (y : D p) -> E (Eq.l (D p) x y)
abbrev pub deciding : DecidedFamily → (depth : ℕ) → Term
deciding d depth = Pi (whole_type d depth) (deciding_from d (variable (depth + 2) depth) (depth + 1))

-- (x : p_j) -> (y : p_j) -> E (Eq.l p_j x y), for the parameter with the level j
abbrev pub deciding_parameter : DecidedFamily → (j depth : ℕ) → Term
deciding_parameter d j depth =
    let inside = depth + 2 in
    Pi (variable depth j) (Pi (variable (depth + 1) j)
    (decision_of d (equal d (variable inside j) (variable inside depth) (variable inside (depth + 1)))))

-- binds a decision for each of `count` parameters, the first of which has the level j, around `end`
abbrev pub decisions_over : DecidedFamily → (binder : Binder) (j depth count : ℕ) → Term → Term
decisions_over d binder j depth zero end = end
decisions_over d binder j depth (suc count) end =
    bind binder (deciding_parameter d j depth) (decisions_over d binder (j + 1) (depth + 1) count end)

-- binds the parameters and their decisions around `end`
abbrev pub parameters_over : DecidedFamily → (binder : Binder) → Telescope → Term → Term
parameters_over d binder parameters end = closed_over binder parameters (decisions_over d binder 0 d.params d.params end)

-- (p) -> (d_j : (x : p_j) -> (y : p_j) -> E (Eq.l p_j x y)) -> (x : D p) -> (y : D p) -> E (Eq.l (D p) x y)
abbrev pub decision_type : DecidedFamily → Telescope → Term
decision_type d parameters = parameters_over d Product parameters (deciding d (d.params + d.params))
