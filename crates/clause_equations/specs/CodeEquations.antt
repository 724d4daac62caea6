-- The equation of a clause as the code makes it: with the recursion that it finds, which is Deep where a type of the function's own
-- telescope is too high.
use Rattle.std.specs.Prelude.{ℕ, zero, suc, cond, Option, Some, None, option_map, List, ◌++◌, length, take, drop, Result, Ok}
use Rattle.theory.specs.Terms.{Term, Const}
use Rattle.theory.specs.Telescopes.{applied}
use Rattle.theory.specs.Signatures.{Signature}
use Rattle.theory.specs.Spines.{head_of, spine_of}
use Rattle.core_terms.specs.Answers.{and_then, bounded}
use Rattle.core_terms.specs.CaseTrees.{Walk}
use Rattle.core_terms.specs.Patterns.{Pats}
use Rattle.core_terms.specs.declared.stop.Stop.{Stop}
use Rattle.unification.specs.Built.{Built}
use Rattle.case_trees.specs.Points.{under_solution}
use Rattle.tree_translation.specs.Plans.{Plan}
use Rattle.tree_translation.specs.Recursion.{Recursion, terms_at}
use Rattle.tree_translation.specs.RightSides.{is_helper}
use Rattle.leaf_terms.specs.RecursionMade.{recursion_made}
use Rattle.clause_reports.specs.Equations.{Site, Equation, number_of, part_name, in_signature, all_shown, last_argument, part_at, pats_of, side_of, walk_site}

-- how many parameters a constructor with all its arguments has
abbrev pub params_in : Option Built → Option ℕ
params_in b = option_map (λ b. length b.family.parameters) b

-- the head of a term at so many of its arguments and at the others as they are shown, or the term itself
abbrev pub shown_at : (show : List Term → List Term) (t : Term) → Option ℕ → Term
shown_at show t None = t
shown_at show t (Some count) = applied (head_of t) (take count (spine_of t) ++ show (drop count (spine_of t)))

-- a term of a clause with values for its variables
abbrev pub written_in : Signature → Plan → (binds : List Term) → Term → Term
written_in S plan binds t = in_signature S plan (under_solution binds t)

-- a constant of the signature at the arguments that recursion keeps
abbrev pub at_fixed : Signature → Recursion → List Term → (name : List ℕ) → Term
at_fixed S r terms name = applied (Const (number_of S name)) (terms_at r.admission.fixed terms)

-- ---- the sides with the recursion that is found

abbrev pub function_side : Signature → Plan → Pats → Site → Term
function_side S plan pats site =
    applied (Const (number_of S plan.name)) (all_shown S (written_in S plan site.binds) pats site.terms)

abbrev pub helper_side : Signature → Plan → Option Recursion → (k : ℕ) → Site → Term
helper_side S plan r k site =
    applied (applied (Const (number_of S (part_name plan k))) site.substitution) (last_argument S plan r site.terms)

abbrev pub left_side : Signature → Plan → Option Recursion → (k : ℕ) → Pats → Site → Term
left_side S plan r zero pats site = function_side S plan pats site
left_side S plan r (suc k) pats site = helper_side S plan r (suc k) site

abbrev pub right_side : Signature → Plan → Option Recursion → (side : Term) → Site → Term
right_side S plan r side site =
    cond (is_helper plan.base (head_of side))
    (applied (written_in S plan site.walked side) (last_argument S plan r site.terms))
    (written_in S plan site.binds side)

abbrev pub equation_of_sides : Site → (left right : Term) → Equation
equation_of_sides site u v = record { context = site.context; type = site.goal; left = u; right = v }

abbrev pub equation_at : Signature → Plan → Option Recursion → (k : ℕ) → Pats → (side : Term) → Site → Result Equation Stop
equation_at S plan r k pats side site =
    and_then (bounded (left_side S plan r k pats site)) (λ u.
    and_then (bounded (right_side S plan r side site)) (λ v. Ok (equation_of_sides site u v)))

-- the equation of clause `clause` of part k, whose own walk is w
abbrev pub equation_in : Signature → Plan → (k clause : ℕ) → Walk → Option Recursion → Result Equation Stop
equation_in S plan k clause w r =
    equation_at S plan r k (pats_of (part_at plan k) clause) (side_of (part_at plan k) clause) (walk_site w)

abbrev pub equation_made : Signature → Plan → (k clause : ℕ) → Walk → Result Equation Stop
equation_made S plan k clause w = and_then (recursion_made S plan) (equation_in S plan k clause w)
