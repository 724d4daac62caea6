-- The equation that is made is that of the clause.
use Rattle.std.proofs.Common.{◌≡◌, ℕ, zero, suc, Bool, true, false, ◌||◌, is_none, Option, Some, None, option_and_then, Result, Ok, Err, refl, sym, ap, ◌∙◌}
use Rattle.theory.specs.Terms.{Term, Const}
use Rattle.theory.specs.Telescopes.{Telescope}
use Rattle.theory.specs.Signatures.{Signature}
use Rattle.theory.proofs.Spines.{applied-append}
use Rattle.core_terms.specs.Answers.{and_then, are_low, bounded}
use Rattle.core_terms.specs.Patterns.{Pats}
use Rattle.core_terms.specs.declared.stop.Stop.{Stop}
use Rattle.core_terms.specs.declared.stop.Stop.TheVariants.{Deep}
use Rattle.tree_translation.specs.Plans.{Plan, own_part}
use Rattle.tree_translation.specs.Recursion.{recursion_at, recursion_of}
use Rattle.leaf_terms.specs.RecursionMade.{made_at}
use Rattle.clause_reports.specs.Equations as pure
use Rattle.clause_reports.specs.Equations.{Site, Equation, part_at, part_name, number_of, last_argument, walk_site}
use Rattle.clause_equations.specs.CodeEquations as code
use Rattle.clause_equations.specs.Laws.{EquationMadeIsEquation, EquationIsMade, EquationIsDeep}

-- the sides, with the plan's recursion
left-is : (S : Signature) (plan : Plan) (k : ℕ) (pats : Pats) (site : Site) → code.left_side S plan (recursion_of S plan) k pats site ≡ pure.left_side S plan k pats site
left-is S plan zero pats site = refl
left-is S plan (suc k) pats site =
    sym (applied-append (Const (number_of S (part_name plan (suc k)))) site.substitution (last_argument S plan (recursion_of S plan) site.terms))

pub equation-at-is : (S : Signature) (plan : Plan) (k : ℕ) (pats : Pats) (side : Term) (site : Site)
    → code.equation_at S plan (recursion_of S plan) k pats side site ≡ pure.equation_at S plan k pats side site
equation-at-is S plan k pats side site =
    ap (λ t. and_then (bounded t) (λ u.
    and_then (bounded (pure.right_side S plan side site)) (λ v. Ok (code.equation_of_sides site u v))))
    (left-is S plan k pats site)

-- the recursion that is found, where it is looked for in a low telescope
pub found-low : (S : Signature) (tele : Telescope) (position : Option ℕ) → (is_none position || are_low tele) ≡ true
    → made_at S tele position ≡ Ok (option_and_then (recursion_at S tele) position)
found-low S tele None e = refl
found-low S tele (Some j) e = rw e refl

found-high : (S : Signature) (tele : Telescope) (position : Option ℕ) → (is_none position || are_low tele) ≡ false
    → made_at S tele position ≡ Err Deep
found-high S tele None e = absurd (cc)
found-high S tele (Some j) e = rw e refl

pub equation-is-made : EquationIsMade
equation-is-made S plan k clause w e =
    ap (λ found. and_then found (code.equation_in S plan k clause w))
    (found-low S (own_part plan).tele plan.position e)
    ∙ equation-at-is S plan k (pure.pats_of (part_at plan k) clause) (pure.side_of (part_at plan k) clause) (walk_site w)

pub equation-is-deep : EquationIsDeep
equation-is-deep S plan k clause w e =
    ap (λ found. and_then found (code.equation_in S plan k clause w))
    (found-high S (own_part plan).tele plan.position e)

err-ok : {A : Type 0} (x : A) (e : Stop) → ◌≡◌ {A = Result A Stop} (Err e) (Ok x) → ⊥
err-ok x e same = absurd (cc)

pub equation-made-is : EquationMadeIsEquation
equation-made-is S plan k clause w x e = go (is_none plan.position || are_low (own_part plan).tele) refl
  where
    go : (b : Bool) → (is_none plan.position || are_low (own_part plan).tele) ≡ b → pure.equation_of S plan k clause w ≡ Ok x
    go true low = sym (equation-is-made S plan k clause w low) ∙ e
    go false high = absurd (err-ok x Deep (sym (equation-is-deep S plan k clause w high) ∙ e))
