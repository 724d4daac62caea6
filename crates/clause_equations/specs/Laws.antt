-- The equation of a clause that the code makes is the clause's equation, and no refusal but one is added: Deep where recursion is looked
-- for in a telescope with a type that is too high.
use Rattle.std.specs.Prelude.{◌≡◌, ℕ, ◌||◌, true, false, is_none, Ok, Err}
use Rattle.theory.specs.Signatures.{Signature}
use Rattle.core_terms.specs.Answers.{are_low}
use Rattle.core_terms.specs.CaseTrees.{Walk}
use Rattle.core_terms.specs.declared.stop.Stop.TheVariants.{Deep}
use Rattle.tree_translation.specs.Plans.{Plan, own_part}
use Rattle.clause_reports.specs.Equations.{Equation, equation_of}
use Rattle.clause_equations.specs.CodeEquations.{equation_made}

abbrev pub EquationMadeIsEquation : Type 0
EquationMadeIsEquation =
    (S : Signature) (plan : Plan) (k clause : ℕ) (w : Walk) (e : Equation) →
    equation_made S plan k clause w ≡ Ok e → equation_of S plan k clause w ≡ Ok e

abbrev pub EquationIsMade : Type 0
EquationIsMade =
    (S : Signature) (plan : Plan) (k clause : ℕ) (w : Walk) →
    (is_none plan.position || are_low (own_part plan).tele) ≡ true → equation_made S plan k clause w ≡ equation_of S plan k clause w

abbrev pub EquationIsDeep : Type 0
EquationIsDeep =
    (S : Signature) (plan : Plan) (k clause : ℕ) (w : Walk) →
    (is_none plan.position || are_low (own_part plan).tele) ≡ false → equation_made S plan k clause w ≡ Err Deep
