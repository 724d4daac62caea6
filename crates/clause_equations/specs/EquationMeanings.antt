-- The meanings of places of clauses and of equations in the code.
use Rattle.core_terms.specs.Meanings.{tree_of, tele_of}
use Rattle.clause_reports.specs.Equations as pure
use Rattle.clause_equations.specs.declared.sides.Equation.{Equation}
use Rattle.clause_equations.specs.declared.sides.Site.{Site}

abbrev pub site_of : Site → pure.Site
site_of s = record {
  context = tele_of s.ctx.now;
  goal = tree_of s.goal.now;
  substitution = tele_of s.subst.now;
  terms = tele_of s.terms.now;
  binds = tele_of s.binds.now;
  walked = tele_of s.walked.now;
}

abbrev pub equation_of : Equation → pure.Equation
equation_of e = record { context = tele_of e.ctx; type = tree_of e.ty; left = tree_of e.left; right = tree_of e.right }
