-- The laws of the equations of clauses.
use Rattle.std.specs.Prelude.{◌≡◌, ℕ, false, Ok, IfOk, List}
use Rattle.theory.specs.Terms.{Term, Const}
use Rattle.theory.specs.Telescopes.{applied}
use Rattle.theory.specs.Signatures.{Signature, Definition, IsEntryAt, IsPrefix, equation}
use Rattle.theory.specs.WellFormed.{IsWellFormed}
use Rattle.family_check.specs.Scopes.{HasPrelude}
use Rattle.case_trees.specs.Points.{under_solution}
use Rattle.case_trees.specs.Scoped.{IsScopedWalk}
use Rattle.tree_translation.specs.Plans.{Plan}
use Rattle.clause_reports.specs.Conditions.{IsEntered, IsReference}
use Rattle.clause_reports.specs.Equations.{Equation, closed_type, equation_of, in_signature, number_of, part_at, pats_of}
use Rattle.clause_reports.specs.Laws.{IsOver}
use Rattle.clause_reports.specs.ProofTerms.{proof_name}
use Rattle.clause_reports.specs.Reports.{Reference, Proved, report_of, some_absurd}
use Rattle.function_session.specs.equation_laws.Fitting.{AllFit}

-- The left side of a function's clause is the function at what is shown of the terms of the clause's own walk, which fit its patterns.
abbrev pub LeftShows : Type 0
LeftShows =
    (before S : Signature) (plan : Plan) (c : Reference) (e : Equation) → IsEntered before S plan → IsReference plan c → c.part ≡ 0 →
    some_absurd (pats_of (part_at plan 0) c.clause) ≡ false → equation_of S plan 0 c.clause c.walk ≡ Ok e →
    (us : List Term) × (e.left ≡ applied (Const (number_of S plan.name)) us)
    × AllFit S (λ t. in_signature S plan (under_solution c.walk.binds t)) (pats_of (part_at plan 0) c.clause) c.walk.terms us c.walk.binds

-- Context, type and sides of an equation are over the entries, where the clause's own walk names no others than those before the
-- plan's: an own walk is walked with the function as a constant at the end, and does not name it.
abbrev pub EquationIsOver : Type 0
EquationIsOver =
    (before S : Signature) (plan : Plan) (c : Reference) (e : Equation) → IsEntered before S plan → IsReference plan c →
    IsScopedWalk before c.walk → equation_of S plan c.part c.clause c.walk ≡ Ok e → IsOver S e

-- So the entry that proves it is a definition of the closed equation type.
abbrev pub ProvedIsTyped : Type 0
ProvedIsTyped =
    (before S : Signature) (plan : Plan) (c : Reference) (left : ℕ) → IsEntered before S plan → IsReference plan c →
    IsScopedWalk before c.walk →
    IfOk (report_of S plan c left).0 (λ r. (n : ℕ) → r.line ≡ Proved n →
    (e : Equation) × (body : Term) × (equation_of S plan c.part c.clause c.walk ≡ Ok e)
    × IsEntryAt r.signature n
    (Definition (proof_name plan c.part c.clause)
    (closed_type (part_at plan c.part).level e) body)
    × IsPrefix S r.signature × (IsWellFormed S → HasPrelude S → IsWellFormed r.signature))
