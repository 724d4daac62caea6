-- The laws of the reports of clauses, however these are found.
use Rattle.std.specs.Prelude.{◌≡◌, ◌↔◌, ℕ, suc, ◌<◌, ◌≤◌, true, Ok, IfOk, List, All, length, map}
use Rattle.theory.specs.Terms.{Term}
use Rattle.theory.specs.Conversion.{Converts}
use Rattle.theory.specs.Signatures.{Signature, Definition, IsEntryAt, IsPrefix, equation}
use Rattle.theory.specs.SignatureScopes.{IsScoped, IsScopedTelescope}
use Rattle.theory.specs.WellFormed.{IsWellFormed}
use Rattle.core_sig.specs.Drafts.{Draft}
use Rattle.family_check.specs.Entering.{Entered}
use Rattle.family_check.specs.Scopes.{HasPrelude}
use Rattle.case_trees.specs.pattern_vectors.Matching.{matches_all}
use Rattle.tree_translation.specs.Plans.{Plan}
use Rattle.clause_reports.specs.Conditions.{IsEntered, IsReference}
use Rattle.clause_reports.specs.DraftEntering.{enter_draft_of}
use Rattle.clause_reports.specs.Equations.{Equation, equation_of, part_at, pats_of, closed_type}
use Rattle.clause_reports.specs.ProofTerms.{proof_name}
use Rattle.clause_reports.specs.Reports.{Reference, Reported, Definitional, Proved, Shadowed, Absurd, report_of, some_absurd, order_in, shown_leaf}
use Rattle.clause_reports.specs.Shadows.{leaves_of, equation_at_leaf}

-- ---- entering

-- No units are given back.
abbrev pub EnteringSpends : Type 0
EnteringSpends = (S : Signature) (d : Draft) (left : ℕ) → (enter_draft_of S d left).1 ≤ left

-- A well-formed signature stays well formed.
abbrev pub EnteringKeepsWellFormed : Type 0
EnteringKeepsWellFormed =
    (S : Signature) (d : Draft) (left : ℕ) → IsWellFormed S → HasPrelude S → IfOk (enter_draft_of S d left).0 (λ e. IsWellFormed e.signature)

-- The entry comes last, after others that were not there.
pub record Enters (S : Signature) (e : Entered) : Type 0 where
  pub prefix : IsPrefix S e.signature
  pub last : length e.signature.entries ≡ suc e.number

abbrev pub EnteringAdds : Type 0
EnteringAdds = (S : Signature) (d : Draft) (left : ℕ) → IfOk (enter_draft_of S d left).0 (Enters S)

-- ---- reports

abbrev pub OfReports : (Signature → Plan → Reference → Reported → Type 0) → Type 0
OfReports Holds =
    (before S : Signature) (plan : Plan) (c : Reference) (left : ℕ) → IsEntered before S plan → IsReference plan c →
    IfOk (report_of S plan c left).0 (Holds S plan c)

abbrev pub ReportSpends : Type 0
ReportSpends = (S : Signature) (plan : Plan) (c : Reference) (left : ℕ) → (report_of S plan c left).1 ≤ left

-- A well-formed signature stays well formed, and keeps its entries.
abbrev pub ReportKeepsWellFormed : Type 0
ReportKeepsWellFormed =
    (S : Signature) (plan : Plan) (c : Reference) (left : ℕ) → IsWellFormed S → HasPrelude S →
    IfOk (report_of S plan c left).0 (λ r. IsPrefix S r.signature × IsWellFormed r.signature)

-- definitional: the sides of the clause's equation convert
abbrev pub DefinitionalConverts : Type 0
DefinitionalConverts =
    OfReports (λ S plan c r. r.line ≡ Definitional →
    (e : Equation) × (equation_of S plan c.part c.clause c.walk ≡ Ok e) × Converts S e.left e.right × (r.signature ≡ S))

-- the terms of an equation are over the entries of S
pub record IsOver (S : Signature) (e : Equation) : Type 0 where
  pub context : IsScopedTelescope S 0 e.context
  pub type : IsScoped S (length e.context) e.type
  pub left : IsScoped S (length e.context) e.left
  pub right : IsScoped S (length e.context) e.right

-- proved: the entry is a definition of the closed equation type, where the terms of the equation are over the entries
abbrev pub ProvedHasType : Type 0
ProvedHasType =
    OfReports (λ S plan c r. (n : ℕ) → r.line ≡ Proved n →
    ((e : Equation) → equation_of S plan c.part c.clause c.walk ≡ Ok e → IsOver S e) →
    (e : Equation) × (body : Term) × (equation_of S plan c.part c.clause c.walk ≡ Ok e)
    × IsEntryAt r.signature n
    (Definition (proof_name plan c.part c.clause)
    (closed_type (part_at plan c.part).level e) body)
    × IsPrefix S r.signature × (IsWellFormed S → HasPrelude S → IsWellFormed r.signature))

-- shadowed: an earlier clause and the clause itself match the arguments; the leaves are all leaves of the clause in its tree, in order, and
-- the equation converts at each of them
abbrev pub ShadowedMatches : Type 0
ShadowedMatches =
    OfReports (λ S plan c r. (earlier : ℕ) (context vector : List Term) (leaves : List (List Term × List Term)) →
    r.line ≡ Shadowed earlier context vector leaves →
    let part = part_at plan c.part in
    (earlier < c.clause) × (matches_all S (pats_of part c.clause) vector ≡ true) × (matches_all S (pats_of part earlier) vector ≡ true)
    × (leaves ≡ map shown_leaf (leaves_of c.clause part.tree))
    × All (λ leaf. (e : Equation) × (equation_at_leaf S plan c.part c.clause (order_in S plan c.part) c.walk leaf ≡ Ok e) × Converts S e.left e.right)
    (leaves_of c.clause part.tree)
    × (r.signature ≡ S))

-- absurd: exactly for a clause with `( )`
abbrev pub AbsurdIsAbsurd : Type 0
AbsurdIsAbsurd =
    OfReports (λ S plan c r. (r.line ≡ Absurd) ↔ (some_absurd (pats_of (part_at plan c.part) c.clause) ≡ true))
