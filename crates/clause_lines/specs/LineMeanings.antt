-- The meanings of lines, and of clauses of plans.
use Rattle.std.specs.Prelude.{List, map}
use Rattle.theory.specs.Terms.{Term}
use Rattle.theory.specs.Telescopes.{Telescope}
use Rattle.theory.specs.Signatures.{Signature}
use Rattle.core_terms.specs.Meanings.{tele_of}
use Rattle.core_terms.specs.TreeMeanings.{walk_of}
use Rattle.core_terms.specs.declared.term.Term as code
use Rattle.clause_reports.specs.Reports as pure
use Rattle.clause_lines.specs.CodeReports as made
use Rattle.clause_lines.specs.declared.clause.PlannedClause.{PlannedClause}
use Rattle.clause_lines.specs.declared.judging.Judgement.{Judgement}
use Rattle.clause_lines.specs.declared.judging.Judgement.TheVariants.{Known, Candidate}
use Rattle.clause_lines.specs.declared.line.Line.{Line}
use Rattle.clause_lines.specs.declared.line.Line.TheVariants.{Definitional, Proved, Shadowed, Absurd}
use Rattle.core_sig.specs.Drafts.{draft_of}
use Rattle.clause_reports.specs.ProofWalks.{leaves_in}
use Rattle.drafts.specs.draft_entering.Conditions.{IsEnterableDraft}
use Rattle.leaf_terms.specs.PlanMeanings.{part_of, plan_of}
use Rattle.proof_walks.specs.proof_terms.ProofMeanings.{proof_of}
use Rattle.proof_walks.specs.PlaceScopes.{AreKeptLeaves}

-- the context and the terms of a leaf
abbrev pub leaf_shown : List code.Term × List code.Term → Telescope × List Term
leaf_shown l = (tele_of l.0, tele_of l.1)

abbrev pub line_of : Line → pure.Line
line_of Definitional = pure.Definitional
line_of (Proved n) = pure.Proved n
line_of (Shadowed earlier ctx vector leaves) = pure.Shadowed earlier (tele_of ctx) (tele_of vector) (map leaf_shown leaves)
line_of Absurd = pure.Absurd

abbrev pub clause_of : PlannedClause → made.PlannedClause
clause_of c = record {
  plan = plan_of c.plan.now;
  part = part_of c.part.now;
  number = c.number;
  clause = c.clause;
  walk = walk_of c.walk.now;
}

abbrev pub judged_of : Judgement → made.Judgement
judged_of (Known line) = made.Known (line_of line)
judged_of (Candidate proof draft) = made.Candidate (proof_of proof) (draft_of draft)

-- a proof whose leaves are kept, and a candidate that may enter
abbrev pub IsJudged : Signature → Judgement → Type 0
IsJudged S (Known line) = Unit {0}
IsJudged S (Candidate proof draft) = AreKeptLeaves S (leaves_in (proof_of proof)) × IsEnterableDraft S (draft_of draft)
