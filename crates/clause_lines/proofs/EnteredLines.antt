-- The line of a clause whose candidate enters, or does not.
use Rattle.std.proofs.Common.{◌≡◌, ◌⊎◌, inl, inr, ℕ, List, Result, Ok, Err, refl, ap, subst as transport, arith}
use Rattle.theory.specs.Signatures.{Signature}
use Rattle.core_terms.specs.Answers.{Unless}
use Rattle.core_terms.specs.declared.stop.Stop.TheVariants as variant
use Rattle.core_terms.specs.CaseTrees.{Walk}
use Rattle.core_sig.specs.Drafts.{Draft}
use Rattle.family_check.specs.Entering.{Entered, entered_at}
use Rattle.tree_translation.specs.Plans.{Part, Plan}
use Rattle.clause_reports.specs.DraftEntering.{enter_draft_of}
use Rattle.clause_reports.specs.Equations.{part_at}
use Rattle.clause_reports.specs.ProofWalks.{Proof}
use Rattle.clause_reports.specs.Reports.{Reported, reported}
use Rattle.clause_reports.specs.Stops as stops
use Rattle.clause_reports.specs.Stops.{Reporting, Halts}
use Rattle.drafts.specs.draft_entering.Depths.{own_name}
use Rattle.drafts.specs.draft_entering.Stops.{IsUnforeseen, Reports, stop_of}
use Rattle.drafts.specs.declared.draft_entering.stop.ReportStop.{ReportStop}
use Rattle.drafts.specs.declared.draft_entering.stop.ReportStop.TheVariants.{Stop, Stuck, Rejected}
use Rattle.clause_lines.specs.CodeReports.{PlannedClause, clause_report, denied_made, entering_made, on_entered, report_made}
use Rattle.clause_lines.specs.LineMeanings.{line_of}
use Rattle.clause_lines.specs.declared.line.Line.{Line}
use Rattle.clause_lines.specs.declared.line.Line.TheVariants.{Proved}

-- the line of a clause by the answer of entering its candidate
on_entering : Signature → PlannedClause → Proof → (name : List ℕ) → Reporting Entered → Reporting Reported
on_entering S c proof name entered = on_entered S c proof name entered.0 entered.1

pub entered-proved : (S T : Signature) (c : PlannedClause) (proof : Proof) (d : Draft) (number left end : ℕ)
    → ◌≡◌ {A = Reporting Entered} (Ok (entered_at T number), end) (enter_draft_of S d left)
    → ◌≡◌ {A = Reporting Reported} (Ok (reported T (line_of (Proved number))), end) (entering_made S c proof d left)
unfolding on_entering entering_made
entered-proved S T c proof d number left end is = ap (on_entering S c proof (own_name d)) is

-- ---- out of memory

-- a refusal is out of memory, or not
memory-or-not : (e : ReportStop) → (e ≡ Stop variant.Memory) ⊎ (¬ (e ≡ Stop variant.Memory))
memory-or-not (Stop variant.Memory) = inl refl
memory-or-not (Stop variant.Fuel) = inr (λ h. absurd (grind arith))
memory-or-not (Stop variant.Deep) = inr (λ h. absurd (grind arith))
memory-or-not (Stop variant.PoolFull) = inr (λ h. absurd (grind arith))
memory-or-not (Stuck ctx left right why) = inr (λ h. absurd (grind arith))
memory-or-not (Rejected entry line place ctx reason) = inr (λ h. absurd (grind arith))

is-memory : (e : ReportStop) → stop_of e ≡ Halts variant.Memory → e ≡ Stop variant.Memory
is-memory (Stop variant.Memory) h = refl
is-memory (Stop variant.Fuel) h = absurd (grind arith)
is-memory (Stop variant.Deep) h = absurd (grind arith)
is-memory (Stop variant.PoolFull) h = absurd (grind arith)
is-memory (Stuck ctx left right why) h = absurd (grind arith)
is-memory (Rejected entry line place ctx reason) h = absurd (grind arith)

refusal-is : {A : Type 0} (e f : stops.ReportStop) (n m : ℕ) → ◌≡◌ {A = Reporting A} (Err e, n) (Err f, m) → e ≡ f
refusal-is {A} e f n m h = err-is (ap (λ (r : Reporting A). r.0) h)
  where
    err-is : ◌≡◌ {A = Result A stops.ReportStop} (Err e) (Err f) → e ≡ f
    err-is k = cc

-- where memory ran out, the answer is Memory, and nothing else has to hold
of-memory : (T : Signature) (result : Result Line ReportStop) (left end : ℕ) (meant : Reporting Reported)
    → Reports (λ l. reported T (line_of l)) result end (Err (Halts variant.Memory), left) → Reports (λ l. reported T (line_of l)) result end meant
of-memory T (Ok line) left end meant h = absurd (grind arith)
of-memory T (Err e) left end meant h = λ foreseen. absurd (foreseen (is-memory e (refusal-is (stop_of e) (Halts variant.Memory) end left (h foreseen))))

pub denied-answers : (S T : Signature) → T ≡ S → (c : PlannedClause) (proof : Proof) (d : Draft) (left mid end : ℕ) (stop : ReportStop)
    → Unless (IsUnforeseen stop) (◌≡◌ {A = Reporting Entered} (Err (stop_of stop), mid) (enter_draft_of S d left))
    → (result : Result Line ReportStop) → Reports (λ l. reported T (line_of l)) result end (denied_made T c proof (own_name d) (stop_of stop) mid)
    → Reports (λ l. reported T (line_of l)) result end (entering_made S c proof d left)
unfolding on_entering entering_made
denied-answers S T same c proof d left mid end stop entered result h = by (memory-or-not stop)
  where
    by : (stop ≡ Stop variant.Memory) ⊎ (¬ (stop ≡ Stop variant.Memory)) → Reports (λ l. reported T (line_of l)) result end (entering_made S c proof d left)
    by (inl memory) =
        of-memory T result mid end (entering_made S c proof d left)
        (transport (λ s. Reports (λ l. reported T (line_of l)) result end (denied_made T c proof (own_name d) (stop_of s) mid)) memory h)
    by (inr other) =
        transport (Reports (λ l. reported T (line_of l)) result end) (ap (on_entering S c proof (own_name d)) (entered other))
        (transport (λ U. Reports (λ l. reported T (line_of l)) result end (denied_made U c proof (own_name d) (stop_of stop) mid)) same h)

-- ---- the clause of a plan

abbrev in_part : Plan → Part → (number clause : ℕ) → Walk → PlannedClause
in_part plan part number clause walk = record { plan = plan; part = part; number = number; clause = clause; walk = walk }

pub report-in-part : (S T : Signature) (plan : Plan) (part : Part) (number clause : ℕ) (walk : Walk) (left end : ℕ) (result : Result Line ReportStop)
    → part ≡ part_at plan number
    → Reports (λ l. reported T (line_of l)) result end (clause_report S (in_part plan part number clause walk) left)
    → Reports (λ l. reported T (line_of l)) result end (report_made S plan (record { part = number; clause = clause; walk = walk }) left)
report-in-part S T plan part number clause walk left end result is h =
    transport (λ q. Reports (λ l. reported T (line_of l)) result end (clause_report S (in_part plan q number clause walk) left)) is h
