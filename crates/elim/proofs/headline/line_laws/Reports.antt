-- The lines of a plan are the reports of its clauses, and say what they say without more.
use Rattle.std.proofs.Common.{◌≡◌, ℕ, ◌+◌, ◌<◌, ◌≤◌, true, List, [], ◌∷◌, ◌++◌, length, length-append, Result, Ok, Err, IfOk, refl, subst as transport, arith}
use Rattle.std.specs.List.{All}
use Rattle.std.proofs.lemmas.List.Elements.{All-head, All-tail}
use Rattle.theory.specs.Signatures.{IsPrefix, Signature}
use Rattle.theory.specs.WellFormed.{IsWellFormed, definition}
use Rattle.theory.proofs.Pushing.{prefix_reflexive, prefix_transitive}
use Rattle.theory.proofs.Widening.{prefix_keeps}
use Rattle.core_terms.proofs.Answers.{Answers, and_next-has}
use Rattle.core_terms.specs.CaseTrees.{Walk}
use Rattle.case_trees.specs.Scoped.{IsScopedWalk}
use Rattle.tree_translation.specs.Plans as plans
use Rattle.tree_translation.specs.Plans.{Part, Plan}
use Rattle.elab_session.proofs.Resolved.{prelude-stays}
use Rattle.elab_session.proofs.WrittenDefinitions.{definition-of}
use Rattle.clause_reports.proofs.Keeping.{Grows, grows_on, grows_same}
use Rattle.clause_reports.proofs.Lines as found
use Rattle.clause_reports.proofs.ReportKeeping.{GrowsBy, report-grows}
use Rattle.clause_reports.specs.Equations.{part_at, pats_of}
use Rattle.tree_translation.specs.Naming.{part_named}
use Rattle.clause_reports.specs.Reports.{Absurd, Line, Reference, Reported, report_of, reported, some_absurd}
use Rattle.clause_reports.specs.Stops.{ReportStop}
use Rattle.clause_reports.proofs.LineLaws.{absurd-line}
use Rattle.clause_reports.specs.elaboration.Functions.{ClauseLine, Following, Lines, report_parts, report_walks, with_line}
use Rattle.clause_reports.specs.elaboration.Refusals.{owner_of, reporting}
use Rattle.clause_reports.proofs.elaboration.Keeping.{no_report-has}
use Rattle.family_check.specs.Scopes.{HasPrelude}
use Rattle.function_session.specs.Evidence.{references, references_from}
use Rattle.resolve.specs.Functions.{Function}
use Rattle.elim.specs.headline.line_laws.Lines.{AreReported, IsProof, IsReported}
use Rattle.elim.proofs.written_functions.Numbers.{all-under, scoped-under, telescope-under}
use Rattle.elim.proofs.headline.line_laws.PlanWalks.{AreScopedWalks, IsPlanScoped}
use Rattle.elim.proofs.written_functions.Proofs.{IsClosedUnder, IsProvedBy, SaysProved, report-says}
use Rattle.elim.proofs.written_functions.Sides.{IsWalkUnder, type-under}
use Rattle.elim.specs.written_functions.Clauses.{with_own}
use Rattle.elim.proofs.written_functions.Tellings.{prefix-longer}

-- ---- signatures on the way

-- a well-formed signature with more entries than there are before the function
pub record IsBase (plan : Plan) (U : Signature) : Type 0 where
  pub well : IsWellFormed U
  pub prelude : HasPrelude U
  pub low : plan.base < length U.entries

base-grows : (plan : Plan) (U V : Signature) → Grows U V → IsBase plan U → IsBase plan V
base-grows plan U V g b = record {
  well = g.keeps b.well b.prelude;
  prelude = prelude-stays U V b.prelude g.prefix;
  low = omega (arith, b.low, prefix-longer U V g.prefix);
}

-- ---- one clause

-- the facts of a clause's report
record IsTold (U : Signature) (plan : Plan) (c : Reference) (left : ℕ) (r : Reported) : Type 0 where
  is : (report_of U plan c left).0 ≡ Ok r
  grows : Grows U r.signature
  proved : SaysProved U plan c r
  said : found.Said U plan c r
  absurd_line : some_absurd (pats_of (part_at plan c.part) c.clause) ≡ true → r.line ≡ Absurd

report-told : (U : Signature) (plan : Plan) (c : Reference) (left : ℕ) → IsClosedUnder U plan c → Answers (IsTold U plan c left) (report_of U plan c left)
report-told U plan c left under =
    by (report_of U plan c left).0 refl (report-grows U plan c left) (report-says U plan c left under) (found.report-says U plan c left)
    (absurd-line U plan c left)
  where
    by : (r : Result Reported ReportStop) → (report_of U plan c left).0 ≡ r → IfOk r (GrowsBy U) → IfOk r (SaysProved U plan c) → IfOk r (found.Said U plan c)
        → IfOk r (λ r. some_absurd (pats_of (part_at plan c.part) c.clause) ≡ true → r.line ≡ Absurd) → IfOk r (IsTold U plan c left)
    by (Ok r) is g p s a = record { is = is; grows = g; proved = p; said = s; absurd_line = a }
    by (Err e) is g p s a = tt

-- an entry that proves the equation has its type by the rules, in each later signature
proof-in : (U V T : Signature) (plan : Plan) (c : Reference) (n : ℕ) → IsPrefix V T → IsWellFormed T → IsProvedBy U plan c V n → IsProof U plan c T n
proof-in U V T plan c n more well h = record {
  given = h.given;
  is = h.is;
  body = h.body;
  entry = (prefix_keeps more).entry n _ h.entry;
  typed = definition-of (well.each n _ ((prefix_keeps more).entry n _ h.entry));
}

-- the line of a clause of the plan
abbrev line_at : Plan → Reference → Line → ClauseLine
line_at plan c line = record { function = part_named plan.name c.part; clause = c.clause + 1; line = line }

told-reported : (U T : Signature) (plan : Plan) (c : Reference) (left : ℕ) (r : Reported) → IsTold U plan c left r → IsPrefix r.signature T → IsWellFormed T
    → IsReported U T plan c (line_at plan c r.line)
told-reported U T plan c left r h more well = record {
  owner = refl;
  before = U;
  after = r.signature;
  longer = prefix_reflexive U;
  grown = h.grows.prefix;
  rest = more;
  left = left;
  reports = h.is;
  proof = λ n is. proof-in U r.signature T plan c n more well (h.proved n is);
  absurd_line = ((λ is. transport (found.Says U plan c r.signature) is h.said), h.absurd_line);
}

-- lines over a longer signature
pub lines-from : (R S T : Signature) (plan : Plan) (clauses : List Reference) (lines : List ClauseLine) → IsPrefix R S
    → AreReported S T plan clauses lines → AreReported R T plan clauses lines
lines-from R S T plan [] [] p h = tt
lines-from R S T plan (c ∷ clauses) (l ∷ lines) p h = (
  record {
    owner = h.0.owner;
    before = h.0.before;
    after = h.0.after;
    longer = prefix_transitive R S h.0.before p h.0.longer;
    grown = h.0.grown;
    rest = h.0.rest;
    left = h.0.left;
    reports = h.0.reports;
    proof = h.0.proof;
    absurd_line = h.0.absurd_line;
  },
  lines-from R S T plan clauses lines p h.1,
)
lines-from R S T plan [] (l ∷ lines) p h = absurd h
lines-from R S T plan (c ∷ clauses) [] p h = absurd h

-- ---- all clauses

-- the lines are those of these clauses, and the signature has come from U
pub record AreReports (U : Signature) (plan : Plan) (cs : List Reference) (lines : Lines) : Type 0 where
  pub grows : Grows U lines.signature
  pub evidence : AreReported U lines.signature plan cs lines.lines

-- ones that follow
abbrev AllReport : Plan → List Reference → Following → Type 0
AllReport plan cs next = (U : Signature) (left : ℕ) → IsBase plan U → Answers (AreReports U plan cs) (next U left)

one-more : (U : Signature) (plan : Plan) (c : Reference) (cs : List Reference) (left : ℕ) (r : Reported) (lines : Lines) → IsBase plan U
    → IsTold U plan c left r → AreReports r.signature plan cs lines → AreReports U plan (c ∷ cs) (with_line (line_at plan c r.line) lines)
one-more U plan c cs left r lines b told h =
    let b' = base-grows plan r.signature lines.signature h.grows (base-grows plan U r.signature told.grows b) in
    record {
      grows = grows_on U r.signature lines.signature told.grows h.grows;
      evidence = (
        told-reported U lines.signature plan c left r told h.grows.prefix b'.well,
        lines-from U r.signature lines.signature plan cs lines.lines told.grows.prefix h.evidence,
      );
    }

walk-under : (S U : Signature) (w : Walk) → length S.entries ≤ length U.entries → IsScopedWalk S w → IsWalkUnder (length U.entries) w
walk-under S U w le h = record {
  context = telescope-under S 0 (length U.entries) w.ctx le h.context;
  goal = scoped-under S (length w.ctx) (length U.entries) w.goal le h.goal;
  substitution = all-under S (length w.ctx) (length U.entries) w.subst le h.substitution;
  terms = all-under S (length w.ctx) (length U.entries) w.terms le h.terms;
}

-- the signature with the function's constant has one entry more
with-count : (S : Signature) (f : Function) → length (with_own S f).entries ≡ length S.entries + 1
with-count S f = length-append S.entries _

closed-under : (S : Signature) (f : Function) (plan : Plan) (U : Signature) (c : Reference) → IsPlanScoped S f plan → IsBase plan U
    → IsScopedWalk (with_own S f) c.walk → IsClosedUnder U plan c
closed-under S f plan U c p b w =
    λ e is.
    let le : length (with_own S f).entries ≤ length U.entries = omega (arith, with-count S f, p.base, b.low) in
    type-under U plan c e b.low (telescope-under (with_own S f) 0 (length U.entries) (plans.own_part plan).tele le p.tele)
    (walk-under (with_own S f) U c.walk le w) is

module _ (S : Signature) (f : Function) (plan : Plan) (p : IsPlanScoped S f plan) where
  walks-report : (k number : ℕ) (walks : List Walk) (next : Following) (cs : List Reference) → All (IsScopedWalk (with_own S f)) walks
      → AllReport plan cs next → AllReport plan (references k number walks ++ cs) (report_walks plan k number walks next)
  walks-report k number [] next cs all h U left b = h U left b
  walks-report k number (w ∷ walks) next cs all h U left b =
      let owner = owner_of (part_named plan.name k) number in
      let c : Reference = record { part = k; clause = number; walk = w } in
      let rest_cs = references k (number + 1) walks ++ cs in
      let P = AreReports U plan (c ∷ rest_cs) in
      let under = closed-under S f plan U c p b (All-head (IsScopedWalk (with_own S f)) w walks all) in
      and_next-has (IsTold U plan c left) P (reporting U owner (report_of U plan c left)) _
      (no_report-has (IsTold U plan c left) U owner (report_of U plan c left).0 (report-told U plan c left under)) (λ r rest t.
      and_next-has (AreReports r.signature plan rest_cs) P (report_walks plan k (number + 1) walks next r.signature rest) _
      (walks-report k (number + 1) walks next cs (All-tail (IsScopedWalk (with_own S f)) w walks all) h r.signature rest
      (base-grows plan U r.signature t.grows b)) (λ lines end i.
      one-more U plan c rest_cs left r lines b t i))

  pub parts-report : (k : ℕ) (parts : List Part) → All (AreScopedWalks (with_own S f)) parts
      → AllReport plan (references_from k parts) (report_parts plan k parts)
  parts-report k [] all U left b = record { grows = grows_same U; evidence = tt }
  parts-report k (part ∷ parts) all U left b =
      walks-report k 0 part.walks (report_parts plan (k + 1) parts) (references_from (k + 1) parts)
      (All-head (AreScopedWalks (with_own S f)) part parts all)
      (parts-report (k + 1) parts (All-tail (AreScopedWalks (with_own S f)) part parts all)) U left b
