-- The lines of a plan: one for each walk, in order, over a signature that goes on.
use Rattle.std.proofs.Common.{◌≡◌, ℕ, ◌+◌, List, [], ◌∷◌, ◌++◌, map, length, Ok, refl, ap}
use Rattle.std.proofs.lemmas.List.Elements.{All-weaker}
use Rattle.theory.specs.Conversion.{Converts}
use Rattle.theory.specs.Signatures.{Signature, IsPrefix}
use Rattle.theory.proofs.Pushing.{prefix_reflexive, prefix_transitive}
use Rattle.core_terms.specs.CaseTrees.{Walk}
use Rattle.core_terms.proofs.Answers.{Answers, and_next-has}
use Rattle.tree_translation.specs.Plans.{Plan, Part}
use Rattle.clause_reports.specs.Equations.{Equation, part_at}
use Rattle.tree_translation.specs.Naming.{part_named}
use Rattle.clause_reports.specs.Reports.{Line, Definitional, Proved, Shadowed, Absurd, Reference, Reported, order_in, report_of}
use Rattle.clause_reports.specs.Shadows.{TreeLeaf, equation_at_leaf, leaves_of}
use Rattle.clause_reports.proofs.Keeping.{Grows, grows_same, grows_on, weaker-of-two}
use Rattle.clause_reports.proofs.Lines.{Said, report-says}
use Rattle.clause_reports.proofs.Lines as found
use Rattle.clause_reports.proofs.ReportKeeping.{GrowsBy, report-grows}
use Rattle.clause_reports.specs.elaboration.Functions.{ClauseLine, Following, Lines, report_parts, report_walks, with_line}
use Rattle.clause_reports.specs.elaboration.Refusals.{Owner, owner_of, reporting}
use Rattle.clause_reports.proofs.elaboration.Keeping.{no_report-has}
use Rattle.function_session.specs.Evidence.{AreLinesOf, HasConverting, Says, line_owner, references, references_from}
use Rattle.function_session.proofs.Counting.{numbered, numbered_from}
use Rattle.function_session.proofs.Planned.{part_counts}

-- ---- the statement of a line

-- the equation of the clause at a leaf converts
abbrev ConvertsAt : Signature → Plan → Reference → TreeLeaf → Type 0
ConvertsAt S plan c leaf =
    (e : Equation) × (equation_at_leaf S plan c.part c.clause (order_in S plan c.part) c.walk leaf ≡ Ok e) × Converts S e.left e.right

line-says : (S : Signature) (plan : Plan) (c : Reference) (T : Signature) (l : Line) → found.Says S plan c T l → Says S plan c T l
line-says S plan c T Definitional h = record { given = h.0.equation; is = h.0.is; converts = h.0.converts }
line-says S plan c T (Proved n) h = record { given = h.equation; is = h.is; body = h.body; entry = h.entry }
line-says S plan c T (Shadowed earlier context vector leaves) h = record {
  before = h.before;
  own = h.own;
  other = h.other;
  shown = h.shown;
  converts =
      All-weaker (ConvertsAt S plan c)
      (λ (leaf : TreeLeaf). HasConverting S (equation_at_leaf S plan c.part c.clause (order_in S plan c.part) c.walk leaf))
      (λ leaf x. record { given = x.0; is = x.1; converts = x.2 }) (leaves_of c.clause (part_at plan c.part).tree) h.converts;
}
line-says S plan c T Absurd h = h

-- lines over a longer signature
pub lines-from : (R S T : Signature) (plan : Plan) (clauses : List Reference) (lines : List ClauseLine) → IsPrefix R S
    → AreLinesOf S T plan clauses lines → AreLinesOf R T plan clauses lines
lines-from R S T plan [] [] p h = tt
lines-from R S T plan (c ∷ clauses) (l ∷ lines) p h = (
  record {
    owner = h.0.owner;
    before = h.0.before;
    after = h.0.after;
    longer = prefix_transitive R S h.0.before p h.0.longer;
    grown = h.0.grown;
    rest = h.0.rest;
    says = h.0.says;
  },
  lines-from R S T plan clauses lines p h.1,
)
lines-from R S T plan [] (l ∷ lines) p h = absurd h
lines-from R S T plan (c ∷ clauses) [] p h = absurd h

-- the line of a clause of the plan
abbrev line_at : Plan → Reference → Line → ClauseLine
line_at plan c line = record { function = part_named plan.name c.part; clause = c.clause + 1; line = line }

-- the lines are those of these clauses, and the signature has come from S
pub record Reports (S : Signature) (plan : Plan) (cs : List Reference) (os : List Owner) (lines : Lines) : Type 0 where
  pub grows : Grows S lines.signature
  pub owners : map line_owner lines.lines ≡ os
  pub evidence : AreLinesOf S lines.signature plan cs lines.lines

-- ones that follow
abbrev AllReport : Plan → List Reference → List Owner → Following → Type 0
AllReport plan clauses owners next = (S : Signature) (left : ℕ) → Answers (Reports S plan clauses owners) (next S left)

-- one more line before them
one-more : (S : Signature) (plan : Plan) (c : Reference) (clauses : List Reference) (owners : List Owner) (r : Reported) (lines : Lines)
    → Grows S r.signature → Said S plan c r → Reports r.signature plan clauses owners lines
    → Reports S plan (c ∷ clauses) (owner_of (part_named plan.name c.part) c.clause ∷ owners)
    (with_line (line_at plan c r.line) lines)
one-more S plan c clauses owners r lines g said h = record {
  grows = grows_on S r.signature lines.signature g h.grows;
  owners = ap (λ others. owner_of (part_named plan.name c.part) c.clause ∷ others) h.owners;
  evidence = (
    record {
      owner = refl;
      before = S;
      after = r.signature;
      longer = prefix_reflexive S;
      grown = g.prefix;
      rest = h.grows.prefix;
      says = line-says S plan c r.signature r.line said;
    },
    lines-from S r.signature lines.signature plan clauses lines.lines g.prefix h.evidence,
  );
}

-- a report extends the signature, and the statement of its line holds
pub record Told (S : Signature) (plan : Plan) (c : Reference) (r : Reported) : Type 0 where
  pub grows : Grows S r.signature
  pub said : Said S plan c r

report-told : (S : Signature) (plan : Plan) (c : Reference) (left : ℕ) → Answers (Told S plan c) (report_of S plan c left)
report-told S plan c left =
    weaker-of-two (GrowsBy S) (Said S plan c) (Told S plan c) (report_of S plan c left).0 (report-grows S plan c left) (report-says S plan c left)
    (λ r g said. record { grows = g; said = said })

walks-report : (plan : Plan) (k number : ℕ) (walks : List Walk) (next : Following) (clauses : List Reference) (owners : List Owner)
    → AllReport plan clauses owners next
    → AllReport plan (references k number walks ++ clauses) (numbered plan.name k number (length walks) ++ owners) (report_walks plan k number walks next)
walks-report plan k number [] next clauses owners h S left = h S left
walks-report plan k number (w ∷ walks) next clauses owners h S left =
    let owner = owner_of (part_named plan.name k) number in
    let c : Reference = record { part = k; clause = number; walk = w } in
    let cs = references k (number + 1) walks ++ clauses in
    let os = numbered plan.name k (number + 1) (length walks) ++ owners in
    let P = Reports S plan (c ∷ cs) (owner ∷ os) in
    and_next-has (Told S plan c) P (reporting S owner (report_of S plan c left)) _
    (no_report-has (Told S plan c) S owner (report_of S plan c left).0 (report-told S plan c left)) (λ r rest t.
    and_next-has (Reports r.signature plan cs os) P (report_walks plan k (number + 1) walks next r.signature rest) _
    (walks-report plan k (number + 1) walks next clauses owners h r.signature rest) (λ lines end i.
    one-more S plan c cs os r lines t.grows t.said i))

pub parts-report : (plan : Plan) (k : ℕ) (parts : List Part)
    → AllReport plan (references_from k parts) (numbered_from plan.name k (part_counts parts)) (report_parts plan k parts)
parts-report plan k [] S left = record { grows = grows_same S; owners = refl; evidence = tt }
parts-report plan k (part ∷ parts) S left =
    walks-report plan k 0 part.walks (report_parts plan (k + 1) parts) (references_from (k + 1) parts)
    (numbered_from plan.name (k + 1) (part_counts parts)) (parts-report plan (k + 1) parts) S left
