-- The line of a clause as the code finds it. It is the clause's own, or Deep: where the equation, its walk or its proof is Deep; where a
-- side of an equation names a number that is no entry's, or has a variable that its context lacks; and where a proof names something that
-- is neither an entry nor generated.
use Rattle.std.specs.Prelude.{ℕ, zero, suc, Bool, true, false, ◌&&◌, not, nat_lt, cond, bytes_eq, Option, None, List, [], ◌∷◌, length, map, Result, Ok, Err}
use Rattle.theory.specs.Terms.{Term}
use Rattle.theory.specs.Telescopes.{Telescope}
use Rattle.theory.specs.Signatures.{Signature}
use Rattle.core_terms.specs.Answers.{and_next, and_then}
use Rattle.core_terms.specs.CaseTrees.{Walk}
use Rattle.core_terms.specs.declared.stop.Stop.{Stop}
use Rattle.core_terms.specs.declared.stop.Stop.TheVariants.{Deep}
use Rattle.core_sig.specs.Drafts.{Draft}
use Rattle.family_check.specs.Entering.{Entered}
use Rattle.kernel_reduce.specs.Comparison.{convertible_of}
use Rattle.kernel_reduce.specs.Reduction.{nesting}
use Rattle.case_trees.specs.pattern_vectors.Matching.{matches_all}
use Rattle.tree_translation.specs.Plans.{Plan, Part, own_part}
use Rattle.tree_translation.specs.Recursion.{Recursion, order_of}
use Rattle.leaf_terms.specs.RecursionMade.{recursion_made}
use Rattle.clause_reports.specs.DraftEntering.{enter_draft_of}
use Rattle.clause_reports.specs.Equations.{Equation, Site, leaf_site, part_at, part_name, pats_of, side_of}
use Rattle.clause_reports.specs.ProofWalks.{Place, Proof, leaves_in}
use Rattle.clause_reports.specs.Reports.{Line, Definitional, Proved, Shadowed, Absurd, Reference, Reported, reported, shown_leaf, some_absurd}
use Rattle.clause_reports.specs.Shadows.{TreeLeaf, leaves_of, vector_of}
use Rattle.clause_reports.specs.Stops.{ReportStop, Reporting, Halts, Stuck, Rejected, answers, or_halts, halting}
use Rattle.clause_equations.specs.CodeEquations.{equation_at, equation_made}
use Rattle.drafts.specs.draft_checks.Checks.{enterable}
use Rattle.drafts.specs.draft_entering.Depths.{own_name}
use Rattle.proof_walks.specs.proof_terms.CodeProofs.{candidate_made, name_made}
use Rattle.proof_walks.specs.PlaceScopes.{is_scoped}
use Rattle.proof_walks.specs.Starts.{walk_made}

-- A clause of a plan, with its own walk. `number` is that of its part.
pub record PlannedClause : Type 0 where
  pub plan : Plan
  pub part : Part
  pub number : ℕ
  pub clause : ℕ
  pub walk : Walk

abbrev pub in_plan : Plan → Reference → PlannedClause
in_plan plan c = record { plan = plan; part = part_at plan c.part; number = c.part; clause = c.clause; walk = c.walk }

-- ---- sides

-- both terms are over n variables, and name entries of S
abbrev pub can_be_compared : Signature → (n : ℕ) → (u v : Term) → Bool
can_be_compared S n u v = is_scoped S n u && is_scoped S n v

abbrev pub sides_compared : Signature → (n : ℕ) → (u v : Term) → ℕ → Reporting Bool
sides_compared S n u v left =
    cond (can_be_compared S n u v) (halting (convertible_of S nesting u v left)) (answers (Err (Halts Deep)) left)

abbrev pub equation_converts : Signature → Equation → ℕ → Reporting Bool
equation_converts S e left = sides_compared S (length e.context) e.left e.right left

-- ---- leaves of the tree

-- the order of the variables from which the tree of a part starts
abbrev pub order_at : (number : ℕ) → Plan → Part → Option Recursion → List ℕ
order_at zero plan part r = order_of (length (own_part plan).tele) r
order_at (suc k) plan part r = order_of (length part.tele) None

abbrev pub first_order : PlannedClause → Option Recursion → List ℕ
first_order c r = order_at c.number c.plan c.part r

-- the equation of the clause at its place
abbrev pub equation_in : Signature → PlannedClause → Option Recursion → Site → Result Equation Stop
equation_in S c r site = equation_at S c.plan r c.number (pats_of c.part c.clause) (side_of c.part c.clause) site

-- the equation of the clause at a leaf
abbrev pub equation_there : Signature → PlannedClause → Option Recursion → (order : List ℕ) → TreeLeaf → Result Equation Stop
equation_there S c r order l = equation_in S c r (leaf_site order c.walk l.context l.goal l.substitution l.terms l.binds)

-- whether the equation converts there
abbrev pub converts_there : Signature → PlannedClause → Option Recursion → (order : List ℕ) → TreeLeaf → ℕ → Reporting Bool
converts_there S c r order l left =
    and_next (answers (or_halts (equation_there S c r order l)) left) (λ e rest. equation_converts S e rest)

abbrev pub converts_at_all : Signature → PlannedClause → Option Recursion → (order : List ℕ) → List TreeLeaf → ℕ → Reporting Bool
converts_at_all S c r order [] left = answers (Ok true) left
converts_at_all S c r order (l ∷ leaves) left =
    and_next (converts_there S c r order l left) (λ holds rest.
    cond holds (converts_at_all S c r order leaves rest) (answers (Ok false) rest))

abbrev pub converts_with : Signature → PlannedClause → List TreeLeaf → Option Recursion → ℕ → Reporting Bool
converts_with S c leaves r left = converts_at_all S c r (first_order c r) leaves left

abbrev pub converts_at_leaves : Signature → PlannedClause → List TreeLeaf → ℕ → Reporting Bool
converts_at_leaves S c leaves left = and_next (answers (or_halts (recursion_made S c.plan)) left) (converts_with S c leaves)

-- ---- shadowed clauses: `stop` is the rejection of the candidate

abbrev pub if_shadowed : Signature → (stop : ReportStop) → (earlier : ℕ) → Telescope → (vector : List Term) → List TreeLeaf → Bool → Result Reported ReportStop
if_shadowed S stop earlier context vector leaves true = Ok (reported S (Shadowed earlier context vector (map shown_leaf leaves)))
if_shadowed S stop earlier context vector leaves false = Err stop

-- both clauses match the arguments
abbrev pub both_match : Signature → PlannedClause → (earlier : ℕ) → (vector : List Term) → Bool
both_match S c earlier vector = matches_all S (pats_of c.part c.clause) vector && matches_all S (pats_of c.part earlier) vector

abbrev pub at_matched : Signature → PlannedClause → (stop : ReportStop) → (earlier : ℕ) → Telescope → (vector : List Term) → List TreeLeaf → ℕ → Reporting Reported
at_matched S c stop earlier context vector leaves left =
    and_next (converts_at_leaves S c leaves left) (λ holds rest. answers (if_shadowed S stop earlier context vector leaves holds) rest)

abbrev pub at_vector_made : Signature → PlannedClause → (stop : ReportStop) → (earlier : ℕ) → Telescope → (vector : List Term) → ℕ → Reporting Reported
at_vector_made S c stop earlier context vector left =
    cond (both_match S c earlier vector)
    (at_matched S c stop earlier context vector (leaves_of c.clause c.part.tree) left)
    (answers (Err stop) left)

abbrev pub at_place : Signature → PlannedClause → (stop : ReportStop) → (earlier : ℕ) → Place → ℕ → Reporting Reported
at_place S c stop earlier p left =
    and_next (halting (vector_of S (pats_of c.part c.clause) (pats_of c.part earlier) p.terms left)) (at_vector_made S c stop earlier p.context)

-- whether the sides at a place of a proof convert
unfoldable pub place_converts : Signature → Place → ℕ → Reporting Bool
place_converts S p left = halting (convertible_of S nesting p.left p.right left)

-- the sides at a leaf of a proof do not convert, and its clause is an earlier one
abbrev pub is_earlier : Signature → (clause : ℕ) → ℕ × Place → ℕ → Reporting Bool
is_earlier S clause leaf left =
    and_next (place_converts S leaf.1 left) (λ holds rest. answers (Ok (not holds && nat_lt leaf.0 clause)) rest)

-- the line by the first such leaf, or `stop`
abbrev pub shadowed_among : Signature → PlannedClause → (stop : ReportStop) → List (ℕ × Place) → ℕ → Reporting Reported
shadowed_among S c stop [] left = answers (Err stop) left
shadowed_among S c stop (leaf ∷ leaves) left =
    and_next (is_earlier S c.clause leaf left) (λ found rest.
    cond found (at_place S c stop leaf.0 leaf.1 rest) (shadowed_among S c stop leaves rest))

abbrev pub shadowed_made : Signature → PlannedClause → Proof → (stop : ReportStop) → ℕ → Reporting Reported
shadowed_made S c proof stop left = shadowed_among S c stop (leaves_in proof) left

-- ---- the candidate

-- the entry with this name is the one that is rejected
abbrev pub denies : (name : List ℕ) → ReportStop → Bool
denies name (Rejected r) = bytes_eq r.entry name
denies name (Halts e) = false
denies name (Stuck context left right why) = false

abbrev pub denied_made : Signature → PlannedClause → Proof → (name : List ℕ) → (stop : ReportStop) → ℕ → Reporting Reported
denied_made S c proof name stop left = cond (denies name stop) (shadowed_made S c proof stop left) (answers (Err stop) left)

abbrev pub on_entered : Signature → PlannedClause → Proof → (name : List ℕ) → Result Entered ReportStop → ℕ → Reporting Reported
on_entered S c proof name (Ok e) left = answers (Ok (reported e.signature (Proved e.number))) left
on_entered S c proof name (Err stop) left = denied_made S c proof name stop left

unfoldable pub entering_made : Signature → PlannedClause → Proof → Draft → ℕ → Reporting Reported
entering_made S c proof d left =
    let entered = enter_draft_of S d left in
    on_entered S c proof (own_name d) entered.0 entered.1

abbrev pub candidate_of : Signature → PlannedClause → Equation → Proof → Result Draft Stop
candidate_of S c e proof = candidate_made S (name_made (part_name c.plan c.number) c.clause) c.part.level e proof

-- ---- the report

-- The judgement of a clause, before anything enters: its line, or a proof of its equation with the candidate.
pub data Judgement : Type 0 where
  Known : Line → Judgement
  Candidate : Proof → Draft → Judgement

abbrev pub with_candidate : Signature → Proof → Draft → Result Judgement ReportStop
with_candidate S proof d = cond (enterable S d) (Ok (Candidate proof d)) (Err (Halts Deep))

abbrev pub proof_judged : Signature → PlannedClause → Equation → Proof → Result Judgement ReportStop
proof_judged S c e proof = and_then (or_halts (candidate_of S c e proof)) (with_candidate S proof)

abbrev pub walk_judged : Signature → PlannedClause → Equation → ℕ → Reporting Judgement
walk_judged S c e left =
    and_next (walk_made S c.plan c.number c.walk e c.part.tree left) (λ proof rest. answers (proof_judged S c e proof) rest)

abbrev pub unless_converts : Signature → PlannedClause → Equation → Bool → ℕ → Reporting Judgement
unless_converts S c e true left = answers (Ok (Known Definitional)) left
unless_converts S c e false left = walk_judged S c e left

abbrev pub sides_judged : Signature → PlannedClause → Equation → ℕ → Reporting Judgement
sides_judged S c e left = and_next (equation_converts S e left) (unless_converts S c e)

abbrev pub equation_judged : Signature → PlannedClause → ℕ → Reporting Judgement
equation_judged S c left =
    and_next (answers (or_halts (equation_made S c.plan c.number c.clause c.walk)) left) (sides_judged S c)

abbrev pub judged : Signature → PlannedClause → ℕ → Reporting Judgement
judged S c left =
    cond (some_absurd (pats_of c.part c.clause)) (answers (Ok (Known Absurd)) left) (equation_judged S c left)

abbrev pub on_judged : Signature → PlannedClause → Judgement → ℕ → Reporting Reported
on_judged S c (Known line) left = answers (Ok (reported S line)) left
on_judged S c (Candidate proof d) left = entering_made S c proof d left

abbrev pub clause_report : Signature → PlannedClause → ℕ → Reporting Reported
clause_report S c left = and_next (judged S c left) (on_judged S c)

-- The line of a clause, or why there is none.
abbrev pub report_made : Signature → Plan → Reference → ℕ → Reporting Reported
report_made S plan c left = clause_report S (in_plan plan c) left
