-- A report leaves the signature as it is, or one that has grown by the entries of a proof.
use Rattle.std.proofs.Common.{ℕ, Bool, true, false, cond, ◌&&◌, Option, Some, None, List, Result, Ok, Err, IfOk}
use Rattle.theory.specs.Terms.{Term}
use Rattle.theory.specs.Telescopes.{Telescope}
use Rattle.theory.specs.Signatures.{Signature, IsPrefix}
use Rattle.theory.specs.WellFormed.{IsWellFormed}
use Rattle.core_terms.specs.Answers.{and_next}
use Rattle.core_terms.proofs.Answers.{Answers, and_next-has}
use Rattle.core_sig.specs.Drafts.{Draft}
use Rattle.core_sig.specs.Settling.{renumbered_entry, settled_number}
use Rattle.kernel_reduce.specs.Comparison.{convertible_of}
use Rattle.kernel_reduce.specs.Reduction.{nesting}
use Rattle.family_check.specs.Entering.{Entered}
use Rattle.case_trees.specs.pattern_vectors.Matching.{matches_all}
use Rattle.tree_translation.specs.Plans.{Plan}
use Rattle.clause_reports.specs.DraftEntering.{enter_all, enter_entry, enter_needed, mentioned}
use Rattle.clause_reports.specs.Equations.{Equation, equation_of, part_at, pats_of}
use Rattle.clause_reports.specs.ProofTerms.{candidate}
use Rattle.clause_reports.specs.ProofWalks.{Place, Proof, walk_of, leaves_in}
use Rattle.clause_reports.specs.Laws.{ReportKeepsWellFormed}
use Rattle.clause_reports.specs.Reports.{Reference, Reported, Absurd, reported, some_absurd, order_in, if_shadowed, at_vector, at_leaf, shadowed, on_candidate, with_candidate, unless_converts, equation_report, report_of}
use Rattle.clause_reports.specs.Shadows.{TreeLeaf, earlier_leaf, vector_of, leaves_of, convert_at_all}
use Rattle.clause_reports.specs.Stops.{Rejection, Rejected, Halts, Stuck, ReportStop, answers, or_halts, halting}
use Rattle.clause_reports.proofs.Keeping.{Grows, GrowsTo, grows_same, grows_on, weaker, Any, any, enter_all-grows, enter_entry-grows, enter_needed-grows}

abbrev pub GrowsBy : Signature → Reported → Type 0
GrowsBy S r = Grows S r.signature

if_shadowed-grows : (S : Signature) (r : Rejection) (earlier : ℕ) (context : Telescope) (vector : List Term) (leaves : List TreeLeaf) (holds : Bool)
    → IfOk (if_shadowed S r earlier context vector leaves holds) (GrowsBy S)
if_shadowed-grows S r earlier context vector leaves true = grows_same S
if_shadowed-grows S r earlier context vector leaves false = tt

at_vector-grows : (S : Signature) (plan : Plan) (c : Reference) (r : Rejection) (earlier : ℕ) (context : Telescope) (vector : List Term) (left : ℕ)
    → Answers (GrowsBy S) (at_vector S plan c r earlier context vector left)
at_vector-grows S plan c r earlier context vector left =
    let part = part_at plan c.part in
    by (matches_all S (pats_of part c.clause) vector && matches_all S (pats_of part earlier) vector) (leaves_of c.clause part.tree)
  where
    by : (both : Bool) (leaves : List TreeLeaf) → Answers (GrowsBy S) (cond both
        (and_next (convert_at_all S plan c.part c.clause (order_in S plan c.part) c.walk leaves left) (λ holds rest.
        answers (if_shadowed S r earlier context vector leaves holds) rest))
        (answers (Err (Rejected r)) left))
    by true leaves =
        and_next-has Any (GrowsBy S) (convert_at_all S plan c.part c.clause (order_in S plan c.part) c.walk leaves left) _
        (any (convert_at_all S plan c.part c.clause (order_in S plan c.part) c.walk leaves left).0)
        (λ holds rest u. if_shadowed-grows S r earlier context vector leaves holds)
    by false leaves = tt

at_leaf-grows : (S : Signature) (plan : Plan) (c : Reference) (r : Rejection) (leaf : Option (ℕ × Place)) (left : ℕ)
    → Answers (GrowsBy S) (at_leaf S plan c r leaf left)
at_leaf-grows S plan c r None left = tt
at_leaf-grows S plan c r (Some leaf) left =
    let part = part_at plan c.part in
    let vector = halting (vector_of S (pats_of part c.clause) (pats_of part leaf.0) leaf.1.terms left) in
    and_next-has Any (GrowsBy S) vector _ (any vector.0) (λ v rest u. at_vector-grows S plan c r leaf.0 leaf.1.context v rest)

shadowed-grows : (S : Signature) (plan : Plan) (c : Reference) (proof : Proof) (r : Rejection) (left : ℕ) → Answers (GrowsBy S) (shadowed S plan c proof r left)
shadowed-grows S plan c proof r left =
    let leaf = earlier_leaf S c.clause (leaves_in proof) left in
    and_next-has Any (GrowsBy S) leaf _ (any leaf.0) (λ l rest u. at_leaf-grows S plan c r l rest)

on_candidate-grows : (S : Signature) (plan : Plan) (c : Reference) (proof : Proof) (answer : Result Entered ReportStop) (left : ℕ) → IfOk answer (GrowsTo S)
    → Answers (GrowsBy S) (on_candidate S plan c proof answer left)
on_candidate-grows S plan c proof (Ok e) left h = h
on_candidate-grows S plan c proof (Err (Rejected r)) left h = shadowed-grows S plan c proof r left
on_candidate-grows S plan c proof (Err (Halts e)) left h = tt
on_candidate-grows S plan c proof (Err (Stuck context u v why)) left h = tt

with_candidate-grows : (S : Signature) (plan : Plan) (c : Reference) (proof : Proof) (d : Draft) (left : ℕ) → Answers (GrowsBy S) (with_candidate S plan c proof d left)
with_candidate-grows S plan c proof d left =
    and_next-has (Grows S) (GrowsBy S) (enter_all enter_needed S (mentioned d) left) _ (enter_all-grows enter_needed enter_needed-grows S (mentioned d) left)
    (λ T rest g.
    let e = renumbered_entry (settled_number T d.base d.names) d.entry in
    on_candidate-grows S plan c proof (enter_entry T e rest).0 (enter_entry T e rest).1
    (weaker (GrowsTo T) (GrowsTo S) (enter_entry T e rest).0 (λ x h. grows_on S T x.signature g h) (enter_entry-grows T e rest)))

unless_converts-grows : (S : Signature) (plan : Plan) (c : Reference) (e : Equation) (holds : Bool) (left : ℕ) → Answers (GrowsBy S) (unless_converts S plan c e holds left)
unless_converts-grows S plan c e true left = grows_same S
unless_converts-grows S plan c e false left =
    let walk = walk_of S plan c.part c.walk e (part_at plan c.part).tree left in
    and_next-has Any (GrowsBy S) walk _ (any walk.0) (λ proof rest u.
    and_next-has Any (GrowsBy S) (or_halts (candidate S plan c.part c.clause e proof), rest) _ (any (or_halts (candidate S plan c.part c.clause e proof)))
    (λ d end v. with_candidate-grows S plan c proof d end))

equation_report-grows : (S : Signature) (plan : Plan) (c : Reference) (left : ℕ) → Answers (GrowsBy S) (equation_report S plan c left)
equation_report-grows S plan c left =
    and_next-has Any (GrowsBy S) (or_halts (equation_of S plan c.part c.clause c.walk), left) _ (any (or_halts (equation_of S plan c.part c.clause c.walk)))
    (λ e rest u.
    let compared = halting (convertible_of S nesting e.left e.right rest) in
    and_next-has Any (GrowsBy S) compared _ (any compared.0) (λ holds end v. unless_converts-grows S plan c e holds end))

pub report-grows : (S : Signature) (plan : Plan) (c : Reference) (left : ℕ) → Answers (GrowsBy S) (report_of S plan c left)
report-grows S plan c left = by (some_absurd (pats_of (part_at plan c.part) c.clause))
  where
    by : (absurd_there : Bool) → Answers (GrowsBy S) (cond absurd_there (answers (Ok (reported S Absurd)) left) (equation_report S plan c left))
    by true = grows_same S
    by false = equation_report-grows S plan c left

pub report-keeps : ReportKeepsWellFormed
report-keeps S plan c left h p =
    weaker (GrowsBy S) (λ r. IsPrefix S r.signature × IsWellFormed r.signature) (report_of S plan c left).0 (λ r g. (g.prefix, g.keeps h p)) (report-grows S plan c left)
