-- A report leaves the signature, or one that has more entries, which are no families.
use Rattle.std.proofs.Common.{ℕ, Bool, true, false, cond, ◌&&◌, Option, Some, None, List, Result, Ok, Err, IfOk}
use Rattle.theory.specs.Terms.{Term}
use Rattle.theory.specs.Telescopes.{Telescope}
use Rattle.theory.specs.Signatures.{Signature}
use Rattle.core_terms.specs.Answers.{and_next}
use Rattle.core_terms.proofs.Answers.{Answers, and_next-has}
use Rattle.core_sig.specs.Drafts.{Draft}
use Rattle.core_sig.specs.Settling.{renumbered_entry, settled_number}
use Rattle.kernel_reduce.specs.Comparison.{convertible_of}
use Rattle.kernel_reduce.specs.Reduction.{nesting}
use Rattle.family_check.specs.Entering.{Entered}
use Rattle.case_trees.specs.pattern_vectors.Matching.{matches_all}
use Rattle.tree_translation.specs.Plans.{Plan}
use Rattle.clause_reports.specs.DraftEntering.{enter_all, enter_entry, enter_needed, mentioned}
use Rattle.clause_reports.specs.Equations.{Equation, equation_of, part_at, pats_of}
use Rattle.clause_reports.specs.ProofTerms.{candidate}
use Rattle.clause_reports.specs.ProofWalks.{Place, Proof, walk_of, leaves_in}
use Rattle.clause_reports.specs.Reports.{Reference, Reported, Absurd, reported, some_absurd, order_in, if_shadowed, at_vector, at_leaf, shadowed, on_candidate, with_candidate, unless_converts, equation_report, report_of}
use Rattle.clause_reports.specs.Shadows.{TreeLeaf, earlier_leaf, vector_of, leaves_of, convert_at_all}
use Rattle.clause_reports.specs.Stops.{Rejection, Rejected, Halts, Stuck, ReportStop, answers, or_halts, halting}
use Rattle.clause_reports.proofs.Keeping.{weaker, Any, any}
use Rattle.drafts.specs.draft_entering.Conditions.{Extends}
use Rattle.drafts.proofs.draft_entering.Longer.{extends-same, extends-on}
use Rattle.drafts.proofs.draft_entering.Entered.{ExtendsTo}
use Rattle.drafts.proofs.entering_laws.EnteredOpen.{enter_all-extends, enter_entry-extends, enter_needed-extends}

abbrev pub ExtendsBy : Signature → Reported → Type 0
ExtendsBy S r = Extends S r.signature

if_shadowed-extends : (S : Signature) (r : Rejection) (earlier : ℕ) (context : Telescope) (vector : List Term) (leaves : List TreeLeaf) (holds : Bool)
    → IfOk (if_shadowed S r earlier context vector leaves holds) (ExtendsBy S)
if_shadowed-extends S r earlier context vector leaves true = extends-same S
if_shadowed-extends S r earlier context vector leaves false = tt

at_vector-extends : (S : Signature) (plan : Plan) (c : Reference) (r : Rejection) (earlier : ℕ) (context : Telescope) (vector : List Term) (left : ℕ)
    → Answers (ExtendsBy S) (at_vector S plan c r earlier context vector left)
at_vector-extends S plan c r earlier context vector left =
    let part = part_at plan c.part in
    by (matches_all S (pats_of part c.clause) vector && matches_all S (pats_of part earlier) vector) (leaves_of c.clause part.tree)
  where
    by : (both : Bool) (leaves : List TreeLeaf) → Answers (ExtendsBy S) (cond both
        (and_next (convert_at_all S plan c.part c.clause (order_in S plan c.part) c.walk leaves left) (λ holds rest.
        answers (if_shadowed S r earlier context vector leaves holds) rest))
        (answers (Err (Rejected r)) left))
    by true leaves =
        and_next-has Any (ExtendsBy S) (convert_at_all S plan c.part c.clause (order_in S plan c.part) c.walk leaves left) _
        (any (convert_at_all S plan c.part c.clause (order_in S plan c.part) c.walk leaves left).0)
        (λ holds rest u. if_shadowed-extends S r earlier context vector leaves holds)
    by false leaves = tt

at_leaf-extends : (S : Signature) (plan : Plan) (c : Reference) (r : Rejection) (leaf : Option (ℕ × Place)) (left : ℕ)
    → Answers (ExtendsBy S) (at_leaf S plan c r leaf left)
at_leaf-extends S plan c r None left = tt
at_leaf-extends S plan c r (Some leaf) left =
    let part = part_at plan c.part in
    let vector = halting (vector_of S (pats_of part c.clause) (pats_of part leaf.0) leaf.1.terms left) in
    and_next-has Any (ExtendsBy S) vector _ (any vector.0) (λ v rest u. at_vector-extends S plan c r leaf.0 leaf.1.context v rest)

shadowed-extends : (S : Signature) (plan : Plan) (c : Reference) (proof : Proof) (r : Rejection) (left : ℕ) → Answers (ExtendsBy S) (shadowed S plan c proof r left)
shadowed-extends S plan c proof r left =
    let leaf = earlier_leaf S c.clause (leaves_in proof) left in
    and_next-has Any (ExtendsBy S) leaf _ (any leaf.0) (λ l rest u. at_leaf-extends S plan c r l rest)

on_candidate-extends : (S : Signature) (plan : Plan) (c : Reference) (proof : Proof) (answer : Result Entered ReportStop) (left : ℕ) → IfOk answer (ExtendsTo S)
    → Answers (ExtendsBy S) (on_candidate S plan c proof answer left)
on_candidate-extends S plan c proof (Ok e) left h = h
on_candidate-extends S plan c proof (Err (Rejected r)) left h = shadowed-extends S plan c proof r left
on_candidate-extends S plan c proof (Err (Halts e)) left h = tt
on_candidate-extends S plan c proof (Err (Stuck context u v why)) left h = tt

with_candidate-extends : (S : Signature) (plan : Plan) (c : Reference) (proof : Proof) (d : Draft) (left : ℕ) → Answers (ExtendsBy S) (with_candidate S plan c proof d left)
with_candidate-extends S plan c proof d left =
    and_next-has (Extends S) (ExtendsBy S) (enter_all enter_needed S (mentioned d) left) _ (enter_all-extends enter_needed enter_needed-extends S (mentioned d) left)
    (λ T rest g.
    let e = renumbered_entry (settled_number T d.base d.names) d.entry in
    on_candidate-extends S plan c proof (enter_entry T e rest).0 (enter_entry T e rest).1
    (weaker (ExtendsTo T) (ExtendsTo S) (enter_entry T e rest).0 (λ x h. extends-on S T x.signature g h) (enter_entry-extends T e rest)))

unless_converts-extends : (S : Signature) (plan : Plan) (c : Reference) (e : Equation) (holds : Bool) (left : ℕ) → Answers (ExtendsBy S) (unless_converts S plan c e holds left)
unless_converts-extends S plan c e true left = extends-same S
unless_converts-extends S plan c e false left =
    let walk = walk_of S plan c.part c.walk e (part_at plan c.part).tree left in
    and_next-has Any (ExtendsBy S) walk _ (any walk.0) (λ proof rest u.
    and_next-has Any (ExtendsBy S) (or_halts (candidate S plan c.part c.clause e proof), rest) _ (any (or_halts (candidate S plan c.part c.clause e proof)))
    (λ d end v. with_candidate-extends S plan c proof d end))

equation_report-extends : (S : Signature) (plan : Plan) (c : Reference) (left : ℕ) → Answers (ExtendsBy S) (equation_report S plan c left)
equation_report-extends S plan c left =
    and_next-has Any (ExtendsBy S) (or_halts (equation_of S plan c.part c.clause c.walk), left) _ (any (or_halts (equation_of S plan c.part c.clause c.walk)))
    (λ e rest u.
    let compared = halting (convertible_of S nesting e.left e.right rest) in
    and_next-has Any (ExtendsBy S) compared _ (any compared.0) (λ holds end v. unless_converts-extends S plan c e holds end))

pub report-extends : (S : Signature) (plan : Plan) (c : Reference) (left : ℕ) → Answers (ExtendsBy S) (report_of S plan c left)
report-extends S plan c left = by (some_absurd (pats_of (part_at plan c.part) c.clause))
  where
    by : (absurd_there : Bool) → Answers (ExtendsBy S) (cond absurd_there (answers (Ok (reported S Absurd)) left) (equation_report S plan c left))
    by true = extends-same S
    by false = equation_report-extends S plan c left
