-- An entry that the report of a clause rejects is one that the checker rejects.
use Rattle.std.proofs.Common.{ℕ, ◌&&◌, nat_lt, Bool, true, false, cond, Option, Some, None, Result, Ok, Err, IfErr, List, [], ◌∷◌}
use Rattle.theory.specs.Terms.{Term}
use Rattle.theory.specs.Telescopes.{Telescope}
use Rattle.theory.specs.Signatures.{Signature}
use Rattle.core_terms.specs.Answers.{and_next}
use Rattle.core_terms.specs.CaseTrees.{Walk}
use Rattle.family_check.specs.Entering.{Entered}
use Rattle.kernel_reduce.specs.Comparison.{convertible_of}
use Rattle.kernel_reduce.specs.Reduction.{nesting}
use Rattle.case_trees.specs.pattern_vectors.Matching.{matches_all}
use Rattle.tree_translation.specs.Plans.{Plan}
use Rattle.clause_reports.specs.DraftEntering.{enter_all, enter_entry, enter_needed, mentioned}
use Rattle.core_sig.specs.Settling.{renumbered_entry, settled_number}
use Rattle.clause_reports.specs.Equations.{Equation, equation_of, part_at, pats_of}
use Rattle.clause_reports.specs.ProofTerms.{candidate}
use Rattle.clause_reports.specs.ProofWalks.{Place, Proof, first_place, leaves_in, walk_of}
use Rattle.clause_reports.specs.Reports.{Absurd, Reference, at_leaf, at_vector, equation_report, if_shadowed, on_candidate, order_in, report_of, reported, some_absurd, unless_converts}
use Rattle.clause_reports.specs.Shadows.{TreeLeaf, convert_at_all, earlier_leaf, equation_at_leaf, leaves_of, vector_of}
use Rattle.clause_reports.specs.Stops.{Halts, Rejected, Rejection, ReportStop, Reporting, Stuck, answers, halting, or_halts}
use Rattle.elim.specs.refusal_laws.Causes.{IsDenied}
use Rattle.elim.proofs.refusal_laws.Chains.{IfRejected, Refuses}
use Rattle.elim.proofs.refusal_laws.Rejections.{draft-rejects, halting-rejects, needing-rejects, on-rejects, walk-rejects}

converts-reject : (S : Signature) (plan : Plan) (k clause : ℕ) (order : List ℕ) (w : Walk) (leaves : List TreeLeaf) (left : ℕ)
    → Refuses IfRejected (convert_at_all S plan k clause order w leaves left)
converts-reject S plan k clause order w [] left = tt
converts-reject S plan k clause order w (l ∷ leaves) left =
    let there = equation_at_leaf S plan k clause order w l in
    on-rejects (answers (or_halts there) left) _ (halting-rejects there) (λ e rest.
    let compared = convertible_of S nesting e.left e.right rest in
    on-rejects (halting compared) _ (halting-rejects compared.0) (λ holds end.
    by holds end (converts-reject S plan k clause order w leaves)))
  where
    by : (holds : Bool) (end : ℕ) → ((rest : ℕ) → Refuses IfRejected (convert_at_all S plan k clause order w leaves rest))
        → Refuses IfRejected (cond holds (convert_at_all S plan k clause order w leaves end) (answers (Ok false) end))
    by true end h = h end
    by false end h = tt

leaf-rejects : (S : Signature) (clause : ℕ) (leaves : List (ℕ × Place)) (left : ℕ) → Refuses IfRejected (earlier_leaf S clause leaves left)
leaf-rejects S clause [] left = tt
leaf-rejects S clause (leaf ∷ leaves) left =
    let compared = convertible_of S nesting leaf.1.left leaf.1.right left in
    on-rejects (halting compared) _ (halting-rejects compared.0) (λ holds rest.
    by holds (nat_lt leaf.0 clause) rest (leaf-rejects S clause leaves))
  where
    by : (holds earlier : Bool) (rest : ℕ) → ((end : ℕ) → Refuses IfRejected (earlier_leaf S clause leaves end))
        → Refuses IfRejected
        (cond holds (earlier_leaf S clause leaves rest) (cond earlier (answers (Ok (Some leaf)) rest) (earlier_leaf S clause leaves rest)))
    by true earlier rest h = h rest
    by false true rest h = tt
    by false false rest h = h rest

shadow-rejects : (S : Signature) (r : Rejection) (earlier : ℕ) (context : Telescope) (vector : List Term) (leaves : List TreeLeaf) (b : Bool) → IsDenied r
    → IfErr (if_shadowed S r earlier context vector leaves b) IfRejected
shadow-rejects S r earlier context vector leaves true h = tt
shadow-rejects S r earlier context vector leaves false h = h

vector-rejects : (S : Signature) (plan : Plan) (c : Reference) (r : Rejection) (earlier : ℕ) (context : Telescope) (vector : List Term) (left : ℕ) → IsDenied r
    → Refuses IfRejected (at_vector S plan c r earlier context vector left)
vector-rejects S plan c r earlier context vector left h =
    by (matches_all S (pats_of (part_at plan c.part) c.clause) vector && matches_all S (pats_of (part_at plan c.part) earlier) vector)
  where
    leaves : List TreeLeaf
    leaves = leaves_of c.clause (part_at plan c.part).tree

    all : Reporting Bool
    all = convert_at_all S plan c.part c.clause (order_in S plan c.part) c.walk (leaves_of c.clause (part_at plan c.part).tree) left

    by : (b : Bool) → Refuses IfRejected
        (cond b (and_next all (λ holds rest. answers (if_shadowed S r earlier context vector (leaves_of c.clause (part_at plan c.part).tree) holds) rest))
        (answers (Err (Rejected r)) left))
    by true =
        on-rejects all _ (converts-reject S plan c.part c.clause (order_in S plan c.part) c.walk leaves left)
        (λ holds rest. shadow-rejects S r earlier context vector leaves holds h)
    by false = h

found-rejects : (S : Signature) (plan : Plan) (c : Reference) (r : Rejection) (leaf : Option (ℕ × Place)) (left : ℕ) → IsDenied r
    → Refuses IfRejected (at_leaf S plan c r leaf left)
found-rejects S plan c r None left h = h
found-rejects S plan c r (Some leaf) left h =
    let reduced = vector_of S (pats_of (part_at plan c.part) c.clause) (pats_of (part_at plan c.part) leaf.0) leaf.1.terms left in
    on-rejects (halting reduced) _ (halting-rejects reduced.0) (λ vector rest. vector-rejects S plan c r leaf.0 leaf.1.context vector rest h)

candidate-rejects : (S : Signature) (plan : Plan) (c : Reference) (proof : Proof) (entered : Result Entered ReportStop) (left : ℕ) → IfErr entered IfRejected
    → Refuses IfRejected (on_candidate S plan c proof entered left)
candidate-rejects S plan c proof (Ok e) left h = tt
candidate-rejects S plan c proof (Err (Rejected r)) left h =
    on-rejects (earlier_leaf S c.clause (leaves_in proof) left) _ (leaf-rejects S c.clause (leaves_in proof) left)
    (λ leaf rest. found-rejects S plan c r leaf rest h)
candidate-rejects S plan c proof (Err (Halts e)) left h = tt
candidate-rejects S plan c proof (Err (Stuck context u v why)) left h = tt

unless-rejects : (S : Signature) (plan : Plan) (c : Reference) (e : Equation) (holds : Bool) (left : ℕ)
    → Refuses IfRejected (unless_converts S plan c e holds left)
unless-rejects S plan c e true left = tt
unless-rejects S plan c e false left =
    on-rejects (walk_of S plan c.part c.walk e (part_at plan c.part).tree left) _
    (walk-rejects S (part_at plan c.part).tree (first_place S plan c.part c.walk e) left) (λ proof rest.
    let draft = candidate S plan c.part c.clause e proof in
    on-rejects (answers (or_halts draft) rest) _ (halting-rejects draft) (λ d end.
    on-rejects (enter_all enter_needed S (mentioned d) end) _ (needing-rejects S (mentioned d) end) (λ T last.
    candidate-rejects S plan c proof (enter_entry T (renumbered_entry (settled_number T d.base d.names) d.entry) last).0 _ (draft-rejects T d last))))

pub report-rejects : (S : Signature) (plan : Plan) (c : Reference) (left : ℕ) → Refuses IfRejected (report_of S plan c left)
report-rejects S plan c left = by (some_absurd (pats_of (part_at plan c.part) c.clause))
  where
    asked : Refuses IfRejected (equation_report S plan c left)
    asked =
        let there = equation_of S plan c.part c.clause c.walk in
        on-rejects (answers (or_halts there) left) _ (halting-rejects there) (λ e rest.
        let compared = convertible_of S nesting e.left e.right rest in
        on-rejects (halting compared) _ (halting-rejects compared.0) (λ holds end. unless-rejects S plan c e holds end))

    by : (b : Bool) → Refuses IfRejected (cond b (answers (Ok (reported S Absurd)) left) (equation_report S plan c left))
    by true = tt
    by false = asked
