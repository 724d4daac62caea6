-- Reports give no units back.
use Rattle.std.proofs.Common.{ℕ, ◌≤◌, nat_lt, ◌&&◌, Bool, true, false, cond, Option, Some, None, List, [], ◌∷◌, Result, Ok, Err, arith}
use Rattle.theory.specs.Terms.{Term}
use Rattle.theory.specs.Telescopes.{Telescope}
use Rattle.theory.specs.Signatures.{Signature}
use Rattle.core_terms.specs.Answers.{Spent, and_next, bounded}
use Rattle.core_terms.specs.CaseTrees.{Walk}
use Rattle.core_terms.specs.Patterns as pattern
use Rattle.core_terms.specs.Patterns.{Pat, Pats}
use Rattle.core_terms.proofs.Answers.{and_next-spends}
use Rattle.core_sig.specs.Drafts.{Draft}
use Rattle.core_sig.specs.Settling.{renumbered_entry, settled_number}
use Rattle.kernel_reduce.specs.Comparison.{convertible_of}
use Rattle.kernel_reduce.specs.Reduction.{nesting, answered, whnf_of}
use Rattle.kernel_reduce.proofs.ComparisonLaws.{convertible-spends}
use Rattle.kernel_reduce.proofs.ReductionLaws.{whnf-spends}
use Rattle.family_check.specs.Entering.{Entered}
use Rattle.unification.specs.Built.{Built, built_of}
use Rattle.case_trees.specs.pattern_vectors.Matching.{is_constructor, matches_all}
use Rattle.tree_translation.specs.Plans.{Plan}
use Rattle.clause_reports.specs.DraftEntering.{enter_all, enter_entry, enter_needed, mentioned}
use Rattle.case_trees.specs.Kept.{at_arguments}
use Rattle.clause_reports.specs.Equations.{Equation, equation_of, part_at, pats_of}
use Rattle.clause_reports.specs.Laws.{ReportSpends}
use Rattle.clause_reports.specs.ProofTerms.{candidate}
use Rattle.clause_reports.specs.ProofWalks.{Place, Proof, walk_of, first_place, leaves_in}
use Rattle.clause_reports.specs.Reports.{Reference, Absurd, reported, some_absurd, order_in, if_shadowed, at_vector, at_leaf, shadowed, on_candidate, with_candidate, unless_converts, equation_report}
use Rattle.clause_reports.specs.Shadows.{TreeLeaf, earlier_leaf, reduced_arguments, reduced_by, all_reduced, vector_of, leaves_of, equation_at_leaf, convert_at_all}
use Rattle.clause_reports.specs.Stops.{Rejection, Rejected, Halts, Stuck, ReportStop, answers, or_halts, halting}
use Rattle.clause_reports.proofs.Spending.{enter_all-spends, enter_entry-spends, enter_needed-spends}
use Rattle.clause_reports.proofs.WalkSpending.{walk_tree-spends}

-- ---- argument lists

earlier_leaf-spends : (S : Signature) (clause : ℕ) (leaves : List (ℕ × Place)) (left : ℕ) → (earlier_leaf S clause leaves left).1 ≤ left
earlier_leaf-spends S clause [] left = omega arith
earlier_leaf-spends S clause (leaf ∷ leaves) left =
    and_next-spends (halting (convertible_of S nesting leaf.1.left leaf.1.right left)) _ left
    (convertible-spends S nesting leaf.1.left leaf.1.right left) (λ holds rest.
    by holds (nat_lt leaf.0 clause) rest (earlier_leaf-spends S clause leaves rest))
  where
    by : (holds earlier : Bool) (rest : ℕ) → (earlier_leaf S clause leaves rest).1 ≤ rest → (cond holds (earlier_leaf S clause leaves rest)
        (cond earlier (answers (Ok (Some leaf)) rest) (earlier_leaf S clause leaves rest))).1 ≤ rest
    by true earlier rest h = h
    by false true rest h = omega arith
    by false false rest h = h

reduced_arguments-spends : (n number : ℕ) (reduce : List Term → ℕ → Spent (List Term)) (w : Term) (b : Option Built) (left : ℕ)
    → ((us : List Term) (rest : ℕ) → (reduce us rest).1 ≤ rest) → (reduced_arguments n number reduce w b left).1 ≤ left
reduced_arguments-spends n number reduce w None left h = omega arith
reduced_arguments-spends n number reduce w (Some b) left h = by (is_constructor n number b)
  where
    by : (same : Bool) → (cond same
        (and_next (reduce b.arguments left) (λ us rest. answered (bounded (at_arguments b us)) rest)) (answered (Ok w) left)).1 ≤ left
    by true = and_next-spends (reduce b.arguments left) _ left (h b.arguments left) (λ us rest. omega arith)
    by false = omega arith

mutual
  reduced_by-spends : (S : Signature) (pat : Pat) (t : Term) (left : ℕ) → (reduced_by S pat t left).1 ≤ left
  reduced_by-spends S (pattern.Con n number pats) t left =
      and_next-spends (whnf_of S true left t) _ left (whnf-spends S true left t) (λ w rest.
      reduced_arguments-spends n number (all_reduced S pats) w (built_of S w) rest (all_reduced-spends S pats))
  reduced_by-spends S pattern.Bind t left = omega arith
  reduced_by-spends S pattern.Wild t left = omega arith
  reduced_by-spends S (pattern.Dot u) t left = omega arith
  reduced_by-spends S pattern.Absurd t left = omega arith

  all_reduced-spends : (S : Signature) (pats : Pats) (terms : List Term) (left : ℕ) → (all_reduced S pats terms left).1 ≤ left
  all_reduced-spends S (pattern.cons pat pats) (t ∷ terms) left =
      and_next-spends (reduced_by S pat t left) _ left (reduced_by-spends S pat t left) (λ u rest.
      and_next-spends (all_reduced S pats terms rest) _ rest (all_reduced-spends S pats terms rest) (λ us end. omega arith))
  all_reduced-spends S (pattern.cons pat pats) [] left = omega arith
  all_reduced-spends S pattern.nil terms left = omega arith

vector-spends : (S : Signature) (own earlier : Pats) (terms : List Term) (left : ℕ) → (vector_of S own earlier terms left).1 ≤ left
vector-spends S own earlier terms left =
    and_next-spends (all_reduced S own terms left) _ left (all_reduced-spends S own terms left) (all_reduced-spends S earlier)

-- ---- leaves

convert_at_all-spends : (S : Signature) (plan : Plan) (k clause : ℕ) (order : List ℕ) (w : Walk) (leaves : List TreeLeaf) (left : ℕ)
    → (convert_at_all S plan k clause order w leaves left).1 ≤ left
convert_at_all-spends S plan k clause order w [] left = omega arith
convert_at_all-spends S plan k clause order w (l ∷ leaves) left =
    and_next-spends (or_halts (equation_at_leaf S plan k clause order w l), left) _ left (omega arith) (λ e rest.
    and_next-spends (halting (convertible_of S nesting e.left e.right rest)) _ rest (convertible-spends S nesting e.left e.right rest) (λ holds end.
    by holds end (convert_at_all-spends S plan k clause order w leaves end)))
  where
    by : (holds : Bool) (end : ℕ) → (convert_at_all S plan k clause order w leaves end).1 ≤ end
        → (cond holds (convert_at_all S plan k clause order w leaves end) (answers (Ok false) end)).1 ≤ end
    by true end h = h
    by false end h = omega arith

-- ---- shadowed clauses

at_vector-spends : (S : Signature) (plan : Plan) (c : Reference) (r : Rejection) (earlier : ℕ) (context : Telescope) (vector : List Term) (left : ℕ)
    → (at_vector S plan c r earlier context vector left).1 ≤ left
at_vector-spends S plan c r earlier context vector left =
    let part = part_at plan c.part in
    by (matches_all S (pats_of part c.clause) vector && matches_all S (pats_of part earlier) vector) (leaves_of c.clause part.tree)
  where
    by : (both : Bool) (leaves : List TreeLeaf) → (cond both
        (and_next (convert_at_all S plan c.part c.clause (order_in S plan c.part) c.walk leaves left) (λ holds rest.
        answers (if_shadowed S r earlier context vector leaves holds) rest))
        (answers (Err (Rejected r)) left)).1 ≤ left
    by true leaves =
        and_next-spends (convert_at_all S plan c.part c.clause (order_in S plan c.part) c.walk leaves left) _ left
        (convert_at_all-spends S plan c.part c.clause (order_in S plan c.part) c.walk leaves left) (λ holds rest. omega arith)
    by false leaves = omega arith

at_leaf-spends : (S : Signature) (plan : Plan) (c : Reference) (r : Rejection) (leaf : Option (ℕ × Place)) (left : ℕ) → (at_leaf S plan c r leaf left).1 ≤ left
at_leaf-spends S plan c r None left = omega arith
at_leaf-spends S plan c r (Some leaf) left =
    let part = part_at plan c.part in
    and_next-spends (halting (vector_of S (pats_of part c.clause) (pats_of part leaf.0) leaf.1.terms left)) _ left
    (vector-spends S (pats_of part c.clause) (pats_of part leaf.0) leaf.1.terms left) (λ vector rest.
    at_vector-spends S plan c r leaf.0 leaf.1.context vector rest)

shadowed-spends : (S : Signature) (plan : Plan) (c : Reference) (proof : Proof) (r : Rejection) (left : ℕ) → (shadowed S plan c proof r left).1 ≤ left
shadowed-spends S plan c proof r left =
    and_next-spends (earlier_leaf S c.clause (leaves_in proof) left) _ left (earlier_leaf-spends S c.clause (leaves_in proof) left) (λ leaf rest.
    at_leaf-spends S plan c r leaf rest)

-- ---- the report

on_candidate-spends : (S : Signature) (plan : Plan) (c : Reference) (proof : Proof) (answer : Result Entered ReportStop) (left : ℕ)
    → (on_candidate S plan c proof answer left).1 ≤ left
on_candidate-spends S plan c proof (Ok e) left = omega arith
on_candidate-spends S plan c proof (Err (Rejected r)) left = shadowed-spends S plan c proof r left
on_candidate-spends S plan c proof (Err (Halts e)) left = omega arith
on_candidate-spends S plan c proof (Err (Stuck context u v why)) left = omega arith

with_candidate-spends : (S : Signature) (plan : Plan) (c : Reference) (proof : Proof) (d : Draft) (left : ℕ) → (with_candidate S plan c proof d left).1 ≤ left
with_candidate-spends S plan c proof d left =
    and_next-spends (enter_all enter_needed S (mentioned d) left) _ left (enter_all-spends enter_needed enter_needed-spends S (mentioned d) left) (λ T rest.
    let e = renumbered_entry (settled_number T d.base d.names) d.entry in
    let entered = enter_entry T e rest in
    let first : entered.1 ≤ rest = enter_entry-spends T e rest in
    let then : (on_candidate S plan c proof entered.0 entered.1).1 ≤ entered.1 = on_candidate-spends S plan c proof entered.0 entered.1 in
    omega arith)

unless_converts-spends : (S : Signature) (plan : Plan) (c : Reference) (e : Equation) (holds : Bool) (left : ℕ) → (unless_converts S plan c e holds left).1 ≤ left
unless_converts-spends S plan c e true left = omega arith
unless_converts-spends S plan c e false left =
    and_next-spends (walk_of S plan c.part c.walk e (part_at plan c.part).tree left) _ left
    (walk_tree-spends S (part_at plan c.part).tree (first_place S plan c.part c.walk e) left) (λ proof rest.
    and_next-spends (or_halts (candidate S plan c.part c.clause e proof), rest) _ rest (omega arith) (λ d end.
    with_candidate-spends S plan c proof d end))

equation_report-spends : (S : Signature) (plan : Plan) (c : Reference) (left : ℕ) → (equation_report S plan c left).1 ≤ left
equation_report-spends S plan c left =
    and_next-spends (or_halts (equation_of S plan c.part c.clause c.walk), left) _ left (omega arith) (λ e rest.
    and_next-spends (halting (convertible_of S nesting e.left e.right rest)) _ rest (convertible-spends S nesting e.left e.right rest) (λ holds end.
    unless_converts-spends S plan c e holds end))

pub report-spends : ReportSpends
report-spends S plan c left = by (some_absurd (pats_of (part_at plan c.part) c.clause))
  where
    by : (absurd_there : Bool) → (cond absurd_there (answers (Ok (reported S Absurd)) left) (equation_report S plan c left)).1 ≤ left
    by true = omega arith
    by false = equation_report-spends S plan c left
