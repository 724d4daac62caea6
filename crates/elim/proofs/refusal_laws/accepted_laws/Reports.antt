-- A report adds entries that are accepted one by one.
use Rattle.std.proofs.Common.{ℕ, ◌≤◌, Bool, true, false, cond, ◌&&◌, Option, Some, None, List, Result, Ok, Err, IfOk, arith}
use Rattle.theory.specs.Terms.{Term}
use Rattle.theory.specs.Telescopes.{Telescope}
use Rattle.theory.specs.Signatures.{Signature}
use Rattle.core_terms.specs.Answers.{and_next}
use Rattle.core_terms.proofs.Answers.{Answers, and_next-has}
use Rattle.core_sig.specs.Drafts.{Draft}
use Rattle.core_sig.specs.Settling.{renumbered_entry, settled_number}
use Rattle.kernel_reduce.specs.Comparison.{convertible_of}
use Rattle.kernel_reduce.specs.Reduction.{nesting}
use Rattle.kernel_reduce.proofs.ComparisonLaws.{convertible-spends}
use Rattle.family_check.specs.Entering.{Entered}
use Rattle.case_trees.specs.pattern_vectors.Matching.{matches_all}
use Rattle.tree_translation.specs.Plans.{Plan}
use Rattle.clause_reports.specs.DraftEntering.{enter_all, enter_entry, enter_needed, mentioned}
use Rattle.clause_reports.specs.Equations.{Equation, equation_of, part_at, pats_of}
use Rattle.clause_reports.specs.ProofTerms.{candidate}
use Rattle.clause_reports.specs.ProofWalks.{Place, Proof, walk_of, first_place, leaves_in}
use Rattle.clause_reports.specs.Reports.{Reference, Reported, Absurd, reported, some_absurd, order_in, if_shadowed, at_vector, at_leaf, shadowed, on_candidate, with_candidate, unless_converts, equation_report, report_of}
use Rattle.clause_reports.specs.Shadows.{TreeLeaf, earlier_leaf, vector_of, leaves_of, convert_at_all}
use Rattle.clause_reports.specs.Stops.{Rejection, Rejected, Halts, Stuck, ReportStop, answers, or_halts, halting}
use Rattle.clause_reports.proofs.Keeping.{Any, any}
use Rattle.clause_reports.proofs.ReportSpending.{report-spends}
use Rattle.clause_reports.proofs.WalkSpending.{walk_tree-spends}
use Rattle.elim.specs.refusal_laws.accepted_laws.Checked.{Checked, unchanged}
use Rattle.elim.specs.refusal_laws.accepted_laws.Laws.{ReportIsChecked}
use Rattle.elim.proofs.refusal_laws.accepted_laws.Drafts.{needed-within, enter_entry-within}
use Rattle.elim.proofs.refusal_laws.accepted_laws.Steps.{CheckedTo, Within, answers-next, weaker-within, checked-on, below}

module _ (fuel : ℕ) where
  abbrev pub CheckedBy : Signature → Reported → Type 0
  CheckedBy S r = Checked fuel S r.signature

  -- ---- shadowed clauses, where nothing enters

  if_shadowed-checked : (S : Signature) (r : Rejection) (earlier : ℕ) (context : Telescope) (vector : List Term) (leaves : List TreeLeaf) (holds : Bool)
      → IfOk (if_shadowed S r earlier context vector leaves holds) (CheckedBy S)
  if_shadowed-checked S r earlier context vector leaves true = unchanged
  if_shadowed-checked S r earlier context vector leaves false = tt

  at_vector-checked : (S : Signature) (plan : Plan) (c : Reference) (r : Rejection) (earlier : ℕ) (context : Telescope) (vector : List Term) (left : ℕ)
      → Answers (CheckedBy S) (at_vector S plan c r earlier context vector left)
  at_vector-checked S plan c r earlier context vector left =
      let part = part_at plan c.part in
      by (matches_all S (pats_of part c.clause) vector && matches_all S (pats_of part earlier) vector) (leaves_of c.clause part.tree)
    where
      by : (both : Bool) (leaves : List TreeLeaf) → Answers (CheckedBy S) (cond both
          (and_next (convert_at_all S plan c.part c.clause (order_in S plan c.part) c.walk leaves left) (λ holds rest.
          answers (if_shadowed S r earlier context vector leaves holds) rest))
          (answers (Err (Rejected r)) left))
      by true leaves =
          and_next-has Any (CheckedBy S) (convert_at_all S plan c.part c.clause (order_in S plan c.part) c.walk leaves left) _
          (any (convert_at_all S plan c.part c.clause (order_in S plan c.part) c.walk leaves left).0)
          (λ holds rest u. if_shadowed-checked S r earlier context vector leaves holds)
      by false leaves = tt

  at_leaf-checked : (S : Signature) (plan : Plan) (c : Reference) (r : Rejection) (leaf : Option (ℕ × Place)) (left : ℕ)
      → Answers (CheckedBy S) (at_leaf S plan c r leaf left)
  at_leaf-checked S plan c r None left = tt
  at_leaf-checked S plan c r (Some leaf) left =
      let part = part_at plan c.part in
      let vector = halting (vector_of S (pats_of part c.clause) (pats_of part leaf.0) leaf.1.terms left) in
      and_next-has Any (CheckedBy S) vector _ (any vector.0) (λ v rest u. at_vector-checked S plan c r leaf.0 leaf.1.context v rest)

  shadowed-checked : (S : Signature) (plan : Plan) (c : Reference) (proof : Proof) (r : Rejection) (left : ℕ) → Answers (CheckedBy S) (shadowed S plan c proof r left)
  shadowed-checked S plan c proof r left =
      let leaf = earlier_leaf S c.clause (leaves_in proof) left in
      and_next-has Any (CheckedBy S) leaf _ (any leaf.0) (λ l rest u. at_leaf-checked S plan c r l rest)

  -- ---- candidates

  on_candidate-checked : (S : Signature) (plan : Plan) (c : Reference) (proof : Proof) (answer : Result Entered ReportStop) (left : ℕ) → IfOk answer (CheckedTo fuel S)
      → Answers (CheckedBy S) (on_candidate S plan c proof answer left)
  on_candidate-checked S plan c proof (Ok e) left h = h
  on_candidate-checked S plan c proof (Err (Rejected r)) left h = shadowed-checked S plan c proof r left
  on_candidate-checked S plan c proof (Err (Halts e)) left h = tt
  on_candidate-checked S plan c proof (Err (Stuck context u v why)) left h = tt

  with_candidate-checked : (S : Signature) (plan : Plan) (c : Reference) (proof : Proof) (d : Draft) (left : ℕ) → left ≤ fuel
      → Answers (CheckedBy S) (with_candidate S plan c proof d left)
  with_candidate-checked S plan c proof d left le =
      answers-next fuel (Checked fuel S) (CheckedBy S) (enter_all enter_needed S (mentioned d) left) _ (needed-within fuel S (mentioned d) left le) (λ T rest less g.
      let e = renumbered_entry (settled_number T d.base d.names) d.entry in
      on_candidate-checked S plan c proof (enter_entry T e rest).0 (enter_entry T e rest).1
      (weaker-within fuel (CheckedTo fuel T) (CheckedTo fuel S) (enter_entry T e rest) (λ x k. checked-on g k) (enter_entry-within fuel T e rest less)).0)

  -- ---- reports

  unless_converts-checked : (S : Signature) (plan : Plan) (c : Reference) (e : Equation) (holds : Bool) (left : ℕ) → left ≤ fuel
      → Answers (CheckedBy S) (unless_converts S plan c e holds left)
  unless_converts-checked S plan c e true left le = unchanged
  unless_converts-checked S plan c e false left le =
      let walk = walk_of S plan c.part c.walk e (part_at plan c.part).tree left in
      answers-next fuel Any (CheckedBy S) walk _
      (any walk.0, below walk.1 left fuel (walk_tree-spends S (part_at plan c.part).tree (first_place S plan c.part c.walk e) left) le) (λ proof rest less u.
      answers-next fuel Any (CheckedBy S) (or_halts (candidate S plan c.part c.clause e proof), rest) _ (any (or_halts (candidate S plan c.part c.clause e proof)), less)
      (λ d end last v. with_candidate-checked S plan c proof d end last))

  equation_report-checked : (S : Signature) (plan : Plan) (c : Reference) (left : ℕ) → left ≤ fuel → Answers (CheckedBy S) (equation_report S plan c left)
  equation_report-checked S plan c left le =
      answers-next fuel Any (CheckedBy S) (or_halts (equation_of S plan c.part c.clause c.walk), left) _ (any (or_halts (equation_of S plan c.part c.clause c.walk)), le)
      (λ e rest less u.
      let compared = halting (convertible_of S nesting e.left e.right rest) in
      answers-next fuel Any (CheckedBy S) compared _ (any compared.0, below compared.1 rest fuel (convertible-spends S nesting e.left e.right rest) less)
      (λ holds end last v. unless_converts-checked S plan c e holds end last))

  report-checked : (S : Signature) (plan : Plan) (c : Reference) (left : ℕ) → left ≤ fuel → Answers (CheckedBy S) (report_of S plan c left)
  report-checked S plan c left le = by (some_absurd (pats_of (part_at plan c.part) c.clause))
    where
      by : (absurd_there : Bool) → Answers (CheckedBy S) (cond absurd_there (answers (Ok (reported S Absurd)) left) (equation_report S plan c left))
      by true = unchanged
      by false = equation_report-checked S plan c left le

  pub report-within : (S : Signature) (plan : Plan) (c : Reference) (left : ℕ) → left ≤ fuel → Within fuel (CheckedBy S) (report_of S plan c left)
  report-within S plan c left le = (report-checked S plan c left le, below _ left fuel (report-spends S plan c left) le)

pub report-is-checked : ReportIsChecked
report-is-checked S plan c fuel = (report-within fuel S plan c fuel (omega arith)).0
