-- The entries that the report of a clause adds: what its candidate needs, and the candidate where the line names it.
use Rattle.std.proofs.Common.{◌≡◌, ℕ, Bool, true, false, ◌&&◌, cond, Option, Some, None, List, length, Result, Ok, Err, IfOk, refl, sym, subst as transport}
use Rattle.theory.specs.Terms.{Term}
use Rattle.theory.specs.Telescopes.{Telescope}
use Rattle.theory.specs.Signatures.{AxiomKAt, Definition, EliminatorAt, Entry, FamilyOf, Signature}
use Rattle.core_terms.specs.Answers.{and_next}
use Rattle.core_terms.proofs.Answers.{Answers, and_next-has}
use Rattle.core_sig.specs.Drafts.{Draft}
use Rattle.core_sig.specs.Settling.{renumbered_entry, settled_number}
use Rattle.family_check.specs.Entering.{Entered, define_of, entered}
use Rattle.kernel_reduce.specs.Comparison.{convertible_of}
use Rattle.kernel_reduce.specs.Reduction.{nesting}
use Rattle.case_trees.specs.pattern_vectors.Matching.{matches_all}
use Rattle.tree_translation.specs.Plans.{Plan}
use Rattle.clause_reports.specs.DraftEntering.{enter_all, enter_entry, enter_needed, mentioned}
use Rattle.clause_reports.specs.Equations.{Equation, equation_of, part_at, pats_of}
use Rattle.clause_reports.specs.ProofTerms.{candidate}
use Rattle.clause_reports.specs.ProofWalks.{Place, Proof, leaves_in, walk_of}
use Rattle.clause_reports.specs.Reports.{Line, Proved, Reference, Reported, at_leaf, at_vector, equation_report, if_shadowed, on_candidate, order_in, report_of, reported, shadowed, some_absurd, unless_converts, with_candidate, Absurd}
use Rattle.clause_reports.specs.Shadows.{TreeLeaf, convert_at_all, earlier_leaf, leaves_of, vector_of}
use Rattle.clause_reports.specs.Stops.{Halts, Rejected, Rejection, ReportStop, Stuck, answers, halting, or_halts}
use Rattle.clause_reports.proofs.Keeping.{Any, any, rejected-has, weaker}
use Rattle.elim.proofs.headline.Adding.{Adds, Allows, adds-on, define-is, needed-adds, no-definition, nothing, one_more}

-- a definition that the line names is of the kind
abbrev pub IsProof : (Signature → Entry → Type 0) → Line → Type 0
IsProof K line = (U : Signature) (name : List ℕ) (type body : Term) → line ≡ Proved (length U.entries) → K U (Definition name type body)

-- the entries that a report adds after those of S, where one that its line names is of the kind
abbrev pub AddsBy : (Signature → Entry → Type 0) → Signature → Reported → Type 0
AddsBy K S r = IsProof K r.line → Adds K S r.signature

-- the same of the entry of a candidate
abbrev AddsProof : (Signature → Entry → Type 0) → Signature → Entered → Type 0
AddsProof K S x = IsProof K (Proved x.number) → Adds K S x.signature

module _ (K : Signature → Entry → Type 0) (allows : Allows K) where
  -- ---- shadowed clauses, where nothing enters

  if_shadowed-adds : (S : Signature) (r : Rejection) (earlier : ℕ) (context : Telescope) (vector : List Term) (leaves : List TreeLeaf) (holds : Bool)
      → IfOk (if_shadowed S r earlier context vector leaves holds) (AddsBy K S)
  if_shadowed-adds S r earlier context vector leaves true = λ kinds. nothing
  if_shadowed-adds S r earlier context vector leaves false = tt

  at_vector-adds : (S : Signature) (plan : Plan) (c : Reference) (r : Rejection) (earlier : ℕ) (context : Telescope) (vector : List Term) (left : ℕ)
      → Answers (AddsBy K S) (at_vector S plan c r earlier context vector left)
  at_vector-adds S plan c r earlier context vector left =
      let part = part_at plan c.part in
      by (matches_all S (pats_of part c.clause) vector && matches_all S (pats_of part earlier) vector) (leaves_of c.clause part.tree)
    where
      by : (both : Bool) (leaves : List TreeLeaf) → Answers (AddsBy K S) (cond both
          (and_next (convert_at_all S plan c.part c.clause (order_in S plan c.part) c.walk leaves left) (λ holds rest.
          answers (if_shadowed S r earlier context vector leaves holds) rest))
          (answers (Err (Rejected r)) left))
      by true leaves =
          let compared = convert_at_all S plan c.part c.clause (order_in S plan c.part) c.walk leaves left in
          and_next-has Any (AddsBy K S) compared _ (any compared.0) (λ holds rest u. if_shadowed-adds S r earlier context vector leaves holds)
      by false leaves = tt

  at_leaf-adds : (S : Signature) (plan : Plan) (c : Reference) (r : Rejection) (leaf : Option (ℕ × Place)) (left : ℕ)
      → Answers (AddsBy K S) (at_leaf S plan c r leaf left)
  at_leaf-adds S plan c r None left = tt
  at_leaf-adds S plan c r (Some leaf) left =
      let part = part_at plan c.part in
      let vector = halting (vector_of S (pats_of part c.clause) (pats_of part leaf.0) leaf.1.terms left) in
      and_next-has Any (AddsBy K S) vector _ (any vector.0) (λ v rest u. at_vector-adds S plan c r leaf.0 leaf.1.context v rest)

  shadowed-adds : (S : Signature) (plan : Plan) (c : Reference) (proof : Proof) (r : Rejection) (left : ℕ)
      → Answers (AddsBy K S) (shadowed S plan c proof r left)
  shadowed-adds S plan c proof r left =
      let leaf = earlier_leaf S c.clause (leaves_in proof) left in
      and_next-has Any (AddsBy K S) leaf _ (any leaf.0) (λ l rest u. at_leaf-adds S plan c r l rest)

  -- ---- candidates

  enter_entry-proves : (S : Signature) (e : Entry) (left : ℕ) → Answers (AddsProof K S) (enter_entry S e left)
  enter_entry-proves S (Definition name type body) left =
      let e = Definition name type body in
      rejected-has (AddsProof K S) S e (define_of S name type body left).0
      (weaker (λ (x : Entered). x ≡ entered S e) (AddsProof K S) (define_of S name type body left).0
      (λ x is. transport (AddsProof K S) (sym is) (λ kinds. one_more S e nothing (no-definition name type body) (kinds S name type body refl)))
      (define-is S name type body left))
  enter_entry-proves S (FamilyOf f) left = tt
  enter_entry-proves S (EliminatorAt n m) left = tt
  enter_entry-proves S (AxiomKAt i m) left = tt

  -- a candidate enters T, which goes on from S
  on_candidate-adds : (S T : Signature) (plan : Plan) (c : Reference) (proof : Proof) (answer : Result Entered ReportStop) (left : ℕ) → Adds K S T
      → IfOk answer (AddsProof K T) → Answers (AddsBy K S) (on_candidate S plan c proof answer left)
  on_candidate-adds S T plan c proof (Ok e) left g h = λ kinds. adds-on g (h kinds)
  on_candidate-adds S T plan c proof (Err (Rejected r)) left g h = shadowed-adds S plan c proof r left
  on_candidate-adds S T plan c proof (Err (Halts e)) left g h = tt
  on_candidate-adds S T plan c proof (Err (Stuck context u v why)) left g h = tt

  with_candidate-adds : (S : Signature) (plan : Plan) (c : Reference) (proof : Proof) (d : Draft) (left : ℕ)
      → Answers (AddsBy K S) (with_candidate S plan c proof d left)
  with_candidate-adds S plan c proof d left =
      and_next-has (Adds K S) (AddsBy K S) (enter_all enter_needed S (mentioned d) left) _ (needed-adds K allows S (mentioned d) left) (λ T rest g.
      let e = renumbered_entry (settled_number T d.base d.names) d.entry in
      on_candidate-adds S T plan c proof (enter_entry T e rest).0 (enter_entry T e rest).1 g (enter_entry-proves T e rest))

  -- ---- reports

  unless_converts-adds : (S : Signature) (plan : Plan) (c : Reference) (e : Equation) (holds : Bool) (left : ℕ)
      → Answers (AddsBy K S) (unless_converts S plan c e holds left)
  unless_converts-adds S plan c e true left = λ kinds. nothing
  unless_converts-adds S plan c e false left =
      let walk = walk_of S plan c.part c.walk e (part_at plan c.part).tree left in
      and_next-has Any (AddsBy K S) walk _ (any walk.0) (λ proof rest u.
      and_next-has Any (AddsBy K S) (or_halts (candidate S plan c.part c.clause e proof), rest) _ (any (or_halts (candidate S plan c.part c.clause e proof)))
      (λ d end v. with_candidate-adds S plan c proof d end))

  equation_report-adds : (S : Signature) (plan : Plan) (c : Reference) (left : ℕ) → Answers (AddsBy K S) (equation_report S plan c left)
  equation_report-adds S plan c left =
      let made = or_halts (equation_of S plan c.part c.clause c.walk) in
      and_next-has Any (AddsBy K S) (made, left) _ (any made) (λ e rest u.
      let compared = halting (convertible_of S nesting e.left e.right rest) in
      and_next-has Any (AddsBy K S) compared _ (any compared.0) (λ holds end v. unless_converts-adds S plan c e holds end))

  pub report-adds : (S : Signature) (plan : Plan) (c : Reference) (left : ℕ) → Answers (AddsBy K S) (report_of S plan c left)
  report-adds S plan c left = by (some_absurd (pats_of (part_at plan c.part) c.clause))
    where
      by : (absurd_there : Bool) → Answers (AddsBy K S) (cond absurd_there (answers (Ok (reported S Absurd)) left) (equation_report S plan c left))
      by true = λ kinds. nothing
      by false = equation_report-adds S plan c left
