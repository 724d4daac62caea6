-- A property that the entering of a draft keeps is kept by the report of a clause.
use Rattle.std.proofs.Common.{ℕ, Bool, true, false, ◌&&◌, cond, Option, Some, None, List, [], ◌++◌, length, map, get_or, Result, Ok, Err, IfOk}
use Rattle.theory.specs.Terms.{Term}
use Rattle.theory.specs.Telescopes.{Telescope, functions}
use Rattle.theory.specs.Signatures.{Signature, Definition}
use Rattle.core_terms.specs.Answers.{and_next, and_then, bounded}
use Rattle.core_terms.specs.declared.stop.Stop.{Stop}
use Rattle.core_terms.proofs.Answers.{Answers, and_next-has}
use Rattle.core_sig.specs.Drafts.{Draft, drafted}
use Rattle.core_sig.specs.Settling.{renumbered, renumbered_entry, settled_number}
use Rattle.family_check.specs.Entering.{Entered}
use Rattle.kernel_reduce.specs.Comparison.{convertible_of}
use Rattle.kernel_reduce.specs.Reduction.{nesting}
use Rattle.case_trees.specs.pattern_vectors.Matching.{matches_all}
use Rattle.tree_translation.specs.Naming.{Naming, drafted_in_order, mentions, number_among, number_in, once, with_names}
use Rattle.tree_translation.specs.Plans.{Part, Plan}
use Rattle.clause_reports.specs.DraftEntering.{enter_all, enter_entry, enter_needed, mentioned}
use Rattle.clause_reports.specs.Equations.{Equation, closed_type, equation_of, part_at, pats_of}
use Rattle.clause_reports.specs.ProofTerms.{candidate, proof_name, proof_names, proof_term}
use Rattle.clause_reports.specs.ProofWalks.{Place, Proof, leaves_in, walk_of}
use Rattle.clause_reports.specs.Reports.{Reference, Reported, at_leaf, at_vector, equation_report, if_shadowed, on_candidate, order_in, report_of, reported, shadowed, some_absurd, unless_converts, with_candidate}
use Rattle.clause_reports.specs.Reports as reports
use Rattle.clause_reports.specs.Shadows.{TreeLeaf, convert_at_all, earlier_leaf, leaves_of, vector_of}
use Rattle.clause_reports.specs.Stops.{Halts, Rejected, Rejection, ReportStop, Stuck, answers, or_halts, halting}
use Rattle.elim.proofs.headline.writing_laws.Carrying.{skip, halts-has, DraftIs, After, Keeps, enter_all-is, enter_needed-is, renumbered-is}

-- ---- drafts with a name

pub drafted-made : (D : List ℕ → Type 0) (name : List ℕ) (base : ℕ) (names : List (List ℕ)) (type term : Term) → D name → IfOk (drafted name base names type term) (DraftIs D)
drafted-made D name base names type term h = by (bounded type) (bounded term)
  where
    by : (t u : Result Term Stop) → IfOk (and_then t (λ a. and_then u (λ b. Ok (record { entry = Definition name a b; base = base; names = names })))) (DraftIs D)
    by (Ok a) (Ok b) = h
    by (Ok a) (Err e) = tt
    by (Err e) u = tt

pub ordered-made : (D : List ℕ → Type 0) (name : List ℕ) (base : ℕ) (candidates : List (List ℕ)) (type term : Naming → Term) → D name → IfOk (drafted_in_order name base candidates type term) (DraftIs D)
ordered-made D name base candidates type term h =
    let table = with_names [] candidates in
    let t = type (number_in base table) in
    let u = term (number_in base table) in
    let places = once [] (mentions base t ++ mentions base u) in
    drafted-made D name base (map (λ i. get_or table i []) places) (renumbered (number_among base places) t) (renumbered (number_among base places) u) h

-- the signature after a line
abbrev pub Told : (Signature → Type 0) → Reported → Type 0
Told P r = P r.signature

module _ (D Own : List ℕ → Type 0) (Few : ℕ → Type 0) (P : Signature → Type 0) (keeps : Keeps D Own Few P) where
  candidate-is : (S : Signature) (plan : Plan) (k clause : ℕ) (e : Equation) (proof : Proof) → Own plan.name × Few k → IfOk (candidate S plan k clause e proof) (DraftIs D)
  candidate-is S plan k clause e proof h =
      let L = (part_at plan k).level in
      ordered-made D (proof_name plan k clause) (length S.entries) (proof_names S L proof) (λ number. closed_type L e)
      (λ number. functions e.context (proof_term S number L proof)) (keeps.proof plan.name k clause h.0 h.1)

  -- ---- shadowed clauses

  if_shadowed-is : (S : Signature) → P S → (r : Rejection) (earlier : ℕ) (context : Telescope) (vector : List Term) (leaves : List TreeLeaf) (holds : Bool)
      → IfOk (if_shadowed S r earlier context vector leaves holds) (Told P)
  if_shadowed-is S p r earlier context vector leaves true = p
  if_shadowed-is S p r earlier context vector leaves false = tt

  at_vector-is : (S : Signature) → P S → (plan : Plan) (c : Reference) (r : Rejection) (earlier : ℕ) (context : Telescope) (vector : List Term) (left : ℕ)
      → Answers (Told P) (at_vector S plan c r earlier context vector left)
  at_vector-is S p plan c r earlier context vector left =
      by (matches_all S (pats_of part c.clause) vector && matches_all S (pats_of part earlier) vector) (leaves_of c.clause part.tree)
    where
      part : Part
      part = part_at plan c.part

      by : (match : Bool) (leaves : List TreeLeaf)
          → Answers (Told P)
          (cond match
          (and_next (convert_at_all S plan c.part c.clause (order_in S plan c.part) c.walk leaves left) (λ holds rest.
          answers (if_shadowed S r earlier context vector leaves holds) rest))
          (answers (Err (Rejected r)) left))
      by true leaves =
          skip (Told P) (convert_at_all S plan c.part c.clause (order_in S plan c.part) c.walk leaves left) _ (λ holds rest.
          if_shadowed-is S p r earlier context vector leaves holds)
      by false leaves = tt

  at_leaf-is : (S : Signature) → P S → (plan : Plan) (c : Reference) (r : Rejection) (found : Option (ℕ × Place)) (left : ℕ)
      → Answers (Told P) (at_leaf S plan c r found left)
  at_leaf-is S p plan c r None left = tt
  at_leaf-is S p plan c r (Some leaf) left =
      let part = part_at plan c.part in
      skip (Told P) (halting (vector_of S (pats_of part c.clause) (pats_of part leaf.0) leaf.1.terms left)) _ (λ vector rest.
      at_vector-is S p plan c r leaf.0 leaf.1.context vector rest)

  shadowed-is : (S : Signature) → P S → (plan : Plan) (c : Reference) (proof : Proof) (r : Rejection) (left : ℕ)
      → Answers (Told P) (shadowed S plan c proof r left)
  shadowed-is S p plan c proof r left =
      skip (Told P) (earlier_leaf S c.clause (leaves_in proof) left) _ (λ found rest. at_leaf-is S p plan c r found rest)

  -- ---- reports

  on_candidate-is : (S : Signature) → P S → (plan : Plan) (c : Reference) (proof : Proof) (answer : Result Entered ReportStop) (left : ℕ)
      → IfOk answer (After P) → Answers (Told P) (on_candidate S plan c proof answer left)
  on_candidate-is S p plan c proof (Ok e) left h = h
  on_candidate-is S p plan c proof (Err (Rejected r)) left h = shadowed-is S p plan c proof r left
  on_candidate-is S p plan c proof (Err (Halts e)) left h = tt
  on_candidate-is S p plan c proof (Err (Stuck context u v why)) left h = tt

  with_candidate-is : (S : Signature) → P S → (plan : Plan) (c : Reference) (proof : Proof) (d : Draft) → DraftIs D d → (left : ℕ)
      → Answers (Told P) (with_candidate S plan c proof d left)
  with_candidate-is S p plan c proof d h left =
      and_next-has P (Told P) (enter_all enter_needed S (mentioned d) left) _
      (enter_all-is D Own Few P keeps enter_needed (enter_needed-is D Own Few P keeps) S p (mentioned d) left) (λ T rest k.
      let entered = enter_entry T (renumbered_entry (settled_number T d.base d.names) d.entry) rest in
      on_candidate-is S p plan c proof entered.0 entered.1 (renumbered-is D Own Few P keeps (settled_number T d.base d.names) d.entry T rest k h))

  unless_converts-is : (S : Signature) → P S → (plan : Plan) (c : Reference) → Own plan.name × Few c.part → (e : Equation) (holds : Bool) (left : ℕ)
      → Answers (Told P) (unless_converts S plan c e holds left)
  unless_converts-is S p plan c own e true left = p
  unless_converts-is S p plan c own e false left =
      skip (Told P) (walk_of S plan c.part c.walk e (part_at plan c.part).tree left) _ (λ proof rest.
      and_next-has (DraftIs D) (Told P) (answers (or_halts (candidate S plan c.part c.clause e proof)) rest) _
      (halts-has (DraftIs D) (candidate S plan c.part c.clause e proof) (candidate-is S plan c.part c.clause e proof own))
      (λ d end h. with_candidate-is S p plan c proof d h end))

  equation-is : (S : Signature) → P S → (plan : Plan) (c : Reference) → Own plan.name × Few c.part → (left : ℕ) → Answers (Told P) (equation_report S plan c left)
  equation-is S p plan c own left =
      skip (Told P) (answers (or_halts (equation_of S plan c.part c.clause c.walk)) left) _ (λ e rest.
      skip (Told P) (halting (convertible_of S nesting e.left e.right rest)) _ (λ holds end. unless_converts-is S p plan c own e holds end))

  pub report-is : (S : Signature) → P S → (plan : Plan) (c : Reference) → Own plan.name × Few c.part → (left : ℕ) → Answers (Told P) (report_of S plan c left)
  report-is S p plan c own left = by (some_absurd (pats_of (part_at plan c.part) c.clause))
    where
      by : (there : Bool) → Answers (Told P) (cond there (answers (Ok (reported S reports.Absurd)) left) (equation_report S plan c left))
      by true = p
      by false = equation-is S p plan c own left
