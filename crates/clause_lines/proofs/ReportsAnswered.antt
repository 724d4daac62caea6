-- The line of a clause that the code answers is the line as it is defined.
use Rattle.std.proofs.Common.{◌≡◌, ◌≢◌, ℕ, Bool, true, false, cond, bytes_eq, List, [], ◌++◌, get_or, length, map, Result, Ok, Err, refl, sym, ap, ◌∙◌, subst as transport, arith}
use Rattle.std.proofs.lemmas.Slice.Eq.{bytes_eq-Decides}
use Rattle.theory.specs.Terms.{Term}
use Rattle.theory.specs.Telescopes.{functions, products}
use Rattle.theory.specs.Signatures.{Signature, Definition, equation}
use Rattle.core_terms.specs.Answers.{and_next, and_then, is_low}
use Rattle.core_terms.specs.declared.stop.Stop.{Stop}
use Rattle.core_terms.specs.declared.stop.Stop.TheVariants.{Deep}
use Rattle.core_sig.specs.Drafts.{Draft, drafted}
use Rattle.core_terms.proofs.Builders.{ok_is}
use Rattle.core_sig.specs.Settling.{renumbered, renumbered_entry, settled_number}
use Rattle.family_check.specs.Entering.{Entered}
use Rattle.kernel_reduce.specs.Comparison.{convertible_of}
use Rattle.kernel_reduce.specs.Reduction.{nesting}
use Rattle.tree_translation.specs.Naming.{Naming, drafted_in_order, mentions, number_among, number_in, once, with_names}
use Rattle.tree_translation.specs.Plans.{Plan}
use Rattle.clause_reports.specs.DraftEntering.{enter_all, enter_entry, enter_needed, mentioned}
use Rattle.clause_reports.specs.Equations.{Equation, equation_of, part_at, part_name, pats_of}
use Rattle.clause_reports.specs.ProofTerms.{candidate, proof_names, proof_term}
use Rattle.clause_reports.specs.ProofWalks.{Proof, walk_of}
use Rattle.clause_reports.specs.Reports as pure
use Rattle.clause_reports.specs.Reports.{Reference, Reported, Absurd, Definitional, reported, some_absurd, on_candidate, report_of}
use Rattle.clause_reports.specs.Stops.{ReportStop, Reporting, Halts, Stuck, Rejected, answers, or_halts, halting}
use Rattle.clause_reports.proofs.ReportKeeping.{report-keeps}
use Rattle.clause_equations.specs.CodeEquations.{equation_made}
use Rattle.clause_equations.specs.Laws.{EquationMadeIsEquation}
use Rattle.leaf_terms.specs.RecursionMade.{RecursionIsFound}
use Rattle.split_terms.specs.Laws.{StepsAreThese}
use Rattle.drafts.specs.draft_checks.Checks.{enterable}
use Rattle.drafts.specs.draft_entering.Depths.{own_name}
use Rattle.proof_walks.specs.proof_terms.CodeProofs.{name_made}
use Rattle.proof_walks.specs.proof_terms.Laws.{CandidateIsThis}
use Rattle.proof_walks.specs.Laws.{WalkAnswers}
use Rattle.proof_walks.specs.Starts.{walk_made}
use Rattle.clause_lines.specs.CodeReports.{Known, Candidate, in_plan, equation_converts, shadowed_made, on_entered, entering_made, candidate_of, with_candidate, proof_judged, unless_converts, sides_judged, equation_judged, on_judged, report_made}
use Rattle.clause_lines.specs.Laws.{ReportAnswers, ReportMadeKeepsWellFormed}
use Rattle.clause_lines.proofs.Following.{Follows, spent, follows-has, follows-if, follows-same, follows-twice, halts-follow, refused}
use Rattle.clause_lines.proofs.NameMarks.{IsOther, clause-marked, mark_after}
use Rattle.clause_lines.proofs.OtherDenials.{DeniesOthers, needed-denies}
use Rattle.clause_lines.proofs.ShadowsAnswered.{converting-follows, shadowed-follows}

-- ---- the candidate

defined_by : (name : List ℕ) (base : ℕ) (names : List (List ℕ)) (t u : Term) → Draft
defined_by name base names t u = record { entry = Definition name t u; base = base; names = names }

drafted-own : (name : List ℕ) (base : ℕ) (names : List (List ℕ)) (t u : Term) (d : Draft)
    → drafted name base names t u ≡ Ok d → own_name d ≡ name
unfolding defined_by
drafted-own name base names t u d is = by (is_low t) (is_low u) is
  where
    by : (b c : Bool) → and_then (cond b (Ok t) (Err Deep)) (λ x. and_then (cond c (Ok u) (Err Deep)) (λ y. Ok (defined_by name base names x y))) ≡ Ok d
        → own_name d ≡ name
    by true true h = sym (ap own_name (ok_is h))
    by true false h = absurd (grind arith)
    by false c h = absurd (grind arith)

ordered-own : (name : List ℕ) (base : ℕ) (candidates : List (List ℕ)) (type term : Naming → Term) (d : Draft)
    → drafted_in_order name base candidates type term ≡ Ok d → own_name d ≡ name
ordered-own name base candidates type term d is =
    let table = with_names [] candidates in
    let t = type (number_in base table) in
    let u = term (number_in base table) in
    let places = once [] (mentions base t ++ mentions base u) in
    drafted-own name base (map (λ i. get_or table i []) places)
    (renumbered (number_among base places) t) (renumbered (number_among base places) u) d is

pub candidate-own : (S : Signature) (plan : Plan) (c : Reference) (e : Equation) (proof : Proof) (d : Draft) → candidate S plan c.part c.clause e proof ≡ Ok d
    → own_name d ≡ name_made (part_name plan c.part) c.clause
candidate-own S plan c e proof d is =
    let L = (part_at plan c.part).level in
    ordered-own (name_made (part_name plan c.part) c.clause) (length S.entries) (proof_names S L proof)
    (λ number. products e.context (equation L e.type e.left e.right)) (λ number. functions e.context (proof_term S number L proof)) d is

-- the laws of the parts of a report
pub record ArePartsAnswered : Type 0 where
  pub recursion : RecursionIsFound
  pub steps : (S : Signature) → StepsAreThese S
  pub equations : EquationMadeIsEquation
  pub candidates : CandidateIsThis
  pub walks : WalkAnswers

module _ (laws : ArePartsAnswered) where
  -- ---- entering

  -- a candidate with the name of a proof is itself rejected where the rejected entry has this name
  entered-follows : (S : Signature) (plan : Plan) (c : Reference) (proof : Proof) (name : List ℕ) (r : Result Entered ReportStop) (left : ℕ)
      → Follows (on_entered S (in_plan plan c) proof name r left) (on_candidate S plan c proof r left)
  entered-follows S plan c proof name (Ok e) left = follows-same (spent (Ok (reported e.signature (pure.Proved e.number))) left)
  entered-follows S plan c proof name (Err (Rejected r)) left =
      follows-if (bytes_eq r.entry name) (shadowed_made S (in_plan plan c) proof (Rejected r) left) (Rejected r) left (pure.shadowed S plan c proof r left)
      (shadowed-follows laws.recursion S plan c proof r left)
  entered-follows S plan c proof name (Err (Halts e)) left = refused (Halts e) left (answers (Err (Halts e)) left)
  entered-follows S plan c proof name (Err (Stuck context u v why)) left = refused (Stuck context u v why) left (answers (Err (Stuck context u v why)) left)

  is-denied : (name other : List ℕ) (b : Bool) → bytes_eq other name ≡ b → mark_after 0 name ≡ 99 → IsOther other → b ≡ false
  is-denied name other false is marked h = refl
  is-denied name other true is marked h = absurd (h (ap (mark_after 0) ((bytes_eq-Decides other name).0 is) ∙ marked))

  -- an entry that the candidate needs is rejected under another name
  needed-follows : (S : Signature) (plan : Plan) (c : Reference) (proof : Proof) (name : List ℕ) → mark_after 0 name ≡ 99
      → (first : Reporting Signature) → DeniesOthers first.0 → (go : Signature → ℕ → Reporting Entered)
      → Follows (on_entered S (in_plan plan c) proof name (and_next first go).0 (and_next first go).1)
      (and_next first (λ T rest. on_candidate S plan c proof (go T rest).0 (go T rest).1))
  needed-follows S plan c proof name marked (Ok T, left) others go = entered-follows S plan c proof name (go T left).0 (go T left).1
  needed-follows S plan c proof name marked (Err (Halts e), left) others go = refused (Halts e) left (answers (Err (Halts e)) left)
  needed-follows S plan c proof name marked (Err (Stuck context u v why), left) others go = refused (Stuck context u v why) left (answers (Err (Stuck context u v why)) left)
  needed-follows S plan c proof name marked (Err (Rejected r), left) others go =
      transport (λ b. Follows (cond b (shadowed_made S (in_plan plan c) proof (Rejected r) left) (answers (Err (Rejected r)) left)) (answers (Err (Rejected r)) left))
      (sym (is-denied name r.entry (bytes_eq r.entry name) refl marked others)) (refused (Rejected r) left (answers (Err (Rejected r)) left))

  entering-follows : (S : Signature) (plan : Plan) (c : Reference) (proof : Proof) (d : Draft) (left : ℕ) → mark_after 0 (own_name d) ≡ 99
      → Follows (entering_made S (in_plan plan c) proof d left) (pure.with_candidate S plan c proof d left)
  unfolding entering_made
  entering-follows S plan c proof d left marked =
      needed-follows S plan c proof (own_name d) marked (enter_all enter_needed S (mentioned d) left) (needed-denies S (mentioned d) left)
      (λ T rest. enter_entry T (renumbered_entry (settled_number T d.base d.names) d.entry) rest)

  -- ---- the proof

  proof-follows : (S : Signature) (plan : Plan) (c : Reference) (e : Equation) (proof : Proof) (left : ℕ)
      → Follows (and_next (answers (proof_judged S (in_plan plan c) e proof) left) (on_judged S (in_plan plan c)))
      (and_next (answers (or_halts (candidate S plan c.part c.clause e proof)) left) (λ d end. pure.with_candidate S plan c proof d end))
  proof-follows S plan c e proof left = by (candidate_of S (in_plan plan c) e proof) refl
    where
      meant : Result Draft Stop → Reporting Reported
      meant r = and_next (answers (or_halts r) left) (λ d end. pure.with_candidate S plan c proof d end)

      on-draft : (d : Draft) (b : Bool) → mark_after 0 (own_name d) ≡ 99
          → Follows (and_next (answers (cond b (Ok (Candidate proof d)) (Err (Halts Deep))) left) (on_judged S (in_plan plan c)))
          (pure.with_candidate S plan c proof d left)
      on-draft d true marked = entering-follows S plan c proof d left marked
      on-draft d false marked = refused (Halts Deep) left (pure.with_candidate S plan c proof d left)

      by : (made : Result Draft Stop) → candidate_of S (in_plan plan c) e proof ≡ made
          → Follows (and_next (answers (and_then (or_halts made) (with_candidate S proof)) left) (on_judged S (in_plan plan c)))
          (and_next (answers (or_halts (candidate S plan c.part c.clause e proof)) left) (λ d end. pure.with_candidate S plan c proof d end))
      by (Ok d) is =
          let there = laws.candidates S (laws.steps S) plan c.part c.clause e proof d is in
          transport (λ r. Follows (and_next (answers (with_candidate S proof d) left) (on_judged S (in_plan plan c)))
          (and_next (answers (or_halts r) left) (λ d end. pure.with_candidate S plan c proof d end))) (sym there)
          (on-draft d (enterable S d) (ap (mark_after 0) (candidate-own S plan c e proof d there) ∙ clause-marked (part_name plan c.part) c.clause))
      by (Err stop) is = refused (Halts stop) left (and_next (answers (or_halts (candidate S plan c.part c.clause e proof)) left) (λ d end. pure.with_candidate S plan c proof d end))

  ok-not-deep : {A : Type 0} (a : A) → ◌≢◌ {A = Result A ReportStop} (Ok a) (Err (Halts Deep))
  ok-not-deep a h = absurd (grind arith)

  walk-follows : (S : Signature) (plan : Plan) (c : Reference) (e : Equation) (left : ℕ)
      → Follows (walk_made S plan c.part c.walk e (part_at plan c.part).tree left) (walk_of S plan c.part c.walk e (part_at plan c.part).tree left)
  walk-follows S plan c e left proof rest is =
      laws.walks S plan c.part c.walk e (part_at plan c.part).tree left rest (Ok proof) is (ok-not-deep proof)

  holds-follow : (S : Signature) (plan : Plan) (c : Reference) (e : Equation) (holds : Bool) (left : ℕ)
      → Follows (and_next (unless_converts S (in_plan plan c) e holds left) (on_judged S (in_plan plan c))) (pure.unless_converts S plan c e holds left)
  holds-follow S plan c e true left = follows-same (spent (Ok (reported S Definitional)) left)
  holds-follow S plan c e false left =
      follows-twice (walk_made S plan c.part c.walk e (part_at plan c.part).tree left) (walk_of S plan c.part c.walk e (part_at plan c.part).tree left)
      (λ proof rest. answers (proof_judged S (in_plan plan c) e proof) rest) (on_judged S (in_plan plan c))
      (λ proof rest. and_next (answers (or_halts (candidate S plan c.part c.clause e proof)) rest) (λ d end. pure.with_candidate S plan c proof d end))
      (walk-follows S plan c e left) (proof-follows S plan c e)

  sides-judged-follow : (S : Signature) (plan : Plan) (c : Reference) (e : Equation) (left : ℕ)
      → Follows (and_next (sides_judged S (in_plan plan c) e left) (on_judged S (in_plan plan c)))
      (and_next (halting (convertible_of S nesting e.left e.right left)) (λ holds end. pure.unless_converts S plan c e holds end))
  sides-judged-follow S plan c e left =
      follows-twice (equation_converts S e left) (halting (convertible_of S nesting e.left e.right left))
      (unless_converts S (in_plan plan c) e) (on_judged S (in_plan plan c)) (λ holds end. pure.unless_converts S plan c e holds end)
      (converting-follows S e left) (holds-follow S plan c e)

  equation-follows : (S : Signature) (plan : Plan) (c : Reference) (left : ℕ)
      → Follows (and_next (equation_judged S (in_plan plan c) left) (on_judged S (in_plan plan c))) (pure.equation_report S plan c left)
  equation-follows S plan c left =
      follows-twice (answers (or_halts (equation_made S plan c.part c.clause c.walk)) left) (answers (or_halts (equation_of S plan c.part c.clause c.walk)) left)
      (sides_judged S (in_plan plan c)) (on_judged S (in_plan plan c))
      (λ e rest. and_next (halting (convertible_of S nesting e.left e.right rest)) (λ holds end. pure.unless_converts S plan c e holds end))
      (halts-follow (equation_made S plan c.part c.clause c.walk) (equation_of S plan c.part c.clause c.walk) left (laws.equations S plan c.part c.clause c.walk))
      (sides-judged-follow S plan c)

  -- ---- the report

  pub report-follows : (S : Signature) (plan : Plan) (c : Reference) (left : ℕ) → Follows (report_made S plan c left) (report_of S plan c left)
  report-follows S plan c left = by (some_absurd (pats_of (part_at plan c.part) c.clause))
    where
      by : (b : Bool) → Follows (and_next (cond b (answers (Ok (Known Absurd)) left) (equation_judged S (in_plan plan c) left)) (on_judged S (in_plan plan c)))
          (cond b (answers (Ok (reported S Absurd)) left) (pure.equation_report S plan c left))
      by true = follows-same (spent (Ok (reported S Absurd)) left)
      by false = equation-follows S plan c left

  pub answered : ReportAnswers
  answered S plan c left rest r is = report-follows S plan c left r rest is

  pub kept : ReportMadeKeepsWellFormed
  kept S plan c left well prelude =
      follows-has (λ r. _) (report_made S plan c left) (report_of S plan c left) (report-follows S plan c left) (report-keeps S plan c left well prelude)
