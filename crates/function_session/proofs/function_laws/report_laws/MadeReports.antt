-- The report of a clause is made as is meant.
use Rattle.std.proofs.Common.{◌≡◌, ℕ, zero, suc, ◌+◌, Bool, true, false, ◌&&◌, cond, Option, List, [], ◌∷◌, length, All, Result, Ok, Err, refl, sym, ap, ap₂, ◌∙◌, subst as transport}
use Rattle.std.proofs.lemmas.List.Elements.{All-head, All-tail}
use Rattle.theory.specs.Terms.{Term}
use Rattle.theory.specs.Telescopes.{Telescope}
use Rattle.theory.specs.Signatures.{Signature}
use Rattle.theory.specs.SignatureScopes.{IsScoped, IsScopedTelescope}
use Rattle.core_terms.specs.Answers.{and_next, and_then}
use Rattle.core_terms.specs.declared.stop.Stop.{Stop}
use Rattle.core_terms.specs.declared.stop.Stop.TheVariants.{Deep}
use Rattle.core_sig.specs.Drafts.{Draft}
use Rattle.kernel_reduce.specs.Comparison.{convertible_of}
use Rattle.kernel_reduce.specs.Reduction.{nesting}
use Rattle.tree_translation.specs.Plans.{Plan, own_part}
use Rattle.tree_translation.specs.Recursion.{Recursion, order_of, recursion_of}
use Rattle.clause_equations.specs.CodeEquations.{equation_in, equation_made}
use Rattle.clause_equations.proofs.MadeEquations.{equation-at-is}
use Rattle.clause_reports.specs.Equations.{Equation, equation_of, part_at, part_name, pats_of, side_of, walk_site}
use Rattle.clause_reports.specs.ProofTerms.{candidate}
use Rattle.clause_reports.specs.ProofWalks.{Place, Proof, first_place, first_values, walk_of}
use Rattle.clause_reports.specs.Reports as pure
use Rattle.clause_reports.specs.Reports.{Reference, Absurd, order_in, reported, report_of, some_absurd}
use Rattle.clause_reports.specs.Shadows.{leaves_of}
use Rattle.clause_reports.specs.Stops.{Halts, ReportStop, Reporting, answers, or_halts, halting}
use Rattle.drafts.proofs.draft_entering.Entered.{next-assoc}
use Rattle.entry_laws.proofs.OnlyConstants.{each-all}
use Rattle.function_session.proofs.equation_laws.LeftShowing.{equation-is}
use Rattle.function_session.proofs.equation_laws.EquationScopes.{terms_at-scoped}
use Rattle.proof_walks.specs.PlaceScopes.{IsScopedPlace, are_scoped, is_scoped_place, is_scoped_telescope}
use Rattle.proof_walks.specs.Starts.{walk_made}
use Rattle.proof_walks.proofs.WalkLaws.{walk-is-made}
use Rattle.proof_walks.proofs.ScopeTests.{term-told}
use Rattle.clause_lines.specs.CodeReports.{Candidate, Judgement, Known, equation_converts, equation_judged, in_plan, on_judged, proof_judged, report_made, sides_judged, unless_converts, with_candidate}
use Rattle.clause_lines.proofs.NameMarks.{clause-marked, mark_after}
use Rattle.clause_lines.proofs.ReportsAnswered.{candidate-own}
use Rattle.function_session.proofs.plan_laws.Answering.{if-ok}
use Rattle.function_session.proofs.plan_laws.ExactPlans.{next-same}
use Rattle.function_session.specs.function_laws.report_laws.Laws.{ReportIsMade}
use Rattle.function_session.specs.function_laws.report_laws.Reportable.{IsLeafOver, IsReportable}
use Rattle.function_session.proofs.function_laws.report_laws.WalkedProofs.{IsProofOver, walk-proves}
use Rattle.function_session.proofs.function_laws.report_laws.MadeProofs.{candidate-exact}
use Rattle.function_session.proofs.function_laws.report_laws.Candidates.{candidate-enters}
use Rattle.function_session.proofs.function_laws.report_laws.EnteredReports.{entering-same}
use Rattle.function_session.proofs.function_laws.report_laws.ShadowedReports.{converting-same, halts-ok, shadowed-same}

-- ---- the first place

telescope-told : (S : Signature) (n : ℕ) (tele : Telescope) → IsScopedTelescope S n tele → is_scoped_telescope S n tele ≡ true
telescope-told S n [] h = refl
telescope-told S n (a ∷ tele) h = ap₂ (λ (x y : Bool). x && y) (term-told S n a h.0) (telescope-told S (n + 1) tele h.1)

terms-told : (S : Signature) (n : ℕ) (ts : List Term) → All (IsScoped S n) ts → are_scoped S n ts ≡ true
terms-told S n [] h = refl
terms-told S n (t ∷ ts) h =
    ap₂ (λ (x y : Bool). x && y) (term-told S n t (All-head (IsScoped S n) t ts h)) (terms-told S n ts (All-tail (IsScoped S n) t ts h))

place-told : (S : Signature) (p : Place) → IsScopedPlace S p → is_scoped_place S p ≡ true
place-told S p h =
    let n = length p.context in
    let and : Bool → Bool → Bool = λ x y. x && y in
    ap₂ and (telescope-told S 0 p.context h.context)
    (ap₂ and (term-told S n p.type h.type)
    (ap₂ and (term-told S n p.left h.left)
    (ap₂ and (term-told S n p.right h.right) (ap₂ and (terms-told S n p.terms h.terms) (terms-told S n p.values h.values)))))

module _ (S : Signature) (plan : Plan) (c : Reference) (h : IsReportable S plan c) where
  values-scoped : (k : ℕ) → All (IsScoped S (length c.walk.ctx)) (first_values S plan k c.walk)
  values-scoped zero = terms_at-scoped S (length c.walk.ctx) c.walk.terms (order_of (length (own_part plan).tele) (recursion_of S plan)) h.terms
  values-scoped (suc k) = h.substitution

  first-scoped : (e : Equation) → equation_of S plan c.part c.clause c.walk ≡ Ok e → IsScopedPlace S (first_place S plan c.part c.walk e)
  first-scoped e is =
      let over = h.over e is in
      let same : e.context ≡ c.walk.ctx =
      (equation-is S plan c.part (pats_of (part_at plan c.part) c.clause) (side_of (part_at plan c.part) c.clause) (walk_site c.walk) e is).context in
      record {
        context = over.context;
        type = over.type;
        left = over.left;
        right = over.right;
        terms = transport (λ G. All (IsScoped S (length G)) c.walk.terms) (sym same) h.terms;
        values = transport (λ G. All (IsScoped S (length G)) (first_values S plan c.part c.walk)) (sym same) (values-scoped c.part);
      }

  -- ---- the proof

  walk-same : (e : Equation) → equation_of S plan c.part c.clause c.walk ≡ Ok e → (left : ℕ)
      → walk_made S plan c.part c.walk e (part_at plan c.part).tree left ≡ walk_of S plan c.part c.walk e (part_at plan c.part).tree left
  walk-same e is left =
      walk-is-made S plan c.part c.walk e (part_at plan c.part).tree left h.low (place-told S (first_place S plan c.part c.walk e) (first-scoped e is))

  proof-same : (e : Equation) → equation_of S plan c.part c.clause c.walk ≡ Ok e → (proof : Proof) → IsProofOver S e.context proof → (left : ℕ)
      → and_next (answers (proof_judged S (in_plan plan c) e proof) left) (on_judged S (in_plan plan c))
      ≡ and_next (answers (or_halts (candidate S plan c.part c.clause e proof)) left) (λ d end. pure.with_candidate S plan c proof d end)
  proof-same e is proof over left =
      ap
      (λ (r : Result Draft Stop).
      and_next (answers (and_then (or_halts r) (with_candidate S proof)) left) (on_judged S (in_plan plan c)))
      (candidate-exact S h.ready plan c.part c.clause e proof over.made)
      ∙ by (candidate S plan c.part c.clause e proof) refl
    where
      by : (r : Result Draft Stop) → candidate S plan c.part c.clause e proof ≡ r
          → and_next (answers (and_then (or_halts r) (with_candidate S proof)) left) (on_judged S (in_plan plan c))
          ≡ and_next (answers (or_halts r) left) (λ d end. pure.with_candidate S plan c proof d end)
      by (Ok d) made =
          ap (λ b. and_next (answers (cond {A = Result Judgement ReportStop} b (Ok (Candidate proof d)) (Err (Halts Deep))) left) (on_judged S (in_plan plan c)))
          (candidate-enters S h.ready h.first plan c.part c.clause h.fits e (h.over e is) proof over d made)
          ∙ entering-same S plan c proof (λ r left. shadowed-same S plan c h.recursion (each-all (IsLeafOver S plan c (order_in S plan c.part)) (leaves_of c.clause (part_at plan c.part).tree) h.leaves) proof r left) d left
          (ap (mark_after 0) (candidate-own S plan c e proof d made) ∙ clause-marked (part_name plan c.part) c.clause)
      by (Err x) made = refl

  -- ---- the equation

  converts-same : (e : Equation) → equation_of S plan c.part c.clause c.walk ≡ Ok e → (holds : Bool) (left : ℕ)
      → and_next (unless_converts S (in_plan plan c) e holds left) (on_judged S (in_plan plan c)) ≡ pure.unless_converts S plan c e holds left
  converts-same e is true left = refl
  converts-same e is false left =
      let walked = walk_of S plan c.part c.walk e (part_at plan c.part).tree left in
      next-assoc (walk_made S plan c.part c.walk e (part_at plan c.part).tree left) (λ proof rest. answers (proof_judged S (in_plan plan c) e proof) rest)
      (on_judged S (in_plan plan c))
      ∙ (ap
      (λ (first : Reporting Proof).
      and_next first (λ proof rest. and_next (answers (proof_judged S (in_plan plan c) e proof) rest) (on_judged S (in_plan plan c))))
      (walk-same e is left)
      ∙ next-same walked _ _ (λ proof rest made.
      proof-same e is proof
      (if-ok (IsProofOver S e.context) walked.0 proof made
      (walk-proves S (part_at plan c.part).tree (first_place S plan c.part c.walk e) left h.ready (first-scoped e is))) rest))

  made-same : equation_made S plan c.part c.clause c.walk ≡ equation_of S plan c.part c.clause c.walk
  made-same =
      ap (λ (r : Result (Option Recursion) Stop). and_then r (equation_in S plan c.part c.clause c.walk)) h.recursion
      ∙ equation-at-is S plan c.part (pats_of (part_at plan c.part) c.clause) (side_of (part_at plan c.part) c.clause) (walk_site c.walk)

  equation-reported : (left : ℕ) → and_next (equation_judged S (in_plan plan c) left) (on_judged S (in_plan plan c)) ≡ pure.equation_report S plan c left
  equation-reported left =
      let meant = equation_of S plan c.part c.clause c.walk in
      next-assoc (answers (or_halts (equation_made S plan c.part c.clause c.walk)) left) (sides_judged S (in_plan plan c)) (on_judged S (in_plan plan c))
      ∙ (ap
      (λ (r : Result Equation Stop).
      and_next (answers (or_halts r) left) (λ e rest. and_next (sides_judged S (in_plan plan c) e rest) (on_judged S (in_plan plan c))))
      made-same
      ∙ next-same (answers (or_halts meant) left) _ _ (λ e rest made.
      let is = halts-ok meant e made in
      let over = h.over e is in
      next-assoc (equation_converts S e rest) (unless_converts S (in_plan plan c) e) (on_judged S (in_plan plan c))
      ∙ (ap
      (λ (first : Reporting Bool).
      and_next first (λ holds end. and_next (unless_converts S (in_plan plan c) e holds end) (on_judged S (in_plan plan c))))
      (converting-same S e rest (record { left = over.left; right = over.right }))
      ∙ next-same (halting (convertible_of S nesting e.left e.right rest)) _ _ (λ holds end v. converts-same e is holds end))))

  report-same : (left : ℕ) → report_made S plan c left ≡ report_of S plan c left
  report-same left = by (some_absurd (pats_of (part_at plan c.part) c.clause))
    where
      by : (b : Bool)
          → and_next (cond b (answers (Ok (Known Absurd)) left) (equation_judged S (in_plan plan c) left)) (on_judged S (in_plan plan c))
          ≡ cond b (answers (Ok (reported S Absurd)) left) (pure.equation_report S plan c left)
      by true = refl
      by false = equation-reported left

pub report-is_made : ReportIsMade
report-is_made S plan c left h = report-same S plan c h left
