-- What is said of a clause whose candidate is denied is what is meant, where its equation is over the context of each of its leaves.
use Rattle.std.proofs.Common.{◌≡◌, ℕ, Bool, true, false, ◌&&◌, not, nat_lt, cond, Option, Some, List, [], ◌∷◌, length, Result, Ok, Err, refl, ap, ap₂, ◌∙◌}
use Rattle.theory.specs.Terms.{Term}
use Rattle.theory.specs.Telescopes.{Telescope}
use Rattle.theory.specs.Signatures.{Signature}
use Rattle.core_terms.specs.Answers.{and_next}
use Rattle.core_terms.specs.declared.stop.Stop.{Stop}
use Rattle.core_terms.specs.declared.stop.Stop.TheVariants.{Deep}
use Rattle.kernel_reduce.specs.Comparison.{convertible_of}
use Rattle.kernel_reduce.specs.Reduction.{nesting}
use Rattle.tree_translation.specs.Plans.{Plan}
use Rattle.tree_translation.specs.Recursion.{Recursion, recursion_of}
use Rattle.leaf_terms.specs.RecursionMade.{recursion_made}
use Rattle.entry_laws.proofs.OnlyConstants.{Each}
use Rattle.clause_reports.specs.Equations.{Equation, leaf_site, part_at, pats_of, side_of}
use Rattle.clause_reports.specs.ProofWalks.{Place, Proof, leaves_in}
use Rattle.clause_reports.specs.Reports as pure
use Rattle.clause_reports.specs.Reports.{Reference, Reported, order_in, at_leaf, at_vector, shadowed}
use Rattle.clause_reports.specs.Shadows.{TreeLeaf, convert_at_all, earlier_leaf, equation_at_leaf, leaves_of, vector_of}
use Rattle.clause_reports.specs.Stops.{Rejection, ReportStop, Reporting, Halts, Rejected, answers, or_halts, halting}
use Rattle.clause_equations.proofs.MadeEquations.{equation-at-is}
use Rattle.function_session.proofs.plan_laws.ExactPlans.{next-same}
use Rattle.drafts.proofs.draft_entering.Entered.{next-assoc}
use Rattle.proof_walks.proofs.ScopeTests.{term-told}
use Rattle.clause_lines.specs.CodeReports.{in_plan, equation_converts, equation_there, converts_at_all, converts_with, converts_at_leaves, if_shadowed, both_match, at_matched, at_vector_made, at_place, place_converts, shadowed_among, shadowed_made}
use Rattle.clause_lines.proofs.ShadowsAnswered.{order-is}
use Rattle.function_session.specs.function_laws.report_laws.Reportable.{AreSidesOver, IsLeafOver}

-- ---- tests

pub converting-same : (S : Signature) (e : Equation) (left : ℕ) → AreSidesOver S e → equation_converts S e left ≡ halting (convertible_of S nesting e.left e.right left)
converting-same S e left h =
    ap (λ b. cond {A = Reporting Bool} b (halting (convertible_of S nesting e.left e.right left)) (answers (Err (Halts Deep)) left))
    (ap₂ (λ (x y : Bool). x && y) (term-told S (length e.context) e.left h.left) (term-told S (length e.context) e.right h.right))

pub halts-ok : {A : Type 0} (r : Result A Stop) (a : A) → or_halts r ≡ Ok a → r ≡ Ok a
halts-ok (Ok b) a e = cc
halts-ok (Err x) a e = absurd (cc)

-- ---- leaves

module _ (S : Signature) (plan : Plan) (c : Reference) (found : recursion_made S plan ≡ Ok (recursion_of S plan)) where
  there-same : (order : List ℕ) (l : TreeLeaf)
      → equation_there S (in_plan plan c) (recursion_of S plan) order l ≡ equation_at_leaf S plan c.part c.clause order c.walk l
  there-same order l =
      equation-at-is S plan c.part (pats_of (part_at plan c.part) c.clause) (side_of (part_at plan c.part) c.clause)
      (leaf_site order c.walk l.context l.goal l.substitution l.terms l.binds)

  abbrev unless_holds : (others : ℕ → Reporting Bool) → Bool → ℕ → Reporting Bool
  unless_holds others holds rest = cond holds (others rest) (answers (Ok false) rest)

  all-same : (order : List ℕ) (leaves : List TreeLeaf) → Each (IsLeafOver S plan c order) leaves → (left : ℕ)
      → converts_at_all S (in_plan plan c) (recursion_of S plan) order leaves left ≡ convert_at_all S plan c.part c.clause order c.walk leaves left
  all-same order [] h left = refl
  all-same order (l ∷ leaves) (Each.more h all) left =
      let made = equation_there S (in_plan plan c) (recursion_of S plan) order l in
      let meant = equation_at_leaf S plan c.part c.clause order c.walk l in
      let ours : ℕ → Reporting Bool = λ rest. converts_at_all S (in_plan plan c) (recursion_of S plan) order leaves rest in
      let theirs : ℕ → Reporting Bool = λ rest. convert_at_all S plan c.part c.clause order c.walk leaves rest in
      next-assoc (answers (or_halts made) left) (λ e rest. equation_converts S e rest) (λ holds rest. unless_holds ours holds rest)
      ∙ (ap
      (λ (r : Result Equation Stop).
      and_next (answers (or_halts r) left) (λ e rest. and_next (equation_converts S e rest) (λ holds end. unless_holds ours holds end)))
      (there-same order l)
      ∙ next-same (answers (or_halts meant) left) _ _ (λ e rest is.
      ap (λ (first : Reporting Bool). and_next first (λ holds end. unless_holds ours holds end)) (converting-same S e rest (h e (halts-ok meant e is)))
      ∙ next-same (halting (convertible_of S nesting e.left e.right rest)) _ _ (λ holds end is. by holds end (all-same order leaves all end))))
    where
      by : (holds : Bool) (end : ℕ)
          → converts_at_all S (in_plan plan c) (recursion_of S plan) order leaves end ≡ convert_at_all S plan c.part c.clause order c.walk leaves end
          → unless_holds (λ rest. converts_at_all S (in_plan plan c) (recursion_of S plan) order leaves rest) holds end
          ≡ cond holds (convert_at_all S plan c.part c.clause order c.walk leaves end) (answers (Ok false) end)
      by true end h = h
      by false end h = refl

  leaves-same : (leaves : List TreeLeaf) → Each (IsLeafOver S plan c (order_in S plan c.part)) leaves → (left : ℕ)
      → converts_at_leaves S (in_plan plan c) leaves left ≡ convert_at_all S plan c.part c.clause (order_in S plan c.part) c.walk leaves left
  leaves-same leaves h left =
      ap (λ (r : Result (Option Recursion) Stop). and_next (answers (or_halts r) left) (converts_with S (in_plan plan c) leaves)) found
      ∙ (ap (λ order. converts_at_all S (in_plan plan c) (recursion_of S plan) order leaves left) (order-is S plan c.part)
      ∙ all-same (order_in S plan c.part) leaves h left)

  -- ---- the vector

  if-same : (r : Rejection) (earlier : ℕ) (context : Telescope) (vector : List Term) (leaves : List TreeLeaf) (holds : Bool)
      → if_shadowed S (Rejected r) earlier context vector leaves holds ≡ pure.if_shadowed S r earlier context vector leaves holds
  if-same r earlier context vector leaves true = refl
  if-same r earlier context vector leaves false = refl

  module _ (over : Each (IsLeafOver S plan c (order_in S plan c.part)) (leaves_of c.clause (part_at plan c.part).tree)) where
    vector-same : (r : Rejection) (earlier : ℕ) (context : Telescope) (vector : List Term) (left : ℕ)
        → at_vector_made S (in_plan plan c) (Rejected r) earlier context vector left ≡ at_vector S plan c r earlier context vector left
    vector-same r earlier context vector left = by (both_match S (in_plan plan c) earlier vector)
      where
        matched : at_matched S (in_plan plan c) (Rejected r) earlier context vector (leaves_of c.clause (part_at plan c.part).tree) left
            ≡ and_next (convert_at_all S plan c.part c.clause (order_in S plan c.part) c.walk (leaves_of c.clause (part_at plan c.part).tree) left) (λ holds rest.
            answers (pure.if_shadowed S r earlier context vector (leaves_of c.clause (part_at plan c.part).tree) holds) rest)
        matched =
            ap (λ (first : Reporting Bool). and_next first (λ holds rest.
            answers (if_shadowed S (Rejected r) earlier context vector (leaves_of c.clause (part_at plan c.part).tree) holds) rest))
            (leaves-same (leaves_of c.clause (part_at plan c.part).tree) over left)
            ∙ next-same (convert_at_all S plan c.part c.clause (order_in S plan c.part) c.walk (leaves_of c.clause (part_at plan c.part).tree) left) _ _
            (λ holds rest is. ap (λ (x : Result Reported ReportStop). answers x rest) (if-same r earlier context vector (leaves_of c.clause (part_at plan c.part).tree) holds))

        by : (b : Bool)
            → cond b (at_matched S (in_plan plan c) (Rejected r) earlier context vector (leaves_of c.clause (part_at plan c.part).tree) left)
            (answers (Err (Rejected r)) left)
            ≡ cond b (and_next (convert_at_all S plan c.part c.clause (order_in S plan c.part) c.walk (leaves_of c.clause (part_at plan c.part).tree) left) (λ holds rest.
            answers (pure.if_shadowed S r earlier context vector (leaves_of c.clause (part_at plan c.part).tree) holds) rest))
            (answers (Err (Rejected r)) left)
        by true = matched
        by false = refl

    place-same : (r : Rejection) (leaf : ℕ × Place) (left : ℕ)
        → at_place S (in_plan plan c) (Rejected r) leaf.0 leaf.1 left ≡ at_leaf S plan c r (Some leaf) left
    place-same r leaf left =
        next-same (halting (vector_of S (pats_of (part_at plan c.part) c.clause) (pats_of (part_at plan c.part) leaf.0) leaf.1.terms left)) _ _
        (λ vector rest is. vector-same r leaf.0 leaf.1.context vector rest)

    among-same : (r : Rejection) (leaves : List (ℕ × Place)) (left : ℕ)
        → shadowed_among S (in_plan plan c) (Rejected r) leaves left
        ≡ and_next (earlier_leaf S c.clause leaves left) (λ leaf rest. at_leaf S plan c r leaf rest)
    unfolding place_converts
    among-same r [] left = refl
    among-same r (leaf ∷ leaves) left =
        by (halting (convertible_of S nesting leaf.1.left leaf.1.right left)) (λ rest. place-same r leaf rest) (λ rest. among-same r leaves rest)
      where
        unless : (b : Bool) (rest : ℕ) → at_place S (in_plan plan c) (Rejected r) leaf.0 leaf.1 rest ≡ at_leaf S plan c r (Some leaf) rest
            → shadowed_among S (in_plan plan c) (Rejected r) leaves rest
            ≡ and_next (earlier_leaf S c.clause leaves rest) (λ leaf rest. at_leaf S plan c r leaf rest)
            → cond b (at_place S (in_plan plan c) (Rejected r) leaf.0 leaf.1 rest) (shadowed_among S (in_plan plan c) (Rejected r) leaves rest)
            ≡ and_next (cond b (answers (Ok (Some leaf)) rest) (earlier_leaf S c.clause leaves rest)) (λ leaf rest. at_leaf S plan c r leaf rest)
        unless true rest here others = here
        unless false rest here others = others

        by : (first : Reporting Bool)
            → ((rest : ℕ) → at_place S (in_plan plan c) (Rejected r) leaf.0 leaf.1 rest ≡ at_leaf S plan c r (Some leaf) rest)
            → ((rest : ℕ) → shadowed_among S (in_plan plan c) (Rejected r) leaves rest
            ≡ and_next (earlier_leaf S c.clause leaves rest) (λ leaf rest. at_leaf S plan c r leaf rest))
            → and_next (and_next first (λ holds rest. answers (Ok (not holds && nat_lt leaf.0 c.clause)) rest)) (λ found rest.
            cond found (at_place S (in_plan plan c) (Rejected r) leaf.0 leaf.1 rest) (shadowed_among S (in_plan plan c) (Rejected r) leaves rest))
            ≡ and_next (and_next first (λ holds rest. cond holds (earlier_leaf S c.clause leaves rest)
            (cond (nat_lt leaf.0 c.clause) (answers (Ok (Some leaf)) rest) (earlier_leaf S c.clause leaves rest))))
            (λ leaf rest. at_leaf S plan c r leaf rest)
        by (Ok true, rest) here others = others rest
        by (Ok false, rest) here others = unless (nat_lt leaf.0 c.clause) rest (here rest) (others rest)
        by (Err e, rest) here others = refl

    pub shadowed-same : (proof : Proof) (r : Rejection) (left : ℕ)
        → shadowed_made S (in_plan plan c) proof (Rejected r) left ≡ shadowed S plan c proof r left
    shadowed-same proof r left = among-same r (leaves_in proof) left
