-- The answer for a clause whose candidate is rejected is the one that is meant.
use Rattle.std.proofs.Common.{◌≡◌, ℕ, zero, suc, Bool, true, false, ◌&&◌, not, nat_lt, cond, Option, Some, List, [], ◌∷◌, length, Result, Ok, Err, refl, sym, ap, ◌∙◌, subst as transport}
use Rattle.theory.specs.Terms.{Term}
use Rattle.theory.specs.Telescopes.{Telescope}
use Rattle.theory.specs.Signatures.{Signature}
use Rattle.core_terms.specs.Answers.{and_next}
use Rattle.core_terms.specs.declared.stop.Stop.{Stop}
use Rattle.core_terms.specs.declared.stop.Stop.TheVariants.{Deep}
use Rattle.kernel_reduce.specs.Comparison.{convertible_of}
use Rattle.kernel_reduce.specs.Reduction.{nesting}
use Rattle.tree_translation.specs.Plans.{Plan}
use Rattle.tree_translation.specs.Recursion.{Recursion, recursion_of}
use Rattle.leaf_terms.specs.RecursionMade.{RecursionIsFound, recursion_made}
use Rattle.clause_reports.specs.Equations.{Equation, leaf_site, part_at, pats_of, side_of}
use Rattle.clause_reports.specs.ProofWalks.{Place, Proof, leaves_in}
use Rattle.clause_reports.specs.Reports as pure
use Rattle.clause_reports.specs.Reports.{Reference, order_in, at_leaf, at_vector, shadowed}
use Rattle.clause_reports.specs.Shadows.{TreeLeaf, convert_at_all, earlier_leaf, equation_at_leaf, leaves_of, vector_of}
use Rattle.clause_reports.specs.Stops.{Rejection, Reporting, Halts, Rejected, answers, or_halts, halting}
use Rattle.clause_equations.proofs.MadeEquations.{equation-at-is}
use Rattle.clause_lines.specs.CodeReports.{in_plan, can_be_compared, equation_converts, order_at, equation_there, converts_at_all, converts_with, converts_at_leaves, if_shadowed, both_match, at_matched, at_vector_made, at_place, place_converts, shadowed_among, shadowed_made}
use Rattle.clause_lines.proofs.Following.{Follows, spent, follows-as, follows-if, follows-next, follows-same, follows-twice, halts-follow, refused}

-- ---- sides

pub converting-follows : (S : Signature) (e : Equation) (left : ℕ) → Follows (equation_converts S e left) (halting (convertible_of S nesting e.left e.right left))
converting-follows S e left =
    follows-if (can_be_compared S (length e.context) e.left e.right) (halting (convertible_of S nesting e.left e.right left)) (Halts Deep) left
    (halting (convertible_of S nesting e.left e.right left)) (follows-same (halting (convertible_of S nesting e.left e.right left)))

-- ---- leaves

pub order-is : (S : Signature) (plan : Plan) (k : ℕ) → order_at k plan (part_at plan k) (recursion_of S plan) ≡ order_in S plan k
order-is S plan zero = refl
order-is S plan (suc k) = refl

there-follows : (S : Signature) (plan : Plan) (c : Reference) (order : List ℕ) (l : TreeLeaf) (left : ℕ)
    → Follows (answers (or_halts (equation_there S (in_plan plan c) (recursion_of S plan) order l)) left)
    (answers (or_halts (equation_at_leaf S plan c.part c.clause order c.walk l)) left)
there-follows S plan c order l left =
    halts-follow (equation_there S (in_plan plan c) (recursion_of S plan) order l) (equation_at_leaf S plan c.part c.clause order c.walk l) left
    (λ e is. sym (equation-at-is S plan c.part (pats_of (part_at plan c.part) c.clause) (side_of (part_at plan c.part) c.clause)
    (leaf_site order c.walk l.context l.goal l.substitution l.terms l.binds)) ∙ is)

all-follow : (S : Signature) (plan : Plan) (c : Reference) (order : List ℕ) (leaves : List TreeLeaf) (left : ℕ)
    → Follows (converts_at_all S (in_plan plan c) (recursion_of S plan) order leaves left)
    (convert_at_all S plan c.part c.clause order c.walk leaves left)
all-follow S plan c order [] left = follows-same (spent (Ok true) left)
all-follow S plan c order (l ∷ leaves) left =
    follows-twice (answers (or_halts (equation_there S (in_plan plan c) (recursion_of S plan) order l)) left)
    (answers (or_halts (equation_at_leaf S plan c.part c.clause order c.walk l)) left)
    (λ e rest. equation_converts S e rest)
    (λ holds rest. cond holds (converts_at_all S (in_plan plan c) (recursion_of S plan) order leaves rest) (answers (Ok false) rest))
    (λ e rest. and_next (halting (convertible_of S nesting e.left e.right rest)) (λ holds end.
    cond holds (convert_at_all S plan c.part c.clause order c.walk leaves end) (answers (Ok false) end)))
    (there-follows S plan c order l left)
    (λ e rest. follows-next (equation_converts S e rest) (halting (convertible_of S nesting e.left e.right rest))
    (λ holds end. cond holds (converts_at_all S (in_plan plan c) (recursion_of S plan) order leaves end) (answers (Ok false) end))
    (λ holds end. cond holds (convert_at_all S plan c.part c.clause order c.walk leaves end) (answers (Ok false) end))
    (converting-follows S e rest) (λ holds end. by holds end (all-follow S plan c order leaves end)))
  where
    by : (holds : Bool) (end : ℕ)
        → Follows (converts_at_all S (in_plan plan c) (recursion_of S plan) order leaves end) (convert_at_all S plan c.part c.clause order c.walk leaves end)
        → Follows (cond holds (converts_at_all S (in_plan plan c) (recursion_of S plan) order leaves end) (answers (Ok false) end))
        (cond holds (convert_at_all S plan c.part c.clause order c.walk leaves end) (answers (Ok false) end))
    by true end h = h
    by false end h = follows-same (spent (Ok false) end)

module _ (found : RecursionIsFound) where
  leaves-follow : (S : Signature) (plan : Plan) (c : Reference) (leaves : List TreeLeaf) (left : ℕ)
      → Follows (converts_at_leaves S (in_plan plan c) leaves left) (convert_at_all S plan c.part c.clause (order_in S plan c.part) c.walk leaves left)
  leaves-follow S plan c leaves left = by (recursion_made S plan) refl
    where
      by : (made : Result (Option Recursion) Stop) → recursion_made S plan ≡ made
          → Follows (and_next (answers (or_halts made) left) (converts_with S (in_plan plan c) leaves))
          (convert_at_all S plan c.part c.clause (order_in S plan c.part) c.walk leaves left)
      by (Ok r) is =
          transport (λ q. Follows (converts_with S (in_plan plan c) leaves q left) (convert_at_all S plan c.part c.clause (order_in S plan c.part) c.walk leaves left))
          (sym (found S plan r is))
          (follows-as (converts_with S (in_plan plan c) leaves (recursion_of S plan) left)
          (convert_at_all S plan c.part c.clause (order_at c.part plan (part_at plan c.part) (recursion_of S plan)) c.walk leaves left)
          (convert_at_all S plan c.part c.clause (order_in S plan c.part) c.walk leaves left)
          (ap (λ order. convert_at_all S plan c.part c.clause order c.walk leaves left) (order-is S plan c.part))
          (all-follow S plan c (order_at c.part plan (part_at plan c.part) (recursion_of S plan)) leaves left))
      by (Err e) is = refused (Halts e) left (convert_at_all S plan c.part c.clause (order_in S plan c.part) c.walk leaves left)

  -- ---- the arguments

  if-follows : (S : Signature) (r : Rejection) (earlier : ℕ) (context : Telescope) (vector : List Term) (leaves : List TreeLeaf) (holds : Bool) (left : ℕ)
      → Follows (answers (if_shadowed S (Rejected r) earlier context vector leaves holds) left)
      (answers (pure.if_shadowed S r earlier context vector leaves holds) left)
  if-follows S r earlier context vector leaves true left = follows-same (answers (pure.if_shadowed S r earlier context vector leaves true) left)
  if-follows S r earlier context vector leaves false left = follows-same (answers (pure.if_shadowed S r earlier context vector leaves false) left)

  matched-follows : (S : Signature) (plan : Plan) (c : Reference) (r : Rejection) (earlier : ℕ) (context : Telescope) (vector : List Term) (leaves : List TreeLeaf) (left : ℕ)
      → Follows (at_matched S (in_plan plan c) (Rejected r) earlier context vector leaves left)
      (and_next (convert_at_all S plan c.part c.clause (order_in S plan c.part) c.walk leaves left) (λ holds rest.
      answers (pure.if_shadowed S r earlier context vector leaves holds) rest))
  matched-follows S plan c r earlier context vector leaves left =
      follows-next (converts_at_leaves S (in_plan plan c) leaves left)
      (convert_at_all S plan c.part c.clause (order_in S plan c.part) c.walk leaves left)
      (λ holds rest. answers (if_shadowed S (Rejected r) earlier context vector leaves holds) rest)
      (λ holds rest. answers (pure.if_shadowed S r earlier context vector leaves holds) rest)
      (leaves-follow S plan c leaves left) (if-follows S r earlier context vector leaves)

  vector-follows : (S : Signature) (plan : Plan) (c : Reference) (r : Rejection) (earlier : ℕ) (context : Telescope) (vector : List Term) (left : ℕ)
      → Follows (at_vector_made S (in_plan plan c) (Rejected r) earlier context vector left) (at_vector S plan c r earlier context vector left)
  vector-follows S plan c r earlier context vector left = by (both_match S (in_plan plan c) earlier vector)
    where
      by : (b : Bool) → Follows (cond b (at_matched S (in_plan plan c) (Rejected r) earlier context vector (leaves_of c.clause (part_at plan c.part).tree) left)
          (answers (Err (Rejected r)) left))
          (cond b (and_next (convert_at_all S plan c.part c.clause (order_in S plan c.part) c.walk (leaves_of c.clause (part_at plan c.part).tree) left) (λ holds rest.
          answers (pure.if_shadowed S r earlier context vector (leaves_of c.clause (part_at plan c.part).tree) holds) rest))
          (answers (Err (Rejected r)) left))
      by true = matched-follows S plan c r earlier context vector (leaves_of c.clause (part_at plan c.part).tree) left
      by false = follows-same (spent (Err (Rejected r)) left)

  place-follows : (S : Signature) (plan : Plan) (c : Reference) (r : Rejection) (leaf : ℕ × Place) (left : ℕ)
      → Follows (at_place S (in_plan plan c) (Rejected r) leaf.0 leaf.1 left) (at_leaf S plan c r (Some leaf) left)
  place-follows S plan c r leaf left =
      follows-next (halting (vector_of S (pats_of (part_at plan c.part) c.clause) (pats_of (part_at plan c.part) leaf.0) leaf.1.terms left))
      (halting (vector_of S (pats_of (part_at plan c.part) c.clause) (pats_of (part_at plan c.part) leaf.0) leaf.1.terms left))
      (at_vector_made S (in_plan plan c) (Rejected r) leaf.0 leaf.1.context)
      (λ vector rest. at_vector S plan c r leaf.0 leaf.1.context vector rest)
      (follows-same (halting (vector_of S (pats_of (part_at plan c.part) c.clause) (pats_of (part_at plan c.part) leaf.0) leaf.1.terms left)))
      (vector-follows S plan c r leaf.0 leaf.1.context)

  among-follows : (S : Signature) (plan : Plan) (c : Reference) (r : Rejection) (leaves : List (ℕ × Place)) (left : ℕ)
      → Follows (shadowed_among S (in_plan plan c) (Rejected r) leaves left)
      (and_next (earlier_leaf S c.clause leaves left) (λ leaf rest. at_leaf S plan c r leaf rest))
  unfolding place_converts
  among-follows S plan c r [] left = follows-same (spent (Err (Rejected r)) left)
  among-follows S plan c r (leaf ∷ leaves) left =
      by (halting (convertible_of S nesting leaf.1.left leaf.1.right left)) (place-follows S plan c r leaf) (among-follows S plan c r leaves)
    where
      unless : (b : Bool) (rest : ℕ) → Follows (at_place S (in_plan plan c) (Rejected r) leaf.0 leaf.1 rest) (at_leaf S plan c r (Some leaf) rest)
          → Follows (shadowed_among S (in_plan plan c) (Rejected r) leaves rest) (and_next (earlier_leaf S c.clause leaves rest) (λ leaf rest. at_leaf S plan c r leaf rest))
          → Follows (cond b (at_place S (in_plan plan c) (Rejected r) leaf.0 leaf.1 rest) (shadowed_among S (in_plan plan c) (Rejected r) leaves rest))
          (and_next (cond b (answers (Ok (Some leaf)) rest) (earlier_leaf S c.clause leaves rest)) (λ leaf rest. at_leaf S plan c r leaf rest))
      unless true rest here others = here
      unless false rest here others = others

      by : (first : Reporting Bool)
          → ((rest : ℕ) → Follows (at_place S (in_plan plan c) (Rejected r) leaf.0 leaf.1 rest) (at_leaf S plan c r (Some leaf) rest))
          → ((rest : ℕ) → Follows (shadowed_among S (in_plan plan c) (Rejected r) leaves rest)
          (and_next (earlier_leaf S c.clause leaves rest) (λ leaf rest. at_leaf S plan c r leaf rest)))
          → Follows (and_next (and_next first (λ holds rest. answers (Ok (not holds && nat_lt leaf.0 c.clause)) rest)) (λ found rest.
          cond found (at_place S (in_plan plan c) (Rejected r) leaf.0 leaf.1 rest) (shadowed_among S (in_plan plan c) (Rejected r) leaves rest)))
          (and_next (and_next first (λ holds rest. cond holds (earlier_leaf S c.clause leaves rest)
          (cond (nat_lt leaf.0 c.clause) (answers (Ok (Some leaf)) rest) (earlier_leaf S c.clause leaves rest))))
          (λ leaf rest. at_leaf S plan c r leaf rest))
      by (Ok true, rest) here others = others rest
      by (Ok false, rest) here others = unless (nat_lt leaf.0 c.clause) rest (here rest) (others rest)
      by (Err e, rest) here others = refused e rest (spent (Err e) rest)

  pub shadowed-follows : (S : Signature) (plan : Plan) (c : Reference) (proof : Proof) (r : Rejection) (left : ℕ)
      → Follows (shadowed_made S (in_plan plan c) proof (Rejected r) left) (shadowed S plan c proof r left)
  shadowed-follows S plan c proof r left = among-follows S plan c r (leaves_in proof) left
