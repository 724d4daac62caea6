-- The line of a clause shows no K, where the plan and the signature hold none.
use Rattle.std.proofs.Common.{ℕ, ◌==◌, nat_lt, Bool, true, false, cond, Option, Some, None, IfSome, Result, Ok, Err, List, [], ◌∷◌, ◌++◌, map}
use Rattle.theory.specs.Terms.{Term}
use Rattle.theory.specs.Telescopes.{Telescope}
use Rattle.theory.specs.Signatures.{Signature}
use Rattle.core_terms.specs.Answers.{bounded}
use Rattle.core_terms.specs.CaseTrees as tree
use Rattle.core_terms.specs.CaseTrees.{Branch, Branches, Tree, Walk}
use Rattle.core_sig.specs.Drafts.{Draft}
use Rattle.core_sig.specs.Settling.{renumbered_entry, settled_number}
use Rattle.family_check.specs.Entering.{Entered}
use Rattle.kernel_reduce.specs.Comparison.{convertible_of}
use Rattle.kernel_reduce.specs.Reduction.{nesting}
use Rattle.case_trees.specs.Standing.{EachLeafIn, EachLeafOf}
use Rattle.tree_translation.specs.Plans.{Plan}
use Rattle.clause_reports.specs.DraftEntering.{enter_all, enter_entry, enter_needed, mentioned}
use Rattle.clause_reports.specs.Equations.{Equation, equation_of, left_side, part_at, pats_of, right_side, side_of, walk_site}
use Rattle.clause_reports.specs.ProofTerms.{candidate}
use Rattle.clause_reports.specs.ProofWalks.{Place, Proof, first_place, leaves_in}
use Rattle.clause_reports.specs.Reports.{Reference, Reported, at_leaf, at_vector, equation_report, if_shadowed, on_candidate, order_in, report_of, shadowed, shown_leaf, unless_converts, with_candidate}
use Rattle.clause_reports.specs.Shadows.{TreeLeaf, convert_at_all, earlier_leaf, leaves_below, leaves_in_branch, leaves_of}
use Rattle.clause_reports.specs.Stops.{Halts, Rejected, Rejection, ReportStop, Stuck, answers, halting, or_halts}
use Rattle.elim.specs.k_laws.Lacking.{Lack, SignatureLacks}
use Rattle.elim.specs.k_laws.Lines.{LeavesLack, LineLacks}
use Rattle.elim.specs.k_laws.Walking.{LeafLacks, TreeLacks, WalkLacks}
use Rattle.elim.proofs.k_laws.Runs.{Gives, Ends, Any, any, anyhow, ok, no, now, done, refused, next, and-then, either-ends}
use Rattle.elim.proofs.k_laws.Places.{PlaceLacks, PlacesLack, halted, halts, walks}
use Rattle.elim.proofs.k_laws.Vectors.{vector}
use Rattle.elim.proofs.k_laws.Plans.{PlanLacks, a-part}

-- ---- the leaves of a clause

shown : (one other : List TreeLeaf) → LeavesLack (map shown_leaf one) → LeavesLack (map shown_leaf other) → LeavesLack (map shown_leaf (one ++ other))
shown [] other h k = k
shown (leaf ∷ one) other h k = (h.0, shown one other h.1 k)

mutual
  leaves : (clause : ℕ) (t : Tree) → TreeLacks t → LeavesLack (map shown_leaf (leaves_of clause t))
  leaves clause (tree.Leaf number context goal substitution terms binds) h = by (number == clause)
    where
      by : (test : Bool)
          → LeavesLack (map shown_leaf (cond test (record { context = context; goal = goal; substitution = substitution; terms = terms; binds = binds } ∷ []) []))
      by true = (h, tt)
      by false = tt
  leaves clause (tree.Split context x n type branches) h = all-leaves clause branches h

  all-leaves : (clause : ℕ) (branches : Branches) → EachLeafOf LeafLacks branches → LeavesLack (map shown_leaf (leaves_below clause branches))
  all-leaves clause tree.nil h = tt
  all-leaves clause (tree.cons branch branches) h =
      shown (leaves_in_branch clause branch) (leaves_below clause branches) (branch-leaves clause branch h.0) (all-leaves clause branches h.1)

  branch-leaves : (clause : ℕ) (branch : Branch) → EachLeafIn LeafLacks branch → LeavesLack (map shown_leaf (leaves_in_branch clause branch))
  branch-leaves clause (tree.Absurd steps context u v) h = tt
  branch-leaves clause (tree.Solved steps origins subtree) h = leaves clause subtree h

-- ---- shadowed clauses

abbrev pub ReportedLacks : Reported → Type 0
ReportedLacks r = LineLacks r.line

abbrev FoundLacks : Option (ℕ × Place) → Type 0
FoundLacks found = IfSome found (λ leaf. PlaceLacks leaf.1)

earlier : (S : Signature) (clause : ℕ) (places : List (ℕ × Place)) (left : ℕ) → PlacesLack places → Ends FoundLacks (earlier_leaf S clause places left)
earlier S clause [] left h = done tt
earlier S clause (leaf ∷ places) left h =
    next {P = Any} (anyhow (halting (convertible_of S nesting leaf.1.left leaf.1.right left))) (λ holds rest p.
    either-ends holds (earlier S clause places rest h.1)
    (either-ends (nat_lt leaf.0 clause) (done {P = FoundLacks} {a = Some leaf} h.0) (earlier S clause places rest h.1)))

if-it-holds : (S : Signature) (r : Rejection) (number : ℕ) (context : Telescope) (terms : List Term) (found : List TreeLeaf) (holds : Bool) → Lack context → Lack terms
    → LeavesLack (map shown_leaf found) → Gives ReportedLacks (if_shadowed S r number context terms found holds)
if-it-holds S r number context terms found true h k l = ok (h, k, l)
if-it-holds S r number context terms found false h k l = no

module _ (S : Signature) (all : SignatureLacks S) (plan : Plan) (c : Reference) (h : PlanLacks plan) where
  its-leaves : LeavesLack (map shown_leaf (leaves_of c.clause (part_at plan c.part).tree))
  its-leaves = leaves c.clause (part_at plan c.part).tree (a-part plan.parts c.part h).tree

  of-vector : (r : Rejection) (number : ℕ) (context : Telescope) (terms : List Term) (left : ℕ) → Lack context → Lack terms
      → Ends ReportedLacks (at_vector S plan c r number context terms left)
  of-vector r number context terms left k l =
      either-ends _
      (next {P = Any}
      (anyhow (convert_at_all S plan c.part c.clause (order_in S plan c.part) c.walk (leaves_of c.clause (part_at plan c.part).tree) left)) (λ holds rest p.
      now (if-it-holds S r number context terms (leaves_of c.clause (part_at plan c.part).tree) holds k l its-leaves)))
      refused

  of-leaf : (r : Rejection) (found : Option (ℕ × Place)) (left : ℕ) → FoundLacks found → Ends ReportedLacks (at_leaf S plan c r found left)
  of-leaf r None left k = refused
  of-leaf r (Some leaf) left k =
      next
      (halts (vector S all (pats_of (part_at plan c.part) c.clause) (pats_of (part_at plan c.part) leaf.0) leaf.1.terms left k.terms)) (λ terms rest l.
      of-vector r leaf.0 leaf.1.context terms rest k.context l)

  shadows : (proof : Proof) (r : Rejection) (left : ℕ) → PlacesLack (leaves_in proof) → Ends ReportedLacks (shadowed S plan c proof r left)
  shadows proof r left k = next (earlier S c.clause (leaves_in proof) left k) (λ found rest l. of-leaf r found rest l)

  -- the report

  of-candidate : (proof : Proof) (r : Result Entered ReportStop) (left : ℕ) → PlacesLack (leaves_in proof) → Ends ReportedLacks (on_candidate S plan c proof r left)
  of-candidate proof (Ok e) left k = done tt
  of-candidate proof (Err (Rejected r)) left k = shadows proof r left k
  of-candidate proof (Err (Halts e)) left k = refused
  of-candidate proof (Err (Stuck context u v why)) left k = refused

  enters : (proof : Proof) (d : Draft) (left : ℕ) → PlacesLack (leaves_in proof) → Ends ReportedLacks (with_candidate S plan c proof d left)
  enters proof d left k =
      next {P = Any} (anyhow (enter_all enter_needed S (mentioned d) left)) (λ T rest p.
      of-candidate proof (enter_entry T (renumbered_entry (settled_number T d.base d.names) d.entry) rest).0
      (enter_entry T (renumbered_entry (settled_number T d.base d.names) d.entry) rest).1 k)

  unless : (e : Equation) (holds : Bool) (left : ℕ) → Lack e.context → WalkLacks c.walk → Ends ReportedLacks (unless_converts S plan c e holds left)
  unless e true left k l = done tt
  unless e false left k l =
      next (walks S all (part_at plan c.part).tree (first_place S plan c.part c.walk e) left (record { context = k; terms = l.terms })) (λ proof rest q.
      next {P = Any} (anyhow (answers (or_halts (candidate S plan c.part c.clause e proof)) rest)) (λ d end p. enters proof d end q))

  abbrev OverWalk : Equation → Type 0
  OverWalk e = Lack e.context

  equation : WalkLacks c.walk → Gives OverWalk (equation_of S plan c.part c.clause c.walk)
  equation k =
      let pats = pats_of (part_at plan c.part) c.clause in
      let side = side_of (part_at plan c.part) c.clause in
      and-then {P = Any} (any (bounded (left_side S plan c.part pats (walk_site c.walk)))) (λ u p.
      and-then {P = Any} (any (bounded (right_side S plan side (walk_site c.walk)))) (λ v q. ok k.context))

  of-equation : (left : ℕ) → WalkLacks c.walk → Ends ReportedLacks (equation_report S plan c left)
  of-equation left k =
      next (now {left = left} (halted (equation k))) (λ e rest l.
      next {P = Any} (anyhow (halting (convertible_of S nesting e.left e.right rest))) (λ holds end p. unless e holds end l k))

  reported : (left : ℕ) → WalkLacks c.walk → Ends ReportedLacks (report_of S plan c left)
  reported left k = either-ends _ (done tt) (of-equation left k)

pub report-lacks : (S : Signature) → SignatureLacks S → (plan : Plan) (c : Reference) (left : ℕ) → PlanLacks plan → WalkLacks c.walk
    → Ends ReportedLacks (report_of S plan c left)
report-lacks S all plan c left h k = reported S all plan c h left k
