-- The equation of a clause is over the context at each of its leaves in the tree of its part, and at its own walk.
use Rattle.std.proofs.Common.{◌≡◌, ℕ, ◌<◌, ◌==◌, Bool, true, false, cond, Some, Ok, List, [], ◌∷◌, length, slice_get, All, arith}
use Rattle.theory.specs.Signatures.{Signature}
use Rattle.theory.specs.SignatureScopes.{IsScoped}
use Rattle.core_terms.specs.CaseTrees as tree
use Rattle.core_terms.specs.CaseTrees.{Branch, Branches, Tree, Walk}
use Rattle.unification.proofs.ScopedRecords.{variables-scoped}
use Rattle.case_trees.specs.Scoped.{AreScopedBranches, IsScopedBranch, IsScopedLeaf, IsScopedTree}
use Rattle.tree_translation.specs.Mappings.{in_old_order, mapping}
use Rattle.tree_translation.specs.Plans.{Plan}
use Rattle.entry_laws.proofs.OnlyConstants.{Each, each-all, each-append, each-weaker}
use Rattle.entry_laws.proofs.TableNames.{all-each}
use Rattle.entry_laws.proofs.entry_scopes.WholeLeaves.{mapping-there, order-there}
use Rattle.clause_reports.specs.Conditions.{IsEntered}
use Rattle.clause_reports.specs.Equations.{Equation, equation_of, leaf_site, part_at, walk_site}
use Rattle.clause_reports.specs.Laws.{IsOver}
use Rattle.clause_reports.specs.Reports.{Reference}
use Rattle.clause_reports.specs.Shadows.{TreeLeaf, leaves_below, leaves_in_branch, leaves_of}
use Rattle.function_session.proofs.plan_laws.WalkScopes.{IsWalkOver}
use Rattle.function_session.proofs.equation_laws.EquationScopes.{IsScopedSite, site-over, walk-over}
use Rattle.function_session.specs.function_laws.report_laws.Reportable.{IsLeafOver}
use Rattle.function_session.proofs.function_laws.report_laws.OwnWalks.{own-walk, part-in}

-- ---- leaves

abbrev pub IsLeafIn : Signature → TreeLeaf → Type 0
IsLeafIn S l = IsScopedLeaf S l.context l.goal l.substitution l.terms l.binds

mutual
  pub leaves-in : (S : Signature) (clause : ℕ) (t : Tree) → IsScopedTree S t → Each (IsLeafIn S) (leaves_of clause t)
  leaves-in S clause (tree.Leaf number context goal substitution terms binds) h = by (number == clause)
    where
      by : (b : Bool)
          → Each (IsLeafIn S)
          (cond b (record { context = context; goal = goal; substitution = substitution; terms = terms; binds = binds } ∷ []) [])
      by true = Each.more h Each.none
      by false = Each.none
  leaves-in S clause (tree.Split context x n type branches) h = below-in S clause (length context) branches h.3

  below-in : (S : Signature) (clause n : ℕ) (branches : Branches) → AreScopedBranches S n branches → Each (IsLeafIn S) (leaves_below clause branches)
  below-in S clause n tree.nil h = Each.none
  below-in S clause n (tree.cons branch branches) h =
      each-append (leaves_in_branch clause branch) (leaves_below clause branches) (branch-in S clause n branch h.0) (below-in S clause n branches h.1)

  branch-in : (S : Signature) (clause n : ℕ) (branch : Branch) → IsScopedBranch S n branch → Each (IsLeafIn S) (leaves_in_branch clause branch)
  branch-in S clause n (tree.Absurd steps context u v) h = Each.none
  branch-in S clause n (tree.Solved steps origins subtree) h = leaves-in S clause subtree h.1

-- ---- sites

leaf-site : (S : Signature) (order : List ℕ) (w : Walk) (l : TreeLeaf) → IsLeafIn S l
    → IsScopedSite S (leaf_site order w l.context l.goal l.substitution l.terms l.binds)
leaf-site S order w l h =
    let n = length l.context in
    let P = IsScoped S n in
    let values = in_old_order order l.substitution in
    let terms = each-all P l.terms h.terms in
    let solved = order-there S n order l.substitution (each-all P l.substitution h.substitution) in
    record {
      context = h.context;
      goal = h.goal;
      substitution = all-each P values solved;
      terms = h.terms;
      binds = h.binds;
      walked = all-each P (mapping w values l.terms) (mapping-there S n w values l.terms solved terms);
    }

walk-site : (S : Signature) (w : Walk) → IsWalkOver S w → IsScopedSite S (walk_site w)
walk-site S w h =
    let n = length w.ctx in
    record {
      context = h.context;
      goal = h.goal;
      substitution = h.substitution;
      terms = h.terms;
      binds = h.binds;
      walked = variables-scoped S n n (omega arith);
    }

-- ---- equations

module _ (before S : Signature) (plan : Plan) (entered : IsEntered before S plan) (c : Reference) (low : c.part < length plan.parts)
    (own : slice_get (part_at plan c.part).walks c.clause ≡ Some c.walk) where
  pub own-over : (e : Equation) → equation_of S plan c.part c.clause c.walk ≡ Ok e → IsOver S e
  own-over e made =
      walk-over before S plan c e entered low own (walk-site before c.walk (own-walk before plan entered.planned c.part low c.clause c.walk own)) made

  pub leaves-over : (order : List ℕ) → All (IsLeafOver S plan c order) (leaves_of c.clause (part_at plan c.part).tree)
  leaves-over order =
      let t = (part_at plan c.part).tree in
      all-each (IsLeafOver S plan c order) (leaves_of c.clause t)
      (each-weaker (leaves_of c.clause t)
      (λ l h e made.
      (let over = site-over before S plan c.part c.clause c.walk (leaf_site order c.walk l.context l.goal l.substitution l.terms l.binds) e entered low own
      (leaf-site before order c.walk l h) made in
      record { left = over.left; right = over.right }))
      (leaves-in before c.clause t (part-in before plan entered.planned c.part low).tree))
