-- The conditions on a signature and on a clause of a plan under which the clause's report is made as is meant.
use Rattle.std.specs.Prelude.{◌≡◌, ◌||◌, ◌<◌, ℕ, ◌+◌, true, is_none, Ok, List, length, All}
use Rattle.theory.specs.Terms.{top}
use Rattle.theory.specs.Prelude.{prelude}
use Rattle.theory.specs.Signatures.{Signature, IsPrefix}
use Rattle.theory.specs.SignatureScopes.{IsScoped}
use Rattle.core_terms.specs.Answers.{are_low}
use Rattle.unification.specs.ScopedStates.{IsReady}
use Rattle.tree_translation.specs.Plans.{Plan, own_part}
use Rattle.tree_translation.specs.Recursion.{recursion_of}
use Rattle.leaf_terms.specs.RecursionMade.{recursion_made}
use Rattle.clause_reports.specs.Equations.{Equation, equation_of, part_at}
use Rattle.clause_reports.specs.Laws.{IsOver}
use Rattle.clause_reports.specs.Reports.{Reference, order_in}
use Rattle.clause_reports.specs.Shadows.{TreeLeaf, equation_at_leaf, leaves_of}

-- the sides of an equation are over its context
pub record AreSidesOver (S : Signature) (e : Equation) : Type 0 where
  pub left : IsScoped S (length e.context) e.left
  pub right : IsScoped S (length e.context) e.right

-- the equation of the clause at a leaf is over the leaf's context
abbrev pub IsLeafOver : Signature → Plan → Reference → (order : List ℕ) → TreeLeaf → Type 0
IsLeafOver S plan c order l = (e : Equation) → equation_at_leaf S plan c.part c.clause order c.walk l ≡ Ok e → AreSidesOver S e

-- The signature begins with the prelude, and recursion is looked for in a telescope that is low. The level of the part is low enough for
-- the names of a proof. The equation, and the clause's own walk, are over the walk's context, and so is the equation at each leaf.
pub record IsReportable (S : Signature) (plan : Plan) (c : Reference) : Type 0 where
  pub ready : IsReady S
  pub first : IsPrefix (prelude S.has_k) S
  pub low : (is_none plan.position || are_low (own_part plan).tele) ≡ true
  pub recursion : recursion_made S plan ≡ Ok (recursion_of S plan)
  pub fits : (part_at plan c.part).level + 2 < top
  pub over : (e : Equation) → equation_of S plan c.part c.clause c.walk ≡ Ok e → IsOver S e
  pub terms : All (IsScoped S (length c.walk.ctx)) c.walk.terms
  pub substitution : All (IsScoped S (length c.walk.ctx)) c.walk.subst
  pub leaves : All (IsLeafOver S plan c (order_in S plan c.part)) (leaves_of c.clause (part_at plan c.part).tree)
