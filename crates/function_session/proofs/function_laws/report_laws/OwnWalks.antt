-- A clause's own walk names the entries before the function alone, whatever is written in its dots.
use Rattle.std.proofs.Common.{◌≡◌, ℕ, zero, suc, ◌<◌, Some, length, slice_get, ap, ◌∙◌, arith}
use Rattle.std.specs.List.{All}
use Rattle.theory.specs.Signatures.{Signature}
use Rattle.theory.specs.SignatureScopes.{IsScoped, IsScopedTelescope}
use Rattle.core_terms.specs.CaseTrees.{Walk}
use Rattle.core_terms.specs.Clauses.{Is}
use Rattle.unification.proofs.ScopedRecords.{variables-scoped}
use Rattle.case_trees.specs.OwnWalks.{own_walk_of}
use Rattle.case_trees.specs.Points.{start_at}
use Rattle.case_trees.specs.Scoped.{IsScopedPoint, IsScopedTree}
use Rattle.function_session.proofs.plan_laws.Answering.{if-ok}
use Rattle.function_session.proofs.plan_laws.SameReduction.{not-read}
use Rattle.function_session.proofs.plan_laws.SameWalks.{same-walks}
use Rattle.function_session.proofs.plan_laws.WalkScopes.{IsWalkOver, walk-over}
use Rattle.tree_translation.specs.Conditions.{IsPlanned, with_function}
use Rattle.tree_translation.specs.Plans.{Part, Plan}
use Rattle.clause_reports.specs.Equations.{part_at}
use Rattle.function_session.proofs.equation_laws.PlannedClauses.{clause-there, helper-there}

-- ---- the parts of a plan

-- the telescope, the goal, the terms and the tree of a part are scoped
pub record IsPartIn (S : Signature) (part : Part) : Type 0 where
  pub tele : IsScopedTelescope S 0 part.tele
  pub goal : IsScoped S (length part.tele) part.goal
  pub terms : All (IsScoped S (length part.tele)) part.terms
  pub tree : IsScopedTree S part.tree

pub part-in : (before : Signature) (plan : Plan) → IsPlanned before plan → (k : ℕ) → k < length plan.parts → IsPartIn before (part_at plan k)
part-in before plan h zero low = record { tele = h.own.context_scoped; goal = h.own.goal_scoped; terms = h.own.terms_scoped; tree = h.own.tree_scoped }
part-in before plan h (suc k) low =
    let is = helper-there before plan h k low in
    record { tele = is.context_scoped; goal = is.goal_scoped; terms = is.terms_scoped; tree = is.tree_scoped }

-- the own walk of a clause of a part
pub own-walk : (before : Signature) (plan : Plan) → IsPlanned before plan → (k : ℕ) → k < length plan.parts → (clause : ℕ) (w : Walk)
    → slice_get (part_at plan k).walks clause ≡ Some w → IsWalkOver before w
own-walk before plan h k low clause w own =
    let part = part_at plan k in
    let is = part-in before plan h k low in
    let at = clause-there before plan h k low clause w own in
    let n = length part.tele in
    let start : IsScopedPoint before (start_at part.tele part.goal part.terms) = record {
      context = is.tele;
      goal = is.goal;
      substitution = variables-scoped before n n (omega arith);
      terms = is.terms;
    } in
    let c = Is at.pats at.binds at.right in
    let same = same-walks before (with_function before plan) part.tele part.goal part.terms c clause at.units (not-read before plan.name plan.type) in
    if-ok (IsWalkOver before) (own_walk_of before part.tele part.goal part.terms c clause at.units).0 w (ap (λ r. r.0) same ∙ at.walks)
    (walk-over before part.tele part.goal part.terms at.pats at.binds at.right clause at.units h.ready start)
