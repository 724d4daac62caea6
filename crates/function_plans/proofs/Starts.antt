-- Where trees begin.
use Rattle.std.proofs.Common.{◌≡◌, ℕ, ◌≤◌, subst, List, length, All, refl, sym, ◌∙◌, arith}
use Rattle.theory.specs.Terms.{Term}
use Rattle.theory.specs.Telescopes.{Telescope}
use Rattle.theory.specs.Signatures.{Signature}
use Rattle.theory.specs.SignatureScopes.{IsScoped, IsScopedTelescope}
use Rattle.unification.specs.ScopedStates.{IsReady}
use Rattle.unification.proofs.ScopedRecords.{variables-scoped}
use Rattle.case_trees.specs.Laws.{IsGiven}
use Rattle.case_trees.specs.Scoped.{AreClausesFor}
use Rattle.clause_reports.specs.elaboration.Walking.{Walked}
use Rattle.entry_laws.proofs.order_scopes.OrderedScopes as orders
use Rattle.entry_laws.proofs.order_scopes.OrderLengths.{order-counted}
use Rattle.tree_translation.specs.structural_rec.Laws.{IsTelescopeOrder}
use Rattle.tree_translation.specs.Entries.{ordered_variables}
use Rattle.tree_translation.specs.Recursion.{ordered_telescope, ordered_term}
use Rattle.problems.specs.Conditions.{most_levels}
use Rattle.function_plans.specs.CodePlans.{IsOwnWalked}
use Rattle.function_plans.proofs.Columns.{clauses-for}

-- a context of n types whose variables stand for themselves
pub given : (S : Signature) (context : Telescope) (goal : Term) (terms : List Term) (n : ℕ) → n ≡ length context → IsReady S
    → IsScopedTelescope S 0 context → IsScoped S n goal → All (IsScoped S n) terms → IsGiven S context goal terms
given S context goal terms n same isReady types there columns = record {
  ready = isReady;
  scoped = record {
    context = types;
    goal = subst (λ k. IsScoped S k goal) same there;
    substitution = variables-scoped S (length context) (length context) (omega arith);
    terms = subst (λ k. All (IsScoped S k) terms) same columns;
  };
}

-- ---- the order of recursion

-- a context that the types of its telescope make in an order of so many positions
pub record IsStart (S : Signature) (w : Walked) (context : Telescope) (count : ℕ) (order : List ℕ) : Type 0 where
  pub own : IsOwnWalked S w
  pub count_is : count ≡ length w.part.tele
  pub order_is : IsTelescopeOrder w.part.tele order
  pub context_is : context ≡ ordered_telescope w.part.tele order

pub starts : (S : Signature) (w : Walked) (context : Telescope) (count : ℕ) (order : List ℕ) → IsOwnWalked S w → count ≡ length w.part.tele
    → IsTelescopeOrder w.part.tele order → context ≡ ordered_telescope w.part.tele order → IsStart S w context count order
starts S w context count order own counted whole same = record { own = own; count_is = counted; order_is = whole; context_is = same }

module _ (S : Signature) (w : Walked) (context : Telescope) (count : ℕ) (order : List ℕ) (is : IsStart S w context count order) where
  context-long : length context ≡ length w.part.tele
  context-long = subst (λ types. length types ≡ length w.part.tele) (sym is.context_is) (orders.length-ordered w.part.tele order is.order_is.positions)

  order-long : length order ≡ count
  order-long = order-counted (length w.part.tele) order is.order_is.positions ∙ sym is.count_is

  both-scoped : IsScopedTelescope S 0 (ordered_telescope w.part.tele order)
      × IsScoped S (length (ordered_telescope w.part.tele order)) (ordered_term (length w.part.tele) order w.part.goal)
  both-scoped =
      orders.ordered-scoped S w.part.tele w.part.goal order is.own.walked.given.scoped.context is.own.walked.given.scoped.goal is.order_is

  pub start-given : (goal : Term) (terms : List Term) → goal ≡ ordered_term count order w.part.goal → terms ≡ ordered_variables order count
      → IsGiven S context goal terms
  start-given goal terms goal-is terms-are =
      let n = length context in
      let counted : count ≡ n = is.count_is ∙ sym context-long in
      given S context goal terms n refl is.own.walked.given.ready (subst (IsScopedTelescope S 0) (sym is.context_is) both-scoped.0)
      (subst (IsScoped S n) (sym goal-is)
      (subst (λ k. IsScoped S n (ordered_term k order w.part.goal)) (sym is.count_is)
      (subst (λ types. IsScoped S (length types) (ordered_term (length w.part.tele) order w.part.goal)) (sym is.context_is) both-scoped.1)))
      (subst (All (IsScoped S n)) (sym terms-are)
      (subst (λ k. All (IsScoped S k) (ordered_variables order count)) counted (orders.variables-scoped S order count (omega (arith, order-long)))))

  pub start-clauses : (terms : List Term) → terms ≡ ordered_variables order count → AreClausesFor S terms w.clauses
  start-clauses terms terms-are =
      let long : length (ordered_variables order count) ≡ length order = orders.length-variables order count in
      let same : length w.part.terms ≡ length terms =
      is.own.columns ∙ (sym is.count_is ∙ (sym order-long ∙ (sym long ∙ subst (λ us. length (ordered_variables order count) ≡ length us) (sym terms-are) refl))) in
      clauses-for S w.part.terms terms w.clauses same is.own.walked.clauses

  pub start-few : length context ≤ most_levels
  start-few = subst (λ n. n ≤ most_levels) (sym context-long) is.own.walked.few
