-- The own draft of a function that does not call itself is scoped.
use Rattle.std.proofs.Common.{◌≡◌, ℕ, ◌+◌, Option, Some, None, List, [], ◌++◌, length, sym, subst, arith}
use Rattle.std.proofs.lemmas.Option.{none-some}
use Rattle.theory.specs.Telescopes.{functions}
use Rattle.theory.specs.Signatures.{Signature}
use Rattle.theory.specs.SignatureScopes.{IsConstantNumber, IsScoped}
use Rattle.theory.proofs.ScopedTerms.{HasNumbers, scoped_over_more, scoped-wider, telescope-wider}
use Rattle.case_trees.specs.Points.{start_at}
use Rattle.tree_translation.specs.structural_rec.Uses.{Use}
use Rattle.tree_translation.specs.Conditions.{with_function, IsPartOf, IsOwnPart}
use Rattle.tree_translation.specs.Entries.{helper_names, ordered_variables, part_term}
use Rattle.tree_translation.specs.Naming.{Naming, number_in, with_names}
use Rattle.tree_translation.specs.Plans.{Plan, own_part}
use Rattle.tree_translation.specs.Recursion.{Recursion, recursion_of, order_of, ordered_telescope, ordered_term}
use Rattle.tree_translation.specs.Splits.{Node}
use Rattle.tree_translation.specs.TreeTerms.{Translation, tree_names, tree_term}
use Rattle.tree_translation.proofs.LevelLists.{length-levels}
use Rattle.exact_laws.proofs.translation_laws.FunctionTrees.{function-same}
use Rattle.exact_laws.proofs.translation_laws.SameFamilies.{tree-same, tree-names-same}
use Rattle.entry_laws.proofs.node_roots.RootNodes.{helper_node-over}
use Rattle.entry_laws.proofs.OnlyConstants.{Each, each-left, each-right, each-weaker}
use Rattle.entry_laws.proofs.OnlyEntries.{IsPart}
use Rattle.entry_laws.proofs.TableNames.{candidates-numbered}
use Rattle.entry_laws.proofs.entry_scopes.DraftSignatures.{with_count, numbers-there}
use Rattle.entry_laws.proofs.entry_scopes.WholeCycles.{prelude-there}
use Rattle.entry_laws.proofs.entry_scopes.WholeStandings.{scoped-functions, scoped-products}
use Rattle.entry_laws.proofs.entry_scopes.WholeTrees.{IsTreeNode, tree-scoped}
use Rattle.entry_laws.proofs.draft_scopes.FunctionSignatures.{function-prefix, part-tree}
use Rattle.entry_laws.proofs.draft_scopes.LeafScopes.{leaf-there}
use Rattle.entry_laws.proofs.draft_scopes.RenumberedDrafts.{in_order-scoped}
use Rattle.exact_laws.specs.own_scopes.Laws.{PlainFunctionScoped}
use Rattle.entry_laws.proofs.draft_scopes.FunctionNames.{constant-there, both-numbers, named-over}
use Rattle.entry_laws.proofs.draft_scopes.HelperNames.{helper-named}
use Rattle.exact_laws.proofs.own_scopes.OwnOrders.{goal-stays, telescope-stays}
use Rattle.entry_laws.proofs.order_scopes.OrderedScopes.{variables-scoped}

-- ---- the own part

-- the tree starts from the telescope as it is written
-- where the function does not call itself, the tree starts from the telescope as it is written
pub own-plain : (S : Signature) (plan : Plan) (uses : List Use) → recursion_of S plan ≡ None → IsOwnPart S plan uses
    → IsPartOf S plan uses 0 (own_part plan) (own_part plan).tele (own_part plan).goal (ordered_variables (order_of (length (own_part plan).tele) None) (length (own_part plan).tele))
own-plain S plan uses none is = by (recursion_of S plan) none is
  where
    count : ℕ
    count = length (own_part plan).tele

    by : (o : Option Recursion) → o ≡ None
        → IsPartOf S plan uses 0 (own_part plan) (ordered_telescope (own_part plan).tele (order_of (length (own_part plan).tele) o))
        (ordered_term (length (own_part plan).tele) (order_of (length (own_part plan).tele) o) (own_part plan).goal)
        (ordered_variables (order_of (length (own_part plan).tele) o) (length (own_part plan).tele))
        → IsPartOf S plan uses 0 (own_part plan) (own_part plan).tele (own_part plan).goal (ordered_variables (order_of (length (own_part plan).tele) None) (length (own_part plan).tele))
    by None e is =
        let terms = ordered_variables (order_of (length (own_part plan).tele) None) (length (own_part plan).tele) in
        subst (λ tele. IsPartOf S plan uses 0 (own_part plan) tele (own_part plan).goal terms) (telescope-stays (own_part plan).tele)
        (subst
        (λ goal. IsPartOf S plan uses 0 (own_part plan) (ordered_telescope (own_part plan).tele (order_of (length (own_part plan).tele) None)) goal terms)
        (goal-stays (length (own_part plan).tele) (own_part plan).goal) is)
    by (Some r) e is = absurd (none-some r (sym e))

-- ---- drafts

pub plain_function_scoped : PlainFunctionScoped
plain_function_scoped S plan d ready first planned none e =
    let F = with_function S plan in
    let part = own_part plan in
    let base = planned.base in
    let n = length part.tele in
    let order = order_of n None in
    let node : Node = record { context = part.tele; goal = part.goal; hidden = [] } in
    let candidates = helper_names plan 0 ++ tree_names S part.level part.tree node in
    let table = with_names [] candidates in
    let count = length table in
    let number : Naming = number_in plan.base table in
    let T = with_count F count in
    let more : HasNumbers S T = both-numbers S plan base count in
    let numbers : HasNumbers F T = numbers-there F count in
    let named : Each (λ name. IsConstantNumber T (number_in plan.base table name)) candidates =
    each-weaker candidates (λ name low. constant-there S plan base count (number_in plan.base table name) (omega arith) low) (candidates-numbered plan.base candidates) in
    let helpers_named = each-left (helper_names plan 0) (tree_names S part.level part.tree node) named in
    let tree_named = each-right (helper_names plan 0) (tree_names S part.level part.tree node) named in
    let w : Translation = record { signature = F; number = number; plan = plan; recursions = []; part = part; order = order } in
    let old : Translation = record { signature = S; number = number; plan = plan; recursions = []; part = part; order = order } in
    let terms = ordered_variables order n in
    let is = own-plain S plan planned.uses none planned.own in
    let tele = telescope-wider more 0 part.tele is.context_scoped in
    let goal = scoped-wider more is.goal_scoped in
    let long : length order ≡ n = length-levels 0 n in
    let stands = part-tree S plan planned.uses 0 part part.tele part.goal terms ready is is.context_scoped is.goal_scoped (variables-scoped S order n (omega arith)) in
    let root = helper_node-over plan None part number in
    let there : IsTreeNode T node part.tele = record {
      terms = record { context = tele; goal = goal };
      over = record { is_seen = root.is_seen; hidden = root.hidden };
    } in
    let p : IsPart S plan 0 part = record { uses = planned.uses; context = part.tele; goal = part.goal; terms = terms; is = is } in
    let made : IsScoped T n (tree_term w part.tree node) =
    tree-scoped w count ready (prelude-there F count (function-prefix S plan first)) part.tree
    (λ next i context goal substitution terms binds over leaf.
    leaf-there S T more number plan base numbers 0 part [] order p (λ j helper at lt. helper-named (IsConstantNumber T) number plan 0 j helper helpers_named at lt) Each.none next i context goal
    substitution terms binds over leaf)
    (start_at part.tele part.goal terms) node stands.stands stands.scoped there
    (subst (Each (λ name. IsConstantNumber T (number_in plan.base table name))) (tree-names-same S F (function-same S plan) part.level part.tree node) tree_named) in
    let term : IsScoped T n (tree_term old part.tree node) = subst (IsScoped T n) (sym (tree-same S F (function-same S plan) old part.tree node)) made in
    in_order-scoped S T plan.name plan.base candidates (λ number. plan.type)
    (λ number. functions part.tele (part_term S plan None part order node number)) d (named-over S plan base count) e
    (subst (IsScoped T 0) (sym planned.type) (scoped-products T 0 part.tele part.goal tele (scoped_over_more T n (0 + n) part.goal (omega arith) goal)))
    (scoped-functions T 0 part.tele (tree_term old part.tree node) tele (scoped_over_more T n (0 + n) (tree_term old part.tree node) (omega arith) term))
