-- The drafts of helpers of a function that does not call itself are scoped.
use Rattle.std.proofs.Common.{◌+◌, ◌-◌, None, [], ◌++◌, length, sym, subst, arith}
use Rattle.theory.specs.Telescopes.{products, functions}
use Rattle.theory.specs.SignatureScopes.{IsConstantNumber, IsScoped}
use Rattle.theory.proofs.ScopedTerms.{HasNumbers, scoped_over_more, scoped-wider, telescope-wider}
use Rattle.case_trees.specs.Points.{start_at}
use Rattle.tree_translation.specs.Conditions.{with_function}
use Rattle.tree_translation.specs.Entries.{helper_names, part_term}
use Rattle.tree_translation.specs.Naming.{Naming, number_in, with_names, helper_name}
use Rattle.tree_translation.specs.Recursion.{order_of}
use Rattle.tree_translation.specs.Splits.{Node}
use Rattle.tree_translation.specs.TreeTerms.{Translation, tree_names, tree_term}
use Rattle.exact_laws.proofs.translation_laws.FunctionTrees.{function-same}
use Rattle.exact_laws.proofs.translation_laws.SameFamilies.{tree-same, tree-names-same}
use Rattle.entry_laws.proofs.node_roots.RootNodes.{helper_node-over}
use Rattle.entry_laws.proofs.OnlyConstants.{Each, each-left, each-right, each-weaker}
use Rattle.entry_laws.proofs.OnlyEntries.{IsPart}
use Rattle.entry_laws.proofs.TableNames.{candidates-numbered}
use Rattle.entry_laws.proofs.entry_scopes.DraftSignatures.{with_count, numbers-there}
use Rattle.entry_laws.proofs.entry_scopes.WholeCycles.{prelude-there}
use Rattle.entry_laws.proofs.entry_scopes.WholeStandings.{scoped-functions, scoped-products}
use Rattle.entry_laws.proofs.entry_scopes.WholeTrees.{IsTreeNode, tree-scoped}
use Rattle.entry_laws.proofs.draft_scopes.FunctionNames.{constant-there, both-numbers, named-over}
use Rattle.entry_laws.proofs.draft_scopes.HelperNames.{helper-named}
use Rattle.entry_laws.proofs.draft_scopes.FunctionSignatures.{function-prefix, part-tree}
use Rattle.entry_laws.proofs.draft_scopes.LeafScopes.{leaf-there}
use Rattle.entry_laws.proofs.draft_scopes.RenumberedDrafts.{in_order-scoped}
use Rattle.exact_laws.specs.helper_scopes.Laws.{PlainHelperScoped}

-- ---- drafts

pub plain_helper_scoped : PlainHelperScoped
plain_helper_scoped S plan uses k part d ready first base is e =
    let F = with_function S plan in
    let n = length part.tele in
    let order = order_of n None in
    let node : Node = record { context = part.tele; goal = part.goal; hidden = [] } in
    let candidates = helper_names plan k ++ tree_names S part.level part.tree node in
    let table = with_names [] candidates in
    let count = length table in
    let number : Naming = number_in plan.base table in
    let T = with_count F count in
    let more : HasNumbers S T = both-numbers S plan base count in
    let numbers : HasNumbers F T = numbers-there F count in
    let named : Each (λ name. IsConstantNumber T (number_in plan.base table name)) candidates =
    each-weaker candidates (λ name low. constant-there S plan base count (number_in plan.base table name) (omega arith) low) (candidates-numbered plan.base candidates) in
    let helpers_named = each-left (helper_names plan k) (tree_names S part.level part.tree node) named in
    let tree_named = each-right (helper_names plan k) (tree_names S part.level part.tree node) named in
    let w : Translation = record { signature = F; number = number; plan = plan; recursions = []; part = part; order = order } in
    let old : Translation = record { signature = S; number = number; plan = plan; recursions = []; part = part; order = order } in
    let tele = telescope-wider more 0 part.tele is.context_scoped in
    let goal = scoped-wider more is.goal_scoped in
    let stands = part-tree S plan uses k part part.tele part.goal part.terms ready is is.context_scoped is.goal_scoped is.terms_scoped in
    let root = helper_node-over plan None part number in
    let there : IsTreeNode T node part.tele = record {
      terms = record { context = tele; goal = goal };
      over = record { is_seen = root.is_seen; hidden = root.hidden };
    } in
    let p : IsPart S plan k part = record { uses = uses; context = part.tele; goal = part.goal; terms = part.terms; is = is } in
    let made : IsScoped T n (tree_term w part.tree node) =
    tree-scoped w count ready (prelude-there F count (function-prefix S plan first)) part.tree
    (λ next i context goal substitution terms binds over leaf.
    leaf-there S T more number plan base numbers k part [] order p (λ j helper at lt. helper-named (IsConstantNumber T) number plan k j helper helpers_named at lt) Each.none next i context goal
    substitution terms binds over leaf)
    (start_at part.tele part.goal part.terms) node stands.stands stands.scoped there
    (subst (Each (λ name. IsConstantNumber T (number_in plan.base table name))) (tree-names-same S F (function-same S plan) part.level part.tree node) tree_named) in
    let term : IsScoped T n (tree_term old part.tree node) = subst (IsScoped T n) (sym (tree-same S F (function-same S plan) old part.tree node)) made in
    in_order-scoped S T (helper_name plan.name k) plan.base candidates (λ number. products part.tele part.goal)
    (λ number. functions part.tele (part_term S plan None part order node number)) d (named-over S plan base count) e
    (scoped-products T 0 part.tele part.goal tele (scoped_over_more T n (0 + n) part.goal (omega arith) goal))
    (scoped-functions T 0 part.tele (tree_term old part.tree node) tele (scoped_over_more T n (0 + n) (tree_term old part.tree node) (omega arith) term))
