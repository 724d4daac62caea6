-- The draft of a part is scoped, whatever node its tree begins at: with a below value, or without.
use Rattle.std.proofs.Common.{◌≡◌, ℕ, ◌+◌, Option, List, [], ◌++◌, length, All, Ok, sym, subst, ◌∙◌, arith}
use Rattle.theory.specs.Terms.{Term}
use Rattle.theory.specs.Telescopes.{Telescope, products, functions}
use Rattle.theory.specs.Prelude.{prelude}
use Rattle.theory.specs.Signatures.{IsPrefix, Signature}
use Rattle.theory.specs.SignatureScopes.{IsConstantNumber, IsScoped, IsScopedTelescope}
use Rattle.theory.proofs.ScopedTerms.{HasNumbers, scoped_over_more}
use Rattle.core_sig.specs.Drafts.{Draft}
use Rattle.core_sig.specs.ScopedDrafts.{IsScopedDraft}
use Rattle.case_trees.specs.Points.{start_at}
use Rattle.unification.specs.ScopedStates.{IsReady}
use Rattle.tree_translation.specs.structural_rec.Uses.{Use}
use Rattle.tree_translation.specs.Conditions.{with_function, IsPartOf}
use Rattle.tree_translation.specs.Entries.{helper_names, part_term, side_names, term_with}
use Rattle.tree_translation.specs.Naming.{Naming, drafted_in_order, number_in, with_names}
use Rattle.tree_translation.specs.Plans.{Plan, Part}
use Rattle.tree_translation.specs.Recursion.{NamedRecursion, Recursion, recursion_of, recursions_in}
use Rattle.tree_translation.specs.Splits.{Node}
use Rattle.tree_translation.specs.TreeTerms.{Translation, tree_names, tree_term}
use Rattle.exact_laws.proofs.translation_laws.FunctionTrees.{function-same}
use Rattle.exact_laws.proofs.translation_laws.SameFamilies.{tree-same, tree-names-same}
use Rattle.entry_laws.proofs.replay_laws.TreeNodes.{IsNodeOver}
use Rattle.entry_laws.proofs.OnlyConstants.{Each, each-left, each-right, each-weaker}
use Rattle.entry_laws.proofs.entry_scopes.WholeLeaves.{NamedIn, named-in}
use Rattle.entry_laws.proofs.OnlyEntries.{IsPart, helpers-there}
use Rattle.entry_laws.proofs.SameNames.{IsLikeNode, tree-names}
use Rattle.entry_laws.proofs.TableNames.{candidates-numbered}
use Rattle.entry_laws.proofs.entry_scopes.DraftSignatures.{with_count, numbers-there}
use Rattle.entry_laws.proofs.entry_scopes.WholeCycles.{prelude-there}
use Rattle.entry_laws.proofs.entry_scopes.WholeSplits.{IsNodeIn}
use Rattle.entry_laws.proofs.entry_scopes.WholeStandings.{scoped-functions, scoped-products}
use Rattle.entry_laws.proofs.entry_scopes.WholeTrees.{IsTreeNode, tree-scoped}
use Rattle.entry_laws.proofs.draft_scopes.FunctionNames.{constant-there, both-numbers, named-over}
use Rattle.entry_laws.proofs.draft_scopes.FunctionSignatures.{function-prefix, part-tree}
use Rattle.entry_laws.proofs.draft_scopes.HelperNames.{helper-named}
use Rattle.entry_laws.proofs.draft_scopes.LeafScopes.{leaf-there}
use Rattle.entry_laws.proofs.draft_scopes.RenumberedDrafts.{in_order-scoped}
use Rattle.exact_laws.specs.step_scopes.Laws.{IsReadyFor}
use Rattle.exact_laws.proofs.step_scopes.RecursionShapes.{recursion-there}

-- Where the tree of a part begins, for each naming: over the context, with the same names whatever the naming, and scoped wherever these
-- names are constants.
pub record IsRootWith (S : Signature) (names : List (List ℕ)) (context : Telescope) (node : Naming → Node) : Type 0 where
  pub over : (number : Naming) → IsNodeOver (node number) context
  pub like : (number other : Naming) → IsLikeNode (node number) (node other)
  pub there : (T : Signature) (number : Naming) → HasNumbers S T → Each (λ name. IsConstantNumber T (number name)) names → IsNodeIn T (node number)

abbrev pub IsRootOf : Signature → Plan → Option Recursion → (at : ℕ) → (context : Telescope) → (node : Naming → Node) → Type 0
IsRootOf S plan o at context node = IsRootWith S (side_names plan o at) context node

-- where the names are constants of a signature with so many more, P holds of it
abbrev pub FromNames : Signature → Plan → (names : List (List ℕ)) → (Signature → Naming → Type 0) → Type 0
FromNames S plan names P =
    (count : ℕ) (number : Naming) → Each (λ name. IsConstantNumber (with_count (with_function S plan) count) (number name)) names →
    P (with_count (with_function S plan) count) number

-- from the names of its sides, by which the recursions are named, and the helpers that it may call
pub draft-with : (S : Signature) (plan : Plan) (uses : List Use) (at : ℕ) (part : Part) (recursions : List NamedRecursion) (names : List (List ℕ)) (order : List ℕ) (context : Telescope) (goal : Term)
    (terms : List Term) (node : Naming → Node) (name : List ℕ) (d : Draft) → IsReady (with_function S plan) → IsPrefix (prelude S.has_k) S → plan.base ≡ length S.entries
    → IsPartOf S plan uses at part context goal terms
    → IsScopedTelescope S 0 context → IsScoped S (length context) goal → All (IsScoped S (length context)) terms → IsRootWith S names context node
    → FromNames S plan names (λ T number. Each (NamedIn T number plan) recursions)
    → FromNames S plan names (λ T number. Each (λ name. IsConstantNumber T (number name)) (helper_names plan at))
    → drafted_in_order name plan.base (names ++ tree_names S part.level part.tree (node (λ name. plan.base)))
    (λ number. products (node number).context (node number).goal)
    (λ number. functions (node number).context (term_with S plan recursions part order (node number) number))
    ≡ Ok d
    → (d.base ≡ plan.base) × IsScopedDraft S d
draft-with S plan uses at part recursions names order context goal terms node name d ready first base is hc hg ht root named_in helpers_in e =
    let F = with_function S plan in
    let candidates = names ++ tree_names S part.level part.tree (node (λ name. plan.base)) in
    let table = with_names [] candidates in
    let count = length table in
    let number : Naming = number_in plan.base table in
    let here = node number in
    let n = length here.context in
    let T = with_count F count in
    let more : HasNumbers S T = both-numbers S plan base count in
    let numbers : HasNumbers F T = numbers-there F count in
    let named : Each (λ name. IsConstantNumber T (number_in plan.base table name)) candidates =
    each-weaker candidates (λ name low. constant-there S plan base count (number_in plan.base table name) (omega arith) low) (candidates-numbered plan.base candidates) in
    let sides = each-left names (tree_names S part.level part.tree (node (λ name. plan.base))) named in
    let others = each-right names (tree_names S part.level part.tree (node (λ name. plan.base))) named in
    let helpers_named = helpers_in count number sides in
    let w : Translation = record { signature = F; number = number; plan = plan; recursions = recursions; part = part; order = order } in
    let old : Translation = record { signature = S; number = number; plan = plan; recursions = recursions; part = part; order = order } in
    let inside = root.there T number more sides in
    let there : IsTreeNode T here context = record { terms = inside; over = root.over number } in
    let stands = part-tree S plan uses at part context goal terms ready is hc hg ht in
    let p : IsPart S plan at part = record { uses = uses; context = context; goal = goal; terms = terms; is = is } in
    let same = tree-names S part.level part.tree (node (λ name. plan.base)) here (root.like (λ name. plan.base) number)
    ∙ tree-names-same S F (function-same S plan) part.level part.tree here in
    let made : IsScoped T n (tree_term w part.tree here) =
    tree-scoped w count ready (prelude-there F count (function-prefix S plan first)) part.tree
    (λ next i context goal substitution terms binds over leaf.
    leaf-there S T more number plan base numbers at part recursions order p (λ j helper found lt. helper-named (IsConstantNumber T) number plan at j helper helpers_named found lt)
    (named_in count number sides) next i context goal substitution terms binds over leaf)
    (start_at context goal terms) here stands.stands stands.scoped there
    (subst (Each (λ name. IsConstantNumber T (number_in plan.base table name))) same others) in
    let term : IsScoped T n (tree_term old part.tree here) = subst (IsScoped T n) (sym (tree-same S F (function-same S plan) old part.tree here)) made in
    in_order-scoped S T name plan.base candidates (λ number. products (node number).context (node number).goal)
    (λ number. functions (node number).context (term_with S plan recursions part order (node number) number)) d (named-over S plan base count) e
    (scoped-products T 0 here.context here.goal inside.context (scoped_over_more T n (0 + n) here.goal (omega arith) inside.goal))
    (scoped-functions T 0 here.context (tree_term old part.tree here) inside.context (scoped_over_more T n (0 + n) (tree_term old part.tree here) (omega arith) term))

pub part-draft : (S : Signature) (plan : Plan) (uses : List Use) (at : ℕ) (part : Part) (o : Option Recursion) (order : List ℕ) (context : Telescope) (goal : Term)
    (terms : List Term) (node : Naming → Node) (name : List ℕ) (d : Draft) → IsReadyFor S plan → recursion_of S plan ≡ o → IsPartOf S plan uses at part context goal terms
    → IsScopedTelescope S 0 context → IsScoped S (length context) goal → All (IsScoped S (length context)) terms → IsRootOf S plan o at context node
    → drafted_in_order name plan.base (side_names plan o at ++ tree_names S part.level part.tree (node (λ name. plan.base)))
    (λ number. products (node number).context (node number).goal)
    (λ number. functions (node number).context (part_term S plan o part order (node number) number))
    ≡ Ok d
    → (d.base ≡ plan.base) × IsScopedDraft S d
part-draft S plan uses at part o order context goal terms node name d given recursion is hc hg ht root e =
    draft-with S plan uses at part (recursions_in plan o) (side_names plan o at) order context goal terms node name d given.ready given.first given.planned.base is hc hg ht root
    (λ count number sides. named-in (with_count (with_function S plan) count) number plan o (recursion-there S plan given count number o at recursion sides))
    (λ count number sides. helpers-there (IsConstantNumber (with_count (with_function S plan) count)) number plan o at sides) e
