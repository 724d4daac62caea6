use Rattle.std.proofs.Common.{map, ap, ◌∙◌, subst as transport}
use Rattle.std.proofs.lemmas.Result.{err_from_is_err_and}
use Rattle.core_terms.specs.Answers.{Gives}
use Rattle.core_terms.specs.Meanings.{tree_of}
use Rattle.core_terms.specs.TreeMeanings.{branches_of}
use Rattle.core_terms.proofs.Builders.{ok_is}
use Rattle.split_terms.specs.NodeMeanings.{node_of}
use Rattle.function_entries.specs.CodeTrees.{subtrees_names}
use Rattle.function_entries.proofs.SubtreeNames.{names-are, names-deep}
use Rattle.function_entries.proofs.tree_naming.+names.Goals as goal

pub names_of_split-returns-in_err-names : goal.names_of_split-returns-in_err-names
names_of_split-returns-in_err-names t c =
    let q = err_from_is_err_and c.from_residual-in_err-names.result c.from_residual-in_err-names.ensures.1 in
    rw (q.1, q.2)
    (λ other.
    names-deep c.args.sig.now c.args.level (branches_of c.args.branches.now) (node_of c.args.node.now) c.args.x c.in_ok-x.x (tree_of c.args.ty.now)
    c.args.names (ok_is c.in_ok-x.ensures) _ (c.in_err-names.ensures other))

pub names_of_split-returns : goal.names_of_split-returns
names_of_split-returns t c =
    transport (Gives (λ ns. ns) c.branches_names.result)
    (ap
    (λ nodes. subtrees_names c.args.sig.now c.args.level (branches_of c.args.branches.now) (node_of c.args.node.now) (map node_of nodes) c.in_ok-names.names)
    c.as_slice.ensures
    ∙ names-are c.args.sig.now c.args.level (branches_of c.args.branches.now) (node_of c.args.node.now) c.args.x c.in_ok-x.x (tree_of c.args.ty.now)
    c.args.names (ok_is c.in_ok-x.ensures) c.in_ok-names.names (map node_of c.in_ok-names.nodes) c.in_ok-names.ensures)
    c.branches_names.ensures
