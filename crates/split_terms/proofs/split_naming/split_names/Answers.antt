use Rattle.std.proofs.Common.{map}
use Rattle.std.proofs.lemmas.Result.{err_from_is_err_and}
use Rattle.core_terms.specs.Meanings.{tree_of}
use Rattle.core_terms.specs.TreeMeanings.{steps_of}
use Rattle.split_terms.specs.NodeMeanings.{node_of}
use Rattle.split_terms.proofs.EndedRuns.{names-deep, names-there}
use Rattle.split_terms.proofs.split_naming.split_names.Goals as goal

pub returns-in_err-names : goal.returns-in_err-names
returns-in_err-names c =
    let q = err_from_is_err_and c.from_residual.result c.from_residual.ensures.1 in
    rw (q.1, q.2)
    (λ other.
    names-deep c.args.sig.now c.args.level (node_of c.args.node.now) c.args.x (tree_of c.args.ty.now)
    (map (λ steps. steps_of steps.now) c.args.runs.now) c.args.names _ (c.in_err-names.ensures other))

pub returns : goal.returns
returns c =
    names-there c.args.sig.now c.args.level (node_of c.args.node.now) c.args.x (tree_of c.args.ty.now)
    (map (λ steps. steps_of steps.now) c.args.runs.now) c.args.names _ _ c.in_ok-names.ensures
