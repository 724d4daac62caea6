use Rattle.std.proofs.Common.{length, map, ap, subst as transport}
use Rattle.std.proofs.lemmas.Result.{err_from_is_err_and}
use Rattle.core_terms.specs.Answers.{Gives}
use Rattle.core_terms.specs.TreeMeanings.{steps_of}
use Rattle.core_sig.specs.Meanings.{constructor_of}
use Rattle.problems.specs.MemberMeanings.{member_meant}
use Rattle.problems.proofs.LowTerms.{first-item}
use Rattle.split_terms.specs.NodeMeanings.{named_nodes_of, node_of}
use Rattle.split_terms.proofs.MethodSteps.{ended-deep, ended-next}
use Rattle.split_terms.proofs.split_naming.+methods_ended.Goals as goal

pub returns-in_err-names : goal.returns-in_err-names
returns-in_err-names t c =
    let p = length c.args.m.now.family.now.params in
    let q = err_from_is_err_and c.from_residual.result c.from_residual.ensures.1 in
    rw (q.1, q.2)
    (λ other.
    ended-deep c.args.sig.now c.args.level (node_of c.args.node.now) (member_meant c.args.m.now) c.args.x c.args.number
    (map (constructor_of p) c.args.cons.now) _ (constructor_of p c.con-item.result) (map (λ steps. steps_of steps.now) c.args.runs.now) _
    (steps_of c.steps-item.result.now)
    (ap (map (constructor_of p)) (first-item c.args.cons.now c.con-item.result c.in-len1-up.len_at_least c.con-item.is))
    (ap (map (λ steps. steps_of steps.now)) (first-item c.args.runs.now c.steps-item.result c.in-len1-up-runs.len_at_least c.steps-item.is))
    c.args.names (map node_of c.args.nodes) _ (c.in_err-names.ensures other))

pub returns : goal.returns
returns t c =
    let p = length c.args.m.now.family.now.params in
    transport (Gives named_nodes_of c.methods_ended.result)
    (ended-next c.args.sig.now c.args.level (node_of c.args.node.now) (member_meant c.args.m.now) c.args.x c.args.number
    (map (constructor_of p) c.args.cons.now) _ (constructor_of p c.con-item.result) (map (λ steps. steps_of steps.now) c.args.runs.now) _
    (steps_of c.steps-item.result.now)
    (ap (map (constructor_of p)) (first-item c.args.cons.now c.con-item.result c.in-len1-up.len_at_least c.con-item.is))
    (ap (map (λ steps. steps_of steps.now)) (first-item c.args.runs.now c.steps-item.result c.in-len1-up-runs.len_at_least c.steps-item.is))
    c.args.names _ (map node_of c.args.nodes) (map node_of c.in_ok-names.nodes) _ c.in_ok-names.ensures c.in_ok-number.ensures.ok)
    c.methods_ended.ensures
