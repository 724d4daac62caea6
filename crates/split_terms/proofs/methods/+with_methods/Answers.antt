use Rattle.std.proofs.Common.{length, map, ap, ◌∙◌, subst as transport}
use Rattle.std.proofs.lemmas.Result.{err_from_is_err_and}
use Rattle.core_terms.specs.Answers.{Gives}
use Rattle.core_terms.specs.TreeMeanings.{steps_of}
use Rattle.core_terms.proofs.Builders.{ok_is}
use Rattle.core_sig.specs.Meanings.{constructor_of}
use Rattle.problems.specs.MemberMeanings.{member_meant}
use Rattle.problems.proofs.LowTerms.{first-item}
use Rattle.run_terms.specs.outlines.OutlineMeanings.{outline_of, outlines_of}
use Rattle.run_terms.specs.CodeNaming.{naming_of}
use Rattle.split_terms.specs.NodeMeanings.{node_of}
use Rattle.split_terms.proofs.MethodSteps.{methods-deep, methods-next}
use Rattle.split_terms.proofs.OutlinedParts.{method-taken}
use Rattle.split_terms.proofs.methods.+with_methods.Goals as goal

pub returns-in_err-method : goal.returns-in_err-method
returns-in_err-method t c =
    let p = length c.args.m.now.family.now.params in
    let q = err_from_is_err_and c.from_residual.result c.from_residual.ensures.1 in
    rw (q.1, q.2)
    (λ other.
    methods-deep c.args.sig.now c.args.level (node_of c.args.node.now) (member_meant c.args.m.now) c.args.x c.args.number
    (map (constructor_of p) c.args.cons.now) _ (constructor_of p c.con-item.result) (map (λ steps. steps_of steps.now) c.args.runs.now) _
    (steps_of c.steps-item.result.now)
    (ap (map (constructor_of p)) (first-item c.args.cons.now c.con-item.result c.in-len1-up.len_at_least c.con-item.is))
    (ap (map (λ steps. steps_of steps.now)) (first-item c.args.runs.now c.steps-item.result c.in-len1-up-runs.len_at_least c.steps-item.is))
    (naming_of c.args.naming) (outlines_of c.args.ends) (outline_of c.args.head) _
    (c.in_err-method.ensures other
    ∙ method-taken c.args.sig.now (naming_of c.args.naming) c.args.level (node_of c.args.node.now) (member_meant c.args.m.now) c.args.x
    c.args.number (constructor_of p c.con-item.result) (steps_of c.steps-item.result.now) (outlines_of c.args.ends) _ c.end_and_rest-end.ensures.end))

pub returns : goal.returns
returns t c =
    let p = length c.args.m.now.family.now.params in
    transport (Gives outline_of c.with_methods.result)
    (methods-next c.args.sig.now c.args.level (node_of c.args.node.now) (member_meant c.args.m.now) c.args.x c.args.number
    (map (constructor_of p) c.args.cons.now) _ (constructor_of p c.con-item.result) (map (λ steps. steps_of steps.now) c.args.runs.now) _
    (steps_of c.steps-item.result.now)
    (ap (map (constructor_of p)) (first-item c.args.cons.now c.con-item.result c.in-len1-up.len_at_least c.con-item.is))
    (ap (map (λ steps. steps_of steps.now)) (first-item c.args.runs.now c.steps-item.result c.in-len1-up-runs.len_at_least c.steps-item.is))
    (naming_of c.args.naming) (outlines_of c.args.ends) _ (outline_of c.args.head) _ (outline_of c.in_ok-method.method) _
    (c.in_ok-method.ensures
    ∙ method-taken c.args.sig.now (naming_of c.args.naming) c.args.level (node_of c.args.node.now) (member_meant c.args.m.now) c.args.x
    c.args.number (constructor_of p c.con-item.result) (steps_of c.steps-item.result.now) (outlines_of c.args.ends) _ c.end_and_rest-end.ensures.end)
    (ok_is c.in_ok-head.ensures) c.end_and_rest-end.ensures.rest c.in_ok-next.ensures.ok)
    c.with_methods.ensures
