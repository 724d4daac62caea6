use Rattle.std.proofs.Common.{List, ap, ◌∙◌, rules, subst as transport}
use Rattle.core_terms.specs.Meanings.{tree_of, tele_of}
use Rattle.core_terms.specs.declared.term.Term as code
use Rattle.clause_reports.specs.elaboration.Refusals.{answers, halting}
use Rattle.clause_reports.specs.elaboration.Walking.{if_forced}
use Rattle.function_checks.specs.function_refusals.RefusalMeanings.{Elaborates}
use Rattle.kernel_reduce.specs.Comparison.{convertible_of}
use Rattle.kernel_reduce.specs.Reduction.{nesting}
use Rattle.function_checks.proofs.walk_checks.Chains.{goes-on, halting-ok, tells-answers}
use Rattle.function_checks.specs.walk_checks.CheckMeanings.{site_of}
use Rattle.function_checks.specs.walk_checks.CodeDots.{dot_forced}
use Rattle.function_checks.proofs.walk_checks.dots.check_forced.Goals as goal

pub returns-in_err-holds-clause-answer : goal.returns-in_err-holds-clause-answer
returns-in_err-holds-clause-answer c =
    let w = tree_of c.args.written.now in
    let f = tree_of c.args.forced.now in
    transport (λ S. Elaborates (λ _. w) c.from_residual.result c.convertible.new.self.left
    (dot_forced S (site_of c.args.site) (tele_of c.args.ctx.now) (w, f) c.args.kernel.now.left)) c.requires.kernel
    (search rules)

pub returns-clause-answer : goal.returns-clause-answer
returns-clause-answer c =
    let S = c.args.sig.now in
    let w = tree_of c.args.written.now in
    let f = tree_of c.args.forced.now in
    let left = c.convertible.new.self.left in
    goes-on (λ _. w) (halting (convertible_of S nesting w f c.args.kernel.now.left)) c.in_ok-holds.holds
    (λ holds end. answers (if_forced S (site_of c.args.site) (tele_of c.args.ctx.now) w f holds) end) left left c.refuse_unless.result
    (halting-ok c.in_ok-holds.holds left (convertible_of S nesting w f c.args.kernel.now.left)
    (c.in_ok-holds.ensures.answer ∙ ap (λ S. convertible_of S nesting w f c.args.kernel.now.left) c.requires.kernel))
    (transport (λ (types : List code.Term). Elaborates (λ _. w) c.refuse_unless.result left
    (answers (if_forced S (site_of c.args.site) (tele_of types) w f c.in_ok-holds.holds) left)) c.as_slice.ensures
    (tells-answers (λ _. w) c.refuse_unless.result _ left c.refuse_unless.ensures))
