use Rattle.std.proofs.Common.{length, ap, ◌∙◌, subst as transport}
use Rattle.function_checks.specs.function_walks.WalkingMeanings.{session_of}
use Rattle.theory.specs.Signatures.{Signature}
use Rattle.core_terms.specs.Meanings.{tree_of, tele_of}
use Rattle.clause_reports.specs.elaboration.Refusals.{Elaborating, halting}
use Rattle.function_checks.specs.function_refusals.RefusalMeanings.{refusal_of}
use Rattle.function_checks.proofs.walk_checks.Chains.{ends-there, goes-on}
use Rattle.function_checks.proofs.walk_checks.Scopes.{closed-product, opened-scoped}
use Rattle.function_checks.specs.walk_checks.CodeOpening.{goal_asked}
use Rattle.function_checks.specs.walk_checks.CheckMeanings.{opening_of, site_of}
use Rattle.with_abstraction.specs.Abstractions.{Abstracted, abstract_over_of}
use Rattle.with_abstraction.specs.Laws.{IsScopedAbstraction}
use Rattle.with_abstraction.specs.Meanings.{abstracted_of}
use Rattle.function_checks.proofs.walk_checks.opening.over_its_type.Goals as goal

pub at_goal-requires-clause-given : goal.at_goal-requires-clause-given
at_goal-requires-clause-given c =
    closed-product c.args.s.sig.now (length c.args.w.now.ctx) (abstracted_of c.in-Ok.a) c.requires.given.signature
    (transport (λ S. IsScopedAbstraction S (length c.args.w.now.ctx) (abstracted_of c.in-Ok.a)) c.requires.kernel c.in-Ok.ensures.scoped)

pub returns-in-Ok-clause-answer : goal.returns-in-Ok-clause-answer
returns-in-Ok-clause-answer c =
    let w = c.args.w.now in
    let meant : Signature → Elaborating Abstracted =
    λ S. halting (abstract_over_of S (tele_of w.ctx) (tree_of w.goal) (tree_of c.args.t.now) (tree_of c.args.ty.now) c.args.kernel.now.left) in
    goes-on opening_of (meant c.args.s.sig.now) (abstracted_of c.in-Ok.a)
    (λ a more. goal_asked (session_of c.args.s) (site_of c.args.site) a more) c.abstracted.new.kernel.left
    c.at_goal.new.kernel.left c.at_goal.result (c.in-Ok.ensures.answer ∙ ap meant c.requires.kernel) c.at_goal.ensures.answer

pub returns-in-Err-clause-answer : goal.returns-in-Err-clause-answer
returns-in-Err-clause-answer c =
    let w = c.args.w.now in
    let meant : Signature → Elaborating Abstracted =
    λ S. halting (abstract_over_of S (tele_of w.ctx) (tree_of w.goal) (tree_of c.args.t.now) (tree_of c.args.ty.now) c.args.kernel.now.left) in
    λ other.
    ends-there (meant c.args.s.sig.now) (refusal_of c.in-Err.e)
    (λ a more. goal_asked (session_of c.args.s) (site_of c.args.site) a more) c.abstracted.new.kernel.left
    (c.in-Err.ensures.answer other ∙ ap meant c.requires.kernel)

pub returns-in-Ok-clause-scoped : goal.returns-in-Ok-clause-scoped
returns-in-Ok-clause-scoped c =
    opened-scoped c.args.s.sig.now (length c.args.w.now.ctx) (abstracted_of c.in-Ok.a) c.at_goal.result c.at_goal.ensures.same
    (transport (λ S. IsScopedAbstraction S (length c.args.w.now.ctx) (abstracted_of c.in-Ok.a)) c.requires.kernel c.in-Ok.ensures.scoped)
