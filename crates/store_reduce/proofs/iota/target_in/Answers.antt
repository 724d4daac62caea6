use Rattle.std.proofs.Common.{◌≤◌, length, ap, ◌∙◌, subst, arith}
use Rattle.theory.specs.Spines.{spine_of}
use Rattle.theory.specs.Terms.{height}
use Rattle.kernel_reduce.specs.Calls.{call_of}
use Rattle.term_pool.specs.Nodes.{says}
use Rattle.store_reduce.proofs.CallLaws.{call-none, call-more}
use Rattle.store_reduce.proofs.SpineLaws.{spine-none}
use Rattle.store_reduce.proofs.iota.target_in.Goals as goal

pub returns-then-count-params-clause-none : goal.returns-then-count-params-clause-none
returns-then-count-params-clause-none g c =
    λ values recursor under. call-none values c.args.params recursor under _ (omega (arith, c.requires.count, c.if-count-params.true))

pub returns-in-App-clause-some : goal.returns-in-App-clause-some
returns-in-App-clause-some g c =
    let held = g.S.TermStore.held c.args.store.now in
    let is = c.look.ensures.says ∙ ap (says held.tree) c.in-App.is in
    λ values recursor under.
    ap (call_of values c.args.params recursor under) is
    ∙ call-more values c.args.params recursor under _ _ (omega (arith, ap (λ t. length (spine_of t)) is, c.requires.count, c.if-count-params.false))
    (subst (λ t. height t ≤ 2000) is c.look.ensures.low)

pub returns-in_default-clause-none : goal.returns-in_default-clause-none
returns-in_default-clause-none g c =
    let held = g.S.TermStore.held c.args.store.now in
    let none = ap spine_of c.look.ensures.says ∙ spine-none held.tree _ c.in_default.not-App in
    λ values recursor under. call-none values c.args.params recursor under (held.tree c.args.ty) (omega (arith, ap length none))
