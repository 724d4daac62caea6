use Rattle.std.proofs.Common.{sym, ap, ◌∙◌}
use Rattle.kernel_reduce.specs.Calls.{hypothesis_of, recursive_call_of}
use Rattle.term_pool.specs.Nodes.{says}
use Rattle.store_reduce.proofs.CallLaws.{hypothesis-none, hypothesis-more, hypothesis-other}
use Rattle.store_reduce.proofs.iota.product_in.Goals as goal

pub returns-then-inner-eq0-clause-none : goal.returns-then-inner-eq0-clause-none
returns-then-inner-eq0-clause-none g c =
    λ values params recursor r under. hypothesis-none values params recursor under r c.args.inner _ c.if-inner-eq0.true

pub returns-in-Pi-clause-some : goal.returns-in-Pi-clause-some
returns-in-Pi-clause-some g c =
    let held = g.S.TermStore.held c.args.store.now in
    let is = c.look.ensures.says ∙ ap (says held.tree) c.in-Pi.is in
    λ values params recursor r under.
    ap (hypothesis_of values params recursor r c.args.inner under) is ∙ hypothesis-more values params recursor under r c.args.inner _ _ c.if-inner-eq0.false

pub returns-in_default-clause-none : goal.returns-in_default-clause-none
returns-in_default-clause-none g c =
    let held = g.S.TermStore.held c.args.store.now in
    λ values params recursor r under.
    ap (hypothesis_of values params recursor r c.args.inner under) c.look.ensures.says
    ∙ (hypothesis-other held.tree _ values params recursor r c.args.inner under c.in_default.not-Pi
    ∙ ap (recursive_call_of values params recursor r under) (sym c.look.ensures.says))
