use Rattle.std.proofs.Common.{◌≤◌, sym, ap, ◌∙◌, subst}
use Rattle.theory.specs.Terms.{height}
use Rattle.kernel_reduce.specs.Tests.{eliminator_numbers}
use Rattle.store_reduce.proofs.ContractionLaws.{contracted-last}
use Rattle.store_reduce.proofs.contracting.contract_in.Goals as goal

pub eliminate_in-requires-clause-head : goal.eliminate_in-requires-clause-head
eliminate_in-requires-clause-head g c = sym c.requires.f.head ∙ c.in-Some.ensures.is

pub returns-in-None-clause-makes : goal.returns-in-None-clause-makes
returns-in-None-clause-makes g c =
    let held = g.S.TermStore.held c.args.store.now in
    let is = contracted-last c.args.sig.now (held.tree c.args.u.id) (held.tree c.args.f.id) (held.tree c.last_argument_in-last.result)
    (c.in-None.ensures.numbers ∙ ap eliminator_numbers c.requires.f.head) c.requires.awaits c.requires.meets c.last_argument_in-last.ensures.last in
    (c.last_argument_in-last.ensures.live, is, subst (λ t. height t ≤ 2000) is (subst (λ n. n ≤ 2000) c.height-low.ensures.height c.height-low.ensures.low))
