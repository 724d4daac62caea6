use Rattle.std.proofs.Common.{ap, ◌∙◌}
use Rattle.term_pool.specs.Nodes.{says}
use Rattle.store_reduce.proofs.SpineLaws.{without-none, without-more}
use Rattle.store_reduce.proofs.spines.+without_last_in.Goals as goal

pub returns-then-count-eq0-clause-tree : goal.returns-then-count-eq0-clause-tree
returns-then-count-eq0-clause-tree g t c = without-none _ c.args.count c.if-count-eq0.true

pub returns-in-App-clause-tree : goal.returns-in-App-clause-tree
returns-in-App-clause-tree g t c =
    let held = g.S.TermStore.held c.args.store.now in
    without-more (held.tree c.args.t) _ _ _ c.args.count (c.look.ensures.says ∙ ap (says held.tree) c.in-App.is) c.if-count-eq0.false c.requires.count
    c.without_last_in.ensures.tree
