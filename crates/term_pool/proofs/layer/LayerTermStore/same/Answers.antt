use Rattle.std.proofs.Common.{length, ap, subst}
use Rattle.term_pool.specs.Layers.{all_nodes}
use Rattle.term_pool.specs.Pools.{AreDistinct, id_place}
use Rattle.term_pool.specs.declared.ids.Id.{Id}
use Rattle.term_pool.specs.Shelves.{AreInOrder, tree_at}
use Rattle.term_pool.proofs.Memos.{same_number, is_same_number}
use Rattle.term_pool.proofs.Pooling.{only}
use Rattle.term_pool.proofs.Shelving.{below}
use Rattle.term_pool.proofs.Sharing.{same-tree}
use Rattle.term_pool.proofs.layer.LayerTermStore.same.Goals as goal

pub returns-clause-trees : goal.returns-clause-trees
returns-clause-trees c =
    let nodes = all_nodes c.args.self.now in
    let whole = c.self.invariant.whole c.kept-each_once.result.now c.kept-each_once.ensures in
    let order = subst (λ l. AreInOrder id_place (all_nodes l)) c.self.view_is whole.shelved.order in
    let distinct = subst (λ l. AreDistinct (all_nodes l)) c.self.view_is whole.distinct in (
      λ is. ap (tree_at id_place nodes) (same_number c.args.a.now.at c.args.b.now.at is),
      λ e. is_same_number c.args.a.now.at c.args.b.now.at (
          same-tree id_place only nodes order distinct c.args.a.now.at c.args.b.now.at
          (below c.args.a.now.at (length nodes) c.requires.a) (below c.args.b.now.at (length nodes) c.requires.b) e
          ),
    )

pub returns-clause-ids : goal.returns-clause-ids
returns-clause-ids c = (
  λ is. only c.args.a.now c.args.b.now (same_number c.args.a.now.at c.args.b.now.at is),
  λ e. is_same_number c.args.a.now.at c.args.b.now.at (ap (λ (p : Id). p.at) e),
)
