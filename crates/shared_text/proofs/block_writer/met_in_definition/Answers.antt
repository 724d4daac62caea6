use Rattle.std.proofs.Common.{[], ◌∷◌, ap, ◌∙◌}
use Rattle.term_pool.specs.Pools.{pool_held}
use Rattle.shared_text.specs.Walks.{meet_all}
use Rattle.shared_text.proofs.SharedIds.{met-nothing}
use Rattle.shared_text.proofs.block_writer.met_in_definition.Goals as goal

pub returns-clause-walked : goal.returns-clause-walked
returns-clause-walked c =
    let p = c.args.pool.now in
    c.in_ok-meet_all.ensures.walked
    ∙ ap (meet_all ((pool_held p).tree c.args.ty ∷ (pool_held p).tree c.args.body ∷ [])) (met-nothing p c.nothing_met-met.result c.nothing_met-met.ensures.found c.nothing_met-met.ensures.again)
