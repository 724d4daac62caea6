use Rattle.std.proofs.Common.{[], ◌∷◌, ap, ◌∙◌}
use Rattle.term_pool.specs.Pools.{pool_held}
use Rattle.shared_text.specs.PrintedTerms.{joined}
use Rattle.shared_text.specs.Walks.{met_shared}
use Rattle.shared_text.proofs.WalkLaws.{met-shared}
use Rattle.shared_text.proofs.block_writer.shared_in_definition.Goals as goal

pub returns-clause-terms : goal.returns-clause-terms
returns-clause-terms c =
    let p = c.args.pool.now in
    c.in_ok-shared.ensures.terms
    ∙ (ap (λ w. joined [] (met_shared w)) c.in_ok-met.ensures.walked ∙ met-shared ((pool_held p).tree c.args.ty ∷ (pool_held p).tree c.args.body ∷ []))
