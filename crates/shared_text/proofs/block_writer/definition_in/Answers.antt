use Rattle.std.proofs.Common.{Ok, subst}
use Rattle.core_terms.specs.Answers.{Gives}
use Rattle.core_text.specs.RawEntries.{RawDefinition}
use Rattle.term_pool.specs.Pools.{pool_held}
use Rattle.shared_text.specs.BlockText.{block_with}
use Rattle.shared_text.proofs.block_writer.definition_in.Goals as goal

pub returns : goal.returns
returns c =
    subst (λ ts. Gives (λ text. text) c.definition_with.result (Ok (block_with c.args.sig.now ts (RawDefinition c.args.name.now ((pool_held c.args.pool.now).tree c.args.ty) ((pool_held c.args.pool.now).tree c.args.body)))))
    c.in_ok-shared.ensures.terms c.definition_with.ensures
