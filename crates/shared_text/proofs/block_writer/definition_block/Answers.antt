use Rattle.std.proofs.Common.{Ok, subst₂, ◌∙◌}
use Rattle.core_terms.specs.Answers.{Gives}
use Rattle.core_text.specs.RawEntries.{RawDefinition}
use Rattle.shared_text.specs.BlockText.{block_text}
use Rattle.shared_text.proofs.block_writer.definition_block.Goals as goal

pub returns : goal.returns
returns c =
    subst₂ (λ ty body. Gives (λ text. text) c.definition_in.result (Ok (block_text c.args.sig.now (RawDefinition c.args.name.now ty body))))
    (c.in_ok-body.ensures.extends.trees c.in_ok-ty.ty c.in_ok-ty.ensures.live ∙ c.in_ok-ty.ensures.tree) c.in_ok-body.ensures.tree c.definition_in.ensures
