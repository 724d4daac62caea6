use Rattle.std.proofs.Common.{[], length, ap, ◌∙◌}
use Rattle.std.proofs.lemmas.List.{length-map}
use Rattle.theory.specs.Telescopes.{context_behind}
use Rattle.core_terms.specs.Meanings.{tree_of, tele_of}
use Rattle.family_check.specs.Families.{Index}
use Rattle.family_check.proofs.DomainHeights.{leveled-count}
use Rattle.family_check.proofs.families.leveled_indices.Goals as goal

pub with_levels-requires : goal.with_levels-requires
with_levels-requires c =
    ap length c.as_slice-2.ensures.value
    ∙ (leveled-count c.args.sig.now (Index c.args.level) 0 (context_behind [] (tele_of c.args.params.now)) (tele_of c.as_slice.result.now) c.args.units.now.left c.in_ok-levels.levels.items
    c.levels.new.units.left c.in_ok-levels.ensures.answer
    ∙ (length-map c.as_slice.result.now tree_of ∙ ap length c.as_slice.ensures.value))
