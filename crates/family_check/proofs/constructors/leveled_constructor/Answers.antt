use Rattle.std.proofs.Common.{[], length, ap, ◌∙◌, arith}
use Rattle.std.proofs.lemmas.List.{length-append, length-map}
use Rattle.theory.specs.Telescopes.{context_behind}
use Rattle.core_terms.specs.Meanings.{tree_of, tele_of}
use Rattle.family_check.specs.Families.{ArgumentOf}
use Rattle.family_check.proofs.DomainHeights.{leveled-count}
use Rattle.family_check.proofs.constructors.leveled_constructor.Goals as goal

pub arguments-requires-clause-few : goal.arguments-requires-clause-few
arguments-requires-clause-few c =
    omega (arith, c.requires.asked.few, length-append (tele_of c.args.f.now.params) (tele_of c.args.types.items), length-map c.args.f.now.params tree_of, length-map c.args.types.items tree_of)

pub arguments-requires-clause-levels : goal.arguments-requires-clause-levels
arguments-requires-clause-levels c =
    ap length c.as_slice-3.ensures.value
    ∙ (leveled-count c.args.sig.now (ArgumentOf c.args.number c.args.f.now.level) 0 (context_behind [] (tele_of c.as_slice.result.now)) (tele_of c.as_slice-2.result.now) c.args.units.now.left c.in_ok-levels.levels.items
    c.levels.new.units.left c.in_ok-levels.ensures.answer
    ∙ (length-map c.as_slice-2.result.now tree_of ∙ ap length c.as_slice-2.ensures.value))
