use Rattle.std.proofs.Common.{option_map, ap, sym, ◌∙◌}
use Rattle.std.specs.Option.{option_copied}
use Rattle.core_sig.specs.Meanings.{family_of}
use Rattle.core_terms.specs.Meanings.{tree_of}
use Rattle.tree_translation.proofs.structural_rec.Parts.{part-is}
use Rattle.tree_translation.proofs.structural_rec.fitting.is_part.Goals as goal

pub returns-in-Some : goal.returns-in-Some
returns-in-Some c =
    part-is c.args.sig.now c.args.n (tree_of c.args.part.now) (tree_of c.args.t.now) c.is_strict_part.result (family_of c.in-Some.field-0.now)
    (sym c.family.ensures.family ∙ ap (λ o. option_map family_of (option_copied o)) c.in-Some.is) c.is_strict_part.ensures
