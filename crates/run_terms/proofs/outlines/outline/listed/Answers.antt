use Rattle.std.proofs.Common.{◌++◌, map, sym, ap, ◌∙◌}
use Rattle.core_terms.proofs.Builders.{ok_is}
use Rattle.tele_eq.proofs.Growing.{map-snoc-append}
use Rattle.run_terms.specs.outlines.OutlineMeanings.{outline_of, outlines_of}
use Rattle.run_terms.proofs.outlines.outline.listed.Goals as goal

pub loop-last-preserved : goal.loop-last-preserved
loop-last-preserved c =
    ap (λ rest. map outline_of c.pop.new.self.items ++ rest) (ok_is c.in_ok-made.ensures)
    ∙ (sym (map-snoc-append outline_of c.pop.new.self.items c.in-Some.last (outlines_of c.loop-last.made))
    ∙ (ap (λ items. map outline_of items ++ outlines_of c.loop-last.made) (sym c.in-Some.ensures.items)
    ∙ c.loop-last.invariant))
