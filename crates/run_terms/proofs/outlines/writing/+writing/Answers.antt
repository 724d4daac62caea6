use Rattle.std.proofs.Common.{◌≡◌, ◌+◌, ◌++◌, Ok, length, true, sym, ap, ap₂, ◌∙◌, subst as transport}
use Rattle.core_terms.specs.Answers.{Gives}
use Rattle.core_terms.specs.Meanings.{tree_of}
use Rattle.core_terms.proofs.Builders.{ok_is}
use Rattle.tele_eq.specs.Environments.{put_under}
use Rattle.tree_translation.specs.Standings.{at_levels}
use Rattle.run_terms.specs.outlines.Composing.{composed, composes}
use Rattle.run_terms.specs.outlines.OutlineMeanings.{outline_of}
use Rattle.run_terms.proofs.outlines.PlacedTwice.{placed-again}
use Rattle.run_terms.proofs.outlines.writing.+writing.Goals as goal

pub placed_again-returns-then-composes : goal.placed_again-returns-then-composes
placed_again-returns-then-composes t c =
    let levels = c.args.levels.now in
    let own = c.args.own.now in
    let inner = outline_of c.args.inner.now in
    let test : composes levels c.args.under own c.args.at ≡ true = sym c.composes.ensures ∙ c.if-composes.true in
    let new : c.as_slice.result.now ≡ composed levels c.args.depth own =
    c.as_slice.ensures ∙ (ok_is c.in_ok-levels.ensures ∙ ap (λ made. made ++ composed levels c.args.depth own) c.new.ensures)
    in
    let deeper : c.in_ok-sum.field-0 ≡ c.args.depth + c.args.under = c.in_ok-sum.ensures.ok in
    transport (λ t. Gives tree_of c.written.result (Ok t))
    (ap₂ (λ levels depth. put_under (at_levels levels) (length levels) depth 0 inner) new deeper
    ∙ placed-again levels c.args.depth c.args.under own c.args.at inner test)
    c.written.ensures
