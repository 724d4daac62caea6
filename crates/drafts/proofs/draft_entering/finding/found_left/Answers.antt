use Rattle.std.proofs.Common.{◌<◌, IfSome, sym, subst, ◌∙◌}
use Rattle.theory.specs.Terms.{top}
use Rattle.drafts.proofs.draft_entering.NamedLevels.{found-left, found-no-left}
use Rattle.drafts.proofs.draft_entering.finding.found_left.Goals as goal

pub returns-in-Some : goal.returns-in-Some
returns-in-Some c =
    let low = subst (λ o. IfSome o (λ p. (p.0 < top) × (p.1 < top))) c.in-Some.is c.left_levels.ensures.low in
    c.left_at.ensures ∙ sym (found-left c.args.name.now c.in-Some.i c.in-Some.m low.0 low.1 (sym c.left_levels.ensures.levels ∙ c.in-Some.is))

pub returns-in-None : goal.returns-in-None
returns-in-None c = sym (found-no-left c.args.name.now (sym c.left_levels.ensures.levels ∙ c.in-None.is))
