use Rattle.std.proofs.Common.{◌<◌, IfSome, sym, subst, ◌∙◌}
use Rattle.theory.specs.Terms.{top}
use Rattle.core_sig.specs.Meanings.{family_of}
use Rattle.drafts.proofs.draft_entering.NamedLevels.{found-at-level, found-at-none}
use Rattle.drafts.proofs.draft_entering.finding.found_at_own_level.Goals as goal

pub returns-in-Some : goal.returns-in-Some
returns-in-Some c =
    let low = subst (λ o. IfSome o (λ m. m < top)) c.in-Some.is c.level_at_end.ensures.low in
    c.found_at.ensures
    ∙ sym (found-at-level c.args.name.now c.args.n (family_of c.args.f.now) c.in-Some.m low (sym c.level_at_end.ensures.level ∙ c.in-Some.is))

pub returns-in-None : goal.returns-in-None
returns-in-None c =
    sym (found-at-none c.args.name.now c.args.n (family_of c.args.f.now) (sym c.level_at_end.ensures.level ∙ c.in-None.is))
