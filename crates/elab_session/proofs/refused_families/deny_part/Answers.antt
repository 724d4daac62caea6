use Rattle.std.proofs.Common.{ap, ◌∙◌}
use Rattle.core_terms.specs.Meanings.{denial_of}
use Rattle.core_terms.proofs.Builders.{ok_is}
use Rattle.core_text.specs.SymbolNames.{with_own}
use Rattle.family_check.specs.Meanings.{site_of}
use Rattle.elab_session.specs.Refusals as refusals
use Rattle.elab_session.proofs.SameNames.{part-denied}
use Rattle.elab_session.proofs.refused_families.deny_part.Goals as goal

pub returns-in-Ok : goal.returns-in-Ok
returns-in-Ok c = λ raw named other.
    let site = site_of c.args.part in
    let part = refusals.part_of c.args.names.now site in
    let denial = denial_of c.args.denial in
    ok_is c.in-Ok.ensures ∙ ap (λ own. refusals.ill_typed (with_own c.args.sig.now own) part denial) c.own_at.ensures
    ∙ part-denied c.args.sig.now c.args.x.now.text raw named site part denial
