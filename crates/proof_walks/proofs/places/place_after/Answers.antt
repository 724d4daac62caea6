use Rattle.std.proofs.Common.{ap, ◌∙◌}
use Rattle.core_terms.specs.Meanings.{tele_of}
use Rattle.core_terms.proofs.Builders.{ok_is}
use Rattle.clause_reports.specs.ProofWalks.{bounded_place, moved_place}
use Rattle.proof_walks.specs.proof_terms.ProofMeanings.{place_of}
use Rattle.proof_walks.proofs.KeptPlaces.{after-kept}
use Rattle.proof_walks.proofs.places.place_after.Goals as goal

pub returns-clause-kept : goal.returns-clause-kept
returns-clause-kept c =
    after-kept c.args.sig.now (place_of c.args.p.now) (place_of c.in_ok-moved.moved) (tele_of c.args.ctx.now) (tele_of c.args.subst.now) c.few_place.result
    c.requires.place c.requires.solved
    (c.in_ok-moved.ensures
    ∙ ap (λ ctx. bounded_place (moved_place (place_of c.args.p.now) ctx (tele_of c.args.subst.now))) (ok_is c.in_ok-context.ensures))
    c.few_place.ensures.answer c.few_place.ensures.few
