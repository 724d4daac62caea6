use Rattle.std.proofs.Common.{Ok, map, sym, subst as transport}
use Rattle.core_sig.specs.Drafts.{draft_of}
use Rattle.function_session.specs.mutual_families.Conditions.{AreEnterableLater}
use Rattle.function_session.proofs.mutual_families.CallAnswers.{inductions-are}
use Rattle.function_session.proofs.mutual_families.inductions.enter_inductions.Goals as goal
use Rattle.mutual_pack.specs.MutualFamilies.{packed_of}

pub enter_drafts-requires-clause-drafts : goal.enter_drafts-requires-clause-drafts
enter_drafts-requires-clause-drafts c =
    transport (λ drafts. AreEnterableLater c.args.sig.now (map draft_of drafts)) (sym c.as_slice.ensures)
    (c.requires.has.drafts (map draft_of c.in-Ok.drafts)
    (sym (inductions-are c.args.sig.now (packed_of c.args.packed.now) (Ok (map draft_of c.in-Ok.drafts)) c.requires.has.family c.in-Ok.ensures.answer)))
