use Rattle.std.proofs.Common.{subst as transport}
use Rattle.core_terms.proofs.Builders.{ok_is}
use Rattle.core_sig.specs.Raw.{RawFamily}
use Rattle.core_text.specs.RawEntries.{RawFamilyOf}
use Rattle.elab_session.specs.Entering.{Declares, enter_with}
use Rattle.family_check.specs.Entering.{entered_at}
use Rattle.function_session.proofs.mutual_families.entering.enter_family.Goals as goal

pub returns-clause-answer : goal.returns-clause-answer
returns-clause-answer c =
    transport (λ (raw : RawFamily). Declares (entered_at c.enter_raw.new.sig) c.enter_raw.result c.enter_raw.new.units.left (enter_with c.args.sig.now c.args.start c.args.fuel (RawFamilyOf raw) c.args.units.now.left))
    (ok_is c.in-Ok.ensures) c.enter_raw.ensures.answer
