use Rattle.std.proofs.Common.{sym, ap, ◌∙◌, subst as transport, arith}
use Rattle.core_terms.specs.Meanings.{tele_of}
use Rattle.core_terms.proofs.Builders.{ok_is}
use Rattle.unification.specs.Injecting.{lifted}
use Rattle.problems.specs.Conditions.{AreOver, most_depth}
use Rattle.problems.specs.MemberConditions.{most_params}
use Rattle.problems.proofs.KnownRecords.{lifted-over, over-more}
use Rattle.problems.proofs.members.indices_behind.Goals as goal

pub lifted-requires-clause-terms : goal.lifted-requires-clause-terms
lifted-requires-clause-terms c =
    transport (λ ts. AreOver most_depth (tele_of ts)) (sym c.as_slice.ensures)
    (over-more most_params most_depth (tele_of c.args.m.now.params) (omega arith) (omega arith) c.requires.parameters)

pub family_items-requires-clause-ps : goal.family_items-requires-clause-ps
family_items-requires-clause-ps c =
    transport (AreOver most_depth)
    (sym (ap tele_of c.as_slice-2.ensures ∙ (ok_is c.in_ok-params.ensures ∙ ap (λ ts. lifted c.args.count (tele_of ts)) c.as_slice.ensures)))
    (lifted-over most_params c.args.count most_depth (tele_of c.args.m.now.params) (omega arith) (omega arith) c.requires.parameters)
