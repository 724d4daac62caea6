use Rattle.std.proofs.Common.{length, sym, ap, ◌∙◌, subst as transport, arith}
use Rattle.core_terms.specs.Answers.{Gives, bounded_terms}
use Rattle.core_terms.specs.Meanings.{tele_of}
use Rattle.core_sig.specs.Meanings.{constructor_of}
use Rattle.unification.specs.Records.{constructor_terms}
use Rattle.problems.specs.Conditions.{AreOver, most_depth}
use Rattle.problems.proofs.KnownRecords.{over-more}
use Rattle.problems.specs.MemberConditions.{most_params}
use Rattle.problems.proofs.members.terms_at.Goals as goal

pub constructor_terms-requires-clause-ps : goal.constructor_terms-requires-clause-ps
constructor_terms-requires-clause-ps c =
    transport (λ ts. AreOver most_depth (tele_of ts)) (sym c.as_slice.ensures)
    (over-more most_params most_depth (tele_of c.args.m.now.params) (omega arith) (omega arith) c.requires.parameters)

pub returns : goal.returns
returns c =
    let m = c.args.m.now in
    transport (λ k. Gives tele_of c.constructor_terms.result (bounded_terms (constructor_terms m.number c.args.number (tele_of m.params) (constructor_of k c.args.con.now))))
    (ap length c.as_slice.ensures ∙ c.requires.parameter_count)
    (transport (λ ts. Gives tele_of c.constructor_terms.result (bounded_terms (constructor_terms m.number c.args.number (tele_of ts) (constructor_of (length c.as_slice.result.now) c.args.con.now))))
    c.as_slice.ensures c.constructor_terms.ensures)
