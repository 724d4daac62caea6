use Rattle.std.proofs.Common.{List, Result, length, ap, sym, ◌∙◌, subst as transport, arith}
use Rattle.theory.specs.Terms.{Term}
use Rattle.core_terms.specs.Answers.{Gives}
use Rattle.core_terms.specs.Meanings.{tele_of}
use Rattle.core_terms.specs.declared.stop.Stop.{Stop}
use Rattle.core_terms.proofs.Builders.{ok_is}
use Rattle.core_sig.specs.Meanings.{family_of}
use Rattle.problems.specs.Conditions.{AreOver, most_depth, most_levels}
use Rattle.problems.proofs.KnownRecords.{behind-is, count-lifted, lifted-over, over-more}
use Rattle.unifier.proofs.injecting.group_proofs.Goals as goal

pub lifted-requires-clause-terms : goal.lifted-requires-clause-terms
lifted-requires-clause-terms c = over-more most_levels most_depth (tele_of c.args.ps.now) (omega arith) (omega arith) c.requires.ps

pub proofs_behind-requires-clause-ps : goal.proofs_behind-requires-clause-ps
proofs_behind-requires-clause-ps c =
    let count = ap length c.as_slice.ensures in
    let few = c.requires.few_args in
    transport (AreOver most_depth) (sym (ap tele_of c.as_slice-2.ensures ∙ ok_is c.in_ok-ps.ensures))
    (lifted-over most_levels (length c.as_slice.result.now) most_depth (tele_of c.args.ps.now) (omega arith) (omega arith) c.requires.ps)

pub returns : goal.returns
returns c =
    let b = c.args.built in
    let count = length c.as_slice.result.now in
    let behind = ap tele_of c.as_slice-2.ensures ∙ ok_is c.in_ok-ps.ensures in
    let P : Result (List Term) Stop → Type 0 = λ r. Gives tele_of c.proofs_behind.result r in
    transport P
    (behind-is b.family b.number (family_of b.record.now) b.con.now (tele_of c.args.ps.now) (tele_of c.as_slice-2.result.now) (tele_of c.args.left.now)
    (tele_of c.args.right.now) (length c.args.ps.now) (length c.as_slice-2.result.now) count
    (count-lifted count c.args.ps.now c.as_slice-2.result.now behind) behind (ap length c.as_slice.ensures))
    c.proofs_behind.ensures
