use Rattle.std.proofs.Common.{length, sym, ap, ◌∙◌, subst as transport, arith}
use Rattle.std.proofs.lemmas.List.{length-map}
use Rattle.core_terms.specs.Answers.{Gives}
use Rattle.core_terms.specs.Meanings.{tree_of, tele_of}
use Rattle.core_sig.specs.Meanings.{constructor_of, family_of}
use Rattle.tele_eq.specs.Items.{items_of}
use Rattle.unification.specs.Heights.{bounded_items}
use Rattle.unification.specs.Records.{argument_items}
use Rattle.problems.specs.Conditions.{AreOver, most_depth}
use Rattle.problems.proofs.KnownRecords.{over-more}
use Rattle.problems.specs.MemberConditions.{most_params}
use Rattle.problems.proofs.members.arguments_at.Goals as goal

pub argument_items-requires-clause-ps : goal.argument_items-requires-clause-ps
argument_items-requires-clause-ps c =
    transport (λ ts. AreOver most_depth (tele_of ts)) (sym c.as_slice.ensures)
    (over-more most_params most_depth (tele_of c.args.m.now.params) (omega arith) (omega arith) c.requires.parameters)

pub returns : goal.returns
returns c =
    let m = c.args.m.now in
    let same = ap length c.as_slice.ensures ∙ c.requires.parameter_count in
    transport (λ k. Gives items_of c.argument_items.result (bounded_items (argument_items m.number (tele_of m.params) (constructor_of k c.args.con.now)))) same
    (transport (λ ts. Gives items_of c.argument_items.result (bounded_items (argument_items m.number (tele_of ts) (constructor_of (length c.as_slice.result.now) c.args.con.now))))
    c.as_slice.ensures
    (c.argument_items.ensures m.number (family_of m.family.now) c.requires.kinds (length-map m.family.now.params tree_of ∙ sym same)))
