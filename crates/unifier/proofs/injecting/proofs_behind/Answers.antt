use Rattle.std.proofs.Common.{List, Result, length, sym, ◌∙◌, subst as transport, arith}
use Rattle.std.proofs.lemmas.List.{length-map}
use Rattle.theory.specs.Terms.{Term}
use Rattle.core_terms.specs.Answers.{Gives}
use Rattle.core_terms.specs.Meanings.{tree_of, tele_of}
use Rattle.core_terms.specs.declared.stop.Stop.{Stop}
use Rattle.core_sig.specs.Meanings.{argument_of, constructor_of, family_of}
use Rattle.tele_eq.specs.Items.{items_of}
use Rattle.problems.proofs.KnownRecords.{arguments-small, few-arguments-made, few-members-made, group-made-is, kinds-known, members-small, terms-small}
use Rattle.unifier.proofs.injecting.proofs_behind.Goals as goal

pub lifted_congruences-requires-clause-few_arguments : goal.lifted_congruences-requires-clause-few_arguments
lifted_congruences-requires-clause-few_arguments c =
    let b = c.args.built in
    let ps = tele_of c.args.ps.now in
    let made = c.in_ok-arguments.ensures b.family (family_of b.record.now) (kinds-known b c.requires.known)
    (length-map b.record.now.params tree_of ∙ sym c.requires.parameters) in
    few-arguments-made b ps (length c.args.ps.now) c.in_ok-arguments.arguments c.requires.few_args made

pub lifted_congruences-requires-clause-few_members : goal.lifted_congruences-requires-clause-few_members
lifted_congruences-requires-clause-few_members c =
    few-members-made c.args.built (tele_of c.args.ps.now) c.in_ok-members.members c.requires.indices c.in_ok-members.ensures

pub lifted_congruences-requires-clause-arguments : goal.lifted_congruences-requires-clause-arguments
lifted_congruences-requires-clause-arguments c =
    let b = c.args.built in
    let ps = tele_of c.args.ps.now in
    let made = c.in_ok-arguments.ensures b.family (family_of b.record.now) (kinds-known b c.requires.known)
    (length-map b.record.now.params tree_of ∙ sym c.requires.parameters) in
    arguments-small b ps (length c.args.ps.now) (items_of c.in_ok-arguments.arguments) c.requires.known (length-map c.args.ps.now tree_of)
    c.requires.parameters c.requires.ps (omega (arith, c.requires.few_args)) made

pub lifted_congruences-requires-clause-members : goal.lifted_congruences-requires-clause-members
lifted_congruences-requires-clause-members c =
    members-small c.args.built (tele_of c.args.ps.now) (items_of c.in_ok-members.members) c.requires.known
    (length-map c.args.ps.now tree_of ∙ c.requires.parameters) c.requires.ps (omega (arith, c.requires.indices)) c.in_ok-members.ensures

pub lifted_congruences-requires-clause-terms : goal.lifted_congruences-requires-clause-terms
lifted_congruences-requires-clause-terms c =
    terms-small c.args.built (tele_of c.args.ps.now) (length c.args.ps.now) (tele_of c.in_ok-terms.terms) c.requires.known (length-map c.args.ps.now tree_of)
    c.requires.parameters c.requires.ps (omega (arith, c.requires.few_args)) c.in_ok-terms.ensures

pub returns : goal.returns
returns c =
    let b = c.args.built in
    let ps = tele_of c.args.ps.now in
    let made = c.in_ok-arguments.ensures b.family (family_of b.record.now) (kinds-known b c.requires.known)
    (length-map b.record.now.params tree_of ∙ sym c.requires.parameters) in
    let P : Result (List Term) Stop → Type 0 = λ r. Gives tele_of c.lifted_congruences.result r in
    transport P
    (group-made-is b.family b.number (family_of b.record.now) (constructor_of (length c.args.ps.now) b.con.now) ps (tele_of c.args.left.now)
    (tele_of c.args.right.now) (items_of c.in_ok-arguments.arguments) (items_of c.in_ok-members.members) (tele_of c.in_ok-terms.terms)
    (length b.con.now.args) made c.in_ok-members.ensures c.in_ok-terms.ensures (sym (length-map b.con.now.args (argument_of (length c.args.ps.now)))))
    c.lifted_congruences.ensures
