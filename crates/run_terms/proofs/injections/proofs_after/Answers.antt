use Rattle.std.proofs.Common.{List, Result, ap, sym, ◌∙◌, subst as transport}
use Rattle.std.proofs.lemmas.List.{length-map}
use Rattle.theory.specs.Terms.{Term}
use Rattle.core_terms.specs.Answers.{Gives}
use Rattle.core_terms.specs.Meanings.{tree_of, tele_of}
use Rattle.core_terms.specs.declared.stop.Stop.{Stop}
use Rattle.core_terms.proofs.Builders.{ok_is}
use Rattle.core_sig.specs.Meanings.{constructor_of, family_of}
use Rattle.tele_eq.specs.Items.{items_of}
use Rattle.unification.specs.Records.{argument_items}
use Rattle.run_terms.specs.ComparisonMeanings.{comparison_of}
use Rattle.run_terms.proofs.InjectedProofs.{proofs-are}
use Rattle.run_terms.proofs.injections.proofs_after.Goals as goal

pub returns : goal.returns
returns c =
    let m = c.args.c.now in
    let b = m.left.built in
    let ps = tele_of c.args.ps.now in
    let P : Result (List Term) Stop → Type 0 = λ r. Gives tele_of c.proofs_between.result r in
    let from = c.in_ok-from.ensures b.family (family_of b.record.now) c.requires.kinds
    (length-map b.record.now.params tree_of ∙ sym c.requires.parameters) in
    transport P
    (proofs-are (comparison_of m) c.args.count ps (items_of c.in_ok-from.from) (items_of c.in_ok-to.to) (tele_of c.in_ok-terms.terms)
    (ok_is from ∙ ap (λ k. argument_items b.family ps (constructor_of k b.con.now)) c.requires.parameters)
    (ok_is c.in_ok-to.ensures) (ok_is c.in_ok-terms.ensures))
    c.proofs_between.ensures
