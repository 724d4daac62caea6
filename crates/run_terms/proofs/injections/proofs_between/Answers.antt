use Rattle.std.proofs.Common.{List, Result, ap, ◌++◌, ◌∙◌, subst as transport}
use Rattle.theory.specs.Telescopes.{variables}
use Rattle.theory.specs.Terms.{Term}
use Rattle.core_terms.specs.Answers.{Gives}
use Rattle.core_terms.specs.Meanings.{tele_of}
use Rattle.core_terms.specs.declared.stop.Stop.{Stop}
use Rattle.core_terms.proofs.Builders.{ok_is}
use Rattle.tele_eq.specs.Items.{items_of}
use Rattle.unification.specs.Injecting.{lifted}
use Rattle.run_terms.specs.ComparisonMeanings.{comparison_of}
use Rattle.run_terms.proofs.InjectedProofs.{sides-are}
use Rattle.run_terms.proofs.injections.proofs_between.Goals as goal

pub returns : goal.returns
returns c =
    let P : Result (List Term) Stop → Type 0 = λ r. Gives tele_of c.congruences_made.result r in
    transport P
    (sides-are (comparison_of c.args.c.now) c.args.count (items_of c.args.from.now) (items_of c.args.to.now) (tele_of c.args.terms.now)
    (tele_of c.in_ok-left.left) (tele_of c.in_ok-right.right) (tele_of c.in_ok-eqs.eqs)
    (ok_is c.in_ok-left.ensures ∙ ap (λ ts. lifted c.args.count (tele_of ts)) c.as_slice.ensures)
    (ok_is c.in_ok-right.ensures ∙ ap (λ ts. lifted c.args.count (tele_of ts)) c.as_slice-2.ensures)
    (ok_is c.in_ok-eqs.ensures ∙ ap (λ ts. tele_of ts ++ variables c.args.count) c.new.ensures))
    c.congruences_made.ensures
