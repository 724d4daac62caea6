use Rattle.std.proofs.Common.{Ok, List, length, ap, sym, ◌∙◌, subst as transport}
use Rattle.std.proofs.lemmas.List.{length-map}
use Rattle.core_terms.specs.Answers.{Gives}
use Rattle.core_terms.specs.Meanings.{tree_of, tele_of}
use Rattle.core_terms.specs.declared.term.Term.{Term}
use Rattle.core_sig.specs.Meanings.{constructor_of, family_of}
use Rattle.tele_eq.specs.Items.{Item, items_of}
use Rattle.unification.specs.Records.{argument_items}
use Rattle.split_terms.proofs.branch_problems.arguments_at.Goals as goal

pub returns : goal.returns
returns c =
    let m = c.args.m.now in
    let P : List Item → Type 0 = λ X. Gives items_of c.argument_items.result (Ok X) in
    let at : List Term → List Item = λ ps. argument_items m.number (tele_of ps) (constructor_of (length ps) c.args.con.now) in
    let many = ap length c.as_slice.ensures ∙ c.requires.parameters in
    transport P
    (ap at c.as_slice.ensures
    ∙ ap (λ k. argument_items m.number (tele_of m.params) (constructor_of k c.args.con.now)) c.requires.parameters)
    (c.argument_items.ensures m.number (family_of m.family.now) c.requires.kinds (length-map m.family.now.params tree_of ∙ sym many))
