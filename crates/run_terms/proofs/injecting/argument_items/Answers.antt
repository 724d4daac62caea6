use Rattle.std.proofs.Common.{Ok, List, map, ap, sym, ◌∙◌, subst as transport}
use Rattle.std.proofs.lemmas.List.{length-map}
use Rattle.theory.specs.Eliminators.{no_variable}
use Rattle.theory.specs.Substitutions.{fill}
use Rattle.theory.specs.Telescopes.{inst_telescope}
use Rattle.core_terms.specs.Answers.{Gives}
use Rattle.core_terms.specs.Meanings.{tree_of, tele_of}
use Rattle.core_sig.specs.declared.family.Arg.{Arg}
use Rattle.tele_eq.specs.Items.{Item, items_of}
use Rattle.unification.specs.Records.{items_at}
use Rattle.problems.proofs.RecordItems.{argument-items-of}
use Rattle.run_terms.proofs.injecting.argument_items.Goals as goal

pub returns : goal.returns
returns c = λ n f kinds e.
    let P : List Item → Type 0 = λ X. Gives items_of c.items_at.result (Ok X) in
    let made : List Arg → List Item = λ args.
    items_at (inst_telescope (fill no_variable (tele_of c.args.ps.now)) (map (λ a. tree_of a.ty) args)) (map (λ a. a.level) args) in
    transport P
    (ap made c.as_slice.ensures
    ∙ sym (argument-items-of n f (tele_of c.args.ps.now) _ c.args.con.now (length-map c.args.ps.now tree_of) kinds e))
    c.items_at.ensures
