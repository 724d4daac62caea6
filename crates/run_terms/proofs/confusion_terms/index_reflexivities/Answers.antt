use Rattle.std.proofs.Common.{List, map, ap, ap₂, ◌∙◌, subst as transport}
use Rattle.theory.specs.Terms.{Term}
use Rattle.theory.specs.Substitutions.{fill}
use Rattle.theory.specs.Telescopes.{inst_telescope}
use Rattle.theory.specs.Eliminators.{no_variable}
use Rattle.core_terms.specs.Answers.{Gives}
use Rattle.core_terms.specs.Meanings.{tree_of, tele_of}
use Rattle.core_terms.proofs.Builders.{ok_is}
use Rattle.core_sig.specs.declared.family.Arg.{Arg}
use Rattle.tele_eq.specs.Items.{Item}
use Rattle.unification.specs.Records.{items_at}
use Rattle.run_terms.specs.Made.{reflexivities_made}
use Rattle.run_terms.proofs.FamilyItems.{indices-are}
use Rattle.run_terms.proofs.confusion_terms.index_reflexivities.Goals as goal

pub returns : goal.returns
returns c =
    let P : List Item → Type 0 = λ X.
    Gives tele_of c.reflexivities_made.result (reflexivities_made X (tele_of c.args.c.now.indices)) in
    let first : List Term → List Arg → List Item = λ ps args.
    items_at (inst_telescope (fill no_variable ps) (map (λ a. tree_of a.ty) args)) (map (λ a. a.level) args) in
    let built = c.args.c.now.left.built in
    transport P
    (ok_is c.in_ok-items.ensures ∙ (ap₂ first (ap tele_of c.as_slice.ensures) c.as_slice-indices.ensures
    ∙ indices-are built.family built.record.now (tele_of c.args.c.now.parameters)))
    c.reflexivities_made.ensures
