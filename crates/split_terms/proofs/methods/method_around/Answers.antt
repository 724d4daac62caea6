use Rattle.std.proofs.Common.{Ok, length, ap, ◌∙◌, subst as transport}
use Rattle.theory.specs.Telescopes.{Telescope, functions}
use Rattle.core_terms.specs.Answers.{Gives}
use Rattle.core_terms.specs.Meanings.{tele_of}
use Rattle.core_terms.proofs.Builders.{ok_is}
use Rattle.core_sig.specs.Meanings.{constructor_of}
use Rattle.unification.specs.Records.{argument_items}
use Rattle.unification.specs.States.{types_as_they_stand}
use Rattle.tree_translation.specs.Splits.{member_types}
use Rattle.tree_translation.specs.Standings.{placed_telescope}
use Rattle.run_terms.specs.outlines.Later.{in_body}
use Rattle.run_terms.specs.outlines.OutlineMeanings.{outline_of}
use Rattle.run_terms.specs.StandingMeanings.{standing_of}
use Rattle.split_terms.proofs.OutlinedParts.{method-body}
use Rattle.split_terms.proofs.methods.method_around.Goals as goal

pub returns : goal.returns
returns c =
    let s = standing_of c.args.s.now in
    let inner = outline_of c.args.inner in
    let arguments : Telescope =
    member_types (argument_items c.args.m.now.number (tele_of c.args.m.now.params) (constructor_of (length c.args.m.now.family.now.params) c.args.con.now))
    in
    let types : Telescope = placed_telescope s.variables s.depth (types_as_they_stand s.state.equations) in
    transport (λ t. Gives outline_of c.in_body.result (Ok t))
    (ap (λ t. in_body t inner) (ok_is c.in_ok-around.ensures ∙ ap (functions arguments) (ok_is c.in_ok-state.ensures))
    ∙ method-body arguments types inner)
    c.in_body.ensures
