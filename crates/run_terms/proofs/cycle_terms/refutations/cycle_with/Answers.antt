use Rattle.std.proofs.Common.{Ok, ap, ap₂, ◌∙◌, subst as transport}
use Rattle.theory.specs.Terms.{Term}
use Rattle.core_terms.specs.Answers.{Gives}
use Rattle.core_terms.specs.Meanings.{tree_of, tele_of}
use Rattle.core_terms.proofs.Builders.{ok_is}
use Rattle.core_sig.specs.Meanings.{family_of}
use Rattle.core_sig.specs.Shapes.{shape_of}
use Rattle.run_terms.specs.CodeNaming.{naming_of}
use Rattle.run_terms.specs.StandingMeanings.{standing_of}
use Rattle.run_terms.specs.cycle_terms.CodeCycles.{cycle_in}
use Rattle.run_terms.proofs.cycle_terms.refutations.cycle_with.Goals as goal

pub returns : goal.returns
returns c =
    let P : Term → Type 0 = λ u. Gives tree_of c.cycle_in.result (Ok u) in
    transport P
    (ap₂ (cycle_in (naming_of c.args.naming) c.args.level (standing_of c.args.s.now) c.args.x c.args.from_left c.args.n (family_of c.args.family.now) (shape_of c.args.family.now))
    (ap tele_of c.as_slice-parameters.ensures ∙ ok_is c.in_ok-parameters.ensures) (ok_is c.in_ok-side.ensures))
    c.cycle_in.ensures
