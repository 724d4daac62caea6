use Rattle.core_terms.specs.Meanings.{tree_of, tele_of}
use Rattle.core_terms.proofs.Builders.{ok_is}
use Rattle.core_sig.specs.Meanings.{family_of}
use Rattle.core_sig.specs.Shapes.{shape_of}
use Rattle.run_terms.specs.CodeNaming.{naming_of}
use Rattle.run_terms.specs.StandingMeanings.{standing_of}
use Rattle.run_terms.proofs.cycle_terms.RefutedGoals.{searched-is}
use Rattle.run_terms.proofs.cycle_terms.refutations.cycle_in.Goals as goal

pub returns : goal.returns
returns c =
    searched-is c.by_refutation.result (naming_of c.args.naming) c.args.level (standing_of c.args.s.now) c.args.x c.args.from_left c.args.n
    (family_of c.args.family.now) (shape_of c.args.family.now) (tele_of c.args.parameters.now) (tree_of c.args.side.now)
    c.in_ok-named_carrier.field-0 c.in_ok-number_here.field-0 c.by_refutation.ensures
    (ok_is c.in_ok-named_carrier.ensures) (ok_is c.in_ok-number_here.ensures)
