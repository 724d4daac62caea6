use Rattle.core_terms.specs.Meanings.{tree_of}
use Rattle.core_terms.proofs.Builders.{ok_is}
use Rattle.core_sig.specs.Meanings.{family_of}
use Rattle.run_terms.specs.CodeNaming.{naming_of}
use Rattle.run_terms.specs.StandingMeanings.{standing_of}
use Rattle.run_terms.specs.cycle_terms.SearchMeanings.{search_of}
use Rattle.run_terms.proofs.cycle_terms.RefutedGoals.{refuted-is}
use Rattle.run_terms.proofs.cycle_terms.refutations.refuted.Goals as goal

pub returns : goal.returns
returns c =
    refuted-is c.new_app.result (naming_of c.args.naming) (standing_of c.args.s.now) c.args.from_left (family_of c.args.c.now.family.now)
    (tree_of c.args.side.now) (search_of c.args.c.now) (tree_of c.in_ok-first_equation.field-0) (tree_of c.in_ok-tuple.tuple)
    (tree_of c.in_ok-component.component) (tree_of c.in_ok-proof.proof) c.new_app.ensures
    (ok_is c.in_ok-first_equation.ensures) (ok_is c.in_ok-tuple.ensures) (ok_is c.in_ok-component.ensures)
    (ok_is c.in_ok-proof.ensures)
