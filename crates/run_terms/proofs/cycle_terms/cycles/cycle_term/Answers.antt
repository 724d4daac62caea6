use Rattle.std.proofs.Common.{ap}
use Rattle.core_terms.specs.Meanings.{tree_of, tele_of}
use Rattle.run_terms.specs.CodeNaming.{naming_of}
use Rattle.run_terms.specs.ComparisonMeanings.{member_of}
use Rattle.run_terms.specs.StandingMeanings.{standing_of}
use Rattle.run_terms.proofs.cycle_terms.CycleMembers.{cycle-is}
use Rattle.run_terms.proofs.cycle_terms.cycles.cycle_term.Goals as goal

pub returns : goal.returns
returns c =
    cycle-is c.args.sig.now (naming_of c.args.naming) c.args.level (standing_of c.args.s.now) c.args.x c.args.from_left
    (member_of c.args.b.now) c.in-Some.f.now (tele_of c.as_slice-ps.result.now) (tree_of c.args.side.now) c.cycle_with.result
    c.requires c.in-Some.ensures.family c.in-Some.ensures.kinds (ap tele_of c.as_slice-ps.ensures) c.cycle_with.ensures
