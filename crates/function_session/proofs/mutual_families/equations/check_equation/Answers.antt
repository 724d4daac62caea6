use Rattle.std.proofs.Common.{Ok, sym}
use Rattle.theory.specs.Telescopes.{Telescope}
use Rattle.theory.specs.Terms.{Term}
use Rattle.core_terms.specs.Meanings.{tele_of, tree_of}
use Rattle.function_session.proofs.mutual_families.CallAnswers.{equation-is}
use Rattle.function_session.proofs.mutual_families.equations.check_equation.Goals as goal
use Rattle.mutual_pack.specs.MutualFamilies.{packed_of}

pub compare_sides-requires : goal.compare_sides-requires
compare_sides-requires c =
    let sides : Telescope × Term × Term = (tele_of c.in-Ok.tele, tree_of c.in-Ok.left, tree_of c.in-Ok.right) in
    c.requires.sides sides (sym (equation-is c.args.sig.now (packed_of c.args.packed.now) c.args.k c.args.con (Ok sides) c.requires.family c.in-Ok.ensures))
