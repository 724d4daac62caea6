use Rattle.std.proofs.Common.{◌≡◌, ◌==◌, false, length, subst}
use Rattle.surface_syntax.specs.Trees as tree
use Rattle.surface_syntax.specs.Steps.{Makes}
use Rattle.surface_syntax.specs.TreeMeanings.{surf_of}
use Rattle.surface_syntax.proofs.Applications.{applied_some}
use Rattle.surface_syntax.proofs.building.applied.Goals as goal

pub returns : goal.returns
returns c =
    let some : false ≡ (length c.args.spine.args == 0) = cc (c.is_empty.ensures, c.as_slice.ensures, c.if-is_empty.false) in
    subst (λ (t : tree.Surf). Makes surf_of c.application.result t) (applied_some (surf_of c.args.spine.head) c.args.spine.args some) c.application.ensures
