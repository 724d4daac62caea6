use Rattle.std.proofs.Common.{map}
use Rattle.surface_syntax.specs.TreeMeanings.{surf_of, param_of, con_of}
use Rattle.resolve.proofs.LawProofs.{family_has}
use Rattle.resolve.proofs.NewNames.{family_named}
use Rattle.resolve.proofs.families.resolve_data.Goals as goal

pub returns-clause-scoped : goal.returns-clause-scoped
returns-clause-scoped c = λ T p at.
    family_has c.args.sig.now T p at c.in-Data.name (map param_of c.as_slice.result.now) (surf_of c.in-Data.ty) (map con_of c.as_slice-in-Data.result.now) c.family.result c.family.ensures

pub returns-clause-named : goal.returns-clause-named
returns-clause-named c =
    rw c.in-Data.is
    (family_named c.args.sig.now c.in-Data.name (map param_of c.as_slice.result.now) (surf_of c.in-Data.ty) (map con_of c.as_slice-in-Data.result.now) c.family.result c.family.ensures)
