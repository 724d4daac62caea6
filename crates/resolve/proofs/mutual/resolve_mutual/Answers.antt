use Rattle.std.proofs.Common.{◌≡◌, map, ap}
use Rattle.surface_syntax.specs.Trees as surf
use Rattle.surface_syntax.specs.TreeMeanings.{decl_of, member_of, param_of}
use Rattle.resolve.proofs.NewMembers.{mutual_named}
use Rattle.resolve.proofs.ScopedMembers.{mutual_has}
use Rattle.resolve.proofs.mutual.resolve_mutual.Goals as goal

pub returns-clause-scoped : goal.returns-clause-scoped
returns-clause-scoped c = λ T p.
    mutual_has c.args.sig.now T p (map param_of c.as_slice.result.now) (map member_of c.as_slice-in-Mutual.result.now) c.in-Mutual.family c.in-Mutual.tag c.as_slice-in-Mutual-2.result.now c.mutual_family.result c.mutual_family.ensures

pub returns-clause-named : goal.returns-clause-named
returns-clause-named c =
    let params = map param_of c.as_slice.result.now in
    let list = map member_of c.as_slice-in-Mutual.result.now in
    let tags = c.as_slice-in-Mutual-2.result.now in
    let is : decl_of c.args.d.now ≡ surf.Mutual params list c.in-Mutual.family c.in-Mutual.tag tags =
    rw (c.as_slice.ensures, c.as_slice-in-Mutual.ensures, c.as_slice-in-Mutual-2.ensures) (ap decl_of c.in-Mutual.is) in
    mutual_named c.args.sig.now params list c.in-Mutual.family c.in-Mutual.tag tags (decl_of c.args.d.now) c.mutual_family.result is c.mutual_family.ensures
