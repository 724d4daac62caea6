use Rattle.std.proofs.Common.{map}
use Rattle.surface_syntax.specs.Trees.{clauses}
use Rattle.surface_syntax.specs.TreeMeanings.{surf_of, clause_of}
use Rattle.resolve.proofs.LawProofs.{function_has}
use Rattle.resolve.proofs.NewNames.{function_named}
use Rattle.resolve.proofs.functions.resolve_fun.Goals as goal

pub returns-clause-scoped : goal.returns-clause-scoped
returns-clause-scoped c = λ T p at.
    function_has c.args.sig.now T p at c.in-Fun.name (surf_of c.in-Fun.ty) (clauses (map clause_of c.as_slice.result.now)) c.function.result c.function.ensures

pub returns-clause-named : goal.returns-clause-named
returns-clause-named c =
    rw c.in-Fun.is
    (function_named c.args.sig.now c.in-Fun.name (surf_of c.in-Fun.ty) (clauses (map clause_of c.as_slice.result.now)) c.function.result c.function.ensures)
