use Rattle.std.proofs.Common.{◌≡◌, true, nat_lt, sym, subst as transport, arith}
use Rattle.std.proofs.lemmas.Bool.Decides.{nat_tests}
use Rattle.theory.specs.Eliminators.{eliminator_type}
use Rattle.theory.specs.Signatures.{EliminatorAt}
use Rattle.theory.specs.SignatureScopes.{IsScoped}
use Rattle.theory.specs.Terms.{top}
use Rattle.core_terms.specs.Meanings.{tree_of}
use Rattle.kernel_check.proofs.FamilyScopes.{family-over}
use Rattle.kernel_reduce.proofs.WellScoped.{closed_terms}
use Rattle.family_check.proofs.Instances.{high_yields, made-is}
use Rattle.family_check.proofs.ScopedEntering.{eliminator-scoped}
use Rattle.family_check.proofs.eliminators.enter_eliminator.Goals as goal

pub returns-in_err-ty-clause-answer : goal.returns-in_err-ty-clause-answer
returns-in_err-ty-clause-answer c = λ f at.
    let fits : nat_lt c.args.m top ≡ true = grind (arith, nat_tests) in
    high_yields c.args.sig.now c.args.sig.now (EliminatorAt c.args.fam c.args.m) (nat_lt c.args.m top) (eliminator_type c.args.fam f c.args.m)
    c.in_err-ty.field-0.0 c.from_residual.result c.args.units.now.left fits c.from_residual.ensures.1 (c.in_err-ty.ensures f at)

pub enter-requires-clause-asked : goal.enter-requires-clause-asked
enter-requires-clause-asked c =
    let f = c.requires.family.0 in
    let at = c.requires.family.1 in
    let type = transport (IsScoped c.args.sig.now 0) (sym (made-is (tree_of c.in_ok-ty.ty) (eliminator_type c.args.fam f c.args.m) (c.in_ok-ty.ensures f at)))
    (eliminator-scoped c.args.sig.now c.args.fam c.args.m f c.requires.signature at (omega arith)) in
    closed_terms c.requires.signature.scoped (type, tt)

pub enter-requires-clause-can : goal.enter-requires-clause-can
enter-requires-clause-can c =
    let f = c.requires.family.0 in
    let at = c.requires.family.1 in
    (f, at, family-over c.args.sig.now c.args.fam f c.requires.signature.scoped at)
