use Rattle.std.proofs.Common.{◌≡◌, ◌++◌, [], sym, subst as transport}
use Rattle.core_terms.specs.Meanings.{tree_of, tele_of}
use Rattle.kernel_reduce.specs.WellScoped.{AreWellScoped}
use Rattle.kernel_reduce.proofs.WellScoped.{without_first}
use Rattle.family_check.proofs.DomainHeights.{granted-low}
use Rattle.family_check.proofs.families.declare_type.Goals as goal

pub levels-requires : goal.levels-requires
levels-requires c =
    let none : c.as_slice.result.now ≡ [] = cc in
    let params : c.as_slice-2.result.now ≡ c.args.params = cc in
    transport (λ front. AreWellScoped c.args.sig.now (tele_of front ++ tele_of c.as_slice-2.result.now) []) (sym none)
    (transport (λ types. AreWellScoped c.args.sig.now (tele_of types) []) (sym params) (without_first c.requires.asked))

pub bare_family-requires-clause-low : goal.bare_family-requires-clause-low
bare_family-requires-clause-low c = granted-low c.args.sig.now _ _ (tree_of c.args.ty) _ _ _ c.in_ok-sort_in.ensures.answer
