use Rattle.core_terms.specs.Meanings.{tree_of}
use Rattle.family_check.proofs.DomainHeights.{granted-low}
use Rattle.family_check.proofs.constructors.declare_constructor.Goals as goal

pub shaped_constructor-requires-clause-low : goal.shaped_constructor-requires-clause-low
shaped_constructor-requires-clause-low c = granted-low c.args.sig.now _ _ (tree_of c.args.raw.ty) _ _ _ c.in_ok-sort_in.ensures.answer
