use Rattle.std.proofs.Common.{◌≤◌, refl, length, take, sym, ap, ◌∙◌, subst}
use Rattle.theory.specs.Spines.{spine_of}
use Rattle.theory.specs.Terms.{height}
use Rattle.core_terms.specs.Meanings.{tree_of, tele_of}
use Rattle.std.specs.List.{All}
use Rattle.problems.specs.Conditions.{AreLow}
use Rattle.problems.proofs.BuiltCodes.{split-first}
use Rattle.unifier.proofs.GroupCodes.{low-all, spine-low, take-low}
use Rattle.unifier.proofs.groups.at_places.Goals as goal

pub have_nearest-requires : goal.have_nearest-requires
have_nearest-requires c =
    let T = tree_of c.args.ty.now in
    let k = length c.as_slice.result.now in
    subst AreLow (sym (ap tele_of c.as_slice-3.ensures ∙ split-first (c.in_ok-ps.ps, c.in_ok-ps.places) k k T c.in_ok-ps.ensures refl)) (take-low k (spine_of T) (spine-low T c.requires.low))

pub all_lowered-requires : goal.all_lowered-requires
all_lowered-requires c =
    let T = tree_of c.args.ty.now in
    let k = length c.as_slice.result.now in
    subst (All (λ t. height t ≤ 2000)) (sym (ap tele_of c.as_slice-4.ensures ∙ split-first (c.in_ok-ps.ps, c.in_ok-ps.places) k k T c.in_ok-ps.ensures refl))
    (low-all (take k (spine_of T)) (take-low k (spine_of T) (spine-low T c.requires.low)))
