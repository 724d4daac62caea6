use Rattle.std.proofs.Common.{◌≡◌, ◌++◌, length, map, drop}
use Rattle.core_terms.specs.Meanings.{tree_of}
use Rattle.tele_eq.specs.Items.{items_of}
use Rattle.unification.specs.Records.{items_at}
use Rattle.problems.proofs.records.with_levels.Given as goal

abbrev pub invariant-loop-ty : goal.invariant-loop-ty
invariant-loop-ty l =
    (l.at ≡ length l.yielded)
    × (items_of l.made ++ items_at (map tree_of (drop l.at l.fn.types.items)) (map (λ a. a.level) (drop l.at l.args))
    ≡ items_of l.fn.made ++ items_at (map tree_of l.fn.types.items) (map (λ a. a.level) l.args))
