use Rattle.std.proofs.Common.{◌≡◌, ◌++◌, length, map, drop, zip, All}
use Rattle.core_terms.specs.Meanings.{tele_of}
use Rattle.core_sig.specs.declared.family.ArgKind.TheVariants.{Plain}
use Rattle.family_check.proofs.ShapeLoops.{index_parts}
use Rattle.family_check.proofs.families.with_levels.Given as goal

abbrev pub invariant-loop-ty : goal.invariant-loop-ty
invariant-loop-ty l = record {
  count : length l.indices ≡ length l.yielded;
  meant : zip (tele_of l.fn.types.items) l.levels
      ≡ map index_parts l.indices ++ zip (drop (length l.indices) (tele_of l.fn.types.items)) (drop (length l.indices) l.levels);
  plain : All (λ i. i.kind ≡ Plain) l.indices;
}
