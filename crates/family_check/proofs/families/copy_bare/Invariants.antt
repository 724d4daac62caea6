use Rattle.std.proofs.Common.{◌≡◌, map, take, All}
use Rattle.core_sig.specs.declared.family.ArgKind.TheVariants.{Plain}
use Rattle.family_check.proofs.ShapeLoops.{index_parts}
use Rattle.family_check.proofs.families.copy_bare.Given as goal

abbrev pub invariant-loop-index : goal.invariant-loop-index
invariant-loop-index l = record {
  meant : map index_parts l.indices ≡ map index_parts (take l.index-index l.f.indices);
  plain : All (λ i. i.kind ≡ Plain) l.indices;
}
