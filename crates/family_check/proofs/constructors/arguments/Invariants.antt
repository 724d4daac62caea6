use Rattle.std.proofs.Common.{◌≡◌, ◌++◌, length, map, drop}
use Rattle.core_terms.specs.Meanings.{tele_of}
use Rattle.core_sig.specs.Kinds.{HaveKinds}
use Rattle.core_sig.specs.Meanings.{argument_of, family_of}
use Rattle.family_check.specs.Shapes.{arguments}
use Rattle.family_check.proofs.constructors.arguments.Given as goal

abbrev pub invariant-loop-ty : goal.invariant-loop-ty
invariant-loop-ty l = record {
  count : length l.args ≡ length l.yielded;
  meant : arguments l.n (family_of l.f) 0 (tele_of l.fn.types.items) l.levels
      ≡ map (argument_of (length l.f.params)) l.args ++ arguments l.n (family_of l.f) (length l.args) (drop (length l.args) (tele_of l.fn.types.items)) (drop (length l.args) l.levels);
  kinds : HaveKinds l.n (family_of l.f) 0 l.args;
}
