use Rattle.std.proofs.Common.{◌≡◌, take, drop}
use Rattle.core_terms.specs.Meanings.{tele_of}
use Rattle.problems.proofs.built.split_spine.Given as goal

abbrev pub invariant-loop-arg : goal.invariant-loop-arg
invariant-loop-arg l = record {
  first : tele_of l.first ≡ take l.count (tele_of l.yielded);
  rest : tele_of l.rest ≡ drop l.count (tele_of l.yielded);
}
