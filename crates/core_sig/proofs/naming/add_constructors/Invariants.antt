use Rattle.std.proofs.Common.{◌≡◌, ◌++◌, take, drop, map}
use Rattle.core_sig.specs.Names.{AreNew, named_constructors}
use Rattle.core_sig.proofs.naming.add_constructors.Given as goal

abbrev pub invariant-loop-number : goal.invariant-loop-number
invariant-loop-number l =
    (l.names ≡ l.initial.names ++ named_constructors l.family 0 (map (λ c. c.name) (take l.number l.cons)))
    × AreNew l.names (map (λ c. c.name) (drop l.number l.cons))
