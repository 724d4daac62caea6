use Rattle.std.proofs.Common.{◌≡◌, ◌++◌, map}
use Rattle.theory.specs.Telescopes.{variables, weaken_by}
use Rattle.core_text.specs.TermText.{spaced}
use Rattle.core_text.proofs.spines.write_variables.Given as goal

abbrev pub invariant-loop-at : goal.invariant-loop-at
invariant-loop-at l =
    l.out.items ++ spaced l.sig (map (weaken_by l.from) (variables l.at))
    ≡ l.fn.out.items ++ spaced l.sig (map (weaken_by l.from) (variables l.count))
