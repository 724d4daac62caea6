use Rattle.std.proofs.Common.{◌≡◌, ◌+◌, map, drop, length}
use Rattle.theory.specs.Families as pure
use Rattle.core_sig.specs.Kinds.{HaveKinds}
use Rattle.core_sig.specs.Meanings.{argument_of, constructor_of}
use Rattle.core_sig.specs.Offenders.{offender_in}
use Rattle.core_sig.proofs.positivity.offender.Given as goal

abbrev pub invariant-loop-at : goal.invariant-loop-at
invariant-loop-at l =
    (f : pure.Family) → HaveKinds l.fam f 0 l.con.args →
    HaveKinds l.fam f l.at (drop l.at l.con.args)
    × (offender_in l.fam (map (argument_of (length f.parameters)) l.con.args) 1 (constructor_of (length f.parameters) l.con)
    ≡ offender_in l.fam (map (argument_of (length f.parameters)) (drop l.at l.con.args)) (l.at + 1) (constructor_of (length f.parameters) l.con))
