use Rattle.std.proofs.Common.{◌≡◌, ◌++◌, drop, map, length}
use Rattle.std.specs.Prelude.{codes}
use Rattle.core_sig.specs.Meanings.{constructor_of, family_of}
use Rattle.core_text.specs.EntryText.{constructors_text}
use Rattle.core_text.specs.RawEntries.{constructor_line}
use Rattle.core_text.proofs.entry_printer.write_constructors.Given as goal

abbrev pub invariant-loop-con : goal.invariant-loop-con
invariant-loop-con l =
    l.out.items
    ++ constructors_text l.sig l.before (map (constructor_line l.number (family_of l.family)) (map (constructor_of (length l.family.params)) (drop l.con-index l.family.cons)))
    ≡ l.fn.out.items
    ++ constructors_text l.sig (codes " ") (map (constructor_line l.number (family_of l.family)) (map (constructor_of (length l.family.params)) l.family.cons))
