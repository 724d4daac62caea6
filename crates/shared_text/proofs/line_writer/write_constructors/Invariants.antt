use Rattle.std.proofs.Common.{◌≡◌, ◌++◌, ◌≤◌, ◌-◌, drop, length, map}
use Rattle.std.specs.Prelude.{codes}
use Rattle.core_sig.specs.Raw.{raw_constructor_of}
use Rattle.shared_text.specs.BlockText.{constructors_by, shared_text}
use Rattle.shared_text.specs.CodeMeanings.{shared_of}
use Rattle.shared_text.proofs.line_writer.write_constructors.Given as goal

abbrev pub invariant-cons : goal.invariant-cons
invariant-cons l =
    let text = shared_text l.texts.sig.now (shared_of l.texts) in
    record {
      within : l.at ≤ length l.cons;
      text :
          l.out.items ++ constructors_by text l.before (map raw_constructor_of (drop l.at l.cons))
          ≡ l.fn.out.items ++ constructors_by text (codes " ") (map raw_constructor_of l.cons);
    }

abbrev pub decreases-cons : goal.decreases-cons
decreases-cons l = length l.cons - l.at
