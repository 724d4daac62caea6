use Rattle.std.proofs.Common.{◌≡◌, ◌++◌, [], drop}
use Rattle.std.specs.Option.{option_copied}
use Rattle.core_terms.specs.Meanings.{tele_of}
use Rattle.core_text.specs.ContextText.{types_text}
use Rattle.core_text.specs.SymbolNames.{with_own}
use Rattle.core_text.proofs.texts.write_types.Given as goal

abbrev pub invariant-loop-t : goal.invariant-loop-t
invariant-loop-t l =
    l.out.items ++ types_text (with_own l.sig (option_copied l.own)) l.before (tele_of (drop l.t-index l.types))
    ≡ l.fn.out.items ++ types_text (with_own l.sig (option_copied l.own)) [] (tele_of l.types)
