use Rattle.std.proofs.Common.{◌≡◌, ◌++◌, drop}
use Rattle.core_terms.specs.Meanings.{tele_of}
use Rattle.core_text.specs.EntryText.{parameters_text}
use Rattle.core_text.proofs.telescopes.write_parameters.Given as goal

abbrev pub invariant-loop-ty : goal.invariant-loop-ty
invariant-loop-ty l =
    l.out.items ++ parameters_text l.sig (tele_of (drop l.ty-index l.params))
    ≡ l.fn.out.items ++ parameters_text l.sig (tele_of l.params)
