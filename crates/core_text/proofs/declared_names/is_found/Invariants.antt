use Rattle.std.proofs.Common.{◌≡◌, drop, map}
use Rattle.std.specs.Prelude.{bytes_eq}
use Rattle.std.specs.List.{list_any}
use Rattle.core_sig.specs.Raw.{raw_constructor_of}
use Rattle.core_text.proofs.declared_names.is_found.Given as goal

abbrev pub invariant-loop-con : goal.invariant-loop-con
invariant-loop-con l =
    list_any (λ c. bytes_eq l.name c.name) (map raw_constructor_of (drop l.con-index l.found))
    ≡ list_any (λ c. bytes_eq l.name c.name) (map raw_constructor_of l.found)
