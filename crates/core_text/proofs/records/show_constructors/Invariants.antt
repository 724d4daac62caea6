use Rattle.std.proofs.Common.{◌≡◌, drop, map, length}
use Rattle.std.specs.List.{list_all}
use Rattle.core_sig.specs.Raw.{raw_constructor_of}
use Rattle.core_text.specs.RawEntries.{ends_in_family}
use Rattle.core_text.proofs.records.show_constructors.Given as goal

abbrev pub invariant-loop-con : goal.invariant-loop-con
invariant-loop-con l =
    list_all (λ c. ends_in_family l.family (length l.f.params) (length l.f.indices) 0 c.type) (map raw_constructor_of (drop l.con-index l.cons))
    ≡ list_all (λ c. ends_in_family l.family (length l.f.params) (length l.f.indices) 0 c.type) (map raw_constructor_of l.cons)
