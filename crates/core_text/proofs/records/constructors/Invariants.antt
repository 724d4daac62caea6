use Rattle.std.proofs.Common.{◌≡◌, true, map, length}
use Rattle.std.specs.Prelude.{All}
use Rattle.std.specs.List.{list_all}
use Rattle.core_sig.specs.Kinds.{HaveKinds}
use Rattle.core_sig.specs.Meanings.{family_of}
use Rattle.core_sig.specs.Raw.{raw_constructor_of}
use Rattle.core_text.specs.RawEntries.{ends_in_family}
use Rattle.core_text.specs.Records.{constructor_shown}
use Rattle.core_text.proofs.records.constructors.Given as goal

abbrev pub invariant-loop-con : goal.invariant-loop-con
invariant-loop-con l = record {
  shown : list_all (λ c. ends_in_family l.family (length l.f.params) (length l.f.indices) 0 c.type) (map raw_constructor_of l.yielded) ≡ true
      → map (constructor_shown l.family (length l.f.params)) l.cons ≡ map raw_constructor_of l.yielded;
  kinds : All (λ c. HaveKinds l.family (family_of l.f) 0 c.args) l.cons;
  levels : All (λ c. All (λ a. a.level ≡ 0) c.args) l.cons;
}
