-- Invariants of the fields of every signature.
use Rattle.std.specs.Prelude.{◌≡◌, Some, ℕ, ◌<◌, ◌^◌, map, length, slice_get}
use Rattle.core_sig.specs.Kinds.{HasEntryKinds}
use Rattle.core_sig.specs.Meanings.{entry_of}
use Rattle.core_sig.specs.Names.{named}
use Rattle.core_sig.specs.StoredEntries.{HasTerms}
use Rattle.core_sig.specs.declared.entry.Entry.{Entry}
use Rattle.core_sig.specs.declared.signature.Signature.TheInside.{Inside}

-- the index has the names of the entries, the pool their terms, every argument has the kind of its type, and numbers fit 32 bits
pub record IsKept (s : Inside) : Type 0 where
  pub names : s.names ≡ named 0 (map entry_of s.entries.items)
  pub kinds : (n : ℕ) (e : Entry) → slice_get s.entries.items n ≡ Some e → HasEntryKinds n e
  pub stored : HasTerms s.terms (map entry_of s.entries.items)
  pub count : length s.entries.items < 2 ^ 32
