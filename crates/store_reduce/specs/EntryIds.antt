-- The ids of the bodies of definitions and of the types of constructors, among those of the entries.
use Rattle.std.specs.Prelude.{ℕ, Option, option_map, option_and_then, slice_get}
use Rattle.core_sig.specs.declared.entry_ids.ConstructorId.{ConstructorId}
use Rattle.core_sig.specs.declared.entry_ids.EntryIds.{EntryIds}

module _ {I : Type 0} where
  -- the id of the body of entry n
  abbrev pub body_id : EntryIds I → ℕ → Option I
  body_id ids n = option_and_then (λ id. id.body) (slice_get ids.entries.items n)

  -- the ids of the type of constructor `number` of entry n
  abbrev pub constructor_ids : EntryIds I → ℕ → ℕ → Option (ConstructorId I)
  constructor_ids ids n number = option_and_then (λ id. slice_get id.cons.items number) (slice_get ids.entries.items n)

  -- the id of the type of constructor `number` of entry n, behind the parameters
  abbrev pub behind_id : EntryIds I → ℕ → ℕ → Option I
  behind_id ids n number = option_map (λ id. id.behind) (constructor_ids ids n number)
