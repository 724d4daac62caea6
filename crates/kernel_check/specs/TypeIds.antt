-- The ids of the types of variables and symbols.
use Rattle.std.specs.Prelude.{◌≡◌, ℕ, ◌<◌, IsTrue, cond, Option, None, Some, slice_get}
use Rattle.std.specs.Option.{is_some}
use Rattle.theory.specs.Terms.{Term, height}
use Rattle.theory.specs.Signatures.{Signature}
use Rattle.term_pool.specs.Held.{Held}
use Rattle.core_sig.specs.EntryIds.{Stands}
use Rattle.core_sig.specs.declared.entry_ids.ConstructorId.{ConstructorId}
use Rattle.core_sig.specs.declared.entry_ids.EntryId.{EntryId}
use Rattle.core_sig.specs.declared.entry_ids.EntryIds.{EntryIds}
use Rattle.kernel_check.specs.Symbols.{symbol_type}
use Rattle.kernel_check.specs.declared.type_id.TypeId.{TypeId}
use Rattle.kernel_check.specs.declared.type_id.TypeId.TheVariants.{Of, TooHigh, Unknown}

module _ {I : Type 0} where
  -- the id of a type that is given, which has one unless it is too high
  abbrev pub known_type : Option I → TypeId I
  known_type (Some id) = Of id
  known_type None = TooHigh

  abbrev pub entry_type : Option (EntryId I) → TypeId I
  entry_type (Some id) = known_type id.ty
  entry_type None = Unknown

  -- an entry with a body is a definition
  abbrev pub definition_type : Option (EntryId I) → TypeId I
  definition_type (Some id) = cond (is_some id.body) (known_type id.ty) Unknown
  definition_type None = Unknown

  abbrev pub constructor_id_type : Option (ConstructorId I) → TypeId I
  constructor_id_type (Some id) = known_type id.ty
  constructor_id_type None = Unknown

  abbrev pub constructor_type : Option (EntryId I) → ℕ → TypeId I
  constructor_type (Some id) number = constructor_id_type (slice_get id.cons.items number)
  constructor_type None number = Unknown

  -- of the entry at a place, where there is one
  abbrev pub instance_type : EntryIds I → Option ℕ → TypeId I
  instance_type ids (Some at) = entry_type (slice_get ids.entries.items at)
  instance_type ids None = Unknown

  -- the id is live and stands for the type that is meant; or that type is too high; or none is meant
  abbrev pub IsTypeId : Held I → TypeId I → Option Term → Type 0
  IsTypeId held (Of id) meant = IsTrue (held.live id) × (meant ≡ Some (held.tree id))
  IsTypeId held TooHigh meant = (t : Term) × ((meant ≡ Some t) × (2000 < height t))
  IsTypeId held Unknown meant = meant ≡ None

  -- the id of the symbol's type is found, in each store in which the ids stand for the entries
  abbrev pub FindsType : Signature → EntryIds I → Term → TypeId I → Type 0
  FindsType S ids symbol found = (held : Held I) → Stands held S.entries ids → IsTypeId held found (symbol_type S symbol)
