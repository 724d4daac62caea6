-- The meanings of the code's entries.
use Rattle.core_terms.specs.Meanings.{tree_of}
use Rattle.core_sig.specs.Raw.{raw_of}
use Rattle.core_text.specs.RawEntries as pure
use Rattle.elab_session.specs.declared.raw_entry.Definition.{Definition}
use Rattle.elab_session.specs.declared.raw_entry.RawEntry.{RawEntry}
use Rattle.elab_session.specs.declared.raw_entry.RawEntry.TheVariants.{Family, Elim, AxiomK, Def}

abbrev pub definition_of : Definition → pure.RawEntry
definition_of d = pure.RawDefinition d.name (tree_of d.ty) (tree_of d.body)

abbrev pub raw_entry_of : RawEntry → pure.RawEntry
raw_entry_of (Family raw) = pure.RawFamilyOf (raw_of raw)
raw_entry_of (Elim fam m) = pure.RawEliminator fam m
raw_entry_of (AxiomK i m) = pure.RawAxiomK i m
raw_entry_of (Def d) = definition_of d
