-- What is read from a core file can enter.
use Rattle.std.proofs.Common.{[], length}
use Rattle.theory.specs.Signatures.{Signature}
use Rattle.core_sig.specs.Raw.{RawFamily}
use Rattle.core_text.specs.RawEntries.{RawEntry, RawFamilyOf, RawEliminator, RawAxiomK, RawDefinition}
use Rattle.core_text.specs.ReadLaws.{IsReadEntry}
use Rattle.core_text.specs.Spellings.{IsEntryOver}
use Rattle.core_text.proofs.NewNames.{new-unknown}
use Rattle.core_text.proofs.ScopedOver.{scoped-term, scoped-types, scoped-constructors}
use Rattle.family_check.specs.Families.{family_without}
use Rattle.family_check.specs.Scopes.{IsScopedRaw}
use Rattle.elab_session.specs.Entering.{CanEnter}

scoped-raw : (S : Signature) (raw : RawFamily) → IsEntryOver S (RawFamilyOf raw) → IsScopedRaw S raw
scoped-raw S raw is = record {
  parameters = scoped-types S 0 raw.parameters is.parameters;
  type = scoped-term S (length raw.parameters) raw.type is.type;
  constructors = scoped-constructors S (family_without raw [] 0) raw.name (length raw.parameters) raw.constructors [] is.constructors;
}

pub can-enter : (S : Signature) (raw : RawEntry) → IsReadEntry S raw → CanEnter S raw
can-enter S (RawFamilyOf raw) is = (scoped-raw S raw is.0, new-unknown S [] [] raw.name is.0.name)
can-enter S (RawEliminator n m) is = is.0.0
can-enter S (RawAxiomK i m) is = is.0.0
can-enter S (RawDefinition name type body) is = (scoped-term S 0 type is.0.1, scoped-term S 0 body is.0.2)
