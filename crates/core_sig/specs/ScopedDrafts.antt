-- Drafts whose terms are scoped.
use Rattle.std.specs.Prelude.{length}
use Rattle.theory.specs.Signatures.{Signature}
use Rattle.core_sig.specs.DraftScopes.{IsDraftTerm}
use Rattle.core_sig.specs.Drafts.{Draft}
use Rattle.core_sig.specs.EntryTerms.{EachTerm}

-- each term of the draft names entries of T and the draft's names, and has no variables but those that it is over
abbrev pub IsScopedDraft : Signature → Draft → Type 0
IsScopedDraft T d = EachTerm (IsDraftTerm T d.base (length d.names)) d.entry
