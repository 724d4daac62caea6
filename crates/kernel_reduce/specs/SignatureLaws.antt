-- Scoping: of well-formed signatures, the prelude, one entry more, and the first entries; and of terms with a derivation.
use Rattle.std.specs.Prelude.{◌≢◌, ℕ, Bool, List, length}
use Rattle.theory.specs.Terms.{Term, Const}
use Rattle.theory.specs.Telescopes.{Context}
use Rattle.theory.specs.Prelude.{prelude}
use Rattle.theory.specs.Signatures.{Entry, Definition, Signature, IsEntryAt}
use Rattle.theory.specs.SignatureScopes.{IsScoped, IsScopedContext, IsScopedEntry, IsScopedSignature}
use Rattle.theory.specs.Typing.{IsContext, Has}
use Rattle.theory.specs.WellFormed.{pushed, first_entries, IsWellFormed, IsWellFormedSoFar}

-- no entry is provisional
abbrev pub IsWhole : Signature → Type 0
IsWhole S = (n : ℕ) (name : List ℕ) (type body : Term) → IsEntryAt S n (Definition name type body) → body ≢ Const n

abbrev pub PreludeScoped : Type 0
PreludeScoped = (k : Bool) → IsScopedSignature (prelude k)

-- an entry that is scoped after the others
abbrev pub PushedScoped : Type 0
PushedScoped =
    (S : Signature) (e : Entry) → IsScopedSignature S → IsWhole S → IsScopedEntry (pushed S e) (length S.entries) e →
    IsScopedSignature (pushed S e)

abbrev pub FirstEntriesScoped : Type 0
FirstEntriesScoped = (S : Signature) (n : ℕ) → IsScopedSignature S → IsScopedSignature (first_entries S n)

abbrev pub WellFormedScoped : Type 0
WellFormedScoped = (S : Signature) → IsWellFormed S → IsScopedSignature S

abbrev pub WellFormedWhole : Type 0
WellFormedWhole = (S : Signature) → IsWellFormed S → IsWhole S

-- also with a provisional entry at its end
abbrev pub SoFarScoped : Type 0
SoFarScoped = (S : Signature) → IsWellFormedSoFar S → IsScopedSignature S

-- a term that has a type, and a well-formed context
abbrev pub TypedTermScoped : Type 0
TypedTermScoped = (S : Signature) (G : Context) (t a : Term) → Has S G t a → IsScoped S (length G) t

abbrev pub TypedContextScoped : Type 0
TypedContextScoped = (S : Signature) (G : Context) → IsContext S G → IsScopedContext S G
