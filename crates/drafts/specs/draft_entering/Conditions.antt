-- The conditions of a signature and a draft under which the draft may enter.
use Rattle.std.specs.Prelude.{◌≡◌, ◌⊎◌, ◌≤◌, ℕ, ◌-◌, nat_lt, false, Some, None, List, [], ◌++◌, All, get_or, length}
use Rattle.theory.specs.Families.{Family}
use Rattle.theory.specs.Terms.{Term, Pi, Lam, App, Let, Const, height}
use Rattle.theory.specs.Signatures.{Signature, Entry, FamilyOf, Definition}
use Rattle.core_terms.specs.Bounds.{most_height}
use Rattle.core_sig.specs.DraftScopes.{HasDraftEntries, NamesConstant}
use Rattle.core_sig.specs.Drafts.{Draft}
use Rattle.core_sig.specs.EntryTerms.{EachTerm}
use Rattle.core_sig.specs.Names.{find}
use Rattle.core_sig.specs.ScopedDrafts.{IsScopedDraft}
use Rattle.family_check.specs.Scopes.{HasPrelude, IsSettled}
use Rattle.clause_reports.specs.Generated.{Generated, generated_by}

-- the name is that of a definition
abbrev pub IsDefined : Signature → List ℕ → Type 0
IsDefined S name = NamesConstant S S name

-- a generated entry has this name
abbrev pub IsGeneratedName : Signature → List ℕ → Type 0
IsGeneratedName S name = (g : Generated) × (generated_by S name ≡ Some g)

-- Where the signature knows the name of a generated entry, the name is that of a definition there.
abbrev pub IsTabled : Signature → Type 0
IsTabled S = (name : List ℕ) → IsGeneratedName S name → (find S name ≡ None) ⊎ IsDefined S name

-- A signature that drafts may enter: it begins with the prelude, each entry is scoped over those before it and has a body, and the
-- names of generated entries are free for these.
pub record IsOpen (S : Signature) : Type 0 where
  pub settled : IsSettled S
  pub prelude : HasPrelude S
  pub tabled : IsTabled S

-- The name is that of a definition, or of an entry that can be generated.
abbrev pub IsEnterable : Signature → List ℕ → Type 0
IsEnterable S name = IsDefined S name ⊎ IsGeneratedName S name

abbrev pub IsDefinition : Entry → Type 0
IsDefinition (Definition name type body) = Unit {0}
IsDefinition e = ⊥

-- a draft that may enter: a definition, whose terms are scoped and not too high, and whose names all may enter
pub record IsEnterableDraft (S : Signature) (d : Draft) : Type 0 where
  pub definition : IsDefinition d.entry
  pub scoped : IsScopedDraft S d
  pub low : EachTerm (λ n t. height t ≤ most_height) d.entry
  pub names : All (IsEnterable S) d.names

abbrev pub IsNoFamily : Entry → Type 0
IsNoFamily e = (f : Family) → ¬ (e ≡ FamilyOf f)

-- T has the entries of S, and then others that are no families
pub record Extends (S T : Signature) : Type 0 where
  pub more : List Entry
  pub entries : T.entries ≡ S.entries ++ more
  pub has_k : T.has_k ≡ S.has_k
  pub plain : All IsNoFamily more

-- a term of a draft whose signature may be entered and whose names may enter
pub record IsEnterableTerm (S : Signature) (base : ℕ) (names : List (List ℕ)) (t : Term) : Type 0 where
  pub signature : IsOpen S
  pub enterable : All (IsEnterable S) names
  pub entries : HasDraftEntries S base (length names) t

-- the names that the term mentions are those of definitions
abbrev pub HasDefined : Signature → (base : ℕ) (names : List (List ℕ)) → Term → Type 0
HasDefined S base names (Pi a b) = HasDefined S base names a × HasDefined S base names b
HasDefined S base names (Lam a b) = HasDefined S base names a × HasDefined S base names b
HasDefined S base names (App f a) = HasDefined S base names f × HasDefined S base names a
HasDefined S base names (Let a t b) = HasDefined S base names a × HasDefined S base names t × HasDefined S base names b
HasDefined S base names (Const c) = nat_lt c base ≡ false → IsDefined S (get_or names (c - base) [])
HasDefined S base names _ = Unit {0}
