-- Lines by their spelling: their names and numbers may be there. Neither the height of a line's terms nor the question whether a family
-- shows a record belongs to the spelling.
use Rattle.std.specs.Prelude.{◌≡◌, ◌⊎◌, ℕ, ◌<◌, ◌≤◌, Bool, true, List, length}
use Rattle.theory.specs.Terms.{Term, Var, Sort, Pi, Lam, App, Let, Const, Fam, Con, Elim, AxiomK, top}
use Rattle.theory.specs.Signatures.{Signature}
use Rattle.theory.specs.SignatureScopes.{IsConstantNumber, IsFamilyNumber, IsConstructorNumber}
use Rattle.core_sig.specs.Raw.{RawConstructor}
use Rattle.core_text.specs.DeclaredNames.{shape_of, may_declare}
use Rattle.core_text.specs.EntryParts.{IsEntryWith}
use Rattle.core_text.specs.EntryText.{line_text}
use Rattle.core_text.specs.NameRuns.{are_name_chars}
use Rattle.core_text.specs.RawEntries.{RawEntry, RawFamilyOf}
use Rattle.core_text.specs.SymbolNames.{with_name}
use Rattle.core_text.specs.declared.declared_names.Shape.TheVariants.{Declarable}

-- ---- the line that says it after other entries

-- The line that says `raw` after the entries S. That of a family names the family itself.
abbrev pub raw_line : Signature → RawEntry → List ℕ
raw_line S (RawFamilyOf raw) = line_text (with_name S raw.name) (RawFamilyOf raw)
raw_line S raw = line_text S raw

-- ---- names and numbers that may be in it

-- Each symbol of the term is one of the signature, or where `own` says so the family after its entries, and levels are
-- those that can be written.
abbrev pub HasSymbols : Signature → Bool → Term → Type 0
HasSymbols T own (Var n) = Unit {0}
HasSymbols T own (Sort i) = i ≤ top
HasSymbols T own (Pi a b) = HasSymbols T own a × HasSymbols T own b
HasSymbols T own (Lam a b) = HasSymbols T own a × HasSymbols T own b
HasSymbols T own (App f a) = HasSymbols T own f × HasSymbols T own a
HasSymbols T own (Let a t b) = HasSymbols T own a × HasSymbols T own t × HasSymbols T own b
HasSymbols T own (Const n) = IsConstantNumber T n
HasSymbols T own (Fam n) = IsFamilyNumber T n ⊎ ((own ≡ true) × (n ≡ length T.entries))
HasSymbols T own (Con n c) = IsConstructorNumber T n c
HasSymbols T own (Elim n m) = IsFamilyNumber T n × (m < top)
HasSymbols T own (AxiomK i m) = (i < top) × (m < top)

-- A name that may be declared there. `own` is the name of the family that the line declares, or nothing, and `found` has its
-- constructors so far.
pub record IsNewName (S : Signature) (own : List ℕ) (found : List RawConstructor) (name : List ℕ) : Type 0 where
  pub chars : are_name_chars name ≡ true
  pub shape : shape_of name ≡ Declarable
  pub may : may_declare S own found name ≡ true

-- a line that may follow the entries S
abbrev pub IsEntryOver : Signature → RawEntry → Type 0
IsEntryOver S raw = IsEntryWith (HasSymbols S) (IsNewName S) (IsFamilyNumber S) S raw
