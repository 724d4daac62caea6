-- Names of a signature by which its symbols are distinguished in core text.
use Rattle.std.specs.Prelude.{◌≡◌, ◌≢◌, ℕ, ◌<◌, ◌==◌, Bool, true, false, List, [], length, codes, bytes_eq, All, AllPairs}
use Rattle.std.specs.List.{list_any}
use Rattle.theory.specs.Terms.{Term, Const, Fam, Con, Elim, AxiomK, top}
use Rattle.theory.specs.Families.{Family}
use Rattle.theory.specs.Signatures.{Entry, FamilyOf, Definition, Signature, IsEntryAt, names_of, names}
use Rattle.theory.specs.WellFormed.{pushed}
use Rattle.theory.specs.Prelude.{prelude}
use Rattle.core_text.specs.DeclaredNames.{is_eliminator_name, is_axiom_k_name}
use Rattle.core_text.specs.NameRuns.{are_name_chars}
use Rattle.core_text.specs.ReadBack.{IsSpelled}
use Rattle.core_text.specs.SymbolLookup.{symbol}
use Rattle.core_text.specs.SymbolNames.{name_at, constructor_name_at, eliminator_name, axiom_k_name}

-- A readable name has characters that can be in a name, and is neither of the two words that begin a term otherwise. It is not
-- written as an eliminator of a family whose name holds no `!`, nor as K.
pub record IsReadableName (name : List ℕ) : Type 0 where
  pub chars : are_name_chars name ≡ true
  pub some : 0 < length name
  pub no_sort : bytes_eq name (codes "Type") ≡ false
  pub no_let : bytes_eq name (codes "let") ≡ false
  pub no_eliminator : is_eliminator_name name ≡ false
  pub no_axiom_k : is_axiom_k_name name ≡ false

-- the name of a family holds no `!`
abbrev pub HasReadableFamily : Entry → Type 0
HasReadableFamily (FamilyOf f) = list_any (λ b. b == 33) f.name ≡ false
HasReadableFamily _ = Unit {0}

-- All names are readable, and those of families hold no `!`. A file may declare `a!b!elim.3`: beside a family `a!b` that name
-- would stand for the definition, and the eliminator would have no text of its own.
pub record HasReadableNames (S : Signature) : Type 0 where
  pub readable : All IsReadableName (names S)
  pub families : All HasReadableFamily S.entries

-- Each symbol of the signature is looked up by its name, which ends before the bytes that follow.
pub record HasSpelledNames (S : Signature) : Type 0 where
  pub constants : (n : ℕ) (name : List ℕ) (type body : Term) → IsEntryAt S n (Definition name type body) → IsSpelled (symbol S []) (name_at S n) (Const n)
  pub families : (n : ℕ) (f : Family) → IsEntryAt S n (FamilyOf f) → IsSpelled (symbol S []) (name_at S n) (Fam n)
  pub constructors : (n c : ℕ) (f : Family) → IsEntryAt S n (FamilyOf f) → c < length f.constructors → IsSpelled (symbol S []) (constructor_name_at S n c) (Con n c)
  pub eliminators : (n m : ℕ) (f : Family) → IsEntryAt S n (FamilyOf f) → m < top → IsSpelled (symbol S []) (eliminator_name (name_at S n) m) (Elim n m)
  pub axiom_k : (i m : ℕ) → i < top → m < top → IsSpelled (symbol S []) (axiom_k_name i m) (AxiomK i m)

-- Symbols are known by their names where these are readable and all different.
abbrev pub NamesAreSpelled : Type 0
NamesAreSpelled = (S : Signature) → AllPairs (λ x y. x ≢ y) (names S) → HasReadableNames S → HasSpelledNames S

-- Names stay readable with an entry more.
abbrev pub NamesStayReadable : Type 0
NamesStayReadable = (S : Signature) (e : Entry) → HasReadableNames S → All IsReadableName (names_of e) → HasReadableFamily e → HasReadableNames (pushed S e)

-- The names of the prelude are readable.
abbrev pub PreludeHasReadableNames : Type 0
PreludeHasReadableNames = (k : Bool) → HasReadableNames (prelude k)
