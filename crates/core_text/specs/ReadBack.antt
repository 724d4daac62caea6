-- Terms and entries that are printed are read back: the conditions under which names end before the bytes that follow, and the laws.
use Rattle.std.specs.Prelude.{◌≡◌, ℕ, ◌+◌, ◌<◌, ◌≤◌, ◌^◌, ◌==◌, true, false, cond, List, [], ◌++◌, length, codes, bytes_eq, Option, Some, Ok}
use Rattle.theory.specs.Terms.{Term, Var, Sort, Pi, Lam, App, Let, Const, Fam, Con, Elim, AxiomK, free_of, height, top}
use Rattle.theory.specs.Signatures.{Signature, Entry}
use Rattle.core_terms.specs.Bounds.{most_height}
use Rattle.core_sig.specs.Names.{find}
use Rattle.core_sig.specs.Raw.{RawConstructor}
use Rattle.core_text.specs.DeclaredNames.{new_name}
use Rattle.core_text.specs.EntryParts.{IsEntryWith, HasLowTerms}
use Rattle.core_text.specs.EntryReading.{shows_entry, entry_from}
use Rattle.core_text.specs.EntryText.{entry_line}
use Rattle.core_text.specs.NameRuns.{run_len}
use Rattle.core_text.specs.RawEntries.{RawEntry, RawFamilyOf, entry_shown}
use Rattle.core_text.specs.Reading.{first, begins, is_digit}
use Rattle.core_text.specs.SymbolLookup.{symbol, found_symbol}
use Rattle.core_text.specs.SymbolNames.{name_at, constructor_name_at, eliminator_name, axiom_k_name}
use Rattle.core_text.specs.TermReading.{read_term}
use Rattle.core_text.specs.TermText.{term_text}

-- no name and no number goes on there
pub record Stops (rest : List ℕ) : Type 0 where
  pub run : run_len rest ≡ 0
  pub digit : is_digit (first rest) ≡ false

-- The name is what the term is written as and is looked up as the term. It is a whole run before whatever stops a name,
-- and no form of a term begins as it does.
pub record IsSpelled (look : List ℕ → Option Term) (name : List ℕ) (t : Term) : Type 0 where
  pub found : look name ≡ Some t
  pub run : (rest : List ℕ) → Stops rest → run_len (name ++ rest) ≡ length name
  pub no_sort : bytes_eq name (codes "Type") ≡ false
  pub no_let : (rest : List ℕ) → Stops rest → begins (codes "let ") (name ++ rest) ≡ false
  pub no_form : (rest : List ℕ) → (first (name ++ rest) == 40) ≡ false
  pub no_variable : (rest : List ℕ) → (first (name ++ rest) == 37) ≡ false
  pub no_function : (rest : List ℕ) → (first (name ++ rest) == 92) ≡ false
  pub no_arrow : (rest : List ℕ) → (first (name ++ rest) == 45) ≡ false

-- every symbol of the term is spelled so, and its levels and variables are numbers that can be written
abbrev pub AreSpelled : Signature → (List ℕ → Option Term) → Term → Type 0
AreSpelled S look (Var n) = n < 2 ^ 64
AreSpelled S look (Sort i) = i ≤ top
AreSpelled S look (Pi a b) = AreSpelled S look a × AreSpelled S look b
AreSpelled S look (Lam a b) = AreSpelled S look a × AreSpelled S look b
AreSpelled S look (App f a) = AreSpelled S look f × AreSpelled S look a
AreSpelled S look (Let a t b) = AreSpelled S look a × AreSpelled S look t × AreSpelled S look b
AreSpelled S look (Const n) = IsSpelled look (name_at S n) (Const n)
AreSpelled S look (Fam n) = IsSpelled look (name_at S n) (Fam n)
AreSpelled S look (Con n c) = IsSpelled look (constructor_name_at S n c) (Con n c)
AreSpelled S look (Elim n m) = IsSpelled look (eliminator_name (name_at S n) m) (Elim n m)
AreSpelled S look (AxiomK i m) = IsSpelled look (axiom_k_name i m) (AxiomK i m)

-- A term that is written is read back under n binders and inside as many terms as leave it room, with what follows it.
abbrev pub TermsAreReadBack : Type 0
TermsAreReadBack =
    (S : Signature) (look : List ℕ → Option Term) (t : Term) (room n : ℕ) (rest : List ℕ) →
    AreSpelled S look t → free_of t ≤ n → height t ≤ room → height t ≤ most_height → Stops rest →
    read_term look room n (term_text S t ++ rest) ≡ Ok (t, rest)

-- ---- lines

-- a name that may be declared, whatever follows that goes on with no name
pub record MayDeclare (S : Signature) (own : List ℕ) (found : List RawConstructor) (name : List ℕ) : Type 0 where
  pub reads : (rest : List ℕ) → Stops rest → new_name S own found (name ++ rest) ≡ Ok (name, rest)
  pub no_brace : (rest : List ℕ) → (first (name ++ rest) == 125) ≡ false

-- the name of a family is a whole run that is found as the family
pub record IsFoundFamily (T : Signature) (name : List ℕ) (n : ℕ) : Type 0 where
  pub found : found_symbol T (find T name) ≡ Some (Fam n)
  pub run : (rest : List ℕ) → Stops rest → run_len (name ++ rest) ≡ length name

-- the name of the family that the line declares, or nothing
abbrev pub declared_family : RawEntry → List ℕ
declared_family (RawFamilyOf raw) = raw.name
declared_family _ = []

-- The line that says it, written over S, is spelled as it is read over T.
abbrev pub IsSpelledEntry : Signature → Signature → RawEntry → Type 0
IsSpelledEntry T S raw =
    IsEntryWith (λ own. AreSpelled S (symbol T (cond own (declared_family raw) []))) (MayDeclare T) (λ g. IsFoundFamily T (name_at S g) g) T raw

-- the conditions for an entry to be read over the entries T before it, where its line is written over S
pub record EntryReadsBack (T S : Signature) (e : Entry) : Type 0 where
  pub spelled : IsSpelledEntry T S (entry_shown (length T.entries) e)
  pub low : HasLowTerms (entry_shown (length T.entries) e)
  pub shown : shows_entry (length T.entries) (entry_shown (length T.entries) e) ≡ true

-- An entry that is written is read back over the entries before it, whatever follows, with the offset after its line.
abbrev pub EntriesAreReadBack : Type 0
EntriesAreReadBack =
    (T S : Signature) (e : Entry) (before rest : List ℕ) → EntryReadsBack T S e →
    entry_from T (before ++ (entry_line S (length T.entries) e ++ rest)) (length before)
    ≡ Ok (Some (entry_shown (length T.entries) e, length before + length (entry_line S (length T.entries) e)))
