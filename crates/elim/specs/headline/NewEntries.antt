-- The entries that an accepted function, a decision of equality, or families that refer to each other add.
use Rattle.std.specs.Prelude.{◌≡◌, ◌≤◌, ℕ, ◌+◌, Some, Ok, List, [], ◌∷◌, Contains, length, map}
use Rattle.theory.specs.Terms.{Term}
use Rattle.theory.specs.Signatures.{AxiomKAt, Definition, EliminatorAt, Entry, IsEntryAt, Signature}
use Rattle.theory.specs.WellFormed.{first_entries}
use Rattle.surface_syntax.specs.Trees as surf
use Rattle.surface_syntax.specs.Trees.{Decl}
use Rattle.core_sig.specs.Drafts.{Draft}
use Rattle.core_sig.specs.Settling.{renumbered_entry, settled_number}
use Rattle.clause_reports.specs.Generated.{Generated, generated_by, generated_draft}
use Rattle.clause_reports.specs.Reports.{Proved}
use Rattle.clause_reports.specs.elaboration.Functions.{ClauseLine}
use Rattle.function_session.specs.Elaborating.{Elaborated}
use Rattle.function_session.specs.Laws.{IsAsDeclared}
use Rattle.function_session.specs.Sessions.{Session}

-- the entry that a draft stands for after those of B, in which its names have their numbers
abbrev pub drafted_entry : (B : Signature) → Draft → Entry
drafted_entry B d = renumbered_entry (settled_number B d.base d.names) d.entry

-- An entry after those of B. It is one of the drafts of the declaration; or it is generated under a name, for a family of B or for the identity; or
-- it proves a clause's equation, by the clause's line, which says of what type it is; or it is an instance.
pub data IsNewEntry (B : Signature) (drafts : List Draft) (lines : List ClauseLine) : Entry → Type 0 where
  drafted : (d : Draft) → Contains drafts d → IsNewEntry B drafts lines (drafted_entry B d)
  generated : (name : List ℕ) (g : Generated) (base : ℕ) (d : Draft) → generated_by B name ≡ Some g → generated_draft base g ≡ Ok d
      → IsNewEntry B drafts lines (drafted_entry B d)
  proof : (name : List ℕ) (type body : Term) → Contains (map (λ l. l.line) lines) (Proved (length B.entries))
      → IsNewEntry B drafts lines (Definition name type body)
  eliminator : (n m : ℕ) → IsNewEntry B drafts lines (EliminatorAt n m)
  axiom_k : (i m : ℕ) → IsNewEntry B drafts lines (AxiomKAt i m)

-- Each entry that a function adds is one of these over the entries before it, by the drafts and the lines of the function, and so is each
-- that a decision of equality adds, by its one draft. Families that refer to each other add what they are packed into, and then such entries,
-- by the drafts of the inductions. A definition or a family adds itself alone.
abbrev pub AreNewEntries : (s : Session) (d : Decl) (a : Elaborated) → IsAsDeclared s d a → Type 0
AreNewEntries s (surf.Fun x ty clauses) a w =
    (n : ℕ) (e : Entry) → length s.signature.entries ≤ n → IsEntryAt a.signature n e → IsNewEntry (first_entries a.signature n) w.drafts a.lines e
AreNewEntries s (surf.Decide x family into) a w =
    (n : ℕ) (e : Entry) → length s.signature.entries ≤ n → IsEntryAt a.signature n e → IsNewEntry (first_entries a.signature n) (w.draft ∷ []) a.lines e
AreNewEntries s (surf.Mutual params members family tag tags) a w =
    (n : ℕ) (e : Entry) → length s.signature.entries + 2 + length w.packed.members ≤ n → IsEntryAt a.signature n e
    → IsNewEntry (first_entries a.signature n) w.drafts a.lines e
AreNewEntries s d a w = Unit {0}
