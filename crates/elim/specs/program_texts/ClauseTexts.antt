-- The lines of the clauses of a function that is accepted.
use Rattle.std.specs.Prelude.{ℕ, ◌+◌, List, [], ◌∷◌, ◌++◌, map, codes, decimal}
use Rattle.theory.specs.Terms.{Term}
use Rattle.theory.specs.Telescopes.{Telescope}
use Rattle.theory.specs.Signatures.{Signature}
use Rattle.core_text.specs.SymbolNames.{name_at}
use Rattle.core_text.specs.TermText.{spaced}
use Rattle.clause_reports.specs.Reports.{Line, Definitional, Proved, Shadowed, Absurd}
use Rattle.core_text.specs.ContextText.{context_text}
use Rattle.clause_reports.specs.elaboration.Functions.{ClauseLine}
use Rattle.elim.specs.program_texts.Lines.{text_of}

-- a context and terms over it, each after a space
abbrev pub vector_text : Signature → Telescope → List Term → List ℕ
vector_text S context terms = context_text S context ++ spaced S terms

-- The end of a clause's line. Earlier clauses are counted from 1.
abbrev pub line_text : Signature → Line → List ℕ
line_text S Definitional = codes "definitional"
line_text S (Proved n) = codes "proved " ++ name_at S n
line_text S (Shadowed earlier context vector leaves) =
    codes "shadowed " ++ decimal (earlier + 1) ++ codes " at " ++ vector_text S context vector
line_text S Absurd = codes "absurd"

-- the clause: its function or helper, and its number
abbrev pub clause_line : Signature → ClauseLine → List ℕ
clause_line S c = codes "# clause " ++ c.function ++ codes " " ++ decimal c.clause ++ codes " " ++ line_text S c.line

abbrev pub leaf_line : Signature → Telescope × List Term → List ℕ
leaf_line S leaf = codes "# leaf " ++ vector_text S leaf.0 leaf.1

-- the leaves of a clause that is shadowed
abbrev pub leaf_lines : Signature → Line → List (List ℕ)
leaf_lines S (Shadowed earlier context vector leaves) = map (leaf_line S) leaves
leaf_lines S line = []

-- the line of a clause, followed by those of its leaves
unfoldable pub with_leaves : Signature → ClauseLine → List (List ℕ)
with_leaves S c = clause_line S c ∷ leaf_lines S c.line

-- the lines of clauses over the signature that has the function
abbrev pub clause_lines : Signature → List ClauseLine → List (List ℕ)
clause_lines S [] = []
clause_lines S (c ∷ clauses) = with_leaves S c ++ clause_lines S clauses

-- the lines of the clauses as one text
abbrev pub clauses_text : Signature → List ClauseLine → List ℕ
clauses_text S [] = []
clauses_text S (c ∷ clauses) = text_of (with_leaves S c) ++ clauses_text S clauses
