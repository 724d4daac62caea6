-- The headline: a declaration that a line says is accepted is shown by the lines above it.
use Rattle.std.specs.Prelude.{◌≡◌, ◌≢◌, ◌==◌, ℕ, Bool, true, not, if◌then◌else◌, List, [], ◌∷◌, ◌++◌, All, Contains, IsTrue, codes}
use Rattle.theory.specs.Signatures.{Signature, IsPrefix}
use Rattle.theory.specs.Prelude.{prelude}
use Rattle.theory.specs.WellFormed.{IsWellFormed}
use Rattle.surface_syntax.specs.Trees.{Decl}
use Rattle.clause_reports.specs.elaboration.Functions.{ClauseLine}
use Rattle.function_session.specs.mutual_families.EquationLines.{MutualLine}
use Rattle.elim.specs.program_texts.Lines.{lines_of, text_of}
use Rattle.elim.specs.elim_program.DefinedOutputs.{IsOutput}
use Rattle.elim.specs.elim_program.Outputs.{Output, accepted_line, declared_name, head_lines, lines_after, note_lines}
use Rattle.elim.specs.elim_program.Reading.{IsRead}
use Rattle.elim.specs.elim_program.Written.{IsWritten}

-- a core line does not begin with `#`
abbrev pub is_core : List ℕ → Bool
is_core [] = true
is_core (c ∷ cs) = not (c == 35)

abbrev pub core_lines : List (List ℕ) → List (List ℕ)
core_lines [] = []
core_lines (line ∷ lines) = if is_core line then line ∷ core_lines lines else core_lines lines

-- The lines show the entries of a signature after those of P, declaration by declaration: each adds entries after those
-- before it, and shows them over the signature that has them.
pub data Shows (P : Signature) : Signature → List (List ℕ) → Type 0 where
  none : Shows P P []
  more : (S T : Signature) (lines : List (List ℕ)) → Shows P S lines → IsPrefix S T → Shows P T (lines ++ lines_after S T)

-- The declaration is the first one of its name in the file, and over the entries `before` it comes to what is written: the signature
-- `after` it, which is well formed, with one line for each clause of a function, and for each constructor of families that refer to each
-- other. The lines `above` are the head lines, then those that show the entries `before` from the prelude on, and last those of the
-- declaration: its entries, and its clauses or the equations of its inductions. The prelude has axiom K only where the words ask for it.
pub record IsShown (words : List (List ℕ)) (bytes : List ℕ) (above : List (List ℕ)) (name : List ℕ) : Type 0 where
  pub k : Bool
  pub asked_for : IsTrue k → Contains words (codes "--k")
  pub decls : List Decl
  pub text : IsRead bytes decls
  pub front : List Decl
  pub declaration : Decl
  pub back : List Decl
  pub in_text : decls ≡ front ++ declaration ∷ back
  pub first : All (λ d. declared_name d ≢ name) front
  pub before : Signature
  pub after : Signature
  pub clauses : List ClauseLine
  pub equations : List MutualLine
  pub written : IsWritten before declaration name after clauses equations
  pub longer : IsPrefix before after
  pub formed : IsWellFormed after
  pub earlier : List (List ℕ)
  pub shown : Shows (prelude k) before (core_lines earlier)
  pub lines : above ≡ head_lines k ++ (earlier ++ (lines_after before after ++ note_lines after clauses equations))

-- if a whole line of the text says that a declaration is accepted, the lines above show this declaration
abbrev pub IsHeadline : List (List ℕ) → List ℕ → List ℕ → Type 0
IsHeadline words bytes text =
    (above below : List (List ℕ)) (name : List ℕ) → lines_of text ≡ above ++ accepted_line name ∷ below → IsShown words bytes above name

-- the headline of each output that is defined
abbrev pub Headline : Type 0
Headline = (words : List (List ℕ)) (bytes : List ℕ) (out : Output) → IsOutput words bytes out → IsHeadline words bytes (text_of out.lines)
