-- All that follows from a line that accepts a declaration.
use Rattle.std.specs.Prelude.{◌≡◌, ℕ, false, List, ◌∷◌, ◌++◌}
use Rattle.elim.specs.elim_program.Acceptance.{IsAccepted}
use Rattle.elim.specs.elim_program.DefinedOutputs.{IsOutput}
use Rattle.elim.specs.elim_program.Headline.{IsShown}
use Rattle.elim.specs.program_texts.Lines.{lines_of, text_of}
use Rattle.elim.specs.elim_program.Outputs.{Output, accepted_line}
use Rattle.elim.specs.k_laws.Lines.{LinesLack}
use Rattle.elim.specs.headline.NewEntries.{AreNewEntries}
use Rattle.elim.specs.headline.SamePlans.{HasSamePlan}
use Rattle.elim.specs.headline.program_laws.CoreFiles.{IsCoreFile}
use Rattle.elim.specs.headline.program_laws.WithoutK.{AreWithoutK}
use Rattle.elim.specs.headline.verified_laws.AcceptedLines.{IsReported}

-- The headline and the elaborator speak of the same declaration of the source file, over the same entries, with the same signature
-- after it, the same clauses and the same equations, and of the same plan of a function.
pub record IsOfTheSame (words : List (List ℕ)) (bytes : List ℕ) (above : List (List ℕ)) (name : List ℕ) (shown : IsShown words bytes above name)
    (accepted : IsAccepted words bytes above name) : Type 0 where
  pub k : shown.k ≡ accepted.command.k
  pub decls : shown.decls ≡ accepted.decls
  pub front : shown.front ≡ accepted.front
  pub declaration : shown.declaration ≡ accepted.declaration
  pub before : shown.before ≡ accepted.session.signature
  pub after : shown.after ≡ accepted.accepted.signature
  pub clauses : shown.clauses ≡ accepted.accepted.lines
  pub equations : shown.equations ≡ accepted.accepted.equations
  pub plan : HasSamePlan shown.before name shown.after shown.clauses shown.equations shown.declaration shown.written accepted.session accepted.accepted
      accepted.declaration accepted.written

-- The headline, and what more is known of the same declaration.
-- `core_file`: the lines above are a core file. What is read from it, entry by entry up to its end, is the signature after the
-- declaration, except for the levels that a family keeps.
-- `without_k`: where the prelude does not have axiom K, no line above is that of an instance of K, and no entry and no line of a clause
-- holds K.
-- `accepted`: the elaborator accepts the declaration with these clauses; the leaves of each clause that is shadowed are those of the tree
-- in the function's plan.
-- `reported`: the line of each clause is the clause's report in this plan.
-- `entries`: each entry that a function or a decision of equality adds is the one that its name stands for, with the type and the term that are written for this name.
pub record IsFullyShown (words : List (List ℕ)) (bytes : List ℕ) (above : List (List ℕ)) (name : List ℕ) : Type 0 where
  pub shown : IsShown words bytes above name
  pub core_file : IsCoreFile shown.k (text_of above) shown.after
  pub without_k : shown.k ≡ false → AreWithoutK above shown.after × LinesLack shown.clauses
  pub accepted : IsAccepted words bytes above name
  pub same : IsOfTheSame words bytes above name shown accepted
  pub reported : IsReported accepted.session accepted.declaration accepted.accepted accepted.written
  pub entries : AreNewEntries accepted.session accepted.declaration accepted.accepted accepted.written

-- if a whole line of the text says that a declaration is accepted, the lines above show it in full
abbrev pub IsFullHeadline : List (List ℕ) → List ℕ → List ℕ → Type 0
IsFullHeadline words bytes text =
    (above below : List (List ℕ)) (name : List ℕ) → lines_of text ≡ above ++ accepted_line name ∷ below → IsFullyShown words bytes above name

-- each output that is defined has the full headline, and so has each front of it
abbrev pub FullHeadline : Type 0
FullHeadline =
    (words : List (List ℕ)) (bytes : List ℕ) (out : Output) → IsOutput words bytes out → (text rest : List ℕ) → text_of out.lines ≡ text ++ rest → IsFullHeadline words bytes text

-- each declaration that the elaborator accepts is shown by the lines above it
abbrev pub AcceptedIsTheShown : Type 0
AcceptedIsTheShown =
    (words : List (List ℕ)) (bytes : List ℕ) (above : List (List ℕ)) (name : List ℕ) (accepted : IsAccepted words bytes above name)
    → (shown : IsShown words bytes above name) × IsOfTheSame words bytes above name shown accepted
