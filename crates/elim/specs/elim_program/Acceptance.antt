-- All that is known of an accepted declaration. The headline follows from it.
use Rattle.std.specs.Prelude.{◌≡◌, ℕ, List, [], ◌∷◌, ◌++◌, Some, Ok}
use Rattle.theory.specs.Signatures.{Signature, IsPrefix}
use Rattle.theory.specs.Prelude.{prelude}
use Rattle.surface_syntax.specs.Trees.{Decl}
use Rattle.elab_session.specs.Sessions.{IsReady}
use Rattle.function_session.specs.Declaring.{declared_in, new_session, with_declared}
use Rattle.function_session.specs.Elaborating.{Elaborated}
use Rattle.function_session.specs.Laws.{IsAsDeclared}
use Rattle.function_session.specs.Sessions.{Session}
use Rattle.elim.specs.declared.program_texts.words.Command.{Command}
use Rattle.elim.specs.elim_program.DefinedOutputs.{IsOutput}
use Rattle.elim.specs.elim_program.Headline.{IsShown, Shows, core_lines}
use Rattle.elim.specs.program_texts.Lines.{lines_of, text_of}
use Rattle.elim.specs.elim_program.Outputs.{Output, accepted_line, head_lines, lines_after, note_lines}
use Rattle.elim.specs.program_texts.Texts.{Gives}
use Rattle.elim.specs.program_texts.Words.{asked}

-- Declarations that are accepted one by one from a session on, and the session with them.
pub data Accepts : Session → List Decl → Session → Type 0 where
  end : (s : Session) → Accepts s [] s
  next : (s t : Session) (d : Decl) (ds : List Decl) (a : Elaborated) → declared_in s d ≡ Ok a → Accepts (with_declared s d a.signature) ds t → Accepts s (d ∷ ds) t

-- the lines of what is accepted over S, up to the one that says so: its entries, and then its clauses or the equations of its inductions
abbrev pub own_lines : Signature → Elaborated → List (List ℕ)
own_lines S a = lines_after S a.signature ++ note_lines a.signature a.lines a.equations

-- The words ask to compile, the bytes give the declarations, and those before this one are accepted one by one from the prelude on. The
-- elaborator accepts the declaration in the session that they come to, with as much fuel as the words give, and what is
-- accepted is as written. The signatures before it and with it are those that a session may have. The lines `above` are the head
-- lines and show the entries after the prelude; the last of them are those of the declaration.
pub record IsAccepted (words : List (List ℕ)) (bytes : List ℕ) (above : List (List ℕ)) (name : List ℕ) : Type 0 where
  pub command : Command
  pub asked_for : asked words ≡ Some command
  pub decls : List Decl
  pub text : Gives bytes (Ok decls)
  pub front : List Decl
  pub declaration : Decl
  pub back : List Decl
  pub in_text : decls ≡ front ++ declaration ∷ back
  pub session : Session
  pub reached : Accepts (new_session command.k command.fuel) front session
  pub ready : IsReady session.signature
  pub has_k : session.signature.has_k ≡ command.k
  pub accepted : Elaborated
  pub elaborated : declared_in session declaration ≡ Ok accepted
  pub written : IsAsDeclared session declaration accepted
  pub named : accepted.name ≡ name
  pub longer : IsPrefix session.signature accepted.signature
  pub whole : IsReady accepted.signature
  pub lines : List (List ℕ)
  pub heads : above ≡ head_lines command.k ++ lines
  pub earlier : List (List ℕ)
  pub ends : lines ≡ earlier ++ own_lines session.signature accepted
  pub so_far : Shows (prelude command.k) session.signature (core_lines earlier)
  pub shown : Shows (prelude command.k) accepted.signature (core_lines lines)

-- if a whole line of the text says that a declaration is accepted, it is accepted as `IsAccepted` says
abbrev pub SaysAccepted : List (List ℕ) → List ℕ → List ℕ → Type 0
SaysAccepted words bytes text =
    (above below : List (List ℕ)) (name : List ℕ) → lines_of text ≡ above ++ accepted_line name ∷ below → IsAccepted words bytes above name

-- each line that accepts a declaration is right, in each output that is defined and in each front of it
abbrev pub Acceptance : Type 0
Acceptance =
    (words : List (List ℕ)) (bytes : List ℕ) (out : Output) → IsOutput words bytes out → (text rest : List ℕ) → text_of out.lines ≡ text ++ rest → SaysAccepted words bytes text

-- the headline says of what is accepted that it is shown
abbrev pub AcceptedIsShown : Type 0
AcceptedIsShown = (words : List (List ℕ)) (bytes : List ℕ) (above : List (List ℕ)) (name : List ℕ) → IsAccepted words bytes above name → IsShown words bytes above name
