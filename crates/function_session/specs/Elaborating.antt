-- One declaration over a signature, also a function by clauses: its names, then the checker's answer for each written part, with one count
-- of units that starts at the fuel. The first refusal in this order is the answer.
use Rattle.std.specs.Prelude.{ℕ, List, [], Result, Ok, Err}
use Rattle.theory.specs.Signatures.{Signature}
use Rattle.surface_syntax.specs.Trees as surf
use Rattle.surface_syntax.specs.declared.tree.Word.{Word}
use Rattle.resolve.specs.Functions as function
use Rattle.resolve.specs.declared.stop.ResolveStop.{ResolveStop}
use Rattle.clause_reports.specs.elaboration.Functions.{ClauseLine, Lines}
use Rattle.clause_reports.specs.elaboration.Refusals as function_refusals
use Rattle.function_session.specs.function_lines.Opened.{function_in}
use Rattle.elab_session.specs.Declaring.{Declared, IsPlain, accepted_as, declare_of}
use Rattle.elab_session.specs.Refusals.{unresolved}
use Rattle.elab_session.specs.declared.refusal.Refusal.{Refusal}
use Rattle.function_session.specs.Refusals.{refused_function}

-- the name of an accepted declaration, the lines of a function's clauses, those of the equations of families that refer
-- to each other, each with the names of a member and of one of its constructors, and the signature that has it
pub record Elaborated : Type 0 where
  pub name : List ℕ
  pub lines : List ClauseLine
  pub equations : List (List ℕ × List ℕ)
  pub signature : Signature

abbrev pub with_lines : Declared → List ClauseLine → Elaborated
with_lines d lines = record { name = d.name; lines = lines; equations = []; signature = d.signature }

abbrev pub declared_of : Elaborated → Declared
declared_of a = accepted_as a.name a.signature

-- a definition or a family has no lines
abbrev pub without_lines : Result Declared Refusal → Result Elaborated Refusal
without_lines (Ok d) = Ok (with_lines d [])
without_lines (Err e) = Err e

-- the function that is accepted under the name x, or its refusal
abbrev pub on_lines : Word → (fuel : ℕ) → Result Lines function_refusals.Refusal → Result Elaborated Refusal
on_lines x fuel (Ok l) = Ok (with_lines (accepted_as x.text l.signature) l.lines)
on_lines x fuel (Err e) = Err (refused_function fuel e)

-- a function that is resolved enters, with a line for each of its clauses
abbrev pub enter_function : Signature → (fuel : ℕ) → Word → function.Function → Result Elaborated Refusal
enter_function S fuel x f = on_lines x fuel (function_in S f fuel).0

-- goes on with the resolved function
abbrev pub on_function : Result function.Function ResolveStop → (function.Function → Result Elaborated Refusal) → Result Elaborated Refusal
on_function (Ok f) go = go f
on_function (Err e) go = Err (unresolved e)

abbrev pub elaborate_function : Signature → (fuel : ℕ) → Word → surf.Surf → surf.Clauses → Result Elaborated Refusal
elaborate_function S fuel x ty clauses = on_function (function.function S x ty clauses) (enter_function S fuel x)

-- a function, a definition or a family
abbrev pub IsElaborated : surf.Decl → Type 0
IsElaborated (surf.Fun x ty clauses) = Unit {0}
IsElaborated d = IsPlain d

-- such a declaration; no other one is asked for
abbrev pub elaborate_of : Signature → (fuel : ℕ) → surf.Decl → Result Elaborated Refusal
elaborate_of S fuel (surf.Fun x ty clauses) = elaborate_function S fuel x ty clauses
elaborate_of S fuel d = without_lines (declare_of S fuel d)
