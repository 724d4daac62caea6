-- The parser's steps: one token, and the end of the file.
use Rattle.std.specs.Prelude.{◌≡◌, ℕ, List, [], ◌∷◌, ◌++◌, map, Option, Some, None, Result, Ok, Err}
use Rattle.core_terms.specs.Answers.{GivesUnless}
use Rattle.surface_syntax.specs.Trees as tree
use Rattle.surface_syntax.specs.Machine as machine
use Rattle.surface_syntax.specs.TreeMeanings.{decl_of}
use Rattle.surface_syntax.specs.StateMeanings.{state_of}
use Rattle.surface_syntax.specs.declared.halt.Halt.{Halt}
use Rattle.surface_syntax.specs.declared.halt.Halt.TheVariants as halt
use Rattle.surface_syntax.specs.declared.parser.Reading.{Reading}
use Rattle.surface_syntax.specs.declared.stop.SyntaxStop.{SyntaxStop}
use Rattle.surface_syntax.specs.declared.stop.SyntaxStop.TheVariants.{Memory, Nested, Syntax}

-- the refusals that nothing rules out: only out of memory
abbrev pub IsUnforeseen : Halt → Type 0
IsUnforeseen e = e ≡ halt.Memory

-- the answer stands for the one that is meant, unless memory runs out
abbrev pub Halts : {A B : Type 0} → (A → B) → Result A Halt → Result B Halt → Type 0
Halts f result meant = GivesUnless IsUnforeseen f result meant

-- the offset of a halt, where so many tokens are left
abbrev pub stop_at : (ℕ → ℕ) → ℕ → Halt → SyntaxStop
stop_at at n halt.Stuck = Syntax (at n)
stop_at at n (halt.Over i) = Nested (at i)
stop_at at n halt.Memory = Memory

-- the declarations so far, and what is awaited
pub record So_far : Type 0 where
  pub decls : List tree.Decl
  pub state : machine.State

abbrev pub reading_of : Reading → So_far
reading_of r = record { decls = map decl_of r.decls; state = state_of r.state.value }

-- perhaps one more declaration
abbrev pub with_whole : List tree.Decl → Option tree.Decl → List tree.Decl
with_whole ds None = ds
with_whole ds (Some d) = ds ++ d ∷ []

-- the reading after the outcome of a token
abbrev pub taken : List tree.Decl → machine.Outcome → Result So_far Halt
taken ds (machine.Goes o s) = Ok (record { decls = with_whole ds o; state = s })
taken ds (machine.Ends o) = Err halt.Stuck
taken ds machine.Stuck = Err halt.Stuck
taken ds (machine.Over n) = Err (halt.Over n)

-- the declarations after the outcome of the end of the file
abbrev pub finished : List tree.Decl → machine.Outcome → Result (List tree.Decl) Halt
finished ds (machine.Goes o s) = Err halt.Stuck
finished ds (machine.Ends o) = Ok (with_whole ds o)
finished ds machine.Stuck = Err halt.Stuck
finished ds (machine.Over n) = Err (halt.Over n)
