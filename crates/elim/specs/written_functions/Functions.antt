-- The definition of an accepted function by clauses, without how it is made.
use Rattle.std.specs.Prelude.{◌≡◌, Ok, List, []}
use Rattle.theory.specs.Terms.{Term}
use Rattle.theory.specs.Signatures.{Definition, Signature, IsPrefix}
use Rattle.theory.specs.Typing.{HasSort}
use Rattle.theory.specs.WellFormed.{IsDefinition, pushed}
use Rattle.surface_syntax.specs.Trees as surf
use Rattle.surface_syntax.specs.declared.tree.Word.{Word}
use Rattle.clause_reports.specs.elaboration.Functions.{ClauseLine}
use Rattle.resolve.specs.Functions.{Function, function}
use Rattle.resolve.specs.Resolving.{resolve_term}
use Rattle.elim.specs.written_functions.Clauses.{AreLinesOf, AreValues, FunctionAt, IsStarted, parts_of, placed_from}

-- T has a function that is written by clauses, after the entries of S. Its type is the core term of the written one, and by
-- the typing rules over the entries of S has a sort. One of the entries is the function, a definition with the declared name and exactly
-- this type, by the rules over the entries before it. Each clause has one line, in the order of the clauses, and what the line says holds
-- of the clause.
pub record IsByClauses (S : Signature) (x : Word) (ty : surf.Surf) (clauses : surf.Clauses) (T : Signature) (lines : List ClauseLine) : Type 0 where
  pub given : Function
  pub resolved : function S x ty clauses ≡ Ok given
  pub type_resolved : resolve_term S [] ty ≡ Ok given.type
  pub type_sort : HasSort S [] given.type
  pub before : Signature
  pub body : Term
  pub longer : IsPrefix S before
  pub typed : IsDefinition before given.type body
  pub entered : IsPrefix (pushed before (Definition x.text given.type body)) T
  pub at : FunctionAt
  pub is_at : (at.before ≡ S) × (at.function ≡ given)
  pub started : IsStarted given (at.parts 0)
  pub values : AreValues T at body at.values
  pub each_line : AreLinesOf (pushed before (Definition x.text given.type body)) T at (placed_from 0 (parts_of given)) lines
