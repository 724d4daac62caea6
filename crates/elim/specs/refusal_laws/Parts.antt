-- The parts of a function by clauses: the function itself, and a helper for each `with`.
use Rattle.std.specs.Prelude.{◌≡◌, ◌<◌, ℕ, Option, Some, Ok, List, length}
use Rattle.theory.specs.Terms.{Term}
use Rattle.theory.specs.Signatures.{Signature}
use Rattle.core_terms.specs.CaseTrees.{Walk}
use Rattle.core_terms.specs.Clauses.{Clauses, Is, With}
use Rattle.core_terms.specs.Patterns.{Pats}
use Rattle.case_trees.specs.OwnWalks.{own_walk_of}
use Rattle.case_trees.specs.Places.{clause_at}
use Rattle.case_trees.specs.Points.{Point, start_at, under_solution}
use Rattle.tree_translation.specs.Entries.{ordered_variables}
use Rattle.tree_translation.specs.Recursion.{order_of, ordered_telescope, ordered_term}
use Rattle.tree_translation.specs.Naming.{part_named}
use Rattle.clause_reports.specs.elaboration.Functions.{own_part, recursion_in}
use Rattle.clause_reports.specs.elaboration.Refusals.{owner_of}
use Rattle.clause_reports.specs.elaboration.Walking.{Opened, Opening, open_over, opened}
use Rattle.function_session.specs.function_lines.Opened.{session_at}
use Rattle.resolve.specs.Functions.{Function}
use Rattle.elim.specs.written_functions.Clauses.{with_own}

-- Part k with its clauses. Part 0 is the function itself. The scrutinee of a clause opens a helper over the clause's own walk: its clauses
-- are those inside the `with`.
pub data IsPartOf (S : Signature) (f : Function) : ℕ → Opened → Clauses → Type 0 where
  own : (level : ℕ) → IsPartOf S f 0 (own_part f level) f.clauses
  helper : (k number binds next left rest : ℕ) (part : Opened) (clauses inside : Clauses) (pats : Pats) (scrutinee : Term) (w : Walk) (o : Opening)
      → IsPartOf S f k part clauses → clause_at clauses number ≡ Some (Is pats binds (With scrutinee inside))
      → (own_walk_of (with_own S f) part.tele part.goal part.terms (Is pats binds (With scrutinee inside)) number left).0 ≡ Ok w
      → (open_over (session_at S f) (owner_of (part_named f.name k) number) w (under_solution w.binds scrutinee) rest).0 ≡ Ok o
      → IsPartOf S f next (opened o w) inside

-- Where the tree of a part starts: that of the function from the order of recursion, that of a helper from its columns.
pub data IsTreeStart (S : Signature) (f : Function) : ℕ → Opened → Point → Type 0 where
  from_order : (part : Opened) (position : Option ℕ) (order : List ℕ)
      → order ≡ order_of (length part.tele) (recursion_in (with_own S f) part.tele position)
      → IsTreeStart S f 0 part
      (start_at (ordered_telescope part.tele order) (ordered_term (length part.tele) order part.goal) (ordered_variables order (length part.tele)))
  from_columns : (k : ℕ) (part : Opened) → 0 < k → IsTreeStart S f k part (start_at part.tele part.goal part.terms)
