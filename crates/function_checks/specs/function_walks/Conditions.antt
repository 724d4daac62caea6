-- The conditions on the parts of a function that are walked, for their walks and for their trees.
use Rattle.std.specs.Prelude.{◌≤◌, ℕ, List, [], ◌∷◌, length}
use Rattle.theory.specs.Signatures.{Signature}
use Rattle.core_terms.specs.Clauses.{Clauses}
use Rattle.case_trees.specs.Laws.{IsGiven}
use Rattle.case_trees.specs.Scoped.{AreClausesFor}
use Rattle.clause_reports.specs.elaboration.Walking.{Opened, Walked}
use Rattle.resolve.specs.Scoping.{AreClauses}
use Rattle.problems.specs.Conditions.{most_levels}

-- A part that clauses can be walked from: it is scoped, and its telescope is not too long.
pub record IsPart (S : Signature) (part : Opened) : Type 0 where
  pub given : IsGiven S part.tele part.goal part.terms
  pub few : length part.tele ≤ most_levels

-- A part that these clauses can be walked from: they are resolved, with one pattern for each of its columns.
pub record IsPartFor (S : Signature) (p : Opened) (cs : Clauses) : Type 0 where
  pub part : IsPart S p
  pub clauses : AreClauses S (length p.terms) cs

-- the conditions of a part's tree
pub record IsWalked (S : Signature) (w : Walked) : Type 0 where
  pub given : IsGiven S w.part.tele w.part.goal w.part.terms
  pub few : length w.part.tele ≤ most_levels
  pub clauses : AreClausesFor S w.part.terms w.clauses

abbrev pub AreWalked : Signature → List Walked → Type 0
AreWalked S [] = Unit {0}
AreWalked S (w ∷ helpers) = IsWalked S w × AreWalked S helpers
