-- Steps that can be followed on a context.
use Rattle.std.specs.Prelude.{ℕ, ◌<◌, List, [], ◌∷◌, length}
use Rattle.theory.specs.Terms.{Term}
use Rattle.theory.specs.Telescopes.{Telescope}
use Rattle.core_terms.specs.CaseTrees.{Step}
use Rattle.core_terms.specs.declared.case_tree.Rule.{Rule}
use Rattle.core_terms.specs.declared.case_tree.Rule.TheVariants.{SolveRight, SolveLeft}
use Rattle.core_terms.specs.declared.case_tree.Origin.{Origin}
use Rattle.core_terms.specs.declared.term.Term as code
use Rattle.core_terms.specs.Meanings.{tele_of}
use Rattle.problems.specs.Conditions.{AreTypesOver, IsOver}
use Rattle.case_trees.specs.Origins.{context_without}

-- a variable of a context whose numbers have room, and a term over the context that solves it
pub record IsSolvedBy (context : Telescope) (x : ℕ) (u : Term) : Type 0 where
  pub types : AreTypesOver 0 context
  pub variable : x < length context
  pub by : IsOver (length context) u

-- a rule that solves a variable by a side, and any other rule; `Next` is asked of the context after it
abbrev pub IsFollowed : Rule → (left right : Term) → (Next : Telescope → Type 0) → Telescope → Type 0
IsFollowed (SolveRight x) left right Next context = IsSolvedBy context x left × Next (context_without context x left)
IsFollowed (SolveLeft x) left right Next context = IsSolvedBy context x right × Next (context_without context x right)
IsFollowed rule left right Next context = Next context

-- steps that are followed from a context on: each variable that they solve is there, with its term
abbrev pub AreFollowed : List Step → Telescope → Type 0
AreFollowed [] context = Unit {0}
AreFollowed (step ∷ steps) context = IsFollowed step.rule step.left step.right (AreFollowed steps) context

-- a context with the origins of its variables
abbrev pub traced : Telescope → List Origin → Telescope × List Origin
traced context origins = (context, origins)

abbrev pub traced_of : List code.Term × List Origin → Telescope × List Origin
traced_of r = traced (tele_of r.0) r.1
