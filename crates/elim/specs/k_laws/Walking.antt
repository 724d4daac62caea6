-- Problems of unification, walks and trees in which no symbol of axiom K is.
use Rattle.std.specs.Prelude.{ℕ, List}
use Rattle.theory.specs.Terms.{Term}
use Rattle.theory.specs.Telescopes.{Telescope}
use Rattle.theory.specs.AxiomKLaws.{LacksAxiomK}
use Rattle.core_terms.specs.CaseTrees.{Tree, Walk}
use Rattle.core_terms.specs.Verdicts.{Verdict, Yes, No}
use Rattle.unification.specs.Outcomes.{Outcome, Solved, Absurd, Stuck}
use Rattle.unification.specs.States.{Problem}
use Rattle.case_trees.specs.Standing.{EachLeaf}
use Rattle.elim.specs.k_laws.Lacking.{Lack}

-- the type, where there is one
abbrev pub VerdictLacks : Verdict → Type 0
VerdictLacks (Yes type) = LacksAxiomK type
VerdictLacks (No denial) = Unit {0}

-- the context and the terms that are to be made equal
pub record ProblemLacks (p : Problem) : Type 0 where
  pub context : Lack p.context
  pub left : Lack p.left
  pub right : Lack p.right

-- the context and the terms of a solution
abbrev pub OutcomeLacks : Outcome → Type 0
OutcomeLacks (Solved steps context solution) = Lack context × Lack solution
OutcomeLacks (Absurd steps context u v) = Unit {0}
OutcomeLacks (Stuck steps context u v why) = Unit {0}

-- the context, the terms and the bindings of a walk
pub record WalkLacks (w : Walk) : Type 0 where
  pub context : Lack w.ctx
  pub terms : Lack w.terms
  pub binds : Lack w.binds

-- the context and the terms of a leaf
abbrev pub LeafLacks : (number : ℕ) → Telescope → (goal : Term) → (substitution terms binds : List Term) → Type 0
LeafLacks number context goal substitution terms binds = Lack context × Lack terms

abbrev pub TreeLacks : Tree → Type 0
TreeLacks t = EachLeaf LeafLacks t
