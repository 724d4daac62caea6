-- Steps of unification, case trees and walks over plain terms.
use Rattle.std.specs.Prelude.{ℕ, List, [], ◌∷◌}
use Rattle.theory.specs.Terms.{Term}
use Rattle.core_terms.specs.declared.case_tree.Rule.{Rule}
use Rattle.core_terms.specs.declared.case_tree.Origin.{Origin}

-- a rule, the group of equations that it works on, and the type and the sides of its equation
pub record Step : Type 0 where
  pub group : ℕ
  pub rule : Rule
  pub ty : Term
  pub left : Term
  pub right : Term

-- `Leaf clause ctx goal subst terms binds`: the clause that a leaf belongs to, the context and the goal there, the
-- terms of the variables of the starting context, of the columns, and of the clause's variables.
-- `Split ctx var family ty branches`: a variable of a family, its reduced type, and a branch for each constructor.
-- `Absurd steps ctx left right`: a constructor that can't be there, shown by the last step at these two sides.
-- `Solved steps origin tree`: one that can, where each variable of the new context comes from, and how it goes on.
mutual
  pub data Tree : Type 0 where
    Leaf : ℕ → List Term → Term → List Term → List Term → List Term → Tree
    Split : List Term → ℕ → ℕ → Term → Branches → Tree

  pub data Branch : Type 0 where
    Absurd : List Step → List Term → Term → Term → Branch
    Solved : List Step → List Origin → Tree → Branch

  pub data Branches : Type 0 where
    nil : Branches
    cons : Branch → Branches → Branches

-- the branches of a list
abbrev pub branches : List Branch → Branches
branches [] = nil
branches (branch ∷ rest) = cons branch (branches rest)

-- the end of a clause's own walk: the parts of a leaf, and the written dots, each with the term that is forced
pub record Walk : Type 0 where
  pub ctx : List Term
  pub goal : Term
  pub subst : List Term
  pub terms : List Term
  pub binds : List Term
  pub dots : List (Term × Term)
