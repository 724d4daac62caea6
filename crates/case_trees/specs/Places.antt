-- The terms at which the variables and the dots of patterns are.
use Rattle.std.specs.Prelude.{ℕ, zero, suc, Option, Some, None, List, [], ◌∷◌, ◌++◌, map}
use Rattle.theory.specs.Terms.{Term}
use Rattle.theory.specs.Signatures.{Signature}
use Rattle.core_terms.specs.Patterns as pattern
use Rattle.core_terms.specs.Patterns.{Pat, Pats}
use Rattle.core_terms.specs.Clauses as clause
use Rattle.core_terms.specs.Clauses.{Clause, Clauses}
use Rattle.unification.specs.Built.{Built, built_of}
use Rattle.case_trees.specs.Pairs.{all_unbound}
use Rattle.case_trees.specs.OwnWalks.{or_none}

-- found values in the arguments of a constructor, and others if the term is none
abbrev pub in_arguments : {A : Type 0} → (find : List Term → List A) → (else_found : List A) → Option Built → List A
in_arguments find else_found None = else_found
in_arguments find else_found (Some b) = find b.arguments

abbrev mutual
  -- The term at each variable of a pattern. Below a constructor pattern that has no constructor there is none, and `Type 0` is
  -- for each.
  pub variable_places : Signature → Pat → Term → List Term
  variable_places S pattern.Bind t = t ∷ []
  variable_places S (pattern.Con n number pats) t =
      in_arguments (all_variable_places S pats) (map or_none (all_unbound pats)) (built_of S t)
  variable_places S pat t = []

  pub all_variable_places : Signature → Pats → List Term → List Term
  all_variable_places S (pattern.cons pat pats) (t ∷ terms) = variable_places S pat t ++ all_variable_places S pats terms
  all_variable_places S _ _ = []

abbrev mutual
  -- The terms of the variables, with None for a variable that has none.
  pub variables_found : Signature → Pat → Term → List (Option Term)
  variables_found S pattern.Bind t = Some t ∷ []
  variables_found S (pattern.Con n number pats) t = in_arguments (all_variables_found S pats) (all_unbound pats) (built_of S t)
  variables_found S pat t = []

  pub all_variables_found : Signature → Pats → List Term → List (Option Term)
  all_variables_found S (pattern.cons pat pats) (t ∷ terms) = variables_found S pat t ++ all_variables_found S pats terms
  all_variables_found S _ _ = []

abbrev mutual
  -- the written term at each dot of a pattern, and the term there
  pub dot_places : Signature → Pat → Term → List (Term × Term)
  dot_places S (pattern.Dot written) t = (written, t) ∷ []
  dot_places S (pattern.Con n number pats) t = in_arguments (all_dot_places S pats) [] (built_of S t)
  dot_places S pat t = []

  pub all_dot_places : Signature → Pats → List Term → List (Term × Term)
  all_dot_places S (pattern.cons pat pats) (t ∷ terms) = dot_places S pat t ++ all_dot_places S pats terms
  all_dot_places S _ _ = []

-- the clause with a number
abbrev pub clause_at : Clauses → ℕ → Option Clause
clause_at clause.nil number = None
clause_at (clause.cons c clauses) zero = Some c
clause_at (clause.cons c clauses) (suc number) = clause_at clauses number
