-- The statements that the lines of clauses make about them.
use Rattle.std.specs.Prelude.{◌≡◌, ◌<◌, ℕ, ◌+◌, true, List, [], ◌∷◌, ◌++◌, All, map, Result, Ok}
use Rattle.theory.specs.Terms.{Term}
use Rattle.theory.specs.Telescopes.{Telescope}
use Rattle.theory.specs.Conversion.{Converts}
use Rattle.theory.specs.Signatures.{Signature, Definition, IsEntryAt, IsPrefix}
use Rattle.core_terms.specs.CaseTrees.{Walk}
use Rattle.core_terms.specs.declared.stop.Stop.{Stop}
use Rattle.case_trees.specs.pattern_vectors.Matching.{matches_all}
use Rattle.tree_translation.specs.Plans.{Plan, Part}
use Rattle.clause_reports.specs.Equations.{Equation, equation_of, part_at, pats_of, closed_type}
use Rattle.tree_translation.specs.Naming.{part_named}
use Rattle.clause_reports.specs.Laws.{IsOver}
use Rattle.clause_reports.specs.ProofTerms.{proof_name}
use Rattle.clause_reports.specs.Reports.{Line, Definitional, Proved, Shadowed, Absurd, Reference, some_absurd, order_in, shown_leaf}
use Rattle.clause_reports.specs.Shadows.{TreeLeaf, equation_at_leaf, leaves_of}
use Rattle.clause_reports.specs.elaboration.Functions.{ClauseLine}
use Rattle.clause_reports.specs.elaboration.Refusals.{Owner, owner_of}

-- ---- one line

-- there is an equation, and its sides convert
pub record HasConverting (S : Signature) (answer : Result Equation Stop) : Type 0 where
  pub given : Equation
  pub is : answer ≡ Ok given
  pub converts : Converts S given.left given.right

-- Entry n of T proves the equation: it is a definition with the name of the clause's proof, and its type is the closed equation. The
-- field `entry` says so where the terms of the equation are over the entries of S; `given` and `is` hold in any case.
pub record IsProofEntry (S : Signature) (plan : Plan) (c : Reference) (T : Signature) (n : ℕ) : Type 0 where
  pub given : Equation
  pub is : equation_of S plan c.part c.clause c.walk ≡ Ok given
  pub body : Term
  pub entry : IsOver S given → IsEntryAt T n
      (Definition (proof_name plan c.part c.clause)
      (closed_type (part_at plan c.part).level given) body)

-- An earlier clause takes the arguments, which the clause matches too. The leaves are all leaves of the clause in its tree, and its
-- equation converts at each of them.
pub record IsShadow (S : Signature) (plan : Plan) (c : Reference) (earlier : ℕ) (vector : List Term) (leaves : List (Telescope × List Term)) : Type 0 where
  pub before : earlier < c.clause
  pub own : matches_all S (pats_of (part_at plan c.part) c.clause) vector ≡ true
  pub other : matches_all S (pats_of (part_at plan c.part) earlier) vector ≡ true
  pub shown : leaves ≡ map shown_leaf (leaves_of c.clause (part_at plan c.part).tree)
  pub converts : All (λ (leaf : TreeLeaf). HasConverting S (equation_at_leaf S plan c.part c.clause (order_in S plan c.part) c.walk leaf))
      (leaves_of c.clause (part_at plan c.part).tree)

-- The statement of a line about a clause of the plan, over the signature S before it and T after it.
abbrev pub Says : Signature → Plan → Reference → (T : Signature) → Line → Type 0
Says S plan c T Definitional = HasConverting S (equation_of S plan c.part c.clause c.walk)
Says S plan c T (Proved n) = IsProofEntry S plan c T n
Says S plan c T (Shadowed earlier context vector leaves) = IsShadow S plan c earlier vector leaves
Says S plan c T Absurd = some_absurd (pats_of (part_at plan c.part) c.clause) ≡ true

-- ---- all of them

abbrev pub line_owner : ClauseLine → Owner
line_owner l = record { function = l.function; clause = l.clause }

-- The line of a clause of the plan. Its statement holds over a signature `before` and one `after` it, both between S and T.
pub record IsLineOf (S T : Signature) (plan : Plan) (c : Reference) (l : ClauseLine) : Type 0 where
  pub owner : line_owner l ≡ owner_of (part_named plan.name c.part) c.clause
  pub before : Signature
  pub after : Signature
  pub longer : IsPrefix S before
  pub grown : IsPrefix before after
  pub rest : IsPrefix after T
  pub says : Says before plan c after l.line

-- one line for each clause, in order
abbrev pub AreLinesOf : (S T : Signature) → Plan → List Reference → List ClauseLine → Type 0
AreLinesOf S T plan [] [] = Unit {0}
AreLinesOf S T plan (c ∷ clauses) (l ∷ lines) = IsLineOf S T plan c l × AreLinesOf S T plan clauses lines
AreLinesOf S T plan clauses lines = ⊥

-- the clauses of part k from clause `number` on, by their walks
abbrev pub references : (k number : ℕ) → List Walk → List Reference
references k number [] = []
references k number (w ∷ walks) = record { part = k; clause = number; walk = w } ∷ references k (number + 1) walks

-- the clauses of the parts from part k on, by their walks
abbrev pub references_from : (k : ℕ) → List Part → List Reference
references_from k [] = []
references_from k (part ∷ parts) = references k 0 part.walks ++ references_from (k + 1) parts
