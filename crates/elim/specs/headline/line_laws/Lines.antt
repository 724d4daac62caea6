-- The meaning of the lines of clauses, without a condition.
use Rattle.std.specs.Prelude.{◌≡◌, ◌↔◌, ℕ, true, Ok, List, [], ◌∷◌}
use Rattle.theory.specs.Terms.{Term}
use Rattle.theory.specs.Signatures.{Definition, IsEntryAt, IsPrefix, Signature, equation}
use Rattle.theory.specs.WellFormed.{IsDefinition, first_entries}
use Rattle.tree_translation.specs.Plans.{Plan}
use Rattle.clause_reports.specs.Equations.{Equation, equation_of, part_at, pats_of, closed_type}
use Rattle.tree_translation.specs.Naming.{part_named}
use Rattle.clause_reports.specs.ProofTerms.{proof_name}
use Rattle.clause_reports.specs.Reports.{Absurd, Proved, Reference, report_of, reported, some_absurd}
use Rattle.clause_reports.specs.elaboration.Functions.{ClauseLine}
use Rattle.clause_reports.specs.elaboration.Refusals.{owner_of}
use Rattle.function_session.specs.Evidence.{line_owner}

-- Entry n of T is a definition, under the clause's name, whose type is syntactically equal to the closed type of the clause's equation
-- over S. By the typing rules over the entries before it the type has a sort, and the term of the definition has the type.
pub record IsProof (S : Signature) (plan : Plan) (c : Reference) (T : Signature) (n : ℕ) : Type 0 where
  pub given : Equation
  pub is : equation_of S plan c.part c.clause c.walk ≡ Ok given
  pub body : Term
  pub entry : IsEntryAt T n (Definition (proof_name plan c.part c.clause) (closed_type (part_at plan c.part).level given) body)
  pub typed : IsDefinition (first_entries T n) (closed_type (part_at plan c.part).level given) body

-- The line of a clause of the plan, over signatures from S to T: it is the clause's report at some units. Where it says that an entry
-- proves the equation, it is a proof of it in T. It is absurd exactly where `( )` is among the clause's patterns.
pub record IsReported (S T : Signature) (plan : Plan) (c : Reference) (l : ClauseLine) : Type 0 where
  pub owner : line_owner l ≡ owner_of (part_named plan.name c.part) c.clause
  pub before : Signature
  pub after : Signature
  pub longer : IsPrefix S before
  pub grown : IsPrefix before after
  pub rest : IsPrefix after T
  pub left : ℕ
  pub reports : (report_of before plan c left).0 ≡ Ok (reported after l.line)
  pub proof : (n : ℕ) → l.line ≡ Proved n → IsProof before plan c T n
  pub absurd_line : (l.line ≡ Absurd) ↔ (some_absurd (pats_of (part_at plan c.part) c.clause) ≡ true)

-- one line for each clause, in order
abbrev pub AreReported : (S T : Signature) → Plan → List Reference → List ClauseLine → Type 0
AreReported S T plan [] [] = Unit {0}
AreReported S T plan (c ∷ clauses) (l ∷ lines) = IsReported S T plan c l × AreReported S T plan clauses lines
AreReported S T plan clauses lines = ⊥
