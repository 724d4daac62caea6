-- The arguments that two clauses take are reduced to an answer, or out of units, or to a height.
use Rattle.std.proofs.Common.{ℕ, true, Option, Some, None, List, [], ◌∷◌}
use Rattle.theory.specs.Terms.{Term}
use Rattle.theory.specs.Signatures.{Signature}
use Rattle.core_terms.specs.Answers.{Spent}
use Rattle.core_terms.specs.Patterns as pattern
use Rattle.core_terms.specs.Patterns.{Pat, Pats}
use Rattle.unification.specs.Built.{Built, built_of}
use Rattle.clause_reports.specs.Shadows.{all_reduced, reduced_arguments, reduced_by, vector_of}
use Rattle.elim.specs.memory_laws.Foreseen.{IsForeseen}
use Rattle.elim.proofs.memory_laws.Runs.{Ends, now, done, next, either-ends, low}
use Rattle.elim.proofs.memory_laws.Kernel.{whnf}

-- ---- the arguments that two clauses take

arguments : (n number : ℕ) {reduce : List Term → ℕ → Spent (List Term)} → ((us : List Term) (left : ℕ) → Ends IsForeseen (reduce us left))
    → (w : Term) (b : Option Built) (left : ℕ) → Ends IsForeseen (reduced_arguments n number reduce w b left)
arguments n number h w None left = done
arguments n number h w (Some b) left = either-ends _ (next (h b.arguments left) (λ us rest. now (search low))) done

mutual
  reduces : (S : Signature) (pat : Pat) (t : Term) (left : ℕ) → Ends IsForeseen (reduced_by S pat t left)
  reduces S (pattern.Con n number pats) t left =
      next (whnf S true left t) (λ w rest. arguments n number (all-reduce S pats) w (built_of S w) rest)
  reduces S pattern.Bind t left = done
  reduces S pattern.Wild t left = done
  reduces S (pattern.Dot written) t left = done
  reduces S pattern.Absurd t left = done

  all-reduce : (S : Signature) (pats : Pats) (terms : List Term) (left : ℕ) → Ends IsForeseen (all_reduced S pats terms left)
  all-reduce S (pattern.cons pat pats) (t ∷ terms) left =
      next (reduces S pat t left) (λ u rest. next (all-reduce S pats terms rest) (λ us end. done))
  all-reduce S (pattern.cons pat pats) [] left = done
  all-reduce S pattern.nil terms left = done

pub vector : (S : Signature) (first second : Pats) (terms : List Term) (left : ℕ) → Ends IsForeseen (vector_of S first second terms left)
vector S first second terms left = next (all-reduce S first terms left) (all-reduce S second)
