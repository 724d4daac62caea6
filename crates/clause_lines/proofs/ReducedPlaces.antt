-- Terms that are compared or reduced have entries, and few variables.
use Rattle.std.proofs.Common.{◌≡◌, ℕ, ◌≤◌, true, cond, Err, [], ◌∷◌, length, sym, ap, ◌∙◌, arith}
use Rattle.std.proofs.lemmas.Bool.{and_parts}
use Rattle.theory.specs.Terms.{Term}
use Rattle.theory.specs.Signatures.{Signature}
use Rattle.theory.specs.SignatureScopes.{IsScopedSignature}
use Rattle.core_terms.specs.declared.stop.Stop.TheVariants.{Deep}
use Rattle.kernel_reduce.specs.Comparison.{convertible_of}
use Rattle.kernel_reduce.specs.Reduction.{most_variables, nesting}
use Rattle.kernel_reduce.specs.WellScoped.{CanReduce}
use Rattle.kernel_reduce.proofs.WellScoped.{scoped-more}
use Rattle.unification.specs.ScopedStates.{IsReady}
use Rattle.problems.specs.Conditions.{most_levels}
use Rattle.clause_reports.specs.ProofWalks.{Place}
use Rattle.clause_reports.specs.Stops.{Halts, answers, halting}
use Rattle.proof_walks.specs.PlaceScopes.{IsKeptPlace, is_scoped}
use Rattle.proof_walks.proofs.ScopeTests.{term-tells}
use Rattle.clause_lines.specs.CodeReports.{can_be_compared, sides_compared}

pub compared-reduce : (S : Signature) (n : ℕ) (u v : Term) → IsScopedSignature S → n ≤ most_levels → can_be_compared S n u v ≡ true → CanReduce S (u ∷ v ∷ [])
compared-reduce S n u v scoped few h =
    let p = and_parts (is_scoped S n u) (is_scoped S n v) h in
    record {
      signature = scoped;
      terms = scoped-more S n most_variables (u ∷ v ∷ []) (omega (arith, few)) (term-tells S n u p.0, (term-tells S n v p.1, tt));
    }

-- where terms can be compared, the answer is their comparison over this signature
pub compared-is : (K S : Signature) → K ≡ S → (n : ℕ) (u v : Term) (left : ℕ) → can_be_compared S n u v ≡ true
    → halting (convertible_of K nesting u v left) ≡ sides_compared S n u v left
compared-is K S same n u v left h =
    ap (λ T. halting (convertible_of T nesting u v left)) same
    ∙ sym (ap (λ test. cond test (halting (convertible_of S nesting u v left)) (answers (Err (Halts Deep)) left)) h)

-- the sides at a place of a proof
pub sides-reduce : (S : Signature) (p : Place) → IsReady S → IsKeptPlace S p → CanReduce S (p.left ∷ p.right ∷ [])
sides-reduce S p ready h = record {
  signature = ready.scoped;
  terms = scoped-more S (length p.context) most_variables (p.left ∷ p.right ∷ []) (omega (arith, h.few)) (h.scoped.left, (h.scoped.right, tt));
}
