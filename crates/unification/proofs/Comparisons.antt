-- Calls after a comparison: terms that are found convertible convert.
use Rattle.std.proofs.Common.{ℕ, ◌≤◌, Bool, IsTrue}
use Rattle.theory.specs.Terms.{Term}
use Rattle.theory.specs.Signatures.{Signature}
use Rattle.theory.specs.Conversion.{Converts}
use Rattle.core_terms.specs.Answers.{Spent, and_next}
use Rattle.kernel_reduce.specs.Comparison.{convertible_of}
use Rattle.kernel_reduce.specs.Reduction.{nesting}
use Rattle.kernel_reduce.proofs.ComparisonLaws.{convertible-converts, convertible-spends}
use Rattle.unification.proofs.SpentUnits.{Within, answers-within, and_next-within}

pub compared-within : {A : Type 0} (Q : A → ℕ → Type 0) (S : Signature) (u v : Term) (left : ℕ) (go : Bool → ℕ → Spent A)
    → ((holds : Bool) (rest : ℕ) → rest ≤ left → (IsTrue holds → Converts S u v) → Within rest Q (go holds rest))
    → Within left Q (and_next (convertible_of S nesting u v left) go)
compared-within Q S u v left go h =
    and_next-within (λ holds rest. IsTrue holds → Converts S u v) Q (convertible_of S nesting u v left) go left
    (answers-within left (λ holds. IsTrue holds → Converts S u v) (convertible_of S nesting u v left) (convertible-spends S nesting u v left)
    (convertible-converts S nesting u v left))
    h
