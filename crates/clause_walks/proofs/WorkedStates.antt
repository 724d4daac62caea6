-- Worked pairs are scoped and low.
use Rattle.std.proofs.Common.{◌≡◌, ℕ, true, Result, Ok, Err, IfOk}
use Rattle.theory.specs.Signatures.{Signature}
use Rattle.theory.specs.SignatureScopes.{IsScopedSignature}
use Rattle.core_terms.specs.declared.stop.Stop.{Stop}
use Rattle.case_trees.specs.Pairs.{Pairs, are_low_pairs}
use Rattle.case_trees.specs.Working.{of_columns, work_pairs}
use Rattle.case_trees.proofs.ScopedWorking.{all-become-scoped}
use Rattle.case_trees.proofs.Workings.{AllBecome, all-become}
use Rattle.clause_walks.specs.PairConditions.{AreKeptPairs}
use Rattle.clause_walks.proofs.LowWorking.{columns-low}

-- the pairs that working answers
pub worked-kept : (S : Signature) (n : ℕ) (pairs : Pairs) (left : ℕ) → IsScopedSignature S → AreKeptPairs S n pairs
    → IfOk (work_pairs S of_columns pairs left).0 (AreKeptPairs S n)
worked-kept S n pairs left scoped h =
    by (work_pairs S of_columns pairs left).0 (all-become S of_columns pairs left) (columns-low S pairs left h.low)
  where
    by : (r : Result Pairs Stop) → IfOk r (AllBecome S pairs) → IfOk r (λ new. are_low_pairs new ≡ true) → IfOk r (AreKeptPairs S n)
    by (Ok new) all low = record { scoped = all-become-scoped S n scoped pairs new all h.scoped; low = low; few = h.few }
    by (Err e) all low = tt
