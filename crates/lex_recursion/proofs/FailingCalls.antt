-- The first failing call of calls that are one after the other.
use Rattle.std.proofs.Common.{◌≡◌, ℕ, Bool, true, false, cond, not, Some, option_map, List, [], ◌∷◌, ◌++◌, refl}
use Rattle.std.specs.Prelude.{find}
use Rattle.std.specs.Option.{option_or}
use Rattle.theory.specs.Terms.{Term}
use Rattle.theory.specs.Signatures.{Signature}
use Rattle.tree_translation.specs.structural_rec.Calls.{Call}
use Rattle.lex_recursion.specs.FittingPairs.{fits_pair}
use Rattle.lex_recursion.specs.PairChoices.{failing_call}
use Rattle.lex_recursion.specs.Pairs.{Pair}

pub failing_append : (S : Signature) (count : ℕ) (p : Pair) (terms : List Term) (xs ys : List Call)
    → failing_call S count p terms (xs ++ ys) ≡ option_or (failing_call S count p terms xs) (failing_call S count p terms ys)
failing_append S count p terms [] ys = refl
failing_append S count p terms (x ∷ xs) ys = by (fits_pair S count p terms x) (failing_append S count p terms xs ys)
  where
    by : (b : Bool)
        → failing_call S count p terms (xs ++ ys) ≡ option_or (failing_call S count p terms xs) (failing_call S count p terms ys)
        → option_map (λ c. c.term) (cond (not b) (Some x) (find (λ c. not (fits_pair S count p terms c)) (xs ++ ys)))
        ≡ option_or (option_map (λ c. c.term) (cond (not b) (Some x) (find (λ c. not (fits_pair S count p terms c)) xs))) (failing_call S count p terms ys)
    by true rest = rest
    by false rest = refl
