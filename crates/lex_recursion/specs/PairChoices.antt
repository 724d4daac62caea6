-- The pair of positions at which a function is recursive: the first usable one.
use Rattle.std.specs.Prelude.{ℕ, not, Option, Some, None, option_map, List, [], ◌∷◌, ◌++◌, length, find}
use Rattle.std.specs.Option.{option_or}
use Rattle.theory.specs.Terms.{Term}
use Rattle.theory.specs.Signatures.{Signature}
use Rattle.tree_translation.specs.structural_rec.Calls.{Call, calls}
use Rattle.tree_translation.specs.structural_rec.Uses.{Use}
use Rattle.lex_recursion.specs.FittingPairs.{fits_pair}
use Rattle.lex_recursion.specs.Pairs.{Pair, pairs}

-- a call that does not fit a pair, with the clause that it is in
pub record FailingPair : Type 0 where
  pub first : ℕ
  pub second : ℕ
  pub clause : ℕ
  pub call : Term

-- the positions of the pair; or, where no pair is usable, a call for each pair
pub data PairChoice : Type 0 where
  At : ℕ → ℕ → PairChoice
  Failing : List FailingPair → PairChoice

abbrev pub failing_row : Pair → Use → Term → FailingPair
failing_row p u call = record { first = p.first; second = p.second; clause = u.clause; call = call }

-- the first of the calls that does not fit
abbrev pub failing_call : (S : Signature) (count : ℕ) (p : Pair) (terms : List Term) → List Call → Option Term
failing_call S count p terms calls = option_map (λ c. c.term) (find (λ c. not (fits_pair S count p terms c)) calls)

-- the first in a right side
abbrev pub failing_in : (S : Signature) (own count : ℕ) (p : Pair) → Use → Option FailingPair
failing_in S own count p u = option_map (failing_row p u) (failing_call S count p u.terms (calls own u.body))

-- the first of all
abbrev pub first_failing : (S : Signature) (own count : ℕ) (p : Pair) → List Use → Option FailingPair
first_failing S own count p [] = None
first_failing S own count p (u ∷ uses) = option_or (failing_in S own count p u) (first_failing S own count p uses)

-- the choice with rows before its rows, where it has rows
abbrev pub with_rows : List FailingPair → PairChoice → PairChoice
with_rows rows (Failing more) = Failing (rows ++ more)
with_rows rows (At j k) = At j k

-- the pair where each call fits it, else the choice among the later ones, with its failing call
abbrev pub or_later : Pair → Option FailingPair → (later : PairChoice) → PairChoice
or_later p None later = At p.first p.second
or_later p (Some row) later = with_rows (row ∷ []) later

-- the first usable one of these pairs
abbrev pub choose_among : (S : Signature) (own count : ℕ) (uses : List Use) → List Pair → PairChoice
choose_among S own count uses [] = Failing []
choose_among S own count uses (p ∷ others) =
    or_later p (first_failing S own count p uses) (choose_among S own count uses others)

-- the choice for the constant `own`, over the telescope of its arity
abbrev pub choose_pair : (S : Signature) (tele : List Term) (own : ℕ) (uses : List Use) → PairChoice
choose_pair S tele own uses = choose_among S own (length tele) uses (pairs S tele)
