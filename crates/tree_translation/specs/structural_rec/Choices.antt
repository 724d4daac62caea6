-- The position at which a function is recursive: the first usable one.
use Rattle.std.specs.Prelude.{ℕ, ◌+◌, not, cond, Option, Some, None, option_map, List, [], ◌∷◌, length, find}
use Rattle.std.specs.Option.{option_or}
use Rattle.theory.specs.Terms.{Term}
use Rattle.theory.specs.Spines.{spine_of}
use Rattle.theory.specs.Signatures.{Signature}
use Rattle.tree_translation.specs.structural_rec.Calls.{Call, calls}
use Rattle.tree_translation.specs.structural_rec.Positions.{Admission, admission}
use Rattle.tree_translation.specs.structural_rec.Uses.{Use, is_recursive}
use Rattle.tree_translation.specs.structural_rec.Fitting.{arguments_fit, fits}

-- a call that does not fit a position, with the function or helper and the clause that it is in
pub record Failing : Type 0 where
  pub position : ℕ
  pub function : ℕ
  pub clause : ℕ
  pub call : Term

-- the function does not call itself; the position; or, where none is usable, a call for each position that admits recursion
pub data Choice : Type 0 where
  NotRecursive : Choice
  At : ℕ → Choice
  NotSmaller : List Failing → Choice

abbrev pub failing_row : (j : ℕ) → Use → Term → Failing
failing_row j u call = record { position = j; function = u.function; clause = u.clause; call = call }

-- the call itself, where it does not fit position j
abbrev pub unless_fits : (S : Signature) (count j : ℕ) (a : Admission) (terms : List Term) (under : ℕ) → Term → Option Term
unless_fits S count j a terms under call = cond (arguments_fit S count j a terms under (spine_of call)) None (Some call)

-- the first of the calls that does not fit position j
abbrev pub failing_call : (S : Signature) (count j : ℕ) (a : Admission) (terms : List Term) → List Call → Option Term
failing_call S count j a terms calls = option_map (λ c. c.term) (find (λ c. not (fits S count j a terms c)) calls)

-- the first in a right side or a scrutinee
abbrev pub failing_in : (S : Signature) (own count j : ℕ) (a : Admission) → Use → Option Failing
failing_in S own count j a u =
    option_map (failing_row j u) (failing_call S count j a u.terms (calls own u.body))

-- the first of all
abbrev pub first_failing : (S : Signature) (own count j : ℕ) (a : Admission) → List Use → Option Failing
first_failing S own count j a [] = None
first_failing S own count j a (u ∷ uses) = option_or (failing_in S own count j a u) (first_failing S own count j a uses)

-- for a position that admits recursion, the first call that does not fit, if there is one
abbrev pub failing_at : (S : Signature) (tele : List Term) (own : ℕ) (uses : List Use) (j : ℕ) → Option (Option Failing)
failing_at S tele own uses j = option_map (λ a. first_failing S own (length tele) j a uses) (admission S tele j)

abbrev pub with_row : Failing → Choice → Choice
with_row row (NotSmaller rows) = NotSmaller (row ∷ rows)
with_row row other = other

-- position j where each call fits it, else the choice among the later ones, with its failing call where it admits recursion
abbrev pub or_later : (j : ℕ) → Option (Option Failing) → (later : Choice) → Choice
or_later j None later = later
or_later j (Some None) later = At j
or_later j (Some (Some row)) later = with_row row later

-- the first usable position from j on
abbrev pub first_usable : (S : Signature) (tele : List Term) (own : ℕ) (uses : List Use) (j : ℕ) (rest : List Term) → Choice
first_usable S tele own uses j [] = NotSmaller []
first_usable S tele own uses j (type ∷ rest) =
    or_later j (failing_at S tele own uses j) (first_usable S tele own uses (j + 1) rest)

-- the choice for the constant `own`, over the telescope of its arity
abbrev pub choose : (S : Signature) (tele : List Term) (own : ℕ) (uses : List Use) → Choice
choose S tele own uses = cond (is_recursive own uses) (first_usable S tele own uses 0 tele) NotRecursive
