-- A function's uses of itself: each right side and each scrutinee, with the clause's own terms.
use Rattle.std.specs.Prelude.{ℕ, Bool, List}
use Rattle.std.specs.List.{list_any}
use Rattle.theory.specs.Terms.{Term}
use Rattle.tree_translation.specs.structural_rec.Calls.{has_constant}

-- A right side or a scrutinee, in a clause of the function, which has number 0, or of helper k, which has number k. The terms are
-- the clause's own, the function's positions first. All are in one context.
pub record Use : Type 0 where
  pub function : ℕ
  pub clause : ℕ
  pub terms : List Term
  pub body : Term

-- whether the function calls itself
abbrev pub is_recursive : (own : ℕ) → List Use → Bool
is_recursive own uses = list_any (λ u. has_constant own u.body) uses
