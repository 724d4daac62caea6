-- The verdicts of a checker, over plain terms.
use Rattle.std.specs.Prelude.{ℕ, List}
use Rattle.theory.specs.Terms.{Term}

-- why a term is rejected
pub data Reason : Type 0 where
  Mismatch : (found wanted : Term) → Reason
  NotAProduct : (found : Term) → Reason
  NotASort : (found : Term) → Reason
  NoSuchInstance : Reason
  LevelTooHigh : Reason

-- a denial: the place by child numbers from the root on, the context there from the outermost type on, and why
pub record Denial : Type 0 where
  pub place : List ℕ
  pub ctx : List Term
  pub reason : Reason

-- the type of a term, or its denial
pub data Verdict : Type 0 where
  Yes : Term → Verdict
  No : Denial → Verdict
