-- Types of applications over the variables that their arguments are to fill, and what a call ensures that answers one.
use Rattle.std.specs.Prelude.{◌≡◌, ◌≤◌, ◌+◌, ℕ, IfOk, List, Result}
use Rattle.std.specs.List.{All}
use Rattle.theory.specs.Terms.{Term, Var, free_of, height}
use Rattle.theory.specs.Substitutions.{fill, inst}
use Rattle.core_terms.specs.Answers.{Spent}
use Rattle.core_terms.specs.Bounds.{most_inner_variables}
use Rattle.core_terms.specs.Verdicts.{Verdict}
use Rattle.core_terms.specs.declared.stop.Stop.{Stop}
use Rattle.core_terms.specs.declared.units.Units.{Units}
use Rattle.term_pool.specs.Held.{Held, Extends}
use Rattle.term_pool.specs.Instantiation.{AreValues, trees_of}
use Rattle.store_reduce.specs.Additions.{AddsOnly, IsFullOf}
use Rattle.store_reduce.specs.Runs.{RunsIn}
use Rattle.kernel_check.specs.Verdicts.{IsLiveVerdict, verdict_in}
use Rattle.kernel_check.specs.declared.filled.Filled.{Filled}
use Rattle.kernel_check.specs.declared.verdict.VerdictIn.{VerdictIn}
use Rattle.kernel_check.specs.declared.verdict.VerdictIn.TheVariants as in_store

module _ {I : Type 0} where
  -- the type that an open one is with the arguments
  abbrev pub filled_tree : Held I → List I → Term → Term
  filled_tree held args ty = inst (fill Var (trees_of held args)) ty

  -- the arguments are values, no higher than is said
  pub record AreFilled (held : Held I) (filled : Filled I) : Type 0 where
    pub values : AreValues held filled.args.items
    pub highest : All (λ a. height (held.tree a) ≤ filled.highest) filled.args.items

  -- One argument more, no higher than is said, is to fill a codomain, which stays low enough.
  pub record WillFill (held : Held I) (args : List I) (arg codomain : I) (highest : ℕ) : Type 0 where
    pub values : AreValues held args
    pub bound : All (λ a. height (held.tree a) ≤ highest) args
    pub free : free_of (held.tree arg) ≤ most_inner_variables
    pub more : height (held.tree arg) ≤ highest
    pub low : height (held.tree codomain) + highest ≤ 2000

  abbrev pub IsFilledVerdict : Held I → Filled I → VerdictIn I → Type 0
  IsFilledVerdict held filled (in_store.Yes id) = AreFilled held filled
  IsFilledVerdict held filled (in_store.No denial) = Unit {0}

  -- The verdict that is meant is answered, with an open type and the arguments that fill it, unless memory ran out or the store has no room.
  -- What is added to the store has P, and units that are not left were spent.
  pub record Opens (P : Term → Type 0) (old new : Held I) (before after : Units) (filled : Filled I) (result : Result (VerdictIn I) Stop) (meant : Spent Verdict) : Type 0 where
    pub answer : RunsIn (verdict_in (λ id. filled_tree new filled.args.items (new.tree id))) result after.left meant
    pub live : IfOk result (IsLiveVerdict new)
    pub filled_with : IfOk result (IsFilledVerdict new filled)
    pub extends : Extends old new
    pub adds : AddsOnly P old new
    pub full : IsFullOf P new result
    pub sum : after.left + after.spent ≡ before.left + before.spent
    pub spends : after.left ≤ before.left
