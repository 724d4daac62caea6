-- What a call of the checker over a store ensures, and what is meant of the calls that go on with a type.
use Rattle.std.specs.Prelude.{◌≡◌, ℕ, ◌+◌, ◌≤◌, true, ◌∷◌, IfOk, Result}
use Rattle.theory.specs.Terms.{Term, subst}
use Rattle.theory.specs.Telescopes.{Context}
use Rattle.theory.specs.Signatures.{Signature}
use Rattle.core_terms.specs.Answers.{Spent, and_next}
use Rattle.core_terms.specs.Verdicts.{Verdict}
use Rattle.core_terms.specs.declared.stop.Stop.{Stop}
use Rattle.core_terms.specs.declared.units.Units.{Units}
use Rattle.kernel_reduce.specs.Comparison.{subtype_of}
use Rattle.kernel_reduce.specs.Reduction.{answered, whnf_of}
use Rattle.term_pool.specs.Held.{Held, Extends}
use Rattle.store_reduce.specs.Additions.{AddsOnly, IsFullOf}
use Rattle.store_reduce.specs.Runs.{RunsIn}
use Rattle.kernel_check.specs.Checking.{Asks, Checks, apply_product, behind, compared, function_type, greater_sort, if_typed, infer_body, product_of, sort_of, typed}
use Rattle.kernel_check.specs.Verdicts.{IsLiveVerdict, verdict_in}
use Rattle.kernel_check.specs.declared.verdict.VerdictIn.{VerdictIn}

-- The verdict that is meant is answered, unless memory ran out or the store has no room. What is added to the store has P, and units that
-- are not left were spent.
pub record Decides {I : Type 0} (P : Term → Type 0) (old new : Held I) (before after : Units) (result : Result (VerdictIn I) Stop) (meant : Spent Verdict) : Type 0 where
  pub answer : RunsIn (verdict_in new.tree) result after.left meant
  pub live : IfOk result (IsLiveVerdict new)
  pub extends : Extends old new
  pub adds : AddsOnly P old new
  pub full : IsFullOf P new result
  pub sum : after.left + after.spent ≡ before.left + before.spent
  pub spends : after.left ≤ before.left

-- the sort of a product whose domain a has the sort i
abbrev pub codomain_sort : Term → Term → ℕ → Spent Verdict
codomain_sort i j left = answered (typed (greater_sort i j)) left

abbrev pub infer_codomain : Asks → Context → Term → Term → Term → ℕ → Spent Verdict
infer_codomain infer_sort G a b i left = if_typed (behind 1 (infer_sort (a ∷ G) b left)) (codomain_sort i)

-- the type of a function whose domain a has a sort
abbrev pub product_type : Context → Term → Term → ℕ → Spent Verdict
product_type G a c left = answered (function_type G a c) left

abbrev pub infer_function_body : Asks → Context → Term → Term → Term → ℕ → Spent Verdict
infer_function_body infer G a b i left = if_typed (behind 1 (infer (a ∷ G) b left)) (product_type G a)

-- the type of a function with the type c at the argument u
abbrev pub apply_typed : Signature → Asks → Checks → Context → Term → Term → ℕ → Spent Verdict
apply_typed S infer_sort check G u c left = if_typed (product_of S infer_sort G c left) (apply_product check G u)

-- the type of a function at the argument u, which has the type of the domain
abbrev pub instance_type : Term → Term → Term → ℕ → Spent Verdict
instance_type b u found left = answered (typed (subst b 0 u)) left

-- the type of a `let` whose type a has a sort, and of one whose value has that type
abbrev pub infer_rest : Asks → Context → Term → Term → ℕ → Spent Verdict
infer_rest infer G made found left = infer_body infer G made left

abbrev pub infer_value : Asks → Checks → Context → Term → Term → Term → Term → ℕ → Spent Verdict
infer_value infer check G a v b i left = if_typed (behind 1 (check G v a left)) (infer_rest infer G (subst b 0 v))

-- the sort of a term with the type c
abbrev pub reduced_sort : Signature → Context → Term → ℕ → Spent Verdict
reduced_sort S G c left = and_next (whnf_of S true left c) (λ u end. answered (sort_of G u) end)

-- the type that was found, where it is below the wanted one
abbrev pub compare : Signature → ℕ → Context → Term → Term → ℕ → Spent Verdict
compare S room G wanted found left = and_next (subtype_of S room found wanted left) (λ holds end. answered (compared G found wanted holds) end)
