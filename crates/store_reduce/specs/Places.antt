-- Head reduction of a term inside another one. All other parts of the whole are low enough, so the whole is too high where the term is
-- too high so many parts below it.
use Rattle.std.specs.Prelude.{ℕ, zero, suc, ◌+◌, Bool, nat_le}
use Rattle.theory.specs.Terms.{Term, height}
use Rattle.theory.specs.Signatures.{Signature}
use Rattle.core_terms.specs.Answers.{Spent}
use Rattle.core_terms.specs.Bounds.{most_height}
use Rattle.kernel_reduce.specs.Steps.{step_of}
use Rattle.kernel_reduce.specs.Reduction.{if_low, with_unit, without_units}

-- the term is low enough so many parts below the whole
abbrev pub is_low_at : ℕ → Term → Bool
is_low_at depth t = nat_le (depth + height t) most_height

-- head steps until there is none, with `left` units at first, so many parts below the whole
abbrev pub whnf_at : Signature → Bool → ℕ → ℕ → Term → Spent Term
whnf_at S delta depth zero t = if_low (is_low_at depth t) (λ none. without_units t (step_of S delta t)) zero
whnf_at S delta depth (suc left) t =
    if_low (is_low_at depth t) (λ all. with_unit t left (whnf_at S delta depth left) (step_of S delta t)) (suc left)
