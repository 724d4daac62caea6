use Rattle.std.proofs.Common.{◌≡◌, ℕ, zero, suc, ◌+◌, ◌-◌, ◌^◌, min, List, Option, refl, arith}
use Rattle.std.proofs.lemmas.Bool.Decides.{nat_tests}
use Rattle.elim_ports.specs.Calls.{fails_at, after_calls}
use Rattle.elim_ports.proofs.call_plan.calls_fail_as_listed.Goals as goal

made_after : (step : Option ℕ) (fails : List ℕ) (n : ℕ) → (after_calls step fails n).made ≡ min n (2 ^ 32 - 1)
made_after step fails zero = refl
made_after step fails (suc n) = let earlier = made_after step fails n in omega arith

fails_after : (step : Option ℕ) (fails : List ℕ) (n : ℕ) → (after_calls step fails n).fails ≡ fails
fails_after step fails zero = refl
fails_after step fails (suc n) = fails_after step fails n

-- after the last number that is counted none fails
fails_at-counted : (fails : List ℕ) (n : ℕ) → fails_at fails (min n (2 ^ 32 - 1) + 1) ≡ fails_at fails (n + 1)
fails_at-counted fails n = grind (arith, nat_tests)

pub returns : goal.returns
returns c step fails n = rw (made_after step fails n, fails_after step fails n) (fails_at-counted fails n)
