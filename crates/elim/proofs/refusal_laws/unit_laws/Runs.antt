-- A computation that consists of steady computations is steady.
use Rattle.std.proofs.Common.{◌≡◌, ℕ, suc, zero, ◌+◌, Bool, true, false, Result, Ok, Err, List, [], ◌∷◌, refl, sym, ap, subst as transport, arith}
use Rattle.core_terms.specs.Answers.{Spent, SpentOr, on_answer, and_next}
use Rattle.core_terms.specs.Loops.{for_each}
use Rattle.kernel_reduce.specs.Reduction.{charge, if_low}
use Rattle.elim.specs.refusal_laws.unit_laws.Steady.{IsFuel, IsPaid, IsSteady, with_more}

-- an answer that spends no units is steady
pub steady-now : {A E : Type 0} (wants : E → Type 0) (r : Result A E) → IsSteady wants (λ left. (r, left))
steady-now wants r left more paid = refl

-- one computation, and what goes on with its answer
pub steady-next : {A B E : Type 0} (wants : E → Type 0) (first : ℕ → SpentOr E A) (go : A → ℕ → SpentOr E B)
    → IsSteady wants first → ((a : A) → IsSteady wants (go a)) → IsSteady wants (λ left. and_next (first left) go)
steady-next {A} {B} {E} wants first go h k left more paid = on (first left).0 (first left).1 (first (left + more)) (h left more) paid
  where
    on : (r : Result A E) (rest : ℕ) (later : SpentOr E A) → (IsPaid wants r → ◌≡◌ {A = SpentOr E A} later (r, rest + more))
        → IsPaid wants (on_answer r rest go).0 → ◌≡◌ {A = SpentOr E B} (and_next later go) (with_more more (on_answer r rest go))
    on (Ok a) rest later is paid =
        transport (λ x. ◌≡◌ {A = SpentOr E B} (and_next x go) (with_more more (go a rest))) (sym (is tt)) (k a rest more paid)
    on (Err e) rest later is paid = ap (λ x. and_next x go) (is paid)

-- a loop along a list
pub steady-each : {S X A E : Type 0} (wants : E → Type 0) (each : S → ℕ → X → ℕ → SpentOr E A) (more : S → X → S)
    → ((s : S) (k : ℕ) (x : X) → IsSteady wants (each s k x)) → (s : S) (k : ℕ) (xs : List X) → IsSteady wants (for_each each more s k xs)
steady-each wants each more h s k [] = steady-now wants (Ok [])
steady-each wants each more h s k (x ∷ xs) =
    steady-next wants (each s k x) _ (h s k x) (λ a.
    steady-next wants (for_each each more (more s x) (k + 1) xs) _ (steady-each wants each more h (more s x) (k + 1) xs) (λ others.
    steady-now wants (Ok (a ∷ others))))

-- one unit more is one more unit left
pub one-more : (left more : ℕ) → suc left + more ≡ suc (left + more)
one-more left more = omega arith

pub steady-charge : {A : Type 0} (next : ℕ → Spent A) → IsSteady IsFuel next → IsSteady IsFuel (charge next)
steady-charge next h zero more paid = absurd (paid refl)
steady-charge {A} next h (suc left) more paid =
    transport (λ n. ◌≡◌ {A = Spent A} (charge next n) (with_more more (next left))) (sym (one-more left more)) (h left more paid)

pub steady-low : {A : Type 0} (test : Bool) (next : ℕ → Spent A) → IsSteady IsFuel next → IsSteady IsFuel (if_low test next)
steady-low true next h = h
steady-low false next h = λ left more paid. refl
