-- A computation that consists of computations with one kind of refusal has only this kind of refusal.
use Rattle.std.proofs.Common.{ℕ, zero, suc, ◌+◌, Bool, true, false, cond, if◌then◌else◌, Result, Ok, Err, IfErr, List, [], ◌∷◌}
use Rattle.theory.specs.Terms.{Term}
use Rattle.core_terms.specs.Answers.{Spent, SpentOr, on_answer, and_next, and_then, bounded, bounded_terms}
use Rattle.core_terms.specs.Loops.{for_each}
use Rattle.core_terms.specs.declared.stop.Stop.TheVariants.{Deep}
use Rattle.kernel_reduce.specs.Reduction.{charge, if_low}
use Rattle.elim.specs.memory_laws.Foreseen.{IsForeseen}

-- an answer, or a refusal of the kind P
pub record Only {A E : Type 0} (P : E → Type 0) (answer : Result A E) : Type 0 where
  pub is : IfErr answer P

-- such an answer, with the units that are left
pub record Ends {A E : Type 0} (P : E → Type 0) (spent : SpentOr E A) : Type 0 where
  pub only : Only P spent.0

pub ok : {A E : Type 0} {P : E → Type 0} {a : A} → Only P (Ok a)
ok = record { is = tt }

pub no : {A E : Type 0} {P : E → Type 0} {e : E} → P e → Only {A = A} P (Err e)
no h = record { is = h }

pub now : {A E : Type 0} {P : E → Type 0} {r : Result A E} {left : ℕ} → Only P r → Ends P (r, left)
now h = record { only = h }

pub done : {A E : Type 0} {P : E → Type 0} {a : A} {left : ℕ} → Ends P (Ok a, left)
done = now ok

-- one computation, and what goes on with its answer
pub next : {A B E : Type 0} {P : E → Type 0} {first : SpentOr E A} {go : A → ℕ → SpentOr E B} → Ends P first
    → ((a : A) (left : ℕ) → Ends P (go a left)) → Ends P (and_next first go)
next {A} {B} {E} {P} {first} {go} h k = on first.0 first.1 h.only.is
  where
    on : (r : Result A E) (left : ℕ) → IfErr r P → Ends P (on_answer r left go)
    on (Ok a) left e = k a left
    on (Err e) left p = record { only = record { is = p } }

pub and-then : {A B E : Type 0} {P : E → Type 0} {first : Result A E} {go : A → Result B E} → Only P first → ((a : A) → Only P (go a))
    → Only P (and_then first go)
and-then {A} {B} {E} {P} {first} {go} h k = on first h.is
  where
    on : (r : Result A E) → IfErr r P → Only P (and_then r go)
    on (Ok a) e = k a
    on (Err e) p = record { is = p }

-- one or the other
pub either : {A E : Type 0} {P : E → Type 0} (test : Bool) {x y : Result A E} → Only P x → Only P y → Only P (cond test x y)
either {A} {E} {P} test {x} {y} h k = by test
  where
    by : (b : Bool) → Only P (cond b x y)
    by true = h
    by false = k

pub either-ends : {A E : Type 0} {P : E → Type 0} (test : Bool) {x y : SpentOr E A} → Ends P x → Ends P y → Ends P (cond test x y)
either-ends {A} {E} {P} test {x} {y} h k = by test
  where
    by : (b : Bool) → Ends P (cond b x y)
    by true = h
    by false = k

pub if-else : {A E : Type 0} {P : E → Type 0} (test : Bool) {x y : Result A E} → Only P x → Only P y → Only P (if test then x else y)
if-else {A} {E} {P} test {x} {y} h k = by test
  where
    by : (b : Bool) → Only P (if b then x else y)
    by true = h
    by false = k

-- a loop along a list
pub each : {S X A E : Type 0} {P : E → Type 0} {one : S → ℕ → X → ℕ → SpentOr E A} (more : S → X → S)
    → ((s : S) (k : ℕ) (x : X) (left : ℕ) → Ends P (one s k x left)) → (s : S) (k : ℕ) (xs : List X) (left : ℕ)
    → Ends P (for_each one more s k xs left)
each more h s k [] left = done
each more h s k (x ∷ xs) left = next (h s k x left) (λ a rest. next (each more h (more s x) (k + 1) xs rest) (λ others end. done))

-- ---- out of units, and too high

pub deep : {A : Type 0} → Only {A = A} IsForeseen (Err Deep)
deep = no tt

pub low : (t : Term) → Only IsForeseen (bounded t)
low t = if-else _ ok deep

pub lows : (terms : List Term) → Only IsForeseen (bounded_terms terms)
lows terms = if-else _ ok deep

pub charged : {A : Type 0} {run : ℕ → Spent A} → ((left : ℕ) → Ends IsForeseen (run left)) → (left : ℕ) → Ends IsForeseen (charge run left)
charged h zero = now (no tt)
charged h (suc left) = h left

pub if-low : {A : Type 0} (test : Bool) {run : ℕ → Spent A} → ((left : ℕ) → Ends IsForeseen (run left)) → (left : ℕ)
    → Ends IsForeseen (if_low test run left)
if-low {A} test {run} h left = by test
  where
    by : (b : Bool) → Ends IsForeseen (if_low b run left)
    by true = h left
    by false = now deep
