-- The answers of calls over a store, with the units that are left.
use Rattle.std.specs.Prelude.{◌≡◌, ℕ, Result, Ok, Err}
use Rattle.core_terms.specs.Answers.{Spent, Unless}
use Rattle.core_terms.specs.declared.stop.Stop.{Stop}
use Rattle.core_terms.specs.declared.stop.Stop.TheVariants.{Memory, PoolFull}

-- the answer stands for `meant` by way of `f`, unless memory ran out or the store has no room
abbrev pub RunsIn : {A B : Type 0} → (A → B) → Result A Stop → ℕ → Spent B → Type 0
RunsIn f (Ok a) left meant = (Ok (f a), left) ≡ meant
RunsIn f (Err e) left meant = Unless (e ≡ Memory) (Unless (e ≡ PoolFull) ((Err e, left) ≡ meant))

-- a call that takes memory and nothing else answers `meant` by way of `f`, or that memory ran out
abbrev pub GivesIn : {A B : Type 0} → (A → B) → Result A Stop → B → Type 0
GivesIn f (Ok a) meant = f a ≡ meant
GivesIn f (Err e) meant = e ≡ Memory
