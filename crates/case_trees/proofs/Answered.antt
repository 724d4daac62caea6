-- Properties of answers, of refusals and of the units after them, where calls are one after the other.
use Rattle.std.proofs.Common.{ℕ, ◌≤◌, Result, Ok, Err, IfOk, arith}
use Rattle.core_terms.specs.Answers.{SpentOr, and_next, on_answer}
use Rattle.case_trees.specs.Stops.{TreeStop, Stopping}

-- no units are given back
on_answer-spends : {A B E : Type 0} (r : Result A E) (rest left : ℕ) (go : A → ℕ → SpentOr E B) → rest ≤ left
    → ((a : A) (next : ℕ) → (go a next).1 ≤ next) → (on_answer r rest go).1 ≤ left
on_answer-spends (Ok a) rest left go le h = let k : (go a rest).1 ≤ rest = h a rest in omega arith
on_answer-spends (Err e) rest left go le h = le

pub and_next-spends : {A B E : Type 0} (first : SpentOr E A) (left : ℕ) (go : A → ℕ → SpentOr E B) → first.1 ≤ left
    → ((a : A) (next : ℕ) → (go a next).1 ≤ next) → (and_next first go).1 ≤ left
and_next-spends first left go le h = on_answer-spends first.0 first.1 left go le h

-- a property of answers, and one of refusals
abbrev pub Holds : {A : Type 0} → (A → Type 0) → (TreeStop → Type 0) → Result A TreeStop → Type 0
Holds P Q (Ok a) = P a
Holds P Q (Err e) = Q e

on_answer-holds : {A B : Type 0} (P : A → Type 0) (R : B → Type 0) (Q : TreeStop → Type 0) (r : Result A TreeStop) (rest : ℕ) (go : A → ℕ → Stopping B)
    → Holds P Q r → ((a : A) → P a → Holds R Q (go a rest).0) → Holds R Q (on_answer r rest go).0
on_answer-holds P R Q (Ok a) rest go h k = k a h
on_answer-holds P R Q (Err e) rest go h k = h

pub and_next-holds : {A B : Type 0} (P : A → Type 0) (R : B → Type 0) (Q : TreeStop → Type 0) (first : Stopping A) (go : A → ℕ → Stopping B)
    → Holds P Q first.0 → ((a : A) (rest : ℕ) → P a → Holds R Q (go a rest).0) → Holds R Q (and_next first go).0
and_next-holds P R Q first go h k = on_answer-holds P R Q first.0 first.1 go h (λ a p. k a first.1 p)

-- a property of answers alone
on_answer-ok : {A B E : Type 0} (P : A → Type 0) (R : B → Type 0) (r : Result A E) (rest : ℕ) (go : A → ℕ → SpentOr E B) → IfOk r P
    → ((a : A) → P a → IfOk (go a rest).0 R) → IfOk (on_answer r rest go).0 R
on_answer-ok P R (Ok a) rest go h k = k a h
on_answer-ok P R (Err e) rest go h k = tt

pub and_next-ok : {A B E : Type 0} (P : A → Type 0) (R : B → Type 0) (first : SpentOr E A) (go : A → ℕ → SpentOr E B) → IfOk first.0 P
    → ((a : A) (rest : ℕ) → P a → IfOk (go a rest).0 R) → IfOk (and_next first go).0 R
and_next-ok P R first go h k = on_answer-ok P R first.0 first.1 go h (λ a p. k a first.1 p)

-- a property of answers and refusals gives one of answers alone
pub answer-of : {A : Type 0} (P R : A → Type 0) (Q : TreeStop → Type 0) (r : Result A TreeStop) → ((a : A) → P a → R a) → Holds P Q r → IfOk r R
answer-of P R Q (Ok a) k h = k a h
answer-of P R Q (Err e) k h = tt
