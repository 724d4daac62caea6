-- A computation that consists of computations whose answers have a property has one of its answer.
use Rattle.std.proofs.Common.{ℕ, zero, suc, Bool, true, false, cond, if◌then◌else◌, Option, Some, None, IfSome, Result, Ok, Err, IfOk}
use Rattle.theory.specs.Terms.{Term}
use Rattle.core_terms.specs.Answers.{Spent, SpentOr, on_answer, and_next, and_then, bounded}
use Rattle.kernel_reduce.specs.Reduction.{charge, if_low}

-- a refusal, or an answer that has P
pub record Gives {A E : Type 0} (P : A → Type 0) (answer : Result A E) : Type 0 where
  pub is : IfOk answer P

-- such an answer, with the units that are left
pub record Ends {A E : Type 0} (P : A → Type 0) (spent : SpentOr E A) : Type 0 where
  pub only : Gives P spent.0

-- a value that is there has P
pub record Found {A : Type 0} (P : A → Type 0) (found : Option A) : Type 0 where
  pub is : IfSome found P

pub ok : {A E : Type 0} {P : A → Type 0} {a : A} → P a → Gives {E = E} P (Ok a)
ok h = record { is = h }

pub no : {A E : Type 0} {P : A → Type 0} {e : E} → Gives P (Err e)
no = record { is = tt }

pub now : {A E : Type 0} {P : A → Type 0} {r : Result A E} {left : ℕ} → Gives P r → Ends P (r, left)
now h = record { only = h }

pub done : {A E : Type 0} {P : A → Type 0} {a : A} {left : ℕ} → P a → Ends {E = E} P (Ok a, left)
done h = now (ok h)

pub refused : {A E : Type 0} {P : A → Type 0} {e : E} {left : ℕ} → Ends P (Err e, left)
refused = now no

pub some : {A : Type 0} {P : A → Type 0} {a : A} → P a → Found P (Some a)
some h = record { is = h }

pub none : {A : Type 0} {P : A → Type 0} → Found P None
none = record { is = tt }

-- nothing is said
abbrev pub Any : {A : Type 0} → A → Type 0
Any a = Unit {0}

pub any : {A E : Type 0} (r : Result A E) → Gives Any r
any (Ok a) = ok tt
any (Err e) = no

pub anyhow : {A E : Type 0} (spent : SpentOr E A) → Ends Any spent
anyhow spent = record { only = any spent.0 }

-- one computation, and what goes on with its answer
pub next : {A B E : Type 0} {P : A → Type 0} {Q : B → Type 0} {first : SpentOr E A} {go : A → ℕ → SpentOr E B} → Ends P first
    → ((a : A) (left : ℕ) → P a → Ends Q (go a left)) → Ends Q (and_next first go)
next {A} {B} {E} {P} {Q} {first} {go} h k = on first.0 first.1 h.only.is
  where
    on : (r : Result A E) (left : ℕ) → IfOk r P → Ends Q (on_answer r left go)
    on (Ok a) left p = k a left p
    on (Err e) left p = refused

pub and-then : {A B E : Type 0} {P : A → Type 0} {Q : B → Type 0} {first : Result A E} {go : A → Result B E} → Gives P first
    → ((a : A) → P a → Gives Q (go a)) → Gives Q (and_then first go)
and-then {A} {B} {E} {P} {Q} {first} {go} h k = on first h.is
  where
    on : (r : Result A E) → IfOk r P → Gives Q (and_then r go)
    on (Ok a) p = k a p
    on (Err e) p = no

-- one or the other
pub either : {A E : Type 0} {P : A → Type 0} (test : Bool) {x y : Result A E} → Gives P x → Gives P y → Gives P (cond test x y)
either {A} {E} {P} test {x} {y} h k = by test
  where
    by : (b : Bool) → Gives P (cond b x y)
    by true = h
    by false = k

pub either-ends : {A E : Type 0} {P : A → Type 0} (test : Bool) {x y : SpentOr E A} → Ends P x → Ends P y → Ends P (cond test x y)
either-ends {A} {E} {P} test {x} {y} h k = by test
  where
    by : (b : Bool) → Ends P (cond b x y)
    by true = h
    by false = k

pub either-found : {A : Type 0} {P : A → Type 0} (test : Bool) {x y : Option A} → Found P x → Found P y → Found P (cond test x y)
either-found {A} {P} test {x} {y} h k = by test
  where
    by : (b : Bool) → Found P (cond b x y)
    by true = h
    by false = k

pub if-else : {A E : Type 0} {P : A → Type 0} (test : Bool) {x y : Result A E} → Gives P x → Gives P y → Gives P (if test then x else y)
if-else {A} {E} {P} test {x} {y} h k = by test
  where
    by : (b : Bool) → Gives P (if b then x else y)
    by true = h
    by false = k

-- an answer with a property has a weaker one
pub weaker : {A E : Type 0} {P Q : A → Type 0} {r : Result A E} → ((a : A) → P a → Q a) → Gives P r → Gives Q r
weaker {A} {E} {P} {Q} {r} k h = by r h.is
  where
    by : (x : Result A E) → IfOk x P → Gives Q x
    by (Ok a) p = ok (k a p)
    by (Err e) p = no

pub low : {P : Term → Type 0} (t : Term) → P t → Gives P (bounded t)
low t h = if-else _ (ok h) no

pub charged : {A : Type 0} {P : A → Type 0} {run : ℕ → Spent A} → ((left : ℕ) → Ends P (run left)) → (left : ℕ) → Ends P (charge run left)
charged h zero = refused
charged h (suc left) = h left

pub if-low : {A : Type 0} {P : A → Type 0} (test : Bool) {run : ℕ → Spent A} → ((left : ℕ) → Ends P (run left)) → (left : ℕ)
    → Ends P (if_low test run left)
if-low {A} {P} test {run} h left = by test
  where
    by : (b : Bool) → Ends P (if_low b run left)
    by true = h left
    by false = refused
