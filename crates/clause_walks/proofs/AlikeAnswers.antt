-- Two calls that answer alike: their answers are in a relation, and their refusals and units are the same.
use Rattle.std.proofs.Common.{◌≡◌, ℕ, Bool, true, false, cond, Result, Ok, Err, IfOk, refl, ap, ap₂, subst as transport}
use Rattle.core_terms.specs.Answers.{Spent, SpentOr, and_then, on_answer, and_next}
use Rattle.core_terms.specs.declared.stop.Stop.{Stop}
use Rattle.case_trees.specs.Stops.{Halts, or_halts, halting}

abbrev pub Alike : {A B E : Type 0} → (A → B → Type 0) → Result A E → Result B E → Type 0
Alike R (Ok a) (Ok b) = R a b
Alike R (Ok a) (Err f) = ⊥
Alike R (Err e) (Ok b) = ⊥
Alike R (Err e) (Err f) = e ≡ f

-- the answers are alike, and as many units are left
abbrev pub RunAlike : {A B E : Type 0} → (A → B → Type 0) → SpentOr E A → SpentOr E B → Type 0
RunAlike R one other = Alike R one.0 other.0 × (one.1 ≡ other.1)

-- ---- one answer

pub itself : {A E : Type 0} (R : A → A → Type 0) (r : Result A E) → ((a : A) → R a a) → Alike R r r
itself R (Ok a) h = h a
itself R (Err e) h = refl

pub run-itself : {A E : Type 0} (R : A → A → Type 0) (run : SpentOr E A) → ((a : A) → R a a) → RunAlike R run run
run-itself R run h = (itself R run.0 h, refl)

abbrev spent : {A E : Type 0} → Result A E → ℕ → SpentOr E A
spent r left = (r, left)

equal-results : {A E : Type 0} (r q : Result A E) → Alike (λ a b. a ≡ b) r q → r ≡ q
equal-results (Ok a) (Ok b) h = ap Ok h
equal-results (Err e) (Err f) h = ap Err h
equal-results (Ok a) (Err f) h = absurd h
equal-results (Err e) (Ok b) h = absurd h

-- answers with units that are alike by equality are equal
pub run-equal : {A E : Type 0} (one other : SpentOr E A) → RunAlike (λ a b. a ≡ b) one other → one ≡ other
run-equal one other h = ap₂ (λ r left. spent r left) (equal-results one.0 other.0 h.0) h.1

pub equal-run : {A E : Type 0} (one other : SpentOr E A) → one ≡ other → RunAlike (λ a b. a ≡ b) one other
equal-run one other e = transport (λ x. RunAlike (λ a b. a ≡ b) one x) e (run-itself (λ a b. a ≡ b) one (λ a. refl))

-- ---- one call after the other

pub and_then-alike : {A B C D E : Type 0} (R : A → B → Type 0) (Q : C → D → Type 0) (one : Result A E) (other : Result B E) (go : A → Result C E)
    (further : B → Result D E) → Alike R one other → ((a : A) (b : B) → R a b → Alike Q (go a) (further b))
    → Alike Q (and_then one go) (and_then other further)
and_then-alike R Q (Ok a) (Ok b) go further h k = k a b h
and_then-alike R Q (Err e) (Err f) go further h k = h
and_then-alike R Q (Ok a) (Err f) go further h k = absurd h
and_then-alike R Q (Err e) (Ok b) go further h k = absurd h

on_answer-alike : {A B C D E : Type 0} (R : A → B → Type 0) (Q : C → D → Type 0) (one : Result A E) (other : Result B E) (left rest : ℕ)
    (go : A → ℕ → SpentOr E C) (further : B → ℕ → SpentOr E D) → Alike R one other → left ≡ rest
    → ((a : A) (b : B) (next : ℕ) → R a b → RunAlike Q (go a next) (further b next))
    → RunAlike Q (on_answer one left go) (on_answer other rest further)
on_answer-alike R Q (Ok a) (Ok b) left rest go further h same k = transport (λ n. RunAlike Q (go a left) (further b n)) same (k a b left h)
on_answer-alike R Q (Err e) (Err f) left rest go further h same k = (h, same)
on_answer-alike R Q (Ok a) (Err f) left rest go further h same k = absurd h
on_answer-alike R Q (Err e) (Ok b) left rest go further h same k = absurd h

pub and_next-alike : {A B C D E : Type 0} (R : A → B → Type 0) (Q : C → D → Type 0) (one : SpentOr E A) (other : SpentOr E B) (go : A → ℕ → SpentOr E C)
    (further : B → ℕ → SpentOr E D) → RunAlike R one other → ((a : A) (b : B) (next : ℕ) → R a b → RunAlike Q (go a next) (further b next))
    → RunAlike Q (and_next one go) (and_next other further)
and_next-alike R Q one other go further h k = on_answer-alike R Q one.0 other.0 one.1 other.1 go further h.0 h.1 k

on_answer-goes : {A C D E : Type 0} (Q : C → D → Type 0) (one : Result A E) (left : ℕ) (go : A → ℕ → SpentOr E C) (further : A → ℕ → SpentOr E D)
    → ((a : A) (next : ℕ) → RunAlike Q (go a next) (further a next)) → RunAlike Q (on_answer one left go) (on_answer one left further)
on_answer-goes Q (Ok a) left go further k = k a left
on_answer-goes Q (Err e) left go further k = (refl, refl)

-- one call, after which both go on
pub and_next-goes : {A C D E : Type 0} (Q : C → D → Type 0) (one : SpentOr E A) (go : A → ℕ → SpentOr E C) (further : A → ℕ → SpentOr E D)
    → ((a : A) (next : ℕ) → RunAlike Q (go a next) (further a next)) → RunAlike Q (and_next one go) (and_next one further)
and_next-goes Q one go further k = on_answer-goes Q one.0 one.1 go further k

-- ---- tests, and refusals by another name

pub cond-alike : {A B E : Type 0} (R : A → B → Type 0) (test other_test : Bool) (a : A) (b : B) (e : E) → test ≡ other_test → R a b
    → Alike R (cond test (Ok a) (Err e)) (cond other_test (Ok b) (Err e))
cond-alike R true other_test a b e same h = transport (λ t. Alike R (Ok a) (cond t (Ok b) (Err e))) same h
cond-alike R false other_test a b e same h = transport (λ t. Alike R (Err e) (cond t (Ok b) (Err e))) same refl

pub or_halts-alike : {A B : Type 0} (R : A → B → Type 0) (one : Result A Stop) (other : Result B Stop) → Alike R one other
    → Alike R (or_halts one) (or_halts other)
or_halts-alike R (Ok a) (Ok b) h = h
or_halts-alike R (Err e) (Err f) h = transport (λ (x : Stop). Halts e ≡ Halts x) h refl
or_halts-alike R (Ok a) (Err f) h = absurd h
or_halts-alike R (Err e) (Ok b) h = absurd h

pub halting-alike : {A B : Type 0} (R : A → B → Type 0) (one : Spent A) (other : Spent B) → RunAlike R one other → RunAlike R (halting one) (halting other)
halting-alike R one other h = (or_halts-alike R one.0 other.0 h.0, h.1)

-- with a property of the first answer
pub with-fact : {A B E : Type 0} (R : A → B → Type 0) (P : A → Type 0) (Q : A → B → Type 0) (one : SpentOr E A) (other : SpentOr E B) → RunAlike R one other
    → IfOk one.0 P → ((a : A) (b : B) → R a b → P a → Q a b) → RunAlike Q one other
with-fact {A = A} {B = B} {E = E} R P Q one other h has k = (by one.0 other.0 h.0 has, h.1)
  where
    by : (r : Result A E) (q : Result B E) → Alike R r q → IfOk r P → Alike Q r q
    by (Ok a) (Ok b) is p = k a b is p
    by (Err e) (Err f) is p = is
    by (Ok a) (Err f) is p = absurd is
    by (Err e) (Ok b) is p = absurd is
