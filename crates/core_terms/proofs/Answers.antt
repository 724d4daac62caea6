-- Properties of an answer and of the units that are left after it, from those of the parts.
use Rattle.std.proofs.Common.{◌≡◌, ℕ, ◌≤◌, Bool, true, false, cond, Result, Ok, Err, IfOk, IfErr, refl, sym, subst as transport, arith}
use Rattle.std.proofs.lemmas.Bool.Decides.{nat_tests}
use Rattle.theory.specs.Terms.{Term, height}
use Rattle.core_terms.specs.Answers.{StandsFor, SpentOr, SpendsFor, and_then, on_answer, and_next, is_low, bounded}
use Rattle.core_terms.specs.declared.stop.Stop.{Stop}
use Rattle.core_terms.specs.declared.stop.Stop.TheVariants.{Deep}

-- a property of the meant value is one of the answer
pub stands-has : {A B E F : Type 0} (free : E → Type 0) (g : E → F) (f : A → B) (P : B → Type 0) (result : Result A E) (meant : Result B F)
    → StandsFor free g f result meant → IfOk meant P → IfOk result (λ a. P (f a))
stands-has free g f P (Ok a) meant is h = transport (λ r. IfOk r P) (sym is) h
stands-has free g f P (Err e) meant is h = tt

pub spends-has : {A B E F : Type 0} (free : E → Type 0) (g : E → F) (f : A → B) (P : B → Type 0) (result : Result A E) (left : ℕ) (meant : SpentOr F B)
    → SpendsFor free g f result left meant → IfOk meant.0 P → IfOk result (λ a. P (f a))
spends-has free g f P (Ok a) left meant is h = transport (λ r. IfOk r.0 P) (sym is) h
spends-has free g f P (Err e) left meant is h = tt

pub and_then-has : {A B E : Type 0} (P : A → Type 0) (Q : B → Type 0) (first : Result A E) (go : A → Result B E)
    → IfOk first P → ((a : A) → P a → IfOk (go a) Q) → IfOk (and_then first go) Q
and_then-has P Q (Ok a) go h k = k a h
and_then-has P Q (Err e) go h k = tt

-- the second part may use the answer of the first
pub and_then-is : {A B E : Type 0} (P : B → Type 0) (first : Result A E) (go : A → Result B E)
    → ((a : A) → first ≡ Ok a → IfOk (go a) P) → IfOk (and_then first go) P
and_then-is P (Ok a) go k = k a refl
and_then-is P (Err e) go k = tt

-- the answer, where there is one, has P
abbrev pub Answers : {A E : Type 0} → (A → Type 0) → SpentOr E A → Type 0
Answers P r = IfOk r.0 P

on_answer-has : {A B E : Type 0} (P : A → Type 0) (Q : B → Type 0) (r : Result A E) (left : ℕ) (go : A → ℕ → SpentOr E B)
    → IfOk r P → ((a : A) (rest : ℕ) → P a → Answers Q (go a rest)) → Answers Q (on_answer r left go)
on_answer-has P Q (Ok a) left go h k = k a left h
on_answer-has P Q (Err e) left go h k = tt

pub and_next-has : {A B E : Type 0} (P : A → Type 0) (Q : B → Type 0) (first : SpentOr E A) (go : A → ℕ → SpentOr E B)
    → Answers P first → ((a : A) (rest : ℕ) → P a → Answers Q (go a rest)) → Answers Q (and_next first go)
and_next-has P Q first go h k = on_answer-has P Q first.0 first.1 go h k

-- the answer has P, and the refusal N
abbrev pub Splits : {A E : Type 0} → (A → Type 0) → (E → Type 0) → Result A E → Type 0
Splits P N (Ok a) = P a
Splits P N (Err e) = N e

pub and_then-splits : {A B E : Type 0} (P : A → Type 0) (Q : B → Type 0) (N : E → Type 0) (first : Result A E) (go : A → Result B E)
    → Splits P N first → ((a : A) → P a → Splits Q N (go a)) → Splits Q N (and_then first go)
and_then-splits P Q N (Ok a) go h k = k a h
and_then-splits P Q N (Err e) go h k = h

on_answer-splits : {A B E : Type 0} (P : A → Type 0) (Q : B → Type 0) (N : E → Type 0) (r : Result A E) (left : ℕ) (go : A → ℕ → SpentOr E B)
    → Splits P N r → ((a : A) (rest : ℕ) → P a → Splits Q N (go a rest).0) → Splits Q N (on_answer r left go).0
on_answer-splits P Q N (Ok a) left go h k = k a left h
on_answer-splits P Q N (Err e) left go h k = h

pub and_next-splits : {A B E : Type 0} (P : A → Type 0) (Q : B → Type 0) (N : E → Type 0) (first : SpentOr E A) (go : A → ℕ → SpentOr E B)
    → Splits P N first.0 → ((a : A) (rest : ℕ) → P a → Splits Q N (go a rest).0) → Splits Q N (and_next first go).0
and_next-splits P Q N first go h k = on_answer-splits P Q N first.0 first.1 go h k

pub split-parts : {A E : Type 0} (P : A → Type 0) (N : E → Type 0) (r : Result A E) → Splits P N r → IfOk r P × IfErr r N
split-parts P N (Ok a) h = (h, tt)
split-parts P N (Err e) h = (tt, h)

on_answer-spends : {A B E : Type 0} (r : Result A E) (left all : ℕ) (go : A → ℕ → SpentOr E B)
    → left ≤ all → ((a : A) → (go a left).1 ≤ left) → (on_answer r left go).1 ≤ all
on_answer-spends (Ok a) left all go h k = let l = k a in omega arith
on_answer-spends (Err e) left all go h k = h

-- no units are given back if neither part gives any back
pub and_next-spends : {A B E : Type 0} (first : SpentOr E A) (go : A → ℕ → SpentOr E B) (left : ℕ)
    → first.1 ≤ left → ((a : A) (rest : ℕ) → (go a rest).1 ≤ rest) → (and_next first go).1 ≤ left
and_next-spends first go left h k = on_answer-spends first.0 first.1 left go h (λ a. k a first.1)

pub low-is : (t : Term) → is_low t ≡ true → height t ≤ 2000
low-is t h = grind (arith, nat_tests)

pub bounded-has : (P : Term → Type 0) (t : Term) → (height t ≤ 2000 → P t) → IfOk (bounded t) P
bounded-has P t h = go (is_low t) refl
  where
    go : (b : Bool) → is_low t ≡ b → IfOk {E = Stop} (cond b (Ok t) (Err Deep)) P
    go true e = h (low-is t e)
    go false e = tt
