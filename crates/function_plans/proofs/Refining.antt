-- Where a call of the code answers, it answers what is meant; and the answers of the calls before it.
use Rattle.std.proofs.Common.{◌≡◌, ℕ, Bool, true, false, cond, Result, Ok, Err, refl, ap, ◌∙◌}
use Rattle.core_terms.specs.Answers.{and_next, on_answer}
use Rattle.clause_reports.specs.elaboration.Refusals.{Elaborating, Refusal, answers}

abbrev pub Refines : {A : Type 0} → (made meant : Elaborating A) → Type 0
Refines {A} made meant = (a : A) (n : ℕ) → made ≡ answers (Ok a) n → meant ≡ answers (Ok a) n

-- a refusal is no answer
pub refused-answers : {A : Type 0} (e : Refusal) (left : ℕ) (a : A) (n : ℕ) → ◌≡◌ {A = Elaborating A} (answers (Err e) left) (answers (Ok a) n) → ⊥
refused-answers e left a n same = let first = ap (λ p. p.0) same in cc

pub cond-answer : {A : Type 0} (test : Bool) (r : Result A Refusal) (e : Refusal) (left : ℕ) → Refines (answers (cond test r (Err e)) left) (answers r left)
cond-answer true r e left = λ a n same. same
cond-answer false r e left = λ a n same. absurd (refused-answers e left a n same)

-- ---- the calls before an answer

pub record Passes {A B : Type 0} (p : Elaborating A) (go : A → ℕ → Elaborating B) (b : B) (n : ℕ) : Type 0 where
  pub first : A
  pub more : ℕ
  pub there : p ≡ answers (Ok first) more
  pub next : go first more ≡ answers (Ok b) n

pub passes : {A B : Type 0} (p : Elaborating A) (go : A → ℕ → Elaborating B) (b : B) (n : ℕ) → and_next p go ≡ answers (Ok b) n → Passes p go b n
passes {A = A} {B = B} p go b n e = by p.0 p.1 refl e
  where
    by : (r : Result A Refusal) (left : ℕ) → p ≡ answers r left → on_answer r left go ≡ answers (Ok b) n → Passes p go b n
    by (Ok a) left same e = record { first = a; more = left; there = same; next = e }
    by (Err x) left same e = absurd (refused-answers x left b n e)

pub refines-next : {A B : Type 0} (p q : Elaborating A) (f g : A → ℕ → Elaborating B) → Refines p q → ((a : A) (n : ℕ) → Refines (f a n) (g a n))
    → Refines (and_next p f) (and_next q g)
refines-next p q f g first next b n e =
    let passed = passes p f b n e in
    ap (λ walk. and_next walk g) (first passed.first passed.more passed.there) ∙ next passed.first passed.more b n passed.next
