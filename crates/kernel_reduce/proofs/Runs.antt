-- A property of the meant answer is one of the call's answer.
use Rattle.std.proofs.Common.{◌≡◌, ℕ, Result, Ok, IfOk, sym, ap, subst as transport}
use Rattle.core_terms.specs.Answers.{IsUnforeseen, Spent, Runs}
use Rattle.core_terms.proofs.Answers.{spends-has}
use Rattle.core_terms.specs.declared.stop.Stop.{Stop}

pub meant-has : {B : Type 0} (P : B → Type 0) (b : B) (left : ℕ) (meant : Spent B) → ◌≡◌ {A = Spent B} (Ok b, left) meant → IfOk meant.0 P → P b
meant-has P b left meant e h = transport (λ r. IfOk r P) (sym (ap (λ (s : Spent _). s.0) e)) h

pub runs-has : {A B : Type 0} (f : A → B) (P : B → Type 0) (result : Result A Stop) (left : ℕ) (meant : Spent B) → Runs f result left meant → IfOk meant.0 P → IfOk result (λ a. P (f a))
runs-has f P result left meant e h = spends-has IsUnforeseen (λ x. x) f P result left meant e h
