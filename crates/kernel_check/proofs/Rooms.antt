-- Terms that are imported into a store before a call: a refusal of the import is one of the call, and want of room is want of memory.
use Rattle.std.proofs.Common.{◌≡◌, ℕ, ◌+◌, ◌<◌, Result, Ok, Err, IsErrAnd, refl, sym, ap, ◌∙◌, subst, arith}
use Rattle.theory.specs.Terms.{Term, height}
use Rattle.core_terms.specs.Answers.{Gives, Runs, Spent}
use Rattle.core_terms.specs.declared.stop.Stop.{Stop}
use Rattle.core_terms.specs.declared.stop.Stop.TheVariants.{Memory, Fuel, Deep, PoolFull}
use Rattle.kernel_reduce.specs.Reduction.{answered}
use Rattle.store_reduce.specs.Runs.{RunsIn}
use Rattle.kernel_check.specs.Rooms.{without_room}

answer-without_room : {A B : Type 0} (f : A → B) (r : Result A Stop) (left : ℕ) (meant : Spent B) → RunsIn f r left meant → Runs f (without_room r) left meant
answer-without_room f (Ok a) left meant h = h
answer-without_room f (Err Memory) left meant h = λ other. absurd (other refl)
answer-without_room f (Err PoolFull) left meant h = λ other. absurd (other refl)
answer-without_room f (Err Fuel) left meant h = λ other. h other (λ x. cc)
answer-without_room f (Err Deep) left meant h = λ other. h other (λ x. cc)

pub runs-without_room : {A B : Type 0} (f : A → B) (r answer : Result A Stop) (left : ℕ) (meant : Spent B) → r ≡ without_room answer → RunsIn f answer left meant
    → Runs f r left meant
runs-without_room f r answer left meant e h = subst (λ x. Runs f x left meant) (sym e) (answer-without_room f answer left meant h)

-- a term that is refused, though there is memory and room, is too high
pub import-refused : {A : Type 0} {e : Stop} (t : Term) (left : ℕ) (meant : Spent A) → (e ≡ Deep) × (2000 < 0 + height t) → (2000 < height t → answered (Err Deep) left ≡ meant)
    → answered (Err e) left ≡ meant
import-refused t left meant refused high = ap (λ s. answered (Err s) left) refused.0 ∙ high (omega (arith, refused.1))

-- an error that is passed on
pub refused-runs : {A B : Type 0} {e : Stop} (f : A → B) (r : Result A Stop) (left : ℕ) (meant : Spent B) → IsErrAnd r (λ given. given ≡ e)
    → ((e ≡ Memory → ⊥) → (e ≡ PoolFull → ⊥) → answered (Err e) left ≡ meant) → RunsIn f r left meant
refused-runs f (Ok a) left meant given h = absurd given
refused-runs f (Err e) left meant given h = subst (λ x. RunsIn f (Err x) left meant) (sym given) h

-- what a call answers over the store is written out
pub export-runs : {A B C : Type 0} (f : A → C) (g : B → C) (r : Result B Stop) (a : A) (left : ℕ) (meant : Spent C) → RunsIn f (Ok a) left meant
    → Gives g r (Ok (f a)) → RunsIn g r left meant
export-runs f g (Ok b) a left meant h gives = ap (λ x. answered x left) gives ∙ h
export-runs f g (Err e) a left meant h gives = λ memory room. let never = gives memory in absurd cc
