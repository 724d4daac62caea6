-- The turn of a trial of deletion.
use Rattle.std.proofs.Common.{◌≡◌, ℕ, true, false, cond, Option, Some, None, Result, Ok, Err, sym, ap, ◌∙◌, subst as transport}
use Rattle.theory.specs.Terms.{Term}
use Rattle.theory.specs.Signatures.{Signature}
use Rattle.core_terms.specs.Answers.{IsUnforeseen, Spent, Unless}
use Rattle.core_terms.specs.declared.stop.Stop.{Stop}
use Rattle.kernel_reduce.specs.Comparison.{convertible_of}
use Rattle.kernel_reduce.specs.Reduction.{answered, nesting}
use Rattle.kernel_reduce.specs.Tidying.{tidy_of}
use Rattle.unification.specs.Deletions.{delete, deletion_step, deletion_trial, if_convertible}
use Rattle.unification.specs.Heights.{bounded_state}
use Rattle.unification.specs.Solving.{deleted_state}
use Rattle.unification.specs.States.{Equation, State}
use Rattle.unification.specs.Turns.{Goes, Trial, applies, goes_to, on_tidied, sticks_at, tidied, type_in}
use Rattle.unification.specs.declared.why.Why.TheVariants.{NeedsK}
use Rattle.unifier.proofs.SolutionTrials.{answered-first, refused-first}

-- the comparison is refused
pub deletion-refused : (S : Signature) (s : State) (e : Equation) (left rest : ℕ) (x : Stop)
    → Unless (IsUnforeseen x) ((Err x, rest) ≡ convertible_of S nesting e.left e.right left) → Unless (IsUnforeseen x) ((Err x, rest) ≡ deletion_trial S s e left)
deletion-refused S s e left rest x h = refused-first x rest (convertible_of S nesting e.left e.right left) (λ holds rest. if_convertible S s e holds rest) h

-- the sides are not convertible
pub deletion-none : (S : Signature) (s : State) (e : Equation) (left rest : ℕ) → (Ok false, rest) ≡ convertible_of S nesting e.left e.right left
    → answered (Ok None) rest ≡ deletion_trial S s e left
deletion-none S s e left rest h =
    answered-first false rest (convertible_of S nesting e.left e.right left) (λ holds rest. if_convertible S s e holds rest) h

-- they are, without K
pub deletion-sticks : (S : Signature) (s : State) (e : Equation) (left rest : ℕ) → S.has_k ≡ false → (Ok true, rest) ≡ convertible_of S nesting e.left e.right left
    → sticks_at S NeedsK e.left e.right rest ≡ deletion_trial S s e left
deletion-sticks S s e left rest k h =
    ap (λ b. cond {A = Trial} b (delete S s e) (sticks_at S NeedsK e.left e.right) rest) (sym k)
    ∙ answered-first true rest (convertible_of S nesting e.left e.right left) (λ holds rest. if_convertible S s e holds rest) h

-- they are, with K
pub deletion-deletes : (S : Signature) (s : State) (e : Equation) (left rest : ℕ) → S.has_k ≡ true → (Ok true, rest) ≡ convertible_of S nesting e.left e.right left
    → delete S s e rest ≡ deletion_trial S s e left
deletion-deletes S s e left rest k h =
    ap (λ b. cond {A = Trial} b (delete S s e) (sticks_at S NeedsK e.left e.right) rest) (sym k)
    ∙ answered-first true rest (convertible_of S nesting e.left e.right left) (λ holds rest. if_convertible S s e holds rest) h

-- the trial at the tidied type
abbrev on_type : Signature → State → Equation → Term → Trial
on_type S s e A = on_tidied S e.left e.right (λ u v. goes_to (deletion_step A u v) (bounded_state (deleted_state s e.place.level A u)))

abbrev on_sides : State → Equation → Term → Term × Term → Trial
on_sides s e A sides = goes_to (deletion_step A sides.0 sides.1) (bounded_state (deleted_state s e.place.level A sides.0))

pub type-refused : (S : Signature) (s : State) (e : Equation) (rest end : ℕ) (x : Stop) (A : Term) → A ≡ type_in e.type
    → Unless (IsUnforeseen x) ((Err x, end) ≡ tidy_of S rest A) → Unless (IsUnforeseen x) ((Err x, end) ≡ delete S s e rest)
type-refused S s e rest end x A is h =
    refused-first x end (tidy_of S rest (type_in e.type)) (λ A rest. on_type S s e A rest)
    (transport (λ A. Unless (IsUnforeseen x) ((Err x, end) ≡ tidy_of S rest A)) is h)

type-tidied : (S : Signature) (s : State) (e : Equation) (rest end : ℕ) (A B : Term) → A ≡ type_in e.type → (Ok B, end) ≡ tidy_of S rest A
    → on_type S s e B end ≡ delete S s e rest
type-tidied S s e rest end A B is h =
    answered-first B end (tidy_of S rest (type_in e.type)) (λ A rest. on_type S s e A rest) (transport (λ A. (Ok B, end) ≡ tidy_of S rest A) is h)

pub sides-refuse : (S : Signature) (s : State) (e : Equation) (rest mid end : ℕ) (x : Stop) (A B : Term) → A ≡ type_in e.type → (Ok B, mid) ≡ tidy_of S rest A
    → Unless (IsUnforeseen x) ((Err x, end) ≡ tidied S e.left e.right mid) → Unless (IsUnforeseen x) ((Err x, end) ≡ delete S s e rest)
sides-refuse S s e rest mid end x A B is h k = λ other.
    refused-first x end (tidied S e.left e.right mid) (λ sides rest. on_sides s e B sides rest) k other ∙ type-tidied S s e rest mid A B is h

pub sides-tidied : (S : Signature) (s : State) (e : Equation) (rest mid end : ℕ) (A B u v : Term) → A ≡ type_in e.type → (Ok B, mid) ≡ tidy_of S rest A
    → (Ok (u, v), end) ≡ tidied S e.left e.right mid → on_sides s e B (u, v) end ≡ delete S s e rest
sides-tidied S s e rest mid end A B u v is h k =
    answered-first (u, v) end (tidied S e.left e.right mid) (λ sides rest. on_sides s e B sides rest) k ∙ type-tidied S s e rest mid A B is h

-- the state that is made is too high, or the next one
pub goes-refused : (s : State) (e : Equation) (end : ℕ) (x : Stop) (B u v : Term) → Unless (IsUnforeseen x) (Err x ≡ bounded_state (deleted_state s e.place.level B u))
    → Unless (IsUnforeseen x) ((Err x, end) ≡ on_sides s e B (u, v) end)
goes-refused s e end x B u v h =
    refused-first x end (answered (bounded_state (deleted_state s e.place.level B u)) end) (λ t rest. applies (Goes (deletion_step B u v) t) rest)
    (λ other. ap (λ m. answered m end) (h other))

pub goes-on : (s t : State) (e : Equation) (end : ℕ) (B u v : Term) → Ok t ≡ bounded_state (deleted_state s e.place.level B u)
    → answered (Ok (Some (Goes (deletion_step B u v) t))) end ≡ on_sides s e B (u, v) end
goes-on s t e end B u v h =
    answered-first t end (answered (bounded_state (deleted_state s e.place.level B u)) end) (λ t rest. applies (Goes (deletion_step B u v) t) rest)
    (ap (λ m. answered m end) h)
