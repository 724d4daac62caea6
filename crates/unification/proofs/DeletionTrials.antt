-- The turns of the trial of a deletion, which takes the first equation out, and of the last trial, which says why no rule applies.
use Rattle.std.proofs.Common.{◌≡◌, ℕ, ◌+◌, ◌<◌, ◌≤◌, ◌⊎◌, inl, inr, Bool, true, false, IsTrue, Some, List, [], ◌∷◌, length, drop, slice_get, refl, arith}
use Rattle.theory.specs.Terms.{Term}
use Rattle.theory.specs.Signatures.{Signature, reflexivity}
use Rattle.theory.specs.Conversion.{Converts}
use Rattle.theory.proofs.Congruence.{converts-trans, converts-sym}
use Rattle.core_terms.specs.declared.case_tree.Rule.TheVariants.{Delete}
use Rattle.core_terms.specs.Levels.{variable}
use Rattle.unification.specs.States.{Equation, State}
use Rattle.unification.specs.Moving.{over_first, behind}
use Rattle.unification.specs.Solving.{deleted_state}
use Rattle.unification.specs.Runs.{size_of_sides}
use Rattle.unification.specs.Heights.{bounded_state}
use Rattle.unification.specs.Turns.{Goes, Sticks, type_in}
use Rattle.unification.specs.Deletions.{deletion_step, delete, if_convertible, deletion_trial}
use Rattle.unification.specs.Sticking.{why_stuck, stuck_trial}
use Rattle.unification.specs.Laws.{Falls}
use Rattle.unification.specs.Laws.Falls.{units, size}
use Rattle.unification.specs.Rules.Steps.{delete as deleted}
use Rattle.unification.specs.ScopedStates.{IsReady, IsScopedState}
use Rattle.unification.specs.declared.why.Why.TheVariants.{NeedsK}
use Rattle.unification.proofs.Cases.{less-or_same}
use Rattle.unification.proofs.Comparisons.{compared-within}
use Rattle.unification.proofs.MovedStates.{deleted_state-scoped}
use Rattle.unification.proofs.Reducts.{reduced-within}
use Rattle.unification.proofs.ScopedEquations.{bounded_state-has}
use Rattle.unification.proofs.Sizes.{size-positive, sides-moved, sides-behind}
use Rattle.unification.proofs.Trials.{Found, Comes, none-comes, applies-comes, goes_to-comes, cond-comes, on_tidied-comes}
use Rattle.unification.proofs.TurnProperties.{IsTurn, AreScopedSides, sticks-is, sticks_at-is, tried, first-at, type-scoped, first-as, single-scoped}

-- the equations after a deletion are smaller
deleted-smaller : (s : State) (e : Equation) (i : ℕ) (A u : Term) → slice_get s.equations 0 ≡ Some e
    → size_of_sides (deleted_state s i A u).equations < size_of_sides s.equations
deleted-smaller s e i A u at =
    let n = length s.context in
    let items = behind n 1 n variable (over_first n (u ∷ [])) in
    let types = behind n 1 n variable (over_first n (reflexivity i A u ∷ [])) in
    let same : size_of_sides (deleted_state s i A u).equations ≡ size_of_sides (drop 1 s.equations) =
    sides-moved items types (λ t. t) (n + 1) n (drop 1 s.equations) (λ t. refl) in
    let after = sides-behind s.equations 0 e at in
    let positive = size-positive e.left in
    omega arith

deleted-falls : (s : State) (left : ℕ) (e : Equation) (i : ℕ) (A u : Term) (rest : ℕ) → slice_get s.equations 0 ≡ Some e
    → (rest < left) ⊎ (rest ≡ left) → Falls s left (deleted_state s i A u) rest
deleted-falls s left e i A u rest at (inl less) = units less
deleted-falls s left e i A u rest at (inr same) = size same refl (deleted-smaller s e i A u at)

delete-is : (S : Signature) (s : State) (left : ℕ) (e : Equation) (others : List Equation) → s.equations ≡ e ∷ others → S.has_k ≡ true
    → Converts S e.left e.right → (rest : ℕ) → rest ≤ left → Comes (IsTurn S s left) (delete S s e) rest
delete-is S s left e others first on converts rest le =
    reduced-within (Found (IsTurn S s left)) S false (type_in e.type) rest _ (λ A middle l hA.
    on_tidied-comes (IsTurn S s left) S e.left e.right _ middle (λ u v end l' hu hv.
    goes_to-comes (IsTurn S s left) (deletion_step A u v) (bounded_state (deleted_state s e.place.level A u)) end
    (bounded_state-has (λ t. IsTurn S s left (Goes (deletion_step A u v) t) end) (deleted_state s e.place.level A u)
    (record {
      allowed = record {
        falls = deleted-falls s left e e.place.level A u end (first-at s e others first) (less-or_same end left (omega arith));
        whole = refl;
        deletes = λ none. absurd cc;
      };
      right = λ ready scoped.
          (let is = tried S s e others first scoped in
          let n = length s.context in
          let type = hA.reduct.scoped n ready.scoped (type-scoped S s e is) in
          let term = hu.scoped n ready.scoped is.equation.left in
          record {
            good = (
              (
                single-scoped S n Delete A u v type term (hv.scoped n ready.scoped is.equation.right),
                deleted_state-scoped S s e.place.level A u ready scoped is.equation.level type term,
              ),
              refl,
            );
            follows =
                deleted s e A u v on (first-as S s e A u v is hA.reduct.converts hu.converts hv.converts)
                (converts-trans (converts-sym hu.converts) (converts-trans converts hv.converts));
          });
    }))))

sides-scoped : (S : Signature) (s : State) (e : Equation) (others : List Equation) → s.equations ≡ e ∷ others → IsReady S → IsScopedState S s
    → AreScopedSides S s e.left e.right
sides-scoped S s e others first ready scoped = let is = tried S s e others first scoped in (is.equation.left, is.equation.right)

pub deletion_trial-is : (S : Signature) (s : State) (left : ℕ) (e : Equation) (others : List Equation) → s.equations ≡ e ∷ others → (rest : ℕ) → rest ≤ left
    → Comes (IsTurn S s left) (deletion_trial S s e) rest
deletion_trial-is S s left e others first rest le =
    compared-within (Found (IsTurn S s left)) S e.left e.right rest (λ holds end. if_convertible S s e holds end) (λ holds end l h. by holds h end (omega arith))
  where
    by : (holds : Bool) → (IsTrue holds → Converts S e.left e.right) → (end : ℕ) → end ≤ left → Comes (IsTurn S s left) (if_convertible S s e holds) end
    by true h end l =
        cond-comes (IsTurn S s left) S.has_k _ _ end (λ on. delete-is S s left e others first on (h refl) end l)
        (λ off. sticks_at-is S s left NeedsK e.left e.right end (sides-scoped S s e others first))
    by false h end l = none-comes (IsTurn S s left) end

-- ---- no rule goes on

pub stuck_trial-is : (S : Signature) (s : State) (left : ℕ) (e : Equation) (others : List Equation) → s.equations ≡ e ∷ others → (rest : ℕ)
    → Comes (IsTurn S s left) (stuck_trial S e) rest
stuck_trial-is S s left e others first rest =
    on_tidied-comes (IsTurn S s left) S e.left e.right _ rest (λ u v end l hu hv.
    applies-comes (IsTurn S s left) (Sticks (why_stuck S u v) u v) end
    (sticks-is S s left (why_stuck S u v) e.left e.right u v end (sides-scoped S s e others first) hu hv))
