-- Equations between scoped terms at the places of a scoped telescope, and the states from which problems are solved.
use Rattle.std.proofs.Common.{◌≡◌, ℕ, suc, ◌+◌, ◌<◌, nat_le, Bool, true, false, cond, Ok, Err, IfOk, List, [], ◌∷◌, length, map, All, refl, sym, subst, arith}
use Rattle.std.proofs.lemmas.List.Elements.{All-head, All-tail}
use Rattle.std.proofs.lemmas.Result.{IfOk-at_ok}
use Rattle.theory.specs.Terms.{Term, top}
use Rattle.theory.specs.Telescopes.{Telescope}
use Rattle.theory.specs.Signatures.{Signature, equation}
use Rattle.theory.specs.SignatureScopes.{IsScoped, IsScopedTelescope}
use Rattle.core_terms.specs.Answers.{and_then, are_low, bounded_terms}
use Rattle.core_terms.specs.declared.stop.Stop.{Stop}
use Rattle.core_terms.specs.declared.stop.Stop.TheVariants.{Deep}
use Rattle.core_terms.proofs.Answers.{and_then-has}
use Rattle.kernel_reduce.proofs.ScopedTelescopes.{telescope-more}
use Rattle.tele_eq.specs.Items.{Item, level_at, each_position}
use Rattle.tele_eq.specs.ScopeLaws.{HasAllIdentities, AreScopedItems}
use Rattle.tele_eq.specs.TelescopicEquality.{equations, equation_behind}
use Rattle.tele_eq.proofs.ScopeLaws.{scoped_equations}
use Rattle.unification.specs.Heights.{bounded_items, bounded_state, equations_made, most_places, are_low_items, start_made}
use Rattle.unification.specs.Laws.{StartScoped}
use Rattle.unification.specs.ScopedStates.{AreScopedEquations, IsScopedState}
use Rattle.unification.specs.States.{Problem, State, equations_at, starting}
use Rattle.unification.proofs.ScopedRecords.{variables-scoped}

-- ---- their forms

-- each type is that of an equation at the level of its item
abbrev pub HaveForms : List Item → Telescope → Type 0
HaveForms (x ∷ X) (a ∷ types) = ((A : Term) × (u : Term) × (v : Term) × (a ≡ equation x.level A u v)) × HaveForms X types
HaveForms _ _ = Unit {0}

forms-from : (X : List Item) (f : ℕ → Term) (j : ℕ)
    → ((i m : ℕ) → m ≡ j + i → (A : Term) × (u : Term) × (v : Term) × (f m ≡ equation (level_at X i) A u v))
    → HaveForms X (each_position f j (length X))
forms-from [] f j each = tt
forms-from (x ∷ X) f j each =
    (each 0 j (omega arith), forms-from X f (j + 1) (λ i m e. each (suc i) m (omega arith)))

equations-form : (X : List Item) (left right : List Term) → HaveForms X (equations X left right)
equations-form X left right =
    forms-from X (equation_behind (length X) X left right) 0 each
  where
    each : (i m : ℕ) → m ≡ 0 + i → (A : Term) × (u : Term) × (v : Term) × (equation_behind (length X) X left right m ≡ equation (level_at X i) A u v)
    each i m e =
        subst
        (λ x. (A : Term) × (u : Term) × (v : Term) × (equation_behind (length X) X left right m ≡ equation (level_at X x) A u v))
        (let same : m ≡ i = omega arith in same)
        (_, _, _, refl)

-- ---- their scopes

equations_at-scoped : (S : Signature) (n k : ℕ) (X : List Item) (types : Telescope) (left right : List Term)
    → IsScopedTelescope S (n + k) (map (λ item. item.type) X) → All (λ item. item.level < top) X → IsScopedTelescope S (n + k) types → HaveForms X types
    → All (IsScoped S n) left → All (IsScoped S n) right → AreScopedEquations S n k (equations_at X types left right)
equations_at-scoped S n k [] types left right hx levels ht forms hl hr = tt
equations_at-scoped S n k (x ∷ X) [] left right hx levels ht forms hl hr = tt
equations_at-scoped S n k (x ∷ X) (a ∷ types) [] right hx levels ht forms hl hr = tt
equations_at-scoped S n k (x ∷ X) (a ∷ types) (u ∷ left) [] hx levels ht forms hl hr = tt
equations_at-scoped S n k (x ∷ X) (a ∷ types) (u ∷ left) (v ∷ right) hx levels ht forms hl hr = (
  record {
    place = hx.0;
    level = All-head (λ item. item.level < top) x X levels;
    form = record { A = forms.0.0; u = forms.0.1; v = forms.0.2; form = forms.0.3 };
    type = ht.0;
    left = All-head (IsScoped S n) u left hl;
    right = All-head (IsScoped S n) v right hr;
  },
  equations_at-scoped S n (k + 1) X types left right (telescope-more S (n + k + 1) (n + (k + 1)) (map (λ item. item.type) X) (omega arith) hx.1)
      (All-tail (λ item. item.level < top) x X levels) (telescope-more S (n + k + 1) (n + (k + 1)) types (omega arith) ht.1) forms.1
      (All-tail (IsScoped S n) u left hl) (All-tail (IsScoped S n) v right hr),
)

-- the equations of a telescope between two lists of terms
pub telescope-equations : (S : Signature) (n : ℕ) (X : List Item) (left right : List Term) → HasAllIdentities S → AreScopedItems S n X
    → All (IsScoped S n) left → All (IsScoped S n) right → AreScopedEquations S n 0 (equations_at X (equations X left right) left right)
telescope-equations S n X left right has items hl hr =
    equations_at-scoped S n 0 X (equations X left right) left right
    (telescope-more S n (n + 0) (map (λ item. item.type) X) (omega arith) items.types) items.levels
    (telescope-more S n (n + 0) (equations X left right) (omega arith) (scoped_equations S n X left right has items hl hr))
    (equations-form X left right) hl hr

-- ---- results, unless they are too high

cond-ok : {A : Type 0} (P : A → Type 0) (test : Bool) (a : A) → P a → IfOk {E = Stop} (cond test (Ok a) (Err Deep)) P
cond-ok P true a h = h
cond-ok P false a h = tt

pub bounded_state-has : (P : State → Type 0) (s : State) → P s → IfOk (bounded_state s) P
bounded_state-has P s h = cond-ok P _ s h

pub equations_made-has : (P : Telescope → Type 0) (X : List Item) (us vs : List Term) → P (equations X us vs) → IfOk (equations_made X us vs) P
equations_made-has P X us vs h = by (nat_le (length X) most_places)
  where
    inner : IfOk (and_then (bounded_items X) (λ items. bounded_terms (equations items us vs))) P
    inner =
        and_then-has (λ items. items ≡ X) P (bounded_items X) (λ items. bounded_terms (equations items us vs))
        (cond-ok (λ items. items ≡ X) (are_low_items X) X refl)
        (λ items e. cond-ok P (are_low (equations items us vs)) (equations items us vs) (subst (λ Y. P (equations Y us vs)) (sym e) h))

    by : (b : Bool) → IfOk {E = Stop} (cond b (and_then (bounded_items X) (λ items. bounded_terms (equations items us vs))) (Err Deep)) P
    by true = inner
    by false = tt

-- ---- the first state

pub start_made-has : (P : State → Type 0) (p : Problem) → P (starting p (equations p.telescope p.left p.right)) → IfOk (start_made p) P
start_made-has P p h =
    and_then-has (λ types. types ≡ equations p.telescope p.left p.right) P (equations_made p.telescope p.left p.right)
    (λ types. bounded_state (starting p types)) (equations_made-has (λ types. types ≡ equations p.telescope p.left p.right) p.telescope p.left p.right refl)
    (λ types e. bounded_state-has P (starting p types) (subst (λ x. P (starting p x)) (sym e) h))

pub start-is : (p : Problem) (s : State) → start_made p ≡ Ok s → s ≡ starting p (equations p.telescope p.left p.right)
start-is p s e = IfOk-at_ok (λ t. t ≡ starting p (equations p.telescope p.left p.right)) e (start_made-has (λ t. t ≡ starting p (equations p.telescope p.left p.right)) p refl)

pub start-scoped : StartScoped
start-scoped S p ready scoped = start_made-has (IsScopedState S) p (record {
  context = scoped.context;
  equations = telescope-equations S (length p.context) p.telescope p.left p.right ready.identities scoped.telescope scoped.left scoped.right;
  solution = variables-scoped S (length p.context) (length p.context) (omega arith);
})
