-- Equations that move after other variables are scoped there, where the terms for their variables are.
use Rattle.std.proofs.Common.{◌≡◌, ℕ, zero, suc, ◌+◌, ◌-◌, ◌<◌, ◌≤◌, ◌⊎◌, inl, inr, IfSome, List, [], ◌∷◌, ◌++◌, length, drop, slice_get, All, ap, sym, subst, arith}
use Rattle.theory.specs.Terms.{Term}
use Rattle.theory.specs.Signatures.{Signature}
use Rattle.theory.specs.SignatureScopes.{IsScoped}
use Rattle.theory.proofs.ScopedTerms.{var-scoped, scoped_over_more}
use Rattle.tele_eq.specs.Environments.{Environment, put}
use Rattle.tele_eq.proofs.ScopedTerms.{in-outside}
use Rattle.unification.specs.Moving.{over_first, behind, moved_item, moved}
use Rattle.unification.specs.ScopedStates.{HasForm, IsScopedEquation, AreScopedEquations}
use Rattle.unification.specs.States.{Equation}
use Rattle.unification.proofs.Cases.{below-or_from, first-of_three, second-of_three, third-of_three}
use Rattle.unification.proofs.Occurring.{put-all}

pub equations-more : (S : Signature) (n k l : ℕ) (es : List Equation) → k ≡ l → AreScopedEquations S n k es → AreScopedEquations S n l es
equations-more S n k l es e h = subst (λ x. AreScopedEquations S n x es) e h

pub equations-append : (S : Signature) (n k : ℕ) (xs ys : List Equation) → AreScopedEquations S n k xs → AreScopedEquations S n (k + length xs) ys
    → AreScopedEquations S n k (xs ++ ys)
equations-append S n k [] ys h l = equations-more S n (k + 0) k ys (omega arith) l
equations-append S n k (x ∷ xs) ys h l =
    (h.0, equations-append S n (k + 1) xs ys h.1 (equations-more S n (k + length (x ∷ xs)) (k + 1 + length xs) ys (omega arith) l))

pub equations-drop : (S : Signature) (n k g : ℕ) (es : List Equation) → AreScopedEquations S n k es → AreScopedEquations S n (k + g) (drop g es)
equations-drop S n k zero es h = equations-more S n k (k + 0) es (omega arith) h
equations-drop S n k (suc g) [] h = tt
equations-drop S n k (suc g) (e ∷ es) h = equations-more S n (k + 1 + g) (k + suc g) (drop g es) (omega arith) (equations-drop S n (k + 1) g es h.1)

pub equations-at : (S : Signature) (n k i : ℕ) (es : List Equation) → AreScopedEquations S n k es → IfSome (slice_get es i) (IsScopedEquation S n (k + i))
equations-at S n k i [] h = tt
equations-at S n k zero (e ∷ es) h = subst (λ x. IsScopedEquation S n x e) (let same : k ≡ k + 0 = omega arith in same) h.0
equations-at S n k (suc i) (e ∷ es) h =
    subst (λ x. IfSome (slice_get es i) (IsScopedEquation S n x)) (let same : k + 1 + i ≡ k + suc i = omega arith in same)
    (equations-at S n (k + 1) i es h.1)

-- ---- environments for variables and places

-- the environment's term for each level is scoped from a depth on, also after i equations more on both sides
abbrev pub StandsFrom : Signature → (size depth : ℕ) → Environment → Type 0
StandsFrom S size depth z = (i j d : ℕ) → j < size + i → depth + i ≤ d → IsScoped S d (z d j)

pub over_first-scoped : (S : Signature) (n : ℕ) (terms : List Term) (position d : ℕ) → All (IsScoped S n) terms → n ≤ d
    → IsScoped S d (over_first n terms d position)
over_first-scoped S n terms position d all le =
    scoped_over_more S (n + (d - n)) d (over_first n terms d position) (omega arith) (in-outside S n terms all (d - n) position)

pub behind-stands : (S : Signature) (n count new : ℕ) (variables places : Environment) → ((j d : ℕ) → j < n → new ≤ d → IsScoped S d (variables d j))
    → ((j d : ℕ) → new ≤ d → IsScoped S d (places d j)) → StandsFrom S (n + count) new (behind n count new variables places)
behind-stands S n count new variables places own placed i j d lt le = by (below-or_from j n) (below-or_from j (n + count))
  where
    by : (j < n) ⊎ (n ≤ j) → (j < n + count) ⊎ (n + count ≤ j) → IsScoped S d (behind n count new variables places d j)
    by (inl h) _ = subst (IsScoped S d) (sym (first-of_three j n (n + count) _ _ _ h)) (own j d h (omega arith))
    by (inr h) (inl k) =
        subst (IsScoped S d) (sym (second-of_three j n (n + count) _ _ _ h k)) (placed (j - n) d (omega arith))
    by (inr h) (inr k) =
        subst (IsScoped S d) (sym (third-of_three j n (n + count) _ _ _ h k)) (var-scoped (omega arith))

-- ---- moved equations

moved-form : (z y : Environment) (side : Term → Term) (size depth : ℕ) (e : Equation) → HasForm e
    → HasForm (record {
      place = moved_item z size depth e.place;
      type = put y size depth e.type;
      left = side e.left;
      right = side e.right;
    })
moved-form z y side size depth e h = record {
  A = put y size depth h.A;
  u = put y size depth h.u;
  v = put y size depth h.v;
  form = ap (put y size depth) h.form;
}

-- equations after k others in a context of n variables become equations after l others in one of m
moved-from : (S : Signature) (n m : ℕ) (z y : Environment) (side : Term → Term) (first depth : ℕ) → StandsFrom S first depth z → StandsFrom S first depth y
    → ((t : Term) → IsScoped S n t → IsScoped S m (side t)) → (i k l : ℕ) (es : List Equation) → n + k ≡ first + i → m + l ≡ depth + i
    → AreScopedEquations S n k es → AreScopedEquations S m l (moved z y side (first + i) (depth + i) es)
moved-from S n m z y side first depth sz sy sides i k l [] e f h = tt
moved-from S n m z y side first depth sz sy sides i k l (x ∷ es) e f h = (
  record {
    place = scoped_at z sz x.place.type h.0.place;
    level = h.0.level;
    form = moved-form z y side (first + i) (depth + i) x h.0.form;
    type = scoped_at y sy x.type h.0.type;
    left = sides x.left h.0.left;
    right = sides x.right h.0.right;
  },
  next (moved-from S n m z y side first depth sz sy sides (i + 1) (k + 1) (l + 1) es (omega arith) (omega arith) h.1),
)
  where
    scoped_at : (z : Environment) → StandsFrom S first depth z → (t : Term) → IsScoped S (n + k) t → IsScoped S (m + l) (put z (first + i) (depth + i) t)
    scoped_at z sz t h =
        scoped_over_more S (depth + i) (m + l) (put z (first + i) (depth + i) t) (omega arith)
        (put-all S z (first + i) (depth + i) t (λ p lt d le. sz i p d lt le) (scoped_over_more S (n + k) (first + i) t (omega arith) h))

    next : AreScopedEquations S m (l + 1) (moved z y side (first + (i + 1)) (depth + (i + 1)) es)
        → AreScopedEquations S m (l + 1) (moved z y side (first + i + 1) (depth + i + 1) es)
    next h =
        subst (λ x. AreScopedEquations S m (l + 1) (moved z y side x (depth + i + 1) es)) (let same : first + (i + 1) ≡ first + i + 1 = omega arith in same)
        (subst (λ x. AreScopedEquations S m (l + 1) (moved z y side (first + (i + 1)) x es)) (let same : depth + (i + 1) ≡ depth + i + 1 = omega arith in same) h)

pub moved-scoped : (S : Signature) (n m k l size depth : ℕ) (z y : Environment) (side : Term → Term) → n + k ≡ size → m + l ≡ depth
    → StandsFrom S size depth z → StandsFrom S size depth y → ((t : Term) → IsScoped S n t → IsScoped S m (side t)) → (es : List Equation)
    → AreScopedEquations S n k es → AreScopedEquations S m l (moved z y side size depth es)
moved-scoped S n m k l size depth z y side e f sz sy sides es h =
    subst (λ x. AreScopedEquations S m l (moved z y side x depth es)) (let same : size + 0 ≡ size = omega arith in same)
    (subst (λ x. AreScopedEquations S m l (moved z y side (size + 0) x es)) (let same : depth + 0 ≡ depth = omega arith in same)
    (moved-from S n m z y side size depth sz sy sides 0 k l es (omega arith) (omega arith) h))
