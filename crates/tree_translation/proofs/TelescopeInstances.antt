-- A telescope with terms put for the variables of its context: its types, their dependences, and its reflexivities.
use Rattle.std.proofs.Common.{◌≡◌, ℕ, zero, suc, ◌+◌, ◌-◌, ◌<◌, ◌≤◌, ◌||◌, inl, inr, Bool, true, false, cond, List, [], ◌∷◌, length, max, refl, sym, ap, ap₂, ◌∙◌, arith}
use Rattle.std.proofs.lemmas.Bool.Decides.{nat_tests}
use Rattle.theory.specs.Terms.{Term, Var, Sort, Pi, Lam, App, Let, Const, Fam, Con, Elim, AxiomK}
use Rattle.theory.specs.Signatures.{equality}
use Rattle.theory.specs.Substitutions.{ren, inst, up}
use Rattle.theory.specs.Telescopes.{weaken_by}
use Rattle.core_terms.specs.Levels.{variable}
use Rattle.tele_eq.specs.Items.{Item, type_at, level_at, greatest_level}
use Rattle.tele_eq.specs.Environments.{Environment, inside, put}
use Rattle.tele_eq.specs.Dependences.{has_variable, is_mentioned, closed, dependences}
use Rattle.tele_eq.specs.TelescopicEquality.{type_with, reflexive}
use Rattle.tele_eq.proofs.Carrying.{IsFrom, ups_by, inst-under, bound, bound-head, where-same, where-other}
use Rattle.unification.proofs.Cases.{below-or_from, first-of_two, second-of_two}
use Rattle.unification.proofs.Levels.{from-lower}
use Rattle.tree_translation.proofs.ContextInstances.{Agrees, AgreesBelow, AreMoved, moved-below, moved-variable, moved-put}

-- Y is X with s put for the variables of the context
pub record IsInstance (s : ℕ → Term) (X Y : List Item) : Type 0 where
  pub count : length Y ≡ length X
  pub types : (j : ℕ) → inst (ups_by j s) (type_at X j) ≡ type_at Y j
  pub levels : (j : ℕ) → level_at Y j ≡ level_at X j

pub moved-type : (s : ℕ → Term) (X Y : List Item) → IsInstance s X Y → (z z' : Environment) (j k : ℕ) → AgreesBelow s z z' k j
    → inst (ups_by k s) (type_with X z k j) ≡ type_with Y z' k j
moved-type s X Y is z z' j k agrees = moved-put s z z' j k agrees (type_at X j) ∙ ap (put z' j k) (is.types j)

pub moved-reflexive : (s : ℕ → Term) (X Y : List Item) → IsInstance s X Y → (u u' : Environment) → AreMoved s u u'
    → AreMoved s (reflexive X u) (reflexive Y u')
moved-reflexive s X Y is u u' moved k j =
    let level = is.levels j in
    ap₂ App (ap₂ App (ap (λ i. Con (equality i) 0) (sym level)) (moved-type s X Y is u u' j k (moved-below s u u' moved k j)))
    (moved k j)

pub moved-inside : (s : ℕ → Term) (u u' : Environment) (positions : List ℕ) (l k p : ℕ) → Agrees s u u' k p → bound positions l p ≤ k
    → Agrees s (inside positions l u) (inside positions l u') k p
moved-inside s u u' [] l k p agrees le = agrees
moved-inside s u u' (t ∷ positions) l k p agrees le =
    elim (bound-head t positions l p k le) [
      | inl h ↦
          ap (inst (ups_by k s)) (where-same p t (variable k l) (inside positions (l + 2) u k p) h.0)
          ∙ (moved-variable s k l h.1 ∙ sym (where-same p t (variable k l) (inside positions (l + 2) u' k p) h.0))
      | inr h ↦
          ap (inst (ups_by k s)) (where-other p t (variable k l) (inside positions (l + 2) u k p) h.0)
          ∙ (moved-inside s u u' positions (l + 2) k p agrees h.1
          ∙ sym (where-other p t (variable k l) (inside positions (l + 2) u' k p) h.0))
    ]

pub greatest-same : (s : ℕ → Term) (X Y : List Item) → IsInstance s X Y → (level : ℕ) (positions : List ℕ)
    → greatest_level Y level positions ≡ greatest_level X level positions
greatest-same s X Y is level [] = refl
greatest-same s X Y is level (p ∷ positions) =
    ap (λ l. greatest_level Y (max level l) positions) (is.levels p) ∙ greatest-same s X Y is (max level (level_at X p)) positions

-- ---- dependences

never-up : (r : ℕ → ℕ) (v : ℕ) → ((n : ℕ) → r n ≡ v → ⊥) → (n : ℕ) → up r n ≡ v + 1 → ⊥
never-up r v not zero e = omega arith
never-up r v not (suc n) e = not n (omega arith)

-- a variable that no renamed one is
never-there : (r : ℕ → ℕ) (v : ℕ) → ((n : ℕ) → r n ≡ v → ⊥) → (t : Term) → has_variable v (ren r t) ≡ false
never-there r v not (Var n) = let h : r n ≡ v → ⊥ = not n in grind (arith, nat_tests)
never-there r v not (Sort i) = refl
never-there r v not (Pi a b) = ap₂ ◌||◌ (never-there r v not a) (never-there (up r) (v + 1) (never-up r v not) b)
never-there r v not (Lam a b) = ap₂ ◌||◌ (never-there r v not a) (never-there (up r) (v + 1) (never-up r v not) b)
never-there r v not (App f a) = ap₂ ◌||◌ (never-there r v not f) (never-there r v not a)
never-there r v not (Let a t b) =
    ap₂ ◌||◌ (ap₂ ◌||◌ (never-there r v not a) (never-there r v not t)) (never-there (up r) (v + 1) (never-up r v not) b)
never-there r v not (Const c) = refl
never-there r v not (Fam n) = refl
never-there r v not (Con n c) = refl
never-there r v not (Elim n m) = refl
never-there r v not (AxiomK i m) = refl

-- no position is the first one
abbrev IsPositive : List ℕ → Type 0
IsPositive [] = Unit {0}
IsPositive (p ∷ positions) = (0 < p) × IsPositive positions

from-positive : (n : ℕ) (positions : List ℕ) → 0 < n → IsFrom n positions → IsPositive positions
from-positive n [] lt from = tt
from-positive n (t ∷ positions) lt from = (let le : n ≤ t = from.0 in omega arith, from-positive (t + 1) positions (omega arith) from.1)

-- a place is mentioned where it was mentioned
pub place-mentioned : (s : ℕ → Term) (k v : ℕ) → v < k → (t : Term) → has_variable v (inst (ups_by k s) t) ≡ has_variable v t
place-mentioned s k v lt (Var n) = elim (below-or_from n k) [
  | inl less ↦ ap (has_variable v) (first-of_two n k (Var n) (weaken_by k (s (n - k))) less)
  | inr le ↦
      ap (has_variable v) (second-of_two n k (Var n) (weaken_by k (s (n - k))) le)
      ∙ (never-there (λ i. i + k) v (λ i e. omega arith) (s (n - k)) ∙ grind (arith, nat_tests))
]
place-mentioned s k v lt (Sort i) = refl
place-mentioned s k v lt (Pi a b) =
    ap₂ ◌||◌ (place-mentioned s k v lt a)
    (ap (has_variable (v + 1)) (inst-under k (k + 1) s b refl) ∙ place-mentioned s (k + 1) (v + 1) (omega arith) b)
place-mentioned s k v lt (Lam a b) =
    ap₂ ◌||◌ (place-mentioned s k v lt a)
    (ap (has_variable (v + 1)) (inst-under k (k + 1) s b refl) ∙ place-mentioned s (k + 1) (v + 1) (omega arith) b)
place-mentioned s k v lt (App f a) = ap₂ ◌||◌ (place-mentioned s k v lt f) (place-mentioned s k v lt a)
place-mentioned s k v lt (Let a t b) =
    ap₂ ◌||◌ (ap₂ ◌||◌ (place-mentioned s k v lt a) (place-mentioned s k v lt t))
    (ap (has_variable (v + 1)) (inst-under k (k + 1) s b refl) ∙ place-mentioned s (k + 1) (v + 1) (omega arith) b)
place-mentioned s k v lt (Const c) = refl
place-mentioned s k v lt (Fam n) = refl
place-mentioned s k v lt (Con n c) = refl
place-mentioned s k v lt (Elim n m) = refl
place-mentioned s k v lt (AxiomK i m) = refl

mentioned-same : (s : ℕ → Term) (X Y : List Item) → IsInstance s X Y → (at : ℕ) (positions : List ℕ) → IsPositive positions
    → is_mentioned Y at positions ≡ is_mentioned X at positions
mentioned-same s X Y is at [] positive = refl
mentioned-same s X Y is at (p ∷ positions) positive =
    let some : 0 < p = positive.0 in
    ap₂ ◌||◌ (ap (has_variable (p - (at + 1))) (sym (is.types p)) ∙ place-mentioned s p (p - (at + 1)) (omega arith) (type_at X p))
    (mentioned-same s X Y is at positions positive.1)

closed-same : (s : ℕ → Term) (X Y : List Item) → IsInstance s X Y → (j at : ℕ) (found : List ℕ) → at ≤ j → IsFrom at found
    → closed Y j at found ≡ closed X j at found
closed-same s X Y is j zero found le from = refl
closed-same s X Y is j (suc at) found le from =
    ap (λ test. closed Y j at (cond test (at ∷ found) found))
    (mentioned-same s X Y is at (j ∷ found) (omega arith, from-positive (suc at) found (omega arith) from))
    ∙ closed-same s X Y is j at (cond (is_mentioned X at (j ∷ found)) (at ∷ found) found) (omega arith) (step (is_mentioned X at (j ∷ found)))
  where
    step : (test : Bool) → IsFrom at (cond test (at ∷ found) found)
    step true = let e : suc at ≡ at + 1 = omega arith in (omega arith, from-lower (at + 1) (suc at) found (omega arith) from)
    step false = from-lower at (suc at) found (omega arith) from

-- the dependences of a position are the same
pub dependences-same : (s : ℕ → Term) (X Y : List Item) → IsInstance s X Y → (j : ℕ) → dependences Y j ≡ dependences X j
dependences-same s X Y is j = closed-same s X Y is j j [] (omega arith) tt
