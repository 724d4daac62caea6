-- Head steps, head forms, normal forms and comparisons are the same with more units.
use Rattle.std.proofs.Common.{◌≡◌, ℕ, zero, suc, ◌+◌, Bool, true, false, ◌&&◌, ◌==◌, nat_le, Option, Some, None, Result, Ok, Err, refl, sym, ap, subst as transport, arith}
use Rattle.theory.specs.Terms.{Term}
use Rattle.theory.specs.Terms.Term.{Var, Sort, Pi, Lam, App, Fam, Con, Elim, AxiomK}
use Rattle.theory.specs.Signatures.{Signature}
use Rattle.core_terms.specs.Answers.{Spent, is_low, bounded}
use Rattle.core_terms.specs.declared.stop.Stop.{Stop}
use Rattle.core_terms.specs.declared.stop.Stop.TheVariants.{Deep}
use Rattle.kernel_reduce.specs.Steps.{step_of}
use Rattle.kernel_reduce.specs.Reduction.{if_low, some_bounded, step_taken, without_units, with_unit, whnf_of, with_children, normal_children, normal_of}
use Rattle.kernel_reduce.specs.Comparison.{same, second_if, both, on_heads, heads_convertible, unless_same, convertible_of, heads_below, subtype_of}
use Rattle.elim.specs.refusal_laws.unit_laws.Laws.{HeadStepSteady, WhnfSteady, TidySteady, NormalSteady, ConvertibleSteady, SubtypeSteady}
use Rattle.elim.specs.refusal_laws.unit_laws.Steady.{IsFuel, IsPaid, IsSteady, with_more}
use Rattle.elim.proofs.refusal_laws.unit_laws.Runs.{steady-now, steady-next, one-more, steady-charge, steady-low}

now : {A : Type 0} (r : Result A Stop) → IsSteady IsFuel (λ left. (r, left))
now r = steady-now IsFuel r

-- ---- head steps and head forms

taken-steady : (step : Option Term) → IsSteady IsFuel (step_taken step)
taken-steady None = now (Ok None)
taken-steady (Some u) = steady-charge _ (now (some_bounded u))

pub head_step-steady : HeadStepSteady
head_step-steady S delta t = steady-low (is_low t) (step_taken (step_of S delta t)) (taken-steady (step_of S delta t))

-- `more` units in place of none
from-none : (low : Bool) (step : Option Term) (t : Term) → IsPaid IsFuel (if_low low (λ none. without_units t step) zero).0
    → ◌≡◌ {A = Spent Term} (if_low low (λ none. without_units t step) zero) (with_more zero (if_low low (λ none. without_units t step) zero))
from-none true None t paid = refl
from-none true (Some u) t paid = absurd (paid refl)
from-none false step t paid = refl

no-more : (more : ℕ) → more ≡ zero + more
no-more more = omega arith

from-some : (m : ℕ) (next : Term → Spent Term) (low : Bool) (step : Option Term) (t : Term) → IsPaid IsFuel (if_low low (λ none. without_units t step) zero).0
    → ◌≡◌ {A = Spent Term} (if_low low (λ all. with_unit t m next step) (suc m)) (with_more (suc m) (if_low low (λ none. without_units t step) zero))
from-some m next true None t paid = ap (λ n. (Ok t, n)) (no-more (suc m))
from-some m next true (Some u) t paid = absurd (paid refl)
from-some m next false step t paid = ap (λ n. (Err Deep, n)) (no-more (suc m))

-- `more` units beside one and `left`, where head steps go on the same after it
from-unit : (left more : ℕ) (next later : Term → Spent Term)
    → ((u : Term) → IsPaid IsFuel (next u).0 → ◌≡◌ {A = Spent Term} (later u) (with_more more (next u)))
    → (low : Bool) (step : Option Term) (t : Term) → IsPaid IsFuel (if_low low (λ all. with_unit t left next step) (suc left)).0
    → ◌≡◌ {A = Spent Term} (if_low low (λ all. with_unit t (left + more) later step) (suc (left + more)))
    (with_more more (if_low low (λ all. with_unit t left next step) (suc left)))
from-unit left more next later h true None t paid = ap (λ n. (Ok t, n)) (sym (one-more left more))
from-unit left more next later h true (Some u) t paid = h u paid
from-unit left more next later h false step t paid = ap (λ n. (Err Deep, n)) (sym (one-more left more))

with-none : (S : Signature) (delta : Bool) (more : ℕ) (t : Term) → IsPaid IsFuel (whnf_of S delta zero t).0
    → ◌≡◌ {A = Spent Term} (whnf_of S delta more t) (with_more more (whnf_of S delta zero t))
with-none S delta zero t paid = from-none (is_low t) (step_of S delta t) t paid
with-none S delta (suc m) t paid = from-some m (whnf_of S delta m) (is_low t) (step_of S delta t) t paid

whnf-more : (S : Signature) (delta : Bool) (left more : ℕ) (t : Term) → IsPaid IsFuel (whnf_of S delta left t).0
    → ◌≡◌ {A = Spent Term} (whnf_of S delta (left + more) t) (with_more more (whnf_of S delta left t))
whnf-more S delta zero more t paid =
    transport (λ n. ◌≡◌ {A = Spent Term} (whnf_of S delta n t) (with_more more (whnf_of S delta zero t))) (no-more more) (with-none S delta more t paid)
whnf-more S delta (suc left) more t paid =
    transport (λ n. ◌≡◌ {A = Spent Term} (whnf_of S delta n t) (with_more more (whnf_of S delta (suc left) t))) (sym (one-more left more))
    (from-unit left more (whnf_of S delta left) (whnf_of S delta (left + more)) (λ u. whnf-more S delta left more u) (is_low t) (step_of S delta t) t paid)

pub whnf-steady : WhnfSteady
whnf-steady S delta t left more paid = whnf-more S delta left more t paid

pub tidy-steady : TidySteady
tidy-steady S t = whnf-steady S false t

-- ---- normal forms

children-steady : (form : Term → Term → Term) (first second : ℕ → Spent Term) → IsSteady IsFuel first → IsSteady IsFuel second
    → IsSteady IsFuel (with_children form first second)
children-steady form first second h k =
    steady-next IsFuel first _ h (λ a. steady-next IsFuel second _ k (λ b. now (bounded (form a b))))

-- a call on one term that is steady
abbrev AreSteady : {A : Type 0} → (Term → ℕ → Spent A) → Type 0
AreSteady run = (t : Term) → IsSteady IsFuel (run t)

normal_children-steady : (normal : Term → ℕ → Spent Term) → AreSteady normal → (t : Term) → IsSteady IsFuel (normal_children normal t)
normal_children-steady normal h (Pi a b) = children-steady Pi (normal a) (normal b) (h a) (h b)
normal_children-steady normal h (Lam a b) = children-steady Lam (normal a) (normal b) (h a) (h b)
normal_children-steady normal h (App f a) = children-steady App (normal f) (normal a) (h f) (h a)
normal_children-steady normal h (Var n) = now (Ok (Var n))
normal_children-steady normal h t = now (Ok t)

pub normal-steady : NormalSteady
normal-steady S delta zero t = now (Err Deep)
normal-steady S delta (suc room) t =
    steady-next IsFuel (λ left. whnf_of S delta left t) _ (whnf-steady S delta t) (λ u.
    normal_children-steady (normal_of S delta room) (normal-steady S delta room) u)

-- ---- comparison

-- a comparison of two terms that is steady
abbrev Compares : (Term → Term → ℕ → Spent Bool) → Type 0
Compares compare = (a b : Term) → IsSteady IsFuel (compare a b)

second-steady : (holds : Bool) (second : ℕ → Spent Bool) → IsSteady IsFuel second → IsSteady IsFuel (second_if holds second)
second-steady true second h = h
second-steady false second h = now (Ok false)

both-steady : (first second : ℕ → Spent Bool) → IsSteady IsFuel first → IsSteady IsFuel second → IsSteady IsFuel (both first second)
both-steady first second h k = steady-next IsFuel first _ h (λ holds. second-steady holds second k)

heads-steady : (S : Signature) (a b : Term) (compare : Term → Term → ℕ → Spent Bool) → Compares compare → IsSteady IsFuel (on_heads S a b compare)
heads-steady S a b compare h =
    steady-next IsFuel (λ left. whnf_of S true left a) _ (whnf-steady S true a) (λ c.
    steady-next IsFuel (λ left. whnf_of S true left b) _ (whnf-steady S true b) (λ d. h c d))

heads_convertible-steady : (compare : Term → Term → ℕ → Spent Bool) → Compares compare → Compares (heads_convertible compare)
heads_convertible-steady compare h (Pi a b) (Pi c d) = both-steady (compare a c) (compare b d) (h a c) (h b d)
heads_convertible-steady compare h (Lam a b) (Lam c d) = both-steady (compare a c) (compare b d) (h a c) (h b d)
heads_convertible-steady compare h (App a b) (App c d) = both-steady (compare a c) (compare b d) (h a c) (h b d)
heads_convertible-steady compare h (Var n) (Var m) = now (Ok (n == m))
heads_convertible-steady compare h (Sort i) (Sort j) = now (Ok (i == j))
heads_convertible-steady compare h (Fam f) (Fam g) = now (Ok (f == g))
heads_convertible-steady compare h (Con f c) (Con g d) = now (Ok ((f == g) && (c == d)))
heads_convertible-steady compare h (Elim f m) (Elim g n) = now (Ok ((f == g) && (m == n)))
heads_convertible-steady compare h (AxiomK i m) (AxiomK j n) = now (Ok ((i == j) && (m == n)))
heads_convertible-steady compare h _ _ = now (Ok false)

unless-steady : (equal : Bool) (compare : ℕ → Spent Bool) → IsSteady IsFuel compare → IsSteady IsFuel (unless_same equal compare)
unless-steady true compare h = now (Ok true)
unless-steady false compare h = h

pub convertible-steady : ConvertibleSteady
convertible-steady S zero a b = now (Err Deep)
convertible-steady S (suc room) a b =
    steady-low (is_low a && is_low b) _
    (steady-charge _
    (unless-steady (same a b) _
    (heads-steady S a b (heads_convertible (convertible_of S room)) (heads_convertible-steady (convertible_of S room) (convertible-steady S room)))))

heads_below-steady : (compare order : Term → Term → ℕ → Spent Bool) → Compares compare → Compares order → Compares (heads_below compare order)
heads_below-steady compare order h k (Sort i) (Sort j) = now (Ok (nat_le i j))
heads_below-steady compare order h k (Pi a b) (Pi c d) = both-steady (compare a c) (order b d) (h a c) (k b d)
heads_below-steady compare order h k a b = h a b

pub subtype-steady : SubtypeSteady
subtype-steady S zero a b = now (Err Deep)
subtype-steady S (suc room) a b =
    steady-low (is_low a && is_low b) _
    (steady-charge _
    (heads-steady S a b (heads_below (convertible_of S room) (subtype_of S room))
    (heads_below-steady (convertible_of S room) (subtype_of S room) (convertible-steady S room) (subtype-steady S room))))
