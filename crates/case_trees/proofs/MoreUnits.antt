-- With more units a call answers as it did, unless there were too few, and so many more are left: calls one after the other, and
-- those of reduction.
use Rattle.std.proofs.Common.{◌≡◌, ◌⊎◌, inl, inr, ℕ, zero, suc, ◌+◌, ◌-◌, ◌<◌, ◌≤◌, Bool, true, false, ◌&&◌, cond, Option, Some, None, Result, Ok, Err, refl, sym, ap, ◌∙◌, subst as transport, arith}
use Rattle.std.proofs.lemmas.Result.{IfOk-at_ok}
use Rattle.theory.specs.Terms.{Term, Var, Sort, Pi, Lam, App, Let, Const, Fam, Con, Elim, AxiomK}
use Rattle.theory.specs.Signatures.{Signature}
use Rattle.core_terms.specs.Answers.{SpentOr, Spent, and_then, and_next, on_answer, is_low, bounded}
use Rattle.core_terms.specs.declared.stop.Stop.TheVariants.{Fuel, Deep}
use Rattle.kernel_reduce.specs.Comparison.{same, second_if, both, on_heads, heads_convertible, unless_same, convertible_of}
use Rattle.kernel_reduce.specs.Reduction.{if_low, charge, without_units, with_unit, whnf_of, with_children, normal_children, normal_of}
use Rattle.kernel_reduce.specs.Steps.{step_of}
use Rattle.unification.proofs.Cases.{below-or_from}

-- Two calls, of which the second one has so many units more: unless the first one runs out of units, the second one ends alike, with as
-- many more left.
abbrev pub Lasts : {A E : Type 0} → (fuel : E) → (more : ℕ) → (first second : SpentOr E A) → Type 0
Lasts fuel more first second = (first.0 ≡ Err fuel → ⊥) → second ≡ (first.0, first.1 + more)

pub answers-last : {A E : Type 0} (fuel : E) (more : ℕ) (answer : Result A E) (left : ℕ) → Lasts fuel more (answer, left) (answer, left + more)
answers-last fuel more answer left = λ fine. refl

on_answer-lasts : {A B E : Type 0} (fuel : E) (more : ℕ) (r : Result A E) (n : ℕ) (second : SpentOr E A) (go other : A → ℕ → SpentOr E B)
    → Lasts fuel more (r, n) second → ((a : A) (rest : ℕ) → Lasts fuel more (go a rest) (other a (rest + more)))
    → Lasts fuel more (on_answer r n go) (and_next second other)
on_answer-lasts fuel more (Ok a) n second go other h k = λ fine.
    ap (λ call. and_next call other) (h (λ none. absurd (grind arith))) ∙ k a n fine
on_answer-lasts fuel more (Err e) n second go other h k = λ fine.
    ap (λ call. and_next call other) (h (λ none. fine (ap (λ r. and_then r (λ a. Err fuel)) none)))

-- one call after another one
pub and_next-lasts : {A B E : Type 0} (fuel : E) (more : ℕ) (first second : SpentOr E A) (go other : A → ℕ → SpentOr E B) → Lasts fuel more first second
    → ((a : A) (rest : ℕ) → Lasts fuel more (go a rest) (other a (rest + more))) → Lasts fuel more (and_next first go) (and_next second other)
and_next-lasts fuel more first second go other h k = on_answer-lasts fuel more first.0 first.1 second go other h k

-- one of two calls
pub cond-lasts : {A E : Type 0} (fuel : E) (more : ℕ) (test : Bool) (one other one' other' : SpentOr E A) → Lasts fuel more one one'
    → Lasts fuel more other other' → Lasts fuel more (cond test one other) (cond test one' other')
cond-lasts fuel more true one other one' other' h k = h
cond-lasts fuel more false one other one' other' h k = k

-- a call with its units
abbrev pub AlwaysLasts : {A E : Type 0} → (fuel : E) → (ℕ → SpentOr E A) → Type 0
AlwaysLasts fuel call = (left more : ℕ) → Lasts fuel more (call left) (call (left + more))

once : {A E : Type 0} (fuel : E) (call : ℕ → SpentOr E A) → AlwaysLasts fuel call → (left other : ℕ) (a b : A) → left ≤ other → (call left).0 ≡ Ok a
    → (call other).0 ≡ Ok b → a ≡ b
once fuel call h left other a b le e e' =
    let place : left + (other - left) ≡ other = omega arith in
    let later = h left (other - left) (λ bad. absurd (grind (arith, sym bad ∙ e))) in
    let same : Ok a ≡ Ok b = sym e ∙ (sym (ap (λ (r : SpentOr _ _). r.0) later) ∙ (ap (λ n. (call n).0) place ∙ e')) in
    IfOk-at_ok (λ x. a ≡ x) same refl

-- whatever units there are, it is the same that is answered
pub answered-once : {A E : Type 0} (fuel : E) (call : ℕ → SpentOr E A) → AlwaysLasts fuel call → (left other : ℕ) (a b : A) → (call left).0 ≡ Ok a
    → (call other).0 ≡ Ok b → a ≡ b
answered-once fuel call h left other a b e e' = by (below-or_from left other)
  where
    by : (left < other) ⊎ (other ≤ left) → a ≡ b
    by (inl less) = once fuel call h left other a b (omega arith) e e'
    by (inr le) = sym (once fuel call h other left b a le e' e)

pub if_low-lasts : {A : Type 0} (test : Bool) (next : ℕ → Spent A) → AlwaysLasts Fuel next → AlwaysLasts Fuel (if_low test next)
if_low-lasts true next h = h
if_low-lasts false next h = λ left more fine. refl

pub charge-lasts : {A : Type 0} (next : ℕ → Spent A) → AlwaysLasts Fuel next → AlwaysLasts Fuel (charge next)
charge-lasts next h = by
  where
    by : AlwaysLasts Fuel (charge next)
    by zero more = λ fine. absurd (fine refl)
    by (suc left) more =
        let one : suc left + more ≡ suc (left + more) = omega arith in
        transport (λ n. Lasts Fuel more (next left) (charge next n)) (sym one) (h left more)

-- ---- head forms

whnf-deep : (S : Signature) (delta : Bool) (t : Term) (n : ℕ) → is_low t ≡ false → whnf_of S delta n t ≡ (Err Deep, n)
whnf-deep S delta t zero e = ap (λ test. if_low test (λ none. without_units t (step_of S delta t)) zero) e
whnf-deep S delta t (suc n) e = ap (λ test. if_low test (λ all. with_unit t n (whnf_of S delta n) (step_of S delta t)) (suc n)) e

whnf-rests : (S : Signature) (delta : Bool) (t : Term) (n : ℕ) → is_low t ≡ true → step_of S delta t ≡ None → whnf_of S delta n t ≡ (Ok t, n)
whnf-rests S delta t zero e rests =
    ap (λ test. if_low test (λ none. without_units t (step_of S delta t)) zero) e ∙ ap (without_units t) rests
whnf-rests S delta t (suc n) e rests =
    ap (λ test. if_low test (λ all. with_unit t n (whnf_of S delta n) (step_of S delta t)) (suc n)) e ∙ ap (with_unit t n (whnf_of S delta n)) rests

whnf-steps : (S : Signature) (delta : Bool) (t u : Term) (n : ℕ) → is_low t ≡ true → step_of S delta t ≡ Some u
    → whnf_of S delta (suc n) t ≡ whnf_of S delta n u
whnf-steps S delta t u n e step =
    ap (λ test. if_low test (λ all. with_unit t n (whnf_of S delta n) (step_of S delta t)) (suc n)) e ∙ ap (with_unit t n (whnf_of S delta n)) step

whnf-wants : (S : Signature) (delta : Bool) (t u : Term) → is_low t ≡ true → step_of S delta t ≡ Some u → whnf_of S delta zero t ≡ (Err Fuel, zero)
whnf-wants S delta t u e step =
    ap (λ test. if_low test (λ none. without_units t (step_of S delta t)) zero) e ∙ ap (without_units t) step

-- two calls that are worked out
worked-out : {A E : Type 0} (fuel : E) (more : ℕ) (first second : SpentOr E A) (r : Result A E) (n : ℕ) → first ≡ (r, n) → second ≡ (r, n + more)
    → Lasts fuel more first second
worked-out fuel more first second r n e e' = λ fine. e' ∙ sym (ap (λ (call : SpentOr _ _). (call.0, call.1 + more)) e)

whnf-by : (S : Signature) (delta : Bool) (left more : ℕ) (t : Term) → ((u : Term) → step_of S delta t ≡ Some u → is_low t ≡ true
    → Lasts Fuel more (whnf_of S delta left t) (whnf_of S delta (left + more) t)) → Lasts Fuel more (whnf_of S delta left t) (whnf_of S delta (left + more) t)
whnf-by S delta left more t h = by (is_low t) refl (step_of S delta t) refl
  where
    by : (test : Bool) → is_low t ≡ test → (o : Option Term) → step_of S delta t ≡ o → Lasts Fuel more (whnf_of S delta left t) (whnf_of S delta (left + more) t)
    by false e o step = worked-out Fuel more _ _ (Err Deep) left (whnf-deep S delta t left e) (whnf-deep S delta t (left + more) e)
    by true e None step = worked-out Fuel more _ _ (Ok t) left (whnf-rests S delta t left e step) (whnf-rests S delta t (left + more) e step)
    by true e (Some u) step = h u step e

pub whnf-lasts : (S : Signature) (delta : Bool) (left more : ℕ) (t : Term) → Lasts Fuel more (whnf_of S delta left t) (whnf_of S delta (left + more) t)
whnf-lasts S delta zero more t =
    whnf-by S delta zero more t (λ u step e fine. absurd (fine (ap (λ (call : Spent Term). call.0) (whnf-wants S delta t u e step))))
whnf-lasts S delta (suc left) more t =
    whnf-by S delta (suc left) more t (λ u step e.
    let one : suc left + more ≡ suc (left + more) = omega arith in
    transport (λ call. Lasts Fuel more call (whnf_of S delta (suc left + more) t)) (sym (whnf-steps S delta t u left e step))
    (transport (λ call. Lasts Fuel more (whnf_of S delta left u) call)
    (sym (ap (λ n. whnf_of S delta n t) one ∙ whnf-steps S delta t u (left + more) e step)) (whnf-lasts S delta left more u)))

-- ---- normal forms

children-last : (form : Term → Term → Term) (first second : ℕ → Spent Term) → AlwaysLasts Fuel first → AlwaysLasts Fuel second
    → AlwaysLasts Fuel (with_children form first second)
children-last form first second h k = λ left more.
    and_next-lasts Fuel more (first left) (first (left + more)) _ _ (h left more) (λ a rest.
    and_next-lasts Fuel more (second rest) (second (rest + more)) _ _ (k rest more) (λ b end. answers-last Fuel more (bounded (form a b)) end))

normal_children-last : (normal : Term → ℕ → Spent Term) → ((t : Term) → AlwaysLasts Fuel (normal t)) → (t : Term) → AlwaysLasts Fuel (normal_children normal t)
normal_children-last normal h (Pi a b) = children-last Pi (normal a) (normal b) (h a) (h b)
normal_children-last normal h (Lam a b) = children-last Lam (normal a) (normal b) (h a) (h b)
normal_children-last normal h (App f a) = children-last App (normal f) (normal a) (h f) (h a)
normal_children-last normal h (Var x) = λ left more fine. refl
normal_children-last normal h (Sort i) = λ left more fine. refl
normal_children-last normal h (Let a t b) = λ left more fine. refl
normal_children-last normal h (Const n) = λ left more fine. refl
normal_children-last normal h (Fam n) = λ left more fine. refl
normal_children-last normal h (Con n number) = λ left more fine. refl
normal_children-last normal h (Elim n m) = λ left more fine. refl
normal_children-last normal h (AxiomK i m) = λ left more fine. refl

pub normal-lasts : (S : Signature) (delta : Bool) (room : ℕ) (t : Term) → AlwaysLasts Fuel (normal_of S delta room t)
normal-lasts S delta zero t = λ left more fine. refl
normal-lasts S delta (suc room) t = λ left more.
    and_next-lasts Fuel more (whnf_of S delta left t) (whnf_of S delta (left + more) t) _ _ (whnf-lasts S delta left more t) (λ u rest.
    normal_children-last (normal_of S delta room) (normal-lasts S delta room) u rest more)

-- ---- comparison

second_if-lasts : (test : Bool) (second : ℕ → Spent Bool) → AlwaysLasts Fuel second → AlwaysLasts Fuel (second_if test second)
second_if-lasts true second h = h
second_if-lasts false second h = λ left more fine. refl

pub both-last : (first second : ℕ → Spent Bool) → AlwaysLasts Fuel first → AlwaysLasts Fuel second → AlwaysLasts Fuel (both first second)
both-last first second h k = λ left more.
    and_next-lasts Fuel more (first left) (first (left + more)) _ _ (h left more) (λ holds rest. second_if-lasts holds second k rest more)

heads-last : (convertible : Term → Term → ℕ → Spent Bool) → ((a b : Term) → AlwaysLasts Fuel (convertible a b)) → (a b : Term)
    → AlwaysLasts Fuel (heads_convertible convertible a b)
heads-last convertible h (Pi a b) (Pi c d) = both-last (convertible a c) (convertible b d) (h a c) (h b d)
heads-last convertible h (Lam a b) (Lam c d) = both-last (convertible a c) (convertible b d) (h a c) (h b d)
heads-last convertible h (App a b) (App c d) = both-last (convertible a c) (convertible b d) (h a c) (h b d)
heads-last convertible h (Var n) (Var m) = λ left more fine. refl
heads-last convertible h (Sort i) (Sort j) = λ left more fine. refl
heads-last convertible h (Fam f) (Fam g) = λ left more fine. refl
heads-last convertible h (Con f c) (Con g d) = λ left more fine. refl
heads-last convertible h (Elim f m) (Elim g n) = λ left more fine. refl
heads-last convertible h (AxiomK i m) (AxiomK j n) = λ left more fine. refl
heads-last convertible h _ _ = λ left more fine. refl

unless_same-lasts : (test : Bool) (compare : ℕ → Spent Bool) → AlwaysLasts Fuel compare → AlwaysLasts Fuel (unless_same test compare)
unless_same-lasts true compare h = λ left more fine. refl
unless_same-lasts false compare h = h

pub convertible-lasts : (S : Signature) (room : ℕ) (a b : Term) → AlwaysLasts Fuel (convertible_of S room a b)
convertible-lasts S zero a b = λ left more fine. refl
convertible-lasts S (suc room) a b =
    if_low-lasts (is_low a && is_low b) _
    (charge-lasts _
    (unless_same-lasts (same a b) (on_heads S a b (heads_convertible (convertible_of S room))) (λ left more.
    and_next-lasts Fuel more (whnf_of S true left a) (whnf_of S true (left + more) a) _ _ (whnf-lasts S true left more a) (λ c rest.
    and_next-lasts Fuel more (whnf_of S true rest b) (whnf_of S true (rest + more) b) _ _ (whnf-lasts S true rest more b) (λ d end.
    heads-last (convertible_of S room) (convertible-lasts S room) c d end more)))))
