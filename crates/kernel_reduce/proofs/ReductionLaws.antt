-- Reduction leads to terms that convert, and gives no units back.
use Rattle.std.proofs.Common.{◌≡◌, ℕ, ◌≤◌, zero, suc, Bool, true, false, cond, Option, Some, None, IfSome, Result, Ok, Err, IfOk, refl, subst as transport, arith}
use Rattle.theory.specs.Terms.{Term, height}
use Rattle.theory.specs.Terms.Term.{Var, Pi, Lam, App}
use Rattle.theory.specs.Signatures.{Signature}
use Rattle.theory.specs.Conversion.{Step, Converts}
use Rattle.theory.specs.Conversion.Converts.{same, forwards}
use Rattle.theory.proofs.Congruence.{converts-trans, converts-pi, converts-lam, converts-app}
use Rattle.core_terms.specs.Answers.{Spent, is_low}
use Rattle.core_terms.specs.declared.stop.Stop.{Stop}
use Rattle.core_terms.specs.declared.stop.Stop.TheVariants.{Deep}
use Rattle.kernel_reduce.specs.Steps.{step_of}
use Rattle.kernel_reduce.specs.Reduction.{some_bounded, step_taken, without_units, with_unit, whnf_of, with_children, normal_children, normal_of}
use Rattle.kernel_reduce.specs.Laws.{HeadStepIsStep, HeadStepIsLow, IsHeadForm, WhnfIsHeadForm, NormalConverts, HeadStepSpends, WhnfSpends, NormalSpends}
use Rattle.core_terms.proofs.Answers.{Answers, and_next-has, and_next-spends, low-is, bounded-has}
use Rattle.kernel_reduce.proofs.Answers.{charge-has, if_low-has, charge-spends, if_low-spends}
use Rattle.kernel_reduce.proofs.StepLaws.{step-steps}

pub some_bounded-has : (P : Term → Type 0) (t : Term) → P t → IfOk (some_bounded t) (λ next. IfSome next P)
some_bounded-has P t h = by_case (is_low t)
  where
    by_case : (b : Bool) → IfOk {E = Stop} (cond b (Ok (Some t)) (Err Deep)) (λ next. IfSome next P)
    by_case true = h
    by_case false = tt

step_taken-has : (P : Term → Type 0) (step : Option Term) (left : ℕ) → IfSome step P → Answers (λ next. IfSome next P) (step_taken step left)
step_taken-has P None left h = tt
step_taken-has P (Some u) left h = charge-has _ _ left (λ rest. some_bounded-has P u h)

-- a head step is a step
pub head_step-is_step : HeadStepIsStep
head_step-is_step S delta t left =
    if_low-has _ (is_low t) _ left (λ low. step_taken-has (Step S t) (step_of S delta t) left (step-steps S delta t))

bounded-low : (t : Term) → IfOk (some_bounded t) (λ next. IfSome next (λ u. height u ≤ 2000))
bounded-low t = by_case (is_low t) refl
  where
    by_case : (b : Bool) → is_low t ≡ b → IfOk {E = Stop} (cond b (Ok (Some t)) (Err Deep)) (λ next. IfSome next (λ u. height u ≤ 2000))
    by_case true low = low-is t low
    by_case false high = tt

step_taken-low : (step : Option Term) (left : ℕ) → Answers (λ next. IfSome next (λ u. height u ≤ 2000)) (step_taken step left)
step_taken-low None left = tt
step_taken-low (Some u) left = charge-has _ _ left (λ rest. bounded-low u)

-- a head step is no higher than a term may be
pub head_step-is_low : HeadStepIsLow
head_step-is_low S delta t left = if_low-has _ (is_low t) _ left (λ low. step_taken-low (step_of S delta t) left)

head_form : {S : Signature} {delta : Bool} {t : Term} → step_of S delta t ≡ None → is_low t ≡ true → IsHeadForm S delta t t
head_form {t = t} rests low = record { converts = same; rests = rests; low = low-is t low }

without_units-has : (S : Signature) (delta : Bool) (t : Term) (step : Option Term) → step_of S delta t ≡ step → is_low t ≡ true
    → Answers (IsHeadForm S delta t) (without_units t step)
without_units-has S delta t None e low = head_form e low
without_units-has S delta t (Some u) e low = tt

with_unit-has : (S : Signature) (delta : Bool) (t : Term) (left : ℕ) (next : Term → Spent Term) (step : Option Term) → step_of S delta t ≡ step → is_low t ≡ true
    → ((u : Term) → Answers (IsHeadForm S delta u) (next u)) → Answers (IsHeadForm S delta t) (with_unit t left next step)
with_unit-has S delta t left next None e low h = head_form e low
with_unit-has S delta t left next (Some u) e low h = behind (next u).0 (h u)
  where
    first : Step S t u
    first = transport (λ o. IfSome o (Step S t)) e (step-steps S delta t)

    behind : (r : Result Term Stop) → IfOk r (IsHeadForm S delta u) → IfOk r (IsHeadForm S delta t)
    behind (Ok v) k = record { converts = forwards first k.converts; rests = k.rests; low = k.low }
    behind (Err e) k = tt

-- where head reduction answers, it answers a head form
pub whnf-is_head_form : WhnfIsHeadForm
whnf-is_head_form S delta zero t =
    if_low-has _ (is_low t) _ zero (λ low. without_units-has S delta t (step_of S delta t) refl low)
whnf-is_head_form S delta (suc left) t =
    if_low-has _ (is_low t) _ (suc left) (λ low.
    with_unit-has S delta t left (whnf_of S delta left) (step_of S delta t) refl low (whnf-is_head_form S delta left))

-- t converts to u, which is no higher than 2,000
IsReduct : Signature → Term → Term → Type 0
IsReduct S t u = Converts S t u × (height u ≤ 2000)

with_children-has : (S : Signature) (form : Term → Term → Term) (a b : Term) (first second : ℕ → Spent Term) (left : ℕ)
    → ((c d : Term) → Converts S a c → Converts S b d → Converts S (form a b) (form c d))
    → ((rest : ℕ) → Answers (IsReduct S a) (first rest)) → ((rest : ℕ) → Answers (IsReduct S b) (second rest))
    → Answers (IsReduct S (form a b)) (with_children form first second left)
unfolding IsReduct
with_children-has S form a b first second left congruent h k =
    and_next-has _ _ (first left) _ (h left) (λ c rest hc.
    and_next-has _ _ (second rest) _ (k rest) (λ d end hd.
    bounded-has _ (form c d) (λ low. (congruent c d hc.0 hd.0, low))))

children-have : (S : Signature) (normal : Term → ℕ → Spent Term) (u : Term) (left : ℕ) → height u ≤ 2000
    → ((t : Term) (rest : ℕ) → Answers (IsReduct S t) (normal t rest)) → Answers (IsReduct S u) (normal_children normal u left)
unfolding IsReduct
children-have S normal (Pi a b) left low h = with_children-has S Pi a b (normal a) (normal b) left (λ c d. converts-pi) (h a) (h b)
children-have S normal (Lam a b) left low h = with_children-has S Lam a b (normal a) (normal b) left (λ c d. converts-lam) (h a) (h b)
children-have S normal (App a b) left low h = with_children-has S App a b (normal a) (normal b) left (λ c d. converts-app) (h a) (h b)
children-have S normal (Var n) left low h = (same, low)
children-have S normal _ left low h = (same, low)

-- a term converts to its normal form
pub normal-converts : NormalConverts
unfolding IsReduct
normal-converts S delta zero t left = tt
normal-converts S delta (suc room) t left =
    and_next-has (IsHeadForm S delta t) _ (whnf_of S delta left t) _ (whnf-is_head_form S delta left t) (λ u rest head.
    behind u (normal_children (normal_of S delta room) u rest).0 head.converts
    (children-have S (normal_of S delta room) u rest head.low (normal-converts S delta room)))
  where
    behind : (u : Term) (r : Result Term Stop) → Converts S t u → IfOk r (IsReduct S u) → IfOk r (λ v. Converts S t v × (height v ≤ 2000))
    behind u (Ok v) h k = (converts-trans h k.0, k.1)
    behind u (Err e) h k = tt

step_taken-spends : (step : Option Term) (left : ℕ) → (step_taken step left).1 ≤ left
step_taken-spends None left = omega arith
step_taken-spends (Some u) left = charge-spends _ left (λ rest. omega arith)

pub head_step-spends : HeadStepSpends
head_step-spends S delta t left = if_low-spends (is_low t) _ left (step_taken-spends (step_of S delta t) left)

without_units-spends : (t : Term) (step : Option Term) → (without_units t step).1 ≤ zero
without_units-spends t None = omega arith
without_units-spends t (Some u) = omega arith

with_unit-spends : (t : Term) (left : ℕ) (next : Term → Spent Term) (step : Option Term) → ((u : Term) → (next u).1 ≤ left) → (with_unit t left next step).1 ≤ suc left
with_unit-spends t left next None h = omega arith
with_unit-spends t left next (Some u) h = let k = h u in omega arith

pub whnf-spends : WhnfSpends
whnf-spends S delta zero t = if_low-spends (is_low t) _ zero (without_units-spends t (step_of S delta t))
whnf-spends S delta (suc left) t =
    if_low-spends (is_low t) _ (suc left) (with_unit-spends t left (whnf_of S delta left) (step_of S delta t) (whnf-spends S delta left))

with_children-spends : (form : Term → Term → Term) (first second : ℕ → Spent Term) (left : ℕ)
    → ((rest : ℕ) → (first rest).1 ≤ rest) → ((rest : ℕ) → (second rest).1 ≤ rest) → (with_children form first second left).1 ≤ left
with_children-spends form first second left h k =
    and_next-spends (first left) _ left (h left) (λ a rest. and_next-spends (second rest) _ rest (k rest) (λ b end. omega arith))

children-spend : (normal : Term → ℕ → Spent Term) (u : Term) (left : ℕ) → ((t : Term) (rest : ℕ) → (normal t rest).1 ≤ rest) → (normal_children normal u left).1 ≤ left
children-spend normal (Pi a b) left h = with_children-spends Pi (normal a) (normal b) left (h a) (h b)
children-spend normal (Lam a b) left h = with_children-spends Lam (normal a) (normal b) left (h a) (h b)
children-spend normal (App a b) left h = with_children-spends App (normal a) (normal b) left (h a) (h b)
children-spend normal (Var n) left h = omega arith
children-spend normal _ left h = omega arith

pub normal-spends : NormalSpends
normal-spends S delta zero t left = omega arith
normal-spends S delta (suc room) t left =
    and_next-spends (whnf_of S delta left t) _ left (whnf-spends S delta left t) (λ u rest. children-spend (normal_of S delta room) u rest (normal-spends S delta room))
