-- Head reduction inside another term: turn by turn, and from a part to the whole.
use Rattle.std.proofs.Common.{◌≡◌, ℕ, zero, suc, ◌+◌, ◌<◌, ◌≤◌, Bool, true, false, nat_le, Option, Some, None, Ok, Err, refl, sym, ap, ◌∙◌, subst as transport, arith}
use Rattle.std.proofs.lemmas.Bool.Decides.{nat_tests}
use Rattle.theory.specs.Terms.{Term, height}
use Rattle.theory.specs.Signatures.{Signature}
use Rattle.core_terms.specs.Answers.{Spent, and_next}
use Rattle.core_terms.specs.declared.stop.Stop.{Stop}
use Rattle.core_terms.specs.declared.stop.Stop.TheVariants.{Deep, Fuel}
use Rattle.kernel_reduce.specs.Steps.{step_of}
use Rattle.kernel_reduce.specs.Reduction.{answered, if_low, with_unit, without_units, whnf_of}
use Rattle.store_reduce.specs.Formed.{Reaches, EndsIn}
use Rattle.store_reduce.specs.Formed.Reaches.{none, more}
use Rattle.store_reduce.specs.Places.{is_low_at, whnf_at}

low-true : (depth : ℕ) (t : Term) → depth + height t ≤ 2000 → is_low_at depth t ≡ true
low-true depth t h = grind (arith, nat_tests)

low-false : (depth : ℕ) (t : Term) → 2000 < depth + height t → is_low_at depth t ≡ false
low-false depth t h = grind (arith, nat_tests)

if-true : {A : Type 0} (test : Bool) (next : ℕ → Spent A) (left : ℕ) → test ≡ true → if_low test next left ≡ next left
if-true true next left e = refl
if-true false next left e = absurd (grind arith)

if-false : {A : Type 0} (test : Bool) (next : ℕ → Spent A) (left : ℕ) → test ≡ false → if_low test next left ≡ answered (Err Deep) left
if-false true next left e = absurd (grind arith)
if-false false next left e = refl

-- with nothing around it
pub at-whole : (S : Signature) (delta : Bool) (left : ℕ) (t : Term) → whnf_at S delta 0 left t ≡ whnf_of S delta left t
at-whole S delta zero t =
    let none : 0 + height t ≡ height t = omega arith in
    ap (λ h. if_low (nat_le h 2000) (λ all. without_units t (step_of S delta t)) zero) none
at-whole S delta (suc left) t =
    let none : 0 + height t ≡ height t = omega arith in
    ap (λ h. if_low (nat_le h 2000) (λ all. with_unit t left (whnf_at S delta 0 left) (step_of S delta t)) (suc left)) none
    ∙ ap (λ next. if_low (nat_le (height t) 2000) (λ all. with_unit t left next (step_of S delta t)) (suc left)) (λ i u. at-whole S delta left u i)

module _ (S : Signature) (delta : Bool) (depth : ℕ) where
  -- a term that is too high
  pub at-deep : (left : ℕ) (t : Term) → 2000 < depth + height t → answered (Err Deep) left ≡ whnf_at S delta depth left t
  at-deep zero t h = sym (if-false (is_low_at depth t) _ zero (low-false depth t h))
  at-deep (suc left) t h = sym (if-false (is_low_at depth t) _ (suc left) (low-false depth t h))

  -- one that takes no step
  pub at-rests : (left : ℕ) (t : Term) → depth + height t ≤ 2000 → step_of S delta t ≡ None → answered (Ok t) left ≡ whnf_at S delta depth left t
  at-rests zero t low e = sym (if-true (is_low_at depth t) _ zero (low-true depth t low) ∙ ap (without_units t) e)
  at-rests (suc left) t low e =
      sym (if-true (is_low_at depth t) _ (suc left) (low-true depth t low) ∙ ap (with_unit t left (whnf_at S delta depth left)) e)

  step-suc : (left : ℕ) (t u : Term) → depth + height t ≤ 2000 → step_of S delta t ≡ Some u → whnf_at S delta depth (suc left) t ≡ whnf_at S delta depth left u
  step-suc left t u low e =
      if-true (is_low_at depth t) _ (suc left) (low-true depth t low) ∙ ap (with_unit t left (whnf_at S delta depth left)) e

  -- one step for one unit
  pub at-step : (left rest : ℕ) (t u : Term) → left ≡ rest + 1 → depth + height t ≤ 2000 → step_of S delta t ≡ Some u
      → whnf_at S delta depth rest u ≡ whnf_at S delta depth left t
  at-step left rest t u is low e =
      sym (ap (λ n. whnf_at S delta depth n t) (let f : left ≡ suc rest = omega arith in f) ∙ step-suc rest t u low e)

  -- a step without a unit
  pub at-fuel : (left : ℕ) (t u : Term) → left ≡ 0 → depth + height t ≤ 2000 → step_of S delta t ≡ Some u → answered (Err Fuel) left ≡ whnf_at S delta depth left t
  at-fuel left t u is low e =
      transport (λ n. answered (Err Fuel) n ≡ whnf_at S delta depth n t) (sym is)
      (sym (if-true (is_low_at depth t) _ zero (low-true depth t low) ∙ ap (without_units t) e))

  -- a step that is too high
  pub at-deep_step : (left rest : ℕ) (t u : Term) → left ≡ rest + 1 → depth + height t ≤ 2000 → step_of S delta t ≡ Some u → 2000 < height u
      → answered (Err Deep) rest ≡ whnf_at S delta depth left t
  at-deep_step left rest t u is low e high = at-deep rest u (omega arith) ∙ at-step left rest t u is low e

pub before : (S : Signature) (delta : Bool) (t u v : Term) → step_of S delta t ≡ Some u → Reaches S delta u v → Reaches S delta t v
before S delta t u v e none = more none e
before S delta t u v e (more r f) = more (before S delta t u _ e r) f

pub after : (S : Signature) (delta : Bool) (t u v : Term) → Reaches S delta t u → Reaches S delta u v → Reaches S delta t v
after S delta t u v r none = r
after S delta t u v r (more q f) = more (after S delta t u _ r q) f

ends-after : (S : Signature) (delta : Bool) (depth left rest : ℕ) (t u v : Term) → step_of S delta t ≡ Some v → EndsIn S delta depth v u → EndsIn S delta depth t u
ends-after S delta depth left rest t u v es r = record { reached = before S delta t v u es r.reached; rests = r.rests; low = r.low }

-- a step, with what is known of the rest of the run
ends-step : (S : Signature) (delta : Bool) (depth left rest : ℕ) (t u : Term) → ((v : Term) (less : ℕ) → left ≡ less + 1 → answered (Ok u) rest ≡ whnf_at S delta depth less v → EndsIn S delta depth v u)
    → answered (Ok u) rest ≡ whnf_at S delta depth left t → depth + height t ≤ 2000 → (o : Option Term) → step_of S delta t ≡ o → EndsIn S delta depth t u
ends-step S delta depth left rest t u further e low None es =
    let same : answered (Ok t) left ≡ answered (Ok u) rest = at-rests S delta depth left t low es ∙ sym e in
    transport (EndsIn S delta depth t) (grind (arith, same)) (record { reached = none; rests = es; low = low })
ends-step S delta depth zero rest t u further e low (Some v) es =
    let same : answered (Err Fuel) 0 ≡ answered (Ok u) rest = at-fuel S delta depth 0 t v refl low es ∙ sym e in absurd (grind (arith, same))
ends-step S delta depth (suc left) rest t u further e low (Some v) es =
    let one : suc left ≡ left + 1 = omega arith in
    ends-after S delta depth left rest t u v es (further v left one (e ∙ sym (at-step S delta depth (suc left) left t v one low es)))

ends-low : (S : Signature) (delta : Bool) (depth left rest : ℕ) (t u : Term) → ((v : Term) (less : ℕ) → left ≡ less + 1 → answered (Ok u) rest ≡ whnf_at S delta depth less v → EndsIn S delta depth v u)
    → answered (Ok u) rest ≡ whnf_at S delta depth left t → (b : Bool) → nat_le (depth + height t) 2000 ≡ b → EndsIn S delta depth t u
ends-low S delta depth left rest t u further e true el = ends-step S delta depth left rest t u further e (grind (arith, nat_tests)) (step_of S delta t) refl
ends-low S delta depth left rest t u further e false el =
    let same : answered (Err Deep) left ≡ answered (Ok u) rest = at-deep S delta depth left t (grind (arith, nat_tests)) ∙ sym e in absurd (grind (arith, same))

pub ok-ends : (S : Signature) (delta : Bool) (depth left rest : ℕ) (t u : Term) → answered (Ok u) rest ≡ whnf_at S delta depth left t → EndsIn S delta depth t u
ok-ends S delta depth zero rest t u e =
    ends-low S delta depth zero rest t u (λ v less one same. absurd (omega arith)) e (nat_le (depth + height t) 2000) refl
ok-ends S delta depth (suc left) rest t u e =
    ends-low S delta depth (suc left) rest t u
    (λ v less one same. ok-ends S delta depth left rest v u (same ∙ ap (λ n. whnf_at S delta depth n v) (let f : less ≡ left = omega arith in f)))
    e (nat_le (depth + height t) 2000) refl

-- a place in a whole at which steps are steps of the whole; everything around it is low enough
pub record IsPlace (S : Signature) (delta : Bool) (depth : ℕ) (whole : Term → Term) : Type 0 where
  pub low : (t : Term) → depth + 1 + height t ≤ 2000 → depth + height (whole t) ≤ 2000
  pub high : (t : Term) → 2000 < depth + 1 + height t → 2000 < depth + height (whole t)
  pub steps : (t u : Term) → step_of S delta t ≡ Some u → step_of S delta (whole t) ≡ Some (whole u)

-- the whole goes on from the head form of the term at the place
abbrev pub then_whole : Signature → Bool → ℕ → (Term → Term) → Spent Term → Spent Term
then_whole S delta depth whole first = and_next first (λ u rest. whnf_at S delta depth rest (whole u))

place-step : (S : Signature) (delta : Bool) (depth : ℕ) (whole : Term → Term) (left : ℕ) (t : Term) → IsPlace S delta depth whole
    → ((u : Term) (less : ℕ) → left ≡ less + 1 → whnf_at S delta depth less (whole u) ≡ then_whole S delta depth whole (whnf_at S delta (depth + 1) less u))
    → depth + 1 + height t ≤ 2000 → (o : Option Term) → step_of S delta t ≡ o
    → whnf_at S delta depth left (whole t) ≡ then_whole S delta depth whole (whnf_at S delta (depth + 1) left t)
place-step S delta depth whole left t p further low None es = ap (then_whole S delta depth whole) (at-rests S delta (depth + 1) left t low es)
place-step S delta depth whole zero t p further low (Some u) es =
    sym (at-fuel S delta depth 0 (whole t) (whole u) refl (p.low t low) (p.steps t u es))
    ∙ ap (then_whole S delta depth whole) (at-fuel S delta (depth + 1) 0 t u refl low es)
place-step S delta depth whole (suc left) t p further low (Some u) es =
    let one : suc left ≡ left + 1 = omega arith in
    sym (at-step S delta depth (suc left) left (whole t) (whole u) one (p.low t low) (p.steps t u es))
    ∙ (further u left one ∙ ap (then_whole S delta depth whole) (at-step S delta (depth + 1) (suc left) left t u one low es))

place-low : (S : Signature) (delta : Bool) (depth : ℕ) (whole : Term → Term) (left : ℕ) (t : Term) → IsPlace S delta depth whole
    → ((u : Term) (less : ℕ) → left ≡ less + 1 → whnf_at S delta depth less (whole u) ≡ then_whole S delta depth whole (whnf_at S delta (depth + 1) less u))
    → (b : Bool) → nat_le (depth + 1 + height t) 2000 ≡ b
    → whnf_at S delta depth left (whole t) ≡ then_whole S delta depth whole (whnf_at S delta (depth + 1) left t)
place-low S delta depth whole left t p further true el =
    place-step S delta depth whole left t p further (grind (arith, nat_tests)) (step_of S delta t) refl
place-low S delta depth whole left t p further false el =
    let high : 2000 < depth + 1 + height t = grind (arith, nat_tests) in
    sym (at-deep S delta depth left (whole t) (p.high t high)) ∙ ap (then_whole S delta depth whole) (at-deep S delta (depth + 1) left t high)

-- the whole is reduced by reducing the term at the place
pub at-place : (S : Signature) (delta : Bool) (depth : ℕ) (whole : Term → Term) (left : ℕ) (t : Term) → IsPlace S delta depth whole
    → whnf_at S delta depth left (whole t) ≡ then_whole S delta depth whole (whnf_at S delta (depth + 1) left t)
at-place S delta depth whole zero t p =
    place-low S delta depth whole zero t p (λ u less one. absurd (omega arith)) (nat_le (depth + 1 + height t) 2000) refl
at-place S delta depth whole (suc left) t p =
    place-low S delta depth whole (suc left) t p
    (λ u less one. ap (λ n. whnf_at S delta depth n (whole u)) (let f : less ≡ left = omega arith in f)
    ∙ (at-place S delta depth whole left u p ∙ ap (λ n. then_whole S delta depth whole (whnf_at S delta (depth + 1) n u)) (let f : left ≡ less = omega arith in f)))
    (nat_le (depth + 1 + height t) 2000) refl

module _ (S : Signature) (delta : Bool) (depth : ℕ) (whole : Term → Term) (p : IsPlace S delta depth whole) where
  -- a refusal at the place is one of the whole
  pub place-stops : (left rest : ℕ) (t : Term) (e : Stop) → answered (Err e) rest ≡ whnf_at S delta (depth + 1) left t → answered (Err e) rest ≡ whnf_at S delta depth left (whole t)
  place-stops left rest t e is =
      ap (then_whole S delta depth whole) is ∙ sym (at-place S delta depth whole left t p)

  -- and from the head form at the place the whole goes on
  pub place-goes : (left rest : ℕ) (t u : Term) → answered (Ok u) rest ≡ whnf_at S delta (depth + 1) left t → whnf_at S delta depth rest (whole u) ≡ whnf_at S delta depth left (whole t)
  place-goes left rest t u is =
      ap (then_whole S delta depth whole) is ∙ sym (at-place S delta depth whole left t p)

-- where steps at a place are steps of the whole, what is reached there is reached by the whole
pub place-reaches : (S : Signature) (delta : Bool) (whole : Term → Term) → ((t u : Term) → step_of S delta t ≡ Some u → step_of S delta (whole t) ≡ Some (whole u))
    → (t u : Term) → Reaches S delta t u → Reaches S delta (whole t) (whole u)
place-reaches S delta whole steps t u none = none
place-reaches S delta whole steps t u (more {u = v} r e) = more (place-reaches S delta whole steps t v r) (steps v u e)

pub ruleset place_laws = (at-deep, at-rests, at-step, at-fuel, at-deep_step)
