-- The step of an application, by those of its parts.
use Rattle.std.proofs.Common.{◌≡◌, ℕ, ◌+◌, ◌≤◌, Bool, true, false, cond, ◌&&◌, ◌||◌, Option, Some, None, is_some, length, refl, sym, ap, ◌∙◌, unwrap_or, arith}
use Rattle.theory.specs.Terms.{Term, height, subst}
use Rattle.theory.specs.Terms.Term.{Var, Sort, Lam, App}
use Rattle.theory.specs.Signatures.{Signature}
use Rattle.theory.specs.Spines.{head_of, spine_of}
use Rattle.kernel_reduce.specs.Steps.{beta_step, awaits_scrutinee, contraction, elimination_step, scrutinee_step, first_of, application_step, step_of}
use Rattle.kernel_reduce.specs.Tests.{is_function, meets}
use Rattle.kernel_reduce.proofs.StepTests.{application_tested}
use Rattle.store_reduce.specs.Forms.{function_body, contracted}
use Rattle.store_reduce.proofs.PlaceLaws.{IsPlace}

beta-none : (f u : Term) → is_function f ≡ false → beta_step f u ≡ None
beta-none (Lam a b) u h = absurd (grind arith)
beta-none (Var n) u h = refl
beta-none _ u h = refl

none-of : (o : Option Term) → is_some o ≡ false → o ≡ None
none-of (Some t) e = absurd (grind arith)
none-of None e = refl

some-of : (o : Option Term) → is_some o ≡ true → (t : Term) × (o ≡ Some t)
some-of (Some t) e = (t, refl)
some-of None e = absurd (grind arith)

module _ (S : Signature) (delta : Bool) where
  -- steps of the function part are steps of the application
  pub function-steps : (u f g : Term) → step_of S delta f ≡ Some g → step_of S delta (App f u) ≡ Some (App g u)
  function-steps u f g e = ap (λ o. application_step S f u o (step_of S delta u)) e

  pub function-place : (depth : ℕ) (u : Term) → depth + 1 + height u ≤ 2000 → IsPlace S delta depth (λ f. App f u)
  function-place depth u fits = record { low = λ t h. omega arith; high = λ t h. omega arith; steps = function-steps u }

  -- the step of an application whose function part takes none and is no function
  pub eliminated : (f u : Term) → step_of S delta f ≡ None → is_function f ≡ false → step_of S delta (App f u) ≡ elimination_step S f u (step_of S delta u)
  eliminated f u rests plain =
      ap (λ o. application_step S f u o (step_of S delta u)) rests
      ∙ ap (λ o. first_of o (elimination_step S f u (step_of S delta u))) (beta-none f u plain)

  awaited : (f u : Term) (o : Option Term) → awaits_scrutinee S (head_of f) (spine_of f) ≡ true
      → elimination_step S f u o ≡ scrutinee_step f o (contraction S (head_of f) (spine_of f) (head_of u) (spine_of u))
  awaited f u o awaits = ap (λ b. cond b (scrutinee_step f o (contraction S (head_of f) (spine_of f) (head_of u) (spine_of u))) None) awaits

  -- steps of the scrutinee are steps of the application
  pub scrutinee-steps : (f : Term) → step_of S delta f ≡ None → is_function f ≡ false → awaits_scrutinee S (head_of f) (spine_of f) ≡ true
      → (t v : Term) → step_of S delta t ≡ Some v → step_of S delta (App f t) ≡ Some (App f v)
  scrutinee-steps f rests plain awaits t v e =
      eliminated f t rests plain
      ∙ (awaited f t (step_of S delta t) awaits ∙ ap (λ o. scrutinee_step f o (contraction S (head_of f) (spine_of f) (head_of t) (spine_of t))) e)

  pub scrutinee-place : (depth : ℕ) (f : Term) → step_of S delta f ≡ None → is_function f ≡ false → awaits_scrutinee S (head_of f) (spine_of f) ≡ true
      → depth + 1 + height f ≤ 2000 → IsPlace S delta depth (λ u. App f u)
  scrutinee-place depth f rests plain awaits fits =
      record { low = λ t h. omega arith; high = λ t h. omega arith; steps = scrutinee-steps f rests plain awaits }

  -- without an eliminator that awaits its scrutinee there is no step
  pub other-rests : (f u : Term) → step_of S delta f ≡ None → is_function f ≡ false → awaits_scrutinee S (head_of f) (spine_of f) ≡ false → step_of S delta (App f u) ≡ None
  other-rests f u rests plain awaits =
      eliminated f u rests plain
      ∙ ap (λ b. cond b (scrutinee_step f (step_of S delta u) (contraction S (head_of f) (spine_of f) (head_of u) (spine_of u))) None) awaits

  tested : (f u : Term) → step_of S delta f ≡ None → is_function f ≡ false → awaits_scrutinee S (head_of f) (spine_of f) ≡ true → step_of S delta u ≡ None
      → is_some (step_of S delta (App f u)) ≡ meets S (head_of f) (head_of u) (length (spine_of u))
  tested f u rests plain awaits stuck =
      application_tested S delta f u
      ∙ (ap (λ o. is_some o || (is_function f || (awaits_scrutinee S (head_of f) (spine_of f) && (is_some (step_of S delta u) || meets S (head_of f) (head_of u) (length (spine_of u)))))) rests
      ∙ (ap (λ b. b || (awaits_scrutinee S (head_of f) (spine_of f) && (is_some (step_of S delta u) || meets S (head_of f) (head_of u) (length (spine_of u))))) plain
      ∙ (ap (λ b. b && (is_some (step_of S delta u) || meets S (head_of f) (head_of u) (length (spine_of u)))) awaits
      ∙ ap (λ o. is_some o || meets S (head_of f) (head_of u) (length (spine_of u))) stuck)))

  -- nor where the scrutinee takes none and they do not meet
  pub unmet-rests : (f u : Term) → step_of S delta f ≡ None → is_function f ≡ false → awaits_scrutinee S (head_of f) (spine_of f) ≡ true → step_of S delta u ≡ None
      → meets S (head_of f) (head_of u) (length (spine_of u)) ≡ false → step_of S delta (App f u) ≡ None
  unmet-rests f u rests plain awaits stuck unmet = none-of (step_of S delta (App f u)) (tested f u rests plain awaits stuck ∙ unmet)

  -- where they meet the step is the contraction
  pub met-step : (f u : Term) → step_of S delta f ≡ None → is_function f ≡ false → awaits_scrutinee S (head_of f) (spine_of f) ≡ true → step_of S delta u ≡ None
      → meets S (head_of f) (head_of u) (length (spine_of u)) ≡ true → step_of S delta (App f u) ≡ Some (contracted S f u)
  unfolding contracted
  met-step f u rests plain awaits stuck met =
      let there = some-of (step_of S delta (App f u)) (tested f u rests plain awaits stuck ∙ met) in
      let same : step_of S delta (App f u) ≡ contraction S (head_of f) (spine_of f) (head_of u) (spine_of u) =
      eliminated f u rests plain ∙ (awaited f u (step_of S delta u) awaits ∙ ap (λ o. scrutinee_step f o (contraction S (head_of f) (spine_of f) (head_of u) (spine_of u))) stuck) in
      there.1 ∙ ap Some (sym (ap (λ o. unwrap_or o (Sort 0)) (sym same ∙ there.1)))

  pub beta-step : (f u b : Term) → function_body f ≡ Some b → step_of S delta (App f u) ≡ Some (subst b 0 u)
  beta-step (Lam a c) u b e = let same : c ≡ b = grind (arith, e) in ap (λ x. Some (subst x 0 u)) same
  beta-step (Var n) u b e = absurd (grind (arith, e))
  beta-step _ u b e = absurd (grind (arith, e))

pub not-function : (f : Term) → function_body f ≡ None → is_function f ≡ false
not-function (Lam a b) e = absurd (grind (arith, e))
not-function (Var n) e = refl
not-function _ e = refl

module _ (S : Signature) (delta : Bool) (f u : Term) (rests : step_of S delta f ≡ None) (plain : function_body f ≡ None) where
  pub plain-met : awaits_scrutinee S (head_of f) (spine_of f) ≡ true → step_of S delta u ≡ None → meets S (head_of f) (head_of u) (length (spine_of u)) ≡ true
      → step_of S delta (App f u) ≡ Some (contracted S f u)
  plain-met awaits stuck met = met-step S delta f u rests (not-function f plain) awaits stuck met

  pub plain-unmet : awaits_scrutinee S (head_of f) (spine_of f) ≡ true → step_of S delta u ≡ None → meets S (head_of f) (head_of u) (length (spine_of u)) ≡ false
      → step_of S delta (App f u) ≡ None
  plain-unmet awaits stuck met = unmet-rests S delta f u rests (not-function f plain) awaits stuck met

  pub plain-other : awaits_scrutinee S (head_of f) (spine_of f) ≡ false → step_of S delta (App f u) ≡ None
  plain-other awaits = other-rests S delta f u rests (not-function f plain) awaits

pub ruleset turn_laws = (plain-met, plain-unmet, plain-other, beta-step)
