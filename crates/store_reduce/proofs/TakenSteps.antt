-- The one step of a term for its unit: by the step that is known, and from a part to the whole.
use Rattle.std.proofs.Common.{◌≡◌, ℕ, zero, suc, ◌+◌, ◌<◌, ◌≤◌, Bool, true, false, cond, Option, Some, None, Ok, Err, refl, sym, ap, ◌∙◌, subst as transport, arith}
use Rattle.std.proofs.lemmas.Bool.Decides.{nat_tests}
use Rattle.theory.specs.Terms.{Term, height}
use Rattle.theory.specs.Signatures.{Signature}
use Rattle.core_terms.specs.Answers.{is_low}
use Rattle.core_terms.specs.declared.stop.Stop.{Stop}
use Rattle.core_terms.specs.declared.stop.Stop.TheVariants.{Deep, Fuel}
use Rattle.kernel_reduce.specs.Steps.{step_of}
use Rattle.kernel_reduce.specs.Reduction.{answered, charge, some_bounded, step_taken}
use Rattle.store_reduce.proofs.PlaceLaws.{IsPlace}

bounded-low : (u : Term) → height u ≤ 2000 → some_bounded u ≡ Ok (Some u)
bounded-low u low = let is : is_low u ≡ true = grind (arith, nat_tests) in ap (λ b. cond b (Ok (Some u)) (Err Deep)) is

bounded-high : (u : Term) → 2000 < height u → some_bounded u ≡ Err Deep
bounded-high u high = let is : is_low u ≡ false = grind (arith, nat_tests) in ap (λ b. cond b (Ok (Some u)) (Err Deep)) is

charged : (left rest : ℕ) (u : Term) → left ≡ rest + 1 → step_taken (Some u) left ≡ answered (some_bounded u) rest
charged left rest u is = let one : left ≡ suc rest = omega arith in ap (charge (answered (some_bounded u))) one

module _ (S : Signature) (delta : Bool) where
  -- no step
  pub taken-none : (left : ℕ) (t : Term) → step_of S delta t ≡ None → answered (Ok None) left ≡ step_taken (step_of S delta t) left
  taken-none left t e = sym (ap (λ o. step_taken o left) e)

  -- a step for its unit
  pub taken-step : (left rest : ℕ) (t u : Term) → left ≡ rest + 1 → step_of S delta t ≡ Some u → height u ≤ 2000
      → answered (Ok (Some u)) rest ≡ step_taken (step_of S delta t) left
  taken-step left rest t u is e low = sym (ap (λ o. step_taken o left) e ∙ (charged left rest u is ∙ ap (λ a. answered a rest) (bounded-low u low)))

  -- a step without a unit
  pub taken-fuel : (left : ℕ) (t u : Term) → left ≡ 0 → step_of S delta t ≡ Some u → answered (Err Fuel) left ≡ step_taken (step_of S delta t) left
  taken-fuel left t u is e =
      transport (λ n. answered (Err Fuel) n ≡ step_taken (step_of S delta t) n) (sym is) (sym (ap (λ o. step_taken o 0) e))

  -- a step that is too high
  pub taken-deep : (left rest : ℕ) (t u : Term) → left ≡ rest + 1 → step_of S delta t ≡ Some u → 2000 < height u
      → answered (Err Deep) rest ≡ step_taken (step_of S delta t) left
  taken-deep left rest t u is e high = sym (ap (λ o. step_taken o left) e ∙ (charged left rest u is ∙ ap (λ a. answered a rest) (bounded-high u high)))

pub ruleset taken_laws = (taken-none, taken-step, taken-fuel, taken-deep)

-- what an answer of a step says of the step
pub record IsNoStep (o : Option Term) (left rest : ℕ) : Type 0 where
  pub none : o ≡ None
  pub same : rest ≡ left

pub record IsStep (o : Option Term) (left rest : ℕ) (u : Term) : Type 0 where
  pub some : o ≡ Some u
  pub one : left ≡ rest + 1

pub of-none : (o : Option Term) (left rest : ℕ) → answered (Ok None) rest ≡ step_taken o left → IsNoStep o left rest
of-none None left rest e = record { none = refl; same = grind (arith, e) }
of-none (Some v) zero rest e = absurd (grind (arith, e))
of-none (Some v) (suc left) rest e = by_case (is_low v) refl
  where
    by_case : (b : Bool) → is_low v ≡ b → IsNoStep (Some v) (suc left) rest
    by_case true f = let g : answered (Ok None) rest ≡ answered (Ok (Some v)) left = e ∙ ap (λ b. answered (cond b (Ok (Some v)) (Err Deep)) left) f in absurd (grind (arith, g))
    by_case false f = let g : answered (Ok None) rest ≡ answered (Err Deep) left = e ∙ ap (λ b. answered (cond b (Ok (Some v)) (Err Deep)) left) f in absurd (grind (arith, g))

pub of-some : (o : Option Term) (left rest : ℕ) (u : Term) → answered (Ok (Some u)) rest ≡ step_taken o left → IsStep o left rest u
of-some None left rest u e = absurd (grind (arith, e))
of-some (Some v) zero rest u e = absurd (grind (arith, e))
of-some (Some v) (suc left) rest u e = by_case (is_low v) refl
  where
    by_case : (b : Bool) → is_low v ≡ b → IsStep (Some v) (suc left) rest u
    by_case true f =
        let g : answered (Ok (Some u)) rest ≡ answered (Ok (Some v)) left = e ∙ ap (λ b. answered (cond b (Ok (Some v)) (Err Deep)) left) f in
        record { some = grind (arith, g); one = let same : rest ≡ left = grind (arith, g) in omega arith }
    by_case false f = let g : answered (Ok (Some u)) rest ≡ answered (Err Deep) left = e ∙ ap (λ b. answered (cond b (Ok (Some v)) (Err Deep)) left) f in absurd (grind (arith, g))

module _ (S : Signature) (delta : Bool) (whole : Term → Term) (p : IsPlace S delta 0 whole) where
  -- a step at the place is one of the whole
  pub placed-step : (left rest : ℕ) (t u : Term) → answered (Ok (Some u)) rest ≡ step_taken (step_of S delta t) left → height (whole u) ≤ 2000
      → answered (Ok (Some (whole u))) rest ≡ step_taken (step_of S delta (whole t)) left
  placed-step left rest t u e low =
      let s = of-some (step_of S delta t) left rest u e in
      taken-step S delta left rest (whole t) (whole u) s.one (p.steps t u s.some) low

  pub placed-deep : (left rest : ℕ) (t u : Term) → answered (Ok (Some u)) rest ≡ step_taken (step_of S delta t) left → 2000 < height (whole u)
      → answered (Err Deep) rest ≡ step_taken (step_of S delta (whole t)) left
  placed-deep left rest t u e high =
      let s = of-some (step_of S delta t) left rest u e in
      taken-deep S delta left rest (whole t) (whole u) s.one (p.steps t u s.some) high

  -- and so is a refusal
  pub placed-refusal : (left rest : ℕ) (t : Term) (stop : Stop) → answered (Err stop) rest ≡ step_taken (step_of S delta t) left
      → answered (Err stop) rest ≡ step_taken (step_of S delta (whole t)) left
  placed-refusal left rest t stop e = by_case (step_of S delta t) refl left e
    where
      by_case : (o : Option Term) → step_of S delta t ≡ o → (n : ℕ) → answered (Err stop) rest ≡ step_taken o n
          → answered (Err stop) rest ≡ step_taken (step_of S delta (whole t)) n
      by_case None es n f = absurd (grind (arith, f))
      by_case (Some v) es zero f = f ∙ sym (ap (λ o. step_taken o zero) (p.steps t v es))
      by_case (Some v) es (suc n) f = by_height (is_low v) refl
        where
          by_height : (b : Bool) → is_low v ≡ b → answered (Err stop) rest ≡ step_taken (step_of S delta (whole t)) (suc n)
          by_height true low =
              let g : answered (Err stop) rest ≡ answered (Ok (Some v)) n = f ∙ ap (λ b. answered (cond b (Ok (Some v)) (Err Deep)) n) low in absurd (grind (arith, g))
          by_height false high =
              let g : answered (Err stop) rest ≡ answered (Err Deep) n = f ∙ ap (λ b. answered (cond b (Ok (Some v)) (Err Deep)) n) high in
              let h : 2000 < height v = grind (arith, nat_tests) in
              g ∙ taken-deep S delta (suc n) n (whole t) (whole v) (omega arith) (p.steps t v es) (let k = p.high v (omega arith) in omega arith)
