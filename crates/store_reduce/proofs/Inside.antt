-- The function part and the scrutinee of an application.
use Rattle.std.proofs.Common.{◌≡◌, ℕ, ◌+◌, ◌≤◌, Bool, true, None, Some, Ok, Err, inl, inr, arith}
use Rattle.theory.specs.Terms.{Term, height}
use Rattle.theory.specs.Terms.Term.{App}
use Rattle.theory.specs.Signatures.{Signature}
use Rattle.theory.specs.Spines.{head_of, spine_of}
use Rattle.core_terms.specs.declared.stop.Stop.{Stop}
use Rattle.kernel_reduce.specs.Steps.{awaits_scrutinee, step_of}
use Rattle.kernel_reduce.specs.Reduction.{answered}
use Rattle.term_pool.specs.Held.{Held}
use Rattle.store_reduce.specs.Additions.{AddsOnly, LacksOne}
use Rattle.store_reduce.specs.Formed.{Reaches, IsPartOnTheWay}
use Rattle.store_reduce.specs.Forms.{function_body}
use Rattle.store_reduce.specs.Places.{whnf_at}
use Rattle.store_reduce.proofs.Adding.{adds-more, lacks-more}
use Rattle.store_reduce.proofs.PlaceLaws.{place-stops, place-goes, place-reaches}
use Rattle.store_reduce.proofs.Turning.{function-steps, function-place, scrutinee-steps, scrutinee-place, not-function}
use Rattle.store_reduce.proofs.Ways.{way-place}

module _ (S : Signature) (delta : Bool) (f u : Term) where
  -- a refusal of the function part is one of the application
  pub function-stops : (depth left rest : ℕ) (e : Stop) → depth + height (App f u) ≤ 2000 → answered (Err e) rest ≡ whnf_at S delta (depth + 1) left f
      → answered (Err e) rest ≡ whnf_at S delta depth left (App f u)
  function-stops depth left rest e low is = place-stops S delta depth (λ g. App g u) (function-place S delta depth u (omega arith)) left rest f e is

  pub function-goes : (depth left rest : ℕ) (g : Term) → depth + height (App f u) ≤ 2000 → answered (Ok g) rest ≡ whnf_at S delta (depth + 1) left f
      → whnf_at S delta depth rest (App g u) ≡ whnf_at S delta depth left (App f u)
  function-goes depth left rest g low is = place-goes S delta depth (λ h. App h u) (function-place S delta depth u (omega arith)) left rest f g is

  pub function-reaches : (g : Term) → Reaches S delta f g → Reaches S delta (App f u) (App g u)
  function-reaches g r = place-reaches S delta (λ h. App h u) (function-steps S delta u) f g r

  function-way : (x : Term) → IsPartOnTheWay S delta f x → IsPartOnTheWay S delta (App f u) x
  function-way x w = way-place S delta (λ h. App h u) (function-steps S delta u) (λ t x h. inr (inl h)) f x w

  pub function-adds : {I : Type 0} (old new : Held I) → AddsOnly (IsPartOnTheWay S delta f) old new → AddsOnly (IsPartOnTheWay S delta (App f u)) old new
  function-adds old new a = adds-more (IsPartOnTheWay S delta f) (IsPartOnTheWay S delta (App f u)) old new function-way a

  pub function-lacks : {I : Type 0} (held : Held I) → LacksOne (IsPartOnTheWay S delta f) held → LacksOne (IsPartOnTheWay S delta (App f u)) held
  function-lacks held l = lacks-more (IsPartOnTheWay S delta f) (IsPartOnTheWay S delta (App f u)) held function-way l

module _ (S : Signature) (delta : Bool) (f u : Term) (rests : step_of S delta f ≡ None) (plain : function_body f ≡ None)
    (awaits : awaits_scrutinee S (head_of f) (spine_of f) ≡ true) where
  -- a refusal of the scrutinee is one of the application
  pub scrutinee-stops : (depth left rest : ℕ) (e : Stop) → depth + height (App f u) ≤ 2000 → answered (Err e) rest ≡ whnf_at S delta (depth + 1) left u
      → answered (Err e) rest ≡ whnf_at S delta depth left (App f u)
  scrutinee-stops depth left rest e low is =
      place-stops S delta depth (λ v. App f v) (scrutinee-place S delta depth f rests (not-function f plain) awaits (omega arith)) left rest u e is

  pub scrutinee-goes : (depth left rest : ℕ) (v : Term) → depth + height (App f u) ≤ 2000 → answered (Ok v) rest ≡ whnf_at S delta (depth + 1) left u
      → whnf_at S delta depth rest (App f v) ≡ whnf_at S delta depth left (App f u)
  scrutinee-goes depth left rest v low is =
      place-goes S delta depth (λ w. App f w) (scrutinee-place S delta depth f rests (not-function f plain) awaits (omega arith)) left rest u v is

  steps-inside : (t v : Term) → step_of S delta t ≡ Some v → step_of S delta (App f t) ≡ Some (App f v)
  steps-inside = scrutinee-steps S delta f rests (not-function f plain) awaits

  pub scrutinee-reaches : (v : Term) → Reaches S delta u v → Reaches S delta (App f u) (App f v)
  scrutinee-reaches v r = place-reaches S delta (λ w. App f w) steps-inside u v r

  scrutinee-way : (x : Term) → IsPartOnTheWay S delta u x → IsPartOnTheWay S delta (App f u) x
  scrutinee-way x w = way-place S delta (λ w. App f w) steps-inside (λ t x h. inr (inr h)) u x w

  pub scrutinee-adds : {I : Type 0} (old new : Held I) → AddsOnly (IsPartOnTheWay S delta u) old new → AddsOnly (IsPartOnTheWay S delta (App f u)) old new
  scrutinee-adds old new a = adds-more (IsPartOnTheWay S delta u) (IsPartOnTheWay S delta (App f u)) old new scrutinee-way a

  pub scrutinee-lacks : {I : Type 0} (held : Held I) → LacksOne (IsPartOnTheWay S delta u) held → LacksOne (IsPartOnTheWay S delta (App f u)) held
  scrutinee-lacks held l = lacks-more (IsPartOnTheWay S delta u) (IsPartOnTheWay S delta (App f u)) held scrutinee-way l

pub ruleset inside_laws = (function-stops, function-goes, function-reaches, function-adds, function-lacks, scrutinee-stops, scrutinee-goes, scrutinee-reaches, scrutinee-adds, scrutinee-lacks)
