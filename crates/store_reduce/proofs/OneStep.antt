-- Parts of a term and of the one to which its head step leads.
use Rattle.std.proofs.Common.{◌≡◌, Bool, true, None, Some, inl, inr, refl, ap}
use Rattle.theory.specs.Terms.{Term}
use Rattle.theory.specs.Terms.Term.{App}
use Rattle.theory.specs.Signatures.{Signature}
use Rattle.theory.specs.Spines.{head_of, spine_of}
use Rattle.kernel_reduce.specs.Steps.{awaits_scrutinee, step_of}
use Rattle.term_pool.specs.Held.{Held, AddsParts, Lacks}
use Rattle.term_pool.specs.Parts.{IsPart}
use Rattle.store_reduce.specs.Additions.{AddsOnly, LacksOne}
use Rattle.store_reduce.specs.Formed.{IsStepPart}
use Rattle.store_reduce.specs.Forms.{function_body}
use Rattle.store_reduce.proofs.Adding.{adds-parts, lacks-parts, adds-more, lacks-more}
use Rattle.store_reduce.proofs.Turning.{function-steps, scrutinee-steps, not-function}

module _ {I : Type 0} (S : Signature) (delta : Bool) (t : Term) (old new : Held I) where
  -- what is made of the parts of the step
  pub step-adds : (u : Term) → step_of S delta t ≡ Some u → AddsParts old new u → AddsOnly (IsStepPart S delta t) old new
  step-adds u e a = adds-parts (IsStepPart S delta t) u old new (λ x h. record { whole = u; formed = inr e; part = h }) a

  pub here-adds : AddsParts old new t → AddsOnly (IsStepPart S delta t) old new
  here-adds a = adds-parts (IsStepPart S delta t) t old new (λ x h. record { whole = t; formed = inl refl; part = h }) a

module _ {I : Type 0} (S : Signature) (delta : Bool) (t : Term) (held : Held I) where
  pub step-lacks : (u : Term) → step_of S delta t ≡ Some u → Lacks held u → LacksOne (IsStepPart S delta t) held
  step-lacks u e l = lacks-parts (IsStepPart S delta t) u held (λ x h. record { whole = u; formed = inr e; part = h }) l

  pub here-lacks : Lacks held t → LacksOne (IsStepPart S delta t) held
  here-lacks l = lacks-parts (IsStepPart S delta t) t held (λ x h. record { whole = t; formed = inl refl; part = h }) l

-- a part of the term at a place, or of its step, is one of the whole
step_part-place : (S : Signature) (delta : Bool) (whole : Term → Term) → ((t u : Term) → step_of S delta t ≡ Some u → step_of S delta (whole t) ≡ Some (whole u))
    → ((t x : Term) → IsPart x t → IsPart x (whole t)) → (t x : Term) → IsStepPart S delta t x → IsStepPart S delta (whole t) x
step_part-place S delta whole steps parts t x w =
    record {
      whole = whole w.whole;
      formed = elim w.formed [ inl same ↦ inl (ap whole same) | inr e ↦ inr (steps t w.whole e) ];
      part = parts w.whole x w.part;
    }

module _ (S : Signature) (delta : Bool) (f u : Term) where
  function-part : (x : Term) → IsStepPart S delta f x → IsStepPart S delta (App f u) x
  function-part x w = step_part-place S delta (λ h. App h u) (function-steps S delta u) (λ t x h. inr (inl h)) f x w

  pub function-adds : {I : Type 0} (old new : Held I) → AddsOnly (IsStepPart S delta f) old new → AddsOnly (IsStepPart S delta (App f u)) old new
  function-adds old new a = adds-more (IsStepPart S delta f) (IsStepPart S delta (App f u)) old new function-part a

  pub function-lacks : {I : Type 0} (held : Held I) → LacksOne (IsStepPart S delta f) held → LacksOne (IsStepPart S delta (App f u)) held
  function-lacks held l = lacks-more (IsStepPart S delta f) (IsStepPart S delta (App f u)) held function-part l

module _ (S : Signature) (delta : Bool) (f u : Term) (rests : step_of S delta f ≡ None) (plain : function_body f ≡ None)
    (awaits : awaits_scrutinee S (head_of f) (spine_of f) ≡ true) where
  scrutinee-part : (x : Term) → IsStepPart S delta u x → IsStepPart S delta (App f u) x
  scrutinee-part x w = step_part-place S delta (λ v. App f v) (scrutinee-steps S delta f rests (not-function f plain) awaits) (λ t x h. inr (inr h)) u x w

  pub scrutinee-adds : {I : Type 0} (old new : Held I) → AddsOnly (IsStepPart S delta u) old new → AddsOnly (IsStepPart S delta (App f u)) old new
  scrutinee-adds old new a = adds-more (IsStepPart S delta u) (IsStepPart S delta (App f u)) old new scrutinee-part a

  pub scrutinee-lacks : {I : Type 0} (held : Held I) → LacksOne (IsStepPart S delta u) held → LacksOne (IsStepPart S delta (App f u)) held
  scrutinee-lacks held l = lacks-more (IsStepPart S delta u) (IsStepPart S delta (App f u)) held scrutinee-part l

pub ruleset one_step_laws = (step-adds, here-adds, step-lacks, here-lacks)

pub ruleset step_part_laws = (function-adds, function-lacks, scrutinee-adds, scrutinee-lacks)
