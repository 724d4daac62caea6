-- A turn of an application goes on with one whose function part, or whose scrutinee, is reduced.
use Rattle.std.proofs.Common.{◌≡◌, ℕ, ◌+◌, ◌≤◌, Bool, true, None, Result, Ok, sym, ap, ◌∙◌, subst as transport}
use Rattle.theory.specs.Terms.{Term, height}
use Rattle.theory.specs.Terms.Term.{App}
use Rattle.theory.specs.Signatures.{Signature}
use Rattle.theory.specs.Spines.{head_of, spine_of}
use Rattle.core_terms.specs.declared.stop.Stop.{Stop}
use Rattle.kernel_reduce.specs.Reduction.{answered}
use Rattle.kernel_reduce.specs.Steps.{awaits_scrutinee, step_of}
use Rattle.store_reduce.specs.Formed.{Reaches}
use Rattle.store_reduce.specs.Forms.{TurnsIn, function_body}
use Rattle.store_reduce.specs.Places.{whnf_at}
use Rattle.store_reduce.specs.declared.form.Turn.{Turn}
use Rattle.store_reduce.proofs.Inside.{function-goes, function-reaches, scrutinee-goes, scrutinee-reaches}
use Rattle.store_reduce.proofs.Tails.{turns-as}

module _ (S : Signature) (delta : Bool) (depth : ℕ) (f u v : Term) (same : v ≡ u) (low : depth + height (App f u) ≤ 2000) where
  pub function-turns : {I : Type 0} (result : Result (Turn I) Stop) (tree : I → Term) (left rest end : ℕ) (g : Term) → answered (Ok g) rest ≡ whnf_at S delta (depth + 1) left f
      → TurnsIn tree (whnf_at S delta depth) result end (whnf_at S delta depth rest (App g v)) → TurnsIn tree (whnf_at S delta depth) result end (whnf_at S delta depth left (App f u))
  function-turns result tree left rest end g goes h =
      turns-as result tree (whnf_at S delta depth) end (whnf_at S delta depth rest (App g v)) (whnf_at S delta depth left (App f u))
      (ap (λ x. whnf_at S delta depth rest (App g x)) same ∙ function-goes S delta f u depth left rest g low goes) h

module _ (S : Signature) (delta : Bool) (f u v : Term) (same : v ≡ u) where
  pub function-way : (g : Term) → Reaches S delta f g → Reaches S delta (App f u) (App g v)
  function-way g r = transport (λ x. Reaches S delta (App f u) (App g x)) (sym same) (function-reaches S delta f u g r)

module _ (S : Signature) (delta : Bool) (depth : ℕ) (f g u : Term) (same : g ≡ f) (low : depth + height (App f u) ≤ 2000) (rests : step_of S delta f ≡ None)
    (plain : function_body f ≡ None) (awaits : awaits_scrutinee S (head_of f) (spine_of f) ≡ true) where
  pub scrutinee-turns : {I : Type 0} (result : Result (Turn I) Stop) (tree : I → Term) (left rest end : ℕ) (v : Term) → answered (Ok v) rest ≡ whnf_at S delta (depth + 1) left u
      → TurnsIn tree (whnf_at S delta depth) result end (whnf_at S delta depth rest (App g v)) → TurnsIn tree (whnf_at S delta depth) result end (whnf_at S delta depth left (App f u))
  scrutinee-turns result tree left rest end v goes h =
      turns-as result tree (whnf_at S delta depth) end (whnf_at S delta depth rest (App g v)) (whnf_at S delta depth left (App f u))
      (ap (λ x. whnf_at S delta depth rest (App x v)) same ∙ scrutinee-goes S delta f u rests plain awaits depth left rest v low goes) h

module _ (S : Signature) (delta : Bool) (f g u : Term) (same : g ≡ f) (rests : step_of S delta f ≡ None) (plain : function_body f ≡ None)
    (awaits : awaits_scrutinee S (head_of f) (spine_of f) ≡ true) where
  pub scrutinee-way : (v : Term) → Reaches S delta u v → Reaches S delta (App f u) (App g v)
  scrutinee-way v r =
      transport (λ x. Reaches S delta (App f u) (App x v)) (sym same) (scrutinee-reaches S delta f u rests plain awaits v r)
