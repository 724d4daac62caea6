-- What the checker adds to a store that has grown, said of the context and the terms before.
use Rattle.std.proofs.Common.{◌≡◌, inl, inr, true, [], ◌∷◌, subst as transport}
use Rattle.theory.specs.Terms.{Term}
use Rattle.theory.specs.Signatures.{Signature}
use Rattle.term_pool.specs.Held.{Held, Extends}
use Rattle.store_reduce.specs.Formed.{IsFormedPart}
use Rattle.kernel_check.specs.Applications.{IsAppliedPart}
use Rattle.kernel_check.specs.Asked.{IsCheckedAgainst, IsCheckedPart, IsArgumentPart}
use Rattle.kernel_check.specs.Scopes.{IsLive, scope_in}
use Rattle.kernel_check.specs.declared.scope.Scope.{Scope}
use Rattle.kernel_check.proofs.LiveScopes.{scope-kept}

module _ {I : Type 0} {old mid : Held I} (e : Extends old mid) (scope : Scope I) (live : IsLive old scope) where
  pub checked-before : {S : Signature} {t u : Term} → t ≡ u → (x : Term) → IsCheckedPart S (scope_in mid.tree scope) t x → IsCheckedPart S (scope_in old.tree scope) u x
  checked-before {S} {t} {u} is x p =
      transport (λ G. IsCheckedPart S G u x) (scope-kept old mid scope e live) (transport (λ w. IsCheckedPart S (scope_in mid.tree scope) w x) is p)

  pub argument-before : (S : Signature) (p : Term) {u w : Term} → u ≡ w → (x : Term) → IsArgumentPart S (scope_in mid.tree scope) u p x → IsArgumentPart S (scope_in old.tree scope) w p x
  argument-before S p {u} {w} is x h =
      transport (λ G. IsArgumentPart S G w p x) (scope-kept old mid scope e live) (transport (λ v. IsArgumentPart S (scope_in mid.tree scope) v p x) is h)

  pub applied-before : {S : Signature} {u w c : Term} → u ≡ w → (x : Term) → IsAppliedPart S (scope_in mid.tree scope) u c x → IsAppliedPart S (scope_in old.tree scope) w c x
  applied-before {S} {u} {w} {c} is x h =
      transport (λ G. IsAppliedPart S G w c x) (scope-kept old mid scope e live) (transport (λ v. IsAppliedPart S (scope_in mid.tree scope) v c x) is h)

  pub against-before : {S : Signature} {u w a b : Term} → u ≡ w → a ≡ b → (x : Term) → IsCheckedAgainst S (scope_in mid.tree scope) u a x → IsCheckedAgainst S (scope_in old.tree scope) w b x
  against-before is same x (inl p) = inl (checked-before is x p)
  against-before {S} is same x (inr p) = inr (transport (λ t. IsFormedPart S true (t ∷ []) x) same p)
