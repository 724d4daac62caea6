-- The values that calls of the kernel work with.
use Rattle.std.specs.Prelude.{ℕ, refl}
use Rattle.std.specs.Coded.{Coded, code_by, coded×, coded_ℕ}
use Rattle.theory.specs.Signatures.{Signature}
use Rattle.theory.specs.SignatureScopes.{IsScopedSignature}
use Rattle.core_sig.specs.Codes.{signature_code}
use Rattle.core_sig.specs.EntryIds.{Stands}
use Rattle.core_sig.specs.declared.entry_ids.EntryIds.{EntryIds}
use Rattle.term_pool.specs.Layers.{Layered, layer_held}
use Rattle.term_pool.specs.declared.ids.Id.{Id}

-- the signature, and the units that are left and that were spent
pub record Kernel : Type 0 where
  pub signature : Signature
  pub left : ℕ
  pub spent : ℕ

abbrev pub kernel_code : Coded Kernel
kernel_code =
    code_by (Signature × (ℕ × ℕ)) (coded× signature_code (coded× coded_ℕ coded_ℕ)) (λ k. (k.signature, (k.left, k.spent)))
    (λ p. record { signature = p.0; left = p.1.0; spent = p.1.1 }) (λ _. refl)

-- the signature is scoped, and the ids stand for its entries in the layer
pub record IsKernel (layer : Layered) (S : Signature) (ids : EntryIds Id) : Type 0 where
  pub scoped : IsScopedSignature S
  pub stored : Stands (layer_held layer) S.entries ids
