-- The terms that the checker forms where a function of a type is applied.
use Rattle.std.specs.Prelude.{◌⊎◌, true, [], ◌∷◌}
use Rattle.theory.specs.Terms.{Term}
use Rattle.theory.specs.Telescopes.{Context}
use Rattle.theory.specs.Signatures.{Signature}
use Rattle.store_reduce.specs.Formed.{IsFormed}
use Rattle.kernel_check.specs.Asked.{IsArgumentPart, IsProductPart}

-- what is added where a function of the type `c` is applied to `u`: for a product of that type, and for the argument
abbrev pub IsAppliedPart : Signature → Context → Term → Term → Term → Type 0
IsAppliedPart S G u c x = IsProductPart S G c x ⊎ ((p : Term) × (IsFormed S true (c ∷ []) p × IsArgumentPart S G u p x))
