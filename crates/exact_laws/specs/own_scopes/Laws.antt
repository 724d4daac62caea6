-- Scopes of a function's own entry.
use Rattle.std.specs.Prelude.{◌≡◌, Some, None, Ok}
use Rattle.theory.specs.Prelude.{prelude}
use Rattle.theory.specs.Signatures.{Signature, IsPrefix}
use Rattle.core_sig.specs.Drafts.{Draft}
use Rattle.core_sig.specs.ScopedDrafts.{IsScopedDraft}
use Rattle.unification.specs.ScopedStates.{IsReady}
use Rattle.tree_translation.specs.Conditions.{with_function, IsPlanned}
use Rattle.tree_translation.specs.Entries.{function_entry}
use Rattle.tree_translation.specs.Plans.{Plan}
use Rattle.tree_translation.specs.Recursion.{Recursion, recursion_of}

-- The own entry of a function that does not call itself is a scoped draft. Two things are asked beyond what a plan gives: the signature
-- begins with the prelude, and it is ready together with the function.
abbrev pub PlainFunctionScoped : Type 0
PlainFunctionScoped =
    (S : Signature) (plan : Plan) (d : Draft) → IsReady (with_function S plan) → IsPrefix (prelude S.has_k) S → IsPlanned S plan → recursion_of S plan ≡ None →
    function_entry S plan None ≡ Ok d → (d.base ≡ plan.base) × IsScopedDraft S d

-- The own entry of a function by recursion is a scoped draft, whatever the recursion.
abbrev pub RecursiveFunctionScoped : Type 0
RecursiveFunctionScoped =
    (S : Signature) (plan : Plan) (r : Recursion) (d : Draft) → IsPlanned S plan → function_entry S plan (Some r) ≡ Ok d → (d.base ≡ plan.base) × IsScopedDraft S d
