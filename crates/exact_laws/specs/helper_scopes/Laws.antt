-- Scopes of the entries of helpers.
use Rattle.std.specs.Prelude.{◌≡◌, ℕ, List, None, Ok, length}
use Rattle.theory.specs.Prelude.{prelude}
use Rattle.theory.specs.Signatures.{Signature, IsPrefix}
use Rattle.core_sig.specs.Drafts.{Draft}
use Rattle.core_sig.specs.ScopedDrafts.{IsScopedDraft}
use Rattle.tree_translation.specs.structural_rec.Uses.{Use}
use Rattle.unification.specs.ScopedStates.{IsReady}
use Rattle.tree_translation.specs.Conditions.{with_function, IsHelper}
use Rattle.tree_translation.specs.Entries.{helper_entry}
use Rattle.tree_translation.specs.Plans.{Plan, Part}

-- A helper of a function that does not call itself is a scoped draft. Two things are asked beyond what a plan gives: the signature begins
-- with the prelude, and it is ready together with the function.
abbrev pub PlainHelperScoped : Type 0
PlainHelperScoped =
    (S : Signature) (plan : Plan) (uses : List Use) (k : ℕ) (part : Part) (d : Draft) → IsReady (with_function S plan) → IsPrefix (prelude S.has_k) S →
    plan.base ≡ length S.entries → IsHelper S plan uses k part → helper_entry S plan None k part ≡ Ok d → (d.base ≡ plan.base) × IsScopedDraft S d
