-- Scopes of all entries of a function.
use Rattle.std.specs.Prelude.{◌≡◌, ℕ, ◌+◌, Some, Ok, List, slice_get, All}
use Rattle.theory.specs.Prelude.{prelude}
use Rattle.theory.specs.Signatures.{Signature, IsPrefix}
use Rattle.core_sig.specs.Drafts.{Draft}
use Rattle.core_sig.specs.ScopedDrafts.{IsScopedDraft}
use Rattle.unification.specs.ScopedStates.{IsReady}
use Rattle.tree_translation.specs.Conditions.{with_function, IsPlanned}
use Rattle.tree_translation.specs.Entries.{helper_entry, step_entry, translate}
use Rattle.tree_translation.specs.Plans.{Plan, Part}
use Rattle.tree_translation.specs.Recursion.{Recursion, recursion_of}
use Rattle.entry_laws.specs.draft_scopes.Laws.{IsOrdered}

-- The plan is one over the signature, which begins with the prelude and is ready together with the function.
pub record IsReadyFor (S : Signature) (plan : Plan) : Type 0 where
  pub ready : IsReady (with_function S plan)
  pub first : IsPrefix (prelude S.has_k) S
  pub planned : IsPlanned S plan

-- In the order of recursion the types of the telescope are each over those before it, and the goal is over them.
abbrev pub PlanOrdered : Type 0
PlanOrdered = (S : Signature) (plan : Plan) (r : Recursion) → IsPlanned S plan → recursion_of S plan ≡ Some r → IsOrdered S plan r

-- The step of a function by recursion is a scoped draft.
abbrev pub StepScoped : Type 0
StepScoped =
    (S : Signature) (plan : Plan) (r : Recursion) (d : Draft) → IsReadyFor S plan → recursion_of S plan ≡ Some r → IsOrdered S plan r → step_entry S plan r ≡ Ok d →
    (d.base ≡ plan.base) × IsScopedDraft S d

-- A helper is a scoped draft, with recursion and without.
abbrev pub HelperScoped : Type 0
HelperScoped =
    (S : Signature) (plan : Plan) (k : ℕ) (part : Part) (d : Draft) → IsReadyFor S plan → slice_get plan.parts (k + 1) ≡ Some part →
    helper_entry S plan (recursion_of S plan) (k + 1) part ≡ Ok d → (d.base ≡ plan.base) × IsScopedDraft S d

-- Each draft of a plan is scoped.
abbrev pub DraftsScopedAfterPrelude : Type 0
DraftsScopedAfterPrelude =
    (S : Signature) (plan : Plan) (drafts : List Draft) → IsReadyFor S plan → translate S plan ≡ Ok drafts →
    All (λ d. (d.base ≡ plan.base) × IsScopedDraft S d) drafts
