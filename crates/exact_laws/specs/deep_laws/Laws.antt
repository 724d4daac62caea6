-- The entries of a function are refused only where one of them is too high.
use Rattle.std.specs.Prelude.{◌≡◌, List, Ok}
use Rattle.theory.specs.Signatures.{Signature}
use Rattle.core_sig.specs.Drafts.{Draft}
use Rattle.unification.specs.ScopedStates.{IsReady}
use Rattle.tree_translation.specs.Conditions.{IsPlanned, with_function}
use Rattle.tree_translation.specs.Entries.{translate}
use Rattle.tree_translation.specs.Plans.{Plan}
use Rattle.leaf_terms.specs.CallsApart.{PlanCallsApart}
use Rattle.function_entries.specs.CodeEntries.{translate_made}

-- A plan over a signature that is ready together with the function, where no call is the decreasing argument of another one.
pub record IsKeptPlan (S : Signature) (plan : Plan) : Type 0 where
  pub ready : IsReady (with_function S plan)
  pub planned : IsPlanned S plan
  pub apart : PlanCallsApart plan

-- The code makes the entries that such a plan translates to.
abbrev pub TranslateAnswers : Type 0
TranslateAnswers =
    (S : Signature) (plan : Plan) (drafts : List Draft) → IsKeptPlan S plan → translate S plan ≡ Ok drafts → translate_made S plan ≡ Ok drafts

-- So the code's answer for such a plan is its translation, and Deep exactly where a type or a term of an entry is too high.
abbrev pub TranslateIsExact : Type 0
TranslateIsExact = (S : Signature) (plan : Plan) → IsKeptPlan S plan → translate_made S plan ≡ translate S plan
