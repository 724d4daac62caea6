-- The laws of the drafts of a resolved function.
use Rattle.std.specs.Prelude.{◌≡◌, ◌<◌, ℕ, Ok, List, All}
use Rattle.theory.specs.Terms.{top}
use Rattle.theory.specs.Prelude.{prelude}
use Rattle.theory.specs.Signatures.{Signature, IsPrefix}
use Rattle.core_sig.specs.Drafts.{Draft}
use Rattle.core_sig.specs.ScopedDrafts.{IsScopedDraft}
use Rattle.drafts.specs.draft_checks.Checks.{enterable, names_enter}
use Rattle.clause_reports.specs.elaboration.Functions.{plan_of}
use Rattle.function_entries.specs.CodeEntries.{translate_made}
use Rattle.function_session.specs.plan_laws.Conditions.{IsFunctionFor}
use Rattle.resolve.specs.Functions.{Function}
use Rattle.tree_translation.specs.Entries.{translate}
use Rattle.tree_translation.specs.Plans.{Plan}

-- The plan of a function over a signature.
pub record IsPlanFor (S : Signature) (f : Function) (plan : Plan) : Type 0 where
  pub function : IsFunctionFor S f
  pub level : ℕ
  pub low : level < top
  pub left : ℕ
  pub is : (plan_of S f level left).0 ≡ Ok plan

-- The drafts of a function are scoped: they are over the signature, and name its entries and their own names alone.
abbrev pub FunctionDraftsScoped : Type 0
FunctionDraftsScoped =
    (S : Signature) (f : Function) (plan : Plan) (drafts : List Draft) → IsPlanFor S f plan → IsPrefix (prelude S.has_k) S → translate S plan ≡ Ok drafts →
    All (λ d. (d.base ≡ plan.base) × IsScopedDraft S d) drafts

-- So over the signature and each longer one they may enter wherever their names may: the tests of their terms find nothing.
abbrev pub FunctionDraftsTested : Type 0
FunctionDraftsTested =
    (S : Signature) (f : Function) (plan : Plan) (drafts : List Draft) (T : Signature) → IsPlanFor S f plan → IsPrefix (prelude S.has_k) S → IsPrefix S T →
    translate S plan ≡ Ok drafts → All (λ d. enterable T d ≡ names_enter T d.names) drafts

-- The code's answer for its plan is the translation of the plan, and Deep exactly where a type or a term of an entry is too high.
abbrev pub FunctionEntriesMade : Type 0
FunctionEntriesMade =
    (S : Signature) (f : Function) (plan : Plan) → IsPlanFor S f plan → translate_made S plan ≡ translate S plan
