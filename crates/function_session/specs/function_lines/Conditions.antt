-- The conditions on a function, and on the signature that it is added to or that has it at its end.
use Rattle.std.specs.Prelude.{◌≡◌, ◌≤◌, ◌+◌, ℕ, true, None, Some, List, [], ◌∷◌, slice_get, IfOk}
use Rattle.theory.specs.Signatures.{Signature, IsPrefix}
use Rattle.theory.specs.WellFormed.{IsWellFormed, provisional}
use Rattle.core_terms.specs.Answers.{are_low}
use Rattle.core_sig.specs.Drafts.{Draft}
use Rattle.core_sig.specs.Names.{find}
use Rattle.family_check.specs.Scopes.{HasPrelude}
use Rattle.elab_session.specs.Sessions as session
use Rattle.resolve.specs.Functions.{Function}
use Rattle.resolve.specs.Scoping.{IsResolvedFunction}
use Rattle.tree_translation.specs.Plans.{Part, Plan, own_part}
use Rattle.unification.specs.ScopedStates.{IsReady}
use Rattle.clause_reports.specs.Conditions.{IsEntered}
use Rattle.clause_reports.specs.DraftEntering.{enter_draft_of}
use Rattle.clause_reports.specs.elaboration.Walking.{greatest_level}
use Rattle.drafts.specs.draft_entering.Conditions.{IsEnterableDraft}
use Rattle.function_session.specs.function_laws.report_laws.plan_drafts.Laws.{IsPlanFor}
use Rattle.function_session.specs.plan_laws.Conditions.{HasLevel}

-- The conditions of the phases of a function: the signature is one that a session may have, and the function is new there and resolved,
-- with itself as a provisional constant in its clauses.
pub record IsWorkingOn (S : Signature) (f : Function) : Type 0 where
  pub ready : session.IsReady S
  pub new : find S f.name ≡ None
  pub resolved : IsResolvedFunction S (provisional S f.name f.type) f

-- The function is resolved over the signature, whose first entries are those over which its type is.
pub record IsFunctionOver (T : Signature) (f : Function) : Type 0 where
  pub before : Signature
  pub prefix : IsPrefix before T
  pub ready : IsReady T
  pub resolved : IsResolvedFunction before T f

-- The plan is that of the function over the signature, at the level of the function's type.
pub record IsPlanWith (S : Signature) (f : Function) (plan : Plan) : Type 0 where
  pub plan_for : IsPlanFor S f plan
  pub level : HasLevel S f plan_for.level

-- there is such a function
abbrev pub IsOfFunction : Signature → Plan → Type 0
IsOfFunction S plan = (f : Function) × IsPlanWith S f plan

-- ---- entries

-- each of the drafts may enter the signature that has those before it
abbrev pub EnterInTurn : Signature → List Draft → Type 0
EnterInTurn S [] = Unit {0}
EnterInTurn S (d ∷ drafts) = IsEnterableDraft S d × ((left : ℕ) → IfOk (enter_draft_of S d left).0 (λ e. EnterInTurn e.signature drafts))

-- ---- lines

abbrev pub ArePartsLow : List Part → Type 0
ArePartsLow [] = Unit {0}
ArePartsLow (part ∷ parts) = (part.level ≤ greatest_level) × ArePartsLow parts

-- The signature is well formed and has the entries of the plan, which was translated over its first entries. Recursion is looked for in a
-- telescope that is low, and the levels of the parts leave room for the names of proofs.
pub record HasEntries (plan : Plan) (T : Signature) : Type 0 where
  pub before : Signature
  pub entered : IsEntered before T plan
  pub well_formed : IsWellFormed T
  pub first : HasPrelude T
  pub low : are_low (own_part plan).tele ≡ true
  pub levels : ArePartsLow plan.parts

-- the elements of a list are those of the whole from place k on
abbrev pub AreFrom : {A : Type 0} → (k : ℕ) → List A → (whole : List A) → Type 0
AreFrom {A} k rest whole = (j : ℕ) (a : A) → slice_get rest j ≡ Some a → slice_get whole (k + j) ≡ Some a
