-- The drafts enter in turn, where each name of a draft can be generated or is that of a draft before it.
use Rattle.std.proofs.Common.{◌≡◌, inl, inr, ℕ, Bool, true, ◌&&◌, List, [], ◌∷◌, ◌++◌, refl, ap, ap₂, ◌∙◌}
use Rattle.std.specs.Option.{is_some}
use Rattle.std.proofs.lemmas.Bool.{or_right, or_left}
use Rattle.theory.specs.Signatures.{Signature}
use Rattle.core_sig.specs.Drafts.{Draft}
use Rattle.core_sig.specs.Names.{find}
use Rattle.core_sig.specs.ScopeTests.{is_constant}
use Rattle.family_check.specs.Entering.{Entered}
use Rattle.clause_reports.specs.DraftEntering.{enter_draft_of}
use Rattle.clause_reports.specs.Generated.{generated_by}
use Rattle.clause_reports.proofs.Keeping.{weaker-of-two}
use Rattle.drafts.specs.draft_checks.Checks.{is_definition_found, name_enters, names_enter}
use Rattle.drafts.specs.draft_entering.Conditions.{Extends, IsDefined, IsGeneratedName}
use Rattle.drafts.proofs.draft_entering.Longer.{defined-longer, extends-on, generated-longer}
use Rattle.tree_translation.specs.Laws.{name_of}
use Rattle.drafts.proofs.entering_laws.EnteredOpen.{entering-extends}
use Rattle.entry_laws.proofs.OnlyConstants.{Each, each-append, each-weaker}
use Rattle.function_session.specs.function_laws.report_laws.drafts_in_turn.Laws.{NamesInTurn}
use Rattle.function_session.proofs.plan_laws.EnteredDraft.{draft-defined}
use Rattle.entry_laws.proofs.GrowingDrafts.{Grows, IsKnown, among-each}

-- ---- a name

pub defined-enters : (T : Signature) (name : List ℕ) → IsDefined T name → name_enters T name ≡ true
defined-enters T name (n, at, (own, type, body, there)) =
    let found : is_definition_found T (find T name) ≡ true = ap (is_definition_found T) at ∙ ap is_constant there in
    or_left (is_definition_found T (find T name)) (is_some (generated_by T name)) found

pub generated-enters : (T : Signature) (name : List ℕ) → IsGeneratedName T name → name_enters T name ≡ true
generated-enters T name (g, is) = or_right (is_definition_found T (find T name)) (is_some (generated_by T name)) (ap is_some is)

-- a name that is known over S may enter what S has become, where the names before are defined
known-enters : (S T : Signature) → Extends S T → (known : List (List ℕ)) → Each (IsDefined T) known → (name : List ℕ) → IsKnown (IsGeneratedName S) known name
    → name_enters T name ≡ true
known-enters S T longer known defined name (inl (g, is)) = generated-enters T name (g, generated-longer S T longer name ∙ is)
known-enters S T longer known defined name (inr among) = defined-enters T name (among-each (IsDefined T) known name defined among)

all-enter : (T : Signature) (names : List (List ℕ)) → Each (λ name. name_enters T name ≡ true) names → names_enter T names ≡ true
all-enter T [] Each.none = refl
all-enter T (name ∷ names) (Each.more h rest) = ap₂ (λ (x y : Bool). x && y) h (all-enter T names rest)

-- ---- drafts

pub grown-in_turn : (S T : Signature) (known : List (List ℕ)) (drafts : List Draft) → Extends S T → Each (IsDefined T) known → Grows (IsGeneratedName S) known drafts
    → NamesInTurn T drafts
grown-in_turn S T known [] longer defined Grows.none = tt
grown-in_turn S T known (d ∷ drafts) longer defined (Grows.more h differ rest) = (
  all-enter T d.names (each-weaker d.names (λ name is. known-enters S T longer known defined name is) h),
  λ left.
      weaker-of-two (λ (e : Entered). Extends T e.signature) (λ (e : Entered). IsDefined e.signature (name_of d)) (λ (e : Entered). NamesInTurn e.signature drafts) (enter_draft_of T d left).0
      (entering-extends T d left) (draft-defined T d left)
      (λ e more own.
      grown-in_turn S e.signature (known ++ name_of d ∷ []) drafts (extends-on S T e.signature longer more)
      (each-append known (name_of d ∷ []) (each-weaker known (λ name is. defined-longer T e.signature more name is) defined) (Each.more own Each.none)) rest),
)
