-- An entry that enters keeps the signature's properties.
use Rattle.std.proofs.Common.{◌≡◌, ℕ, Option, Some, None, slice_get, Result, Ok, Err, IfOk, OnErr, refl, sym, ap, subst as transport}
use Rattle.theory.specs.Families.{Family}
use Rattle.theory.specs.Signatures.{Entry, FamilyOf, EliminatorAt, AxiomKAt, Definition, Signature, IsPrefix}
use Rattle.theory.specs.WellFormed.{IsWellFormed}
use Rattle.core_text.specs.RawEntries.{RawEntry, RawFamilyOf, RawEliminator, RawAxiomK, RawDefinition}
use Rattle.family_check.specs.Entering.{Entered, entered_at, instance_of}
use Rattle.family_check.specs.Outcomes.{FamilyStop}
use Rattle.family_check.specs.Scopes.{IsSettled}
use Rattle.family_check.proofs.Extending.{axiom_k-extends, declare-extends, define-extends, instance-extends}
use Rattle.core_terms.proofs.Answers.{Answers}
use Rattle.family_check.proofs.PreludeEntries.{equality-there}
use Rattle.family_check.proofs.ScopedEntering.{axiom_k-settles, declare-settles, define-settles, instance-settles}
use Rattle.family_check.proofs.Soundness.{axiom_k-keeps, declare-keeps, define-keeps, instance-keeps}
use Rattle.elab_session.specs.Entering.{CanEnter, Declares, Enters, answered, checked, eliminator_in, enter_with, refused}
use Rattle.elab_session.specs.Laws.{EnterExtends, EnterKeepsReady}
use Rattle.elab_session.specs.Sessions.{IsReady}
use Rattle.elab_session.specs.declared.refusal.Refusal.{Refusal}
use Rattle.elab_session.proofs.Resolved.{prelude-stays, together}

pub answered-has : (P : Entered → Type 0) (refusal : FamilyStop → Refusal) (r : Result Entered FamilyStop) → IfOk r P → IfOk (answered refusal r) P
answered-has P refusal (Ok e) h = h
answered-has P refusal (Err e) h = tt

pub eliminator-has : (P : Entered → Type 0) (S : Signature) (n m : ℕ) (o : Option Entry) (left : ℕ)
    → ((f : Family) → o ≡ Some (FamilyOf f) → Answers P (instance_of S n f m left)) → Answers P (eliminator_in S n m o left)
eliminator-has P S n m (Some (FamilyOf f)) left h = h f refl
eliminator-has P S n m (Some (EliminatorAt g k)) left h = tt
eliminator-has P S n m (Some (AxiomKAt i k)) left h = tt
eliminator-has P S n m (Some (Definition name type body)) left h = tt
eliminator-has P S n m None left h = tt

pub entry-extends : (S : Signature) (raw : RawEntry) (left : ℕ) → Answers (λ x. IsPrefix S x.signature) (checked S raw left)
entry-extends S (RawFamilyOf raw) left = declare-extends S raw left
entry-extends S (RawEliminator n m) left =
    eliminator-has (λ x. IsPrefix S x.signature) S n m (slice_get S.entries n) left (λ f is. instance-extends S n f m left)
entry-extends S (RawAxiomK i m) left = axiom_k-extends S i m left
entry-extends S (RawDefinition name type body) left = define-extends S name type body left

pub enter-extends : EnterExtends
enter-extends S fuel raw = answered-has (λ x. IsPrefix S x.signature) _ (checked S raw fuel).0 (entry-extends S raw fuel)

entry-keeps : (S : Signature) (raw : RawEntry) (left : ℕ) → IsReady S → CanEnter S raw → Answers (λ x. IsWellFormed x.signature) (checked S raw left)
entry-keeps S (RawFamilyOf raw) left ready can = declare-keeps S raw left ready.well_formed
entry-keeps S (RawEliminator n m) left ready can =
    eliminator-has (λ x. IsWellFormed x.signature) S n m (slice_get S.entries n) left (λ f is. instance-keeps S n f m left ready.well_formed is)
entry-keeps S (RawAxiomK i m) left ready can = axiom_k-keeps S i m left ready.well_formed can ready.prelude
entry-keeps S (RawDefinition name type body) left ready can = define-keeps S name type body left ready.well_formed

entry-settles : (S : Signature) (raw : RawEntry) (left : ℕ) → IsReady S → CanEnter S raw → Answers (λ x. IsSettled x.signature) (checked S raw left)
entry-settles S (RawFamilyOf raw) left ready can = (declare-settles S raw left ready.settled can.0).0
entry-settles S (RawEliminator n m) left ready can =
    eliminator-has (λ x. IsSettled x.signature) S n m (slice_get S.entries n) left (λ f is. (instance-settles S n f m left ready.settled is).0)
entry-settles S (RawAxiomK i m) left ready can =
    (axiom_k-settles S i m left ready.settled (λ low. equality-there S i ready.prelude low)).0
entry-settles S (RawDefinition name type body) left ready can = (define-settles S name type body left ready.settled can.0 can.1).0

pub entry-ready : (S : Signature) (raw : RawEntry) (left : ℕ) → IsReady S → CanEnter S raw → Answers (λ x. IsReady x.signature) (checked S raw left)
entry-ready S raw left ready can =
    together (λ x. IsWellFormed x.signature) (λ x. IsSettled x.signature) (λ x. IsPrefix S x.signature) (λ x. IsReady x.signature)
    (checked S raw left).0 (entry-keeps S raw left ready can) (entry-settles S raw left ready can) (entry-extends S raw left)
    (λ x well settled longer. record { well_formed = well; settled = settled; prelude = prelude-stays S x.signature ready.prelude longer })

pub enter-ready : EnterKeepsReady
enter-ready S fuel raw ready can = answered-has (λ x. IsReady x.signature) _ (checked S raw fuel).0 (entry-ready S raw fuel ready can)

-- the signature that a call leaves
pub entry-stays : (P : Signature → Type 0) (S T : Signature) (r : Result ℕ Refusal) (meant : Result Entered Refusal)
    → Enters T r meant → OnErr r (T ≡ S) → IfOk meant (λ x. P x.signature) → P S → P T
entry-stays P S T (Ok n) meant is same h p = transport (λ m. IfOk m (λ x. P x.signature)) (sym is) h
entry-stays P S T (Err e) meant is same h p = transport P (sym same) p

-- the same, with the units that are left
pub entry-left : (P : Signature → Type 0) (S T : Signature) (start fuel left end : ℕ) (raw : RawEntry) (r : Result ℕ Refusal)
    → Declares (entered_at T) r end (enter_with S start fuel raw left) → OnErr r (T ≡ S) → Answers (λ x. P x.signature) (checked S raw left) → P S → P T
entry-left P S T start fuel left end raw (Ok n) is same h p = by (checked S raw left).0 h (ap (λ m. m.0) is)
  where
    by : (o : Result Entered FamilyStop) → IfOk o (λ x. P x.signature) → Ok (entered_at T n) ≡ answered (refused S start fuel raw) o → P T
    by (Ok e) h same = transport (λ (x : Entered). P x.signature) (sym (let q : entered_at T n ≡ e = cc in q)) h
    by (Err e) h other = absurd cc
entry-left P S T start fuel left end raw (Err e) is same h p = transport P (sym same) p
