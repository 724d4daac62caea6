-- Definitions that are resolved enter as written.
use Rattle.std.proofs.Common.{◌≡◌, ℕ, List, [], Ok, IfOk, sym, ap, subst as transport}
use Rattle.theory.specs.Terms.{Term}
use Rattle.theory.specs.Signatures.{Definition, Signature}
use Rattle.theory.specs.WellFormed.{IsDefinition, IsEntry, IsWellFormed}
use Rattle.theory.specs.WellFormed.IsEntry.{definition}
use Rattle.core_text.specs.RawEntries.{RawEntry, RawDefinition}
use Rattle.surface_syntax.specs.Trees as surf
use Rattle.surface_syntax.specs.declared.tree.Word.{Word}
use Rattle.resolve.specs.DeclaredNames.{IsNewName}
use Rattle.resolve.specs.Families.{declared}
use Rattle.resolve.specs.Resolving.{resolve_term}
use Rattle.resolve.proofs.NewNames.{declared-new}
use Rattle.family_check.specs.Entering.{Entered, define_of, entered}
use Rattle.core_terms.proofs.Answers.{Answers, and_then-is}
use Rattle.family_check.proofs.Soundness.{define-keeps}
use Rattle.elab_session.specs.Declaring.{accepted_as, declare_of, resolve_definition}
use Rattle.elab_session.specs.Entering.{checked}
use Rattle.elab_session.specs.Laws.{IsWrittenDefinition}
use Rattle.elab_session.proofs.Resolved.{declare-has, last-entry, or_unresolved-has, together}
use Rattle.elab_session.proofs.Adding.{define-enters, Any, any}

-- a definition that is resolved, part by part
record IsResolvedDefinition (S : Signature) (x : Word) (ty body : surf.Surf) (raw : RawEntry) : Type 0 where
  pub type : Term
  pub term : Term
  pub is : raw ≡ RawDefinition x.text type term
  pub typed : resolve_term S [] ty ≡ Ok type
  pub body_is : resolve_term S [] body ≡ Ok term

resolved : (S : Signature) (x : Word) (ty body : surf.Surf) → IfOk (resolve_definition S x ty body) (IsResolvedDefinition S x ty body)
resolved S x ty body =
    let P = IsResolvedDefinition S x ty body in
    and_then-is P (declared S [] x) _ (λ name named.
    and_then-is P (resolve_term S [] ty) _ (λ type typed.
    and_then-is P (resolve_term S [] body) _ (λ term is.
    record {
      type = type;
      term = term;
      is = let n : IsNewName S x name = declared-new S x name named in ap (λ (name : List ℕ). RawDefinition name type term) n.is;
      typed = typed;
      body_is = is;
    })))

pub definition-of : {S : Signature} {name : List ℕ} {type body : Term} → IsEntry S (Definition name type body) → IsDefinition S type body
definition-of (definition h) = h

entered-written : (S : Signature) (fuel : ℕ) (x : Word) (ty body : surf.Surf) → IsWellFormed S → (type term : Term)
    → resolve_term S [] ty ≡ Ok type → resolve_term S [] body ≡ Ok term
    → Answers (λ e. IsWrittenDefinition S x ty body (accepted_as x.text e.signature)) (define_of S x.text type term fuel)
entered-written S fuel x ty body well type term typed is =
    together (λ e. IsWellFormed e.signature) (λ e. e ≡ entered S (Definition x.text type term)) Any (λ e. IsWrittenDefinition S x ty body (accepted_as x.text e.signature))
    (define_of S x.text type term fuel).0
    (define-keeps S x.text type term fuel well)
    (define-enters S x.text type term fuel)
    (any (define_of S x.text type term fuel))
    (λ e formed same u. record {
      type = type;
      term = term;
      type_resolved = typed;
      body_resolved = is;
      accepted = ap (λ (y : Entered). accepted_as x.text y.signature) same;
      typed = definition-of (last-entry S (Definition x.text type term) (transport (λ (y : Entered). IsWellFormed y.signature) same formed));
    })

pub definition-written : (S : Signature) (fuel : ℕ) (x : Word) (ty body : surf.Surf) → IsWellFormed S
    → IfOk (declare_of S fuel (surf.Def x ty body)) (IsWrittenDefinition S x ty body)
definition-written S fuel x ty body well =
    declare-has (IsResolvedDefinition S x ty body) (IsWrittenDefinition S x ty body) S fuel (surf.Def x ty body)
    (or_unresolved-has (IsResolvedDefinition S x ty body) (resolve_definition S x ty body) (resolved S x ty body))
    (λ raw h.
    transport (λ (r : RawEntry). Answers (λ e. IsWrittenDefinition S x ty body (accepted_as x.text e.signature)) (checked S r fuel)) (sym h.is)
    (entered-written S fuel x ty body well h.type h.term h.typed h.body_is))
