-- Families that are resolved enter as written.
use Rattle.std.proofs.Common.{◌≡◌, ℕ, List, Ok, IfOk, ap, subst as transport}
use Rattle.theory.specs.Families.{Family}
use Rattle.theory.specs.Signatures.{FamilyOf, Signature}
use Rattle.theory.specs.WellFormed.{IsEntry, IsFamily, IsWellFormed}
use Rattle.theory.specs.WellFormed.IsEntry.{family as family_entry}
use Rattle.core_sig.specs.Raw.{RawFamily}
use Rattle.core_text.specs.RawEntries.{RawEntry, RawFamilyOf, RawEliminator, RawAxiomK, RawDefinition}
use Rattle.surface_syntax.specs.Trees as surf
use Rattle.surface_syntax.specs.declared.tree.Word.{Word}
use Rattle.resolve.specs.Families.{family}
use Rattle.family_check.specs.Entering.{Entered, declare_of, entered}
use Rattle.family_check.specs.Laws.{EntersAsDeclared}
use Rattle.family_check.proofs.AsDeclared.{declare-gives}
use Rattle.core_terms.proofs.Answers.{Answers, and_then-is}
use Rattle.family_check.proofs.Soundness.{declare-keeps}
use Rattle.elab_session.specs.Declaring as session
use Rattle.elab_session.specs.Declaring.{accepted_as, resolve_family}
use Rattle.elab_session.specs.Entering.{checked}
use Rattle.elab_session.specs.Laws.{IsWrittenFamily}
use Rattle.elab_session.proofs.Resolved.{declare-has, last-entry, or_unresolved-has, together}

-- a family that is resolved
abbrev IsResolvedAs : Signature → Word → List surf.Typed → surf.Surf → List surf.Typed → RawEntry → Type 0
IsResolvedAs S x params ty cons (RawFamilyOf raw) = family S x params ty cons ≡ Ok raw
IsResolvedAs S x params ty cons _ = ⊥

resolved : (S : Signature) (x : Word) (params : List surf.Typed) (ty : surf.Surf) (cons : List surf.Typed)
    → IfOk (resolve_family S x params ty cons) (IsResolvedAs S x params ty cons)
resolved S x params ty cons = and_then-is (IsResolvedAs S x params ty cons) (family S x params ty cons) _ (λ raw is. is)

family-of : {S : Signature} {f : Family} → IsEntry S (FamilyOf f) → IsFamily S f
family-of (family_entry h) = h

raw-written : (S : Signature) (fuel : ℕ) (x : Word) (params : List surf.Typed) (ty : surf.Surf) (cons : List surf.Typed)
    → IsWellFormed S → (raw : RawFamily) → family S x params ty cons ≡ Ok raw
    → Answers (λ e. IsWrittenFamily S x params ty cons (accepted_as x.text e.signature)) (declare_of S raw fuel)
raw-written S fuel x params ty cons well raw is =
    together (λ e. IsWellFormed e.signature) (EntersAsDeclared S raw) (EntersAsDeclared S raw) (λ e. IsWrittenFamily S x params ty cons (accepted_as x.text e.signature))
    (declare_of S raw fuel).0 (declare-keeps S raw fuel well) (declare-gives S raw fuel) (declare-gives S raw fuel)
    (λ e formed enters again.
    let same : e ≡ entered S (FamilyOf enters.0) = enters.1 in
    record {
      raw = raw;
      entry = enters.0;
      resolved = is;
      given = enters.2;
      accepted = ap (λ (y : Entered). accepted_as x.text y.signature) same;
      formed = family-of (last-entry S (FamilyOf enters.0) (transport (λ (y : Entered). IsWellFormed y.signature) same formed));
    })

pub family-written : (S : Signature) (fuel : ℕ) (x : Word) (params : List surf.Typed) (ty : surf.Surf) (cons : List surf.Typed)
    → IsWellFormed S → IfOk (session.declare_of S fuel (surf.Data x params ty cons)) (IsWrittenFamily S x params ty cons)
family-written S fuel x params ty cons well =
    declare-has (IsResolvedAs S x params ty cons) P S fuel (surf.Data x params ty cons)
    (or_unresolved-has (IsResolvedAs S x params ty cons) (resolve_family S x params ty cons) (resolved S x params ty cons)) enters
  where
    P : session.Declared → Type 0
    P = IsWrittenFamily S x params ty cons

    enters : (raw : RawEntry) → IsResolvedAs S x params ty cons raw → Answers (λ e. P (accepted_as x.text e.signature)) (checked S raw fuel)
    enters (RawFamilyOf raw) is = raw-written S fuel x params ty cons well raw is
    enters (RawEliminator n m) other = absurd other
    enters (RawAxiomK i m) other = absurd other
    enters (RawDefinition name type body) other = absurd other
