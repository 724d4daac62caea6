-- The signature with the function at its end, and without it again.
use Rattle.std.proofs.Common.{◌≡◌, inr, ℕ, List, [], ◌∷◌, length, refl, sym, ap, ap₂, ◌∙◌, subst as transport}
use Rattle.std.proofs.lemmas.List.{length-append}
use Rattle.theory.specs.Terms.{Term, Const}
use Rattle.theory.specs.Signatures.{Signature, Entry, Definition, IsEntryAt, IsPrefix}
use Rattle.theory.specs.SignatureScopes.{IsScoped}
use Rattle.theory.specs.WellFormed.{first_entries, provisional, pushed}
use Rattle.theory.proofs.Pushing.{cut_to_prefix, push_is_longer}
use Rattle.kernel_reduce.specs.SignatureLaws.{IsWhole}
use Rattle.kernel_reduce.proofs.ScopedSignatures.{pushed-scoped}
use Rattle.family_check.specs.Scopes.{IsSettled}
use Rattle.family_check.proofs.PreludeEntries.{identity-there}
use Rattle.elab_session.specs.Sessions.{IsReady}
use Rattle.elab_session.proofs.Resolved.{prelude-stays}
use Rattle.resolve.specs.Functions.{Function}
use Rattle.resolve.specs.Scoping.{IsResolvedFunction}
use Rattle.clause_reports.specs.elaboration.Functions.{own_part, plan_of}
use Rattle.function_session.specs.function_lines.Conditions.{IsFunctionOver}
use Rattle.function_session.specs.function_lines.Phases.{plan_walked}
use Rattle.function_session.proofs.plan_laws.ExactPlans.{plan-is}

-- no entry of a settled signature is provisional
whole : (S : Signature) → IsSettled S → IsWhole S
whole S settled n name type body at is = settled.bodies n name type (transport (λ b. IsEntryAt S n (Definition name type b)) is at)

-- A function that is resolved over the signature of a session is so over that signature with the function at its end.
pub provisional-over : (S : Signature) (f : Function) → IsReady S → IsResolvedFunction S (provisional S f.name f.type) f
    → IsFunctionOver (provisional S f.name f.type) f
provisional-over S f ready resolved = record {
  before = S;
  prefix = longer;
  ready = record {
    scoped = pushed-scoped S e ready.settled.scoped (whole S ready.settled) (
      transport (λ X. IsScoped X 0 f.type) (sym (cut_to_prefix S (pushed S e) longer)) resolved.type.scoped,
      inr (record { itself = refl; last = length-append S.entries (e ∷ []) }),
    );
    identities = λ i low. identity-there (pushed S e) i (prelude-stays S (pushed S e) ready.prelude longer) low;
  };
  resolved = resolved;
}
  where
    e : Entry
    e = Definition f.name f.type (Const (length S.entries))

    longer : IsPrefix S (pushed S e)
    longer = push_is_longer S e

-- the entry is taken back
pub taken-back : (S : Signature) (name : List ℕ) (type : Term) (n : ℕ) → n ≡ length S.entries → first_entries (provisional S name type) n ≡ S
taken-back S name type n is =
    ap (first_entries (provisional S name type)) is
    ∙ cut_to_prefix S (provisional S name type) (push_is_longer S (Definition name type (Const (length S.entries))))

-- over the signature with the entry, what is planned is the function's plan
pub walked-over : (S T : Signature) (f : Function) (own level left : ℕ) → T ≡ provisional S f.name f.type → own ≡ length S.entries
    → plan_walked (record { signature = T; name = f.name; own = own }) f (own_part f level) left ≡ plan_of S f level left
walked-over S T f own level left is number =
    ap₂ (λ (T : Signature) (own : ℕ). plan_walked (record { signature = T; name = f.name; own = own }) f (own_part f level) left) is number
    ∙ plan-is S f level left
