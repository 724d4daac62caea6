-- A resolved declaration can enter.
use Rattle.std.proofs.Common.{◌≡◌, List, [], length, Ok, IfOk, subst as transport}
use Rattle.std.proofs.lemmas.List.Elements.{All-weaker}
use Rattle.theory.specs.Terms.{Term}
use Rattle.theory.specs.Signatures.{FamilyOf, Signature}
use Rattle.theory.specs.SignatureScopes.{IsScoped}
use Rattle.theory.proofs.Lists.{slice_get-last}
use Rattle.theory.proofs.Pushing.{push_is_longer}
use Rattle.core_sig.specs.Raw.{RawConstructor, RawFamily}
use Rattle.core_terms.proofs.Answers.{and_then-is}
use Rattle.surface_syntax.specs.Trees as surf
use Rattle.surface_syntax.specs.declared.tree.Word.{Word}
use Rattle.resolve.specs.DeclaredNames.{IsNewName}
use Rattle.resolve.specs.Families.{declared, family, resolve_data}
use Rattle.resolve.specs.Resolving.{resolve_term}
use Rattle.resolve.specs.Scoping.{IsResolved, IsResolvedFamily}
use Rattle.resolve.proofs.LawProofs.{families-resolve, terms-resolve}
use Rattle.resolve.proofs.NewNames.{family-new}
use Rattle.family_check.specs.Families.{family_without}
use Rattle.family_check.specs.Scopes.{IsScopedRaw, with_raw}
use Rattle.elab_session.specs.Declaring.{resolve_definition, resolve_entry, resolve_family}
use Rattle.elab_session.specs.Entering.{CanEnter}
use Rattle.elab_session.proofs.Resolved.{or_unresolved-has}

-- a family is scoped over the signature, its constructors with the family at the end
pub raw-scoped : (S : Signature) (d : surf.Decl) (raw : RawFamily) → resolve_data S d ≡ Ok raw → IsScopedRaw S raw
raw-scoped S d raw is =
    let h : IsResolvedFamily S (with_raw S raw) raw =
    transport (λ r. IfOk r (IsResolvedFamily S (with_raw S raw))) is
    (families-resolve S (with_raw S raw) d (push_is_longer S (FamilyOf (family_without raw [] 0)))
    (family_without raw [] 0, slice_get-last S.entries (FamilyOf (family_without raw [] 0))))
    in
    record {
      parameters = h.parameters;
      type = h.type.scoped;
      constructors = All-weaker (λ (c : RawConstructor). IsResolved (with_raw S raw) (length raw.parameters) c.type)
          (λ (c : RawConstructor). IsScoped (with_raw S raw) (length raw.parameters) c.type)
          (λ c r. r.scoped) raw.constructors h.constructors;
    }

family-can : (S : Signature) (x : Word) (params : List surf.Typed) (ty : surf.Surf) (cons : List surf.Typed)
    → IfOk (resolve_family S x params ty cons) (CanEnter S)
family-can S x params ty cons =
    and_then-is (CanEnter S) (family S x params ty cons) _ (λ raw is.
    let named = transport (λ r. IfOk r (λ (raw : RawFamily). IsNewName S x raw.name)) is (family-new S x params ty cons) in
    (raw-scoped S (surf.Data x params ty cons) raw is, named.new))

term-scoped : (S : Signature) (t : surf.Surf) (r : Term) → resolve_term S [] t ≡ Ok r → IsScoped S 0 r
term-scoped S t r is =
    let h : IsResolved S 0 r = transport (λ x. IfOk x (IsResolved S 0)) is (terms-resolve S [] t) in h.scoped

definition-can : (S : Signature) (x : Word) (ty body : surf.Surf) → IfOk (resolve_definition S x ty body) (CanEnter S)
definition-can S x ty body =
    and_then-is (CanEnter S) (declared S [] x) _ (λ name named.
    and_then-is (CanEnter S) (resolve_term S [] ty) _ (λ type typed.
    and_then-is (CanEnter S) (resolve_term S [] body) _ (λ term is.
    (term-scoped S ty type typed, term-scoped S body term is))))

pub resolved-can : (S : Signature) (d : surf.Decl) → IfOk (resolve_entry S d) (CanEnter S)
resolved-can S (surf.Def x ty body) = or_unresolved-has (CanEnter S) (resolve_definition S x ty body) (definition-can S x ty body)
resolved-can S (surf.Data x params ty cons) =
    or_unresolved-has (CanEnter S) (resolve_family S x params ty cons) (family-can S x params ty cons)
resolved-can S (surf.Decide x of decision) = tt
resolved-can S (surf.Mutual params members whole tag tags) = tt
resolved-can S (surf.Fun x ty clauses) = tt
