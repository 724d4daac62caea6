-- Over signatures that give every number the same name, texts are the same.
use Rattle.std.proofs.Common.{◌≡◌, ℕ, zero, suc, Bool, true, false, List, [], ◌∷◌, ◌++◌, slice_get, refl, ap, ap₂, sym}
use Rattle.std.specs.Prelude.{codes}
use Rattle.theory.specs.Terms.{Term}
use Rattle.theory.specs.Terms.Term.{Var, Sort, Pi, Lam, App, Let, Const, Fam, Con, Elim, AxiomK}
use Rattle.theory.specs.Families.{Family}
use Rattle.theory.specs.Signatures.{Entry, FamilyOf, Definition, Signature}
use Rattle.theory.specs.WellFormed.{pushed}
use Rattle.core_terms.specs.Verdicts.{Denial, Reason}
use Rattle.core_terms.specs.Verdicts.Reason.{Mismatch, NotAProduct, NotASort, NoSuchInstance, LevelTooHigh}
use Rattle.core_sig.specs.Raw.{RawFamily}
use Rattle.family_check.specs.Families.{family_without}
use Rattle.family_check.specs.Outcomes.{Site, OfType, OfBody, OfParameter, OfConstructor}
use Rattle.family_check.specs.Scopes.{site_signature, with_raw}
use Rattle.core_text.specs.SymbolNames.{constructor_name_at, constructor_name_in, eliminator_name, name_at, own_constructor_name, own_name, with_name, with_own}
use Rattle.core_text.specs.TermText.{enclosed, spelled}
use Rattle.elab_session.specs.Refusals.{ill_typed, own_at}
use Rattle.core_text.specs.ContextText.{reason_text, types_text}
use Rattle.elab_session.specs.declared.refusal.PartName.{PartName}
use Rattle.elab_session.specs.declared.refusal.Refusal.TheVariants.{IllTyped}

pub record HaveSameNames (S T : Signature) : Type 0 where
  pub entries : (n : ℕ) → name_at S n ≡ name_at T n
  pub constructors : (n c : ℕ) → constructor_name_at S n c ≡ constructor_name_at T n c

pub spelled-same : (S T : Signature) → HaveSameNames S T → (is_function : Bool) (t : Term) → spelled S is_function t ≡ spelled T is_function t
spelled-same S T h is_function (Var n) = refl
spelled-same S T h is_function (Sort i) = refl
spelled-same S T h is_function (Pi a b) =
    ap₂ (λ x y. codes "(" ++ x ++ codes " -> " ++ y ++ codes ")") (spelled-same S T h false a) (spelled-same S T h false b)
spelled-same S T h is_function (Lam a b) =
    ap₂ (λ x y. codes "(\\" ++ x ++ codes " . " ++ y ++ codes ")") (spelled-same S T h false a) (spelled-same S T h false b)
spelled-same S T h is_function (App f a) =
    ap₂ (λ x y. enclosed is_function (x ++ codes " " ++ y)) (spelled-same S T h true f) (spelled-same S T h false a)
spelled-same S T h is_function (Let a t b) =
    ap₂ (λ x y. x ++ codes " . " ++ y ++ codes ")")
    (ap₂ (λ x y. codes "(let " ++ x ++ codes " = " ++ y) (spelled-same S T h false a) (spelled-same S T h false t))
    (spelled-same S T h false b)
spelled-same S T h is_function (Const n) = h.entries n
spelled-same S T h is_function (Fam n) = h.entries n
spelled-same S T h is_function (Con n c) = h.constructors n c
spelled-same S T h is_function (Elim n m) = ap (λ x. eliminator_name x m) (h.entries n)
spelled-same S T h is_function (AxiomK i m) = refl

types-same : (S T : Signature) → HaveSameNames S T → (before : List ℕ) (types : List Term) → types_text S before types ≡ types_text T before types
types-same S T h before [] = refl
types-same S T h before (t ∷ types) =
    ap₂ (λ x y. before ++ x ++ y) (spelled-same S T h false t) (types-same S T h (codes ", ") types)

reason-same : (S T : Signature) → HaveSameNames S T → (reason : Reason) → reason_text S reason ≡ reason_text T reason
reason-same S T h (Mismatch found wanted) =
    ap₂ (λ x y. codes "found " ++ x ++ codes " wanted " ++ y) (spelled-same S T h false found) (spelled-same S T h false wanted)
reason-same S T h (NotAProduct found) = ap (λ x. codes "NotAProduct " ++ x) (spelled-same S T h false found)
reason-same S T h (NotASort found) = ap (λ x. codes "NotASort " ++ x) (spelled-same S T h false found)
reason-same S T h NoSuchInstance = refl
reason-same S T h LevelTooHigh = refl

pub ill_typed-same : (S T : Signature) → HaveSameNames S T → (part : PartName) (d : Denial) → ill_typed S part d ≡ ill_typed T part d
ill_typed-same S T h part d =
    ap₂ (λ x y. IllTyped part d.place x y) (ap (λ x. codes "[" ++ x ++ codes "]") (types-same S T h [] d.ctx)) (reason-same S T h d.reason)

module _ (name : List ℕ) (f : Family) (named : f.name ≡ name) (bare : f.constructors ≡ []) where
  last-named : (es : List Entry) (n : ℕ) → own_name (slice_get (es ++ Definition name (Sort 0) (Sort 0) ∷ []) n) ≡ own_name (slice_get (es ++ FamilyOf f ∷ []) n)
  last-named [] zero = sym named
  last-named [] (suc n) = refl
  last-named (e ∷ es) zero = refl
  last-named (e ∷ es) (suc n) = last-named es n

  constructors-named : (es : List Entry) (n c : ℕ)
      → constructor_name_in (slice_get (es ++ Definition name (Sort 0) (Sort 0) ∷ []) n) c ≡ constructor_name_in (slice_get (es ++ FamilyOf f ∷ []) n) c
  constructors-named [] zero c = sym (ap (λ cs. own_constructor_name (slice_get cs c)) bare)
  constructors-named [] (suc n) c = refl
  constructors-named (e ∷ es) zero c = refl
  constructors-named (e ∷ es) (suc n) c = constructors-named es n c

  -- a name alone does for a family without constructors
  bare-names : (S : Signature) → HaveSameNames (with_name S name) (pushed S (FamilyOf f))
  bare-names S = record { entries = last-named S.entries; constructors = constructors-named S.entries }

-- a part of a family is rejected over the signature that it is checked over
pub part-denied : (S : Signature) (name : List ℕ) (raw : RawFamily) → raw.name ≡ name → (site : Site) (part : PartName) (d : Denial)
    → ill_typed (with_own S (own_at name site)) part d ≡ ill_typed (site_signature S raw site) part d
part-denied S name raw named OfType part d = refl
part-denied S name raw named OfBody part d = refl
part-denied S name raw named (OfParameter k) part d = refl
part-denied S name raw named (OfConstructor n) part d =
    ill_typed-same (with_name S name) (with_raw S raw) (bare-names name (family_without raw [] 0) named refl S) part d
