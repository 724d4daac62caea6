-- Terms and families that may be in a line are scoped over the signature.
use Rattle.std.proofs.Common.{◌≡◌, inl, inr, ℕ, ◌+◌, Bool, true, false, List, [], ◌∷◌, ◌++◌, length, All, sym, subst}
use Rattle.std.proofs.lemmas.Bool.{false≢true}
use Rattle.std.proofs.lemmas.List.Elements.{All-nil, All-cons}
use Rattle.theory.specs.Terms.{Term, Var, Sort, Pi, Lam, App, Let, Const, Fam, Con, Elim, AxiomK}
use Rattle.theory.specs.Telescopes.{Telescope}
use Rattle.theory.specs.Families.{Family}
use Rattle.theory.specs.Signatures.{Signature, FamilyOf, Definition}
use Rattle.theory.specs.SignatureScopes.{IsFamilyNumber, HasEntries, IsScoped, IsScopedTelescope}
use Rattle.theory.specs.WellFormed.{pushed}
use Rattle.theory.proofs.Lists.{slice_get-last, slice_get-longer}
use Rattle.core_sig.specs.Raw.{RawConstructor}
use Rattle.core_text.specs.Spellings.{HasSymbols}
use Rattle.core_text.proofs.Over.{IsTermOver, AreTypesOver, AreConstructorsOver}
use Rattle.core_text.proofs.SymbolOutcomes.{Has}

-- over a signature with the same entries, and with the family that is being declared
symbols-scoped : (T S : Signature) (own : Bool) → Has T S → (own ≡ true → IsFamilyNumber T (length S.entries)) → (t : Term) → HasSymbols S own t → HasEntries T t
symbols-scoped T S own has last (Var n) h = tt
symbols-scoped T S own has last (Sort i) h = tt
symbols-scoped T S own has last (Pi a b) h = (symbols-scoped T S own has last a h.0, symbols-scoped T S own has last b h.1)
symbols-scoped T S own has last (Lam a b) h = (symbols-scoped T S own has last a h.0, symbols-scoped T S own has last b h.1)
symbols-scoped T S own has last (App f a) h = (symbols-scoped T S own has last f h.0, symbols-scoped T S own has last a h.1)
symbols-scoped T S own has last (Let a t b) h =
    (symbols-scoped T S own has last a h.0, symbols-scoped T S own has last t h.1, symbols-scoped T S own has last b h.2)
symbols-scoped T S own has last (Const n) h = (h.0, h.1, h.2, has n (Definition h.0 h.1 h.2) h.3)
symbols-scoped T S own has last (Fam n) (inl h) = (h.0, has n (FamilyOf h.0) h.1)
symbols-scoped T S own has last (Fam n) (inr h) = subst (IsFamilyNumber T) (sym h.1) (last h.0)
symbols-scoped T S own has last (Con n c) h = (h.0, has n (FamilyOf h.0) h.1, h.2)
symbols-scoped T S own has last (Elim n m) h = (h.0.0, has n (FamilyOf h.0.0) h.0.1)
symbols-scoped T S own has last (AxiomK i m) h = tt

pub scoped-term : (S : Signature) (n : ℕ) (t : Term) → IsTermOver S false n t → IsScoped S n t
scoped-term S n t is = record {
  variables = is.free;
  entries = symbols-scoped S S false (λ k e at. at) (λ e. absurd (false≢true e)) t is.symbols;
}

pub scoped-types : (S : Signature) (n : ℕ) (tele : Telescope) → AreTypesOver S n tele → IsScopedTelescope S n tele
scoped-types S n [] are = tt
scoped-types S n (a ∷ tele) are = (scoped-term S n a are.0, scoped-types S (n + 1) tele are.1)

-- the types of constructors, with whatever record of the family
pub scoped-constructors : (S : Signature) (f : Family) (own : List ℕ) (p : ℕ) (cs found : List RawConstructor) → AreConstructorsOver S own p found cs → All (λ c. IsScoped (pushed S (FamilyOf f)) p c.type) cs
scoped-constructors S f own p [] found are = All-nil (λ c. IsScoped (pushed S (FamilyOf f)) p c.type)
scoped-constructors S f own p (c ∷ cs) found are =
    All-cons (λ c. IsScoped (pushed S (FamilyOf f)) p c.type) c cs
    (record {
      variables = are.1.free;
      entries = symbols-scoped (pushed S (FamilyOf f)) S true (λ k e at. slice_get-longer S.entries (FamilyOf f ∷ []) k e at) (λ e. (f, slice_get-last S.entries (FamilyOf f))) c.type are.1.symbols;
    })
    (scoped-constructors S f own p cs (found ++ c ∷ []) are.2)
