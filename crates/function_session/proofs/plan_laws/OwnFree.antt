-- What does not name the function at the end of a signature is over the signature itself.
use Rattle.std.proofs.Common.{◌≡◌, ◌⊎◌, inl, inr, ℕ, ◌+◌, ◌≤◌, ◌<◌, false, List, length, arith}
use Rattle.std.proofs.lemmas.Bool.{or_parts}
use Rattle.std.proofs.lemmas.Bool.Decides.{nat_tests}
use Rattle.std.proofs.lemmas.Option.{slice_get_within}
use Rattle.theory.specs.Terms.{Term, Var, Sort, Pi, Lam, App, Let, Const, Fam, Con, Elim, AxiomK}
use Rattle.theory.specs.Signatures.{Signature, Definition, FamilyOf}
use Rattle.theory.specs.SignatureScopes.{HasEntries, IsConstantNumber, IsFamilyNumber, IsScoped}
use Rattle.theory.specs.WellFormed.{provisional}
use Rattle.theory.proofs.Pushing.{entry_of-pushed}
use Rattle.core_sig.specs.DraftScopes.{HasDraftEntries, IsDraftNumber, IsDraftTerm}
use Rattle.tree_translation.specs.structural_rec.Calls.{has_constant}

module _ (S : Signature) (name : List ℕ) (type : Term) where
  family-before : (n : ℕ) → IsFamilyNumber (provisional S name type) n → IsFamilyNumber S n
  family-before n h = elim (entry_of-pushed S (Definition name type (Const (length S.entries))) n (FamilyOf h.0) h.1) [
    | inl there ↦ (h.0, there)
    | inr end ↦ let same : Definition name type (Const (length S.entries)) ≡ FamilyOf h.0 = end.1 in absurd (cc)
  ]

  constant-before : (n : ℕ) → IsConstantNumber (provisional S name type) n → IsConstantNumber S n ⊎ (n ≡ length S.entries)
  constant-before n h = elim (entry_of-pushed S (Definition name type (Const (length S.entries))) n (Definition h.0 h.1 h.2) h.3) [
    | inl there ↦ inl (h.0, h.1, h.2, there)
    | inr end ↦ inr end.0
  ]

  entries-before : (t : Term) → HasEntries (provisional S name type) t → has_constant (length S.entries) t ≡ false → HasEntries S t
  entries-before (Var n) h lacks = tt
  entries-before (Sort i) h lacks = tt
  entries-before (AxiomK i m) h lacks = tt
  entries-before (Pi a b) h lacks =
      let (first, second) = or_parts (has_constant (length S.entries) a) (has_constant (length S.entries) b) lacks in
      (entries-before a h.0 first, entries-before b h.1 second)
  entries-before (Lam a b) h lacks =
      let (first, second) = or_parts (has_constant (length S.entries) a) (has_constant (length S.entries) b) lacks in
      (entries-before a h.0 first, entries-before b h.1 second)
  entries-before (App a b) h lacks =
      let (first, second) = or_parts (has_constant (length S.entries) a) (has_constant (length S.entries) b) lacks in
      (entries-before a h.0 first, entries-before b h.1 second)
  entries-before (Let a t b) h lacks =
      let (first, others) = or_parts (has_constant (length S.entries) a) _ lacks in
      let (second, third) = or_parts (has_constant (length S.entries) t) (has_constant (length S.entries) b) others in
      (entries-before a h.0 first, entries-before t h.1 second, entries-before b h.2 third)
  entries-before (Const n) h lacks = elim (constant-before n h) [
    | inl there ↦ there
    | inr same ↦ absurd (grind (arith, nat_tests, same, lacks))
  ]
  entries-before (Fam n) h lacks = family-before n h
  entries-before (Con n c) h lacks = elim (entry_of-pushed S (Definition name type (Const (length S.entries))) n (FamilyOf h.0) h.1) [
    | inl there ↦ (h.0, there, h.2)
    | inr end ↦ let same : Definition name type (Const (length S.entries)) ≡ FamilyOf h.0 = end.1 in absurd (cc)
  ]
  entries-before (Elim n m) h lacks = family-before n h

  pub scoped-before : (n : ℕ) (t : Term) → IsScoped (provisional S name type) n t → has_constant (length S.entries) t ≡ false → IsScoped S n t
  scoped-before n t h lacks = record { variables = h.variables; entries = entries-before t h.entries lacks }

  -- ---- terms of drafts, which may name the function

  number-drafted : (n : ℕ) → IsConstantNumber (provisional S name type) n → IsDraftNumber S (length S.entries) 1 n
  number-drafted n h = elim (constant-before n h) [
    | inl there ↦ inl (slice_get_within S.entries n (Definition there.0 there.1 there.2) there.3, there)
    | inr same ↦ let low : length S.entries ≤ n = omega (arith, same) in let high : n < length S.entries + 1 = omega (arith, same) in inr (low, high)
  ]

  entries-drafted : (t : Term) → HasEntries (provisional S name type) t → HasDraftEntries S (length S.entries) 1 t
  entries-drafted (Var n) h = tt
  entries-drafted (Sort i) h = tt
  entries-drafted (AxiomK i m) h = tt
  entries-drafted (Pi a b) h = (entries-drafted a h.0, entries-drafted b h.1)
  entries-drafted (Lam a b) h = (entries-drafted a h.0, entries-drafted b h.1)
  entries-drafted (App a b) h = (entries-drafted a h.0, entries-drafted b h.1)
  entries-drafted (Let a t b) h = (entries-drafted a h.0, entries-drafted t h.1, entries-drafted b h.2)
  entries-drafted (Const n) h = number-drafted n h
  entries-drafted (Fam n) h = family-before n h
  entries-drafted (Con n c) h = elim (entry_of-pushed S (Definition name type (Const (length S.entries))) n (FamilyOf h.0) h.1) [
    | inl there ↦ (h.0, there, h.2)
    | inr end ↦ let same : Definition name type (Const (length S.entries)) ≡ FamilyOf h.0 = end.1 in absurd (cc)
  ]
  entries-drafted (Elim n m) h = family-before n h

  pub scoped-drafted : (n : ℕ) (t : Term) → IsScoped (provisional S name type) n t → IsDraftTerm S (length S.entries) 1 n t
  scoped-drafted n t h = record { variables = h.variables; entries = entries-drafted t h.entries }
