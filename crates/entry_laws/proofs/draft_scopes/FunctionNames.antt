-- The signature with the function and with names of a draft.
use Rattle.std.proofs.Common.{◌≡◌, ◌⊎◌, inl, inr, ℕ, ◌+◌, ◌<◌, ◌≤◌, Some, [], ◌∷◌, length, slice_get, sym, subst, ◌∙◌, arith}
use Rattle.std.proofs.lemmas.List.{length-append}
use Rattle.theory.specs.Terms.{Const, Fam, Con}
use Rattle.theory.specs.Signatures.{Definition, FamilyOf, Signature, IsEntryAt}
use Rattle.theory.specs.Families.{Family}
use Rattle.theory.specs.SignatureScopes.{IsConstantNumber, IsFamilyNumber, IsConstructorNumber}
use Rattle.theory.proofs.Lists.{slice_get-append, slice_get-append_right, slice_get-pushed}
use Rattle.theory.proofs.ScopedTerms.{HasNumbers}
use Rattle.core_sig.specs.DraftScopes.{IsDraftNumber}
use Rattle.unification.proofs.Cases.{below-or_from}
use Rattle.tree_translation.specs.Conditions.{with_function}
use Rattle.tree_translation.specs.Plans.{Plan}
use Rattle.entry_laws.proofs.entry_scopes.DraftSignatures.{with_count, name-number, numbers-there, scoped-draft}
use Rattle.entry_laws.specs.draft_scopes.Laws.{IsNamedOver}
use Rattle.entry_laws.proofs.draft_scopes.FunctionSignatures.{function-numbers}

module _ (S : Signature) (plan : Plan) (base : plan.base ≡ length S.entries) (count : ℕ) where
  many : length (with_function S plan).entries ≡ length S.entries + 1
  many = length-append S.entries (Definition plan.name plan.type (Const (length S.entries)) ∷ [])

  own-number : IsConstantNumber (with_function S plan) (length S.entries)
  own-number =
      let e : length S.entries + 0 ≡ length S.entries = omega arith in (
        plan.name,
        plan.type,
        Const (length S.entries),
        subst (λ n. slice_get (with_function S plan).entries n ≡ Some (Definition plan.name plan.type (Const (length S.entries)))) e
            (slice_get-append_right S.entries (Definition plan.name plan.type (Const (length S.entries)) ∷ []) 0),
      )

  pub constant-there : (c : ℕ) → plan.base ≤ c → c < plan.base + count → IsConstantNumber (with_count (with_function S plan) count) c
  constant-there c from to = elim (below-or_from plan.base c) [
    | inl lt ↦ name-number (with_function S plan) count c (omega (arith, base, many)) (omega (arith, base, many))
    | inr le ↦
        let same : length S.entries ≡ c = omega (arith, base) in
        subst (IsConstantNumber (with_count (with_function S plan) count)) same
        ((numbers-there (with_function S plan) count).constants (length S.entries) own-number)
  ]

  pub both-numbers : HasNumbers S (with_count (with_function S plan) count)
  both-numbers =
      let one = function-numbers S plan in
      let two = numbers-there (with_function S plan) count in
      record {
        constants = λ n is. two.constants n (one.constants n is);
        families = λ n is. two.families n (one.families n is);
        constructors = λ n c is. two.constructors n c (one.constructors n c is);
      }

  family-before : (n : ℕ) (f : Family) → IsEntryAt (with_function S plan) n (FamilyOf f) → IsEntryAt S n (FamilyOf f)
  family-before n f at = by (slice_get-pushed S.entries (Definition plan.name plan.type (Const (length S.entries))) n (FamilyOf f) at)
    where
      by : (slice_get S.entries n ≡ Some (FamilyOf f)) ⊎ ((n ≡ length S.entries) × (Definition plan.name plan.type (Const (length S.entries)) ≡ FamilyOf f))
          → IsEntryAt S n (FamilyOf f)
      by (inl before) = before
      by (inr (place, same)) = absurd (cc)

  pub named-over : IsNamedOver S (with_count (with_function S plan) count) plan.base
  named-over = record {
    families = λ n is. family n (scoped-draft F count 0 (Fam n) (record { variables = omega arith; entries = is })).entries;
    constructors = λ n c is. constructor n c (scoped-draft F count 0 (Con n c) (record { variables = omega arith; entries = is })).entries;
    constants = λ c low is. constant c low (scoped-draft F count 0 (Const c) (record { variables = omega arith; entries = is })).entries;
  }
    where
      F : Signature
      F = with_function S plan

      family : (n : ℕ) → IsFamilyNumber (with_function S plan) n → IsFamilyNumber S n
      family n (f, at) = (f, family-before n f at)

      constructor : (n c : ℕ) → IsConstructorNumber (with_function S plan) n c → IsConstructorNumber S n c
      constructor n c (f, at, low) = (f, family-before n f at, low)

      constant : (c : ℕ) → c < plan.base → IsDraftNumber (with_function S plan) (length (with_function S plan).entries) count c → IsConstantNumber S c
      constant c low (inl (lt, (name, type, body, at))) = (name, type, body, sym (slice_get-append S.entries _ c (omega (arith, base))) ∙ at)
      constant c low (inr (from, to)) = absurd (omega (arith, base, many))
