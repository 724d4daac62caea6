-- A settled signature stays settled where an entry goes to its end that is scoped and no provisional one.
use Rattle.std.proofs.Common.{◌≡◌, ◌≢◌, ◌⊎◌, ℕ, ◌+◌, ◌<◌, ◌≤◌, List, [], ◌∷◌, ◌++◌, length, All, sym, refl, ap, ◌∙◌, subst as transport, inl, inr, arith}
use Rattle.std.proofs.lemmas.List.{take-append-le, take_at, take_all, length-append}
use Rattle.std.proofs.lemmas.Option.{slice_get_within}
use Rattle.theory.specs.Terms.{Term}
use Rattle.theory.specs.Terms.Term.{Const}
use Rattle.theory.specs.Families.{index_types}
use Rattle.theory.specs.Signatures.{Signature, Entry, FamilyOf, EliminatorAt, AxiomKAt, Definition, IsEntryAt, equality}
use Rattle.theory.specs.WellFormed.{pushed, first_entries}
use Rattle.theory.specs.SignatureScopes.{IsFamilyNumber, IsConstructorNumber, IsScoped, IsScopedTelescope, IsScopedConstructor, IsProvisional, IsScopedEntry}
use Rattle.theory.proofs.Pushing.{entry_of-pushed}
use Rattle.family_check.specs.Scopes.{IsSettled}

with_entries : Signature → List Entry → Signature
with_entries S es = record { entries = es; has_k = S.has_k }

-- the first entries of a longer signature
pub first-before : (S : Signature) (e : Entry) (n : ℕ) → n ≤ length S.entries → first_entries S n ≡ first_entries (pushed S e) n
unfolding with_entries
first-before S e n le = ap (with_entries S) (sym (take-append-le n S.entries (e ∷ []) le))

-- all but the last one
pub first-all : (S : Signature) (e : Entry) → S ≡ first_entries (pushed S e) (length S.entries)
unfolding with_entries
first-all S e = ap (with_entries S) (sym (take_at S.entries (e ∷ []) (length S.entries) refl))

-- and all of them
pub first-whole : (S : Signature) (e : Entry) → pushed S e ≡ first_entries (pushed S e) (length S.entries + 1)
unfolding with_entries
first-whole S e =
    ap (with_entries S) (sym (take_all (length S.entries + 1) (S.entries ++ e ∷ []) (omega (arith, length-append S.entries (e ∷ [])))))

-- an earlier entry is scoped in the longer signature
entry-kept : (S : Signature) (e : Entry) → IsSettled S → (n : ℕ) (x : Entry) → n < length S.entries → IsEntryAt S n x → IsScopedEntry S n x
    → IsScopedEntry (pushed S e) n x
entry-kept S e settled n (FamilyOf f) lt at h =
    let before = first-before S e n (omega arith) in
    record {
      parameters = transport (λ T. IsScopedTelescope T 0 f.parameters) before h.parameters;
      indices = transport (λ T. IsScopedTelescope T (length f.parameters) (index_types f)) before h.indices;
      level = h.level;
      index_levels = h.index_levels;
      constructors =
          transport (λ T. All (IsScopedConstructor T (length f.parameters) (length f.indices)) f.constructors)
          (first-before S e (n + 1) (omega arith)) h.constructors;
    }
entry-kept S e settled n (EliminatorAt g m) lt at h =
    (transport (λ T. IsFamilyNumber T g) (first-before S e n (omega arith)) h.0, h.1)
entry-kept S e settled n (AxiomKAt i m) lt at h =
    (h.0, h.1, transport (λ T. IsConstructorNumber T (equality i) 0) (first-before S e n (omega arith)) h.2)
entry-kept S e settled n (Definition name type body) lt at h =
    let before = first-before S e n (omega arith) in
    (transport (λ T. IsScoped T 0 type) before h.0, by_case before h.1)
  where
    by_case : first_entries S n ≡ first_entries (pushed S e) n → IsScoped (first_entries S n) 0 body ⊎ IsProvisional S n body
        → IsScoped (first_entries (pushed S e) n) 0 body ⊎ IsProvisional (pushed S e) n body
    by_case before (inl k) = inl (transport (λ T. IsScoped T 0 body) before k)
    by_case before (inr p) = absurd (settled.bodies n name type (transport (λ b. IsEntryAt S n (Definition name type b)) p.itself at))

pub push-settled : (S : Signature) (e : Entry) → IsSettled S → IsScopedEntry (pushed S e) (length S.entries) e
    → ((name : List ℕ) (type : Term) → e ≢ Definition name type (Const (length S.entries))) → IsSettled (pushed S e)
push-settled S e settled entry whole = record { scoped = scoped; bodies = bodies }
  where
    scoped : (n : ℕ) (x : Entry) → IsEntryAt (pushed S e) n x → IsScopedEntry (pushed S e) n x
    scoped n x at = elim (entry_of-pushed S e n x at) [
      | inl before ↦ entry-kept S e settled n x (slice_get_within S.entries n x before) before (settled.scoped n x before)
      | inr (place, same) ↦
          transport (λ y. IsScopedEntry (pushed S e) n y) same
          (transport (λ k. IsScopedEntry (pushed S e) k e) (sym place) entry)
    ]

    bodies : (n : ℕ) (name : List ℕ) (type : Term) → ¬ IsEntryAt (pushed S e) n (Definition name type (Const n))
    bodies n name type at = elim (entry_of-pushed S e n (Definition name type (Const n)) at) [
      | inl before ↦ settled.bodies n name type before
      | inr (place, same) ↦ whole name type (same ∙ ap (λ k. Definition name type (Const k)) place)
    ]
