-- The prelude is scoped, and so are a scoped signature with one scoped entry more and its first entries.
use Rattle.std.proofs.Common.{◌≡◌, ℕ, zero, suc, ◌+◌, ◌<◌, ◌≤◌, ◌⊎◌, inl, inr, Some, List, [], ◌∷◌, ◌++◌, length, take, map, slice_get, refl, sym, ap, ◌∙◌, subst as transport, subst₂, arith}
use Rattle.std.proofs.lemmas.List.{take-append-le, take-take, length-take}
use Rattle.std.proofs.lemmas.List.Elements.{All-nil, All-cons}
use Rattle.std.specs.List.{All, range_with_len}
use Rattle.std.proofs.lemmas.Option.{slice_get_within, same_Some}
use Rattle.theory.specs.Terms.{Term, Var, top}
use Rattle.theory.specs.Families.{Family, index_types}
use Rattle.theory.specs.Prelude.{empty_family, equality_family, unit_family, pair_family, at_levels, prelude}
use Rattle.theory.specs.Signatures.{Entry, FamilyOf, EliminatorAt, AxiomKAt, Definition, Signature, equality}
use Rattle.theory.specs.SignatureScopes.{IsFamilyNumber, IsConstructorNumber, IsScoped, IsScopedTelescope, IsScopedConstructor, IsScopedFamily, IsProvisional, IsScopedEntry}
use Rattle.theory.specs.WellFormed.{pushed, first_entries}
use Rattle.theory.proofs.ScopedTerms.{var-scoped, sort-scoped}
use Rattle.kernel_reduce.specs.SignatureLaws.{PreludeScoped, PushedScoped, FirstEntriesScoped}

-- two signatures with the same first n + 1 entries
record Agrees (S T : Signature) (n : ℕ) : Type 0 where
  before : first_entries S n ≡ first_entries T n
  with_it : first_entries S (n + 1) ≡ first_entries T (n + 1)

definition-agrees : (S T : Signature) (n : ℕ) (type body : Term) → first_entries S n ≡ first_entries T n → (IsProvisional S n body → IsProvisional T n body)
    → IsScoped (first_entries S n) 0 type × (IsScoped (first_entries S n) 0 body ⊎ IsProvisional S n body)
    → IsScoped (first_entries T n) 0 type × (IsScoped (first_entries T n) 0 body ⊎ IsProvisional T n body)
definition-agrees S T n type body e last h = (transport (λ X. IsScoped X 0 type) e h.0, by h.1)
  where
    by : IsScoped (first_entries S n) 0 body ⊎ IsProvisional S n body → IsScoped (first_entries T n) 0 body ⊎ IsProvisional T n body
    by (inl k) = inl (transport (λ X. IsScoped X 0 body) e k)
    by (inr k) = inr (last k)

-- entry n is scoped in the one signature where it is scoped in the other
entry-agrees : (S T : Signature) (n : ℕ) (e : Entry) → Agrees S T n
    → ((name : List ℕ) (type body : Term) → e ≡ Definition name type body → IsProvisional S n body → IsProvisional T n body)
    → IsScopedEntry S n e → IsScopedEntry T n e
entry-agrees S T n (FamilyOf f) agree last h = record {
  parameters = transport (λ X. IsScopedTelescope X 0 f.parameters) agree.before h.parameters;
  indices = transport (λ X. IsScopedTelescope X (length f.parameters) (index_types f)) agree.before h.indices;
  level = h.level;
  index_levels = h.index_levels;
  constructors = transport (λ X. All (IsScopedConstructor X (length f.parameters) (length f.indices)) f.constructors) agree.with_it h.constructors;
}
entry-agrees S T n (EliminatorAt g m) agree last h = (transport (λ X. IsFamilyNumber X g) agree.before h.0, h.1)
entry-agrees S T n (AxiomKAt i m) agree last h =
    (h.0, h.1, transport (λ X. IsConstructorNumber X (equality i) 0) agree.before h.2)
entry-agrees S T n (Definition name type body) agree last h =
    definition-agrees S T n type body agree.before (last name type body refl) h

same-first : (S T : Signature) (n m : ℕ) → take n S.entries ≡ take m T.entries → S.has_k ≡ T.has_k → first_entries S n ≡ first_entries T m
same-first S T n m e k = λ i. record { entries = e i; has_k = k i }

taken-at : {X : Type 0} (xs : List X) (count n : ℕ) (x : X) → slice_get (take count xs) n ≡ Some x → slice_get xs n ≡ Some x
taken-at [] zero n x e = e
taken-at [] (suc count) n x e = e
taken-at (y ∷ xs) zero n x e = absurd (grind arith)
taken-at (y ∷ xs) (suc count) zero x e = e
taken-at (y ∷ xs) (suc count) (suc n) x e = taken-at xs count n x e

pub first_entries-scoped : FirstEntriesScoped
first_entries-scoped S count scoped n e at =
    entry-agrees S (first_entries S count) n e
    (record {
      before = same-first S (first_entries S count) n n (sym (take-take n count S.entries (omega (arith, below)))) refl;
      with_it = same-first S (first_entries S count) (n + 1) (n + 1) (sym (take-take (n + 1) count S.entries (omega (arith, below)))) refl;
    })
    (λ name type body is provisional. record { itself = provisional.itself; last = omega (arith, below, provisional.last, length-take count S.entries) })
    (scoped n e (taken-at S.entries count n e at))
  where
    low : n < length (take count S.entries)
    low = slice_get_within (take count S.entries) n e at

    below : n < count
    below = omega (arith, low, length-take count S.entries)

pushed-at : {X : Type 0} (xs : List X) (y : X) (n : ℕ) (x : X) → slice_get (xs ++ y ∷ []) n ≡ Some x → (slice_get xs n ≡ Some x) ⊎ ((n ≡ length xs) × (y ≡ x))
pushed-at [] y zero x e = inr (refl, same_Some y x e)
pushed-at [] y (suc n) x e = absurd (grind arith)
pushed-at (z ∷ xs) y zero x e = inl e
pushed-at (z ∷ xs) y (suc n) x e = elim (pushed-at xs y n x e) [
  | inl there ↦ inl there
  | inr it ↦ inr (ap suc it.0, it.1)
]

pub pushed-scoped : PushedScoped
pushed-scoped S e scoped whole last n x at = by (pushed-at S.entries e n x at)
  where
    by : (slice_get S.entries n ≡ Some x) ⊎ ((n ≡ length S.entries) × (e ≡ x)) → IsScopedEntry (pushed S e) n x
    by (inl there) =
        let low = slice_get_within S.entries n x there in
        entry-agrees S (pushed S e) n x
        (record {
          before = same-first S (pushed S e) n n (sym (take-append-le n S.entries (e ∷ []) (omega arith))) refl;
          with_it = same-first S (pushed S e) (n + 1) (n + 1) (sym (take-append-le (n + 1) S.entries (e ∷ []) (omega arith))) refl;
        })
        (λ name type body is provisional. absurd (whole n name type body (there ∙ ap Some is) provisional.itself))
        (scoped n x there)
    by (inr it) = subst₂ (IsScopedEntry (pushed S e)) (sym it.0) it.1 last

-- the families of the prelude name no entry

empty-scoped : (S : Signature) (n : ℕ) → IsScopedFamily S n empty_family
empty-scoped S n = record {
  parameters = tt;
  indices = tt;
  level = omega arith;
  index_levels = All-nil (λ i. i.1 < top);
  constructors = All-nil (IsScopedConstructor (first_entries S (n + 1)) 0 0);
}

equality-scoped : (S : Signature) (n i : ℕ) → i < top → IsScopedFamily S n (equality_family i)
equality-scoped S n i low = record {
  parameters = (sort-scoped i, (var-scoped (omega arith), tt));
  indices = (var-scoped (omega arith), tt);
  level = low;
  index_levels = All-cons (λ x. x.1 < top) (Var 1, i) [] low (All-nil (λ x. x.1 < top));
  constructors =
      All-cons (IsScopedConstructor (first_entries S (n + 1)) 2 1) _ []
      (record {
        arguments = tt;
        targets = All-cons (IsScoped (first_entries S (n + 1)) 2) (Var 0) [] (var-scoped (omega arith)) (All-nil (IsScoped (first_entries S (n + 1)) 2));
        target_count = refl;
      })
      (All-nil (IsScopedConstructor (first_entries S (n + 1)) 2 1));
}

unit-scoped : (S : Signature) (n i : ℕ) → i < top → IsScopedFamily S n (unit_family i)
unit-scoped S n i low = record {
  parameters = tt;
  indices = tt;
  level = low;
  index_levels = All-nil (λ x. x.1 < top);
  constructors =
      All-cons (IsScopedConstructor (first_entries S (n + 1)) 0 0) _ []
      (record { arguments = tt; targets = All-nil (IsScoped (first_entries S (n + 1)) 0); target_count = refl })
      (All-nil (IsScopedConstructor (first_entries S (n + 1)) 0 0));
}

pair-scoped : (S : Signature) (n i : ℕ) → i < top → IsScopedFamily S n (pair_family i)
pair-scoped S n i low = record {
  parameters = (sort-scoped i, (sort-scoped i, tt));
  indices = tt;
  level = low;
  index_levels = All-nil (λ x. x.1 < top);
  constructors =
      All-cons (IsScopedConstructor (first_entries S (n + 1)) 2 0) _ []
      (record {
        arguments = ((var-scoped (omega arith), low), ((var-scoped (omega arith), low), tt));
        targets = All-nil (IsScoped (first_entries S (n + 1)) 4);
        target_count = refl;
      })
      (All-nil (IsScopedConstructor (first_entries S (n + 1)) 2 0));
}

-- an entry that is a family at some level
AtLevels : (ℕ → Family) → Entry → Type 0
AtLevels family e = (i : ℕ) × (i < top) × (e ≡ FamilyOf (family i))

counted-at : (family : ℕ → Family) (from count n : ℕ) (e : Entry) → from + count ≤ top → slice_get (map (λ i. FamilyOf (family i)) (range_with_len from count)) n ≡ Some e → AtLevels family e
unfolding AtLevels
counted-at family from zero n e low at = absurd (grind arith)
counted-at family from (suc count) zero e low at = (from, omega arith, sym (same_Some (FamilyOf (family from)) e at))
counted-at family from (suc count) (suc n) e low at = counted-at family (from + 1) count n e (omega arith) at

appended-at : {X : Type 0} (xs ys : List X) (n : ℕ) (x : X) → slice_get (xs ++ ys) n ≡ Some x → ((m : ℕ) × (slice_get xs m ≡ Some x)) ⊎ ((m : ℕ) × (slice_get ys m ≡ Some x))
appended-at [] ys n x e = inr (n, e)
appended-at (z ∷ xs) ys zero x e = inl (zero, e)
appended-at (z ∷ xs) ys (suc n) x e = elim (appended-at xs ys n x e) [
  | inl there ↦ inl (suc there.0, there.1)
  | inr there ↦ inr there
]

level-scoped : (S : Signature) (n : ℕ) (family : ℕ → Family) (e : Entry) → ((i : ℕ) → i < top → IsScopedFamily S n (family i)) → AtLevels family e → IsScopedEntry S n e
unfolding AtLevels
level-scoped S n family e each at = transport (IsScopedEntry S n) (sym at.2) (each at.0 at.1)

pub prelude-scoped : PreludeScoped
prelude-scoped k zero e at =
    transport (IsScopedEntry (prelude k) zero) (same_Some (FamilyOf empty_family) e at) (empty-scoped (prelude k) zero)
prelude-scoped k (suc n) e at = elim (appended-at (at_levels equality_family) (at_levels unit_family ++ at_levels pair_family) n e at) [
  | inl there ↦ level-scoped (prelude k) (suc n) equality_family e (equality-scoped (prelude k) (suc n)) (counted-at equality_family 0 top there.0 e (omega arith) there.1)
  | inr rest ↦ elim (appended-at (at_levels unit_family) (at_levels pair_family) rest.0 e rest.1) [
    | inl there ↦ level-scoped (prelude k) (suc n) unit_family e (unit-scoped (prelude k) (suc n)) (counted-at unit_family 0 top there.0 e (omega arith) there.1)
    | inr there ↦ level-scoped (prelude k) (suc n) pair_family e (pair-scoped (prelude k) (suc n)) (counted-at pair_family 0 top there.0 e (omega arith) there.1)
  ]
]
