-- The ids that are found in a scope stand for the types that its context gives to variables.
use Rattle.std.proofs.Common.{◌≡◌, ℕ, suc, ◌-◌, ◌<◌, IsTrue, Option, Some, None, List, [], ◌∷◌, length, map, reverse, slice_get, get_or, sym, ap₂, Bor, subst as transport, arith}
use Rattle.std.specs.List.{All}
use Rattle.std.proofs.lemmas.Option.{get_or_from_slice_get}
use Rattle.theory.specs.Telescopes.{context_behind}
use Rattle.core_terms.specs.Meanings.{tree_of, tele_of}
use Rattle.core_terms.specs.declared.term.Term.{Term}
use Rattle.term_pool.specs.Held.{Held}
use Rattle.core_sig.specs.EntryIds.{Correspond}
use Rattle.store_reduce.proofs.Correspondents.{second-at}
use Rattle.kernel_check.specs.Scopes.{IsLive, IsWritten, scope_in}
use Rattle.kernel_check.specs.TypeIds.{IsTypeId, known_type}
use Rattle.kernel_check.specs.declared.type_id.TypeId.{TypeId}
use Rattle.kernel_check.specs.declared.type_id.TypeId.TheVariants.{Of, Unknown}
use Rattle.kernel_check.specs.declared.scope.Scope.{Scope, Under}
use Rattle.kernel_check.proofs.Contexts.{within-reverse, at-reverse, past-reverse, declared-at, declared-past}
use Rattle.kernel_check.proofs.FoundTypes.{meant-type}

module _ {I : Type 0} (held : Held I) where
  pub given-declared : (types : List I) (n : ℕ) (id : I) → All (λ a. IsTrue (held.live a)) types → Some id ≡ slice_get (reverse types) n
      → IsTypeId held (Of id) (slice_get (context_behind [] (map held.tree types)) n)
  given-declared types n id live e =
      let low = within-reverse types n id (sym e) in
      let at = at-reverse types n id (sym e) in
      let same : get_or types (length types - 1 - n) id ≡ id = get_or_from_slice_get types (length types - 1 - n) id id at in
      (transport (λ a. IsTrue (held.live a)) same (live (length types - 1 - n) id (omega arith)), declared-at held.tree types n id low at)

  pub given-past : (types : List I) (n : ℕ) → None ≡ slice_get (reverse types) n
      → IsTypeId held Unknown (slice_get (context_behind [] (map held.tree types)) n)
  given-past types n e = declared-past held.tree types n (past-reverse types n (sym e))

  pub written-declared : (types : List Term) (ids : List (Option I)) (n : ℕ) (ty : Option I) (found : TypeId I) → Correspond (IsWritten held) types ids
      → Some ty ≡ slice_get (reverse ids) n → found ≡ known_type ty → IsTypeId held found (slice_get (context_behind [] (tele_of types)) n)
  written-declared types ids n ty found c e is =
      let low = within-reverse ids n ty (sym e) in
      let t = second-at (IsWritten held) types ids c (length ids - 1 - n) ty (at-reverse ids n ty (sym e)) in
      let at : slice_get types (length types - 1 - n) ≡ Some t.0 = transport (λ k. slice_get types (k - 1 - n) ≡ Some t.0) c.count t.1.0 in
      transport (λ r. IsTypeId held r (slice_get (context_behind [] (tele_of types)) n)) (sym is)
      (meant-type held ty (tree_of t.0) (slice_get (context_behind [] (tele_of types)) n) t.1.1
      (declared-at tree_of types n t.0 (omega (arith, c.count)) at))

  pub written-past : (types : List Term) (ids : List (Option I)) (n : ℕ) → Correspond (IsWritten held) types ids → None ≡ slice_get (reverse ids) n
      → IsTypeId held Unknown (slice_get (context_behind [] (tele_of types)) n)
  written-past types ids n c e =
      let past = past-reverse ids n (sym e) in
      declared-past tree_of types n (omega (arith, c.count))

  -- of the context that a scope stands for
  abbrev pub Declares : Scope I → ℕ → TypeId I → Type 0
  Declares scope n found = IsLive held scope → IsTypeId held found (slice_get (scope_in held.tree scope) n)

  pub scope-declared : (scope shape : Scope I) (n : ℕ) (found : TypeId I) → scope ≡ shape → Declares shape n found → Declares scope n found
  scope-declared scope shape n found is h = transport (λ s. Declares s n found) (sym is) h

  -- the type of the last binder, and that of a variable behind it
  pub binder-declared : (scope : Scope I) (a : I) (outer : Bor (Scope I)) (n : ℕ) → scope ≡ Under a outer → n ≡ 0 → Declares scope n (Of a)
  binder-declared scope a outer n is zero_is live =
      let alive : IsTrue (held.live a) × IsLive held outer.now = transport (IsLive held) is live in
      (alive.0, ap₂ (λ s k. slice_get (scope_in held.tree s) k) is zero_is)

  pub outer-declared : (scope : Scope I) (a : I) (outer : Bor (Scope I)) (n : ℕ) (found : TypeId I) → scope ≡ Under a outer → 0 < n
      → Declares outer.now (n - 1) found → Declares scope n found
  outer-declared scope a outer n found is more h live =
      let alive : IsTrue (held.live a) × IsLive held outer.now = transport (IsLive held) is live in
      let place : n ≡ suc (n - 1) = omega arith in
      transport (λ s. IsTypeId held found (slice_get (scope_in held.tree s) n)) (sym is)
      (transport (λ k. IsTypeId held found (slice_get (held.tree a ∷ scope_in held.tree outer.now) k)) (sym place) (h alive.1))
