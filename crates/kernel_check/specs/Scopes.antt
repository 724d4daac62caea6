-- The contexts that the scopes of the code stand for, and the condition of a call of the checker over a store.
use Rattle.std.specs.Prelude.{ℕ, ◌≤◌, ◌+◌, IsTrue, Option, [], ◌∷◌, map, length}
use Rattle.std.specs.List.{All}
use Rattle.theory.specs.Terms as tree
use Rattle.theory.specs.Telescopes.{Context, context_behind}
use Rattle.theory.specs.Signatures.{Signature}
use Rattle.theory.specs.SignatureScopes.{IsScoped, IsScopedContext, IsScopedSignature}
use Rattle.core_terms.specs.Meanings.{tree_of, tele_of}
use Rattle.core_terms.specs.declared.term.Term.{Term}
use Rattle.kernel_reduce.specs.Reduction.{most_variables, nesting}
use Rattle.term_pool.specs.Held.{Held}
use Rattle.core_sig.specs.EntryIds.{Correspond, IsIdWhereLow}
use Rattle.kernel_check.specs.declared.scope.Scope.{Scope, Given, Written, Under'}

module _ {I : Type 0} where
  -- the context, the last type first
  abbrev pub scope_in : (I → tree.Term) → Scope I → Context
  scope_in tree (Given types) = context_behind [] (map tree types.now)
  scope_in tree (Written types ids) = context_behind [] (tele_of types.now)
  scope_in tree (Under' a p outer) = tree a ∷ scope_in tree outer

  -- a type that is written out has an id where it is low
  abbrev pub IsWritten : Held I → ℕ → Term → Option I → Type 0
  IsWritten held n t id = IsIdWhereLow held id (tree_of t)

  -- the ids of the context are live, and those of types that are written out stand for them
  abbrev pub IsLive : Held I → Scope I → Type 0
  IsLive held (Given types) = All (λ a. IsTrue (held.live a)) types.now
  IsLive held (Written types ids) = Correspond (IsWritten held) types.now ids.now
  IsLive held (Under' a p outer) = IsTrue (held.live a) × IsLive held outer

  -- Signature, context and term are scoped, and the context is live. With as many binders more as calls may be open, the variables are few
  -- enough for numbers of 32 bits.
  pub record CanCheckIn (held : Held I) (S : Signature) (room : ℕ) (scope : Scope I) (t : tree.Term) : Type 0 where
    pub signature : IsScopedSignature S
    pub context_live : IsLive held scope
    pub context : IsScopedContext S (scope_in held.tree scope)
    pub term : IsScoped S (length (scope_in held.tree scope)) t
    pub few : length (scope_in held.tree scope) + room ≤ most_variables
    pub nested : room ≤ nesting
