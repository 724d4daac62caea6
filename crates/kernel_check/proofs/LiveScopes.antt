-- The scope of a call in a store that has grown: it is live, and stands for its context.
use Rattle.std.proofs.Common.{◌≡◌, ◌+◌, ◌≤◌, ℕ, IsTrue, List, [], ◌∷◌, length, reverse, Result, Ok, refl, sym, ap, ap₂, subst as transport}
use Rattle.std.proofs.lemmas.List.Elements.{All-weaker}
use Rattle.theory.specs.Terms.{Term}
use Rattle.theory.specs.Telescopes.{Telescope, context_behind}
use Rattle.theory.specs.Signatures.{Signature}
use Rattle.theory.specs.SignatureScopes.{IsScoped, IsScopedContext}
use Rattle.core_terms.specs.Answers.{Gives}
use Rattle.core_terms.specs.Meanings.{tree_of, tele_of}
use Rattle.core_terms.specs.declared.stop.Stop.{Stop}
use Rattle.core_terms.specs.declared.term.Term as code
use Rattle.term_pool.specs.Held.{Held, Extends}
use Rattle.term_pool.proofs.Instancing.{map-kept}
use Rattle.kernel_reduce.specs.Reduction.{most_variables}
use Rattle.core_sig.proofs.StandingEntries.{correspond-map, where_low-stays}
use Rattle.kernel_check.specs.Scopes.{CanCheckIn, IsLive, IsWritten, scope_in}
use Rattle.kernel_check.specs.declared.scope.Scope.{Scope, Given, Written, Under'}

module _ {I : Type 0} where
  pub live-kept : (old new : Held I) (scope : Scope I) → Extends old new → IsLive old scope → IsLive new scope
  live-kept old new (Given types) e h = All-weaker (λ a. IsTrue (old.live a)) (λ a. IsTrue (new.live a)) e.lives types.now h
  live-kept old new (Written types ids) e h =
      correspond-map (IsWritten old) (IsWritten new) types.now ids.now (λ n t id. where_low-stays old new e id (tree_of t)) h
  live-kept old new (Under' a p outer) e h = (e.lives a h.0, live-kept old new outer e h.1)

  pub scope-kept : (old new : Held I) (scope : Scope I) → Extends old new → IsLive old scope → scope_in new.tree scope ≡ scope_in old.tree scope
  scope-kept old new (Given types) e h = ap (context_behind []) (map-kept old new types.now e h)
  scope-kept old new (Written types ids) e h = refl
  scope-kept old new (Under' a p outer) e h = ap₂ ◌∷◌ (e.trees a h.0) (scope-kept old new outer e h.1)

  -- a term may be checked in a store that has grown as before
  pub can-kept : (old new : Held I) (S : Signature) (room : ℕ) (scope : Scope I) (t : Term) → Extends old new → CanCheckIn old S room scope t
      → CanCheckIn new S room scope t
  can-kept old new S room scope t e h =
      let same = sym (scope-kept old new scope e h.context_live) in
      record {
        signature = h.signature;
        context_live = live-kept old new scope e h.context_live;
        context = transport (IsScopedContext S) same h.context;
        term = transport (λ G. IsScoped S (length G) t) same h.term;
        few = transport (λ G. length G + room ≤ most_variables) same h.few;
        nested = h.nested;
      }

  -- the types of a scope of this shape, written out
  pub exported : (at : I → Term) (r : Result (List code.Term) Stop) (scope shape : Scope I) (tele : Telescope) → scope ≡ shape → reverse (scope_in at shape) ≡ tele
      → Gives tele_of r (Ok tele) → Gives tele_of r (Ok (reverse (scope_in at scope)))
  exported at r scope shape tele is meant h =
      transport (λ s. Gives tele_of r (Ok (reverse (scope_in at s)))) (sym is) (transport (λ xs. Gives tele_of r (Ok xs)) (sym meant) h)

pub ruleset scope_laws = (live-kept, scope-kept, can-kept)
