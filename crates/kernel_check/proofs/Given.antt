-- The context and the terms of a call from outside, and the words of the laws for what is answered.
use Rattle.std.proofs.Common.{◌≡◌, ◌+◌, ◌≤◌, Bor, IsTrue, Option, List, [], ◌∷◌, length, map, sym, ◌∙◌, subst as transport, arith}
use Rattle.std.proofs.lemmas.List.{length-map}
use Rattle.std.specs.List.{All}
use Rattle.theory.specs.Terms as tree
use Rattle.theory.specs.Telescopes.{context_behind}
use Rattle.theory.specs.Signatures.{Signature}
use Rattle.theory.specs.SignatureScopes.{IsScoped, IsScopedContext}
use Rattle.theory.proofs.ScopedTerms.{context-scoped}
use Rattle.core_terms.specs.Meanings.{tree_of, tele_of}
use Rattle.core_terms.specs.declared.term.Term.{Term}
use Rattle.kernel_reduce.specs.Reduction.{most_variables, nesting}
use Rattle.kernel_reduce.specs.WellScoped.{AreWellScoped}
use Rattle.core_sig.specs.EntryIds.{Correspond}
use Rattle.term_pool.specs.Held.{Held}
use Rattle.kernel_check.specs.Scopes.{CanCheckIn, IsWritten}
use Rattle.kernel_check.specs.declared.scope.Scope.{Given, Written}
use Rattle.kernel_check.proofs.Contexts.{context-length}

given-length : (types : List Term) → length (tele_of types) ≡ length (context_behind [] (tele_of types))
given-length types = sym (context-length (tele_of types))

pub given-context : {S : Signature} {ts : List tree.Term} (types : List Term) → AreWellScoped S (tele_of types) ts → IsScopedContext S (context_behind [] (tele_of types))
given-context {S} types h = (context-scoped S (tele_of types)).0 h.context

pub given-term : {S : Signature} {t : tree.Term} {ts : List tree.Term} (types : List Term) → AreWellScoped S (tele_of types) (t ∷ ts)
    → IsScoped S (length (context_behind [] (tele_of types))) t
given-term {S} {t} types h = transport (λ n. IsScoped S n t) (given-length types) h.terms.0

pub context-few : (types : List Term) → length (context_behind [] (tele_of types)) ≡ length types
context-few types = context-length (tele_of types) ∙ length-map types tree_of

-- a context that is written out, with the ids of its types
pub can-given : {I : Type 0} {S : Signature} {t : tree.Term} {ts : List tree.Term} (held : Held I) (types : Bor (List Term)) (slice : Bor (List (Option I))) (ids : List (Option I))
    → slice.now ≡ ids → Correspond (IsWritten held) types.now ids → AreWellScoped S (tele_of types.now) (t ∷ ts) → CanCheckIn held S nesting (Written types slice) t
can-given {I} {S} {t} held types slice ids e live h =
    record {
      signature = h.signature;
      context_live = transport (Correspond (IsWritten held) types.now) (sym e) live;
      context = given-context types.now h;
      term = given-term types.now h;
      few = omega (arith, h.few, given-length types.now);
      nested = omega arith;
    }

-- a context of ids
module _ {I : Type 0} (held : Held I) where
  pub given_ids-length : (types : List I) → length (context_behind [] (map held.tree types)) ≡ length types
  given_ids-length types = context-length (map held.tree types) ∙ length-map types held.tree

  pub given_ids-context : {S : Signature} {ts : List tree.Term} (types : List I) → AreWellScoped S (map held.tree types) ts → IsScopedContext S (context_behind [] (map held.tree types))
  given_ids-context {S} types h = (context-scoped S (map held.tree types)).0 h.context

  pub given_ids-term : {S : Signature} {t : tree.Term} {ts : List tree.Term} (types : List I) → AreWellScoped S (map held.tree types) (t ∷ ts)
      → IsScoped S (length (context_behind [] (map held.tree types))) t
  given_ids-term {S} {t} types h = transport (λ n. IsScoped S n t) (sym (context-length (map held.tree types))) h.terms.0

  pub can-given_ids : {S : Signature} {t : tree.Term} {ts : List tree.Term} (slice : Bor (List I)) (types : List I) → slice.now ≡ types
      → All (λ a. IsTrue (held.live a)) types → AreWellScoped S (map held.tree types) (t ∷ ts) → CanCheckIn held S nesting (Given slice) t
  can-given_ids {S} {t} slice types e live h =
      let scoped : CanCheckIn held S nesting (Given slice) t =
      record {
        signature = h.signature;
        context_live = transport (All (λ a. IsTrue (held.live a))) (sym e) live;
        context = transport (λ xs. IsScopedContext S (context_behind [] (map held.tree xs))) (sym e) (given_ids-context types h);
        term = transport (λ xs. IsScoped S (length (context_behind [] (map held.tree xs))) t) (sym e) (given_ids-term types h);
        few = transport (λ xs. length (context_behind [] (map held.tree xs)) + nesting ≤ most_variables) (sym e) (omega (arith, h.few, context-length (map held.tree types)));
        nested = omega arith;
      } in
      scoped
