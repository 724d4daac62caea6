-- The conditions of the checker's calls over a store, from those of their callers.
use Rattle.std.proofs.Common.{◌≡◌, ℕ, ◌+◌, ◌≤◌, IsTrue, ◌∙◌, Result, Ok, Err, IfOk, [], ◌∷◌, length, sym, ap, ap₂, subst as transport, Bor, arith}
use Rattle.theory.specs.Terms.{Term, free_of, subst as put}
use Rattle.theory.specs.Terms.Term.{Pi, Lam, App, Let}
use Rattle.theory.specs.Signatures.{Signature}
use Rattle.theory.specs.SignatureScopes.{IsScoped}
use Rattle.theory.proofs.ScopedTerms.{scoped-pi, scoped-lam, scoped-app, scoped-let, scoped_over_more, subst-scoped}
use Rattle.core_terms.specs.Answers.{Spent}
use Rattle.core_terms.specs.Bounds.{most_free, most_inner_variables}
use Rattle.core_terms.specs.Verdicts.{Verdict}
use Rattle.core_terms.specs.Verdicts.Verdict.{Yes, No}
use Rattle.core_terms.specs.declared.stop.Stop.{Stop}
use Rattle.kernel_reduce.specs.Reduction.{answered, most_variables}
use Rattle.kernel_reduce.specs.WellScoped.{CanReduce}
use Rattle.term_pool.specs.Held.{Held, Extends}
use Rattle.kernel_check.specs.declared.scope.Scope.{Scope, Under}
use Rattle.kernel_check.specs.Checking.{behind, product_of, infer_of, infer_sort_of}
use Rattle.kernel_check.specs.Laws.{IsScopedVerdict}
use Rattle.kernel_check.specs.Scopes.{CanCheckIn, scope_in}
use Rattle.kernel_check.proofs.LiveScopes.{scope-kept, can-kept}
use Rattle.kernel_check.proofs.Scoped.{under-binder, infer-scoped, product_of-scoped}

-- ---- in a store that has grown

module _ {I : Type 0} {old new : Held I} (e : Extends old new) where
  -- trees that are put together from those of ids are what they were
  pub pair-kept : (form : Term → Term → Term) {a b : I} → IsTrue (old.live a) → IsTrue (old.live b) → form (new.tree a) (new.tree b) ≡ form (old.tree a) (old.tree b)
  pair-kept form {a} {b} la lb = ap₂ form (e.trees a la) (e.trees b lb)

  pub let-kept : {a v b : I} → IsTrue (old.live a) → IsTrue (old.live v) → IsTrue (old.live b) → Let (new.tree a) (new.tree v) (new.tree b) ≡ Let (old.tree a) (old.tree v) (old.tree b)
  let-kept {a} {v} {b} la lv lb = ap₂ (λ x y. Let x (new.tree v) y) (e.trees a la) (e.trees b lb) ∙ ap (λ y. Let (old.tree a) y (old.tree b)) (e.trees v lv)

  module _ {S : Signature} {room : ℕ} {scope : Scope I} where
    pub can-kept_of : {u w : Term} → w ≡ u → CanCheckIn old S room scope u → CanCheckIn new S room scope w
    can-kept_of {u} same h = transport (CanCheckIn new S room scope) (sym same) (can-kept old new S room scope u e h)

    -- the tree of an id
    pub can-kept_id : {id : I} → IsTrue (old.live id) → CanCheckIn old S room scope (old.tree id) → CanCheckIn new S room scope (new.tree id)
    can-kept_id {id} live h = can-kept_of (e.trees id live) h

    -- another term
    pub can-kept_as : {t : Term} (u : Term) → CanCheckIn old S room scope t → IsScoped S (length (scope_in old.tree scope)) u → CanCheckIn new S room scope u
    can-kept_as {t} u h scoped =
        let same = sym (scope-kept old new scope e h.context_live) in
        let k = can-kept old new S room scope t e h in
        record {
          signature = k.signature;
          context_live = k.context_live;
          context = k.context;
          term = transport (λ G. IsScoped S (length G) u) same scoped;
          few = k.few;
          nested = k.nested;
        }

-- ---- over the same store

module _ {I : Type 0} {held : Held I} {S : Signature} {room : ℕ} where
  -- in the same context, with no more calls
  pub can-same : {scope : Scope I} {t : Term} (fewer : ℕ) (u : Term) → CanCheckIn held S room scope t → fewer ≤ room → IsScoped S (length (scope_in held.tree scope)) u
      → CanCheckIn held S fewer scope u
  can-same fewer u h low scoped =
      record {
        signature = h.signature;
        context_live = h.context_live;
        context = h.context;
        term = scoped;
        few = omega (arith, h.few);
        nested = omega (arith, h.nested);
      }

  pub can-fewer : {scope : Scope I} {t : Term} (fewer : ℕ) → CanCheckIn held S room scope t → fewer ≤ room → CanCheckIn held S fewer scope t
  can-fewer fewer h low = can-same fewer _ h low h.term

  -- under a binder more
  pub can-under : (outer : Bor (Scope I)) {t : Term} (fewer : ℕ) (a : I) (b : Term) → CanCheckIn held S room outer.now t → fewer + 1 ≤ room → IsTrue (held.live a)
      → IsScoped S (length (scope_in held.tree outer.now)) (held.tree a) → IsScoped S (length (scope_in held.tree outer.now) + 1) b → CanCheckIn held S fewer (Under a outer) b
  can-under outer fewer a b h low live ha hb =
      record {
        signature = h.signature;
        context_live = (live, h.context_live);
        context = (ha, h.context);
        term = under-binder (scope_in held.tree outer.now) (held.tree a) hb;
        few = omega (arith, h.few);
        nested = omega (arith, h.nested);
      }

  -- the parts of an application
  can-part : {scope : Scope I} {t : Term} (u : Term) → CanCheckIn held S room scope t → IsScoped S (length (scope_in held.tree scope)) u → CanCheckIn held S room scope u
  can-part u h scoped =
      record {
        signature = h.signature;
        context_live = h.context_live;
        context = h.context;
        term = scoped;
        few = h.few;
        nested = h.nested;
      }

  pub can-head : {scope : Scope I} {f u : Term} → CanCheckIn held S room scope (App f u) → CanCheckIn held S room scope f
  can-head h = can-part _ h (scoped-app h.term).0

  pub can-argument : {scope : Scope I} {f u : Term} → CanCheckIn held S room scope (App f u) → CanCheckIn held S room scope u
  can-argument h = can-part _ h (scoped-app h.term).1

-- the parts of terms
module _ {I : Type 0} {held : Held I} {S : Signature} {room : ℕ} where
  pub can-domain : {scope : Scope I} {a b : Term} → CanCheckIn held S (room + 1) scope (Pi a b) → CanCheckIn held S room scope a
  can-domain h = can-same room _ h (omega arith) (scoped-pi h.term).0

  pub can-codomain : (outer : Bor (Scope I)) (a : I) (b : Term) → IsTrue (held.live a) → CanCheckIn held S (room + 1) outer.now (Pi (held.tree a) b)
      → CanCheckIn held S room (Under a outer) b
  can-codomain outer a b live h = let p = scoped-pi h.term in can-under outer room a b h (omega arith) live p.0 p.1

  pub can-argument_type : {scope : Scope I} {a b : Term} → CanCheckIn held S (room + 1) scope (Lam a b) → CanCheckIn held S room scope a
  can-argument_type h = can-same room _ h (omega arith) (scoped-lam h.term).0

  pub can-body : (outer : Bor (Scope I)) (a : I) (b : Term) → IsTrue (held.live a) → CanCheckIn held S (room + 1) outer.now (Lam (held.tree a) b)
      → CanCheckIn held S room (Under a outer) b
  can-body outer a b live h = let p = scoped-lam h.term in can-under outer room a b h (omega arith) live p.0 p.1

  pub can-function : {scope : Scope I} {f u : Term} → CanCheckIn held S (room + 1) scope (App f u) → CanCheckIn held S room scope f
  can-function h = can-same room _ h (omega arith) (scoped-app h.term).0

  pub can-value_type : {scope : Scope I} {a v b : Term} → CanCheckIn held S (room + 1) scope (Let a v b) → CanCheckIn held S room scope a
  can-value_type h = can-same room _ h (omega arith) (scoped-let h.term).0

  pub can-value : {scope : Scope I} {a v b : Term} → CanCheckIn held S (room + 1) scope (Let a v b) → CanCheckIn held S room scope v
  can-value h = can-same room _ h (omega arith) (scoped-let h.term).1

  -- the body of a `let`, with the value in the variable's place
  pub can-rest : {scope : Scope I} {a v b : Term} → CanCheckIn held S (room + 1) scope (Let a v b) → CanCheckIn held S room scope (put b 0 v)
  can-rest {scope} {a} {v} {b} h =
      let p = scoped-let h.term in
      can-same room (put b 0 v) h (omega arith) (subst-scoped S (length (scope_in held.tree scope)) 0 b v (omega arith) p.2 p.1)

  -- its variables are few enough to be put under binders
  pub can-indices : {scope : Scope I} {t : Term} → CanCheckIn held S room scope t → free_of t ≤ most_free
  can-indices h = let free = h.term.variables in omega (arith, free, h.few)

  pub can-inner : {scope : Scope I} {t : Term} → CanCheckIn held S room scope t → free_of t ≤ most_inner_variables
  can-inner h = let free = h.term.variables in omega (arith, free, h.few)

  -- it can be reduced, and compared
  pub can-reduce : {scope : Scope I} {t : Term} → CanCheckIn held S room scope t → CanReduce S (t ∷ [])
  can-reduce {scope} {t} h =
      record { signature = h.signature; terms = (scoped_over_more S (length (scope_in held.tree scope)) most_variables t (omega (arith, h.few)) h.term, tt) }

  pub can-compare : {scope : Scope I} {t u : Term} → CanCheckIn held S room scope t → CanCheckIn held S room scope u → CanReduce S (t ∷ u ∷ [])
  can-compare h k = record { signature = h.signature; terms = ((can-reduce h).terms.0, ((can-reduce k).terms.0, tt)) }

-- ---- answers

-- a type that is answered is scoped
yes-scoped : (S : Signature) (n : ℕ) (r : Spent Verdict) (c : Term) (left : ℕ) → answered (Ok (Yes c)) left ≡ r → IfOk r.0 (IsScopedVerdict S n) → IsScoped S n c
yes-scoped S n r c left e h = transport (λ x. IfOk x.0 (IsScopedVerdict S n)) (sym e) h

-- a Yes after a child is the child's
pub behind-yes : (child : ℕ) (r : Spent Verdict) (c : Term) (left : ℕ) → answered (Ok (Yes c)) left ≡ behind child r → answered (Ok (Yes c)) left ≡ r
behind-yes child r c left e = by_case r.0 r.1 e
  where
    by_case : (first : Result Verdict Stop) (rest : ℕ) → answered (Ok (Yes c)) left ≡ behind child (answered first rest) → answered (Ok (Yes c)) left ≡ answered first rest
    by_case (Ok (Yes d)) rest k = k
    by_case (Ok (No denial)) rest k = absurd (grind (arith, k))
    by_case (Err stop) rest k = absurd (grind (arith, k))

module _ {I : Type 0} {held : Held I} {S : Signature} {room : ℕ} {scope : Scope I} {t : Term} (h : CanCheckIn held S room scope t) where
  -- of an inferred type
  pub can-inferred : (at l left : ℕ) (c : Term) → answered (Ok (Yes c)) left ≡ infer_of S at (scope_in held.tree scope) t l → CanCheckIn held S room scope c
  can-inferred at l left c e =
      can-same room c h (omega arith)
      (yes-scoped S (length (scope_in held.tree scope)) (infer_of S at (scope_in held.tree scope) t l) c left e
      (infer-scoped S at (scope_in held.tree scope) t l h.signature h.context h.term))

  -- of the product that is a function's type
  pub can-product : (at l left : ℕ) (c : Term) → answered (Ok (Yes c)) left ≡ product_of S (infer_sort_of S at) (scope_in held.tree scope) t l → CanCheckIn held S room scope c
  can-product at l left c e =
      can-same room c h (omega arith)
      (yes-scoped S (length (scope_in held.tree scope)) (product_of S (infer_sort_of S at) (scope_in held.tree scope) t l) c left e
      (product_of-scoped S at (scope_in held.tree scope) t l h.signature h.context h.term))
