-- Values in lists that are cut and put together.
use Rattle.std.proofs.Common.{◌≡◌, ℕ, ◌+◌, ◌-◌, ◌<◌, ◌≤◌, IsTrue, List, [], ◌++◌, length, map, take, drop, get_or, sym, ap, ap₂, ◌∙◌, subst as transport, arith}
use Rattle.std.proofs.lemmas.List.{length-drop, length-map, map-append, take-map, drop-map, get_or-map}
use Rattle.std.proofs.lemmas.List.Elements.{All-append, All-take, All-drop}
use Rattle.std.proofs.Math.Seq.{take-length}
use Rattle.theory.specs.Terms.{Term, free_of}
use Rattle.theory.specs.Terms.Term.{Sort, Pi}
use Rattle.theory.specs.Spines.{spine_of}
use Rattle.theory.specs.Telescopes.{applied}
use Rattle.core_sig.specs.declared.family.Arg.{Arg}
use Rattle.kernel_reduce.specs.Calls.{hypothesis_before, hypothesis_of, hypotheses_of}
use Rattle.kernel_reduce.proofs.Contractions.{spine-free}
use Rattle.term_pool.specs.Held.{Held, Extends}
use Rattle.term_pool.specs.Instantiation.{AreValues, trees_of}
use Rattle.term_pool.proofs.Instancing.{trees-kept, values-kept}
use Rattle.store_reduce.specs.Arguments.{AreLive, IsOver}
use Rattle.store_reduce.proofs.CallLaws.{with-first}

pub rest-is : {A : Type 0} (n : ℕ) (xs : List A) → take (length xs - n) (drop n xs) ≡ drop n xs
rest-is n xs = ap (λ k. take k (drop n xs)) (sym (length-drop n xs)) ∙ take-length (drop n xs)

module _ {I : Type 0} (held : Held I) where
  pub trees-first : (n : ℕ) (ids : List I) → trees_of held (take n ids) ≡ take n (trees_of held ids)
  unfolding trees_of
  trees-first n ids = sym (take-map held.tree n ids)

  pub trees-behind : (n : ℕ) (ids : List I) → trees_of held (take (length ids - n) (drop n ids)) ≡ drop n (trees_of held ids)
  unfolding trees_of
  trees-behind n ids = ap (map held.tree) (rest-is n ids) ∙ sym (drop-map held.tree n ids)

  pub trees-joined : (n : ℕ) (args us : List I) → trees_of held (take n args ++ drop n us) ≡ take n (trees_of held args) ++ drop n (trees_of held us)
  unfolding trees_of
  trees-joined n args us =
      map-append held.tree (take n args) (drop n us) ∙ ap₂ ◌++◌ (sym (take-map held.tree n args)) (sym (drop-map held.tree n us))

  pub tree-among : (ids : List I) (k : ℕ) (id : I) (d : Term) → k < length ids → id ≡ get_or ids k id → held.tree id ≡ get_or (trees_of held ids) k d
  unfolding trees_of
  tree-among ids k id d less is = sym (get_or-map held.tree ids k id d less ∙ ap held.tree (sym is))

  pub live-among : (ids : List I) (k : ℕ) (id : I) → k < length ids → id ≡ get_or ids k id → AreLive held ids → IsTrue (held.live id)
  live-among ids k id less is live = transport (λ v. IsTrue (held.live v)) (sym is) (live.each k id less)

  pub value-live : (ids : List I) (k : ℕ) (id : I) → k < length ids → id ≡ get_or ids k id → AreValues held ids → IsTrue (held.live id)
  value-live ids k id less is v = transport (λ u. IsTrue (held.live u)) (sym is) (v.live k id less)

  pub value-free : (ids : List I) (k : ℕ) (id : I) → k < length ids → id ≡ get_or ids k id → AreValues held ids → free_of (held.tree id) ≤ 3221225472
  value-free ids k id less is v = transport (λ u. free_of (held.tree u) ≤ 3221225472) (sym is) (v.free k id less)

  pub values-live : (ids : List I) → AreValues held ids → AreLive held ids
  values-live ids v = record { each = v.live }

  pub live-behind : (n : ℕ) (ids : List I) → AreLive held ids → AreLive held (take (length ids - n) (drop n ids))
  live-behind n ids live = transport (AreLive held) (sym (rest-is n ids)) (record { each = All-drop (λ v. IsTrue (held.live v)) n ids live.each })

  pub values-first : (n : ℕ) (ids : List I) → AreValues held ids → AreValues held (take n ids)
  values-first n ids v =
      record {
        live = All-take (λ u. IsTrue (held.live u)) n ids v.live;
        free = All-take (λ u. free_of (held.tree u) ≤ 3221225472) n ids v.free;
      }

  pub values-joined : (n : ℕ) (args us : List I) → AreValues held args → AreValues held us → AreValues held (take n args ++ drop n us)
  values-joined n args us v w =
      record {
        live = All-append (λ u. IsTrue (held.live u)) (take n args) (drop n us) (All-take (λ u. IsTrue (held.live u)) n args v.live)
            (All-drop (λ u. IsTrue (held.live u)) n us w.live);
        free = All-append (λ u. free_of (held.tree u) ≤ 3221225472) (take n args) (drop n us) (All-take (λ u. free_of (held.tree u) ≤ 3221225472) n args v.free)
            (All-drop (λ u. free_of (held.tree u) ≤ 3221225472) n us w.free);
      }

  -- the hypothesis for a value, in the environment of those before it
  pub hypothesis-values : (ids : List I) (p : ℕ) (recursor : Term) (known : ℕ) (r : I) (inner : ℕ) (t : Term) → known < length ids → r ≡ get_or ids known r
      → hypothesis_of (trees_of held (take known ids)) p recursor (held.tree r) inner 0 t
      ≡ hypothesis_of (take known (trees_of held ids)) p recursor (get_or (trees_of held ids) known (Sort 0)) inner 0 t
  hypothesis-values ids p recursor known r inner t less is =
      ap₂ (λ us u. hypothesis_of us p recursor u inner 0 t) (trees-first known ids) (tree-among ids known r (Sort 0) less is)

  -- the method at the arguments of a constructor after its parameters
  pub method-values : (args us : List I) (at p : ℕ) (id : I) → at < length args → id ≡ get_or args at id
      → applied (held.tree id) (trees_of held (take (length us - p) (drop p us))) ≡ applied (get_or (trees_of held args) at (Sort 0)) (drop p (trees_of held us))
  method-values args us at p id less is = ap₂ applied (tree-among args at id (Sort 0) less is) (trees-behind p us)

  pub trees-count : (ids : List I) → length (trees_of held ids) ≡ length ids
  unfolding trees_of
  trees-count ids = length-map ids held.tree

  -- the arguments of a term with few free variables are values
  pub arguments-values : (ids : List I) (t : Term) → AreLive held ids → trees_of held ids ≡ spine_of t → free_of t ≤ 3221225472 → AreValues held ids
  unfolding trees_of
  arguments-values ids t live is free =
      record {
        live = live.each;
        free = λ k d less.
            transport (λ x. free_of x ≤ 3221225472) (get_or-map held.tree ids k d (held.tree d) less)
            (spine-free 3221225472 t (map held.tree ids) is free k (held.tree d) (omega (arith, length-map ids held.tree)));
      }

module _ {I : Type 0} (old new : Held I) (e : Extends old new) (args us values : List I) (p : ℕ) (v : AreValues old args) (w : AreValues old us)
    (is : values ≡ take p args ++ drop p us) where
  -- the values of iota go on to be values
  pub joined-kept : AreValues new values
  joined-kept = transport (AreValues new) (sym is) (values-kept old new (take p args ++ drop p us) e (values-joined old p args us v w))

  -- and a term goes on to be applied to the hypotheses for them
  pub iota-values : (recursor whole : I) (meant : Term) (codes : List Arg) → IsTrue (old.live recursor) → new.tree whole ≡ meant
      → applied (new.tree whole) (hypotheses_of (trees_of new values) p (new.tree recursor) p codes)
      ≡ applied meant (hypotheses_of (take p (trees_of old args) ++ drop p (trees_of old us)) p (old.tree recursor) p codes)
  iota-values recursor whole meant codes live made =
      let same = ap (trees_of new) is ∙ (trees-kept old new (take p args ++ drop p us) e (values-joined old p args us v w) ∙ trees-joined old p args us) in
      ap₂ applied made (ap₂ (λ vs r. hypotheses_of vs p r p codes) same (e.trees recursor live))

-- with the hypothesis for the first argument, in a store that has grown, a term goes on to be applied to those for the rest
pub with-kept : {I : Type 0} (old new : Held I) (ids : List I) (p : ℕ) (recursor whole : I) (known : ℕ) (args : List Arg) (a : Arg) (t b c meant : Term)
    → Extends old new → AreValues old ids → IsTrue (old.live recursor) → 1 ≤ length args → a ≡ get_or args 0 a → IsOver args t → t ≡ Pi b c
    → new.tree whole ≡ applied meant (hypothesis_before (trees_of old ids) p (old.tree recursor) known b a.kind [])
    → applied (new.tree whole) (hypotheses_of (trees_of new ids) p (new.tree recursor) (known + 1) (take (length args - 1) (drop 1 args)))
    ≡ applied meant (hypotheses_of (trees_of old ids) p (old.tree recursor) known args)
with-kept old new ids p recursor whole known args a t b c meant e v live some is over product made =
    ap₂ applied made
    (ap₂ (λ vs r. hypotheses_of vs p r (known + 1) (take (length args - 1) (drop 1 args))) (trees-kept old new ids e v) (e.trees recursor live))
    ∙ with-first (trees_of old ids) p (old.tree recursor) known args a b c meant some is (transport (IsOver args) product over)

pub ruleset rest_laws = (rest-is)
