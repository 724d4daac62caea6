-- Instances over a store: values that stay, and variables that stand for them.
use Rattle.std.proofs.Common.{◌≡◌, ℕ, suc, ◌+◌, ◌-◌, ◌<◌, ◌≤◌, Bool, true, false, cond, nat_lt, List, [], ◌∷◌, IsTrue, Result, Ok, Err, length, map, get_or, refl, sym, ap, ap₂, ◌∙◌, subst as transport, arith}
use Rattle.std.proofs.lemmas.Bool.Decides.{nat_tests}
use Rattle.std.proofs.lemmas.List.{length-map, get_or-map}
use Rattle.std.proofs.lemmas.List.Elements.{All-tail}
use Rattle.std.specs.List.{All}
use Rattle.theory.specs.Terms.{Term, lift, free_of}
use Rattle.theory.specs.Terms.Term.{Var}
use Rattle.core_terms.specs.Instances.{under_binders, instance_with}
use Rattle.core_terms.proofs.Instances.{with-is_inst, with-none, under-low}
use Rattle.theory.specs.Substitutions.{extend, fill}
use Rattle.theory.proofs.Instantiation.{inst-scoped}
use Rattle.core_terms.specs.declared.stop.Stop.{Stop}
use Rattle.term_pool.specs.Held.{Held, Extends, Makes, MakesUnder}
use Rattle.term_pool.specs.Instantiation.{AreValues, KeepsValues, trees_of}

module _ {I : Type 0} where
  -- values stay values
  pub values-kept : (old new : Held I) (ids : List I) → Extends old new → AreValues old ids → AreValues new ids
  values-kept old new ids e v =
      record {
        live = λ k d less. e.lives (get_or ids k d) (v.live k d less);
        free = λ k d less. transport (λ t. free_of t ≤ 3221225472) (sym (e.trees (get_or ids k d) (v.live k d less))) (v.free k d less);
      }

  -- live ids keep their trees
  pub map-kept : (old new : Held I) (ids : List I) → Extends old new → All (λ v. IsTrue (old.live v)) ids → map new.tree ids ≡ map old.tree ids
  map-kept old new [] e h = refl
  map-kept old new (x ∷ ids) e h = ap₂ ◌∷◌ (e.trees x (h 0 x (omega arith))) (map-kept old new ids e (All-tail (λ v. IsTrue (old.live v)) x ids h))

  -- and so do values
  pub trees-kept : (old new : Held I) (ids : List I) → Extends old new → AreValues old ids → trees_of new ids ≡ trees_of old ids
  unfolding trees_of
  trees-kept old new ids e v = map-kept old new ids e v.live

  pub keeps-values : (old new : Held I) (ids : List I) → Extends old new → AreValues old ids → KeepsValues old new ids
  keeps-values old new ids e v = record { values = values-kept old new ids e v; trees = trees-kept old new ids e v }

-- a tree without variables beyond the binders stays as it is
pub instance-scoped : (s : ℕ → Term) (values : List Term) (under : ℕ) (t : Term) → free_of t ≤ under → instance_with s values under t ≡ t
instance-scoped s values under t h =
    with-is_inst s values under t
    ∙ inst-scoped (under_binders under (fill s values)) t under (λ i low. sym (under-low under i (fill s values) low)) h

fill-beyond : (s : ℕ → Term) (us : List Term) (v : ℕ) → length us ≤ v → fill s us v ≡ s (v - length us)
fill-beyond s [] v h = ap s (omega arith)
fill-beyond s (u ∷ us) v h =
    fill-beyond (extend s u) us v (omega arith)
    ∙ ap (extend s u) (let e : v - length us ≡ suc (v - length (u ∷ us)) = omega arith in e)

fill-among : (s : ℕ → Term) (us : List Term) (v : ℕ) (d : Term) → v < length us → fill s us v ≡ get_or us (length us - 1 - v) d
fill-among s [] v d h = absurd (omega arith)
fill-among s (u ∷ us) v d h = go (nat_lt v (length us)) refl (fill-among (extend s u) us v d)
  where
    go : (b : Bool) → nat_lt v (length us) ≡ b → (v < length us → fill (extend s u) us v ≡ get_or us (length us - 1 - v) d)
        → fill (extend s u) us v ≡ get_or (u ∷ us) (length (u ∷ us) - 1 - v) d
    go true e inner =
        let low : v < length us = grind (arith, nat_tests) in
        let place : suc (length us - 1 - v) ≡ length (u ∷ us) - 1 - v = omega arith in
        inner low ∙ ap (λ n. get_or (u ∷ us) n d) place
    go false e inner =
        let high : length us ≤ v = grind (arith, nat_tests) in
        let last : v - length us ≡ 0 = omega arith in
        let place : 0 ≡ length (u ∷ us) - 1 - v = omega arith in
        fill-beyond (extend s u) us v high ∙ (ap (extend s u) last ∙ ap (λ n. get_or (u ∷ us) n d) place)

module _ {I : Type 0} (s : ℕ → Term) where
  pub value-is : (held : Held I) (ids : List I) (under n : ℕ) (v : I) → under ≤ n → n - under < length ids → v ≡ get_or ids (length ids - 1 - (n - under)) v
      → lift (held.tree v) under 0 ≡ under_binders under (fill s (trees_of held ids)) n
  unfolding under_binders trees_of
  value-is held ids under n v high low e = go (nat_lt n under) refl
    where
      go : (b : Bool) → nat_lt n under ≡ b → lift (held.tree v) under 0 ≡ cond b (Var n) (lift (fill s (map held.tree ids) (n - under)) under 0)
      go true h = absurd (grind (arith, nat_tests))
      go false h =
          let count = length-map ids held.tree in
          ap (λ t. lift t under 0)
          (sym (fill-among s (map held.tree ids) (n - under) (held.tree v) (omega arith)
          ∙ (ap (λ k. get_or (map held.tree ids) (k - 1 - (n - under)) (held.tree v)) count
          ∙ (get_or-map held.tree ids (length ids - 1 - (n - under)) v (held.tree v) (omega arith) ∙ ap held.tree (sym e)))))

  pub value-beyond : (held : Held I) (ids : List I) (under n : ℕ) → under ≤ n → length ids ≤ n - under
      → lift (s (n - under - length ids)) under 0 ≡ under_binders under (fill s (trees_of held ids)) n
  unfolding under_binders trees_of
  value-beyond held ids under n high past = go (nat_lt n under) refl
    where
      go : (b : Bool) → nat_lt n under ≡ b → lift (s (n - under - length ids)) under 0 ≡ cond b (Var n) (lift (fill s (map held.tree ids) (n - under)) under 0)
      go true h = absurd (grind (arith, nat_tests))
      go false h =
          let count = length-map ids held.tree in
          ap (λ t. lift t under 0)
          (ap (λ k. s (n - under - k)) (sym count) ∙ sym (fill-beyond s (map held.tree ids) (n - under) (omega arith)))

-- a tree that is low enough, or is too high, is so under binders too
pub makes-under : {I : Type 0} (under : ℕ) (held : Held I) (result : Result I Stop) (meant : Term) → Makes held result meant → MakesUnder under held result meant
makes-under under held (Ok id) meant made = made
makes-under under held (Err e) meant made = λ memory full. let deep = made memory full in (deep.0, omega (arith, deep.1))

pub ruleset instance_laws = (values-kept, trees-kept)

pub ruleset value_laws = (keeps-values, under-low)

pub ruleset all_laws = (with-none)
