-- Additions of comparison to a store, from those of its parts.
use Rattle.std.proofs.Common.{◌≡◌, Bool, None, inl, inr, List, [], ◌∷◌, Result, refl, sym, subst as transport}
use Rattle.theory.specs.Terms.{Term}
use Rattle.theory.specs.Signatures.{Signature}
use Rattle.core_terms.specs.declared.stop.Stop.{Stop}
use Rattle.kernel_reduce.specs.Steps.{step_of}
use Rattle.term_pool.specs.Held.{Held}
use Rattle.store_reduce.specs.Additions.{AddsOnly, LacksOne, IsFullOf}
use Rattle.store_reduce.specs.Formed.{Reaches, IsPartOnTheWay, IsChild, IsFormedPart}
use Rattle.store_reduce.specs.Formed.IsFormed.{child}
use Rattle.store_reduce.specs.Formers.{form_of}
use Rattle.store_reduce.specs.declared.form.Former.{Former}
use Rattle.store_reduce.specs.declared.form.Former.TheVariants.{Pi, Lam, App}
use Rattle.store_reduce.proofs.FormedParts.{AreFormed, first-formed, second-formed, third-formed, fourth-formed, reached-formed, way-adds, way-lacks, within-adds, within-lacks, within-full}

pub first-child : (former : Former) (x y : Term) → IsChild x (form_of former x y)
first-child Pi x y = inl refl
first-child Lam x y = inl refl
first-child App x y = inl refl

pub second-child : (former : Former) (x y : Term) → IsChild y (form_of former x y)
second-child Pi x y = inr refl
second-child Lam x y = inr refl
second-child App x y = inr refl

module _ (S : Signature) (delta : Bool) where
  -- the children of two terms of the same form that take no step
  pub children-formed : (former : Former) (a b x y z w : Term) → a ≡ form_of former x y → b ≡ form_of former z w → step_of S delta a ≡ None → step_of S delta b ≡ None
      → AreFormed S delta (a ∷ b ∷ []) (x ∷ y ∷ z ∷ w ∷ [])
  children-formed former a b x y z w ea eb ra rb =
      let fa = first-formed S delta a (b ∷ []) in
      let fb = second-formed S delta a b [] in (
        child fa ra (transport (IsChild x) (sym ea) (first-child former x y)),
        (
          child fa ra (transport (IsChild y) (sym ea) (second-child former x y)),
          (
            child fb rb (transport (IsChild z) (sym eb) (first-child former z w)),
            (child fb rb (transport (IsChild w) (sym eb) (second-child former z w)), tt),
          ),
        ),
      )

  module _ {I : Type 0} (old new : Held I) where
    -- the head reduction of the first term, and of the second one
    pub first-adds : (a : Term) (rest : List Term) → AddsOnly (IsPartOnTheWay S delta a) old new → AddsOnly (IsFormedPart S delta (a ∷ rest)) old new
    first-adds a rest h = way-adds S delta (a ∷ rest) old new a (first-formed S delta a rest) h

    pub second-adds : (a b : Term) (rest : List Term) → AddsOnly (IsPartOnTheWay S delta b) old new → AddsOnly (IsFormedPart S delta (a ∷ b ∷ rest)) old new
    second-adds a b rest h = way-adds S delta (a ∷ b ∷ rest) old new b (second-formed S delta a b rest) h

    -- the comparison of their head forms
    pub heads-add : (a b u v : Term) → Reaches S delta a u → Reaches S delta b v → AddsOnly (IsFormedPart S delta (u ∷ v ∷ [])) old new → AddsOnly (IsFormedPart S delta (a ∷ b ∷ [])) old new
    heads-add a b u v ra rb h =
        within-adds S delta (a ∷ b ∷ []) old new (u ∷ v ∷ [])
        (reached-formed S delta (a ∷ b ∷ []) a u (first-formed S delta a (b ∷ [])) ra, (reached-formed S delta (a ∷ b ∷ []) b v (second-formed S delta a b []) rb, tt)) h

    -- the comparison of the first children, and of the second ones
    pub first_pair-adds : (a b c d : Term) → AddsOnly (IsFormedPart S delta (a ∷ c ∷ [])) old new → AddsOnly (IsFormedPart S delta (a ∷ b ∷ c ∷ d ∷ [])) old new
    first_pair-adds a b c d h =
        within-adds S delta (a ∷ b ∷ c ∷ d ∷ []) old new (a ∷ c ∷ []) (first-formed S delta a (b ∷ c ∷ d ∷ []), (third-formed S delta a b c (d ∷ []), tt)) h

    pub second_pair-adds : (a b c d : Term) → AddsOnly (IsFormedPart S delta (b ∷ d ∷ [])) old new → AddsOnly (IsFormedPart S delta (a ∷ b ∷ c ∷ d ∷ [])) old new
    second_pair-adds a b c d h =
        within-adds S delta (a ∷ b ∷ c ∷ d ∷ []) old new (b ∷ d ∷ []) (second-formed S delta a b (c ∷ d ∷ []), (fourth-formed S delta a b c d [], tt)) h

  module _ {I : Type 0} (held : Held I) where
    pub first-lacks : (a : Term) (rest : List Term) → LacksOne (IsPartOnTheWay S delta a) held → LacksOne (IsFormedPart S delta (a ∷ rest)) held
    first-lacks a rest h = way-lacks S delta (a ∷ rest) held a (first-formed S delta a rest) h

    pub second-lacks : (a b : Term) (rest : List Term) → LacksOne (IsPartOnTheWay S delta b) held → LacksOne (IsFormedPart S delta (a ∷ b ∷ rest)) held
    second-lacks a b rest h = way-lacks S delta (a ∷ b ∷ rest) held b (second-formed S delta a b rest) h

    pub first_pair-lacks : (a b c d : Term) → LacksOne (IsFormedPart S delta (a ∷ c ∷ [])) held → LacksOne (IsFormedPart S delta (a ∷ b ∷ c ∷ d ∷ [])) held
    first_pair-lacks a b c d h =
        within-lacks S delta (a ∷ b ∷ c ∷ d ∷ []) held (a ∷ c ∷ []) (first-formed S delta a (b ∷ c ∷ d ∷ []), (third-formed S delta a b c (d ∷ []), tt)) h

  module _ {I A : Type 0} (held : Held I) (result : Result A Stop) where
    pub heads-full : (a b u v : Term) → Reaches S delta a u → Reaches S delta b v → IsFullOf (IsFormedPart S delta (u ∷ v ∷ [])) held result → IsFullOf (IsFormedPart S delta (a ∷ b ∷ [])) held result
    heads-full a b u v ra rb h =
        within-full S delta (a ∷ b ∷ []) held result (u ∷ v ∷ [])
        (reached-formed S delta (a ∷ b ∷ []) a u (first-formed S delta a (b ∷ [])) ra, (reached-formed S delta (a ∷ b ∷ []) b v (second-formed S delta a b []) rb, tt)) h

    pub second_pair-full : (a b c d : Term) → IsFullOf (IsFormedPart S delta (b ∷ d ∷ [])) held result → IsFullOf (IsFormedPart S delta (a ∷ b ∷ c ∷ d ∷ [])) held result
    second_pair-full a b c d h =
        within-full S delta (a ∷ b ∷ c ∷ d ∷ []) held result (b ∷ d ∷ []) (second-formed S delta a b (c ∷ d ∷ []), (fourth-formed S delta a b c d [], tt)) h

pub ruleset formed_laws = (first-adds, second-adds, first_pair-adds, first-lacks, second-lacks, first_pair-lacks)
