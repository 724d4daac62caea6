-- Additions of normalisation to a store, from those of its parts.
use Rattle.std.proofs.Common.{◌≡◌, Bool, None, [], ◌∷◌, Result, subst as transport}
use Rattle.theory.specs.Terms.{Term}
use Rattle.theory.specs.Signatures.{Signature}
use Rattle.core_terms.specs.declared.stop.Stop.{Stop}
use Rattle.kernel_reduce.specs.Steps.{step_of}
use Rattle.term_pool.specs.Held.{Held}
use Rattle.store_reduce.specs.Additions.{AddsOnly, LacksOne, IsFullOf}
use Rattle.store_reduce.specs.Formed.{Reaches, IsPartOnTheWay, IsNormalPart}
use Rattle.store_reduce.specs.Formed.IsFormed.{child}
use Rattle.store_reduce.specs.Formers.{form_of}
use Rattle.store_reduce.specs.declared.form.Former.{Former}
use Rattle.store_reduce.proofs.ComparedParts.{first-child, second-child}
use Rattle.store_reduce.proofs.FormedParts.{AreFormed, first-formed, reached-formed, normal-way-adds, normal-way-lacks, normal-within-adds, normal-within-lacks, normal-within-full}

module _ (S : Signature) (delta : Bool) where
  reached : (t u : Term) → Reaches S delta t u → AreFormed S delta (t ∷ []) (u ∷ [])
  reached t u r = (reached-formed S delta (t ∷ []) t u (first-formed S delta t []) r, tt)

  module _ {I : Type 0} (old new : Held I) where
    -- the head reduction
    pub head-adds : (t : Term) → AddsOnly (IsPartOnTheWay S delta t) old new → AddsOnly (IsNormalPart S delta (t ∷ [])) old new
    head-adds t h = normal-way-adds S delta (t ∷ []) old new t (first-formed S delta t []) h

    -- the normalisation of the head form
    pub form-adds : (t u : Term) → Reaches S delta t u → AddsOnly (IsNormalPart S delta (u ∷ [])) old new → AddsOnly (IsNormalPart S delta (t ∷ [])) old new
    form-adds t u r h = normal-within-adds S delta (t ∷ []) old new (u ∷ []) (reached t u r) h

  module _ {I : Type 0} (held : Held I) where
    pub head-lacks : (t : Term) → LacksOne (IsPartOnTheWay S delta t) held → LacksOne (IsNormalPart S delta (t ∷ [])) held
    head-lacks t h = normal-way-lacks S delta (t ∷ []) held t (first-formed S delta t []) h

  pub form-full : {I A : Type 0} (held : Held I) (result : Result A Stop) (t u : Term) → Reaches S delta t u → IsFullOf (IsNormalPart S delta (u ∷ [])) held result
      → IsFullOf (IsNormalPart S delta (t ∷ [])) held result
  form-full held result t u r h = normal-within-full S delta (t ∷ []) held result (u ∷ []) (reached t u r) h

  -- the normalisation of the children of a term that takes no step
  module _ (former : Former) (a b : Term) (rests : step_of S delta (form_of former a b) ≡ None) where
    first-child_formed : AreFormed S delta (form_of former a b ∷ []) (a ∷ [])
    first-child_formed = (child (first-formed S delta (form_of former a b) []) rests (first-child former a b), tt)

    second-child_formed : AreFormed S delta (form_of former a b ∷ []) (b ∷ [])
    second-child_formed = (child (first-formed S delta (form_of former a b) []) rests (second-child former a b), tt)

    pub first_child-adds : {I : Type 0} (old new : Held I) → AddsOnly (IsNormalPart S delta (a ∷ [])) old new → AddsOnly (IsNormalPart S delta (form_of former a b ∷ [])) old new
    first_child-adds old new h = normal-within-adds S delta (form_of former a b ∷ []) old new (a ∷ []) first-child_formed h

    pub second_child-adds : {I : Type 0} (old new : Held I) → AddsOnly (IsNormalPart S delta (b ∷ [])) old new → AddsOnly (IsNormalPart S delta (form_of former a b ∷ [])) old new
    second_child-adds old new h = normal-within-adds S delta (form_of former a b ∷ []) old new (b ∷ []) second-child_formed h

    pub first_child-lacks : {I : Type 0} (held : Held I) → LacksOne (IsNormalPart S delta (a ∷ [])) held → LacksOne (IsNormalPart S delta (form_of former a b ∷ [])) held
    first_child-lacks held h = normal-within-lacks S delta (form_of former a b ∷ []) held (a ∷ []) first-child_formed h

    pub second_child-lacks : {I : Type 0} (held : Held I) → LacksOne (IsNormalPart S delta (b ∷ [])) held → LacksOne (IsNormalPart S delta (form_of former a b ∷ [])) held
    second_child-lacks held h = normal-within-lacks S delta (form_of former a b ∷ []) held (b ∷ []) second-child_formed h

    -- where its tree was the same before
    pub second_child_then-lacks : {I : Type 0} (held : Held I) (before : Term) → LacksOne (IsNormalPart S delta (before ∷ [])) held → before ≡ b
        → LacksOne (IsNormalPart S delta (form_of former a b ∷ [])) held
    second_child_then-lacks held before h same = second_child-lacks held (transport (λ x. LacksOne (IsNormalPart S delta (x ∷ [])) held) same h)

pub ruleset normal_laws = (head-adds, head-lacks, first_child-adds, first_child-lacks, second_child_then-lacks)
