-- Parts of the terms that comparison and normalisation form, from those of other terms.
use Rattle.std.proofs.Common.{◌≡◌, ℕ, zero, suc, ◌<◌, Bool, inl, inr, List, [], ◌∷◌, length, slice_index_or, Result, Ok, Err, refl, sym, subst as transport, arith}
use Rattle.theory.specs.Terms.{Term}
use Rattle.theory.specs.Signatures.{Signature}
use Rattle.core_terms.specs.declared.stop.Stop.{Stop}
use Rattle.term_pool.specs.Held.{Held}
use Rattle.store_reduce.specs.Additions.{AddsOnly, LacksOne, IsFullOf}
use Rattle.store_reduce.specs.Formed.{Reaches, IsPartOnTheWay, IsFormed, IsFormedPart, IsNormalPart}
use Rattle.store_reduce.specs.Formed.Reaches.{none, more}
use Rattle.store_reduce.specs.Formed.IsFormed.{given, step, child}
use Rattle.store_reduce.proofs.Adding.{adds-more, lacks-more}

-- the first of the given terms, and the second
pub first-formed : (S : Signature) (delta : Bool) (a : Term) (rest : List Term) → IsFormed S delta (a ∷ rest) a
first-formed S delta a rest = given (0, (omega arith, refl))

pub second-formed : (S : Signature) (delta : Bool) (a b : Term) (rest : List Term) → IsFormed S delta (a ∷ b ∷ rest) b
second-formed S delta a b rest = given (1, (omega arith, refl))

pub third-formed : (S : Signature) (delta : Bool) (a b c : Term) (rest : List Term) → IsFormed S delta (a ∷ b ∷ c ∷ rest) c
third-formed S delta a b c rest = given (2, (omega arith, refl))

pub fourth-formed : (S : Signature) (delta : Bool) (a b c d : Term) (rest : List Term) → IsFormed S delta (a ∷ b ∷ c ∷ d ∷ rest) d
fourth-formed S delta a b c d rest = given (3, (omega arith, refl))

-- each of the terms is formed from the given ones
abbrev pub AreFormed : Signature → Bool → List Term → List Term → Type 0
AreFormed S delta hs [] = Unit {0}
AreFormed S delta hs (t ∷ ts) = IsFormed S delta hs t × AreFormed S delta hs ts

module _ (S : Signature) (delta : Bool) (hs : List Term) where
  among-formed : (gs : List Term) → AreFormed S delta hs gs → (i : ℕ) (t : Term) → i < length gs → t ≡ slice_index_or gs i t → IsFormed S delta hs t
  among-formed [] all i t low e = absurd (omega arith)
  among-formed (g ∷ gs) all zero t low e = transport (IsFormed S delta hs) (sym e) all.0
  among-formed (g ∷ gs) all (suc i) t low e = among-formed gs all.1 i t (omega arith) e

  -- head steps of a formed term lead to formed terms
  pub reached-formed : (t u : Term) → IsFormed S delta hs t → Reaches S delta t u → IsFormed S delta hs u
  reached-formed t u h none = h
  reached-formed t u h (more r e) = step (reached-formed t _ h r) e

  -- a term formed from formed ones is formed
  within-formed : (gs : List Term) → AreFormed S delta hs gs → (t : Term) → IsFormed S delta gs t → IsFormed S delta hs t
  within-formed gs all t (given among) = among-formed gs all among.0 t among.1.0 among.1.1
  within-formed gs all t (step h e) = step (within-formed gs all _ h) e
  within-formed gs all t (child h e c) = child (within-formed gs all _ h) e c

  way-part : (t x : Term) → IsFormed S delta hs t → IsPartOnTheWay S delta t x → IsFormedPart S delta hs x
  way-part t x h w = record { whole = w.whole; formed = reached-formed t w.whole h w.reached; part = w.part }

  within-part : (gs : List Term) → AreFormed S delta hs gs → (x : Term) → IsFormedPart S delta gs x → IsFormedPart S delta hs x
  within-part gs all x p = record { whole = p.whole; formed = within-formed gs all p.whole p.formed; part = p.part }

  within-normal : (gs : List Term) → AreFormed S delta hs gs → (x : Term) → IsNormalPart S delta gs x → IsNormalPart S delta hs x
  within-normal gs all x (inl p) = inl (within-part gs all x p)
  within-normal gs all x (inr p) =
      inr (record { whole = p.whole; formed = within-formed gs all p.whole p.formed; form = p.form; room = p.room; left = p.left; rest = p.rest; normal = p.normal; part = p.part })

  module _ {I : Type 0} (old new : Held I) where
    pub way-adds : (t : Term) → IsFormed S delta hs t → AddsOnly (IsPartOnTheWay S delta t) old new → AddsOnly (IsFormedPart S delta hs) old new
    way-adds t h a = adds-more (IsPartOnTheWay S delta t) (IsFormedPart S delta hs) old new (λ x w. way-part t x h w) a

    pub within-adds : (gs : List Term) → AreFormed S delta hs gs → AddsOnly (IsFormedPart S delta gs) old new → AddsOnly (IsFormedPart S delta hs) old new
    within-adds gs all a = adds-more (IsFormedPart S delta gs) (IsFormedPart S delta hs) old new (λ x p. within-part gs all x p) a

    pub normal-way-adds : (t : Term) → IsFormed S delta hs t → AddsOnly (IsPartOnTheWay S delta t) old new → AddsOnly (IsNormalPart S delta hs) old new
    normal-way-adds t h a = adds-more (IsPartOnTheWay S delta t) (IsNormalPart S delta hs) old new (λ x w. inl (way-part t x h w)) a

    pub normal-within-adds : (gs : List Term) → AreFormed S delta hs gs → AddsOnly (IsNormalPart S delta gs) old new → AddsOnly (IsNormalPart S delta hs) old new
    normal-within-adds gs all a = adds-more (IsNormalPart S delta gs) (IsNormalPart S delta hs) old new (λ x p. within-normal gs all x p) a

  module _ {I A : Type 0} (held : Held I) (result : Result A Stop) where
    full-as : (P Q : Term → Type 0) → ((x : Term) → P x → Q x) → IsFullOf P held result → IsFullOf Q held result
    full-as P Q f h = by_case result h
      where
        by_case : (r : Result A Stop) → IsFullOf P held r → IsFullOf Q held r
        by_case (Ok a) k = tt
        by_case (Err e) k = λ is. lacks-more P Q held f (k is)

    pub way-full : (t : Term) → IsFormed S delta hs t → IsFullOf (IsPartOnTheWay S delta t) held result → IsFullOf (IsFormedPart S delta hs) held result
    way-full t h k = full-as (IsPartOnTheWay S delta t) (IsFormedPart S delta hs) (λ x w. way-part t x h w) k

    pub within-full : (gs : List Term) → AreFormed S delta hs gs → IsFullOf (IsFormedPart S delta gs) held result → IsFullOf (IsFormedPart S delta hs) held result
    within-full gs all k = full-as (IsFormedPart S delta gs) (IsFormedPart S delta hs) (λ x p. within-part gs all x p) k

    pub normal-within-full : (gs : List Term) → AreFormed S delta hs gs → IsFullOf (IsNormalPart S delta gs) held result → IsFullOf (IsNormalPart S delta hs) held result
    normal-within-full gs all k = full-as (IsNormalPart S delta gs) (IsNormalPart S delta hs) (λ x p. within-normal gs all x p) k

  module _ {I : Type 0} (held : Held I) where
    pub way-lacks : (t : Term) → IsFormed S delta hs t → LacksOne (IsPartOnTheWay S delta t) held → LacksOne (IsFormedPart S delta hs) held
    way-lacks t h l = lacks-more (IsPartOnTheWay S delta t) (IsFormedPart S delta hs) held (λ x w. way-part t x h w) l

    pub within-lacks : (gs : List Term) → AreFormed S delta hs gs → LacksOne (IsFormedPart S delta gs) held → LacksOne (IsFormedPart S delta hs) held
    within-lacks gs all l = lacks-more (IsFormedPart S delta gs) (IsFormedPart S delta hs) held (λ x p. within-part gs all x p) l

    pub normal-way-lacks : (t : Term) → IsFormed S delta hs t → LacksOne (IsPartOnTheWay S delta t) held → LacksOne (IsNormalPart S delta hs) held
    normal-way-lacks t h l = lacks-more (IsPartOnTheWay S delta t) (IsNormalPart S delta hs) held (λ x w. inl (way-part t x h w)) l

    pub normal-within-lacks : (gs : List Term) → AreFormed S delta hs gs → LacksOne (IsNormalPart S delta gs) held → LacksOne (IsNormalPart S delta hs) held
    normal-within-lacks gs all l = lacks-more (IsNormalPart S delta gs) (IsNormalPart S delta hs) held (λ x p. within-normal gs all x p) l
