-- A turn of a term that goes on with a turn of one that is on its way.
use Rattle.std.proofs.Common.{◌≡◌, ℕ, ◌<◌, ◌≤◌, Bool, Result, Ok, Err, subst as transport, arith}
use Rattle.theory.specs.Terms.{Term}
use Rattle.theory.specs.Signatures.{Signature}
use Rattle.core_terms.specs.Answers.{Spent}
use Rattle.core_terms.specs.declared.stop.Stop.{Stop}
use Rattle.term_pool.specs.Held.{Held, Extends}
use Rattle.store_reduce.specs.Additions.{AddsOnly, IsFullOf}
use Rattle.store_reduce.specs.Formed.{Reaches, IsPartOnTheWay}
use Rattle.store_reduce.specs.Forms.{TurnsIn, IfGoes}
use Rattle.store_reduce.specs.declared.form.Turn.{Turn}
use Rattle.store_reduce.specs.declared.form.Turn.TheVariants.{Rests, Goes}
use Rattle.store_reduce.proofs.Adding.{adds-then}
use Rattle.store_reduce.proofs.PlaceLaws.{after}
use Rattle.store_reduce.proofs.Ways.{reached-adds, reached-lacks}

module _ {I : Type 0} (result : Result (Turn I) Stop) where
  pub turns-as : (tree : I → Term) (next : ℕ → Term → Spent Term) (left : ℕ) (a b : Spent Term) → a ≡ b → TurnsIn tree next result left a → TurnsIn tree next result left b
  turns-as tree next left a b e h = transport (TurnsIn tree next result left) e h

  pub goes-reached : (S : Signature) (delta : Bool) (tree : I → Term) (t u : Term) → Reaches S delta t u → IfGoes result (λ id. Reaches S delta u (tree id)) → IfGoes result (λ id. Reaches S delta t (tree id))
  goes-reached S delta tree t u r h = by_case result h
    where
      by_case : (a : Result (Turn I) Stop) → IfGoes a (λ id. Reaches S delta u (tree id)) → IfGoes a (λ id. Reaches S delta t (tree id))
      by_case (Ok (Goes id)) q = after S delta t u (tree id) r q
      by_case (Ok (Rests f)) q = tt
      by_case (Err e) q = tt

  pub goes-less : (old mid new : ℕ) → mid ≤ old → IfGoes result (λ id. new < mid) → IfGoes result (λ id. new < old)
  goes-less old mid new low h = by_case result h
    where
      by_case : (a : Result (Turn I) Stop) → IfGoes a (λ id. new < mid) → IfGoes a (λ id. new < old)
      by_case (Ok (Goes id)) q = omega arith
      by_case (Ok (Rests f)) q = tt
      by_case (Err e) q = tt

  pub full-reached : (S : Signature) (delta : Bool) (held : Held I) (t u : Term) → Reaches S delta t u → IsFullOf (IsPartOnTheWay S delta u) held result → IsFullOf (IsPartOnTheWay S delta t) held result
  full-reached S delta held t u r h = by_case result h
    where
      by_case : (a : Result (Turn I) Stop) → IsFullOf (IsPartOnTheWay S delta u) held a → IsFullOf (IsPartOnTheWay S delta t) held a
      by_case (Ok x) q = tt
      by_case (Err e) q = λ is. reached-lacks S delta t held u r (q is)

-- what both calls add is on the way
pub adds-reached : {I : Type 0} (S : Signature) (delta : Bool) (old mid new : Held I) (t u : Term) → AddsOnly (IsPartOnTheWay S delta t) old mid → Extends mid new → Reaches S delta t u
    → AddsOnly (IsPartOnTheWay S delta u) mid new → AddsOnly (IsPartOnTheWay S delta t) old new
adds-reached S delta old mid new t u a e r b =
    adds-then (IsPartOnTheWay S delta t) old mid new a e (reached-adds S delta t mid new u r b)
