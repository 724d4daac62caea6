-- The order of recursion has each position once, and each type comes after all that it mentions.
use Rattle.std.proofs.Common.{◌≡◌, ◌≢◌, ℕ, zero, suc, ◌+◌, ◌<◌, Bool, true, false, ◌==◌, Option, Some, None, option_and_then, List, [], ◌∷◌, length, All, AllPairs, refl, sym, ◌∙◌, arith}
use Rattle.std.proofs.lemmas.Bool.{false≢true, or_left}
use Rattle.std.proofs.lemmas.Bool.Decides.{Decides-eqb}
use Rattle.std.proofs.lemmas.List.Elements.{All-nil, All-cons}
use Rattle.std.proofs.lemmas.List.Kept.{AllPairs-cons}
use Rattle.theory.specs.Signatures.{Signature}
use Rattle.theory.specs.Telescopes.{Telescope}
use Rattle.tele_eq.specs.Levels.{is_among}
use Rattle.unification.proofs.Levels.{among-later, each-among}
use Rattle.tree_translation.specs.structural_rec.Laws.{IsOrder, IsTelescopeOrder}
use Rattle.tree_translation.proofs.structural_rec.FixedPositions.{mentions-before}
use Rattle.tree_translation.proofs.structural_rec.AdmittingPositions.{admission-decides}
use Rattle.tree_translation.proofs.structural_rec.RecursionOrders.{Follows, follows-earlier, order-is-telescope}
use Rattle.tree_translation.specs.Recursion.{Recursion, recursion_at, order_of}
use Rattle.tree_translation.specs.Standings.{levels_from}
use Rattle.tree_translation.proofs.LevelLists.{each-below}
use Rattle.entry_laws.specs.order_scopes.Laws.{RecursionOrdered}
use Rattle.entry_laws.proofs.order_scopes.OrderLengths.{IsRecursion, of-position}

-- ---- without recursion

levels-above : (x at count : ℕ) → x < at → All (λ k. x ≢ k) (levels_from at count)
levels-above x at zero lt = All-nil (λ k. x ≢ k)
levels-above x at (suc count) lt =
    All-cons (λ k. x ≢ k) at (levels_from (at + 1) count) (λ same. omega arith) (levels-above x (at + 1) count (omega arith))

levels-once : (at count : ℕ) → AllPairs (λ i k. i ≢ k) (levels_from at count)
levels-once at zero = λ i k d lt within. absurd (omega arith)
levels-once at (suc count) =
    AllPairs-cons (λ i k. i ≢ k) at (levels_from (at + 1) count) (levels-above at (at + 1) count (omega arith)) (levels-once (at + 1) count)

levels-ordered : (count : ℕ) → IsOrder count (levels_from 0 count)
levels-ordered count = record {
  whole = λ i lt. each-among 0 count i (omega arith) (omega arith);
  within = λ i among. let low : i < 0 + count = each-below 0 count i among in omega arith;
  once = levels-once 0 count;
}

-- the levels from `at` on, where those below it are among the first
levels-follow : (tele : Telescope) (first : List ℕ) (at count : ℕ) → ((k : ℕ) → k < at → is_among k first ≡ true) → Follows tele first (levels_from at count)
levels-follow tele first at zero below = tt
levels-follow tele first at (suc count) below =
    (λ k m. below k (mentions-before tele at k m), levels-follow tele (at ∷ first) (at + 1) count (λ k lt. by k lt (at == k) refl))
  where
    by : (k : ℕ) → k < at + 1 → (b : Bool) → (at == k) ≡ b → is_among k (at ∷ first) ≡ true
    by k lt true e = or_left (at == k) (is_among k first) e
    by k lt false e =
        let other : at ≢ k = (λ same. false≢true (sym e ∙ (Decides-eqb at k).1 same)) in
        among-later k at first (below k (grind arith))

levels-telescope : (tele : Telescope) → IsTelescopeOrder tele (levels_from 0 (length tele))
levels-telescope tele = record {
  positions = levels-ordered (length tele);
  earlier = follows-earlier tele (levels_from 0 (length tele)) (levels-follow tele [] 0 (length tele) (λ k lt. absurd (omega arith)));
}

-- ---- with and without

found-ordered : (S : Signature) (tele : Telescope) (position : Option ℕ) (o : Option Recursion) → option_and_then (recursion_at S tele) position ≡ o
    → IsTelescopeOrder tele (order_of (length tele) o)
found-ordered S tele position None e = levels-telescope tele
found-ordered S tele position (Some r) e =
    let is : IsRecursion S tele r = of-position S tele r position e in
    order-is-telescope S tele r.position r.admission ((admission-decides S tele r.position r.admission).0 is.admits)

pub recursion-ordered : RecursionOrdered
recursion-ordered S tele position = found-ordered S tele position (option_and_then (recursion_at S tele) position) refl
