-- The dependences of a type come before it, in order.
use Rattle.std.proofs.Common.{ℕ, zero, suc, ◌+◌, ◌<◌, ◌≤◌, Bool, true, false, cond, List, [], ◌∷◌, arith}
use Rattle.std.specs.List.{All}
use Rattle.std.proofs.lemmas.List.Elements.{All-nil, All-cons}
use Rattle.tele_eq.specs.Items.{Item}
use Rattle.tele_eq.specs.Dependences.{closed, dependences, is_mentioned}
use Rattle.tele_eq.proofs.Carrying.{IsFrom}

from-lower : (n at : ℕ) (positions : List ℕ) → n ≤ at → IsFrom at positions → IsFrom n positions
from-lower n at [] le from = tt
from-lower n at (t ∷ positions) le from = (let h : at ≤ t = from.0 in omega arith, from.1)

step-from : (b : Bool) (at : ℕ) (found : List ℕ) → IsFrom (suc at) found → IsFrom at (cond b (at ∷ found) found)
step-from true at found from = (omega arith, from-lower (at + 1) (suc at) found (omega arith) from)
step-from false at found from = from-lower at (suc at) found (omega arith) from

closed-from : (tele : List Item) (j at : ℕ) (found : List ℕ) → IsFrom at found → IsFrom 0 (closed tele j at found)
closed-from tele j zero found from = from
closed-from tele j (suc at) found from = closed-from tele j at _ (step-from (is_mentioned tele at (j ∷ found)) at found from)

pub dependences-from : (tele : List Item) (j : ℕ) → IsFrom 0 (dependences tele j)
dependences-from tele j = closed-from tele j j [] tt

step-below : (b : Bool) (j at : ℕ) (found : List ℕ) → at < j → All (λ p. p < j) found → All (λ p. p < j) (cond b (at ∷ found) found)
step-below true j at found lt all = All-cons (λ p. p < j) at found lt all
step-below false j at found lt all = all

closed-below : (tele : List Item) (j at : ℕ) (found : List ℕ) → at ≤ j → All (λ p. p < j) found → All (λ p. p < j) (closed tele j at found)
closed-below tele j zero found le all = all
closed-below tele j (suc at) found le all =
    closed-below tele j at _ (omega arith) (step-below (is_mentioned tele at (j ∷ found)) j at found (omega arith) all)

pub dependences-below : (tele : List Item) (j : ℕ) → All (λ p. p < j) (dependences tele j)
dependences-below tele j = closed-below tele j j [] (omega arith) (All-nil (λ p. p < j))
