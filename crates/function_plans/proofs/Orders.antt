-- The recursion that is found has an order.
use Rattle.std.proofs.Common.{◌≡◌, ℕ, Bool, true, false, cond, Option, Some, None, option_and_then, length, Result, Ok, Err, refl, sym, subst}
use Rattle.core_terms.specs.declared.stop.Stop.{Stop}
use Rattle.core_terms.specs.declared.stop.Stop.TheVariants.{Deep}
use Rattle.core_terms.proofs.Builders.{ok_is}
use Rattle.core_terms.specs.Answers.{are_low}
use Rattle.clause_reports.specs.elaboration.Functions.{recursion_in}
use Rattle.leaf_terms.specs.RecursionMade.{made_at}
use Rattle.entry_laws.proofs.order_scopes.RecursionOrders.{recursion-ordered}
use Rattle.tree_translation.specs.structural_rec.Laws.{IsTelescopeOrder}
use Rattle.theory.specs.Signatures.{Signature}
use Rattle.theory.specs.Telescopes.{Telescope}
use Rattle.tree_translation.specs.Recursion.{Recursion, order_of, recursion_at}

ok-found : (low : Bool) (r o : Option Recursion) → ◌≡◌ {A = Result (Option Recursion) Stop} (Ok o) (cond low (Ok r) (Err Deep)) → o ≡ r
ok-found true r o e = ok_is e
ok-found false r o e = absurd (cc)

pub found-is : (S : Signature) (tele : Telescope) (position : Option ℕ) (o : Option Recursion)
    → ◌≡◌ {A = Result (Option Recursion) Stop} (Ok o) (made_at S tele position) → o ≡ option_and_then (recursion_at S tele) position
found-is S tele None o e = ok_is e
found-is S tele (Some j) o e = ok-found (are_low tele) (recursion_at S tele j) o e

-- the recursion at a position that there may be
pub in-is : (S : Signature) (tele : Telescope) (position : Option ℕ) → option_and_then (recursion_at S tele) position ≡ recursion_in S tele position
in-is S tele None = refl
in-is S tele (Some j) = refl

pub found-ordered : (S : Signature) (tele : Telescope) (position : Option ℕ) (o : Option Recursion)
    → ◌≡◌ {A = Result (Option Recursion) Stop} (Ok o) (made_at S tele position) → IsTelescopeOrder tele (order_of (length tele) o)
found-ordered S tele position o e =
    subst (λ r. IsTelescopeOrder tele (order_of (length tele) r)) (sym (found-is S tele position o e)) (recursion-ordered S tele position)
