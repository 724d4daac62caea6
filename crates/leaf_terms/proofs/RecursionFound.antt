-- Recursion that is found is that of the plan.
use Rattle.std.proofs.Common.{◌≡◌, ℕ, Option, Some, None, option_and_then, Ok, sym}
use Rattle.theory.specs.Signatures.{Signature}
use Rattle.theory.specs.Telescopes.{Telescope}
use Rattle.core_terms.specs.Answers.{are_low}
use Rattle.core_terms.proofs.Builders.{ok_is}
use Rattle.tree_translation.specs.Plans.{own_part}
use Rattle.tree_translation.specs.Recursion.{Recursion, recursion_at}
use Rattle.run_terms.proofs.MadeTerms.{if-low}
use Rattle.leaf_terms.specs.RecursionMade.{RecursionIsFound, made_at}

pub found-at : (S : Signature) (tele : Telescope) (position : Option ℕ) (r : Option Recursion) → made_at S tele position ≡ Ok r
    → r ≡ option_and_then (recursion_at S tele) position
found-at S tele None r e = sym (ok_is e)
found-at S tele (Some j) r e = if-low (are_low tele) (recursion_at S tele j) r e

pub recursion-found : RecursionIsFound
recursion-found S plan r e = found-at S (own_part plan).tele plan.position r e
