-- A walk from a state on, by the results of its turns of the code.
use Rattle.std.proofs.Common.{◌≡◌, ℕ, zero, suc, Ok, Err, sym, ap, ◌∙◌}
use Rattle.theory.specs.Signatures.{Signature}
use Rattle.core_terms.specs.Answers.{and_next}
use Rattle.core_terms.specs.CaseTrees.{Walk}
use Rattle.core_terms.specs.declared.stop.Stop.TheVariants.{Deep}
use Rattle.case_trees.specs.OwnWalks.{by_patterns}
use Rattle.case_trees.specs.Pairs.{Pairs}
use Rattle.case_trees.specs.Points.{Point}
use Rattle.case_trees.specs.Stops.{TreeStop, Stopping, Halts}
use Rattle.clause_walks.specs.CodeWalks.{Next, GoesOn, Ended, turn_of, onward}
use Rattle.clause_walks.specs.Forgetting.{CoverAll, walks_on}
use Rattle.clause_walks.proofs.AlikeWalks.{by_patterns-goes}
use Rattle.clause_walks.proofs.TurnCodes.{turn-on}

module _ (S : Signature) (clause : ℕ) (p : Point) (pairs : Pairs) (left rest : ℕ) where
  turned : (k : ℕ) → CoverAll S pairs p.terms → by_patterns S clause k p pairs left ≡ and_next (turn_of S clause p pairs left) (onward (walks_on S clause k))
  turned k covers = by_patterns-goes S clause k p pairs left covers ∙ turn-on S clause (walks_on S clause k) p pairs left

  -- the walk goes on with one pattern fewer
  pub walk-on : (k j : ℕ) (next : Point) (moved : Pairs) → CoverAll S pairs p.terms → k ≡ suc j
      → ◌≡◌ {A = Stopping Next} (Ok (GoesOn next moved), rest) (turn_of S clause p pairs left)
      → by_patterns S clause j next moved rest ≡ by_patterns S clause k p pairs left
  walk-on k j next moved covers e h =
      ap (λ r. and_next r (onward (walks_on S clause (suc j)))) h
      ∙ (sym (turned (suc j) covers) ∙ ap (λ n. by_patterns S clause n p pairs left) (sym e))

  -- where no pattern was left nothing goes on
  pub walk-nowhere : (k : ℕ) (next : Point) (moved : Pairs) → CoverAll S pairs p.terms → k ≡ 0
      → ◌≡◌ {A = Stopping Next} (Ok (GoesOn next moved), rest) (turn_of S clause p pairs left)
      → ◌≡◌ {A = Stopping Walk} (Err (Halts Deep), rest) (by_patterns S clause k p pairs left)
  walk-nowhere k next moved covers e h =
      ap (λ r. and_next r (onward (walks_on S clause zero))) h
      ∙ (sym (turned zero covers) ∙ ap (λ n. by_patterns S clause n p pairs left) (sym e))

  pub walk-ended : (k : ℕ) (w : Walk) → CoverAll S pairs p.terms → ◌≡◌ {A = Stopping Next} (Ok (Ended w), rest) (turn_of S clause p pairs left)
      → ◌≡◌ {A = Stopping Walk} (Ok w, rest) (by_patterns S clause k p pairs left)
  walk-ended k w covers h = ap (λ r. and_next r (onward (walks_on S clause k))) h ∙ sym (turned k covers)

  pub walk-refused : (k : ℕ) (e : TreeStop) → CoverAll S pairs p.terms → ◌≡◌ {A = Stopping Next} (Err e, rest) (turn_of S clause p pairs left)
      → ◌≡◌ {A = Stopping Walk} (Err e, rest) (by_patterns S clause k p pairs left)
  walk-refused k e covers h = ap (λ r. and_next r (onward (walks_on S clause k))) h ∙ sym (turned k covers)
