-- The end of a run that solves its problem is part of the run's term.
use Rattle.std.proofs.Common.{◌≡◌, ℕ, ◌≤◌, false, List, [], ◌∷◌, length, refl, sym, ◌∙◌, arith}
use Rattle.std.proofs.lemmas.Bool.{true≢false}
use Rattle.theory.specs.Terms.{Term, height}
use Rattle.theory.specs.Signatures.{Signature}
use Rattle.core_terms.specs.CaseTrees.{Step}
use Rattle.unification.specs.Outcomes.{Solved}
use Rattle.unification.specs.States.{Problem}
use Rattle.tree_translation.specs.Naming.{Naming}
use Rattle.tree_translation.specs.Replays.{behind_step}
use Rattle.tree_translation.specs.RunTerms.{run_term}
use Rattle.tree_translation.specs.Splits.{is_absurd}
use Rattle.tree_translation.specs.Standings.{Standing, at_levels, inside, state_term}
use Rattle.entry_laws.proofs.replay_laws.LowParts.{low-functions, put-least}
use Rattle.entry_laws.proofs.replay_laws.RunsAlong.{problem-along}
use Rattle.entry_laws.proofs.replay_laws.TreeNodes.{last-rule}
use Rattle.exact_laws.specs.run_laws.Laws.{IsRun}
use Rattle.exact_laws.proofs.run_laws.AnsweredTerms.{rule-inner}

tail-goes : (step : Step) (steps : List Step) → is_absurd (step ∷ steps) ≡ false → is_absurd steps ≡ false
tail-goes step [] e = refl
tail-goes step (next ∷ steps) e = e

abbrev HasLowEnd : Signature → Naming → (L : ℕ) → (end : Term) → Standing → List Step → Type 0
HasLowEnd S number L end w steps = is_absurd steps ≡ false → height (run_term S number L end steps w) ≤ 2000 → height end ≤ 2000

pub end-low : (S : Signature) (p : Problem) (steps : List Step) (context solution : List Term) (w : Standing) (number : Naming) (L : ℕ) (end : Term)
    → IsRun S p (Solved steps context solution) w → is_absurd steps ≡ false → height (run_term S number L end steps w) ≤ 2000 → height end ≤ 2000
end-low S p steps context solution w number L end is goes low =
    problem-along S (HasLowEnd S number L end)
    (record {
      at_end = λ w goes low. (let le = put-least (at_levels w.variables) (length w.variables) (inside w) 0 end in omega (arith, le, low));
      at_step = λ s t step steps w follows tests widens rest goes low.
          (let next = behind_step S w step in
          let inner = run_term S number L end steps next in
          rest (tail-goes step steps goes)
          (low-functions _ inner (rule-inner S number L s t step w (state_term next inner) follows low)).1);
      at_last = λ s step w shows tests widens goes low. absurd (true≢false (sym (last-rule S s step shows) ∙ goes));
    })
    p (Solved steps context solution) w is.ready is.scoped is.runs is.widens goes low
