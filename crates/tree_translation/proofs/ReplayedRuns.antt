-- Replaying the steps of a run from its first state gives the run's states.
use Rattle.std.proofs.Common.{◌≡◌, ℕ, ◌+◌, ◌-◌, Option, Some, List, [], length, map, take, refl, ap, ap₂, ◌∙◌, arith}
use Rattle.theory.specs.Terms.{Term, Var}
use Rattle.theory.specs.Signatures.{Signature}
use Rattle.core_terms.specs.CaseTrees.{Step}
use Rattle.core_terms.specs.declared.case_tree.Rule.TheVariants.{SolveRight, SolveLeft, Inject, Delete}
use Rattle.tele_eq.specs.Levels.{place_in}
use Rattle.unification.specs.Built.{term_of}
use Rattle.unification.specs.States.{State, right_sides}
use Rattle.unification.specs.Occurrences.{order_without}
use Rattle.unification.specs.Solving.{solved_state, deleted_state}
use Rattle.unification.specs.Injecting.{injected_state}
use Rattle.unification.specs.Rules.{Steps, solve_right, solve_left, inject_group, inject, delete, none, more, level_of}
use Rattle.unification.specs.Laws.{Chain}
use Rattle.tree_translation.specs.Standings.{Standing}
use Rattle.tree_translation.specs.Comparisons.{Comparison, compared, compared_by, compared_alone}
use Rattle.tree_translation.specs.Hidden.{widened_rule, widened_step}
use Rattle.tree_translation.specs.Replays.{level_of_first, solved_standing, injected_standing, unless_compared, behind_rule, behind_step, behind_run}
use Rattle.tree_translation.specs.Laws.{ReplayIsRun}
use Rattle.tree_translation.proofs.NothingHidden.{step-own, number-own}
use Rattle.tree_translation.proofs.Comparing.{compared-built, compared-group}

-- a standing over a state, where nothing is hidden
pub record IsAt (s : State) (standing : Standing) : Type 0 where
  pub state : standing.state ≡ s
  pub hidden : standing.hidden ≡ []

-- the step is read as it is written
pub read : (S : Signature) (s : State) (standing : Standing) (step : Step) → IsAt s standing → widened_rule (length s.context) [] step.rule ≡ step.rule
    → behind_step S standing step ≡ behind_rule S standing step step.rule
read S s standing step at rule =
    ap (λ (other : Step). behind_rule S standing other other.rule)
    (ap₂ (λ (state : State) (hidden : List ℕ). widened_step (length state.context) hidden step) at.state at.hidden ∙ step-own (length s.context) step rule)

pub at-same : (s : State) (one other : Standing) → one ≡ other → IsAt s other → IsAt s one
at-same s one other e at = record {
  state = ap (λ standing. standing.state) e ∙ at.state;
  hidden = ap (λ standing. standing.hidden) e ∙ at.hidden;
}

pub at-solved : (s : State) (standing : Standing) (i x : ℕ) (A u : Term) → IsAt s standing → level_of_first s.equations ≡ i
    → IsAt (solved_state s i (level_of (length s.context) x) A u) (solved_standing standing x A u)
at-solved s standing i x A u at first = record {
  state =
      ap (λ (state : State). solved_state state (level_of_first state.equations) (level_of (length state.context) x) A u) at.state
      ∙ ap (λ level. solved_state s level (level_of (length s.context) x) A u) first;
  hidden = ap (map (place_in (order_without standing.state.context (level_of (length standing.state.context) x)))) at.hidden;
}

pub at-injected : (s : State) (standing : Standing) (g : ℕ) (o : Option Comparison) (c : Comparison) → IsAt s standing → o ≡ Some c
    → IsAt (injected_state s g c.n c.left.number c.family c.left.constructor c.parameters c.left.arguments c.right.arguments) (unless_compared standing g o)
at-injected s standing g o c at e =
    at-same _ (unless_compared standing g o) (injected_standing standing g c) (ap (unless_compared standing g) e)
    (record {
      state = ap (λ (state : State).
          injected_state state g c.n c.left.number c.family c.left.constructor c.parameters c.left.arguments c.right.arguments) at.state;
      hidden = at.hidden;
    })

pub step-replayed : (S : Signature) (s t : State) (step : Step) (standing : Standing) → Steps S s step t → IsAt s standing → IsAt t (behind_step S standing step)
step-replayed S s t _ standing (solve_right _ e x A u first solvable) at =
    let step : Step = record { group = 1; rule = SolveRight x; ty = A; left = u; right = Var x } in
    at-same t (behind_step S standing step) (solved_standing standing x A u)
    (read S s standing step at (ap SolveRight (number-own (length s.context) x solvable.variable)))
    (at-solved s standing e.place.level x A u at (ap level_of_first first.first))
step-replayed S s t _ standing (solve_left _ e x A u first solvable) at =
    let step : Step = record { group = 1; rule = SolveLeft x; ty = A; left = Var x; right = u } in
    at-same t (behind_step S standing step) (solved_standing standing x A u)
    (read S s standing step at (ap SolveLeft (number-own (length s.context) x solvable.variable)))
    (at-solved s standing e.place.level x A u at (ap level_of_first first.first))
step-replayed S s t _ standing (inject_group _ k f ps type b d left right same number group) at =
    let step : Step = record { group = k + 1; rule = Inject b.n b.number; ty = type; left = term_of b; right = term_of d } in
    let c : Comparison = record { n = b.n; family = f; parameters = ps; left = b; right = d; indices = take k (right_sides standing.state.equations) } in
    let e : k + 1 - 1 ≡ k = omega arith in
    at-same t (behind_step S standing step) (unless_compared standing (k + 1) (compared S standing.state step))
    (read S s standing step at refl)
    (at-injected s standing (k + 1) (compared S standing.state step) c at
    (compared-built S standing.state step b d left right refl refl
    ∙ (ap (λ count. Some (compared_by standing.state count type b d)) e
    ∙ ap Some (compared-group S standing.state k f ps type b d group.members group.family left group.form))))
step-replayed S s t _ standing (inject _ e A b d left right same number level indices first) at =
    let step : Step = record { group = 1; rule = Inject b.n b.number; ty = A; left = term_of b; right = term_of d } in
    at-same t (behind_step S standing step) (unless_compared standing 1 (compared S standing.state step))
    (read S s standing step at refl)
    (at-injected s standing 1 (compared S standing.state step) (compared_alone b d) at (compared-built S standing.state step b d left right refl refl))
step-replayed S s t _ standing (delete _ e A u v k first converts) at =
    let step : Step = record { group = 1; rule = Delete; ty = A; left = u; right = v } in
    at-same t (behind_step S standing step) (behind_rule S standing step Delete)
    (read S s standing step at refl)
    (record {
      state =
          ap (λ (state : State). deleted_state state (level_of_first state.equations) A u) at.state
          ∙ ap (λ level. deleted_state s level A u) (ap level_of_first first.first);
      hidden = at.hidden;
    })

pub run-replayed : (S : Signature) (s t : State) (steps : List Step) (standing : Standing) → Chain S s steps t → IsAt s standing → (behind_run S steps standing).state ≡ t
run-replayed S s t _ standing (none _) at = at.state
run-replayed S s t _ standing (more _ r _ step steps scoped goes rest) at =
    run-replayed S r t steps (behind_step S standing step) rest (step-replayed S s r step standing goes at)

pub replay_is_run : ReplayIsRun
replay_is_run S s t steps standing chain state hidden = run-replayed S s t steps standing chain (record { state = state; hidden = hidden })
