-- A run that unification answers is replayed without refusal.
use Rattle.std.proofs.Common.{◌≡◌, ℕ, ◌+◌, ◌≤◌, ◌&&◌, cond, Some, IfSome, Ok, Err, List, [], ◌∷◌, length, map, take, refl, sym, ap, ap₂, ◌∙◌, subst as transport, arith}
use Rattle.theory.specs.Terms.{Term, height}
use Rattle.theory.specs.Families.{Family}
use Rattle.theory.specs.Signatures.{Signature}
use Rattle.theory.specs.Substitutions.{inst}
use Rattle.core_terms.specs.Answers.{and_then}
use Rattle.core_terms.specs.CaseTrees.{Step}
use Rattle.core_terms.specs.declared.case_tree.Rule.TheVariants.{Inject}
use Rattle.core_terms.specs.declared.stop.Stop.TheVariants.{Deep}
use Rattle.unification.specs.Built.{Built}
use Rattle.unification.specs.Rules.{IsAbsurd, Steps, conflict, conflict_group, cycle_left, cycle_right, delete, inject, inject_group, solve_left, solve_right}
use Rattle.unification.specs.States.{State, right_sides}
use Rattle.unification.proofs.Constructors.{instance_of}
use Rattle.tree_translation.specs.Comparisons.{Comparison, compared, compared_alone}
use Rattle.tree_translation.specs.Hidden.{widened}
use Rattle.tree_translation.specs.Replays.{behind_run, behind_step, step_in, unless_compared}
use Rattle.tree_translation.specs.Standings.{Standing}
use Rattle.tree_translation.proofs.SeenTerms.{widened-is, widening}
use Rattle.run_terms.specs.CodeRuns.{after_comparison, after_injection, after_run, after_step, injected_if_there}
use Rattle.entry_laws.specs.replay_laws.Laws.{ReplayAnswers}
use Rattle.entry_laws.proofs.replay_laws.LowComparisons.{IsLowComparison, comparison_of, low-comparison, one-there}
use Rattle.entry_laws.proofs.replay_laws.LowInjections.{IsLowBy, IsLowInjection}
use Rattle.entry_laws.proofs.replay_laws.LowInstances.{flat-height, height-low, widening-flat}
use Rattle.entry_laws.proofs.replay_laws.RunsAlong.{problem-along}
use Rattle.entry_laws.proofs.replay_laws.SeenComparisons.{alone-own, alone-seen, group-own, group-seen, step_of}

-- ---- injectivities

injection-there : (S : Signature) (w : Standing) (step : Step) (c : Comparison) → height step.left ≤ 2000 → height step.right ≤ 2000
    → compared S w.state step ≡ Some c → IsLowComparison c → after_injection S w step ≡ Ok (unless_compared w step.group (compared S w.state step))
injection-there S w step c hl hr e low =
    ap (λ b. cond b (after_comparison S w step) (Err Deep)) (ap₂ ◌&&◌ (height-low step.left hl) (height-low step.right hr))
    ∙ (ap (injected_if_there w step.group) e
    ∙ (one-there w step.group c low ∙ sym (ap (λ o. Ok (unless_compared w step.group o)) e)))

pub widened-low : (n : ℕ) (hidden : List ℕ) (t : Term) → height t ≤ 2000 → height (widened n hidden t) ≤ 2000
widened-low n hidden t low =
    let le = flat-height (widening n hidden) t (widening-flat n hidden) in
    transport (λ u. height u ≤ 2000) (sym (widened-is n hidden t)) (omega arith)

-- an injectivity over a whole context, where it is low in the context that is seen
seen-there : (S : Signature) (s : State) (w : Standing) (step : Step) (f : Family) (ps : List Term) (b d : Built) (indices others : List Term)
    → (let q = widening (length w.state.context) w.hidden in
    compared S w.state (step_in w step) ≡ Some (comparison_of b.n f (map (inst q) ps) (instance_of q b) (instance_of q d) others))
    → compared S s step ≡ Some (comparison_of b.n f ps b d indices) → IsLowInjection S s step
    → after_injection S w (step_in w step) ≡ Ok (unless_compared w step.group (compared S w.state (step_in w step)))
seen-there S s w step f ps b d indices others there is low =
    let n = length w.state.context in
    let q = widening n w.hidden in
    injection-there S w (step_in w step) (comparison_of b.n f (map (inst q) ps) (instance_of q b) (instance_of q d) others)
    (widened-low n w.hidden step.left low.left) (widened-low n w.hidden step.right low.right) there
    (low-comparison q b.n f ps b d indices others (widening-flat n w.hidden) (transport (λ o. IfSome o IsLowComparison) is low.comparison))

-- ---- steps

pub step-there : (S : Signature) (s t : State) (step : Step) (w : Standing) → Steps S s step t → IsLowBy S s step step.rule
    → after_step S w step ≡ Ok (behind_step S w step)
step-there S s t _ w (solve_right _ e x A u first solvable) low = refl
step-there S s t _ w (solve_left _ e x A u first solvable) low = refl
step-there S s t _ w (inject_group _ k f ps type b d left right same number group) low =
    seen-there S s w (step_of (k + 1) (Inject b.n b.number) type b d) f ps b d (take k (right_sides s.equations)) (take k (right_sides w.state.equations))
    (group-seen S s w (Inject b.n b.number) k f ps type b d left right group) (group-own S s (Inject b.n b.number) k f ps type b d left right group) low
step-there S s t _ w (inject _ e A b d left right same number level indices first) low =
    seen-there S s w (step_of 1 (Inject b.n b.number) A b d) b.family b.parameters b d (compared_alone b d).indices
    (compared_alone (instance_of (widening (length w.state.context) w.hidden) b) (instance_of (widening (length w.state.context) w.hidden) d)).indices
    (alone-seen S w (Inject b.n b.number) A b d left right) (alone-own S s (Inject b.n b.number) A b d left right) low
step-there S s t _ w (delete _ e A u v k first converts) low = refl

pub last-there : (S : Signature) (s : State) (step : Step) (w : Standing) → IsAbsurd S s step → after_step S w step ≡ Ok (behind_step S w step)
last-there S s _ w (conflict_group _ k f ps type b d left right family number group) = refl
last-there S s _ w (conflict _ e A b d left right family number level first) = refl
last-there S s _ w (cycle_left _ e n x A v first below) = refl
last-there S s _ w (cycle_right _ e n x A u first below) = refl

-- ---- runs

first-then : (S : Signature) (w : Standing) (step : Step) (steps : List Step) → after_step S w step ≡ Ok (behind_step S w step)
    → after_run S steps (behind_step S w step) ≡ Ok (behind_run S steps (behind_step S w step))
    → after_run S (step ∷ steps) w ≡ Ok (behind_run S (step ∷ steps) w)
first-then S w step steps h k = ap (λ r. and_then r (after_run S steps)) h ∙ k

pub replay-answers : ReplayAnswers
replay-answers S p outcome w ready scoped runs widens =
    problem-along S (λ w steps. after_run S steps w ≡ Ok (behind_run S steps w))
    (record {
      at_end = λ w. refl;
      at_step = λ s t step steps w follows low widens rest. first-then S w step steps (step-there S s t step w follows low) rest;
      at_last = λ s step w shows low widens. first-then S w step [] (last-there S s step w shows) refl;
    })
    p outcome w ready scoped runs widens
