-- The term of a run that unification answers is made, unless it is too high.
use Rattle.std.proofs.Common.{◌≡◌, ℕ, suc, ◌+◌, ◌-◌, ◌≤◌, ◌&&◌, Bool, true, false, cond, Option, Some, None, List, [], ◌∷◌, ◌++◌, length, map, get_or, take, drop, Result, Ok, Err, refl, sym, ap, ap₂, ◌∙◌, subst as transport, arith}
use Rattle.std.proofs.lemmas.List.{length-map, length-take}
use Rattle.std.proofs.lemmas.Option.{slice_get_within}
use Rattle.theory.specs.Terms.{Term, Var, Lam, Const, Elim, AxiomK, height}
use Rattle.theory.specs.Families.{Family}
use Rattle.theory.specs.SignatureScopes.{IsScopedConstructor}
use Rattle.theory.specs.Signatures.{Signature, FamilyOf, equality, equation}
use Rattle.theory.specs.Substitutions.{inst}
use Rattle.theory.specs.WellFormed.{first_entries}
use Rattle.theory.proofs.AllOf.{all_at}
use Rattle.theory.proofs.Lists.{some_is}
use Rattle.core_terms.specs.Answers.{and_then}
use Rattle.core_terms.specs.CaseTrees.{Step}
use Rattle.core_terms.specs.Levels.{variable}
use Rattle.core_terms.specs.declared.case_tree.Rule.TheVariants.{SolveRight, SolveLeft, Inject, Conflict, Cycle, Delete}
use Rattle.core_terms.specs.declared.stop.Stop.{Stop}
use Rattle.core_terms.specs.declared.stop.Stop.TheVariants.{Deep}
use Rattle.unification.specs.Built.{Built, term_of}
use Rattle.unification.specs.Occurrences.{dependants}
use Rattle.unification.specs.Paths.{IsBuilt}
use Rattle.unification.specs.Rules.{IsAbsurd, IsGroup, Steps, conflict, conflict_group, cycle_left, cycle_right, delete, inject, inject_group, level_of, solve_left, solve_right}
use Rattle.unification.specs.ScopedStates.{IsReady}
use Rattle.unification.specs.States.{Equation, State, right_sides}
use Rattle.unification.proofs.Constructors.{instance_of, one-family}
use Rattle.tree_translation.specs.Comparisons.{Comparison, compared, compared_alone}
use Rattle.tree_translation.specs.ConfusionTerms.{conflict_term, confused, inject_term}
use Rattle.tree_translation.specs.Hidden.{widened_number}
use Rattle.tree_translation.specs.Laws.{Widens, widened_equations}
use Rattle.tree_translation.specs.Naming.{Naming, left_name}
use Rattle.tree_translation.specs.Replays.{behind_step, kept, level_of_first, solved_standing, step_in}
use Rattle.tree_translation.specs.RunTerms.{on_comparison, rule_term, run_term}
use Rattle.tree_translation.specs.SolutionTerms.{delete_term, remaining_goal, solution_method, solution_motive, solution_term}
use Rattle.tree_translation.specs.Standings.{Standing, first_equations, further_equations, here, inside, placed_telescope, state_term}
use Rattle.tree_translation.proofs.SeenTerms.{widening}
use Rattle.run_terms.specs.CodeConfusions.{conflict_made, inject_made, injection_motive}
use Rattle.run_terms.specs.CodeRuns.{after_step}
use Rattle.split_terms.specs.CodeRunTerms.{if_low_sides, injection_made, on_comparison_made, refutation_made, rule_made, run_made, sides_made, step_made}
use Rattle.entry_laws.proofs.replay_laws.AnsweredRuns.{last-there, step-there, widened-low}
use Rattle.entry_laws.proofs.replay_laws.LowComparisons.{comparison_of}
use Rattle.entry_laws.proofs.replay_laws.LowConfusions.{IsCounted, conflict-there, inject-there}
use Rattle.entry_laws.proofs.replay_laws.LowInjections.{HasLowSides, IsLowBy}
use Rattle.entry_laws.proofs.replay_laws.LowInstances.{height-low}
use Rattle.entry_laws.proofs.replay_laws.LowParts.{low-applied, low-functions}
use Rattle.entry_laws.proofs.replay_laws.RunsAlong.{problem-along}
use Rattle.entry_laws.proofs.replay_laws.SeenComparisons.{alone-seen, group-seen, step_of}
use Rattle.exact_laws.specs.run_laws.Laws.{RunAnswers}

-- ---- how many there are

-- a constructor has as many targets as its family has indices
built-count : (S : Signature) (b : Built) → IsReady S → IsBuilt S b → length b.constructor.targets ≡ length b.family.indices
built-count S b ready is =
    (all_at (IsScopedConstructor (first_entries S (b.n + 1)) (length b.family.parameters) (length b.family.indices)) b.family.constructors b.number
    b.constructor is.constructor (ready.scoped b.n (FamilyOf b.family) is.family).constructors).target_count

length-widened : (n : ℕ) (hidden : List ℕ) (k : ℕ) (es : List Equation) → length (right_sides (widened_equations n hidden k es)) ≡ length es
length-widened n hidden k [] = refl
length-widened n hidden k (e ∷ es) = ap suc (length-widened n hidden (k + 1) es)

group-counted : (S : Signature) (s : State) (w : Standing) (k : ℕ) (f : Family) (ps : List Term) (type : Term) (b d : Built) (q : ℕ → Term) → IsReady S
    → IsBuilt S b → IsGroup S s k b.n f ps type (term_of b) (term_of d) → Widens w s
    → IsCounted k (comparison_of b.n f (map (inst q) ps) (instance_of q b) (instance_of q d) (take k (right_sides w.state.equations)))
group-counted S s w k f ps type b d q ready is group widens = record {
  left =
      built-count S b ready is
      ∙ ap (λ (f : Family). length f.indices) (one-family S b.n b.n b.family f is.family group.family refl);
  indices =
      (let there = slice_get_within s.equations k group.last group.is_last in
      let sides : length (right_sides w.state.equations) ≡ length s.equations =
      ap (λ es. length (right_sides es)) widens.equations ∙ length-widened (length w.state.context) w.hidden 0 s.equations in
      let some = length-take k (right_sides w.state.equations) in
      let same : length f.indices ≡ k = group.indices in
      omega arith);
  group = λ some. sym group.indices;
}

alone-counted : (S : Signature) (b d : Built) (q : ℕ → Term) → IsReady S → IsBuilt S b → IsBuilt S d → b.n ≡ d.n
    → IsCounted 0 (compared_alone (instance_of q b) (instance_of q d))
alone-counted S b d q ready hb hd family = record {
  left = built-count S b ready hb;
  indices =
      length-map d.constructor.targets _
      ∙ (built-count S d ready hd
      ∙ ap (λ (f : Family). length f.indices) (sym (one-family S b.n d.n b.family d.family hb.family hd.family family)));
  group = λ some. absurd (some refl);
}

-- ---- rules

pub low-sides-there : {A : Type 0} (step : Step) (made : Result A Stop) → HasLowSides step → if_low_sides step made ≡ made
low-sides-there step made low =
    ap (λ b. cond b made (Err Deep)) (ap₂ ◌&&◌ (height-low step.left low.left) (height-low step.right low.right))

on-found : (found : Option Comparison) (c : Comparison) (made : Comparison → Result Term Stop) (term : Comparison → Term) → found ≡ Some c
    → (height (term c) ≤ 2000 → made c ≡ Ok (term c)) → height (on_comparison found term) ≤ 2000
    → on_comparison_made found made ≡ Ok (on_comparison found term)
on-found None c made term e h low = absurd (cc)
on-found (Some c') c made term e h low =
    transport (λ x. height (term x) ≤ 2000 → made x ≡ Ok (term x)) (sym (some_is e)) h low

inject-rule : (S : Signature) (number : Naming) (L : ℕ) (w : Standing) (step : Step) (c : Comparison) (N : Term) → HasLowSides step
    → compared S w.state step ≡ Some c → IsCounted (step.group - 1) c
    → height (on_comparison (compared S w.state step) (λ c. inject_term number L w (step.group - 1) c N)) ≤ 2000
    → if_low_sides step (injection_made S number L w step N)
    ≡ Ok (on_comparison (compared S w.state step) (λ c. inject_term number L w (step.group - 1) c N))
inject-rule S number L w step c N sides there counted low =
    low-sides-there step (injection_made S number L w step N) sides
    ∙ on-found (compared S w.state step) c (λ c. inject_made number L w (step.group - 1) c N) (λ c. inject_term number L w (step.group - 1) c N) there
    (inject-there number L w (step.group - 1) c N counted) low

conflict-rule : (S : Signature) (number : Naming) (L : ℕ) (w : Standing) (step : Step) (c : Comparison) → HasLowSides step
    → compared S w.state step ≡ Some c → IsCounted (step.group - 1) c
    → height (on_comparison (compared S w.state step) (conflict_term number L w (step.group - 1))) ≤ 2000
    → if_low_sides step (refutation_made S number L w step)
    ≡ Ok (on_comparison (compared S w.state step) (conflict_term number L w (step.group - 1)))
conflict-rule S number L w step c sides there counted low =
    low-sides-there step (refutation_made S number L w step) sides
    ∙ on-found (compared S w.state step) c (conflict_made number L w (step.group - 1)) (conflict_term number L w (step.group - 1)) there
    (conflict-there number L w (step.group - 1) c counted) low

-- the sides over the whole context
pub seen-sides : (w : Standing) (step : Step) → height step.left ≤ 2000 → height step.right ≤ 2000 → HasLowSides (step_in w step)
seen-sides w step hl hr = record {
  left = widened-low (length w.state.context) w.hidden step.left hl;
  right = widened-low (length w.state.context) w.hidden step.right hr;
}

-- the term of a step, where it is low
abbrev IsMade : Signature → Naming → (L : ℕ) → Standing → Step → (N : Term) → Type 0
IsMade S number L w step N =
    height (rule_term S number L w (step_in w step) (step_in w step).rule N) ≤ 2000
    → rule_made S number L w (step_in w step) (step_in w step).rule N ≡ Ok (rule_term S number L w (step_in w step) (step_in w step).rule N)

rule-there : (S : Signature) (number : Naming) (L : ℕ) (s t : State) (step : Step) (w : Standing) (N : Term) → IsReady S → Steps S s step t
    → IsLowBy S s step step.rule → Widens w s → IsMade S number L w step N
rule-there S number L s t _ w N ready (solve_right _ e x A u first solvable) low widens h = refl
rule-there S number L s t _ w N ready (solve_left _ e x A u first solvable) low widens h = refl
rule-there S number L s t _ w N ready (inject_group _ k f ps type b d left right same same_number group) low widens h =
    let q = widening (length w.state.context) w.hidden in
    let step : Step = step_of (k + 1) (Inject b.n b.number) type b d in
    let c : Comparison = comparison_of b.n f (map (inst q) ps) (instance_of q b) (instance_of q d) (take k (right_sides w.state.equations)) in
    let e : k ≡ k + 1 - 1 = omega arith in
    inject-rule S number L w (step_in w step) c N (seen-sides w step low.left low.right)
    (group-seen S s w (Inject b.n b.number) k f ps type b d left right group)
    (transport (λ k. IsCounted k c) e (group-counted S s w k f ps type b d q ready left group widens)) h
rule-there S number L s t _ w N ready (inject _ e A b d left right same same_number level indices first) low widens h =
    let q = widening (length w.state.context) w.hidden in
    let step : Step = step_of 1 (Inject b.n b.number) A b d in
    inject-rule S number L w (step_in w step) (compared_alone (instance_of q b) (instance_of q d)) N (seen-sides w step low.left low.right)
    (alone-seen S w (Inject b.n b.number) A b d left right) (alone-counted S b d q ready left right same) h
rule-there S number L s t _ w N ready (delete _ e A u v k first converts) low widens h = refl

last-rule : (S : Signature) (number : Naming) (L : ℕ) (s : State) (step : Step) (w : Standing) (N : Term) → IsReady S → IsAbsurd S s step
    → IsLowBy S s step step.rule → Widens w s → IsMade S number L w step N
last-rule S number L s _ w N ready (conflict_group _ k f ps type b d left right same other group) low widens h =
    let q = widening (length w.state.context) w.hidden in
    let step : Step = step_of (k + 1) (Conflict b.n b.number d.number) type b d in
    let c : Comparison = comparison_of b.n f (map (inst q) ps) (instance_of q b) (instance_of q d) (take k (right_sides w.state.equations)) in
    let e : k ≡ k + 1 - 1 = omega arith in
    conflict-rule S number L w (step_in w step) c (seen-sides w step low.left low.right)
    (group-seen S s w (Conflict b.n b.number d.number) k f ps type b d left right group)
    (transport (λ k. IsCounted k c) e (group-counted S s w k f ps type b d q ready left group widens)) h
last-rule S number L s _ w N ready (conflict _ e A b d left right same other level first) low widens h =
    let q = widening (length w.state.context) w.hidden in
    let step : Step = step_of 1 (Conflict b.n b.number d.number) A b d in
    conflict-rule S number L w (step_in w step) (compared_alone (instance_of q b) (instance_of q d)) (seen-sides w step low.left low.right)
    (alone-seen S w (Conflict b.n b.number d.number) A b d left right) (alone-counted S b d q ready left right same) h
last-rule S number L s _ w N ready (cycle_left _ e n x A v first below) low widens h =
    let step : Step = record { group = 1; rule = Cycle x; ty = A; left = Var x; right = v } in
    low-sides-there (step_in w step) (sides_made S number L w (step_in w step) (step_in w step).rule N) (seen-sides w step low.left low.right)
last-rule S number L s _ w N ready (cycle_right _ e n x A u first below) low widens h =
    let step : Step = record { group = 1; rule = Cycle x; ty = A; left = u; right = Var x } in
    low-sides-there (step_in w step) (sides_made S number L w (step_in w step) (step_in w step).rule N) (seen-sides w step low.left low.right)

-- ---- what a step goes on to

-- the next term is part of the term of an injectivity,
inject-inner : (number : Naming) (L : ℕ) (s : Standing) (k : ℕ) (c : Comparison) (N : Term) → height (inject_term number L s k c N) ≤ 2000 → height N ≤ 2000
inject-inner number L s k c N low =
    (low-applied (confused number L s k c) (injection_motive s (k + 1) _ ∷ N ∷ further_equations s (k + 1)) low).1.1.0

found-inner : (found : Option Comparison) (c : Comparison) (term : Comparison → Term) (N : Term) → found ≡ Some c
    → ((c : Comparison) → height (term c) ≤ 2000 → height N ≤ 2000) → height (on_comparison found term) ≤ 2000 → height N ≤ 2000
found-inner None c term N e h low = absurd (cc)
found-inner (Some c') c term N e h low = h c' low

-- in that of a solution,
solution-inner : (head : Term) (s : Standing) (x : ℕ) (on_right : Bool) (A u : Term) (next : Standing) (N : Term)
    → height (solution_term head s x on_right A u next N) ≤ 2000 → height N ≤ 2000
solution-inner head s x on_right A u next N low =
    let p = level_of (length s.state.context) x in
    let moved = dependants s.state.context p in
    let fixed = map (λ j. get_or s.variables j 0) (kept s.state p) in
    let rest =
    here s (Var x) ∷ (first_equations s 1 ++ (map (λ j. variable (inside s) (get_or s.variables j 0)) moved ++ further_equations s 1))
    in
    let parts = low-applied head (here s A ∷ here s u ∷ solution_motive s p on_right A u ∷ solution_method s p next N ∷ rest) low in
    (low-functions (placed_telescope fixed (inside s) (drop (length fixed) next.state.context)) N parts.1.1.1.1.0).1

-- and in that of a deletion
delete-inner : (L : ℕ) (s : Standing) (A u N : Term) → height (delete_term L s A u N) ≤ 2000 → height N ≤ 2000
delete-inner L s A u N low =
    let i = level_of_first s.state.equations in
    let depth = inside s in
    let motive = Lam (equation i (here s A) (here s u) (here s u)) (remaining_goal s 1 s.variables (depth ∷ []) (depth + 1)) in
    (low-applied (AxiomK i L) (here s A ∷ here s u ∷ motive ∷ N ∷ (first_equations s 1 ++ further_equations s 1)) low).1.1.1.1.0

pub rule-inner : (S : Signature) (number : Naming) (L : ℕ) (s t : State) (step : Step) (w : Standing) (N : Term) → Steps S s step t
    → height (rule_term S number L w (step_in w step) (step_in w step).rule N) ≤ 2000 → height N ≤ 2000
rule-inner S number L s t _ w N (solve_right _ e x A u first solvable) low =
    let step : Step = record { group = 1; rule = SolveRight x; ty = A; left = u; right = Var x } in
    let y = widened_number (length w.state.context) w.hidden x in
    solution-inner (Elim (equality (level_of_first w.state.equations)) L) w y true (step_in w step).ty (step_in w step).left
    (solved_standing w y (step_in w step).ty (step_in w step).left) N low
rule-inner S number L s t _ w N (solve_left _ e x A u first solvable) low =
    let step : Step = record { group = 1; rule = SolveLeft x; ty = A; left = Var x; right = u } in
    let y = widened_number (length w.state.context) w.hidden x in
    solution-inner (Const (number (left_name (level_of_first w.state.equations) L))) w y false (step_in w step).ty (step_in w step).right
    (solved_standing w y (step_in w step).ty (step_in w step).right) N low
rule-inner S number L s t _ w N (inject_group _ k f ps type b d left right same same_number group) low =
    let step : Step = step_of (k + 1) (Inject b.n b.number) type b d in
    found-inner (compared S w.state (step_in w step)) _ (λ c. inject_term number L w (k + 1 - 1) c N) N
    (group-seen S s w (Inject b.n b.number) k f ps type b d left right group) (λ c. inject-inner number L w (k + 1 - 1) c N) low
rule-inner S number L s t _ w N (inject _ e A b d left right same same_number level indices first) low =
    let step : Step = step_of 1 (Inject b.n b.number) A b d in
    found-inner (compared S w.state (step_in w step)) _ (λ c. inject_term number L w (1 - 1) c N) N
    (alone-seen S w (Inject b.n b.number) A b d left right) (λ c. inject-inner number L w (1 - 1) c N) low
rule-inner S number L s t _ w N (delete _ e A u v k first converts) low =
    let step : Step = record { group = 1; rule = Delete; ty = A; left = u; right = v } in
    delete-inner L w (step_in w step).ty (step_in w step).left N low

-- ---- runs

-- one step, from its parts
one-step : (S : Signature) (number : Naming) (L : ℕ) (end : Term) (step : Step) (steps : List Step) (w next : Standing) (inner t : Term)
    → after_step S w step ≡ Ok next → run_made S number L end steps next ≡ Ok inner
    → rule_made S number L w (step_in w step) (step_in w step).rule (state_term next inner) ≡ Ok t
    → run_made S number L end (step ∷ steps) w ≡ Ok t
one-step S number L end step steps w next inner t first second third =
    ap (λ (r : Result Standing Stop). and_then r (λ next. and_then (run_made S number L end steps next) (step_made S number L w step next))) first
    ∙ (ap (λ (r : Result Term Stop). and_then r (step_made S number L w step next)) second ∙ third)

abbrev IsTermMade : Signature → Standing → List Step → Type 0
IsTermMade S w steps =
    (number : Naming) (L : ℕ) (end : Term) → height (run_term S number L end steps w) ≤ 2000
    → run_made S number L end steps w ≡ Ok (run_term S number L end steps w)

step-made : (S : Signature) (s t : State) (step : Step) (steps : List Step) (w : Standing) → IsReady S → Steps S s step t → IsLowBy S s step step.rule
    → Widens w s → IsTermMade S (behind_step S w step) steps → IsTermMade S w (step ∷ steps)
step-made S s t step steps w ready follows low widens rest number L end h =
    let next = behind_step S w step in
    let inner = run_term S number L end steps next in
    let N = state_term next inner in
    one-step S number L end step steps w next inner (rule_term S number L w (step_in w step) (step_in w step).rule N)
    (step-there S s t step w follows low)
    (rest number L end (low-functions _ inner (rule-inner S number L s t step w N follows h)).1)
    (rule-there S number L s t step w N ready follows low widens h)

last-made : (S : Signature) (s : State) (step : Step) (w : Standing) → IsReady S → IsAbsurd S s step → IsLowBy S s step step.rule → Widens w s
    → IsTermMade S w (step ∷ [])
last-made S s step w ready shows low widens number L end h =
    let next = behind_step S w step in
    let inner = run_term S number L end [] next in
    let N = state_term next inner in
    one-step S number L end step [] w next inner (rule_term S number L w (step_in w step) (step_in w step).rule N)
    (last-there S s step w shows) refl (last-rule S number L s step w N ready shows low widens h)

pub run-answers : RunAnswers
run-answers S p outcome w number L end is low =
    problem-along S (IsTermMade S)
    (record {
      at_end = λ w number L end low. refl;
      at_step = λ s t step steps w follows tests widens rest. step-made S s t step steps w is.ready follows tests widens rest;
      at_last = λ s step w shows tests widens. last-made S s step w is.ready shows tests widens;
    })
    p outcome w is.ready is.scoped is.runs is.widens number L end low
