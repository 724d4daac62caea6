-- The terms of runs are scoped: each step follows from what it compares and solves over the whole context.
use Rattle.std.proofs.Common.{◌≡◌, ℕ, ◌+◌, ◌-◌, ◌<◌, true, false, Option, Some, None, List, ◌++◌, length, All, refl, sym, ap, subst, ◌∙◌, arith}
use Rattle.std.proofs.lemmas.List.Elements.{All-take, All-drop}
use Rattle.std.proofs.lemmas.Option.{slice_get_within}
use Rattle.theory.specs.Terms.{Term, Var, Const, Elim}
use Rattle.theory.specs.Spines.{spine_of}
use Rattle.theory.specs.Signatures.{Signature, FamilyOf, equality}
use Rattle.theory.specs.SignatureScopes.{IsConstantNumber, IsScoped}
use Rattle.theory.proofs.ScopedTerms.{spine-scoped}
use Rattle.core_terms.specs.CaseTrees.{Step}
use Rattle.core_terms.specs.declared.case_tree.Rule.TheVariants.{SolveRight, SolveLeft, Inject, Conflict, Delete}
use Rattle.unification.specs.Built.{Built, term_of, built_of}
use Rattle.unification.specs.Laws.{Chain}
use Rattle.unification.specs.Rules.{level_of, IsAbsurd, Steps, solve_right, solve_left, inject_group, inject, delete, conflict_group, conflict, cycle_left, cycle_right, none, more}
use Rattle.unification.specs.ScopedStates.{IsReady, IsScopedStep, IsScopedAt, AreScopedSteps, variables_behind}
use Rattle.unification.specs.States.{State}
use Rattle.unification.proofs.Constructors.{instance_of, found, built-is}
use Rattle.unification.proofs.MovedStates.{solved_state-context}
use Rattle.tree_translation.specs.Comparisons.{Comparison, compared, compared_alone}
use Rattle.tree_translation.specs.ConfusionTerms.{inject_term, conflict_term}
use Rattle.tree_translation.specs.Hidden.{widened, widened_behind, widened_number}
use Rattle.tree_translation.specs.Laws.{Widens}
use Rattle.tree_translation.specs.Naming.{Naming, left_name}
use Rattle.tree_translation.specs.Replays.{level_of_first, unless_compared, step_in, behind_step, behind_run}
use Rattle.tree_translation.specs.RunTerms.{on_comparison, rule_term, run_term, compared_names, rule_names, run_names}
use Rattle.tree_translation.specs.Standings.{Standing, inside, state_term}
use Rattle.tree_translation.proofs.SeenOrders.{whole-below}
use Rattle.tree_translation.proofs.SeenSteps.{type-read, variable-seen, step-seen}
use Rattle.tree_translation.proofs.SeenTerms.{widening, widened-is}
use Rattle.entry_laws.proofs.OnlyConstants.{Each, each-left, each-right}
use Rattle.entry_laws.proofs.entry_scopes.DraftSignatures.{with_count, entry-there, ready-there}
use Rattle.entry_laws.proofs.entry_scopes.WholeStandings.{widened-scoped, IsWhole, first-there, equations-there, level-low, solved-whole, IsCompared, alone-compared, group_comparison, group-compared, group-read, alone-read, one-type, group-type, whole-step}
use Rattle.entry_laws.proofs.entry_scopes.WholeTerms.{const-scoped, elim-scoped, equality-there, state_term-scoped, solution-scoped, delete-scoped, inject-scoped, conflict-scoped}
use Rattle.entry_laws.proofs.entry_scopes.WholeCycles.{HasPrelude, SideIn, cycle-scoped}

-- how many variables there are after a step
step-count : (S : Signature) (s t : State) (step : Step) → Steps S s step t → length t.context ≡ variables_behind step.rule (length s.context)
step-count S s t _ (solve_right _ e x A u first solvable) =
    let lt = solvable.variable in solved_state-context s e.place.level (level_of (length s.context) x) A u (omega arith)
step-count S s t _ (solve_left _ e x A u first solvable) =
    let lt = solvable.variable in solved_state-context s e.place.level (level_of (length s.context) x) A u (omega arith)
step-count S s t _ (inject_group _ k f ps type b d left right same number group) = refl
step-count S s t _ (inject _ e A b d left right same number level indices first) = refl
step-count S s t _ (delete _ e A u v k first converts) = refl

-- the steps that are left
pub steps-left : (S : Signature) (s t : State) (steps rest : List Step) → Chain S s steps t → AreScopedSteps S (length s.context) (steps ++ rest)
    → AreScopedSteps S (length t.context) rest
steps-left S s t _ rest (none _) h = h
steps-left S s t _ rest (more _ r _ step steps at goes chain) h =
    steps-left S r t steps rest chain (subst (λ n. AreScopedSteps S n (steps ++ rest)) (sym (step-count S s r step goes)) h.1)

module _ (S : Signature) (count : ℕ) (ready : IsReady S) (first : HasPrelude (with_count S count)) (number : Naming) (L : ℕ) where
  -- the names have numbers of constants
  abbrev pub AreConstants : List (List ℕ) → Type 0
  AreConstants names = Each (λ name. IsConstantNumber (with_count S count) (number name)) names

  room-there : (w : Standing) → 0 < length w.state.equations → 0 < inside w
  room-there w some = omega arith

  read-scoped : (w : Standing) (s : State) (A : Term) → Widens w s → IsScoped S (length s.context) A
      → IsScoped (with_count S count) (length w.state.context) (widened_behind (length w.state.context) w.hidden 0 A)
  read-scoped w s A h hA =
      let n = length w.state.context in
      subst (IsScoped (with_count S count) n) (sym (type-read n w.hidden A ∙ sym (widened-is n w.hidden A)))
      (widened-scoped S count n (length s.context) w.hidden A h.context.count hA)

  left-scoped : (w : Standing) (s : State) (u : Term) → Widens w s → IsScoped S (length s.context) u → IsScoped (with_count S count) (length w.state.context) (widened (length w.state.context) w.hidden u)
  left-scoped w s u h hu = widened-scoped S count (length w.state.context) (length s.context) w.hidden u h.context.count hu

  number-low : (w : Standing) (s : State) (x : ℕ) → Widens w s → x < length s.context → widened_number (length w.state.context) w.hidden x < length w.state.context
  number-low w s x h lt =
      let v = variable-seen w s x h lt in
      let low = whole-below w.state.context w.hidden s.context (level_of (length w.state.context) (widened_number (length w.state.context) w.hidden x)) (level_of (length s.context) x) v in
      omega arith

  -- ---- injectivities and conflicts

  injected-scoped : (w : Standing) (g k : ℕ) (o : Option Comparison) (c : Comparison) (N : Term) → o ≡ Some c → IsWhole (with_count S count) w → 0 < inside w
      → IsCompared S count ready (length w.state.context) c → length c.family.indices ≡ k → AreConstants (compared_names L o)
      → IsScoped (with_count S count) (unless_compared w g o).depth N
      → IsScoped (with_count S count) (inside w) (on_comparison o (λ c. inject_term number L w k c N))
  injected-scoped w g k o c N e is some h indices =
      subst
      (λ o. AreConstants (compared_names L o) → IsScoped (with_count S count) (unless_compared w g o).depth N
      → IsScoped (with_count S count) (inside w) (on_comparison o (λ c. inject_term number L w k c N)))
      (sym e) (here)
    where
      here : AreConstants (compared_names L (Some c)) → IsScoped (with_count S count) (inside w) N → IsScoped (with_count S count) (inside w) (inject_term number L w k c N)
      here (Each.more named all) hN = inject-scoped S count ready w is number L k c N some named h indices hN

  conflicting-scoped : (w : Standing) (k : ℕ) (o : Option Comparison) (c : Comparison) → o ≡ Some c → IsWhole (with_count S count) w → 0 < inside w
      → IsCompared S count ready (length w.state.context) c → AreConstants (compared_names L o)
      → IsScoped (with_count S count) (inside w) (on_comparison o (conflict_term number L w k))
  conflicting-scoped w k o c e is some h =
      subst (λ o. AreConstants (compared_names L o) → IsScoped (with_count S count) (inside w) (on_comparison o (conflict_term number L w k))) (sym e) here
    where
      here : AreConstants (compared_names L (Some c)) → IsScoped (with_count S count) (inside w) (conflict_term number L w k c)
      here (Each.more named all) = conflict-scoped S count ready w is number L k c some named h

  -- ---- steps

  pub step-scoped : (s t : State) (step : Step) (w : Standing) (N : Term) → Steps S s step t → IsScopedAt S s step → Widens w s → IsWhole (with_count S count) w
      → AreConstants (rule_names S L w (step_in w step) (step_in w step).rule) → IsScoped (with_count S count) (behind_step S w step).depth N
      → IsScoped (with_count S count) (inside w) (rule_term S number L w (step_in w step) (step_in w step).rule N)
  step-scoped s t _ w N (solve_right _ e x A u is_first solvable) at h is named hN =
      let T = with_count S count in
      let n = length w.state.context in
      let step : Step = record { group = 1; rule = SolveRight x; ty = A; left = u; right = Var x } in
      let some = room-there w (first-there w s e is_first.rest h is_first.first) in
      let low = level-low S w s e is_first.rest at.0 h is_first.first in
      let hA = one-type S count ready (length s.context) step refl at.1 in
      solution-scoped S count ready w is (Elim (equality (level_of_first w.state.equations)) L) (widened_number n w.hidden x) true (widened_behind n w.hidden 0 A) (widened n w.hidden u) N some low
      (elim-scoped T (inside w) (equality (level_of_first w.state.equations)) L (equality-there T (level_of_first w.state.equations) (ready-there S count ready) low))
      (read-scoped w s A h hA) (left-scoped w s u h at.1.left) (number-low w s x h solvable.variable)
      (solved-whole S count ready w s e is_first.rest x A u is h at.0 is_first.first solvable hA at.1.left) hN
  step-scoped s t _ w N (solve_left _ e x A u is_first solvable) at h is (Each.more named all) hN =
      let T = with_count S count in
      let n = length w.state.context in
      let step : Step = record { group = 1; rule = SolveLeft x; ty = A; left = Var x; right = u } in
      let some = room-there w (first-there w s e is_first.rest h is_first.first) in
      let low = level-low S w s e is_first.rest at.0 h is_first.first in
      let hA = one-type S count ready (length s.context) step refl at.1 in
      solution-scoped S count ready w is (Const (number (left_name (level_of_first w.state.equations) L))) (widened_number n w.hidden x) false (widened_behind n w.hidden 0 A) (widened n w.hidden u) N some low
      (const-scoped T (inside w) (number (left_name (level_of_first w.state.equations) L)) named)
      (read-scoped w s A h hA) (left-scoped w s u h at.1.right) (number-low w s x h solvable.variable)
      (solved-whole S count ready w s e is_first.rest x A u is h at.0 is_first.first solvable hA at.1.right) hN
  step-scoped s t _ w N (inject_group _ k f ps type b d left right same number_same group) at h is named hN =
      let step : Step = record { group = k + 1; rule = Inject b.n b.number; ty = type; left = term_of b; right = term_of d } in
      let low = slice_get_within s.equations k group.last group.is_last in
      let some = room-there w (let many = equations-there w s h in omega arith) in
      let k_is : k + 1 - 1 ≡ k = omega arith in
      injected-scoped w (k + 1) (k + 1 - 1) (compared S w.state (step_in w step)) (group_comparison S count ready w k f ps b d) N
      (group-read S count ready w s k f ps type b d step h left right group.family group.members group.form refl refl refl refl) is some
      (group-compared S count ready w s k f ps type b d is h left right same group.family group.form (group-type S count ready (length s.context) k step refl at.1) at.1.left at.1.right)
      (group.indices ∙ sym k_is) named hN
  step-scoped s t _ w N (inject _ e A b d left right same number_same level indices is_first) at h is named hN =
      let step : Step = record { group = 1; rule = Inject b.n b.number; ty = A; left = term_of b; right = term_of d } in
      let q = widening (length w.state.context) w.hidden in
      let some = room-there w (first-there w s e is_first.rest h is_first.first) in
      injected-scoped w 1 0 (compared S w.state (step_in w step)) (compared_alone (instance_of q b) (instance_of q d)) N (alone-read S count ready w s b d step h left right refl refl refl) is some
      (alone-compared S count ready w s b d h left right same at.1.left at.1.right) (ap length indices) named hN
  step-scoped s t _ w N (delete _ e A u v k is_first converts) at h is named hN =
      let step : Step = record { group = 1; rule = Delete; ty = A; left = u; right = v } in
      let some = room-there w (first-there w s e is_first.rest h is_first.first) in
      delete-scoped S count ready w is L (widened_behind (length w.state.context) w.hidden 0 A) (widened (length w.state.context) w.hidden u) N some
      (level-low S w s e is_first.rest at.0 h is_first.first) (read-scoped w s A h (one-type S count ready (length s.context) step refl at.1)) (left-scoped w s u h at.1.left) hN

  -- ---- last steps

  side-there : (w : Standing) (is : IsWhole (with_count S count) w) (t : Term) → IsScoped (with_count S count) (length w.state.context) t
      → SideIn S count ready first w is (built_of S t)
  side-there w is t h = by (built_of S t) refl
    where
      by : (o : Option Built) → built_of S t ≡ o → SideIn S count ready first w is o
      by None e = tt
      by (Some b) e =
          let T = with_count S count in
          let n = length w.state.context in
          let parts = found S t b e in
          let built = (built-is S t b e).built in
          let k = length b.family.parameters in
          let all = spine-scoped T n t h in
          record {
            entry = entry-there S count b.n (FamilyOf b.family) built.family;
            constructor = built.constructor;
            parameters = subst (All (IsScoped T n)) (sym parts.parameters) (All-take (IsScoped T n) k (spine_of t) all);
            arguments = subst (All (IsScoped T n)) (sym parts.arguments) (All-drop (IsScoped T n) k (spine_of t) all);
            count = built.arguments;
          }

  pub last-scoped : (s : State) (step : Step) (w : Standing) (N : Term) → IsAbsurd S s step → IsScopedStep S (length s.context) step → Widens w s → IsWhole (with_count S count) w
      → AreConstants (rule_names S L w (step_in w step) (step_in w step).rule)
      → IsScoped (with_count S count) (inside w) (rule_term S number L w (step_in w step) (step_in w step).rule N)
  last-scoped s _ w N (conflict_group _ k f ps type b d left right same other group) at h is named =
      let step : Step = record { group = k + 1; rule = Conflict b.n b.number d.number; ty = type; left = term_of b; right = term_of d } in
      let low = slice_get_within s.equations k group.last group.is_last in
      let some = room-there w (let many = equations-there w s h in omega arith) in
      conflicting-scoped w (k + 1 - 1) (compared S w.state (step_in w step)) (group_comparison S count ready w k f ps b d)
      (group-read S count ready w s k f ps type b d step h left right group.family group.members group.form refl refl refl refl) is some
      (group-compared S count ready w s k f ps type b d is h left right same group.family group.form (group-type S count ready (length s.context) k step refl at) at.left at.right) named
  last-scoped s _ w N (conflict _ e A b d left right same other level is_first) at h is named =
      let step : Step = record { group = 1; rule = Conflict b.n b.number d.number; ty = A; left = term_of b; right = term_of d } in
      let q = widening (length w.state.context) w.hidden in
      let some = room-there w (first-there w s e is_first.rest h is_first.first) in
      conflicting-scoped w 0 (compared S w.state (step_in w step)) (compared_alone (instance_of q b) (instance_of q d)) (alone-read S count ready w s b d step h left right refl refl refl) is some
      (alone-compared S count ready w s b d h left right same at.left at.right) named
  last-scoped s _ w N (cycle_left _ e n x A v is_first below) at h is named =
      let m = length w.state.context in
      let some = room-there w (first-there w s e is_first.rest h is_first.first) in
      let hl = left-scoped w s (Var x) h at.left in
      let hr = left-scoped w s v h at.right in
      cycle-scoped S count ready first w is number L (widened_number m w.hidden x) (widened m w.hidden (Var x)) (widened m w.hidden v) (built_of S (widened m w.hidden (Var x)))
      (built_of S (widened m w.hidden v)) some named hl hr (side-there w is (widened m w.hidden (Var x)) hl) (side-there w is (widened m w.hidden v) hr)
  last-scoped s _ w N (cycle_right _ e n x A u is_first below) at h is named =
      let m = length w.state.context in
      let some = room-there w (first-there w s e is_first.rest h is_first.first) in
      let hl = left-scoped w s u h at.left in
      let hr = left-scoped w s (Var x) h at.right in
      cycle-scoped S count ready first w is number L (widened_number m w.hidden x) (widened m w.hidden u) (widened m w.hidden (Var x)) (built_of S (widened m w.hidden u))
      (built_of S (widened m w.hidden (Var x))) some named hl hr (side-there w is (widened m w.hidden u) hl) (side-there w is (widened m w.hidden (Var x)) hr)

  -- ---- runs

  -- the term of a run, where that of the rest of it is scoped
  pub run-scoped : (s t : State) (steps : List Step) (rest : List Step) (w : Standing) (end : Term) → Chain S s steps t → Widens w s → IsWhole (with_count S count) w
      → AreConstants (run_names S L (steps ++ rest) w)
      → (Widens (behind_run S steps w) t → IsWhole (with_count S count) (behind_run S steps w) → AreConstants (run_names S L rest (behind_run S steps w))
      → IsScoped (with_count S count) (inside (behind_run S steps w)) (run_term S number L end rest (behind_run S steps w)))
      → IsScoped (with_count S count) (inside w) (run_term S number L end (steps ++ rest) w)
  run-scoped s t _ rest w end (none _) h is named go = go h is named
  run-scoped s t _ rest w end (more _ r _ step steps at goes chain) h is named go =
      let next = behind_step S w step in
      let widens = step-seen S s r step w goes h in
      let whole = whole-step S count ready s r step w goes at h is in
      step-scoped s r step w (state_term next (run_term S number L end (steps ++ rest) next)) goes at h is (each-left _ (run_names S L (steps ++ rest) next) named)
      (state_term-scoped S count ready next whole (run_term S number L end (steps ++ rest) next)
      (run-scoped r t steps rest next end chain widens whole (each-right (rule_names S L w (step_in w step) (step_in w step).rule) (run_names S L (steps ++ rest) next) named) go))
