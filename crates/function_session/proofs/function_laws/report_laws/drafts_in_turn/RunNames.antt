-- The names that the term of a run may mention can be generated, where the level of its goal is low enough.
use Rattle.std.proofs.Common.{◌≡◌, inl, inr, ℕ, ◌+◌, ◌<◌, ◌≤◌, nat_lt, max, true, Option, Some, None, IfSome, Result, Ok, Err, IfOk, List, [], ◌∷◌, length, refl, sym, ap, ◌∙◌, subst as transport, arith}
use Rattle.std.proofs.lemmas.Bool.Decides.{nat_tests}
use Rattle.std.proofs.lemmas.Option.{slice_get_within}
use Rattle.std.proofs.lemmas.Result.{IfOk-at_ok}
use Rattle.std.proofs.lemmas.Bool.{and_from}
use Rattle.theory.specs.Terms.{Term, Var, Con, top}
use Rattle.theory.specs.Spines.{head_of}
use Rattle.theory.specs.Families.{Family}
use Rattle.theory.specs.Signatures.{Signature, FamilyOf, IsEntryAt}
use Rattle.theory.specs.SignatureScopes.{IsScoped}
use Rattle.core_terms.specs.CaseTrees.{Step}
use Rattle.core_terms.specs.declared.case_tree.Rule.TheVariants.{Inject, Conflict}
use Rattle.core_terms.specs.declared.stop.Stop.{Stop}
use Rattle.unification.specs.Built.{Built, built_of, has_no_indices, is_fitting, greatest_level}
use Rattle.unification.specs.Outcomes.{Absurd, Outcome, Solved, Stuck, steps_in}
use Rattle.unification.specs.Paths.{IsBuilt}
use Rattle.unification.specs.Rules.{IsAbsurd, Steps, conflict, conflict_group, cycle_left, cycle_right, delete, inject, inject_group, solve_left, solve_right}
use Rattle.unification.specs.Runs as unification
use Rattle.unification.specs.Runs.{Run, end_of, run_of}
use Rattle.unification.specs.Runs.Run.{ends, goes, refused}
use Rattle.unification.specs.ScopedStates.{AreScopedEquations, IsReady, IsScopedProblem, IsScopedState, IsScopedStep}
use Rattle.unification.specs.States.{Equation, Problem, State}
use Rattle.unification.specs.Turns.{Done, Fails, Goes, Sticks, Turn}
use Rattle.unification.proofs.Constructors.{built-is, found, head-instance, one-family}
use Rattle.unification.proofs.RunLaws.{runs-end}
use Rattle.unification.proofs.RunProperties.{unify-has}
use Rattle.unification.proofs.ScopedEquations.{start-is, start-scoped}
use Rattle.unification.proofs.TurnLaws.{turn-at}
use Rattle.unification.proofs.TurnProperties.{IsRight}
use Rattle.case_trees.specs.Standing.{Runs}
use Rattle.clause_reports.specs.Generated as made
use Rattle.drafts.specs.draft_entering.Conditions.{IsGeneratedName}
use Rattle.drafts.proofs.draft_entering.TableLookups.{listed-named}
use Rattle.generators.specs.acyclic_gen.AcyclicEntries.{acyclic_name}
use Rattle.generators.specs.acyclic_gen.DirectEntries.{direct_name}
use Rattle.tree_translation.specs.Comparisons.{Comparison}
use Rattle.tree_translation.specs.Hidden.{visible, widened}
use Rattle.tree_translation.specs.Laws.{Widens, widened_equations}
use Rattle.tree_translation.specs.Naming.{case_name, left_name, noconf_name}
use Rattle.tree_translation.specs.Replays.{behind_step, level_of_first, step_in}
use Rattle.tree_translation.specs.RunTerms.{compared_names, cycle_names, rule_names, run_names}
use Rattle.tree_translation.specs.Standings.{Standing, problem_state}
use Rattle.tree_translation.proofs.SeenSteps.{step-seen}
use Rattle.tree_translation.proofs.SeenTerms.{widened-is, widened-variable, widening}
use Rattle.entry_laws.proofs.replay_laws.SeenComparisons.{alone-seen, group-seen}
use Rattle.entry_laws.proofs.OnlyConstants.{Each, each-append}
use Rattle.entry_laws.proofs.name_laws.LastSides.{CycleSide, LastSide}
use Rattle.function_session.proofs.function_laws.report_laws.drafts_in_turn.CycleSides.{SideIs, SidesAre, turn-side}

-- the level of a goal, at which no confusion is made
abbrev pub IsFitting : (L : ℕ) → Type 0
IsFitting L = L + 2 < top

-- ---- names that can be generated

pub can-confuse : (S : Signature) (L n number : ℕ) (f : Family) → IsFitting L → IsEntryAt S n (FamilyOf f) → number < length f.constructors → f.level ≤ greatest_level
    → IsGeneratedName S (noconf_name f number L)
can-confuse S L n number f fits known low level =
    let test : nat_lt (max f.level (L + 1) + 1) top ≡ true = grind (arith, nat_tests, fits, level) in
    let below : L < top = omega (arith, fits) in
    listed-named S (made.NoConfusion n f number L) (known, (below, low)) test

pub can-turn : (S : Signature) (i L : ℕ) → i < top → L + 1 < top → IsGeneratedName S (left_name i L)
can-turn S i L low fits =
    let test : nat_lt (max i (L + 1)) top ≡ true = grind (arith, nat_tests, low, fits) in
    let below : L < top = omega (arith, fits) in
    listed-named S (made.Left i L) (low, below) test

pub can-analyse : (S : Signature) (L n : ℕ) (f : Family) → L < top → IsEntryAt S n (FamilyOf f) → IsGeneratedName S (case_name f L)
can-analyse S L n f low known =
    let test : nat_lt L top ≡ true = grind (arith, nat_tests, low) in
    listed-named S (made.Case n f L) (known, low) test

fitting-low : (f : Family) → is_fitting f ≡ true → nat_lt (f.level + 1) top ≡ true
fitting-low f e = grind (arith, nat_tests, e)

fitting-below : (f : Family) → is_fitting f ≡ true → f.level + 1 < top
fitting-below f e = grind (arith, nat_tests, e)

can-direct : (S : Signature) (n : ℕ) (f : Family) → IsEntryAt S n (FamilyOf f) → has_no_indices f ≡ true → is_fitting f ≡ true → IsGeneratedName S (direct_name f.name)
can-direct S n f known plain fits = listed-named S (made.Direct n f) known (and_from _ _ plain (fitting-low f fits))

can-acyclic : (S : Signature) (n : ℕ) (f : Family) → IsEntryAt S n (FamilyOf f) → has_no_indices f ≡ true → is_fitting f ≡ true → IsGeneratedName S (acyclic_name f.name)
can-acyclic S n f known plain fits = listed-named S (made.Acyclic n f) known (and_from _ _ plain (fitting-low f fits))

-- ---- rules

first-level : (S : Signature) (n : ℕ) (hidden : List ℕ) (m : ℕ) (es : List Equation) → AreScopedEquations S n 0 es → level_of_first (widened_equations m hidden 0 es) < top
first-level S n hidden m [] h = omega arith
first-level S n hidden m (e ∷ es) h = h.0.level

seen-level : (S : Signature) (s : State) (w : Standing) → Widens w s → IsScopedState S s → level_of_first w.state.equations < top
seen-level S s w h scoped =
    transport (λ es. level_of_first es < top) (sym h.equations)
    (first-level S (length s.context) w.hidden (length w.state.context) s.equations scoped.equations)

compared-fit : (S : Signature) (L : ℕ) (o : Option Comparison) (c : Comparison) → o ≡ Some c → IsGeneratedName S (noconf_name c.family c.left.number L)
    → Each (IsGeneratedName S) (compared_names L o)
compared-fit S L o c e h = transport (λ o. Each (IsGeneratedName S) (compared_names L o)) (sym e) (Each.more h Each.none)

number-there : (S : Signature) (b : Built) → IsBuilt S b → (f : Family) → b.family ≡ f → b.number < length f.constructors
number-there S b is f e = transport (λ f. b.number < length f.constructors) e (slice_get_within b.family.constructors b.number b.constructor is.constructor)

module _ (S : Signature) (L : ℕ) (fits : IsFitting L) where
  step-names : (s t : State) (step : Step) (w : Standing) → Steps S s step t → Widens w s → IsScopedState S s
      → Each (IsGeneratedName S) (rule_names S L w (step_in w step) (step_in w step).rule)
  step-names s t _ w (solve_right _ e x A u first solvable) h scoped = Each.none
  step-names s t _ w (solve_left _ e x A u first solvable) h scoped =
      Each.more (can-turn S (level_of_first w.state.equations) L (seen-level S s w h scoped) (omega (arith, fits))) Each.none
  step-names s t _ w (inject_group _ k f ps type b d left right same number group) h scoped =
      compared-fit S L _ _ (group-seen S s w (Inject b.n b.number) k f ps type b d left right group)
      (can-confuse S L b.n b.number f fits group.family
      (number-there S b left f (one-family S b.n b.n b.family f left.family group.family refl)) group.level)
  step-names s t _ w (inject _ e A b d left right same number level indices first) h scoped =
      compared-fit S L _ _ (alone-seen S w (Inject b.n b.number) A b d left right)
      (can-confuse S L b.n b.number b.family fits left.family (number-there S b left b.family refl) level)
  step-names s t _ w (delete _ e A u v k first converts) h scoped = Each.none

  no-side : (w : Standing) (s : State) (x : ℕ) → Widens w s → x < length s.context → built_of S (widened (length w.state.context) w.hidden (Var x)) ≡ None
  no-side w s x h lt =
      let count : length s.context ≡ length (visible (length w.state.context) w.hidden) = h.context.count in
      ap (built_of S) (widened-is (length w.state.context) w.hidden (Var x) ∙ widened-variable (length w.state.context) w.hidden x (omega arith))

  -- what is found of a side is of a family that acyclicity is made for
  abbrev Acyclic : Built → Type 0
  Acyclic b = IsEntryAt S b.n (FamilyOf b.family) × (has_no_indices b.family ≡ true) × (is_fitting b.family ≡ true)

  con_family : Term → ℕ
  con_family (Con n c) = n
  con_family t = 0

  side-acyclic : (w : Standing) (s : State) (x : ℕ) (t : Term) → Widens w s → x < length s.context → SideIs S x t
      → (b : Built) → built_of S (widened (length w.state.context) w.hidden t) ≡ Some b → Acyclic b
  unfolding con_family
  side-acyclic w s x t h lt (inl is) b e =
      absurd (none-some b (sym (no-side w s x h lt) ∙ (ap (λ t. built_of S (widened (length w.state.context) w.hidden t)) (sym is) ∙ e)))
    where
      none-some : (b : Built) → None ≡ Some b → ⊥
      none-some b e = grind (arith, e)
  side-acyclic w s x t h lt (inr is) b e =
      let u = widened (length w.state.context) w.hidden t in
      let moved = ap head_of (widened-is (length w.state.context) w.hidden t) ∙ (head-instance (widening (length w.state.context) w.hidden) t is.n is.number is.head).0 in
      let same : is.n ≡ b.n = ap con_family (sym moved ∙ (found S u b e).head) in
      let built = (built-is S u b e).built in
      let family : is.family ≡ b.family = one-family S is.n b.n is.family b.family is.known built.family same in (
        built.family,
        transport (λ f. has_no_indices f ≡ true) family is.plain,
        transport (λ f. is_fitting f ≡ true) family is.fits,
      )

  cycle-fits : (left right : Option Built) → ((b : Built) → left ≡ Some b → Acyclic b) → ((b : Built) → right ≡ Some b → Acyclic b)
      → Each (IsGeneratedName S) (cycle_names left right)
  cycle-fits left (Some b) h k =
      let a = k b refl in
      Each.more (can-direct S b.n b.family a.0 a.1 a.2) (Each.more (can-acyclic S b.n b.family a.0 a.1 a.2) Each.none)
  cycle-fits (Some b) None h k =
      let a = h b refl in
      let low = fitting-below b.family a.2 in
      Each.more (can-direct S b.n b.family a.0 a.1 a.2)
      (Each.more (can-turn S b.family.level b.family.level (omega (arith, low)) low) (Each.more (can-acyclic S b.n b.family a.0 a.1 a.2) Each.none))
  cycle-fits None None h k = Each.none

  var-low : (n v : ℕ) → IsScoped S n (Var v) → v < n
  var-low n v h = omega (arith, h.variables)

  last-names : (s : State) (step : Step) (w : Standing) → IsAbsurd S s step → IsScopedStep S (length s.context) step → CycleSide (SidesAre S) step step.rule → Widens w s
      → Each (IsGeneratedName S) (rule_names S L w (step_in w step) (step_in w step).rule)
  last-names s _ w (conflict_group _ k f ps type b d left right family number group) scoped side h =
      compared-fit S L _ _ (group-seen S s w (Conflict b.n b.number d.number) k f ps type b d left right group)
      (can-confuse S L b.n b.number f fits group.family
      (number-there S b left f (one-family S b.n b.n b.family f left.family group.family refl)) group.level)
  last-names s _ w (conflict _ e A b d left right family number level first) scoped side h =
      compared-fit S L _ _ (alone-seen S w (Conflict b.n b.number d.number) A b d left right)
      (can-confuse S L b.n b.number b.family fits left.family (number-there S b left b.family refl) level)
  last-names s _ w (cycle_left _ e n x A v first below) scoped side h =
      let lt = var-low (length s.context) x scoped.left in
      cycle-fits (built_of S (widened (length w.state.context) w.hidden (Var x))) (built_of S (widened (length w.state.context) w.hidden v))
      (side-acyclic w s x (Var x) h lt side.0) (side-acyclic w s x v h lt side.1)
  last-names s _ w (cycle_right _ e n x A u first below) scoped side h =
      let lt = var-low (length s.context) x scoped.right in
      cycle-fits (built_of S (widened (length w.state.context) w.hidden u)) (built_of S (widened (length w.state.context) w.hidden (Var x)))
      (side-acyclic w s x u h lt side.0) (side-acyclic w s x (Var x) h lt side.1)

  -- ---- runs

  abbrev Holds : Standing → Outcome → Type 0
  Holds w outcome = Each (IsGeneratedName S) (run_names S L (steps_in outcome) w)

  end-names : (s : State) (turn : Turn) (w : Standing) → IsRight S s turn → LastSide (SidesAre S) turn → Widens w s → IfSome (end_of s turn) (Holds w)
  end-names s Done w right side h = Each.none
  end-names s (Goes step t) w right side h = tt
  end-names s (Fails step u v) w right side h = each-append _ [] (last-names s step w right.follows.0 right.good.0.0 side h) Each.none
  end-names s (Sticks why u v) w right side h = Each.none

  one-more : (w : Standing) (step : Step) (result : Result Outcome Stop) → Each (IsGeneratedName S) (rule_names S L w (step_in w step) (step_in w step).rule)
      → IfOk result (Holds (behind_step S w step)) → IfOk (unification.behind_step step result) (Holds w)
  one-more w step (Ok (Solved steps context solution)) h k = each-append _ _ h k
  one-more w step (Ok (Absurd steps context u v)) h k = each-append _ _ h k
  one-more w step (Ok (Stuck steps context u v why)) h k = each-append _ _ h k
  one-more w step (Err e) h k = tt

  run-fits : (s : State) (left end : ℕ) (result : Result Outcome Stop) (w : Standing) → IsReady S → IsScopedState S s → Widens w s
      → Run S s left result end → IfOk result (Holds w)
  run-fits s left end result w ready scoped h (ends _ _ rest turn outcome is e) =
      transport (λ o. IfSome o (Holds w)) e (end-names s turn w ((turn-at S s left rest turn is).right ready scoped) (turn-side S s left rest turn is) h)
  run-fits s left end result w ready scoped h (refused _ _ rest x is) = tt
  run-fits s left end result w ready scoped h (goes _ t _ rest _ step result' is run) =
      one-more w step result' (step-names s t step w right.follows h scoped)
      (run-fits t rest end result' (behind_step S w step) ready right.good.0.1 (step-seen S s t step w right.follows h) run)
    where
      right : IsRight S s (Goes step t)
      right = (turn-at S s left rest (Goes step t) is).right ready scoped

  -- the names of the run of a problem
  pub problem-names : (p : Problem) (outcome : Outcome) (w : Standing) → IsReady S → IsScopedProblem S p → Runs S p outcome → Widens w (problem_state p)
      → Each (IsGeneratedName S) (run_names S L (steps_in outcome) w)
  problem-names p outcome w ready scoped runs widens =
      IfOk-at_ok (Holds w) runs.run
      (unify-has S p runs.units (Holds w) (λ s start.
      run-fits s runs.units (run_of S s runs.units).1 (run_of S s runs.units).0 w ready (IfOk-at_ok (IsScopedState S) start (start-scoped S p ready scoped))
      (transport (Widens w) (sym (start-is p s start)) widens) (runs-end S s runs.units)))
