-- The terms of rules and runs mention their names in their order.
use Rattle.std.proofs.Common.{◌≡◌, ℕ, ◌+◌, ◌-◌, ◌<◌, Bool, true, false, cond, Option, Some, None, List, [], ◌∷◌, ◌++◌, length, map, drop, get_or, refl, sym, ap, ap₂, ◌∙◌, append_assoc}
use Rattle.std.proofs.lemmas.List.{append-nil}
use Rattle.theory.specs.Terms.{Term, Var, Sort, Lam, App, Const, Fam, Elim, AxiomK}
use Rattle.theory.specs.Substitutions.{inst, fill}
use Rattle.theory.specs.Telescopes.{functions, applied}
use Rattle.theory.specs.Eliminators.{no_variable}
use Rattle.theory.specs.Signatures.{Signature, equality, reflexivity, equation}
use Rattle.core_terms.specs.CaseTrees.{Step}
use Rattle.core_terms.specs.Levels.{variable}
use Rattle.core_terms.specs.declared.case_tree.Rule.{Rule}
use Rattle.core_terms.specs.declared.case_tree.Rule.TheVariants.{SolveRight, SolveLeft, Inject, Conflict, Cycle, Delete}
use Rattle.core_sig.specs.FamilyShapes.{family_shape}
use Rattle.case_below_gen.specs.PartTests.{constructor_of, in_constructor}
use Rattle.generators.specs.acyclic_gen.AcyclicEntries.{acyclic_name}
use Rattle.generators.specs.acyclic_gen.DirectEntries.{direct_name}
use Rattle.unification.specs.Built.{Built, built_of}
use Rattle.unification.specs.Occurrences.{dependants}
use Rattle.unification.specs.Rules.{level_of}
use Rattle.tree_translation.specs.Naming.{Naming, mentions, left_name, noconf_name}
use Rattle.tree_translation.specs.Standings.{Standing, inside, here, all_here, first_equations, further_equations, levels_from, placed, placed_telescope, state_term}
use Rattle.tree_translation.specs.Comparisons.{Comparison, compared, right_member, group_equations}
use Rattle.tree_translation.specs.Replays.{level_of_first, kept, solved_standing, step_in, behind_step}
use Rattle.tree_translation.specs.SolutionTerms.{remaining_goal, solution_motive, solution_method, solution_term, delete_term}
use Rattle.tree_translation.specs.ConfusionTerms.{confused, compared_equations, inject_term, conflict_term}
use Rattle.tree_translation.specs.CycleTerms.{Search, is_below_along, component_for, cycle_motive, number_here, search_at, carrier_type, transported_acyclic, cycle_term}
use Rattle.tree_translation.specs.RunTerms.{on_comparison, on_side, rule_term, run_term, compared_names, cycle_names, rule_names, run_names}
use Rattle.entry_laws.proofs.OnlyConstants.{Each, each-append, HasOnly, only-applied, only-filled}
use Rattle.entry_laws.proofs.OnlyEquations.{only-reflexivity}
use Rattle.entry_laws.proofs.OnlyFamilies.{FamiliesOnly, BuiltOnly}
use Rattle.entry_laws.proofs.OnlyRuns.{NumbersHave, only-rule_term}
use Rattle.entry_laws.proofs.OnlyStates.{StandingOnly, StepOnly, OptionOnly, only-placed, only-all_placed, only-placed_telescope, only-types, only-built_of, only-step_in, only-behind_step}
use Rattle.entry_laws.proofs.name_laws.FirstPlaces.{Same, same-refl, same-is, same-trans, same-append, repeats-first, repeats-before}
use Rattle.entry_laws.proofs.name_laws.ToldNames.{told, told-append}
use Rattle.entry_laws.proofs.name_laws.ToldTerms.{IsOld, old-mentions, all-old, mentions-applied, mentions-functions, one-other, applied-parts, functions-types, each-first, each-around}
use Rattle.entry_laws.proofs.name_laws.ToldCycles.{IsOldSearch, for-tells, for-first, motive-told}

-- ---- the conditions on runs

-- the variable occurs below the constructor on the left, along direct arguments
abbrev pub StandsBelow : Standing → (x : ℕ) → (left : Term) → (from_left from_right : Option Built) → Type 0
StandsBelow s x left None from_right = Unit {0}
StandsBelow s x left (Some b) (Some d) = Unit {0}
StandsBelow s x left (Some b) None =
    (number : Naming) →
    in_constructor (constructor_of b.n (family_shape b.n b.family) (here s left))
    (λ inner. is_below_along (search_at number s (number_here s x) b) inner (length inner) (here s left))
    ≡ true

-- A rule that compares finds what it compares. A last rule has no step after it, and a cycle has its variable in its side.
abbrev pub GoesBy : Signature → Standing → Step → Rule → (steps : List Step) → Type 0
GoesBy S s step (Inject n c) steps = (comparison : Comparison) × (compared S s.state step ≡ Some comparison)
GoesBy S s step (Conflict n c d) steps = steps ≡ []
GoesBy S s step (Cycle x) steps = (steps ≡ []) × StandsBelow s x step.left (built_of S step.left) (built_of S step.right)
GoesBy S s step rule steps = Unit {0}

abbrev pub RunGoes : Signature → List Step → Standing → Type 0
RunGoes S [] s = Unit {0}
RunGoes S (step ∷ steps) s = GoesBy S s (step_in s step) (step_in s step).rule steps × RunGoes S steps (behind_step S s step)

module _ (S : Signature) (bound : ℕ) (some : 0 < bound) (families : FamiliesOnly (λ c. c < bound) S) (number : Naming) (L : ℕ) where
  -- all names have the number of an entry
  abbrev pub old_number : Naming
  old_number name = 0

  pub numbered : (names : List (List ℕ)) → NumbersHave (λ c. c < bound) old_number names
  numbered [] = Each.none
  numbered (name ∷ names) = Each.more some (numbered names)

  -- ---- solutions and deletions

  solution-told : (head old_head : Term) (s : Standing) (x : ℕ) (on_right : Bool) (A u : Term) (next : Standing) (N : Term)
      → IsOld bound (solution_term old_head s x on_right A u next (Sort 0))
      → mentions bound (solution_term head s x on_right A u next N) ≡ mentions bound head ++ mentions bound N
  solution-told head old_head s x on_right A u next N h =
      let p = level_of (length s.state.context) x in
      let moved = dependants s.state.context p in
      let fixed = map (λ j. get_or s.variables j 0) (kept s.state p) in
      let tele = placed_telescope fixed (inside s) (drop (length fixed) next.state.context) in
      let before = here s A ∷ here s u ∷ solution_motive s p on_right A u ∷ [] in
      let after = here s (Var x) ∷ (first_equations s 1 ++ (map (λ j. variable (inside s) (get_or s.variables j 0)) moved ++ further_equations s 1)) in
      let parts = applied-parts old_head (before ++ solution_method s p next (Sort 0) ∷ after) h in
      let around = each-around before after (solution_method s p next (Sort 0)) parts.terms in
      one-other bound head (solution_method s p next N) before after around.0 around.2
      ∙ ap (λ rest. mentions bound head ++ rest) (mentions-functions bound tele N (functions-types tele (Sort 0) around.1))

  delete-told : (s : Standing) (A u N : Term) → IsOld bound (delete_term L s A u (Sort 0)) → mentions bound (delete_term L s A u N) ≡ mentions bound N
  delete-told s A u N h =
      let i = level_of_first s.state.equations in
      let depth = inside s in
      let motive = Lam (equation i (here s A) (here s u) (here s u)) (remaining_goal s 1 s.variables (depth ∷ []) (depth + 1)) in
      let before = here s A ∷ here s u ∷ motive ∷ [] in
      let after = first_equations s 1 ++ further_equations s 1 in
      let parts = applied-parts (AxiomK i L) (before ++ Sort 0 ∷ after) h in
      let around = each-around before after (Sort 0) parts.terms in
      one-other bound (AxiomK i L) N before after around.0 around.2

  -- ---- comparisons

  confused-told : (s : Standing) (k : ℕ) (c : Comparison) → IsOld bound (confused old_number L s k c)
      → mentions bound (confused number L s k c) ≡ mentions bound (Const (number (noconf_name c.family c.left.number L)))
  confused-told s k c h =
      let rest = all_here s c.parameters ++ (all_here s c.left.arguments ++ (all_here s (right_member c) ++ group_equations s c k)) in
      let parts = applied-parts (Const 0) rest h in
      mentions-applied bound (Const (number (noconf_name c.family c.left.number L))) rest
      ∙ (ap (λ more. mentions bound (Const (number (noconf_name c.family c.left.number L))) ++ more) (all-old bound rest parts.terms)
      ∙ append-nil (mentions bound (Const (number (noconf_name c.family c.left.number L)))))

  inject-told : (s : Standing) (k : ℕ) (c : Comparison) (N : Term) → IsOld bound (inject_term old_number L s k c (Sort 0))
      → mentions bound (inject_term number L s k c N) ≡ mentions bound (Const (number (noconf_name c.family c.left.number L))) ++ mentions bound N
  inject-told s k c N h =
      let depth = inside s in
      let g = k + 1 in
      let motive = functions (compared_equations s c) (remaining_goal s g s.variables (levels_from depth g) (depth + g)) in
      let parts = applied-parts (confused old_number L s k c) (motive ∷ Sort 0 ∷ further_equations s g) h in
      let around = each-around (motive ∷ []) (further_equations s g) (Sort 0) parts.terms in
      one-other bound (confused number L s k c) N (motive ∷ []) (further_equations s g) around.0 around.2
      ∙ ap (λ first. first ++ mentions bound N) (confused-told s k c parts.head)

  conflict-told : (s : Standing) (k : ℕ) (c : Comparison) → IsOld bound (conflict_term old_number L s k c)
      → mentions bound (conflict_term number L s k c) ≡ mentions bound (Const (number (noconf_name c.family c.left.number L)))
  conflict-told s k c h =
      let types = compared_equations s c in
      let goal = functions types (placed s.variables (inside s + length types) s.goal) in
      let parts = applied-parts (confused old_number L s k c) (goal ∷ []) h in
      ap₂ ◌++◌ (confused-told s k c parts.head) (old-mentions bound goal (each-first goal [] parts.terms))
      ∙ append-nil (mentions bound (Const (number (noconf_name c.family c.left.number L))))

  -- ---- cycles

  -- the mentions of the constant with the number of a name
  abbrev of_name : List ℕ → List ℕ
  of_name name = mentions bound (Const (number name))

  module _ (s : Standing) (h : StandingOnly (λ c. c < bound) s) (x : ℕ) (b : Built) (hb : BuiltOnly (λ c. c < bound) b) where
    abbrev found : Search
    found = search_at number s (number_here s x) b

    old-search : IsOldSearch bound (search_at number s (number_here s x) b)
    old-search = record { parameters = only-all_placed s.variables (inside s) b.parameters hb.parameters }

    type-old : IsOld bound (carrier_type (search_at number s (number_here s x) b))
    type-old = only-applied (Fam b.n) (all_here s b.parameters) HasOnly.of_fam (only-all_placed s.variables (inside s) b.parameters hb.parameters)

    transported-told : (from_left : Bool) (side e : Term) → IsOld bound side → IsOld bound e
        → mentions bound (transported_acyclic number from_left b found side e)
        ≡ mentions bound (cond from_left (Elim (equality b.family.level) b.family.level) (Const (number (left_name b.family.level b.family.level))))
        ++ (of_name (direct_name b.family.name) ++ of_name (acyclic_name b.family.name))
    transported-told from_left side e hs he =
        let values = all_here s b.parameters ++ Var (number_here s x) ∷ [] in
        let old = only-all_placed s.variables (inside s) b.parameters hb.parameters in
        let motive = inst (fill no_variable values) (cycle_motive found.carrier from_left) in
        let head = cond from_left (Elim (equality b.family.level) b.family.level) (Const (number (left_name b.family.level b.family.level))) in
        let acyclic = App (applied (Const (number (acyclic_name b.family.name))) (all_here s b.parameters)) (Var (number_here s x)) in
        mentions-applied bound head (carrier_type found ∷ Var (number_here s x) ∷ motive ∷ acyclic ∷ side ∷ e ∷ [])
        ∙ ap (λ rest. mentions bound head ++ rest)
        (ap (λ first. first ++ (mentions bound motive ++ (mentions bound acyclic ++ (mentions bound side ++ (mentions bound e ++ []))))) (old-mentions bound (carrier_type found) type-old)
        ∙ ap₂ ◌++◌
        (motive-told bound found.carrier from_left (fill no_variable values)
        (λ v. old-mentions bound (fill no_variable values v)
        (only-filled values (each-append (all_here s b.parameters) (Var (number_here s x) ∷ []) old (Each.more HasOnly.of_var Each.none)) v)))
        (ap₂ ◌++◌
        (append-nil (mentions bound (applied (Const (number (acyclic_name b.family.name))) (all_here s b.parameters)))
        ∙ (mentions-applied bound (Const (number (acyclic_name b.family.name))) (all_here s b.parameters)
        ∙ (ap (λ rest. of_name (acyclic_name b.family.name) ++ rest) (all-old bound (all_here s b.parameters) old) ∙ append-nil (of_name (acyclic_name b.family.name)))))
        (ap₂ ◌++◌ (old-mentions bound side hs) (ap₂ ◌++◌ (old-mentions bound e he) refl))
        ∙ append-nil (of_name (acyclic_name b.family.name))))

    -- the terms around the refutation mention nothing
    around-told : (from_left : Bool) (side : Term) (places : List ℕ)
        → Same
        (mentions bound (component_for found (here s side) (transported_acyclic number from_left b found (here s side) (Var (inside s - (s.depth + 1)))))) places
        → Same (mentions bound (cycle_term number L s x from_left b side)) places
    around-told from_left side places k =
        let refuted = component_for found (here s side) (transported_acyclic number from_left b found (here s side) (Var (inside s - (s.depth + 1)))) in
        same-trans (mentions bound (cycle_term number L s x from_left b side)) (mentions bound refuted) places
        (same-is (mentions bound (cycle_term number L s x from_left b side)) (mentions bound refuted)
        (ap₂ ◌++◌ (old-mentions bound (placed s.variables (inside s + 1) s.goal) (only-placed s.variables (inside s + 1) s.goal h.goal))
        (ap (λ last. mentions bound refuted ++ last)
        (old-mentions bound (reflexivity b.family.level (carrier_type found) (Var (number_here s x)))
        (only-reflexivity b.family.level (carrier_type found) (Var (number_here s x)) type-old HasOnly.of_var))
        ∙ append-nil (mentions bound refuted))))
        k

    from_right-told : (side : Term) → IsOld bound side
        → Same (mentions bound (cycle_term number L s x true b side)) (of_name (direct_name b.family.name) ++ (of_name (acyclic_name b.family.name) ++ []))
    from_right-told side hs =
        let D = of_name (direct_name b.family.name) in
        let A = of_name (acyclic_name b.family.name) in
        let old = only-placed s.variables (inside s) side hs in
        let tuple = transported_acyclic number true b found (here s side) (Var (inside s - (s.depth + 1))) in
        around-told true side (D ++ (A ++ []))
        (for-tells bound found old-search (here s side) tuple (A ++ []) old
        (same-is (mentions bound tuple) (D ++ (A ++ [])) (transported-told true (here s side) (Var (inside s - (s.depth + 1))) old HasOnly.of_var ∙ ap (λ last. D ++ last) (sym (append-nil A)))))

    from_left-told : (side : Term) → IsOld bound side
        → in_constructor (constructor_of b.n (family_shape b.n b.family) (here s side)) (λ inner. is_below_along found inner (length inner) (here s side)) ≡ true
        → Same (mentions bound (cycle_term number L s x false b side))
        (of_name (direct_name b.family.name) ++ (of_name (left_name b.family.level b.family.level) ++ (of_name (acyclic_name b.family.name) ++ [])))
    from_left-told side hs below =
        let D = of_name (direct_name b.family.name) in
        let A = of_name (acyclic_name b.family.name) in
        let B = of_name (left_name b.family.level b.family.level) in
        let old = only-placed s.variables (inside s) side hs in
        let tuple = transported_acyclic number false b found (here s side) (Var (inside s - (s.depth + 1))) in
        around-told false side (D ++ (B ++ (A ++ [])))
        (same-trans _ (D ++ mentions bound tuple) (D ++ (B ++ (A ++ []))) (for-first bound found old-search (here s side) tuple old below)
        (same-trans (D ++ mentions bound tuple) ((D ++ B) ++ (D ++ (A ++ []))) (D ++ (B ++ (A ++ [])))
        (same-is (D ++ mentions bound tuple) ((D ++ B) ++ (D ++ (A ++ [])))
        (ap (λ rest. D ++ rest) (transported-told false (here s side) (Var (inside s - (s.depth + 1))) old HasOnly.of_var ∙ ap (λ last. B ++ (D ++ last)) (sym (append-nil A)))
        ∙ sym (append_assoc D B (D ++ (A ++ [])))))
        (same-trans ((D ++ B) ++ (D ++ (A ++ []))) ((D ++ B) ++ (A ++ [])) (D ++ (B ++ (A ++ []))) (repeats-before (D ++ B) D (A ++ []) (repeats-first D B))
        (same-is ((D ++ B) ++ (A ++ [])) (D ++ (B ++ (A ++ []))) (append_assoc D B (A ++ []))))))

  cycle-told : (s : Standing) (x : ℕ) (left right : Term) (from_left from_right : Option Built) → StandingOnly (λ c. c < bound) s → IsOld bound left → IsOld bound right
      → OptionOnly (BuiltOnly (λ c. c < bound)) from_left → OptionOnly (BuiltOnly (λ c. c < bound)) from_right → StandsBelow s x left from_left from_right
      → Same (mentions bound (on_side left right from_left from_right (cycle_term number L s x))) (told bound number (cycle_names from_left from_right))
  cycle-told s x left right (Some d) (Some b) h hl hr hd hb below = from_right-told s h x b hb right hr
  cycle-told s x left right None (Some b) h hl hr hd hb below = from_right-told s h x b hb right hr
  cycle-told s x left right (Some b) None h hl hr hb hd below = from_left-told s h x b hb left hl (below number)
  cycle-told s x left right None None h hl hr hd hb below = same-refl []

  -- ---- rules

  -- the term of a rule mentions its names, and then what the rest of the run does
  rule-told : (s : Standing) (step : Step) (rule : Rule) (N : Term) (steps : List Step) (rest : List ℕ) → StandingOnly (λ c. c < bound) s → StepOnly (λ c. c < bound) step
      → GoesBy S s step rule steps → Same (mentions bound N) rest → (steps ≡ [] → rest ≡ [])
      → Same (mentions bound (rule_term S number L s step rule N)) (told bound number (rule_names S L s step rule) ++ rest)
  rule-told s step (SolveRight x) N steps rest h hs goes k last =
      same-trans _ (mentions bound N) rest
      (same-is (mentions bound (rule_term S number L s step (SolveRight x) N)) (mentions bound N)
      (solution-told (Elim (equality (level_of_first s.state.equations)) L) (Elim (equality (level_of_first s.state.equations)) L) s x true step.ty step.left (solved_standing s x step.ty step.left) N
      (only-rule_term S old_number L s step (SolveRight x) (Sort 0) families (numbered (rule_names S L s step (SolveRight x))) h hs HasOnly.of_sort)))
      k
  rule-told s step (SolveLeft x) N steps rest h hs goes k last =
      let name = left_name (level_of_first s.state.equations) L in
      same-trans _ (of_name name ++ mentions bound N) ((of_name name ++ []) ++ rest)
      (same-is (mentions bound (rule_term S number L s step (SolveLeft x) N)) (of_name name ++ mentions bound N)
      (solution-told (Const (number name)) (Const 0) s x false step.ty step.right (solved_standing s x step.ty step.right) N
      (only-rule_term S old_number L s step (SolveLeft x) (Sort 0) families (numbered (rule_names S L s step (SolveLeft x))) h hs HasOnly.of_sort)))
      (same-append (of_name name) (of_name name ++ []) (mentions bound N) rest (same-is (of_name name) (of_name name ++ []) (sym (append-nil (of_name name)))) k)
  rule-told s step (Inject n c) N steps rest h hs (comparison, is) k last =
      by (compared S s.state step) is
      (only-rule_term S old_number L s step (Inject n c) (Sort 0) families (numbered (rule_names S L s step (Inject n c))) h hs HasOnly.of_sort)
    where
      by : (o : Option Comparison) → o ≡ Some comparison → IsOld bound (on_comparison o (λ c. inject_term old_number L s (step.group - 1) c (Sort 0)))
          → Same (mentions bound (on_comparison o (λ c. inject_term number L s (step.group - 1) c N))) (told bound number (compared_names L o) ++ rest)
      by None e old = absurd (cc)
      by (Some c) e old =
          let name = noconf_name c.family c.left.number L in
          same-trans _ (of_name name ++ mentions bound N) ((of_name name ++ []) ++ rest)
          (same-is (mentions bound (inject_term number L s (step.group - 1) c N)) (of_name name ++ mentions bound N) (inject-told s (step.group - 1) c N old))
          (same-append (of_name name) (of_name name ++ []) (mentions bound N) rest (same-is (of_name name) (of_name name ++ []) (sym (append-nil (of_name name)))) k)
  rule-told s step (Conflict n c d) N steps rest h hs goes k last =
      by (compared S s.state step)
      (only-rule_term S old_number L s step (Conflict n c d) (Sort 0) families (numbered (rule_names S L s step (Conflict n c d))) h hs HasOnly.of_sort)
    where
      by : (o : Option Comparison) → IsOld bound (on_comparison o (conflict_term old_number L s (step.group - 1)))
          → Same (mentions bound (on_comparison o (conflict_term number L s (step.group - 1)))) (told bound number (compared_names L o) ++ rest)
      by None old = same-is [] rest (sym (last goes))
      by (Some c) old =
          let name = noconf_name c.family c.left.number L in
          same-is (mentions bound (conflict_term number L s (step.group - 1) c)) ((of_name name ++ []) ++ rest)
          (conflict-told s (step.group - 1) c old
          ∙ (sym (append-nil (of_name name)) ∙ (sym (append-nil (of_name name ++ [])) ∙ ap (λ more. (of_name name ++ []) ++ more) (sym (last goes)))))
  rule-told s step (Cycle x) N steps rest h hs (none, below) k last =
      let names = cycle_names (built_of S step.left) (built_of S step.right) in
      same-trans _ (told bound number names) (told bound number names ++ rest)
      (cycle-told s x step.left step.right (built_of S step.left) (built_of S step.right) h hs.left hs.right (only-built_of S step.left families hs.left)
      (only-built_of S step.right families hs.right) below)
      (same-is (told bound number names) (told bound number names ++ rest)
      (sym (append-nil (told bound number names)) ∙ ap (λ more. told bound number names ++ more) (sym (last none))))
  rule-told s step Delete N steps rest h hs goes k last =
      same-trans _ (mentions bound N) rest
      (same-is (mentions bound (rule_term S number L s step Delete N)) (mentions bound N)
      (delete-told s step.ty step.left N (only-rule_term S old_number L s step Delete (Sort 0) families Each.none h hs HasOnly.of_sort)))
      k

  -- ---- runs

  pub state-told : (s : Standing) (inner : Term) → StandingOnly (λ c. c < bound) s → mentions bound (state_term s inner) ≡ mentions bound inner
  state-told s inner h =
      mentions-functions bound (placed_telescope s.variables s.depth _) inner (only-placed_telescope s.variables s.depth _ (only-types s.state.equations h.state.equations))

  no-names : (steps : List Step) (s : Standing) → steps ≡ [] → told bound number (run_names S L steps s) ≡ []
  no-names [] s e = refl
  no-names (step ∷ steps) s e = absurd (cc)

  pub run-told : (end : Term) (steps : List Step) (s : Standing) → StandingOnly (λ c. c < bound) s → Each (StepOnly (λ c. c < bound)) steps → IsOld bound end
      → RunGoes S steps s → Same (mentions bound (run_term S number L end steps s)) (told bound number (run_names S L steps s))
  run-told end [] s h Each.none he goes =
      same-is (mentions bound (placed s.variables (inside s) end)) [] (old-mentions bound (placed s.variables (inside s) end) (only-placed s.variables (inside s) end he))
  run-told end (step ∷ steps) s h (Each.more hs all) he goes =
      let next = behind_step S s step in
      let hn = only-behind_step S s step families h hs in
      let inner = run_term S number L end steps next in
      let rest = told bound number (run_names S L steps next) in
      let names = rule_names S L s (step_in s step) (step_in s step).rule in
      same-trans _ (told bound number names ++ rest) (told bound number (names ++ run_names S L steps next))
      (rule-told s (step_in s step) (step_in s step).rule (state_term next inner) steps rest h (only-step_in s step hs) goes.0
      (same-trans (mentions bound (state_term next inner)) (mentions bound inner) rest (same-is (mentions bound (state_term next inner)) (mentions bound inner) (state-told next inner hn))
      (run-told end steps next hn all he goes.1))
      (no-names steps next))
      (same-is (told bound number names ++ rest) (told bound number (names ++ run_names S L steps next)) (sym (told-append bound number names (run_names S L steps next))))
