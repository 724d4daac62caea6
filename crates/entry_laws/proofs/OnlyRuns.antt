-- The terms of rules and runs have constants of one kind, where the names that they may mention have numbers of that kind.
use Rattle.std.proofs.Common.{ℕ, zero, suc, ◌+◌, ◌-◌, Bool, true, false, Option, Some, None, List, [], ◌∷◌, ◌++◌, map, length, take, drop, get_or}
use Rattle.theory.specs.Terms.{Term, Var, Const, Elim, AxiomK}
use Rattle.theory.specs.Signatures.{Signature, equality}
use Rattle.core_terms.specs.CaseTrees.{Step}
use Rattle.core_terms.specs.Levels.{variable}
use Rattle.core_terms.specs.declared.case_tree.Rule.{Rule}
use Rattle.core_terms.specs.declared.case_tree.Rule.TheVariants.{SolveRight, SolveLeft, Inject, Conflict, Cycle, Delete}
use Rattle.tele_eq.specs.TelescopicEquality.{equations, reflexivities}
use Rattle.unification.specs.Rules.{level_of}
use Rattle.unification.specs.States.{types_as_they_stand}
use Rattle.unification.specs.Occurrences.{dependants}
use Rattle.unification.specs.Solving.{new_context}
use Rattle.unification.specs.Records.{family_items}
use Rattle.unification.specs.Built.{Built, built_of}
use Rattle.tree_translation.specs.Naming.{Naming, left_name, noconf_name}
use Rattle.tree_translation.specs.Standings.{Standing, inside, equation_count, first_equations, further_equations, here, all_here, at_levels, placed_telescope, levels_from}
use Rattle.tree_translation.specs.Comparisons.{Comparison, member, left_member, right_member, targets, group_equations, compared}
use Rattle.tree_translation.specs.Replays.{level_of_first, kept, solved_standing, step_in, behind_step}
use Rattle.tree_translation.specs.SolutionTerms.{remaining_goal, motive_levels, within, equation_with, solution_motive, solution_term, delete_term}
use Rattle.tree_translation.specs.ConfusionTerms.{confused, compared_equations, inject_term, conflict_term}
use Rattle.tree_translation.specs.RunTerms.{on_comparison, rule_term, run_term, compared_names, rule_names, run_names}
use Rattle.entry_laws.proofs.OnlyConstants.{Each, each-append, each-left, each-right, each-drop, HasOnly, only-products, only-functions, only-applied, only-run}
use Rattle.entry_laws.proofs.OnlyEquations.{only-equation_of, only-equations, only-reflexivities, ItemsOnly}
use Rattle.entry_laws.proofs.OnlyFamilies.{FamiliesOnly, BuiltOnly, only-family_items}
use Rattle.entry_laws.proofs.OnlyStates.{StandingOnly, StepOnly, ComparisonOnly, OptionOnly, only-placed, only-all_placed, only-placed_telescope, only-types, only-new_context, only-targets, only-compared, only-built_of, only-solved_standing, only-step_in, only-behind_step}
use Rattle.entry_laws.proofs.OnlyCycles.{only-cycle_term}

-- ---- equations of a standing

only-first_equations : {Q : ℕ → Type 0} (s : Standing) (g : ℕ) → Each (HasOnly Q) (first_equations s g)
only-first_equations s g = only-run (inside s) s.depth g

only-further_equations : {Q : ℕ → Type 0} (s : Standing) (g : ℕ) → Each (HasOnly Q) (further_equations s g)
only-further_equations s g = only-run (inside s) (s.depth + g) (equation_count s - g)

-- ---- solutions

only-remaining_goal : {Q : ℕ → Type 0} (s : Standing) (g : ℕ) (variables equations : List ℕ) (depth : ℕ) → StandingOnly Q s → HasOnly Q (remaining_goal s g variables equations depth)
only-remaining_goal s g variables equations depth h =
    let types = types_as_they_stand (drop g s.state.equations) in
    only-products (placed_telescope (variables ++ equations) depth (types_as_they_stand (drop g s.state.equations))) _
    (only-placed_telescope (variables ++ equations) depth (types_as_they_stand (drop g s.state.equations)) (only-types (drop g s.state.equations) (each-drop g s.state.equations h.state.equations)))
    (only-placed variables (depth + length types) s.goal h.goal)

only-equation_with : {Q : ℕ → Type 0} (on_right : Bool) (i : ℕ) (A u z : Term) → HasOnly Q A → HasOnly Q u → HasOnly Q z → HasOnly Q (equation_with on_right i A u z)
only-equation_with true i A u z hA hu hz = only-equation_of i A u z hA hu hz
only-equation_with false i A u z hA hu hz = only-equation_of i A z u hA hz hu

only-solution_motive : {Q : ℕ → Type 0} (s : Standing) (p : ℕ) (on_right : Bool) (A u : Term) → StandingOnly Q s → HasOnly Q A → HasOnly Q u
    → HasOnly Q (solution_motive s p on_right A u)
only-solution_motive s p on_right A u h hA hu =
    let i = level_of_first s.state.equations in
    let depth = inside s in
    let moved = dependants s.state.context p in
    let levels = motive_levels s p depth in
    HasOnly.of_lam (only-placed s.variables (inside s) A hA)
    (HasOnly.of_lam
    (only-equation_with on_right i (within s A) (within s u) (Var 0) (only-placed s.variables (inside s + 1) A hA) (only-placed s.variables (inside s + 1) u hu) HasOnly.of_var)
    (only-products (new_context s.state.context (at_levels levels) (depth + 2) moved) _
    (only-new_context s.state.context (at_levels levels) (depth + 2) moved h.state.context (λ d j. HasOnly.of_var))
    (only-remaining_goal s 1 levels ((depth + 1) ∷ []) (depth + 2 + length moved) h)))

only-solution_term : {Q : ℕ → Type 0} (head : Term) (s : Standing) (x : ℕ) (on_right : Bool) (A u : Term) (next : Standing) (N : Term) → HasOnly Q head → StandingOnly Q s
    → HasOnly Q A → HasOnly Q u → StandingOnly Q next → HasOnly Q N → HasOnly Q (solution_term head s x on_right A u next N)
only-solution_term head s x on_right A u next N hh h hA hu hn hN =
    let p = level_of (length s.state.context) x in
    let moved = dependants s.state.context p in
    let fixed = map (λ j. get_or s.variables j 0) (kept s.state p) in
    only-applied head _ hh
    (Each.more (only-placed s.variables (inside s) A hA)
    (Each.more (only-placed s.variables (inside s) u hu)
    (Each.more (only-solution_motive s p on_right A u h hA hu)
    (Each.more
    (only-functions (placed_telescope fixed (inside s) (drop (length fixed) next.state.context)) N
    (only-placed_telescope fixed (inside s) (drop (length fixed) next.state.context) (each-drop (length fixed) next.state.context hn.state.context)) hN)
    (Each.more (only-placed s.variables (inside s) (Var x) HasOnly.of_var)
    (each-append (first_equations s 1) _ (only-first_equations s 1)
    (each-append (map (λ j. variable (inside s) (get_or s.variables j 0)) moved) (further_equations s 1) (all-variables moved)
    (only-further_equations s 1))))))))
  where
    all-variables : {Q : ℕ → Type 0} (levels : List ℕ) → Each (HasOnly Q) (map (λ j. variable (inside s) (get_or s.variables j 0)) levels)
    all-variables [] = Each.none
    all-variables (j ∷ levels) = Each.more HasOnly.of_var (all-variables levels)

only-delete_term : {Q : ℕ → Type 0} (L : ℕ) (s : Standing) (A u N : Term) → StandingOnly Q s → HasOnly Q A → HasOnly Q u → HasOnly Q N → HasOnly Q (delete_term L s A u N)
only-delete_term L s A u N h hA hu hN =
    let i = level_of_first s.state.equations in
    let depth = inside s in
    let ha = only-placed s.variables (inside s) A hA in
    let hb = only-placed s.variables (inside s) u hu in
    only-applied (AxiomK i L) _ HasOnly.of_axiom
    (Each.more ha
    (Each.more hb
    (Each.more (HasOnly.of_lam (only-equation_of i (here s A) (here s u) (here s u) ha hb hb) (only-remaining_goal s 1 s.variables (depth ∷ []) (depth + 1) h))
    (Each.more hN (each-append (first_equations s 1) (further_equations s 1) (only-first_equations s 1) (only-further_equations s 1))))))

-- ---- injectivity and conflict

only-member_term : {Q : ℕ → Type 0} (c : Comparison) (b : Built) → ComparisonOnly Q c → BuiltOnly Q b → HasOnly Q (member c b)
only-member_term c b h hb = only-applied _ (c.parameters ++ b.arguments) HasOnly.of_con (each-append c.parameters b.arguments h.parameters hb.arguments)

only-right_member : {Q : ℕ → Type 0} (c : Comparison) → ComparisonOnly Q c → Each (HasOnly Q) (right_member c)
only-right_member c h = each-append c.indices (member c c.right ∷ []) h.indices (Each.more (only-member_term c c.right h h.right) Each.none)

only-left_member : {Q : ℕ → Type 0} (c : Comparison) → ComparisonOnly Q c → Each (HasOnly Q) (left_member c)
only-left_member c h =
    each-append (targets c.parameters c.left) (member c c.left ∷ []) (only-targets c.parameters c.left h.parameters h.left)
    (Each.more (only-member_term c c.left h h.left) Each.none)

only-items-first : {Q : ℕ → Type 0} (k : ℕ) (X : List _) → ItemsOnly Q X → ItemsOnly Q (take k X)
only-items-first zero X h = Each.none
only-items-first (suc k) [] h = Each.none
only-items-first (suc k) (x ∷ X) (Each.more h all) = Each.more h (only-items-first k X all)

only-group_equations : {Q : ℕ → Type 0} (s : Standing) (c : Comparison) (k : ℕ) → ComparisonOnly Q c → Each (HasOnly Q) (group_equations s c k)
only-group_equations s c zero h =
    let items = only-family_items c.n c.family c.parameters h.family h.parameters in
    each-append (all_here s (reflexivities (take (length c.family.indices) (family_items c.n c.family c.parameters)) c.indices)) (first_equations s 1)
    (only-all_placed s.variables (inside s) (reflexivities (take (length c.family.indices) (family_items c.n c.family c.parameters)) c.indices)
    (only-reflexivities (take (length c.family.indices) (family_items c.n c.family c.parameters)) c.indices
    (only-items-first (length c.family.indices) (family_items c.n c.family c.parameters) items) h.indices))
    (only-first_equations s 1)
only-group_equations s c (suc k) h = only-first_equations s (suc k + 1)

only-confused : {Q : ℕ → Type 0} (number : Naming) (L : ℕ) (s : Standing) (k : ℕ) (c : Comparison) → Q (number (noconf_name c.family c.left.number L)) → ComparisonOnly Q c
    → HasOnly Q (confused number L s k c)
only-confused number L s k c named h =
    only-applied (Const (number (noconf_name c.family c.left.number L))) _ (HasOnly.of_const named)
    (each-append (all_here s c.parameters) _ (only-all_placed s.variables (inside s) c.parameters h.parameters)
    (each-append (all_here s c.left.arguments) _ (only-all_placed s.variables (inside s) c.left.arguments h.left.arguments)
    (each-append (all_here s (right_member c)) (group_equations s c k) (only-all_placed s.variables (inside s) (right_member c) (only-right_member c h))
    (only-group_equations s c k h))))

only-compared_equations : {Q : ℕ → Type 0} (s : Standing) (c : Comparison) → ComparisonOnly Q c → Each (HasOnly Q) (compared_equations s c)
only-compared_equations s c h =
    only-placed_telescope s.variables (inside s) (equations (family_items c.n c.family c.parameters) (left_member c) (right_member c))
    (only-equations (family_items c.n c.family c.parameters) (left_member c) (right_member c) (only-family_items c.n c.family c.parameters h.family h.parameters)
    (only-left_member c h) (only-right_member c h))

only-inject_term : {Q : ℕ → Type 0} (number : Naming) (L : ℕ) (s : Standing) (k : ℕ) (c : Comparison) (N : Term) → Q (number (noconf_name c.family c.left.number L))
    → StandingOnly Q s → ComparisonOnly Q c → HasOnly Q N → HasOnly Q (inject_term number L s k c N)
only-inject_term number L s k c N named h hc hN =
    let depth = inside s in
    let g = k + 1 in
    only-applied (confused number L s k c) _ (only-confused number L s k c named hc)
    (Each.more
    (only-functions (compared_equations s c) (remaining_goal s g s.variables (levels_from depth g) (depth + g)) (only-compared_equations s c hc)
    (only-remaining_goal s g s.variables (levels_from depth g) (depth + g) h))
    (Each.more hN (only-further_equations s g)))

only-conflict_term : {Q : ℕ → Type 0} (number : Naming) (L : ℕ) (s : Standing) (k : ℕ) (c : Comparison) → Q (number (noconf_name c.family c.left.number L))
    → StandingOnly Q s → ComparisonOnly Q c → HasOnly Q (conflict_term number L s k c)
only-conflict_term number L s k c named h hc =
    HasOnly.of_app (only-confused number L s k c named hc)
    (only-functions (compared_equations s c) _ (only-compared_equations s c hc) (only-placed s.variables (inside s + length (compared_equations s c)) s.goal h.goal))

-- ---- rules

-- the names have numbers that have Q
abbrev pub NumbersHave : (ℕ → Type 0) → Naming → List (List ℕ) → Type 0
NumbersHave Q number names = Each (λ name. Q (number name)) names

only-injected : {Q : ℕ → Type 0} (number : Naming) (L : ℕ) (s : Standing) (k : ℕ) (o : Option Comparison) (N : Term) → NumbersHave Q number (compared_names L o)
    → StandingOnly Q s → OptionOnly (ComparisonOnly Q) o → HasOnly Q N → HasOnly Q (on_comparison o (λ c. inject_term number L s k c N))
only-injected number L s k None N named h hc hN = HasOnly.of_sort
only-injected number L s k (Some c) N (Each.more q all) h hc hN = only-inject_term number L s k c N q h hc hN

only-conflicting : {Q : ℕ → Type 0} (number : Naming) (L : ℕ) (s : Standing) (k : ℕ) (o : Option Comparison) → NumbersHave Q number (compared_names L o)
    → StandingOnly Q s → OptionOnly (ComparisonOnly Q) o → HasOnly Q (on_comparison o (conflict_term number L s k))
only-conflicting number L s k None named h hc = HasOnly.of_sort
only-conflicting number L s k (Some c) (Each.more q all) h hc = only-conflict_term number L s k c q h hc

pub only-rule_term : {Q : ℕ → Type 0} (S : Signature) (number : Naming) (L : ℕ) (s : Standing) (step : Step) (rule : Rule) (N : Term) → FamiliesOnly Q S
    → NumbersHave Q number (rule_names S L s step rule) → StandingOnly Q s → StepOnly Q step → HasOnly Q N → HasOnly Q (rule_term S number L s step rule N)
only-rule_term S number L s step (SolveRight x) N families named h hs hN =
    only-solution_term (Elim (equality (level_of_first s.state.equations)) L) s x true step.ty step.left (solved_standing s x step.ty step.left) N HasOnly.of_elim h hs.ty hs.left
    (only-solved_standing s x step.ty step.left h hs.ty hs.left) hN
only-rule_term S number L s step (SolveLeft x) N families (Each.more q all) h hs hN =
    only-solution_term (Const (number (left_name (level_of_first s.state.equations) L))) s x false step.ty step.right (solved_standing s x step.ty step.right) N
    (HasOnly.of_const q) h hs.ty hs.right (only-solved_standing s x step.ty step.right h hs.ty hs.right) hN
only-rule_term S number L s step (Inject n c) N families named h hs hN =
    only-injected number L s (step.group - 1) (compared S s.state step) N named h (only-compared S s.state step families h.state hs) hN
only-rule_term S number L s step (Conflict n c d) N families named h hs hN =
    only-conflicting number L s (step.group - 1) (compared S s.state step) named h (only-compared S s.state step families h.state hs)
only-rule_term S number L s step (Cycle x) N families named h hs hN =
    only-cycle_term number L s x step.left step.right (built_of S step.left) (built_of S step.right) named h hs.left hs.right
    (only-built_of S step.left families hs.left) (only-built_of S step.right families hs.right)
only-rule_term S number L s step Delete N families named h hs hN = only-delete_term L s step.ty step.left N h hs.ty hs.left hN

-- ---- runs

pub only-run_term : {Q : ℕ → Type 0} (S : Signature) (number : Naming) (L : ℕ) (end : Term) (steps : List Step) (s : Standing) → FamiliesOnly Q S
    → NumbersHave Q number (run_names S L steps s) → StandingOnly Q s → Each (StepOnly Q) steps → HasOnly Q end → HasOnly Q (run_term S number L end steps s)
only-run_term S number L end [] s families named h Each.none he = only-placed s.variables (inside s) end he
only-run_term S number L end (step ∷ steps) s families named h (Each.more hs all) he =
    let next = behind_step S s step in
    let hn = only-behind_step S s step families h hs in
    only-rule_term S number L s (step_in s step) (step_in s step).rule _ families (each-left _ (run_names S L steps (behind_step S s step)) named) h (only-step_in s step hs)
    (only-functions (placed_telescope next.variables next.depth (types_as_they_stand next.state.equations)) (run_term S number L end steps next)
    (only-placed_telescope next.variables next.depth (types_as_they_stand next.state.equations) (only-types next.state.equations hn.state.equations))
    (only-run_term S number L end steps (behind_step S s step) families
    (each-right (rule_names S L s (step_in s step) (step_in s step).rule) (run_names S L steps (behind_step S s step)) named) hn all he))
