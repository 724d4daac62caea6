-- The term of a split node is scoped over the node's context, and names entries and the names of its table.
use Rattle.std.proofs.Common.{◌≡◌, ℕ, suc, ◌+◌, ◌<◌, ◌≤◌, Bool, true, false, cond, Some, IfOk, Result, Ok, Err, List, [], ◌∷◌, ◌++◌, length, map, slice_get, All, refl, sym, ap, subst, ◌∙◌, arith}
use Rattle.std.proofs.lemmas.Bool.{true≢false}
use Rattle.std.proofs.lemmas.List.{length-append, length-map, append-nil}
use Rattle.std.proofs.lemmas.List.Elements.{All-nil, All-cons, All-append, All-take, All-drop}
use Rattle.std.proofs.lemmas.Result.{IfOk-at_ok}
use Rattle.theory.specs.Terms.{Term, Var, Const, lift}
use Rattle.theory.specs.Telescopes.{Telescope, products, variables}
use Rattle.theory.specs.Spines.{spine_of}
use Rattle.theory.specs.Families.{Constructor}
use Rattle.theory.specs.Signatures.{Signature, FamilyOf}
use Rattle.theory.specs.SignatureScopes.{IsConstantNumber, IsScoped, IsScopedTelescope}
use Rattle.theory.proofs.Lists.{some_is}
use Rattle.theory.proofs.ScopedTerms.{scoped_over_more, lift-scoped, spine-scoped, var-scoped}
use Rattle.core_terms.specs.Answers.{bounded, is_low}
use Rattle.core_terms.specs.CaseTrees.{Step}
use Rattle.core_terms.specs.declared.stop.Stop.{Stop}
use Rattle.core_terms.specs.declared.stop.Stop.TheVariants.{Deep}
use Rattle.core_sig.specs.DraftScopes.{IsDraftTerm}
use Rattle.core_sig.specs.EntryTerms.{EachInTelescope}
use Rattle.kernel_reduce.proofs.LookUps.{family-found}
use Rattle.tele_eq.specs.Items.{Item}
use Rattle.tele_eq.specs.TelescopicEquality.{equations, reflexivities}
use Rattle.tele_eq.proofs.ScopeLaws.{scoped_equations, scoped_reflexivities}
use Rattle.unification.specs.Injecting.{lifted}
use Rattle.unification.specs.Laws.{IsReached}
use Rattle.unification.specs.Outcomes.{Outcome, Solved, Absurd}
use Rattle.unification.specs.Records.{argument_items, family_items}
use Rattle.unification.specs.ScopedStates.{IsReady, AreScopedSteps, IsScopedProblem, IsScopedOutcome}
use Rattle.unification.specs.States.{State}
use Rattle.unification.proofs.OutcomeScopes.{outcome-scoped}
use Rattle.unification.proofs.ScopedEquations.{telescope-equations}
use Rattle.unification.proofs.ScopedRecords.{variables-scoped, lifted-scoped, length-argument_items, length-family_items, argument_items-scoped, family_items-scoped}
use Rattle.problems.specs.Conditions.{AreBelow}
use Rattle.case_trees.specs.Problems.{Member, member_of, problem_of}
use Rattle.case_trees.specs.Standing.{Runs}
use Rattle.case_trees.proofs.ScopedProblems.{IsMemberIn, member-in, problem-scoped}
use Rattle.tree_translation.specs.Conditions.{IsEnd, AreRuns, IsSplit, AreEnds}
use Rattle.tree_translation.specs.Hidden.{visible}
use Rattle.tree_translation.specs.Laws.{Widens}
use Rattle.tree_translation.specs.Naming.{Naming, number_in, is_named, with_names, case_name}
use Rattle.tree_translation.specs.Replays.{behind_run}
use Rattle.tree_translation.specs.RunTerms.{run_term, run_names}
use Rattle.tree_translation.specs.Splits.{Node, member_types, scrutinee, split_motive, branch_standing, split_method, is_absurd, first_of, behind_first, split_methods, split_member, on_member, split_node, methods_names, member_names, split_names}
use Rattle.tree_translation.specs.Standings.{Standing, inside, state_term, problem_state}
use Rattle.tree_translation.proofs.LevelLists.{length-levels}
use Rattle.tree_translation.proofs.NewNames.{longer, or-true, with-named}
use Rattle.tree_translation.proofs.SeenTerms.{visible-below, widening, widened-is}
use Rattle.entry_laws.proofs.replay_laws.SeenBranches.{branch-widens}
use Rattle.entry_laws.proofs.replay_laws.SeenMembers.{member-found, member-count, member_under, member-instance}
use Rattle.entry_laws.proofs.replay_laws.TreeNodes.{problem-reached, solved-goes}
use Rattle.entry_laws.proofs.OnlyConstants.{Each, each-append, each-all, each-left, each-right, each-weaker}
use Rattle.entry_laws.proofs.TableNames.{place-low, named-later}
use Rattle.entry_laws.specs.entry_scopes.Laws.{SplitScopedAfterPrelude}
use Rattle.entry_laws.proofs.entry_scopes.DraftSignatures.{with_count, entry-there, ready-there, name-number, draft-scoped, draft-telescope, draft-names, scoped-draft}
use Rattle.entry_laws.proofs.entry_scopes.WholeCycles.{HasPrelude, prelude-there}
use Rattle.entry_laws.proofs.entry_scopes.WholeRuns.{AreConstants, steps-left, last-scoped, run-scoped}
use Rattle.entry_laws.proofs.entry_scopes.WholeStandings.{widened-scoped, scoped-functions, scoped-products, IsWhole}
use Rattle.entry_laws.proofs.entry_scopes.WholeTerms.{applied-each, const-scoped, state_term-scoped, here-scoped}

-- a node over a signature with names
pub record IsNodeIn (T : Signature) (node : Node) : Type 0 where
  pub context : IsScopedTelescope T 0 node.context
  pub goal : IsScoped T (length node.context) node.goal

module _ (S : Signature) (count : ℕ) (ready : IsReady S) (first : HasPrelude (with_count S count)) (number : Naming) (L : ℕ) (node : Node)
    (over : IsNodeIn (with_count S count) node) (below : AreBelow (length node.context) node.hidden) (x : ℕ) (type : Term) (runs : List (List Step)) (split : IsSplit S node x type runs) (m : Member)
    (is_member : member_of S type ≡ Some m) where
  type-scoped : IsScoped (with_count S count) (length node.context) type
  type-scoped =
      subst (IsScoped (with_count S count) (length node.context)) (sym split.type_seen)
      (widened-scoped S count (length node.context) (length split.seen) node.hidden split.reduced split.is_seen.count split.reduced_scoped)

  number-low : x < length node.context
  number-low =
      let some : 0 < length (visible (length node.context) node.hidden) = (let count = split.is_seen.count in let inside = split.inside in omega arith) in
      let low = visible-below (length node.context) node.hidden 0 some in
      let e = split.variable in
      omega arith

  member-there : IsMemberIn (with_count S count) (length node.context) m
  member-there =
      let T = with_count S count in
      let n = length node.context in
      let is = member-found S type m is_member in
      let k = length m.family.parameters in
      let all = spine-scoped T n type type-scoped in
      record {
        entry = entry-there S count m.n (FamilyOf m.family) (family-found S m.n m.family is.family);
        parameters = subst (All (IsScoped T n)) (sym is.parameters) (All-take (IsScoped T n) k (spine_of type) all);
        indices = subst (All (IsScoped T n)) (sym is.indices) (All-drop (IsScoped T n) k (spine_of type) all);
        count = member-count S type m is_member;
      }

  -- the family is that of what is seen
  same-member : m ≡ member_under (widening (length node.context) node.hidden) split.member
  same-member =
      some_is (sym is_member
      ∙ (ap (member_of S) (split.type_seen ∙ widened-is (length node.context) node.hidden split.reduced)
      ∙ member-instance S (widening (length node.context) node.hidden) split.reduced split.member split.is_member))

  -- ---- branches

  pub branch-whole : (at : ℕ) (c : Constructor) → slice_get m.family.constructors at ≡ Some c → IsWhole (with_count S count) (branch_standing node m x at c)
  branch-whole at c there =
      let T = with_count S count in
      let n = length node.context in
      let k = length c.arguments in
      let ready_there = ready-there S count ready in
      let p = problem-scoped T node.context x m at c ready_there over.context number-low member-there there in
      let types = map (λ (item : Item). item.type) (argument_items m.n m.parameters c) in
      let long : length (node.context ++ types) ≡ n + k =
      length-append node.context types ∙ ap (λ i. n + i) (length-map (argument_items m.n m.parameters c) (λ item. item.type) ∙ length-argument_items m.n m.parameters c) in
      record {
        scoped = record {
          context = p.context;
          equations = telescope-equations T (length (node.context ++ types)) (problem_of node.context x m at c).telescope (problem_of node.context x m at c).left (problem_of node.context x m at c).right ready_there.identities
              p.telescope p.left p.right;
          solution =
              All-cons (IsScoped T (length (node.context ++ types))) (lift node.goal k 0) [] (subst (λ i. IsScoped T i (lift node.goal k 0)) (sym long) (lift-scoped T n node.goal k 0 over.goal))
              (All-nil (IsScoped T (length (node.context ++ types))));
        };
        variables = length-levels 0 (n + k) ∙ sym long;
        room = omega (arith, long);
      }

  pub branch-problem : (at : ℕ) (c : Constructor) → slice_get m.family.constructors at ≡ Some c → IsScopedProblem S (problem_of split.seen split.y split.member at c)
  branch-problem at c there =
      problem-scoped S split.seen split.y split.member at c ready split.context_scoped split.inside
      (member-in S (length split.seen) split.reduced split.member split.reduced_scoped split.is_member)
      (ap (λ m. slice_get m.family.constructors at) (sym same-member) ∙ there)

  pub branch-seen : (at : ℕ) (c : Constructor) → Widens (branch_standing node m x at c) (problem_state (problem_of split.seen split.y split.member at c))
  branch-seen at c =
      branch-widens S node x split.y split.seen type split.reduced m split.member at c split.is_seen below split.inside split.variable split.type_seen split.is_member is_member

  -- a run that is solved
  solved-run : (s : State) (w : Standing) (steps : List Step) (context : Telescope) (solution : List Term) (end : Term) → IsReached S s (Solved steps context solution) → Widens w s
      → IsWhole (with_count S count) w → AreConstants S count ready first number L (run_names S L steps w)
      → IsScoped (with_count S count) (length (behind_run S steps w).state.context) end → IsScoped (with_count S count) (inside w) (run_term S number L end steps w)
  solved-run s w steps _ _ end (IsReached.solved t _ chain empty) h is named he =
      let T = with_count S count in
      subst (λ steps. IsScoped T (inside w) (run_term S number L end steps w)) (append-nil steps)
      (run-scoped S count ready first number L s t steps [] w end chain h is
      (subst (λ steps. AreConstants S count ready first number L (run_names S L steps w)) (sym (append-nil steps)) named)
      (λ widens whole rest.
      let last = behind_run S steps w in
      let room : length last.state.context ≤ last.depth = whole.room in
      here-scoped S count ready last whole (inside last) end (λ some. omega (arith, whole.variables)) he))

  -- one that ends in an absurd state
  absurd-run : (s : State) (w : Standing) (steps : List Step) (context : Telescope) (u v end : Term) → IsReached S s (Absurd steps context u v) → AreScopedSteps S (length s.context) steps
      → Widens w s → IsWhole (with_count S count) w → AreConstants S count ready first number L (run_names S L steps w)
      → IsScoped (with_count S count) (inside w) (run_term S number L end steps w)
  absurd-run s w _ _ u v end (IsReached.absurd t steps last _ _ chain evidence shows) scoped h is named =
      run-scoped S count ready first number L s t steps (last ∷ []) w end chain h is named
      (λ widens whole rest.
      last-scoped S count ready first number L t last (behind_run S steps w) _ evidence (steps-left S s t steps (last ∷ []) chain scoped).0 widens whole (each-left _ _ rest))

  run-there : (at : ℕ) (c : Constructor) (steps : List Step) (outcome : Outcome) (end : Term) → slice_get m.family.constructors at ≡ Some c
      → Runs S (problem_of split.seen split.y split.member at c) outcome → IsEnd steps outcome
      → AreConstants S count ready first number L (run_names S L steps (branch_standing node m x at c))
      → (is_absurd steps ≡ false → IsScoped (with_count S count) (length (behind_run S steps (branch_standing node m x at c)).state.context) end)
      → IsScoped (with_count S count) (inside (branch_standing node m x at c)) (run_term S number L end steps (branch_standing node m x at c))
  run-there at c steps _ end there runs (IsEnd.solved context solution) named he =
      let p = problem_of split.seen split.y split.member at c in
      let reached = problem-reached S p runs.units (Solved steps context solution) ready (branch-problem at c there) runs.run in
      solved-run (problem_state p) (branch_standing node m x at c) steps context solution end reached (branch-seen at c) (branch-whole at c there) named
      (he (solved-goes S (problem_state p) steps context solution reached))
  run-there at c steps _ end there runs (IsEnd.absurd context u v) named he =
      let p = problem_of split.seen split.y split.member at c in
      let reached = problem-reached S p runs.units (Absurd steps context u v) ready (branch-problem at c there) runs.run in
      let scoped : IsScopedOutcome S (length p.context) (Absurd steps context u v) =
      IfOk-at_ok (IsScopedOutcome S (length p.context)) runs.run (outcome-scoped S p runs.units ready (branch-problem at c there)) in
      absurd-run (problem_state p) (branch_standing node m x at c) steps context u v end reached scoped.0 (branch-seen at c) (branch-whole at c there) named

  method-scoped : (at : ℕ) (c : Constructor) (steps : List Step) (outcome : Outcome) (end : Term) → slice_get m.family.constructors at ≡ Some c
      → Runs S (problem_of split.seen split.y split.member at c) outcome → IsEnd steps outcome
      → AreConstants S count ready first number L (run_names S L steps (branch_standing node m x at c))
      → (is_absurd steps ≡ false → IsScoped (with_count S count) (length (behind_run S steps (branch_standing node m x at c)).state.context) end)
      → IsScoped (with_count S count) (length node.context) (split_method S number L node m x at c steps end)
  method-scoped at c steps outcome end there runs ends named he =
      let T = with_count S count in
      let n = length node.context in
      let s = branch_standing node m x at c in
      let items = argument_items m.n m.parameters c in
      let inner = state_term s (run_term S number L end steps s) in
      let long : length (member_types items) ≡ length c.arguments = length-map items (λ item. item.type) ∙ length-argument_items m.n m.parameters c in
      scoped-functions T n (member_types items) inner
      (argument_items-scoped T m.n at n m.family c m.parameters (ready-there S count ready).scoped member-there.entry there member-there.parameters).types
      (subst (λ k. IsScoped T (n + k) inner) (sym long)
      (state_term-scoped S count ready s (branch-whole at c there) (run_term S number L end steps s) (run-there at c steps outcome end there runs ends named he)))

  -- ---- all methods

  methods-scoped : (names : ℕ) (at : ℕ) (constructors : List Constructor) (steps : List (List Step)) (ends : List Term) → names ≤ count
      → AreEnds S (length S.entries) names node m x at constructors steps ends → AreRuns S split.seen split.y split.member at constructors steps
      → ((j : ℕ) (c : Constructor) → slice_get constructors j ≡ Some c → slice_get m.family.constructors (at + j) ≡ Some c)
      → AreConstants S count ready first number L (methods_names S L node m x at constructors steps)
      → Each (IsScoped (with_count S count) (length node.context)) (split_methods S number L node m x at constructors steps ends)
  methods-scoped names at [] [] [] le AreEnds.none AreRuns.none there named = Each.none
  methods-scoped names at [] [] (end ∷ ends) le no_ends are_runs there named = elim no_ends [ ]
  methods-scoped names at [] (steps ∷ runs) ends le no_ends are_runs there named = elim no_ends [ ]
  methods-scoped names at (c ∷ constructors) [] ends le no_ends are_runs there named = elim no_ends [ ]
  methods-scoped names at (c ∷ constructors) (steps ∷ runs) ends le (AreEnds.absurd is_absurd_run rest) (AreRuns.more outcome runs_one is_end others) there named =
      let place : at + 0 ≡ at = omega arith in
      let here : slice_get m.family.constructors at ≡ Some c = ap (slice_get m.family.constructors) (sym place) ∙ there 0 c refl in
      Each.more
      (method-scoped at c steps outcome (first_of ends) here runs_one is_end (each-left (run_names S L steps (branch_standing node m x at c)) _ named)
      (λ goes. absurd (true≢false (sym is_absurd_run ∙ goes))))
      (subst (λ b. Each (IsScoped (with_count S count) (length node.context)) (split_methods S number L node m x (at + 1) constructors runs (cond b ends (behind_first ends)))) (sym is_absurd_run)
      (methods-scoped names (at + 1) constructors runs ends le rest others
      (λ j c e. let next : at + suc j ≡ at + 1 + j = omega arith in ap (slice_get m.family.constructors) (sym next) ∙ there (suc j) c e)
      (each-right (run_names S L steps (branch_standing node m x at c)) _ named)))
  methods-scoped names at (c ∷ constructors) (steps ∷ runs) (end ∷ ends) le (AreEnds.solved goes is_end_term rest) (AreRuns.more outcome runs_one is_end others) there named =
      let place : at + 0 ≡ at = omega arith in
      let here : slice_get m.family.constructors at ≡ Some c = ap (slice_get m.family.constructors) (sym place) ∙ there 0 c refl in
      let n' = length (behind_run S steps (branch_standing node m x at c)).state.context in
      Each.more
      (method-scoped at c steps outcome end here runs_one is_end (each-left (run_names S L steps (branch_standing node m x at c)) _ named)
      (λ goes. draft-scoped S count n' end (draft-names S (length S.entries) names count n' end le is_end_term)))
      (subst (λ b. Each (IsScoped (with_count S count) (length node.context)) (split_methods S number L node m x (at + 1) constructors runs (cond b (end ∷ ends) ends))) (sym goes)
      (methods-scoped names (at + 1) constructors runs ends le rest others
      (λ j c e. let next : at + suc j ≡ at + 1 + j = omega arith in ap (slice_get m.family.constructors) (sym next) ∙ there (suc j) c e)
      (each-right (run_names S L steps (branch_standing node m x at c)) _ named)))

  -- ---- the node

  scrutinee-scoped : All (IsScoped (with_count S count) (length node.context)) (scrutinee m x)
  scrutinee-scoped =
      let T = with_count S count in
      let n = length node.context in
      All-append (IsScoped T n) m.indices (Var x ∷ []) member-there.indices (All-cons (IsScoped T n) (Var x) [] (var-scoped number-low) (All-nil (IsScoped T n)))

  motive-scoped : IsScoped (with_count S count) (length node.context) (split_motive node m x)
  motive-scoped =
      let T = with_count S count in
      let n = length node.context in
      let k = length m.indices + 1 in
      let ready_there = ready-there S count ready in
      let own = family_items m.n m.family m.parameters in
      let items = family_items m.n m.family (lifted k m.parameters) in
      let types = equations items (variables k) (lifted k (scrutinee m x)) in
      let long : length (member_types own) ≡ k = length-map own (λ item. item.type) ∙ (length-family_items m.n m.family m.parameters ∙ ap (λ i. i + 1) (sym member-there.count)) in
      let goal = products types (lift node.goal (k + length types) 0) in
      scoped-functions T n (member_types own) goal (family_items-scoped T m.n n m.family m.parameters ready_there.scoped member-there.entry member-there.parameters).types
      (subst (λ i. IsScoped T (n + i) goal) (sym long)
      (scoped-products T (n + k) types (lift node.goal (k + length types) 0)
      (scoped_equations T (n + k) items (variables k) (lifted k (scrutinee m x)) ready_there.identities
      (family_items-scoped T m.n (n + k) m.family (lifted k m.parameters) ready_there.scoped member-there.entry (lifted-scoped T n k m.parameters member-there.parameters))
      (variables-scoped T (n + k) k (omega arith)) (lifted-scoped T n k (scrutinee m x) scrutinee-scoped))
      (scoped_over_more T (n + (k + length types)) (n + k + length types) (lift node.goal (k + length types) 0) (omega arith) (lift-scoped T n node.goal (k + length types) 0 over.goal))))

  pub member-scoped : (names : ℕ) (ends : List Term) → names ≤ count → AreEnds S (length S.entries) names node m x 0 m.family.constructors runs ends
      → AreConstants S count ready first number L (member_names S L node x runs (Some m))
      → IsScoped (with_count S count) (length node.context) (split_member S number L node m x runs ends)
  member-scoped names ends le are_ends (Each.more case_named named) =
      let T = with_count S count in
      let n = length node.context in
      let own = family_items m.n m.family m.parameters in
      let ready_there = ready-there S count ready in
      let are_runs : AreRuns S split.seen split.y split.member 0 m.family.constructors runs =
      subst (λ m. AreRuns S split.seen split.y split.member 0 m.family.constructors runs) (sym same-member) split.are_runs in
      applied-each T n (Const (number (case_name m.family L))) _ (const-scoped T n (number (case_name m.family L)) case_named)
      (each-append m.parameters _ (each-all (IsScoped T n) m.parameters member-there.parameters)
      (Each.more motive-scoped
      (each-append (split_methods S number L node m x 0 m.family.constructors runs ends) _
      (methods-scoped names 0 m.family.constructors runs ends le are_ends are_runs (λ j c e. let place : j ≡ 0 + j = omega arith in ap (slice_get m.family.constructors) (sym place) ∙ e) named)
      (each-append (scrutinee m x) (reflexivities own (scrutinee m x)) (each-all (IsScoped T n) (scrutinee m x) scrutinee-scoped)
      (each-all (IsScoped T n) (reflexivities own (scrutinee m x))
      (scoped_reflexivities T n own (scrutinee m x) ready_there.identities
      (family_items-scoped T m.n n m.family m.parameters ready_there.scoped member-there.entry member-there.parameters) scrutinee-scoped))))))

-- ---- the law

bounded-has : (P : Term → Type 0) (t : Term) → P t → IfOk (bounded t) P
bounded-has P t h = by (is_low t)
  where
    by : (b : Bool) → (let answer : Result Term Stop = cond b (Ok t) (Err Deep) in IfOk answer P)
    by true = h
    by false = tt

-- each name of the table has the number of a name
table-constants : (S : Signature) (names others : List (List ℕ))
    → Each (λ name. IsConstantNumber (with_count S (length (with_names names others))) (number_in (length S.entries) (with_names names others) name)) others
table-constants S names others =
    each-weaker others
    (λ name is.
    let low = place-low (with_names names others) name (with-named names others name ∙ or-true (is_named names name) (is_named others name) is) in
    name-number S (length (with_names names others)) (number_in (length S.entries) (with_names names others) name) (omega arith) (omega arith))
    (named-later [] others)

pub split_scoped : SplitScopedAfterPrelude
split_scoped S L node x type runs ends names prelude_first below given =
    let others = split_names S L node x type runs in
    let all = with_names names others in
    let count = length all in
    let number = number_in (length S.entries) all in
    let T = with_count S count in
    let n = length node.context in
    let grown = longer (λ name. Unit {0}) names others (λ i d within. tt) in
    let le : length names ≤ count = (let long = ap length grown.added in let sum = length-append names grown.new in omega arith) in
    let over : IsNodeIn T node = record {
      context = draft-telescope S count 0 node.context (telescope-names S (length names) count 0 node.context le given.context_scoped);
      goal = draft-scoped S count n node.goal (draft-names S (length S.entries) (length names) count n node.goal le given.goal_scoped);
    } in
    bounded-has (IsDraftTerm S (length S.entries) count n) (split_node S number L node x type runs ends)
    (scoped-draft S count n (split_node S number L node x type runs ends)
    (subst (λ o. IsScoped T n (on_member o (λ m. split_member S number L node m x runs ends))) (sym given.is_member)
    (member-scoped S count given.ready (prelude-there S count prelude_first) number L node over below x type runs given.split given.member given.is_member (length names) ends le given.ends_there
    (subst (λ o. Each (λ name. IsConstantNumber T (number name)) (member_names S L node x runs o)) given.is_member (table-constants S names others)))))
  where
    telescope-names : (S : Signature) (few many n : ℕ) (tele : Telescope) → few ≤ many → EachInTelescope (IsDraftTerm S (length S.entries) few) n tele
        → EachInTelescope (IsDraftTerm S (length S.entries) many) n tele
    telescope-names S few many n [] le h = tt
    telescope-names S few many n (a ∷ tele) le h = (draft-names S (length S.entries) few many n a le h.0, telescope-names S few many (n + 1) tele le h.1)
