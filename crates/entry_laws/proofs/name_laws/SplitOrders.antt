-- The new names of a split node are all mentioned, in the order in which they are added.
use Rattle.std.proofs.Common.{◌≡◌, inl, inr, ℕ, suc, ◌+◌, ◌-◌, ◌<◌, ◌≤◌, Some, List, [], ◌∷◌, length, map, slice_get, refl, sym, ap, ◌∙◌, subst, arith}
use Rattle.std.proofs.lemmas.Option.{slice_get_within}
use Rattle.std.proofs.lemmas.Result.{IfOk-at_ok}
use Rattle.theory.specs.Terms.{Term}
use Rattle.theory.specs.Families.{Constructor}
use Rattle.theory.specs.Signatures.{Signature, Definition, FamilyOf}
use Rattle.theory.proofs.Lists.{some_is}
use Rattle.core_terms.specs.CaseTrees.{Step}
use Rattle.core_terms.proofs.Answers.{bounded-has}
use Rattle.core_sig.specs.DraftScopes.{IsDraftNumber}
use Rattle.kernel_reduce.proofs.LookUps.{family-found}
use Rattle.unification.specs.Outcomes.{Outcome, Solved, Absurd}
use Rattle.unification.specs.ScopedStates.{IsReady, AreScopedSteps, IsScopedOutcome, IsScopedProblem}
use Rattle.unification.proofs.OutcomeScopes.{outcome-scoped}
use Rattle.problems.specs.Conditions.{AreBelow}
use Rattle.case_trees.specs.Problems.{Member, member_of, problem_of}
use Rattle.case_trees.specs.Standing.{Runs}
use Rattle.case_trees.proofs.ScopedProblems.{member-in, problem-scoped}
use Rattle.tree_translation.specs.Conditions.{AreEnds, AreRuns, IsEnd, IsSplit}
use Rattle.tree_translation.specs.Hidden.{visible}
use Rattle.tree_translation.specs.Naming.{mentions, number_in, once, with_names}
use Rattle.tree_translation.specs.Splits.{Node, branch_standing, split_names, split_node}
use Rattle.tree_translation.specs.Standings.{levels_from}
use Rattle.tree_translation.proofs.SeenTerms.{widened-is, widening}
use Rattle.entry_laws.proofs.replay_laws.SeenBranches.{branch-widens}
use Rattle.entry_laws.proofs.replay_laws.SeenMembers.{member-found, member_under, member-instance}
use Rattle.entry_laws.proofs.OnlyConstants.{Each}
use Rattle.entry_laws.proofs.OnlyFamilies.{CoversConstants, only-draft, only-draft_telescope, only-families, only-scoped}
use Rattle.entry_laws.proofs.OnlyStates.{NodeOnly, StepOnly, only-placed}
use Rattle.entry_laws.proofs.OnlyTrees.{only-steps}
use Rattle.entry_laws.specs.name_laws.Laws.{SplitNamesInOrderBelow}
use Rattle.entry_laws.proofs.name_laws.RunsGo.{branch-apart, problem-goes}
use Rattle.entry_laws.proofs.name_laws.ToldNames.{levels-moved, once-from, told-in_order}
use Rattle.entry_laws.proofs.name_laws.ToldRuns.{RunGoes}
use Rattle.entry_laws.proofs.name_laws.ToldSplits.{AllGo, node-told}
use Rattle.entry_laws.proofs.name_laws.ToldTerms.{IsOld}

-- constants of the signature, and those of a draft with so many names
covers-all : (S : Signature) (bound : ℕ) → length S.entries ≤ bound → CoversConstants (λ c. c < bound) S
covers-all S bound le c is = let low = slice_get_within S.entries c (Definition is.0 is.1 is.2) is.3 in omega arith

draft-low : (S : Signature) (base count c : ℕ) → IsDraftNumber S base count c → c < base + count
draft-low S base count c (inl is) = let low = is.0 in omega arith
draft-low S base count c (inr is) = is.1

ends-old : (S : Signature) (base count : ℕ) (node : Node) (m : Member) (x number : ℕ) (constructors : List Constructor) (runs : List (List Step)) (ends : List Term)
    → AreEnds S base count node m x number constructors runs ends → Each (IsOld (base + count)) ends
ends-old S base count node m x number _ _ _ AreEnds.none = Each.none
ends-old S base count node m x number (c ∷ constructors) (steps ∷ runs) ends (AreEnds.absurd e rest) = ends-old S base count node m x (number + 1) constructors runs ends rest
ends-old S base count node m x number (c ∷ constructors) (steps ∷ runs) (end ∷ ends) (AreEnds.solved e is rest) =
    Each.more (only-draft S base count end (draft-low S base count) is.entries) (ends-old S base count node m x (number + 1) constructors runs ends rest)

-- ---- the runs

module _ (S : Signature) (ready : IsReady S) (bound : ℕ) (covers : CoversConstants (λ c. c < bound) S) (node : Node) (below : AreBelow (length node.context) node.hidden)
    (x : ℕ) (type : Term) (runs : List (List Step)) (split : IsSplit S node x type runs) (m : Member) (is_member : member_of S type ≡ Some m) where
  same-member : m ≡ member_under (widening (length node.context) node.hidden) split.member
  same-member =
      some_is (sym is_member
      ∙ (ap (member_of S) (split.type_seen ∙ widened-is (length node.context) node.hidden split.reduced)
      ∙ member-instance S (widening (length node.context) node.hidden) split.reduced split.member split.is_member))

  steps-scoped : (number : ℕ) (c : Constructor) (steps : List Step) (outcome : Outcome) → IsScopedProblem S (problem_of split.seen split.y split.member number c)
      → Runs S (problem_of split.seen split.y split.member number c) outcome → IsEnd steps outcome
      → AreScopedSteps S (length (problem_of split.seen split.y split.member number c).context) steps
  steps-scoped number c steps _ scoped runs (IsEnd.solved context solution) =
      let p = problem_of split.seen split.y split.member number c in
      let is : IsScopedOutcome S (length p.context) (Solved steps context solution) =
      IfOk-at_ok (IsScopedOutcome S (length p.context)) runs.run (outcome-scoped S p runs.units ready scoped) in
      is.0
  steps-scoped number c steps _ scoped runs (IsEnd.absurd context u v) =
      let p = problem_of split.seen split.y split.member number c in
      let is : IsScopedOutcome S (length p.context) (Absurd steps context u v) =
      IfOk-at_ok (IsScopedOutcome S (length p.context)) runs.run (outcome-scoped S p runs.units ready scoped) in
      is.0

  run-there : (number : ℕ) (c : Constructor) (steps : List Step) (outcome : Outcome) → IsScopedProblem S (problem_of split.seen split.y split.member number c)
      → Runs S (problem_of split.seen split.y split.member number c) outcome → IsEnd steps outcome → RunGoes S steps (branch_standing node m x number c)
  run-there number c steps _ scoped runs (IsEnd.solved context solution) =
      problem-goes S (problem_of split.seen split.y split.member number c) (Solved steps context solution) (branch_standing node m x number c) ready scoped runs
      (branch-widens S node x split.y split.seen type split.reduced m split.member number c split.is_seen below split.inside split.variable split.type_seen split.is_member is_member)
      (branch-apart node m x number c)
  run-there number c steps _ scoped runs (IsEnd.absurd context u v) =
      problem-goes S (problem_of split.seen split.y split.member number c) (Absurd steps context u v) (branch_standing node m x number c) ready scoped runs
      (branch-widens S node x split.y split.seen type split.reduced m split.member number c split.is_seen below split.inside split.variable split.type_seen split.is_member is_member)
      (branch-apart node m x number c)

  runs-there : (number : ℕ) (constructors : List Constructor) (runs : List (List Step)) → AreRuns S split.seen split.y split.member number constructors runs
      → ((j : ℕ) (c : Constructor) → slice_get constructors j ≡ Some c → slice_get split.member.family.constructors (number + j) ≡ Some c)
      → Each (Each (StepOnly (λ c. c < bound))) runs × AllGo S node m x number constructors runs
  runs-there number [] [] AreRuns.none there = (Each.none, tt)
  runs-there number [] (steps ∷ runs) is there = elim is [ ]
  runs-there number (c ∷ constructors) [] is there = elim is [ ]
  runs-there number (c ∷ constructors) (steps ∷ runs) (AreRuns.more outcome one is_end others) there =
      let place : number + 0 ≡ number = omega arith in
      let scoped =
      problem-scoped S split.seen split.y split.member number c ready split.context_scoped split.inside
      (member-in S (length split.seen) split.reduced split.member split.reduced_scoped split.is_member)
      (ap (slice_get split.member.family.constructors) (sym place) ∙ there 0 c refl) in
      let rest =
      runs-there (number + 1) constructors runs others
      (λ j c e. let next : number + suc j ≡ number + 1 + j = omega arith in ap (slice_get split.member.family.constructors) (sym next) ∙ there (suc j) c e) in (
        Each.more
            (only-steps S (length (problem_of split.seen split.y split.member number c).context) steps covers (steps-scoped number c steps outcome scoped one is_end)) rest.0,
        (run-there number c steps outcome scoped one is_end, rest.1),
      )

  all-there : Each (Each (StepOnly (λ c. c < bound))) runs × AllGo S node m x 0 m.family.constructors runs
  all-there =
      subst (λ (constructors : List Constructor). Each (Each (StepOnly (λ c. c < bound))) runs × AllGo S node m x 0 constructors runs)
      (sym (ap (λ (m : Member). m.family.constructors) same-member))
      (runs-there 0 split.member.family.constructors runs split.are_runs
      (λ j c e. let place : j ≡ 0 + j = omega arith in ap (slice_get split.member.family.constructors) (sym place) ∙ e))

-- ---- the law

pub split_names_in_order : SplitNamesInOrderBelow
split_names_in_order S L node x type runs ends names below given =
    let base = length S.entries in
    let n = length names in
    let others = split_names S L node x type runs in
    let number = number_in base (with_names names others) in
    let t = split_node S number L node x type runs ends in
    let covers = covers-all S (base + n) (omega arith) in
    let families = only-families S given.ready.scoped covers in
    let m = given.member in
    let found = member-found S type m given.is_member in
    let low = slice_get_within S.entries m.n (FamilyOf m.family) (family-found S m.n m.family found.family) in
    let hn : NodeOnly (λ c. c < base + n) node = record {
      context = only-draft_telescope S base n 0 node.context (draft-low S base n) given.context_scoped;
      goal = only-draft S base n node.goal (draft-low S base n) given.goal_scoped.entries;
    } in
    let ht : IsOld (base + n) type =
    subst (IsOld (base + n)) (sym given.split.type_seen)
    (only-placed (visible (length node.context) node.hidden) (length node.context) given.split.reduced
    (only-scoped S (length given.split.seen) given.split.reduced covers given.split.reduced_scoped)) in
    let all = all-there S given.ready (base + n) covers node below x type runs given.split m given.is_member in
    let told =
    node-told S (base + n) (omega arith) families number L node hn x type ht m given.is_member runs ends all.0
    (ends-old S base n node m x 0 m.family.constructors runs ends given.ends_there) all.1 in
    let count = length (with_names names others) - n in
    let e : n + 0 ≡ n = omega arith in
    bounded-has (λ t. once (levels_from 0 n) (mentions base t) ≡ levels_from n count) t
    (λ low_term. once-from base n t
    ∙ (ap (map (λ j. n + j)) (told [] ∙ told-in_order base names others) ∙ (levels-moved n 0 count ∙ ap (λ from. levels_from from count) e)))
