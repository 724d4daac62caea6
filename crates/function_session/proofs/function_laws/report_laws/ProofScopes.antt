-- The term of a proof is over the context of its place, and names entries and the names of its table.
use Rattle.std.proofs.Common.{◌≡◌, ℕ, ◌+◌, ◌<◌, Option, Some, None, List, [], ◌∷◌, length, map, slice_get, refl, sym, ap, ◌∙◌, subst as transport, arith}
use Rattle.theory.specs.Terms.{Term, top}
use Rattle.theory.specs.Telescopes.{Telescope}
use Rattle.theory.specs.Families.{Constructor}
use Rattle.theory.specs.Signatures.{Signature, reflexivity}
use Rattle.theory.specs.SignatureScopes.{IsConstantNumber, IsScoped}
use Rattle.theory.proofs.ScopedTerms.{scoped-wider, telescope-wider}
use Rattle.core_terms.specs.CaseTrees.{Step}
use Rattle.core_terms.specs.declared.case_tree.Rule.{Rule}
use Rattle.core_terms.specs.declared.case_tree.Rule.TheVariants.{SolveRight, SolveLeft, Inject, Conflict, Cycle, Delete}
use Rattle.core_sig.specs.DraftScopes.{IsDraftTerm}
use Rattle.unification.specs.Outcomes as outcome
use Rattle.unification.specs.ScopedStates.{IsReady}
use Rattle.case_trees.specs.Problems.{Member, member_of, problem_of}
use Rattle.case_trees.specs.Standing.{Runs}
use Rattle.tree_translation.specs.Comparisons.{Comparison}
use Rattle.tree_translation.specs.Conditions.{AreEnds}
use Rattle.tree_translation.specs.Hidden.{visible}
use Rattle.tree_translation.specs.Naming.{Naming}
use Rattle.tree_translation.specs.Replays.{behind_rule, behind_run, behind_step, step_in, unless_compared}
use Rattle.tree_translation.specs.Splits.{branch_standing, member_names, on_member, split_member, split_names}
use Rattle.tree_translation.specs.Standings.{Standing, levels_from}
use Rattle.tree_translation.proofs.LevelLists.{length-levels}
use Rattle.entry_laws.proofs.node_roots.RootNodes.{none-out}
use Rattle.entry_laws.proofs.replay_laws.TreeNodes.{branch-below, node-after}
use Rattle.exact_laws.proofs.run_laws.AnsweredSplits.{IsSplitOver, branch-run, whole-member, whole_of}
use Rattle.entry_laws.proofs.OnlyConstants.{Each, each-left, each-right}
use Rattle.entry_laws.proofs.entry_scopes.DraftSignatures.{numbers-there, ready-there, scoped-draft, with_count}
use Rattle.entry_laws.proofs.entry_scopes.WholeCycles.{HasPrelude}
use Rattle.entry_laws.proofs.entry_scopes.WholeSplits.{IsNodeIn, member-scoped}
use Rattle.entry_laws.proofs.entry_scopes.WholeTerms.{equation-scoped}
use Rattle.clause_reports.specs.ProofTerms.{all_proof_names, goal_node, proof_names, proof_term, proof_terms}
use Rattle.clause_reports.specs.ProofWalks.{Place, Proof, Proofs}
use Rattle.proof_walks.specs.PlaceScopes.{IsScopedPlace}
use Rattle.function_session.proofs.function_laws.report_laws.WalkedProofs.{AreFrom, AreProofs, IsProof, from-first, from-next, place_in}
use Rattle.function_session.proofs.function_laws.report_laws.MadeProofs.{run-ends, run-goes, split-is, split-over}

-- ---- nothing is hidden after a run either

unless-own : (w : Standing) (g : ℕ) (o : Option Comparison) → w.hidden ≡ [] → (unless_compared w g o).hidden ≡ []
unless-own w g None e = e
unless-own w g (Some c) e = e

rule-own : (S : Signature) (w : Standing) (step : Step) (rule : Rule) → w.hidden ≡ [] → (behind_rule S w step rule).hidden ≡ []
rule-own S w step (SolveRight x) e = ap (map _) e
rule-own S w step (SolveLeft x) e = ap (map _) e
rule-own S w step (Inject n number) e = unless-own w step.group _ e
rule-own S w step (Conflict n c d) e = e
rule-own S w step (Cycle x) e = e
rule-own S w step Delete e = e

run-own : (S : Signature) (steps : List Step) (w : Standing) → w.hidden ≡ [] → (behind_run S steps w).hidden ≡ []
run-own S [] w e = e
run-own S (step ∷ steps) w e = run-own S steps (behind_step S w step) (rule-own S w (step_in w step) (step_in w step).rule e)

visible-long : (n : ℕ) (hidden : List ℕ) → hidden ≡ [] → length (visible n hidden) ≡ n
visible-long n hidden e = ap (λ h. length (visible n h)) e ∙ (ap length (none-out (levels_from 0 n)) ∙ length-levels 0 n)

-- ---- terms

module _ (S : Signature) (count : ℕ) (ready : IsReady S) (first : HasPrelude (with_count S count)) (number : Naming) (L : ℕ) (low : L < top) where
  wide : (n : ℕ) (t : Term) → IsScoped S n t → IsScoped (with_count S count) n t
  wide n t h = scoped-wider (numbers-there S count) h

  reflexivity-there : (n : ℕ) (a u : Term) → IsScoped (with_count S count) n a → IsScoped (with_count S count) n u → IsScoped (with_count S count) n (reflexivity L a u)
  reflexivity-there n a u h k =
      let at = ((ready-there S count ready).identities L low).entry in
      let one = (let some : 0 < 1 = omega arith in some) in
      record { variables = omega (arith, h.variables, k.variables); entries = (((_, at, one), h.entries), k.entries) }

  node-there : (p : Place) → IsScopedPlace S p → IsNodeIn (with_count S count) (goal_node L p)
  node-there p is =
      let n = length p.context in
      record {
        context = telescope-wider (numbers-there S count) 0 p.context is.context;
        goal =
            equation-scoped (with_count S count) n L p.type p.left p.right (ready-there S count ready) low (wide n p.type is.type) (wide n p.left is.left)
            (wide n p.right is.right);
      }

  abbrev pub Constants : List (List ℕ) → Type 0
  Constants names = Each (λ name. IsConstantNumber (with_count S count) (number name)) names

  -- a context after a run that solves its problem
  after-long : (p : Place) (x : ℕ) (type : Term) (m : Member) (at : ℕ) (c : Constructor) (steps : List Step) (context : Telescope) (solution : List Term)
      → (over : IsSplitOver S (goal_node L p) x type p.context x type m) → (there : slice_get m.family.constructors at ≡ Some c)
      → (ran : Runs S (problem_of p.context x m at c) (outcome.Solved steps context solution))
      → length context ≡ length (behind_run S steps (branch_standing (goal_node L p) (whole_of (goal_node L p) m) x at c)).state.context
  after-long p x type m at c steps context solution over there ran =
      let node = goal_node L p in
      let whole = whole_of node m in
      let w = branch_standing node whole x at c in
      let run = branch-run S node x type p.context x type m over at c (outcome.Solved steps context solution) there ran in
      let next = node-after S (problem_of p.context x m at c) steps context solution w ready run.scoped ran run.widens (branch-below node whole x at c tt) in
      next.is_seen.count ∙ visible-long (length (behind_run S steps w).state.context) (behind_run S steps w).hidden (run-own S steps w refl)

  mutual
    pub proof-scoped : (proof : Proof) → IsProof S proof → Constants (proof_names S L proof)
        → IsScoped (with_count S count) (length (place_in proof).context) (proof_term S number L proof)
    proof-scoped _ (IsProof.ends clause p is) named =
        let n = length p.context in reflexivity-there n p.type p.left (wide n p.type is.type) (wide n p.left is.left)
    proof-scoped _ (IsProof.splits p x type m runs proofs is inside scoped found all) named =
        let node = goal_node L p in
        let whole = whole_of node m in
        let over = split-over S ready L p x type m is inside scoped found in
        let here : member_of S type ≡ Some whole = whole-member S node x type p.context x type m over in
        let ends = proof_terms S number L proofs in
        let own = each-left (split_names S L node x type runs) (all_proof_names S L proofs) named in
        let inner = each-right (split_names S L node x type runs) (all_proof_names S L proofs) named in
        transport (λ o. IsScoped (with_count S count) (length p.context) (on_member o (λ m. split_member S number L node m x runs ends))) (sym here)
        (member-scoped S count ready first number L node (node-there p is) tt x type runs (split-is S ready L p x type m runs proofs is inside scoped found all) whole here
        count ends (omega arith)
        (ends-there p x type m over 0 m.family.constructors runs proofs
        (λ j c e. (let place : j ≡ 0 + j = omega arith in ap (slice_get m.family.constructors) (sym place) ∙ e)) all inner)
        (transport (λ o. Constants (member_names S L node x runs o)) here own))

    ends-there : (p : Place) (x : ℕ) (type : Term) (m : Member) → IsSplitOver S (goal_node L p) x type p.context x type m → (at : ℕ) (cs : List Constructor)
        (runs : List (List Step)) (proofs : Proofs) → AreFrom m at cs → AreProofs S p x m at cs runs proofs → Constants (all_proof_names S L proofs)
        → AreEnds S (length S.entries) count (goal_node L p) (whole_of (goal_node L p) m) x at cs runs (proof_terms S number L proofs)
    ends-there p x type m over at _ _ _ from (AreProofs.none _ _ _ _) named = AreEnds.none
    ends-there p x type m over at _ _ _ from (AreProofs.absurd_run _ _ _ _ c cs steps context u v runs proofs ran rest) named =
        AreEnds.absurd (run-ends S ready L p x type m at c steps context u v over (from-first m at c cs from) ran)
        (ends-there p x type m over (at + 1) cs runs proofs (from-next m at c cs from) rest named)
    ends-there p x type m over at _ _ _ from (AreProofs.solved_run _ _ _ _ c cs steps context solution proof runs proofs ran made over_it rest) named =
        let there = from-first m at c cs from in
        let long = after-long p x type m at c steps context solution over there ran in
        let same : length (place_in proof).context ≡ length (behind_run S steps (branch_standing (goal_node L p) (whole_of (goal_node L p) m) x at c)).state.context =
        ap length over_it ∙ long in
        let h = proof-scoped proof made (each-left (proof_names S L proof) (all_proof_names S L proofs) named) in
        AreEnds.solved (run-goes S ready L p x type m at c steps context solution over there ran)
        (transport (λ n. IsDraftTerm S (length S.entries) count n (proof_term S number L proof)) same
        (scoped-draft S count (length (place_in proof).context) (proof_term S number L proof) h))
        (ends-there p x type m over (at + 1) cs runs proofs (from-next m at c cs from) rest
        (each-right (proof_names S L proof) (all_proof_names S L proofs) named))
