-- The names that the term of a proof may mention can be generated, where the level is low enough.
use Rattle.std.proofs.Common.{◌≡◌, ℕ, ◌+◌, ◌<◌, Some, List, slice_get, sym, ap, ◌∙◌, subst as transport, arith}
use Rattle.theory.specs.Terms.{Term, top}
use Rattle.theory.specs.Families.{Constructor}
use Rattle.theory.specs.Signatures.{Signature}
use Rattle.core_terms.specs.CaseTrees.{Step}
use Rattle.unification.specs.Outcomes as outcome
use Rattle.unification.specs.Outcomes.{Outcome, steps_in}
use Rattle.unification.specs.ScopedStates.{IsReady}
use Rattle.case_trees.specs.Problems.{Member, member_of, problem_of}
use Rattle.case_trees.specs.Standing.{Runs}
use Rattle.tree_translation.specs.RunTerms.{run_names}
use Rattle.tree_translation.specs.Splits.{branch_standing, member_names, methods_names, split_names}
use Rattle.entry_laws.proofs.replay_laws.SeenMembers.{member-entry}
use Rattle.exact_laws.proofs.run_laws.AnsweredSplits.{IsSplitOver, branch-run, whole-member, whole_of}
use Rattle.entry_laws.proofs.OnlyConstants.{Each, each-append}
use Rattle.drafts.specs.draft_entering.Conditions.{IsGeneratedName}
use Rattle.function_session.proofs.function_laws.report_laws.drafts_in_turn.RunNames.{IsFitting, can-analyse, problem-names}
use Rattle.clause_reports.specs.ProofTerms.{all_proof_names, goal_node, proof_names}
use Rattle.clause_reports.specs.ProofWalks.{Place, Proof, Proofs}
use Rattle.function_session.proofs.function_laws.report_laws.WalkedProofs.{AreFrom, AreProofs, IsProof, from-first, from-next}
use Rattle.function_session.proofs.function_laws.report_laws.MadeProofs.{split-over}

module _ (S : Signature) (ready : IsReady S) (L : ℕ) (fits : IsFitting L) where
  branch-fits : (p : Place) (x : ℕ) (type : Term) (m : Member) → IsSplitOver S (goal_node L p) x type p.context x type m → (at : ℕ) (c : Constructor)
      → slice_get m.family.constructors at ≡ Some c → (o : Outcome) → Runs S (problem_of p.context x m at c) o
      → Each (IsGeneratedName S) (run_names S L (steps_in o) (branch_standing (goal_node L p) (whole_of (goal_node L p) m) x at c))
  branch-fits p x type m over at c there o ran =
      let run = branch-run S (goal_node L p) x type p.context x type m over at c o there ran in
      problem-names S L fits (problem_of p.context x m at c) o (branch_standing (goal_node L p) (whole_of (goal_node L p) m) x at c) ready run.scoped ran run.widens

  methods-fit : (p : Place) (x : ℕ) (type : Term) (m : Member) → IsSplitOver S (goal_node L p) x type p.context x type m → (at : ℕ) (cs : List Constructor)
      (runs : List (List Step)) (proofs : Proofs) → AreFrom m at cs → AreProofs S p x m at cs runs proofs
      → Each (IsGeneratedName S) (methods_names S L (goal_node L p) (whole_of (goal_node L p) m) x at cs runs)
  methods-fit p x type m over at _ _ _ from (AreProofs.none _ _ _ _) = Each.none
  methods-fit p x type m over at _ _ _ from (AreProofs.absurd_run _ _ _ _ c cs steps context u v runs proofs ran rest) =
      each-append _ _ (branch-fits p x type m over at c (from-first m at c cs from) (outcome.Absurd steps context u v) ran)
      (methods-fit p x type m over (at + 1) cs runs proofs (from-next m at c cs from) rest)
  methods-fit p x type m over at _ _ _ from (AreProofs.solved_run _ _ _ _ c cs steps context solution proof runs proofs ran made over_it rest) =
      each-append _ _ (branch-fits p x type m over at c (from-first m at c cs from) (outcome.Solved steps context solution) ran)
      (methods-fit p x type m over (at + 1) cs runs proofs (from-next m at c cs from) rest)

  mutual
    pub names-fit : (proof : Proof) → IsProof S proof → Each (IsGeneratedName S) (proof_names S L proof)
    names-fit _ (IsProof.ends clause p is) = Each.none
    names-fit _ (IsProof.splits p x type m runs proofs is inside scoped found all) =
        let node = goal_node L p in
        let over = split-over S ready L p x type m is inside scoped found in
        let here : member_of S type ≡ Some (whole_of node m) = whole-member S node x type p.context x type m over in
        let low : L < top = omega (arith, fits) in
        each-append (split_names S L node x type runs) (all_proof_names S L proofs)
        (transport (λ o. Each (IsGeneratedName S) (member_names S L node x runs o)) (sym here)
        (Each.more (can-analyse S L m.n m.family low (member-entry S type m found))
        (methods-fit p x type m over 0 m.family.constructors runs proofs
        (λ j c e. (let place : j ≡ 0 + j = omega arith in ap (slice_get m.family.constructors) (sym place) ∙ e)) all)))
        (all-fit p x m 0 m.family.constructors runs proofs all)

    all-fit : (p : Place) (x : ℕ) (m : Member) (at : ℕ) (cs : List Constructor) (runs : List (List Step)) (proofs : Proofs) → AreProofs S p x m at cs runs proofs
        → Each (IsGeneratedName S) (all_proof_names S L proofs)
    all-fit p x m at _ _ _ (AreProofs.none _ _ _ _) = Each.none
    all-fit p x m at _ _ _ (AreProofs.absurd_run _ _ _ _ c cs steps context u v runs proofs ran rest) = all-fit p x m (at + 1) cs runs proofs rest
    all-fit p x m at _ _ _ (AreProofs.solved_run _ _ _ _ c cs steps context solution proof runs proofs ran made over_it rest) =
        each-append (proof_names S L proof) (all_proof_names S L proofs) (names-fit proof made) (all-fit p x m (at + 1) cs runs proofs rest)
