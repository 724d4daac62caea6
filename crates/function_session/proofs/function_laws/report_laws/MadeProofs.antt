-- The term and the names of a proof are made where the term is no higher than a term may be, and so the candidate of a clause is made.
use Rattle.std.proofs.Common.{◌≡◌, ℕ, ◌+◌, ◌<◌, ◌≤◌, true, false, cond, Some, List, [], ◌∷◌, ◌++◌, length, slice_get, Result, Ok, Err, refl, sym, ap, ◌∙◌, subst as transport, append_assoc, arith}
use Rattle.theory.specs.Terms.{Term, height}
use Rattle.theory.specs.Telescopes.{Telescope, functions}
use Rattle.theory.specs.Families.{Constructor}
use Rattle.theory.specs.Signatures.{Signature}
use Rattle.theory.specs.SignatureScopes.{IsScoped}
use Rattle.core_terms.specs.Answers.{and_then, bounded}
use Rattle.core_terms.specs.CaseTrees.{Step}
use Rattle.core_terms.specs.declared.stop.Stop.{Stop}
use Rattle.core_terms.specs.declared.stop.Stop.TheVariants.{Deep}
use Rattle.core_sig.specs.Drafts.{Draft}
use Rattle.core_sig.specs.Settling.{renumbered}
use Rattle.core_sig.proofs.DraftTerms.{height-renumbered}
use Rattle.tele_eq.proofs.Growing.{append-none}
use Rattle.unification.specs.Outcomes as outcome
use Rattle.unification.specs.ScopedStates.{IsReady}
use Rattle.problems.specs.Conditions.{AreLow}
use Rattle.case_trees.specs.Problems.{Member, member_of, problem_of}
use Rattle.case_trees.specs.Standing.{Runs}
use Rattle.tree_translation.specs.Conditions.{AreRuns, IsEnd, IsSplit}
use Rattle.tree_translation.specs.Naming.{Naming, case_name, mentions, number_among, number_in, once, with_names}
use Rattle.tree_translation.specs.Plans.{Plan}
use Rattle.tree_translation.specs.Splits.{behind_first, branch_standing, is_absurd, on_member, split_member, split_method, split_methods, split_names, split_node}
use Rattle.tree_translation.specs.Standings.{problem_state}
use Rattle.tree_translation.proofs.Drafting.{IsDeepAlone, and_then-deep, and_then-ok, drafted-deep, ok-deep}
use Rattle.tree_translation.proofs.NothingHidden.{number-own, widened-own}
use Rattle.split_terms.specs.CodeSplits.{split_names_made, split_node_made}
use Rattle.entry_laws.proofs.node_roots.RootNodes.{own-seen}
use Rattle.entry_laws.proofs.replay_laws.LowParts.{low-functions}
use Rattle.entry_laws.proofs.replay_laws.ReplayedSteps.{after_step-is_step}
use Rattle.entry_laws.proofs.replay_laws.SeenMembers.{member-count}
use Rattle.entry_laws.proofs.replay_laws.TreeNodes.{absurd-ends, problem-reached, solved-goes}
use Rattle.exact_laws.specs.run_laws.SplitLaws.{IsRunSplit}
use Rattle.exact_laws.proofs.run_laws.AnsweredSplits.{IsSplitOver, branch-run, branch-there, method-low, split-answers, split-low, split_names-answer, whole-member, whole_of}
use Rattle.exact_laws.proofs.run_laws.MadeSplits.{split-only_deep, split_names-only_deep}
use Rattle.exact_laws.proofs.run_laws.RunEnds.{end-low}
use Rattle.leaf_terms.specs.CodeNumbering.{names_at, numbered, places_of}
use Rattle.exact_laws.proofs.deep_laws.MadeParts.{bounded-low}
use Rattle.clause_reports.specs.Equations.{Equation, part_at, part_name, closed_type}
use Rattle.clause_reports.specs.ProofTerms.{all_proof_names, candidate, goal_node, proof_names, proof_term, proof_terms}
use Rattle.clause_reports.specs.ProofWalks.{Place, Proof, Ends, Splits, Proofs, nil, cons}
use Rattle.proof_walks.specs.proof_terms.CodeProofs.{all_names_made, body_made, candidate_made, candidate_with, name_made, names_made, proof_made, proofs_made, table_made}
use Rattle.proof_walks.proofs.proof_terms.ProofsMade.{candidate-is}
use Rattle.proof_walks.specs.PlaceScopes.{IsScopedPlace}
use Rattle.function_session.proofs.function_laws.report_laws.WalkedProofs.{AreFrom, AreProofs, IsProof, from-first, from-next}

-- ---- splits

pub runs-of : (S : Signature) (p : Place) (x : ℕ) (m : Member) (number : ℕ) (cs : List Constructor) (runs : List (List Step)) (proofs : Proofs)
    → AreProofs S p x m number cs runs proofs → AreRuns S p.context x m number cs runs
runs-of S p x m number _ _ _ (AreProofs.none _ _ _ _) = AreRuns.none
runs-of S p x m number _ _ _ (AreProofs.absurd_run _ _ _ _ c cs steps context u v runs proofs ran rest) =
    AreRuns.more (outcome.Absurd steps context u v) ran (IsEnd.absurd context u v) (runs-of S p x m (number + 1) cs runs proofs rest)
runs-of S p x m number _ _ _ (AreProofs.solved_run _ _ _ _ c cs steps context solution proof runs proofs ran made over rest) =
    AreRuns.more (outcome.Solved steps context solution) ran (IsEnd.solved context solution) (runs-of S p x m (number + 1) cs runs proofs rest)

module _ (S : Signature) (ready : IsReady S) (L : ℕ) where
  pub split-over : (p : Place) (x : ℕ) (type : Term) (m : Member) → IsScopedPlace S p → x < length p.context → IsScoped S (length p.context) type
      → member_of S type ≡ Some m → IsSplitOver S (goal_node L p) x type p.context x type m
  split-over p x type m is low scoped found = record {
    ready = ready;
    is_seen = own-seen p.context;
    hidden = tt;
    inside = low;
    variable = sym (number-own (length p.context) x low);
    type_seen = sym (widened-own (length p.context) type);
    is_member = found;
    context_scoped = is.context;
    reduced_scoped = scoped;
  }

  pub split-is : (p : Place) (x : ℕ) (type : Term) (m : Member) (runs : List (List Step)) (proofs : Proofs) → IsScopedPlace S p → x < length p.context
      → IsScoped S (length p.context) type → member_of S type ≡ Some m → AreProofs S p x m 0 m.family.constructors runs proofs
      → IsSplit S (goal_node L p) x type runs
  split-is p x type m runs proofs is low scoped found all = record {
    seen = p.context;
    y = x;
    reduced = type;
    member = m;
    is_seen = own-seen p.context;
    inside = low;
    variable = sym (number-own (length p.context) x low);
    type_seen = sym (widened-own (length p.context) type);
    is_member = found;
    are_runs = runs-of S p x m 0 m.family.constructors runs proofs all;
    context_scoped = is.context;
    reduced_scoped = scoped;
  }

  run-split : (p : Place) (x : ℕ) (type : Term) (m : Member) (runs : List (List Step)) (proofs : Proofs) → IsScopedPlace S p → x < length p.context
      → IsScoped S (length p.context) type → member_of S type ≡ Some m → AreProofs S p x m 0 m.family.constructors runs proofs
      → IsRunSplit S (goal_node L p) x type runs
  run-split p x type m runs proofs is low scoped found all =
      record { ready = ready; split = split-is p x type m runs proofs is low scoped found all; hidden = tt }

  -- whether a run solves its problem
  pub run-goes : (p : Place) (x : ℕ) (type : Term) (m : Member) (at : ℕ) (c : Constructor) (steps : List Step) (context : Telescope) (solution : List Term)
      → IsSplitOver S (goal_node L p) x type p.context x type m → slice_get m.family.constructors at ≡ Some c
      → Runs S (problem_of p.context x m at c) (outcome.Solved steps context solution) → is_absurd steps ≡ false
  run-goes p x type m at c steps context solution over there ran =
      let run = branch-run S (goal_node L p) x type p.context x type m over at c (outcome.Solved steps context solution) there ran in
      solved-goes S (problem_state (problem_of p.context x m at c)) steps context solution
      (problem-reached S (problem_of p.context x m at c) ran.units (outcome.Solved steps context solution) ready run.scoped ran.run)

  pub run-ends : (p : Place) (x : ℕ) (type : Term) (m : Member) (at : ℕ) (c : Constructor) (steps : List Step) (context : Telescope) (u v : Term)
      → IsSplitOver S (goal_node L p) x type p.context x type m → slice_get m.family.constructors at ≡ Some c
      → Runs S (problem_of p.context x m at c) (outcome.Absurd steps context u v) → is_absurd steps ≡ true
  run-ends p x type m at c steps context u v over there ran =
      let run = branch-run S (goal_node L p) x type p.context x type m over at c (outcome.Absurd steps context u v) there ran in
      absurd-ends S (problem_state (problem_of p.context x m at c)) steps context u v
      (problem-reached S (problem_of p.context x m at c) ran.units (outcome.Absurd steps context u v) ready run.scoped ran.run)

  -- ---- terms

  module _ (number : Naming) where
    abbrev methods_from : Place → (x : ℕ) → Member → (at : ℕ) → List Constructor → List (List Step) → (ends : List Term) → List Term
    methods_from p x m at cs runs ends = split_methods S number L (goal_node L p) (whole_of (goal_node L p) m) x at cs runs ends

    -- the methods after an absurd run, and after one that is solved
    low-absurd : (p : Place) (x : ℕ) (m : Member) (at : ℕ) (cs : List Constructor) (runs : List (List Step)) (steps : List Step) (ends : List Term)
        → is_absurd steps ≡ true → AreLow (methods_from p x m at cs runs (cond (is_absurd steps) ends (behind_first ends)))
        → AreLow (methods_from p x m at cs runs ends)
    low-absurd p x m at cs runs steps ends e low = transport (λ b. AreLow (methods_from p x m at cs runs (cond b ends (behind_first ends)))) e low

    low-solved : (p : Place) (x : ℕ) (m : Member) (at : ℕ) (cs : List Constructor) (runs : List (List Step)) (steps : List Step) (end : Term) (others : List Term)
        → is_absurd steps ≡ false → AreLow (methods_from p x m at cs runs (cond (is_absurd steps) (end ∷ others) others))
        → AreLow (methods_from p x m at cs runs others)
    low-solved p x m at cs runs steps end others e low = transport (λ b. AreLow (methods_from p x m at cs runs (cond b (end ∷ others) others))) e low

    -- the end of a solved branch
    solved-low : (p : Place) (x : ℕ) (type : Term) (m : Member) (at : ℕ) (c : Constructor) (steps : List Step) (context : Telescope) (solution : List Term) (end : Term)
        → IsSplitOver S (goal_node L p) x type p.context x type m → length m.family.indices + 1 ≤ 1000 → slice_get m.family.constructors at ≡ Some c
        → Runs S (problem_of p.context x m at c) (outcome.Solved steps context solution)
        → height (split_method S number L (goal_node L p) (whole_of (goal_node L p) m) x at c steps end) ≤ 2000 → height end ≤ 2000
    solved-low p x type m at c steps context solution end over few there ran low =
        let node = goal_node L p in
        let run = branch-run S node x type p.context x type m over at c (outcome.Solved steps context solution) there ran in
        let is = branch-there S node x type p.context x type m over few at c steps (outcome.Solved steps context solution) there ran (IsEnd.solved context solution) in
        let parts = method-low S number L node (whole_of node m) x at c steps end is.even low in
        end-low S (problem_of p.context x m at c) steps context solution (branch_standing node (whole_of node m) x at c) number L end run
        (run-goes p x type m at c steps context solution over there ran) parts.inner

    -- the facts of a split whose term is low
    record IsLowSplit (p : Place) (x : ℕ) (type : Term) (m : Member) (runs : List (List Step)) (ends : List Term) : Type 0 where
      few : length m.family.indices + 1 ≤ 1000
      methods_low : AreLow (methods_from p x m 0 m.family.constructors runs ends)

    split-parts : (p : Place) (x : ℕ) (type : Term) (m : Member) (runs : List (List Step)) (ends : List Term)
        → IsSplitOver S (goal_node L p) x type p.context x type m → height (split_node S number L (goal_node L p) x type runs ends) ≤ 2000
        → IsLowSplit p x type m runs ends
    split-parts p x type m runs ends over low =
        let node = goal_node L p in
        let whole = whole_of node m in
        let here : member_of S type ≡ Some whole = whole-member S node x type p.context x type m over in
        let low' : height (split_member S number L node whole x runs ends) ≤ 2000 =
        transport (λ o. height (on_member o (λ m. split_member S number L node m x runs ends)) ≤ 2000) here low in
        let parts =
        split-low node whole x (number (case_name whole.family L)) (split_methods S number L node whole x 0 whole.family.constructors runs ends)
        (member-count S type whole here) low' in
        record { few = parts.few; methods_low = parts.methods_low }

    all-from : (m : Member) → AreFrom m 0 m.family.constructors
    all-from m = λ j c e. (let place : j ≡ 0 + j = omega arith in ap (slice_get m.family.constructors) (sym place) ∙ e)

    mutual
      pub proof-there : (proof : Proof) → IsProof S proof → height (proof_term S number L proof) ≤ 2000
          → proof_made S number L proof ≡ Ok (proof_term S number L proof)
      proof-there _ (IsProof.ends clause p is) low = refl
      proof-there _ (IsProof.splits p x type m runs proofs is inside scoped found all) low =
          let over = split-over p x type m is inside scoped found in
          let ends = proof_terms S number L proofs in
          let parts = split-parts p x type m runs ends over low in
          ap (λ (r : Result (List Term) Stop). and_then r (split_node_made S number L (goal_node L p) x type runs))
          (proofs-there p x type m over parts.few 0 m.family.constructors runs proofs (all-from m) all [] parts.methods_low)
          ∙ split-answers S number L (goal_node L p) x type runs ends (run-split p x type m runs proofs is inside scoped found all) low

      proofs-there : (p : Place) (x : ℕ) (type : Term) (m : Member) → IsSplitOver S (goal_node L p) x type p.context x type m
          → length m.family.indices + 1 ≤ 1000 → (at : ℕ) (cs : List Constructor) (runs : List (List Step)) (proofs : Proofs) → AreFrom m at cs
          → AreProofs S p x m at cs runs proofs → (made : List Term) → AreLow (methods_from p x m at cs runs (proof_terms S number L proofs))
          → proofs_made S number L proofs made ≡ Ok (made ++ proof_terms S number L proofs)
      proofs-there p x type m over few at _ _ _ from (AreProofs.none _ _ _ _) made low = ap (λ all. Ok all) (sym (append-none made))
      proofs-there p x type m over few at _ _ _ from (AreProofs.absurd_run _ _ _ _ c cs steps context u v runs proofs ran rest) made low =
          proofs-there p x type m over few (at + 1) cs runs proofs (from-next m at c cs from) rest made
          (low-absurd p x m (at + 1) cs runs steps (proof_terms S number L proofs)
          (run-ends p x type m at c steps context u v over (from-first m at c cs from) ran) low.1)
      proofs-there p x type m over few at _ _ _ from (AreProofs.solved_run _ _ _ _ c cs steps context solution proof runs proofs ran is over_it rest) made low =
          let there = from-first m at c cs from in
          let end = proof_term S number L proof in
          let others = proof_terms S number L proofs in
          ap (λ (r : Result Term Stop). and_then r (λ t. proofs_made S number L proofs (made ++ t ∷ [])))
          (proof-there proof is (solved-low p x type m at c steps context solution end over few there ran low.0))
          ∙ (proofs-there p x type m over few (at + 1) cs runs proofs (from-next m at c cs from) rest (made ++ end ∷ [])
          (low-solved p x m (at + 1) cs runs steps end others (run-goes p x type m at c steps context solution over there ran) low.1)
          ∙ ap (λ all. Ok all) (append_assoc made (end ∷ []) others))

    -- ---- names

    mutual
      pub names-there : (proof : Proof) → IsProof S proof → height (proof_term S number L proof) ≤ 2000 → (names : List (List ℕ))
          → names_made S L proof names ≡ Ok (names ++ proof_names S L proof)
      names-there _ (IsProof.ends clause p is) low names = ap (λ all. Ok all) (sym (append-none names))
      names-there _ (IsProof.splits p x type m runs proofs is inside scoped found all) low names =
          let over = split-over p x type m is inside scoped found in
          let ends = proof_terms S number L proofs in
          let own = split_names S L (goal_node L p) x type runs in
          let parts = split-parts p x type m runs ends over low in
          ap (λ (r : Result (List (List ℕ)) Stop). and_then r (all_names_made S L proofs))
          (split_names-answer S number L (goal_node L p) x type runs ends names (run-split p x type m runs proofs is inside scoped found all) low)
          ∙ (all-names-there p x type m over parts.few 0 m.family.constructors runs proofs (all-from m) all (names ++ own) parts.methods_low
          ∙ ap (λ all. Ok all) (append_assoc names own (all_proof_names S L proofs)))

      all-names-there : (p : Place) (x : ℕ) (type : Term) (m : Member) → IsSplitOver S (goal_node L p) x type p.context x type m
          → length m.family.indices + 1 ≤ 1000 → (at : ℕ) (cs : List Constructor) (runs : List (List Step)) (proofs : Proofs) → AreFrom m at cs
          → AreProofs S p x m at cs runs proofs → (names : List (List ℕ)) → AreLow (methods_from p x m at cs runs (proof_terms S number L proofs))
          → all_names_made S L proofs names ≡ Ok (names ++ all_proof_names S L proofs)
      all-names-there p x type m over few at _ _ _ from (AreProofs.none _ _ _ _) names low = ap (λ all. Ok all) (sym (append-none names))
      all-names-there p x type m over few at _ _ _ from (AreProofs.absurd_run _ _ _ _ c cs steps context u v runs proofs ran rest) names low =
          all-names-there p x type m over few (at + 1) cs runs proofs (from-next m at c cs from) rest names
          (low-absurd p x m (at + 1) cs runs steps (proof_terms S number L proofs)
          (run-ends p x type m at c steps context u v over (from-first m at c cs from) ran) low.1)
      all-names-there p x type m over few at _ _ _ from (AreProofs.solved_run _ _ _ _ c cs steps context solution proof runs proofs ran is over_it rest) names low =
          let there = from-first m at c cs from in
          let end = proof_term S number L proof in
          let others = proof_terms S number L proofs in
          let own = proof_names S L proof in
          ap (λ (r : Result (List (List ℕ)) Stop). and_then r (all_names_made S L proofs))
          (names-there proof is (solved-low p x type m at c steps context solution end over few there ran low.0) names)
          ∙ (all-names-there p x type m over few (at + 1) cs runs proofs (from-next m at c cs from) rest (names ++ own)
          (low-solved p x m (at + 1) cs runs steps end others (run-goes p x type m at c steps context solution over there ran) low.1)
          ∙ ap (λ all. Ok all) (append_assoc names own (all_proof_names S L proofs)))

-- ---- only Deep

mutual
  names-deep : (S : Signature) (L : ℕ) (proof : Proof) (names : List (List ℕ)) → IsDeepAlone (names_made S L proof names)
  names-deep S L (Ends clause p) names = ok-deep names
  names-deep S L (Splits p x type runs proofs) names =
      and_then-deep (split_names_made S L (goal_node L p) x type runs names) (all_names_made S L proofs)
      (λ e is. split_names-only_deep S L (goal_node L p) x type runs names e is) (λ all. all-names-deep S L proofs all)

  all-names-deep : (S : Signature) (L : ℕ) (proofs : Proofs) (names : List (List ℕ)) → IsDeepAlone (all_names_made S L proofs names)
  all-names-deep S L nil names = ok-deep names
  all-names-deep S L (cons proof proofs) names =
      and_then-deep (names_made S L proof names) (all_names_made S L proofs) (names-deep S L proof names) (λ all. all-names-deep S L proofs all)

mutual
  proof-deep : (S : Signature) (number : Naming) (L : ℕ) (proof : Proof) → IsDeepAlone (proof_made S number L proof)
  proof-deep S number L (Ends clause p) = ok-deep _
  proof-deep S number L (Splits p x type runs proofs) =
      and_then-deep (proofs_made S number L proofs []) (split_node_made S number L (goal_node L p) x type runs) (proofs-deep S number L proofs [])
      (λ ends e is. split-only_deep S number L (goal_node L p) x type runs ends e is)

  proofs-deep : (S : Signature) (number : Naming) (L : ℕ) (proofs : Proofs) (made : List Term) → IsDeepAlone (proofs_made S number L proofs made)
  proofs-deep S number L nil made = ok-deep made
  proofs-deep S number L (cons proof proofs) made =
      and_then-deep (proof_made S number L proof) (λ t. proofs_made S number L proofs (made ++ t ∷ [])) (proof-deep S number L proof)
      (λ t. proofs-deep S number L proofs (made ++ t ∷ []))

numbered-deep : (name : List ℕ) (base : ℕ) (table : List (List ℕ)) (t u : Term) → IsDeepAlone (numbered name base table t u)
numbered-deep name base table t u =
    let r = number_among base (places_of base t u) in
    drafted-deep name base (names_at table (places_of base t u)) (renumbered r t) (renumbered r u)

candidate-deep : (S : Signature) (name : List ℕ) (L : ℕ) (e : Equation) (proof : Proof) → IsDeepAlone (candidate_made S name L e proof)
candidate-deep S name L e proof =
    and_then-deep (table_made S L proof) (candidate_with S name L e proof)
    (and_then-deep (names_made S L proof []) _ (names-deep S L proof []) (λ names. ok-deep _)) (λ table.
    and_then-deep (body_made S (number_in (length S.entries) table) L e proof) _
    (and_then-deep (proof_made S (number_in (length S.entries) table) L proof) _ (proof-deep S (number_in (length S.entries) table) L proof) (λ t. ok-deep _)) (λ body.
    numbered-deep name (length S.entries) table (closed_type L e) body))

-- ---- the candidate

-- the term of a draft is low
body-low : (name : List ℕ) (base : ℕ) (table : List (List ℕ)) (t u : Term) (d : Draft) → numbered name base table t u ≡ Ok d → height u ≤ 2000
body-low name base table t u d e =
    let r = number_among base (once [] (mentions base t ++ mentions base u)) in
    let first = and_then-ok (bounded (renumbered r t)) _ d e in
    let second = and_then-ok (bounded (renumbered r u)) _ d first.goes in
    transport (λ h. h ≤ 2000) (height-renumbered r u) (bounded-low (renumbered r u) second.answer second.is)

module _ (S : Signature) (ready : IsReady S) (plan : Plan) (k clause : ℕ) (e : Equation) (proof : Proof) (is : IsProof S proof) where
  candidate-there : (d : Draft) → candidate S plan k clause e proof ≡ Ok d
      → candidate_made S (name_made (part_name plan k) clause) (part_at plan k).level e proof ≡ Ok d
  candidate-there d h =
      let L = (part_at plan k).level in
      let base = length S.entries in
      let name = name_made (part_name plan k) clause in
      let table = with_names [] (proof_names S L proof) in
      let number = number_in base table in
      let body = functions e.context (proof_term S number L proof) in
      let low : height (proof_term S number L proof) ≤ 2000 =
      (low-functions e.context (proof_term S number L proof) (body-low name base table (closed_type L e) body d h)).1 in
      ap (λ (r : Result (List (List ℕ)) Stop). and_then (and_then r (λ names. Ok (with_names [] names))) (candidate_with S name L e proof))
      (names-there S ready L number proof is low [])
      ∙ (ap (λ (r : Result Term Stop). and_then (and_then r (λ t. Ok (functions e.context t))) (numbered name base table (closed_type L e)))
      (proof-there S ready L number proof is low)
      ∙ h)

  -- the candidate is made, and is Deep where it is meant to be
  pub candidate-exact : candidate_made S (name_made (part_name plan k) clause) (part_at plan k).level e proof ≡ candidate S plan k clause e proof
  candidate-exact =
      by (candidate_made S (name_made (part_name plan k) clause) (part_at plan k).level e proof) refl (candidate S plan k clause e proof) refl
    where
      by : (made : Result Draft Stop) → candidate_made S (name_made (part_name plan k) clause) (part_at plan k).level e proof ≡ made
          → (meant : Result Draft Stop) → candidate S plan k clause e proof ≡ meant → made ≡ meant
      by (Ok d) is_made meant is_meant = sym (candidate-is S (after_step-is_step S) plan k clause e proof d is_made) ∙ is_meant
      by (Err x) is_made (Ok d) is_meant = absurd (let there = candidate-there d is_meant in cc)
      by (Err x) is_made (Err y) is_meant =
          let first : x ≡ Deep = candidate-deep S (name_made (part_name plan k) clause) (part_at plan k).level e proof x is_made in
          let L = (part_at plan k).level in
          let base = length S.entries in
          let table = with_names [] (proof_names S L proof) in
          let body = functions e.context (proof_term S (number_in base table) L proof) in
          let second : y ≡ Deep = numbered-deep (name_made (part_name plan k) clause) base table (closed_type L e) body y is_meant in
          ap (λ (e : Stop). Err e) (first ∙ sym second)
