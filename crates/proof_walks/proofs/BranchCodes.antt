-- The branches that the code takes, and the proofs after the runs that it goes through.
use Rattle.std.proofs.Common.{◌≡◌, ◌≢◌, ℕ, zero, suc, ◌-◌, ◌<◌, true, Option, Some, Result, Ok, Err, List, [], ◌∷◌, ◌++◌, length, map, refl, sym, ap, ap₂, ◌∙◌, subst as transport, arith}
use Rattle.std.proofs.lemmas.List.{map-append}
use Rattle.theory.specs.Telescopes.{Telescope}
use Rattle.theory.specs.Terms.{Term}
use Rattle.theory.specs.Signatures.{Signature}
use Rattle.core_terms.specs.Answers.{Spent}
use Rattle.core_terms.specs.CaseTrees as pure
use Rattle.core_terms.specs.TreeMeanings.{branch_of, branches_of}
use Rattle.core_terms.specs.declared.case_tree.Branch.{Branch}
use Rattle.core_terms.specs.declared.case_tree.Origin.{Origin}
use Rattle.core_terms.specs.declared.stop.Stop as code_stop
use Rattle.core_terms.specs.declared.stop.Stop.TheVariants.{Deep}
use Rattle.core_terms.proofs.Builders.{ok_is}
use Rattle.kernel_reduce.specs.Reduction.{answered}
use Rattle.case_trees.specs.Looking.{Look, Found}
use Rattle.case_trees.specs.Problems.{Member}
use Rattle.clause_walks.specs.LookMeanings.{ends_of, ran_of}
use Rattle.clause_walks.specs.PairConditions.{IsSolving}
use Rattle.clause_walks.specs.Reaching.{RunEnd}
use Rattle.clause_walks.specs.declared.running.Ran.{Ran}
use Rattle.clause_reports.specs.ProofWalks.{Place, Proof, Splits, Proofs, Walking, at_origin, at_other, enter_branch, split_variable, take_branch, walk_tree}
use Rattle.clause_reports.specs.Stops.{ReportStop, Reporting, Halts, answers}
use Rattle.proof_walks.specs.proof_terms.ProofMeanings.{proof_of, proofs, proofs_of}
use Rattle.proof_walks.specs.declared.proof_terms.proof.Proof as code
use Rattle.proof_walks.specs.NodeWalks.{Node, again as again_of, splitting, walk_node, Variable, variable_met}
use Rattle.proof_walks.specs.PlaceScopes.{IsKeptProof, AreKeptProofs}
use Rattle.proof_walks.specs.SolvedRuns.{AreSolving, all_runs, outcomes_in, solved_outcomes, steps_of_ends, onto, with_outcome}
use Rattle.proof_walks.proofs.KeptPlaces.{kept-snoc}
use Rattle.proof_walks.proofs.NodeForms.{other-variable}
use Rattle.proof_walks.proofs.RunForms.{branches-made, branches-none, branches-refused, run-goes, run-refused}

-- ---- branches

module _ (S : Signature) (bs : List Branch) (number : ℕ) (arguments : List Term) (p : Place) (left : ℕ) where
  pub none-taken : length bs < 1 → ◌≡◌ {A = Reporting Proof} (Err (Halts Deep), left) (take_branch S (branches_of bs) number arguments p left)
  none-taken few = by bs few
    where
      by : (bs : List Branch) → length bs < 1 → ◌≡◌ {A = Reporting Proof} (Err (Halts Deep), left) (take_branch S (branches_of bs) number arguments p left)
      by [] few = refl
      by (b ∷ bs) few = absurd (grind arith)

  module _ (b : Branch) (rest : List Branch) (split : bs ≡ b ∷ rest) where
    pub first-taken : number ≡ 0 → enter_branch S (branch_of b) arguments p left ≡ take_branch S (branches_of bs) number arguments p left
    first-taken e = ap₂ (λ bs k. take_branch S (branches_of bs) k arguments p left) (sym split) (sym e)

    pub later-taken : number ≢ 0 → take_branch S (branches_of rest) (number - 1) arguments p left ≡ take_branch S (branches_of bs) number arguments p left
    later-taken other = by number other ∙ ap (λ bs. take_branch S (branches_of bs) number arguments p left) (sym split)
      where
        by : (k : ℕ) → k ≢ 0 → take_branch S (branches_of rest) (k - 1) arguments p left ≡ take_branch S (branches_of (b ∷ rest)) k arguments p left
        by zero other = absurd (other refl)
        by (suc k) other = let e : suc k - 1 ≡ k = omega arith in ap (λ j. take_branch S (branches_of rest) j arguments p left) e

-- ---- runs

module _ (go : Walking) (p : Place) (made : List code.Proof) (runs : List Ran) (left : ℕ) where
  pub none-run : length runs < 1
      → ◌≡◌ {A = Reporting Proofs} (Ok (proofs_of made), left) (onto (map proof_of made) (solved_outcomes go p (outcomes_in (ends_of runs)) left))
  none-run few = by runs few
    where
      by : (runs : List Ran) → length runs < 1
          → ◌≡◌ {A = Reporting Proofs} (Ok (proofs_of made), left) (onto (map proof_of made) (solved_outcomes go p (outcomes_in (ends_of runs)) left))
      by [] few = branches-none go p (map proof_of made) left
      by (run ∷ runs) few = absurd (grind arith)

  module _ (run : Ran) (rest : List Ran) (split : runs ≡ run ∷ rest) (mid : ℕ) where
    again : onto (map proof_of made) (solved_outcomes go p (outcomes_in (ends_of (run ∷ rest))) left)
        ≡ onto (map proof_of made) (solved_outcomes go p (outcomes_in (ends_of runs)) left)
    again = ap (λ runs. onto (map proof_of made) (solved_outcomes go p (outcomes_in (ends_of runs)) left)) (sym split)

    pub first-refused : (e : ReportStop) → ◌≡◌ {A = Reporting (List Proof)} (Err e, mid) (with_outcome go p (map proof_of made) (ran_of run).outcome left)
        → ◌≡◌ {A = Reporting Proofs} (Err e, mid) (onto (map proof_of made) (solved_outcomes go p (outcomes_in (ends_of runs)) left))
    first-refused e h = run-refused go p (map proof_of made) (ran_of run).outcome (outcomes_in (ends_of rest)) left mid e h ∙ again

    pub first-goes : (more : List code.Proof) → ◌≡◌ {A = Reporting (List Proof)} (Ok (map proof_of more), mid) (with_outcome go p (map proof_of made) (ran_of run).outcome left)
        → onto (map proof_of more) (solved_outcomes go p (outcomes_in (ends_of rest)) mid)
        ≡ onto (map proof_of made) (solved_outcomes go p (outcomes_in (ends_of runs)) left)
    first-goes more h = run-goes go p (map proof_of made) (ran_of run).outcome (outcomes_in (ends_of rest)) left mid (map proof_of more) h ∙ again

pub runs-solve : (S : Signature) (runs rest : List Ran) (run : Ran) → runs ≡ run ∷ rest → AreSolving S (ends_of runs)
    → IsSolving S (ran_of run).outcome × AreSolving S (ends_of rest)
runs-solve S runs rest run split h = transport (λ runs. AreSolving S (ends_of runs)) split h

-- ---- a node of the tree

pub tree-split : (S : Signature) (t : pure.Tree) (context : List Term) (x n : ℕ) (type : Term) (bs cs : pure.Branches) (p : Place) (left : ℕ)
    → t ≡ pure.Split context x n type bs → cs ≡ bs
    → walk_node S (record { family = n; variable = x; branches = cs; splits = true }) p left ≡ walk_tree S t p left
tree-split S t context x n type bs cs p left et e =
    ap (λ bs. walk_node S (record { family = n; variable = x; branches = bs; splits = true }) p left) e ∙ ap (λ t. walk_tree S t p left) (sym et)

pub branch-entered : (S : Signature) (b : pure.Branch) (steps : List pure.Step) (origins : List Origin) (t u : pure.Tree) (arguments : List Term) (p q : Place) (left : ℕ)
    → b ≡ pure.Solved steps origins t → u ≡ t → q ≡ record p { values = map (at_origin p.values arguments) origins }
    → walk_tree S u q left ≡ enter_branch S b arguments p left
branch-entered S b steps origins t u arguments p q left eb eu eq =
    ap₂ (λ u q. walk_tree S u q left) eu eq ∙ ap (λ b. enter_branch S b arguments p left) (sym eb)

-- a variable is found
pub other-found : (S : Signature) (node : Node) (t : Term) (p : Place) (left mid : ℕ) (context : Telescope) (o : Option Variable) (v : Variable) → context ≡ p.context
    → o ≡ Some v → ◌≡◌ {A = Spent (Option Variable)} (Ok o, mid) (variable_met S node.splits node.family context t left)
    → split_variable S (walk_node S (again_of node)) v.number v.type v.member p mid ≡ at_other S node.family t (splitting S node t) p left
other-found S node t p left mid context o v same is h =
    other-variable S node t p left mid v
    (ap (λ o. answered (Ok o) mid) (sym is) ∙ (h ∙ ap (λ c. variable_met S node.splits node.family c t left) same))

-- ---- the split of a variable

module _ (S : Signature) (go : Walking) (x : ℕ) (type : Term) (m : Member) (p : Place) (left mid : ℕ) (context : Telescope) (same : context ≡ p.context)
    (r : Look (List RunEnd)) (runs slice : List Ran) (is : r ≡ Found (ends_of runs)) (given : slice ≡ runs)
    (h : ◌≡◌ {A = Reporting (Look (List RunEnd))} (Ok r, mid) (all_runs S context x m left)) (made : List code.Proof) (none : made ≡ []) (end : ℕ) where
  all-run : ◌≡◌ {A = Reporting (Look (List RunEnd))} (Ok (Found (ends_of runs)), mid) (all_runs S p.context x m left)
  all-run = ap (λ r. answers (Ok r) mid) (sym is) ∙ (h ∙ ap (λ c. all_runs S c x m left) same)

  first-made : onto (map proof_of made) (solved_outcomes go p (outcomes_in (ends_of slice)) mid) ≡ onto [] (solved_outcomes go p (outcomes_in (ends_of runs)) mid)
  first-made =
      ap₂ (λ (made : List code.Proof) (runs : List Ran). onto (map proof_of made) (solved_outcomes go p (outcomes_in (ends_of runs)) mid)) none given

  pub proofs-refused : (e : ReportStop) → ◌≡◌ {A = Reporting Proofs} (Err e, end) (onto (map proof_of made) (solved_outcomes go p (outcomes_in (ends_of slice)) mid))
      → ◌≡◌ {A = Reporting Proof} (Err e, end) (split_variable S go x type m p left)
  proofs-refused e k = branches-refused S go x type m p left mid (ends_of runs) end all-run e (k ∙ first-made)

  pub proofs-made : (proof : Proof) (all : Proofs)
      → ◌≡◌ {A = Result Proof code_stop.Stop} (Ok proof) (Ok (Splits p x type (steps_of_ends (ends_of runs)) all))
      → ◌≡◌ {A = Reporting Proofs} (Ok all, end) (onto (map proof_of made) (solved_outcomes go p (outcomes_in (ends_of slice)) mid))
      → ◌≡◌ {A = Reporting Proof} (Ok proof, end) (split_variable S go x type m p left)
  proofs-made proof all e k =
      ap (λ proof. answers (Ok proof) end) (ok_is e) ∙ branches-made S go x type m p left mid (ends_of runs) end all-run all (k ∙ first-made)

pub pushed-kept : (S : Signature) (made more : List code.Proof) (proof : code.Proof) → more ≡ made ++ proof ∷ [] → AreKeptProofs S (proofs_of made)
    → IsKeptProof S (proof_of proof) → AreKeptProofs S (proofs_of more)
pushed-kept S made more proof is h k =
    transport (λ more. AreKeptProofs S (proofs_of more)) (sym is)
    (transport (λ list. AreKeptProofs S (proofs list)) (sym (map-append proof_of made (proof ∷ []))) (kept-snoc S (map proof_of made) (proof_of proof) h k))
