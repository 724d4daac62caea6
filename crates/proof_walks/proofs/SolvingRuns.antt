-- The solutions of the problems of all constructors are over scoped contexts.
use Rattle.std.proofs.Common.{◌≡◌, ℕ, suc, ◌+◌, ◌<◌, Some, IfOk, Result, Ok, Err, List, [], ◌∷◌, length, map, slice_get, refl, ap, ap₂, ◌∙◌, subst as transport, arith}
use Rattle.theory.specs.Telescopes.{Telescope}
use Rattle.theory.specs.Families.{Constructor}
use Rattle.theory.specs.Signatures.{Signature}
use Rattle.theory.specs.SignatureScopes.{IsScopedTelescope}
use Rattle.core_sig.specs.Meanings.{constructor_of}
use Rattle.core_sig.specs.declared.family.Constructor.{Constructor as Constructor'}
use Rattle.core_terms.proofs.Answers.{spends-has}
use Rattle.unification.specs.Outcomes as outcome
use Rattle.unification.specs.Outcomes.{Outcome}
use Rattle.unification.specs.ScopedStates.{IsReady, IsScopedOutcome}
use Rattle.unification.proofs.OutcomeScopes.{outcome-scoped}
use Rattle.case_trees.specs.Looking.{Look, Found, Passed, Ran, run_all}
use Rattle.case_trees.specs.Problems.{Member, problem_of}
use Rattle.case_trees.specs.Standing.{Runs}
use Rattle.case_trees.specs.Stops.{TreeStop, Stopping}
use Rattle.case_trees.proofs.Answered.{Holds}
use Rattle.case_trees.proofs.Running.{AllRun, RunHas, all-run}
use Rattle.case_trees.proofs.ScopedProblems.{IsMemberIn, problem-scoped}
use Rattle.problems.specs.MemberConditions.{IsContext, IsMember}
use Rattle.clause_walks.specs.LookMeanings.{ends_of, runs_of}
use Rattle.problems.specs.MemberMeanings.{member_meant}
use Rattle.clause_walks.specs.PairConditions.{IsSolving}
use Rattle.clause_walks.specs.Reaching.{RunEnd, end_of_run, ends_behind}
use Rattle.clause_walks.specs.Stops.{IsUnforeseen, Yields, stop_of}
use Rattle.problems.specs.declared.members.Member as code
use Rattle.clause_walks.specs.declared.running.Ran as code_ran
use Rattle.clause_walks.specs.declared.running.Runs as code_runs
use Rattle.clause_walks.specs.declared.stops.TreeStop as code_stop
use Rattle.problems.proofs.FamilyMembers.{member-meant-in}
use Rattle.clause_reports.specs.ProofWalks.{halted}
use Rattle.clause_reports.specs.Stops.{Reporting}
use Rattle.proof_walks.specs.SolvedRuns.{AreSolving, AreSolvingRuns, all_runs, halted_runs}

solves : (S : Signature) (n : ℕ) (o : Outcome) → IsScopedOutcome S n o → IsSolving S o
solves S n (outcome.Solved steps context solution) h = record { context = h.1; solution = h.2 }
solves S n (outcome.Absurd steps context u v) h = tt
solves S n (outcome.Stuck steps context u v why) h = tt

module _ (S : Signature) (context : Telescope) (x : ℕ) (m : Member) (ready : IsReady S) (scoped : IsScopedTelescope S 0 context) (below : x < length context)
    (is : IsMemberIn S (length context) m) where
  run-solves : (number : ℕ) (c : Constructor) (o : Outcome) → slice_get m.family.constructors number ≡ Some c → Runs S (problem_of context x m number c) o → IsSolving S o
  run-solves number c o there runs =
      let p = problem_of context x m number c in
      solves S (length p.context) o
      (transport (λ r. IfOk r (IsScopedOutcome S (length p.context))) runs.run
      (outcome-scoped S p runs.units ready (problem-scoped S context x m number c ready scoped below is there)))

  -- constructors from a number on
  abbrev AreThere : (number : ℕ) → List Constructor → Type 0
  AreThere number cs = (k : ℕ) (c : Constructor) → slice_get cs k ≡ Some c → slice_get m.family.constructors (number + k) ≡ Some c

  runs-solve : (number : ℕ) (cs : List Constructor) (runs : List Ran) → AreThere number cs → AllRun S context x m number cs runs → AreSolving S (map end_of_run runs)
  runs-solve number [] [] there all = tt
  runs-solve number [] (run ∷ runs) there all = absurd all
  runs-solve number (c ∷ cs) [] there all = absurd all
  runs-solve number (c ∷ cs) (run ∷ runs) there all =
      let first : number + 0 ≡ number = omega arith in (
        run-solves number c run.outcome (transport (λ k. slice_get m.family.constructors k ≡ Some c) first (there 0 c refl)) all.0.runs,
        runs-solve (number + 1) cs runs (λ k d e.
            let next : number + suc k ≡ number + 1 + k = omega arith in
            transport (λ k. slice_get m.family.constructors k ≡ Some d) next (there (suc k) d e)) all.1,
      )

  ends-solve : (left : ℕ) → IfOk (ends_behind [] (run_all S context x m 0 m.family.constructors left)).0 (AreSolvingRuns S)
  ends-solve left =
      by (run_all S context x m 0 m.family.constructors left).0 (run_all S context x m 0 m.family.constructors left).1
      (all-run S context x m 0 m.family.constructors left (λ e. Unit {0}) (λ e. tt))
    where
      by : (r : Result (Look (List Ran)) TreeStop) (rest : ℕ) → Holds (RunHas S context x m 0 m.family.constructors) (λ e. Unit {0}) r
          → IfOk (ends_behind [] (r, rest)).0 (AreSolvingRuns S)
      by (Ok (Found runs)) rest h =
          runs-solve 0 m.family.constructors runs (λ k c e. let at : 0 + k ≡ k = omega arith in rw at e) h
      by (Ok (Passed s)) rest h = tt
      by (Err e) rest h = tt

-- ---- how they end

module _ (S : Signature) (context : Telescope) (x : ℕ) (m : code.Member) (made : List code_ran.Ran) (cs : List Constructor') (left mid : ℕ) (none : made ≡ [])
    (all : cs ≡ m.family.now.cons) where
  whole : ends_behind (ends_of made) (run_all S context x (member_meant m) 0 (map (constructor_of (length m.family.now.params)) cs) left)
      ≡ ends_behind [] (run_all S context x (member_meant m) 0 (member_meant m).family.constructors left)
  whole =
      ap₂ (λ ends (cs : List Constructor'). ends_behind (ends_of ends) (run_all S context x (member_meant m) 0 (map (constructor_of (length m.family.now.params)) cs) left)) none all

  pub runs-end : (r : Look (List RunEnd))
      → ◌≡◌ {A = Stopping (Look (List RunEnd))} (Ok r, mid)
      (ends_behind (ends_of made) (run_all S context x (member_meant m) 0 (map (constructor_of (length m.family.now.params)) cs) left))
      → ◌≡◌ {A = Reporting (Look (List RunEnd))} (Ok r, mid) (all_runs S context x (member_meant m) left)
  runs-end r h = ap halted_runs (h ∙ whole)

  pub runs-halt : (e : TreeStop)
      → ◌≡◌ {A = Stopping (Look (List RunEnd))} (Err e, mid)
      (ends_behind (ends_of made) (run_all S context x (member_meant m) 0 (map (constructor_of (length m.family.now.params)) cs) left))
      → ◌≡◌ {A = Reporting (Look (List RunEnd))} (Err (halted e), mid) (all_runs S context x (member_meant m) left)
  runs-halt e h = ap halted_runs (h ∙ whole)

  -- what the code answers
  pub code-solves : (n : ℕ) (r : Result code_runs.Runs code_stop.TreeStop) → IsReady S → IsContext S context → n ≡ length context → x < n → IsMember S n m
      → Yields runs_of r mid (ends_behind (ends_of made) (run_all S context x (member_meant m) 0 (map (constructor_of (length m.family.now.params)) cs) left))
      → IfOk r (λ runs. AreSolvingRuns S (runs_of runs))
  code-solves n r ready h count less is answer =
      spends-has IsUnforeseen stop_of runs_of (AreSolvingRuns S) r mid
      (ends_behind [] (run_all S context x (member_meant m) 0 (member_meant m).family.constructors left))
      (transport (Yields runs_of r mid) whole answer)
      (ends-solve S context x (member_meant m) ready h.scoped (omega (arith, count, less))
      (member-meant-in S (length context) m (transport (λ k. IsMember S k m) count is)) left)
