-- The search reaches scoped terms.
use Rattle.std.proofs.Common.{◌≡◌, ℕ, zero, suc, ◌+◌, Bool, Option, Some, None, IfOk, Result, Ok, Err, List, [], ◌∷◌, length, map, slice_get, refl, sym, ap, ap₂, ◌∙◌, subst as transport, arith}
use Rattle.std.proofs.lemmas.List.{length-map, length-append}
use Rattle.std.proofs.lemmas.List.Elements.{All-nil}
use Rattle.theory.specs.Terms.{Term, Sort}
use Rattle.theory.specs.Telescopes.{Telescope}
use Rattle.theory.specs.Families.{Constructor}
use Rattle.theory.specs.Signatures.{Signature}
use Rattle.theory.specs.SignatureScopes.{IsScoped, IsScopedTelescope}
use Rattle.theory.proofs.ScopedTerms.{sort-scoped}
use Rattle.core_terms.specs.Patterns.{Pat}
use Rattle.tele_eq.specs.Items.{Item}
use Rattle.unification.specs.Outcomes as outcome
use Rattle.unification.specs.Outcomes.{Outcome}
use Rattle.unification.specs.Records.{argument_items}
use Rattle.unification.specs.ScopedStates.{IsReady, IsScopedOutcome}
use Rattle.unification.proofs.ScopedRecords.{length-argument_items}
use Rattle.case_trees.specs.Points.{Point}
use Rattle.case_trees.specs.Problems.{problem_of}
use Rattle.case_trees.specs.Stops.{TreeStop}
use Rattle.case_trees.specs.Looking.{Look, Found, Passed, Looked, Ran, first_found, look_at_type, run_all}
use Rattle.case_trees.specs.Scoped.{IsScopedPoint}
use Rattle.case_trees.proofs.Answered.{Holds, and_next-holds, answer-of}
use Rattle.case_trees.proofs.Looks.{AllPairs, LookHas, LookHolds, first-holds}
use Rattle.case_trees.proofs.Running as running
use Rattle.case_trees.proofs.Running.{HasRun, AllRun, RunHas, all-run}
use Rattle.case_trees.proofs.ScopedProblems.{problem-scoped}
use Rattle.case_trees.proofs.WalkLooks.{LookedAt, type-holds}
use Rattle.case_trees.proofs.WalkStanding.{IsSplit, looked-split, problem-outcome, type-there}
use Rattle.clause_walks.specs.ReachedRuns.{IsNotStuck, IsRunEnd, AreRunEnds, IsReached}
use Rattle.clause_walks.specs.Reaching.{run_end, end_of_run, with_ends, wanted_of, run_wanted, wanted_runs, reached_by, reach_from, reach}

-- nothing is said of the end of the search
abbrev Ended : TreeStop → Type 0
Ended e = Unit {0}

-- a point of a context
abbrev point_in : Telescope → Point
point_in context = record { context = context; goal = Sort 0; substitution = []; terms = [] }

point-scoped : (S : Signature) (context : Telescope) → IsScopedTelescope S 0 context → IsScopedPoint S (point_in context)
point-scoped S context h = record {
  context = h;
  goal = sort-scoped 0;
  substitution = All-nil (IsScoped S (length context));
  terms = All-nil (IsScoped S (length context));
}

-- ---- ends of runs

not-stuck : (o : Outcome) → running.IsNotStuck o → IsNotStuck o
not-stuck (outcome.Solved steps context solution) h = tt
not-stuck (outcome.Absurd steps context u v) h = tt
not-stuck (outcome.Stuck steps context u v why) h = h

module _ (S : Signature) (context : Telescope) (x : ℕ) (found : Looked) (ready : IsReady S) (scoped : IsScopedTelescope S 0 context)
    (split : IsSplit S (point_in context) x found) where
  run-scoped : (number : ℕ) (c : Constructor) (run : Ran) → slice_get found.member.family.constructors number ≡ Some c
      → HasRun S context x found.member number c run → IsRunEnd S (length context) (end_of_run run)
  run-scoped number c run there h =
      let p = problem_of context x found.member number c in
      let items = argument_items found.member.n found.member.parameters c in
      let longer : length p.context ≡ length context + length c.arguments =
      length-append context (map (λ (item : Item). item.type) items)
      ∙ ap (λ k. length context + k) (length-map items (λ item. item.type) ∙ length-argument_items found.member.n found.member.parameters c) in
      let out = problem-outcome S (point_in context) x found number c run.outcome ready (point-scoped S context scoped) split there h.runs in
      let whole = problem-scoped S context x found.member number c ready scoped split.family.variable split.member there in
      transport (λ (q : Constructor × _). IsRunEnd S (length context) (run_end (length q.0.arguments) q.1 run.outcome)) (sym (ap₂ (λ a b. (a, b)) h.constructor h.problem))
      (record {
        problem = p;
        whole = whole;
        runs = h.runs;
        at = refl;
        count = longer;
        context = whole.context;
        outcome = transport (λ n. IsScopedOutcome S n run.outcome) longer out;
        ends = not-stuck run.outcome h.not_stuck;
      })

  -- constructors from a number on
  abbrev AreThere : (number : ℕ) → List Constructor → Type 0
  AreThere number cs = (k : ℕ) (c : Constructor) → slice_get cs k ≡ Some c → slice_get found.member.family.constructors (number + k) ≡ Some c

  runs-scoped : (number : ℕ) (cs : List Constructor) (runs : List Ran) → AreThere number cs → AllRun S context x found.member number cs runs
      → AreRunEnds S (length context) (map end_of_run runs)
  runs-scoped number [] [] there all = tt
  runs-scoped number [] (run ∷ runs) there all = absurd all
  runs-scoped number (c ∷ cs) [] there all = absurd all
  runs-scoped number (c ∷ cs) (run ∷ runs) there all =
      let first : number + 0 ≡ number = omega arith in (
        run-scoped number c run (transport (λ k. slice_get found.member.family.constructors k ≡ Some c) first (there 0 c refl)) all.0,
        runs-scoped (number + 1) cs runs (λ k d e.
            let next : number + suc k ≡ number + 1 + k = omega arith in
            transport (λ k. slice_get found.member.family.constructors k ≡ Some d) next (there (suc k) d e)) all.1,
      )

  -- the ends of the runs that are reached
  abbrev Reaches : Look (List Ran) → Type 0
  Reaches (Found runs) = AreRunEnds S (length context) (map end_of_run runs)
  Reaches (Passed s) = Unit {0}

  all-reach : (number : ℕ) (cs : List Constructor) (left : ℕ) → AreThere number cs → Holds Reaches Ended (run_all S context x found.member number cs left).0
  all-reach number cs left there = by (run_all S context x found.member number cs left).0 (all-run S context x found.member number cs left Ended (λ e. tt))
    where
      by : (r : Result (Look (List Ran)) TreeStop) → Holds (RunHas S context x found.member number cs) Ended r → Holds Reaches Ended r
      by (Ok (Found runs)) h = runs-scoped number cs runs there h
      by (Ok (Passed s)) h = tt
      by (Err e) h = tt

  one-there : (number : ℕ) (c : Constructor) → slice_get found.member.family.constructors number ≡ Some c → AreThere number (c ∷ [])
  one-there number c e zero d same =
      let at : number + 0 ≡ number = omega arith in
      rw at (e ∙ same)
  one-there number c e (suc k) d same = absurd (cc)

  wanted-reach : (clause : ℕ) (wanted : Option ℕ) (left : ℕ) → Holds Reaches Ended (wanted_runs S clause context x found wanted left).0
  wanted-reach clause None left =
      all-reach 0 found.member.family.constructors left (λ k c e. let at : 0 + k ≡ k = omega arith in rw at e)
  wanted-reach clause (Some number) left = by (slice_get found.member.family.constructors number) refl
    where
      by : (c : Option Constructor) → slice_get found.member.family.constructors number ≡ c
          → Holds Reaches Ended (run_wanted S clause context x found number c left).0
      by None e = tt
      by (Some c) e = all-reach number (c ∷ []) left (one-there number c e)

  from-reach : (clause : ℕ) (wanted : Option ℕ) (left : ℕ) → IsScoped S (length context) found.type
      → Holds (LookHas (IsReached S (length context)) Ended clause) Ended (reach_from S clause context x found wanted left).0
  from-reach clause wanted left type =
      and_next-holds Reaches (LookHas (IsReached S (length context)) Ended clause) Ended (wanted_runs S clause context x found wanted left) _
      (wanted-reach clause wanted left) (λ runs rest h. by runs h)
    where
      by : (runs : Look (List Ran)) → Reaches runs
          → LookHas (IsReached S (length context)) Ended clause (reached_by x found.type found.member.n wanted (with_ends [] runs))
      by (Found runs) h = record { variable = split.family.variable; type = type; runs = h }
      by (Passed s) h = tt

-- ---- the looking

abbrev IsOver : Signature → (n : ℕ) → (Pat × Term) → Type 0
IsOver S n pair = IsScoped S n pair.1

look-reaches : (S : Signature) (own : Bool) (clause : ℕ) (context : Telescope) → IsReady S → IsScopedTelescope S 0 context
    → LookHolds (IsReached S (length context)) Ended (IsOver S (length context)) S clause (reach S own clause context)
look-reaches S own clause context ready scoped = λ pair x left o tidy.
    and_next-holds (LookedAt S (IsOver S (length context)) context pair x) (LookHas (IsReached S (length context)) Ended clause) Ended
    (look_at_type S clause context pair.0 x left) _
    (type-holds S clause (IsOver S (length context)) Ended context pair x left (λ e. tt) o tidy (λ type to none. tt))
    (λ found rest at.
    from-reach S context x found ready scoped
    (looked-split S (point_in context) pair x found ready (point-scoped S context scoped) o tidy at.reduces at.member)
    clause (wanted_of own pair.0) rest
    (type-there S (point_in context) pair.1 x found.type ready (point-scoped S context scoped) o tidy at.reduces))

pub first-reached : (S : Signature) (own : Bool) (clause : ℕ) (context : Telescope) (pairs : List (Pat × Term)) (left : ℕ) → IsReady S → IsScopedTelescope S 0 context
    → AllPairs (IsOver S (length context)) pairs
    → IfOk (first_found S clause context (reach S own clause context) pairs None None left).0 (IsReached S (length context))
first-reached S own clause context pairs left ready scoped all =
    answer-of (IsReached S (length context)) (IsReached S (length context)) Ended
    (first_found S clause context (reach S own clause context) pairs None None left).0 (λ r h. h)
    (first-holds (IsReached S (length context)) Ended (IsOver S (length context)) S clause context (reach S own clause context) pairs (λ e. tt) all
    (look-reaches S own clause context ready scoped) (λ pair u o to none. tt) None None left tt tt)
