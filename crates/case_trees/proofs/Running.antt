-- The problems of all constructors, with their runs.
use Rattle.std.proofs.Common.{◌≡◌, ℕ, zero, suc, ◌+◌, Option, Some, None, Result, Ok, Err, List, [], ◌∷◌, slice_get, refl, ◌∙◌, subst, arith}
use Rattle.theory.specs.Terms.{Term}
use Rattle.theory.specs.Telescopes.{Telescope}
use Rattle.theory.specs.Families.{Constructor}
use Rattle.theory.specs.Signatures.{Signature}
use Rattle.theory.proofs.Lists.{some_is}
use Rattle.core_terms.specs.CaseTrees.{Step}
use Rattle.core_terms.specs.declared.stop.Stop.{Stop}
use Rattle.unification.specs.States.{Problem}
use Rattle.unification.specs.Outcomes as outcome
use Rattle.unification.specs.Outcomes.{Outcome}
use Rattle.unification.specs.Runs.{unify_of}
use Rattle.case_trees.specs.Problems.{Member, problem_of}
use Rattle.case_trees.specs.Stops.{TreeStop, Halts, Stopping, or_halts, halting}
use Rattle.case_trees.specs.Looking.{StuckRun, Look, Found, Passed, Ran, with_run, unless_stuck, run_all}
use Rattle.case_trees.specs.OwnWalks.{first_solved, or_first}
use Rattle.case_trees.specs.Standing.{Runs, IsAbsurdProblem}
use Rattle.case_trees.proofs.Answered.{Holds, and_next-holds}

-- a run that is worked out
pub runs-out : (S : Signature) (p : Problem) (left : ℕ) (Q : TreeStop → Type 0) → ((e : Stop) → Q (Halts e)) → Holds (Runs S p) Q (halting (unify_of S p left)).0
runs-out S p left Q halts = by (unify_of S p left).0 refl
  where
    by : (r : Result Outcome Stop) → (unify_of S p left).0 ≡ r → Holds (Runs S p) Q (or_halts r)
    by (Ok o) e = record { units = left; run = e }
    by (Err e) h = halts e

-- it is the end of a run that is not stuck
abbrev pub IsNotStuck : Outcome → Type 0
IsNotStuck (outcome.Stuck steps context u v why) = ⊥
IsNotStuck o = Unit {0}

-- a constructor has been run
pub record HasRun (S : Signature) (context : Telescope) (x : ℕ) (m : Member) (number : ℕ) (c : Constructor) (run : Ran) : Type 0 where
  pub constructor : run.constructor ≡ c
  pub problem : run.problem ≡ problem_of context x m number c
  pub runs : Runs S (problem_of context x m number c) run.outcome
  pub not_stuck : IsNotStuck run.outcome

-- all constructors of a list have been run, in their order
abbrev pub AllRun : Signature → Telescope → (x : ℕ) → Member → (number : ℕ) → List Constructor → List Ran → Type 0
AllRun S context x m number [] [] = Unit {0}
AllRun S context x m number (c ∷ constructors) (run ∷ runs) =
    HasRun S context x m number c run × AllRun S context x m (number + 1) constructors runs
AllRun S context x m number _ _ = ⊥

-- one of the constructors is stuck
pub record IsStuckAt (S : Signature) (context : Telescope) (x : ℕ) (m : Member) (number : ℕ) (constructors : List Constructor) (r : StuckRun) : Type 0 where
  pub place : ℕ
  pub c : Constructor
  pub there : slice_get constructors place ≡ Some c
  pub steps : List Step
  pub runs : Runs S (problem_of context x m (number + place) c) (outcome.Stuck steps r.context r.left r.right r.why)

abbrev pub RunHas : Signature → Telescope → (x : ℕ) → Member → (number : ℕ) → List Constructor → Look (List Ran) → Type 0
RunHas S context x m number constructors (Found runs) = AllRun S context x m number constructors runs
RunHas S context x m number constructors (Passed r) = IsStuckAt S context x m number constructors r

further-stuck : (S : Signature) (context : Telescope) (x : ℕ) (m : Member) (number : ℕ) (c : Constructor) (constructors : List Constructor) (r : StuckRun)
    → IsStuckAt S context x m (number + 1) constructors r → IsStuckAt S context x m number (c ∷ constructors) r
further-stuck S context x m number c constructors r h =
    let moved : number + 1 + h.place ≡ number + suc h.place = omega arith in
    record {
      place = suc h.place;
      c = h.c;
      there = h.there;
      steps = h.steps;
      runs = subst (λ k. Runs S (problem_of context x m k h.c) (outcome.Stuck h.steps r.context r.left r.right r.why)) moved h.runs;
    }

others-have : (S : Signature) (context : Telescope) (x : ℕ) (m : Member) (number : ℕ) (c : Constructor) (constructors : List Constructor) (o : Outcome)
    (others : Look (List Ran)) → Runs S (problem_of context x m number c) o → IsNotStuck o → RunHas S context x m (number + 1) constructors others
    → RunHas S context x m number (c ∷ constructors) (with_run (record { constructor = c; problem = problem_of context x m number c; outcome = o }) others)
others-have S context x m number c constructors o (Found runs) h fine has =
    (record { constructor = refl; problem = refl; runs = h; not_stuck = fine }, has)
others-have S context x m number c constructors o (Passed r) h fine has = further-stuck S context x m number c constructors r has

stuck-has : (S : Signature) (context : Telescope) (x : ℕ) (m : Member) (number : ℕ) (c : Constructor) (constructors : List Constructor) (o : Outcome)
    (Q : TreeStop → Type 0) (others : ℕ → Stopping (Look (List Ran))) (left : ℕ) → Runs S (problem_of context x m number c) o
    → ((rest : ℕ) → Holds (RunHas S context x m (number + 1) constructors) Q (others rest).0)
    → Holds (RunHas S context x m number (c ∷ constructors)) Q (unless_stuck c (problem_of context x m number c) others o left).0
stuck-has S context x m number c constructors (outcome.Stuck steps context' u v why) Q others left h more =
    record {
      place = zero;
      c = c;
      there = refl;
      steps = steps;
      runs = subst (λ k. Runs S (problem_of context x m k c) (outcome.Stuck steps context' u v why)) (omega arith) h;
    }
stuck-has S context x m number c constructors (outcome.Solved steps context' solution) Q others left h more =
    and_next-holds (RunHas S context x m (number + 1) constructors) (RunHas S context x m number (c ∷ constructors)) Q (others left) _ (more left)
    (λ runs rest has. others-have S context x m number c constructors (outcome.Solved steps context' solution) runs h tt has)
stuck-has S context x m number c constructors (outcome.Absurd steps context' u v) Q others left h more =
    and_next-holds (RunHas S context x m (number + 1) constructors) (RunHas S context x m number (c ∷ constructors)) Q (others left) _ (more left)
    (λ runs rest has. others-have S context x m number c constructors (outcome.Absurd steps context' u v) runs h tt has)

pub all-run : (S : Signature) (context : Telescope) (x : ℕ) (m : Member) (number : ℕ) (constructors : List Constructor) (left : ℕ) (Q : TreeStop → Type 0)
    → ((e : Stop) → Q (Halts e)) → Holds (RunHas S context x m number constructors) Q (run_all S context x m number constructors left).0
all-run S context x m number [] left Q halts = tt
all-run S context x m number (c ∷ constructors) left Q halts =
    and_next-holds (Runs S (problem_of context x m number c)) (RunHas S context x m number (c ∷ constructors)) Q
    (halting (unify_of S (problem_of context x m number c) left)) _ (runs-out S (problem_of context x m number c) left Q halts)
    (λ o rest h. stuck-has S context x m number c constructors o Q (run_all S context x m (number + 1) constructors) rest h
    (λ end. all-run S context x m (number + 1) constructors end Q halts))

-- ---- the first that is solved

pub record IsSolvedAt (S : Signature) (context : Telescope) (x : ℕ) (m : Member) (number : ℕ) (constructors : List Constructor) (k : ℕ) : Type 0 where
  pub place : ℕ
  pub at : k ≡ number + place
  pub c : Constructor
  pub there : slice_get constructors place ≡ Some c
  pub steps : List Step
  pub new : Telescope
  pub solution : List Term
  pub runs : Runs S (problem_of context x m (number + place) c) (outcome.Solved steps new solution)

-- every constructor of the list is absurd
abbrev pub AllAbsurd : Signature → Telescope → (x : ℕ) → Member → (number : ℕ) → List Constructor → Type 0
AllAbsurd S context x m number constructors =
    (place : ℕ) (c : Constructor) → slice_get constructors place ≡ Some c → IsAbsurdProblem S (problem_of context x m (number + place) c)

abbrev pub FirstHas : Signature → Telescope → (x : ℕ) → Member → (number : ℕ) → List Constructor → Option ℕ → Type 0
FirstHas S context x m number constructors (Some k) = IsSolvedAt S context x m number constructors k
FirstHas S context x m number constructors None = AllAbsurd S context x m number constructors

later-first : (S : Signature) (context : Telescope) (x : ℕ) (m : Member) (number : ℕ) (c : Constructor) (constructors : List Constructor) (later : Option ℕ)
    → IsAbsurdProblem S (problem_of context x m number c) → FirstHas S context x m (number + 1) constructors later
    → FirstHas S context x m number (c ∷ constructors) later
later-first S context x m number c constructors (Some k) here h =
    let moved : number + 1 + h.place ≡ number + suc h.place = omega arith in
    record {
      place = suc h.place;
      at = h.at ∙ moved;
      c = h.c;
      there = h.there;
      steps = h.steps;
      new = h.new;
      solution = h.solution;
      runs = subst (λ j. Runs S (problem_of context x m j h.c) (outcome.Solved h.steps h.new h.solution)) moved h.runs;
    }
later-first S context x m number c constructors None here h = all
  where
    all : AllAbsurd S context x m number (c ∷ constructors)
    all zero d e =
        let same : number ≡ number + zero = omega arith in
        subst (λ j. IsAbsurdProblem S (problem_of context x m j d)) same (subst (λ b. IsAbsurdProblem S (problem_of context x m number b)) (some_is e) here)
    all (suc place) d e =
        let moved : number + 1 + place ≡ number + suc place = omega arith in
        subst (λ j. IsAbsurdProblem S (problem_of context x m j d)) moved (h place d e)

pub first-has : (S : Signature) (context : Telescope) (x : ℕ) (m : Member) (number : ℕ) (constructors : List Constructor) (runs : List Ran)
    → AllRun S context x m number constructors runs → FirstHas S context x m number constructors (first_solved number runs)
first-has S context x m number [] [] all = λ place c e. absurd (grind arith)
first-has S context x m number [] (run ∷ runs) all = absurd all
first-has S context x m number (c ∷ constructors) [] all = absurd all
first-has S context x m number (c ∷ constructors) (run ∷ runs) all =
    by run.outcome all.0.runs all.0.not_stuck (first-has S context x m (number + 1) constructors runs all.1)
  where
    by : (o : Outcome) → Runs S (problem_of context x m number c) o → IsNotStuck o
        → FirstHas S context x m (number + 1) constructors (first_solved (number + 1) runs)
        → FirstHas S context x m number (c ∷ constructors) (or_first o number (first_solved (number + 1) runs))
    by (outcome.Solved steps new solution) h fine others =
        let same : number ≡ number + zero = omega arith in
        record {
          place = zero;
          at = same;
          c = c;
          there = refl;
          steps = steps;
          new = new;
          solution = solution;
          runs = subst (λ j. Runs S (problem_of context x m j c) (outcome.Solved steps new solution)) same h;
        }
    by (outcome.Absurd steps new u v) h fine others =
        later-first S context x m number c constructors (first_solved (number + 1) runs)
        (record { steps = steps; context = new; left = u; right = v; runs = h })
        others
    by (outcome.Stuck steps new u v why) h fine others = absurd fine
