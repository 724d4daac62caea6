-- The code's search among open pairs: for the first that has a variable at which no run is stuck, with the ends of its runs. A walk wants
-- the run of the pattern's own constructor, and a tree those of all constructors.
use Rattle.std.specs.Prelude.{ℕ, ◌+◌, ◌==◌, Bool, true, Option, Some, None, List, [], ◌∷◌, ◌++◌, length, map, slice_get, Result, Ok, Err}
use Rattle.theory.specs.Terms.{Term}
use Rattle.theory.specs.Telescopes.{Telescope}
use Rattle.theory.specs.Families.{Constructor}
use Rattle.theory.specs.Signatures.{Signature}
use Rattle.core_terms.specs.Answers.{Spent, and_next}
use Rattle.core_terms.specs.Patterns as pattern
use Rattle.core_terms.specs.Patterns.{Pat}
use Rattle.kernel_reduce.specs.Reduction.{answered}
use Rattle.kernel_reduce.specs.Tidying.{tidy_of}
use Rattle.unification.specs.Outcomes.{Outcome, Stuck}
use Rattle.unification.specs.Runs.{unify_of}
use Rattle.unification.specs.Solutions.{variable_in}
use Rattle.unification.specs.States.{Problem}
use Rattle.case_trees.specs.Problems.{Member, problem_of}
use Rattle.case_trees.specs.Stops as stop
use Rattle.case_trees.specs.Stops.{TreeStop, Stopping, halting, answers}
use Rattle.case_trees.specs.Trees.{SplitAt}
use Rattle.case_trees.specs.Looking.{Look, Found, Passed, Looked, StuckRun, Ran, stuck_at, look_at_type, run_all}

-- ---- ends of runs

-- The end of a run: how many arguments its constructor has, the context of its problem, and its outcome.
pub record RunEnd : Type 0 where
  pub arguments : ℕ
  pub context : Telescope
  pub outcome : Outcome

abbrev pub run_end : (arguments : ℕ) → Problem → Outcome → RunEnd
run_end arguments p outcome = record { arguments = arguments; context = p.context; outcome = outcome }

abbrev pub end_of_run : Ran → RunEnd
end_of_run run = run_end (length run.constructor.arguments) run.problem run.outcome

-- the run of one constructor, which may be stuck
abbrev pub run_one : Signature → Telescope → (x : ℕ) → Member → (number : ℕ) → Constructor → ℕ → Spent RunEnd
run_one S context x m number c left =
    let p = problem_of context x m number c in
    and_next (unify_of S p left) (λ outcome rest. answered (Ok (run_end (length c.arguments) p outcome)) rest)

abbrev pub sorted_by : RunEnd → Outcome → Result RunEnd StuckRun
sorted_by r (Stuck steps context u v why) = Err (record { context = context; left = u; right = v; why = why })
sorted_by r outcome = Ok r

-- the run itself, unless it is stuck
abbrev pub sorted : RunEnd → Result RunEnd StuckRun
sorted r = sorted_by r r.outcome

-- runs after those that are made
abbrev pub with_ends : (made : List RunEnd) → Look (List Ran) → Look (List RunEnd)
with_ends made (Found runs) = Found (made ++ map end_of_run runs)
with_ends made (Passed r) = Passed r

abbrev pub ends_behind : (made : List RunEnd) → Stopping (Look (List Ran)) → Stopping (Look (List RunEnd))
ends_behind made runs = and_next runs (λ found rest. answers (Ok (with_ends made found)) rest)

-- ---- a variable

-- A variable that an open pair has, its type, which is in family n, the pattern's own constructor, where that one alone was run, and
-- the runs, none of which is stuck.
pub record Reached : Type 0 where
  pub variable : ℕ
  pub type : Term
  pub n : ℕ
  pub own : Option ℕ
  pub runs : List RunEnd

-- whether a pattern may stand for a constructor of family n
abbrev pub expects : Pat → (n : ℕ) → Bool
expects (pattern.Con m number pats) n = m == n
expects pat n = true

-- the constructor that alone is wanted
abbrev pub wanted_of : (own : Bool) → Pat → Option ℕ
wanted_of true (pattern.Con n number pats) = Some number
wanted_of own pat = None

-- If the pattern is scoped, its constructor exists.
abbrev pub run_wanted : Signature → (clause : ℕ) → Telescope → (x : ℕ) → Looked → (number : ℕ) → Option Constructor → ℕ → Stopping (Look (List Ran))
run_wanted S clause context x found number None left = answers (Err (stop.WrongConstructor clause context found.type)) left
run_wanted S clause context x found number (Some c) left = run_all S context x found.member number (c ∷ []) left

abbrev pub wanted_runs : Signature → (clause : ℕ) → Telescope → (x : ℕ) → Looked → (wanted : Option ℕ) → ℕ → Stopping (Look (List Ran))
wanted_runs S clause context x found None left = run_all S context x found.member 0 found.member.family.constructors left
wanted_runs S clause context x found (Some number) left =
    run_wanted S clause context x found number (slice_get found.member.family.constructors number) left

abbrev pub reached_by : (x : ℕ) → (type : Term) → (n : ℕ) → (wanted : Option ℕ) → Look (List RunEnd) → Look Reached
reached_by x type n wanted (Found runs) = Found (record { variable = x; type = type; n = n; own = wanted; runs = runs })
reached_by x type n wanted (Passed r) = Passed r

abbrev pub reach_from : Signature → (clause : ℕ) → Telescope → (x : ℕ) → Looked → (wanted : Option ℕ) → ℕ → Stopping (Look Reached)
reach_from S clause context x found wanted left =
    and_next (wanted_runs S clause context x found wanted left) (λ runs rest.
    answers (Ok (reached_by x found.type found.member.n wanted (with_ends [] runs))) rest)

-- the look at an open pair of the pattern and variable x
abbrev pub reach : Signature → (own : Bool) → (clause : ℕ) → Telescope → Pat → (x : ℕ) → ℕ → Stopping (Look Reached)
reach S own clause context pat x left =
    and_next (look_at_type S clause context pat x left) (λ found rest. reach_from S clause context x found (wanted_of own pat) rest)

-- the reached variable where a tree is split
abbrev pub reached_split : SplitAt → Reached
reached_split s = record {
  variable = s.variable;
  type = s.looked.type;
  n = s.looked.member.n;
  own = None;
  runs = map end_of_run s.runs;
}

-- ---- an open pair

-- an open pair is reached, or the refusal says why it is not
pub data Arrival : Type 0 where
  Arrives : Reached → Arrival
  IsStuck : TreeStop → Arrival
  IsForced : TreeStop → Arrival

abbrev pub arrival : (clause : ℕ) → Look Reached → Arrival
arrival clause (Found r) = Arrives r
arrival clause (Passed r) = IsStuck (stuck_at clause r)

abbrev pub arrive_at : Signature → (own : Bool) → (clause : ℕ) → Telescope → Pat → (u : Term) → Option ℕ → ℕ → Stopping Arrival
arrive_at S own clause context pat u None left = answers (Ok (IsForced (stop.Forced clause context pat u))) left
arrive_at S own clause context pat u (Some x) left =
    and_next (reach S own clause context pat x left) (λ look rest. answers (Ok (arrival clause look)) rest)

abbrev pub arrive : Signature → (own : Bool) → (clause : ℕ) → Telescope → Pat → Term → ℕ → Stopping Arrival
arrive S own clause context pat t left =
    and_next (halting (tidy_of S left t)) (λ u rest. arrive_at S own clause context pat u (variable_in u) rest)
