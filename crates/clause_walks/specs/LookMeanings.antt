-- The meanings of the code's looks at open pairs and of the runs at their variables.
use Rattle.std.specs.Prelude.{ℕ, List, map, Result, Ok, Err}
use Rattle.theory.specs.Telescopes.{Telescope}
use Rattle.core_terms.specs.Meanings.{tree_of, tele_of}
use Rattle.core_terms.specs.PatternMeanings.{pat_of}
use Rattle.problems.specs.Meanings.{outcome_of}
use Rattle.case_trees.specs.Problems as problems
use Rattle.case_trees.specs.Looking as looking
use Rattle.case_trees.specs.Stops as stops
use Rattle.problems.specs.MemberMeanings.{member_meant}
use Rattle.clause_walks.specs.Reaching as pure
use Rattle.clause_walks.specs.declared.running.Ran.{Ran}
use Rattle.clause_walks.specs.declared.running.StuckRun.{StuckRun}
use Rattle.clause_walks.specs.declared.running.Runs.{Runs}
use Rattle.clause_walks.specs.declared.running.Runs.TheVariants as runs
use Rattle.clause_walks.specs.declared.reaching.Looked.{Looked}
use Rattle.clause_walks.specs.declared.reaching.Reached.{Reached}
use Rattle.clause_walks.specs.declared.reaching.Reach.{Reach}
use Rattle.clause_walks.specs.declared.reaching.Reach.TheVariants as reach
use Rattle.clause_walks.specs.declared.looking.Arrival.{Arrival}
use Rattle.clause_walks.specs.declared.looking.Arrival.TheVariants as arrival
use Rattle.clause_walks.specs.declared.looking.Unmatched.{Unmatched}

abbrev pub looked_of : Looked → looking.Looked
looked_of l = record { type = tree_of l.ty; member = member_meant l.member }

abbrev pub stuck_of : StuckRun → looking.StuckRun
stuck_of r = record { context = tele_of r.ctx; left = tree_of r.left; right = tree_of r.right; why = r.why }

abbrev pub ran_of : Ran → pure.RunEnd
ran_of r = record { arguments = r.arguments; context = tele_of r.ctx; outcome = outcome_of r.outcome }

abbrev pub ends_of : List Ran → List pure.RunEnd
ends_of runs = map ran_of runs

abbrev pub runs_of : Runs → looking.Look (List pure.RunEnd)
runs_of (runs.Found ends) = looking.Found (ends_of ends)
runs_of (runs.Passed r) = looking.Passed (stuck_of r)

-- a run, or the end of one that is stuck
abbrev pub sorted_as : Result Ran StuckRun → Result pure.RunEnd looking.StuckRun
sorted_as (Ok ran) = Ok (ran_of ran)
sorted_as (Err stuck) = Err (stuck_of stuck)

abbrev pub reached_of : Reached → pure.Reached
reached_of r = record {
  variable = r.variable;
  type = tree_of r.ty;
  n = r.family;
  own = r.own;
  runs = ends_of r.runs;
}

abbrev pub reach_of : Reach → looking.Look pure.Reached
reach_of (reach.Found r) = looking.Found (reached_of r)
reach_of (reach.Passed r) = looking.Passed (stuck_of r)

-- the refusal that says that a run was stuck
abbrev pub stuck_stop : (clause : ℕ) → StuckRun → stops.TreeStop
stuck_stop clause r = looking.stuck_at clause (stuck_of r)

-- the refusal that says that a term is neither a constructor nor a variable
abbrev pub unmatched_stop : (clause : ℕ) → Telescope → Unmatched → stops.TreeStop
unmatched_stop clause context u = stops.Forced clause context (pat_of u.pat.now) (tree_of u.term)

abbrev pub arrival_of : (clause : ℕ) → Telescope → Arrival → pure.Arrival
arrival_of clause context (arrival.Found r) = pure.Arrives (reached_of r)
arrival_of clause context (arrival.Stuck r) = pure.IsStuck (stuck_stop clause r)
arrival_of clause context (arrival.Forced u) = pure.IsForced (unmatched_stop clause context u)
