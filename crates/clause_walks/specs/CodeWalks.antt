-- The turns of a walk, as the code makes them.
use Rattle.std.specs.Prelude.{ℕ, ◌+◌, true, Option, Some, None, List, [], ◌∷◌, Result, Ok, Err}
use Rattle.theory.specs.Terms.{Term}
use Rattle.theory.specs.Telescopes.{Telescope}
use Rattle.theory.specs.Signatures.{Signature}
use Rattle.core_terms.specs.Answers.{and_then, and_next}
use Rattle.core_terms.specs.Patterns.{Pat}
use Rattle.core_terms.specs.CaseTrees.{Walk}
use Rattle.core_terms.specs.declared.stop.Stop.{Stop}
use Rattle.core_terms.specs.declared.stop.Stop.TheVariants.{Deep}
use Rattle.unification.specs.Built.{built_of}
use Rattle.unification.specs.Outcomes.{Outcome, Solved, Absurd, Stuck}
use Rattle.case_trees.specs.Pairs.{Pairs, first_clash, all_open}
use Rattle.case_trees.specs.Working.{of_columns, work_pairs}
use Rattle.case_trees.specs.Points.{Point, bounded_point, moved_point, moved_pairs, bounded_pairs, point_keeping, solution_for}
use Rattle.case_trees.specs.Stops as stop
use Rattle.case_trees.specs.Stops.{TreeStop, Stopping, or_halts, halting, answers}
use Rattle.case_trees.specs.Looking.{first_found}
use Rattle.case_trees.specs.OwnWalks.{Turn, Goes, Ends, solved_pairs, or_first, walk_at, bounded_walk, clashing, Walking}
use Rattle.clause_walks.specs.Forgetting.{forget_all}
use Rattle.clause_walks.specs.Reaching.{RunEnd, Reached, reach}

-- ---- reached variables

-- the outcome of the pattern's own constructor, which is not stuck
abbrev pub own_turn : (clause : ℕ) → Point → Pairs → Outcome → Result Turn TreeStop
own_turn clause p pairs (Solved steps context solution) = or_halts (solved_pairs p pairs context (solution_for p solution))
own_turn clause p pairs (Absurd steps context u v) = Err (stop.Impossible clause context u v)
own_turn clause p pairs (Stuck steps context u v why) = Err (stop.Halts Deep)

-- there is one run
abbrev pub own_run : (clause : ℕ) → Point → Pairs → List RunEnd → Result Turn TreeStop
own_run clause p pairs [] = Err (stop.Halts Deep)
own_run clause p pairs (r ∷ runs) = own_turn clause p pairs r.outcome

-- the first constructor whose problem is solved, from this number on
abbrev pub first_solved_end : (number : ℕ) → List RunEnd → Option ℕ
first_solved_end number [] = None
first_solved_end number (r ∷ runs) = or_first r.outcome number (first_solved_end (number + 1) runs)

abbrev pub unless_solved : (clause n : ℕ) → Option ℕ → Result Turn TreeStop
unless_solved clause n None = Ok Ends
unless_solved clause n (Some number) = Err (stop.NotAbsurd clause n number)

-- of a constructor pattern, or of the absurd one
abbrev pub turn_by : (clause : ℕ) → Point → Pairs → (own : Option ℕ) → (n : ℕ) → List RunEnd → Result Turn TreeStop
turn_by clause p pairs (Some number) n runs = own_run clause p pairs runs
turn_by clause p pairs None n runs = unless_solved clause n (first_solved_end 0 runs)

abbrev pub turn_at : (clause : ℕ) → Point → Pairs → Reached → Result Turn TreeStop
turn_at clause p pairs r = turn_by clause p pairs r.own r.n r.runs

-- ---- a turn

-- the walk goes on, without the terms of wildcards, or it has ended
pub data Next : Type 0 where
  GoesOn : Point → Pairs → Next
  Ended : Walk → Next

abbrev pub ended_at : Point → Pairs → Result Next TreeStop
ended_at p pairs = and_then (bounded_walk (walk_at p pairs)) (λ w. Ok (Ended w))

abbrev pub next_of : Point → Pairs → Turn → Result Next TreeStop
next_of p pairs (Goes next moved) = Ok (GoesOn next (forget_all moved))
next_of p pairs Ends = ended_at p pairs

-- the state after a solution, without the terms of wildcards, or Deep
abbrev pub solved_next : Point → Pairs → Telescope → (solution : List Term) → Result Next Stop
solved_next p pairs context solution =
    and_then (bounded_point (moved_point p context (solution_for p solution))) (λ next.
    and_then (bounded_pairs (forget_all (moved_pairs (solution_for p solution) pairs))) (λ moved. Ok (GoesOn next moved)))

abbrev pub own_next : (clause : ℕ) → Point → Pairs → Outcome → Result Next TreeStop
own_next clause p pairs outcome = and_then (own_turn clause p pairs outcome) (next_of p pairs)

abbrev pub absurd_next : (clause : ℕ) → Point → Pairs → (n : ℕ) → List RunEnd → Result Next TreeStop
absurd_next clause p pairs n runs = and_then (unless_solved clause n (first_solved_end 0 runs)) (next_of p pairs)

abbrev pub next_reached : (clause : ℕ) → Point → Pairs → Reached → Result Next TreeStop
next_reached clause p pairs r = and_then (turn_at clause p pairs r) (next_of p pairs)

abbrev pub next_at : Signature → (clause : ℕ) → Point → Pairs → List (Pat × Term) → ℕ → Stopping Next
next_at S clause p pairs [] left = answers (ended_at p pairs) left
next_at S clause p pairs (pair ∷ others) left =
    and_next (first_found S clause p.context (reach S true clause p.context) (pair ∷ others) None None left) (λ r rest.
    answers (next_reached clause p pairs r) rest)

abbrev pub next_unless_dropped : Signature → (clause : ℕ) → Point → Pairs → Option (Pat × Term) → ℕ → Stopping Next
next_unless_dropped S clause p pairs (Some clash) left =
    answers (Err (clashing S clause p.context clash.0 (built_of S clash.1))) left
next_unless_dropped S clause p pairs None left =
    and_next (answers (or_halts (point_keeping S p pairs)) left) (λ next rest.
    next_at S clause next pairs (all_open pairs) rest)

abbrev pub turn_of : Signature → (clause : ℕ) → Point → Pairs → ℕ → Stopping Next
turn_of S clause p pairs left =
    and_next (halting (work_pairs S of_columns pairs left)) (λ worked rest.
    next_unless_dropped S clause p worked (first_clash worked) rest)

-- the walk goes on after a turn, or has ended
abbrev pub onward : Walking → Next → ℕ → Stopping Walk
onward go (GoesOn p pairs) left = go p pairs left
onward go (Ended w) left = answers (Ok w) left
