-- The walk of a clause through its own patterns.
use Rattle.std.specs.Prelude.{ℕ, zero, suc, ◌+◌, Bool, false, ◌||◌, cond, Option, Some, None, List, [], ◌∷◌, length, map, slice_get, Result, Ok, Err}
use Rattle.theory.specs.Terms.{Term, Sort, Con}
use Rattle.theory.specs.Telescopes.{Telescope}
use Rattle.theory.specs.Families.{Constructor}
use Rattle.theory.specs.Signatures.{Signature}
use Rattle.core_terms.specs.Answers.{and_next, and_then, are_low}
use Rattle.core_terms.specs.Patterns as pattern
use Rattle.core_terms.specs.Patterns.{Pat}
use Rattle.core_terms.specs.Clauses.{Clause, Is}
use Rattle.core_terms.specs.CaseTrees.{Walk}
use Rattle.core_terms.specs.declared.stop.Stop.{Stop}
use Rattle.core_terms.specs.declared.stop.Stop.TheVariants.{Deep}
use Rattle.tele_eq.specs.Dependences.{has_variable}
use Rattle.unification.specs.Built.{Built, built_of}
use Rattle.unification.specs.Outcomes.{Outcome, Solved, Absurd, Stuck}
use Rattle.unification.specs.Runs.{unify_of}
use Rattle.case_trees.specs.Pairs.{Pairs, waiting, first_clash, all_open, all_bound, all_dots, all_left}
use Rattle.case_trees.specs.Working.{of_columns, work_pairs}
use Rattle.case_trees.specs.Points.{Point, bounded_point, start_at, under_solution, moved_point, moved_pairs, bounded_pairs, solution_for, point_keeping}
use Rattle.case_trees.specs.Problems.{problem_of}
use Rattle.case_trees.specs.Stops as stop
use Rattle.case_trees.specs.Stops.{TreeStop, Stopping, or_halts, halting, answers}
use Rattle.case_trees.specs.Looking.{Look, Found, Passed, Looked, look_at_type, first_found, Ran, run_all}

-- a walk goes on in a new state, or ends as it is, at an absurd pattern
pub data Turn : Type 0 where
  Goes : Point → Pairs → Turn
  Ends : Turn

-- the state after a solution, or Deep
abbrev pub solved_pairs : Point → Pairs → Telescope → (solution : List Term) → Result Turn Stop
solved_pairs p pairs context solution =
    and_then (bounded_point (moved_point p context solution)) (λ next.
    and_then (bounded_pairs (moved_pairs solution pairs)) (λ moved. Ok (Goes next moved)))

-- the problem of the clause's own constructor
abbrev pub own_outcome : (clause : ℕ) → Point → Pairs → Outcome → Result (Look Turn) TreeStop
own_outcome clause p pairs (Solved steps context solution) =
    and_then (or_halts (solved_pairs p pairs context (solution_for p solution))) (λ turn. Ok (Found turn))
own_outcome clause p pairs (Absurd steps context u v) = Err (stop.Impossible clause context u v)
own_outcome clause p pairs (Stuck steps context u v why) =
    Ok (Passed (record { context = context; left = u; right = v; why = why }))

-- If the pattern is scoped, its constructor exists.
abbrev pub run_own : Signature → (clause : ℕ) → Point → Pairs → (x : ℕ) → Looked → (number : ℕ) → Option Constructor → ℕ → Stopping (Look Turn)
run_own S clause p pairs x found number None left = answers (Err (stop.WrongConstructor clause p.context found.type)) left
run_own S clause p pairs x found number (Some c) left =
    and_next (halting (unify_of S (problem_of p.context x found.member number c) left)) (λ outcome rest.
    answers (own_outcome clause p pairs outcome) rest)

abbrev pub or_first : Outcome → (number : ℕ) → Option ℕ → Option ℕ
or_first (Solved steps context solution) number later = Some number
or_first outcome number later = later

-- the first constructor whose problem is solved, from this number on
abbrev pub first_solved : (number : ℕ) → List Ran → Option ℕ
first_solved number [] = None
first_solved number (run ∷ runs) = or_first run.outcome number (first_solved (number + 1) runs)

abbrev pub no_constructor : (clause n : ℕ) → Option ℕ → Result (Look Turn) TreeStop
no_constructor clause n None = Ok (Found Ends)
no_constructor clause n (Some number) = Err (stop.NotAbsurd clause n number)

abbrev pub absurd_outcome : (clause n : ℕ) → Look (List Ran) → Result (Look Turn) TreeStop
absurd_outcome clause n (Found runs) = no_constructor clause n (first_solved 0 runs)
absurd_outcome clause n (Passed r) = Ok (Passed r)

-- the look at an open pair of the pattern and variable x
abbrev pub run_pattern : Signature → (clause : ℕ) → Point → Pairs → (x : ℕ) → Looked → Pat → ℕ → Stopping (Look Turn)
run_pattern S clause p pairs x found (pattern.Con n number pats) left =
    run_own S clause p pairs x found number (slice_get found.member.family.constructors number) left
run_pattern S clause p pairs x found pat left =
    and_next (run_all S p.context x found.member 0 found.member.family.constructors left) (λ runs rest.
    answers (absurd_outcome clause found.member.n runs) rest)

abbrev pub look : Signature → (clause : ℕ) → Point → Pairs → Pat → (x : ℕ) → ℕ → Stopping (Look Turn)
look S clause p pairs pat x left =
    and_next (look_at_type S clause p.context pat x left) (λ found rest. run_pattern S clause p pairs x found pat rest)

-- ---- the end of a walk

-- a variable without a term is given one that nothing reads
abbrev pub or_none : Option Term → Term
or_none (Some t) = t
or_none None = Sort 0

-- one of the variables without a term is in the written term; the last of them has number 0
abbrev pub mentions_unbound : List (Option Term) → Term → Bool
mentions_unbound [] t = false
mentions_unbound (None ∷ bound) t = has_variable (length bound) t || mentions_unbound bound t
mentions_unbound (Some u ∷ bound) t = mentions_unbound bound t

-- the dots, each with the clause's variables put in the written term; those that mention a variable without a term are not kept
abbrev pub walked_dots : List (Option Term) → List (Term × Term) → List (Term × Term)
walked_dots bound [] = []
walked_dots bound (d ∷ dots) =
    cond (mentions_unbound bound d.0) (walked_dots bound dots)
    ((under_solution (map or_none bound) d.0, d.1) ∷ walked_dots bound dots)

abbrev pub walk_at : Point → Pairs → Walk
walk_at p pairs = record {
  ctx = p.context;
  goal = p.goal;
  subst = p.substitution;
  terms = p.terms;
  binds = map or_none (all_bound pairs);
  dots = walked_dots (all_bound pairs) (all_dots pairs);
}

abbrev pub bounded_walk : Walk → Result Walk TreeStop
bounded_walk w = cond (are_low (map (λ d. d.0) w.dots)) (Ok w) (Err (stop.Halts Deep))

-- ---- the walk

-- how a walk goes on
abbrev pub Walking : Type 0
Walking = Point → Pairs → ℕ → Stopping Walk

abbrev pub behind_turn : Walking → Point → Pairs → Turn → ℕ → Stopping Walk
behind_turn go p pairs (Goes next moved) left = go next moved left
behind_turn go p pairs Ends left = answers (bounded_walk (walk_at p pairs)) left

-- the pairs that are open: with none the walk ends
abbrev pub at_pairs : Signature → (clause : ℕ) → Walking → Point → Pairs → List (Pat × Term) → ℕ → Stopping Walk
at_pairs S clause go p pairs [] left = answers (bounded_walk (walk_at p pairs)) left
at_pairs S clause go p pairs (pair ∷ others) left =
    and_next (first_found S clause p.context (look S clause p pairs) (pair ∷ others) None None left) (behind_turn go p pairs)

-- the constructors that clash, without their arguments: the absurd pattern has that of the term
abbrev pub clashing : Signature → (clause : ℕ) → Telescope → Pat → Option Built → TreeStop
clashing S clause context (pattern.Con n number pats) (Some b) = stop.Impossible clause context (Con n number) (Con b.n b.number)
clashing S clause context pat (Some b) = stop.Impossible clause context (Con b.n b.number) (Con b.n b.number)
clashing S clause context pat None = stop.Halts Deep

-- pairs that are worked: the clause is dropped where some clash
abbrev pub unless_dropped : Signature → (clause : ℕ) → Walking → Point → Pairs → Option (Pat × Term) → ℕ → Stopping Walk
unless_dropped S clause go p pairs (Some clash) left = answers (Err (clashing S clause p.context clash.0 (built_of S clash.1))) left
unless_dropped S clause go p pairs None left =
    and_next (answers (or_halts (point_keeping S p pairs)) left) (λ next rest.
    at_pairs S clause go next pairs (all_open pairs) rest)

abbrev pub one_turn : Signature → (clause : ℕ) → Walking → Walking
one_turn S clause go p pairs left =
    and_next (halting (work_pairs S of_columns pairs left)) (λ worked rest.
    unless_dropped S clause go p worked (first_clash worked) rest)

-- where the measure is used up: no turn goes on from there
abbrev pub nowhere : Walking
nowhere p pairs left = answers (Err (stop.Halts Deep)) left

-- at most so many constructor and absurd patterns are left
abbrev pub by_patterns : Signature → (clause : ℕ) → (patterns : ℕ) → Walking
by_patterns S clause zero = one_turn S clause nowhere
by_patterns S clause (suc patterns) = one_turn S clause (by_patterns S clause patterns)

-- the walk from a point on
abbrev pub walk_from : Signature → (clause : ℕ) → Walking
walk_from S clause p pairs left = by_patterns S clause (all_left pairs) p pairs left

-- the walk of a clause, which has this number among others, from a context, a goal and the terms of its columns
abbrev pub own_walk_of : Signature → Telescope → (goal : Term) → (terms : List Term) → Clause → (clause : ℕ) → ℕ → Stopping Walk
own_walk_of S context goal terms (Is pats binds right) clause left =
    and_next (answers (or_halts (bounded_point (start_at context goal terms))) left) (λ p rest.
    walk_from S clause p (waiting pats terms) rest)
