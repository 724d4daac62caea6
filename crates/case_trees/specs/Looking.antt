-- The open pairs of a clause are taken from the left, until one is found that a walk or a tree goes on at.
use Rattle.std.specs.Prelude.{ℕ, ◌+◌, ◌==◌, true, cond, Option, Some, None, option_and_then, List, [], ◌∷◌, Result, Ok, Err}
use Rattle.theory.specs.Terms.{Term}
use Rattle.theory.specs.Telescopes.{Telescope}
use Rattle.theory.specs.Families.{Constructor}
use Rattle.theory.specs.Signatures.{Signature}
use Rattle.core_terms.specs.Answers.{and_next}
use Rattle.core_terms.specs.Patterns as pattern
use Rattle.core_terms.specs.Patterns.{Pat}
use Rattle.core_terms.specs.declared.stop.Stop.TheVariants.{Deep}
use Rattle.kernel_reduce.specs.Reduction.{whnf_of}
use Rattle.kernel_reduce.specs.Tidying.{tidy_of}
use Rattle.unification.specs.States.{Problem}
use Rattle.unification.specs.Outcomes.{Outcome, Stuck}
use Rattle.unification.specs.Runs.{unify_of}
use Rattle.unification.specs.Solutions.{variable_in}
use Rattle.unification.specs.declared.why.Why.{Why}
use Rattle.case_trees.specs.Pairs.{or_later}
use Rattle.case_trees.specs.Problems.{Member, member_of, type_of_variable, problem_of}
use Rattle.case_trees.specs.Stops as stop
use Rattle.case_trees.specs.Stops.{TreeStop, Stopping, halting, answers}

-- the end of a run that was stuck
pub record StuckRun : Type 0 where
  pub context : Telescope
  pub left : Term
  pub right : Term
  pub why : Why

-- a look at an open pair with a variable: the walk or the tree goes on there, or a run is stuck and the pair is passed on
pub data Look (A : Type 0) : Type 0 where
  Found : A → Look A
  Passed : StuckRun → Look A

abbrev pub stuck_at : (clause : ℕ) → StuckRun → TreeStop
stuck_at clause r = stop.Stuck clause r.context r.left r.right r.why

-- No pair was found. If some run was stuck, the first such run is the reason, and otherwise the first pair, which has no variable. There
-- is an open pair, so one of the two exists.
abbrev pub none_found : (stuck forced : Option TreeStop) → TreeStop
none_found (Some e) forced = e
none_found None (Some e) = e
none_found None None = stop.Halts Deep

-- how the looking goes on after a pair, with the first stuck run and the first pair without a variable
abbrev pub Further : Type 0 → Type 0
Further A = (stuck forced : Option TreeStop) → ℕ → Stopping A

abbrev pub behind_look : {A : Type 0} → (clause : ℕ) → Further A → (stuck forced : Option TreeStop) → Look A → ℕ → Stopping A
behind_look clause further stuck forced (Found a) left = answers (Ok a) left
behind_look clause further stuck forced (Passed r) left = further (or_later stuck (Some (stuck_at clause r))) forced left

-- an open pair with the tidied term u
abbrev pub at_open : {A : Type 0} → (clause : ℕ) → Telescope → (look : Pat → ℕ → ℕ → Stopping (Look A)) → Further A → Pat → (u : Term) → Option ℕ →
    (stuck forced : Option TreeStop) → ℕ → Stopping A
at_open clause context look further pat u None stuck forced left =
    further stuck (or_later forced (Some (stop.Forced clause context pat u))) left
at_open clause context look further pat u (Some x) stuck forced left =
    and_next (look pat x left) (behind_look clause further stuck forced)

-- Each open pair is tidied when it is reached. `look` gives the result for one whose tidied term is a variable.
abbrev pub first_found : {A : Type 0} → Signature → (clause : ℕ) → Telescope → (look : Pat → ℕ → ℕ → Stopping (Look A)) → List (Pat × Term) → Further A
first_found S clause context look [] stuck forced left = answers (Err (none_found stuck forced)) left
first_found S clause context look (pair ∷ pairs) stuck forced left =
    and_next (halting (tidy_of S left pair.1)) (λ u rest.
    at_open clause context look (first_found S clause context look pairs) pair.0 u (variable_in u) stuck forced rest)

-- ---- the variable of an open pair

-- the type of a variable, reduced, as a family with all its parameters and indices
pub record Looked : Type 0 where
  pub type : Term
  pub member : Member

-- the family is that of the constructor pattern; the absurd pattern takes any
abbrev pub if_expected : Pat → Member → Option Member
if_expected (pattern.Con n number pats) m = cond (m.n == n) (Some m) None
if_expected pat m = Some m

abbrev pub looked_at : (clause : ℕ) → Telescope → (type : Term) → Option Member → Result Looked TreeStop
looked_at clause context type None = Err (stop.WrongConstructor clause context type)
looked_at clause context type (Some m) = Ok (record { type = type; member = m })

-- the type of variable x is reduced, and is the family that the pattern expects, or WrongConstructor
abbrev pub look_at_type : Signature → (clause : ℕ) → Telescope → Pat → (x : ℕ) → ℕ → Stopping Looked
look_at_type S clause context pat x left =
    and_next (halting (whnf_of S true left (type_of_variable context x))) (λ type rest.
    answers (looked_at clause context type (option_and_then (if_expected pat) (member_of S type))) rest)

-- ---- the problems of all constructors

-- a problem with its outcome, which is not stuck
pub record Ran : Type 0 where
  pub constructor : Constructor
  pub problem : Problem
  pub outcome : Outcome

abbrev pub with_run : Ran → Look (List Ran) → Look (List Ran)
with_run run (Found runs) = Found (run ∷ runs)
with_run run (Passed r) = Passed r

-- the other problems are run unless this one is stuck
abbrev pub unless_stuck : Constructor → Problem → (others : ℕ → Stopping (Look (List Ran))) → Outcome → ℕ → Stopping (Look (List Ran))
unless_stuck c p others (Stuck steps context u v why) left =
    answers (Ok (Passed (record { context = context; left = u; right = v; why = why }))) left
unless_stuck c p others outcome left =
    and_next (others left) (λ runs rest. answers (Ok (with_run (record { constructor = c; problem = p; outcome = outcome }) runs)) rest)

-- The problems of constructors, the first of which has this number, in their order, up to the first that is stuck.
abbrev pub run_all : Signature → Telescope → (x : ℕ) → Member → (number : ℕ) → List Constructor → ℕ → Stopping (Look (List Ran))
run_all S context x m number [] left = answers (Ok (Found [])) left
run_all S context x m number (c ∷ constructors) left =
    let p = problem_of context x m number c in
    and_next (halting (unify_of S p left)) (unless_stuck c p (run_all S context x m (number + 1) constructors))
