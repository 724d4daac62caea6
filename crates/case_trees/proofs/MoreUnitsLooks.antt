-- With more units working and looking come to the same, unless there were too few.
use Rattle.std.proofs.Common.{ℕ, ◌+◌, true, false, Option, Some, None, List, [], ◌∷◌, length, refl, ap}
use Rattle.theory.specs.Terms.{Term}
use Rattle.theory.specs.Telescopes.{Telescope}
use Rattle.theory.specs.Families.{Constructor}
use Rattle.theory.specs.Signatures.{Signature}
use Rattle.core_terms.specs.Answers.{Spent}
use Rattle.core_terms.specs.Patterns as pattern
use Rattle.core_terms.specs.Patterns.{Pat, Pats}
use Rattle.core_terms.specs.declared.stop.Stop.TheVariants.{Fuel}
use Rattle.kernel_reduce.specs.Reduction.{whnf_of}
use Rattle.kernel_reduce.specs.Tidying.{tidy_of}
use Rattle.case_trees.specs.pattern_vectors.Matching.{is_constructor}
use Rattle.unification.specs.Built.{Built, built_of}
use Rattle.unification.specs.Outcomes as outcome
use Rattle.unification.specs.Outcomes.{Outcome}
use Rattle.unification.specs.Runs.{unify_of}
use Rattle.unification.specs.Solutions.{variable_in}
use Rattle.case_trees.specs.Looking.{Look, Found, Passed, stuck_at, Further, behind_look, at_open, first_found, look_at_type, unless_stuck, run_all}
use Rattle.case_trees.specs.Pairs.{Pair, Pairs, Waits, Binds, Passes, Keeps, Builds, Clashes, nil, cons, terms_in, waiting, clashes, or_later}
use Rattle.case_trees.specs.Problems.{Member, type_of_variable, problem_of}
use Rattle.case_trees.specs.Stops.{TreeStop, Halts, Stopping, or_halts, halting}
use Rattle.case_trees.specs.Working.{Rooms, of_arguments, compared_head, compared, unless_clash, work_pattern, work_patterns, work_pair, work_pairs}
use Rattle.case_trees.proofs.MoreUnits.{Lasts, answers-last, and_next-lasts, cond-lasts, AlwaysLasts, whnf-lasts}
use Rattle.case_trees.proofs.MoreUnitsRuns.{unify-lasts}

-- ---- working

head-lasts : (S : Signature) (room : ℕ) (t : Term) (left more : ℕ) → Lasts Fuel more (compared_head S room left t) (compared_head S room (left + more) t)
head-lasts S room t left more =
    and_next-lasts Fuel more (whnf_of S true left t) (whnf_of S true (left + more) t) _ _ (whnf-lasts S true left more t) (λ w rest fine. refl)

compared-lasts : (n number : ℕ) (pats : Pats) (t w : Term) (work : List Term → ℕ → Spent Pairs) (o : Option Built)
    → ((us : List Term) → AlwaysLasts Fuel (work us)) → AlwaysLasts Fuel (compared n number pats t w work o)
compared-lasts n number pats t w work None h = λ left more fine. refl
compared-lasts n number pats t w work (Some b) h = λ left more.
    cond-lasts Fuel more (is_constructor n number b) _ _ _ _
    (and_next-lasts Fuel more (work b.arguments left) (work b.arguments (left + more)) _ _ (h b.arguments left more) (λ pairs rest fine. refl))
    (answers-last Fuel more _ left)

unless_clash-lasts : (waits : Pairs) (work : ℕ → Spent Pairs) (pair : Pair) → AlwaysLasts Fuel work → AlwaysLasts Fuel (unless_clash waits work pair)
unless_clash-lasts waits work pair h = λ left more.
    cond-lasts Fuel more (clashes pair) _ _ _ _ (answers-last Fuel more _ left)
    (and_next-lasts Fuel more (work left) (work (left + more)) _ _ (h left more) (λ pairs rest fine. refl))

mutual
  pattern-lasts : (S : Signature) (room : ℕ) (pat : Pat) (t : Term) → AlwaysLasts Fuel (work_pattern S room pat t)
  pattern-lasts S room pattern.Bind t = λ left more fine. refl
  pattern-lasts S room pattern.Wild t = λ left more fine. refl
  pattern-lasts S room (pattern.Dot written) t = λ left more fine. refl
  pattern-lasts S room (pattern.Con n number pats) t = λ left more.
      and_next-lasts Fuel more (compared_head S room left t) (compared_head S room (left + more) t) _ _ (head-lasts S room t left more) (λ w rest.
      compared-lasts n number pats t w (work_patterns S (of_arguments room) pats) (built_of S w) (patterns-last S (of_arguments room) pats) rest more)
  pattern-lasts S room pattern.Absurd t = λ left more.
      and_next-lasts Fuel more (compared_head S room left t) (compared_head S room (left + more) t) _ _ (head-lasts S room t left more) (λ w rest fine. refl)

  pub patterns-last : (S : Signature) (rooms : Rooms) (pats : Pats) (terms : List Term) → AlwaysLasts Fuel (work_patterns S rooms pats terms)
  patterns-last S rooms (pattern.cons pat pats) (t ∷ terms) = λ left more.
      let room = rooms (length (t ∷ terms)) in
      and_next-lasts Fuel more (work_pattern S room pat t left) (work_pattern S room pat t (left + more)) _ _ (pattern-lasts S room pat t left more) (λ pair rest.
      unless_clash-lasts (waiting pats terms) (work_patterns S rooms pats terms) pair (patterns-last S rooms pats terms) rest more)
  patterns-last S rooms (pattern.cons pat pats) [] = λ left more fine. refl
  patterns-last S rooms pattern.nil terms = λ left more fine. refl

mutual
  pair-lasts : (S : Signature) (room : ℕ) (pair : Pair) → AlwaysLasts Fuel (work_pair S room pair)
  pair-lasts S room (Waits pat t) = pattern-lasts S room pat t
  pair-lasts S room (Builds n number ps pairs) = λ left more.
      and_next-lasts Fuel more (work_pairs S (of_arguments room) pairs left) (work_pairs S (of_arguments room) pairs (left + more)) _ _
      (pairs-last S (of_arguments room) pairs left more) (λ worked rest fine. refl)
  pair-lasts S room (Binds t) = λ left more fine. refl
  pair-lasts S room (Passes t) = λ left more fine. refl
  pair-lasts S room (Keeps written t) = λ left more fine. refl
  pair-lasts S room (Clashes pat t) = λ left more fine. refl

  pub pairs-last : (S : Signature) (rooms : Rooms) (pairs : Pairs) → AlwaysLasts Fuel (work_pairs S rooms pairs)
  pairs-last S rooms nil = λ left more fine. refl
  pairs-last S rooms (cons pair pairs) = λ left more.
      let room = rooms (length (terms_in (cons pair pairs))) in
      and_next-lasts Fuel more (work_pair S room pair left) (work_pair S room pair (left + more)) _ _ (pair-lasts S room pair left more) (λ new rest.
      unless_clash-lasts pairs (work_pairs S rooms pairs) new (pairs-last S rooms pairs) rest more)

-- ---- looking

abbrev pub Stops : TreeStop
Stops = Halts Fuel

-- a call that knows no other refusals
pub halting-lasts : {A : Type 0} (more : ℕ) (first second : Spent A) → Lasts Fuel more first second → Lasts Stops more (halting first) (halting second)
halting-lasts more first second h = λ fine. ap halting (h (λ bad. fine (ap or_halts bad)))

abbrev pub LookLasts : {A : Type 0} → (Pat → ℕ → ℕ → Stopping (Look A)) → Type 0
LookLasts look = (pat : Pat) (x : ℕ) → AlwaysLasts Stops (look pat x)

abbrev pub FurtherLasts : {A : Type 0} → Further A → Type 0
FurtherLasts further = (stuck forced : Option TreeStop) → AlwaysLasts Stops (further stuck forced)

behind_look-lasts : {A : Type 0} (clause : ℕ) (further : Further A) (stuck forced : Option TreeStop) (a : Look A) → FurtherLasts further
    → AlwaysLasts Stops (behind_look clause further stuck forced a)
behind_look-lasts clause further stuck forced (Found a) h = λ left more fine. refl
behind_look-lasts clause further stuck forced (Passed r) h = h (or_later stuck (Some (stuck_at clause r))) forced

at_open-lasts : {A : Type 0} (clause : ℕ) (context : Telescope) (look : Pat → ℕ → ℕ → Stopping (Look A)) (further : Further A) (pat : Pat) (u : Term) (o : Option ℕ)
    (stuck forced : Option TreeStop) → LookLasts look → FurtherLasts further → AlwaysLasts Stops (at_open clause context look further pat u o stuck forced)
at_open-lasts clause context look further pat u None stuck forced h k = k stuck (or_later forced (Some (TreeStop.Forced clause context pat u)))
at_open-lasts clause context look further pat u (Some x) stuck forced h k = λ left more.
    and_next-lasts Stops more (look pat x left) (look pat x (left + more)) _ _ (h pat x left more)
    (λ a rest. behind_look-lasts clause further stuck forced a k rest more)

pub first_found-lasts : {A : Type 0} (S : Signature) (clause : ℕ) (context : Telescope) (look : Pat → ℕ → ℕ → Stopping (Look A)) (pairs : List (Pat × Term))
    → LookLasts look → FurtherLasts (first_found S clause context look pairs)
first_found-lasts S clause context look [] h = λ stuck forced left more fine. refl
first_found-lasts S clause context look (pair ∷ pairs) h = λ stuck forced left more.
    and_next-lasts Stops more (halting (tidy_of S left pair.1)) (halting (tidy_of S (left + more) pair.1)) _ _
    (halting-lasts more (tidy_of S left pair.1) (tidy_of S (left + more) pair.1) (whnf-lasts S false left more pair.1)) (λ u rest.
    at_open-lasts clause context look (first_found S clause context look pairs) pair.0 u (variable_in u) stuck forced h
    (first_found-lasts S clause context look pairs h) rest more)

pub type-lasts : (S : Signature) (clause : ℕ) (context : Telescope) (pat : Pat) (x : ℕ) → AlwaysLasts Stops (look_at_type S clause context pat x)
type-lasts S clause context pat x = λ left more.
    and_next-lasts Stops more (halting (whnf_of S true left (type_of_variable context x))) (halting (whnf_of S true (left + more) (type_of_variable context x))) _ _
    (halting-lasts more (whnf_of S true left (type_of_variable context x)) (whnf_of S true (left + more) (type_of_variable context x))
    (whnf-lasts S true left more (type_of_variable context x)))
    (λ type rest fine. refl)

pub run-lasts : (S : Signature) (context : Telescope) (x : ℕ) (m : Member) (number : ℕ) (c : Constructor) (left more : ℕ)
    → Lasts Stops more (halting (unify_of S (problem_of context x m number c) left)) (halting (unify_of S (problem_of context x m number c) (left + more)))
run-lasts S context x m number c left more =
    halting-lasts more (unify_of S (problem_of context x m number c) left) (unify_of S (problem_of context x m number c) (left + more))
    (unify-lasts S (problem_of context x m number c) left more)

pub run_all-lasts : (S : Signature) (context : Telescope) (x : ℕ) (m : Member) (number : ℕ) (cs : List Constructor) → AlwaysLasts Stops (run_all S context x m number cs)
run_all-lasts S context x m number [] = λ left more fine. refl
run_all-lasts S context x m number (c ∷ cs) = λ left more.
    and_next-lasts Stops more (halting (unify_of S (problem_of context x m number c) left)) (halting (unify_of S (problem_of context x m number c) (left + more))) _ _
    (run-lasts S context x m number c left more) (λ o rest. by (run_all-lasts S context x m (number + 1) cs) o rest more)
  where
    by : AlwaysLasts Stops (run_all S context x m (number + 1) cs) → (o : Outcome) → AlwaysLasts Stops (unless_stuck c (problem_of context x m number c) (run_all S context x m (number + 1) cs) o)
    by others (outcome.Stuck steps new u v why) = λ left more fine. refl
    by others (outcome.Solved steps new solution) = λ left more.
        and_next-lasts Stops more (run_all S context x m (number + 1) cs left) (run_all S context x m (number + 1) cs (left + more)) _ _
        (others left more) (λ runs rest fine. refl)
    by others (outcome.Absurd steps new u v) = λ left more.
        and_next-lasts Stops more (run_all S context x m (number + 1) cs left) (run_all S context x m (number + 1) cs (left + more)) _ _
        (others left more) (λ runs rest fine. refl)
