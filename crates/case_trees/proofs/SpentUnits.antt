-- Walks give no units back.
use Rattle.std.proofs.Common.{ℕ, zero, suc, ◌+◌, ◌≤◌, Bool, true, false, cond, Option, Some, None, List, [], ◌∷◌, length, Ok, arith}
use Rattle.theory.specs.Terms.{Term}
use Rattle.theory.specs.Telescopes.{Telescope}
use Rattle.theory.specs.Families.{Constructor}
use Rattle.theory.specs.Signatures.{Signature}
use Rattle.core_terms.specs.Answers.{Spent, and_next}
use Rattle.core_terms.specs.Patterns as pattern
use Rattle.core_terms.specs.Patterns.{Pat, Pats}
use Rattle.core_terms.specs.Clauses.{Clause, Is}
use Rattle.kernel_reduce.specs.Reduction.{whnf_of}
use Rattle.kernel_reduce.specs.Tidying.{tidy_of}
use Rattle.unification.specs.Solutions.{variable_in}
use Rattle.kernel_reduce.proofs.ReductionLaws.{whnf-spends}
use Rattle.unification.specs.Built.{Built, built_of}
use Rattle.unification.specs.States.{Problem}
use Rattle.unification.specs.Outcomes as outcome
use Rattle.unification.specs.Outcomes.{Outcome}
use Rattle.unification.specs.Runs.{unify_of}
use Rattle.unification.proofs.RunProperties.{unify-spends}
use Rattle.case_trees.specs.pattern_vectors.Matching.{is_constructor}
use Rattle.case_trees.specs.Pairs.{Pair, Pairs, Waits, Binds, Passes, Keeps, Builds, Clashes, nil, cons, terms_in, waiting, clashes, first_clash, all_open, all_left}
use Rattle.case_trees.specs.Working.{Rooms, of_columns, of_arguments, compared_head, compared, unless_clash, work_pattern, work_patterns, work_pair, work_pairs}
use Rattle.case_trees.specs.Points.{Point, bounded_point, start_at, point_keeping}
use Rattle.case_trees.specs.Problems.{Member, type_of_variable, problem_of}
use Rattle.case_trees.specs.Stops.{TreeStop, Stopping, or_halts, answers, halting}
use Rattle.case_trees.specs.Looking.{Look, Found, Passed, Looked, Ran, Further, behind_look, at_open, first_found, look_at_type, unless_stuck, run_all}
use Rattle.case_trees.specs.OwnWalks as walk
use Rattle.case_trees.specs.OwnWalks.{Turn, Goes, Ends, Walking, absurd_outcome, run_own, run_pattern, behind_turn, at_pairs, unless_dropped, one_turn, by_patterns, walk_from, own_walk_of}
use Rattle.case_trees.specs.Laws.{WalkSpends}
use Rattle.case_trees.proofs.Answered.{and_next-spends}

-- ---- working

compared-spends : (n number : ℕ) (pats : Pats) (t w : Term) (work : List Term → ℕ → Spent Pairs) (found : Option Built) (left : ℕ)
    → ((us : List Term) (next : ℕ) → (work us next).1 ≤ next) → (compared n number pats t w work found left).1 ≤ left
compared-spends n number pats t w work None left h = omega arith
compared-spends n number pats t w work (Some b) left h = by (is_constructor n number b)
  where
    by : (same : Bool) → (cond same (and_next (work b.arguments left) (λ pairs rest. (Ok (Builds b.n b.number b.parameters pairs), rest)))
        (Ok (Clashes (pattern.Con n number pats) w), left)).1 ≤ left
    by true = and_next-spends (work b.arguments left) left _ (h b.arguments left) (λ pairs rest. omega arith)
    by false = omega arith

unless_clash-spends : (waits : Pairs) (work : ℕ → Spent Pairs) (pair : Pair) (left : ℕ) → ((next : ℕ) → (work next).1 ≤ next)
    → (unless_clash waits work pair left).1 ≤ left
unless_clash-spends waits work pair left h = by (clashes pair)
  where
    by : (test : Bool) → (cond test (Ok (cons pair waits), left) (and_next (work left) (λ pairs rest. (Ok (cons pair pairs), rest)))).1 ≤ left
    by true = omega arith
    by false = and_next-spends (work left) left _ (h left) (λ pairs rest. omega arith)

compared_head-spends : (S : Signature) (room left : ℕ) (t : Term) → (compared_head S room left t).1 ≤ left
compared_head-spends S room left t = and_next-spends (whnf_of S true left t) left _ (whnf-spends S true left t) (λ w rest. omega arith)

mutual
  work_pattern-spends : (S : Signature) (room : ℕ) (pat : Pat) (t : Term) (left : ℕ) → (work_pattern S room pat t left).1 ≤ left
  work_pattern-spends S room pattern.Bind t left = omega arith
  work_pattern-spends S room pattern.Wild t left = omega arith
  work_pattern-spends S room (pattern.Dot written) t left = omega arith
  work_pattern-spends S room (pattern.Con n number pats) t left =
      and_next-spends (compared_head S room left t) left _ (compared_head-spends S room left t) (λ w rest.
      compared-spends n number pats t w (work_patterns S (of_arguments room) pats) (built_of S w) rest (work_patterns-spends S (of_arguments room) pats))
  work_pattern-spends S room pattern.Absurd t left =
      and_next-spends (compared_head S room left t) left _ (compared_head-spends S room left t) (λ w rest. omega arith)

  work_patterns-spends : (S : Signature) (rooms : Rooms) (pats : Pats) (terms : List Term) (left : ℕ) → (work_patterns S rooms pats terms left).1 ≤ left
  work_patterns-spends S rooms (pattern.cons pat pats) (t ∷ terms) left =
      let room = rooms (length (t ∷ terms)) in
      and_next-spends (work_pattern S room pat t left) left _ (work_pattern-spends S room pat t left) (λ pair rest.
      unless_clash-spends (waiting pats terms) (work_patterns S rooms pats terms) pair rest (work_patterns-spends S rooms pats terms))
  work_patterns-spends S rooms (pattern.cons pat pats) [] left = omega arith
  work_patterns-spends S rooms pattern.nil terms left = omega arith

mutual
  work_pair-spends : (S : Signature) (room : ℕ) (pair : Pair) (left : ℕ) → (work_pair S room pair left).1 ≤ left
  work_pair-spends S room (Waits pat t) left = work_pattern-spends S room pat t left
  work_pair-spends S room (Builds n number ps pairs) left =
      and_next-spends (work_pairs S (of_arguments room) pairs left) left _ (work_pairs-spends S (of_arguments room) pairs left)
      (λ worked rest. omega arith)
  work_pair-spends S room (Binds t) left = omega arith
  work_pair-spends S room (Passes t) left = omega arith
  work_pair-spends S room (Keeps written t) left = omega arith
  work_pair-spends S room (Clashes pat t) left = omega arith

  pub work_pairs-spends : (S : Signature) (rooms : Rooms) (pairs : Pairs) (left : ℕ) → (work_pairs S rooms pairs left).1 ≤ left
  work_pairs-spends S rooms nil left = omega arith
  work_pairs-spends S rooms (cons pair pairs) left =
      let room = rooms (length (terms_in (cons pair pairs))) in
      and_next-spends (work_pair S room pair left) left _ (work_pair-spends S room pair left) (λ worked rest.
      unless_clash-spends pairs (work_pairs S rooms pairs) worked rest (work_pairs-spends S rooms pairs))

-- ---- looking

abbrev pub FurtherSpends : {A : Type 0} → Further A → Type 0
FurtherSpends further = (stuck forced : Option TreeStop) (next : ℕ) → (further stuck forced next).1 ≤ next

abbrev pub LookSpends : {A : Type 0} → (Pat → ℕ → ℕ → Stopping (Look A)) → Type 0
LookSpends look = (pat : Pat) (x next : ℕ) → (look pat x next).1 ≤ next

behind_look-spends : {A : Type 0} (clause : ℕ) (further : Further A) (stuck forced : Option TreeStop) (a : Look A) (left : ℕ)
    → FurtherSpends further → (behind_look clause further stuck forced a left).1 ≤ left
behind_look-spends clause further stuck forced (Found a) left h = omega arith
behind_look-spends clause further stuck forced (Passed r) left h = h _ forced left

at_open-spends : {A : Type 0} (clause : ℕ) (context : Telescope) (look : Pat → ℕ → ℕ → Stopping (Look A)) (further : Further A) (pat : Pat) (u : Term)
    (from : Option ℕ) (stuck forced : Option TreeStop) (left : ℕ) → LookSpends look → FurtherSpends further
    → (at_open clause context look further pat u from stuck forced left).1 ≤ left
at_open-spends clause context look further pat u None stuck forced left l h = h stuck _ left
at_open-spends clause context look further pat u (Some x) stuck forced left l h =
    and_next-spends (look pat x left) left _ (l pat x left) (λ a rest. behind_look-spends clause further stuck forced a rest h)

pub first_found-spends : {A : Type 0} (S : Signature) (clause : ℕ) (context : Telescope) (look : Pat → ℕ → ℕ → Stopping (Look A)) (pairs : List (Pat × Term))
    → LookSpends look → FurtherSpends (first_found S clause context look pairs)
first_found-spends S clause context look [] l = λ stuck forced left. omega arith
first_found-spends S clause context look (pair ∷ pairs) l = λ stuck forced left.
    and_next-spends (halting (tidy_of S left pair.1)) left _ (whnf-spends S false left pair.1) (λ u rest.
    at_open-spends clause context look (first_found S clause context look pairs) pair.0 u (variable_in u) stuck forced rest l
    (first_found-spends S clause context look pairs l))

pub look_at_type-spends : (S : Signature) (clause : ℕ) (context : Telescope) (pat : Pat) (x left : ℕ) → (look_at_type S clause context pat x left).1 ≤ left
look_at_type-spends S clause context pat x left =
    and_next-spends (halting (whnf_of S true left (type_of_variable context x))) left _ (whnf-spends S true left (type_of_variable context x)) (λ type rest. omega arith)

unless_stuck-spends : (c : Constructor) (p : Problem) (others : ℕ → Stopping (Look (List Ran))) (o : Outcome) (left : ℕ)
    → ((next : ℕ) → (others next).1 ≤ next) → (unless_stuck c p others o left).1 ≤ left
unless_stuck-spends c p others (outcome.Stuck steps context u v why) left h = omega arith
unless_stuck-spends c p others (outcome.Solved steps context solution) left h =
    and_next-spends (others left) left _ (h left) (λ runs rest. omega arith)
unless_stuck-spends c p others (outcome.Absurd steps context u v) left h =
    and_next-spends (others left) left _ (h left) (λ runs rest. omega arith)

pub run_all-spends : (S : Signature) (context : Telescope) (x : ℕ) (m : Member) (number : ℕ) (constructors : List Constructor) (left : ℕ)
    → (run_all S context x m number constructors left).1 ≤ left
run_all-spends S context x m number [] left = omega arith
run_all-spends S context x m number (c ∷ constructors) left =
    and_next-spends (halting (unify_of S (problem_of context x m number c) left)) left _ (unify-spends S (problem_of context x m number c) left) (λ o rest.
    unless_stuck-spends c (problem_of context x m number c) (run_all S context x m (number + 1) constructors) o rest
    (run_all-spends S context x m (number + 1) constructors))

-- ---- walks

run_own-spends : (S : Signature) (clause : ℕ) (p : Point) (pairs : Pairs) (x : ℕ) (found : Looked) (number : ℕ) (c : Option Constructor) (left : ℕ)
    → (run_own S clause p pairs x found number c left).1 ≤ left
run_own-spends S clause p pairs x found number None left = omega arith
run_own-spends S clause p pairs x found number (Some c) left =
    and_next-spends (halting (unify_of S (problem_of p.context x found.member number c) left)) left _
    (unify-spends S (problem_of p.context x found.member number c) left) (λ o rest. omega arith)

absurd-spends : (S : Signature) (clause : ℕ) (p : Point) (x : ℕ) (found : Looked) (left : ℕ)
    → (and_next (run_all S p.context x found.member 0 found.member.family.constructors left) (λ runs rest.
    answers (absurd_outcome clause found.member.n runs) rest)).1 ≤ left
absurd-spends S clause p x found left =
    and_next-spends (run_all S p.context x found.member 0 found.member.family.constructors left) left _
    (run_all-spends S p.context x found.member 0 found.member.family.constructors left) (λ runs rest. omega arith)

run_pattern-spends : (S : Signature) (clause : ℕ) (p : Point) (pairs : Pairs) (x : ℕ) (found : Looked) (pat : Pat) (left : ℕ)
    → (run_pattern S clause p pairs x found pat left).1 ≤ left
run_pattern-spends S clause p pairs x found (pattern.Con n number pats) left = run_own-spends S clause p pairs x found number _ left
run_pattern-spends S clause p pairs x found pattern.Bind left =
    absurd-spends S clause p x found left
run_pattern-spends S clause p pairs x found pattern.Wild left =
    absurd-spends S clause p x found left
run_pattern-spends S clause p pairs x found (pattern.Dot written) left =
    absurd-spends S clause p x found left
run_pattern-spends S clause p pairs x found pattern.Absurd left =
    absurd-spends S clause p x found left

walk-look-spends : (S : Signature) (clause : ℕ) (p : Point) (pairs : Pairs) → LookSpends (walk.look S clause p pairs)
walk-look-spends S clause p pairs = λ pat x left.
    and_next-spends (look_at_type S clause p.context pat x left) left _ (look_at_type-spends S clause p.context pat x left) (λ found rest.
    run_pattern-spends S clause p pairs x found pat rest)

abbrev GoingSpends : Walking → Type 0
GoingSpends go = (p : Point) (pairs : Pairs) (next : ℕ) → (go p pairs next).1 ≤ next

behind_turn-spends : (go : Walking) (p : Point) (pairs : Pairs) (turn : Turn) (left : ℕ) → GoingSpends go → (behind_turn go p pairs turn left).1 ≤ left
behind_turn-spends go p pairs (Goes next moved) left h = h next moved left
behind_turn-spends go p pairs Ends left h = omega arith

at_pairs-spends : (S : Signature) (clause : ℕ) (go : Walking) (p : Point) (pairs : Pairs) (open_pairs : List (Pat × Term)) (left : ℕ) → GoingSpends go
    → (at_pairs S clause go p pairs open_pairs left).1 ≤ left
at_pairs-spends S clause go p pairs [] left h = omega arith
at_pairs-spends S clause go p pairs (pair ∷ others) left h =
    and_next-spends (first_found S clause p.context (walk.look S clause p pairs) (pair ∷ others) None None left) left _
    (first_found-spends S clause p.context (walk.look S clause p pairs) (pair ∷ others) (walk-look-spends S clause p pairs) None None left)
    (λ turn rest. behind_turn-spends go p pairs turn rest h)

unless_dropped-spends : (S : Signature) (clause : ℕ) (go : Walking) (p : Point) (pairs : Pairs) (clash : Option (Pat × Term)) (left : ℕ) → GoingSpends go
    → (unless_dropped S clause go p pairs clash left).1 ≤ left
unless_dropped-spends S clause go p pairs (Some clash) left h = omega arith
unless_dropped-spends S clause go p pairs None left h =
    and_next-spends (answers (or_halts (point_keeping S p pairs)) left) left _ (omega arith) (λ next rest. at_pairs-spends S clause go next pairs (all_open pairs) rest h)

one_turn-spends : (S : Signature) (clause : ℕ) (go : Walking) → GoingSpends go → GoingSpends (one_turn S clause go)
one_turn-spends S clause go h = λ p pairs left.
    and_next-spends (halting (work_pairs S of_columns pairs left)) left _ (work_pairs-spends S of_columns pairs left) (λ worked rest.
    unless_dropped-spends S clause go p worked (first_clash worked) rest h)

by_patterns-spends : (S : Signature) (clause patterns : ℕ) → GoingSpends (by_patterns S clause patterns)
by_patterns-spends S clause zero = one_turn-spends S clause walk.nowhere (λ p pairs left. omega arith)
by_patterns-spends S clause (suc patterns) = one_turn-spends S clause (by_patterns S clause patterns) (by_patterns-spends S clause patterns)

pub walk_spends : WalkSpends
walk_spends = λ S context goal terms c number left. by S context goal terms c number left
  where
    by : (S : Signature) (context : Telescope) (goal : Term) (terms : List Term) (c : Clause) (number left : ℕ)
        → (own_walk_of S context goal terms c number left).1 ≤ left
    by S context goal terms (Is pats binds right) number left =
        and_next-spends (answers (or_halts (bounded_point (start_at context goal terms))) left) left _ (omega arith) (λ p rest. by_patterns-spends S number (all_left (waiting pats terms)) p (waiting pats terms) rest)
