-- The walks of clauses and the trees of functions.
use Rattle.std.proofs.Common.{ℕ, zero, suc, ◌+◌, true, Option, Some, None, option_and_then, Result, Ok, Err, List, [], ◌∷◌, length, slice_get}
use Rattle.theory.specs.Terms.{Term}
use Rattle.theory.specs.Telescopes.{Telescope}
use Rattle.theory.specs.Families.{Constructor}
use Rattle.theory.specs.Signatures.{Signature}
use Rattle.core_terms.specs.Answers.{Spent}
use Rattle.core_terms.specs.CaseTrees.{Walk}
use Rattle.core_terms.specs.Clauses.{Clause, Clauses, Is}
use Rattle.core_terms.specs.Patterns as pattern
use Rattle.core_terms.specs.Patterns.{Pat, Pats}
use Rattle.core_terms.specs.declared.stop.Stop.{Stop}
use Rattle.unification.specs.Built.{Built, built_of}
use Rattle.unification.specs.Outcomes.{Outcome, Solved, Absurd, Stuck}
use Rattle.unification.specs.Solutions.{variable_in}
use Rattle.unification.specs.States.{Problem}
use Rattle.case_trees.specs.Looking.{Further, Look, Found, Passed, Looked, Ran, at_open, behind_look, first_found, if_expected, look_at_type, looked_at, none_found, run_all, unless_stuck}
use Rattle.case_trees.specs.OwnWalks as own
use Rattle.case_trees.specs.OwnWalks.{Turn, Goes, Ends as Over, Walking, absurd_outcome, at_pairs, behind_turn, bounded_walk, clashing, first_solved, no_constructor, own_outcome, own_walk_of, run_own, run_pattern, solved_pairs, walk_at, walk_from}
use Rattle.case_trees.specs.Pairs.{Pair, Pairs, Waits, Binds, Passes, Keeps, Builds, Clashes, nil, cons, all_left, all_open, first_clash, or_later, terms_in, waiting}
use Rattle.case_trees.specs.Points.{Point, bounded_pairs, bounded_point, moved_pairs, moved_point, point_keeping, solution_for, start_at}
use Rattle.case_trees.specs.Problems.{Member, member_of, problem_of, type_of_variable}
use Rattle.case_trees.specs.Stops.{TreeStop, Stopping, halting, or_halts}
use Rattle.case_trees.specs.Trees as grown
use Rattle.case_trees.specs.Trees.{Growing, Live, Node, SplitAt, all_live, as_split, branch_by, by_first, by_live, grow_branches, leaf_at, moved_live, one_node, patterns_left, solved_node, split_at, split_of, worked}
use Rattle.case_trees.specs.Working.{Rooms, compared, compared_head, in_room, of_arguments, of_columns, unless_clash, work_pair, work_pairs, work_pattern, work_patterns}
use Rattle.elim.specs.memory_laws.Foreseen.{IsForeseen, IsForeseenTree}
use Rattle.elim.proofs.memory_laws.Runs.{Only, Ends, ok, no, now, done, next, and-then, either, either-ends, deep}
use Rattle.elim.proofs.memory_laws.Kernel.{tidy, whnf}
use Rattle.elim.proofs.memory_laws.Unifying.{unify}

-- out of units and too high among the ends of a walk
pub halted : {A : Type 0} {r : Result A Stop} → Only IsForeseen r → Only IsForeseenTree (or_halts r)
halted {A} {r} h = by r h
  where
    by : (x : Result A Stop) → Only IsForeseen x → Only IsForeseenTree (or_halts x)
    by (Ok a) k = ok
    by (Err e) k = no k.is

pub halts : {A : Type 0} {spent : Spent A} → Ends IsForeseen spent → Ends IsForeseenTree (halting spent)
halts h = now (halted h.only)

-- ---- pairs

room-enough : (room : ℕ) (w : Term) (b : Option Built) → Only IsForeseen (in_room room w b)
room-enough room w None = ok
room-enough room w (Some b) = either _ ok deep

head : (S : Signature) (room left : ℕ) (t : Term) → Ends IsForeseen (compared_head S room left t)
head S room left t = next (whnf S true left t) (λ w rest. now (room-enough room w (built_of S w)))

compares : (n number : ℕ) (pats : Pats) (t w : Term) {work : List Term → ℕ → Spent Pairs} → ((us : List Term) (left : ℕ) → Ends IsForeseen (work us left))
    → (b : Option Built) (left : ℕ) → Ends IsForeseen (compared n number pats t w work b left)
compares n number pats t w h None left = done
compares n number pats t w h (Some b) left = either-ends _ (next (h b.arguments left) (λ pairs rest. done)) done

unless : (waits : Pairs) {work : ℕ → Spent Pairs} → ((left : ℕ) → Ends IsForeseen (work left)) → (pair : Pair) (left : ℕ)
    → Ends IsForeseen (unless_clash waits work pair left)
unless waits h pair left = either-ends _ done (next (h left) (λ pairs rest. done))

mutual
  works-pattern : (S : Signature) (room : ℕ) (pat : Pat) (t : Term) (left : ℕ) → Ends IsForeseen (work_pattern S room pat t left)
  works-pattern S room pattern.Bind t left = done
  works-pattern S room pattern.Wild t left = done
  works-pattern S room (pattern.Dot written) t left = done
  works-pattern S room (pattern.Con n number pats) t left =
      next (head S room left t) (λ w rest. compares n number pats t w (works-patterns S (of_arguments room) pats) (built_of S w) rest)
  works-pattern S room pattern.Absurd t left = next (head S room left t) (λ w rest. done)

  works-patterns : (S : Signature) (rooms : Rooms) (pats : Pats) (terms : List Term) (left : ℕ) → Ends IsForeseen (work_patterns S rooms pats terms left)
  works-patterns S rooms (pattern.cons pat pats) (t ∷ terms) left =
      next (works-pattern S (rooms (length (t ∷ terms))) pat t left) (unless (waiting pats terms) (works-patterns S rooms pats terms))
  works-patterns S rooms (pattern.cons pat pats) [] left = done
  works-patterns S rooms pattern.nil terms left = done

mutual
  works-pair : (S : Signature) (room : ℕ) (pair : Pair) (left : ℕ) → Ends IsForeseen (work_pair S room pair left)
  works-pair S room (Waits pat t) left = works-pattern S room pat t left
  works-pair S room (Builds n number ps pairs) left = next (works-pairs S (of_arguments room) pairs left) (λ worked rest. done)
  works-pair S room (Binds t) left = done
  works-pair S room (Passes t) left = done
  works-pair S room (Keeps written t) left = done
  works-pair S room (Clashes pat t) left = done

  works-pairs : (S : Signature) (rooms : Rooms) (pairs : Pairs) (left : ℕ) → Ends IsForeseen (work_pairs S rooms pairs left)
  works-pairs S rooms nil left = done
  works-pairs S rooms (cons pair pairs) left =
      next (works-pair S (rooms (length (terms_in (cons pair pairs)))) pair left) (unless pairs (works-pairs S rooms pairs))

-- ---- points

point-low : (p : Point) → Only IsForeseen (bounded_point p)
point-low p = either _ ok deep

pairs-low : (pairs : Pairs) → Only IsForeseen (bounded_pairs pairs)
pairs-low pairs = either _ ok deep

kept : (S : Signature) (p : Point) (pairs : Pairs) → Only IsForeseen (point_keeping S p pairs)
kept S p pairs = either _ ok deep

-- ---- looking

-- the end of a search, if there is one
abbrev IsFine : Option TreeStop → Type 0
IsFine None = Unit {0}
IsFine (Some e) = IsForeseenTree e

later : (first then : Option TreeStop) → IsFine first → IsFine then → IsFine (or_later first then)
later (Some e) then h k = h
later None then h k = k

none : (stuck forced : Option TreeStop) → IsFine stuck → IsFine forced → IsForeseenTree (none_found stuck forced)
none (Some e) forced h k = h
none None (Some e) h k = k
none None None h k = tt

abbrev Furthers : {A : Type 0} → Further A → Type 0
Furthers further = (stuck forced : Option TreeStop) → IsFine stuck → IsFine forced → (left : ℕ) → Ends IsForeseenTree (further stuck forced left)

behind : {A : Type 0} (clause : ℕ) {further : Further A} → Furthers further → (stuck forced : Option TreeStop) → IsFine stuck → IsFine forced
    → (found : Look A) (left : ℕ) → Ends IsForeseenTree (behind_look clause further stuck forced found left)
behind clause h stuck forced s f (Found a) left = done
behind clause h stuck forced s f (Passed r) left = h _ forced (later stuck _ s tt) f left

opens : {A : Type 0} (clause : ℕ) (context : Telescope) {look : Pat → ℕ → ℕ → Stopping (Look A)}
    → ((pat : Pat) (x left : ℕ) → Ends IsForeseenTree (look pat x left)) → {further : Further A} → Furthers further → (pat : Pat) (u : Term) (x : Option ℕ)
    → (stuck forced : Option TreeStop) → IsFine stuck → IsFine forced → (left : ℕ)
    → Ends IsForeseenTree (at_open clause context look further pat u x stuck forced left)
opens clause context k h pat u None stuck forced s f left = h stuck _ s (later forced _ f tt) left
opens clause context k h pat u (Some x) stuck forced s f left = next (k pat x left) (behind clause h stuck forced s f)

finds : {A : Type 0} (S : Signature) (clause : ℕ) (context : Telescope) {look : Pat → ℕ → ℕ → Stopping (Look A)}
    → ((pat : Pat) (x left : ℕ) → Ends IsForeseenTree (look pat x left)) → (pairs : List (Pat × Term)) → Furthers (first_found S clause context look pairs)
finds S clause context k [] stuck forced s f left = now (no (none stuck forced s f))
finds S clause context k (pair ∷ pairs) stuck forced s f left =
    next (halts (tidy S left pair.1)) (λ u rest.
    opens clause context k (finds S clause context k pairs) pair.0 u (variable_in u) stuck forced s f rest)

found-type : (clause : ℕ) (context : Telescope) (type : Term) (m : Option Member) → Only IsForeseenTree (looked_at clause context type m)
found-type clause context type None = no tt
found-type clause context type (Some m) = ok

type-looked : (S : Signature) (clause : ℕ) (context : Telescope) (pat : Pat) (x left : ℕ) → Ends IsForeseenTree (look_at_type S clause context pat x left)
type-looked S clause context pat x left =
    next (halts (whnf S true left (type_of_variable context x))) (λ type rest.
    now (found-type clause context type (option_and_then (if_expected pat) (member_of S type))))

after-run : (c : Constructor) (p : Problem) {others : ℕ → Stopping (Look (List Ran))} → ((left : ℕ) → Ends IsForeseenTree (others left)) → (outcome : Outcome)
    (left : ℕ) → Ends IsForeseenTree (unless_stuck c p others outcome left)
after-run c p h (Stuck steps end u v why) left = done
after-run c p h (Solved steps end solution) left = next (h left) (λ runs rest. done)
after-run c p h (Absurd steps end u v) left = next (h left) (λ runs rest. done)

pub all-run : (S : Signature) (context : Telescope) (x : ℕ) (m : Member) (number : ℕ) (cs : List Constructor) (left : ℕ)
    → Ends IsForeseenTree (run_all S context x m number cs left)
all-run S context x m number [] left = done
all-run S context x m number (c ∷ cs) left =
    next (halts (unify S (problem_of context x m number c) left)) (λ outcome rest.
    after-run c (problem_of context x m number c) (all-run S context x m (number + 1) cs) outcome rest)

-- ---- own walks

own-outcome : (clause : ℕ) (p : Point) (pairs : Pairs) (outcome : Outcome) → Only IsForeseenTree (own_outcome clause p pairs outcome)
own-outcome clause p pairs (Solved steps context solution) =
    and-then
    (halted
    (and-then (point-low (moved_point p context (solution_for p solution))) (λ next.
    and-then (pairs-low (moved_pairs (solution_for p solution) pairs)) (λ moved. ok {a = Goes next moved}))))
    (λ turn. ok)
own-outcome clause p pairs (Absurd steps context u v) = no tt
own-outcome clause p pairs (Stuck steps context u v why) = ok

runs-own : (S : Signature) (clause : ℕ) (p : Point) (pairs : Pairs) (x : ℕ) (found : Looked) (number : ℕ) (c : Option Constructor) (left : ℕ)
    → Ends IsForeseenTree (run_own S clause p pairs x found number c left)
runs-own S clause p pairs x found number None left = now (no tt)
runs-own S clause p pairs x found number (Some c) left =
    next (halts (unify S (problem_of p.context x found.member number c) left)) (λ outcome rest. now (own-outcome clause p pairs outcome))

without-constructor : (clause n : ℕ) (number : Option ℕ) → Only IsForeseenTree (no_constructor clause n number)
without-constructor clause n None = ok
without-constructor clause n (Some number) = no tt

of-absurd : (clause n : ℕ) (runs : Look (List Ran)) → Only IsForeseenTree (absurd_outcome clause n runs)
of-absurd clause n (Found runs) = without-constructor clause n (first_solved 0 runs)
of-absurd clause n (Passed r) = ok

-- any other pattern than a constructor
all-absurd : (S : Signature) (clause : ℕ) (p : Point) (x : ℕ) (found : Looked) (left : ℕ)
    → Ends IsForeseenTree (run_pattern S clause p nil x found pattern.Absurd left)
all-absurd S clause p x found left =
    next (all-run S p.context x found.member 0 found.member.family.constructors left) (λ runs rest. now (of-absurd clause found.member.n runs))

runs-pattern : (S : Signature) (clause : ℕ) (p : Point) (pairs : Pairs) (x : ℕ) (found : Looked) (pat : Pat) (left : ℕ)
    → Ends IsForeseenTree (run_pattern S clause p pairs x found pat left)
runs-pattern S clause p pairs x found (pattern.Con n number pats) left =
    runs-own S clause p pairs x found number (slice_get found.member.family.constructors number) left
runs-pattern S clause p pairs x found pattern.Bind left = all-absurd S clause p x found left
runs-pattern S clause p pairs x found pattern.Wild left = all-absurd S clause p x found left
runs-pattern S clause p pairs x found (pattern.Dot t) left = all-absurd S clause p x found left
runs-pattern S clause p pairs x found pattern.Absurd left = all-absurd S clause p x found left

looks : (S : Signature) (clause : ℕ) (p : Point) (pairs : Pairs) (pat : Pat) (x left : ℕ) → Ends IsForeseenTree (own.look S clause p pairs pat x left)
looks S clause p pairs pat x left = next (type-looked S clause p.context pat x left) (λ found rest. runs-pattern S clause p pairs x found pat rest)

walk-low : (w : Walk) → Only IsForeseenTree (bounded_walk w)
walk-low w = either _ ok (no tt)

abbrev Walks : Walking → Type 0
Walks go = (p : Point) (pairs : Pairs) (left : ℕ) → Ends IsForeseenTree (go p pairs left)

turned : {go : Walking} → Walks go → (p : Point) (pairs : Pairs) (turn : Turn) (left : ℕ) → Ends IsForeseenTree (behind_turn go p pairs turn left)
turned h p pairs (Goes next moved) left = h next moved left
turned h p pairs Over left = now (walk-low (walk_at p pairs))

open-pairs : (S : Signature) (clause : ℕ) {go : Walking} → Walks go → (p : Point) (pairs : Pairs) (waits : List (Pat × Term)) (left : ℕ)
    → Ends IsForeseenTree (at_pairs S clause go p pairs waits left)
open-pairs S clause h p pairs [] left = now (walk-low (walk_at p pairs))
open-pairs S clause h p pairs (pair ∷ others) left =
    next (finds S clause p.context (looks S clause p pairs) (pair ∷ others) None None tt tt left) (turned h p pairs)

clash-foreseen : (S : Signature) (clause : ℕ) (context : Telescope) (pat : Pat) (b : Option Built) → IsForeseenTree (clashing S clause context pat b)
clash-foreseen S clause context (pattern.Con n number pats) (Some b) = tt
clash-foreseen S clause context (pattern.Con n number pats) None = tt
clash-foreseen S clause context pattern.Bind (Some b) = tt
clash-foreseen S clause context pattern.Bind None = tt
clash-foreseen S clause context pattern.Wild (Some b) = tt
clash-foreseen S clause context pattern.Wild None = tt
clash-foreseen S clause context (pattern.Dot t) (Some b) = tt
clash-foreseen S clause context (pattern.Dot t) None = tt
clash-foreseen S clause context pattern.Absurd (Some b) = tt
clash-foreseen S clause context pattern.Absurd None = tt

dropped : (S : Signature) (clause : ℕ) {go : Walking} → Walks go → (p : Point) (pairs : Pairs) (clash : Option (Pat × Term)) (left : ℕ)
    → Ends IsForeseenTree (own.unless_dropped S clause go p pairs clash left)
dropped S clause h p pairs (Some clash) left = now (no (clash-foreseen S clause p.context clash.0 (built_of S clash.1)))
dropped S clause h p pairs None left =
    next (now {left = left} (halted (kept S p pairs))) (λ next rest. open-pairs S clause h next pairs (all_open pairs) rest)

one : (S : Signature) (clause : ℕ) {go : Walking} → Walks go → Walks (own.one_turn S clause go)
one S clause h p pairs left =
    next (halts (works-pairs S of_columns pairs left)) (λ worked rest. dropped S clause h p worked (first_clash worked) rest)

patterns : (S : Signature) (clause count : ℕ) → Walks (own.by_patterns S clause count)
patterns S clause zero p pairs left = one S clause (λ p pairs left. now (no tt)) p pairs left
patterns S clause (suc count) p pairs left = one S clause (patterns S clause count) p pairs left

pub own-walk : (S : Signature) (context : Telescope) (goal : Term) (terms : List Term) (c : Clause) (number left : ℕ)
    → Ends IsForeseenTree (own_walk_of S context goal terms c number left)
own-walk S context goal terms (Is pats binds right) number left =
    next (now {left = left} (halted (point-low (start_at context goal terms)))) (λ p rest.
    patterns S number (all_left (waiting pats terms)) p (waiting pats terms) rest)

-- ---- trees

abbrev Grows : Growing → Type 0
Grows go = (p : Point) (live : List Live) (left : ℕ) → Ends IsForeseenTree (go p live left)

all-worked : (S : Signature) (p : Point) (live : List Live) (left : ℕ) → Ends IsForeseenTree (worked S p live left)
all-worked S p [] left = done
all-worked S p (c ∷ live) left =
    next (halts (works-pairs S of_columns c.pairs left)) (λ pairs rest.
    next (now {left = rest} (halted (kept S p pairs))) (λ point more. next (all-worked S point live more) (λ node end. done)))

tree-looks : (S : Signature) (clause : ℕ) (context : Telescope) (pat : Pat) (x left : ℕ) → Ends IsForeseenTree (grown.look S clause context pat x left)
tree-looks S clause context pat x left =
    next (type-looked S clause context pat x left) (λ found rest.
    next (all-run S context x found.member 0 found.member.family.constructors rest) (λ runs end. done))

all-moved : (solution : List Term) (live : List Live) → Only IsForeseen (moved_live solution live)
all-moved solution [] = ok
all-moved solution (c ∷ live) = and-then (pairs-low (moved_pairs solution c.pairs)) (λ pairs. and-then (all-moved solution live) (λ others. ok))

node-solved : (p : Point) (live : List Live) (context : Telescope) (solution : List Term) → Only IsForeseen (solved_node p live context solution)
node-solved p live context solution =
    and-then (point-low (moved_point p context solution)) (λ point. and-then (all-moved solution live) (λ moved. ok {a = record { point = point; live = moved }}))

branch : {go : Growing} → Grows go → (p : Point) (live : List Live) (run : Ran) (outcome : Outcome) (left : ℕ)
    → Ends IsForeseenTree (branch_by go p live run outcome left)
branch h p live run (Absurd steps context u v) left = done
branch h p live run (Solved steps context solution) left =
    next (now {left = left} (halted (node-solved p live context (solution_for p solution)))) (λ node rest.
    next (h node.point node.live rest) (λ subtree end. done))
branch h p live run (Stuck steps context u v why) left = now (no tt)

branches : {go : Growing} → Grows go → (p : Point) (live : List Live) (runs : List Ran) (left : ℕ) → Ends IsForeseenTree (grow_branches go p live runs left)
branches h p live [] left = done
branches h p live (run ∷ runs) left =
    next (branch h p live run run.outcome left) (λ one rest. next (branches h p live runs rest) (λ others end. done))

splits : {go : Growing} → Grows go → (p : Point) (live : List Live) (s : SplitAt) (left : ℕ) → Ends IsForeseenTree (split_at go p live s left)
splits h p live s left = next (branches h p live s.runs left) (λ branches rest. done)

first : (S : Signature) {go : Growing} → Grows go → (p : Point) (c : Live) (live : List Live) (waits : List (Pat × Term)) (left : ℕ)
    → Ends IsForeseenTree (by_first S go p c live waits left)
first S h p c live [] left = done
first S h p c live (pair ∷ others) left =
    next (finds S c.number p.context (tree-looks S c.number p.context) (pair ∷ others) None None tt tt left) (splits h p (c ∷ live))

all-live : (S : Signature) {go : Growing} → Grows go → (p : Point) (live : List Live) (left : ℕ) → Ends IsForeseenTree (by_live S go p live left)
all-live S h p [] left = now (no tt)
all-live S h p (c ∷ live) left = first S h p c live (all_open c.pairs) left

node : (S : Signature) {go : Growing} → Grows go → Grows (one_node S go)
node S h p live left = next (all-worked S p live left) (λ n rest. all-live S h n.point n.live rest)

tree-patterns : (S : Signature) (count : ℕ) → Grows (grown.by_patterns S count)
tree-patterns S zero p live left = node S (λ p live left. now (no tt)) p live left
tree-patterns S (suc count) p live left = node S (tree-patterns S count) p live left

pub split : (S : Signature) (context : Telescope) (goal : Term) (terms : List Term) (cs : Clauses) (left : ℕ)
    → Ends IsForeseenTree (split_of S context goal terms cs left)
split S context goal terms cs left =
    next (now {left = left} (halted (point-low (start_at context goal terms)))) (λ p rest.
    tree-patterns S (patterns_left (all_live 0 terms cs)) p (all_live 0 terms cs) rest)
