-- The walk of a clause through its own patterns ends at terms without K.
use Rattle.std.proofs.Common.{ℕ, zero, suc, Option, Some, None, IfSome, List, [], ◌∷◌, slice_get}
use Rattle.theory.specs.Terms.{Term}
use Rattle.theory.specs.Telescopes.{Telescope}
use Rattle.theory.specs.Families.{Constructor}
use Rattle.theory.specs.Signatures.{Signature}
use Rattle.core_terms.specs.Answers.{and_next}
use Rattle.core_terms.specs.Clauses.{Clause, Is}
use Rattle.core_terms.specs.Patterns as pattern
use Rattle.core_terms.specs.Patterns.{Pat}
use Rattle.unification.specs.Outcomes.{Outcome, Solved, Absurd, Stuck}
use Rattle.case_trees.specs.Looking.{Look, Found as There, Passed, Looked, Ran, run_all}
use Rattle.case_trees.specs.OwnWalks as own
use Rattle.case_trees.specs.OwnWalks.{Turn, Goes, Ends as Over, Walking, absurd_outcome, at_pairs, behind_turn, bounded_walk, by_patterns, first_solved, no_constructor, one_turn, own_outcome, own_walk_of, run_own, run_pattern, solved_pairs, unless_dropped, walk_at, walk_from}
use Rattle.case_trees.specs.Pairs.{Pairs, all_left, all_open, first_clash, waiting}
use Rattle.case_trees.specs.Points.{Point, moved_point, moved_pairs, solution_for, start_at}
use Rattle.case_trees.specs.Problems.{problem_of}
use Rattle.case_trees.specs.Stops.{answers}
use Rattle.case_trees.specs.Working.{of_columns}
use Rattle.elim.specs.k_laws.Lacking.{Lack, ConstructorLacks, SignatureLacks}
use Rattle.elim.specs.k_laws.Walking.{OutcomeLacks, WalkLacks}
use Rattle.elim.proofs.k_laws.Runs.{Gives, Ends, Any, anyhow, ok, no, now, refused, next, and-then, either}
use Rattle.elim.proofs.k_laws.Terms.{first}
use Rattle.elim.proofs.k_laws.Records.{constructor}
use Rattle.elim.proofs.k_laws.Solving.{problem, unify}
use Rattle.elim.proofs.k_laws.Points.{PairsLack, PointLacks, all-bound, keeping, low-pairs, low-point, pairs-moved, point-moved, waits, worked-pairs}
use Rattle.elim.proofs.k_laws.Looking.{LookHas, LookedLacks, found-first, halted, halts, type-looked}

abbrev TurnLacks : Turn → Type 0
TurnLacks (Goes p pairs) = PointLacks p × PairsLack pairs
TurnLacks Over = Unit {0}

-- ---- a pair that is open

moves : (p : Point) (pairs : Pairs) (context : Telescope) (solution : List Term) → PointLacks p → PairsLack pairs → Lack context → Lack solution
    → Gives TurnLacks (solved_pairs p pairs context solution)
moves p pairs context solution h k l q =
    and-then (low-point (moved_point p context solution) (point-moved p context solution h l q)) (λ to a.
    and-then (low-pairs (moved_pairs solution pairs) (pairs-moved solution pairs q k)) (λ moved b. ok (a, b)))

of-outcome : (clause : ℕ) (p : Point) (pairs : Pairs) (o : Outcome) → PointLacks p → PairsLack pairs → OutcomeLacks o
    → Gives (LookHas TurnLacks) (own_outcome clause p pairs o)
of-outcome clause p pairs (Solved steps context solution) h k l =
    and-then (halted (moves p pairs context (solution_for p solution) h k l.0 (first _ solution l.1))) (λ turn q. ok q)
of-outcome clause p pairs (Absurd steps context u v) h k l = no
of-outcome clause p pairs (Stuck steps context u v why) h k l = ok tt

runs-own : (S : Signature) → SignatureLacks S → (clause : ℕ) (p : Point) (pairs : Pairs) (x : ℕ) (found : Looked) (number : ℕ) (c : Option Constructor) (left : ℕ)
    → PointLacks p → PairsLack pairs → LookedLacks found → IfSome c ConstructorLacks
    → Ends (LookHas TurnLacks) (run_own S clause p pairs x found number c left)
runs-own S all clause p pairs x found number None left h k l q = refused
runs-own S all clause p pairs x found number (Some c) left h k l q =
    next (halts (unify S all (problem_of p.context x found.member number c) left (problem p.context x found.member number c h.context l q))) (λ o rest r.
    now (of-outcome clause p pairs o h k r))

no-constructor : (clause n : ℕ) (found : Option ℕ) → Gives (LookHas TurnLacks) (no_constructor clause n found)
no-constructor clause n None = ok tt
no-constructor clause n (Some number) = no

all-absurd : (clause n : ℕ) (runs : Look (List Ran)) → Gives (LookHas TurnLacks) (absurd_outcome clause n runs)
all-absurd clause n (There runs) = no-constructor clause n (first_solved 0 runs)
all-absurd clause n (Passed r) = ok tt

no-other : (S : Signature) (clause : ℕ) (p : Point) (x : ℕ) (found : Looked) (left : ℕ)
    → Ends (LookHas TurnLacks)
    (and_next (run_all S p.context x found.member 0 found.member.family.constructors left) (λ runs rest. answers (absurd_outcome clause found.member.n runs) rest))
no-other S clause p x found left =
    next {P = Any} (anyhow (run_all S p.context x found.member 0 found.member.family.constructors left)) (λ runs rest q.
    now {left = rest} (all-absurd clause found.member.n runs))

by-pattern : (S : Signature) → SignatureLacks S → (clause : ℕ) (p : Point) (pairs : Pairs) (x : ℕ) (found : Looked) (pat : Pat) (left : ℕ) → PointLacks p
    → PairsLack pairs → LookedLacks found → Ends (LookHas TurnLacks) (run_pattern S clause p pairs x found pat left)
by-pattern S all clause p pairs x found (pattern.Con n number pats) left h k l =
    runs-own S all clause p pairs x found number (slice_get found.member.family.constructors number) left h k l
    (constructor found.member.family.constructors number l.constructors).is
by-pattern S all clause p pairs x found pattern.Bind left h k l = no-other S clause p x found left
by-pattern S all clause p pairs x found pattern.Wild left h k l = no-other S clause p x found left
by-pattern S all clause p pairs x found (pattern.Dot written) left h k l = no-other S clause p x found left
by-pattern S all clause p pairs x found pattern.Absurd left h k l = no-other S clause p x found left

looks : (S : Signature) → SignatureLacks S → (clause : ℕ) (p : Point) (pairs : Pairs) → PointLacks p → PairsLack pairs → (pat : Pat) (x left : ℕ)
    → Ends (LookHas TurnLacks) (own.look S clause p pairs pat x left)
looks S all clause p pairs h k pat x left =
    next (type-looked S all clause p.context pat x left h.context) (λ found rest l. by-pattern S all clause p pairs x found pat rest h k l)

-- ---- the walk

abbrev GoesOn : Walking → Type 0
GoesOn go = (p : Point) (pairs : Pairs) (left : ℕ) → PointLacks p → PairsLack pairs → Ends WalkLacks (go p pairs left)

ends : (p : Point) (pairs : Pairs) → PointLacks p → PairsLack pairs → Gives WalkLacks (bounded_walk (walk_at p pairs))
ends p pairs h k = either _ (ok (record { context = h.context; terms = h.terms; binds = all-bound pairs k })) no

turned : {go : Walking} → GoesOn go → (p : Point) (pairs : Pairs) (turn : Turn) (left : ℕ) → PointLacks p → PairsLack pairs → TurnLacks turn
    → Ends WalkLacks (behind_turn go p pairs turn left)
turned more p pairs (Goes to moved) left h k l = more to moved left l.0 l.1
turned more p pairs Over left h k l = now (ends p pairs h k)

of-pairs : (S : Signature) → SignatureLacks S → (clause : ℕ) {go : Walking} → GoesOn go → (p : Point) (pairs : Pairs) (waiting : List (Pat × Term)) (left : ℕ)
    → PointLacks p → PairsLack pairs → Ends WalkLacks (at_pairs S clause go p pairs waiting left)
of-pairs S all clause more p pairs [] left h k = now (ends p pairs h k)
of-pairs S all clause more p pairs (pair ∷ others) left h k =
    next (found-first S clause p.context (looks S all clause p pairs h k) (pair ∷ others) None None left) (λ turn rest l. turned more p pairs turn rest h k l)

dropped : (S : Signature) → SignatureLacks S → (clause : ℕ) {go : Walking} → GoesOn go → (p : Point) (pairs : Pairs) (clash : Option (Pat × Term)) (left : ℕ)
    → PointLacks p → PairsLack pairs → Ends WalkLacks (unless_dropped S clause go p pairs clash left)
dropped S all clause more p pairs (Some clash) left h k = refused
dropped S all clause more p pairs None left h k =
    next (now {left = left} (halted (keeping S p pairs h k))) (λ to rest l. of-pairs S all clause more to pairs (all_open pairs) rest l k)

one : (S : Signature) → SignatureLacks S → (clause : ℕ) {go : Walking} → GoesOn go → GoesOn (one_turn S clause go)
one S all clause more p pairs left h k =
    next (halts (worked-pairs S all of_columns pairs left k)) (λ worked rest l. dropped S all clause more p worked (first_clash worked) rest h l)

nowhere : GoesOn own.nowhere
nowhere p pairs left h k = refused

walks : (S : Signature) → SignatureLacks S → (clause patterns : ℕ) → GoesOn (by_patterns S clause patterns)
walks S all clause zero = one S all clause nowhere
walks S all clause (suc patterns) = one S all clause (walks S all clause patterns)

pub own-walk : (S : Signature) → SignatureLacks S → (context : Telescope) (goal : Term) (terms : List Term) (c : Clause) (clause left : ℕ) → Lack context → Lack terms
    → Ends WalkLacks (own_walk_of S context goal terms c clause left)
own-walk S all context goal terms (Is pats binds right) clause left h k =
    next (now {left = left} (halted (low-point (start_at context goal terms) (record { context = h; terms = k })))) (λ p rest l.
    walks S all clause (all_left (waiting pats terms)) p (waiting pats terms) rest l (waits pats terms k))
