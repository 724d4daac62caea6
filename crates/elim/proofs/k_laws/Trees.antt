-- The tree of clauses over terms without K has none at its leaves.
use Rattle.std.proofs.Common.{ℕ, zero, suc, ◌+◌, Bool, true, false, cond, None, List, [], ◌∷◌}
use Rattle.theory.specs.Terms.{Term}
use Rattle.theory.specs.Telescopes.{Telescope}
use Rattle.theory.specs.Signatures.{Signature}
use Rattle.core_terms.specs.Clauses as clause
use Rattle.core_terms.specs.Clauses.{Clauses, Is}
use Rattle.core_terms.specs.Patterns.{Pat}
use Rattle.unification.specs.Outcomes.{Outcome, Solved, Absurd, Stuck}
use Rattle.case_trees.specs.Looking.{Look, Found as There, Passed, Looked, Ran}
use Rattle.case_trees.specs.Pairs.{all_open, some_clashes}
use Rattle.case_trees.specs.Points.{Point, moved_point, moved_pairs, solution_for, start_at}
use Rattle.case_trees.specs.Standing.{EachLeafIn, EachLeafOf}
use Rattle.case_trees.specs.Trees as grown
use Rattle.case_trees.specs.Trees.{Growing, Live, Node, SplitAt, all_live, as_split, branch_by, by_first, by_live, by_patterns, grow_branches, moved_live, one_node, patterns_left, solved_node, split_at, split_of, unless_dropped, worked}
use Rattle.case_trees.specs.Working.{of_columns}
use Rattle.elim.specs.k_laws.Lacking.{Lack, SignatureLacks}
use Rattle.elim.specs.k_laws.Walking.{LeafLacks, OutcomeLacks, TreeLacks}
use Rattle.elim.proofs.k_laws.Runs.{Gives, Ends, ok, now, done, refused, next, and-then}
use Rattle.elim.proofs.k_laws.Terms.{first}
use Rattle.elim.proofs.k_laws.Points.{PairsLack, PointLacks, keeping, low-pairs, low-point, pairs-moved, point-moved, waits, worked-pairs}
use Rattle.elim.proofs.k_laws.Looking.{LookHas, RunsLack, all-run, found-first, halted, halts, type-looked}

-- ---- clauses that are left

abbrev LiveLack : List Live → Type 0
LiveLack [] = Unit {0}
LiveLack (c ∷ live) = PairsLack c.pairs × LiveLack live

record NodeLacks (node : Node) : Type 0 where
  point : PointLacks node.point
  live : LiveLack node.live

all-lack : (number : ℕ) (terms : List Term) (clauses : Clauses) → Lack terms → LiveLack (all_live number terms clauses)
all-lack number terms clause.nil h = tt
all-lack number terms (clause.cons (Is pats binds right) clauses) h = (waits pats terms h, all-lack (number + 1) terms clauses h)

dropped : (c : Live) (node : Node) → PairsLack c.pairs → NodeLacks node → NodeLacks (unless_dropped c node)
dropped c node h k = by (some_clashes c.pairs)
  where
    by : (test : Bool) → NodeLacks (cond test node (record node { live = c ∷ node.live }))
    by true = k
    by false = record { point = k.point; live = (h, k.live) }

works : (S : Signature) → SignatureLacks S → (p : Point) (live : List Live) (left : ℕ) → PointLacks p → LiveLack live → Ends NodeLacks (worked S p live left)
works S all p [] left h k = done (record { point = h; live = tt })
works S all p (c ∷ live) left h k =
    next (halts (worked-pairs S all of_columns c.pairs left k.0)) (λ pairs rest l.
    next (now {left = rest} (halted (keeping S p pairs h l))) (λ to more q.
    next (works S all to live more q k.1) (λ node end r. done (dropped (record { number = c.number; pairs = pairs }) node l r))))

live-moved : (solution : List Term) (live : List Live) → Lack solution → LiveLack live → Gives LiveLack (moved_live solution live)
live-moved solution [] h k = ok tt
live-moved solution (c ∷ live) h k =
    and-then (low-pairs (moved_pairs solution c.pairs) (pairs-moved solution c.pairs h k.0)) (λ pairs l.
    and-then (live-moved solution live h k.1) (λ others q. ok (l, q)))

moves : (p : Point) (live : List Live) (context : Telescope) (solution : List Term) → PointLacks p → LiveLack live → Lack context → Lack solution
    → Gives NodeLacks (solved_node p live context solution)
moves p live context solution h k l q =
    and-then (low-point (moved_point p context solution) (point-moved p context solution h l q)) (λ to a.
    and-then (live-moved solution live q k) (λ moved b. ok (record { point = a; live = b })))

-- ---- where a node is split

abbrev SplitLacks : SplitAt → Type 0
SplitLacks s = RunsLack s.runs

split-look : (x : ℕ) (found : Looked) (runs : Look (List Ran)) → LookHas RunsLack runs → LookHas SplitLacks (as_split x found runs)
split-look x found (There runs) h = h
split-look x found (Passed r) h = tt

looks : (S : Signature) → SignatureLacks S → (number : ℕ) (context : Telescope) → Lack context → (pat : Pat) (x left : ℕ)
    → Ends (LookHas SplitLacks) (grown.look S number context pat x left)
looks S all number context h pat x left =
    next (type-looked S all number context pat x left h) (λ found rest k.
    next (all-run S all context x found.member 0 found.member.family.constructors rest h k k.constructors) (λ runs end l. done (split-look x found runs l)))

-- ---- the tree

abbrev Grows : Growing → Type 0
Grows go = (p : Point) (live : List Live) (left : ℕ) → PointLacks p → LiveLack live → Ends TreeLacks (go p live left)

branch : {go : Growing} → Grows go → (p : Point) (live : List Live) (run : Ran) (o : Outcome) (left : ℕ) → PointLacks p → LiveLack live → OutcomeLacks o
    → Ends (EachLeafIn LeafLacks) (branch_by go p live run o left)
branch more p live run (Absurd steps context u v) left h k l = done tt
branch more p live run (Solved steps context solution) left h k l =
    next (now {left = left} (halted (moves p live context (solution_for p solution) h k l.0 (first _ solution l.1)))) (λ node rest q.
    next (more node.point node.live rest q.point q.live) (λ subtree end r. done r))
branch more p live run (Stuck steps context u v why) left h k l = refused

branches : {go : Growing} → Grows go → (p : Point) (live : List Live) (runs : List Ran) (left : ℕ) → PointLacks p → LiveLack live → RunsLack runs
    → Ends (EachLeafOf LeafLacks) (grow_branches go p live runs left)
branches more p live [] left h k l = done tt
branches more p live (run ∷ runs) left h k l =
    next (branch more p live run run.outcome left h k l.0) (λ b rest q.
    next (branches more p live runs rest h k l.1) (λ others end r. done (q, r)))

split : {go : Growing} → Grows go → (p : Point) (live : List Live) (s : SplitAt) (left : ℕ) → PointLacks p → LiveLack live → SplitLacks s
    → Ends TreeLacks (split_at go p live s left)
split more p live s left h k l = next (branches more p live s.runs left h k l) (λ others rest q. done q)

first-clause : (S : Signature) → SignatureLacks S → {go : Growing} → Grows go → (p : Point) (c : Live) (live : List Live) (pairs : List (Pat × Term)) (left : ℕ)
    → PointLacks p → LiveLack (c ∷ live) → Ends TreeLacks (by_first S go p c live pairs left)
first-clause S all more p c live [] left h k = done (h.context, h.terms)
first-clause S all more p c live (pair ∷ others) left h k =
    next (found-first S c.number p.context (looks S all c.number p.context h.context) (pair ∷ others) None None left) (λ s rest l.
    split more p (c ∷ live) s rest h k l)

of-live : (S : Signature) → SignatureLacks S → {go : Growing} → Grows go → (p : Point) (live : List Live) (left : ℕ) → PointLacks p → LiveLack live
    → Ends TreeLacks (by_live S go p live left)
of-live S all more p [] left h k = refused
of-live S all more p (c ∷ live) left h k = first-clause S all more p c live (all_open c.pairs) left h k

node-grows : (S : Signature) → SignatureLacks S → {go : Growing} → Grows go → Grows (one_node S go)
node-grows S all more p live left h k = next (works S all p live left h k) (λ node rest l. of-live S all more node.point node.live rest l.point l.live)

nowhere : Grows grown.nowhere
nowhere p live left h k = refused

grows : (S : Signature) → SignatureLacks S → (patterns : ℕ) → Grows (by_patterns S patterns)
grows S all zero = node-grows S all nowhere
grows S all (suc patterns) = node-grows S all (grows S all patterns)

pub tree-grows : (S : Signature) → SignatureLacks S → (context : Telescope) (goal : Term) (terms : List Term) (clauses : Clauses) (left : ℕ) → Lack context → Lack terms
    → Ends TreeLacks (split_of S context goal terms clauses left)
tree-grows S all context goal terms clauses left h k =
    next (now {left = left} (halted (low-point (start_at context goal terms) (record { context = h; terms = k })))) (λ p rest l.
    grows S all (patterns_left (all_live 0 terms clauses)) p (all_live 0 terms clauses) rest l (all-lack 0 terms clauses k))
