-- The case tree of a list of clauses: the first clause says where it is split, and each constructor gets a branch.
use Rattle.std.specs.Prelude.{ℕ, zero, suc, ◌+◌, cond, None, List, [], ◌∷◌, length, map, Result, Ok, Err}
use Rattle.theory.specs.Terms.{Term}
use Rattle.theory.specs.Telescopes.{Telescope}
use Rattle.theory.specs.Signatures.{Signature}
use Rattle.core_terms.specs.Answers.{and_next, and_then}
use Rattle.core_terms.specs.Patterns.{Pat}
use Rattle.core_terms.specs.Clauses as clause
use Rattle.core_terms.specs.Clauses.{Clauses, Is}
use Rattle.core_terms.specs.CaseTrees as tree
use Rattle.core_terms.specs.CaseTrees.{Tree, Branch, Branches}
use Rattle.core_terms.specs.declared.stop.Stop.{Stop}
use Rattle.core_terms.specs.declared.stop.Stop.TheVariants.{Deep}
use Rattle.unification.specs.Outcomes.{Outcome, Solved, Absurd, Stuck}
use Rattle.case_trees.specs.Pairs.{Pairs, waiting, some_clashes, all_open, all_bound, all_left}
use Rattle.case_trees.specs.Working.{of_columns, work_pairs}
use Rattle.case_trees.specs.Points.{Point, bounded_point, start_at, moved_point, moved_pairs, bounded_pairs, solution_for, point_keeping}
use Rattle.case_trees.specs.Origins.{first_origins, origins_behind}
use Rattle.case_trees.specs.Stops as stop
use Rattle.case_trees.specs.Stops.{Stopping, or_halts, halting, answers}
use Rattle.case_trees.specs.Looking.{Look, Found, Passed, Looked, look_at_type, first_found, Ran, run_all}
use Rattle.case_trees.specs.OwnWalks.{or_none}

-- a clause that is left, with its number in the list and its pairs
pub record Live : Type 0 where
  pub number : ℕ
  pub pairs : Pairs

-- clauses with the terms of the columns, the first of which has this number
abbrev pub all_live : (number : ℕ) → (terms : List Term) → Clauses → List Live
all_live number terms clause.nil = []
all_live number terms (clause.cons (Is pats binds right) clauses) =
    record { number = number; pairs = waiting pats terms } ∷ all_live (number + 1) terms clauses

-- the constructor and absurd patterns that are left in all clauses
abbrev pub patterns_left : List Live → ℕ
patterns_left [] = 0
patterns_left (c ∷ live) = all_left c.pairs + patterns_left live

-- ---- the clauses of a node

-- a point, and the clauses that are left there
pub record Node : Type 0 where
  pub point : Point
  pub live : List Live

abbrev pub unless_dropped : Live → Node → Node
unless_dropped c node = cond (some_clashes c.pairs) node (record node { live = c ∷ node.live })

-- All clauses are worked, all their pairs, and those that are dropped go out. What each was compared with stays in the terms.
abbrev pub worked : Signature → Point → List Live → ℕ → Stopping Node
worked S p [] left = answers (Ok (record { point = p; live = [] })) left
worked S p (c ∷ live) left =
    and_next (halting (work_pairs S of_columns c.pairs left)) (λ pairs rest.
    and_next (answers (or_halts (point_keeping S p pairs)) rest) (λ next rest.
    and_next (worked S next live rest) (λ node end.
    answers (Ok (unless_dropped (record { number = c.number; pairs = pairs }) node)) end)))

-- ---- where a node is split

-- a variable with its reduced type, and the runs of all constructors
pub record SplitAt : Type 0 where
  pub variable : ℕ
  pub looked : Looked
  pub runs : List Ran

abbrev pub as_split : (x : ℕ) → Looked → Look (List Ran) → Look SplitAt
as_split x found (Found runs) = Found (record { variable = x; looked = found; runs = runs })
as_split x found (Passed r) = Passed r

-- the look at an open pair of the pattern and variable x
abbrev pub look : Signature → (clause : ℕ) → Telescope → Pat → (x : ℕ) → ℕ → Stopping (Look SplitAt)
look S clause context pat x left =
    and_next (look_at_type S clause context pat x left) (λ found rest.
    and_next (run_all S context x found.member 0 found.member.family.constructors rest) (λ runs end.
    answers (Ok (as_split x found runs)) end))

-- ---- the branches

abbrev pub moved_live : (solution : List Term) → List Live → Result (List Live) Stop
moved_live solution [] = Ok []
moved_live solution (c ∷ live) =
    and_then (bounded_pairs (moved_pairs solution c.pairs)) (λ pairs.
    and_then (moved_live solution live) (λ others. Ok (record { number = c.number; pairs = pairs } ∷ others)))

-- the node after a solution, before its clauses are worked, or Deep
abbrev pub solved_node : Point → List Live → Telescope → (solution : List Term) → Result Node Stop
solved_node p live context solution =
    and_then (bounded_point (moved_point p context solution)) (λ next.
    and_then (moved_live solution live) (λ moved. Ok (record { point = next; live = moved })))

-- how a tree goes on
abbrev pub Growing : Type 0
Growing = Point → List Live → ℕ → Stopping Tree

-- the branch of a constructor by the outcome of its problem, which is not stuck
abbrev pub branch_by : Growing → Point → List Live → Ran → Outcome → ℕ → Stopping Branch
branch_by go p live run (Absurd steps context u v) left = answers (Ok (tree.Absurd steps context u v)) left
branch_by go p live run (Solved steps context solution) left =
    and_next (answers (or_halts (solved_node p live context (solution_for p solution))) left) (λ node rest.
    and_next (go node.point node.live rest) (λ subtree end.
    let origins = first_origins (length p.context) (length run.constructor.arguments) in
    answers (Ok (tree.Solved steps (origins_behind steps run.problem.context origins) subtree)) end))
branch_by go p live run (Stuck steps context u v why) left = answers (Err (stop.Halts Deep)) left

abbrev pub grow_branches : Growing → Point → List Live → List Ran → ℕ → Stopping Branches
grow_branches go p live [] left = answers (Ok tree.nil) left
grow_branches go p live (run ∷ runs) left =
    and_next (branch_by go p live run run.outcome left) (λ branch rest.
    and_next (grow_branches go p live runs rest) (λ branches end. answers (Ok (tree.cons branch branches)) end))

abbrev pub split_at : Growing → Point → List Live → SplitAt → ℕ → Stopping Tree
split_at go p live s left =
    and_next (grow_branches go p live s.runs left) (λ branches rest.
    answers (Ok (tree.Split p.context s.variable s.looked.member.n s.looked.type branches)) rest)

-- ---- the tree

abbrev pub leaf_at : Point → Live → Tree
leaf_at p c = tree.Leaf c.number p.context p.goal p.substitution p.terms (map or_none (all_bound c.pairs))

-- the open pairs of the first clause: with none the node is its leaf
abbrev pub by_first : Signature → Growing → Point → Live → List Live → List (Pat × Term) → ℕ → Stopping Tree
by_first S go p c live [] left = answers (Ok (leaf_at p c)) left
by_first S go p c live (pair ∷ others) left =
    and_next (first_found S c.number p.context (look S c.number p.context) (pair ∷ others) None None left)
    (split_at go p (c ∷ live))

abbrev pub by_live : Signature → Growing → Point → List Live → ℕ → Stopping Tree
by_live S go p [] left = answers (Err (stop.Uncovered p.context p.terms)) left
by_live S go p (c ∷ live) left = by_first S go p c live (all_open c.pairs) left

abbrev pub one_node : Signature → Growing → Growing
one_node S go p live left = and_next (worked S p live left) (λ node rest. by_live S go node.point node.live rest)

-- where the measure is used up: no node is split there
abbrev pub nowhere : Growing
nowhere p live left = answers (Err (stop.Halts Deep)) left

-- at most so many constructor and absurd patterns are left
abbrev pub by_patterns : Signature → (patterns : ℕ) → Growing
by_patterns S zero = one_node S nowhere
by_patterns S (suc patterns) = one_node S (by_patterns S patterns)

-- the tree from a point on
abbrev pub tree_from : Signature → Growing
tree_from S p live left = by_patterns S (patterns_left live) p live left

-- the tree of a list of clauses, from a context, a goal and the terms of the columns
abbrev pub split_of : Signature → Telescope → (goal : Term) → (terms : List Term) → Clauses → ℕ → Stopping Tree
split_of S context goal terms clauses left =
    and_next (answers (or_halts (bounded_point (start_at context goal terms))) left) (λ p rest.
    tree_from S p (all_live 0 terms clauses) rest)
