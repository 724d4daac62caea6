-- A tree as the code grows it: from the clauses that are worked at a node, and from the ends of runs.
use Rattle.std.specs.Prelude.{ℕ, false, cond, Option, Some, None, List, [], ◌∷◌, ◌++◌, length, Result, Ok, Err}
use Rattle.theory.specs.Terms.{Term}
use Rattle.theory.specs.Signatures.{Signature}
use Rattle.core_terms.specs.Answers.{and_next, and_then}
use Rattle.core_terms.specs.CaseTrees as tree
use Rattle.core_terms.specs.CaseTrees.{Tree, Branch, Branches}
use Rattle.core_terms.specs.Patterns.{Pat}
use Rattle.core_terms.specs.declared.stop.Stop.{Stop}
use Rattle.core_terms.specs.declared.stop.Stop.TheVariants.{Deep}
use Rattle.unification.specs.Outcomes.{Outcome, Solved, Absurd, Stuck}
use Rattle.case_trees.specs.Looking.{first_found}
use Rattle.case_trees.specs.Origins.{first_origins, origins_behind}
use Rattle.case_trees.specs.Pairs.{Pairs, some_clashes, all_open}
use Rattle.case_trees.specs.Points.{Point, solution_for}
use Rattle.case_trees.specs.Stops as stop
use Rattle.case_trees.specs.Stops.{TreeStop, Stopping, or_halts, answers}
use Rattle.case_trees.specs.Trees.{Live, Node, worked, solved_node, Growing, leaf_at}
use Rattle.clause_walks.specs.Reaching.{RunEnd, Reached, reach}

-- ---- the clauses of a node

-- a node with clauses before its own
abbrev pub with_live : (made : List Live) → Node → Node
with_live made node = record node { live = made ++ node.live }

-- a node of parts
abbrev pub node_at : Point → List Live → Node
node_at p live = record { point = p; live = live }

-- the clauses that are made, with one more after them, unless it is dropped
abbrev pub kept_live : Live → (made : List Live) → List Live
kept_live c made = cond (some_clashes c.pairs) made (made ++ c ∷ [])

-- a clause, once its pairs are worked
abbrev pub worked_to : Live → Pairs → Live
worked_to c pairs = record { number = c.number; pairs = pairs }

-- the clauses that are left of some are those after the ones that are made
abbrev pub worked_behind : Signature → (made : List Live) → Point → List Live → ℕ → Stopping Node
worked_behind S made p live left = and_next (worked S p live left) (λ node rest. answers (Ok (with_live made node)) rest)

-- clauses that are moved, after those that are made
abbrev pub live_behind : (made : List Live) → Result (List Live) Stop → Result (List Live) Stop
live_behind made live = and_then live (λ moved. Ok (made ++ moved))

-- ---- where a node is split

-- an open pair of the first clause is reached, or there is none
abbrev pub reached_from : Signature → Point → Live → List (Pat × Term) → ℕ → Stopping (Option Reached)
reached_from S p c [] left = answers (Ok None) left
reached_from S p c (pair ∷ others) left =
    and_next (first_found S c.number p.context (reach S false c.number p.context) (pair ∷ others) None None left) (λ r rest. answers (Ok (Some r)) rest)

abbrev pub reached_at : Signature → Point → List Live → ℕ → Stopping (Option Reached)
reached_at S p [] left = answers (Err (stop.Uncovered p.context p.terms)) left
reached_at S p (c ∷ live) left = reached_from S p c (all_open c.pairs) left

-- ---- branches, from the ends of runs

abbrev pub branch_from : Growing → Point → List Live → RunEnd → Outcome → ℕ → Stopping Branch
branch_from go p live r (Absurd steps context u v) left = answers (Ok (tree.Absurd steps context u v)) left
branch_from go p live r (Solved steps context solution) left =
    and_next (answers (or_halts (solved_node p live context (solution_for p solution))) left) (λ node rest.
    and_next (go node.point node.live rest) (λ subtree end.
    answers (Ok (tree.Solved steps (origins_behind steps r.context (first_origins (length p.context) r.arguments)) subtree)) end))
branch_from go p live r (Stuck steps context u v why) left = answers (Err (stop.Halts Deep)) left

abbrev pub branches_from : Growing → Point → List Live → List RunEnd → ℕ → Stopping Branches
branches_from go p live [] left = answers (Ok tree.nil) left
branches_from go p live (r ∷ runs) left =
    and_next (branch_from go p live r r.outcome left) (λ branch rest.
    and_next (branches_from go p live runs rest) (λ branches end. answers (Ok (tree.cons branch branches)) end))

-- branches with others before them
abbrev pub with_branches : (made : List Branch) → Branches → Branches
with_branches [] branches = branches
with_branches (branch ∷ made) branches = tree.cons branch (with_branches made branches)

abbrev pub branches_behind : (made : List Branch) → Stopping Branches → Stopping Branches
branches_behind made branches = and_next branches (λ found rest. answers (Ok (with_branches made found)) rest)

abbrev pub split_from : Growing → Point → List Live → Reached → ℕ → Stopping Tree
split_from go p live r left =
    and_next (branches_from go p live r.runs left) (λ branches rest.
    answers (Ok (tree.Split p.context r.variable r.n r.type branches)) rest)

-- ---- a node

-- with nothing reached the node is the leaf of its first clause
abbrev pub leaf_of : Point → List Live → Result Tree TreeStop
leaf_of p [] = Err (stop.Halts Deep)
leaf_of p (c ∷ live) = Ok (leaf_at p c)

abbrev pub grown_from : Growing → Point → List Live → Option Reached → ℕ → Stopping Tree
grown_from go p live None left = answers (leaf_of p live) left
grown_from go p live (Some r) left = split_from go p live r left
