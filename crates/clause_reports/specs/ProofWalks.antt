-- The walk of a clause's terms through the tree of its function: it goes into the branch of each constructor, and splits each variable
-- at which the tree does. At each leaf the equation has to hold by reflexivity.
use Rattle.std.specs.Prelude.{ℕ, zero, suc, ◌+◌, ◌-◌, ◌==◌, ◌&&◌, true, cond, Option, Some, None, List, [], ◌∷◌, ◌++◌, length, map, take, Result, Ok, Err}
use Rattle.theory.specs.Terms.{Term}
use Rattle.theory.specs.Telescopes.{Telescope}
use Rattle.theory.specs.Signatures.{Signature}
use Rattle.core_terms.specs.Answers.{and_next, is_low, are_low}
use Rattle.core_terms.specs.CaseTrees as tree
use Rattle.core_terms.specs.CaseTrees.{Step, Tree, Branch, Branches, Walk}
use Rattle.core_terms.specs.declared.case_tree.Origin.{Origin}
use Rattle.core_terms.specs.declared.case_tree.Origin.TheVariants.{Old, Arg}
use Rattle.core_terms.specs.declared.stop.Stop.{Stop}
use Rattle.core_terms.specs.declared.stop.Stop.TheVariants.{Deep}
use Rattle.kernel_reduce.specs.Reduction.{whnf_of}
use Rattle.kernel_reduce.specs.Tidying.{tidy_of}
use Rattle.tele_eq.specs.Items.{term_at}
use Rattle.unification.specs.Built.{Built, built_of}
use Rattle.unification.specs.Outcomes.{Outcome, Solved, steps_in}
use Rattle.unification.specs.Solutions.{variable_in}
use Rattle.unification.specs.declared.why.Why.TheVariants.{NotRigid}
use Rattle.case_trees.specs.Points.{under_solution}
use Rattle.case_trees.specs.Problems.{Member, member_of, type_of_variable}
use Rattle.case_trees.specs.Looking.{Look, Found, Passed, Ran, run_all}
use Rattle.case_trees.specs.Stops as tree_stop
use Rattle.case_trees.specs.Stops.{TreeStop}
use Rattle.tree_translation.specs.Plans.{Plan, own_part}
use Rattle.tree_translation.specs.Recursion.{recursion_of, order_of, terms_at}
use Rattle.clause_reports.specs.Equations.{Equation}
use Rattle.clause_reports.specs.Stops.{ReportStop, Reporting, Halts, Stuck, answers, or_halts, halting}

-- ---- places

-- Where the walk is: a context, the equation there, the terms of the clause, and a term for each variable of the tree's node.
pub record Place : Type 0 where
  pub context : Telescope
  pub type : Term
  pub left : Term
  pub right : Term
  pub terms : List Term
  pub values : List Term

-- the result of a walk: leaves, each of a clause of the tree, below splits of variables with the runs of all constructors
mutual
  pub data Proof : Type 0 where
    Ends : (clause : ℕ) → Place → Proof
    Splits : Place → (x : ℕ) → (type : Term) → (runs : List (List Step)) → Proofs → Proof

  pub data Proofs : Type 0 where
    nil : Proofs
    cons : Proof → Proofs → Proofs

-- the term of a variable, which is given by its number
abbrev pub value_at : List Term → (x : ℕ) → Term
value_at values x = term_at values (length values - (x + 1))

abbrev pub at_origin : (values arguments : List Term) → Origin → Term
at_origin values arguments (Old x) = value_at values x
at_origin values arguments (Arg j) = term_at arguments j

-- The place after the solution of a problem, which also has terms for the arguments of a constructor.
abbrev pub moved_place : Place → Telescope → (solution : List Term) → Place
moved_place p context solution =
    let own = take (length p.context) solution in
    record {
      context = context;
      type = under_solution own p.type;
      left = under_solution own p.left;
      right = under_solution own p.right;
      terms = map (under_solution own) p.terms;
      values = map (under_solution own) p.values;
    }

abbrev pub bounded_place : Place → Result Place Stop
bounded_place p =
    cond
    (are_low p.context && (is_low p.type && (is_low p.left && (is_low p.right && (are_low p.terms && are_low p.values)))))
    (Ok p) (Err Deep)

-- ---- looking at a split

abbrev pub Walking : Type 0
Walking = Place → ℕ → Reporting Proof

-- how the walk goes on at a variable, whose reduced type is the family that the tree splits
abbrev pub Splitting : Type 0
Splitting = (x : ℕ) (type : Term) → Member → Walking

-- the walk does not go on at a term
abbrev pub stuck_at : Term → Walking
stuck_at t p left = answers (Err (Stuck p.context t t NotRigid)) left

abbrev pub at_member : (n : ℕ) → (t : Term) → Splitting → (x : ℕ) (type : Term) → Option Member → Walking
at_member n t split x type None = stuck_at t
at_member n t split x type (Some m) = λ p left. cond (m.n == n) (split x type m p left) (stuck_at t p left)

abbrev pub at_variable : Signature → (n : ℕ) → (t : Term) → Splitting → Option ℕ → Walking
at_variable S n t split None p left = stuck_at t p left
at_variable S n t split (Some x) p left =
    and_next (halting (whnf_of S true left (type_of_variable p.context x))) (λ type rest.
    at_member n t split x type (member_of S type) p rest)

-- how the walk goes on in the branch of a constructor with these arguments
abbrev pub Branching : Type 0
Branching = (number : ℕ) (arguments : List Term) → Walking

abbrev pub at_other : Signature → (n : ℕ) → (t : Term) → Splitting → Walking
at_other S n t split p left =
    and_next (halting (tidy_of S left t)) (λ u rest. at_variable S n t split (variable_in u) p rest)

abbrev pub at_head : Signature → (n : ℕ) → (t : Term) → Branching → Splitting → Option Built → Walking
at_head S n t branch split None p left = at_other S n t split p left
at_head S n t branch split (Some b) p left =
    cond (b.n == n) (branch b.number b.arguments p left) (at_other S n t split p left)

-- At a split of variable x of the tree's node, into family n.
abbrev pub at_split : Signature → (n x : ℕ) → Branching → Splitting → Walking
at_split S n x branch split p left =
    let t = value_at p.values x in
    and_next (halting (whnf_of S true left t)) (λ w rest. at_head S n t branch split (built_of S w) p rest)

-- ---- splitting a variable

-- the branches that are solved, in their order, each from its place on
abbrev pub solved_branch : Walking → Place → Outcome → (others : ℕ → Reporting Proofs) → ℕ → Reporting Proofs
solved_branch go p (Solved steps context solution) others left =
    and_next (answers (or_halts (bounded_place (moved_place p context solution))) left) (λ q rest.
    and_next (go q rest) (λ proof end.
    and_next (others end) (λ proofs last. answers (Ok (cons proof proofs)) last)))
solved_branch go p outcome others left = others left

abbrev pub solved_branches : Walking → Place → List Ran → ℕ → Reporting Proofs
solved_branches go p [] left = answers (Ok nil) left
solved_branches go p (run ∷ runs) left = solved_branch go p run.outcome (solved_branches go p runs) left

-- All problems are run first. One that is stuck ends the walk.
abbrev pub with_runs : Walking → (x : ℕ) (type : Term) → Place → Look (List Ran) → ℕ → Reporting Proof
with_runs go x type p (Found runs) left =
    and_next (solved_branches go p runs left) (λ proofs rest.
    answers (Ok (Splits p x type (map (λ run. steps_in run.outcome) runs) proofs)) rest)
with_runs go x type p (Passed r) left = answers (Err (Stuck r.context r.left r.right r.why)) left

-- Running problems is refused only where units or heights run out.
abbrev pub halted : TreeStop → ReportStop
halted (tree_stop.Halts e) = Halts e
halted other = Halts Deep

abbrev pub or_halted : {A : Type 0} → Result A TreeStop → Result A ReportStop
or_halted (Ok a) = Ok a
or_halted (Err e) = Err (halted e)

abbrev pub split_variable : Signature → (go : Walking) → Splitting
split_variable S go x type m p left =
    let runs = run_all S p.context x m 0 m.family.constructors left in
    and_next (answers (or_halted runs.0) runs.1) (with_runs go x type p)

-- After a split the same node is looked at again. The variable is a constructor then, and is not split once more.
abbrev pub no_splitting : (t : Term) → Splitting
no_splitting t x type m p left = stuck_at t p left

abbrev pub looked_again : Signature → (n x : ℕ) → Branching → Walking
looked_again S n x branch p left = at_split S n x branch (no_splitting (value_at p.values x)) p left

-- ---- the walk

abbrev mutual
  pub walk_tree : Signature → Tree → Walking
  walk_tree S (tree.Leaf clause context goal substitution terms binds) p left = answers (Ok (Ends clause p)) left
  walk_tree S (tree.Split context x n type branches) p left =
      at_split S n x (take_branch S branches) (split_variable S (looked_again S n x (take_branch S branches))) p left

  pub take_branch : Signature → Branches → Branching
  take_branch S tree.nil number arguments p left = answers (Err (Halts Deep)) left
  take_branch S (tree.cons branch branches) zero arguments p left = enter_branch S branch arguments p left
  take_branch S (tree.cons branch branches) (suc number) arguments p left = take_branch S branches number arguments p left

  pub enter_branch : Signature → Branch → (arguments : List Term) → Walking
  enter_branch S (tree.Absurd steps context u v) arguments p left = answers (Err (Stuck context u v NotRigid)) left
  enter_branch S (tree.Solved steps origins subtree) arguments p left =
      walk_tree S subtree (record p { values = map (at_origin p.values arguments) origins }) left

-- The terms of a clause for the variables from which the tree starts: those of the function's columns, in the order of recursion, or
-- of a helper's telescope.
abbrev pub first_values : Signature → Plan → (k : ℕ) → Walk → List Term
first_values S plan zero w = terms_at (order_of (length (own_part plan).tele) (recursion_of S plan)) w.terms
first_values S plan (suc k) w = w.subst

abbrev pub first_place : Signature → Plan → (k : ℕ) → Walk → Equation → Place
first_place S plan k w e = record {
  context = e.context;
  type = e.type;
  left = e.left;
  right = e.right;
  terms = w.terms;
  values = first_values S plan k w;
}

abbrev pub walk_of : Signature → Plan → (k : ℕ) → Walk → Equation → Tree → ℕ → Reporting Proof
walk_of S plan k w e t left = walk_tree S t (first_place S plan k w e) left

-- ---- the leaves that it reaches

abbrev mutual
  -- the leaves, in their order
  pub leaves_in : Proof → List (ℕ × Place)
  leaves_in (Ends clause p) = (clause, p) ∷ []
  leaves_in (Splits p x type runs proofs) = all_leaves proofs

  pub all_leaves : Proofs → List (ℕ × Place)
  all_leaves nil = []
  all_leaves (cons proof proofs) = leaves_in proof ++ all_leaves proofs
