-- Trees of the split rule over a point, however they are found. Nothing is said of clauses, of the order of trials or of units.
use Rattle.std.specs.Prelude.{◌≡◌, ℕ, ◌+◌, ◌<◌, true, Some, Ok, List, [], ◌∷◌, length, slice_get}
use Rattle.theory.specs.Terms.{Term}
use Rattle.theory.specs.Telescopes.{Telescope}
use Rattle.theory.specs.Families.{Constructor}
use Rattle.theory.specs.Signatures.{Signature}
use Rattle.core_terms.specs.CaseTrees as tree
use Rattle.core_terms.specs.CaseTrees.{Step, Tree, Branches}
use Rattle.kernel_reduce.specs.Laws.{IsHeadForm}
use Rattle.tele_eq.specs.ReflexivityLaws.{EachConverts}
use Rattle.unification.specs.States.{Problem}
use Rattle.unification.specs.Outcomes.{Outcome, Solved, Absurd}
use Rattle.unification.specs.Runs.{unify_of}
use Rattle.case_trees.specs.Points.{Point, moved_point, solution_for}
use Rattle.case_trees.specs.Problems.{Member, member_of, type_of_variable, problem_of}
use Rattle.case_trees.specs.Origins.{first_origins, origins_behind}

-- a problem has this outcome, with some units
pub record Runs (S : Signature) (p : Problem) (outcome : Outcome) : Type 0 where
  pub units : ℕ
  pub run : (unify_of S p units).0 ≡ Ok outcome

-- the constructor of a problem can't be there
pub record IsAbsurdProblem (S : Signature) (p : Problem) : Type 0 where
  pub steps : List Step
  pub context : Telescope
  pub left : Term
  pub right : Term
  pub runs : Runs S p (Absurd steps context left right)

-- variable x of the context has this reduced type, which is a family with all its parameters and indices
pub record HasFamily (S : Signature) (context : Telescope) (x : ℕ) (type : Term) (m : Member) : Type 0 where
  pub variable : x < length context
  pub reduced : IsHeadForm S true (type_of_variable context x) type
  pub member : member_of S type ≡ Some m

-- the point after the solution of a constructor's problem
abbrev pub behind_solution : Point → Telescope → List Term → Point
behind_solution p context solution = moved_point p context (solution_for p solution)

mutual
  -- A tree is over a point. A leaf has its context, goal and substitution, and its terms up to conversion. A split is at one of
  -- its variables.
  pub data StandsAt (S : Signature) : Point → Tree → Type 0 where
    leaf : (p : Point) (number : ℕ) (terms binds : List Term) → EachConverts S p.terms terms
        → StandsAt S p (tree.Leaf number p.context p.goal p.substitution terms binds)
    split : (p : Point) (x : ℕ) (type : Term) (m : Member) (branches : Branches) → HasFamily S p.context x type m
        → BranchesAt S p x m 0 m.family.constructors branches
        → StandsAt S p (tree.Split p.context x m.n type branches)

  -- One branch for each constructor, in their order. An absurd one is the end of the constructor's run; after a solved one the
  -- subtree is over the point under the solution of the run.
  pub data BranchesAt (S : Signature) : Point → ℕ → Member → ℕ → List Constructor → Branches → Type 0 where
    none : (p : Point) (x : ℕ) (m : Member) (number : ℕ) → BranchesAt S p x m number [] tree.nil
    absurd : (p : Point) (x : ℕ) (m : Member) (number : ℕ) (c : Constructor) (constructors : List Constructor) (steps : List Step)
        (context : Telescope) (u v : Term) (branches : Branches)
        → Runs S (problem_of p.context x m number c) (Absurd steps context u v)
        → BranchesAt S p x m (number + 1) constructors branches
        → BranchesAt S p x m number (c ∷ constructors) (tree.cons (tree.Absurd steps context u v) branches)
    solved : (p : Point) (x : ℕ) (m : Member) (number : ℕ) (c : Constructor) (constructors : List Constructor) (steps : List Step)
        (context : Telescope) (solution : List Term) (subtree : Tree) (branches : Branches)
        → Runs S (problem_of p.context x m number c) (Solved steps context solution)
        → StandsAt S (behind_solution p context solution) subtree
        → BranchesAt S p x m (number + 1) constructors branches
        → BranchesAt S p x m number (c ∷ constructors)
        (tree.cons
        (tree.Solved steps
        (origins_behind steps (problem_of p.context x m number c).context
        (first_origins (length p.context) (length c.arguments)))
        subtree)
        branches)

-- a point that solved problems of constructors lead to, from a point on
pub data IsNode (S : Signature) (start : Point) : Point → Type 0 where
  root : IsNode S start start
  behind : (p : Point) (x : ℕ) (type : Term) (m : Member) (number : ℕ) (c : Constructor) (steps : List Step) (context : Telescope)
      (solution : List Term) → IsNode S start p → HasFamily S p.context x type m → slice_get m.family.constructors number ≡ Some c
      → Runs S (problem_of p.context x m number c) (Solved steps context solution)
      → IsNode S start (behind_solution p context solution)

-- ---- leaves

abbrev pub LeafProperty : Type 1
LeafProperty = (number : ℕ) → (context : Telescope) → (goal : Term) → (substitution terms binds : List Term) → Type 0

abbrev mutual
  -- it holds of each leaf
  pub EachLeaf : LeafProperty → Tree → Type 0
  EachLeaf Holds (tree.Leaf number context goal substitution terms binds) = Holds number context goal substitution terms binds
  EachLeaf Holds (tree.Split context x n type branches) = EachLeafOf Holds branches

  pub EachLeafOf : LeafProperty → Branches → Type 0
  EachLeafOf Holds tree.nil = Unit {0}
  EachLeafOf Holds (tree.cons branch branches) = EachLeafIn Holds branch × EachLeafOf Holds branches

  pub EachLeafIn : LeafProperty → tree.Branch → Type 0
  EachLeafIn Holds (tree.Absurd steps context u v) = Unit {0}
  EachLeafIn Holds (tree.Solved steps origins subtree) = EachLeaf Holds subtree
