-- Laws of walks and trees, however they are found.
use Rattle.std.specs.Prelude.{◌≡◌, ◌≢◌, ℕ, ◌+◌, ◌-◌, ◌<◌, ◌≤◌, true, false, Some, Ok, Err, IfOk, List, length, map, take, slice_get, All}
use Rattle.theory.specs.Terms.{Term, Var}
use Rattle.theory.specs.Substitutions.{inst}
use Rattle.theory.specs.Telescopes.{Telescope}
use Rattle.theory.specs.Families.{Constructor}
use Rattle.theory.specs.Signatures.{Signature}
use Rattle.core_terms.specs.Patterns as pattern
use Rattle.core_terms.specs.Patterns.{Pats}
use Rattle.core_terms.specs.Clauses.{Clause, Clauses, Right, Is}
use Rattle.core_terms.specs.CaseTrees.{Step, Walk, Tree}
use Rattle.core_terms.specs.declared.case_tree.Origin.{Origin}
use Rattle.core_terms.specs.declared.case_tree.Origin.TheVariants.{Old, Arg}
use Rattle.core_terms.specs.declared.stop.Stop.TheVariants.{Fuel}
use Rattle.kernel_reduce.specs.Laws.{IsHeadForm}
use Rattle.tele_eq.specs.ReflexivityLaws.{EachConverts}
use Rattle.case_trees.specs.pattern_vectors.Matching.{matches_all, are_apart}
use Rattle.unification.specs.Outcomes.{Outcome, Solved}
use Rattle.unification.specs.ScopedStates.{IsReady, IsScopedProblem}
use Rattle.unification.specs.States.{Problem}
use Rattle.case_trees.specs.Pairs.{Pairs}
use Rattle.case_trees.specs.Points.{Point, start_at, under_solution}
use Rattle.case_trees.specs.Problems.{Member, problem_of}
use Rattle.case_trees.specs.Origins.{first_origins, origins_behind}
use Rattle.case_trees.specs.Stops as stop
use Rattle.case_trees.specs.Stops.{TreeStop, answers}
use Rattle.case_trees.specs.OwnWalks as walk
use Rattle.case_trees.specs.OwnWalks.{walked_dots, walk_from, own_walk_of}
use Rattle.case_trees.specs.Trees as tree
use Rattle.case_trees.specs.Trees.{Live, tree_from, split_of}
use Rattle.case_trees.specs.Places.{all_variable_places, all_variables_found, all_dot_places, clause_at}
use Rattle.case_trees.specs.Splits.{EachSplit, IsAskedFor}
use Rattle.case_trees.specs.Standing.{Runs, IsAbsurdProblem, HasFamily, StandsAt, IsNode, EachLeaf}
use Rattle.case_trees.specs.Scoped.{IsScopedPoint, AreScopedPairs, IsClauseFor, AreClausesFor, IsScopedWalk, IsScopedTree, IsScopedStop}
use Rattle.case_trees.specs.HeadSteps.{HasConstructor}
use Rattle.case_trees.specs.Kept.{KeptAll}
use Rattle.case_trees.specs.Asking.{SomeOpenAt}
use Rattle.case_trees.specs.Causes.{WalkCause, TreeCause}

-- ---- conditions

-- a context, a goal and the terms of columns, over a signature
pub record IsGiven (S : Signature) (context : Telescope) (goal : Term) (terms : List Term) : Type 0 where
  pub ready : IsReady S
  pub scoped : IsScopedPoint S (start_at context goal terms)

-- the walk of a clause, with a condition and a property under it
abbrev pub OfWalk : ((S : Signature) → (start : Point) → (number : ℕ) → (pats : Pats) → (w : Walk) → Type 0) → Type 0
OfWalk Holds =
    (S : Signature) (context : Telescope) (goal : Term) (terms : List Term) (pats : Pats) (binds : ℕ) (right : Right) (number left : ℕ) →
    IsGiven S context goal terms → IsClauseFor S terms pats binds →
    IfOk (own_walk_of S context goal terms (Is pats binds right) number left).0 (Holds S (start_at context goal terms) number pats)

-- a property of the tree of clauses
abbrev pub OfTree : ((S : Signature) → (start : Point) → (clauses : Clauses) → (t : Tree) → Type 0) → Type 0
OfTree Holds =
    (S : Signature) (context : Telescope) (goal : Term) (terms : List Term) (clauses : Clauses) (left : ℕ) →
    IsGiven S context goal terms → AreClausesFor S terms clauses →
    IfOk (split_of S context goal terms clauses left).0 (Holds S (start_at context goal terms) clauses)

-- ---- walks and trees end

-- No units are given back.
abbrev pub WalkSpends : Type 0
WalkSpends =
    (S : Signature) (context : Telescope) (goal : Term) (terms : List Term) (c : Clause) (number left : ℕ) →
    (own_walk_of S context goal terms c number left).1 ≤ left

abbrev pub TreeSpends : Type 0
TreeSpends =
    (S : Signature) (context : Telescope) (goal : Term) (terms : List Term) (clauses : Clauses) (left : ℕ) →
    (split_of S context goal terms clauses left).1 ≤ left

-- A walk goes on as it began, however many of its patterns are done: its measure is never used up.
abbrev pub WalkGoesOn : Type 0
WalkGoesOn =
    (S : Signature) (number : ℕ) (p : Point) (binds : ℕ) (pairs : Pairs) (left : ℕ) → IsReady S → IsScopedPoint S p →
    AreScopedPairs S (length p.context) binds pairs →
    walk_from S number p pairs left ≡ walk.one_turn S number (walk_from S number) p pairs left

-- A tree goes on as it began in each of its branches: its measure is never used up.
abbrev pub TreeGoesOn : Type 0
TreeGoesOn =
    (S : Signature) (p : Point) (live : List Live) (left : ℕ) → IsReady S → IsScopedPoint S p →
    All (λ c. (binds : ℕ) × AreScopedPairs S (length p.context) binds c.pairs) live →
    tree_from S p live left ≡ tree.one_node S (tree_from S) p live left

-- ---- units

-- If a walk does not run out of units, then with more units it comes to the same, and as many more are left.
abbrev pub WalkWithMoreUnits : Type 0
WalkWithMoreUnits =
    (S : Signature) (context : Telescope) (goal : Term) (terms : List Term) (c : Clause) (number left more : ℕ) →
    (own_walk_of S context goal terms c number left).0 ≢ Err (stop.Halts Fuel) →
    own_walk_of S context goal terms c number (left + more)
    ≡ answers (own_walk_of S context goal terms c number left).0 ((own_walk_of S context goal terms c number left).1 + more)

abbrev pub TreeWithMoreUnits : Type 0
TreeWithMoreUnits =
    (S : Signature) (context : Telescope) (goal : Term) (terms : List Term) (clauses : Clauses) (left more : ℕ) →
    (split_of S context goal terms clauses left).0 ≢ Err (stop.Halts Fuel) →
    split_of S context goal terms clauses (left + more)
    ≡ answers (split_of S context goal terms clauses left).0 ((split_of S context goal terms clauses left).1 + more)

-- So a problem has one outcome, a clause one walk, and a list of clauses one tree, whatever units there are.
abbrev pub OutcomeIsUnique : Type 0
OutcomeIsUnique = (S : Signature) (p : Problem) (outcome other : Outcome) → Runs S p outcome → Runs S p other → outcome ≡ other

abbrev pub WalkIsUnique : Type 0
WalkIsUnique =
    (S : Signature) (context : Telescope) (goal : Term) (terms : List Term) (c : Clause) (number left other : ℕ) (w v : Walk) →
    (own_walk_of S context goal terms c number left).0 ≡ Ok w → (own_walk_of S context goal terms c number other).0 ≡ Ok v → w ≡ v

abbrev pub TreeIsUnique : Type 0
TreeIsUnique =
    (S : Signature) (context : Telescope) (goal : Term) (terms : List Term) (clauses : Clauses) (left other : ℕ) (t u : Tree) →
    (split_of S context goal terms clauses left).0 ≡ Ok t → (split_of S context goal terms clauses other).0 ≡ Ok u → t ≡ u

-- ---- scopes

abbrev pub WalkScoped : Type 0
WalkScoped = OfWalk (λ S start number pats w. IsScopedWalk S w)

abbrev pub TreeScoped : Type 0
TreeScoped = OfTree (λ S start clauses t. IsScopedTree S t)

abbrev pub WalkStopScoped : Type 0
WalkStopScoped =
    (S : Signature) (context : Telescope) (goal : Term) (terms : List Term) (pats : Pats) (binds : ℕ) (right : Right) (number left : ℕ)
    (e : TreeStop) → IsGiven S context goal terms → IsClauseFor S terms pats binds →
    (own_walk_of S context goal terms (Is pats binds right) number left).0 ≡ Err e → IsScopedStop S e

abbrev pub TreeStopScoped : Type 0
TreeStopScoped =
    (S : Signature) (context : Telescope) (goal : Term) (terms : List Term) (clauses : Clauses) (left : ℕ) (e : TreeStop) →
    IsGiven S context goal terms → AreClausesFor S terms clauses → (split_of S context goal terms clauses left).0 ≡ Err e →
    IsScopedStop S e

-- ---- the points of walks and trees

-- A walk ends at a point that splits lead to, with its terms as far as they were compared.
pub record IsWalkAt (S : Signature) (start : Point) (w : Walk) : Type 0 where
  pub p : Point
  pub node : IsNode S start p
  pub context : w.ctx ≡ p.context
  pub goal : w.goal ≡ p.goal
  pub substitution : w.subst ≡ p.substitution
  pub terms : EachConverts S p.terms w.terms

abbrev pub WalkStands : Type 0
WalkStands = OfWalk (λ S start number pats w. IsWalkAt S start w)

-- A tree is one of the split rule: each split has one branch for each constructor, in order; an absurd branch is the end of a run,
-- and a solved one is over the solution of one.
abbrev pub TreeStands : Type 0
TreeStands = OfTree (λ S start clauses t. StandsAt S start t)

-- Each split of a tree is asked for by the first clause that is left: at its variable, for a constructor of its family.
abbrev pub SplitsAsked : Type 0
SplitsAsked = OfTree (λ S start clauses t. EachSplit (IsAskedFor S start clauses) t)

-- A substitution has a term for each variable of the starting context. It takes the first goal to the given one, and the first terms to
-- terms that convert to the given ones.
pub record LeadsTo (S : Signature) (start : Point) (goal : Term) (s us : List Term) : Type 0 where
  pub whole : length s ≡ length start.context
  pub goal_there : under_solution s start.goal ≡ goal
  pub terms_there : EachConverts S (map (under_solution s) start.terms) us

abbrev pub WalkLeads : Type 0
WalkLeads = OfWalk (λ S start number pats w. LeadsTo S start w.goal w.subst w.terms)

abbrev pub LeavesLead : Type 0
LeavesLead =
    OfTree (λ S start clauses t.
    EachLeaf (λ number context goal substitution terms binds. LeadsTo S start goal substitution terms) t)

-- the level of a variable of the context that is split, or of a constructor's argument after its n variables
abbrev pub origin_level : (n : ℕ) → Origin → ℕ
origin_level n (Old x) = n - (x + 1)
origin_level n (Arg j) = n + j

-- Each variable of a new context stands for itself at its origin.
abbrev pub OriginsTell : Type 0
OriginsTell =
    (S : Signature) (context : Telescope) (x : ℕ) (m : Member) (number : ℕ) (c : Constructor) (steps : List Step) (new : Telescope)
    (solution : List Term) (origins : List Origin) → IsReady S → IsScopedProblem S (problem_of context x m number c) →
    Runs S (problem_of context x m number c) (Solved steps new solution) →
    origins ≡ origins_behind steps (problem_of context x m number c).context (first_origins (length context) (length c.arguments)) →
    (length origins ≡ length new)
    × ((k : ℕ) (o : Origin) → slice_get origins k ≡ Some o →
    slice_get solution (origin_level (length context) o) ≡ Some (Var (length new - (k + 1))))

-- A solved problem of a constructor puts that constructor for the variable.
abbrev pub SolvedIsBuilt : Type 0
SolvedIsBuilt =
    (S : Signature) (context : Telescope) (x : ℕ) (type : Term) (m : Member) (number : ℕ) (c : Constructor) (steps : List Step)
    (new : Telescope) (solution : List Term) → IsReady S → IsScopedProblem S (problem_of context x m number c) →
    HasFamily S context x type m → slice_get m.family.constructors number ≡ Some c →
    Runs S (problem_of context x m number c) (Solved steps new solution) →
    HasConstructor S m.n number (under_solution (take (length context) solution) (Var x))

-- ---- matching

-- A walk that ends has terms that its clause matches; or the clause has ( ) at a variable for which no constructor can be there.
pub data IsWalkEnd (S : Signature) (pats : Pats) (w : Walk) : Type 0 where
  matched : matches_all S pats w.terms ≡ true → IsWalkEnd S pats w
  absurd : (t : Term) (x : ℕ) (type : Term) (m : Member) → SomeOpenAt S pats w.terms pattern.Absurd t → IsHeadForm S false t (Var x)
      → HasFamily S w.ctx x type m
      → ((number : ℕ) (c : Constructor) → slice_get m.family.constructors number ≡ Some c → IsAbsurdProblem S (problem_of w.ctx x m number c))
      → IsWalkEnd S pats w

abbrev pub WalkEnds : Type 0
WalkEnds = OfWalk (λ S start number pats w. IsWalkEnd S pats w)

-- The bindings of a walk are the terms at the clause's variables.
abbrev pub WalkBinds : Type 0
WalkBinds = OfWalk (λ S start number pats w. all_variable_places S pats w.terms ≡ w.binds)

-- The dots that are kept are those that the terms reach and that mention no variable without a term: the written term, with the
-- bindings for the clause's variables, and the term there.
abbrev pub WalkKeepsDots : Type 0
WalkKeepsDots = OfWalk (λ S start number pats w. w.dots ≡ walked_dots (all_variables_found S pats w.terms) (all_dot_places S pats w.terms))

-- Where the clause matches, all of its dots are kept.
abbrev pub WalkKeepsAllDots : Type 0
WalkKeepsAllDots =
    OfWalk (λ S start number pats w. matches_all S pats w.terms ≡ true →
    w.dots ≡ map (λ d. (under_solution w.binds d.0, d.1)) (all_dot_places S pats w.terms))

-- A leaf belongs to a clause that matches its terms, and each earlier clause of the list is apart from them. The terms at the clause's
-- variables are kept from the bindings: each is the binding, or its head form, a constructor, with arguments that are kept so, since an
-- earlier clause was compared there.
pub record IsLeafOf (S : Signature) (clauses : Clauses) (number : ℕ) (us bs : List Term) : Type 0 where
  pub pats : Pats
  pub binds : ℕ
  pub right : Right
  pub clause : clause_at clauses number ≡ Some (Is pats binds right)
  pub matched : matches_all S pats us ≡ true
  pub apart : (j earlier_binds : ℕ) (earlier : Pats) (earlier_right : Right) → j < number →
      clause_at clauses j ≡ Some (Is earlier earlier_binds earlier_right) → are_apart S earlier us ≡ true
  pub bound : KeptAll S bs (all_variable_places S pats us)

abbrev pub LeavesMatch : Type 0
LeavesMatch =
    OfTree (λ S start clauses t.
    EachLeaf (λ number context goal substitution terms binds. IsLeafOf S clauses number terms binds) t)

-- First match: whatever is put for the variables of a leaf, its clause matches the terms, and no earlier clause does.
abbrev pub FirstMatch : Type 0
FirstMatch =
    OfTree (λ S start clauses t.
    EachLeaf (λ number context goal substitution terms binds.
    (s : ℕ → Term) (j count : ℕ) (pats : Pats) (right : Right) → clause_at clauses j ≡ Some (Is pats count right) →
    (j ≡ number → matches_all S pats (map (inst s) terms) ≡ true)
    × (j < number → matches_all S pats (map (inst s) terms) ≡ false)) t)

-- ---- refusals have their causes

-- A walk is never Uncovered.
abbrev pub WalkCaused : Type 0
WalkCaused =
    (S : Signature) (context : Telescope) (goal : Term) (terms : List Term) (pats : Pats) (binds : ℕ) (right : Right) (number left : ℕ)
    (e : TreeStop) → IsGiven S context goal terms → IsClauseFor S terms pats binds →
    (own_walk_of S context goal terms (Is pats binds right) number left).0 ≡ Err e →
    WalkCause S (start_at context goal terms) number pats e

-- A tree is never Impossible or NotAbsurd. Terms that are uncovered are apart from every clause, at a point of the tree.
abbrev pub TreeCaused : Type 0
TreeCaused =
    (S : Signature) (context : Telescope) (goal : Term) (terms : List Term) (clauses : Clauses) (left : ℕ) (e : TreeStop) →
    IsGiven S context goal terms → AreClausesFor S terms clauses → (split_of S context goal terms clauses left).0 ≡ Err e →
    TreeCause S (start_at context goal terms) clauses e
