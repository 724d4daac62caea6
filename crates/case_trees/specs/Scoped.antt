-- Scoping: of points, patterns with their terms, walks and trees.
use Rattle.std.specs.Prelude.{◌≡◌, ℕ, ◌+◌, ◌<◌, true, List, length, All}
use Rattle.theory.specs.Terms.{Term}
use Rattle.theory.specs.Telescopes.{Telescope}
use Rattle.theory.specs.Signatures.{Signature}
use Rattle.theory.specs.SignatureScopes.{IsScoped, IsScopedTelescope, IsConstructorNumber}
use Rattle.core_terms.specs.Patterns as pattern
use Rattle.core_terms.specs.Patterns.{Pat, Pats}
use Rattle.core_terms.specs.Clauses as clause
use Rattle.core_terms.specs.Clauses.{Clause, Clauses, Is}
use Rattle.core_terms.specs.CaseTrees as tree
use Rattle.core_terms.specs.CaseTrees.{Step, Walk, Tree, Branch, Branches}
use Rattle.case_trees.specs.pattern_vectors.Columns.{AreWhole}
use Rattle.case_trees.specs.pattern_vectors.Matching.{is_as_long}
use Rattle.unification.specs.ScopedStates.{AreScopedSteps}
use Rattle.case_trees.specs.Pairs.{Pair, Pairs, Waits, Binds, Passes, Keeps, Builds, Clashes, nil, cons, all_unbound}
use Rattle.case_trees.specs.Points.{Point}
use Rattle.case_trees.specs.Stops as stop
use Rattle.case_trees.specs.Stops.{TreeStop}

pub record IsScopedPoint (S : Signature) (p : Point) : Type 0 where
  pub context : IsScopedTelescope S 0 p.context
  pub goal : IsScoped S (length p.context) p.goal
  pub substitution : All (IsScoped S (length p.context)) p.substitution
  pub terms : All (IsScoped S (length p.context)) p.terms

abbrev mutual
  -- the signature has each constructor in a pattern, and each dot is over so many variables of the clause
  pub IsScopedPattern : Signature → (binds : ℕ) → Pat → Type 0
  IsScopedPattern S binds (pattern.Dot written) = IsScoped S binds written
  IsScopedPattern S binds (pattern.Con n number pats) = IsConstructorNumber S n number × AreScopedPatterns S binds pats
  IsScopedPattern S binds pat = Unit {0}

  pub AreScopedPatterns : Signature → (binds : ℕ) → Pats → Type 0
  AreScopedPatterns S binds pattern.nil = Unit {0}
  AreScopedPatterns S binds (pattern.cons pat pats) = IsScopedPattern S binds pat × AreScopedPatterns S binds pats

abbrev mutual
  -- a pair in a context of n variables, of a clause with so many variables
  pub IsScopedPair : Signature → (n binds : ℕ) → Pair → Type 0
  IsScopedPair S n binds (Waits pat t) = IsScopedPattern S binds pat × IsScoped S n t
  IsScopedPair S n binds (Binds t) = IsScoped S n t
  IsScopedPair S n binds (Passes t) = IsScoped S n t
  IsScopedPair S n binds (Keeps written t) = IsScoped S binds written × IsScoped S n t
  IsScopedPair S n binds (Builds m number ps pairs) =
      IsConstructorNumber S m number × All (IsScoped S n) ps × AreScopedPairs S n binds pairs
  IsScopedPair S n binds (Clashes pat t) = IsScopedPattern S binds pat × IsScoped S n t

  pub AreScopedPairs : Signature → (n binds : ℕ) → Pairs → Type 0
  AreScopedPairs S n binds nil = Unit {0}
  AreScopedPairs S n binds (cons pair pairs) = IsScopedPair S n binds pair × AreScopedPairs S n binds pairs

-- A clause for as many terms: one pattern for each, all arguments in its constructors, and its number of variables is that of its
-- patterns.
pub record IsClauseFor (S : Signature) (terms : List Term) (pats : Pats) (binds : ℕ) : Type 0 where
  pub long : is_as_long pats terms ≡ true
  pub whole : AreWhole S pats
  pub count : binds ≡ length (all_unbound pats)
  pub scoped : AreScopedPatterns S binds pats

abbrev pub IsClauseOf : Signature → (terms : List Term) → Clause → Type 0
IsClauseOf S terms (Is pats binds right) = IsClauseFor S terms pats binds

abbrev pub AreClausesFor : Signature → (terms : List Term) → Clauses → Type 0
AreClausesFor S terms clause.nil = Unit {0}
AreClausesFor S terms (clause.cons c clauses) = IsClauseOf S terms c × AreClausesFor S terms clauses

-- ---- answers

pub record IsScopedWalk (S : Signature) (w : Walk) : Type 0 where
  pub context : IsScopedTelescope S 0 w.ctx
  pub goal : IsScoped S (length w.ctx) w.goal
  pub substitution : All (IsScoped S (length w.ctx)) w.subst
  pub terms : All (IsScoped S (length w.ctx)) w.terms
  pub binds : All (IsScoped S (length w.ctx)) w.binds
  pub dots : All (λ d. IsScoped S (length w.ctx) d.0 × IsScoped S (length w.ctx) d.1) w.dots

-- the context G of a leaf, its goal A, its substitution s, its terms us and its bindings bs
pub record IsScopedLeaf (S : Signature) (G : Telescope) (A : Term) (s us bs : List Term) : Type 0 where
  pub context : IsScopedTelescope S 0 G
  pub goal : IsScoped S (length G) A
  pub substitution : All (IsScoped S (length G)) s
  pub terms : All (IsScoped S (length G)) us
  pub binds : All (IsScoped S (length G)) bs

-- steps from a context of n variables and some arguments on
pub record HasScopedSteps (S : Signature) (n : ℕ) (steps : List Step) : Type 0 where
  pub arguments : ℕ
  pub scoped : AreScopedSteps S (n + arguments) steps

abbrev mutual
  pub IsScopedTree : Signature → Tree → Type 0
  IsScopedTree S (tree.Leaf number context goal substitution terms binds) = IsScopedLeaf S context goal substitution terms binds
  IsScopedTree S (tree.Split context x n type branches) =
      IsScopedTelescope S 0 context × (x < length context) × IsScoped S (length context) type
      × AreScopedBranches S (length context) branches

  pub AreScopedBranches : Signature → (n : ℕ) → Branches → Type 0
  AreScopedBranches S n tree.nil = Unit {0}
  AreScopedBranches S n (tree.cons branch branches) = IsScopedBranch S n branch × AreScopedBranches S n branches

  -- The steps begin after the arguments of the constructor, which come after the n variables of the split.
  pub IsScopedBranch : Signature → (n : ℕ) → Branch → Type 0
  IsScopedBranch S n (tree.Absurd steps context u v) =
      HasScopedSteps S n steps × IsScopedTelescope S 0 context × IsScoped S (length context) u × IsScoped S (length context) v
  IsScopedBranch S n (tree.Solved steps origins subtree) = HasScopedSteps S n steps × IsScopedTree S subtree

-- the end of a walk or a tree is scoped
abbrev pub IsScopedStop : Signature → TreeStop → Type 0
IsScopedStop S (stop.Stuck number context u v why) =
    IsScopedTelescope S 0 context × IsScoped S (length context) u × IsScoped S (length context) v
IsScopedStop S (stop.Uncovered context terms) = IsScopedTelescope S 0 context × All (IsScoped S (length context)) terms
IsScopedStop S (stop.NotAbsurd number n constructor_number) = IsConstructorNumber S n constructor_number
IsScopedStop S (stop.Impossible number context u v) =
    IsScopedTelescope S 0 context × IsScoped S (length context) u × IsScoped S (length context) v
IsScopedStop S (stop.WrongConstructor number context type) = IsScopedTelescope S 0 context × IsScoped S (length context) type
IsScopedStop S (stop.Forced number context pat u) = IsScopedTelescope S 0 context × IsScoped S (length context) u
IsScopedStop S (stop.Halts e) = Unit {0}
