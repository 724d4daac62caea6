-- Where a tree is split: at a variable of which a clause asks for a constructor.
use Rattle.std.specs.Prelude.{◌≡◌, ℕ, ◌<◌, true, false, Some, List}
use Rattle.theory.specs.Terms.{Term, Var}
use Rattle.theory.specs.Telescopes.{Telescope}
use Rattle.theory.specs.Signatures.{Signature}
use Rattle.core_terms.specs.CaseTrees as tree
use Rattle.core_terms.specs.CaseTrees.{Tree, Branches}
use Rattle.core_terms.specs.Clauses.{Clauses, Right, Is}
use Rattle.core_terms.specs.Patterns as pattern
use Rattle.core_terms.specs.Patterns.{Pat, Pats}
use Rattle.tele_eq.specs.ReflexivityLaws.{EachConverts}
use Rattle.case_trees.specs.pattern_vectors.Matching.{are_apart}
use Rattle.case_trees.specs.Asking.{Asks}
use Rattle.case_trees.specs.Places.{clause_at}
use Rattle.case_trees.specs.Points.{Point}

-- a property of a split: of its context, the variable, and the number of its family
abbrev pub SplitProperty : Type 1
SplitProperty = (context : Telescope) → (x n : ℕ) → Type 0

abbrev mutual
  -- it holds of each split
  pub EachSplit : SplitProperty → Tree → Type 0
  EachSplit Holds (tree.Leaf number context goal substitution terms binds) = Unit {0}
  EachSplit Holds (tree.Split context x n type branches) = Holds context x n × EachSplitOf Holds branches

  pub EachSplitOf : SplitProperty → Branches → Type 0
  EachSplitOf Holds tree.nil = Unit {0}
  EachSplitOf Holds (tree.cons branch branches) = EachSplitIn Holds branch × EachSplitOf Holds branches

  pub EachSplitIn : SplitProperty → tree.Branch → Type 0
  EachSplitIn Holds (tree.Absurd steps context u v) = Unit {0}
  EachSplitIn Holds (tree.Solved steps origins subtree) = EachSplit Holds subtree

-- The pattern asks for a constructor of family n, or for any.
abbrev pub IsOfFamily : Pat → (n : ℕ) → Type 0
IsOfFamily (pattern.Con m number pats) n = m ≡ n
IsOfFamily pattern.Absurd n = Unit {0}
IsOfFamily pat n = ⊥

-- A clause of the list asks for a constructor of variable x, of family n, at a point in this context. The clause is not apart from the
-- terms there, as far as it has reduced them, and each clause before it is apart from them, as far as any clause was compared with them.
pub record IsAskedFor (S : Signature) (start : Point) (clauses : Clauses) (context : Telescope) (x n : ℕ) : Type 0 where
  pub p : Point
  pub context_there : p.context ≡ context
  pub number : ℕ
  pub binds : ℕ
  pub pats : Pats
  pub right : Right
  pub clause : clause_at clauses number ≡ Some (Is pats binds right)
  pub at : Pat
  pub asks : Asks S start p pats at (Var x)
  pub family : IsOfFamily at n
  pub not_apart : are_apart S pats asks.terms ≡ false
  pub terms : List Term
  pub converts : EachConverts S p.terms terms
  pub earlier_apart : (j earlier_binds : ℕ) (earlier : Pats) (earlier_right : Right) → j < number →
      clause_at clauses j ≡ Some (Is earlier earlier_binds earlier_right) → are_apart S earlier terms ≡ true
