-- The term of a wildcard is of no account once the wildcard is done: the code keeps `Type 0` in its place, so that nothing is put into a
-- term that may become as high as it likes.
use Rattle.std.specs.Prelude.{◌≡◌, ℕ, zero, suc, Some, List, [], ◌∷◌}
use Rattle.theory.specs.Terms.{Term, Sort}
use Rattle.theory.specs.Signatures.{Signature}
use Rattle.unification.specs.Built.{Built, built_of}
use Rattle.case_trees.specs.pattern_vectors.Columns.{IsWhole}
use Rattle.case_trees.specs.Pairs.{Pair, Pairs, Waits, Binds, Passes, Keeps, Builds, Clashes, nil, cons}
use Rattle.case_trees.specs.OwnWalks as walk
use Rattle.case_trees.specs.OwnWalks.{Walking}
use Rattle.case_trees.specs.Trees as tree
use Rattle.case_trees.specs.Trees.{Live, Growing}

abbrev mutual
  -- the pair, without the terms of wildcards
  pub forget : Pair → Pair
  forget (Waits pat t) = Waits pat t
  forget (Binds t) = Binds t
  forget (Passes t) = Passes (Sort 0)
  forget (Keeps written t) = Keeps written t
  forget (Builds n number ps pairs) = Builds n number ps (forget_all pairs)
  forget (Clashes pat t) = Clashes pat t

  pub forget_all : Pairs → Pairs
  forget_all nil = nil
  forget_all (cons pair pairs) = cons (forget pair) (forget_all pairs)

-- the clauses, without the terms of wildcards
abbrev pub forget_live : List Live → List Live
forget_live [] = []
forget_live (c ∷ live) = record { number = c.number; pairs = forget_all c.pairs } ∷ forget_live live

-- ---- pairs over shared terms

abbrev mutual
  -- A pair with a constructor is at a shared term that is one, so that the pair's own term is never asked for again. A pattern that
  -- waits has all arguments in its constructors.
  pub Covers : Signature → Pair → (u : Term) → Type 0
  Covers S (Waits pat t) u = IsWhole S pat
  Covers S (Builds n number ps pairs) u = (b : Built) × (built_of S u ≡ Some b) × CoverAll S pairs b.arguments
  Covers S _ u = Unit {0}

  pub CoverAll : Signature → Pairs → (us : List Term) → Type 0
  CoverAll S (cons pair pairs) (u ∷ us) = Covers S pair u × CoverAll S pairs us
  CoverAll S _ _ = Unit {0}

abbrev pub CoverLive : Signature → List Live → (us : List Term) → Type 0
CoverLive S [] us = Unit {0}
CoverLive S (c ∷ live) us = CoverAll S c.pairs us × CoverLive S live us

-- ---- how a walk or a tree goes on

-- without the terms of wildcards
abbrev pub forgetting : Walking → Walking
forgetting go p pairs left = go p (forget_all pairs) left

abbrev pub forgetting_live : Growing → Growing
forgetting_live go p live left = go p (forget_live live) left

-- where at most so many constructor and absurd patterns were left before the turn
abbrev pub walks_on : Signature → (clause patterns : ℕ) → Walking
walks_on S clause zero = walk.nowhere
walks_on S clause (suc patterns) = walk.by_patterns S clause patterns

abbrev pub grows_on : Signature → (patterns : ℕ) → Growing
grows_on S zero = tree.nowhere
grows_on S (suc patterns) = tree.by_patterns S patterns
