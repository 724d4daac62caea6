-- A clause whose equation has no proof: an earlier clause that takes arguments from it.
use Rattle.std.specs.Prelude.{ℕ, Bool, true, false, nat_lt, ◌==◌, cond, Option, Some, None, List, [], ◌∷◌, ◌++◌, Result, Ok}
use Rattle.theory.specs.Terms.{Term}
use Rattle.theory.specs.Telescopes.{Telescope}
use Rattle.theory.specs.Signatures.{Signature}
use Rattle.core_terms.specs.Answers.{Spent, and_next, bounded}
use Rattle.core_terms.specs.CaseTrees as tree
use Rattle.core_terms.specs.CaseTrees.{Tree, Branch, Branches, Walk}
use Rattle.core_terms.specs.Patterns as pattern
use Rattle.core_terms.specs.Patterns.{Pat, Pats}
use Rattle.core_terms.specs.declared.stop.Stop.{Stop}
use Rattle.kernel_reduce.specs.Comparison.{convertible_of}
use Rattle.kernel_reduce.specs.Reduction.{answered, nesting, whnf_of}
use Rattle.unification.specs.Built.{Built, built_of}
use Rattle.case_trees.specs.pattern_vectors.Matching.{is_constructor}
use Rattle.tree_translation.specs.Plans.{Plan}
use Rattle.case_trees.specs.Kept.{at_arguments}
use Rattle.clause_reports.specs.Equations.{Equation, equation_at, leaf_site, part_at, pats_of, side_of}
use Rattle.clause_reports.specs.ProofWalks.{Place}
use Rattle.clause_reports.specs.Stops.{Reporting, answers, or_halts, halting}

-- ---- the arguments

-- The first leaf at which the sides do not convert and whose clause is an earlier one. The sides are compared before the
-- clauses are.
abbrev pub earlier_leaf : Signature → (clause : ℕ) → List (ℕ × Place) → ℕ → Reporting (Option (ℕ × Place))
earlier_leaf S clause [] left = answers (Ok None) left
earlier_leaf S clause (leaf ∷ leaves) left =
    and_next (halting (convertible_of S nesting leaf.1.left leaf.1.right left)) (λ holds rest.
    cond holds (earlier_leaf S clause leaves rest)
    (cond (nat_lt leaf.0 clause) (answers (Ok (Some leaf)) rest) (earlier_leaf S clause leaves rest)))

abbrev pub reduced_arguments : (n number : ℕ) → (reduce : List Term → ℕ → Spent (List Term)) → (w : Term) → Option Built → ℕ → Spent Term
reduced_arguments n number reduce w None left = answered (Ok w) left
reduced_arguments n number reduce w (Some b) left =
    cond (is_constructor n number b)
    (and_next (reduce b.arguments left) (λ us rest. answered (bounded (at_arguments b us)) rest))
    (answered (Ok w) left)

abbrev mutual
  -- a term, with the head form at each constructor of a pattern
  pub reduced_by : Signature → Pat → Term → ℕ → Spent Term
  reduced_by S (pattern.Con n number pats) t left =
      and_next (whnf_of S true left t) (λ w rest. reduced_arguments n number (all_reduced S pats) w (built_of S w) rest)
  reduced_by S pat t left = answered (Ok t) left

  pub all_reduced : Signature → Pats → List Term → ℕ → Spent (List Term)
  all_reduced S (pattern.cons pat pats) (t ∷ terms) left =
      and_next (reduced_by S pat t left) (λ u rest.
      and_next (all_reduced S pats terms rest) (λ us end. answered (Ok (u ∷ us)) end))
  all_reduced S _ terms left = answered (Ok terms) left

-- the terms of a clause, reduced where the clause or the earlier one has a constructor
abbrev pub vector_of : Signature → (own earlier : Pats) → List Term → ℕ → Spent (List Term)
vector_of S own earlier terms left = and_next (all_reduced S own terms left) (all_reduced S earlier)

-- ---- the leaves of a clause

pub record TreeLeaf : Type 0 where
  pub context : Telescope
  pub goal : Term
  pub substitution : List Term
  pub terms : List Term
  pub binds : List Term

abbrev mutual
  -- those of the tree, in their order
  pub leaves_of : (clause : ℕ) → Tree → List TreeLeaf
  leaves_of clause (tree.Leaf number context goal substitution terms binds) =
      cond (number == clause)
      (record { context = context; goal = goal; substitution = substitution; terms = terms; binds = binds } ∷ []) []
  leaves_of clause (tree.Split context x n type branches) = leaves_below clause branches

  pub leaves_below : (clause : ℕ) → Branches → List TreeLeaf
  leaves_below clause tree.nil = []
  leaves_below clause (tree.cons branch branches) = leaves_in_branch clause branch ++ leaves_below clause branches

  pub leaves_in_branch : (clause : ℕ) → Branch → List TreeLeaf
  leaves_in_branch clause (tree.Absurd steps context u v) = []
  leaves_in_branch clause (tree.Solved steps origins subtree) = leaves_of clause subtree

-- the equation of a clause at a leaf
abbrev pub equation_at_leaf : Signature → Plan → (k clause : ℕ) → (order : List ℕ) → Walk → TreeLeaf → Result Equation Stop
equation_at_leaf S plan k clause order w l =
    equation_at S plan k (pats_of (part_at plan k) clause) (side_of (part_at plan k) clause)
    (leaf_site order w l.context l.goal l.substitution l.terms l.binds)

-- whether it converts at all of them
abbrev pub convert_at_all : Signature → Plan → (k clause : ℕ) → (order : List ℕ) → Walk → List TreeLeaf → ℕ → Reporting Bool
convert_at_all S plan k clause order w [] left = answers (Ok true) left
convert_at_all S plan k clause order w (l ∷ leaves) left =
    and_next (answers (or_halts (equation_at_leaf S plan k clause order w l)) left) (λ e rest.
    and_next (halting (convertible_of S nesting e.left e.right rest)) (λ holds end.
    cond holds (convert_at_all S plan k clause order w leaves end) (answers (Ok false) end)))
