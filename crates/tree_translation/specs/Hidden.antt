-- Steps are over a context without its hidden variables. They are read over the whole context.
use Rattle.std.specs.Prelude.{ℕ, ◌+◌, ◌-◌, List, ◌++◌, length, get_or}
use Rattle.theory.specs.Terms.{Term}
use Rattle.core_terms.specs.CaseTrees.{Step}
use Rattle.core_terms.specs.declared.case_tree.Rule.{Rule}
use Rattle.core_terms.specs.declared.case_tree.Rule.TheVariants.{SolveRight, SolveLeft, Cycle}
use Rattle.unification.specs.Occurrences.{without}
use Rattle.tree_translation.specs.Standings.{placed, levels_from}

-- the levels of the variables that are not hidden, among n
abbrev pub visible : (n : ℕ) (hidden : List ℕ) → List ℕ
visible n hidden = without hidden (levels_from 0 n)

-- a term over these variables as one over all n
abbrev pub widened : (n : ℕ) (hidden : List ℕ) → Term → Term
widened n hidden t = placed (visible n hidden) n t

-- a term over these variables and k places after them, as one over all n and the places
abbrev pub widened_behind : (n : ℕ) (hidden : List ℕ) (k : ℕ) → Term → Term
widened_behind n hidden k t = placed (visible n hidden ++ levels_from n k) (n + k) t

-- the number of a variable
abbrev pub widened_number : (n : ℕ) (hidden : List ℕ) (x : ℕ) → ℕ
widened_number n hidden x =
    let levels = visible n hidden in
    n - (get_or levels (length levels - (x + 1)) 0 + 1)

abbrev pub widened_rule : (n : ℕ) (hidden : List ℕ) → Rule → Rule
widened_rule n hidden (SolveRight x) = SolveRight (widened_number n hidden x)
widened_rule n hidden (SolveLeft x) = SolveLeft (widened_number n hidden x)
widened_rule n hidden (Cycle x) = Cycle (widened_number n hidden x)
widened_rule n hidden rule = rule

-- a step in a context of n variables; its type follows the places of its group before the last one
abbrev pub widened_step : (n : ℕ) (hidden : List ℕ) → Step → Step
widened_step n hidden step = record {
  group = step.group;
  rule = widened_rule n hidden step.rule;
  ty = widened_behind n hidden (step.group - 1) step.ty;
  left = widened n hidden step.left;
  right = widened n hidden step.right;
}
