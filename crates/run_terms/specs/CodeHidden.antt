-- Steps over variables that have such levels, as the code reads them over all of them.
use Rattle.std.specs.Prelude.{ℕ, ◌+◌, ◌-◌, List, ◌++◌, length, get_or}
use Rattle.theory.specs.Terms.{Term}
use Rattle.core_terms.specs.CaseTrees.{Step}
use Rattle.core_terms.specs.declared.case_tree.Rule.{Rule}
use Rattle.core_terms.specs.declared.case_tree.Rule.TheVariants.{SolveRight, SolveLeft, Cycle}
use Rattle.tree_translation.specs.Standings.{placed, levels_from}

-- a term after k places
abbrev pub placed_behind : (n : ℕ) (levels : List ℕ) (k : ℕ) → Term → Term
placed_behind n levels k t = placed (levels ++ levels_from n k) (n + k) t

-- the number of a variable
abbrev pub number_at : (n : ℕ) (levels : List ℕ) (x : ℕ) → ℕ
number_at n levels x = n - (get_or levels (length levels - (x + 1)) 0 + 1)

abbrev pub rule_at : (n : ℕ) (levels : List ℕ) → Rule → Rule
rule_at n levels (SolveRight x) = SolveRight (number_at n levels x)
rule_at n levels (SolveLeft x) = SolveLeft (number_at n levels x)
rule_at n levels (Cycle x) = Cycle (number_at n levels x)
rule_at n levels rule = rule

abbrev pub step_at : (n : ℕ) (levels : List ℕ) → Step → Step
step_at n levels step = record {
  group = step.group;
  rule = rule_at n levels step.rule;
  ty = placed_behind n levels (step.group - 1) step.ty;
  left = placed levels n step.left;
  right = placed levels n step.right;
}
