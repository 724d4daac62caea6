-- A function over a pair of positions, of which its entries are made.
use Rattle.std.specs.Prelude.{ℕ, Some, List, [], ◌∷◌, length, Result}
use Rattle.theory.specs.Terms.{Term}
use Rattle.theory.specs.Telescopes.{variables}
use Rattle.theory.specs.Signatures.{Signature}
use Rattle.core_terms.specs.CaseTrees.{Tree}
use Rattle.core_terms.specs.declared.stop.Stop.{Stop}
use Rattle.core_sig.specs.Drafts.{Draft}
use Rattle.core_sig.specs.Meanings.{domains}
use Rattle.tree_translation.specs.Plans.{Part, Plan}
use Rattle.lex_recursion.specs.PairEntries.{pair_entries}

-- A function without helpers: its name, its written type, the number of its patterns, its level, its positions, its goal over the
-- telescope, its tree over the pair order, and a right side for each clause. In these the function is the constant after all entries.
pub record PairPlan : Type 0 where
  pub name : List ℕ
  pub type : Term
  pub arity : ℕ
  pub level : ℕ
  pub first : ℕ
  pub second : ℕ
  pub goal : Term
  pub tree : Tree
  pub sides : List Term

-- the function's own part; the walks and the patterns of its clauses are read nowhere
abbrev pub part_over : PairPlan → Part
part_over p = record {
  level = p.level;
  tele = domains p.arity p.type;
  terms = variables p.arity;
  goal = p.goal;
  tree = p.tree;
  sides = p.sides;
  walks = [];
  pats = [];
}

-- as a plan over `base` entries
abbrev pub plan_over : (base : ℕ) → PairPlan → Plan
plan_over base p = record {
  base = base;
  name = p.name;
  type = p.type;
  arity = p.arity;
  level = p.level;
  position = Some p.first;
  parts = part_over p ∷ [];
}

-- its entries, over a signature
abbrev pub entries_of : Signature → PairPlan → Result (List Draft) Stop
entries_of S p = pair_entries S (plan_over (length S.entries) p) p.second
