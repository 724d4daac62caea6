use Rattle.std.proofs.Common.{ℕ, sym, subst as transport}
use Rattle.core_terms.specs.Meanings.{tree_of, tele_of}
use Rattle.core_terms.specs.PatternMeanings.{clauses_of}
use Rattle.core_terms.specs.TreeMeanings.{case_tree_of}
use Rattle.kernel_check.specs.Kernels.{Kernel}
use Rattle.case_trees.specs.Trees.{split_of}
use Rattle.clause_walks.specs.Stops.{Yields}
use Rattle.clause_splitting.proofs.trees.split.Goals as goal

pub returns-clause-answer : goal.returns-clause-answer
returns-clause-answer c =
    let P : ℕ → Kernel → Type 0 = λ left k. Yields case_tree_of c.split_with-made.result left
    (split_of c.args.sig.now (tele_of c.args.ctx.now) (tree_of c.args.goal.now) (tele_of c.args.terms.now) (clauses_of c.args.clauses.now) k.left) in
    transport (P c.into_units.result.left) c.new-kernel.ensures
    (transport (λ left. P left c.new-kernel.result) (sym c.into_units.ensures.left) c.split_with-made.ensures.answer)
