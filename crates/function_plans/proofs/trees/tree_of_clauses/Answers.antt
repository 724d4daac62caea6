use Rattle.core_terms.specs.Meanings.{tree_of, tele_of}
use Rattle.core_terms.specs.PatternMeanings.{clauses_of}
use Rattle.case_trees.specs.Trees.{split_of}
use Rattle.function_checks.proofs.function_refusals.EndedTrees.{ended-elaborates}
use Rattle.function_plans.proofs.trees.tree_of_clauses.Goals as goal

pub returns-in-Err-clause-answer : goal.returns-in-Err-clause-answer
returns-in-Err-clause-answer c =
    ended-elaborates c.args.sig.now c.args.function.now c.in-Err.stop c.ended.result c.split_with.new.kernel.left
    (split_of c.args.sig.now (tele_of c.args.ctx.now) (tree_of c.args.goal.now) (tele_of c.args.terms.now) (clauses_of c.args.clauses.now)
    c.args.kernel.now.left)
    c.ended.ensures.answer c.ended.ensures.memory c.in-Err.ensures.answer
