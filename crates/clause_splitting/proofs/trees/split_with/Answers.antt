use Rattle.core_terms.specs.Meanings.{tree_of, tele_of}
use Rattle.core_terms.specs.PatternMeanings.{clauses_of}
use Rattle.core_terms.specs.TreeMeanings.{case_tree_of}
use Rattle.core_terms.proofs.Answers.{spends-has}
use Rattle.case_trees.specs.Scoped.{IsScopedTree}
use Rattle.case_trees.specs.Trees.{split_of}
use Rattle.case_trees.proofs.TreeStanding.{tree_scoped, tree_stop_scoped}
use Rattle.clause_walks.specs.Stops.{IsUnforeseen, stop_of}
use Rattle.clause_splitting.proofs.SplitCodes.{denied-scoped}
use Rattle.clause_splitting.proofs.trees.split_with.Goals as goal

pub returns-clause-scoped : goal.returns-clause-scoped
returns-clause-scoped c =
    let S = c.args.sig.now in
    let context = tele_of c.args.ctx.now in
    let terms = tele_of c.args.terms.now in
    let clauses = clauses_of c.args.clauses.now in
    spends-has IsUnforeseen stop_of case_tree_of (IsScopedTree S) c.grow_all.result c.grow_all.new.kernel.left
    (split_of S context (tree_of c.args.goal.now) terms clauses c.args.kernel.now.left) (rw (c.as_slice.ensures, c.as_slice-2.ensures, c.as_slice-3.ensures) at c.grow_all.ensures.answer)
    (tree_scoped S context (tree_of c.args.goal.now) terms clauses c.args.kernel.now.left c.requires.given c.requires.clauses)

pub returns-clause-scoped_stop : goal.returns-clause-scoped_stop
returns-clause-scoped_stop c =
    let S = c.args.sig.now in
    let context = tele_of c.args.ctx.now in
    let terms = tele_of c.args.terms.now in
    let clauses = clauses_of c.args.clauses.now in
    denied-scoped S case_tree_of c.grow_all.result c.grow_all.new.kernel.left
    (split_of S context (tree_of c.args.goal.now) terms clauses c.args.kernel.now.left) (rw (c.as_slice.ensures, c.as_slice-2.ensures, c.as_slice-3.ensures) at c.grow_all.ensures.answer)
    (λ e is. tree_stop_scoped S context (tree_of c.args.goal.now) terms clauses c.args.kernel.now.left e c.requires.given c.requires.clauses is)
