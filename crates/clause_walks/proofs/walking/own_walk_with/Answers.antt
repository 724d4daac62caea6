use Rattle.core_terms.specs.Meanings.{tree_of, tele_of}
use Rattle.core_terms.specs.PatternMeanings.{clause_of}
use Rattle.clause_walks.proofs.WalkScopes.{code-scoped, code-stop-scoped}
use Rattle.clause_walks.proofs.walking.own_walk_with.Goals as goal

pub returns-clause-scoped : goal.returns-clause-scoped
returns-clause-scoped c =
    code-scoped c.args.sig.now (tele_of c.args.ctx.now) (tree_of c.args.goal.now) (tele_of c.args.terms.now) (clause_of c.args.clause.now) c.args.number c.args.kernel.now.left
    c.walk_of_clause.new.kernel.left c.walk_of_clause.result c.requires.given c.requires.clause c.walk_of_clause.ensures.answer

pub returns-clause-scoped_stop : goal.returns-clause-scoped_stop
returns-clause-scoped_stop c =
    code-stop-scoped c.args.sig.now (tele_of c.args.ctx.now) (tree_of c.args.goal.now) (tele_of c.args.terms.now) (clause_of c.args.clause.now) c.args.number c.args.kernel.now.left
    c.walk_of_clause.new.kernel.left c.walk_of_clause.result c.requires.given c.requires.clause c.walk_of_clause.ensures.answer
