use Rattle.clause_walks.specs.OpenPairs.{all_open_of}
use Rattle.clause_walks.proofs.LookCodes.{code-reached}
use Rattle.clause_walks.proofs.looking.first_found.Goals as goal

pub returns-clause-reached : goal.returns-clause-reached
returns-clause-reached c =
    code-reached c.args.sig.now c.args.own c.args.clause c.args.ctx.now (all_open_of c.args.pairs.now) c.look_from.result c.args.kernel.now.left
    c.look_from.new.kernel.left c.requires.ready c.requires.context c.requires.pairs c.look_from.ensures.answer
