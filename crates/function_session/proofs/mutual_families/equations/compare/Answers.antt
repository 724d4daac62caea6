use Rattle.core_terms.specs.Meanings.{tree_of}
use Rattle.function_session.proofs.mutual_families.CallAnswers.{compared, not-compared}
use Rattle.function_session.proofs.mutual_families.equations.compare.Goals as goal

pub returns-in-Ok-clause-answer : goal.returns-in-Ok-clause-answer
returns-in-Ok-clause-answer c =
    compared c.args.sig.now c.args.kernel.now.signature c.args.fuel _ c.args.kernel.now.left (tree_of c.args.left.now) (tree_of c.args.right.now) c.in-Ok.equal c.requires.kernel c.in-Ok.ensures.answer

pub returns-in-Err-clause-answer : goal.returns-in-Err-clause-answer
returns-in-Err-clause-answer c =
    not-compared c.args.sig.now c.args.kernel.now.signature c.args.fuel _ c.args.kernel.now.left (tree_of c.args.left.now) (tree_of c.args.right.now) c.in-Err.stop c.stopped.result c.requires.kernel c.in-Err.ensures.answer c.stopped.ensures
