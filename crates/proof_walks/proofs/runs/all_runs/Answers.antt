use Rattle.std.proofs.Common.{Ok, length, sym}
use Rattle.std.proofs.lemmas.List.{length-map}
use Rattle.core_terms.specs.Meanings.{tree_of, tele_of}
use Rattle.clause_walks.proofs.RunCodes.{all-from}
use Rattle.proof_walks.proofs.SolvingRuns.{code-solves}
use Rattle.proof_walks.proofs.runs.all_runs.Goals as goal

pub run_from-requires-clause-constructors : goal.run_from-requires-clause-constructors
run_from-requires-clause-constructors c = all-from c.args.m.now c.as_slice-cons.result.now c.as_slice-cons.ensures

pub returns-in-Ok-clause-solving : goal.returns-in-Ok-clause-solving
returns-in-Ok-clause-solving c =
    code-solves c.args.sig.now (tele_of c.args.ctx.now) c.args.x c.args.m.now c.new.result c.as_slice-cons.result.now c.args.kernel.now.left
    c.run_from.new.kernel.left c.new.ensures c.as_slice-cons.ensures (length c.args.ctx.now) (Ok c.in-Ok.runs) c.requires.ready c.requires.context
    (sym (length-map c.args.ctx.now tree_of)) c.requires.variable c.requires.member c.in-Ok.ensures.answer
