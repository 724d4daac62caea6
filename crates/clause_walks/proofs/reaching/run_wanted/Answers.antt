use Rattle.std.proofs.Common.{length, subst as transport, arith}
use Rattle.core_terms.specs.Meanings.{tele_of}
use Rattle.clause_walks.specs.LookMeanings.{looked_of, runs_of}
use Rattle.clause_walks.specs.Stops.{Yields}
use Rattle.clause_walks.proofs.RunCodes.{code-wanted, one-from}
use Rattle.clause_walks.proofs.reaching.run_wanted.Goals as goal

pub run_from-requires-clause-constructors : goal.run_from-requires-clause-constructors
run_from-requires-clause-constructors c =
    one-from c.args.found.now.member c.args.number c.as_slice-cons.result.now c.as_slice-cons.ensures (omega (arith, c.if-at-cons.false))

pub returns-clause-answer : goal.returns-clause-answer
returns-clause-answer c =
    transport (Yields runs_of c.run_from.result c.run_from.new.kernel.left)
    (code-wanted c.args.sig.now c.args.clause (tele_of c.args.ctx.now) c.args.x (looked_of c.args.found.now) c.args.number
    (length c.args.found.now.member.family.now.params) c.as_slice-cons.result.now c.args.found.now.member.family.now.cons c.new.result c.args.kernel.now.left
    c.as_slice-cons.ensures (omega (arith, c.if-at-cons.false)) c.new.ensures)
    c.run_from.ensures.answer
