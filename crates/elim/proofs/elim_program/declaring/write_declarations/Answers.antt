use Rattle.std.proofs.Common.{arith}
use Rattle.elim.proofs.elim_program.Writing.{failed_next, refused_next, accepted_next}
use Rattle.elim.proofs.elim_program.declaring.write_declarations.Goals as goal

pub returns-in-Err-clause-written : goal.returns-in-Err-clause-written
returns-in-Err-clause-written g c =
    failed_next _ _ _ _ _ _ _ _ c.decls-test.true c.d-item.is c.decls.invariant.writing c.in-Err.status c.in-Err.ensures.written

pub returns-then-refused-clause-written : goal.returns-then-refused-clause-written
returns-then-refused-clause-written g c =
    refused_next _ _ _ _ _ _ _ _ c.decls-test.true c.d-item.is c.decls.invariant.writing c.in-Ok.refused c.if-refused.true c.in-Ok.ensures.written

pub decls-preserved : goal.decls-preserved
decls-preserved g c = record {
  writing = accepted_next _ _ _ _ _ _ _ _ c.decls-test.true c.d-item.is c.decls.invariant.writing c.in-Ok.refused c.if-refused.false c.in-Ok.ensures.written _ c.in-Ok.ensures.after;
  never_falls = omega (arith, c.decls.invariant.never_falls, c.in-Ok.ensures.never_falls);
}
