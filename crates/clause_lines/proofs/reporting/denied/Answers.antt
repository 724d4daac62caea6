use Rattle.family_check.proofs.PreludeEntries.{identity-there}
use Rattle.clause_lines.proofs.reporting.denied.Goals as goal

pub shadowed-line-requires-clause-ready : goal.shadowed-line-requires-clause-ready
shadowed-line-requires-clause-ready c = record {
  scoped = c.requires.signature.settled.scoped;
  identities = λ i low. identity-there c.args.sig.now i c.requires.signature.prelude low;
}
