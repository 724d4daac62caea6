use Rattle.family_check.proofs.PreludeEntries.{identity-there}
use Rattle.tree_cases.proofs.running.take_declaration.Goals as goal

pub add_function-requires-clause-ready : goal.add_function-requires-clause-ready
add_function-requires-clause-ready c = record {
  scoped = c.requires.settled.scoped;
  identities = λ i low. identity-there c.args.sig.now i c.requires.prelude low;
}
