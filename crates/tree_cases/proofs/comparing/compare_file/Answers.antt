use Rattle.elab_session.proofs.PreludeReady.{prelude-ready}
use Rattle.tree_cases.proofs.comparing.compare_file.Goals as goal

pub compare_entries-requires-clause-ready : goal.compare_entries-requires-clause-ready
compare_entries-requires-clause-ready c = prelude-ready c.in-Ok-prelude.sig _ c.in-Ok-prelude.ensures.ok
