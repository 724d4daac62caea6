use Rattle.std.proofs.Common.{length}
use Rattle.core_sig.specs.Meanings.{entry_of}
use Rattle.core_text.specs.RawEntries.{entry_shown}
use Rattle.tree_cases.proofs.Entering.{can-enter}
use Rattle.tree_cases.proofs.comparing.is_entered.Goals as goal

pub enter_entry-requires-clause-entry : goal.enter_entry-requires-clause-entry
enter_entry-requires-clause-entry c =
    can-enter c.args.sig.now (entry_shown (length c.args.sig.now.entries) (entry_of c.args.entry)) c.requires.scoped
