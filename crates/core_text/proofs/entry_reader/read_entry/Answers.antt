use Rattle.std.proofs.Common.{length}
use Rattle.core_text.proofs.ReadClauses.{given, given-in}
use Rattle.core_text.proofs.entry_reader.read_entry.Goals as goal

pub returns-clause-unknown : goal.returns-clause-unknown
returns-clause-unknown c =
    given-in c.entry_after.result (λ p g. g.names.unknown)
    (given c.args.sig.now c.args.text.now c.args.from (length c.args.sig.now.entries) c.entry_after.result c.requires c.entry_after.ensures.read)

pub returns-clause-distinct : goal.returns-clause-distinct
returns-clause-distinct c =
    given-in c.entry_after.result (λ p g. g.names.distinct)
    (given c.args.sig.now c.args.text.now c.args.from (length c.args.sig.now.entries) c.entry_after.result c.requires c.entry_after.ensures.read)

pub returns-clause-scoped : goal.returns-clause-scoped
returns-clause-scoped c =
    given-in c.entry_after.result (λ p g. g.readable)
    (given c.args.sig.now c.args.text.now c.args.from (length c.args.sig.now.entries) c.entry_after.result c.requires c.entry_after.ensures.read)

pub returns-clause-forward : goal.returns-clause-forward
returns-clause-forward c =
    given-in c.entry_after.result (λ p g. g.forward)
    (given c.args.sig.now c.args.text.now c.args.from (length c.args.sig.now.entries) c.entry_after.result c.requires c.entry_after.ensures.read)

pub returns-clause-within : goal.returns-clause-within
returns-clause-within c =
    given-in c.entry_after.result (λ p g. g.within)
    (given c.args.sig.now c.args.text.now c.args.from (length c.args.sig.now.entries) c.entry_after.result c.requires c.entry_after.ensures.read)
