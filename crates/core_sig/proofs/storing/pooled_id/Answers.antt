use Rattle.term_pool.proofs.Regions.{nodes-stay}
use Rattle.core_sig.proofs.StoredEntries.{keeps}
use Rattle.core_sig.proofs.storing.pooled_id.Goals as goal

pub entry_id-requires-clause-number : goal.entry_id-requires-clause-number
entry_id-requires-clause-number c = c.requires.number

pub entry_id-requires-clause-kinds : goal.entry_id-requires-clause-kinds
entry_id-requires-clause-kinds c = c.requires.kinds

pub entry_id-requires-clause-own : goal.entry_id-requires-clause-own
entry_id-requires-clause-own c = c.requires.own

pub entry_id-requires-clause-can : goal.entry_id-requires-clause-can
entry_id-requires-clause-can c = c.requires.can

pub returns-in-Ok-clause-id : goal.returns-in-Ok-clause-id
returns-in-Ok-clause-id c = c.in-Ok.ensures.id

pub returns-in-Ok-clause-extends : goal.returns-in-Ok-clause-extends
returns-in-Ok-clause-extends c = c.entry_id.ensures.extends

pub returns-in-Ok-clause-behind : goal.returns-in-Ok-clause-behind
returns-in-Ok-clause-behind c =
    nodes-stay c.args.pool.now c.entry_id.new.store c.mark-before.ensures.whole c.mark-whole.ensures.whole (keeps _ _ c.entry_id.ensures.extends)

pub returns-in-Err-clause-kept : goal.returns-in-Err-clause-kept
returns-in-Err-clause-kept c =
    c.release.ensures.back c.args.pool.now c.mark-before.ensures.len c.mark-before.ensures.whole (keeps _ _ c.entry_id.ensures.extends)
