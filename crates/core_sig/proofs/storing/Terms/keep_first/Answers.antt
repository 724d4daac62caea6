use Rattle.core_sig.proofs.StoredEntries.{stored-take}
use Rattle.core_sig.proofs.storing.Terms.keep_first.Goals as goal

pub returns : goal.returns
returns c = λ entries stored.
    let t = c.args.self.now in
    let mark = rw c.as_slice.ensures.value at c.mark_at.ensures in
    rw (c.release.ensures.cut, c.truncate.ensures.items, c.truncate-2.ensures.items)
    (stored-take t.pool.nodes entries t.ids.entries.items t.marks.items c.args.len c.mark_at.result stored mark)
