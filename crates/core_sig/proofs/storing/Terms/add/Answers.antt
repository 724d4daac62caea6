use Rattle.std.proofs.Common.{◌≡◌, ◌++◌, ◌∷◌, [], map, sym, ◌∙◌, subst, arith}
use Rattle.std.proofs.lemmas.Grind.{common_steps}
use Rattle.std.proofs.lemmas.List.{length-map}
use Rattle.term_pool.specs.Pools.{pool_held}
use Rattle.core_sig.specs.EntryIds.{StandsAt}
use Rattle.core_sig.specs.Meanings.{entry_of}
use Rattle.core_sig.proofs.Imports.{on_err}
use Rattle.core_sig.proofs.StoredEntries.{stored-push}
use Rattle.core_sig.proofs.storing.Terms.add.Goals as goal

pub returns-clause-ok : goal.returns-clause-ok
returns-clause-ok c =
    let t = c.args.self.now in
    let entries = map entry_of c.args.entries.now in
    let more_ids : c.push.new.self.items ≡ c.reserve.new.self.items ++ c.in_ok-id.id ∷ [] = grind (arith, common_steps) in
    let more_marks : c.push-2.new.self.items ≡ c.reserve-2.new.self.items ++ c.mark-mark.result ∷ [] = grind (arith, common_steps) in
    let ids : c.push.new.self.items ≡ t.ids.entries.items ++ c.in_ok-id.id ∷ [] = rw c.in_ok-reserve.ensures.items at more_ids in
    let marks : c.push-2.new.self.items ≡ t.marks.items ++ c.mark-mark.result ∷ [] = rw c.in_ok-reserve-2.ensures.items at more_marks in
    let at = subst (λ n. StandsAt (pool_held c.pooled_id.new.pool) entries n (entry_of c.args.entry.now) c.in_ok-id.id)
    (c.requires.number ∙ sym (length-map c.args.entries.now entry_of)) c.in_ok-id.ensures.id in
    rw (ids, marks)
    (stored-push t.pool c.pooled_id.new.pool entries t.ids.entries.items t.marks.items (entry_of c.args.entry.now) c.in_ok-id.id c.mark-mark.result
    c.requires.stored c.in_ok-id.ensures.extends c.in_ok-id.ensures.behind at c.mark-mark.ensures.len)

pub returns-in_err-id-clause-err : goal.returns-in_err-id-clause-err
returns-in_err-id-clause-err c = rw (c.in_err-id.ensures.kept, c.in_ok-reserve.ensures.items, c.in_ok-reserve-2.ensures.items) (on_err _ _ c.requires.stored)
