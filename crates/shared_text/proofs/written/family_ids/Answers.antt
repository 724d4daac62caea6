use Rattle.std.proofs.Common.{map, subst}
use Rattle.core_terms.specs.Meanings.{tele_of}
use Rattle.core_sig.specs.Raw.{raw_constructor_of, raw_of}
use Rattle.shared_text.specs.CodeMeanings.{AreIdsOf}
use Rattle.shared_text.proofs.WrittenIds.{family-ids}
use Rattle.shared_text.proofs.written.family_ids.Goals as goal

pub returns-clause-ids : goal.returns-clause-ids
returns-clause-ids c =
    let p = c.imported_all.new.pool in
    let r = c.imported_types.new.pool in
    family-ids p c.imported.new.pool r (record { params = c.in_ok-params.params; ty = c.in_ok-ty.ty; cons = c.in_ok-cons.cons }) (raw_of c.args.raw.now)
    c.in_ok-ty.ensures.extends c.in_ok-cons.ensures.extends (subst (λ ts. AreIdsOf p c.in_ok-params.params.items (tele_of ts)) c.as_slice.ensures c.in_ok-params.ensures.ids)
    c.in_ok-ty.ensures.live c.in_ok-ty.ensures.tree
    (subst (λ cs. AreIdsOf r c.in_ok-cons.cons.items (map (λ k. k.type) (map raw_constructor_of cs))) c.as_slice-2.ensures c.in_ok-cons.ensures.ids)
