use Rattle.std.proofs.Common.{[], ◌∷◌, ap, ap₂, sym, ◌∙◌}
use Rattle.term_pool.specs.Pools.{pool_held}
use Rattle.shared_text.specs.CodeMeanings.{trees}
use Rattle.shared_text.specs.Walks.{meet_all}
use Rattle.shared_text.proofs.SharedIds.{met-nothing, walked}
use Rattle.shared_text.proofs.WalkLaws.{met-append}
use Rattle.shared_text.proofs.block_writer.met_in_family.Goals as goal

pub returns-clause-walked : goal.returns-clause-walked
returns-clause-walked c =
    let p = c.args.pool.now in
    let ids = c.args.ids.now in
    let none = met-nothing p c.nothing_met-met.result c.nothing_met-met.ensures.found c.nothing_met-met.ensures.again in
    let first = c.in_ok-meet_all.ensures.walked ∙ ap₂ (λ xs w. meet_all (trees p xs) w) c.as_slice.ensures.value none in
    let second = c.in_ok-meet_all-2.ensures.walked ∙ ap (meet_all ((pool_held p).tree ids.ty ∷ [])) first in
    let third = c.in_ok-meet_all-3.ensures.walked ∙ ap₂ (λ xs w. meet_all (trees p xs) w) c.as_slice-2.ensures.value second in
    third ∙ sym (met-append (trees p ids.params.items) ((pool_held p).tree ids.ty ∷ trees p ids.cons.items) (walked [] []))
