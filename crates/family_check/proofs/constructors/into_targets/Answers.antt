use Rattle.std.proofs.Common.{Ok, drop, sym, ap, ◌∙◌}
use Rattle.std.proofs.lemmas.List.{drop-map}
use Rattle.core_terms.specs.Meanings.{tree_of, tele_of}
use Rattle.family_check.proofs.CallOutcomes.{given_list}
use Rattle.family_check.proofs.constructors.into_targets.Goals as goal

pub returns : goal.returns
returns c =
    ap (λ ts. Ok ts)
    (ap tele_of (c.from_vec.ensures ∙ c.in_ok-split_off.ensures.tail)
    ∙ (sym (drop-map tree_of c.args.count c.in_ok-spine.spine.items)
    ∙ ap (drop c.args.count) (given_list _ _ c.in_ok-spine.ensures)))
