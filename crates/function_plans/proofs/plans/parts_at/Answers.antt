use Rattle.std.proofs.Common.{◌≡◌, rules, length, option_map, sym, subst as transport}
use Rattle.std.proofs.lemmas.List.{length-map}
use Rattle.std.specs.Option.{option_copied}
use Rattle.core_terms.specs.Meanings.{tele_of, tree_of}
use Rattle.function_plans.proofs.Orders.{found-ordered}
use Rattle.leaf_terms.specs.RecursionMeanings.{recursion_of}
use Rattle.tree_translation.specs.structural_rec.Laws.{IsTelescopeOrder}
use Rattle.tree_translation.specs.Recursion as recursion
use Rattle.function_plans.proofs.plans.parts_at.Goals as goal

pub all_parts-requires-clause-order : goal.all_parts-requires-clause-order
all_parts-requires-clause-order c =
    let same : option_map recursion_of (option_copied c.as_ref.result) ≡ option_map recursion_of c.in_ok-r.r = search rules in
    transport (λ o. IsTelescopeOrder (tele_of c.args.w.part.tele) (recursion.order_of (length c.args.w.part.tele) o)) (sym same)
    (transport (λ n. IsTelescopeOrder (tele_of c.args.w.part.tele) (recursion.order_of n (option_map recursion_of c.in_ok-r.r))) (length-map c.args.w.part.tele tree_of)
    (found-ordered c.args.s.sig.now (tele_of c.args.w.part.tele) c.args.position (option_map recursion_of c.in_ok-r.r) (search rules)))
