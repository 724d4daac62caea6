use Rattle.std.proofs.Common.{◌≡◌, ◌≤◌, rules, ap, sym, ◌∙◌, subst as transport}
use Rattle.std.proofs.lemmas.List.{length-map}
use Rattle.core_terms.specs.Meanings.{tele_of, tree_of}
use Rattle.core_terms.proofs.Builders.{ok_is}
use Rattle.tree_translation.specs.Recursion.{ordered_telescope}
use Rattle.function_plans.proofs.Starts.{start-clauses, start-few, start-given, starts}
use Rattle.function_checks.specs.function_walks.WalkingMeanings.{walked_of}
use Rattle.problems.specs.Conditions.{most_levels}
use Rattle.function_plans.proofs.trees.tree_in_order.Goals as goal

pub tree_of_clauses-requires-clause-given : goal.tree_of_clauses-requires-clause-given
tree_of_clauses-requires-clause-given c =
    let same : c.as_slice.result.now ≡ c.args.w.now.part.tele = search rules in
    let start =
    starts c.args.s.sig.now (walked_of c.args.w.now) (tele_of c.in_ok-ctx.ctx) c.args.count c.args.order.now c.requires.own
    (c.requires.count ∙ sym (length-map c.args.w.now.part.tele tree_of)) c.requires.order
    (ok_is c.in_ok-ctx.ensures ∙ ap (λ types. ordered_telescope (tele_of types) c.args.order.now) same) in
    start-given c.args.s.sig.now (walked_of c.args.w.now) (tele_of c.in_ok-ctx.ctx) c.args.count c.args.order.now start (tree_of c.in_ok-goal.goal)
    (tele_of c.in_ok-terms.terms) (ok_is c.in_ok-goal.ensures) (ok_is c.in_ok-terms.ensures)

pub tree_of_clauses-requires-clause-clauses : goal.tree_of_clauses-requires-clause-clauses
tree_of_clauses-requires-clause-clauses c =
    let same : c.as_slice.result.now ≡ c.args.w.now.part.tele = search rules in
    let start =
    starts c.args.s.sig.now (walked_of c.args.w.now) (tele_of c.in_ok-ctx.ctx) c.args.count c.args.order.now c.requires.own
    (c.requires.count ∙ sym (length-map c.args.w.now.part.tele tree_of)) c.requires.order
    (ok_is c.in_ok-ctx.ensures ∙ ap (λ types. ordered_telescope (tele_of types) c.args.order.now) same) in
    start-clauses c.args.s.sig.now (walked_of c.args.w.now) (tele_of c.in_ok-ctx.ctx) c.args.count c.args.order.now start (tele_of c.in_ok-terms.terms)
    (ok_is c.in_ok-terms.ensures)

pub tree_of_clauses-requires-clause-few : goal.tree_of_clauses-requires-clause-few
tree_of_clauses-requires-clause-few c =
    let same : c.as_slice.result.now ≡ c.args.w.now.part.tele = search rules in
    let start =
    starts c.args.s.sig.now (walked_of c.args.w.now) (tele_of c.in_ok-ctx.ctx) c.args.count c.args.order.now c.requires.own
    (c.requires.count ∙ sym (length-map c.args.w.now.part.tele tree_of)) c.requires.order
    (ok_is c.in_ok-ctx.ensures ∙ ap (λ types. ordered_telescope (tele_of types) c.args.order.now) same) in
    transport (λ n. n ≤ most_levels) (length-map c.in_ok-ctx.ctx tree_of)
    (start-few c.args.s.sig.now (walked_of c.args.w.now) (tele_of c.in_ok-ctx.ctx) c.args.count c.args.order.now start)
