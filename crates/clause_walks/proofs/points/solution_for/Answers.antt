use Rattle.std.proofs.Common.{length, take, sym, ap, ◌∙◌}
use Rattle.std.proofs.lemmas.List.{length-map, take-map}
use Rattle.core_terms.specs.Meanings.{tree_of, tele_of}
use Rattle.clause_walks.proofs.points.solution_for.Goals as goal

pub returns-then-count-solution : goal.returns-then-count-solution
returns-then-count-solution c =
    sym (take-map tree_of (length c.as_slice-count.result.now) c.args.solution.now)
    ∙ ap (λ n. take n (tele_of c.args.solution.now)) (ap length c.as_slice-count.ensures ∙ sym (length-map c.args.p.now.context tree_of))
