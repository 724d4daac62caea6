use Rattle.std.proofs.Common.{Ok, ap, sym, refl, length, ◌∙◌, subst as transport}
use Rattle.std.proofs.lemmas.List.{length-map}
use Rattle.core_terms.specs.Answers.{Gives}
use Rattle.core_terms.specs.Meanings.{tree_of}
use Rattle.core_terms.proofs.Builders.{ok_is}
use Rattle.unification.specs.Rules.{level_of}
use Rattle.problems.specs.declared.moving.Solution.{Solution}
use Rattle.tree_translation.specs.Standings.{Standing}
use Rattle.run_terms.specs.StandingMeanings.{standing_of}
use Rattle.run_terms.proofs.SolvedStandings.{solved-by-is}
use Rattle.run_terms.proofs.replays.solved_by.Goals as goal

pub returns : goal.returns
returns c =
    let P : Standing → Type 0 = λ s. Gives standing_of c.solved_in.result (Ok s) in
    let size = c.in_ok-size.ensures.ok ∙ (ap length c.as_slice.ensures ∙ sym (length-map c.args.s.now.state.ctx tree_of)) in
    let solution : Solution =
    record { size = c.in_ok-size.size; order = c.as_slice-2.result; level = c.opposite.result; by = c.args.by } in
    transport P
    (solved-by-is (standing_of c.args.s.now) c.args.x (tree_of c.args.ty.now) (tree_of c.args.by.now) c.args.kept.now c.args.moved.now
    solution c.in_ok-count.count size (c.opposite.ensures ∙ ap (λ n. level_of n c.args.x) size)
    (c.as_slice-2.ensures ∙ ok_is c.in_ok-order.ensures) refl c.in_ok-count.ensures.ok)
    c.solved_in.ensures
