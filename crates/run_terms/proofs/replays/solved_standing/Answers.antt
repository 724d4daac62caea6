use Rattle.std.proofs.Common.{Ok, List, ℕ, ap, ◌∙◌, subst as transport}
use Rattle.core_terms.specs.Answers.{Gives}
use Rattle.core_terms.specs.Meanings.{tree_of}
use Rattle.core_terms.proofs.Builders.{ok_is}
use Rattle.run_terms.specs.CodeReplays.{kept_by, moved_by, solved_by}
use Rattle.run_terms.specs.StandingMeanings.{standing_of}
use Rattle.run_terms.proofs.replays.solved_standing.Goals as goal

pub returns : goal.returns
returns c =
    let s = standing_of c.args.s.now in
    let moved = c.as_slice-3.ensures ∙ ok_is c.in_ok-moved.ensures in
    let first = c.as_slice.ensures ∙ ok_is c.in_ok-moved.ensures in
    let kept = c.as_slice-2.ensures ∙ (ok_is c.in_ok-kept.ensures ∙ ap (kept_by s c.args.x) first) in
    let by : List ℕ → List ℕ → Type 0 = λ kept moved.
    Gives standing_of c.solved_by.result (Ok (solved_by s c.args.x (tree_of c.args.ty.now) (tree_of c.args.by.now) kept moved)) in
    transport (by (kept_by s c.args.x (moved_by s c.args.x))) moved (transport (λ kept. by kept c.as_slice-3.result.now) kept c.solved_by.ensures)
