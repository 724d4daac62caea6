use Rattle.std.proofs.Common.{Ok, ℕ, subst as transport}
use Rattle.core_terms.specs.Answers.{Gives}
use Rattle.core_terms.specs.Meanings.{tree_of}
use Rattle.problems.specs.CodeMoves.{solved_equations}
use Rattle.run_terms.specs.StandingMeanings.{equations_of, state_of}
use Rattle.run_terms.proofs.replays.after_solved.Goals as goal

pub returns : goal.returns
returns c =
    let P : ℕ → Type 0 = λ depth.
    Gives equations_of c.after_solved_at.result
    (Ok (solved_equations (state_of c.args.s.now) c.args.level c.args.solution depth (tree_of c.args.ty.now))) in
    transport P c.in_ok-depth.ensures.ok c.after_solved_at.ensures
