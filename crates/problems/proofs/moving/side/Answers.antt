use Rattle.std.proofs.Common.{ℕ, Ok, sym, subst as transport}
use Rattle.core_terms.specs.Answers.{Gives}
use Rattle.core_terms.specs.Meanings.{tree_of}
use Rattle.tele_eq.specs.Environments.{put}
use Rattle.problems.specs.CodeMoves.{solved_environment}
use Rattle.problems.specs.Conditions.{AreSides}
use Rattle.problems.specs.declared.moving.Sides.{Sides}
use Rattle.problems.proofs.moving.side.Goals as goal

pub returns-in-Solved : goal.returns-in-Solved
returns-in-Solved c =
    let P : Sides → Type 0 = λ s. AreSides c.args.n s in
    let sides = transport P c.in-Solved.is c.requires.sides in
    let Q : ℕ → Type 0 =
    λ size. Gives tree_of c.put.result (Ok (put (solved_environment c.in-Solved.solution) size c.in-Solved.depth (tree_of c.args.t.now))) in
    rw c.in-Solved.is (transport Q (sym sides.1) c.put.ensures)
