use Rattle.std.proofs.Common.{Ok, List, ℕ, ◌∙◌, subst as transport}
use Rattle.core_terms.specs.Answers.{Gives}
use Rattle.core_terms.specs.Meanings.{tree_of}
use Rattle.core_terms.proofs.Builders.{ok_is}
use Rattle.run_terms.specs.CodeSolutions.{solution_by}
use Rattle.run_terms.specs.StandingMeanings.{standing_of}
use Rattle.run_terms.proofs.solution_terms.solution_term.Goals as goal

pub returns : goal.returns
returns c =
    let P : List ℕ → Type 0 = λ moved.
    Gives tree_of c.solution_by.result
    (Ok (solution_by (tree_of c.args.head) (standing_of c.args.s.now) c.args.x moved c.args.on_right (tree_of c.args.ty.now)
    (tree_of c.args.by.now) (standing_of c.args.next.now) (tree_of c.args.inner))) in
    transport P (c.as_slice-moved.ensures ∙ ok_is c.in_ok-moved.ensures) c.solution_by.ensures
