use Rattle.std.proofs.Common.{Ok, List, ap, sym, length, ◌∙◌, subst as transport}
use Rattle.std.proofs.lemmas.List.{length-map}
use Rattle.core_terms.specs.Answers.{Gives}
use Rattle.core_terms.specs.Meanings.{tree_of}
use Rattle.core_terms.proofs.Builders.{ok_is}
use Rattle.unification.specs.States.{Equation}
use Rattle.run_terms.specs.StandingMeanings.{equations_of, state_of}
use Rattle.run_terms.proofs.SolvedStandings.{deleted-is}
use Rattle.run_terms.proofs.replays.after_deleted.Goals as goal

pub returns : goal.returns
returns c =
    let P : List Equation → Type 0 = λ equations. Gives equations_of c.moved_after_first.result (Ok equations) in
    transport P
    (deleted-is (state_of c.args.s.now) c.args.level c.in_ok-size.size (tree_of c.args.ty.now) (tree_of c.args.by.now) (tree_of c.in_ok-by.by)
    (tree_of c.in_ok-proof.proof)
    (c.in_ok-size.ensures.ok ∙ (ap length c.as_slice.ensures ∙ sym (length-map c.args.s.now.ctx tree_of)))
    (ok_is c.in_ok-by.ensures)
    (ok_is c.in_ok-proof.ensures))
    c.moved_after_first.ensures
