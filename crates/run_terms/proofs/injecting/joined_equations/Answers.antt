use Rattle.std.proofs.Common.{Ok, List, length, ap, sym, ◌+◌, ◌∙◌, subst as transport}
use Rattle.std.proofs.lemmas.List.{length-map}
use Rattle.core_terms.specs.Answers.{Gives}
use Rattle.core_terms.specs.Meanings.{tree_of, tele_of}
use Rattle.core_terms.proofs.Builders.{ok_is}
use Rattle.tele_eq.specs.Items.{items_of}
use Rattle.unification.specs.States.{Equation}
use Rattle.run_terms.specs.StandingMeanings.{equations_of, state_of}
use Rattle.run_terms.proofs.JoinedEquations.{joined-are, made-only}
use Rattle.run_terms.proofs.injecting.joined_equations.Goals as goal

pub returns : goal.returns
returns c =
    let P : List Equation → Type 0 = λ es. Gives equations_of c.with_moved.result (Ok es) in
    transport P
    (joined-are (state_of c.args.s.now) c.args.group c.in_ok-size.size c.in_ok-depth.depth (items_of c.args.tele.now) (tele_of c.args.types.now)
    (tele_of c.args.left.now) (tele_of c.args.right.now) (tele_of c.args.terms.now) (tele_of c.args.proofs.now) (equations_of c.in_ok-made.made)
    (c.in_ok-size.ensures.ok ∙ (ap length c.as_slice.ensures ∙ sym (length-map c.args.s.now.ctx tree_of)))
    (c.in_ok-depth.ensures.ok ∙ ap (λ k. c.in_ok-size.size + k) (c.in_ok-number_of.ensures.ok ∙ sym (length-map c.args.types.now tree_of)))
    (made-only c.new.result _ (equations_of c.in_ok-made.made) c.new.ensures (ok_is c.in_ok-made.ensures)))
    c.with_moved.ensures
