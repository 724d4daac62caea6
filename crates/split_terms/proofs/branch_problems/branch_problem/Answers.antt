use Rattle.std.proofs.Common.{Ok, length, ap, sym, ◌∙◌, subst as transport}
use Rattle.std.proofs.lemmas.List.{length-map}
use Rattle.core_terms.specs.Answers.{Gives}
use Rattle.core_terms.specs.Meanings.{tele_of}
use Rattle.core_terms.proofs.Builders.{ok_is}
use Rattle.core_sig.specs.Meanings.{argument_of, constructor_of}
use Rattle.tele_eq.specs.Items.{items_of}
use Rattle.unification.specs.States.{Problem}
use Rattle.problems.specs.Meanings.{problem_of}
use Rattle.problems.specs.MemberMeanings.{member_meant}
use Rattle.split_terms.proofs.BranchParts.{parts-are}
use Rattle.split_terms.proofs.branch_problems.branch_problem.Goals as goal

pub returns : goal.returns
returns c =
    let m = c.args.m.now in
    let p = length m.family.now.params in
    let P : Problem → Type 0 = λ q. Gives problem_of c.problem_from.result (Ok q) in
    transport P
    (parts-are (tele_of c.args.node.now.ctx) c.args.x (member_meant m) c.args.number (constructor_of p c.args.con.now) c.in_ok-count.count
    _ (items_of c.in_ok-tele.tele) (tele_of c.in_ok-left.left)
    (c.in_ok-count.ensures.ok ∙ (ap length c.as_slice.ensures ∙ sym (length-map c.args.con.now.args (argument_of p))))
    (ap items_of c.as_slice-2.ensures ∙ ok_is c.in_ok-arguments.ensures)
    (ok_is c.in_ok-tele.ensures) (ok_is c.in_ok-left.ensures))
    c.problem_from.ensures
