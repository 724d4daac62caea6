use Rattle.std.proofs.Common.{Ok, length, sym, ap, ap₂, ◌∙◌, subst as transport, arith}
use Rattle.std.proofs.lemmas.List.{length-map}
use Rattle.core_terms.specs.Answers.{Gives}
use Rattle.core_terms.specs.Meanings.{tele_of}
use Rattle.core_sig.specs.Meanings.{argument_of, constructor_of}
use Rattle.tele_eq.specs.Items.{items_of}
use Rattle.problems.specs.Conditions.{AreOver, most_depth}
use Rattle.problems.specs.Meanings.{problem_of as problem_meant}
use Rattle.problems.proofs.KnownRecords.{over-more}
use Rattle.problems.specs.MemberConditions.{most_params}
use Rattle.problems.specs.MemberMeanings.{member_meant}
use Rattle.problems.specs.ProblemsMade.{problem_of_parts}
use Rattle.problems.proofs.ProblemCodes.{parts-made}
use Rattle.problems.proofs.members.few_problem.Goals as goal

pub problem_from-requires-clause-indices : goal.problem_from-requires-clause-indices
problem_from-requires-clause-indices c =
    transport (λ ts. AreOver most_depth (tele_of ts)) (sym c.as_slice-indices.ensures)
    (over-more most_params most_depth (tele_of c.args.m.now.indices) (omega arith) (omega arith) c.requires.indices)

pub returns : goal.returns
returns c =
    let context = tele_of c.args.ctx.now in
    let m = c.args.m.now in
    let count = length c.as_slice.result.now in
    let con = constructor_of (length m.family.now.params) c.args.con.now in
    transport (Gives problem_meant c.problem_from.result)
    (ap₂ (λ is args. Ok (problem_of_parts context c.args.x count (tele_of is) (items_of args) (items_of c.in_ok-tele.tele) (tele_of c.in_ok-left.left)))
    c.as_slice-indices.ensures c.as_slice-2.ensures
    ∙ parts-made context c.args.x (member_meant m) c.args.number con (items_of c.in_ok-arguments.arguments) (items_of c.in_ok-tele.tele) (tele_of c.in_ok-left.left) count
    c.in_ok-arguments.ensures c.in_ok-tele.ensures c.in_ok-left.ensures
    (ap length c.as_slice.ensures ∙ sym (length-map c.args.con.now.args (argument_of (length m.family.now.params)))))
    c.problem_from.ensures
