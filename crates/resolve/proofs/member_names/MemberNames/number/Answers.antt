use Rattle.std.proofs.Common.{sym, ◌∙◌, arith}
use Rattle.resolve.proofs.MemberNumbers.{number-within}
use Rattle.resolve.proofs.member_names.MemberNames.number.Goals as goal

pub overflow_sub-result-in-Some : goal.overflow_sub-result-in-Some
overflow_sub-result-in-Some c =
    let low = number-within c.self.inside.names c.args.name.now c.in-Some.at (sym c.in-Some.is ∙ c.variable.ensures) in
    omega (arith, c.len.ensures)
