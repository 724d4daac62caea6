use Rattle.std.proofs.Common.{length, drop, ◌-◌, arith}
use Rattle.std.proofs.lemmas.List.{length-drop, length-take}
use Rattle.std.proofs.lemmas.Result.{err_from_is_err_and}
use Rattle.function_session.proofs.mutual_families.SliceAnswers.{definition-first, definitions-others, members-enter, members-stop}
use Rattle.function_session.proofs.mutual_families.entering.+enter_members.Goals as goal

pub enter_member-requires-clause-can : goal.enter_member-requires-clause-can
enter_member-requires-clause-can t c =
    definition-first c.args.sig.now c.args.members.now c.member-item.result c.in-len1-up.len_at_least c.member-item.is c.requires.can

pub enter_members-requires : goal.enter_members-requires
enter_members-requires t c =
    let members = c.args.members.now in
    let rest = length-take (length members - 1) (drop 1 members) in
    let less = length-drop 1 members in (
      omega arith,
      (
        c.in_ok-enter_member-in-len1-up.ensures.ready,
        definitions-others c.args.sig.now c.enter_member.new.sig members c.member-item.result c.in-len1-up.len_at_least c.member-item.is c.in_ok-enter_member-in-len1-up.ensures.longer c.requires.can,
      ),
    )

pub returns-in_ok-enter_member-in-len1-up-clause-answer : goal.returns-in_ok-enter_member-in-len1-up-clause-answer
returns-in_ok-enter_member-in-len1-up-clause-answer t c =
    members-enter c.args.sig.now c.enter_member.new.sig c.args.start c.args.fuel c.args.units.now.left c.enter_member.new.units.left c.enter_members.new.units.left _ c.args.members.now c.member-item.result
    c.enter_members.new.sig c.enter_members.result c.in-len1-up.len_at_least c.member-item.is c.in_ok-enter_member-in-len1-up.ensures.answer c.enter_members.ensures.answer

pub returns-in_err-enter_member-in-len1-up-clause-answer : goal.returns-in_err-enter_member-in-len1-up-clause-answer
returns-in_err-enter_member-in-len1-up-clause-answer t c =
    let q = err_from_is_err_and c.from_residual.result c.from_residual.ensures.1 in
    rw (q.1, q.2)
    (λ other.
    members-stop c.args.sig.now c.args.start c.args.fuel c.args.units.now.left c.enter_member.new.units.left c.args.members.now c.member-item.result _ c.in-len1-up.len_at_least c.member-item.is
    (c.in_err-enter_member-in-len1-up.ensures.answer other))
