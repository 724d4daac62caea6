use Rattle.std.proofs.Common.{◌≡◌, ◌-◌, ◌≤◌, Some, Ok, length, slice_get, refl, ap, sym, ◌∙◌, subst as transport}
use Rattle.std.proofs.lemmas.Bool.{ltb-false}
use Rattle.std.proofs.lemmas.Option.{slice_get_read}
use Rattle.core_terms.specs.Answers.{Gives}
use Rattle.function_session.proofs.mutual_families.SliceAnswers.{name-here, name-later}
use Rattle.function_session.proofs.mutual_families.refusing.+constructor_name.Goals as goal

pub returns-in_ok-copy_name-in-Some : goal.returns-in_ok-copy_name-in-Some
returns-in_ok-copy_name-in-Some t c =
    let there = transport (λ cons. slice_get cons c.args.number ≡ Some c.in-Some.con.now) c.as_slice-cons.ensures
    (slice_get_read c.as_slice-cons.result.now _ c.args.number c.in-Some.con.now refl c.in-Some.ensures.lookup.3.0 c.in-Some.ensures.lookup.1) in
    ap Ok (c.in_ok-copy_name-in-Some.ensures ∙ name-here c.args.members.now c.member-item.result c.args.number c.in-Some.con.now c.in-len1-up.len_at_least c.member-item.is there)

pub returns-in-None : goal.returns-in-None
returns-in-None t c =
    let past = ltb-false c.args.number (length c.as_slice-cons.result.now) (sym c.in-None.ensures.lookup.0) in
    let high = transport (λ cons. length cons ≤ c.args.number) c.as_slice-cons.ensures past in
    transport (λ name. Gives (λ name. name) c.constructor_name.result (Ok name))
    (name-later c.args.members.now c.member-item.result c.args.number _ c.in-len1-up.len_at_least c.member-item.is high
    (c.saturating_sub.ensures ∙ ap (λ cons. c.args.number - length cons) c.as_slice-cons.ensures))
    c.constructor_name.ensures
