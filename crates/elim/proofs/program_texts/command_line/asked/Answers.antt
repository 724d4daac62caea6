use Rattle.std.proofs.Common.{◌≡◌, subst, map, string_bytes, Some}
use Rattle.elim.specs.program_texts.Words.{command}
use Rattle.elim.proofs.program_texts.AcceptedWords.{asked_in, asked_read, found}
use Rattle.elim.proofs.program_texts.command_line.asked.Goals as goal

pub matched-requires : goal.matched-requires
matched-requires c = (found (map string_bytes c.args.words.now) c.requires).finds.taken

pub returns-then-is_verify-clause-ok : goal.returns-then-is_verify-clause-ok
returns-then-is_verify-clause-ok c =
    let words = map string_bytes c.args.words.now in
    let read = asked_read words (found words c.requires) c.in_ok-matches.matches c.in_ok-matches.ensures.ok c.is_verify.result c.get_flag.result c.fuel.result
    c.is_verify.ensures.compile c.is_verify.ensures.verify c.get_flag.ensures.value c.get_flag.ensures.other c.fuel.ensures.none c.fuel.ensures.some in
    subst (λ v. asked_in v words ≡ Some (command c.get_flag.result c.fuel.result)) c.if-is_verify.true read

pub returns-clause-ok : goal.returns-clause-ok
returns-clause-ok c =
    let words = map string_bytes c.args.words.now in
    let read = asked_read words (found words c.requires) c.in_ok-matches.matches c.in_ok-matches.ensures.ok c.is_verify.result c.get_flag.result c.fuel.result
    c.is_verify.ensures.compile c.is_verify.ensures.verify c.get_flag.ensures.value c.get_flag.ensures.other c.fuel.ensures.none c.fuel.ensures.some in
    subst (λ v. asked_in v words ≡ Some (command c.get_flag.result c.fuel.result)) c.if-is_verify.false read
