use Rattle.std.proofs.Common.{◌≡◌, ◌∙◌, ap, map, string_bytes, true}
use Rattle.clap.specs.Words.{is_simple, matches_of, takes}
use Rattle.clap.specs.declared.error.kind.ErrorKind.TheVariants.{OutOfMemory}
use Rattle.clap.proofs.WalkLemmas.{both}
use Rattle.elim.specs.program_texts.CommandLine.{command_line}
use Rattle.elim.proofs.program_texts.command_line.matched.Goals as goal

pub prove-unreachable-requires : goal.prove-unreachable-requires
prove-unreachable-requires c =
    let kind_is : c.kind.result ≡ OutOfMemory =
    c.kind.ensures ∙ c.in-Err.ensures.passes (ap (λ a. takes a (map string_bytes c.args.words.now)) c.in_ok-command_line.ensures ∙ c.requires) in
    let same = rw kind_is at c.eq-is_memory.ensures in
    let denied = c.if-prove.true in
    cc

pub returns-in-Ok-clause-ok : goal.returns-in-Ok-clause-ok
returns-in-Ok-clause-ok c =
    let app_is = c.in_ok-command_line.ensures in
    let simple : is_simple command_line ≡ true = (both _ _ c.requires).0 in
    (c.in-Ok.ensures.matches (ap is_simple app_is ∙ simple)).0 ∙ ap (λ a. matches_of a (map string_bytes c.args.words.now)) app_is
