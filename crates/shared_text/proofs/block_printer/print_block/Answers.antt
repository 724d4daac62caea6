use Rattle.std.proofs.Common.{◌≡◌, option_map, option_copied, ap, sym, ◌∙◌, subst}
use Rattle.theory.proofs.Lists.{some_is}
use Rattle.core_terms.specs.Answers.{Gives}
use Rattle.core_sig.specs.Meanings.{entry_of}
use Rattle.core_text.specs.RawEntries.{entry_shown}
use Rattle.shared_text.specs.BlockText.{low_block}
use Rattle.shared_text.proofs.BlocksOfLines.{instance-block}
use Rattle.shared_text.proofs.block_printer.print_block.Goals as goal

pub returns-in-Elim : goal.returns-in-Elim
returns-in-Elim c = λ e is.
    let S = c.args.sig.now in
    let n = c.args.at in
    let x = c.unwrap.result.now in
    let same : entry_of x ≡ e = some_is (sym (ap (λ o. option_map entry_of (option_copied o)) c.unwrap.ensures) ∙ (c.entry.ensures.entry ∙ is)) in
    subst (λ y. Gives (λ text. text) c.print_entry.result (low_block S (entry_shown n y))) same
    (subst (Gives (λ text. text) c.print_entry.result) (instance-block S n x c.in-Elim.is)
    (c.print_entry.ensures (entry_of x) (sym c.entry.ensures.entry ∙ ap (λ o. option_map entry_of (option_copied o)) c.unwrap.ensures)))
