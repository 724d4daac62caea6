use Rattle.std.proofs.Common.{◌++◌, ap, ◌∙◌}
use Rattle.elim.specs.elim_program.WorkTexts.{numbered}
use Rattle.elim.proofs.elim_program.WorkLines.{on_text}
use Rattle.elim.proofs.elim_program.work_texts.+write_text.Goals as goal

pub returns : goal.returns
returns t c =
    on_text c.write_text.result c.args.from c.args.count _ _ _ c.if-count-eq0.false
    (c.in_ok-write_numbered.ensures ∙ ap (λ text. c.args.out.now.items ++ numbered c.args.from text) c.template.ensures) c.write_text.ensures
