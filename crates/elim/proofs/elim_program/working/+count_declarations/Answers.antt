use Rattle.elim.proofs.elim_program.WorkLines.{refused_first}
use Rattle.elim.proofs.elim_program.working.+count_declarations.Goals as goal

pub returns-in_ok-block-in-Err : goal.returns-in_ok-block-in-Err
returns-in_ok-block-in-Err t c =
    refused_first c.args.session.now c.args.decls.now c.first-item.result c.args.counts c.in-Err.refusal c.in_ok-block-in-Err.block
    c.declared_name.result.now c.in-len1-up.len_at_least c.first-item.is c.declared_name.ensures c.in_ok-block-in-Err.ensures.made
    c.in_ok-block-in-Err.ensures.memory c.in-Err.ensures.answer
