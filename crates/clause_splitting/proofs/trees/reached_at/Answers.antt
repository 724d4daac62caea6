use Rattle.std.proofs.Common.{◌==◌, length, sym, ap, ◌∙◌}
use Rattle.std.proofs.lemmas.Result.{err_from_is_err_and}
use Rattle.clause_splitting.proofs.TreeCodes.{open-given, reached-none, reached-one}
use Rattle.clause_splitting.proofs.trees.reached_at.Goals as goal

pub first_found-requires-clause-pairs : goal.first_found-requires-clause-pairs
first_found-requires-clause-pairs c =
    open-given c.args.sig.now c.args.node.now c.as_slice.result.now c.c-item.result c.as_slice-2.result.now c.in_ok-open.open c.as_slice-4.result.now
    c.as_slice-ctx.result.now c.args.kernel.now.left c.args.kernel.now.left c.as_slice.ensures c.in-len1-up.len_at_least c.c-item.is c.as_slice-2.ensures
    c.in_ok-open.ensures c.as_slice-4.ensures c.as_slice-ctx.ensures
    (sym c.if-is_empty.false ∙ (c.is_empty.ensures ∙ ap (λ xs. length xs == 0) (c.as_slice-3.ensures ∙ sym c.as_slice-4.ensures))) c.requires.node

pub returns-in_err-reached-clause-answer : goal.returns-in_err-reached-clause-answer
returns-in_err-reached-clause-answer c =
    let q = err_from_is_err_and c.from_residual-in_err-reached.result c.from_residual-in_err-reached.ensures.1 in
    rw (q.1, q.2)
    (reached-none c.args.sig.now c.args.node.now c.as_slice.result.now c.c-item.result c.as_slice-2.result.now c.in_ok-open.open c.as_slice-4.result.now
    c.as_slice-ctx.result.now c.args.kernel.now.left c.first_found.new.kernel.left c.as_slice.ensures c.in-len1-up.len_at_least c.c-item.is c.as_slice-2.ensures
    c.in_ok-open.ensures c.as_slice-4.ensures c.as_slice-ctx.ensures
    (sym c.if-is_empty.false ∙ (c.is_empty.ensures ∙ ap (λ xs. length xs == 0) (c.as_slice-3.ensures ∙ sym c.as_slice-4.ensures))) _ c.in_err-reached.ensures.answer)

pub returns-clause-answer : goal.returns-clause-answer
returns-clause-answer c =
    reached-one c.args.sig.now c.args.node.now c.as_slice.result.now c.c-item.result c.as_slice-2.result.now c.in_ok-open.open c.as_slice-4.result.now
    c.as_slice-ctx.result.now c.args.kernel.now.left c.first_found.new.kernel.left c.as_slice.ensures c.in-len1-up.len_at_least c.c-item.is c.as_slice-2.ensures
    c.in_ok-open.ensures c.as_slice-4.ensures c.as_slice-ctx.ensures
    (sym c.if-is_empty.false ∙ (c.is_empty.ensures ∙ ap (λ xs. length xs == 0) (c.as_slice-3.ensures ∙ sym c.as_slice-4.ensures))) c.in_ok-reached.reached c.in_ok-reached.ensures.answer
