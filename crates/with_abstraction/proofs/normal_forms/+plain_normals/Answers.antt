use Rattle.std.proofs.lemmas.Result.{err_from_is_err_and}
use Rattle.core_terms.specs.Meanings.{tree_of, tele_of}
use Rattle.with_abstraction.proofs.NormalRuns.{first-refused, others-refused, all-normal}
use Rattle.with_abstraction.proofs.normal_forms.+plain_normals.Goals as goal

pub returns-in_err-first-in-len1-up-clause-answer :
    goal.returns-in_err-first-in-len1-up-clause-answer
returns-in_err-first-in-len1-up-clause-answer t c =
    let q = err_from_is_err_and c.from_residual.result c.from_residual.ensures.1 in
    rw (q.1, q.2)
    (λ other. first-refused c.args.kernel.now.signature c.args.types.now c.ty-item.result c.args.kernel.now.left _ _ c.in-len1-up.len_at_least c.ty-item.is
    (c.in_err-first-in-len1-up.ensures.answer other))

pub returns-in_err-normals-in-len1-up-clause-answer :
    goal.returns-in_err-normals-in-len1-up-clause-answer
returns-in_err-normals-in-len1-up-clause-answer t c =
    let q = err_from_is_err_and c.from_residual-in_err-normals-in-len1-up.result c.from_residual-in_err-normals-in-len1-up.ensures.1 in
    rw (q.1, q.2)
    (λ other. others-refused c.args.kernel.now.signature c.args.types.now c.ty-item.result (tree_of c.in_ok-first-in-len1-up.first) c.args.kernel.now.left
    c.normal.new.self.left _ _ c.in-len1-up.len_at_least c.ty-item.is c.in_ok-first-in-len1-up.ensures.answer
    (rw c.in_ok-first-in-len1-up.ensures.same at (c.in_err-normals-in-len1-up.ensures.answer other)))

pub returns-in_ok-insert-in-len1-up-clause-answer :
    goal.returns-in_ok-insert-in-len1-up-clause-answer
returns-in_ok-insert-in-len1-up-clause-answer t c =
    rw c.in_ok-insert-in-len1-up.ensures.items
    (all-normal c.args.kernel.now.signature c.args.types.now c.ty-item.result (tree_of c.in_ok-first-in-len1-up.first)
    (tele_of c.in_ok-normals-in-len1-up.normals.items) c.args.kernel.now.left c.normal.new.self.left c.plain_normals.new.kernel.left
    c.in-len1-up.len_at_least c.ty-item.is c.in_ok-first-in-len1-up.ensures.answer
    (rw c.in_ok-first-in-len1-up.ensures.same at c.in_ok-normals-in-len1-up.ensures.answer))
