use Rattle.std.proofs.Common.{◌≡◌, ◌++◌, drop}
use Rattle.shared_text.specs.BlockText.{parameters_by, shared_text}
use Rattle.shared_text.specs.CodeMeanings.{shared_of, trees}
use Rattle.shared_text.proofs.line_writer.write_parameters.Given as goal

abbrev pub invariant-loop-ty : goal.invariant-loop-ty
invariant-loop-ty l =
    let text = shared_text l.texts.sig.now (shared_of l.texts) in
    let p = l.texts.pool.now in
    l.out.items ++ parameters_by text (trees p (drop l.ty-index l.params)) ≡ l.fn.out.items ++ parameters_by text (trees p l.params)
