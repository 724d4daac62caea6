use Rattle.std.proofs.Common.{◌≡◌, ◌++◌, drop}
use Rattle.shared_text.specs.BlockText.{share_lines}
use Rattle.shared_text.specs.CodeMeanings.{shared_of, trees}
use Rattle.shared_text.proofs.block_writer.write_shares.Given as goal

abbrev pub invariant-loop-id : goal.invariant-loop-id
invariant-loop-id l =
    let S = l.texts.sig.now in
    l.out.items ++ share_lines S (shared_of l.texts) (trees l.texts.pool.now (drop l.id-index l.texts.shared.now))
    ≡ l.fn.out.items ++ share_lines S (shared_of l.texts) (shared_of l.texts)
