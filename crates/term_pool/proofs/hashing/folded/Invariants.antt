use Rattle.std.proofs.Common.{◌≡◌, take, fold}
use Rattle.term_pool.specs.Hashing.{byte_step}
use Rattle.term_pool.proofs.hashing.folded.Given as goal

abbrev pub invariant-loop-b : goal.invariant-loop-b
invariant-loop-b l = l.word ≡ fold byte_step 0 (take l.b-index l.bytes)
