-- Head reduction with nothing around the term.
use Rattle.std.proofs.Common.{◌≡◌, ℕ, Bool, sym}
use Rattle.theory.specs.Terms.{Term}
use Rattle.theory.specs.Signatures.{Signature}
use Rattle.kernel_reduce.specs.Reduction.{whnf_of}
use Rattle.store_reduce.specs.Places.{whnf_at}
use Rattle.store_reduce.proofs.PlaceLaws.{at-whole}

pub whole_is : (S : Signature) (delta : Bool) (left : ℕ) (t : Term) → whnf_of S delta left t ≡ whnf_at S delta 0 left t
whole_is S delta left t = sym (at-whole S delta left t)
