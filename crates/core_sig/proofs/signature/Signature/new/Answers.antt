use Rattle.std.proofs.Common.{length, ap, arith}
use Rattle.core_sig.proofs.StoredEntries.{nothing}
use Rattle.core_sig.proofs.signature.Signature.new.Goals as goal

pub invariant_of-result : goal.invariant_of-result
invariant_of-result c =
    record {
      names = rw c.new.ensures.items c.new-2.ensures;
      kinds = λ n e at. absurd (nothing n e (rw c.new.ensures.items at at));
      stored = rw c.new.ensures.items c.new-3.ensures;
      count = omega (arith, ap length c.new.ensures.items);
    }
