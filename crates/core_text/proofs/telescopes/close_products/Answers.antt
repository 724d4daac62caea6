use Rattle.std.proofs.Common.{append_assoc}
use Rattle.std.specs.Prelude.{codes}
use Rattle.core_text.specs.ProductParts.{closed}
use Rattle.core_text.proofs.ProductTexts.{closed_more}
use Rattle.core_text.proofs.telescopes.close_products.Goals as goal

pub loop-preserved : goal.loop-preserved
loop-preserved c = rw (c.in_ok-write.ensures.ok, c.loop.invariant, closed_more c.loop.counter) (append_assoc c.args.out.now.items (closed c.loop.counter) (codes ")"))
