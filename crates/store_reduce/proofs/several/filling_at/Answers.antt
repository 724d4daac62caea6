use Rattle.std.proofs.Common.{arith}
use Rattle.store_reduce.proofs.ManySteps.{filling-taken}
use Rattle.store_reduce.proofs.several.filling_at.Goals as goal

pub returns : goal.returns
returns g c =
    let held = g.S.TermStore.held c.args.store.now in
    filling-taken c.args.sig.now c.args.delta c.args.depth c.highest_in-highest.result held (held.tree c.args.t) (held.tree c.head_in-head.result.0) c.head_in-head.result.1
    c.in_ok-filling.filling c.in_ok-filling.ensures c.head_in-head.ensures.head c.head_in-head.ensures.count (omega (arith, c.if-filling-lt2.false)) c.highest_in-highest.ensures.each
    (omega (arith, c.if-depth-count-gt-MAX_HEIGHT.false, c.height-height.ensures.height)) c.requires.low c.args.left (omega (arith, c.if-left-filling.false))
