use Rattle.std.proofs.Common.{◌≤◌, sym, subst as transport, arith}
use Rattle.theory.specs.Terms.{height}
use Rattle.kernel_check.proofs.Filling.{filled-none}
use Rattle.kernel_check.proofs.filled.closed_type.Goals as goal

pub returns-then-is_empty-clause-makes : goal.returns-then-is_empty-clause-makes
returns-then-is_empty-clause-makes g c =
    let held = g.S.TermStore.held c.args.store.now in
    let none = filled-none held c.args.filled.now.args.items (held.tree c.args.ty) (c.is_empty.ensures c.if-is_empty.true) in
    (c.requires.live, sym none, transport (λ t. height t ≤ 2000) (sym none) (omega (arith, c.height-low.ensures.height, c.height-low.ensures.low)))
