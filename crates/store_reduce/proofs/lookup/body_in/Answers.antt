use Rattle.std.proofs.Common.{cond, None, Some, sym, ap, ◌∙◌}
use Rattle.store_reduce.proofs.Standing.{body-some, body-none}
use Rattle.store_reduce.proofs.lookup.body_in.Goals as goal

pub returns-then-is_constant_in-clause-body : goal.returns-then-is_constant_in-clause-body
returns-then-is_constant_in-clause-body g c =
    let held = g.S.TermStore.held c.args.store.now in
    sym
    (body-some held c.args.sig.now c.args.ids.now c.args.n c.in-Some.body c.requires (sym c.in-Some.ensures)
    ∙ ap (λ b. cond b None (Some (held.tree c.in-Some.body))) (sym c.if-is_constant_in.ensures))

pub returns-else-is_constant_in-clause-body : goal.returns-else-is_constant_in-clause-body
returns-else-is_constant_in-clause-body g c =
    let held = g.S.TermStore.held c.args.store.now in
    sym
    (body-some held c.args.sig.now c.args.ids.now c.args.n c.in-Some.body c.requires (sym c.in-Some.ensures)
    ∙ ap (λ b. cond b None (Some (held.tree c.in-Some.body))) (sym c.if-is_constant_in.ensures))

pub returns-in-None-clause-body : goal.returns-in-None-clause-body
returns-in-None-clause-body g c =
    sym (body-none (g.S.TermStore.held c.args.store.now) c.args.sig.now c.args.ids.now c.args.n c.requires (sym c.in-None.ensures))
