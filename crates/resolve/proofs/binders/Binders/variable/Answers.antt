use Rattle.std.proofs.Common.{sym, ◌∙◌}
use Rattle.resolve.proofs.Nearest.{nearest-found, nearest-within}
use Rattle.resolve.proofs.binders.Binders.variable.Goals as goal

pub overflow_sub-result : goal.overflow_sub-result
overflow_sub-result c =
    let names = c.self.inside.names.items in
    rw (c.len.ensures, c.self.inside.names.ok.0) (nearest-within c.args.name.now names c.in-Some.at (sym c.in-Some.is ∙ (c.copied.ensures ∙ (c.get.ensures.value ∙ c.self.invariant c.args.name.now)))).0

pub overflow_sub-result-in-Some : goal.overflow_sub-result-in-Some
overflow_sub-result-in-Some c =
    let names = c.self.inside.names.items in
    rw (c.len.ensures, c.self.inside.names.ok.0) (nearest-within c.args.name.now names c.in-Some.at (sym c.in-Some.is ∙ (c.copied.ensures ∙ (c.get.ensures.value ∙ c.self.invariant c.args.name.now)))).1

pub returns-in-Some : goal.returns-in-Some
returns-in-Some c =
    let names = c.self.inside.names.items in
    rw (← c.self.view_is, c.len.ensures, c.self.inside.names.ok.0)
    (sym (nearest-found c.args.name.now names _ (sym c.in-Some.is ∙ (c.copied.ensures ∙ (c.get.ensures.value ∙ c.self.invariant c.args.name.now)))))
