use Rattle.std.proofs.Common.{Some, bytes_eq, cond, ap, ◌∙◌}
use Rattle.resolve.specs.Nearest.{last_of}
use Rattle.resolve.proofs.Nearest.{last-insert-swap}
use Rattle.resolve.proofs.binders.add_named.Goals as goal

pub returns-clause-last : goal.returns-clause-last
returns-clause-last c = λ other.
    let old = c.args.last.now.entries in
    ap (last_of other) c.in_ok-insert.ensures.entries
    ∙ (last-insert-swap other old c.in_ok-key.key c.len-place.result c.args.name.now (c.in_ok-key.ensures.items ∙ c.as_slice.ensures)
    ∙ ap (λ n. cond (bytes_eq c.args.name.now other) (Some n) (last_of other old)) (c.len-place.ensures ∙ c.args.names.now.ok.0))
