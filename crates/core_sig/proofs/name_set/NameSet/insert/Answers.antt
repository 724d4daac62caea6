use Rattle.std.proofs.Common.{Ok, bytes_eq, not, map, ap, ◌∙◌}
use Rattle.std.specs.List.{list_any}
use Rattle.core_sig.proofs.NamesShown.{any_shown}
use Rattle.core_sig.proofs.name_set.NameSet.insert.Goals as goal

pub returns-clause-added : goal.returns-clause-added
returns-clause-added c =
    let keys = c.self.inside.names.keys in
    rw (← c.self.view_is)
    (ap (λ b. Ok b) (c.in_ok-insert.ensures.added
    ∙ (ap not (any_shown c.in_ok-key.key.items keys)
    ∙ ap (λ n. not (list_any (bytes_eq n) (map (λ key. key.items) keys))) (c.in_ok-key.ensures.items ∙ c.as_slice.ensures))))
