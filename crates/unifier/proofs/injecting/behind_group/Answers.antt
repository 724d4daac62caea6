use Rattle.std.proofs.Common.{drop, ap, ◌∙◌}
use Rattle.problems.specs.Meanings.{equation_of, equations_of}
use Rattle.problems.proofs.LowTerms.{map-drop, slice-from}
use Rattle.unifier.proofs.injecting.behind_group.Goals as goal

pub returns : goal.returns
returns c =
    ap equations_of (slice-from c.args.group c.as_slice.result.now)
    ∙ (map-drop equation_of c.args.group c.as_slice.result.now ∙ ap (λ xs. drop c.args.group (equations_of xs)) c.as_slice.ensures)
