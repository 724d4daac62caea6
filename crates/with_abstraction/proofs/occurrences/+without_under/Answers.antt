use Rattle.std.proofs.Common.{Ok, ap, sym, ◌∙◌}
use Rattle.core_terms.specs.Meanings.{tree_of}
use Rattle.with_abstraction.proofs.Widths.{occurrence-out}
use Rattle.with_abstraction.proofs.occurrences.+without_under.Goals as goal

pub returns-then-is_occurrence : goal.returns-then-is_occurrence
returns-then-is_occurrence t c =
    ap Ok (sym (occurrence-out (tree_of c.args.t.now) c.args.under (tree_of c.args.u.now) (sym c.is_occurrence.ensures ∙ c.if-is_occurrence.true)))
