use Rattle.std.proofs.Common.{sym, ap, ◌∙◌}
use Rattle.theory.specs.Terms as tree
use Rattle.core_terms.specs.Meanings.{tele_of}
use Rattle.tree_translation.specs.Recursion.{terms_at}
use Rattle.leaf_terms.proofs.Taking.{terms_at-set}
use Rattle.leaf_terms.proofs.applying.taken_or_copied.Goals as goal

pub returns-then-not-is_among-clause-at_later : goal.returns-then-not-is_among-clause-at_later
returns-then-not-is_among-clause-at_later c =
    ap (terms_at c.args.later.now) c.taken_at.ensures.left
    ∙ terms_at-set c.args.later.now (tele_of c.args.terms.now.items) c.args.position (tree.Sort 0) (sym c.is_among.ensures ∙ c.if-not-is_among.true)
