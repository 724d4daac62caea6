use Rattle.std.proofs.Common.{rules}
use Rattle.core_terms.specs.declared.pattern.Pat.TheFolds.{the_lemmas}
use Rattle.tree_cases.proofs.Arguments.{whole}
use Rattle.tree_cases.proofs.patterns.+whole.Goals as goal

pub is_whole-returns-then-has_arguments : goal.is_whole-returns-then-has_arguments
is_whole-returns-then-has_arguments t c =
    let step = whole c.args.sig.now c.in-Con.n c.in-Con.number c.as_slice-pats.result.now in
    search (rules, the_lemmas, step)
