use Rattle.std.proofs.Common.{◌≤◌, arith}
use Rattle.theory.specs.Terms.{height}
use Rattle.core_terms.specs.Answers.{IsUnforeseen}
use Rattle.core_terms.specs.Meanings.{tree_of}
use Rattle.core_terms.proofs.Answers.{stands-has}
use Rattle.with_abstraction.proofs.Widths.{height-without}
use Rattle.with_abstraction.proofs.occurrences.without.Goals as goal

pub returns-clause-low : goal.returns-clause-low
returns-clause-low c =
    let less = height-without (tree_of c.args.t.now) 0 (tree_of c.args.u.now) in
    let low : height (tree_of c.args.u.now) ≤ 2000 = c.requires.over.low in
    stands-has IsUnforeseen (λ e. e) tree_of (λ v. height v ≤ 2000) c.without_under.result _ c.without_under.ensures (omega arith)
