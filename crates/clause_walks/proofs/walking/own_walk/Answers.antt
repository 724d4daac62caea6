use Rattle.std.proofs.Common.{ℕ, sym, subst as transport}
use Rattle.core_terms.specs.Meanings.{tree_of, tele_of}
use Rattle.core_terms.specs.PatternMeanings.{clause_of}
use Rattle.core_terms.specs.TreeMeanings.{walk_of}
use Rattle.kernel_check.specs.Kernels.{Kernel}
use Rattle.case_trees.specs.OwnWalks.{own_walk_of}
use Rattle.clause_walks.specs.Stops.{Yields}
use Rattle.clause_walks.proofs.walking.own_walk.Goals as goal

pub returns-clause-answer : goal.returns-clause-answer
returns-clause-answer c =
    let P : ℕ → Kernel → Type 0 = λ left k. Yields walk_of c.own_walk_with-made.result left
    (own_walk_of c.args.sig.now (tele_of c.args.ctx.now) (tree_of c.args.goal.now) (tele_of c.args.terms.now) (clause_of c.args.clause.now) c.args.number k.left) in
    transport (P c.into_units.result.left) c.new-kernel.ensures
    (transport (λ left. P left c.new-kernel.result) (sym c.into_units.ensures.left) c.own_walk_with-made.ensures.answer)
