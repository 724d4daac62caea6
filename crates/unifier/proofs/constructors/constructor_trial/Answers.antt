use Rattle.std.proofs.Common.{length}
use Rattle.core_terms.specs.Meanings.{tree_of}
use Rattle.problems.proofs.GivenTerms.{given-more, code-equation}
use Rattle.unifier.proofs.constructors.constructor_trial.Goals as goal

pub heads-requires-clause-left : goal.heads-requires-clause-left
heads-requires-clause-left c =
    given-more c.args.sig.now (length c.args.s.now.ctx) (tree_of c.args.e.now.left) (code-equation c.args.sig.now c.args.s.now 0 c.args.e.now c.requires.state c.requires.first).left

pub heads-requires-clause-right : goal.heads-requires-clause-right
heads-requires-clause-right c =
    given-more c.args.sig.now (length c.args.s.now.ctx) (tree_of c.args.e.now.right) (code-equation c.args.sig.now c.args.s.now 0 c.args.e.now c.requires.state c.requires.first).right

pub constructor_turn-requires-clause-left : goal.constructor_turn-requires-clause-left
constructor_turn-requires-clause-left c =
    let e = code-equation c.args.sig.now c.args.s.now 0 c.args.e.now c.requires.state c.requires.first in
    (rw c.in-Some.is at (c.in_ok-left.ensures.given (length c.args.s.now.ctx) e.left e.right)).0

pub constructor_turn-requires-clause-right : goal.constructor_turn-requires-clause-right
constructor_turn-requires-clause-right c =
    let e = code-equation c.args.sig.now c.args.s.now 0 c.args.e.now c.requires.state c.requires.first in
    (rw c.in-Some.is at (c.in_ok-left.ensures.given (length c.args.s.now.ctx) e.left e.right)).1
