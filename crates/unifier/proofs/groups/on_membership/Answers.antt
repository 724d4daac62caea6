use Rattle.std.proofs.Common.{length, option_map, refl, subst}
use Rattle.core_terms.specs.Answers.{Runs}
use Rattle.core_terms.specs.Meanings.{tree_of}
use Rattle.unifier.specs.CodeGroups.{membership_from}
use Rattle.problems.specs.Meanings.{equation_of, state_of, turn_of}
use Rattle.problems.proofs.GivenTerms.{given-more, code-equation}
use Rattle.unifier.proofs.GroupCodes.{equations-hold, wanted-family, wanted-parameters}
use Rattle.unifier.proofs.groups.on_membership.Goals as goal

pub heads-requires-clause-left : goal.heads-requires-clause-left
heads-requires-clause-left c =
    given-more c.args.sig.now (length c.args.s.now.ctx) (tree_of c.args.e.now.left) (code-equation c.args.sig.now c.args.s.now c.args.k c.args.e.now c.requires.state c.requires.last).left

pub heads-requires-clause-right : goal.heads-requires-clause-right
heads-requires-clause-right c =
    given-more c.args.sig.now (length c.args.s.now.ctx) (tree_of c.args.e.now.right) (code-equation c.args.sig.now c.args.s.now c.args.k c.args.e.now c.requires.state c.requires.last).right

pub group_turn-requires-clause-left : goal.group_turn-requires-clause-left
group_turn-requires-clause-left c =
    let e = code-equation c.args.sig.now c.args.s.now c.args.k c.args.e.now c.requires.state c.requires.last in
    (rw c.in-Some.is at (c.in_ok-left.ensures.given (length c.args.s.now.ctx) e.left e.right)).0

pub group_turn-requires-clause-right : goal.group_turn-requires-clause-right
group_turn-requires-clause-right c =
    let e = code-equation c.args.sig.now c.args.s.now c.args.k c.args.e.now c.requires.state c.requires.last in
    (rw c.in-Some.is at (c.in_ok-left.ensures.given (length c.args.s.now.ctx) e.left e.right)).1

pub group_turn-requires-clause-parameters : goal.group_turn-requires-clause-parameters
group_turn-requires-clause-parameters c = λ p e.
    wanted-parameters c.args.sig.now (length c.args.s.now.ctx) c.args.k c.args.m (tree_of c.in-Some.left) p c.requires.group e ((rw c.in-Some.is at c.in_ok-left.ensures.wanted) p e)

pub returns-clause-answer : goal.returns-clause-answer
returns-clause-answer c =
    let S = c.args.sig.now in
    let l = tree_of c.in-Some.left in
    let r = tree_of c.in-Some.right in
    subst (Runs (option_map turn_of) c.group_turn.result c.group_turn.new.kernel.left)
    (equations-hold S (state_of c.args.s.now) c.args.k (equation_of c.args.e.now) (tree_of c.args.ty) c.args.m c.args.kernel.now.left l r c.heads.new.kernel.left
    (rw c.in-Some.is at c.in_ok-left.ensures.answer) (rw c.in-Some.is at c.in_ok-left.ensures.family) c.are_equations_of.new.kernel.left
    (rw (c.if-not-branch.false, c.in_ok-left.ensures.kernel) at c.in_ok-are_equations_of.ensures.answer))
    (c.group_turn.ensures.answer (membership_from c.args.m) refl (λ p e.
    wanted-family S (length c.args.s.now.ctx) c.args.k c.args.m l p c.requires.group e ((rw c.in-Some.is at c.in_ok-left.ensures.wanted) p e)))
