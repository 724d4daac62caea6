use Rattle.std.proofs.Common.{Some, None, map, refl, ap, ap₂, ◌∙◌, sym, subst, arith}
use Rattle.std.proofs.lemmas.List.{length-map}
use Rattle.std.proofs.lemmas.Result.{err_from_is_err_and}
use Rattle.core_terms.specs.Meanings.{tree_of, tele_of}
use Rattle.core_terms.specs.TreeMeanings.{branch_of, branches_of, case_tree_of, steps_of}
use Rattle.case_trees.proofs.pattern_vectors.CommonColumns.{rest-of}
use Rattle.problems.specs.Meanings.{outcome_of}
use Rattle.clause_walks.specs.Forgetting.{forgetting_live, grows_on}
use Rattle.clause_walks.specs.LookMeanings.{ends_of, ran_of, reached_of}
use Rattle.clause_walks.specs.PointMeanings.{point_of}
use Rattle.clause_walks.specs.Stops.{Yields}
use Rattle.clause_splitting.specs.Following.{AreFollowed}
use Rattle.clause_splitting.specs.Growing.{branches_behind, branches_from, leaf_of}
use Rattle.clause_splitting.specs.NodeMeanings.{all_live_of, node_of}
use Rattle.clause_splitting.proofs.BranchCodes.{branch-made, run-followed, solved-deep, solved-goes, solved-refused, solved-stops}
use Rattle.clause_splitting.proofs.GrowingCodes.{branch-goes, branches-none, grow-goes, grow-refused, grow-stops, tells-yields}
use Rattle.clause_splitting.proofs.trees.+grow.Goals as goal

pub grow-returns-in_err-node-clause-answer : goal.grow-returns-in_err-node-clause-answer
grow-returns-in_err-node-clause-answer t c =
    let q = err_from_is_err_and c.from_residual.result c.from_residual.ensures.1 in
    rw (q.1, q.2)
    (grow-refused c.args.sig.now c.args.patterns (point_of c.args.node.point) (all_live_of c.args.node.live) c.args.kernel.now.left
    c.worked_node.new.kernel.left c.requires.node.covers _ c.in_err-node.ensures.answer)

pub grow-returns-in_err-reached-clause-answer : goal.grow-returns-in_err-reached-clause-answer
grow-returns-in_err-reached-clause-answer t c =
    let q = err_from_is_err_and c.from_residual-in_err-reached.result c.from_residual-in_err-reached.ensures.1 in
    rw (q.1, q.2)
    (grow-stops c.args.sig.now c.args.patterns (point_of c.args.node.point) (all_live_of c.args.node.live) c.args.kernel.now.left
    c.worked_node.new.kernel.left c.requires.node.covers (point_of c.in_ok-node.node.point) (all_live_of c.in_ok-node.node.live) c.reached_at.new.kernel.left
    c.in_ok-node.ensures.answer _ c.in_err-reached.ensures.answer)

pub grow-returns-in-Some-clause-answer : goal.grow-returns-in-Some-clause-answer
grow-returns-in-Some-clause-answer t c =
    subst (Yields case_tree_of c.split_at.result c.split_at.new.kernel.left)
    (grow-goes c.args.sig.now c.args.patterns (point_of c.args.node.point) (all_live_of c.args.node.live) c.args.kernel.now.left
    c.worked_node.new.kernel.left c.requires.node.covers (point_of c.in_ok-node.node.point) (all_live_of c.in_ok-node.node.live) c.reached_at.new.kernel.left
    c.in_ok-node.ensures.answer (Some (reached_of c.in-Some.reached)) (rw c.in-Some.is at c.in_ok-reached.ensures.answer))
    c.split_at.ensures.answer

pub grow-returns-in-None-clause-answer : goal.grow-returns-in-None-clause-answer
grow-returns-in-None-clause-answer t c =
    subst (Yields case_tree_of c.leaf_at.result c.reached_at.new.kernel.left)
    (grow-goes c.args.sig.now c.args.patterns (point_of c.args.node.point) (all_live_of c.args.node.live) c.args.kernel.now.left
    c.worked_node.new.kernel.left c.requires.node.covers (point_of c.in_ok-node.node.point) (all_live_of c.in_ok-node.node.live) c.reached_at.new.kernel.left
    c.in_ok-node.ensures.answer None (rw c.in-None.is at c.in_ok-reached.ensures.answer))
    (tells-yields case_tree_of c.leaf_at.result c.reached_at.new.kernel.left (leaf_of (point_of c.in_ok-node.node.point) (all_live_of c.in_ok-node.node.live))
    c.leaf_at.ensures)

pub grow_branch-returns-in_err-next-in-Solved-clause-answer : goal.grow_branch-returns-in_err-next-in-Solved-clause-answer
grow_branch-returns-in_err-next-in-Solved-clause-answer t c =
    let q = err_from_is_err_and c.from_residual-in_err-next-in-Solved.result c.from_residual-in_err-next-in-Solved.ensures.1 in
    let left = c.args.kernel.now.left in
    rw (q.1, q.2)
    (solved-refused c.args.sig.now c.args.patterns (point_of c.args.node.now.point) (all_live_of c.args.node.now.live) (ran_of c.args.run.now)
    (outcome_of c.args.run.now.outcome) (steps_of c.in-Solved.steps) (tele_of c.in-Solved.ctx) (tele_of c.in-Solved.subst)
    (tele_of c.as_slice-in-Solved.result.now) (tele_of c.as_slice-in-Solved-2.result.now) left left (ap outcome_of c.in-Solved.is)
    (ap tele_of c.as_slice-in-Solved.ensures) (ap tele_of c.as_slice-in-Solved-2.ensures) _ c.in_err-next-in-Solved.ensures.answer)

pub grow_branch-returns-then-patterns-eq0-clause-answer : goal.grow_branch-returns-then-patterns-eq0-clause-answer
grow_branch-returns-then-patterns-eq0-clause-answer t c =
    let left = c.args.kernel.now.left in
    λ other.
    solved-deep c.args.sig.now c.args.patterns (point_of c.args.node.now.point) (all_live_of c.args.node.now.live) (ran_of c.args.run.now)
    (outcome_of c.args.run.now.outcome) (steps_of c.in-Solved.steps) (tele_of c.in-Solved.ctx) (tele_of c.in-Solved.subst)
    (tele_of c.as_slice-in-Solved.result.now) (tele_of c.as_slice-in-Solved-2.result.now) left left (ap outcome_of c.in-Solved.is)
    (ap tele_of c.as_slice-in-Solved.ensures) (ap tele_of c.as_slice-in-Solved-2.ensures) (node_of c.in_ok-next-in-Solved.next)
    c.in_ok-next-in-Solved.ensures.answer c.if-patterns-eq0.true

pub grow_branch-returns-in_err-tree-in-Solved-clause-answer : goal.grow_branch-returns-in_err-tree-in-Solved-clause-answer
grow_branch-returns-in_err-tree-in-Solved-clause-answer t c =
    let q = err_from_is_err_and c.from_residual-in_err-tree-in-Solved.result c.from_residual-in_err-tree-in-Solved.ensures.1 in
    rw (q.1, q.2)
    (solved-stops c.args.sig.now c.args.patterns (point_of c.args.node.now.point) (all_live_of c.args.node.now.live) (ran_of c.args.run.now)
    (outcome_of c.args.run.now.outcome) (steps_of c.in-Solved.steps) (tele_of c.in-Solved.ctx) (tele_of c.in-Solved.subst)
    (tele_of c.as_slice-in-Solved.result.now) (tele_of c.as_slice-in-Solved-2.result.now) c.args.kernel.now.left c.grow.new.kernel.left
    (ap outcome_of c.in-Solved.is) (ap tele_of c.as_slice-in-Solved.ensures) (ap tele_of c.as_slice-in-Solved-2.ensures)
    (node_of c.in_ok-next-in-Solved.next) c.in_ok-next-in-Solved.ensures.answer (omega (arith, c.if-patterns-eq0.false)) _ refl _
    c.in_err-tree-in-Solved.ensures.answer)

pub grow_branch-branch_over-requires-clause-followed : goal.grow_branch-branch_over-requires-clause-followed
grow_branch-branch_over-requires-clause-followed t c = λ few.
    subst (λ steps. AreFollowed (steps_of steps) (tele_of c.args.run.now.ctx)) (sym c.as_slice-in-Solved-3.ensures)
    (run-followed c.args.sig.now _ (ran_of c.args.run.now) (steps_of c.in-Solved.steps) (tele_of c.in-Solved.ctx) (tele_of c.in-Solved.subst)
    c.requires.ready c.requires.run (ap outcome_of c.in-Solved.is) (omega (arith, few, length-map c.args.run.now.ctx tree_of)))

pub grow_branch-returns-in_ok-branch_over-in-Solved-clause-answer : goal.grow_branch-returns-in_ok-branch_over-in-Solved-clause-answer
grow_branch-returns-in_ok-branch_over-in-Solved-clause-answer t c =
    solved-goes c.args.sig.now c.args.patterns (point_of c.args.node.now.point) (all_live_of c.args.node.now.live) (ran_of c.args.run.now)
    (outcome_of c.args.run.now.outcome) (steps_of c.in-Solved.steps) (tele_of c.in-Solved.ctx) (tele_of c.in-Solved.subst)
    (tele_of c.as_slice-in-Solved.result.now) (tele_of c.as_slice-in-Solved-2.result.now) c.args.kernel.now.left c.grow.new.kernel.left
    (ap outcome_of c.in-Solved.is) (ap tele_of c.as_slice-in-Solved.ensures) (ap tele_of c.as_slice-in-Solved-2.ensures)
    (node_of c.in_ok-next-in-Solved.next) c.in_ok-next-in-Solved.ensures.answer (omega (arith, c.if-patterns-eq0.false)) _ refl
    (case_tree_of c.in_ok-tree-in-Solved.tree) (branch_of c.in_ok-branch_over-in-Solved.field-0)
    (branch-made (branch_of c.in_ok-branch_over-in-Solved.field-0) c.in-Solved.steps c.as_slice-in-Solved-3.result.now c.args.node.now.point c.args.run.now
    (case_tree_of c.in_ok-tree-in-Solved.tree) c.in_ok-branch_over-in-Solved.ensures c.as_slice-in-Solved-3.ensures)
    c.in_ok-tree-in-Solved.ensures.answer

pub grow_branches-returns-in-empty-clause-answer : goal.grow_branches-returns-in-empty-clause-answer
grow_branches-returns-in-empty-clause-answer t c =
    branches-none (forgetting_live (grows_on c.args.sig.now c.args.patterns)) (point_of c.args.node.now.point) (all_live_of c.args.node.now.live) c.args.made
    c.args.runs.now c.args.kernel.now.left c.in-empty.len_below

pub grow_branches-returns-in_ok-push-in-len1-up-clause-answer : goal.grow_branches-returns-in_ok-push-in-len1-up-clause-answer
grow_branches-returns-in_ok-push-in-len1-up-clause-answer t c =
    let go = forgetting_live (grows_on c.args.sig.now c.args.patterns) in
    let p = point_of c.args.node.now.point in
    let live = all_live_of c.args.node.now.live in
    subst (Yields branches_of c.grow_branches.result c.grow_branches.new.kernel.left)
    (ap₂ (λ made runs. branches_behind (map branch_of made) (branches_from go p live (ends_of runs) c.grow_branch.new.kernel.left))
    c.in_ok-push-in-len1-up.ensures.ok (rest-of c.args.runs.now)
    ∙ branch-goes go p live c.args.made c.args.runs.now c.run-item.result c.args.kernel.now.left c.grow_branch.new.kernel.left c.in-len1-up.len_at_least
    c.run-item.is c.in_ok-grow_branch-in-len1-up.field-0 c.in_ok-grow_branch-in-len1-up.ensures.answer)
    c.grow_branches.ensures.answer
