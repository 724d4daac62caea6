use Rattle.std.proofs.Common.{rules, ◌≡◌, map, option_map, Ok, Err, ap, ap₂, ◌∙◌, subst as transport, arith}
use Rattle.std.proofs.lemmas.Result.{err_from_is_err_and}
use Rattle.core_terms.specs.CaseTrees as pure
use Rattle.core_terms.specs.Meanings.{tree_of, tele_of}
use Rattle.core_terms.specs.TreeMeanings.{branch_of, branches_of, case_tree_of, steps_of}
use Rattle.core_terms.specs.declared.case_tree.Branch.TheFolds.{the_lemmas}
use Rattle.core_terms.proofs.Builders.{ok_is}
use Rattle.clause_reports.specs.ProofWalks.{Proofs, at_origin}
use Rattle.clause_reports.specs.Stops.{Reporting}
use Rattle.clause_walks.specs.LookMeanings.{ends_of, runs_of}
use Rattle.problems.specs.MemberMeanings.{member_meant}
use Rattle.problems.proofs.LowTerms.{first-item}
use Rattle.drafts.specs.draft_entering.Stops.{Reports, stop_of}
use Rattle.proof_walks.specs.proof_terms.ProofMeanings.{place_of, proof_of, proofs_of}
use Rattle.proof_walks.specs.NodeWalks.{again, walk_node}
use Rattle.proof_walks.specs.SolvedRuns.{onto, outcomes_in, solved_outcomes}
use Rattle.proof_walks.specs.Sizes.{size_of, size_of_branch}
use Rattle.proof_walks.specs.WalkMeanings.{node_of, variable_of}
use Rattle.proof_walks.proofs.BranchCodes.{branch-entered, first-goes, none-run, other-found, proofs-made, proofs-refused, pushed-kept, tree-split}
use Rattle.proof_walks.proofs.KeptPlaces.{branch-kept}
use Rattle.proof_walks.proofs.walking.+walk.Goals as goal

pub at_other-returns-in-Some-clause-answer : goal.at_other-returns-in-Some-clause-answer
at_other-returns-in-Some-clause-answer t c =
    transport (Reports proof_of c.split_variable.result c.split_variable.new.kernel.left)
    (other-found c.args.sig.now (node_of c.args.node) (tree_of c.args.t) (place_of c.args.p.value) c.args.kernel.now.left c.variable_met.new.kernel.left
    (tele_of c.as_slice-ctx.result.now) (option_map variable_of c.in_ok-v.field-0) (variable_of c.in-Some.v) (ap tele_of c.as_slice-ctx.ensures ∙ ap (λ p. tele_of p.ctx) c.deref.ensures)
    (ap (option_map variable_of) c.in-Some.is) c.in_ok-v.ensures.answer)
    c.split_variable.ensures.answer

pub enter_branch-walk_tree-requires : goal.enter_branch-walk_tree-requires
enter_branch-walk_tree-requires t c =
    let solved = c.in-Solved in
    let meant : branch_of c.args.branch.now ≡ pure.Solved (steps_of solved.steps) solved.origin (case_tree_of solved.tree.value) =
    search (rules, the_lemmas, solved.is) in
    let whole = ap size_of_branch meant in
    let under = ap (λ t. size_of (case_tree_of t)) c.deref-in-Solved.ensures in (
      omega (arith, c.decreases, whole, under),
      (
        c.requires.kernel,
        (
          c.requires.ready,
          branch-kept c.args.sig.now c.args.p.value c.with_values.result.value c.args.arguments.now c.as_slice-values.result.now c.in_ok-next-in-Solved.next
              c.as_slice-in-Solved.result.now c.requires.place c.requires.arguments (c.as_slice-values.ensures ∙ ap (λ p. p.values) c.deref.ensures) c.in_ok-next-in-Solved.ensures
              c.with_values.ensures,
        ),
      ),
    )

pub enter_branch-returns-in_ok-next-in-Solved-clause-answer : goal.enter_branch-returns-in_ok-next-in-Solved-clause-answer
enter_branch-returns-in_ok-next-in-Solved-clause-answer t c =
    let solved = c.in-Solved in
    let meant : branch_of c.args.branch.now ≡ pure.Solved (steps_of solved.steps) solved.origin (case_tree_of solved.tree.value) =
    search (rules, the_lemmas, solved.is) in
    let next = ok_is c.in_ok-next-in-Solved.ensures
    ∙ ap₂ (λ vs os. map (at_origin (tele_of vs) (tele_of c.args.arguments.now)) os) (c.as_slice-values.ensures ∙ ap (λ p. p.values) c.deref.ensures) c.as_slice-in-Solved.ensures in
    transport (Reports proof_of c.walk_tree.result c.walk_tree.new.kernel.left)
    (branch-entered c.args.sig.now (branch_of c.args.branch.now) (steps_of c.in-Solved.steps) c.in-Solved.origin (case_tree_of c.in-Solved.tree.value)
    (case_tree_of c.deref-in-Solved.result.now) (tele_of c.args.arguments.now) (place_of c.args.p.value) (place_of c.with_values.result.value) c.args.kernel.now.left
    meant (ap case_tree_of c.deref-in-Solved.ensures)
    (c.with_values.ensures ∙ ap (λ vs. record (place_of c.args.p.value) { values = vs }) next))
    c.walk_tree.ensures.answer

pub solved_branches-returns-in-empty-clause-answer : goal.solved_branches-returns-in-empty-clause-answer
solved_branches-returns-in-empty-clause-answer t c =
    none-run (walk_node c.args.sig.now (again (node_of c.args.node))) (place_of c.args.p.now) c.args.made c.args.runs.now c.args.kernel.now.left
    c.in-empty.len_below

pub solved_branches-returns-in_ok-made-in-len1-up-clause-answer : goal.solved_branches-returns-in_ok-made-in-len1-up-clause-answer
solved_branches-returns-in_ok-made-in-len1-up-clause-answer t c =
    transport (Reports proofs_of c.solved_branches.result c.solved_branches.new.kernel.left)
    (first-goes (walk_node c.args.sig.now (again (node_of c.args.node))) (place_of c.args.p.now) c.args.made c.args.runs.now c.args.kernel.now.left
    c.run-item.result _ (first-item c.args.runs.now c.run-item.result c.in-len1-up.len_at_least c.run-item.is) c.with_solved.new.kernel.left
    c.in_ok-made-in-len1-up.made c.in_ok-made-in-len1-up.ensures.answer)
    c.solved_branches.ensures.answer

pub split_variable-returns-in_err-proofs-in-Found-clause-answer : goal.split_variable-returns-in_err-proofs-in-Found-clause-answer
split_variable-returns-in_err-proofs-in-Found-clause-answer t c =
    let q = err_from_is_err_and c.from_residual-in_err-proofs-in-Found.result c.from_residual-in_err-proofs-in-Found.ensures.1 in
    rw (q.1, q.2)
    (λ other.
    proofs-refused c.args.sig.now (walk_node c.args.sig.now (again (node_of c.args.node))) c.args.v.number (tree_of c.args.v.ty) (member_meant c.args.v.member)
    (place_of c.args.p.value) c.args.kernel.now.left c.all_runs.new.kernel.left (tele_of c.as_slice.result.now) (ap tele_of c.as_slice.ensures ∙ ap (λ p. tele_of p.ctx) c.deref-place.ensures)
    (runs_of c.in_ok-runs.field-0) c.in-Found.runs c.as_slice-in-Found.result.now (ap runs_of c.in-Found.is) c.as_slice-in-Found.ensures
    c.in_ok-runs.ensures.answer c.new-none.result c.new-none.ensures c.solved_branches.new.kernel.left _
    (transport (λ q. ◌≡◌ {A = Reporting Proofs} (Err (stop_of c.in_err-proofs-in-Found.field-0.0), c.solved_branches.new.kernel.left)
    (onto (map proof_of c.new-none.result) (solved_outcomes (walk_node c.args.sig.now (again (node_of c.args.node))) (place_of q) (outcomes_in (ends_of c.as_slice-in-Found.result.now)) c.all_runs.new.kernel.left)))
    c.deref-place.ensures (c.in_err-proofs-in-Found.ensures.answer other)))

pub split_variable-returns-in_ok-split_with-in-Found-clause-answer : goal.split_variable-returns-in_ok-split_with-in-Found-clause-answer
split_variable-returns-in_ok-split_with-in-Found-clause-answer t c =
    proofs-made c.args.sig.now (walk_node c.args.sig.now (again (node_of c.args.node))) c.args.v.number (tree_of c.args.v.ty) (member_meant c.args.v.member)
    (place_of c.args.p.value) c.args.kernel.now.left c.all_runs.new.kernel.left (tele_of c.as_slice.result.now) (ap tele_of c.as_slice.ensures ∙ ap (λ p. tele_of p.ctx) c.deref-place.ensures)
    (runs_of c.in_ok-runs.field-0) c.in-Found.runs c.as_slice-in-Found.result.now (ap runs_of c.in-Found.is) c.as_slice-in-Found.ensures
    c.in_ok-runs.ensures.answer c.new-none.result c.new-none.ensures c.solved_branches.new.kernel.left
    (proof_of c.in_ok-split_with-in-Found.field-0) (proofs_of c.in_ok-proofs-in-Found.proofs) c.in_ok-split_with-in-Found.ensures
    (transport (λ q. ◌≡◌ {A = Reporting Proofs} (Ok (proofs_of c.in_ok-proofs-in-Found.proofs), c.solved_branches.new.kernel.left)
    (onto (map proof_of c.new-none.result) (solved_outcomes (walk_node c.args.sig.now (again (node_of c.args.node))) (place_of q) (outcomes_in (ends_of c.as_slice-in-Found.result.now)) c.all_runs.new.kernel.left)))
    c.deref-place.ensures c.in_ok-proofs-in-Found.ensures.answer)

pub walk_tree-returns-in-Split-clause-answer : goal.walk_tree-returns-in-Split-clause-answer
walk_tree-returns-in-Split-clause-answer t c =
    let split = c.in-Split in
    let meant : case_tree_of c.args.tree.now
    ≡ pure.Split (tele_of split.ctx) split.var split.family (tree_of split.ty) (branches_of split.branches) =
    search (rules, the_lemmas, split.is) in
    transport (Reports proof_of c.walk_node.result c.walk_node.new.kernel.left)
    (tree-split c.args.sig.now (case_tree_of c.args.tree.now) (tele_of c.in-Split.ctx) c.in-Split.var c.in-Split.family (tree_of c.in-Split.ty)
    (branches_of c.in-Split.branches) (branches_of c.as_slice.result.now) (place_of c.args.p.value) c.args.kernel.now.left
    meant (ap branches_of c.as_slice.ensures))
    c.walk_node.ensures.answer

pub with_solved-returns-in_ok-push-in-Solved-clause-kept : goal.with_solved-returns-in_ok-push-in-Solved-clause-kept
with_solved-returns-in_ok-push-in-Solved-clause-kept t c =
    pushed-kept c.args.sig.now c.args.made _ c.in_ok-walk_node-in-Solved.field-0 c.in_ok-push-in-Solved.ensures.ok c.requires.made
    c.in_ok-walk_node-in-Solved.ensures.kept
